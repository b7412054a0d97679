use Rattle.line_loop.proofs.TextLemmas.{lines_of-lines}
use Rattle.line_loop.proofs.laws.lines_are_those_of_a_text.Goals as goal

pub returns : goal.returns
returns c = lines_of-lines
