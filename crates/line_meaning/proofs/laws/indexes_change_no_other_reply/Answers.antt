use Rattle.line_meaning.proofs.IndexLemmas.{lines_are_alike, replies_are_alike}
use Rattle.line_meaning.proofs.laws.indexes_change_no_other_reply.Goals as goal

pub returns-clause-replies : goal.returns-clause-replies
returns-clause-replies c = replies_are_alike

pub returns-clause-states : goal.returns-clause-states
returns-clause-states c = lines_are_alike
