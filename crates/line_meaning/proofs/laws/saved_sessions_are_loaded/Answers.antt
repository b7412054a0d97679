use Rattle.line_meaning.specs.Reached.{after_lines}
use Rattle.line_meaning.specs.Step.{base, held}
use Rattle.std.proofs.Common.{[]}
use Rattle.line_meaning.proofs.LoadingLemmas.{save_is_loaded, saved_is_loaded}
use Rattle.line_meaning.proofs.StepLemmas.{lines_are_reached}
use Rattle.line_meaning.proofs.laws.saved_sessions_are_loaded.Goals as goal

pub returns-clause-journals : goal.returns-clause-journals
returns-clause-journals c = saved_is_loaded c.saved_texts_are_loaded.ensures

pub returns-clause-lines : goal.returns-clause-lines
returns-clause-lines c texts lines =
    let empty = base (held []) texts in
    saved_is_loaded c.saved_texts_are_loaded.ensures (after_lines empty lines).held.journal
    (lines_are_reached c.steps_write_what_is_accepted.ensures.step empty lines tt)

pub returns-clause-saved : goal.returns-clause-saved
returns-clause-saved c = save_is_loaded c.saved_texts_are_loaded.ensures
