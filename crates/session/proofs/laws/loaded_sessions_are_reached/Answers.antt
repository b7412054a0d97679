use Rattle.line_meaning.specs.Reached.{after_lines}
use Rattle.line_meaning.specs.Step.{base, held}
use Rattle.line_meaning.proofs.StepLemmas.{lines_are_reached}
use Rattle.session.proofs.ReachedLemmas.{loaded_is_reached}
use Rattle.session.proofs.laws.loaded_sessions_are_reached.Goals as goal

pub returns-clause-loaded : goal.returns-clause-loaded
returns-clause-loaded c =
    loaded_is_reached c.read_commands_are_printable.ensures c.canonical_lines_are_read_back.ensures.printed

pub returns-clause-saved : goal.returns-clause-saved
returns-clause-saved c = λ text journal texts lines is.
    let from = base (held journal) texts in
    let reached = loaded_is_reached c.read_commands_are_printable.ensures c.canonical_lines_are_read_back.ensures.printed text journal is in
    c.saved_sessions_are_loaded.ensures.journals (after_lines from lines).held.journal
    (lines_are_reached c.steps_write_what_is_accepted.ensures.step from lines reached)
