use Rattle.std.proofs.Common.{◌≡◌, List, sym, ◌∙◌}
use Rattle.std.proofs.lemmas.Result.{IfOk-weaker}
use Rattle.command_text.specs.Journal.{Accepted}
use Rattle.hub.specs.Seats.{data_entries}
use Rattle.hub.specs.Told.{data_journal, held_users}
use Rattle.hub.proofs.DeskLemmas.{data_of_first, first_reached}
use Rattle.hub.proofs.newcomer.new_journal.Goals as goal

pub copied-requires : goal.copied-requires
copied-requires g c =
    first_reached c.args.data_lines c.args.seats.now c.in-Some.seat.now c.journal.result.now (sym c.in-Some.ensures.value) c.journal.ensures c.requires

pub returns-in-Some : goal.returns-in-Some
returns-in-Some g c =
    IfOk-weaker c.copied.result (λ (copy : List Accepted). copy ≡ data_entries c.journal.result.now)
    (λ (copy : List Accepted). copy ≡ data_journal (held_users c.args.seats.now))
    (λ copy is. is ∙ data_of_first c.args.seats.now c.in-Some.seat.now c.journal.result.now (sym c.in-Some.ensures.value) c.journal.ensures) c.copied.ensures
