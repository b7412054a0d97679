use Rattle.std.proofs.Common.{sym, ap, ◌∙◌}
use Rattle.std.specs.List.{position}
use Rattle.std.specs.Str.{bytes_eq}
use Rattle.hub.specs.declared.seat.Seat.{Seat}
use Rattle.hub.specs.Told.{held_users}
use Rattle.hub.proofs.DeskLemmas.{held_position}
use Rattle.hub.proofs.SeatedLemmas.{seated_before}
use Rattle.hub.proofs.newcomer.seat_for.Goals as goal

pub returns-in-Some-clause-seated : goal.returns-in-Some-clause-seated
returns-in-Some-clause-seated g c =
    seated_before c.args.user.now c.args.parts.now.data_lines (held_users c.args.parts.now.seats.items) c.in-Some.place c.requires.hub.hub
    (held_position c.args.user.now c.args.parts.now.seats.items
    ∙ ap (position (λ (s : Seat). bytes_eq c.args.user.now s.user)) (sym c.deref.ensures.value) ∙ sym c.in-Some.ensures)

pub seat_new-requires-clause-none : goal.seat_new-requires-clause-none
seat_new-requires-clause-none g c =
    ap (position (λ (s : Seat). bytes_eq c.args.user.now s.user)) (sym c.deref.ensures.value) ∙ sym c.in_default.ensures
