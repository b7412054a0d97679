use Rattle.std.proofs.Common.{◌<◌, List, length, sym, ap, ◌∙◌, subst}
use Rattle.std.specs.Prelude.{slice_get}
use Rattle.std.specs.List.{All}
use Rattle.command_text.specs.Tree.{command_view}
use Rattle.hub.specs.declared.seat.Seat.{Seat}
use Rattle.hub.specs.Told.{HasLastLineAt, HasLineFor, IsLastLine, held_user, held_users}
use Rattle.hub.proofs.DeskLemmas.{held_at_place, held_inside, held_length}
use Rattle.hub.proofs.LineLemmas.{lines_for_all, sender_has_entry}
use Rattle.hub.proofs.answer.tell_data.Goals as goal

pub put_line-requires-clause-some : goal.put_line-requires-clause-some
put_line-requires-clause-some g c = λ s at.
    sender_has_entry (held_users c.args.parts.now.seats.items) c.args.place c.args.sender.now (command_view c.args.command.now) c.requires.sent (held_user s)
    (held_at_place c.args.parts.now.seats.items c.args.place s (ap (λ (l : List Seat). slice_get l c.args.place) (sym c.deref.ensures.value) ∙ at))

pub tell_all-requires-clause-line : goal.tell_all-requires-clause-line
tell_all-requires-clause-line g c =
    let seats = c.args.parts.now.seats.items in
    let line = c.deref-2.result.now in
    let has : 1 < length (held_users seats) → HasLastLineAt c.args.place (held_users seats) line = λ many s at.
    subst (IsLastLine s.held.journal) (sym c.deref-2.ensures.value)
    (c.in_ok-put_line.ensures (subst (λ (l : List Seat). 1 < length l) (sym c.deref.ensures.value) (subst (λ n. 1 < n) (held_length seats) many)) s
    (ap (λ (l : List Seat). slice_get (held_users l) c.args.place) c.deref.ensures.value ∙ at)) in
    subst (λ (l : List Seat). All (HasLineFor c.args.sender.now (command_view c.args.command.now) line) (held_users l)) (sym c.deref_mut.ensures.value)
    (lines_for_all (held_users seats) c.args.place c.args.sender.now (command_view c.args.command.now) line (held_inside seats c.args.place c.requires.there)
    c.requires.sent has)
