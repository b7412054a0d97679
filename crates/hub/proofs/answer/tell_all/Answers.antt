use Rattle.std.proofs.Common.{ℕ, List, ◌<◌, ◌≤◌, add-one, get_or, refl, sym, ap, subst, length}
use Rattle.command_text.specs.Tree.{command_view}
use Rattle.std.specs.Prelude.{◌+◌, slice_set}
use Rattle.hub.specs.declared.seat.Seat.{Seat}
use Rattle.hub.specs.Desks.{HaveFollowed}
use Rattle.hub.specs.Told.{HasLineFor, HeldUser, MayBeTold, held_user, held_users}
use Rattle.hub.proofs.DeskLemmas.{all_followed, held_get_or, held_inside, held_length, held_set, next_follows, none_followed, one_followed}
use Rattle.hub.proofs.TellingLemmas.{AreToldSoFar, all_told, holds_next, none_told, one_told}
use Rattle.hub.proofs.answer.tell_all.Goals as goal
use Rattle.session.proofs.CarriedLemmas.{begins_same}

pub seats-init : goal.seats-init
seats-init g c = (
  none_told c.args.taken.now.sender.now c.args.taken.now.own.now (command_view c.args.taken.now.command.now) (held_users c.args.seats.now) c.args.out.now.items (begins_same c.args.out.now.items),
  none_followed c.args.taken.now.sender.now (command_view c.args.taken.now.command.now) c.args.shared.now c.args.seats.now c.requires.behind,
)

pub tell_one-requires-clause-told : goal.tell_one-requires-clause-told
tell_one-requires-clause-told g c =
    subst (MayBeTold c.args.taken.now.sender.now (command_view c.args.taken.now.command.now))
    (sym (held_get_or c.seats.seats c.seats.place c.index-seats-place.result))
    (holds_next c.args.taken.now.sender.now c.args.taken.now.own.now (command_view c.args.taken.now.command.now) (held_users c.args.seats.now) c.args.out.now.items c.seats.place (held_users c.seats.seats)
    c.seats.out.items c.seats.invariant.0 (MayBeTold c.args.taken.now.sender.now (command_view c.args.taken.now.command.now)) (held_user c.index-seats-place.result)
    (held_inside c.seats.seats c.seats.place c.seats-test.true) c.requires.told)

pub tell_one-requires-clause-line : goal.tell_one-requires-clause-line
tell_one-requires-clause-line g c =
    subst (HasLineFor c.args.taken.now.sender.now (command_view c.args.taken.now.command.now) c.args.taken.now.line.now)
    (sym (held_get_or c.seats.seats c.seats.place c.index-seats-place.result))
    (holds_next c.args.taken.now.sender.now c.args.taken.now.own.now (command_view c.args.taken.now.command.now) (held_users c.args.seats.now) c.args.out.now.items c.seats.place (held_users c.seats.seats)
    c.seats.out.items c.seats.invariant.0 (HasLineFor c.args.taken.now.sender.now (command_view c.args.taken.now.command.now) c.args.taken.now.line.now)
    (held_user c.index-seats-place.result) (held_inside c.seats.seats c.seats.place c.seats-test.true) c.requires.line)

pub tell_one-requires-clause-behind : goal.tell_one-requires-clause-behind
tell_one-requires-clause-behind g c =
    next_follows c.args.taken.now.sender.now (command_view c.args.taken.now.command.now) c.seats.shared c.seats.seats c.seats.place
    c.index-seats-place.result c.seats.invariant.1 c.seats-test.true

pub seats-preserved : goal.seats-preserved
seats-preserved g c =
    let sender = c.args.taken.now.sender.now in
    let command = command_view c.args.taken.now.command.now in
    let s : Seat = get_or c.seats.seats c.seats.place c.index-seats-place.result in (
      subst (λ (l : List HeldUser). AreToldSoFar sender c.args.taken.now.own.now command (c.seats.place + 1) (held_users c.args.seats.now) l c.args.out.now.items
          c.tell_one.new.out.items) (sym (held_set c.seats.seats c.seats.place c.tell_one.new.seat))
          (one_told c.args.taken.now.sender.now c.args.taken.now.own.now (command_view c.args.taken.now.command.now) (held_users c.args.seats.now) c.args.out.now.items c.seats.place (held_users c.seats.seats)
          c.seats.out.items c.seats.invariant.0 (held_user s) (held_user c.index-seats-place.result) (held_user c.tell_one.new.seat)
          c.tell_one.new.out.items (held_inside c.seats.seats c.seats.place c.seats-test.true)
          (held_get_or c.seats.seats c.seats.place c.index-seats-place.result) c.in_ok-tell_one.ensures.kept c.in_ok-tell_one.ensures.said
          c.tell_one.ensures.begins),
      subst (λ n. HaveFollowed n sender command c.tell_one.new.shared (slice_set c.seats.seats c.seats.place c.tell_one.new.seat)) (sym (add-one c.seats.place))
          (one_followed sender command c.seats.shared c.tell_one.new.shared c.seats.seats c.seats.place c.tell_one.new.seat c.tell_one.ensures.same
          c.in_ok-tell_one.ensures.right c.seats.invariant.1),
    )

pub returns-clause-told : goal.returns-clause-told
returns-clause-told g c =
    all_told c.args.taken.now.sender.now c.args.taken.now.own.now (command_view c.args.taken.now.command.now) (held_users c.args.seats.now) c.args.out.now.items c.seats.place (held_users c.seats.seats)
    c.seats.out.items c.seats.invariant.0 (subst (λ n. n ≤ c.seats.place) (sym (held_length c.seats.seats)) c.seats-test.false)

pub returns-clause-right : goal.returns-clause-right
returns-clause-right g c =
    all_followed c.args.taken.now.sender.now (command_view c.args.taken.now.command.now) c.seats.shared c.seats.seats c.seats.place c.seats.invariant.1
    c.seats-test.false
