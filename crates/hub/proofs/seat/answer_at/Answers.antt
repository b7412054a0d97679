use Rattle.std.proofs.Common.{get_or, refl}
use Rattle.std.proofs.lemmas.Option.{slice_get-get_or}
use Rattle.std.specs.Prelude.{◌&&◌}
use Rattle.command_text.specs.Tree.{command_view}
use Rattle.feeds_meaning.specs.Lines.{is_data}
use Rattle.hub.proofs.DeskLemmas.{left_at, own_at_place}
use Rattle.hub.proofs.seat.answer_at.Goals as goal

pub returns-clause-own : goal.returns-clause-own
returns-clause-own g c =
    own_at_place c.args.place (command_view c.args.command.now) c.args.seats.now (get_or c.args.seats.now c.args.place c.index-seats-place.result)
    c.answer_seat.new.seat c.answer_seat.new.reply.items c.in_ok-accepted.accepted
    (slice_get-get_or c.args.seats.now c.args.place c.index-seats-place.result c.requires.there) c.in_ok-accepted.ensures.own _ refl

pub returns-clause-others : goal.returns-clause-others
returns-clause-others g c =
    left_at (c.in_ok-accepted.accepted && is_data (command_view c.args.command.now)) (command_view c.args.command.now) c.args.shared.now
    c.answer_seat.new.shared c.in_ok-accepted.ensures.others c.args.seats.now c.args.place c.answer_seat.new.seat c.requires.right
    c.in_ok-accepted.ensures.right
