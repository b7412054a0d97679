use Rattle.std.proofs.Common.{◌≡◌, List, Some, sym, ap, subst}
use Rattle.std.proofs.lemmas.Result.{on_ok_weaker}
use Rattle.std.specs.Prelude.{slice_get}
use Rattle.command_text.specs.declared.fault.CommandFault.TheVariants.{Refused}
use Rattle.command_text.specs.Tree.{command_view}
use Rattle.session.specs.declared.sharing.Shared.{Shared}
use Rattle.hub.specs.declared.seat.Seat.{Seat}
use Rattle.hub.specs.Desks.{AreRightDesks}
use Rattle.hub.specs.Judging.{ExplainsSent}
use Rattle.hub.specs.Told.{held_user, held_users, hub_of}
use Rattle.hub.proofs.DeskLemmas.{user_at}
use Rattle.hub.proofs.SentLemmas.{hub_is_same, lines_are_same, room_at, sent_and_same, sent_of_command, sent_refused}
use Rattle.hub.proofs.answer.answer_sent.Goals as goal

pub answer_read-requires-clause-given : goal.answer_read-requires-clause-given
answer_read-requires-clause-given g c = record {
  legible = c.read_commands_are_legible.ensures c.args.line.now (command_view c.in-Ok.command) c.in-Ok.ensures.ok.read;
  allowed = c.in-Ok.ensures.ok.allowed;
}

pub answer_read-requires-clause-room : goal.answer_read-requires-clause-room
answer_read-requires-clause-room g c =
    let seats = held_users c.args.parts.now.seats.items in
    let s = held_user c.index.result.now in
    room_at c.args.parts.now.data_lines seats c.args.place s c.requires.hub.hub (user_at c.args.parts.now.seats.items c.args.place c.index.result.now c.requires.there c.index.ensures)
    (command_view c.in-Ok.command) c.in-Ok.ensures.room

pub returns-in-Ok-clause-answered : goal.returns-in-Ok-clause-answered
returns-in-Ok-clause-answered g c =
    let seats = held_users c.args.parts.now.seats.items in
    let s = held_user c.index.result.now in
    on_ok_weaker c.answer_read.result
    (sent_of_command c.args.parts.now.data_lines seats c.args.place s c.requires.hub.hub (user_at c.args.parts.now.seats.items c.args.place c.index.result.now c.requires.there c.index.ensures)
    c.args.line.now (command_view c.in-Ok.command) (hub_of c.answer_read.new.parts) c.args.out.now.items c.answer_read.new.out.items c.in-Ok.ensures.ok)
    c.answer_read.ensures.answered

pub returns-in-Err-Refused-clause-answered : goal.returns-in-Err-Refused-clause-answered
returns-in-Err-Refused-clause-answered g c =
    let d = c.args.parts.now.data_lines in
    let seats = held_users c.args.parts.now.seats.items in
    let s = held_user c.index.result.now in
    let at : slice_get seats c.args.place ≡ Some s = user_at c.args.parts.now.seats.items c.args.place c.index.result.now c.requires.there c.index.ensures in
    let cause : ExplainsSent d s.query_lines c.args.line.now (Refused c.in-Err-Refused.refusal) =
    subst (ExplainsSent d s.query_lines c.args.line.now) c.in-Err-Refused.field-0-is c.in-Err-Refused.ensures.cause in
    on_ok_weaker c.push_refused.result
    (λ said. sent_and_same d c.push_refused.new.parts.data_lines seats (held_users c.push_refused.new.parts.seats.items) c.push_refused.ensures.same.1
    (λ i. held_users (c.push_refused.ensures.same.0 i).items) c.args.place c.args.line.now c.args.out.now.items c.push_refused.new.out.items
    (sent_refused d seats c.args.place s c.requires.hub.hub at c.args.line.now c.in-Err-Refused.refusal c.args.out.now.items c.push_refused.new.out.items
    cause (said s at)))
    c.push_refused.ensures.said

pub returns-in-Err-Refused-clause-hub : goal.returns-in-Err-Refused-clause-hub
returns-in-Err-Refused-clause-hub g c =
    let d = c.args.parts.now.data_lines in
    let seats = held_users c.args.parts.now.seats.items in
    let same : c.push_refused.new.parts.seats.items ≡ c.args.parts.now.seats.items = λ i. (c.push_refused.ensures.same.0 i).items in
    on_ok_weaker c.push_refused.result
    (λ _. record {
      hub = hub_is_same d c.push_refused.new.parts.data_lines seats (held_users c.push_refused.new.parts.seats.items) c.push_refused.ensures.same.1
          (ap held_users same) c.requires.hub.hub;
      data_lines = lines_are_same d c.push_refused.new.parts.data_lines seats (held_users c.push_refused.new.parts.seats.items) c.push_refused.ensures.same.1
          (ap held_users same) c.requires.hub.data_lines;
      desks = subst (λ (p : Shared × List Seat). AreRightDesks p.0 p.1) (λ i. (sym c.push_refused.ensures.shared i, sym same i)) c.requires.hub.desks;
    })
    c.push_refused.ensures.said
