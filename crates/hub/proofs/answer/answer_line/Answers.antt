use Rattle.std.proofs.Common.{◌≡◌, None, Some, sym, subst, arith}
use Rattle.std.proofs.lemmas.List.{length-map}
use Rattle.std.proofs.lemmas.Result.{on_ok_weaker}
use Rattle.users.specs.Sender.{sent_in}
use Rattle.hub.specs.Told.{IsSeatedAs, held_users, hub_of, seated}
use Rattle.hub.proofs.DeskLemmas.{held_length}
use Rattle.hub.proofs.StepLemmas.{ninth_is_answered, nobody_is_answered, place_is_one, sent_is_answered}
use Rattle.hub.proofs.answer.answer_line.Goals as goal

pub returns-in_default-clause-answered : goal.returns-in_default-clause-answered
returns-in_default-clause-answered g c =
    on_ok_weaker c.push_unheard.result
    (nobody_is_answered (hub_of c.args.parts.now) c.args.line.now c.args.out.now.items c.push_unheard.new.out.items (sym c.in_default.ensures))
    c.push_unheard.ensures.ok

pub answer_sent-requires-clause-there : goal.answer_sent-requires-clause-there
answer_sent-requires-clause-there g c =
    let seated_as : IsSeatedAs (hub_of c.args.parts.now) c.in-Some.user.now (hub_of c.seat_for.new.parts) (Some c.in-Some-2.place) =
    subst (IsSeatedAs (hub_of c.args.parts.now) c.in-Some.user.now (hub_of c.seat_for.new.parts)) c.in-Some-2.is c.in_ok-place.ensures.seated in
    let inside = place_is_one (hub_of c.args.parts.now) (hub_of c.seat_for.new.parts) c.in-Some.user.now c.in-Some-2.place seated_as in
    let long = length-map (held_users c.seat_for.new.parts.seats.items) (seated c.seat_for.new.parts.data_lines) in
    let held = held_length c.seat_for.new.parts.seats.items in
    omega arith

pub returns-in-Some-2-clause-answered : goal.returns-in-Some-2-clause-answered
returns-in-Some-2-clause-answered g c =
    let seated_as : IsSeatedAs (hub_of c.args.parts.now) c.in-Some.user.now (hub_of c.seat_for.new.parts) (Some c.in-Some-2.place) =
    subst (IsSeatedAs (hub_of c.args.parts.now) c.in-Some.user.now (hub_of c.seat_for.new.parts)) c.in-Some-2.is c.in_ok-place.ensures.seated in
    let sent : sent_in c.args.line.now ≡ Some (record { user = c.in-Some.user.now; line = c.in-Some.own_line.now }) = sym c.in-Some.ensures in
    on_ok_weaker c.answer_sent.result
    (sent_is_answered (hub_of c.args.parts.now) (hub_of c.seat_for.new.parts) (hub_of c.answer_sent.new.parts) c.args.line.now c.in-Some.user.now
    c.in-Some.own_line.now c.in-Some-2.place c.args.out.now.items c.answer_sent.new.out.items c.requires.hub c.in_ok-place.ensures.hub.hub sent seated_as)
    c.answer_sent.ensures.answered

pub returns-in-None-clause-answered : goal.returns-in-None-clause-answered
returns-in-None-clause-answered g c =
    let seated_as : IsSeatedAs (hub_of c.args.parts.now) c.in-Some.user.now (hub_of c.seat_for.new.parts) None =
    subst (IsSeatedAs (hub_of c.args.parts.now) c.in-Some.user.now (hub_of c.seat_for.new.parts)) c.in-None.is c.in_ok-place.ensures.seated in
    let sent : sent_in c.args.line.now ≡ Some (record { user = c.in-Some.user.now; line = c.in-Some.own_line.now }) = sym c.in-Some.ensures in
    on_ok_weaker c.push_unheard-in-None.result
    (ninth_is_answered (hub_of c.args.parts.now) (hub_of c.seat_for.new.parts) c.args.line.now c.in-Some.user.now c.in-Some.own_line.now
    c.args.out.now.items c.push_unheard-in-None.new.out.items sent seated_as)
    c.push_unheard-in-None.ensures.ok
