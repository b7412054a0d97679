use Rattle.std.proofs.Common.{◌≡◌, ◌++◌, ◌<◌, true, false, Bool, List, length, map, Some, sym, ap, ◌∙◌, subst, arith}
use Rattle.std.proofs.lemmas.List.{with_items_is}
use Rattle.std.specs.Prelude.{◌&&◌, slice_get}
use Rattle.std.specs.Vec.{with_items}
use Rattle.command_text.specs.Tree.{command_view}
use Rattle.users.specs.Tagged.{tagged}
use Rattle.feeds_meaning.specs.Lines.{is_data}
use Rattle.hub.specs.declared.seat.Seat.{Seat}
use Rattle.hub.specs.Desks.{AreLeftAt, AreToFollow}
use Rattle.hub.specs.Told.{held_user, held_users, seated}
use Rattle.hub.proofs.CommandLemmas.{others_may_be_told, own_length, plain_done, seated_at, sender_has_sent, shared_kept, own_slot}
use Rattle.hub.proofs.DeskLemmas.{all_others_follow, all_right_still, held_at_place, held_length, right_desks, user_at}
use Rattle.hub.proofs.SentLemmas.{user_is_short}
use Rattle.hub.proofs.UserLemmas.{IsShort}
use Rattle.hub.proofs.answer.answer_command.Goals as goal

pub answer_at-requires-clause-few : goal.answer_at-requires-clause-few
answer_at-requires-clause-few g c = λ is s e.
    c.requires.room.of_queries is (seated c.args.parts.now.data_lines (held_user s))
    (seated_at c.args.parts.now.data_lines (held_users c.args.parts.now.seats.items) c.args.place (held_user s)
    (held_at_place c.args.parts.now.seats.items c.args.place s (ap (λ (l : List Seat). slice_get l c.args.place) (sym c.deref_mut.ensures.value) ∙ e)))

pub tell_data-requires-clause-told : goal.tell_data-requires-clause-told
tell_data-requires-clause-told g c =
    let seats = held_users c.args.parts.now.seats.items in
    let s = held_user c.index.result.now in
    let at : slice_get seats c.args.place ≡ Some s = user_at c.args.parts.now.seats.items c.args.place c.index.result.now c.requires.there c.index.ensures in
    let short : IsShort (command_view c.args.command.now) = record {
      printable = c.requires.given.legible.printable;
      short = c.requires.given.legible.short;
    } in
    let long : length (held_users c.answer_at.new.seats) ≡ length seats = own_length c.args.parts.now.data_lines seats c.args.place s (command_view c.args.command.now)
    c.steps_write_what_is_accepted.ensures.command c.requires.hub.hub short c.requires.room at (held_users c.deref_mut.result.now) (held_users c.answer_at.new.seats)
    (ap held_users c.deref_mut.ensures.value) c.answer_at.new.reply.items c.in_ok-accepted.accepted c.in_ok-accepted.ensures.own in
    let kept : length c.answer_at.new.seats ≡ c.args.parts.now.seats.len =
    sym (held_length c.answer_at.new.seats) ∙ long ∙ held_length c.args.parts.now.seats.items
    ∙ sym (ap (λ (l : List Seat). length l) c.deref_mut.ensures.value) ∙ c.deref_mut.ensures.len in
    let all : (with_items c.args.parts.now.seats c.answer_at.new.seats).items ≡ c.answer_at.new.seats =
    with_items_is c.args.parts.now.seats c.answer_at.new.seats kept in
    let shared : (c.in_ok-accepted.accepted && is_data (command_view c.args.command.now)) ≡ true = sym c.is_shared.ensures ∙ c.if-is_shared.true in
    others_may_be_told c.args.parts.now.data_lines seats c.args.place s (command_view c.args.command.now)
    c.steps_write_what_is_accepted.ensures.command c.requires.hub.hub short c.requires.room at (held_users c.deref_mut.result.now) (held_users c.answer_at.new.seats)
    (ap held_users c.deref_mut.ensures.value) c.answer_at.new.reply.items c.in_ok-accepted.accepted c.in_ok-accepted.ensures.own
    (held_users (with_items c.args.parts.now.seats c.answer_at.new.seats).items) (ap held_users all) shared

pub tell_data-requires-clause-sent : goal.tell_data-requires-clause-sent
tell_data-requires-clause-sent g c =
    let seats = held_users c.args.parts.now.seats.items in
    let s = held_user c.index.result.now in
    let at : slice_get seats c.args.place ≡ Some s = user_at c.args.parts.now.seats.items c.args.place c.index.result.now c.requires.there c.index.ensures in
    let short : IsShort (command_view c.args.command.now) = record {
      printable = c.requires.given.legible.printable;
      short = c.requires.given.legible.short;
    } in
    let long : length (held_users c.answer_at.new.seats) ≡ length seats = own_length c.args.parts.now.data_lines seats c.args.place s (command_view c.args.command.now)
    c.steps_write_what_is_accepted.ensures.command c.requires.hub.hub short c.requires.room at (held_users c.deref_mut.result.now) (held_users c.answer_at.new.seats)
    (ap held_users c.deref_mut.ensures.value) c.answer_at.new.reply.items c.in_ok-accepted.accepted c.in_ok-accepted.ensures.own in
    let kept : length c.answer_at.new.seats ≡ c.args.parts.now.seats.len =
    sym (held_length c.answer_at.new.seats) ∙ long ∙ held_length c.args.parts.now.seats.items
    ∙ sym (ap (λ (l : List Seat). length l) c.deref_mut.ensures.value) ∙ c.deref_mut.ensures.len in
    let all : (with_items c.args.parts.now.seats c.answer_at.new.seats).items ≡ c.answer_at.new.seats =
    with_items_is c.args.parts.now.seats c.answer_at.new.seats kept in
    let shared : (c.in_ok-accepted.accepted && is_data (command_view c.args.command.now)) ≡ true = sym c.is_shared.ensures ∙ c.if-is_shared.true in
    sender_has_sent c.args.parts.now.data_lines seats c.args.place s (command_view c.args.command.now)
    c.steps_write_what_is_accepted.ensures.command c.requires.hub.hub short c.requires.room at (held_users c.deref_mut.result.now) (held_users c.answer_at.new.seats)
    (ap held_users c.deref_mut.ensures.value) c.answer_at.new.reply.items c.in_ok-accepted.accepted c.in_ok-accepted.ensures.own
    (held_users (with_items c.args.parts.now.seats c.answer_at.new.seats).items) (ap held_users all) shared

pub tell_data-requires-clause-there : goal.tell_data-requires-clause-there
tell_data-requires-clause-there g c =
    let seats = held_users c.args.parts.now.seats.items in
    let s = held_user c.index.result.now in
    let at : slice_get seats c.args.place ≡ Some s = user_at c.args.parts.now.seats.items c.args.place c.index.result.now c.requires.there c.index.ensures in
    let short : IsShort (command_view c.args.command.now) = record {
      printable = c.requires.given.legible.printable;
      short = c.requires.given.legible.short;
    } in
    let long : length (held_users c.answer_at.new.seats) ≡ length seats = own_length c.args.parts.now.data_lines seats c.args.place s (command_view c.args.command.now)
    c.steps_write_what_is_accepted.ensures.command c.requires.hub.hub short c.requires.room at (held_users c.deref_mut.result.now) (held_users c.answer_at.new.seats)
    (ap held_users c.deref_mut.ensures.value) c.answer_at.new.reply.items c.in_ok-accepted.accepted c.in_ok-accepted.ensures.own in
    let kept : length c.answer_at.new.seats ≡ c.args.parts.now.seats.len =
    sym (held_length c.answer_at.new.seats) ∙ long ∙ held_length c.args.parts.now.seats.items
    ∙ sym (ap (λ (l : List Seat). length l) c.deref_mut.ensures.value) ∙ c.deref_mut.ensures.len in
    let all : (with_items c.args.parts.now.seats c.answer_at.new.seats).items ≡ c.answer_at.new.seats =
    with_items_is c.args.parts.now.seats c.answer_at.new.seats kept in
    let same = ap (λ (l : List Seat). length l) all in
    let before = held_length c.args.parts.now.seats.items in
    let after = held_length c.answer_at.new.seats in
    let inside = c.requires.there in
    omega (arith, long)

pub tell_data-requires-clause-behind : goal.tell_data-requires-clause-behind
tell_data-requires-clause-behind g c =
    let seats = held_users c.args.parts.now.seats.items in
    let s = held_user c.index.result.now in
    let at : slice_get seats c.args.place ≡ Some s = user_at c.args.parts.now.seats.items c.args.place c.index.result.now c.requires.there c.index.ensures in
    let short : IsShort (command_view c.args.command.now) = record {
      printable = c.requires.given.legible.printable;
      short = c.requires.given.legible.short;
    } in
    let long : length (held_users c.answer_at.new.seats) ≡ length seats = own_length c.args.parts.now.data_lines seats c.args.place s (command_view c.args.command.now)
    c.steps_write_what_is_accepted.ensures.command c.requires.hub.hub short c.requires.room at (held_users c.deref_mut.result.now) (held_users c.answer_at.new.seats)
    (ap held_users c.deref_mut.ensures.value) c.answer_at.new.reply.items c.in_ok-accepted.accepted c.in_ok-accepted.ensures.own in
    let kept : length c.answer_at.new.seats ≡ c.args.parts.now.seats.len =
    sym (held_length c.answer_at.new.seats) ∙ long ∙ held_length c.args.parts.now.seats.items
    ∙ sym (ap (λ (l : List Seat). length l) c.deref_mut.ensures.value) ∙ c.deref_mut.ensures.len in
    let all : (with_items c.args.parts.now.seats c.answer_at.new.seats).items ≡ c.answer_at.new.seats =
    with_items_is c.args.parts.now.seats c.answer_at.new.seats kept in
    let shared : (c.in_ok-accepted.accepted && is_data (command_view c.args.command.now)) ≡ true = sym c.is_shared.ensures ∙ c.if-is_shared.true in
    subst (λ (l : List Seat). AreToFollow s.user (command_view c.args.command.now) c.answer_at.new.shared l) (sym all)
    (all_others_follow c.args.parts.now.data_lines seats c.args.place s (command_view c.args.command.now) at c.requires.hub.hub c.answer_at.new.shared
    c.answer_at.new.seats (own_slot c.args.parts.now.data_lines seats c.args.place s (command_view c.args.command.now)
    c.steps_write_what_is_accepted.ensures.command c.requires.hub.hub short c.requires.room at (held_users c.deref_mut.result.now) (held_users c.answer_at.new.seats)
    (ap held_users c.deref_mut.ensures.value) c.answer_at.new.reply.items c.in_ok-accepted.accepted c.in_ok-accepted.ensures.own)
    (subst (λ (b : Bool). AreLeftAt c.args.place b (command_view c.args.command.now) c.answer_at.new.shared c.answer_at.new.seats) shared
    c.in_ok-accepted.ensures.others))

pub returns-then-is_shared-clause-answered : goal.returns-then-is_shared-clause-answered
returns-then-is_shared-clause-answered g c =
    let seats = held_users c.args.parts.now.seats.items in
    let s = held_user c.index.result.now in
    let at : slice_get seats c.args.place ≡ Some s = user_at c.args.parts.now.seats.items c.args.place c.index.result.now c.requires.there c.index.ensures in
    let short : IsShort (command_view c.args.command.now) = record {
      printable = c.requires.given.legible.printable;
      short = c.requires.given.legible.short;
    } in
    let long : length (held_users c.answer_at.new.seats) ≡ length seats = own_length c.args.parts.now.data_lines seats c.args.place s (command_view c.args.command.now)
    c.steps_write_what_is_accepted.ensures.command c.requires.hub.hub short c.requires.room at (held_users c.deref_mut.result.now) (held_users c.answer_at.new.seats)
    (ap held_users c.deref_mut.ensures.value) c.answer_at.new.reply.items c.in_ok-accepted.accepted c.in_ok-accepted.ensures.own in
    let kept : length c.answer_at.new.seats ≡ c.args.parts.now.seats.len =
    sym (held_length c.answer_at.new.seats) ∙ long ∙ held_length c.args.parts.now.seats.items
    ∙ sym (ap (λ (l : List Seat). length l) c.deref_mut.ensures.value) ∙ c.deref_mut.ensures.len in
    let all : (with_items c.args.parts.now.seats c.answer_at.new.seats).items ≡ c.answer_at.new.seats =
    with_items_is c.args.parts.now.seats c.answer_at.new.seats kept in
    let shared : (c.in_ok-accepted.accepted && is_data (command_view c.args.command.now)) ≡ true = sym c.is_shared.ensures ∙ c.if-is_shared.true in
    let done = shared_kept c.args.parts.now.data_lines seats c.args.place s (command_view c.args.command.now)
    c.steps_write_what_is_accepted.ensures.command c.requires.hub.hub short c.requires.room at (held_users c.deref_mut.result.now) (held_users c.answer_at.new.seats)
    (ap held_users c.deref_mut.ensures.value) c.answer_at.new.reply.items c.in_ok-accepted.accepted c.in_ok-accepted.ensures.own
    (held_users (with_items c.args.parts.now.seats c.answer_at.new.seats).items) (held_users c.tell_data.new.parts.seats.items) c.tell_data.new.parts.data_lines
    c.args.out.now.items c.tell_data.new.out.items (ap held_users all) shared c.in_ok-tell_data.ensures.counted c.in_ok-tell_data.ensures.told in
    done.carried.answered

pub returns-then-is_shared-clause-hub : goal.returns-then-is_shared-clause-hub
returns-then-is_shared-clause-hub g c =
    let seats = held_users c.args.parts.now.seats.items in
    let s = held_user c.index.result.now in
    let at : slice_get seats c.args.place ≡ Some s = user_at c.args.parts.now.seats.items c.args.place c.index.result.now c.requires.there c.index.ensures in
    let short : IsShort (command_view c.args.command.now) = record {
      printable = c.requires.given.legible.printable;
      short = c.requires.given.legible.short;
    } in
    let long : length (held_users c.answer_at.new.seats) ≡ length seats = own_length c.args.parts.now.data_lines seats c.args.place s (command_view c.args.command.now)
    c.steps_write_what_is_accepted.ensures.command c.requires.hub.hub short c.requires.room at (held_users c.deref_mut.result.now) (held_users c.answer_at.new.seats)
    (ap held_users c.deref_mut.ensures.value) c.answer_at.new.reply.items c.in_ok-accepted.accepted c.in_ok-accepted.ensures.own in
    let kept : length c.answer_at.new.seats ≡ c.args.parts.now.seats.len =
    sym (held_length c.answer_at.new.seats) ∙ long ∙ held_length c.args.parts.now.seats.items
    ∙ sym (ap (λ (l : List Seat). length l) c.deref_mut.ensures.value) ∙ c.deref_mut.ensures.len in
    let all : (with_items c.args.parts.now.seats c.answer_at.new.seats).items ≡ c.answer_at.new.seats =
    with_items_is c.args.parts.now.seats c.answer_at.new.seats kept in
    let shared : (c.in_ok-accepted.accepted && is_data (command_view c.args.command.now)) ≡ true = sym c.is_shared.ensures ∙ c.if-is_shared.true in
    let done = shared_kept c.args.parts.now.data_lines seats c.args.place s (command_view c.args.command.now)
    c.steps_write_what_is_accepted.ensures.command c.requires.hub.hub short c.requires.room at (held_users c.deref_mut.result.now) (held_users c.answer_at.new.seats)
    (ap held_users c.deref_mut.ensures.value) c.answer_at.new.reply.items c.in_ok-accepted.accepted c.in_ok-accepted.ensures.own
    (held_users (with_items c.args.parts.now.seats c.answer_at.new.seats).items) (held_users c.tell_data.new.parts.seats.items) c.tell_data.new.parts.data_lines
    c.args.out.now.items c.tell_data.new.out.items (ap held_users all) shared c.in_ok-tell_data.ensures.counted c.in_ok-tell_data.ensures.told in
    record {
      hub = done.carried.hub;
      data_lines = done.data_lines;
      desks = right_desks c.tell_data.new.parts.shared c.tell_data.new.parts.seats.items c.in_ok-tell_data.ensures.right
          (subst (λ n. 0 < n) (held_length c.tell_data.new.parts.seats.items) done.some);
    }

pub push_tagged-requires : goal.push_tagged-requires
push_tagged-requires g c =
    let seats = held_users c.args.parts.now.seats.items in
    let s = held_user c.index.result.now in
    let at : slice_get seats c.args.place ≡ Some s = user_at c.args.parts.now.seats.items c.args.place c.index.result.now c.requires.there c.index.ensures in
    user_is_short c.args.parts.now.data_lines seats c.args.place s c.bytes.result.now c.requires.hub.hub at c.bytes.ensures.value

pub returns-clause-answered : goal.returns-clause-answered
returns-clause-answered g c =
    let seats = held_users c.args.parts.now.seats.items in
    let s = held_user c.index.result.now in
    let at : slice_get seats c.args.place ≡ Some s = user_at c.args.parts.now.seats.items c.args.place c.index.result.now c.requires.there c.index.ensures in
    let short : IsShort (command_view c.args.command.now) = record {
      printable = c.requires.given.legible.printable;
      short = c.requires.given.legible.short;
    } in
    let long : length (held_users c.answer_at.new.seats) ≡ length seats = own_length c.args.parts.now.data_lines seats c.args.place s (command_view c.args.command.now)
    c.steps_write_what_is_accepted.ensures.command c.requires.hub.hub short c.requires.room at (held_users c.deref_mut.result.now) (held_users c.answer_at.new.seats)
    (ap held_users c.deref_mut.ensures.value) c.answer_at.new.reply.items c.in_ok-accepted.accepted c.in_ok-accepted.ensures.own in
    let kept : length c.answer_at.new.seats ≡ c.args.parts.now.seats.len =
    sym (held_length c.answer_at.new.seats) ∙ long ∙ held_length c.args.parts.now.seats.items
    ∙ sym (ap (λ (l : List Seat). length l) c.deref_mut.ensures.value) ∙ c.deref_mut.ensures.len in
    let all : (with_items c.args.parts.now.seats c.answer_at.new.seats).items ≡ c.answer_at.new.seats =
    with_items_is c.args.parts.now.seats c.answer_at.new.seats kept in
    let plain : (c.in_ok-accepted.accepted && is_data (command_view c.args.command.now)) ≡ false = sym c.is_shared.ensures ∙ c.if-is_shared.false in
    let text : tagged c.bytes.result.now c.deref.result.now ≡ tagged s.user c.answer_at.new.reply.items =
    λ i. tagged (c.bytes.ensures.value i) (c.deref.ensures.value i) in
    let said : c.push_tagged.new.out.items ≡ c.args.out.now.items ++ tagged s.user c.answer_at.new.reply.items =
    c.in_ok-push_tagged.ensures.ok ∙ ap (λ l. c.args.out.now.items ++ l) text in
    let done = plain_done c.args.parts.now.data_lines seats c.args.place s (command_view c.args.command.now)
    c.steps_write_what_is_accepted.ensures.command c.requires.hub.hub short c.requires.room at (held_users c.deref_mut.result.now) (held_users c.answer_at.new.seats)
    (ap held_users c.deref_mut.ensures.value) c.answer_at.new.reply.items c.in_ok-accepted.accepted c.in_ok-accepted.ensures.own
    (held_users (with_items c.args.parts.now.seats c.answer_at.new.seats).items) c.args.out.now.items c.push_tagged.new.out.items (ap held_users all) plain said in
    done.carried.answered

pub returns-clause-hub : goal.returns-clause-hub
returns-clause-hub g c =
    let seats = held_users c.args.parts.now.seats.items in
    let s = held_user c.index.result.now in
    let at : slice_get seats c.args.place ≡ Some s = user_at c.args.parts.now.seats.items c.args.place c.index.result.now c.requires.there c.index.ensures in
    let short : IsShort (command_view c.args.command.now) = record {
      printable = c.requires.given.legible.printable;
      short = c.requires.given.legible.short;
    } in
    let long : length (held_users c.answer_at.new.seats) ≡ length seats = own_length c.args.parts.now.data_lines seats c.args.place s (command_view c.args.command.now)
    c.steps_write_what_is_accepted.ensures.command c.requires.hub.hub short c.requires.room at (held_users c.deref_mut.result.now) (held_users c.answer_at.new.seats)
    (ap held_users c.deref_mut.ensures.value) c.answer_at.new.reply.items c.in_ok-accepted.accepted c.in_ok-accepted.ensures.own in
    let kept : length c.answer_at.new.seats ≡ c.args.parts.now.seats.len =
    sym (held_length c.answer_at.new.seats) ∙ long ∙ held_length c.args.parts.now.seats.items
    ∙ sym (ap (λ (l : List Seat). length l) c.deref_mut.ensures.value) ∙ c.deref_mut.ensures.len in
    let all : (with_items c.args.parts.now.seats c.answer_at.new.seats).items ≡ c.answer_at.new.seats =
    with_items_is c.args.parts.now.seats c.answer_at.new.seats kept in
    let plain : (c.in_ok-accepted.accepted && is_data (command_view c.args.command.now)) ≡ false = sym c.is_shared.ensures ∙ c.if-is_shared.false in
    let text : tagged c.bytes.result.now c.deref.result.now ≡ tagged s.user c.answer_at.new.reply.items =
    λ i. tagged (c.bytes.ensures.value i) (c.deref.ensures.value i) in
    let said : c.push_tagged.new.out.items ≡ c.args.out.now.items ++ tagged s.user c.answer_at.new.reply.items =
    c.in_ok-push_tagged.ensures.ok ∙ ap (λ l. c.args.out.now.items ++ l) text in
    let done = plain_done c.args.parts.now.data_lines seats c.args.place s (command_view c.args.command.now)
    c.steps_write_what_is_accepted.ensures.command c.requires.hub.hub short c.requires.room at (held_users c.deref_mut.result.now) (held_users c.answer_at.new.seats)
    (ap held_users c.deref_mut.ensures.value) c.answer_at.new.reply.items c.in_ok-accepted.accepted c.in_ok-accepted.ensures.own
    (held_users (with_items c.args.parts.now.seats c.answer_at.new.seats).items) c.args.out.now.items c.push_tagged.new.out.items (ap held_users all) plain said in
    let items = (with_items c.args.parts.now.seats c.answer_at.new.seats).items in
    record {
      hub = done.carried.hub;
      data_lines = done.data_lines;
      desks = right_desks c.answer_at.new.shared items
          (all_right_still (command_view c.args.command.now) c.answer_at.new.shared items c.args.place
          (subst (λ (l : List Seat). AreLeftAt c.args.place false (command_view c.args.command.now) c.answer_at.new.shared l) (sym all)
          (subst (λ (b : Bool). AreLeftAt c.args.place b (command_view c.args.command.now) c.answer_at.new.shared c.answer_at.new.seats) plain
          c.in_ok-accepted.ensures.others)))
          (subst (λ n. 0 < n) (held_length items) done.some);
    }
