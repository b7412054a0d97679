use Rattle.std.proofs.Common.{◌≡◌, ◌<◌, ◌++◌, ◌∷◌, [], List, length, map, refl, sym, ap, ◌∙◌, subst, arith}
use Rattle.std.specs.Prelude.{nat_le}
use Rattle.std.specs.List.{AllByRecursion}
use Rattle.feeds_meaning.specs.declared.limits.TheConstants.{USERS_LIMIT}
use Rattle.session.specs.Sharing.{IsBare, held_at}
use Rattle.session.proofs.CallerLemmas.{bare_held}
use Rattle.hub.specs.declared.seat.Seat.{Seat}
use Rattle.hub.specs.Desks.{AreRightDesks}
use Rattle.hub.specs.Seats.{IsUser}
use Rattle.hub.specs.Told.{HeldUser, data_journal, held_users, seated}
use Rattle.hub.proofs.CommandLemmas.{hub_by}
use Rattle.hub.proofs.DeskLemmas.{desks_pushed, held_length, held_position, held_pushed, newcomer_is_right}
use Rattle.hub.proofs.SeatedLemmas.{all_taken, data_reached, is_new, newcomer_of_users, no_room, one_free, parts_pushed, seated_pushed}
use Rattle.hub.proofs.newcomer.seat_new.Goals as goal

pub returns-then-is_full-clause-seated : goal.returns-then-is_full-clause-seated
returns-then-is_full-clause-seated g c =
    let items = c.args.parts.now.seats.items in
    let none = held_position c.args.user.now items ∙ c.requires.none in
    let full = all_taken (length (held_users items))
    (ap (nat_le USERS_LIMIT) (held_length items)
    ∙ ap (λ (l : List Seat). nat_le USERS_LIMIT (length l)) (sym c.deref.ensures.value) ∙ sym c.is_full.ensures ∙ c.if-is_full.true) in
    (no_room c.args.user.now c.args.parts.now.data_lines (held_users items) none full, refl)

pub returns-clause-seated : goal.returns-clause-seated
returns-clause-seated g c =
    let d = c.args.parts.now.data_lines in
    let items = c.args.parts.now.seats.items in
    let seats = held_users items in
    let user = c.args.user.now in
    let desk = c.new-desk.result in
    let k : HeldUser = record { user = c.in-Some.user; held = held_at desk; query_lines = 0 } in
    let journal : c.in_ok-journal.journal ≡ data_journal seats =
    c.in_ok-journal.ensures ∙ ap (λ (l : List Seat). data_journal (held_users l)) c.deref-2.ensures.value in
    let bare : IsBare (data_journal seats) desk = subst (λ j. IsBare j desk) journal c.new-desk.ensures in
    let none = held_position user items ∙ c.requires.none in
    let new = is_new user (hub_by d seats).accepted k c.in-Some.ensures.1
    (bare_held (data_journal seats) desk bare
    ∙ newcomer_of_users d seats (subst (λ a. AllByRecursion (IsUser a) (map (seated d) seats)) c.requires.hub.hub.accepted_is c.requires.hub.hub.users)) refl in
    let long = ap (λ (l : List Seat). length l) c.deref.ensures.value in
    let many = c.deref.ensures.len in
    let room : length seats < USERS_LIMIT = subst (λ n. n < USERS_LIMIT) (sym (held_length items)) (one_free (length items)
    (ap (λ (l : List Seat). nat_le USERS_LIMIT (length l)) (sym c.deref.ensures.value) ∙ sym c.is_full.ensures ∙ c.if-is_full.false)) in
    let pushed : held_users c.push.new.self.items ≡ seats ++ k ∷ [] =
    held_pushed items (record { user = c.in-Some.user; desk = desk; query_lines = 0 }) c.push.new.self.items c.in_ok-push.ensures.items in
    let last = c.len-place.ensures in
    let held = held_length items in
    let place : c.len-place.result ≡ length seats = omega arith in
    seated_pushed user d seats k c.steps_write_what_is_accepted.ensures.command c.requires.hub.hub c.requires.hub.data_lines c.requires.short new none room
    (held_users c.push.new.self.items) c.len-place.result pushed place

pub returns-clause-hub : goal.returns-clause-hub
returns-clause-hub g c =
    let d = c.args.parts.now.data_lines in
    let items = c.args.parts.now.seats.items in
    let seats = held_users items in
    let user = c.args.user.now in
    let desk = c.new-desk.result in
    let k : HeldUser = record { user = c.in-Some.user; held = held_at desk; query_lines = 0 } in
    let journal : c.in_ok-journal.journal ≡ data_journal seats =
    c.in_ok-journal.ensures ∙ ap (λ (l : List Seat). data_journal (held_users l)) c.deref-2.ensures.value in
    let bare : IsBare (data_journal seats) desk = subst (λ j. IsBare j desk) journal c.new-desk.ensures in
    let none = held_position user items ∙ c.requires.none in
    let new = is_new user (hub_by d seats).accepted k c.in-Some.ensures.1
    (bare_held (data_journal seats) desk bare
    ∙ newcomer_of_users d seats (subst (λ a. AllByRecursion (IsUser a) (map (seated d) seats)) c.requires.hub.hub.accepted_is c.requires.hub.hub.users)) refl in
    let long = ap (λ (l : List Seat). length l) c.deref.ensures.value in
    let many = c.deref.ensures.len in
    let room : length seats < USERS_LIMIT = subst (λ n. n < USERS_LIMIT) (sym (held_length items)) (one_free (length items)
    (ap (λ (l : List Seat). nat_le USERS_LIMIT (length l)) (sym c.deref.ensures.value) ∙ sym c.is_full.ensures ∙ c.if-is_full.false)) in
    let pushed : held_users c.push.new.self.items ≡ seats ++ k ∷ [] =
    held_pushed items (record { user = c.in-Some.user; desk = desk; query_lines = 0 }) c.push.new.self.items c.in_ok-push.ensures.items in
    let parts = parts_pushed user d seats k c.steps_write_what_is_accepted.ensures.command c.requires.hub.hub c.requires.hub.data_lines c.requires.short new none room
    (held_users c.push.new.self.items) pushed in
    let reached = data_reached d seats c.steps_write_what_is_accepted.ensures.command
    (subst (λ a. AllByRecursion (IsUser a) (map (seated d) seats)) c.requires.hub.hub.accepted_is c.requires.hub.hub.users) in
    let right = newcomer_is_right c.args.parts.now.shared items desk c.requires.hub.desks reached bare in
    record {
      hub = parts.0;
      data_lines = parts.1;
      desks = subst (AreRightDesks c.args.parts.now.shared) (sym c.in_ok-push.ensures.items)
          (desks_pushed c.args.parts.now.shared items (record { user = c.in-Some.user; desk = desk; query_lines = 0 }) c.requires.hub.desks right);
    }
