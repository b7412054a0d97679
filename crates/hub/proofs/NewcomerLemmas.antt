-- What the data commands of a journal leave of a user who sent no line: the journal of these commands alone.
use Rattle.std.proofs.Common.{◌≡◌, ◌+◌, List, [], ◌∷◌, ◌++◌, length, map, refl, sym, ap, ◌∙◌, append-nil, append_assoc, inl, inr, arith}
use Rattle.std.proofs.lemmas.Bool.{cases_Bool}
use Rattle.command_text.specs.Journal.{Accepted}
use Rattle.command_text.specs.Tree.{CommandTree}
use Rattle.line_meaning.specs.Judging.{held, held_after}
use Rattle.line_meaning.specs.Reached.{AreReached}
use Rattle.feeds_meaning.specs.Heard.{Other, Seat, empty_seat, other_by, seat_after}
use Rattle.feeds_meaning.specs.Hub.{newcomer}
use Rattle.feeds_meaning.specs.Lines.{is_data}
use Rattle.hub.specs.Seats.{data_commands, data_entries}
use Rattle.hub.proofs.DataLemmas.{data_more, replayed_holds}

replay_from : (before later : List Accepted) (s : Seat) → AreReached before later → s.held ≡ held (data_entries before) →
    (seat_after s (map Other (data_commands later))).held ≡ held (data_entries (before ++ later))
replay_from before [] s reached e = e ∙ ap (λ j. held (data_entries j)) (sym (append-nil before))
replay_from before (x ∷ later) s reached e = elim (cases_Bool (is_data x.1)) [
  | inl is ↦
      let next : Seat = (other_by s x.1).0 in
      let here : next.held ≡ held (data_entries (before ++ x ∷ [])) =
      ap (λ h. held_after h x.1) e ∙ replayed_holds before x reached.0 is in
      rw is (replay_from (before ++ x ∷ []) later next reached.1 here ∙ ap (λ j. held (data_entries j)) (append_assoc before (x ∷ []) later))
  | inr other ↦
      let none : data_entries (before ++ x ∷ []) ≡ data_entries before = data_more before x ∙ rw other (append-nil (data_entries before)) in
      rw other (
      replay_from (before ++ x ∷ []) later s reached.1 (e ∙ ap held (sym none))
      ∙ ap (λ j. held (data_entries j)) (append_assoc before (x ∷ []) later))
]

pub newcomer_holds : (journal : List Accepted) → AreReached [] journal → (newcomer (data_commands journal)).held ≡ held (data_entries journal)
newcomer_holds journal reached = replay_from [] journal empty_seat reached refl

counts_from : (cs : List CommandTree) (s : Seat) → (seat_after s (map Other cs)).data_lines ≡ s.data_lines + length cs
counts_from [] s = omega arith
counts_from (c ∷ cs) s = let later = counts_from cs (other_by s c).0 in omega arith

pub newcomer_counts : (cs : List CommandTree) → (newcomer cs).data_lines ≡ length cs
newcomer_counts cs = let all = counts_from cs empty_seat in omega arith

asks_from : (cs : List CommandTree) (s : Seat) → (seat_after s (map Other cs)).query_lines ≡ s.query_lines
asks_from [] s = refl
asks_from (c ∷ cs) s = asks_from cs (other_by s c).0

pub newcomer_asks : (cs : List CommandTree) → (newcomer cs).query_lines ≡ 0
newcomer_asks cs = asks_from cs empty_seat
