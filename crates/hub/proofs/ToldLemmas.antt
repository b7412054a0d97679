-- What a command of the user at a place leaves of all users, and what is told of it.
use Rattle.std.proofs.Common.{◌≡◌, ℕ, zero, suc, ◌+◌, true, false, List, [], ◌∷◌, ◌++◌, map, None, Some, Option, refl, sym, ap, ◌∙◌, subst, append-nil, inl, inr}
use Rattle.std.proofs.lemmas.Bool.{cases_Bool}
use Rattle.std.specs.Prelude.{slice_get, slice_set}
use Rattle.std.specs.List.{AllByRecursion, flat_map}
use Rattle.command_text.specs.declared.refusal.Refusal.{Refusal}
use Rattle.command_text.specs.Tree.{CommandTree}
use Rattle.users.specs.Tagged.{tagged}
use Rattle.feeds_meaning.specs.Heard.{own_text}
use Rattle.feeds_meaning.specs.Hub.{Seated, has_user}
use Rattle.feeds_meaning.specs.Lines.{is_data}
use Rattle.hub.specs.Answering.{answer_by}
use Rattle.hub.specs.Told.{HeldUser as Kept}
use Rattle.hub.specs.Told.{change_by, kept_own, kept_told, seated, seated_by, told_kept, told_to_seat}
use Rattle.hub.proofs.PlaceLemmas.{IsAloneAt}
use Rattle.exact.proofs.Lists.{bytes_eq_true}

module _ (user : List ℕ) (c : CommandTree) (d : ℕ) where
  -- ---- A data command that is accepted

  others_kept : (seats : List Kept) → is_data c ≡ true → AllByRecursion (λ t. has_user user t ≡ false) (map (seated d) seats) →
      map (seated (d + 1)) (map (kept_told user c) seats) ≡ map (seated_by user c None) (map (seated d) seats)
  others_kept [] is others = refl
  others_kept (t ∷ seats) is others =
      let later = others_kept seats is others.1 in
      let here : seated (d + 1) (kept_told user c t) ≡ seated_by user c None (seated d t) = rw (others.0, is) refl in
      λ i. here i ∷ later i

  pub data_kept : (seats : List Kept) (place : ℕ) (s : Kept) → is_data c ≡ true → IsAloneAt user place (map (seated d) seats) →
      slice_get seats place ≡ Some s →
      map (seated (d + 1)) (map (kept_told user c) (slice_set seats place (kept_own c None s))) ≡ map (seated_by user c None) (map (seated d) seats)
  data_kept [] place s is at e = absurd at
  data_kept (t ∷ seats) zero s is at e =
      let same : t ≡ s = cc in
      let later = others_kept seats is at.1 in
      let here : seated (d + 1) (kept_told user c (kept_own c None t)) ≡ seated_by user c None (seated d t) = rw (at.0, is) refl in
      let both : seated (d + 1) (kept_told user c (kept_own c None s)) ≡ seated_by user c None (seated d t) =
      subst (λ (x : Kept). seated (d + 1) (kept_told user c (kept_own c None x)) ≡ seated_by user c None (seated d t)) same here in
      λ i. both i ∷ later i
  data_kept (t ∷ seats) (suc place) s is at e =
      let later = data_kept seats place s is at.1 e in
      let here : seated (d + 1) (kept_told user c t) ≡ seated_by user c None (seated d t) = rw (at.0, is) refl in
      λ i. here i ∷ later i

  others_told : (own : List ℕ) (seats : List Kept) → is_data c ≡ true → AllByRecursion (λ t. has_user user t ≡ false) (map (seated d) seats) →
      flat_map (told_kept user own c) seats ≡ flat_map (told_to_seat user c None) (map (seated d) seats)
  others_told own [] is others = refl
  others_told own (t ∷ seats) is others =
      let later = others_told own seats is others.1 in
      let here : told_kept user own c t ≡ told_to_seat user c None (seated d t) = rw (others.0, is) refl in
      λ i. here i ++ later i

  pub data_told : (own : List ℕ) (seats : List Kept) (place : ℕ) (s : Kept) → is_data c ≡ true → IsAloneAt user place (map (seated d) seats) →
      slice_get seats place ≡ Some s → own ≡ own_text s.held c →
      flat_map (told_kept user own c) (slice_set seats place (kept_own c None s)) ≡ flat_map (told_to_seat user c None) (map (seated d) seats)
  data_told own [] place s is at e o = absurd at
  data_told own (t ∷ seats) zero s is at e o =
      let same : t ≡ s = cc in
      let later = others_told own seats is at.1 in
      let text : own ≡ own_text t.held c = o ∙ ap (λ (x : Kept). own_text x.held c) (sym same) in
      let here : told_kept user own c (kept_own c None t) ≡ told_to_seat user c None (seated d t) = rw at.0 (ap (tagged t.user) text) in
      let both : told_kept user own c (kept_own c None s) ≡ told_to_seat user c None (seated d t) =
      subst (λ (x : Kept). told_kept user own c (kept_own c None x) ≡ told_to_seat user c None (seated d t)) same here in
      λ i. both i ++ later i
  data_told own (t ∷ seats) (suc place) s is at e o =
      let later = data_told own seats place s is at.1 e o in
      let here : told_kept user own c t ≡ told_to_seat user c None (seated d t) = rw (at.0, is) refl in
      λ i. here i ++ later i

  -- ---- What is no data command or is refused

  others_stay : (r : Option Refusal) (seats : List Kept) → change_by c r ≡ None → AllByRecursion (λ t. has_user user t ≡ false) (map (seated d) seats) →
      map (seated d) seats ≡ map (seated_by user c r) (map (seated d) seats)
  others_stay r [] nothing others = refl
  others_stay r (t ∷ seats) nothing others =
      let later = others_stay r seats nothing others.1 in
      let here : seated d t ≡ seated_by user c r (seated d t) = rw (others.0, nothing) refl in
      λ i. here i ∷ later i

  own_stays : (r : Option Refusal) (s : Kept) → change_by c r ≡ None → has_user user (seated d s) ≡ true →
      seated d (kept_own c r s) ≡ seated_by user c r (seated d s)
  own_stays (Some refusal) s nothing own = rw own refl
  own_stays None s nothing own = elim (cases_Bool (is_data c)) [
    | inl is ↦ let some : change_by c None ≡ Some c = rw is refl in let bad = sym some ∙ nothing in absurd (cc)
    | inr other ↦ rw (own, other) refl
  ]

  pub plain_kept : (r : Option Refusal) (seats : List Kept) (place : ℕ) (s : Kept) → change_by c r ≡ None → IsAloneAt user place (map (seated d) seats) →
      slice_get seats place ≡ Some s → map (seated d) (slice_set seats place (kept_own c r s)) ≡ map (seated_by user c r) (map (seated d) seats)
  plain_kept r [] place s nothing at e = absurd at
  plain_kept r (t ∷ seats) zero s nothing at e =
      let same : t ≡ s = cc in
      let later = others_stay r seats nothing at.1 in
      let both : seated d (kept_own c r s) ≡ seated_by user c r (seated d t) =
      subst (λ (x : Kept). seated d (kept_own c r x) ≡ seated_by user c r (seated d t)) same (own_stays r t nothing at.0) in
      λ i. both i ∷ later i
  plain_kept r (t ∷ seats) (suc place) s nothing at e =
      let later = plain_kept r seats place s nothing at.1 e in
      let here : seated d t ≡ seated_by user c r (seated d t) = rw (at.0, nothing) refl in
      λ i. here i ∷ later i

  others_silent : (r : Option Refusal) (seats : List Seated) → change_by c r ≡ None → AllByRecursion (λ t. has_user user t ≡ false) seats →
      flat_map (told_to_seat user c r) seats ≡ []
  others_silent r [] nothing others = refl
  others_silent r (t ∷ seats) nothing others =
      let here : told_to_seat user c r t ≡ [] = rw (others.0, nothing) refl in
      ap (λ l. l ++ flat_map (told_to_seat user c r) seats) here ∙ others_silent r seats nothing others.1

  own_said : (r : Option Refusal) (s : Kept) → has_user user (seated d s) ≡ true → told_to_seat user c r (seated d s) ≡ tagged user (answer_by s.held c r)
  own_said (Some refusal) s own = rw own (ap (λ u. tagged u (answer_by s.held c (Some refusal))) (sym (bytes_eq_true user s.user own)))
  own_said None s own = rw own (ap (λ u. tagged u (answer_by s.held c None)) (sym (bytes_eq_true user s.user own)))

  pub plain_told : (r : Option Refusal) (seats : List Kept) (place : ℕ) (s : Kept) → change_by c r ≡ None → IsAloneAt user place (map (seated d) seats) →
      slice_get seats place ≡ Some s → flat_map (told_to_seat user c r) (map (seated d) seats) ≡ tagged user (answer_by s.held c r)
  plain_told r [] place s nothing at e = absurd at
  plain_told r (t ∷ seats) zero s nothing at e =
      let same : t ≡ s = cc in
      let silent = others_silent r (map (seated d) seats) nothing at.1 in
      (λ i. own_said r t at.0 i ++ silent i) ∙ append-nil (tagged user (answer_by t.held c r)) ∙ ap (λ (x : Kept). tagged user (answer_by x.held c r)) same
  plain_told r (t ∷ seats) (suc place) s nothing at e =
      let here : told_to_seat user c r (seated d t) ≡ [] = rw (at.0, nothing) refl in
      ap (λ l. l ++ flat_map (told_to_seat user c r) (map (seated d) seats)) here ∙ plain_told r seats place s nothing at.1 e
