-- A user is alone among users who are apart.
use Rattle.std.proofs.Common.{◌≡◌, ℕ, zero, suc, true, false, List, [], ◌∷◌, ◌++◌, map, Some, ◌∙◌, subst}
use Rattle.std.specs.Prelude.{find, slice_get}
use Rattle.std.specs.List.{AllByRecursion}
use Rattle.std.specs.Str.{bytes_eq}
use Rattle.feeds_meaning.specs.Hub.{Seated, has_user}
use Rattle.hub.specs.Seats.{AreDistinctUsers}
use Rattle.exact.proofs.Items.{all_pushed, bytes_eq_swap}
use Rattle.exact.proofs.Lists.{bytes_eq_refl}

-- ---- Names

-- ---- What holds of each

pub at_all : {A : Type 0} (P : A → Type 0) (xs : List A) (place : ℕ) (x : A) → AllByRecursion P xs → slice_get xs place ≡ Some x → P x
at_all P [] place x all e = absurd (cc)
at_all P (y ∷ xs) zero x all e = let same : y ≡ x = cc in subst P same all.0
at_all P (y ∷ xs) (suc place) x all e = at_all P xs place x all.1 e

pub all_mapped : {A B : Type 0} (P : A → Type 0) (Q : B → Type 0) (f : A → B) (xs : List A) → ((x : A) → P x → Q (f x)) → AllByRecursion P xs →
    AllByRecursion Q (map f xs)
all_mapped P Q f [] each all = tt
all_mapped P Q f (x ∷ xs) each all = (each x all.0, all_mapped P Q f xs each all.1)

-- ---- Places

-- the user has the place and no other
abbrev pub IsAloneAt : List ℕ → ℕ → List Seated → Type 0
IsAloneAt user place [] = ⊥
IsAloneAt user zero (s ∷ seats) = (has_user user s ≡ true) × AllByRecursion (λ t. has_user user t ≡ false) seats
IsAloneAt user (suc place) (s ∷ seats) = (has_user user s ≡ false) × IsAloneAt user place seats

pub alone : (seats : List Seated) (place : ℕ) (s : Seated) → slice_get seats place ≡ Some s → AreDistinctUsers seats → IsAloneAt s.user place seats
alone [] place s e apart = absurd (cc)
alone (x ∷ seats) zero s e apart =
    let same : x ≡ s = cc in
    subst (λ (y : Seated). IsAloneAt y.user 0 (x ∷ seats)) same (bytes_eq_refl x.user, apart.0)
alone (x ∷ seats) (suc place) s e apart =
    let other : has_user x.user s ≡ false = at_all (λ t. has_user x.user t ≡ false) seats place s apart.0 e in
    (bytes_eq_swap s.user x.user ∙ other, alone seats place s e apart.1)

pub found_at : (user : List ℕ) (seats : List Seated) (place : ℕ) (s : Seated) → IsAloneAt user place seats → slice_get seats place ≡ Some s →
    find (has_user user) seats ≡ Some s
found_at user [] place s at e = absurd at
found_at user (x ∷ seats) zero s at e = rw at.0 e
found_at user (x ∷ seats) (suc place) s at e = rw at.0 (found_at user seats place s at.1 e)

-- no other users come, and each stays who he is
pub apart_mapped : (f : Seated → Seated) (seats : List Seated) → ((s : Seated) → (f s).user ≡ s.user) → AreDistinctUsers seats → AreDistinctUsers (map f seats)
apart_mapped f [] same apart = tt
apart_mapped f (s ∷ seats) same apart = (
  all_mapped (λ t. has_user s.user t ≡ false) (λ t. has_user (f s).user t ≡ false) f seats
      (λ t h. (λ i. bytes_eq (same s i) (same t i)) ∙ h) apart.0,
  apart_mapped f seats same apart.1,
)

pub apart_pushed : (seats : List Seated) (s : Seated) → AllByRecursion (λ t. has_user s.user t ≡ false) seats → AreDistinctUsers seats →
    AreDistinctUsers (seats ++ s ∷ [])
apart_pushed [] s none apart = (tt, tt)
apart_pushed (x ∷ seats) s none apart = (
  all_pushed (λ t. has_user x.user t ≡ false) seats s apart.0 (bytes_eq_swap x.user s.user ∙ none.0),
  apart_pushed seats s none.1 apart.1,
)
