-- Runs of numbers of which none is left out.
use Rattle.std.proofs.Common.{◌≡◌, inl, inr, ℕ, suc, ◌+◌, ◌-◌, ◌<◌, ◌≤◌, ◌==◌, Bool, true, false, ◌&&◌, Option, None, Some, List, [], ◌∷◌, length, get_or, refl, sym, ap, subst, ◌∙◌, arith}
use Rattle.std.specs.Prelude.{◌||◌, nat_le, IfSome}
use Rattle.std.specs.List.{filter}
use Rattle.std.proofs.lemmas.Bool.{false≢true, and_parts, or_left, or_right}
use Rattle.std.proofs.lemmas.Bool.Decides.{nat_tests}
use Rattle.std.proofs.lemmas.List.Elements.{filter_agree}
use Rattle.object_store.specs.declared.run.Run.{Run}
use Rattle.object_store.specs.Areas.{is_listed}
use Rattle.object_store.specs.Contents.{StoredObject, ids_in}
use Rattle.object_store.specs.Placing.{is_in_class}
use Rattle.object_store.specs.Run.{is_in_run}
use Rattle.object_store.specs.Searching.{AreFrom}
use Rattle.object_store.proofs.ToldLemmas.{listed_in_class}
use Rattle.exact.proofs.Naturals.{equal_if_same, same_or_other}

least_step : (low n last : ℕ) → low + 1 + n ≤ last → low + suc n ≤ last
least_step low n last h = omega (arith, h)

most_step : (low n m : ℕ) → m ≤ low + suc n → m ≤ low + 1 + n
most_step low n m h = omega (arith, h)

-- the last of ascending numbers is past the first by their count at least
last_least : (low x : ℕ) (xs : List ℕ) → low ≤ x → AreFrom (x + 1) xs → low + length xs ≤ get_or (x ∷ xs) (length xs) 0
last_least low x [] order are = omega (arith, order)
last_least low x (y ∷ ys) order are =
    least_step low (length ys) (get_or (y ∷ ys) (length ys) 0) (last_least (low + 1) y ys (omega (arith, order, are.0)) are.1)

is_first : (low x n last : ℕ) → low ≤ x → last ≤ low + n → x + n ≤ last → x ≡ low
is_first low x n last order short least = omega (arith, order, short, least)

is_only : (low x number : ℕ) → low ≤ x → x ≤ low + 0 → low ≤ number → number ≤ low + 0 → x ≡ number
is_only low x number order short from upto = omega (arith, order, short, from, upto)

-- where it isn't past it by more, all between them are there
all_listed : (low x : ℕ) (xs : List ℕ) (number : ℕ) → low ≤ x → AreFrom (x + 1) xs → get_or (x ∷ xs) (length xs) 0 ≤ low + length xs
    → low ≤ number → number ≤ low + length xs → is_listed (x ∷ xs) number ≡ true
all_listed low x [] number order are short from upto = or_left (x == number) (is_listed [] number) (equal_if_same x number (is_only low x number order short from upto))
all_listed low x (y ∷ ys) number order are short from upto =
    let first : x ≡ low = is_first low x (length (y ∷ ys)) (get_or (x ∷ y ∷ ys) (length (y ∷ ys)) 0) order short (last_least x x (y ∷ ys) (omega arith) are) in
    elim (same_or_other number x) [
      | inl same ↦ or_left (x == number) (is_listed (y ∷ ys) number) (equal_if_same x number (sym same))
      | inr differs ↦ or_right (x == number) (is_listed (y ∷ ys) number)
          (all_listed (low + 1) y ys number (omega (arith, first, are.0)) are.1 (most_step low (length ys) (get_or (y ∷ ys) (length ys) 0) short)
          (omega (arith, from, differs, first)) (most_step low (length ys) number upto))
    ]

-- the run from the first number to that of an index
abbrev pub run_to : List ℕ → ℕ → Run
run_to numbers n = record { first = get_or numbers 0 0; last = get_or numbers n 0 }

between : (first last number : ℕ) → (nat_le first number && nat_le number last) ≡ true → (first ≤ number) × (number ≤ last)
between first last number h =
    let both = and_parts (nat_le first number) (nat_le number last) h in
    let from = both.0 in
    let upto = both.1 in
    (grind (arith, nat_tests, from), grind (arith, nat_tests, upto))

pub run_listed : (numbers : List ℕ) (number : ℕ) → AreFrom 0 numbers → 0 < length numbers → get_or numbers 0 0 + (length numbers - 1) ≡ get_or numbers (length numbers - 1) 0
    → is_in_run (Some (run_to numbers (length numbers - 1))) number ≡ true → is_listed numbers number ≡ true
run_listed [] number are some whole there = absurd (omega (arith, some))
run_listed (x ∷ xs) number are some whole there =
    let last : ℕ = get_or (x ∷ xs) (length xs) 0 in
    let long : length (x ∷ xs) - 1 ≡ length xs = omega arith in
    let reach : x + length xs ≡ last = subst (λ n. x + n ≡ get_or (x ∷ xs) n 0) long whole in
    let inside = between x last number (subst (λ n. is_in_run (Some (run_to (x ∷ xs) n)) number ≡ true) long there) in
    all_listed x x xs number (omega arith) are.1 (omega (arith, reach)) inside.0 (subst (λ n. number ≤ n) (sym reach) inside.1)

-- what is in a run of ids of a class is of the class
in_either : (there its : Bool) → (there ≡ true → its ≡ true) → (there || its) ≡ its
in_either true its all = sym (all refl)
in_either false its all = refl

module _ (objects : List StoredObject) (class : ℕ) (own : List ℕ) (are : own ≡ ids_in objects class) where
  abbrev IsOfOwn : Run → Type 0
  IsOfOwn run = (number : ℕ) → is_in_run (Some run) number ≡ true → is_listed own number ≡ true

  own_listed : (run : Option Run) → IfSome run IsOfOwn → (number : ℕ) → is_in_run run number ≡ true → is_listed own number ≡ true
  own_listed None told number there = absurd (false≢true there)
  own_listed (Some run) told number there = told number there

  pub filter_either : (run : Option Run) (ids : List ℕ) → IfSome run IsOfOwn
      → filter (λ id. is_in_run run id || is_in_class objects class id) ids ≡ filter (is_in_class objects class) ids
  filter_either run ids told =
      filter_agree (λ id. is_in_run run id || is_in_class objects class id) (is_in_class objects class)
      (λ id. in_either (is_in_run run id) (is_in_class objects class id)
      (λ there. sym (listed_in_class objects class id) ∙ ap (λ list. is_listed list id) (sym are) ∙ own_listed run told id there)) ids
