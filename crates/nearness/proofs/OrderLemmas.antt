-- For this crate and for the crates above: the order of objects by the squares of their distances.
use Rattle.std.proofs.Common.{◌≡◌, ℕ, ◌≤◌, ℤ, Bool, true, false, ◌&&◌, ◌||◌, nat_lt, ◌⊎◌, inl, inr, Option, None, Some, is_some, List, refl, sym, ap, ◌∙◌, arith}
use Rattle.std.specs.Prelude.{int_lt, All}
use Rattle.std.specs.List.{filter}
use Rattle.std.specs.Ordering.{int_eq}
use Rattle.std.proofs.lemmas.Int.{ints}
use Rattle.std.proofs.lemmas.Bool.{false≢true, cases_Bool}
use Rattle.std.proofs.lemmas.Bool.Decides.{nat_tests, Decides-int_eq}
use Rattle.std.proofs.lemmas.List.Elements.{All-weaker}
use Rattle.nearness.specs.Nearest.{is_near, rank, stands_before}
use Rattle.nearness.proofs.KeptLemmas.{few_by_kept}

either : (a b c : Bool) → (a || (b && c)) ≡ true → (a ≡ true) ⊎ ((b ≡ true) × (c ≡ true))
either true b c is = inl refl
either false true true is = inr (refl, refl)
either false true false is = absurd (false≢true is)
either false false c is = absurd (false≢true is)

both_true : (a b c : Bool) → b ≡ true → c ≡ true → (a || (b && c)) ≡ true
both_true true b c first second = refl
both_true false true true first second = refl
both_true false true false first second = absurd (false≢true second)
both_true false false c first second = absurd (false≢true first)

-- less than one that is less or as much, and the other way about
less_than : (d e f : ℤ) → int_lt d e ≡ true → int_lt e f ≡ true → int_lt d f ≡ true
less_than d e f first second = grind (arith, ints, nat_tests)

less_than_same : (d e f : ℤ) → int_lt d e ≡ true → e ≡ f → int_lt d f ≡ true
less_than_same d e f first same = sym (ap (int_lt d) same) ∙ first

same_less_than : (d e f : ℤ) → d ≡ e → int_lt e f ≡ true → int_lt d f ≡ true
same_less_than d e f same second = ap (λ x. int_lt x f) same ∙ second

earlier : (p q o : ℕ) → nat_lt p q ≡ true → nat_lt q o ≡ true → nat_lt p o ≡ true
earlier p q o first second = grind (arith, nat_tests)

-- what stands before one that stands before another stands before that too
pub before_passes : (d e f : Option ℤ) (p q o : ℕ) → stands_before d p e q ≡ true → stands_before e q f o ≡ true → stands_before d p f o ≡ true
before_passes None None f p q o first second = absurd (false≢true first)
before_passes None (Some e) f p q o first second = absurd (false≢true first)
before_passes (Some d) None f p q o first second = absurd (false≢true first)
before_passes (Some d) (Some e) None p q o first second = absurd (false≢true second)
before_passes (Some d) (Some e) (Some f) p q o first second =
    elim (either (int_lt d e) (int_eq d e) (nat_lt p q) first) [
      | inl less ↦ elim (either (int_lt e f) (int_eq e f) (nat_lt q o) second) [
        | inl more ↦ ap (λ b. b || (int_eq d f && nat_lt p o)) (less_than d e f less more)
        | inr same ↦ ap (λ b. b || (int_eq d f && nat_lt p o)) (less_than_same d e f less ((Decides-int_eq e f).0 same.0))
      ]
      | inr same ↦ elim (either (int_lt e f) (int_eq e f) (nat_lt q o) second) [
        | inl more ↦ ap (λ b. b || (int_eq d f && nat_lt p o)) (same_less_than d e f ((Decides-int_eq d e).0 same.0) more)
        | inr both ↦
            both_true (int_lt d f) (int_eq d f) (nat_lt p o) ((Decides-int_eq d f).1 ((Decides-int_eq d e).0 same.0 ∙ (Decides-int_eq e f).0 both.0))
            (earlier p q o same.1 both.1)
      ]
    ]

-- one that isn't there stands before none
pub none_of_absent : (d e : Option ℤ) (p o : ℕ) → is_some d ≡ false → stands_before d p e o ≡ false
none_of_absent None None p o absent = refl
none_of_absent None (Some e) p o absent = refl
none_of_absent (Some d) e p o absent = absurd (false≢true (sym absent))

left_out : (far : ℕ → Option ℤ) (few : List ℕ) (k x : ℕ) → (is_some (far x) ≡ true → k ≤ rank far few x) →
    ((other : ℕ) → stands_before (far x) x (far other) other ≡ false) ⊎ (k ≤ rank far few x)
left_out far few k x many =
    elim (cases_Bool (is_some (far x))) [
      | inl there ↦ inr (many there)
      | inr absent ↦ inl (λ other. none_of_absent (far x) (far other) x other absent)
    ]

pub near_among_kept : (far : ℕ → Option ℤ) (ids : List ℕ) (keep : ℕ → Bool) (k : ℕ) →
    All (λ x. keep x ≡ false → is_some (far x) ≡ true → k ≤ rank far (filter keep ids) x) ids →
    (o : ℕ) → is_near far ids k o ≡ is_near far (filter keep ids) k o
near_among_kept far ids keep k out o =
    ap (λ few. is_some (far o) && few)
    (few_by_kept (λ p q. stands_before (far p) p (far q) q) (λ p q x. before_passes (far p) (far q) (far x) p q x) ids keep k
    (All-weaker (λ x. keep x ≡ false → is_some (far x) ≡ true → k ≤ rank far (filter keep ids) x)
    (λ x. keep x ≡ false → ((other : ℕ) → stands_before (far x) x (far other) other ≡ false) ⊎ (k ≤ rank far (filter keep ids) x))
    (λ x is left. left_out far (filter keep ids) k x (is left)) ids out) o)
