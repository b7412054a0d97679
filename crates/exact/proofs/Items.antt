-- For this crate and for the crates above: items of lists, of options and of results.
use Rattle.std.proofs.Common.{Bool, Err, List, None, Ok, Option, Some, [], ap, append-nil, append_assoc, arith, cond, false, get_or, inl, inr, length, map, one-add, option_map, refl, suc, sym, take, true, zero, ℕ, ◌&&◌, ◌++◌, ◌+◌, ◌<◌, ◌||◌, ◌∙◌, ◌∷◌, ◌≡◌, ◌≤◌}
use Rattle.std.specs.List.{AllByRecursion, filter, flat_map, list_all, list_any, prefix_len, range_with_len}
use Rattle.std.specs.Prelude.{IfSome, OnOk, Result, count_by, is_some, slice_get}
use Rattle.std.proofs.lemmas.List.Sums.{sum_by-cons}
use Rattle.std.specs.Str.{bytes_eq}
use Rattle.std.specs.Cmp.Lexicographic.{nat_list_eq_equiv}
use Rattle.std.proofs.lemmas.Bool.{and_from, and_parts, cases_Bool, false≢true, or_cases, or_left, or_right}
use Rattle.std.specs.Option.{option_map_or}
use Rattle.std.specs.Fmt.{sign_text}
use Rattle.std.proofs.lemmas.Slice.Eq.{bytes_eq-Decides}
use Rattle.exact.specs.Options.{◌>>=◌}

pub untrue_where_none : (b : Bool) (n : ℕ) → cond b (Some n) None ≡ None → b ≡ false
untrue_where_none true n h = absurd (cc h)
untrue_where_none false n h = refl

pub filter_false : (ts : List ℕ) → filter (λ t. false) ts ≡ []
filter_false [] = refl
filter_false (t ∷ ts) = filter_false ts

pub count_by-cons : (p : ℕ → Bool) (t : ℕ) (ts : List ℕ) → count_by p (t ∷ ts) ≡ cond (p t) 1 0 + count_by p ts
count_by-cons p t ts = sum_by-cons (λ u. cond (p u) 1 0) t ts

pub none_in_range : (p : ℕ → Bool) (n a : ℕ) → ((t : ℕ) → a ≤ t → t < a + n → p t ≡ false) → filter p (range_with_len a n) ≡ []
none_in_range p zero a h = refl
none_in_range p (suc n) a h = rw (h a (omega arith) (omega arith)) (none_in_range p n (a + 1) (λ t l k. h t (omega (arith, l)) (omega (arith, k))))

pub bytes_eq_swap : (a b : List ℕ) → bytes_eq a b ≡ bytes_eq b a
bytes_eq_swap a b = nat_list_eq_equiv.symm a b

pub range_append : (m n a : ℕ) → range_with_len a (m + n) ≡ range_with_len a m ++ range_with_len (a + m) n
range_append zero n a = λ i. range_with_len ((let e : a ≡ a + 0 = omega arith in e) i) ((let e : 0 + n ≡ n = omega arith in e) i)
range_append (suc m) n a =
    ap (range_with_len a) (let e : suc m + n ≡ suc (m + n) = omega arith in e)
    ∙ ap (λ (xs : List ℕ). a ∷ xs) (range_append m n (a + 1))
    ∙ ap (λ (b : ℕ). a ∷ (range_with_len (a + 1) m ++ range_with_len b n)) (let e : a + 1 + m ≡ a + suc m = omega arith in e)

pub if_some_map : {A : Type 0} (r : Option A) (P Q : A → Type 0) → ((x : A) → P x → Q x) → IfSome r P → IfSome r Q
if_some_map None P Q f is = is
if_some_map (Some x) P Q f is = f x is

pub none_from_test : {A : Type 0} (o : Option A) → is_some o ≡ false → o ≡ None
none_from_test None e = refl
none_from_test (Some a) e = absurd (let f : true ≡ false = e in cc)

pub all_from_at : {X : Type 0} (p : X → Bool) (xs : List X) → ((k : ℕ) (d : X) → k < length xs → p (get_or xs k d) ≡ true) → list_all p xs ≡ true
all_from_at p [] h = refl
all_from_at p (x ∷ xs) h = and_from _ _ (h 0 x (omega arith)) (all_from_at p xs (λ k d l. h (suc k) d (omega (arith, l))))

pub flat_map-take-suc : {X : Type 0} (f : X → List ℕ) (xs : List X) (i : ℕ) → flat_map f (take (suc i) xs) ≡ flat_map f (take i xs) ++ option_map_or f (slice_get xs i) []
flat_map-take-suc f [] zero = refl
flat_map-take-suc f [] (suc i) = refl
flat_map-take-suc f (x ∷ xs) zero = append-nil (f x)
flat_map-take-suc f (x ∷ xs) (suc i) =
    ap (λ lines. f x ++ lines) (flat_map-take-suc f xs i)
    ∙ sym (append_assoc (f x) (flat_map f (take i xs)) (option_map_or f (slice_get xs i) []))

pub all_pushed : {X : Type 0} (P : X → Type 0) (xs : List X) (x : X) → AllByRecursion P xs → P x → AllByRecursion P (xs ++ x ∷ [])
all_pushed P [] x all this = (this, tt)
all_pushed P (y ∷ xs) x all this = (all.0, all_pushed P xs x all.1 this)

pub slice_get-append : {X : Type 0} (xs ys : List X) (n : ℕ) → n < length xs → slice_get (xs ++ ys) n ≡ slice_get xs n
slice_get-append [] ys n h = absurd (omega (arith, h))
slice_get-append (x ∷ xs) ys zero h = refl
slice_get-append (x ∷ xs) ys (suc n) h = slice_get-append xs ys n (omega (arith, h))

pub bind_some : {A B : Type 0} (o : Option A) (f : A → Option B) (y : B) → (o >>= f) ≡ Some y → (x : A) × (o ≡ Some x) × (f x ≡ Some y)
bind_some None f y e = absurd (cc)
bind_some (Some x) f y e = (x, refl, e)

pub on_ok : {T E : Type 0} (r : Result T E) (P Q : Type 0) → (P → Q) → OnOk r P → OnOk r Q
on_ok (Ok x) P Q f is = f is
on_ok (Err e) P Q f is = is

pub no_value : {A B : Type 0} (x : B) → None ≡ Some x → A
no_value x is = let wrong : ⊥ = cc in absurd wrong

pub any_mapped : {A B : Type 0} (test : B → Bool) (f : A → B) (xs : List A) → list_any test (map f xs) ≡ list_any (λ x. test (f x)) xs
any_mapped test f [] = refl
any_mapped test f (x ∷ xs) = ap (λ b. test (f x) || b) (any_mapped test f xs)

pub sign_short : (negative : Bool) → length (sign_text negative) ≤ 1
sign_short true = omega arith
sign_short false = omega arith

pub any_and : (test : List ℕ → Bool) (always : Bool) (holds : List ℕ → Bool) (xs : List (List ℕ)) →
    list_any (λ x. test x && (always && holds x)) xs ≡ (always && list_any (λ x. test x && holds x) xs)
any_and test always holds [] = grind (arith)
any_and test always holds (x ∷ xs) = grind (arith, any_and test always holds xs)

pub front_passes : (p : ℕ → Bool) (xs : List ℕ) → list_all p (take (prefix_len p xs) xs) ≡ true
front_passes p [] = refl
front_passes p (x ∷ xs) = elim (cases_Bool (p x)) [
  | inl yes_it ↦ rw (yes_it, one-add, yes_it) (front_passes p xs)
  | inr other ↦ rw other refl
]

pub bytes_differ_swap : (xs ys : List ℕ) → bytes_eq xs ys ≡ false → bytes_eq ys xs ≡ false
bytes_differ_swap xs ys differs = elim (cases_Bool (bytes_eq ys xs)) [
  | inl same ↦ absurd (false≢true (sym differs ∙ (bytes_eq-Decides xs ys).1 (sym ((bytes_eq-Decides ys xs).0 same))))
  | inr other ↦ other
]

pub all_joined : {X : Type 0} (P : X → Type 0) (xs ys : List X) → AllByRecursion P xs → AllByRecursion P ys → AllByRecursion P (xs ++ ys)
all_joined P [] ys front back = back
all_joined P (x ∷ xs) ys front back = (front.0, all_joined P xs ys front.1 back)

pub all_weaker : {X : Type 0} (p q : X → Bool) → ((x : X) → p x ≡ true → q x ≡ true) → (xs : List X) → list_all p xs ≡ true → list_all q xs ≡ true
all_weaker p q f [] h = refl
all_weaker p q f (x ∷ xs) h =
    let parts : (p x ≡ true) × (list_all p xs ≡ true) = and_parts _ _ h in
    and_from _ _ (f x parts.0) (all_weaker p q f xs parts.1)

pub any_weaker : {X : Type 0} (f g : X → Bool) → ((x : X) → f x ≡ true → g x ≡ true) → (xs : List X) → list_any f xs ≡ true → list_any g xs ≡ true
any_weaker f g more [] has = has
any_weaker f g more (x ∷ xs) has = elim (or_cases (f x) (list_any f xs) has) [
  | inl here ↦ or_left (g x) (list_any g xs) (more x here)
  | inr later ↦ or_right (g x) (list_any g xs) (any_weaker f g more xs later)
]

pub map_some : {A B : Type 0} (f : A → B) (o : Option A) (y : B) → option_map f o ≡ Some y → (x : A) × (o ≡ Some x) × (f x ≡ y)
map_some f None y e = absurd (cc)
map_some f (Some x) y e = (x, refl, cc)
