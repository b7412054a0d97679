-- For this crate and for the crates above: the rows of a query, variable by variable.
use Rattle.std.proofs.Common.{◌≡◌, ℕ, zero, suc, ◌+◌, ◌-◌, ◌<◌, ◌≤◌, Bool, true, false, not, ◌&&◌, ◌||◌, ◌==◌, nat_lt, List, [], ◌∷◌, ◌++◌, refl, sym, ap, ◌∙◌, subst, arith}
use Rattle.std.specs.List.{list_all, range_with_len, sum_by}
use Rattle.std.specs.List.Sorted.{IsStrictlyIncreasing}
use Rattle.std.proofs.lemmas.Bool.{and_parts, le-ltb, lt-ltb}
use Rattle.std.proofs.lemmas.List.Folds.{list_all-append}
use Rattle.std.proofs.lemmas.List.Sums.{sum_by-append}
use Rattle.tick_set.specs.Ticks.{between, within}
use Rattle.formula.specs.Tree.{ResolvedTree}
use Rattle.formula.specs.Variables.{has_variable, variables_in, variables_of}
use Rattle.relation.specs.Frames.{Frame, IsIn, frame, vars_of_both}
use Rattle.relation.specs.Key.{has_id}
use Rattle.relation.specs.Rows.{Table, table_has}
use Rattle.evaluator.specs.Rows.{AreRowsWhere}
use Rattle.evaluator.specs.inner.Away.{AreAwayFor}
use Rattle.formula.proofs.CallerLemmas.{variables_same}
use Rattle.evaluator.proofs.VariableLemmas.{ascending_variables, both_variables, same_variables_twice}
use Rattle.exact.proofs.Naturals.{below_next}

range_more : (a n : ℕ) → range_with_len a (suc n) ≡ range_with_len a n ++ (a + n) ∷ []
range_more a zero = ap (λ (z : ℕ). z ∷ []) (let e : a ≡ a + 0 = omega arith in e)
range_more a (suc n) =
    ap (λ (zs : List ℕ). a ∷ zs)
    (range_more (a + 1) n ∙ ap (λ (z : ℕ). range_with_len (a + 1) n ++ z ∷ []) (let e : a + 1 + n ≡ a + suc n = omega arith in e))

pub between_more : (n : ℕ) → between 0 (n + 1) ≡ between 0 n ++ n ∷ []
unfolding between
between_more n =
    ap (range_with_len 0) (let e : n + 1 - 0 ≡ suc n = omega arith in e)
    ∙ range_more 0 n
    ∙ (λ i. range_with_len 0 ((let e : n ≡ n - 0 = omega arith in e) i) ++ (let e : 0 + n ≡ n = omega arith in e) i ∷ [])

and_true : (x y : Bool) → (x && (y && true)) ≡ (x && y)
and_true x true = refl
and_true x false = refl

pub all_more : (p : ℕ → Bool) (n : ℕ) → list_all p (between 0 (n + 1)) ≡ (list_all p (between 0 n) && p n)
all_more p n = ap (list_all p) (between_more n) ∙ list_all-append p (between 0 n) (n ∷ []) ∙ and_true (list_all p (between 0 n)) (p n)

pub sum_more : (f : ℕ → ℕ) (n : ℕ) → sum_by f (between 0 (n + 1)) ≡ sum_by f (between 0 n) + f n
sum_more f n =
    ap (sum_by f) (between_more n) ∙ sum_by-append f (between 0 n) (n ∷ []) ∙ ap (λ (z : ℕ). sum_by f (between 0 n) + z) (let e : sum_by f (n ∷ []) ≡ f n = omega arith in e)

all_none : (p : ℕ → Bool) → list_all p (between 0 0) ≡ true
unfolding between
all_none p = refl

pub sum_none : (f : ℕ → ℕ) → sum_by f (between 0 0) ≡ 0
unfolding between
sum_none f = refl

first_variables : (n : ℕ) → n ≤ 4 → variables_in (λ v. nat_lt v n) ≡ between 0 n
unfolding between
first_variables zero l = refl
first_variables (suc zero) l = refl
first_variables (suc (suc zero)) l = refl
first_variables (suc (suc (suc zero))) l = refl
first_variables (suc (suc (suc (suc zero)))) l = refl
first_variables (suc (suc (suc (suc (suc n))))) l = absurd (omega (arith, l))

pub one_variable : (v : ℕ) → v < 4 → variables_in (λ u. u == v) ≡ v ∷ []
one_variable zero l = refl
one_variable (suc zero) l = refl
one_variable (suc (suc zero)) l = refl
one_variable (suc (suc (suc zero))) l = refl
one_variable (suc (suc (suc (suc v)))) l = absurd (omega (arith, l))

or_false : (x y : Bool) → y ≡ false → x ≡ (x || y)
or_false true y e = refl
or_false false y e = sym e

last_test : (x y : Bool) → (x ≡ true → y ≡ true) → (x || y) ≡ y
last_test true y f = sym (f refl)
last_test false y f = refl

and_all : (w s a p : Bool) → ((w && (s && a)) && not (w && not p)) ≡ (w && (s && (a && p)))
and_all true true true true = refl
and_all true true true false = refl
and_all true true false p = refl
and_all true false a p = refl
and_all false s a p = refl

and_among : (x y z : Bool) → (x ≡ true → y ≡ z) → (x && not y) ≡ (x && not z)
and_among true y z f = ap not (f refl)
and_among false y z f = refl

and_swap : (w s a : Bool) → (w && (s && a)) ≡ (w && (a && s))
and_swap true true true = refl
and_swap true true false = refl
and_swap true false true = refl
and_swap true false false = refl
and_swap false s a = refl

and_one : (w s a : Bool) → a ≡ true → (w && s) ≡ (w && (s && a))
and_one true true a e = sym e
and_one true false a e = refl
and_one false s a e = refl

-- the formula's variables and the first ones
abbrev pub variables_upto : ResolvedTree → ℕ → List ℕ
variables_upto f n = variables_in (λ v. has_variable v f || nat_lt v n)

-- it holds, and the objects of the first variables are there
abbrev pub holds_upto : ((ℕ → ℕ) → ℕ → Bool) → (ℕ → ℕ → Bool) → ℕ → (ℕ → ℕ) → ℕ → Bool
holds_upto holds there n b t = holds b t && list_all (λ v. there (b v) t) (between 0 n)

module _ {S : Type 0} (member : S → ℕ → Bool) (domains : List (List ℕ)) (lo hi : ℕ) (f : ResolvedTree) (holds : (ℕ → ℕ) → ℕ → Bool) (there : ℕ → ℕ → Bool) where
  pub full_none : (r : Table S) → AreRowsWhere member domains lo hi (variables_of f) holds r → AreRowsWhere member domains lo hi (variables_upto f 0) (holds_upto holds there 0) r
  full_none r are = record {
    ticks = λ b is_in t. are.ticks b is_in t ∙ and_one (within lo hi t) (holds b t) (list_all (λ v. there (b v) t) (between 0 0)) (all_none (λ v. there (b v) t));
    vars = are.vars ∙ variables_same _ _ (λ v l. or_false (has_variable v f) (nat_lt v 0) (le-ltb v 0 (omega arith)));
    frame = are.frame;
  }

  pub full_more : (n : ℕ) → n < 4 → (r away made : Table S) → AreRowsWhere member domains lo hi (variables_upto f n) (holds_upto holds there n) r →
      AreAwayFor member there lo hi n r away →
      ((b : ℕ → ℕ) → IsIn r.domains b → (t : ℕ) → table_has member made b t ≡ (table_has member r b t && not (table_has member away b t))) →
      made.vars ≡ vars_of_both r.vars (n ∷ []) → frame made ≡ frame r →
      AreRowsWhere member domains lo hi (variables_upto f (n + 1)) (holds_upto holds there (n + 1)) made
  full_more n l r away made are also ticks vars same = record {
    ticks = λ b is_in t.
        let own = subst (λ (d : List (List ℕ)). IsIn d b) (sym (ap (λ (z : Frame). z.domains) are.frame)) is_in in
        ticks b own t
        ∙ and_among (table_has member r b t) (table_has member away b t) (within lo hi t && not (there (b n) t)) (also b own t)
        ∙ (λ i. are.ticks b is_in t i && not (within lo hi t && not (there (b n) t)))
        ∙ and_all (within lo hi t) (holds b t) (list_all (λ v. there (b v) t) (between 0 n)) (there (b n) t)
        ∙ ap (λ (y : Bool). within lo hi t && (holds b t && y)) (sym (all_more (λ v. there (b v) t) n));
    vars = vars
        ∙ (λ i. vars_of_both (are.vars i) (sym (one_variable n l) i))
        ∙ both_variables (λ v. has_variable v f || nat_lt v n) (λ v. v == n)
        ∙ variables_same _ _ (λ v m. below_next (has_variable v f) v n);
    frame = same ∙ are.frame;
  }

  pub full_ascend : (n : ℕ) (r : Table S) → AreRowsWhere member domains lo hi (variables_upto f n) (holds_upto holds there n) r →
      vars_of_both r.vars r.vars ≡ r.vars
  full_ascend n r are = (λ i. vars_of_both (are.vars i) (are.vars i)) ∙ same_variables_twice (λ v. has_variable v f || nat_lt v n) ∙ sym are.vars

  pub full_lies : (n : ℕ) (r : Table S) → AreRowsWhere member domains lo hi (variables_upto f n) (holds_upto holds there n) r →
      (b : ℕ → ℕ) → IsIn r.domains b → (t : ℕ) → table_has member r b t ≡ true → within r.lo r.hi t ≡ true
  full_lies n r are b is_in t h =
      (λ i. within (ap (λ (z : Frame). z.lo) are.frame i) (ap (λ (z : Frame). z.hi) are.frame i) t)
      ∙ (and_parts _ _ (sym (are.ticks b (subst (λ (d : List (List ℕ)). IsIn d b) (ap (λ (z : Frame). z.domains) are.frame) is_in) t) ∙ h)).0

  pub full_all : (n : ℕ) → n ≤ 4 → ((v : ℕ) → has_variable v f ≡ true → v < n) → (r : Table S) → AreRowsWhere member domains lo hi (variables_upto f n) (holds_upto holds there n) r →
      AreRowsWhere member domains lo hi (between 0 n) (λ b t. list_all (λ v. there (b v) t) (between 0 n) && holds b t) r
  full_all n few over r are = record {
    ticks = λ b is_in t. are.ticks b is_in t ∙ and_swap (within lo hi t) (holds b t) (list_all (λ v. there (b v) t) (between 0 n));
    vars = are.vars ∙ variables_same _ _ (λ v l. last_test (has_variable v f) (nat_lt v n) (λ h. lt-ltb _ _ (over v h))) ∙ first_variables n few;
    frame = are.frame;
  }

-- ---- rows without absences

pub ascend_of : (us : List ℕ) → vars_of_both us us ≡ us → IsStrictlyIncreasing us
ascend_of us e = subst (λ (vs : List ℕ). IsStrictlyIncreasing vs) e (ascending_variables (λ v. has_id us v || has_id us v))

pub in_window : (x w y : Bool) → (x ≡ true → w ≡ true) → (x && (w && y)) ≡ (x && y)
in_window true w y f = ap (λ (z : Bool). z && y) (f refl)
in_window false w y f = refl

-- ---- looks

grows : (f : ℕ → ℕ) (m k : ℕ) → sum_by f (between 0 m) ≤ sum_by f (between 0 (m + k))
grows f m zero =
    let e : sum_by f (between 0 (m + 0)) ≡ sum_by f (between 0 m) = ap (λ (z : ℕ). sum_by f (between 0 z)) (let g : m + 0 ≡ m = omega arith in g) in
    omega (arith, e)
grows f m (suc k) =
    let h : sum_by f (between 0 m) ≤ sum_by f (between 0 (m + k)) = grows f m k in
    let e : sum_by f (between 0 (m + suc k)) ≡ sum_by f (between 0 (m + k)) + f (m + k) =
    ap (λ (z : ℕ). sum_by f (between 0 z)) (let g : m + suc k ≡ m + k + 1 = omega arith in g) ∙ sum_more f (m + k) in
    omega (arith, h, e)

sum_upto : (f : ℕ → ℕ) (m n : ℕ) → m ≤ n → sum_by f (between 0 m) ≤ sum_by f (between 0 n)
sum_upto f m n l =
    subst (λ (z : ℕ). sum_by f (between 0 m) ≤ sum_by f (between 0 z)) (let g : m + (n - m) ≡ n = omega (arith, l) in g) (grows f m (n - m))

module _ (f : ℕ → ℕ) (old mid now all part n m : ℕ) (are : all ≡ part + sum_by f (between 0 m)) (first : mid ≤ old + part) where
  pub absence_done : now ≤ mid + sum_by f (between 0 n) → n ≤ m → now ≤ old + all
  absence_done h l =
      let upto : sum_by f (between 0 n) ≤ sum_by f (between 0 m) = sum_upto f n m l in
      omega (arith, are, first, h, upto)

  pub absence_within : (before : ℕ) → before ≤ mid + sum_by f (between 0 n) → now ≤ before + f n → n < m → now ≤ old + all
  absence_within before h s l =
      let more : sum_by f (between 0 (n + 1)) ≡ sum_by f (between 0 n) + f n = sum_more f n in
      let upto : sum_by f (between 0 (n + 1)) ≤ sum_by f (between 0 m) = sum_upto f (n + 1) m (omega (arith, l)) in
      omega (arith, are, first, h, s, more, upto)

pub absence_step : (f : ℕ → ℕ) (mid before now n : ℕ) → before ≤ mid + sum_by f (between 0 n) → now ≤ before + f n → now ≤ mid + sum_by f (between 0 (n + 1))
absence_step f mid before now n h s =
    let more : sum_by f (between 0 (n + 1)) ≡ sum_by f (between 0 n) + f n = sum_more f n in
    omega (arith, h, s, more)
