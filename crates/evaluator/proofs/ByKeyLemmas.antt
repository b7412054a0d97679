-- A formula at the keys of its variables.
use Rattle.std.proofs.Common.{◌≡◌, ℕ, zero, suc, ◌+◌, ◌-◌, ◌*◌, ◌<◌, ◌≤◌, Bool, true, false, not, ◌&&◌, ◌||◌, ◌==◌, nat_le, inl, inr, if◌then◌else◌, List, [], ◌∷◌, length, slice_index, map, refl, sym, ap, ◌∙◌, subst, arith}
use Rattle.std.specs.Str.{bytes_eq}
use Rattle.std.specs.List.{list_any}
use Rattle.std.proofs.lemmas.Bool.{and_from, and_parts, eq-eqb, or_cases, or_left, or_right}
use Rattle.std.proofs.lemmas.Bool.Decides.{nat_tests}
use Rattle.std.proofs.lemmas.Slice.Eq.{bytes_eq-Decides}
use Rattle.tick_set.specs.Ticks.{within}
use Rattle.formula_shape.specs.Shape as shapes
use Rattle.formula.specs.declared.tree.RAtom.{RAtom}
use Rattle.formula.specs.declared.tree.RTerm.{RTerm}
use Rattle.formula.specs.declared.value.Env.{Env}
use Rattle.formula.specs.Tree.{ResolvedTree}
use Rattle.formula.specs.Value.{with_value}
use Rattle.formula.specs.Variables.{atom_has, has_variable, term_has, variables_in, variables_of}
use Rattle.meaning.specs.Agreement.{Agree}
use Rattle.meaning.specs.Reads.{atom_variables, choices, made_single, reads, term_variables}
use Rattle.meaning.specs.Satisfaction.{Interpretation, sat}
use Rattle.meaning.proofs.LocalityLemmas.{same_sat}
use Rattle.relation.specs.Frames.{domain_size}
use Rattle.relation.specs.Key.{has_id}
use Rattle.evaluator.specs.Interpreting.{CanAsk, IsInFor}
use Rattle.evaluator.specs.Keys.{binding_of}
use Rattle.evaluator.specs.Rows.{reads_upto}
use Rattle.evaluator.specs.inner.ByBinding.{CanAskHere, adds_no_choice, asks_no_more, is_over, reads_here}
use Rattle.evaluator.proofs.BindingLemmas.{binding_of-map}
use Rattle.evaluator.proofs.TickLemmas.{one_choice, reads_of_assignment}
use Rattle.evaluator.proofs.VariableLemmas.{has_variables}
use Rattle.exact.proofs.Naturals.{times_at_most}

-- what may be asked where its variables have objects of the domains may be asked at each such binding
module _ (j : (ℕ → ℕ) → Interpretation) (P : (ℕ → ℕ) → RAtom → Env → Type 0) (Q : (ℕ → ℕ) → RTerm → Env → Type 0) (domains : List (List ℕ)) (lo hi : ℕ) (b : ℕ → ℕ) where
  pub can_ask_at : (f : ResolvedTree) (x : Env) → CanAsk j P Q domains lo hi f x → IsInFor domains (λ v. has_variable v f) b → CanAskHere (j b) (P b) (Q b) lo hi f x
  can_ask_at (shapes.Truth h) x can is_in = tt
  can_ask_at (shapes.Atom a) x can is_in = can b is_in
  can_ask_at (shapes.Not f) x can is_in = can_ask_at f x can is_in
  can_ask_at (shapes.And f g) x can is_in = (
    can_ask_at f x can.0 (λ v h. is_in v (or_left (has_variable v f) (has_variable v g) h)),
    can_ask_at g x can.1 (λ v h. is_in v (or_right (has_variable v f) (has_variable v g) h)),
  )
  can_ask_at (shapes.Or f g) x can is_in = (
    can_ask_at f x can.0 (λ v h. is_in v (or_left (has_variable v f) (has_variable v g) h)),
    can_ask_at g x can.1 (λ v h. is_in v (or_right (has_variable v f) (has_variable v g) h)),
  )
  can_ask_at (shapes.Next f) x can is_in = can_ask_at f x can is_in
  can_ask_at (shapes.Eventually f) x can is_in = can_ask_at f x can is_in
  can_ask_at (shapes.Always f) x can is_in = can_ask_at f x can is_in
  can_ask_at (shapes.Bounded form c f) x can is_in = can_ask_at f x can is_in
  can_ask_at (shapes.Until form c f g) x can is_in = (
    can_ask_at f x can.0 (λ v h. is_in v (or_left (has_variable v f) (has_variable v g) h)),
    can_ask_at g x can.1 (λ v h. is_in v (or_right (has_variable v f) (has_variable v g) h)),
  )
  can_ask_at (shapes.Assign (d, q) f) x can is_in =
      let own = can b (λ v h. is_in v (or_left (term_has v q) (has_variable v f) h)) in
      (own.0, λ t l v e. can_ask_at f (with_value x d v) (own.1 t l v e) (λ u h. is_in u (or_right (term_has u q) (has_variable u f) h)))

-- ---- a formula sees the objects of its own variables alone

module _ (j : (ℕ → ℕ) → Interpretation)
    (atoms_see : (b c : ℕ → ℕ) (a : RAtom) → ((v : ℕ) → atom_has v a ≡ true → b v ≡ c v) → (x : Env) (t : ℕ) → (j b).atom a x t ≡ (j c).atom a x t)
    (terms_see : (b c : ℕ → ℕ) (q : RTerm) → ((v : ℕ) → term_has v q ≡ true → b v ≡ c v) → (x : Env) (t : ℕ) → (j b).term q x t ≡ (j c).term q x t) where
  agree : (b c : ℕ → ℕ) (lo hi : ℕ) (f : ResolvedTree) → ((v : ℕ) → has_variable v f ≡ true → b v ≡ c v) → Agree (j b) (j c) lo hi f
  agree b c lo hi (shapes.Truth h) same = tt
  agree b c lo hi (shapes.Atom a) same = λ x t from to. atoms_see b c a same x t
  agree b c lo hi (shapes.Not f) same = agree b c lo hi f same
  agree b c lo hi (shapes.And f g) same = (
    agree b c lo hi f (λ v h. same v (or_left (has_variable v f) (has_variable v g) h)),
    agree b c lo hi g (λ v h. same v (or_right (has_variable v f) (has_variable v g) h)),
  )
  agree b c lo hi (shapes.Or f g) same = (
    agree b c lo hi f (λ v h. same v (or_left (has_variable v f) (has_variable v g) h)),
    agree b c lo hi g (λ v h. same v (or_right (has_variable v f) (has_variable v g) h)),
  )
  agree b c lo hi (shapes.Next f) same = agree b c lo hi f same
  agree b c lo hi (shapes.Eventually f) same = agree b c lo hi f same
  agree b c lo hi (shapes.Always f) same = agree b c lo hi f same
  agree b c lo hi (shapes.Bounded form n f) same = agree b c lo hi f same
  agree b c lo hi (shapes.Until form n f g) same = (
    agree b c lo hi f (λ v h. same v (or_left (has_variable v f) (has_variable v g) h)),
    agree b c lo hi g (λ v h. same v (or_right (has_variable v f) (has_variable v g) h)),
  )
  agree b c lo hi (shapes.Assign (d, q) f) same = (
    λ x t from to. terms_see b c q (λ v h. same v (or_left (term_has v q) (has_variable v f) h)) x t,
    agree b c lo hi f (λ v h. same v (or_right (term_has v q) (has_variable v f) h)),
  )

  pub formula_sees : (b c : ℕ → ℕ) (f : ResolvedTree) → ((v : ℕ) → has_variable v f ≡ true → b v ≡ c v) → (x : Env) (e t : ℕ) → sat (j b) f x e t ≡ sat (j c) f x e t
  formula_sees b c f same x e t =
      same_sat (j b) (j c) 0 (e + t) f (agree b c 0 (e + t) f same) e (omega arith) x t (omega arith) (omega arith)

  -- what it says at the binding of a key is what it says at an assignment with this key
  pub key_says : (f : ResolvedTree) → ((v : ℕ) → has_variable v f ≡ true → v < 4) → (vars : List ℕ) → vars ≡ variables_of f → (x : Env) (lo hi : ℕ) (b : ℕ → ℕ) (t : ℕ) →
      (within lo hi t && sat (j (slice_index (binding_of vars (map b vars)))) f x hi t) ≡ (within lo hi t && sat (j b) f x hi t)
  key_says f over vars are x lo hi b t =
      ap (λ (y : Bool). within lo hi t && y)
      (formula_sees (slice_index (binding_of vars (map b vars))) b f
      (λ v h. (λ i. slice_index (binding_of (are i) (map b (are i))) v) ∙ binding_of-map (λ u. has_variable u f) b v (over v h) h) x hi t)

-- ---- looks at timelines

all_single : (size : ℕ → ℕ) (vs us : List ℕ) → ((v : ℕ) → has_id us v ≡ true → has_id vs v ≡ true) → choices (made_single size vs) us ≡ 1
all_single size vs [] h = refl
all_single size vs (u ∷ us) h =
    let first : made_single size vs u ≡ 1 = ap (λ (c : Bool). if c then 1 else size u) (h u (or_left (u == u) (has_id us u) (eq-eqb u u refl))) in
    let later : choices (made_single size vs) us ≡ 1 = all_single size vs us (λ v k. h v (or_right (u == v) (has_id us v) k)) in
    λ i. first i * later i

both_within : (k a b c d : ℕ) → k * a ≤ c → k * b ≤ d → k * (a + b) ≤ c + d
both_within k a b c d h l = let e : k * (a + b) ≡ k * a + k * b = grind arith in omega (arith, e, h, l)

none_within : (k : ℕ) → k * 0 ≤ 0
none_within k = let e : k * 0 ≡ 0 = grind arith in omega (arith, e)

atom_within : (k one len : ℕ) → one ≡ 1 → k * (one * len) ≤ k * len
atom_within k one len e = let f : one * len ≡ len = ap (λ (z : ℕ). z * len) e ∙ (let g : 1 * len ≡ len = omega arith in g) in let h : k * (one * len) ≡ k * len = ap (λ (z : ℕ). k * z) f in omega (arith, h)

assign_within : (k len ticks own cost : ℕ) → 1 * own ≤ cost → k * (len + ticks * own) ≤ k * (len + ticks * cost)
assign_within k len ticks own cost h =
    let l : own ≤ cost = omega (arith, h) in
    let m : own * ticks ≤ cost * ticks = times_at_most own cost ticks l in
    let a : ticks * own ≡ own * ticks = grind arith in
    let b : ticks * cost ≡ cost * ticks = grind arith in
    let n : len + ticks * own ≤ len + ticks * cost = omega (arith, m, a, b) in
    let o : (len + ticks * own) * k ≤ (len + ticks * cost) * k = times_at_most (len + ticks * own) (len + ticks * cost) k n in
    let c : k * (len + ticks * own) ≡ (len + ticks * own) * k = grind arith in
    let d : k * (len + ticks * cost) ≡ (len + ticks * cost) * k = grind arith in
    omega (arith, o, c, d)

-- ---- the keys of some variables, against those of others

one_choice_less : (c : ℕ) → c ≡ 1 * c
one_choice_less c = omega arith

choices_kept : (size : ℕ → ℕ) (b : Bool) (x : ℕ) (xs : List ℕ) → choices size (if b then x ∷ xs else xs) ≡ (if b then size x else 1) * choices size xs
choices_kept size true x xs = refl
choices_kept size false x xs = one_choice_less (choices size xs)

-- the choices of a variable where a test has it
abbrev part_of : (ℕ → ℕ) → (ℕ → Bool) → ℕ → ℕ
part_of size p v = if p v then size v else 1

choices_in : (size : ℕ → ℕ) (p : ℕ → Bool) →
    choices size (variables_in p) ≡ part_of size p 0 * (part_of size p 1 * (part_of size p 2 * (part_of size p 3 * 1)))
choices_in size p =
    choices_kept size (p 0) 0 _
    ∙ ap (λ (n : ℕ). part_of size p 0 * n) (choices_kept size (p 1) 1 _
    ∙ ap (λ (n : ℕ). part_of size p 1 * n) (choices_kept size (p 2) 2 _
    ∙ ap (λ (n : ℕ). part_of size p 2 * n) (choices_kept size (p 3) 3 [])))

part_within : (p q : Bool) (n m : ℕ) → (n ≤ 1 → m ≤ 1) → (if q then p else (not p || nat_le n 1)) ≡ true → (if p then m else 1) ≤ (if q then m else 1)
part_within true true n m single h = omega arith
part_within false true n m single h = absurd (let f : false ≡ true = h in cc)
part_within true false n m single h = single (grind (arith, nat_tests, h))
part_within false false n m single h = omega arith

product_within : (a b c d : ℕ) → a ≤ c → b ≤ d → a * b ≤ c * d
product_within a b c d h l =
    let first : a * b ≤ c * b = times_at_most a c b h in
    let second : b * c ≤ d * c = times_at_most b d c l in
    let e : b * c ≡ c * b = grind arith in
    let g : d * c ≡ c * d = grind arith in
    omega (arith, first, second, e, g)

-- no more where no variable adds a choice, by other sizes that are 1 at most where these are
choices_within : (s size : ℕ → ℕ) → ((v : ℕ) → s v ≤ 1 → size v ≤ 1) → (p q : ℕ → Bool) →
    ((v : ℕ) → v < 4 → adds_no_choice s (variables_in p) (variables_in q) v ≡ true) → choices size (variables_in p) ≤ choices size (variables_in q)
choices_within s size single p q h =
    subst (λ (n : ℕ). n ≤ choices size (variables_in q)) (sym (choices_in size p))
    (subst (λ (n : ℕ). part_of size p 0 * (part_of size p 1 * (part_of size p 2 * (part_of size p 3 * 1))) ≤ n) (sym (choices_in size q))
    (product_within _ _ _ _ (part 0 (omega arith))
    (product_within _ _ _ _ (part 1 (omega arith))
    (product_within _ _ _ _ (part 2 (omega arith))
    (product_within _ _ _ _ (part 3 (omega arith)) (omega arith))))))
  where
    part : (v : ℕ) → v < 4 → part_of size p v ≤ part_of size q v
    part v l = part_within (p v) (q v) (s v) (size v) (single v)
        ((λ i. if sym (has_variables q v l) i then sym (has_variables p v l) i else (not (sym (has_variables p v l) i) || nat_le (s v) 1)) ∙ h v l)

each_of_four : (test : ℕ → Bool) → (test 0 && (test 1 && (test 2 && test 3))) ≡ true → (v : ℕ) → v < 4 → test v ≡ true
each_of_four test h =
    let a = and_parts (test 0) (test 1 && (test 2 && test 3)) h in
    let b = and_parts (test 1) (test 2 && test 3) a.1 in
    let c = and_parts (test 2) (test 3) b.1 in
    one a.0 b.0 c.0 c.1
  where
    one : test 0 ≡ true → test 1 ≡ true → test 2 ≡ true → test 3 ≡ true → (v : ℕ) → v < 4 → test v ≡ true
    one a b c d zero l = a
    one a b c d (suc zero) l = b
    one a b c d (suc (suc zero)) l = c
    one a b c d (suc (suc (suc zero))) l = d
    one a b c d (suc (suc (suc (suc v)))) l = absurd (omega (arith, l))

nothing_asked : (k c one : ℕ) (vs : List ℕ) → vs ≡ [] → k * (one * length vs) ≤ c * length vs
nothing_asked k c one vs e =
    subst (λ (us : List ℕ). k * (one * length us) ≤ c * length us) (sym e)
    (let f : k * (one * 0) ≡ 0 = grind arith in let g : c * 0 ≡ 0 = grind arith in omega (arith, f, g))

asked_less : (k c one len : ℕ) → one ≡ 1 → k ≤ c → k * (one * len) ≤ c * len
asked_less k c one len e h =
    let l : k * (one * len) ≤ k * len = atom_within k one len e in
    let m : k * len ≤ c * len = times_at_most k c len h in
    omega (arith, l, m)

single_still_small : (size : ℕ → ℕ) (vs : List ℕ) (v : ℕ) → size v ≤ 1 → made_single size vs v ≤ 1
single_still_small size vs v h = chosen_small (list_any (λ u. u == v) vs)
  where
    chosen_small : (b : Bool) → (if b then 1 else size v) ≤ 1
    chosen_small true = omega arith
    chosen_small false = h

-- the bindings of a formula whose atoms are asked no more often so take no more than it may
pub over_reads : (s size : ℕ → ℕ) → ((v : ℕ) → s v ≤ 1 → size v ≤ 1) → (lo hi : ℕ) (p : ℕ → Bool) (f : ResolvedTree) → is_over s (variables_in p) f ≡ true →
    choices size (variables_in p) * reads_here lo hi f ≤ reads size (hi + 1 - lo) f
over_reads s size small lo hi p (shapes.Truth b) h = none_within (choices size (variables_in p))
over_reads s size small lo hi p (shapes.Atom a) h =
    elim (or_cases _ _ h) [
      | inl none ↦ nothing_asked (choices size (variables_in p)) (choices size (atom_variables a)) (choices (λ _. 1) (atom_variables a)) (atom_variables a)
          ((bytes_eq-Decides (atom_variables a) []).0 none)
      | inr each ↦ asked_less (choices size (variables_in p)) (choices size (atom_variables a)) (choices (λ _. 1) (atom_variables a)) (length (atom_variables a))
          (one_choice (atom_variables a))
          (choices_within s size small p (λ v. atom_has v a) (each_of_four (adds_no_choice s (variables_in p) (atom_variables a)) each))
    ]
over_reads s size small lo hi p (shapes.Not f) h = over_reads s size small lo hi p f h
over_reads s size small lo hi p (shapes.And f g) h =
    let parts = and_parts (is_over s (variables_in p) f) (is_over s (variables_in p) g) h in
    both_within (choices size (variables_in p)) (reads_here lo hi f) (reads_here lo hi g) (reads size (hi + 1 - lo) f) (reads size (hi + 1 - lo) g) (over_reads s size small lo hi p f parts.0) (over_reads s size small lo hi p g parts.1)
over_reads s size small lo hi p (shapes.Or f g) h =
    let parts = and_parts (is_over s (variables_in p) f) (is_over s (variables_in p) g) h in
    both_within (choices size (variables_in p)) (reads_here lo hi f) (reads_here lo hi g) (reads size (hi + 1 - lo) f) (reads size (hi + 1 - lo) g) (over_reads s size small lo hi p f parts.0) (over_reads s size small lo hi p g parts.1)
over_reads s size small lo hi p (shapes.Next f) h = over_reads s size small lo hi p f h
over_reads s size small lo hi p (shapes.Eventually f) h = over_reads s size small lo hi p f h
over_reads s size small lo hi p (shapes.Always f) h = over_reads s size small lo hi p f h
over_reads s size small lo hi p (shapes.Bounded form c f) h = over_reads s size small lo hi p f h
over_reads s size small lo hi p (shapes.Until form c f g) h =
    let parts = and_parts (is_over s (variables_in p) f) (is_over s (variables_in p) g) h in
    both_within (choices size (variables_in p)) (reads_here lo hi f) (reads_here lo hi g) (reads size (hi + 1 - lo) f) (reads size (hi + 1 - lo) g) (over_reads s size small lo hi p f parts.0) (over_reads s size small lo hi p g parts.1)
over_reads s size small lo hi p (shapes.Assign (d, q) f) h =
    let parts = and_parts (bytes_eq (term_variables q) (variables_in p)) (is_over s (variables_in p) f) h in
    let same : term_variables q ≡ variables_in p = (bytes_eq-Decides (term_variables q) (variables_in p)).0 parts.0 in
    let single : choices (made_single size (variables_in p)) (variables_in p) ≡ 1 = all_single size (variables_in p) (variables_in p) (λ v k. k) in
    let own : 1 * reads_here lo hi f ≤ reads (made_single size (variables_in p)) (hi + 1 - lo) f = subst (λ (n : ℕ). n * reads_here lo hi f ≤ reads (made_single size (variables_in p)) (hi + 1 - lo) f) single (over_reads s (made_single size (variables_in p)) (λ v l. single_still_small size (variables_in p) v (small v l)) lo hi p f parts.1) in
    subst (λ (n : ℕ). choices size (variables_in p) * n ≤ reads size (hi + 1 - lo) (shapes.Assign (d, q) f)) (sym (reads_of_assignment lo hi d q f))
    (subst (λ (vs : List ℕ). choices size (variables_in p) * (length (term_variables q) + (hi + 1 - lo) * reads_here lo hi f) ≤ choices size vs * (length (term_variables q) + (hi + 1 - lo) * reads (made_single size vs) (hi + 1 - lo) f)) (sym same)
    (assign_within (choices size (variables_in p)) (length (term_variables q)) (hi + 1 - lo) (reads_here lo hi f) (reads (made_single size (variables_in p)) (hi + 1 - lo) f) own))

-- those of some keys
pub by_keys : (domains : List (List ℕ)) (lo hi : ℕ) (vars : List ℕ) (f : ResolvedTree) → vars ≡ variables_of f → is_over (domain_size domains) vars f ≡ true →
    (start read i n : ℕ) →
    read ≤ start + i * reads_here lo hi f → i ≤ n → n ≡ choices (domain_size domains) vars → read ≤ start + reads_upto domains lo hi f
by_keys domains lo hi vars f are h start read i n l m e =
    within_all (choices (domain_size domains) vars) (reads_here lo hi f) (reads_upto domains lo hi f)
    (subst (λ (vs : List ℕ). choices (domain_size domains) vs * reads_here lo hi f ≤ reads_upto domains lo hi f) (sym are)
    (over_reads (domain_size domains) (domain_size domains) (λ v l. l) lo hi (λ v. has_variable v f) f (ap (λ (vs : List ℕ). is_over (domain_size domains) vs f) (sym are) ∙ h)))
    l m e
  where
    within_all : (all cost most : ℕ) → all * cost ≤ most → read ≤ start + i * cost → i ≤ n → n ≡ all → read ≤ start + most
    within_all all cost most bound reads_so few same =
        let less : i ≤ all = omega (arith, few, same) in
        let more : i * cost ≤ all * cost = times_at_most i all cost less in
        grind (arith, reads_so, more, bound)

-- those of some keys of one variable, each behind all of some others
pub by_blocks : (domains : List (List ℕ)) (lo hi : ℕ) (vars : List ℕ) (f : ResolvedTree) → vars ≡ variables_of f → is_over (domain_size domains) vars f ≡ true →
    (start read i n m : ℕ) →
    read ≤ start + i * m * reads_here lo hi f → i ≤ n → n * m ≡ choices (domain_size domains) vars → read ≤ start + reads_upto domains lo hi f
by_blocks domains lo hi vars f are h start read i n m r l e = by_keys domains lo hi vars f are h start read (i * m) (n * m) r (times_at_most i n m l) e

-- ---- formulas that have no part

pub truth_over : (size : ℕ → ℕ) (vars : List ℕ) (f : ResolvedTree) (b : Bool) → f ≡ shapes.Truth b → is_over size vars f ≡ true
truth_over size vars f b e = ap (is_over size vars) e

adds_itself : (b : Bool) (n : ℕ) → (if b then b else (not b || nat_le n 1)) ≡ true
adds_itself true n = refl
adds_itself false n = refl

asks_itself : (size : ℕ → ℕ) (vs : List ℕ) → asks_no_more size vs vs ≡ true
asks_itself size vs = or_right (bytes_eq vs []) _ (and_from _ _ (one 0) (and_from _ _ (one 1) (and_from _ _ (one 2) (one 3))))
  where
    one : (v : ℕ) → adds_no_choice size vs vs v ≡ true
    one v = adds_itself (has_id vs v) (size v)

pub atom_over : (size : ℕ → ℕ) (vars : List ℕ) (f : ResolvedTree) (a : RAtom) → vars ≡ variables_of f → f ≡ shapes.Atom a → is_over size vars f ≡ true
atom_over size vars f a are e =
    ap (is_over size vars) e ∙ ap (asks_no_more size vars) (sym (are ∙ ap variables_of e)) ∙ asks_itself size vars
