-- Queries for the pairs of objects that are near to each other: their rows, and how many looks they take.
use Rattle.std.proofs.Common.{◌≡◌, ℕ, ◌+◌, ◌*◌, ◌≤◌, Bool, true, false, ◌&&◌, ◌||◌, ◌==◌, inl, inr, None, List, [], ◌∷◌, length, refl, sym, ap, subst, ◌∙◌, arith}
use Rattle.std.specs.Prelude.{is_some, sum_by, IsTrue}
use Rattle.std.specs.List.{list_all}
use Rattle.std.proofs.lemmas.Bool.{cases_Bool}
use Rattle.tick_set.specs.Ticks.{between}
use Rattle.geometry.specs.Region.{Region}
use Rattle.formula_shape.specs.Shape as shapes
use Rattle.formula.specs.Resolved.{IsResolved, Scope, is_atom, is_formula, no_scope}
use Rattle.formula.specs.Tree.{ResolvedQuery}
use Rattle.formula.specs.Value.{no_values}
use Rattle.formula.specs.Variables.{atom_has}
use Rattle.formula.specs.declared.tree.RAtom.{RAtom}
use Rattle.formula.specs.declared.tree.RAtom.TheVariants as atoms
use Rattle.formula.specs.declared.value.Env.{Env}
use Rattle.meaning.specs.Atom.{atom_holds}
use Rattle.meaning.specs.Binding.{holds_full}
use Rattle.meaning.specs.Reads.{choices, query_reads, reads}
use Rattle.meaning.specs.Satisfaction.{plain, sat}
use Rattle.meaning.specs.Trace.{Trace, trace_of}
use Rattle.object_store.specs.Contents.{Contents, history_of}
use Rattle.atoms.specs.Asked.{world_in}
use Rattle.atoms.specs.Sizes.{is_sized}
use Rattle.pairs.specs.Distance.{IsDistance}
use Rattle.pairs.specs.Pairs.{atom_at, pair_reads}
use Rattle.pairs.specs.declared.distance.Distance.{Distance}
use Rattle.pairs.proofs.PairLemmas.{first_two, variables_are}
use Rattle.exact.proofs.Items.{none_from_test}

guarded : (p q a : Bool) → (p ≡ false → a ≡ false) → (q ≡ false → a ≡ false) → ((p && (q && true)) && a) ≡ a
guarded true true a f g = refl
guarded true false a f g = sym (g refl)
guarded false q a f g = sym (f refl)

-- the laws of atoms that are used here
abbrev pub AbsentAtomsFail : Type 0
AbsentAtomsFail = (regions : List Region) (h : Trace) (a : RAtom) (x : Env) (t v : ℕ) → atom_has v a ≡ true → h v t ≡ None → atom_holds regions h a x t ≡ false

abbrev pub ResolvedAtomsAreSized : Type 0
ResolvedAtomsAreSized = (count : ℕ) (scope : Scope) (a : RAtom) → is_atom count scope a ≡ true → IsTrue (is_sized a)

module _ (q : ResolvedQuery) (d : Distance) (is : IsDistance d) (formula : q.formula ≡ shapes.Atom d.atom.now) (two : length q.classes ≡ 2) where
  has_both : (atom_has 0 d.atom.now ≡ true) × (atom_has 1 d.atom.now ≡ true)
  has_both =
      elim (first_two d is) [
        | inl both ↦ (
          ap (atom_has 0) is.is ∙ (λ i. atom_has 0 (atoms.Dist (both.0 i) (both.1 i) is.op d.most)),
          ap (atom_has 1) is.is ∙ (λ i. atom_has 1 (atoms.Dist (both.0 i) (both.1 i) is.op d.most)),
        )
        | inr both ↦ (
          ap (atom_has 0) is.is ∙ (λ i. atom_has 0 (atoms.Dist (both.0 i) (both.1 i) is.op d.most)),
          ap (atom_has 1) is.is ∙ (λ i. atom_has 1 (atoms.Dist (both.0 i) (both.1 i) is.op d.most)),
        )
      ]

  -- where the distance is told, both objects are there, since no atom of an absent object holds
  pub full_pairs : AbsentAtomsFail → (s : Contents) (regions : List Region) (e : ℕ) (b : ℕ → ℕ) (t : ℕ) → holds_full (world_in s regions) q e b t ≡ atom_at s regions d.atom.now b t
  unfolding between
  full_pairs absent s regions e b t =
      let h = trace_of (history_of s) b in
      (λ i. list_all (λ v. is_some (h v t)) (between 0 (two i)) && sat (plain regions h) (formula i) no_values e t)
      ∙ guarded (is_some (h 0 t)) (is_some (h 1 t)) (atom_at s regions d.atom.now b t)
      (λ none. absent regions h d.atom.now no_values t 0 has_both.0 (none_from_test (h 0 t) none))
      (λ none. absent regions h d.atom.now no_values t 1 has_both.1 (none_from_test (h 1 t) none))

  -- such a distance is of a size that may be asked
  pub sized_pair : ResolvedAtomsAreSized → IsResolved q → IsTrue (is_sized d.atom.now)
  sized_pair sized right =
      sized (length q.classes) no_scope d.atom.now (subst (λ f. IsTrue (is_formula (length q.classes) 0 no_scope f)) formula right.formula)

  looks_are : (size : ℕ → ℕ) (ticks : ℕ) → query_reads size ticks q ≡ choices size (0 ∷ 1 ∷ []) * 2 + sum_by size (0 ∷ 1 ∷ [])
  unfolding between
  looks_are size ticks =
      (λ i. reads size ticks (formula i) + sum_by size (between 0 (two i)))
      ∙ (λ i. choices size (variables_are d is i) * length (variables_are d is i) + sum_by size (0 ∷ 1 ∷ []))

  pub pair_looks : (size : ℕ → ℕ) (ticks old now : ℕ) → now ≤ old + pair_reads size → now ≤ old + query_reads size ticks q
  pair_looks size ticks old now most =
      let whole = looks_are size ticks in
      let same : pair_reads size ≡ choices size (0 ∷ 1 ∷ []) * 2 + sum_by size (0 ∷ 1 ∷ []) = counted (size 0) (size 1) in
      omega (arith, most, whole, same)
    where
      counted : (m n : ℕ) → n + m * (1 + 2 * n) ≡ (m * (n * 1)) * 2 + (0 + m + n)
      counted m n = grind arith
