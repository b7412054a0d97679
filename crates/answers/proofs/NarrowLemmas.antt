-- For this crate and for the crates above: rows over the objects that suffice for a query are those over all.
use Rattle.std.proofs.Common.{◌≡◌, ℕ, zero, suc, ◌+◌, ◌≤◌, Bool, true, false, ◌&&◌, ◌⊎◌, List, [], ◌∷◌, length, take, refl, sym, ap, ◌∙◌, inl, inr, arith}
use Rattle.std.specs.Prelude.{nat_lt}
use Rattle.std.specs.List.{list_all}
use Rattle.std.proofs.lemmas.Bool.{both_ways, cases_Bool, false_from_ne_true}
use Rattle.tick_set.specs.Ticks.{between, within}
use Rattle.tick_set.proofs.Between.{within_parts}
use Rattle.geometry.specs.Region.{Region}
use Rattle.formula.specs.Tree.{ResolvedQuery}
use Rattle.formula.specs.Resolved.{are_distinct}
use Rattle.formula.specs.Value.{no_values}
use Rattle.history.specs.World.{World}
use Rattle.meaning.specs.Binding.{are_present, holds_by, holds_full}
use Rattle.meaning.specs.Reads.{query_reads}
use Rattle.meaning.specs.Satisfaction.{Interpretation}
use Rattle.object_store.specs.Contents.{Contents, catalog_of}
use Rattle.narrowing.specs.Narrowed.{Suffice}
use Rattle.narrowing.specs.Needed.{Fails, told}
use Rattle.relation.specs.Frames.{IsIn, IsWider, domain_size}
use Rattle.relation.specs.Key.{are_known, has_id, ids_of_variable}
use Rattle.atoms.specs.Asked.{world_in}
use Rattle.answers.specs.Objects.{AreOfItsClasses}
use Rattle.answers.proofs.AnswerLemmas.{between_has}
use Rattle.answers.proofs.ReadLemmas.{more_of_query, most_within}

-- where a formula fails, the query holds at no tick of the window
pub never_there : (j : (ℕ → ℕ) → Interpretation) (w : World) (q : ResolvedQuery) (lo hi : ℕ) (b : ℕ → ℕ) → Fails (j b) lo hi q.formula →
    (t : ℕ) → (within lo hi t && holds_by j w q hi b t) ≡ false
never_there j w q lo hi b fails t =
    elim (cases_Bool (within lo hi t)) [
      | inr outside ↦ ap (λ c. c && holds_by j w q hi b t) outside
      | inl here ↦
          let parts = within_parts lo hi t here in
          ap (λ c. within lo hi t && (are_present w q b t && c)) (fails no_values t parts.0 parts.1) ∙ never (within lo hi t) (are_present w q b t)
    ]
  where
    never : (c d : Bool) → (c && (d && false)) ≡ false
    never true true = refl
    never true false = refl
    never false d = refl

-- fewer objects take no more looks
pub fewer_reads : (q : ResolvedQuery) (domains some : List (List ℕ)) → ((v : ℕ) → domain_size some v ≤ domain_size domains v) →
    (ticks old now : ℕ) → now ≤ old + query_reads (domain_size some) ticks q → now ≤ old + query_reads (domain_size domains) ticks q
fewer_reads q domains some fewer ticks old now most =
    most_within old now (query_reads (domain_size some) ticks q) (query_reads (domain_size domains) ticks q) most
    (more_of_query ticks ticks (omega arith) q (domain_size some) (domain_size domains) fewer)

module _ (s : Contents) (q : ResolvedQuery) (lo hi : ℕ) (domains some : List (List ℕ))
    (are : AreOfItsClasses (catalog_of s) q domains) (wider : IsWider some domains) where
  pub fewer_of_classes : AreOfItsClasses (catalog_of s) q some
  fewer_of_classes =
      let many = are.many in
      let same = wider.many in
      record {
        many = omega (arith, many, same);
        each = λ v id within has. are.each v id within (wider.all v id has);
      }

  -- the rows of a test that holds of no assignment that gives a variable another object
  pub rows_among : (holds : (ℕ → ℕ) → ℕ → Bool) →
      ((b : ℕ → ℕ) → IsIn domains b → IsIn some b ⊎ ((t : ℕ) → (within lo hi t && holds b t) ≡ false)) →
      (rows : (ℕ → ℕ) → ℕ → Bool) → ((b : ℕ → ℕ) → IsIn some b → (t : ℕ) → rows b t ≡ (within lo hi t && holds b t)) →
      ((b : ℕ → ℕ) (t : ℕ) → rows b t ≡ true → (v : ℕ) → has_id (between 0 (length q.classes)) v ≡ true → has_id (ids_of_variable some v) (b v) ≡ true) →
      (b : ℕ → ℕ) → IsIn domains b → (t : ℕ) → rows b t ≡ (within lo hi t && holds b t)
  rows_among holds sound rows told_some inside b is_in t =
      elim (sound b is_in) [
        | inl here ↦ told_some b here t
        | inr never ↦
            false_from_ne_true (rows b t) (λ has.
            let many = are.many in
            let same = wider.many in
            let here : IsIn some b = λ v below. inside b t has v (between_has (length q.classes) v (omega (arith, many, same, below))) in
            both_ways (within lo hi t && holds b t) (never t) (sym (told_some b here t) ∙ has))
            ∙ sym (never t)
      ]

module _ (s : Contents) (regions : List Region) (q : ResolvedQuery) (lo hi : ℕ) (domains some : List (List ℕ))
    (are : AreOfItsClasses (catalog_of s) q domains) (suffice : Suffice s regions q lo hi domains some) where
  pub rows_suffice : (rows : (ℕ → ℕ) → ℕ → Bool) →
      ((b : ℕ → ℕ) → IsIn some b → (t : ℕ) → rows b t ≡ (within lo hi t && holds_full (world_in s regions) q hi b t)) →
      ((b : ℕ → ℕ) (t : ℕ) → rows b t ≡ true → (v : ℕ) → has_id (between 0 (length q.classes)) v ≡ true → has_id (ids_of_variable some v) (b v) ≡ true) →
      (b : ℕ → ℕ) → IsIn domains b → (t : ℕ) → rows b t ≡ (within lo hi t && holds_full (world_in s regions) q hi b t)
  rows_suffice rows =
      rows_among s q lo hi domains some are suffice.wider (holds_full (world_in s regions) q hi)
      (λ b is_in.
      elim (suffice.sound b is_in) [
        | inl here ↦ inl here
        | inr fails ↦ inr (never_there (told s regions) (world_in s regions) q lo hi b fails)
      ])
      rows

  pub reads_suffice : (ticks old now : ℕ) → now ≤ old + query_reads (domain_size some) ticks q → now ≤ old + query_reads (domain_size domains) ticks q
  reads_suffice ticks old now most = fewer_reads q domains some suffice.fewer ticks old now most

-- ---- the variables below a number

pub upto : (n : ℕ) → n ≤ 4 → take n (0 ∷ 1 ∷ 2 ∷ 3 ∷ []) ≡ between 0 n
unfolding between
upto zero few = refl
upto (suc zero) few = refl
upto (suc (suc zero)) few = refl
upto (suc (suc (suc zero))) few = refl
upto (suc (suc (suc (suc zero)))) few = refl
upto (suc (suc (suc (suc (suc n))))) few = absurd (omega (arith, few))

pub upto_known : (domains : List (List ℕ)) (n : ℕ) → n ≡ length domains → n ≤ 4 → are_known domains (take n (0 ∷ 1 ∷ 2 ∷ 3 ∷ [])) ≡ true
upto_known domains n same few =
    ap (λ (m : ℕ). list_all (λ v. nat_lt v m) (take n (0 ∷ 1 ∷ 2 ∷ 3 ∷ []))) (sym same) ∙ below n few
  where
    below : (n : ℕ) → n ≤ 4 → list_all (λ v. nat_lt v n) (take n (0 ∷ 1 ∷ 2 ∷ 3 ∷ [])) ≡ true
    below zero few = refl
    below (suc zero) few = refl
    below (suc (suc zero)) few = refl
    below (suc (suc (suc zero))) few = refl
    below (suc (suc (suc (suc zero)))) few = refl
    below (suc (suc (suc (suc (suc n))))) few = absurd (omega (arith, few))

pub upto_distinct : (n : ℕ) → n ≤ 4 → are_distinct (take n (0 ∷ 1 ∷ 2 ∷ 3 ∷ [])) ≡ true
upto_distinct zero few = refl
upto_distinct (suc zero) few = refl
upto_distinct (suc (suc zero)) few = refl
upto_distinct (suc (suc (suc zero))) few = refl
upto_distinct (suc (suc (suc (suc zero)))) few = refl
upto_distinct (suc (suc (suc (suc (suc n))))) few = absurd (omega (arith, few))
