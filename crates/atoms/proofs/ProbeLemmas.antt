-- How many probes an atom takes, part by part.
use Rattle.std.proofs.Common.{◌≡◌, ℕ, ◌+◌, ◌*◌, ◌-◌, ◌<◌, ◌≤◌, Bool, true, false, None, is_some, List, [], ◌∷◌, length, refl, ap, sym, subst, ◌∙◌, arith}
use Rattle.std.specs.Prelude.{◌==◌, nat_le, unwrap_or, if◌then◌else◌}
use Rattle.std.specs.List.{list_all, list_any}
use Rattle.std.specs.Option.{option_copied}
use Rattle.std.proofs.lemmas.Bool.{false≢true, or_left}
use Rattle.std.proofs.lemmas.Bool.Decides.{nat_tests}
use Rattle.std.proofs.Math.Nat.{mul-le-mul_left}
use Rattle.distance_crossing.specs.declared.near.TheConstants.{SHORT_WINDOW}
use Rattle.formula.specs.declared.tree.RAtom.{RAtom}
use Rattle.formula.specs.declared.tree.RAtom.TheVariants as atoms
use Rattle.formula.specs.Variables.{atom_has}
use Rattle.meaning.specs.Reads.{atom_variables}
use Rattle.atoms.specs.declared.parts.Part.{Part}
use Rattle.atoms.specs.Parts.{HaveEpochs, beside, epoch_of}
use Rattle.atoms.specs.Probes.{probe_limit}
use Rattle.atoms.specs.Sizes.{is_sized}
use Rattle.atoms.proofs.PartLemmas.{missing, none_is}
use Rattle.exact.proofs.Naturals.{equals_itself}

short_limit : (m n : ℕ) → m ≤ n → (if nat_le m SHORT_WINDOW then 47 else 63) ≤ (if nat_le n SHORT_WINDOW then 47 else 63)
short_limit m n less = grind (arith, nat_tests)

probe_less : (a : RAtom) (m n : ℕ) → m ≤ n → probe_limit a m ≤ probe_limit a n
probe_less (atoms.Compare q op r) m n less = omega arith
probe_less (atoms.Inside v region) m n less = omega arith
probe_less (atoms.Outside v region) m n less = omega arith
probe_less (atoms.Dist v u op c) m n less = short_limit m n less
probe_less (atoms.Sphere r vs) m n less = omega arith

-- where none of its objects is there, no atom takes a probe
quiet : (a : RAtom) (old new ticks : ℕ) → is_sized a ≡ true → new ≤ old + probe_limit a ticks → ((v : ℕ) → atom_has v a ≡ true → new ≡ old) → new ≤ old
quiet (atoms.Compare q op r) old new ticks sized cost absent = omega arith
quiet (atoms.Inside v region) old new ticks sized cost absent = omega arith
quiet (atoms.Outside v region) old new ticks sized cost absent = omega arith
quiet (atoms.Dist v u op c) old new ticks sized cost absent = omega (arith, absent v (or_left (v == v) (u == v) (equals_itself v)))
quiet (atoms.Sphere r []) old new ticks sized cost absent = absurd (false≢true sized)
quiet (atoms.Sphere r (v ∷ vs)) old new ticks sized cost absent = omega (arith, absent v (or_left (v == v) (list_any (λ o. o == v) vs) (equals_itself v)))

kept : (c old new next at : ℕ) → new ≤ old → next ≤ at → new + c * next ≤ old + c * at
kept c old new next at cost less = omega (arith, mul-le-mul_left c less)

spent : (c old new next at : ℕ) → new ≤ old + c → next + 1 ≤ at → new + c * next ≤ old + c * at
spent c old new next at cost less = omega (arith, mul-le-mul_left c less)

module _ (a : RAtom) (begun : ℕ → Bool) (old new part all next at : ℕ) (sized : is_sized a ≡ true) (shorter : part ≤ all) (cost : new ≤ old + probe_limit a part)
    (absent : (v : ℕ) → atom_has v a ≡ true → begun v ≡ false → new ≡ old) (not_more : next ≤ at) where
  by_begun : (variables : List ℕ) (each : Bool) → variables ≡ atom_variables a → list_all begun variables ≡ each → (variables ≡ [] → (v : ℕ) → begun v ≡ false) →
      (0 < length variables → list_all begun variables ≡ true → next < at) → new + probe_limit a all * next ≤ old + probe_limit a all * at
  by_begun [] true are is none fewer =
      kept (probe_limit a all) old new next at (quiet a old new part sized cost (λ v has. absent v has (none refl v))) not_more
  by_begun (v ∷ variables) true are is none fewer =
      spent (probe_limit a all) old new next at (omega (arith, probe_less a part all shorter)) (omega (arith, fewer (omega arith) is))
  by_begun variables false are is none fewer =
      let lacks = missing (λ v. atom_has v a) begun (0 ∷ 1 ∷ 2 ∷ 3 ∷ []) (sym (ap (list_all begun) are) ∙ is) in
      kept (probe_limit a all) old new next at (omega (arith, absent lacks.variable lacks.passes lacks.absent)) not_more

  -- what a part takes is told by the pieces that are passed
  pub cost_step : (variables : List ℕ) → variables ≡ atom_variables a → (variables ≡ [] → (v : ℕ) → begun v ≡ false) →
      (0 < length variables → list_all begun variables ≡ true → next < at) → new + probe_limit a all * next ≤ old + probe_limit a all * at
  cost_step variables are none fewer = by_begun variables (list_all begun variables) are refl none fewer

-- the same of a part that was judged
pub part_cost : (a : RAtom) (part : Part) (variables : List ℕ) (old new all next at : ℕ) → is_sized a ≡ true → variables ≡ atom_variables a → part.variables.now ≡ variables →
    part.span.hi - part.span.lo ≤ all → new ≤ old + probe_limit a (part.span.hi - part.span.lo) →
    ((v : ℕ) → atom_has v a ≡ true → epoch_of part v ≡ None → new ≡ old) → (0 < length variables → HaveEpochs part → next < at) → next ≤ at →
    new + probe_limit a all * next ≤ old + probe_limit a all * at
part_cost a part variables old new all next at sized are own_variables shorter cost absent fewer not_more =
    let begun = λ (v : ℕ). is_some (epoch_of part v) in
    cost_step a begun old new (part.span.hi - part.span.lo) all next at sized shorter cost
    (λ v has none. absent v has (none_is (epoch_of part v) none)) not_more variables are
    (λ empty v. ap (λ (vs : List ℕ). is_some (option_copied (unwrap_or (beside vs part.epochs v) None))) (own_variables ∙ empty))
    (λ some each. fewer some (subst (λ vs. list_all begun vs ≡ true) (sym own_variables) each))
