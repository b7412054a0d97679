-- The places of the lists of domains.
use Rattle.std.proofs.Common.{◌≡◌, ℕ, zero, suc, ◌+◌, ◌<◌, List, [], ◌∷◌, ◌++◌, length, take, slice_set, refl, sym, ◌∙◌, subst, arith}
use Rattle.std.proofs.Common.{length-append, length-set, length-take-le}
use Rattle.std.specs.List.Sorted.{IsStrictlyIncreasing}
use Rattle.std.proofs.lemmas.Grind.{take-set_at}
use Rattle.formula_shape.specs.declared.limits.TheConstants.{OBJECT_LIMIT}
use Rattle.relation.specs.Held.{AreHeld}
use Rattle.relation.specs.Key.{AreDomains, ids_of_variable}

-- the count is that of the lists in front
pub held_count : (lists : List (List ℕ)) (count : ℕ) → AreHeld lists count → length (take count lists) ≡ count
held_count lists count are = length-take-le count lists (omega (arith, are.few, are.full))

each_ascends : (lists : List (List ℕ)) (ids : List ℕ) → ((var : ℕ) → IsStrictlyIncreasing (ids_of_variable lists var)) → IsStrictlyIncreasing ids →
    (var : ℕ) → IsStrictlyIncreasing (ids_of_variable (lists ++ ids ∷ []) var)
each_ascends [] ids each up zero = up
each_ascends [] ids each up (suc var) = each 0
each_ascends (list ∷ lists) ids each up zero = each 0
each_ascends (list ∷ lists) ids each up (suc var) = each_ascends lists ids (λ v. each (suc v)) up var

domains_more : (lists : List (List ℕ)) (ids : List ℕ) → AreDomains lists → length lists < OBJECT_LIMIT → IsStrictlyIncreasing ids →
    AreDomains (lists ++ ids ∷ [])
domains_more lists ids are room up = record {
  few = omega (arith, room, length-append lists (ids ∷ []));
  ascending = each_ascends lists ids are.ascending up;
}

-- the front with the place behind it
pub held_front : (lists : List (List ℕ)) (count : ℕ) (ids : List ℕ) → AreHeld lists count → count < OBJECT_LIMIT →
    take (count + 1) (slice_set lists count ids) ≡ take count lists ++ ids ∷ []
held_front lists count ids are room = take-set_at lists count (count + 1) ids refl (omega (arith, room, are.full))

-- one place more is filled
pub held_more : (lists : List (List ℕ)) (count : ℕ) (ids : List ℕ) → AreHeld lists count → length (take count lists) < OBJECT_LIMIT → IsStrictlyIncreasing ids →
    AreHeld (slice_set lists count ids) (count + 1)
held_more lists count ids are room up = record {
  full = length-set lists count ids ∙ are.full;
  few = omega (arith, free);
  domains = subst AreDomains (sym (held_front lists count ids are free)) (domains_more (take count lists) ids are.domains room up);
}
  where
    free : count < OBJECT_LIMIT
    free = omega (arith, room, held_count lists count are)
