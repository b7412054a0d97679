-- The targets of a query that is right by number.
use Rattle.std.proofs.Common.{◌≡◌, ℕ, ◌<◌, true, List, [], ◌∷◌, length, refl, arith}
use Rattle.std.specs.Prelude.{nat_lt}
use Rattle.std.specs.List.{list_all}
use Rattle.std.proofs.lemmas.Bool.{and_from, and_parts}
use Rattle.std.proofs.lemmas.Bool.Decides.{nat_tests}
use Rattle.tick_set.specs.Ticks.{between}
use Rattle.formula_shape.specs.declared.limits.TheConstants.{OBJECT_LIMIT}
use Rattle.formula.specs.Resolved.{IsResolved, are_distinct, is_list_of}
use Rattle.formula.specs.Tree.{ResolvedQuery}
use Rattle.relation.specs.Key.{has_id}
use Rattle.answers.proofs.AnswerLemmas.{between_has}

pub known_targets : (q : ResolvedQuery) → IsResolved q → list_all (λ v. nat_lt v (length q.classes)) q.targets ≡ true
known_targets q right = (and_parts (is_list_of OBJECT_LIMIT q.targets) (list_all (λ v. nat_lt v (length q.classes)) q.targets) right.targets).1

pub distinct_targets : (q : ResolvedQuery) → IsResolved q → are_distinct q.targets ≡ true
distinct_targets q right = right.differ

among_those : (n : ℕ) (targets : List ℕ) → list_all (λ v. nat_lt v n) targets ≡ true → list_all (has_id (between 0 n)) targets ≡ true
among_those n [] below = refl
among_those n (v ∷ targets) below =
    let parts = and_parts (nat_lt v n) (list_all (λ u. nat_lt u n) targets) below in
    let first : v < n = grind (arith, nat_tests, parts.0) in
    and_from (has_id (between 0 n) v) (list_all (has_id (between 0 n)) targets) (between_has n v first) (among_those n targets parts.1)

-- the targets are some of the variables
pub targets_among : (q : ResolvedQuery) → IsResolved q → list_all (has_id (between 0 (length q.classes))) q.targets ≡ true
targets_among q right = among_those (length q.classes) q.targets (known_targets q right)
