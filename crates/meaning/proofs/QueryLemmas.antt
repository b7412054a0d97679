-- Bindings of objects that are absent, that stand for two variables, and that a write leaves alone.
use Rattle.std.proofs.Common.{◌≡◌, ℕ, ◌+◌, ◌<◌, ◌≤◌, min, ℤ, pos, ◌+ℤ◌, ◌-ℤ◌, false, ◌&&◌, Option, None, Some, List, length, refl, sym, ap, ◌∙◌, inl, inr, arith}
use Rattle.std.specs.Prelude.{◌==◌, is_some}
use Rattle.std.specs.Option.{option_map_or}
use Rattle.std.proofs.lemmas.Bool.{both_ways, cases_eq, cases_lt, false_from_ne_true, ne_eqb}
use Rattle.std.proofs.lemmas.Int.{ints}
use Rattle.case_table.specs.declared.compare.Op.{Op}
use Rattle.fixed_point.specs.declared.number.Point.{Point}
use Rattle.geometry.specs.Distance.{distance_compares}
use Rattle.geometry.specs.Plane.{square, squared_distance}
use Rattle.geometry.specs.Region.{Region}
use Rattle.tick_set.proofs.Between.{all_between_at, all_between_from}
use Rattle.history.specs.History.{History, ChangesFrom, cells_at}
use Rattle.history.specs.World.{World}
use Rattle.formula.specs.declared.tree.RAtom.TheVariants as atoms
use Rattle.formula.specs.declared.value.Env.{Env}
use Rattle.formula.specs.Reach.{reach}
use Rattle.formula.specs.Tree.{ResolvedQuery}
use Rattle.formula.specs.Value.{no_values}
use Rattle.meaning.specs.Trace.{trace_of}
use Rattle.meaning.specs.Atom.{atom_holds, distance_holds, position_in}
use Rattle.meaning.specs.Satisfaction.{plain, sat}
use Rattle.meaning.specs.Agreement.{SameStates, SeesItsClasses, world_with}
use Rattle.meaning.specs.Binding.{are_present, holds_full}
use Rattle.meaning.proofs.AheadLemmas.{seen_so_far}
use Rattle.meaning.proofs.LocalityLemmas.{sees_its_variables, states_agree}
use Rattle.exact.proofs.Truths.{same_truth}

-- ---- absent objects

absent_is_none : (w : World) (q : ResolvedQuery) (b : ℕ → ℕ) (t v : ℕ) → v < length q.classes →
    cells_at w.history (b v) t ≡ None → are_present w q b t ≡ false
absent_is_none w q b t v within absent =
    false_from_ne_true (are_present w q b t) (λ all.
    both_ways (is_some (trace_of w.history b v t)) (ap is_some absent)
    (all_between_at (λ u. is_some (trace_of w.history b u t)) 0 (length q.classes) all v (omega arith) within))

pub absent_satisfies_none : (w : World) (q : ResolvedQuery) (e : ℕ) (b : ℕ → ℕ) (t v : ℕ) → v < length q.classes →
    cells_at w.history (b v) t ≡ None → holds_full w q e b t ≡ false
absent_satisfies_none w q e b t v within absent =
    ap (λ present. present && sat (plain w.regions (trace_of w.history b)) q.formula no_values e t) (absent_is_none w q b t v within absent)

-- ---- one object for two variables

no_difference : (a : ℤ) → a -ℤ a ≡ pos 0
no_difference a = omega (arith, ints)

distance_to_itself : (p : Point) → squared_distance p p ≡ pos 0
distance_to_itself p =
    ap (λ d. square d +ℤ square (p.y -ℤ p.y)) (no_difference p.x) ∙ ap (λ d. square (pos 0) +ℤ square d) (no_difference p.y)

own_distance : (op : Op) (c : ℤ) (at : Option Point) →
    distance_holds op c at at ≡ option_map_or (λ p. distance_compares op c (pos 0)) at false
own_distance op c None = refl
own_distance op c (Some p) = ap (distance_compares op c) (distance_to_itself p)

pub one_object_is_near : (regions : List Region) (h : History) (b : ℕ → ℕ) (v u : ℕ) (op : Op) (c : ℤ) (x : Env) (t : ℕ) → b v ≡ b u →
    atom_holds regions (trace_of h b) (atoms.Dist v u op c) x t
    ≡ option_map_or (λ p. distance_compares op c (pos 0)) (position_in t (cells_at h (b v) t)) false
one_object_is_near regions h b v u op c x t same =
    ap (λ id. distance_holds op c (position_in t (cells_at h (b v) t)) (position_in t (cells_at h id t))) (sym same)
    ∙ own_distance op c (position_in t (cells_at h (b v) t))

-- ---- what a write leaves

-- bindings whose objects have the same states from a tick t to e
same_present : (old new : History) (regions : List Region) (q : ResolvedQuery) (b : ℕ → ℕ) (t : ℕ) →
    ((v : ℕ) → v < length q.classes → cells_at old (b v) t ≡ cells_at new (b v) t) →
    are_present (world_with old regions) q b t ≡ are_present (world_with new regions) q b t
same_present old new regions q b t same =
    same_truth (are_present (world_with old regions) q b t) (are_present (world_with new regions) q b t)
    (λ all. all_between_from (λ v. is_some (trace_of new b v t)) 0 (length q.classes)
    (λ v from below. ap is_some (sym (same v below)) ∙ all_between_at (λ u. is_some (trace_of old b u t)) 0 (length q.classes) all v from below))
    (λ all. all_between_from (λ v. is_some (trace_of old b v t)) 0 (length q.classes)
    (λ v from below. ap is_some (same v below) ∙ all_between_at (λ u. is_some (trace_of new b u t)) 0 (length q.classes) all v from below))

pub same_full : (old new : History) (regions : List Region) (q : ResolvedQuery) (b : ℕ → ℕ) (lo e : ℕ) → SeesItsClasses q →
    ((v : ℕ) → v < length q.classes → (t : ℕ) → lo ≤ t → t ≤ e → cells_at old (b v) t ≡ cells_at new (b v) t) →
    (t : ℕ) → lo ≤ t → t ≤ e → holds_full (world_with old regions) q e b t ≡ holds_full (world_with new regions) q e b t
same_full old new regions q b lo e sees same t from to =
    let states : SameStates (trace_of old b) (trace_of new b) lo e q.formula = λ v has. same v (sees v has) in
    ap (λ present. present && sat (plain regions (trace_of old b)) q.formula no_values e t)
    (same_present old new regions q b t (λ v within. same v within t from to))
    ∙ ap (λ holds. are_present (world_with new regions) q b t && holds)
    (sees_its_variables regions (trace_of old b) (trace_of new b) lo e q.formula states e (omega arith) no_values t from to)

-- a binding without the object that a write changes is left as it was
pub others_stay : (id now : ℕ) (old new : History) → ChangesFrom id now old new → (regions : List Region) (q : ResolvedQuery) → SeesItsClasses q →
    (b : ℕ → ℕ) → ((v : ℕ) → v < length q.classes → (b v == id) ≡ false) → (e t : ℕ) → t ≤ e →
    holds_full (world_with old regions) q e b t ≡ holds_full (world_with new regions) q e b t
others_stay id now old new changes regions q sees b without e t to =
    same_full old new regions q b t e sees (λ v within u from upto. sym (changes.others (b v) u (without v within))) t (omega arith) to

-- an object's states before a write stay
past_of_each : (id now : ℕ) (old new : History) → ChangesFrom id now old new → (i t : ℕ) → t < now → cells_at old i t ≡ cells_at new i t
past_of_each id now old new changes i t before =
    elim (cases_eq i id) [
      | inl same ↦ rw same (sym (changes.past t before))
      | inr other ↦ sym (changes.others i t (ne_eqb i id other))
    ]

-- what is past its expiry is left as it was
pub expired_stay : (id now : ℕ) (old new : History) → ChangesFrom id now old new → (regions : List Region) (q : ResolvedQuery) → SeesItsClasses q →
    (b : ℕ → ℕ) (e t : ℕ) → t ≤ e → e < now →
    holds_full (world_with old regions) q e b t ≡ holds_full (world_with new regions) q e b t
expired_stay id now old new changes regions q sees b e t to past =
    same_full old new regions q b t e sees
    (λ v within u from upto. past_of_each id now old new changes (b v) u (omega (arith, upto, past))) t (omega arith) to

-- what is past stays, where what comes after it does
pub past_stays_with_the_future : (id now : ℕ) (old new : History) → ChangesFrom id now old new → (regions : List Region) (q : ResolvedQuery) → SeesItsClasses q →
    (b : ℕ → ℕ) (e : ℕ) →
    ((v : ℕ) → v < length q.classes → (t : ℕ) → now ≤ t → t ≤ e → cells_at old (b v) t ≡ cells_at new (b v) t) → (t : ℕ) → t ≤ e →
    holds_full (world_with old regions) q e b t ≡ holds_full (world_with new regions) q e b t
past_stays_with_the_future id now old new changes regions q sees b e later t to =
    same_full old new regions q b t e sees
    (λ v within u from upto. elim (cases_lt u now) [
      | inl before ↦ past_of_each id now old new changes (b v) u before
      | inr after ↦ later v within u after upto
    ]) t (omega arith) to

-- what is further back than the formula's reach stays
pub past_stays_beyond_the_reach : (id now : ℕ) (old new : History) → ChangesFrom id now old new → (regions : List Region) (q : ResolvedQuery) → SeesItsClasses q →
    (n : ℕ) → reach q.formula ≡ Some n → (b : ℕ → ℕ) (e t : ℕ) → t ≤ e → t + n < now →
    holds_full (world_with old regions) q e b t ≡ holds_full (world_with new regions) q e b t
past_stays_beyond_the_reach id now old new changes regions q sees n is b e t to before =
    let states : SameStates (trace_of old b) (trace_of new b) t (min (t + n) e) q.formula =
    λ v has u from upto. past_of_each id now old new changes (b v) u (omega (arith, upto, before)) in
    ap (λ present. present && sat (plain regions (trace_of old b)) q.formula no_values e t)
    (same_present old new regions q b t (λ v within. past_of_each id now old new changes (b v) t (omega (arith, before))))
    ∙ ap (λ holds. are_present (world_with new regions) q b t && holds)
    (seen_so_far (plain regions (trace_of old b)) (plain regions (trace_of new b)) q.formula n is e t to
    (states_agree regions (trace_of old b) (trace_of new b) t (min (t + n) e) q.formula states) no_values)
