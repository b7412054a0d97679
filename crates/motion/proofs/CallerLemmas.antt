-- What the crates above cite of timelines and of what a command gives.
use Rattle.std.proofs.Common.{◌≡◌, ℕ, ℤ, zero, suc, ◌-◌, ◌<◌, ◌≤◌, false, unsigned_abs, codes, Option, None, Some, List, [], ◌∷◌, length, get_or, refl, sym, ap, ◌∙◌, arith}
use Rattle.std.specs.Prelude.{All, IfSome, nat_lt, nat_le, option_and_then, slice_get, if◌then◌else◌}
use Rattle.std.specs.Option.{option_map}
use Rattle.std.specs.List.{filter}
use Rattle.std.proofs.lemmas.List.Elements.{All-append, All-push, filter_passes}
use Rattle.std.proofs.lemmas.Option.{get_or_from_slice_get, slice_get_within}
use Rattle.std.proofs.lemmas.Bool.Decides.{nat_tests}
use Rattle.fixed_point.specs.declared.number.Point.{Point}
use Rattle.fixed_point.specs.declared.number.TheConstants.{READ_LIMIT}
use Rattle.motion.specs.declared.cell.Given.{Given}
use Rattle.motion.specs.declared.cell.NamedSet.{NamedSet}
use Rattle.motion.specs.declared.cell.Place.{Place}
use Rattle.motion.specs.Dynamic.{Dynamic, turns_at}
use Rattle.motion.specs.Function.{Function, IsNextTurn}
use Rattle.motion.specs.Pieces.{IsLinear}
use Rattle.motion.specs.Cells.{IsGiven, given_of, setting_of, place_sets}
use Rattle.motion.specs.Timeline.{Epoch, state_at, put, AreBegunBy}
use Rattle.motion.proofs.PieceLemmas.{linear}
use Rattle.motion.proofs.TimelineLemmas.{in_force_of, epoch_at-put}
use Rattle.exact.proofs.Naturals.{test_at_most}

-- the state at a tick after a write
pub state_at_put : (epochs : List Epoch) (p : Epoch) (t : ℕ) → state_at (put epochs p) t ≡ (if nat_le p.from t then p.cells else state_at epochs t)
state_at_put epochs p t = grind (arith, nat_tests, epoch_at-put epochs p t)

-- the last epoch has begun where each has
pub last_begun : (epochs : List Epoch) (t : ℕ) (last : Epoch) → slice_get epochs (length epochs - 1) ≡ Some last → AreBegunBy epochs t → last.from ≤ t
last_begun epochs t last is by =
    let here : get_or epochs (length epochs - 1) last ≡ last = get_or_from_slice_get epochs (length epochs - 1) last last is in
    omega (arith, by (length epochs - 1) last (slice_get_within epochs (length epochs - 1) last is), ap (λ q. q.from) here)

-- no epoch begins after the one that was written
pub AreBegunBy-put : (epochs : List Epoch) (p : Epoch) → AreBegunBy (put epochs p) p.from
AreBegunBy-put epochs p =
    All-push (λ q. q.from ≤ p.from) (filter (λ q. nat_lt q.from p.from) epochs) p
    (λ k d l. grind (arith, nat_tests, filter_passes (λ q. nat_lt q.from p.from) epochs k d l)) (omega arith)

pub AreBegunBy-later : (epochs : List Epoch) (s t : ℕ) → s ≤ t → AreBegunBy epochs s → AreBegunBy epochs t
AreBegunBy-later epochs s t h by = λ k d l. omega (arith, by k d l)

settled_from : (epochs : List Epoch) (found : Option Epoch) (now t : ℕ) → AreBegunBy epochs now → now ≤ t → in_force_of t found epochs ≡ in_force_of now found epochs
settled_from [] found now t begun later = refl
settled_from (q ∷ epochs) found now t begun later =
    let first : q.from ≤ now = begun 0 q (omega arith) in
    ap (λ b. in_force_of t (if b then Some q else found) epochs) (test_at_most q.from t (omega arith))
    ∙ settled_from epochs (Some q) now t (λ k d l. begun (suc k) d (omega arith)) later
    ∙ ap (λ b. in_force_of now (if b then Some q else found) epochs) (sym (test_at_most q.from now first))

-- from the last write on the state stays
pub settled : (epochs : List Epoch) (now t : ℕ) → AreBegunBy epochs now → now ≤ t → state_at epochs t ≡ state_at epochs now
settled epochs now t begun later = ap (option_and_then (λ (p : Epoch). p.cells)) (settled_from epochs None now t begun later)

-- what is given for a coordinate is a number within 10^12 where `at` is one
given_of-within : (n : Option ℤ) (f : Option Function) → IfSome n (λ x. unsigned_abs x ≤ READ_LIMIT) → IfSome (given_of n f) IsGiven
given_of-within None None within = within
given_of-within (Some n) None within = within
given_of-within None (Some f) within = tt
given_of-within (Some n) (Some f) within = within

setting_of-given : (name : List ℕ) (given : Option Given) → IfSome given IsGiven → All (λ (s : NamedSet). IsGiven s.given) (setting_of name given)
setting_of-given name None is k d l = absurd (omega arith)
setting_of-given name (Some given) is zero d l = is
setting_of-given name (Some given) is (suc k) d l = absurd (omega arith)

points_within : (at : Option Point) → IfSome at (λ p. (unsigned_abs p.x ≤ READ_LIMIT) × (unsigned_abs p.y ≤ READ_LIMIT))
    → IfSome (option_map (λ (p : Point). p.x) at) (λ n. unsigned_abs n ≤ READ_LIMIT) × IfSome (option_map (λ (p : Point). p.y) at) (λ n. unsigned_abs n ≤ READ_LIMIT)
points_within None within = (within, within)
points_within (Some p) within = within

-- where a place has its numbers within 10^12, so has what it sets
pub place_sets-given : (place : Place) → IfSome place.at (λ p. (unsigned_abs p.x ≤ READ_LIMIT) × (unsigned_abs p.y ≤ READ_LIMIT))
    → All (λ (s : NamedSet). IsGiven s.given) (place_sets place)
place_sets-given place within =
    let x = option_map (λ (p : Point). p.x) place.at in
    let y = option_map (λ (p : Point). p.y) place.at in
    let parts = points_within place.at within in
    let moving_x = option_map (λ (m : Function × Function). m.0) place.moving in
    let moving_y = option_map (λ (m : Function × Function). m.1) place.moving in
    All-append (λ (s : NamedSet). IsGiven s.given) (setting_of (codes "x") (given_of x moving_x)) (setting_of (codes "y") (given_of y moving_y))
    (setting_of-given (codes "x") (given_of x moving_x) (given_of-within x moving_x parts.0))
    (setting_of-given (codes "y") (given_of y moving_y) (given_of-within y moving_y parts.1))

-- where the next leg ends past `hi`, or none does, one slope moves the value
pub linear_until : (v : Dynamic) (lo hi end : ℕ) → v.updatetime ≤ lo → IsNextTurn (turns_at v) lo end → hi < end → IsLinear v lo hi
linear_until v lo hi end written next less = linear v lo hi written (λ t past up_to. next.none t past (omega arith))

pub linear_on : (v : Dynamic) (lo hi : ℕ) → v.updatetime ≤ lo → ((t : ℕ) → lo < t → turns_at v t ≡ false) → IsLinear v lo hi
linear_on v lo hi written none = linear v lo hi written (λ t past up_to. none t past)
