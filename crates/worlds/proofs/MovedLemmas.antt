-- Where objects are that are off by the moves of a world.
use Rattle.std.proofs.Common.{◌≡◌, ℕ, ◌≤◌, Bool, true, false, ◌&&◌, ℤ, pos, ◌+ℤ◌, ◌-ℤ◌, unsigned_abs, Option, Some, List, [], ◌∷◌, subst, arith}
use Rattle.std.specs.Prelude.{◌==◌, nat_le, if◌then◌else◌}
use Rattle.std.specs.List.{find}
use Rattle.std.specs.Option.{option_map_or}
use Rattle.std.proofs.lemmas.Bool.{and_parts, leb-true}
use Rattle.std.proofs.lemmas.Int.{ints}
use Rattle.fixed_point.specs.declared.number.Point.{Point}
use Rattle.geometry.specs.Plane.{point}
use Rattle.worlds.specs.Moved.{Move, is_world, moved_place}
use Rattle.worlds.proofs.ApartLemmas.{IsNear}

abbrev by_move : Point → Move → Point
by_move p m = point (p.x +ℤ m.dx) (p.y +ℤ m.dy)

off : (a d : ℤ) → d ≡ (a +ℤ d) -ℤ a
off a d = omega (arith, ints)

nowhere_off : (error : ℕ) (a : ℤ) → unsigned_abs (a -ℤ a) ≤ error
nowhere_off error a =
    let none : pos 0 ≡ a -ℤ a = omega (arith, ints) in
    subst (λ (d : ℤ). unsigned_abs d ≤ error) none (omega arith)

near_by_move : (error : ℕ) (m : Move) (p : Point) → (nat_le (unsigned_abs m.dx) error && nat_le (unsigned_abs m.dy) error) ≡ true → IsNear error p (by_move p m)
near_by_move error m p h =
    let parts = and_parts (nat_le (unsigned_abs m.dx) error) (nat_le (unsigned_abs m.dy) error) h in
    record {
      along_x = subst (λ (d : ℤ). unsigned_abs d ≤ error) (off p.x m.dx) (leb-true (unsigned_abs m.dx) error parts.0);
      along_y = subst (λ (d : ℤ). unsigned_abs d ≤ error) (off p.y m.dy) (leb-true (unsigned_abs m.dy) error parts.1);
    }

near_first : (is : Bool) (error : ℕ) (p : Point) (m : Move) (later : Option Move) → IsNear error p (by_move p m) → IsNear error p (option_map_or (by_move p) later p)
    → IsNear error p (option_map_or (by_move p) (if is then Some m else later) p)
near_first true error p m later h k = h
near_first false error p m later h k = k

-- in a world an object is at most so far from where it seems to be
pub near_moved : (error : ℕ) (moves : List Move) (id t : ℕ) (p : Point) → is_world error moves ≡ true → IsNear error p (moved_place moves id t p)
near_moved error [] id t p h = record { along_x = nowhere_off error p.x; along_y = nowhere_off error p.y }
near_moved error (m ∷ moves) id t p h =
    let parts = and_parts (nat_le (unsigned_abs m.dx) error && nat_le (unsigned_abs m.dy) error) (is_world error moves) h in
    near_first ((m.object == id) && (m.tick == t)) error p m (find (λ (n : Move). (n.object == id) && (n.tick == t)) moves)
    (near_by_move error m p parts.0) (near_moved error moves id t p parts.1)
