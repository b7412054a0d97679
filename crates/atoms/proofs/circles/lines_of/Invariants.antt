use Rattle.std.proofs.Common.{◌≡◌, ℕ, ◌+◌, ◌-◌, ◌≤◌, true, None, length, take}
use Rattle.std.specs.Prelude.{All, ◌==◌}
use Rattle.std.specs.List.{list_any}
use Rattle.formula_shape.specs.declared.limits.TheConstants.{OBJECT_LIMIT}
use Rattle.distance_crossing.specs.NearTicks.{positions_after}
use Rattle.linear_crossing.specs.Moving.{IsInReach}
use Rattle.meaning.specs.Atom.{positions_of}
use Rattle.atoms.specs.Parts.{epoch_of, shown}
use Rattle.atoms.proofs.CircleLemmas.{behind}
use Rattle.atoms.proofs.circles.lines_of.Given as goal

-- the lines of the variables before those that are left
abbrev pub invariant-placing : goal.invariant-placing
invariant-placing l = record {
  size : length l.lines ≡ OBJECT_LIMIT;
  count : l.len + length l.rest ≡ length l.fn.vs;
  reach : All IsInReach (take l.len l.lines);
  places : (t : ℕ) → l.part.span.lo ≤ t → t ≤ l.part.span.hi
      → positions_of (shown l.part) t l.fn.vs ≡ behind (positions_after (take l.len l.lines) (t - l.part.span.lo)) (positions_of (shown l.part) t l.rest);
  ahead : (v : ℕ) → list_any (λ u. u == v) l.fn.vs ≡ true → epoch_of l.part v ≡ None → list_any (λ u. u == v) l.rest ≡ true;
}

abbrev pub decreases-placing : goal.decreases-placing
decreases-placing l = length l.rest
