-- Where a linear function of the tick compares with 0 in a given way.
use Rattle.std.specs.Prelude.{ℕ, ◌+◌, ℤ, pos, ◌+ℤ◌, ◌-ℤ◌, ◌*ℤ◌, Bool, ◌&&◌, nat_le, nat_lt, List, ◌++◌, IsNone, option_to_list}
use Rattle.case_table.specs.Comparison.{compares}
use Rattle.case_table.specs.declared.compare.Op.{Op}
use Rattle.tick_set.specs.Runs.{IsRuns}
use Rattle.tick_set.specs.Ticks.{within}
use Rattle.tick_set.specs.declared.spans.Span.{Span}
use Rattle.tick_set.specs.declared.spans.Window.{Window}
use Rattle.linear_crossing.specs.declared.linear.Pair.{Pair}

-- the value at the tick t of the function that is b at the tick lo and rises by a at each tick
abbrev pub line_at : ℤ → ℤ → ℕ → ℕ → ℤ
line_at a b lo t = a *ℤ (pos t -ℤ pos lo) +ℤ b

-- the tick t is in the window, and the function compares with 0 there as `op` says
abbrev pub solves : ℤ → ℤ → Op → Window → ℕ → Bool
solves a b op w t = within w.lo w.hi t && compares op (line_at a b w.lo t) (pos 0)

-- the ticks from `from` up to `until`, without `until`, both counted from lo
abbrev pub is_stretch : ℕ → ℕ → ℕ → ℕ → Bool
is_stretch lo from until t = nat_le (lo + from) t && nat_lt t (lo + until)

-- the spans that are there, in order
abbrev pub spans_of : Pair → List Span
spans_of p = option_to_list p.first ++ option_to_list p.second

-- the pair holds the maximal runs of the set, and a single one stands first
pub record IsPairOf (member : ℕ → Bool) (p : Pair) : Type 0 where
  pub runs : IsRuns member (spans_of p)
  pub in_order : IsNone p.first → IsNone p.second
