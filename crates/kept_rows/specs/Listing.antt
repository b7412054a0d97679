-- Targets, their ticks, and what is listed of them. The numbers of the bindings that have one target follow one
-- another: `width` of them, from target * width on.
use Rattle.std.specs.Prelude.{◌≡◌, ℕ, ◌+◌, ◌*◌, ◌<◌, ◌≤◌, Bool, true, false, ◌&&◌, nat_le, List, [], ◌∷◌, Option, None, Some}
use Rattle.std.specs.List.{list_any, filter_map}
use Rattle.tick_set.specs.Runs.{runs_of}
use Rattle.tick_set.specs.Ticks.{between, listed}

-- the first of the numbers from `from` up to `to` whose row has a tick
pub record IsNext (rows : ℕ → ℕ → Bool) (from to number : ℕ) : Type 0 where
  pub least : from ≤ number
  pub below : number < to
  pub before : (c t : ℕ) → from ≤ c → c < number → rows c t ≡ false
  pub tick : ¬ ((t : ℕ) → rows number t ≡ false)

-- no row of the numbers from `from` up to `to` has a tick
abbrev pub HaveNone : (ℕ → ℕ → Bool) → ℕ → ℕ → Type 0
HaveNone rows from to = (c t : ℕ) → from ≤ c → c < to → rows c t ≡ false

-- whether some row of the numbers from a up to b has the tick
abbrev pub some_row : (ℕ → ℕ → Bool) → ℕ → ℕ → ℕ → Bool
some_row rows a b t = list_any (λ c. rows c t) (between a b)

-- the ticks of a target: those of the rows of its bindings
abbrev pub target_has : (ℕ → ℕ → Bool) → ℕ → ℕ → ℕ → Bool
target_has rows width target t = some_row rows (target * width) (target * width + width) t

-- what there is of each number below n, in order
unfoldable pub lines_between : {X : Type 0} → (ℕ → Option X) → ℕ → ℕ → List X
lines_between line a b = filter_map line (between a b)

abbrev pub lines_upto : {X : Type 0} → (ℕ → Option X) → ℕ → List X
lines_upto line n = lines_between line 0 n

-- the row of an answer: a target with the runs of its ticks from `from` to e; none where it has none
abbrev pub with_runs : ℕ → List (ℕ × ℕ) → Option (ℕ × List (ℕ × ℕ))
with_runs target [] = None
with_runs target (run ∷ runs) = Some (target, run ∷ runs)

abbrev pub line_of : (ℕ → ℕ → Bool) → ℕ → ℕ → ℕ → Option (ℕ × List (ℕ × ℕ))
line_of target_has from e target = with_runs target (runs_of (listed (target_has target) from e))

-- whether a target stands at a tick, the last that counts being e
abbrev pub target_stands_at : (ℕ → ℕ → Bool) → ℕ → ℕ → ℕ → Bool
target_stands_at target_has e target t = nat_le t e && target_has target t

-- a target that enters or leaves between two ticks: the target, and whether it enters; it leaves else
abbrev pub when_differ : ℕ → Bool → Bool → Option (ℕ × Bool)
when_differ target true true = None
when_differ target false false = None
when_differ target true false = Some (target, false)
when_differ target false true = Some (target, true)

abbrev pub passing_of : (ℕ → ℕ → Bool) → ℕ → ℕ → ℕ → ℕ → Option (ℕ × Bool)
passing_of target_has e before now target = when_differ target (target_stands_at target_has e target before) (target_stands_at target_has e target now)
