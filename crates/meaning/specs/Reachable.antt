-- How large the numbers are that writes within their limits lead to.
use Rattle.std.specs.Prelude.{◌≡◌, ℕ, ◌+◌, ◌*◌, ℤ, unsigned_abs, Bool, true, ◌&&◌, nat_le, Some, List, map, IsTrue}
use Rattle.std.specs.List.{list_all}
use Rattle.fixed_point.specs.declared.number.TheConstants.{READ_LIMIT, SLOPE_LIMIT}
use Rattle.motion.specs.Dynamic.{Dynamic}
use Rattle.motion.specs.Function.{Function}
use Rattle.motion.specs.declared.cell.AttrKind.TheVariants as kinds
use Rattle.motion.specs.declared.cell.Cell.{Cell}
use Rattle.motion.specs.declared.cell.Cell.TheVariants as cells
use Rattle.motion.specs.Cells.{kind_of}
use Rattle.history.specs.Catalog.{Catalog, ClassInfo}
use Rattle.history.specs.Write.{Attribute}
use Rattle.formula.specs.declared.value.Env.{Env}
use Rattle.formula.specs.declared.value.Value.TheVariants as values
use Rattle.formula.specs.Resolved.{Scope}
use Rattle.formula.specs.Value.{value_in}
use Rattle.meaning.specs.Fits.{class_of_variable}
use Rattle.meaning.specs.Trace.{Trace}

abbrev pub is_slope : ℤ → Bool
is_slope n = nat_le (unsigned_abs n) SLOPE_LIMIT

-- the slope of each leg is within the limit
abbrev pub is_slow : Function → Bool
is_slow f = list_all (λ leg. is_slope leg.0) f.firsts && is_slope f.last

-- A vector at a tick from its update on. A given value is within 10^12 thousandths, and one that legs began at has
-- moved by at most 10^6 a tick.
abbrev pub is_reached : ℕ → Dynamic → Bool
is_reached t v =
    nat_le v.updatetime t
    && nat_le (unsigned_abs v.value) (READ_LIMIT + SLOPE_LIMIT * v.updatetime)
    && is_slow v.function

abbrev pub is_reachable : ℕ → Cell → Bool
is_reachable t (cells.Num n) = nat_le (unsigned_abs n) READ_LIMIT
is_reachable t (cells.Text s) = true
is_reachable t (cells.Dyn v) = is_reached t v

-- the state of an object at a tick, with a cell for each of these attributes
pub record IsReachable (attributes : List Attribute) (t : ℕ) (cells : List Cell) : Type 0 where
  pub kinds : map kind_of cells ≡ map (λ attribute. attribute.kind) attributes
  pub each : IsTrue (list_all (is_reachable t) cells)

-- the states of the variables at a tick, each of an object of its class
abbrev pub AreReachable : Catalog → List ℕ → Trace → ℕ → Type 0
AreReachable c classes h t = (v : ℕ) (k : ClassInfo) (cells : List Cell)
    → class_of_variable c classes v ≡ Some k → h v t ≡ Some cells → IsReachable k.attributes t cells

-- the states of the variables at a tick, each with the kinds of its class
abbrev pub FitTheirClasses : Catalog → List ℕ → Trace → ℕ → Type 0
FitTheirClasses c classes h t = (v : ℕ) (k : ClassInfo) (cells : List Cell)
    → class_of_variable c classes v ≡ Some k → h v t ≡ Some cells
    → map kind_of cells ≡ map (λ attribute. attribute.kind) k.attributes

-- each number that is bound is within the bound that stands beside its variable
abbrev pub AreWithinBounds : Scope → Env → Type 0
AreWithinBounds scope x = (d : ℕ) (bound n : ℤ) → scope d bound ≡ true → value_in x d ≡ Some (values.Num n)
    → IsTrue (nat_le (unsigned_abs n) (unsigned_abs bound))
