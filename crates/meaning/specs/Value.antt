-- The value of a term at a tick: a number in thousandths, a text, or none.
use Rattle.std.specs.Prelude.{ℕ, ℤ, pos, neg_ℤ, ◌*◌, ◌+ℤ◌, ◌*ℤ◌, Bool, false, not, Option, None, Some, unwrap_or, option_map, option_and_then, List, map, slice_get, if◌then◌else◌}
use Rattle.std.specs.List.{reduce}
use Rattle.std.specs.Str.{bytes_eq}
use Rattle.case_table.specs.declared.compare.Op.{Op}
use Rattle.case_table.specs.declared.compare.Op.TheVariants as ops
use Rattle.case_table.specs.Comparison.{compares}
use Rattle.fixed_point.specs.declared.number.TheConstants.{READ_LIMIT}
use Rattle.fixed_point.specs.declared.variants.SubName.{SubName}
use Rattle.fixed_point.specs.declared.variants.SubName.TheVariants as subs
use Rattle.motion.specs.Dynamic.{Dynamic, slope_at, value_at}
use Rattle.motion.specs.declared.cell.AttrKind.{AttrKind}
use Rattle.motion.specs.declared.cell.AttrKind.TheVariants as kinds
use Rattle.motion.specs.declared.cell.Cell.{Cell}
use Rattle.motion.specs.declared.cell.Cell.TheVariants as cells
use Rattle.formula.specs.declared.limits.TheConstants.{DYNAMIC_BOUND}
use Rattle.formula.specs.declared.tree.RSigned.{RSigned}
use Rattle.formula.specs.declared.tree.RTerm.{RTerm}
use Rattle.formula.specs.declared.tree.RUnit.{RUnit}
use Rattle.formula.specs.declared.tree.RUnit.TheVariants as units
use Rattle.formula.specs.declared.value.Env.{Env}
use Rattle.formula.specs.declared.value.Value.{Value}
use Rattle.formula.specs.declared.value.Value.TheVariants as values
use Rattle.formula.specs.Value.{value_in}
use Rattle.meaning.specs.Trace.{Trace}

-- the cell of the attribute of an index, where the object is there
abbrev pub cell_in : Option (List Cell) → ℕ → Option Cell
cell_in cells a = option_and_then (λ there. slice_get there a) cells

-- a static cell has what was set last, and a dynamic one what is implied
abbrev pub cell_value : Cell → ℕ → Value
cell_value (cells.Num n) t = values.Num n
cell_value (cells.Text s) t = values.Text s
cell_value (cells.Dyn v) t = values.Num (value_at v t)

-- how large the values of an attribute of a kind can be, in thousandths
abbrev pub attribute_bound : AttrKind → ℕ
attribute_bound kinds.Num = READ_LIMIT
attribute_bound kinds.Text = 0
attribute_bound kinds.Dyn = DYNAMIC_BOUND

-- the parts of a dynamic attribute: the value at its update, 1000 for each tick up to the update, the slope in force
abbrev pub part_at : SubName → Dynamic → ℕ → ℤ
part_at subs.Value v t = v.value
part_at subs.UpdateTime v t = pos (1000 * v.updatetime)
part_at subs.Function v t = slope_at v t

-- a static cell has no such parts
abbrev pub part_value : SubName → Cell → ℕ → Option Value
part_value part (cells.Num n) t = None
part_value part (cells.Text s) t = None
part_value part (cells.Dyn v) t = Some (values.Num (part_at part v t))

-- what stands in a factor beside its sign and its multiplier: a number, a text, a value by the depth of its assignment, an
-- attribute of a variable's object, a part of one, or the tick
abbrev pub unit_value : Trace → Env → RUnit → ℕ → Option Value
unit_value h x (units.Literal n) t = Some (values.Num n)
unit_value h x (units.Text s) t = Some (values.Text s)
unit_value h x (units.Var d bound) t = value_in x d
unit_value h x (units.Attr v a bound) t = option_map (λ cell. cell_value cell t) (cell_in (h v t) a)
unit_value h x (units.Sub v a part) t = option_and_then (λ cell. part_value part cell t) (cell_in (h v t) a)
unit_value h x units.Time t = Some (values.Num (pos (1000 * t)))

-- a value with the sign and the multiplier of its factor, of which a text takes neither
abbrev pub signed_value : Bool → Option ℕ → Value → Option Value
signed_value minus times (values.Num n) =
    let multiple = pos (unwrap_or times 1) *ℤ n in
    Some (values.Num (if minus then neg_ℤ multiple else multiple))
signed_value false None (values.Text s) = Some (values.Text s)
signed_value minus times (values.Text s) = None

abbrev pub factor_value : Trace → Env → ℕ → RSigned → Option Value
factor_value h x t s = option_and_then (signed_value s.minus s.times) (unit_value h x s.unit t)

-- two numbers have a sum, and nothing else has
abbrev pub plus : Option Value → Option Value → Option Value
plus (Some (values.Num m)) (Some (values.Num n)) = Some (values.Num (m +ℤ n))
plus _ _ = None

-- the sum of the factors, where each of them has a value that is added
abbrev pub term_value : Trace → RTerm → Env → ℕ → Option Value
term_value h q x t = unwrap_or (reduce plus (map (factor_value h x t) q.factors)) None

-- texts are equal or they differ
abbrev pub texts_compare : Op → List ℕ → List ℕ → Bool
texts_compare ops.Eq s u = bytes_eq s u
texts_compare ops.Ne s u = not (bytes_eq s u)
texts_compare _ s u = false

-- what has no value compares in no way, nor does a number with a text
abbrev pub values_compare : Op → Option Value → Option Value → Bool
values_compare op (Some (values.Num m)) (Some (values.Num n)) = compares op m n
values_compare op (Some (values.Text s)) (Some (values.Text u)) = texts_compare op s u
values_compare op _ _ = false
