-- The lines of rows are short.
use Rattle.std.proofs.Common.{◌≡◌, ℕ, zero, suc, ◌+◌, ◌*◌, ◌/◌, ◌%◌, ◌<◌, ◌≤◌, ℤ, unsigned_abs, Bool, true, false, Option, Some, None, List, [], ◌∷◌, ◌++◌, length, length-append, take, flat_map, decimal, refl, ap, subst, arith}
use Rattle.std.specs.Int.{is_negative}
use Rattle.std.specs.Fmt.{sign_text}
use Rattle.std.specs.List.{AllByRecursion}
use Rattle.std.proofs.lemmas.List.{length-map}
use Rattle.std.proofs.lemmas.Fmt.{length-decimal-le}
use Rattle.csv.specs.Reading.{default_config, records, strip_bom}
use Rattle.fixed_point.specs.Canonical.{fix_text, three_digits, without_last_zeros}
use Rattle.fixed_point.specs.Decimal.{decimals_text}
use Rattle.fixed_point.specs.Laws.{ReadsEachDecimal}
use Rattle.fixed_point.proofs.CanonicalLemmas.{point_length}
use Rattle.motion.specs.Function.{Function}
use Rattle.motion.specs.declared.cell.Given.{Given}
use Rattle.motion.specs.declared.cell.Given.TheVariants as givens
use Rattle.motion.specs.declared.cell.NamedSet.{NamedSet}
use Rattle.motion.specs.declared.limits.TheConstants.{ATTRIBUTE_LIMIT}
use Rattle.history.specs.Write.{Attribute}
use Rattle.ftl_lexer.specs.declared.buffer.TheConstants.{LEXER_LIMIT}
use Rattle.command_text.specs.Shape.{AreLegs, IsLeg, IsPrintable, IsPrintableGiven, IsSetting, IsValue}
use Rattle.command_text.specs.Text.{given_value_text, rate_leg_text, rates_text, setting_text, settings_text, text_of}
use Rattle.command_text.proofs.canonical.TextLengths.{rate_leg_size}
use Rattle.object_rows.specs.declared.columns.Column.{Column}
use Rattle.object_rows.specs.declared.rows.ObjectRow.{ObjectRow}
use Rattle.object_rows.specs.Columns.{columns_of}
use Rattle.object_rows.specs.Commands.{GivesShortLines, HasShortLine, IsPrintableRow, command_of_row}
use Rattle.object_rows.specs.Rows.{each_row, row_of, rows_in, rows_of}
use Rattle.object_rows.proofs.CommandLemmas.{commands_printable}
use Rattle.object_rows.proofs.NamedLemmas.{IsAmong, IsNamed, attribute_names, begins, columns_among, row_few}
use Rattle.exact.proofs.Items.{sign_short}

-- ---- The texts of numbers

take_short : (n : ℕ) (digits : List ℕ) → length (take n digits) ≤ length digits
take_short zero digits = omega arith
take_short (suc n) [] = omega arith
take_short (suc n) (d ∷ digits) = omega (arith, take_short n digits)

zeros_short : (digits : List ℕ) → length (without_last_zeros digits) ≤ length digits
zeros_short digits = take_short _ digits

fix_parts : (v : ℤ) → fix_text v
    ≡ (sign_text (is_negative v) ++ decimal (unsigned_abs v / 1000)) ++ decimals_text (without_last_zeros (three_digits (unsigned_abs v % 1000)))
unfolding fix_text
fix_parts v = refl

fix_short : (v : ℤ) → unsigned_abs v < 10000000000000 → length (fix_text v) ≤ 15
fix_short v small =
    let sign : List ℕ = sign_text (is_negative v) in
    let whole : List ℕ = decimal (unsigned_abs v / 1000) in
    let digits : List ℕ = three_digits (unsigned_abs v % 1000) in
    let point : List ℕ = decimals_text (without_last_zeros digits) in
    let ten : length whole ≤ 10 = length-decimal-le 10 (unsigned_abs v / 1000) (omega arith) (omega (arith, small)) (omega (arith, small)) in
    let front : length (sign ++ whole) ≡ length sign + length whole = length-append sign whole in
    let all : length ((sign ++ whole) ++ point) ≡ length (sign ++ whole) + length point = length-append (sign ++ whole) point in
    omega (arith, ap length (fix_parts v), all, front, sign_short (is_negative v), ten, point_length (without_last_zeros digits), zeros_short digits)

value_short : (v : ℤ) → IsValue v → length (fix_text v) ≤ 15
value_short v is = fix_short v (omega (arith, is))

-- ---- The texts of settings

leg_short : (leg : ℤ × ℕ) → IsLeg leg → length (rate_leg_text leg) ≤ 29
leg_short (a, n) is =
    let ten : length (decimal n) ≤ 10 = length-decimal-le 10 n (omega arith) (omega (arith, is.1.1)) (omega (arith, is.1.1)) in
    omega (arith, rate_leg_size a n, fix_short a (omega (arith, is.0)), ten)

legs_short : (legs : List (ℤ × ℕ)) → AllByRecursion IsLeg legs → length (flat_map rate_leg_text legs) ≤ 29 * length legs
legs_short [] are = omega arith
legs_short (leg ∷ legs) are =
    omega (arith, length-append (rate_leg_text leg) (flat_map rate_leg_text legs), leg_short leg are.0, legs_short legs are.1)

rates_short : (f : Function) → AreLegs f → length (rates_text f) ≤ 218
rates_short f are =
    omega (
      arith,
      length-append (flat_map rate_leg_text f.firsts) (fix_text f.last),
      legs_short f.firsts are.firsts,
      are.few,
      fix_short f.last (omega (arith, are.last)),
    )

given_short : (given : Given) → IsPrintableGiven given → length (given_value_text given) ≤ 241
given_short (givens.Num v) is = omega (arith, value_short v is)
given_short (givens.Text t) is = omega (arith, length-append t (34 ∷ []), is.2)
given_short (givens.Rate f) is = omega (arith, rates_short f is)
given_short (givens.Both v f) is = omega (arith, length-append (fix_text v) (32 ∷ 114 ∷ 97 ∷ 116 ∷ 101 ∷ 32 ∷ rates_text f), value_short v is.0, rates_short f is.1)

setting_short : (set : NamedSet) → IsSetting set → length (setting_text set) ≤ 275
setting_short set is = omega (arith, length-append set.name (32 ∷ given_value_text set.given), is.0.1, given_short set.given is.1)

settings_short : (sets : List NamedSet) → AllByRecursion IsSetting sets → length (settings_text sets) ≤ 275 * length sets
settings_short [] are = omega arith
settings_short (set ∷ sets) are =
    omega (arith, length-append (setting_text set) (settings_text sets), setting_short set are.0, settings_short sets are.1)

-- ---- The lines of rows

abbrev HasFew : ℕ → ObjectRow → Type 0
HasFew most row = length row.sets ≤ most

row_short : (class : List ℕ) (row : ObjectRow) (present : Bool) → IsPrintable (command_of_row class present row) → HasFew (ATTRIBUTE_LIMIT + 2) row
    → length (text_of (command_of_row class present row)) ≤ LEXER_LIMIT
unfolding text_of
row_short class row true is few =
    omega (arith, length-append row.name (settings_text row.sets), is.1.0.1, settings_short row.sets is.1.1.settings, few)
row_short class row false is few =
    omega (
      arith,
      length-append class (32 ∷ row.name ++ settings_text row.sets),
      length-append row.name (settings_text row.sets),
      is.1.0.1,
      is.1.1.0.1,
      settings_short row.sets is.1.1.1.settings,
      few,
    )

each_short : (class : List ℕ) (most : ℕ) (rows : List ObjectRow) → most ≤ ATTRIBUTE_LIMIT + 2 → AllByRecursion (IsPrintableRow class) rows
    → AllByRecursion (HasFew most) rows → AllByRecursion (HasShortLine class) rows
each_short class most [] few are counts = tt
each_short class most (row ∷ rows) few are counts =
    (λ present. row_short class row present (are.0 present) (omega (arith, few, counts.0)), each_short class most rows few are.1 counts.1)

rows_few : (all : List (List ℕ)) (columns : List Column) (read : List (List (List ℕ))) (rows : List ObjectRow)
    → AllByRecursion (IsNamed (IsAmong all)) columns → each_row columns read ≡ Some rows → AllByRecursion (HasFew (length all)) rows
rows_few all columns [] rows named h = let same : [] ≡ rows = cc h in subst (AllByRecursion (HasFew (length all))) same tt
rows_few all columns (r ∷ rs) rows named h =
    let b = begins (row_of columns r) (each_row columns rs) rows h in
    subst (AllByRecursion (HasFew (length all))) b.whole_is (row_few all columns r b.item named b.first_is, rows_few all columns rs b.later named b.rest_is)

all_few : (attributes : List Attribute) (read : List (List (List ℕ))) (rows : List ObjectRow) → rows_of attributes read ≡ Some rows
    → AllByRecursion (HasFew (length (attribute_names attributes))) rows
all_few attributes [] rows h = absurd (cc h)
all_few attributes (header ∷ read) rows h = by (columns_of attributes header) refl
  where
    by : (o : Option (List Column)) → columns_of attributes header ≡ o → AllByRecursion (HasFew (length (attribute_names attributes))) rows
    by None e = absurd (cc (rw e at h))
    by (Some columns) e = rows_few (attribute_names attributes) columns read rows (columns_among attributes header columns e) (rw e at h)

pub lines_short : ReadsEachDecimal → GivesShortLines
unfolding rows_in
lines_short decimals class attributes text rows short named few h =
    each_short class (length (attribute_names attributes)) rows (omega (arith, few, length-map attributes (λ (a : Attribute). a.name)))
    (commands_printable decimals class attributes text rows short named h)
    (all_few attributes (records default_config (strip_bom text)) rows h)
