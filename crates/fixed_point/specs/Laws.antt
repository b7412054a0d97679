-- What the definitions on numbers and their texts have to do with each other.
use Rattle.std.specs.Prelude.{◌≡◌, ℕ, ◌≤◌, ◌↔◌, List, Some, ℤ, unsigned_abs}
use Rattle.fixed_point.specs.declared.number.TheConstants.{READ_LIMIT}
use Rattle.fixed_point.specs.Decimal.{IsDecimal, thousandths_of}
use Rattle.fixed_point.specs.Canonical.{fix_text}

-- A text reads as a value exactly where it is a number of that value, within the limit.
abbrev pub ReadsEachDecimal : Type 0
ReadsEachDecimal = (limit : ℕ) (text : List ℕ) (value : ℤ) → (thousandths_of limit text ≡ Some value) ↔ (IsDecimal text value × (unsigned_abs value ≤ limit))

-- The canonical text of a number within the limit of what is read is read as that number.
abbrev pub ReadsPrintedNumber : Type 0
ReadsPrintedNumber = (value : ℤ) → unsigned_abs value ≤ READ_LIMIT → thousandths_of READ_LIMIT (fix_text value) ≡ Some value
