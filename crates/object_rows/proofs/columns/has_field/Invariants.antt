use Rattle.std.proofs.Common.{◌≡◌, List, ℕ, drop}
use Rattle.std.specs.List.{list_any}
use Rattle.std.specs.Str.{bytes_eq}
use Rattle.csv.specs.Records.{fields_of}
use Rattle.object_rows.proofs.columns.has_field.Given as goal

-- the fields that are left decide
abbrev pub invariant-fields : goal.invariant-fields
invariant-fields l = list_any (λ (other : List ℕ). bytes_eq l.field other) (drop l.i (fields_of l.row))
    ≡ list_any (λ (other : List ℕ). bytes_eq l.field other) (drop l.from (fields_of l.row))
