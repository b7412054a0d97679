use Rattle.std.proofs.Common.{◌≡◌, ◌++◌, drop}
use Rattle.std.specs.Option.{option_map}
use Rattle.csv.specs.Records.{fields_of}
use Rattle.object_rows.specs.Columns.{each_column}
use Rattle.object_rows.proofs.columns.each_column.Given as goal

-- the columns so far, and those of the fields that are left
abbrev pub invariant-fields : goal.invariant-fields
invariant-fields l = each_column l.attrs (drop 1 (fields_of l.row))
    ≡ option_map (λ later. l.columns.items ++ later) (each_column l.attrs (drop l.i (fields_of l.row)))
