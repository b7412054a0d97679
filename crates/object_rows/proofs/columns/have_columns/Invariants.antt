use Rattle.std.proofs.Common.{◌≡◌, drop, is_some}
use Rattle.csv.specs.Records.{fields_of}
use Rattle.object_rows.specs.Columns.{each_column}
use Rattle.object_rows.proofs.columns.have_columns.Given as goal

-- the fields that are left decide
abbrev pub invariant-fields : goal.invariant-fields
invariant-fields l = is_some (each_column l.attrs (drop l.i (fields_of l.row))) ≡ is_some (each_column l.attrs (drop 1 (fields_of l.row)))
