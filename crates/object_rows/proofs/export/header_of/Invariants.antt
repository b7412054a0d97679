use Rattle.std.proofs.Common.{◌≡◌, ◌++◌, [], length}
use Rattle.std.specs.List.{flat_map}
use Rattle.csv.specs.Records.{fields_of, partial_of}
use Rattle.object_rows.specs.Columns.{columns_of_attribute, header_of}
use Rattle.object_rows.proofs.export.header_of.Given as goal

-- the columns so far and those of the attributes that are left make the whole
abbrev pub invariant-attrs : goal.invariant-attrs
invariant-attrs l = record {
  fields : fields_of l.row ++ flat_map columns_of_attribute l.rest ≡ header_of l.attrs;
  partial : partial_of l.row ≡ [];
}

abbrev pub decreases-attrs : goal.decreases-attrs
decreases-attrs l = length l.rest
