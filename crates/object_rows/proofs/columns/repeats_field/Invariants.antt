use Rattle.std.proofs.Common.{◌≡◌, List, ℕ, drop}
use Rattle.csv.specs.Records.{fields_of}
use Rattle.object_store.specs.Faults.{repeats}
use Rattle.object_rows.proofs.columns.repeats_field.Given as goal

-- the fields that are left decide
abbrev pub invariant-fields : goal.invariant-fields
invariant-fields l = repeats (λ (field : List ℕ). field) (drop l.i (fields_of l.row)) ≡ repeats (λ (field : List ℕ). field) (drop 1 (fields_of l.row))
