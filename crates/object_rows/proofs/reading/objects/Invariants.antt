use Rattle.std.proofs.Common.{◌≡◌, ◌≤◌, ◌++◌, length}
use Rattle.std.specs.Prelude.{vec_capacity}
use Rattle.std.specs.Option.{option_map}
use Rattle.object_rows.specs.Reader.{IsBetweenRecords, left_in}
use Rattle.object_rows.specs.Rows.{each_row}
use Rattle.object_rows.proofs.reading.objects.Given as goal

-- the objects so far, and those of the rows that are left
abbrev pub invariant-rows : goal.invariant-rows
invariant-rows l = record {
  between : IsBetweenRecords l.reader;
  room : length l.columns ≤ vec_capacity l.sets;
  whole : each_row l.columns (left_in l.initial.reader) ≡ option_map (λ later. l.objects.items ++ later) (each_row l.columns (left_in l.reader));
}

abbrev pub decreases-rows : goal.decreases-rows
decreases-rows l = length (left_in l.reader)
