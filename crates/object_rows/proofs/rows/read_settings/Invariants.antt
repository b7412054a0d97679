use Rattle.std.proofs.Common.{◌≡◌, ◌+◌, ◌≤◌, drop, length}
use Rattle.std.specs.Prelude.{vec_capacity, vec_len}
use Rattle.std.specs.List.{fold}
use Rattle.std.specs.Option.{option_map}
use Rattle.csv.specs.Records.{fields_of}
use Rattle.object_rows.specs.Rows.{parts_of, settings_of, with_part}
use Rattle.object_rows.proofs.rows.read_settings.Given as goal

-- the settings so far, and the parts of the fields that are left, for each of which there is room
abbrev pub invariant-columns : goal.invariant-columns
invariant-columns l = record {
  whole : option_map settings_of (parts_of l.columns (drop 1 (fields_of l.row)))
      ≡ option_map (fold with_part l.sets.items) (parts_of (drop l.i l.columns) (drop (l.i + 1) (fields_of l.row)));
  few : vec_len l.sets ≤ l.i;
  room : length l.columns ≤ vec_capacity l.sets;
}
