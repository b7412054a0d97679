-- what was written and what the rows that are left spell make the whole
use Rattle.std.proofs.Common.{◌≡◌, ◌++◌, map}
use Rattle.replica.specs.Rows.{target_rows_text}
use Rattle.replica.specs.Text.{Begins}
use Rattle.replica.proofs.RowLemmas.{row_of_entry}
use Rattle.replica.proofs.rows.Rows.push_text.Given as goal

abbrev pub invariant-loop-target : goal.invariant-loop-target
invariant-loop-target l = record {
  whole : l.out.items ++ target_rows_text l.first (map row_of_entry l.target-iterator) ≡ l.fn.out.items ++ target_rows_text l.first l.self;
  begins : Begins l.fn.out.items l.out.items;
}
