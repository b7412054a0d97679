use Rattle.std.proofs.Common.{◌≡◌, ◌+◌, ◌≤◌, ◌++◌, map, drop, length, IsTrue}
use Rattle.case_table.specs.Language.{numbered, each_taken}
use Rattle.case_table.proofs.fixed.listed.Given as goal

abbrev pub invariant-loop-text : goal.invariant-loop-text
invariant-loop-text g l =
    record {
      fits : l.code + length (drop l.text-index l.texts) ≤ 255;
      taken : IsTrue (each_taken g.row.N l.table l.code (map (λ t. t.now) (drop l.text-index l.texts)));
      listed : l.table ++ numbered l.code (map (λ t. t.now) (drop l.text-index l.texts)) ≡ numbered l.first (map (λ t. t.now) l.texts);
    }
