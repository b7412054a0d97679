use Rattle.std.proofs.Common.{◌≤◌, length}
use Rattle.relation.proofs.EntryLemmas.{IsGathering}
use Rattle.relation.proofs.entries.put_groups.Given as goal

abbrev pub invariant-groups : goal.invariant-groups
invariant-groups g l = record {
  gathering : IsGathering g.S.TickSet.member l.rows l.entries l.initial.made l.made l.rest;
  fits : length l.rest ≤ length l.entries;
}

abbrev pub decreases-groups : goal.decreases-groups
decreases-groups g l = length l.rest
