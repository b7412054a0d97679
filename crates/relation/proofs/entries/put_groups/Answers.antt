use Rattle.std.proofs.Common.{arith}
use Rattle.relation.proofs.EntryLemmas.{group_lies, group_more, group_smaller}
use Rattle.relation.proofs.entries.put_groups.Goals as goal

pub put-requires-clause-lies : goal.put-requires-clause-lies
put-requires-clause-lies g c =
    group_lies g.S.TickSet.member c.args.rows.now c.args.entries.now c.args.made.now c.groups.made c.groups.rest.now c.in-Some.first.now c.same_keys-count.result c.groups.invariant.gathering
    c.in-Some.ensures.value c.same_keys-count.ensures.same c.same_keys-count.ensures.next c.in_ok-set.set c.in_ok-set.ensures

pub groups-preserved : goal.groups-preserved
groups-preserved g c = record {
  gathering =
      group_more g.S.TickSet.member c.args.rows.now c.args.entries.now c.args.made.now c.groups.made c.groups.rest.now c.in-Some.first.now c.same_keys-count.result c.groups.invariant.gathering
      c.in-Some.ensures.value c.same_keys-count.ensures.same c.same_keys-count.ensures.next c.in_ok-set.set c.put.new.self c.in_ok-set.ensures
      c.in_ok-put.ensures.head c.in_ok-put.ensures.ticks c.in_ok-put.ensures.keys;
  fits = omega (arith, c.groups.invariant.fits);
}

pub groups-smaller : goal.groups-smaller
groups-smaller g c =
    group_smaller g.S.TickSet.member c.args.rows.now c.args.entries.now c.args.made.now c.groups.made c.groups.rest.now c.in-Some.first.now c.same_keys-count.result c.groups.invariant.gathering
    c.in-Some.ensures.value c.same_keys-count.ensures.same c.same_keys-count.ensures.next
