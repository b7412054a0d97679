use Rattle.std.proofs.Common.{arith, refl}
use Rattle.relation.specs.declared.entries.Entry.{Entry}
use Rattle.relation.proofs.ProjectionLemmas.{entries_each, entries_ticks}
use Rattle.relation.proofs.projection.entries_of.Goals as goal

pub rows-preserved : goal.rows-preserved
rows-preserved g c =
    let entry : Entry = record { key = c.picked-key.result; place = c.rows.place } in
    record {
      each = λ domains lo hi are.
          entries_each g.S.TickSet.member c.args.own.now c.args.vars.now c.args.rows.now c.rows.place c.index-rows-place.result c.picked-key.result entry
          (omega (arith, c.rows-test.true)) c.index-rows-place.is c.picked-key.ensures refl refl domains lo hi c.rows.made.items c.push.new.self.items c.in_ok-push.ensures.items
          c.requires.among are (c.rows.invariant.each domains lo hi are);
      ticks = λ key t.
          entries_ticks g.S.TickSet.member c.args.own.now c.args.vars.now c.args.rows.now c.rows.place c.index-rows-place.result c.picked-key.result entry
          (omega (arith, c.rows-test.true)) c.index-rows-place.is c.picked-key.ensures refl refl c.rows.made.items c.push.new.self.items c.in_ok-push.ensures.items
          key t (c.rows.invariant.ticks key t);
    }
