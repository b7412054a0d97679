use Rattle.std.proofs.Common.{List, ◌≤◌, map, sym, ap, ◌∙◌, subst, arith}
use Rattle.std.proofs.lemmas.Bool.Decides.{nat_tests}
use Rattle.object_store.specs.Contents.{catalog_of}
use Rattle.atoms.specs.Asked.{told_world}
use Rattle.kept_rows.specs.declared.binding.TheConstants.{BINDING_LIMIT}
use Rattle.kept_rows.specs.Numbers.{size_of}
use Rattle.kept_rows.specs.Rows.{HasRoom}
use Rattle.live_queries.specs.Columns.{AreCounted, Column, column_variables}
use Rattle.live_queries.specs.Prepared.{AreColumnsWith}
use Rattle.live_queries.proofs.AnewLemmas.{alive_rows_as_seen, judged_within}
use Rattle.live_queries.proofs.query.LiveQuery.new_rows.Goals as goal

pub new_rows-requires-clause-columns : goal.new_rows-requires-clause-columns
new_rows-requires-clause-columns g c = record {
  order = ap (λ (cs : List Column). map (λ k. k.variable) cs) c.deref.ensures.value ∙ c.self.invariant.0.order;
  counted = subst AreCounted (sym c.deref.ensures.value) c.self.invariant.0.counted;
  size = subst (λ (cs : List Column). size_of (column_variables cs) ≤ BINDING_LIMIT) (sym c.deref.ensures.value) c.self.invariant.0.size;
  pages = subst (λ (cs : List Column). HasRoom c.self.inside.rows (size_of (column_variables cs))) (sym c.deref.ensures.value) c.self.invariant.0.room;
}

pub returns-clause-rows : goal.returns-clause-rows
returns-clause-rows g c =
    alive_rows_as_seen (told_world c.args.write.now.present.world.now) c.args.grows c.args.write.now.object.now.id c.args.write.now.object.now.class c.args.write.now.present.tick c.first_judged.result c.kept_before.result
    c.judged_from-judged.result _ c.args.self.now c.self.view_is
    c.in_ok-changes.changes (grind (arith, nat_tests, c.if-self-now.false)) c.judged_from-judged.ensures.value c.first_judged.ensures.judged
    c.kept_before.ensures.kept c.kept_before.ensures.watched
    (λ ds made. c.in_ok-changes.ensures.rows ds
    (subst (λ (cs : List Column). AreColumnsWith c.args.grows c.args.write.now.object.now.class c.self.inside.query.classes c.args.write.now.object.now.id cs ds) (sym c.deref.ensures.value) made))

pub returns-in_err-changes-clause-reads : goal.returns-in_err-changes-clause-reads
returns-in_err-changes-clause-reads g c = record {
  least = omega arith;
  most = (judged_within (catalog_of c.args.write.now.present.world.now.store.now) c.args.write.now.present.tick c.args.write.now.object.now.class _ _ c.first_judged.result c.judged_from-judged.result _ c.args.self.now
      c.self.view_is (grind (arith, nat_tests, c.if-self-now.false)) c.judged_from-judged.ensures.value c.first_judged.ensures.value
      c.in_err-changes.ensures.reads.most);
}

pub returns-clause-reads : goal.returns-clause-reads
returns-clause-reads g c = record {
  least = omega arith;
  most = (judged_within (catalog_of c.args.write.now.present.world.now.store.now) c.args.write.now.present.tick c.args.write.now.object.now.class _ _ c.first_judged.result c.judged_from-judged.result _ c.args.self.now
      c.self.view_is (grind (arith, nat_tests, c.if-self-now.false)) c.judged_from-judged.ensures.value c.first_judged.ensures.value
      c.in_ok-changes.ensures.reads.most);
}
