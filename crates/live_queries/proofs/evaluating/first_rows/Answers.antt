use Rattle.std.proofs.Common.{◌+◌, ◌-◌, sym, subst, arith}
use Rattle.formula.specs.Tree.{resolved_view}
use Rattle.kept_rows.specs.Rows.{row_has}
use Rattle.tick_set.specs.Runs.{spans_have}
use Rattle.object_store.specs.Contents.{catalog_of}
use Rattle.atoms.specs.Asked.{told_world}
use Rattle.answers.specs.Objects.{AreOfItsClasses}
use Rattle.answers.proofs.AskLemmas.{few_classes}
use Rattle.answers.proofs.ObjectLemmas.{domains_are_of_classes}
use Rattle.answers.proofs.ReadLemmas.{most_within, reads_within}
use Rattle.live_queries.proofs.JudgedLemmas.{first_rows_are, is_over}
use Rattle.live_queries.proofs.evaluating.first_rows.Goals as goal

pub domains_of-requires : goal.domains_of-requires
domains_of-requires g c = few_classes (resolved_view c.args.inquiry.now.query.now) c.requires.resolved

pub evaluate-requires-clause-domains : goal.evaluate-requires-clause-domains
evaluate-requires-clause-domains g c =
    subst (AreOfItsClasses (catalog_of c.args.inquiry.now.world.now.store.now) (resolved_view c.args.inquiry.now.query.now)) (sym c.in_ok-domains.ensures)
    (domains_are_of_classes (catalog_of c.args.inquiry.now.world.now.store.now) (resolved_view c.args.inquiry.now.query.now))

pub table_of-requires-clause-over : goal.table_of-requires-clause-over
table_of-requires-clause-over g c =
    is_over (told_world c.args.inquiry.now.world.now) (resolved_view c.args.inquiry.now.query.now) c.args.w.lo c.args.w.hi c.args.inquiry.now.columns.now c.in_ok-domains.domains c.in_ok-full.full
    c.requires.resolved c.requires.columns c.in_ok-domains.ensures c.in_ok-full.ensures.vars c.in_ok-full.ensures.frame

pub returns-clause-rows : goal.returns-clause-rows
returns-clause-rows g c =
    first_rows_are (told_world c.args.inquiry.now.world.now) (resolved_view c.args.inquiry.now.query.now) c.args.w.lo c.args.w.hi c.args.inquiry.now.columns.now
    c.in_ok-domains.domains c.in_ok-full.full (row_has spans_have c.in_ok-rows.rows)
    c.requires.resolved c.requires.columns c.in_ok-domains.ensures c.in_ok-full.ensures.rows c.in_ok-rows.ensures.rows

pub returns-in_err-full-clause-reads : goal.returns-in_err-full-clause-reads
returns-in_err-full-clause-reads g c = record {
  least = omega arith;
  most = (most_within _ _ _ _ c.in_err-full.ensures.reads.most
      (reads_within (catalog_of c.args.inquiry.now.world.now.store.now) (resolved_view c.args.inquiry.now.query.now) _ (c.args.w.hi + 1 - c.args.w.lo) c.in_ok-domains.ensures));
}

pub returns-in_err-rows-clause-reads : goal.returns-in_err-rows-clause-reads
returns-in_err-rows-clause-reads g c = record {
  least = omega arith;
  most = (most_within _ _ _ _ c.in_ok-full.ensures.reads.most
      (reads_within (catalog_of c.args.inquiry.now.world.now.store.now) (resolved_view c.args.inquiry.now.query.now) _ (c.args.w.hi + 1 - c.args.w.lo) c.in_ok-domains.ensures));
}

pub returns-clause-reads : goal.returns-clause-reads
returns-clause-reads g c = record {
  least = omega arith;
  most = (most_within _ _ _ _ c.in_ok-full.ensures.reads.most
      (reads_within (catalog_of c.args.inquiry.now.world.now.store.now) (resolved_view c.args.inquiry.now.query.now) _ (c.args.w.hi + 1 - c.args.w.lo) c.in_ok-domains.ensures));
}
