use Rattle.std.proofs.Common.{◌≡◌, ℕ, ◌+◌, ◌-◌, List, ap, sym, subst, ◌∙◌, arith}
use Rattle.formula.specs.Tree.{resolved_view}
use Rattle.object_store.specs.Contents.{catalog_of}
use Rattle.relation.specs.Frames.{Frame, IsIn}
use Rattle.answers.specs.Objects.{AreOfItsClasses}
use Rattle.answers.proofs.AskLemmas.{few_classes}
use Rattle.answers.proofs.ObjectLemmas.{domains_are_of_classes}
use Rattle.answers.proofs.ReadLemmas.{most_within, reads_within}
use Rattle.blur.specs.Answered.{holds_blurred, told_in}
use Rattle.blur.proofs.answering.blurred_answer.Goals as goal

pub domains_of-requires : goal.domains_of-requires
domains_of-requires g c = few_classes (resolved_view c.args.q.now) c.requires.resolved

pub blurred-requires-clause-domains : goal.blurred-requires-clause-domains
blurred-requires-clause-domains g c =
    let catalog = catalog_of c.args.world.now.store.now in
    subst (AreOfItsClasses catalog (resolved_view c.args.q.now)) (sym c.in_ok-domains.ensures)
    (domains_are_of_classes catalog (resolved_view c.args.q.now))

pub returns-clause-rows : goal.returns-clause-rows
returns-clause-rows g c =
    let x = c.args.world.now in
    let own : c.in_ok-full.full.domains ≡ c.in_ok-domains.domains = ap (λ (f : Frame). f.domains) c.in_ok-full.ensures.rows.frame in
    c.in_ok-answer.ensures.rows (told_in x) (holds_blurred x (resolved_view c.args.q.now) c.args.w.hi) (own ∙ c.in_ok-domains.ensures)
    (λ b is_in. c.in_ok-full.ensures.rows.ticks b (subst (λ (d : List (List ℕ)). IsIn d b) own is_in))

pub returns-in_err-full-clause-reads : goal.returns-in_err-full-clause-reads
returns-in_err-full-clause-reads g c = record {
  least = omega arith;
  most = (most_within _ _ _ _ c.in_err-full.ensures.reads.most
      (reads_within (catalog_of c.args.world.now.store.now) (resolved_view c.args.q.now) _ (c.args.w.hi + 1 - c.args.w.lo) c.in_ok-domains.ensures));
}

pub returns-in_err-answer-clause-reads : goal.returns-in_err-answer-clause-reads
returns-in_err-answer-clause-reads g c = record {
  least = omega arith;
  most = (most_within _ _ _ _ c.in_ok-full.ensures.reads.most
      (reads_within (catalog_of c.args.world.now.store.now) (resolved_view c.args.q.now) _ (c.args.w.hi + 1 - c.args.w.lo) c.in_ok-domains.ensures));
}

pub returns-clause-reads : goal.returns-clause-reads
returns-clause-reads g c = record {
  least = omega arith;
  most = (most_within _ _ _ _ c.in_ok-full.ensures.reads.most
      (reads_within (catalog_of c.args.world.now.store.now) (resolved_view c.args.q.now) _ (c.args.w.hi + 1 - c.args.w.lo) c.in_ok-domains.ensures));
}
