use Rattle.std.proofs.Common.{ℕ, ◌+◌, ◌≤◌, List, sym, ◌∙◌, subst, arith}
use Rattle.object_store.specs.Contents.{catalog_of}
use Rattle.atoms.specs.Asked.{world_in}
use Rattle.live_queries.specs.Asked.{class_in}
use Rattle.live_queries.specs.Effort.{all_judged_reads}
use Rattle.live_queries.specs.Kept.{KeptQuery}
use Rattle.live_queries.specs.Prepared.{AreFreshFor, ArePrepared}
use Rattle.live_queries.proofs.RenewedLemmas.{looks_within}
use Rattle.live_queries.proofs.live.Live.refresh.Goals as goal

pub returns-clause-prepared : goal.returns-clause-prepared
returns-clause-prepared g c =
    subst (λ (k : ℕ). ArePrepared k c.args.self.now c.in_ok-renewals.renewals) (sym c.class_of-class.ensures)
    (subst (λ (ks : List KeptQuery). ArePrepared (class_in c.args.store.now c.args.id) ks c.in_ok-renewals.renewals)
    (c.deref.ensures.value ∙ c.self.view_is) c.in_ok-renewals.ensures.prepared)

pub returns-clause-fresh : goal.returns-clause-fresh
returns-clause-fresh g c =
    subst (λ (k : ℕ). AreFreshFor (world_in c.args.store.now c.args.regions.now) c.args.id k c.args.now c.args.self.now c.in_ok-renewals.renewals) (sym c.class_of-class.ensures)
    (subst (λ (ks : List KeptQuery). AreFreshFor (world_in c.args.store.now c.args.regions.now) c.args.id (class_in c.args.store.now c.args.id) c.args.now ks c.in_ok-renewals.renewals)
    (c.deref.ensures.value ∙ c.self.view_is) c.in_ok-renewals.ensures.fresh)

pub returns-in_err-renewals-clause-reads : goal.returns-in_err-renewals-clause-reads
returns-in_err-renewals-clause-reads g c = record {
  least = omega arith;
  most = (looks_within (catalog_of c.args.store.now) c.args.now (class_in c.args.store.now c.args.id) c.args.self.now c.args.reads.now c.renewals_of.new.reads
      (subst (λ (ks : List KeptQuery). c.renewals_of.new.reads ≤ c.args.reads.now + all_judged_reads (catalog_of c.args.store.now) ks c.args.now (class_in c.args.store.now c.args.id))
      (c.deref.ensures.value ∙ c.self.view_is)
      c.in_err-renewals.ensures.reads.most));
}

pub returns-clause-reads : goal.returns-clause-reads
returns-clause-reads g c = record {
  least = omega arith;
  most = (looks_within (catalog_of c.args.store.now) c.args.now (class_in c.args.store.now c.args.id) c.args.self.now c.args.reads.now c.renewals_of.new.reads
      (subst (λ (ks : List KeptQuery). c.renewals_of.new.reads ≤ c.args.reads.now + all_judged_reads (catalog_of c.args.store.now) ks c.args.now (class_in c.args.store.now c.args.id))
      (c.deref.ensures.value ∙ c.self.view_is)
      c.in_ok-renewals.ensures.reads.most));
}
