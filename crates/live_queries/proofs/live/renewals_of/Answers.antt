use Rattle.std.proofs.Common.{◌≡◌, ℕ, suc, ◌+◌, ◌≤◌, length, refl, ap, sym, subst, arith}
use Rattle.std.specs.Prelude.{All}
use Rattle.std.proofs.lemmas.List.Elements.{All-head, All-rest}
use Rattle.object_store.specs.Contents.{catalog_of}
use Rattle.atoms.specs.Asked.{told_world}
use Rattle.live_queries.specs.Asked.{ExtendsCatalog, FitsWorld, class_in}
use Rattle.live_queries.specs.Columns.{HaveObjectsOf}
use Rattle.live_queries.specs.Effort.{judged_reads}
use Rattle.live_queries.specs.Kept.{KeptQuery}
use Rattle.live_queries.specs.Missed.{IsSightOf}
use Rattle.live_queries.specs.Prepared.{AreFreshFor, ArePrepared, IsFreshFor, IsReadyFor}
use Rattle.live_queries.proofs.ListLemmas.{counts_go_on, pairs_begin, pairs_end, pairs_go_on}
use Rattle.live_queries.proofs.RenewedLemmas.{looks_end, looks_go_on, looks_stop}
use Rattle.live_queries.proofs.live.renewals_of.Goals as goal

pub queries-init : goal.queries-init
queries-init g c = record {
  fits = c.requires.fits;
  before = c.requires.before;
  prepared = pairs_begin (ArePrepared (class_in c.args.present.now.world.now.store.now c.args.id)) c.args.queries.now c.args.queries.now c.new-renewals.result refl c.new-renewals.ensures;
  fresh = pairs_begin (AreFreshFor (told_world c.args.present.now.world.now) c.args.id (class_in c.args.present.now.world.now.store.now c.args.id) c.args.present.now.tick) c.args.queries.now c.args.queries.now
      c.new-renewals.result refl c.new-renewals.ensures;
  many = (let none : length c.new-renewals.result ≡ 0 = ap length c.new-renewals.ensures in omega (arith, none));
  least = omega arith;
  most = omega arith;
  sight = c.none-sight.ensures c.args.present.now.world.now.store.now c.args.id;
}

pub add_renewal-requires : goal.add_renewal-requires
add_renewal-requires g c = record {
  accepted = c.requires.accepted;
  few = (let left : length c.queries.rest.now ≡ suc (length c.in-Some.later.now) = ap length c.in-Some.ensures.cases.0 in
      omega (arith, left, c.queries.invariant.many, c.requires.few));
  fits = All-head (FitsWorld (told_world c.args.present.now.world.now)) c.in-Some.query.now c.in-Some.later.now
      (subst (All (FitsWorld (told_world c.args.present.now.world.now))) c.in-Some.ensures.cases.0 c.queries.invariant.fits);
  written = c.written-object.ensures.written;
  sight = subst (λ (i : ℕ). IsSightOf c.args.present.now.world.now.store.now i c.queries.made.sight) (sym c.written-object.ensures.id) c.queries.invariant.sight;
  before = (
    c.queries.invariant.before.old,
    subst (λ (i : ℕ). ExtendsCatalog i c.queries.invariant.before.old (catalog_of c.args.present.now.world.now.store.now)) (sym c.written-object.ensures.id) c.queries.invariant.before.before,
    All-head (λ (k : KeptQuery). HaveObjectsOf c.queries.invariant.before.old k.query.classes k.columns) c.in-Some.query.now c.in-Some.later.now
        (subst (All (λ (k : KeptQuery). HaveObjectsOf c.queries.invariant.before.old k.query.classes k.columns)) c.in-Some.ensures.cases.0 c.queries.invariant.before.objects),
  );
}

pub queries-preserved : goal.queries-preserved
queries-preserved g c = record {
  fits = All-rest (FitsWorld (told_world c.args.present.now.world.now)) c.in-Some.query.now c.in-Some.later.now c.queries.rest.now
      c.in-Some.ensures.cases.0 c.queries.invariant.fits;
  before = record {
    old = c.queries.invariant.before.old;
    before = c.queries.invariant.before.before;
    objects = All-rest (λ (k : KeptQuery). HaveObjectsOf c.queries.invariant.before.old k.query.classes k.columns) c.in-Some.query.now c.in-Some.later.now
        c.queries.rest.now c.in-Some.ensures.cases.0 c.queries.invariant.before.objects;
  };
  prepared = pairs_go_on (ArePrepared (class_in c.args.present.now.world.now.store.now c.args.id)) c.args.queries.now c.queries.rest.now c.in-Some.later.now c.in-Some.query.now
      c.queries.made.renewals c.add_renewal.new.made.renewals c.in_ok-add_renewal.ensures.added.added c.in-Some.ensures.cases.0 c.in_ok-add_renewal.ensures.added.list
      (λ more is. (subst (λ (k : ℕ). IsReadyFor k c.in-Some.query.now c.in_ok-add_renewal.ensures.added.added) c.written-object.ensures.class c.in_ok-add_renewal.ensures.added.ready, is)) c.queries.invariant.prepared;
  fresh = pairs_go_on (AreFreshFor (told_world c.args.present.now.world.now) c.args.id (class_in c.args.present.now.world.now.store.now c.args.id) c.args.present.now.tick) c.args.queries.now
      c.queries.rest.now c.in-Some.later.now c.in-Some.query.now
      c.queries.made.renewals c.add_renewal.new.made.renewals c.in_ok-add_renewal.ensures.added.added c.in-Some.ensures.cases.0 c.in_ok-add_renewal.ensures.added.list
      (λ more is. (
        subst (λ (i : ℕ). IsFreshFor (told_world c.args.present.now.world.now) i (class_in c.args.present.now.world.now.store.now c.args.id) c.args.present.now.tick c.in-Some.query.now c.in_ok-add_renewal.ensures.added.added) c.written-object.ensures.id
            (subst (λ (k : ℕ). IsFreshFor (told_world c.args.present.now.world.now) c.written-object.result.id k c.args.present.now.tick c.in-Some.query.now c.in_ok-add_renewal.ensures.added.added) c.written-object.ensures.class
            c.in_ok-add_renewal.ensures.added.fresh),
        is,
      )) c.queries.invariant.fresh;
  many = counts_go_on (ArePrepared (class_in c.args.present.now.world.now.store.now c.args.id)) c.args.queries.now c.queries.rest.now c.in-Some.later.now c.in-Some.query.now
      c.queries.made.renewals c.add_renewal.new.made.renewals c.in_ok-add_renewal.ensures.added.added (length c.args.queries.now) c.in-Some.ensures.cases.0 c.in_ok-add_renewal.ensures.added.list
      c.queries.invariant.many;
  least = omega (arith, c.queries.invariant.least, c.in_ok-add_renewal.ensures.reads.least);
  most = looks_go_on (catalog_of c.args.present.now.world.now.store.now) c.args.present.now.tick (class_in c.args.present.now.world.now.store.now c.args.id) c.queries.rest.now c.in-Some.later.now c.in-Some.query.now
      c.queries.reads c.add_renewal.new.reads _ c.in-Some.ensures.cases.0
      (subst (λ (k : ℕ). c.add_renewal.new.reads ≤ c.queries.reads + judged_reads (catalog_of c.args.present.now.world.now.store.now) c.args.present.now.tick k c.in-Some.query.now) c.written-object.ensures.class c.in_ok-add_renewal.ensures.reads.most)
      c.queries.invariant.most;
  sight = subst (λ (i : ℕ). IsSightOf c.args.present.now.world.now.store.now i c.add_renewal.new.made.sight) c.written-object.ensures.id c.in_ok-add_renewal.ensures.sight;
}

pub returns-clause-prepared : goal.returns-clause-prepared
returns-clause-prepared g c =
    pairs_end (ArePrepared (class_in c.args.present.now.world.now.store.now c.args.id)) c.args.queries.now c.queries.rest.now c.queries.made.renewals c.in_default.ensures.cases tt c.queries.invariant.prepared

pub returns-clause-fresh : goal.returns-clause-fresh
returns-clause-fresh g c =
    pairs_end (AreFreshFor (told_world c.args.present.now.world.now) c.args.id (class_in c.args.present.now.world.now.store.now c.args.id) c.args.present.now.tick) c.args.queries.now
    c.queries.rest.now c.queries.made.renewals c.in_default.ensures.cases tt c.queries.invariant.fresh

pub returns-clause-reads : goal.returns-clause-reads
returns-clause-reads g c = record {
  least = omega arith;
  most = looks_end (catalog_of c.args.present.now.world.now.store.now) c.args.present.now.tick (class_in c.args.present.now.world.now.store.now c.args.id) c.queries.rest.now c.queries.reads _ c.queries.invariant.most;
}

pub returns-in_err-add_renewal-clause-reads : goal.returns-in_err-add_renewal-clause-reads
returns-in_err-add_renewal-clause-reads g c = record {
  least = omega arith;
  most = (looks_stop (catalog_of c.args.present.now.world.now.store.now) c.args.present.now.tick (class_in c.args.present.now.world.now.store.now c.args.id) c.queries.rest.now c.in-Some.later.now c.in-Some.query.now
      c.queries.reads _ _ c.in-Some.ensures.cases.0
      (subst (λ (k : ℕ). c.add_renewal.new.reads ≤ c.queries.reads + judged_reads (catalog_of c.args.present.now.world.now.store.now) c.args.present.now.tick k c.in-Some.query.now) c.written-object.ensures.class c.in_err-add_renewal.ensures.reads.most)
      c.queries.invariant.most);
}
