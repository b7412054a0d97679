use Rattle.std.proofs.Common.{ℕ, ◌+◌, ◌-◌, refl, subst, arith}
use Rattle.std.specs.Prelude.{All}
use Rattle.std.proofs.lemmas.List.Elements.{All-head, All-rest}
use Rattle.formula.specs.Tree.{resolved_view}
use Rattle.meaning.specs.Reads.{query_reads}
use Rattle.object_store.specs.Contents.{catalog_of}
use Rattle.relation.specs.Frames.{domain_size}
use Rattle.atoms.specs.Asked.{told_world}
use Rattle.answers.specs.Objects.{AreOfItsClasses}
use Rattle.live_queries.specs.declared.parts.Single.{Single}
use Rattle.live_queries.specs.Written.{ArePartsOf}
use Rattle.live_queries.proofs.ListLemmas.{pairs_begin, pairs_end, pairs_go_on, sum_ends, sum_goes_on, sum_stops}
use Rattle.live_queries.proofs.parts.parts_of.Goals as goal

pub singles-init : goal.singles-init
singles-init g c = record {
  domains = c.requires.domains;
  made = pairs_begin (ArePartsOf (told_world c.args.judged.now.world.now) (resolved_view c.args.judged.now.query.now) c.args.judged.now.w.lo c.args.judged.now.w.hi)
      c.args.singles.now c.args.singles.now c.in_ok-parts.parts.items refl c.in_ok-parts.ensures.items;
  least = omega arith;
  most = omega arith;
}

pub evaluate-requires-clause-domains : goal.evaluate-requires-clause-domains
evaluate-requires-clause-domains g c =
    All-head (λ (s : Single). AreOfItsClasses (catalog_of c.args.judged.now.world.now.store.now) (resolved_view c.args.judged.now.query.now) s.domains)
    c.in-Some.single.now c.in-Some.later.now
    (subst (All (λ (s : Single). AreOfItsClasses (catalog_of c.args.judged.now.world.now.store.now) (resolved_view c.args.judged.now.query.now) s.domains)) c.in-Some.ensures.cases.0 c.singles.invariant.domains)

pub singles-preserved : goal.singles-preserved
singles-preserved g c =
    let looks : Single → ℕ = λ s. query_reads (domain_size s.domains) (c.args.judged.now.w.hi + 1 - c.args.judged.now.w.lo) (resolved_view c.args.judged.now.query.now) in
    record {
      domains = All-rest (λ (s : Single). AreOfItsClasses (catalog_of c.args.judged.now.world.now.store.now) (resolved_view c.args.judged.now.query.now) s.domains)
          c.in-Some.single.now c.in-Some.later.now c.singles.rest.now c.in-Some.ensures.cases.0 c.singles.invariant.domains;
      made = pairs_go_on (ArePartsOf (told_world c.args.judged.now.world.now) (resolved_view c.args.judged.now.query.now) c.args.judged.now.w.lo c.args.judged.now.w.hi)
          c.args.singles.now c.singles.rest.now c.in-Some.later.now c.in-Some.single.now c.singles.parts.items c.push.new.self.items
          (record { variable = c.in-Some.single.now.variable; rows = c.in_ok-rows.rows })
          c.in-Some.ensures.cases.0 c.in_ok-push.ensures.items
          (λ more is. (record { variable = refl; rows = c.in_ok-rows.ensures.rows }, is)) c.singles.invariant.made;
      least = omega (arith, c.singles.invariant.least, c.in_ok-rows.ensures.reads.least);
      most = sum_goes_on looks c.singles.rest.now c.in-Some.later.now c.in-Some.single.now c.singles.reads c.evaluate.new.reads _
          c.in-Some.ensures.cases.0 c.in_ok-rows.ensures.reads.most c.singles.invariant.most;
    }

pub returns-clause-parts : goal.returns-clause-parts
returns-clause-parts g c =
    pairs_end (ArePartsOf (told_world c.args.judged.now.world.now) (resolved_view c.args.judged.now.query.now) c.args.judged.now.w.lo c.args.judged.now.w.hi)
    c.args.singles.now c.singles.rest.now c.singles.parts.items c.in_default.ensures.cases tt c.singles.invariant.made

pub returns-clause-reads : goal.returns-clause-reads
returns-clause-reads g c = record {
  least = omega arith;
  most = (sum_ends (λ (s : Single). query_reads (domain_size s.domains) (c.args.judged.now.w.hi + 1 - c.args.judged.now.w.lo) (resolved_view c.args.judged.now.query.now))
      c.singles.rest.now c.singles.reads _ c.singles.invariant.most);
}

pub returns-in_err-rows-clause-reads : goal.returns-in_err-rows-clause-reads
returns-in_err-rows-clause-reads g c = record {
  least = omega arith;
  most = (sum_stops (λ (s : Single). query_reads (domain_size s.domains) (c.args.judged.now.w.hi + 1 - c.args.judged.now.w.lo) (resolved_view c.args.judged.now.query.now))
      c.singles.rest.now c.in-Some.later.now c.in-Some.single.now c.singles.reads _ _ c.in-Some.ensures.cases.0 c.in_err-rows.ensures.reads.most c.singles.invariant.most);
}

pub returns-in_err-push-clause-reads : goal.returns-in_err-push-clause-reads
returns-in_err-push-clause-reads g c = record {
  least = omega arith;
  most = (sum_stops (λ (s : Single). query_reads (domain_size s.domains) (c.args.judged.now.w.hi + 1 - c.args.judged.now.w.lo) (resolved_view c.args.judged.now.query.now))
      c.singles.rest.now c.in-Some.later.now c.in-Some.single.now c.singles.reads _ _ c.in-Some.ensures.cases.0 c.in_ok-rows.ensures.reads.most c.singles.invariant.most);
}
