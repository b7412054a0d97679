use Rattle.std.proofs.Common.{ℕ, ◌+◌, ◌-◌, ◌&&◌, ap, sym, subst, ◌∙◌, arith}
use Rattle.tick_set.specs.Ticks.{between, within}
use Rattle.formula.specs.Tree.{formula_view, resolved_view}
use Rattle.evaluator.specs.Interpreting.{IsOver}
use Rattle.relation.specs.Frames.{domain_size}
use Rattle.answers.proofs.PairLemmas.{full_pairs, pair_looks, sized_pair}
use Rattle.answers.proofs.evaluating.evaluate_all.Goals as goal

pub full_rows-requires-clause-over : goal.full_rows-requires-clause-over
full_rows-requires-clause-over g c =
    subst (λ (n : ℕ). IsOver n (formula_view c.args.asked.now.query.now.formula)) (sym c.requires.domains.many)
    (c.fitting_queries_can_be_asked.ensures.over (resolved_view c.args.asked.now.query.now) c.requires.resolved)

pub full_rows-requires-clause-can : goal.full_rows-requires-clause-can
full_rows-requires-clause-can g c =
    c.fitting_queries_can_be_asked.ensures.asked c.args.asked.now.store.now c.args.asked.now.regions.now (resolved_view c.args.asked.now.query.now) c.args.d.now c.args.asked.now.window.lo c.args.asked.now.window.hi
    c.requires.accepted c.requires.resolved c.requires.fits c.requires.domains c.args.asked.now.window.in_range c.requires.length

pub full_rows-requires-clause-objects : goal.full_rows-requires-clause-objects
full_rows-requires-clause-objects g c =
    c.fitting_queries_can_be_asked.ensures.objects c.args.asked.now.store.now (resolved_view c.args.asked.now.query.now) c.args.d.now c.requires.domains

pub rows_of_pairs-requires-clause-can : goal.rows_of_pairs-requires-clause-can
rows_of_pairs-requires-clause-can g c =
    let told = c.in-Some.ensures in
    record {
      distance = told.distance;
      sized = sized_pair (resolved_view c.args.asked.now.query.now) c.in-Some.distance told.distance told.formula told.two c.resolved_atoms_and_terms_are_sized.ensures.atoms c.requires.resolved;
      short = c.requires.length;
    }

pub rows_of_pairs-requires-clause-two : goal.rows_of_pairs-requires-clause-two
rows_of_pairs-requires-clause-two g c = c.requires.domains.many ∙ c.in-Some.ensures.two

pub rows_of_pairs-requires-clause-stored : goal.rows_of_pairs-requires-clause-stored
rows_of_pairs-requires-clause-stored g c =
    c.fitting_queries_can_be_asked.ensures.objects c.args.asked.now.store.now (resolved_view c.args.asked.now.query.now) c.args.d.now c.requires.domains

pub returns-in-Some-clause-rows : goal.returns-in-Some-clause-rows
returns-in-Some-clause-rows g c b is_in t =
    let told = c.in-Some.ensures in
    c.in_ok-near.ensures.rows.ticks b is_in t
    ∙ ap (λ holds. within c.args.asked.now.window.lo c.args.asked.now.window.hi t && holds)
    (sym (full_pairs (resolved_view c.args.asked.now.query.now) c.in-Some.distance told.distance told.formula told.two c.atoms_of_absent_objects_are_false.ensures c.args.asked.now.store.now c.args.asked.now.regions.now c.args.asked.now.window.hi b t))

pub returns-in-Some-clause-vars : goal.returns-in-Some-clause-vars
unfolding between
returns-in-Some-clause-vars g c = c.in_ok-near.ensures.rows.vars ∙ ap (between 0) (sym c.in-Some.ensures.two)

pub returns-in-Some-clause-reads : goal.returns-in-Some-clause-reads
returns-in-Some-clause-reads g c = record {
  least = omega arith;
  most = (let told = c.in-Some.ensures in
      pair_looks (resolved_view c.args.asked.now.query.now) c.in-Some.distance told.distance told.formula told.two (domain_size c.args.d.now) (c.args.asked.now.window.hi + 1 - c.args.asked.now.window.lo) _ _
      c.in_ok-near.ensures.reads.most);
}

pub returns-in_err-near-clause-reads : goal.returns-in_err-near-clause-reads
returns-in_err-near-clause-reads g c = record {
  least = omega arith;
  most = (let told = c.in-Some.ensures in
      pair_looks (resolved_view c.args.asked.now.query.now) c.in-Some.distance told.distance told.formula told.two (domain_size c.args.d.now) (c.args.asked.now.window.hi + 1 - c.args.asked.now.window.lo) _ _
      c.in_err-near.ensures.reads.most);
}
