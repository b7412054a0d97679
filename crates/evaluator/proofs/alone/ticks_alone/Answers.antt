use Rattle.std.proofs.Common.{ℕ, List, [], ◌∷◌, slice_index, sym, subst, arith}
use Rattle.formula.specs.declared.value.Env.{Env}
use Rattle.formula.specs.Tree.{formula_view, resolved_view}
use Rattle.formula.specs.Value.{no_values}
use Rattle.evaluator.specs.Rows.{query_reads_upto}
use Rattle.evaluator.specs.inner.ByBinding.{CanAskHere, reads_here}
use Rattle.evaluator.proofs.AloneLemmas.{alone_inside, full_as_it_is, full_without, none_full, reads_alone}
use Rattle.evaluator.proofs.ByKeyLemmas.{can_ask_at}
use Rattle.evaluator.proofs.LoopLemmas.{most_both, most_first}
use Rattle.evaluator.proofs.alone.ticks_alone.Goals as goal

pub ticks_of-requires : goal.ticks_of-requires
ticks_of-requires g c =
    subst (λ (b : List ℕ). CanAskHere (g.I.Interpreter.interpretation c.args.source.now (slice_index b)) (g.I.Interpreter.atom_fits c.args.source.now c.args.w.lo c.args.w.hi (slice_index b)) (g.I.Interpreter.term_fits c.args.source.now c.args.w.lo c.args.w.hi (slice_index b)) c.args.w.lo c.args.w.hi (formula_view c.args.q.now.formula) c.new-env.result) (sym c.key_of-binding.ensures)
    (subst (λ (x : Env). CanAskHere (g.I.Interpreter.interpretation c.args.source.now (slice_index (c.args.id ∷ []))) (g.I.Interpreter.atom_fits c.args.source.now c.args.w.lo c.args.w.hi (slice_index (c.args.id ∷ []))) (g.I.Interpreter.term_fits c.args.source.now c.args.w.lo c.args.w.hi (slice_index (c.args.id ∷ []))) c.args.w.lo c.args.w.hi (formula_view c.args.q.now.formula) x) (sym c.new-env.ensures)
    (can_ask_at (g.I.Interpreter.interpretation c.args.source.now) (g.I.Interpreter.atom_fits c.args.source.now c.args.w.lo c.args.w.hi) (g.I.Interpreter.term_fits c.args.source.now c.args.w.lo c.args.w.hi) ((c.args.id ∷ []) ∷ []) c.args.w.lo c.args.w.hi (slice_index (c.args.id ∷ [])) (formula_view c.args.q.now.formula) no_values c.requires.can
    (alone_inside c.args.id (formula_view c.args.q.now.formula) c.requires.over)))

pub returns-then-is_empty-clause-ticks : goal.returns-then-is_empty-clause-ticks
returns-then-is_empty-clause-ticks g c =
    none_full g.S.TickSet.member (g.I.Interpreter.interpretation c.args.source.now) (g.I.Interpreter.present c.args.source.now)
    (λ p q a e x u. g.met.I.Interpreter.atom_sees c.args.source.now p q a e x u) (λ p q a e x u. g.met.I.Interpreter.term_sees c.args.source.now p q a e x u)
    (resolved_view c.args.q.now) c.requires.one c.requires.over c.args.id c.args.w.lo c.args.w.hi
    c.key_of-binding.result c.new-env.result c.key_of-binding.ensures c.new-env.ensures c.in_ok-ticks.ticks c.in_ok-ticks.ensures.ticks
    (c.is_empty.ensures.0 c.if-is_empty.true)

pub returns-then-is_empty-2-clause-ticks : goal.returns-then-is_empty-2-clause-ticks
returns-then-is_empty-2-clause-ticks g c =
    full_as_it_is g.S.TickSet.member (g.I.Interpreter.interpretation c.args.source.now) (g.I.Interpreter.present c.args.source.now)
    (λ p q a e x u. g.met.I.Interpreter.atom_sees c.args.source.now p q a e x u) (λ p q a e x u. g.met.I.Interpreter.term_sees c.args.source.now p q a e x u)
    (resolved_view c.args.q.now) c.requires.one c.requires.over c.args.id c.args.w.lo c.args.w.hi
    c.key_of-binding.result c.new-env.result c.key_of-binding.ensures c.new-env.ensures c.in_ok-ticks.ticks c.in_ok-ticks.ensures.ticks
    c.in_ok-away.away c.in_ok-away.ensures.ticks (c.is_empty-2.ensures.0 c.if-is_empty-2.true)

pub returns-clause-ticks : goal.returns-clause-ticks
returns-clause-ticks g c =
    full_without g.S.TickSet.member (g.I.Interpreter.interpretation c.args.source.now) (g.I.Interpreter.present c.args.source.now)
    (λ p q a e x u. g.met.I.Interpreter.atom_sees c.args.source.now p q a e x u) (λ p q a e x u. g.met.I.Interpreter.term_sees c.args.source.now p q a e x u)
    (resolved_view c.args.q.now) c.requires.one c.requires.over c.args.id c.args.w.lo c.args.w.hi
    c.key_of-binding.result c.new-env.result c.key_of-binding.ensures c.new-env.ensures c.in_ok-ticks.ticks c.in_ok-ticks.ensures.ticks
    c.in_ok-away.away c.in_ok-away.ensures.ticks c.in_ok-there.there c.in_ok-there.ensures

pub returns-in_err-ticks-clause-reads : goal.returns-in_err-ticks-clause-reads
returns-in_err-ticks-clause-reads g c = record {
  least = omega arith;
  most = (most_first _ _ (query_reads_upto ((c.args.id ∷ []) ∷ []) c.args.w.lo c.args.w.hi (resolved_view c.args.q.now)) (reads_here c.args.w.lo c.args.w.hi (formula_view c.args.q.now.formula)) 1
      (reads_alone c.args.id c.args.w.lo c.args.w.hi (resolved_view c.args.q.now) c.requires.one c.requires.over)
      c.in_err-ticks.ensures.reads.most);
}

pub returns-then-is_empty-clause-reads : goal.returns-then-is_empty-clause-reads
returns-then-is_empty-clause-reads g c = record {
  least = omega arith;
  most = (most_first _ _ (query_reads_upto ((c.args.id ∷ []) ∷ []) c.args.w.lo c.args.w.hi (resolved_view c.args.q.now)) (reads_here c.args.w.lo c.args.w.hi (formula_view c.args.q.now.formula)) 1
      (reads_alone c.args.id c.args.w.lo c.args.w.hi (resolved_view c.args.q.now) c.requires.one c.requires.over)
      c.in_ok-ticks.ensures.reads.most);
}

pub returns-in_err-away-clause-reads : goal.returns-in_err-away-clause-reads
returns-in_err-away-clause-reads g c = record {
  least = omega arith;
  most = (most_both _ _ _ (query_reads_upto ((c.args.id ∷ []) ∷ []) c.args.w.lo c.args.w.hi (resolved_view c.args.q.now)) (reads_here c.args.w.lo c.args.w.hi (formula_view c.args.q.now.formula)) 1
      (reads_alone c.args.id c.args.w.lo c.args.w.hi (resolved_view c.args.q.now) c.requires.one c.requires.over)
      c.in_ok-ticks.ensures.reads.most c.in_err-away.ensures.reads.most);
}

pub returns-then-is_empty-2-clause-reads : goal.returns-then-is_empty-2-clause-reads
returns-then-is_empty-2-clause-reads g c = record {
  least = omega arith;
  most = (most_both _ _ _ (query_reads_upto ((c.args.id ∷ []) ∷ []) c.args.w.lo c.args.w.hi (resolved_view c.args.q.now)) (reads_here c.args.w.lo c.args.w.hi (formula_view c.args.q.now.formula)) 1
      (reads_alone c.args.id c.args.w.lo c.args.w.hi (resolved_view c.args.q.now) c.requires.one c.requires.over)
      c.in_ok-ticks.ensures.reads.most c.in_ok-away.ensures.reads.most);
}

pub returns-in_err-there-clause-reads : goal.returns-in_err-there-clause-reads
returns-in_err-there-clause-reads g c = record {
  least = omega arith;
  most = (most_both _ _ _ (query_reads_upto ((c.args.id ∷ []) ∷ []) c.args.w.lo c.args.w.hi (resolved_view c.args.q.now)) (reads_here c.args.w.lo c.args.w.hi (formula_view c.args.q.now.formula)) 1
      (reads_alone c.args.id c.args.w.lo c.args.w.hi (resolved_view c.args.q.now) c.requires.one c.requires.over)
      c.in_ok-ticks.ensures.reads.most c.in_ok-away.ensures.reads.most);
}

pub returns-clause-reads : goal.returns-clause-reads
returns-clause-reads g c = record {
  least = omega arith;
  most = (most_both _ _ _ (query_reads_upto ((c.args.id ∷ []) ∷ []) c.args.w.lo c.args.w.hi (resolved_view c.args.q.now)) (reads_here c.args.w.lo c.args.w.hi (formula_view c.args.q.now.formula)) 1
      (reads_alone c.args.id c.args.w.lo c.args.w.hi (resolved_view c.args.q.now) c.requires.one c.requires.over)
      c.in_ok-ticks.ensures.reads.most c.in_ok-away.ensures.reads.most);
}
