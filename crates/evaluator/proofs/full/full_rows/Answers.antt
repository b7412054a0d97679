use Rattle.std.proofs.Common.{◌≡◌, ℕ, length, refl, subst, arith, sym}
use Rattle.std.specs.List.{sum_by}
use Rattle.tick_set.specs.Ticks.{between}
use Rattle.formula.specs.declared.value.Env.{Env}
use Rattle.formula.specs.Tree.{formula_view, resolved_view}
use Rattle.formula.specs.Value.{no_values}
use Rattle.meaning.specs.Satisfaction.{sat}
use Rattle.relation.specs.Frames.{domain_size}
use Rattle.evaluator.specs.Interpreting.{CanAsk}
use Rattle.evaluator.specs.Rows.{AreRowsOf, AreRowsWhere, query_reads_upto, reads_upto}
use Rattle.evaluator.proofs.FullLemmas.{absence_done, absence_step, absence_within, full_all, full_ascend, full_lies, full_more, full_none, holds_upto, variables_upto}
use Rattle.evaluator.proofs.LoopLemmas.{most_first}
use Rattle.evaluator.proofs.full.full_rows.Goals as goal
use Rattle.exact.proofs.Naturals.{at_most_in_turn}

pub rows_of-requires-clause-over : goal.rows_of-requires-clause-over
rows_of-requires-clause-over g c = c.requires.over

pub rows_of-requires-clause-can : goal.rows_of-requires-clause-can
rows_of-requires-clause-can g c =
    subst (λ (x : Env). CanAsk (g.I.Interpreter.interpretation c.args.source.now) (g.I.Interpreter.atom_fits c.args.source.now c.args.w.lo c.args.w.hi) (g.I.Interpreter.term_fits c.args.source.now c.args.w.lo c.args.w.hi) c.args.d.now c.args.w.lo c.args.w.hi (formula_view c.args.q.now.formula) x) (sym c.new-env.ensures) c.requires.can

pub returns-in_err-made-clause-reads : goal.returns-in_err-made-clause-reads
returns-in_err-made-clause-reads g c = record {
  least = c.in_err-made.ensures.reads.least;
  most = most_first _ _ (query_reads_upto c.args.d.now c.args.w.lo c.args.w.hi (resolved_view c.args.q.now)) (reads_upto c.args.d.now c.args.w.lo c.args.w.hi (formula_view c.args.q.now.formula)) (sum_by (domain_size c.args.d.now) (between 0 (length c.args.q.now.classes))) refl c.in_err-made.ensures.reads.most;
}

pub vars-init : goal.vars-init
vars-init g c = record {
  rows = full_none g.S.TickSet.member c.args.d.now c.args.w.lo c.args.w.hi (formula_view c.args.q.now.formula) (λ (b : ℕ → ℕ) (u : ℕ). sat (g.I.Interpreter.interpretation c.args.source.now b) (formula_view c.args.q.now.formula) no_values c.args.w.hi u) (g.I.Interpreter.present c.args.source.now) c.in_ok-made.made
      (subst (λ (x : Env). AreRowsOf g.S.TickSet.member (g.I.Interpreter.interpretation c.args.source.now) c.args.d.now c.args.w.lo c.args.w.hi (formula_view c.args.q.now.formula) x c.in_ok-made.made) c.new-env.ensures c.in_ok-made.ensures.rows);
  least = omega arith;
  most = omega arith;
}

pub absence_for_rows-requires-clause-known : goal.absence_for_rows-requires-clause-known
absence_for_rows-requires-clause-known g c = omega (arith, c.vars-test.true, c.len-count.ensures.count)

pub absence_for_rows-requires-clause-objects : goal.absence_for_rows-requires-clause-objects
absence_for_rows-requires-clause-objects g c = λ id h. c.requires.objects c.vars.var id h

pub returns-in_err-away-clause-reads : goal.returns-in_err-away-clause-reads
returns-in_err-away-clause-reads g c = record {
  least = at_most_in_turn _ _ _ c.in_ok-made.ensures.reads.least (at_most_in_turn _ _ _ c.vars.invariant.least c.in_err-away.ensures.reads.least);
  most = absence_within (domain_size c.args.d.now) c.args.reads.now _ _ (query_reads_upto c.args.d.now c.args.w.lo c.args.w.hi (resolved_view c.args.q.now)) (reads_upto c.args.d.now c.args.w.lo c.args.w.hi (formula_view c.args.q.now.formula)) c.vars.var (length c.args.q.now.classes) refl c.in_ok-made.ensures.reads.most c.vars.reads c.vars.invariant.most c.in_err-away.ensures.reads.most (let n = c.requires.domains in omega (arith, c.vars-test.true, c.len-count.ensures.count, n));
}

pub returns-in_err-made-2-clause-reads : goal.returns-in_err-made-2-clause-reads
returns-in_err-made-2-clause-reads g c = record {
  least = at_most_in_turn _ _ _ c.in_ok-made.ensures.reads.least (at_most_in_turn _ _ _ c.vars.invariant.least c.in_ok-away.ensures.reads.least);
  most = absence_within (domain_size c.args.d.now) c.args.reads.now _ _ (query_reads_upto c.args.d.now c.args.w.lo c.args.w.hi (resolved_view c.args.q.now)) (reads_upto c.args.d.now c.args.w.lo c.args.w.hi (formula_view c.args.q.now.formula)) c.vars.var (length c.args.q.now.classes) refl c.in_ok-made.ensures.reads.most c.vars.reads c.vars.invariant.most c.in_ok-away.ensures.reads.most (let n = c.requires.domains in omega (arith, c.vars-test.true, c.len-count.ensures.count, n));
}

pub while_there-requires-clause-ascend : goal.while_there-requires-clause-ascend
while_there-requires-clause-ascend g c =
    full_ascend g.S.TickSet.member c.args.d.now c.args.w.lo c.args.w.hi (formula_view c.args.q.now.formula) (λ (b : ℕ → ℕ) (u : ℕ). sat (g.I.Interpreter.interpretation c.args.source.now b) (formula_view c.args.q.now.formula) no_values c.args.w.hi u) (g.I.Interpreter.present c.args.source.now) c.vars.var c.vars.made c.vars.invariant.rows

pub while_there-requires-clause-lies : goal.while_there-requires-clause-lies
while_there-requires-clause-lies g c =
    full_lies g.S.TickSet.member c.args.d.now c.args.w.lo c.args.w.hi (formula_view c.args.q.now.formula) (λ (b : ℕ → ℕ) (u : ℕ). sat (g.I.Interpreter.interpretation c.args.source.now b) (formula_view c.args.q.now.formula) no_values c.args.w.hi u) (g.I.Interpreter.present c.args.source.now) c.vars.var c.vars.made c.vars.invariant.rows

pub vars-preserved : goal.vars-preserved
vars-preserved g c = record {
  rows = full_more g.S.TickSet.member c.args.d.now c.args.w.lo c.args.w.hi (formula_view c.args.q.now.formula) (λ (b : ℕ → ℕ) (u : ℕ). sat (g.I.Interpreter.interpretation c.args.source.now b) (formula_view c.args.q.now.formula) no_values c.args.w.hi u) (g.I.Interpreter.present c.args.source.now) c.vars.var (omega (arith, c.vars-test.true, c.len-count.ensures.count, c.len-count.ensures.few)) c.vars.made c.in_ok-away.away c.in_ok-made-2.made c.vars.invariant.rows c.in_ok-away.ensures.ticks
      c.in_ok-made-2.ensures.ticks c.in_ok-made-2.ensures.vars c.in_ok-made-2.ensures.frame;
  least = at_most_in_turn _ _ _ c.vars.invariant.least c.in_ok-away.ensures.reads.least;
  most = absence_step (domain_size c.args.d.now) _ c.vars.reads _ c.vars.var c.vars.invariant.most c.in_ok-away.ensures.reads.most;
}

pub returns-clause-rows : goal.returns-clause-rows
returns-clause-rows g c =
    let n = c.requires.domains in
    let all : c.vars.var ≡ (length c.args.q.now.classes) = omega (arith, c.vars-test.false, c.vars.auto.var-end, c.len-count.ensures.count, n) in
    full_all g.S.TickSet.member c.args.d.now c.args.w.lo c.args.w.hi (formula_view c.args.q.now.formula) (λ (b : ℕ → ℕ) (u : ℕ). sat (g.I.Interpreter.interpretation c.args.source.now b) (formula_view c.args.q.now.formula) no_values c.args.w.hi u) (g.I.Interpreter.present c.args.source.now) (length c.args.q.now.classes) (omega (arith, c.len-count.ensures.count, c.len-count.ensures.few, n)) (λ v h. (let o = c.requires.over v h in omega (arith, o, n))) c.vars.made
    (subst (λ (k : ℕ). AreRowsWhere g.S.TickSet.member c.args.d.now c.args.w.lo c.args.w.hi (variables_upto (formula_view c.args.q.now.formula) k) (holds_upto (λ (b : ℕ → ℕ) (u : ℕ). sat (g.I.Interpreter.interpretation c.args.source.now b) (formula_view c.args.q.now.formula) no_values c.args.w.hi u) (g.I.Interpreter.present c.args.source.now) k) c.vars.made) all c.vars.invariant.rows)

pub returns-clause-reads : goal.returns-clause-reads
returns-clause-reads g c = record {
  least = at_most_in_turn _ _ _ c.in_ok-made.ensures.reads.least c.vars.invariant.least;
  most = absence_done (domain_size c.args.d.now) c.args.reads.now _ _ (query_reads_upto c.args.d.now c.args.w.lo c.args.w.hi (resolved_view c.args.q.now)) (reads_upto c.args.d.now c.args.w.lo c.args.w.hi (formula_view c.args.q.now.formula)) c.vars.var (length c.args.q.now.classes) refl c.in_ok-made.ensures.reads.most c.vars.invariant.most (let n = c.requires.domains in omega (arith, c.vars.auto.var-end, c.len-count.ensures.count, n));
}
