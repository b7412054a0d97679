use Rattle.std.proofs.Common.{◌≡◌, ℕ, ◌+◌, ◌≤◌, true, List, [], ◌∷◌, length, ap, ◌∙◌, sym, subst, arith}
use Rattle.std.specs.List.{list_all}
use Rattle.std.proofs.lemmas.List.{take_all}
use Rattle.formula.specs.Tree.{formula_view}
use Rattle.formula.specs.Variables.{has_variable}
use Rattle.relation.specs.Key.{key_below, key_in}
use Rattle.evaluator.specs.Interpreting.{CanAsk}
use Rattle.evaluator.specs.inner.ByBinding.{holds_at, reads_here}
use Rattle.evaluator.specs.inner.Filled.{IsFilled, keys_behind}
use Rattle.evaluator.proofs.FillingLemmas.{at_key, filled_next, filled_none, next_above, still_fits}
use Rattle.evaluator.proofs.KeyLemmas.{key_length}
use Rattle.evaluator.proofs.ReadLemmas.{one_step}
use Rattle.evaluator.proofs.VariableLemmas.{few_variables}
use Rattle.evaluator.proofs.by_key.put_rows.Goals as goal
use Rattle.exact.proofs.Naturals.{at_most_in_turn, steps_within}

pub keys-init : goal.keys-init
keys-init g c = record {
  rows = filled_none g.S.TickSet.member (holds_at (g.I.Interpreter.interpretation c.args.scene.now.source.now) c.args.scene.now.variables.now c.args.scene.now.window.lo c.args.scene.now.window.hi (formula_view c.args.scene.now.formula.now) c.args.scene.now.values.now) c.args.made.now;
  least = omega arith;
  most = omega arith;
}

pub with_first-key-requires : goal.with_first-key-requires
with_first-key-requires g c =
    let here = at_key (λ key. key_in c.args.made.now.domains c.args.scene.now.variables.now (c.args.behind.now.id ∷ key)) c.args.behind.now.later.now c.keys.key-index c.key-item.result c.requires.inside (omega (arith, c.keys-test.true)) in
    let same = key_length c.args.made.now.domains c.args.scene.now.variables.now (c.args.behind.now.id ∷ c.key-item.result) (subst (λ (k : List ℕ). key_in c.args.made.now.domains c.args.scene.now.variables.now (c.args.behind.now.id ∷ k) ≡ true) (sym c.key-item.is) here) in
    let few = subst (λ (vs : List ℕ). length vs ≤ 4) (sym c.requires.vars) (few_variables (λ v. has_variable v (formula_view c.args.scene.now.formula.now))) in
    omega (arith, same, few)

pub put_row-requires-clause-can : goal.put_row-requires-clause-can
put_row-requires-clause-can g c =
    subst (λ (domains : List (List ℕ)). CanAsk (g.I.Interpreter.interpretation c.args.scene.now.source.now) (g.I.Interpreter.atom_fits c.args.scene.now.source.now c.args.scene.now.window.lo c.args.scene.now.window.hi) (g.I.Interpreter.term_fits c.args.scene.now.source.now c.args.scene.now.window.lo c.args.scene.now.window.hi) domains c.args.scene.now.window.lo c.args.scene.now.window.hi (formula_view c.args.scene.now.formula.now) c.args.scene.now.values.now)
    (sym c.keys.invariant.rows.head.domains) c.requires.can

pub put_row-requires-clause-head : goal.put_row-requires-clause-head
put_row-requires-clause-head g c = still_fits c.args.scene.now.variables.now c.args.scene.now.window.lo c.args.scene.now.window.hi c.args.made.now c.keys.made c.requires.head c.keys.invariant.rows.head

pub put_row-requires-clause-inside : goal.put_row-requires-clause-inside
put_row-requires-clause-inside g c =
    (λ j. key_in (c.keys.invariant.rows.head.domains j) c.args.scene.now.variables.now c.with_first-key.result)
    ∙ ap (key_in c.args.made.now.domains c.args.scene.now.variables.now) (c.with_first-key.ensures ∙ ap (λ (k : List ℕ). c.args.behind.now.id ∷ k) c.key-item.is)
    ∙ at_key (λ key. key_in c.args.made.now.domains c.args.scene.now.variables.now (c.args.behind.now.id ∷ key)) c.args.behind.now.later.now c.keys.key-index c.key-item.result c.requires.inside (omega (arith, c.keys-test.true))

pub put_row-requires-clause-above : goal.put_row-requires-clause-above
put_row-requires-clause-above g c =
    subst (λ (k : List ℕ). list_all (λ r. key_below r.key k) c.keys.made.rows ≡ true) (sym c.with_first-key.ensures)
    (next_above g.S.TickSet.member (holds_at (g.I.Interpreter.interpretation c.args.scene.now.source.now) c.args.scene.now.variables.now c.args.scene.now.window.lo c.args.scene.now.window.hi (formula_view c.args.scene.now.formula.now) c.args.scene.now.values.now)
    c.args.behind.now.id c.args.behind.now.later.now c.keys.key-index c.key-item.result c.args.made.now c.keys.made (omega (arith, c.keys-test.true)) c.key-item.is c.requires.above c.requires.ascend c.keys.invariant.rows)

pub returns-in_err-put_row-clause-reads : goal.returns-in_err-put_row-clause-reads
returns-in_err-put_row-clause-reads g c = record {
  least = at_most_in_turn _ _ _ c.keys.invariant.least c.in_err-put_row.ensures.reads.least;
  most = (steps_within c.args.reads.now c.put_row.new.reads (c.keys.key-index + 1) (length c.args.behind.now.later.now) (reads_here c.args.scene.now.window.lo c.args.scene.now.window.hi (formula_view c.args.scene.now.formula.now))
      (one_step c.args.reads.now c.keys.reads c.put_row.new.reads c.keys.key-index (reads_here c.args.scene.now.window.lo c.args.scene.now.window.hi (formula_view c.args.scene.now.formula.now)) c.keys.invariant.most c.in_err-put_row.ensures.reads.most)
      (omega (arith, c.keys-test.true)));
}

pub keys-preserved : goal.keys-preserved
keys-preserved g c =
    let truth = holds_at (g.I.Interpreter.interpretation c.args.scene.now.source.now) c.args.scene.now.variables.now c.args.scene.now.window.lo c.args.scene.now.window.hi (formula_view c.args.scene.now.formula.now) c.args.scene.now.values.now in
    record {
      rows = filled_next g.S.TickSet.member truth c.args.behind.now.id c.args.behind.now.later.now c.keys.key-index c.key-item.result c.args.made.now c.keys.made c.put_row.new.made (omega (arith, c.keys-test.true)) c.key-item.is c.keys.invariant.rows
          (subst (λ (k : List ℕ). IsFilled g.S.TickSet.member truth (k ∷ []) c.keys.made c.put_row.new.made) c.with_first-key.ensures c.in_ok-put_row.ensures.rows);
      least = at_most_in_turn _ _ _ c.keys.invariant.least c.in_ok-put_row.ensures.reads.least;
      most = one_step c.args.reads.now c.keys.reads c.put_row.new.reads c.keys.key-index (reads_here c.args.scene.now.window.lo c.args.scene.now.window.hi (formula_view c.args.scene.now.formula.now)) c.keys.invariant.most c.in_ok-put_row.ensures.reads.most;
    }

pub returns-clause-rows : goal.returns-clause-rows
returns-clause-rows g c =
    subst (λ (ks : List (List ℕ)). IsFilled g.S.TickSet.member (holds_at (g.I.Interpreter.interpretation c.args.scene.now.source.now) c.args.scene.now.variables.now c.args.scene.now.window.lo c.args.scene.now.window.hi (formula_view c.args.scene.now.formula.now) c.args.scene.now.values.now) (keys_behind c.args.behind.now.id ks) c.args.made.now c.keys.made)
    (take_all c.keys.key-index c.args.behind.now.later.now (omega (arith, c.keys-test.false))) c.keys.invariant.rows

pub returns-clause-reads : goal.returns-clause-reads
returns-clause-reads g c = record {
  least = c.keys.invariant.least;
  most = (steps_within c.args.reads.now c.keys.reads c.keys.key-index (length c.args.behind.now.later.now) (reads_here c.args.scene.now.window.lo c.args.scene.now.window.hi (formula_view c.args.scene.now.formula.now)) c.keys.invariant.most
      (let l : c.keys.key-index ≤ length c.args.behind.now.later.now = c.keys.auto.key-index-end in omega (arith, l)));
}
