use Rattle.std.proofs.Common.{◌≡◌, ℕ, ◌+◌, ◌-◌, ◌≤◌, ◌&&◌, true, false, List, length, slice_index, ap, subst, arith, ◌∙◌, sym}
use Rattle.std.specs.Prelude.{All}
use Rattle.std.specs.List.Sorted.{IsStrictlyIncreasing}
use Rattle.std.proofs.lemmas.Bool.{or_left, or_right}
use Rattle.std.proofs.lemmas.List.{take_all}
use Rattle.tick_set.specs.Ticks.{within}
use Rattle.formula_shape.specs.Sizes.{nodes}
use Rattle.formula.specs.declared.value.Env.{Env}
use Rattle.formula.specs.Reach.{reach}
use Rattle.formula.specs.Tree.{ResolvedTree, formula_view}
use Rattle.formula.specs.VarSet.{set_has}
use Rattle.formula.specs.Variables.{has_variable, term_has, variables_in, variables_of}
use Rattle.meaning.specs.Reads.{term_variables}
use Rattle.meaning.specs.Satisfaction.{sat}
use Rattle.relation.specs.Frames.{Frame, IsWider, domain_size, frame_of}
use Rattle.formula.specs.Resolved.{are_distinct}
use Rattle.relation.specs.Key.{are_known, key_in}
use Rattle.relation.specs.Rows.{Table}
use Rattle.interpreting.specs.declared.value_run.ValueRun.{ValueRun}
use Rattle.evaluator.specs.Assigned.{CanAskEach, assignment_view, run_holds}
use Rattle.evaluator.specs.Gathered.{ShareFrame, some_part_has}
use Rattle.evaluator.specs.Interpreting.{CanAsk, IsInFor}
use Rattle.evaluator.specs.Keys.{AreKeys}
use Rattle.evaluator.specs.Rows.{AreRowsOf, AreRowsWhere, reads_at_key, reads_upto}
use Rattle.interpreting.specs.Names.{formula_uses_value}
use Rattle.evaluator.specs.Stretched.{AreStretches}
use Rattle.evaluator.specs.inner.Column.{AreRowsBeside}
use Rattle.evaluator.specs.inner.Nodes.{changed_tree, needs_right, ordered_tree, pair_view, paired_tree}
use Rattle.evaluator.proofs.AssignLemmas.{all_keys, can_ask_each, can_ask_narrower, key_more, rows_at_key, run_more}
use Rattle.evaluator.proofs.AtomLemmas.{inside_at}
use Rattle.evaluator.proofs.BindingLemmas.{narrowed_sizes, narrowed_wider}
use Rattle.evaluator.proofs.ByKeyLemmas.{atom_over, truth_over}
use Rattle.evaluator.proofs.FillingLemmas.{at_key}
use Rattle.evaluator.proofs.LoopLemmas.{can_ask_item, key_within, keys_within, more_alike, most_both, most_first, most_same, none_alike, term_within, wide_frame}
use Rattle.evaluator.proofs.NamedLemmas.{sat_unnamed}
use Rattle.evaluator.proofs.NodeLemmas.{changed_asks, changed_has, changed_nodes, changed_reads, paired_asks, paired_has, paired_nodes, paired_reads}
use Rattle.evaluator.proofs.PairLemmas.{beside_all, beside_few, fewer_reads, led_rows, most_fewer, most_over, most_second, most_turned, ordered_asks, ordered_has, ordered_nodes, ordered_reads, ordered_rows}
use Rattle.evaluator.proofs.ReadLemmas.{one_step}
use Rattle.evaluator.proofs.RowLemmas.{one_rows, two_rows}
use Rattle.evaluator.proofs.SectionLemmas.{section_rows}
use Rattle.evaluator.proofs.SeenLemmas.{can_ask_fewer, most_seen, section_reads, seen_from, seen_upto}
use Rattle.evaluator.proofs.TickLemmas.{runs_inside}
use Rattle.evaluator.specs.inner.Seen.{IsInWindow}
use Rattle.formula.proofs.CallerLemmas.{variables_same}
use Rattle.evaluator.proofs.VariableLemmas.{ascending_variables, distinct_variables, few_variables, known_variables}
use Rattle.evaluator.proofs.rows.+rows.Goals as goal
use Rattle.exact.proofs.Truths.{false_is_and}
use Rattle.exact.proofs.Naturals.{at_most_in_turn, steps_within}

pub rows_of-is_over-requires : goal.rows_of-is_over-requires
rows_of-is_over-requires g t c =
    subst (λ (vs : List ℕ). are_known c.args.d.now vs ≡ true) (sym c.list-vars.ensures)
    (known_variables c.args.d.now (set_has c.free-set.result) (λ v l h. c.requires.over v (sym (c.free-set.ensures v l) ∙ h)))

pub rows_of-rows_by_key-requires-clause-vars : goal.rows_of-rows_by_key-requires-clause-vars
rows_of-rows_by_key-requires-clause-vars g t c = c.list-vars.ensures ∙ variables_same (set_has c.free-set.result) (λ v. has_variable v (formula_view c.args.f.now)) (λ v l. c.free-set.ensures v l)

pub rows_of-rows_by_key-requires-clause-alike : goal.rows_of-rows_by_key-requires-clause-alike
rows_of-rows_by_key-requires-clause-alike g t c = sym c.is_over.ensures ∙ c.if-is_over.true

pub rows_of-rows_by_key-requires-clause-over : goal.rows_of-rows_by_key-requires-clause-over
rows_of-rows_by_key-requires-clause-over g t c = c.requires.over

pub rows_of-rows_by_key-requires-clause-can : goal.rows_of-rows_by_key-requires-clause-can
rows_of-rows_by_key-requires-clause-can g t c = c.requires.can

pub rows_of-rows_of-requires : goal.rows_of-rows_of-requires
rows_of-rows_of-requires g t c κs lives =
    let tree : formula_view c.args.f.now ≡ changed_tree c.in-One.change (formula_view c.in-One.part.now) = sym c.in-One.ensures in
    let size : nodes (formula_view c.args.f.now) ≡ nodes (formula_view c.in-One.part.now) + 1 = ap nodes tree ∙ changed_nodes c.in-One.change (formula_view c.in-One.part.now) in (
      omega (arith, c.decreases, size),
      (lives.0, (lives.1.0, (lives.1.1.0, (lives.1.1.1, ((λ v h. c.requires.over v (ap (has_variable v) tree ∙ changed_has v c.in-One.change (formula_view c.in-One.part.now) ∙ h)), changed_asks (g.I.Interpreter.interpretation c.args.asking.now.source.now) (g.I.Interpreter.atom_fits c.args.asking.now.source.now c.args.asking.now.window.lo c.args.asking.now.window.hi) (g.I.Interpreter.term_fits c.args.asking.now.source.now c.args.asking.now.window.lo c.args.asking.now.window.hi) c.args.d.now c.args.asking.now.window.lo c.args.asking.now.window.hi c.args.asking.now.values.now c.in-One.change (formula_view c.in-One.part.now) (subst (λ (z : ResolvedTree). CanAsk (g.I.Interpreter.interpretation c.args.asking.now.source.now) (g.I.Interpreter.atom_fits c.args.asking.now.source.now c.args.asking.now.window.lo c.args.asking.now.window.hi) (g.I.Interpreter.term_fits c.args.asking.now.source.now c.args.asking.now.window.lo c.args.asking.now.window.hi) c.args.d.now c.args.asking.now.window.lo c.args.asking.now.window.hi z c.args.asking.now.values.now) tree c.requires.can)))))),
    )

pub rows_of-returns-in_ok-made-in-One-clause-rows : goal.rows_of-returns-in_ok-made-in-One-clause-rows
rows_of-returns-in_ok-made-in-One-clause-rows g t c =
    subst (λ (z : ResolvedTree). AreRowsOf g.S.TickSet.member (g.I.Interpreter.interpretation c.args.asking.now.source.now) c.args.d.now c.args.asking.now.window.lo c.args.asking.now.window.hi z c.args.asking.now.values.now c.in_ok-made-in-One.made) c.in-One.ensures
    (one_rows g.S.TickSet.member (g.I.Interpreter.interpretation c.args.asking.now.source.now) c.args.d.now c.args.asking.now.window.lo c.args.asking.now.window.hi c.args.asking.now.values.now (formula_view c.in-One.part.now) c.in_ok-rows-in-One.rows c.in_ok-rows-in-One.ensures.rows c.in-One.change c.in_ok-made-in-One.made
    c.in_ok-made-in-One.ensures.ticks c.in_ok-made-in-One.ensures.vars c.in_ok-made-in-One.ensures.frame)

pub rows_of-returns-in_err-rows-in-One-clause-reads : goal.rows_of-returns-in_err-rows-in-One-clause-reads
rows_of-returns-in_err-rows-in-One-clause-reads g t c = record {
  least = c.in_err-rows-in-One.ensures.reads.least;
  most = most_same _ _ (reads_upto c.args.d.now c.args.asking.now.window.lo c.args.asking.now.window.hi (formula_view c.args.f.now)) (reads_upto c.args.d.now c.args.asking.now.window.lo c.args.asking.now.window.hi (formula_view c.in-One.part.now)) (ap (reads_upto c.args.d.now c.args.asking.now.window.lo c.args.asking.now.window.hi) (sym c.in-One.ensures) ∙ changed_reads (domain_size c.args.d.now) (c.args.asking.now.window.hi + 1 - c.args.asking.now.window.lo) c.in-One.change (formula_view c.in-One.part.now)) c.in_err-rows-in-One.ensures.reads.most;
}

pub rows_of-returns-in_err-made-in-One-clause-reads : goal.rows_of-returns-in_err-made-in-One-clause-reads
rows_of-returns-in_err-made-in-One-clause-reads g t c = record {
  least = c.in_ok-rows-in-One.ensures.reads.least;
  most = most_same _ _ (reads_upto c.args.d.now c.args.asking.now.window.lo c.args.asking.now.window.hi (formula_view c.args.f.now)) (reads_upto c.args.d.now c.args.asking.now.window.lo c.args.asking.now.window.hi (formula_view c.in-One.part.now)) (ap (reads_upto c.args.d.now c.args.asking.now.window.lo c.args.asking.now.window.hi) (sym c.in-One.ensures) ∙ changed_reads (domain_size c.args.d.now) (c.args.asking.now.window.hi + 1 - c.args.asking.now.window.lo) c.in-One.change (formula_view c.in-One.part.now)) c.in_ok-rows-in-One.ensures.reads.most;
}

pub rows_of-returns-in_ok-made-in-One-clause-reads : goal.rows_of-returns-in_ok-made-in-One-clause-reads
rows_of-returns-in_ok-made-in-One-clause-reads g t c = record {
  least = c.in_ok-rows-in-One.ensures.reads.least;
  most = most_same _ _ (reads_upto c.args.d.now c.args.asking.now.window.lo c.args.asking.now.window.hi (formula_view c.args.f.now)) (reads_upto c.args.d.now c.args.asking.now.window.lo c.args.asking.now.window.hi (formula_view c.in-One.part.now)) (ap (reads_upto c.args.d.now c.args.asking.now.window.lo c.args.asking.now.window.hi) (sym c.in-One.ensures) ∙ changed_reads (domain_size c.args.d.now) (c.args.asking.now.window.hi + 1 - c.args.asking.now.window.lo) c.in-One.change (formula_view c.in-One.part.now)) c.in_ok-rows-in-One.ensures.reads.most;
}

pub rows_of-rows_of_pair-requires : goal.rows_of-rows_of_pair-requires
rows_of-rows_of_pair-requires g t c κs lives =
    let left = formula_view c.in-Two.left.now in
    let right = formula_view c.in-Two.right.now in
    let tree : formula_view c.args.f.now ≡ paired_tree c.in-Two.pairing left right = sym c.in-Two.ensures in
    let turned : pair_view c.ordered-pair.result ≡ ordered_tree c.in-Two.pairing left right = c.ordered-pair.ensures.tree in
    let all : nodes (formula_view c.args.f.now) ≡ nodes (pair_view c.ordered-pair.result) = ap nodes tree ∙ sym (ordered_nodes c.in-Two.pairing left right) ∙ sym (ap nodes turned) in
    let size = all ∙ paired_nodes c.ordered-pair.result.pairing (formula_view c.ordered-pair.result.left.now) (formula_view c.ordered-pair.result.right.now) in (
      omega (arith, c.decreases, size),
      (
        lives.0,
        (
          lives.1.0,
          (
            lives.1.1.0,
            (
              lives.1.1.1,
              (
                ap needs_right c.ordered-pair.ensures.pairing ∙ sym c.needs_right.ensures ∙ c.if-needs_right.true,
                (
                  (λ v h. c.requires.over v (ap (has_variable v) tree ∙ sym (ordered_has v c.in-Two.pairing left right) ∙ sym (ap (has_variable v) turned) ∙ h)),
                  subst (λ (z : ResolvedTree). CanAsk (g.I.Interpreter.interpretation c.args.asking.now.source.now) (g.I.Interpreter.atom_fits c.args.asking.now.source.now c.args.asking.now.window.lo c.args.asking.now.window.hi) (g.I.Interpreter.term_fits c.args.asking.now.source.now c.args.asking.now.window.lo c.args.asking.now.window.hi) c.args.d.now c.args.asking.now.window.lo c.args.asking.now.window.hi z c.args.asking.now.values.now) (sym turned)
                      (ordered_asks (g.I.Interpreter.interpretation c.args.asking.now.source.now) (g.I.Interpreter.atom_fits c.args.asking.now.source.now c.args.asking.now.window.lo c.args.asking.now.window.hi) (g.I.Interpreter.term_fits c.args.asking.now.source.now c.args.asking.now.window.lo c.args.asking.now.window.hi) c.args.d.now c.args.asking.now.window.lo c.args.asking.now.window.hi c.args.asking.now.values.now c.in-Two.pairing left right
                      (subst (λ (z : ResolvedTree). CanAsk (g.I.Interpreter.interpretation c.args.asking.now.source.now) (g.I.Interpreter.atom_fits c.args.asking.now.source.now c.args.asking.now.window.lo c.args.asking.now.window.hi) (g.I.Interpreter.term_fits c.args.asking.now.source.now c.args.asking.now.window.lo c.args.asking.now.window.hi) c.args.d.now c.args.asking.now.window.lo c.args.asking.now.window.hi z c.args.asking.now.values.now) tree c.requires.can)),
                ),
              ),
            ),
          ),
        ),
      ),
    )

pub rows_of-returns-then-needs_right-clause-rows : goal.rows_of-returns-then-needs_right-clause-rows
rows_of-returns-then-needs_right-clause-rows g t c =
    subst (λ (z : ResolvedTree). AreRowsOf g.S.TickSet.member (g.I.Interpreter.interpretation c.args.asking.now.source.now) c.args.d.now c.args.asking.now.window.lo c.args.asking.now.window.hi z c.args.asking.now.values.now c.in_ok-led-in-Two.led) c.in-Two.ensures
    (ordered_rows g.S.TickSet.member (g.I.Interpreter.interpretation c.args.asking.now.source.now) c.args.d.now c.args.asking.now.window.lo c.args.asking.now.window.hi c.args.asking.now.values.now c.in-Two.pairing (formula_view c.in-Two.left.now) (formula_view c.in-Two.right.now) c.in_ok-led-in-Two.led
    (subst (λ (z : ResolvedTree). AreRowsOf g.S.TickSet.member (g.I.Interpreter.interpretation c.args.asking.now.source.now) c.args.d.now c.args.asking.now.window.lo c.args.asking.now.window.hi z c.args.asking.now.values.now c.in_ok-led-in-Two.led) c.ordered-pair.ensures.tree c.in_ok-led-in-Two.ensures.rows))

pub rows_of-returns-in_err-led-in-Two-clause-reads : goal.rows_of-returns-in_err-led-in-Two-clause-reads
rows_of-returns-in_err-led-in-Two-clause-reads g t c = record {
  least = c.in_err-led-in-Two.ensures.reads.least;
  most = (most_same _ _ (reads_upto c.args.d.now c.args.asking.now.window.lo c.args.asking.now.window.hi (formula_view c.args.f.now)) (reads_upto c.args.d.now c.args.asking.now.window.lo c.args.asking.now.window.hi (pair_view c.ordered-pair.result))
      (ap (reads_upto c.args.d.now c.args.asking.now.window.lo c.args.asking.now.window.hi) (sym c.in-Two.ensures) ∙ sym (ordered_reads (domain_size c.args.d.now) (c.args.asking.now.window.hi + 1 - c.args.asking.now.window.lo) c.in-Two.pairing (formula_view c.in-Two.left.now) (formula_view c.in-Two.right.now)) ∙ sym (ap (reads_upto c.args.d.now c.args.asking.now.window.lo c.args.asking.now.window.hi) c.ordered-pair.ensures.tree)) c.in_err-led-in-Two.ensures.reads.most);
}

pub rows_of-returns-then-needs_right-clause-reads : goal.rows_of-returns-then-needs_right-clause-reads
rows_of-returns-then-needs_right-clause-reads g t c = record {
  least = c.in_ok-led-in-Two.ensures.reads.least;
  most = (most_same _ _ (reads_upto c.args.d.now c.args.asking.now.window.lo c.args.asking.now.window.hi (formula_view c.args.f.now)) (reads_upto c.args.d.now c.args.asking.now.window.lo c.args.asking.now.window.hi (pair_view c.ordered-pair.result))
      (ap (reads_upto c.args.d.now c.args.asking.now.window.lo c.args.asking.now.window.hi) (sym c.in-Two.ensures) ∙ sym (ordered_reads (domain_size c.args.d.now) (c.args.asking.now.window.hi + 1 - c.args.asking.now.window.lo) c.in-Two.pairing (formula_view c.in-Two.left.now) (formula_view c.in-Two.right.now)) ∙ sym (ap (reads_upto c.args.d.now c.args.asking.now.window.lo c.args.asking.now.window.hi) c.ordered-pair.ensures.tree)) c.in_ok-led-in-Two.ensures.reads.most);
}

pub rows_of-rows_of-requires-in-Two : goal.rows_of-rows_of-requires-in-Two
rows_of-rows_of-requires-in-Two g t c κs lives =
    let tree : formula_view c.args.f.now ≡ paired_tree c.in-Two.pairing (formula_view c.in-Two.left.now) (formula_view c.in-Two.right.now) = sym c.in-Two.ensures in
    let size : nodes (formula_view c.args.f.now) ≡ nodes (formula_view c.in-Two.left.now) + nodes (formula_view c.in-Two.right.now) + 1 = ap nodes tree ∙ paired_nodes c.in-Two.pairing (formula_view c.in-Two.left.now) (formula_view c.in-Two.right.now) in (
      omega (arith, c.decreases, size),
      (lives.0, (lives.1.0, (lives.1.1.0, (lives.1.1.1, ((λ v h. c.requires.over v (ap (has_variable v) tree ∙ paired_has v c.in-Two.pairing (formula_view c.in-Two.left.now) (formula_view c.in-Two.right.now) ∙ or_left (has_variable v (formula_view c.in-Two.left.now)) (has_variable v (formula_view c.in-Two.right.now)) h)), (let both = paired_asks (g.I.Interpreter.interpretation c.args.asking.now.source.now) (g.I.Interpreter.atom_fits c.args.asking.now.source.now c.args.asking.now.window.lo c.args.asking.now.window.hi) (g.I.Interpreter.term_fits c.args.asking.now.source.now c.args.asking.now.window.lo c.args.asking.now.window.hi) c.args.d.now c.args.asking.now.window.lo c.args.asking.now.window.hi c.args.asking.now.values.now c.in-Two.pairing (formula_view c.in-Two.left.now) (formula_view c.in-Two.right.now) (subst (λ (z : ResolvedTree). CanAsk (g.I.Interpreter.interpretation c.args.asking.now.source.now) (g.I.Interpreter.atom_fits c.args.asking.now.source.now c.args.asking.now.window.lo c.args.asking.now.window.hi) (g.I.Interpreter.term_fits c.args.asking.now.source.now c.args.asking.now.window.lo c.args.asking.now.window.hi) c.args.d.now c.args.asking.now.window.lo c.args.asking.now.window.hi z c.args.asking.now.values.now) tree c.requires.can) in both.0)))))),
    )

pub rows_of-rows_of-requires-in-Two-2 : goal.rows_of-rows_of-requires-in-Two-2
rows_of-rows_of-requires-in-Two-2 g t c κs lives =
    let tree : formula_view c.args.f.now ≡ paired_tree c.in-Two.pairing (formula_view c.in-Two.left.now) (formula_view c.in-Two.right.now) = sym c.in-Two.ensures in
    let size : nodes (formula_view c.args.f.now) ≡ nodes (formula_view c.in-Two.left.now) + nodes (formula_view c.in-Two.right.now) + 1 = ap nodes tree ∙ paired_nodes c.in-Two.pairing (formula_view c.in-Two.left.now) (formula_view c.in-Two.right.now) in (
      omega (arith, c.decreases, size),
      (lives.0, (lives.1.0, (lives.1.1.0, (lives.1.1.1, ((λ v h. c.requires.over v (ap (has_variable v) tree ∙ paired_has v c.in-Two.pairing (formula_view c.in-Two.left.now) (formula_view c.in-Two.right.now) ∙ or_right (has_variable v (formula_view c.in-Two.left.now)) (has_variable v (formula_view c.in-Two.right.now)) h)), (let both = paired_asks (g.I.Interpreter.interpretation c.args.asking.now.source.now) (g.I.Interpreter.atom_fits c.args.asking.now.source.now c.args.asking.now.window.lo c.args.asking.now.window.hi) (g.I.Interpreter.term_fits c.args.asking.now.source.now c.args.asking.now.window.lo c.args.asking.now.window.hi) c.args.d.now c.args.asking.now.window.lo c.args.asking.now.window.hi c.args.asking.now.values.now c.in-Two.pairing (formula_view c.in-Two.left.now) (formula_view c.in-Two.right.now) (subst (λ (z : ResolvedTree). CanAsk (g.I.Interpreter.interpretation c.args.asking.now.source.now) (g.I.Interpreter.atom_fits c.args.asking.now.source.now c.args.asking.now.window.lo c.args.asking.now.window.hi) (g.I.Interpreter.term_fits c.args.asking.now.source.now c.args.asking.now.window.lo c.args.asking.now.window.hi) c.args.d.now c.args.asking.now.window.lo c.args.asking.now.window.hi z c.args.asking.now.values.now) tree c.requires.can) in both.1)))))),
    )

pub rows_of-paired_rows-requires-clause-left : goal.rows_of-paired_rows-requires-clause-left
rows_of-paired_rows-requires-clause-left g t c =
    subst (λ (vs : List ℕ). IsStrictlyIncreasing vs) (sym c.in_ok-left-in-Two.ensures.rows.vars) (ascending_variables (λ v. has_variable v (formula_view c.in-Two.left.now)))

pub rows_of-paired_rows-requires-clause-right : goal.rows_of-paired_rows-requires-clause-right
rows_of-paired_rows-requires-clause-right g t c =
    subst (λ (vs : List ℕ). IsStrictlyIncreasing vs) (sym c.in_ok-right-in-Two.ensures.rows.vars) (ascending_variables (λ v. has_variable v (formula_view c.in-Two.right.now)))

pub rows_of-paired_rows-requires-clause-frame : goal.rows_of-paired_rows-requires-clause-frame
rows_of-paired_rows-requires-clause-frame g t c = c.in_ok-right-in-Two.ensures.rows.frame ∙ sym c.in_ok-left-in-Two.ensures.rows.frame

pub rows_of-returns-in_ok-made-in-Two-clause-rows : goal.rows_of-returns-in_ok-made-in-Two-clause-rows
rows_of-returns-in_ok-made-in-Two-clause-rows g t c =
    subst (λ (z : ResolvedTree). AreRowsOf g.S.TickSet.member (g.I.Interpreter.interpretation c.args.asking.now.source.now) c.args.d.now c.args.asking.now.window.lo c.args.asking.now.window.hi z c.args.asking.now.values.now c.in_ok-made-in-Two.made) c.in-Two.ensures
    (two_rows g.S.TickSet.member (g.I.Interpreter.interpretation c.args.asking.now.source.now) c.args.d.now c.args.asking.now.window.lo c.args.asking.now.window.hi c.args.asking.now.values.now (formula_view c.in-Two.left.now) c.in_ok-left-in-Two.left c.in_ok-left-in-Two.ensures.rows c.in-Two.pairing (formula_view c.in-Two.right.now) c.in_ok-right-in-Two.right c.in_ok-made-in-Two.made c.in_ok-right-in-Two.ensures.rows
    c.in_ok-made-in-Two.ensures.ticks c.in_ok-made-in-Two.ensures.vars c.in_ok-made-in-Two.ensures.frame)

pub rows_of-returns-in_err-left-in-Two-clause-reads : goal.rows_of-returns-in_err-left-in-Two-clause-reads
rows_of-returns-in_err-left-in-Two-clause-reads g t c = record {
  least = c.in_err-left-in-Two.ensures.reads.least;
  most = most_first _ _ (reads_upto c.args.d.now c.args.asking.now.window.lo c.args.asking.now.window.hi (formula_view c.args.f.now)) (reads_upto c.args.d.now c.args.asking.now.window.lo c.args.asking.now.window.hi (formula_view c.in-Two.left.now)) (reads_upto c.args.d.now c.args.asking.now.window.lo c.args.asking.now.window.hi (formula_view c.in-Two.right.now)) (ap (reads_upto c.args.d.now c.args.asking.now.window.lo c.args.asking.now.window.hi) (sym c.in-Two.ensures) ∙ paired_reads (domain_size c.args.d.now) (c.args.asking.now.window.hi + 1 - c.args.asking.now.window.lo) c.in-Two.pairing (formula_view c.in-Two.left.now) (formula_view c.in-Two.right.now)) c.in_err-left-in-Two.ensures.reads.most;
}

pub rows_of-returns-in_err-right-in-Two-clause-reads : goal.rows_of-returns-in_err-right-in-Two-clause-reads
rows_of-returns-in_err-right-in-Two-clause-reads g t c = record {
  least = at_most_in_turn _ _ _ c.in_ok-left-in-Two.ensures.reads.least c.in_err-right-in-Two.ensures.reads.least;
  most = most_both _ _ _ (reads_upto c.args.d.now c.args.asking.now.window.lo c.args.asking.now.window.hi (formula_view c.args.f.now)) (reads_upto c.args.d.now c.args.asking.now.window.lo c.args.asking.now.window.hi (formula_view c.in-Two.left.now)) (reads_upto c.args.d.now c.args.asking.now.window.lo c.args.asking.now.window.hi (formula_view c.in-Two.right.now)) (ap (reads_upto c.args.d.now c.args.asking.now.window.lo c.args.asking.now.window.hi) (sym c.in-Two.ensures) ∙ paired_reads (domain_size c.args.d.now) (c.args.asking.now.window.hi + 1 - c.args.asking.now.window.lo) c.in-Two.pairing (formula_view c.in-Two.left.now) (formula_view c.in-Two.right.now)) c.in_ok-left-in-Two.ensures.reads.most c.in_err-right-in-Two.ensures.reads.most;
}

pub rows_of-returns-in_err-made-in-Two-clause-reads : goal.rows_of-returns-in_err-made-in-Two-clause-reads
rows_of-returns-in_err-made-in-Two-clause-reads g t c = record {
  least = at_most_in_turn _ _ _ c.in_ok-left-in-Two.ensures.reads.least c.in_ok-right-in-Two.ensures.reads.least;
  most = most_both _ _ _ (reads_upto c.args.d.now c.args.asking.now.window.lo c.args.asking.now.window.hi (formula_view c.args.f.now)) (reads_upto c.args.d.now c.args.asking.now.window.lo c.args.asking.now.window.hi (formula_view c.in-Two.left.now)) (reads_upto c.args.d.now c.args.asking.now.window.lo c.args.asking.now.window.hi (formula_view c.in-Two.right.now)) (ap (reads_upto c.args.d.now c.args.asking.now.window.lo c.args.asking.now.window.hi) (sym c.in-Two.ensures) ∙ paired_reads (domain_size c.args.d.now) (c.args.asking.now.window.hi + 1 - c.args.asking.now.window.lo) c.in-Two.pairing (formula_view c.in-Two.left.now) (formula_view c.in-Two.right.now)) c.in_ok-left-in-Two.ensures.reads.most c.in_ok-right-in-Two.ensures.reads.most;
}

pub rows_of-returns-in_ok-made-in-Two-clause-reads : goal.rows_of-returns-in_ok-made-in-Two-clause-reads
rows_of-returns-in_ok-made-in-Two-clause-reads g t c = record {
  least = at_most_in_turn _ _ _ c.in_ok-left-in-Two.ensures.reads.least c.in_ok-right-in-Two.ensures.reads.least;
  most = most_both _ _ _ (reads_upto c.args.d.now c.args.asking.now.window.lo c.args.asking.now.window.hi (formula_view c.args.f.now)) (reads_upto c.args.d.now c.args.asking.now.window.lo c.args.asking.now.window.hi (formula_view c.in-Two.left.now)) (reads_upto c.args.d.now c.args.asking.now.window.lo c.args.asking.now.window.hi (formula_view c.in-Two.right.now)) (ap (reads_upto c.args.d.now c.args.asking.now.window.lo c.args.asking.now.window.hi) (sym c.in-Two.ensures) ∙ paired_reads (domain_size c.args.d.now) (c.args.asking.now.window.hi + 1 - c.args.asking.now.window.lo) c.in-Two.pairing (formula_view c.in-Two.left.now) (formula_view c.in-Two.right.now)) c.in_ok-left-in-Two.ensures.reads.most c.in_ok-right-in-Two.ensures.reads.most;
}

pub rows_of-rows_of_assignment-requires : goal.rows_of-rows_of_assignment-requires
rows_of-rows_of_assignment-requires g t c κs lives =
    let tree = sym c.in-Assign.ensures in
    let size = ap nodes c.in-Assign.ensures in (
      omega (arith, c.decreases, size),
      (lives.0, (lives.1.0, (lives.1.1.0, (lives.1.1.1, ((λ v l. c.free-set.ensures v l ∙ ap (has_variable v) tree), ((λ v h. c.requires.over v (ap (has_variable v) tree ∙ h)), subst (λ (z : ResolvedTree). CanAsk (g.I.Interpreter.interpretation c.args.asking.now.source.now) (g.I.Interpreter.atom_fits c.args.asking.now.source.now c.args.asking.now.window.lo c.args.asking.now.window.hi) (g.I.Interpreter.term_fits c.args.asking.now.source.now c.args.asking.now.window.lo c.args.asking.now.window.hi) c.args.d.now c.args.asking.now.window.lo c.args.asking.now.window.hi z c.args.asking.now.values.now) tree c.requires.can)))))),
    )

pub rows_of-returns-in_ok-made-in-Assign-clause-rows : goal.rows_of-returns-in_ok-made-in-Assign-clause-rows
rows_of-returns-in_ok-made-in-Assign-clause-rows g t c =
    subst (λ (z : ResolvedTree). AreRowsOf g.S.TickSet.member (g.I.Interpreter.interpretation c.args.asking.now.source.now) c.args.d.now c.args.asking.now.window.lo c.args.asking.now.window.hi z c.args.asking.now.values.now c.in_ok-made-in-Assign.made) c.in-Assign.ensures c.in_ok-made-in-Assign.ensures.rows

pub rows_of-returns-in_err-made-in-Assign-clause-reads : goal.rows_of-returns-in_err-made-in-Assign-clause-reads
rows_of-returns-in_err-made-in-Assign-clause-reads g t c = record {
  least = c.in_err-made-in-Assign.ensures.reads.least;
  most = subst (λ (z : ResolvedTree). c.rows_of_assignment.new.reads ≤ c.args.reads.now + reads_upto c.args.d.now c.args.asking.now.window.lo c.args.asking.now.window.hi z) c.in-Assign.ensures c.in_err-made-in-Assign.ensures.reads.most;
}

pub rows_of-returns-in_ok-made-in-Assign-clause-reads : goal.rows_of-returns-in_ok-made-in-Assign-clause-reads
rows_of-returns-in_ok-made-in-Assign-clause-reads g t c = record {
  least = c.in_ok-made-in-Assign.ensures.reads.least;
  most = subst (λ (z : ResolvedTree). c.rows_of_assignment.new.reads ≤ c.args.reads.now + reads_upto c.args.d.now c.args.asking.now.window.lo c.args.asking.now.window.hi z) c.in-Assign.ensures c.in_ok-made-in-Assign.ensures.reads.most;
}

pub rows_of-unreachable-requires : goal.rows_of-unreachable-requires
rows_of-unreachable-requires g t c =
    let f : false ≡ true = sym c.if-is_over.false ∙ c.is_over.ensures ∙ truth_over (domain_size c.args.d.now) c.list-vars.result.now (formula_view c.args.f.now) _ (sym c.in-Truth.ensures) in cc

pub rows_of-unreachable-requires-in-Atom : goal.rows_of-unreachable-requires-in-Atom
rows_of-unreachable-requires-in-Atom g t c =
    let f : false ≡ true = sym c.if-is_over.false ∙ c.is_over.ensures ∙ atom_over (domain_size c.args.d.now) c.list-vars.result.now (formula_view c.args.f.now) _ (c.list-vars.ensures ∙ variables_same (set_has c.free-set.result) (λ v. has_variable v (formula_view c.args.f.now)) (λ v l. c.free-set.ensures v l)) (sym c.in-Atom.ensures) in cc

pub rows_of_pair-rows_of-requires : goal.rows_of_pair-rows_of-requires
rows_of_pair-rows_of-requires g t c κs lives = (
  omega (arith, c.decreases),
  (
    lives.0,
    (
      lives.1.0,
      (
        lives.1.1.0,
        (
          lives.1.1.1,
          (
            (λ v h. c.requires.over v (paired_has v c.args.pair.now.pairing (formula_view c.args.pair.now.left.now) (formula_view c.args.pair.now.right.now) ∙ or_right (has_variable v (formula_view c.args.pair.now.left.now)) (has_variable v (formula_view c.args.pair.now.right.now)) h)),
            (let both = paired_asks (g.I.Interpreter.interpretation c.args.asking.now.source.now) (g.I.Interpreter.atom_fits c.args.asking.now.source.now c.args.asking.now.window.lo c.args.asking.now.window.hi) (g.I.Interpreter.term_fits c.args.asking.now.source.now c.args.asking.now.window.lo c.args.asking.now.window.hi) c.args.d.now c.args.asking.now.window.lo c.args.asking.now.window.hi c.args.asking.now.values.now c.args.pair.now.pairing (formula_view c.args.pair.now.left.now) (formula_view c.args.pair.now.right.now) c.requires.can in both.1),
          ),
        ),
      ),
    ),
  ),
)

pub rows_of_pair-rows_beside-requires : goal.rows_of_pair-rows_beside-requires
rows_of_pair-rows_beside-requires g t c κs lives =
    let own : c.in_ok-right.right.domains ≡ c.args.d.now = ap (λ (z : Frame). z.domains) c.in_ok-right.ensures.rows.frame in
    let many : length c.in_ok-right.right.domains ≡ length c.args.d.now = ap length own in
    let both = paired_asks (g.I.Interpreter.interpretation c.args.asking.now.source.now) (g.I.Interpreter.atom_fits c.args.asking.now.source.now c.args.asking.now.window.lo c.args.asking.now.window.hi) (g.I.Interpreter.term_fits c.args.asking.now.source.now c.args.asking.now.window.lo c.args.asking.now.window.hi) c.args.d.now c.args.asking.now.window.lo c.args.asking.now.window.hi c.args.asking.now.values.now c.args.pair.now.pairing (formula_view c.args.pair.now.left.now) (formula_view c.args.pair.now.right.now) c.requires.can in (
      omega (arith, c.decreases),
      (
        lives.0,
        (
          lives.1.0,
          (
            lives.1.1.0,
            (
              lives.1.1.1,
              (
                (λ v h. (let o = c.requires.over v (paired_has v c.args.pair.now.pairing (formula_view c.args.pair.now.left.now) (formula_view c.args.pair.now.right.now) ∙ or_left (has_variable v (formula_view c.args.pair.now.left.now)) (has_variable v (formula_view c.args.pair.now.right.now)) h) in omega (arith, o, many))),
                subst (λ (ds : List (List ℕ)). CanAsk (g.I.Interpreter.interpretation c.args.asking.now.source.now) (g.I.Interpreter.atom_fits c.args.asking.now.source.now c.args.asking.now.window.lo c.args.asking.now.window.hi) (g.I.Interpreter.term_fits c.args.asking.now.source.now c.args.asking.now.window.lo c.args.asking.now.window.hi) ds c.args.asking.now.window.lo c.args.asking.now.window.hi (formula_view c.args.pair.now.left.now) c.args.asking.now.values.now) (sym own) both.0,
              ),
            ),
          ),
        ),
      ),
    )

pub rows_of_pair-paired_rows-requires-clause-left : goal.rows_of_pair-paired_rows-requires-clause-left
rows_of_pair-paired_rows-requires-clause-left g t c =
    subst (λ (vs : List ℕ). IsStrictlyIncreasing vs) (sym c.in_ok-left.ensures.rows.vars) (ascending_variables (λ v. has_variable v (formula_view c.args.pair.now.left.now)))

pub rows_of_pair-paired_rows-requires-clause-right : goal.rows_of_pair-paired_rows-requires-clause-right
rows_of_pair-paired_rows-requires-clause-right g t c =
    subst (λ (vs : List ℕ). IsStrictlyIncreasing vs) (sym c.in_ok-right.ensures.rows.vars) (ascending_variables (λ v. has_variable v (formula_view c.args.pair.now.right.now)))

pub rows_of_pair-paired_rows-requires-clause-frame : goal.rows_of_pair-paired_rows-requires-clause-frame
rows_of_pair-paired_rows-requires-clause-frame g t c =
    c.in_ok-right.ensures.rows.frame
    ∙ ap (λ (ds : List (List ℕ)). frame_of ds c.args.asking.now.window.lo c.args.asking.now.window.hi) (sym (ap (λ (z : Frame). z.domains) c.in_ok-right.ensures.rows.frame))
    ∙ sym c.in_ok-left.ensures.rows.frame

pub rows_of_pair-returns-clause-rows : goal.rows_of_pair-returns-clause-rows
rows_of_pair-returns-clause-rows g t c =
    led_rows g.S.TickSet.member (g.I.Interpreter.interpretation c.args.asking.now.source.now) c.args.d.now c.args.asking.now.window.lo c.args.asking.now.window.hi c.args.asking.now.values.now c.args.pair.now.pairing c.requires.needs (formula_view c.args.pair.now.left.now) (formula_view c.args.pair.now.right.now) c.in_ok-left.left c.in_ok-right.right c.in_ok-made.made
    (subst (λ (ds : List (List ℕ)). AreRowsBeside g.S.TickSet.member (g.I.Interpreter.interpretation c.args.asking.now.source.now) ds c.args.asking.now.window.lo c.args.asking.now.window.hi (formula_view c.args.pair.now.left.now) c.args.asking.now.values.now c.in_ok-right.right c.in_ok-left.left) (ap (λ (z : Frame). z.domains) c.in_ok-right.ensures.rows.frame) c.in_ok-left.ensures.rows)
    c.in_ok-right.ensures.rows c.rows_stand_in_order.ensures.none
    c.in_ok-made.ensures.ticks c.in_ok-made.ensures.vars c.in_ok-made.ensures.frame

pub rows_of_pair-returns-in_err-right-clause-reads : goal.rows_of_pair-returns-in_err-right-clause-reads
rows_of_pair-returns-in_err-right-clause-reads g t c = record {
  least = c.in_err-right.ensures.reads.least;
  most = most_second _ _ (reads_upto c.args.d.now c.args.asking.now.window.lo c.args.asking.now.window.hi (pair_view c.args.pair.now)) (reads_upto c.args.d.now c.args.asking.now.window.lo c.args.asking.now.window.hi (formula_view c.args.pair.now.left.now)) (reads_upto c.args.d.now c.args.asking.now.window.lo c.args.asking.now.window.hi (formula_view c.args.pair.now.right.now)) (paired_reads (domain_size c.args.d.now) (c.args.asking.now.window.hi + 1 - c.args.asking.now.window.lo) c.args.pair.now.pairing (formula_view c.args.pair.now.left.now) (formula_view c.args.pair.now.right.now)) c.in_err-right.ensures.reads.most;
}

pub rows_of_pair-returns-in_err-left-clause-reads : goal.rows_of_pair-returns-in_err-left-clause-reads
rows_of_pair-returns-in_err-left-clause-reads g t c = record {
  least = at_most_in_turn _ _ _ c.in_ok-right.ensures.reads.least c.in_err-left.ensures.reads.least;
  most = most_turned _ _ _ (reads_upto c.args.d.now c.args.asking.now.window.lo c.args.asking.now.window.hi (pair_view c.args.pair.now)) (reads_upto c.args.d.now c.args.asking.now.window.lo c.args.asking.now.window.hi (formula_view c.args.pair.now.left.now)) (reads_upto c.args.d.now c.args.asking.now.window.lo c.args.asking.now.window.hi (formula_view c.args.pair.now.right.now)) (paired_reads (domain_size c.args.d.now) (c.args.asking.now.window.hi + 1 - c.args.asking.now.window.lo) c.args.pair.now.pairing (formula_view c.args.pair.now.left.now) (formula_view c.args.pair.now.right.now)) c.in_ok-right.ensures.reads.most (most_over c.args.asking.now.window.lo c.args.asking.now.window.hi (formula_view c.args.pair.now.left.now) _ _ (ap (λ (z : Frame). z.domains) c.in_ok-right.ensures.rows.frame) _ _ c.in_err-left.ensures.reads.most);
}

pub rows_of_pair-returns-in_err-made-clause-reads : goal.rows_of_pair-returns-in_err-made-clause-reads
rows_of_pair-returns-in_err-made-clause-reads g t c = record {
  least = at_most_in_turn _ _ _ c.in_ok-right.ensures.reads.least c.in_ok-left.ensures.reads.least;
  most = most_turned _ _ _ (reads_upto c.args.d.now c.args.asking.now.window.lo c.args.asking.now.window.hi (pair_view c.args.pair.now)) (reads_upto c.args.d.now c.args.asking.now.window.lo c.args.asking.now.window.hi (formula_view c.args.pair.now.left.now)) (reads_upto c.args.d.now c.args.asking.now.window.lo c.args.asking.now.window.hi (formula_view c.args.pair.now.right.now)) (paired_reads (domain_size c.args.d.now) (c.args.asking.now.window.hi + 1 - c.args.asking.now.window.lo) c.args.pair.now.pairing (formula_view c.args.pair.now.left.now) (formula_view c.args.pair.now.right.now)) c.in_ok-right.ensures.reads.most (most_over c.args.asking.now.window.lo c.args.asking.now.window.hi (formula_view c.args.pair.now.left.now) _ _ (ap (λ (z : Frame). z.domains) c.in_ok-right.ensures.rows.frame) _ _ c.in_ok-left.ensures.reads.most);
}

pub rows_of_pair-returns-clause-reads : goal.rows_of_pair-returns-clause-reads
rows_of_pair-returns-clause-reads g t c = record {
  least = at_most_in_turn _ _ _ c.in_ok-right.ensures.reads.least c.in_ok-left.ensures.reads.least;
  most = most_turned _ _ _ (reads_upto c.args.d.now c.args.asking.now.window.lo c.args.asking.now.window.hi (pair_view c.args.pair.now)) (reads_upto c.args.d.now c.args.asking.now.window.lo c.args.asking.now.window.hi (formula_view c.args.pair.now.left.now)) (reads_upto c.args.d.now c.args.asking.now.window.lo c.args.asking.now.window.hi (formula_view c.args.pair.now.right.now)) (paired_reads (domain_size c.args.d.now) (c.args.asking.now.window.hi + 1 - c.args.asking.now.window.lo) c.args.pair.now.pairing (formula_view c.args.pair.now.left.now) (formula_view c.args.pair.now.right.now)) c.in_ok-right.ensures.reads.most (most_over c.args.asking.now.window.lo c.args.asking.now.window.hi (formula_view c.args.pair.now.left.now) _ _ (ap (λ (z : Frame). z.domains) c.in_ok-right.ensures.rows.frame) _ _ c.in_ok-left.ensures.reads.most);
}

pub rows_beside-leave_out-requires : goal.rows_beside-leave_out-requires
rows_beside-leave_out-requires g t c =
    sym c.domains-d.ensures

pub rows_beside-domains_for-requires : goal.rows_beside-domains_for-requires
rows_beside-domains_for-requires g t c =
    sym c.domains-d.ensures

pub rows_beside-rows_of-requires : goal.rows_beside-rows_of-requires
rows_beside-rows_of-requires g t c κs lives =
    let many : length c.domains-d.result.now ≡ length c.args.other.now.domains = ap length c.domains-d.ensures in (
      omega (arith, c.decreases),
      (
        lives.0,
        (
          lives.1.0,
          (
            lives.1.1.0,
            (
              lives.1.1.1,
              (
                (λ v h. (let o = c.requires.over v h in let m = c.in_ok-few.ensures.many in omega (arith, o, m, many))),
                can_ask_narrower (g.I.Interpreter.interpretation c.args.asking.now.source.now) (g.I.Interpreter.atom_fits c.args.asking.now.source.now c.args.asking.now.window.lo c.args.asking.now.window.hi) (g.I.Interpreter.term_fits c.args.asking.now.source.now c.args.asking.now.window.lo c.args.asking.now.window.hi) c.args.asking.now.window.lo c.args.asking.now.window.hi c.in_ok-few.few c.domains-d.result.now c.in_ok-few.ensures.wider (formula_view c.args.f.now) c.args.asking.now.values.now (subst (λ (ds : List (List ℕ)). CanAsk (g.I.Interpreter.interpretation c.args.asking.now.source.now) (g.I.Interpreter.atom_fits c.args.asking.now.source.now c.args.asking.now.window.lo c.args.asking.now.window.hi) (g.I.Interpreter.term_fits c.args.asking.now.source.now c.args.asking.now.window.lo c.args.asking.now.window.hi) ds c.args.asking.now.window.lo c.args.asking.now.window.hi (formula_view c.args.f.now) c.args.asking.now.values.now) (sym c.domains-d.ensures) c.requires.can),
              ),
            ),
          ),
        ),
      ),
    )

pub rows_beside-widen-requires : goal.rows_beside-widen-requires
rows_beside-widen-requires g t c =
    subst (λ (ds : List (List ℕ)). IsWider ds c.domains-d.result.now) (sym (ap (λ (z : Frame). z.domains) c.in_ok-near.ensures.rows.frame)) c.in_ok-few.ensures.wider

pub rows_beside-rows_of-requires-2 : goal.rows_beside-rows_of-requires-2
rows_beside-rows_of-requires-2 g t c κs lives =
    let many : length c.domains-d.result.now ≡ length c.args.other.now.domains = ap length c.domains-d.ensures in (
      omega (arith, c.decreases),
      (lives.0, (lives.1.0, (lives.1.1.0, (lives.1.1.1, ((λ v h. (let o = c.requires.over v h in omega (arith, o, many))), subst (λ (ds : List (List ℕ)). CanAsk (g.I.Interpreter.interpretation c.args.asking.now.source.now) (g.I.Interpreter.atom_fits c.args.asking.now.source.now c.args.asking.now.window.lo c.args.asking.now.window.hi) (g.I.Interpreter.term_fits c.args.asking.now.source.now c.args.asking.now.window.lo c.args.asking.now.window.hi) ds c.args.asking.now.window.lo c.args.asking.now.window.hi (formula_view c.args.f.now) c.args.asking.now.values.now) (sym c.domains-d.ensures) c.requires.can))))),
    )

pub rows_beside-returns-then-leave_out-clause-rows : goal.rows_beside-returns-then-leave_out-clause-rows
rows_beside-returns-then-leave_out-clause-rows g t c =
    subst (λ (ds : List (List ℕ)). AreRowsBeside g.S.TickSet.member (g.I.Interpreter.interpretation c.args.asking.now.source.now) ds c.args.asking.now.window.lo c.args.asking.now.window.hi (formula_view c.args.f.now) c.args.asking.now.values.now c.args.other.now c.in_ok-wide.wide) c.domains-d.ensures
    (beside_few g.S.TickSet.member (g.I.Interpreter.interpretation c.args.asking.now.source.now) c.domains-d.result.now c.args.asking.now.window.lo c.args.asking.now.window.hi c.args.asking.now.values.now (formula_view c.args.f.now) c.args.other.now c.in_ok-few.few c.in_ok-near.near c.in_ok-wide.wide c.in_ok-few.ensures
    c.in_ok-near.ensures.rows c.in_ok-wide.ensures.ticks c.in_ok-wide.ensures.head.vars
    (wide_frame c.in_ok-near.near c.in_ok-wide.wide c.in_ok-few.few c.domains-d.result.now c.args.asking.now.window.lo c.args.asking.now.window.hi c.in_ok-near.ensures.rows.frame c.in_ok-wide.ensures.head))

pub rows_beside-returns-clause-rows : goal.rows_beside-returns-clause-rows
rows_beside-returns-clause-rows g t c =
    subst (λ (ds : List (List ℕ)). AreRowsBeside g.S.TickSet.member (g.I.Interpreter.interpretation c.args.asking.now.source.now) ds c.args.asking.now.window.lo c.args.asking.now.window.hi (formula_view c.args.f.now) c.args.asking.now.values.now c.args.other.now c.in_ok-made.made) c.domains-d.ensures
    (beside_all g.S.TickSet.member (g.I.Interpreter.interpretation c.args.asking.now.source.now) c.domains-d.result.now c.args.asking.now.window.lo c.args.asking.now.window.hi c.args.asking.now.values.now (formula_view c.args.f.now) c.args.other.now c.in_ok-made.made c.in_ok-made.ensures.rows)

pub rows_beside-returns-in_err-near-clause-reads : goal.rows_beside-returns-in_err-near-clause-reads
rows_beside-returns-in_err-near-clause-reads g t c = record {
  least = c.in_err-near.ensures.reads.least;
  most = (most_over c.args.asking.now.window.lo c.args.asking.now.window.hi (formula_view c.args.f.now) _ _ c.domains-d.ensures _ _
      (most_fewer _ _ (reads_upto c.in_ok-few.few c.args.asking.now.window.lo c.args.asking.now.window.hi (formula_view c.args.f.now)) (reads_upto c.domains-d.result.now c.args.asking.now.window.lo c.args.asking.now.window.hi (formula_view c.args.f.now)) (fewer_reads c.fewer_objects_take_fewer_looks.ensures (domain_size c.in_ok-few.few) (domain_size c.domains-d.result.now) c.in_ok-few.ensures.few (c.args.asking.now.window.hi + 1 - c.args.asking.now.window.lo) (formula_view c.args.f.now)) c.in_err-near.ensures.reads.most));
}

pub rows_beside-returns-in_err-wide-clause-reads : goal.rows_beside-returns-in_err-wide-clause-reads
rows_beside-returns-in_err-wide-clause-reads g t c = record {
  least = c.in_ok-near.ensures.reads.least;
  most = (most_over c.args.asking.now.window.lo c.args.asking.now.window.hi (formula_view c.args.f.now) _ _ c.domains-d.ensures _ _
      (most_fewer _ _ (reads_upto c.in_ok-few.few c.args.asking.now.window.lo c.args.asking.now.window.hi (formula_view c.args.f.now)) (reads_upto c.domains-d.result.now c.args.asking.now.window.lo c.args.asking.now.window.hi (formula_view c.args.f.now)) (fewer_reads c.fewer_objects_take_fewer_looks.ensures (domain_size c.in_ok-few.few) (domain_size c.domains-d.result.now) c.in_ok-few.ensures.few (c.args.asking.now.window.hi + 1 - c.args.asking.now.window.lo) (formula_view c.args.f.now)) c.in_ok-near.ensures.reads.most));
}

pub rows_beside-returns-then-leave_out-clause-reads : goal.rows_beside-returns-then-leave_out-clause-reads
rows_beside-returns-then-leave_out-clause-reads g t c = record {
  least = c.in_ok-near.ensures.reads.least;
  most = (most_over c.args.asking.now.window.lo c.args.asking.now.window.hi (formula_view c.args.f.now) _ _ c.domains-d.ensures _ _
      (most_fewer _ _ (reads_upto c.in_ok-few.few c.args.asking.now.window.lo c.args.asking.now.window.hi (formula_view c.args.f.now)) (reads_upto c.domains-d.result.now c.args.asking.now.window.lo c.args.asking.now.window.hi (formula_view c.args.f.now)) (fewer_reads c.fewer_objects_take_fewer_looks.ensures (domain_size c.in_ok-few.few) (domain_size c.domains-d.result.now) c.in_ok-few.ensures.few (c.args.asking.now.window.hi + 1 - c.args.asking.now.window.lo) (formula_view c.args.f.now)) c.in_ok-near.ensures.reads.most));
}

pub rows_beside-returns-in_err-made-clause-reads : goal.rows_beside-returns-in_err-made-clause-reads
rows_beside-returns-in_err-made-clause-reads g t c = record {
  least = c.in_err-made.ensures.reads.least;
  most = most_over c.args.asking.now.window.lo c.args.asking.now.window.hi (formula_view c.args.f.now) _ _ c.domains-d.ensures _ _ c.in_err-made.ensures.reads.most;
}

pub rows_beside-returns-clause-reads : goal.rows_beside-returns-clause-reads
rows_beside-returns-clause-reads g t c = record {
  least = c.in_ok-made.ensures.reads.least;
  most = most_over c.args.asking.now.window.lo c.args.asking.now.window.hi (formula_view c.args.f.now) _ _ c.domains-d.ensures _ _ c.in_ok-made.ensures.reads.most;
}

pub rows_of_assignment-keys_of-requires-clause-known : goal.rows_of_assignment-keys_of-requires-clause-known
rows_of_assignment-keys_of-requires-clause-known g t c =
    subst (λ (vs : List ℕ). are_known c.args.d.now vs ≡ true) (sym c.list-term_vars.ensures)
    (known_variables c.args.d.now (set_has c.free_in_term.result) (λ v l h. c.requires.over v (or_left (term_has v c.args.scene.now.assignment.now.term.now) (has_variable v (formula_view c.args.scene.now.assignment.now.body.now)) (sym (c.free_in_term.ensures v l) ∙ h))))

pub rows_of_assignment-keys_of-requires-clause-few : goal.rows_of_assignment-keys_of-requires-clause-few
rows_of_assignment-keys_of-requires-clause-few g t c = subst (λ (vs : List ℕ). length vs ≤ 4) (sym c.list-term_vars.ensures) (few_variables (set_has c.free_in_term.result))

pub rows_of_assignment-keys-init : goal.rows_of_assignment-keys-init
rows_of_assignment-keys-init g t c = record {
  alike = none_alike (variables_in (set_has c.args.set)) c.args.d.now c.args.scene.now.window.lo c.args.scene.now.window.hi c.new-parts.result.items c.new-parts.ensures.items;
  ticks = λ b is_in u. ap (λ (rs : (List (Table g.row.S.Denot))). some_part_has g.S.TickSet.member rs b u) c.new-parts.ensures.items ∙ false_is_and (within c.args.scene.now.window.lo c.args.scene.now.window.hi u);
  least = omega arith;
  most = omega arith;
}

pub rows_of_assignment-rows_at_key-requires : goal.rows_of_assignment-rows_at_key-requires
rows_of_assignment-rows_at_key-requires g t c κs lives =
    let same_vars : c.list-term_vars.result.now ≡ term_variables c.args.scene.now.assignment.now.term.now = c.list-term_vars.ensures ∙ variables_same (set_has c.free_in_term.result) (λ v. term_has v c.args.scene.now.assignment.now.term.now) (λ v l. c.free_in_term.ensures v l) in
    let are = subst (λ (ks : List (List ℕ)). AreKeys c.args.d.now c.list-term_vars.result.now ks) (sym c.items-key-items.ensures) c.in_ok-keys.ensures in
    let inside = subst (λ (k : List ℕ). key_in c.args.d.now c.list-term_vars.result.now k ≡ true) (sym c.key-item.is) (at_key (key_in c.args.d.now c.list-term_vars.result.now) c.items-key-items.result.now c.keys.key-index c.key-item.result are.inside (omega (arith, c.keys-test.true))) in (
      omega (arith, c.decreases),
      (lives.0, (lives.1.0, (lives.1.1.0, (lives.1.1.1, (same_vars, (inside, (c.requires.over, c.requires.can))))))),
    )

pub rows_of_assignment-returns-in_err-rows-clause-reads : goal.rows_of_assignment-returns-in_err-rows-clause-reads
rows_of_assignment-returns-in_err-rows-clause-reads g t c = record {
  least = at_most_in_turn _ _ _ c.keys.invariant.least c.in_err-rows.ensures.reads.least;
  most = (let same_vars : c.list-term_vars.result.now ≡ term_variables c.args.scene.now.assignment.now.term.now = c.list-term_vars.ensures ∙ variables_same (set_has c.free_in_term.result) (λ v. term_has v c.args.scene.now.assignment.now.term.now) (λ v l. c.free_in_term.ensures v l) in
      keys_within c.args.d.now c.args.scene.now.window.lo c.args.scene.now.window.hi c.list-term_vars.result.now c.args.scene.now.assignment.now.depth c.args.scene.now.assignment.now.term.now (formula_view c.args.scene.now.assignment.now.body.now) same_vars _ _ (c.keys.key-index + 1) (length c.in_ok-keys.keys)
      (one_step c.args.reads.now c.keys.reads _ c.keys.key-index (reads_at_key c.args.d.now c.args.scene.now.window.lo c.args.scene.now.window.hi c.list-term_vars.result.now (formula_view c.args.scene.now.assignment.now.body.now)) c.keys.invariant.most c.in_err-rows.ensures.reads.most)
      (let l = c.keys-test.true in let e = ap length c.items-key-items.ensures in omega (arith, l, e)) c.in_ok-keys.ensures.count);
}

pub rows_of_assignment-returns-in_err-push_back-clause-reads : goal.rows_of_assignment-returns-in_err-push_back-clause-reads
rows_of_assignment-returns-in_err-push_back-clause-reads g t c = record {
  least = at_most_in_turn _ _ _ c.keys.invariant.least c.in_ok-rows.ensures.reads.least;
  most = (let same_vars : c.list-term_vars.result.now ≡ term_variables c.args.scene.now.assignment.now.term.now = c.list-term_vars.ensures ∙ variables_same (set_has c.free_in_term.result) (λ v. term_has v c.args.scene.now.assignment.now.term.now) (λ v l. c.free_in_term.ensures v l) in
      keys_within c.args.d.now c.args.scene.now.window.lo c.args.scene.now.window.hi c.list-term_vars.result.now c.args.scene.now.assignment.now.depth c.args.scene.now.assignment.now.term.now (formula_view c.args.scene.now.assignment.now.body.now) same_vars _ _ (c.keys.key-index + 1) (length c.in_ok-keys.keys)
      (one_step c.args.reads.now c.keys.reads _ c.keys.key-index (reads_at_key c.args.d.now c.args.scene.now.window.lo c.args.scene.now.window.hi c.list-term_vars.result.now (formula_view c.args.scene.now.assignment.now.body.now)) c.keys.invariant.most c.in_ok-rows.ensures.reads.most)
      (let l = c.keys-test.true in let e = ap length c.items-key-items.ensures in omega (arith, l, e)) c.in_ok-keys.ensures.count);
}

pub rows_of_assignment-returns-in_err-made-clause-reads : goal.rows_of_assignment-returns-in_err-made-clause-reads
rows_of_assignment-returns-in_err-made-clause-reads g t c = record {
  least = c.keys.invariant.least;
  most = (let same_vars : c.list-term_vars.result.now ≡ term_variables c.args.scene.now.assignment.now.term.now = c.list-term_vars.ensures ∙ variables_same (set_has c.free_in_term.result) (λ v. term_has v c.args.scene.now.assignment.now.term.now) (λ v l. c.free_in_term.ensures v l) in
      keys_within c.args.d.now c.args.scene.now.window.lo c.args.scene.now.window.hi c.list-term_vars.result.now c.args.scene.now.assignment.now.depth c.args.scene.now.assignment.now.term.now (formula_view c.args.scene.now.assignment.now.body.now) same_vars _ _ c.keys.key-index (length c.in_ok-keys.keys) c.keys.invariant.most
      (let l : c.keys.key-index ≤ length c.items-key-items.result.now = c.keys.auto.key-index-end in let e = ap length c.items-key-items.ensures in omega (arith, l, e)) c.in_ok-keys.ensures.count);
}

pub rows_of_assignment-returns-clause-reads : goal.rows_of_assignment-returns-clause-reads
rows_of_assignment-returns-clause-reads g t c = record {
  least = c.keys.invariant.least;
  most = (let same_vars : c.list-term_vars.result.now ≡ term_variables c.args.scene.now.assignment.now.term.now = c.list-term_vars.ensures ∙ variables_same (set_has c.free_in_term.result) (λ v. term_has v c.args.scene.now.assignment.now.term.now) (λ v l. c.free_in_term.ensures v l) in
      keys_within c.args.d.now c.args.scene.now.window.lo c.args.scene.now.window.hi c.list-term_vars.result.now c.args.scene.now.assignment.now.depth c.args.scene.now.assignment.now.term.now (formula_view c.args.scene.now.assignment.now.body.now) same_vars _ _ c.keys.key-index (length c.in_ok-keys.keys) c.keys.invariant.most
      (let l : c.keys.key-index ≤ length c.items-key-items.result.now = c.keys.auto.key-index-end in let e = ap length c.items-key-items.ensures in omega (arith, l, e)) c.in_ok-keys.ensures.count);
}

pub rows_of_assignment-keys-preserved : goal.rows_of_assignment-keys-preserved
rows_of_assignment-keys-preserved g t c = record {
  alike = more_alike (variables_in (set_has c.args.set)) c.args.d.now c.args.scene.now.window.lo c.args.scene.now.window.hi c.keys.parts.items c.push_back.new.self.items c.in_ok-rows.rows c.in_ok-push_back.ensures.items c.keys.invariant.alike
      (c.in_ok-rows.ensures.rows.vars ∙ sym (variables_same (set_has c.args.set) (λ v. has_variable v (assignment_view c.args.scene.now.assignment.now)) (λ v l. c.requires.set v l))) c.in_ok-rows.ensures.rows.frame;
  ticks = λ b is_in u.
      ap (λ (rs : (List (Table g.row.S.Denot))). some_part_has g.S.TickSet.member rs b u) c.in_ok-push_back.ensures.items
      ∙ key_more g.S.TickSet.member c.args.d.now c.args.scene.now.window.lo c.args.scene.now.window.hi c.list-term_vars.result.now (λ (b : ℕ → ℕ) (u : ℕ). sat (g.I.Interpreter.interpretation c.args.scene.now.source.now b) (assignment_view c.args.scene.now.assignment.now) c.args.scene.now.values.now c.args.scene.now.window.hi u) c.items-key-items.result.now (variables_of (assignment_view c.args.scene.now.assignment.now)) c.keys.key-index c.key-item.result c.keys.parts.items c.in_ok-rows.rows
      (omega (arith, c.keys-test.true)) c.key-item.is c.keys.invariant.ticks c.in_ok-rows.ensures.rows b is_in u;
  least = at_most_in_turn _ _ _ c.keys.invariant.least c.in_ok-rows.ensures.reads.least;
  most = one_step c.args.reads.now c.keys.reads _ c.keys.key-index (reads_at_key c.args.d.now c.args.scene.now.window.lo c.args.scene.now.window.hi c.list-term_vars.result.now (formula_view c.args.scene.now.assignment.now.body.now)) c.keys.invariant.most c.in_ok-rows.ensures.reads.most;
}

pub rows_of_assignment-united-requires-clause-alike : goal.rows_of_assignment-united-requires-clause-alike
rows_of_assignment-united-requires-clause-alike g t c = c.keys.invariant.alike

pub rows_of_assignment-united-requires-clause-known : goal.rows_of_assignment-united-requires-clause-known
rows_of_assignment-united-requires-clause-known g t c = λ v l h. c.requires.over v (sym (c.requires.set v l) ∙ h)

pub rows_of_assignment-returns-clause-rows : goal.rows_of_assignment-returns-clause-rows
rows_of_assignment-returns-clause-rows g t c =
    let are = subst (λ (ks : List (List ℕ)). AreKeys c.args.d.now c.list-term_vars.result.now ks) (sym c.items-key-items.ensures) c.in_ok-keys.ensures in
    let known = subst (λ (vs : List ℕ). are_known c.args.d.now vs ≡ true) (sym c.list-term_vars.ensures) (known_variables c.args.d.now (set_has c.free_in_term.result) (λ v l h. c.requires.over v (or_left (term_has v c.args.scene.now.assignment.now.term.now) (has_variable v (formula_view c.args.scene.now.assignment.now.body.now)) (sym (c.free_in_term.ensures v l) ∙ h)))) in
    record {
      ticks = λ b is_in u.
          c.in_ok-made.ensures.ticks b is_in u
          ∙ all_keys g.S.TickSet.member c.args.d.now c.args.scene.now.window.lo c.args.scene.now.window.hi c.list-term_vars.result.now (λ (b : ℕ → ℕ) (u : ℕ). sat (g.I.Interpreter.interpretation c.args.scene.now.source.now b) (assignment_view c.args.scene.now.assignment.now) c.args.scene.now.values.now c.args.scene.now.window.hi u) c.items-key-items.result.now c.keys.key-index c.keys.parts.items (omega (arith, c.keys-test.false)) are known c.keys.invariant.ticks b is_in u;
      vars = c.in_ok-made.ensures.vars ∙ variables_same (set_has c.args.set) (λ v. has_variable v (assignment_view c.args.scene.now.assignment.now)) (λ v l. c.requires.set v l);
      frame = c.in_ok-made.ensures.frame;
    }

pub rows_at_key-stretches_of-requires : goal.rows_at_key-stretches_of-requires
rows_at_key-stretches_of-requires g t c =
    let here : IsInFor c.args.d.now (λ v. term_has v c.args.scene.now.assignment.now.term.now) (slice_index c.binding_of-binding.result) =
    subst (λ (b : List ℕ). IsInFor c.args.d.now (λ v. term_has v c.args.scene.now.assignment.now.term.now) (slice_index b)) (sym c.binding_of-binding.ensures)
    (inside_at (λ v. term_has v c.args.scene.now.assignment.now.term.now) (λ v h. (let o = c.requires.over v (or_left (term_has v c.args.scene.now.assignment.now.term.now) (has_variable v (formula_view c.args.scene.now.assignment.now.body.now)) h) in omega (arith, o, c.len.ensures.count, c.len.ensures.few))) c.args.keyed.now.variables.now c.requires.vars c.args.d.now c.args.keyed.now.key.now c.requires.key) in
    (c.requires.can (slice_index c.binding_of-binding.result) here).0

pub rows_at_key-rows_of_runs-requires : goal.rows_at_key-rows_of_runs-requires
rows_at_key-rows_of_runs-requires g t c κs lives =
    let here : IsInFor c.args.d.now (λ v. term_has v c.args.scene.now.assignment.now.term.now) (slice_index c.binding_of-binding.result) =
    subst (λ (b : List ℕ). IsInFor c.args.d.now (λ v. term_has v c.args.scene.now.assignment.now.term.now) (slice_index b)) (sym c.binding_of-binding.ensures)
    (inside_at (λ v. term_has v c.args.scene.now.assignment.now.term.now) (λ v h. (let o = c.requires.over v (or_left (term_has v c.args.scene.now.assignment.now.term.now) (has_variable v (formula_view c.args.scene.now.assignment.now.body.now)) h) in omega (arith, o, c.len.ensures.count, c.len.ensures.few))) c.args.keyed.now.variables.now c.requires.vars c.args.d.now c.args.keyed.now.key.now c.requires.key) in
    let can = can_ask_each (g.I.Interpreter.interpretation c.args.scene.now.source.now) (g.I.Interpreter.atom_fits c.args.scene.now.source.now c.args.scene.now.window.lo c.args.scene.now.window.hi) (g.I.Interpreter.term_fits c.args.scene.now.source.now c.args.scene.now.window.lo c.args.scene.now.window.hi) c.args.scene.now.window.lo c.args.scene.now.window.hi (formula_uses_value c.args.scene.now.assignment.now.depth (formula_view c.args.scene.now.assignment.now.body.now)) c.in_ok-narrow.narrow c.args.d.now (narrowed_wider c.args.d.now c.args.keyed.now.variables.now c.args.keyed.now.key.now c.in_ok-narrow.narrow c.in_ok-narrow.ensures c.requires.key) c.args.scene.now.assignment.now.depth c.args.scene.now.assignment.now.term.now (formula_view c.args.scene.now.assignment.now.body.now) c.args.scene.now.values.now (slice_index c.binding_of-binding.result)
    (c.requires.can (slice_index c.binding_of-binding.result) here).1 c.in_ok-runs.runs.items c.in_ok-runs.ensures.runs.each in (
      omega (arith, c.decreases),
      (
        lives.0,
        (
          lives.1.0,
          (
            lives.1.1.0,
            (
              lives.1.1.1,
              (
                (λ v h. (let o = c.requires.over v (or_right (term_has v c.args.scene.now.assignment.now.term.now) (has_variable v (formula_view c.args.scene.now.assignment.now.body.now)) h) in let m = c.in_ok-narrow.ensures.many in omega (arith, o, m))),
                (
                  subst (λ (rs : List ValueRun). All (IsInWindow c.args.scene.now.window.lo c.args.scene.now.window.hi) rs) (sym c.deref.ensures.value) (runs_inside (formula_uses_value c.args.scene.now.assignment.now.depth (formula_view c.args.scene.now.assignment.now.body.now)) _ c.args.scene.now.window.lo c.args.scene.now.window.hi c.in_ok-runs.runs.items c.in_ok-runs.ensures.runs.each),
                  subst (λ (rs : List ValueRun). CanAskEach (g.I.Interpreter.interpretation c.args.scene.now.source.now) (g.I.Interpreter.atom_fits c.args.scene.now.source.now c.args.scene.now.window.lo c.args.scene.now.window.hi) (g.I.Interpreter.term_fits c.args.scene.now.source.now c.args.scene.now.window.lo c.args.scene.now.window.hi) c.in_ok-narrow.narrow c.args.scene.now.window.lo c.args.scene.now.window.hi c.args.scene.now.assignment.now.depth (formula_view c.args.scene.now.assignment.now.body.now) c.args.scene.now.values.now rs) (sym c.deref.ensures.value) can,
                ),
              ),
            ),
          ),
        ),
      ),
    )

pub rows_at_key-widen-requires : goal.rows_at_key-widen-requires
rows_at_key-widen-requires g t c =
    subst (λ (ds : List (List ℕ)). IsWider ds c.args.d.now) (sym (ap (λ (z : Frame). z.domains) c.in_ok-rows.ensures.rows.frame))
    (narrowed_wider c.args.d.now c.args.keyed.now.variables.now c.args.keyed.now.key.now c.in_ok-narrow.narrow c.in_ok-narrow.ensures c.requires.key)

pub rows_at_key-row_of_key-requires-clause-few : goal.rows_at_key-row_of_key-requires-clause-few
rows_at_key-row_of_key-requires-clause-few g t c = subst (λ (vs : List ℕ). length vs ≤ 4) (sym c.requires.vars) (few_variables (λ v. term_has v c.args.scene.now.assignment.now.term.now))

pub rows_at_key-row_of_key-requires-clause-known : goal.rows_at_key-row_of_key-requires-clause-known
rows_at_key-row_of_key-requires-clause-known g t c =
    subst (λ (vs : List ℕ). are_known c.args.d.now vs ≡ true) (sym c.requires.vars)
    (known_variables c.args.d.now (λ v. term_has v c.args.scene.now.assignment.now.term.now) (λ v l h. c.requires.over v (or_left (term_has v c.args.scene.now.assignment.now.term.now) (has_variable v (formula_view c.args.scene.now.assignment.now.body.now)) h)))

pub rows_at_key-row_of_key-requires-clause-distinct : goal.rows_at_key-row_of_key-requires-clause-distinct
rows_at_key-row_of_key-requires-clause-distinct g t c = subst (λ (vs : List ℕ). are_distinct vs ≡ true) (sym c.requires.vars) (distinct_variables (λ v. term_has v c.args.scene.now.assignment.now.term.now))

pub rows_at_key-row_of_key-requires-clause-inside : goal.rows_at_key-row_of_key-requires-clause-inside
rows_at_key-row_of_key-requires-clause-inside g t c = c.requires.key

pub rows_at_key-join-requires-clause-frame : goal.rows_at_key-join-requires-clause-frame
rows_at_key-join-requires-clause-frame g t c =
    wide_frame c.in_ok-rows.rows c.in_ok-rows-2.rows c.in_ok-narrow.narrow c.args.d.now c.args.scene.now.window.lo c.args.scene.now.window.hi c.in_ok-rows.ensures.rows.frame c.in_ok-rows-2.ensures.head ∙ sym c.in_ok-own.ensures.frame

pub rows_at_key-join-requires-clause-left : goal.rows_at_key-join-requires-clause-left
rows_at_key-join-requires-clause-left g t c =
    subst (λ (vs : List ℕ). IsStrictlyIncreasing vs) (sym (c.in_ok-own.ensures.vars ∙ c.requires.vars)) (ascending_variables (λ v. term_has v c.args.scene.now.assignment.now.term.now))

pub rows_at_key-join-requires-clause-right : goal.rows_at_key-join-requires-clause-right
rows_at_key-join-requires-clause-right g t c =
    subst (λ (vs : List ℕ). IsStrictlyIncreasing vs) (sym (c.in_ok-rows-2.ensures.head.vars ∙ c.in_ok-rows.ensures.rows.vars)) (ascending_variables (λ v. has_variable v (formula_view c.args.scene.now.assignment.now.body.now)))

pub rows_at_key-returns-clause-rows : goal.rows_at_key-returns-clause-rows
rows_at_key-returns-clause-rows g t c = rows_at_key g.S.TickSet.member (g.I.Interpreter.interpretation c.args.scene.now.source.now) c.args.d.now c.args.scene.now.window.lo c.args.scene.now.window.hi c.args.scene.now.assignment.now.depth c.args.scene.now.assignment.now.term.now (formula_view c.args.scene.now.assignment.now.body.now) c.args.scene.now.values.now
    (λ p r e u. g.met.I.Interpreter.term_sees c.args.scene.now.source.now p r c.args.scene.now.assignment.now.term.now e c.args.scene.now.values.now u)
    (λ none b v w u. sat_unnamed (g.I.Interpreter.interpretation c.args.scene.now.source.now b) (λ a x y same r. g.met.I.Interpreter.atom_sees_values c.args.scene.now.source.now b a x y same r) (λ q x y same r. g.met.I.Interpreter.term_sees_values c.args.scene.now.source.now b q x y same r)
    c.args.scene.now.assignment.now.depth (formula_view c.args.scene.now.assignment.now.body.now) none c.args.scene.now.values.now v w c.args.scene.now.window.hi u)
    (λ v h. (let o = c.requires.over v (or_left (term_has v c.args.scene.now.assignment.now.term.now) (has_variable v (formula_view c.args.scene.now.assignment.now.body.now)) h) in omega (arith, o, c.len.ensures.count, c.len.ensures.few))) c.args.keyed.now.variables.now c.requires.vars c.args.keyed.now.key.now c.in_ok-narrow.narrow c.in_ok-runs.runs.items c.in_ok-rows.rows c.in_ok-rows-2.rows c.in_ok-own.own c.in_ok-made.made c.in_ok-narrow.ensures
    (subst (λ (b : List ℕ). AreStretches (formula_uses_value c.args.scene.now.assignment.now.depth (formula_view c.args.scene.now.assignment.now.body.now)) ((g.I.Interpreter.interpretation c.args.scene.now.source.now (slice_index b)).term c.args.scene.now.assignment.now.term.now c.args.scene.now.values.now) c.args.scene.now.window.lo (c.args.scene.now.window.hi + 1) c.in_ok-runs.runs.items) c.binding_of-binding.ensures c.in_ok-runs.ensures.runs)
    (subst (λ (rs : List ValueRun). AreRowsWhere g.S.TickSet.member c.in_ok-narrow.narrow c.args.scene.now.window.lo c.args.scene.now.window.hi (variables_of (formula_view c.args.scene.now.assignment.now.body.now)) (run_holds (g.I.Interpreter.interpretation c.args.scene.now.source.now) c.args.scene.now.assignment.now.depth (formula_view c.args.scene.now.assignment.now.body.now) c.args.scene.now.values.now c.args.scene.now.window.hi rs) c.in_ok-rows.rows) c.deref.ensures.value c.in_ok-rows.ensures.rows)
    c.in_ok-rows-2.ensures.ticks c.in_ok-rows-2.ensures.head.vars c.in_ok-own.ensures c.in_ok-made.ensures.ticks c.in_ok-made.ensures.vars c.in_ok-made.ensures.frame

pub rows_at_key-returns-in_err-runs-clause-reads : goal.rows_at_key-returns-in_err-runs-clause-reads
rows_at_key-returns-in_err-runs-clause-reads g t c = record {
  least = c.in_err-runs.ensures.reads.least;
  most = term_within c.args.d.now c.args.scene.now.window.lo c.args.scene.now.window.hi c.args.keyed.now.variables.now c.args.scene.now.assignment.now.term.now (formula_view c.args.scene.now.assignment.now.body.now) c.requires.vars _ _ c.in_err-runs.ensures.reads.most;
}

pub rows_at_key-returns-in_err-narrow-clause-reads : goal.rows_at_key-returns-in_err-narrow-clause-reads
rows_at_key-returns-in_err-narrow-clause-reads g t c = record {
  least = c.in_ok-runs.ensures.reads.least;
  most = term_within c.args.d.now c.args.scene.now.window.lo c.args.scene.now.window.hi c.args.keyed.now.variables.now c.args.scene.now.assignment.now.term.now (formula_view c.args.scene.now.assignment.now.body.now) c.requires.vars _ _ c.in_ok-runs.ensures.reads.most;
}

pub rows_at_key-returns-in_err-rows-clause-reads : goal.rows_at_key-returns-in_err-rows-clause-reads
rows_at_key-returns-in_err-rows-clause-reads g t c = record {
  least = at_most_in_turn _ _ _ c.in_ok-runs.ensures.reads.least c.in_err-rows.ensures.reads.least;
  most = (key_within c.args.d.now c.in_ok-narrow.narrow c.args.scene.now.window.lo c.args.scene.now.window.hi c.args.keyed.now.variables.now c.args.scene.now.assignment.now.term.now (formula_view c.args.scene.now.assignment.now.body.now) c.requires.vars
      (narrowed_sizes c.args.d.now c.args.keyed.now.variables.now c.args.keyed.now.key.now c.in_ok-narrow.narrow c.in_ok-narrow.ensures c.requires.key (subst (λ (vs : List ℕ). are_known c.args.d.now vs ≡ true) (sym c.requires.vars) (known_variables c.args.d.now (λ v. term_has v c.args.scene.now.assignment.now.term.now) (λ v l h. c.requires.over v (or_left (term_has v c.args.scene.now.assignment.now.term.now) (has_variable v (formula_view c.args.scene.now.assignment.now.body.now)) h)))))
      _ _ _ (length c.deref.result.now) c.in_ok-runs.ensures.reads.most
      (subst (λ (rs : List ValueRun). length rs ≤ c.args.scene.now.window.hi + 1 - c.args.scene.now.window.lo) (sym c.deref.ensures.value) c.in_ok-runs.ensures.runs.few) c.in_err-rows.ensures.reads.most);
}

pub rows_at_key-returns-in_err-rows-2-clause-reads : goal.rows_at_key-returns-in_err-rows-2-clause-reads
rows_at_key-returns-in_err-rows-2-clause-reads g t c = record {
  least = at_most_in_turn _ _ _ c.in_ok-runs.ensures.reads.least c.in_ok-rows.ensures.reads.least;
  most = (key_within c.args.d.now c.in_ok-narrow.narrow c.args.scene.now.window.lo c.args.scene.now.window.hi c.args.keyed.now.variables.now c.args.scene.now.assignment.now.term.now (formula_view c.args.scene.now.assignment.now.body.now) c.requires.vars
      (narrowed_sizes c.args.d.now c.args.keyed.now.variables.now c.args.keyed.now.key.now c.in_ok-narrow.narrow c.in_ok-narrow.ensures c.requires.key (subst (λ (vs : List ℕ). are_known c.args.d.now vs ≡ true) (sym c.requires.vars) (known_variables c.args.d.now (λ v. term_has v c.args.scene.now.assignment.now.term.now) (λ v l h. c.requires.over v (or_left (term_has v c.args.scene.now.assignment.now.term.now) (has_variable v (formula_view c.args.scene.now.assignment.now.body.now)) h)))))
      _ _ _ (length c.deref.result.now) c.in_ok-runs.ensures.reads.most
      (subst (λ (rs : List ValueRun). length rs ≤ c.args.scene.now.window.hi + 1 - c.args.scene.now.window.lo) (sym c.deref.ensures.value) c.in_ok-runs.ensures.runs.few) c.in_ok-rows.ensures.reads.most);
}

pub rows_at_key-returns-in_err-own-clause-reads : goal.rows_at_key-returns-in_err-own-clause-reads
rows_at_key-returns-in_err-own-clause-reads g t c = record {
  least = at_most_in_turn _ _ _ c.in_ok-runs.ensures.reads.least c.in_ok-rows.ensures.reads.least;
  most = (key_within c.args.d.now c.in_ok-narrow.narrow c.args.scene.now.window.lo c.args.scene.now.window.hi c.args.keyed.now.variables.now c.args.scene.now.assignment.now.term.now (formula_view c.args.scene.now.assignment.now.body.now) c.requires.vars
      (narrowed_sizes c.args.d.now c.args.keyed.now.variables.now c.args.keyed.now.key.now c.in_ok-narrow.narrow c.in_ok-narrow.ensures c.requires.key (subst (λ (vs : List ℕ). are_known c.args.d.now vs ≡ true) (sym c.requires.vars) (known_variables c.args.d.now (λ v. term_has v c.args.scene.now.assignment.now.term.now) (λ v l h. c.requires.over v (or_left (term_has v c.args.scene.now.assignment.now.term.now) (has_variable v (formula_view c.args.scene.now.assignment.now.body.now)) h)))))
      _ _ _ (length c.deref.result.now) c.in_ok-runs.ensures.reads.most
      (subst (λ (rs : List ValueRun). length rs ≤ c.args.scene.now.window.hi + 1 - c.args.scene.now.window.lo) (sym c.deref.ensures.value) c.in_ok-runs.ensures.runs.few) c.in_ok-rows.ensures.reads.most);
}

pub rows_at_key-returns-in_err-made-clause-reads : goal.rows_at_key-returns-in_err-made-clause-reads
rows_at_key-returns-in_err-made-clause-reads g t c = record {
  least = at_most_in_turn _ _ _ c.in_ok-runs.ensures.reads.least c.in_ok-rows.ensures.reads.least;
  most = (key_within c.args.d.now c.in_ok-narrow.narrow c.args.scene.now.window.lo c.args.scene.now.window.hi c.args.keyed.now.variables.now c.args.scene.now.assignment.now.term.now (formula_view c.args.scene.now.assignment.now.body.now) c.requires.vars
      (narrowed_sizes c.args.d.now c.args.keyed.now.variables.now c.args.keyed.now.key.now c.in_ok-narrow.narrow c.in_ok-narrow.ensures c.requires.key (subst (λ (vs : List ℕ). are_known c.args.d.now vs ≡ true) (sym c.requires.vars) (known_variables c.args.d.now (λ v. term_has v c.args.scene.now.assignment.now.term.now) (λ v l h. c.requires.over v (or_left (term_has v c.args.scene.now.assignment.now.term.now) (has_variable v (formula_view c.args.scene.now.assignment.now.body.now)) h)))))
      _ _ _ (length c.deref.result.now) c.in_ok-runs.ensures.reads.most
      (subst (λ (rs : List ValueRun). length rs ≤ c.args.scene.now.window.hi + 1 - c.args.scene.now.window.lo) (sym c.deref.ensures.value) c.in_ok-runs.ensures.runs.few) c.in_ok-rows.ensures.reads.most);
}

pub rows_at_key-returns-clause-reads : goal.rows_at_key-returns-clause-reads
rows_at_key-returns-clause-reads g t c = record {
  least = at_most_in_turn _ _ _ c.in_ok-runs.ensures.reads.least c.in_ok-rows.ensures.reads.least;
  most = (key_within c.args.d.now c.in_ok-narrow.narrow c.args.scene.now.window.lo c.args.scene.now.window.hi c.args.keyed.now.variables.now c.args.scene.now.assignment.now.term.now (formula_view c.args.scene.now.assignment.now.body.now) c.requires.vars
      (narrowed_sizes c.args.d.now c.args.keyed.now.variables.now c.args.keyed.now.key.now c.in_ok-narrow.narrow c.in_ok-narrow.ensures c.requires.key (subst (λ (vs : List ℕ). are_known c.args.d.now vs ≡ true) (sym c.requires.vars) (known_variables c.args.d.now (λ v. term_has v c.args.scene.now.assignment.now.term.now) (λ v l h. c.requires.over v (or_left (term_has v c.args.scene.now.assignment.now.term.now) (has_variable v (formula_view c.args.scene.now.assignment.now.body.now)) h)))))
      _ _ _ (length c.deref.result.now) c.in_ok-runs.ensures.reads.most
      (subst (λ (rs : List ValueRun). length rs ≤ c.args.scene.now.window.hi + 1 - c.args.scene.now.window.lo) (sym c.deref.ensures.value) c.in_ok-runs.ensures.runs.few) c.in_ok-rows.ensures.reads.most);
}

pub rows_of_runs-runs-init : goal.rows_of_runs-runs-init
rows_of_runs-runs-init g t c = record {
  alike = none_alike (variables_of (formula_view c.args.scene.now.assignment.now.body.now)) c.args.d.now c.args.scene.now.window.lo c.args.scene.now.window.hi c.new-parts.result.items c.new-parts.ensures.items;
  ticks = λ b is_in u. ap (λ (rs : (List (Table g.row.S.Denot))). some_part_has g.S.TickSet.member rs b u) c.new-parts.ensures.items ∙ false_is_and (within c.args.scene.now.window.lo c.args.scene.now.window.hi u);
  least = omega arith;
  most = omega arith;
}

pub rows_of_runs-rows_of_section-requires : goal.rows_of_runs-rows_of_section-requires
rows_of_runs-rows_of_section-requires g t c κs lives = (
  omega (arith, c.decreases),
  (
    lives.0,
    (
      lives.1.0,
      (
        lives.1.1.0,
        (
          lives.1.1.1,
          (
            c.requires.over,
            subst (λ (x : Env). CanAsk (g.I.Interpreter.interpretation c.args.scene.now.source.now) (g.I.Interpreter.atom_fits c.args.scene.now.source.now c.args.scene.now.window.lo c.args.scene.now.window.hi) (g.I.Interpreter.term_fits c.args.scene.now.source.now c.args.scene.now.window.lo c.args.scene.now.window.hi) c.args.d.now c.args.scene.now.window.lo c.args.scene.now.window.hi (formula_view c.args.scene.now.assignment.now.body.now) x) (sym c.with-bound.ensures)
                (can_ask_item (g.I.Interpreter.interpretation c.args.scene.now.source.now) (g.I.Interpreter.atom_fits c.args.scene.now.source.now c.args.scene.now.window.lo c.args.scene.now.window.hi) (g.I.Interpreter.term_fits c.args.scene.now.source.now c.args.scene.now.window.lo c.args.scene.now.window.hi) c.args.scene.now.window.lo c.args.scene.now.window.hi c.args.d.now c.args.scene.now.assignment.now.depth (formula_view c.args.scene.now.assignment.now.body.now) c.args.scene.now.values.now c.args.runs.now c.runs.run-index c.run-item.result (omega (arith, c.runs-test.true)) c.run-item.is c.requires.can),
          ),
        ),
      ),
    ),
  ),
)

pub rows_of_runs-returns-in_err-part-clause-reads : goal.rows_of_runs-returns-in_err-part-clause-reads
rows_of_runs-returns-in_err-part-clause-reads g t c = record {
  least = at_most_in_turn _ _ _ c.runs.invariant.least c.in_err-part.ensures.reads.least;
  most = (steps_within c.args.reads.now _ (c.runs.run-index + 1) (length c.args.runs.now) (reads_upto c.args.d.now c.args.scene.now.window.lo c.args.scene.now.window.hi (formula_view c.args.scene.now.assignment.now.body.now))
      (one_step c.args.reads.now c.runs.reads _ c.runs.run-index (reads_upto c.args.d.now c.args.scene.now.window.lo c.args.scene.now.window.hi (formula_view c.args.scene.now.assignment.now.body.now)) c.runs.invariant.most c.in_err-part.ensures.reads.most) (omega (arith, c.runs-test.true)));
}

pub rows_of_runs-returns-in_err-push_back-clause-reads : goal.rows_of_runs-returns-in_err-push_back-clause-reads
rows_of_runs-returns-in_err-push_back-clause-reads g t c = record {
  least = at_most_in_turn _ _ _ c.runs.invariant.least c.in_ok-part.ensures.reads.least;
  most = (steps_within c.args.reads.now _ (c.runs.run-index + 1) (length c.args.runs.now) (reads_upto c.args.d.now c.args.scene.now.window.lo c.args.scene.now.window.hi (formula_view c.args.scene.now.assignment.now.body.now))
      (one_step c.args.reads.now c.runs.reads _ c.runs.run-index (reads_upto c.args.d.now c.args.scene.now.window.lo c.args.scene.now.window.hi (formula_view c.args.scene.now.assignment.now.body.now)) c.runs.invariant.most c.in_ok-part.ensures.reads.most) (omega (arith, c.runs-test.true)));
}

pub rows_of_runs-returns-in_err-made-clause-reads : goal.rows_of_runs-returns-in_err-made-clause-reads
rows_of_runs-returns-in_err-made-clause-reads g t c = record {
  least = c.runs.invariant.least;
  most = steps_within c.args.reads.now c.runs.reads c.runs.run-index (length c.args.runs.now) (reads_upto c.args.d.now c.args.scene.now.window.lo c.args.scene.now.window.hi (formula_view c.args.scene.now.assignment.now.body.now)) c.runs.invariant.most c.runs.auto.run-index-end;
}

pub rows_of_runs-returns-clause-reads : goal.rows_of_runs-returns-clause-reads
rows_of_runs-returns-clause-reads g t c = record {
  least = c.runs.invariant.least;
  most = steps_within c.args.reads.now c.runs.reads c.runs.run-index (length c.args.runs.now) (reads_upto c.args.d.now c.args.scene.now.window.lo c.args.scene.now.window.hi (formula_view c.args.scene.now.assignment.now.body.now)) c.runs.invariant.most c.runs.auto.run-index-end;
}

pub rows_of_runs-runs-preserved : goal.rows_of_runs-runs-preserved
rows_of_runs-runs-preserved g t c = record {
  alike = more_alike (variables_of (formula_view c.args.scene.now.assignment.now.body.now)) c.args.d.now c.args.scene.now.window.lo c.args.scene.now.window.hi c.runs.parts.items c.push_back.new.self.items c.in_ok-part.part c.in_ok-push_back.ensures.items c.runs.invariant.alike
      c.in_ok-part.ensures.rows.vars c.in_ok-part.ensures.rows.frame;
  ticks = λ b is_in u.
      ap (λ (rs : (List (Table g.row.S.Denot))). some_part_has g.S.TickSet.member rs b u) c.in_ok-push_back.ensures.items
      ∙ run_more g.S.TickSet.member (g.I.Interpreter.interpretation c.args.scene.now.source.now) c.args.d.now c.args.scene.now.window.lo c.args.scene.now.window.hi c.args.scene.now.assignment.now.depth (formula_view c.args.scene.now.assignment.now.body.now) c.args.scene.now.values.now c.args.runs.now c.runs.run-index c.run-item.result c.runs.parts.items c.in_ok-part.part
      (omega (arith, c.runs-test.true)) c.run-item.is c.runs.invariant.ticks
      (subst (λ (x : Env). AreRowsWhere g.S.TickSet.member c.args.d.now c.args.scene.now.window.lo c.args.scene.now.window.hi (variables_of (formula_view c.args.scene.now.assignment.now.body.now)) (λ p r. within c.run-item.result.span.lo c.run-item.result.span.hi r && sat (g.I.Interpreter.interpretation c.args.scene.now.source.now p) (formula_view c.args.scene.now.assignment.now.body.now) x c.args.scene.now.window.hi r) c.in_ok-part.part) c.with-bound.ensures c.in_ok-part.ensures.rows)
      b is_in u;
  least = at_most_in_turn _ _ _ c.runs.invariant.least c.in_ok-part.ensures.reads.least;
  most = one_step c.args.reads.now c.runs.reads _ c.runs.run-index (reads_upto c.args.d.now c.args.scene.now.window.lo c.args.scene.now.window.hi (formula_view c.args.scene.now.assignment.now.body.now)) c.runs.invariant.most c.in_ok-part.ensures.reads.most;
}

pub rows_of_runs-united-requires-clause-alike : goal.rows_of_runs-united-requires-clause-alike
rows_of_runs-united-requires-clause-alike g t c =
    subst (λ (vs : List ℕ). ShareFrame vs c.args.d.now c.args.scene.now.window.lo c.args.scene.now.window.hi c.runs.parts.items) (sym (variables_same (set_has c.free.result) (λ v. has_variable v (formula_view c.args.scene.now.assignment.now.body.now)) (λ v l. c.free.ensures v l))) c.runs.invariant.alike

pub rows_of_runs-united-requires-clause-known : goal.rows_of_runs-united-requires-clause-known
rows_of_runs-united-requires-clause-known g t c = λ v l h. c.requires.over v (sym (c.free.ensures v l) ∙ h)

pub rows_of_runs-returns-clause-rows : goal.rows_of_runs-returns-clause-rows
rows_of_runs-returns-clause-rows g t c = record {
  ticks = λ b is_in u.
      c.in_ok-made.ensures.ticks b is_in u
      ∙ c.runs.invariant.ticks b is_in u
      ∙ ap (λ (rs : List ValueRun). within c.args.scene.now.window.lo c.args.scene.now.window.hi u && run_holds (g.I.Interpreter.interpretation c.args.scene.now.source.now) c.args.scene.now.assignment.now.depth (formula_view c.args.scene.now.assignment.now.body.now) c.args.scene.now.values.now c.args.scene.now.window.hi rs b u) (take_all c.runs.run-index c.args.runs.now (omega (arith, c.runs-test.false)));
  vars = c.in_ok-made.ensures.vars ∙ variables_same (set_has c.free.result) (λ v. has_variable v (formula_view c.args.scene.now.assignment.now.body.now)) (λ v l. c.free.ensures v l);
  frame = c.in_ok-made.ensures.frame;
}

pub rows_of_section-rows_of-requires : goal.rows_of_section-rows_of-requires
rows_of_section-rows_of-requires g t c κs lives = (
  omega (arith, c.decreases),
  (
    lives.0,
    (
      lives.1.0,
      (
        lives.1.1.0,
        (
          lives.1.1.1,
          (
            c.requires.over,
            can_ask_fewer (g.I.Interpreter.interpretation c.args.part.now.source.now)
                (g.I.Interpreter.atom_fits c.args.part.now.source.now c.args.part.now.section.window.lo c.args.part.now.section.window.hi) (g.I.Interpreter.atom_fits c.args.part.now.source.now c.seen_by-w.result.lo c.seen_by-w.result.hi)
                (g.I.Interpreter.term_fits c.args.part.now.source.now c.args.part.now.section.window.lo c.args.part.now.section.window.hi) (g.I.Interpreter.term_fits c.args.part.now.source.now c.seen_by-w.result.lo c.seen_by-w.result.hi)
                c.args.part.now.section.window.lo c.args.part.now.section.window.hi c.seen_by-w.result.lo c.seen_by-w.result.hi
                (seen_from c.args.part.now.section.window.lo c.args.part.now.section.span.lo c.seen_by-w.result.lo c.args.part.now.section.begins c.seen_by-w.ensures.lo)
                (seen_upto (reach (formula_view c.args.part.now.formula.now)) c.args.part.now.section.span.hi c.args.part.now.section.window.hi c.seen_by-w.result.hi c.args.part.now.section.ends c.seen_by-w.ensures.hi)
                (λ b a x can. g.met.I.Interpreter.atom_narrows c.args.part.now.source.now _ _ _ _ (seen_from c.args.part.now.section.window.lo c.args.part.now.section.span.lo c.seen_by-w.result.lo c.args.part.now.section.begins c.seen_by-w.ensures.lo) (seen_upto (reach (formula_view c.args.part.now.formula.now)) c.args.part.now.section.span.hi c.args.part.now.section.window.hi c.seen_by-w.result.hi c.args.part.now.section.ends c.seen_by-w.ensures.hi) b a x can)
                (λ b q x can. g.met.I.Interpreter.term_narrows c.args.part.now.source.now _ _ _ _ (seen_from c.args.part.now.section.window.lo c.args.part.now.section.span.lo c.seen_by-w.result.lo c.args.part.now.section.begins c.seen_by-w.ensures.lo) (seen_upto (reach (formula_view c.args.part.now.formula.now)) c.args.part.now.section.span.hi c.args.part.now.section.window.hi c.seen_by-w.result.hi c.args.part.now.section.ends c.seen_by-w.ensures.hi) b q x can)
                c.args.d.now (formula_view c.args.part.now.formula.now) c.args.part.now.values.now c.requires.can,
          ),
        ),
      ),
    ),
  ),
)

pub rows_of_section-rows_at-requires : goal.rows_of_section-rows_at-requires
rows_of_section-rows_at-requires g t c = ap (λ (z : Frame). z.domains) c.in_ok-rows.ensures.rows.frame

pub rows_of_section-returns-in_err-rows-clause-reads : goal.rows_of_section-returns-in_err-rows-clause-reads
rows_of_section-returns-in_err-rows-clause-reads g t c = record {
  least = c.in_err-rows.ensures.reads.least;
  most = most_seen _ _ _ _ (section_reads (domain_size c.args.d.now) (formula_view c.args.part.now.formula.now) c.args.part.now.section.window.lo c.args.part.now.section.window.hi c.args.part.now.section.span.lo c.args.part.now.section.span.hi c.seen_by-w.result.lo c.seen_by-w.result.hi c.args.part.now.section.begins c.args.part.now.section.ends c.seen_by-w.ensures.lo c.seen_by-w.ensures.hi) c.in_err-rows.ensures.reads.most;
}

pub rows_of_section-returns-in_err-made-clause-reads : goal.rows_of_section-returns-in_err-made-clause-reads
rows_of_section-returns-in_err-made-clause-reads g t c = record {
  least = c.in_ok-rows.ensures.reads.least;
  most = most_seen _ _ _ _ (section_reads (domain_size c.args.d.now) (formula_view c.args.part.now.formula.now) c.args.part.now.section.window.lo c.args.part.now.section.window.hi c.args.part.now.section.span.lo c.args.part.now.section.span.hi c.seen_by-w.result.lo c.seen_by-w.result.hi c.args.part.now.section.begins c.args.part.now.section.ends c.seen_by-w.ensures.lo c.seen_by-w.ensures.hi) c.in_ok-rows.ensures.reads.most;
}

pub rows_of_section-returns-clause-reads : goal.rows_of_section-returns-clause-reads
rows_of_section-returns-clause-reads g t c = record {
  least = c.in_ok-rows.ensures.reads.least;
  most = most_seen _ _ _ _ (section_reads (domain_size c.args.d.now) (formula_view c.args.part.now.formula.now) c.args.part.now.section.window.lo c.args.part.now.section.window.hi c.args.part.now.section.span.lo c.args.part.now.section.span.hi c.seen_by-w.result.lo c.seen_by-w.result.hi c.args.part.now.section.begins c.args.part.now.section.ends c.seen_by-w.ensures.lo c.seen_by-w.ensures.hi) c.in_ok-rows.ensures.reads.most;
}

pub rows_of_section-returns-clause-rows : goal.rows_of_section-returns-clause-rows
rows_of_section-returns-clause-rows g t c =
    section_rows g.S.TickSet.member (g.I.Interpreter.interpretation c.args.part.now.source.now) c.args.d.now (formula_view c.args.part.now.formula.now) c.args.part.now.values.now
    c.args.part.now.section.span.lo c.args.part.now.section.span.hi c.seen_by-w.result.lo c.seen_by-w.result.hi c.args.part.now.section.window.lo c.args.part.now.section.window.hi
    c.args.part.now.section.ends c.args.part.now.section.begins c.seen_by-w.ensures.lo c.seen_by-w.ensures.hi c.in_ok-rows.rows c.in_ok-made.made
    c.in_ok-rows.ensures.rows c.in_ok-made.ensures.ticks c.in_ok-made.ensures.vars c.in_ok-made.ensures.frame
