use Rattle.std.proofs.Common.{◌≡◌, ◌+◌, ◌-◌, ◌≤◌, ◌&&◌, List, length, slice_index, ap, subst, arith, ◌∙◌, sym}
use Rattle.std.specs.Prelude.{All}
use Rattle.tick_set.specs.Ticks.{within}
use Rattle.formula_shape.specs.Sizes.{nodes}
use Rattle.formula.specs.declared.value.Env.{Env}
use Rattle.formula.specs.Reach.{reach}
use Rattle.formula.specs.Tree.{ResolvedTree, formula_view}
use Rattle.meaning.specs.Reads.{atom_variables}
use Rattle.meaning.specs.Satisfaction.{sat}
use Rattle.interpreting.specs.declared.value_run.ValueRun.{ValueRun}
use Rattle.evaluator.specs.declared.node.Pairing.TheVariants as pairings
use Rattle.interpreting.specs.Names.{formula_uses_value}
use Rattle.evaluator.specs.Stretched.{AreStretches, IsStretch}
use Rattle.evaluator.proofs.NamedLemmas.{sat_unnamed}
use Rattle.evaluator.specs.inner.ByBinding.{AreTicksOf, CanAskHere, any_member, reads_here}
use Rattle.evaluator.specs.inner.Nodes.{changed_tree, paired_tree}
use Rattle.evaluator.proofs.LoopLemmas.{most_both, most_first, most_same}
use Rattle.evaluator.proofs.NodeLemmas.{changed_can, changed_nodes, changed_reads, paired_can, paired_nodes, paired_reads}
use Rattle.evaluator.proofs.ReadLemmas.{one_step}
use Rattle.evaluator.proofs.SeenLemmas.{can_here_fewer, most_seen, section_alike, section_reads, seen_from, seen_upto}
use Rattle.evaluator.proofs.TickLemmas.{can_ask_by, lies, one_ticks, reads_of_atom, run_added, run_within, runs_done, runs_here, no_goal, term_here, two_ticks}
use Rattle.evaluator.proofs.ticks.+ticks.Goals as goal
use Rattle.exact.proofs.Truths.{false_is_and}
use Rattle.exact.proofs.Naturals.{at_most_in_turn}

pub ticks_of-returns-in_ok-made-in-Truth-clause-ticks : goal.ticks_of-returns-in_ok-made-in-Truth-clause-ticks
ticks_of-returns-in_ok-made-in-Truth-clause-ticks g t c =
    subst (λ (z : ResolvedTree). AreTicksOf g.S.TickSet.member (g.I.Interpreter.interpretation c.args.here.now.source.now (slice_index c.args.here.now.binding.now)) c.args.w.lo c.args.w.hi z c.args.here.now.values.now c.in_ok-made-in-Truth.made) c.in-Truth.ensures c.in_ok-made-in-Truth.ensures

pub ticks_of-atom-requires : goal.ticks_of-atom-requires
ticks_of-atom-requires g t c =
    subst (λ (z : ResolvedTree). CanAskHere (g.I.Interpreter.interpretation c.args.here.now.source.now (slice_index c.args.here.now.binding.now)) (g.I.Interpreter.atom_fits c.args.here.now.source.now c.args.w.lo c.args.w.hi (slice_index c.args.here.now.binding.now)) (g.I.Interpreter.term_fits c.args.here.now.source.now c.args.w.lo c.args.w.hi (slice_index c.args.here.now.binding.now)) c.args.w.lo c.args.w.hi z c.args.here.now.values.now) (sym c.in-Atom.ensures) c.requires

pub ticks_of-returns-in_ok-made-in-Atom-clause-ticks : goal.ticks_of-returns-in_ok-made-in-Atom-clause-ticks
ticks_of-returns-in_ok-made-in-Atom-clause-ticks g t c =
    subst (λ (z : ResolvedTree). AreTicksOf g.S.TickSet.member (g.I.Interpreter.interpretation c.args.here.now.source.now (slice_index c.args.here.now.binding.now)) c.args.w.lo c.args.w.hi z c.args.here.now.values.now c.in_ok-made-in-Atom.made) c.in-Atom.ensures c.in_ok-made-in-Atom.ensures.ticks

pub ticks_of-returns-in_err-made-in-Atom-clause-reads : goal.ticks_of-returns-in_err-made-in-Atom-clause-reads
ticks_of-returns-in_err-made-in-Atom-clause-reads g t c = record {
  least = c.in_err-made-in-Atom.ensures.reads.least;
  most = most_same _ _ (reads_here c.args.w.lo c.args.w.hi (formula_view c.args.f.now)) (length (atom_variables c.in-Atom.atom.now)) (ap (reads_here c.args.w.lo c.args.w.hi) (sym c.in-Atom.ensures) ∙ reads_of_atom c.args.w.lo c.args.w.hi c.in-Atom.atom.now) c.in_err-made-in-Atom.ensures.reads.most;
}

pub ticks_of-returns-in_ok-made-in-Atom-clause-reads : goal.ticks_of-returns-in_ok-made-in-Atom-clause-reads
ticks_of-returns-in_ok-made-in-Atom-clause-reads g t c = record {
  least = c.in_ok-made-in-Atom.ensures.reads.least;
  most = most_same _ _ (reads_here c.args.w.lo c.args.w.hi (formula_view c.args.f.now)) (length (atom_variables c.in-Atom.atom.now)) (ap (reads_here c.args.w.lo c.args.w.hi) (sym c.in-Atom.ensures) ∙ reads_of_atom c.args.w.lo c.args.w.hi c.in-Atom.atom.now) c.in_ok-made-in-Atom.ensures.reads.most;
}

pub ticks_of-ticks_of-requires : goal.ticks_of-ticks_of-requires
ticks_of-ticks_of-requires g t c κs lives =
    let tree : formula_view c.args.f.now ≡ changed_tree c.in-One.change (formula_view c.in-One.part.now) = sym c.in-One.ensures in
    let size : nodes (formula_view c.args.f.now) ≡ nodes (formula_view c.in-One.part.now) + 1 = ap nodes tree ∙ changed_nodes c.in-One.change (formula_view c.in-One.part.now) in (
      omega (arith, c.decreases, size),
      (lives.0, (lives.1.0, (lives.1.1.0, (lives.1.1.1, changed_can (g.I.Interpreter.interpretation c.args.here.now.source.now (slice_index c.args.here.now.binding.now)) (g.I.Interpreter.atom_fits c.args.here.now.source.now c.args.w.lo c.args.w.hi (slice_index c.args.here.now.binding.now)) (g.I.Interpreter.term_fits c.args.here.now.source.now c.args.w.lo c.args.w.hi (slice_index c.args.here.now.binding.now)) c.args.w.lo c.args.w.hi c.args.here.now.values.now c.in-One.change (formula_view c.in-One.part.now) (subst (λ (z : ResolvedTree). CanAskHere (g.I.Interpreter.interpretation c.args.here.now.source.now (slice_index c.args.here.now.binding.now)) (g.I.Interpreter.atom_fits c.args.here.now.source.now c.args.w.lo c.args.w.hi (slice_index c.args.here.now.binding.now)) (g.I.Interpreter.term_fits c.args.here.now.source.now c.args.w.lo c.args.w.hi (slice_index c.args.here.now.binding.now)) c.args.w.lo c.args.w.hi z c.args.here.now.values.now) tree c.requires))))),
    )

pub ticks_of-changed-requires : goal.ticks_of-changed-requires
ticks_of-changed-requires g t c = lies g.S.TickSet.member c.args.w.lo c.args.w.hi (sat (g.I.Interpreter.interpretation c.args.here.now.source.now (slice_index c.args.here.now.binding.now)) (formula_view c.in-One.part.now) c.args.here.now.values.now c.args.w.hi) c.in_ok-ticks-in-One.ticks c.in_ok-ticks-in-One.ensures.ticks

pub ticks_of-returns-in_ok-made-in-One-clause-ticks : goal.ticks_of-returns-in_ok-made-in-One-clause-ticks
ticks_of-returns-in_ok-made-in-One-clause-ticks g t c =
    subst (λ (z : ResolvedTree). AreTicksOf g.S.TickSet.member (g.I.Interpreter.interpretation c.args.here.now.source.now (slice_index c.args.here.now.binding.now)) c.args.w.lo c.args.w.hi z c.args.here.now.values.now c.in_ok-made-in-One.made) c.in-One.ensures
    (one_ticks g.S.TickSet.member c.args.w.lo c.args.w.hi (g.I.Interpreter.interpretation c.args.here.now.source.now (slice_index c.args.here.now.binding.now)) c.args.here.now.values.now c.in-One.change (formula_view c.in-One.part.now) c.in_ok-ticks-in-One.ticks c.in_ok-made-in-One.made c.in_ok-ticks-in-One.ensures.ticks c.in_ok-made-in-One.ensures)

pub ticks_of-returns-in_err-ticks-in-One-clause-reads : goal.ticks_of-returns-in_err-ticks-in-One-clause-reads
ticks_of-returns-in_err-ticks-in-One-clause-reads g t c = record {
  least = c.in_err-ticks-in-One.ensures.reads.least;
  most = most_same _ _ (reads_here c.args.w.lo c.args.w.hi (formula_view c.args.f.now)) (reads_here c.args.w.lo c.args.w.hi (formula_view c.in-One.part.now)) (ap (reads_here c.args.w.lo c.args.w.hi) (sym c.in-One.ensures) ∙ changed_reads (λ _. 1) (c.args.w.hi + 1 - c.args.w.lo) c.in-One.change (formula_view c.in-One.part.now)) c.in_err-ticks-in-One.ensures.reads.most;
}

pub ticks_of-returns-in_err-made-in-One-clause-reads : goal.ticks_of-returns-in_err-made-in-One-clause-reads
ticks_of-returns-in_err-made-in-One-clause-reads g t c = record {
  least = c.in_ok-ticks-in-One.ensures.reads.least;
  most = most_same _ _ (reads_here c.args.w.lo c.args.w.hi (formula_view c.args.f.now)) (reads_here c.args.w.lo c.args.w.hi (formula_view c.in-One.part.now)) (ap (reads_here c.args.w.lo c.args.w.hi) (sym c.in-One.ensures) ∙ changed_reads (λ _. 1) (c.args.w.hi + 1 - c.args.w.lo) c.in-One.change (formula_view c.in-One.part.now)) c.in_ok-ticks-in-One.ensures.reads.most;
}

pub ticks_of-returns-in_ok-made-in-One-clause-reads : goal.ticks_of-returns-in_ok-made-in-One-clause-reads
ticks_of-returns-in_ok-made-in-One-clause-reads g t c = record {
  least = c.in_ok-ticks-in-One.ensures.reads.least;
  most = most_same _ _ (reads_here c.args.w.lo c.args.w.hi (formula_view c.args.f.now)) (reads_here c.args.w.lo c.args.w.hi (formula_view c.in-One.part.now)) (ap (reads_here c.args.w.lo c.args.w.hi) (sym c.in-One.ensures) ∙ changed_reads (λ _. 1) (c.args.w.hi + 1 - c.args.w.lo) c.in-One.change (formula_view c.in-One.part.now)) c.in_ok-ticks-in-One.ensures.reads.most;
}

pub ticks_of-ticks_of-requires-in-Two : goal.ticks_of-ticks_of-requires-in-Two
ticks_of-ticks_of-requires-in-Two g t c κs lives =
    let tree : formula_view c.args.f.now ≡ paired_tree c.in-Two.pairing (formula_view c.in-Two.left.now) (formula_view c.in-Two.right.now) = sym c.in-Two.ensures in
    let size : nodes (formula_view c.args.f.now) ≡ nodes (formula_view c.in-Two.left.now) + nodes (formula_view c.in-Two.right.now) + 1 = ap nodes tree ∙ paired_nodes c.in-Two.pairing (formula_view c.in-Two.left.now) (formula_view c.in-Two.right.now) in (
      omega (arith, c.decreases, size),
      (lives.0, (lives.1.0, (lives.1.1.0, (lives.1.1.1, (let both = paired_can (g.I.Interpreter.interpretation c.args.here.now.source.now (slice_index c.args.here.now.binding.now)) (g.I.Interpreter.atom_fits c.args.here.now.source.now c.args.w.lo c.args.w.hi (slice_index c.args.here.now.binding.now)) (g.I.Interpreter.term_fits c.args.here.now.source.now c.args.w.lo c.args.w.hi (slice_index c.args.here.now.binding.now)) c.args.w.lo c.args.w.hi c.args.here.now.values.now c.in-Two.pairing (formula_view c.in-Two.left.now) (formula_view c.in-Two.right.now) (subst (λ (z : ResolvedTree). CanAskHere (g.I.Interpreter.interpretation c.args.here.now.source.now (slice_index c.args.here.now.binding.now)) (g.I.Interpreter.atom_fits c.args.here.now.source.now c.args.w.lo c.args.w.hi (slice_index c.args.here.now.binding.now)) (g.I.Interpreter.term_fits c.args.here.now.source.now c.args.w.lo c.args.w.hi (slice_index c.args.here.now.binding.now)) c.args.w.lo c.args.w.hi z c.args.here.now.values.now) tree c.requires) in both.0))))),
    )

pub ticks_of-ticks_of-requires-in-Two-2 : goal.ticks_of-ticks_of-requires-in-Two-2
ticks_of-ticks_of-requires-in-Two-2 g t c κs lives =
    let tree : formula_view c.args.f.now ≡ paired_tree c.in-Two.pairing (formula_view c.in-Two.left.now) (formula_view c.in-Two.right.now) = sym c.in-Two.ensures in
    let size : nodes (formula_view c.args.f.now) ≡ nodes (formula_view c.in-Two.left.now) + nodes (formula_view c.in-Two.right.now) + 1 = ap nodes tree ∙ paired_nodes c.in-Two.pairing (formula_view c.in-Two.left.now) (formula_view c.in-Two.right.now) in (
      omega (arith, c.decreases, size),
      (lives.0, (lives.1.0, (lives.1.1.0, (lives.1.1.1, (let both = paired_can (g.I.Interpreter.interpretation c.args.here.now.source.now (slice_index c.args.here.now.binding.now)) (g.I.Interpreter.atom_fits c.args.here.now.source.now c.args.w.lo c.args.w.hi (slice_index c.args.here.now.binding.now)) (g.I.Interpreter.term_fits c.args.here.now.source.now c.args.w.lo c.args.w.hi (slice_index c.args.here.now.binding.now)) c.args.w.lo c.args.w.hi c.args.here.now.values.now c.in-Two.pairing (formula_view c.in-Two.left.now) (formula_view c.in-Two.right.now) (subst (λ (z : ResolvedTree). CanAskHere (g.I.Interpreter.interpretation c.args.here.now.source.now (slice_index c.args.here.now.binding.now)) (g.I.Interpreter.atom_fits c.args.here.now.source.now c.args.w.lo c.args.w.hi (slice_index c.args.here.now.binding.now)) (g.I.Interpreter.term_fits c.args.here.now.source.now c.args.w.lo c.args.w.hi (slice_index c.args.here.now.binding.now)) c.args.w.lo c.args.w.hi z c.args.here.now.values.now) tree c.requires) in both.1))))),
    )

pub ticks_of-paired-requires-clause-left : goal.ticks_of-paired-requires-clause-left
ticks_of-paired-requires-clause-left g t c = lies g.S.TickSet.member c.args.w.lo c.args.w.hi (sat (g.I.Interpreter.interpretation c.args.here.now.source.now (slice_index c.args.here.now.binding.now)) (formula_view c.in-Two.left.now) c.args.here.now.values.now c.args.w.hi) c.in_ok-left-in-Two.left c.in_ok-left-in-Two.ensures.ticks

pub ticks_of-paired-requires-clause-right : goal.ticks_of-paired-requires-clause-right
ticks_of-paired-requires-clause-right g t c = lies g.S.TickSet.member c.args.w.lo c.args.w.hi (sat (g.I.Interpreter.interpretation c.args.here.now.source.now (slice_index c.args.here.now.binding.now)) (formula_view c.in-Two.right.now) c.args.here.now.values.now c.args.w.hi) c.in_ok-right-in-Two.right c.in_ok-right-in-Two.ensures.ticks

pub ticks_of-returns-in_ok-made-in-Two-clause-ticks : goal.ticks_of-returns-in_ok-made-in-Two-clause-ticks
ticks_of-returns-in_ok-made-in-Two-clause-ticks g t c =
    subst (λ (z : ResolvedTree). AreTicksOf g.S.TickSet.member (g.I.Interpreter.interpretation c.args.here.now.source.now (slice_index c.args.here.now.binding.now)) c.args.w.lo c.args.w.hi z c.args.here.now.values.now c.in_ok-made-in-Two.made) c.in-Two.ensures
    (two_ticks g.S.TickSet.member c.args.w.lo c.args.w.hi (g.I.Interpreter.interpretation c.args.here.now.source.now (slice_index c.args.here.now.binding.now)) c.args.here.now.values.now c.in-Two.pairing (formula_view c.in-Two.left.now) (formula_view c.in-Two.right.now) c.in_ok-left-in-Two.left c.in_ok-right-in-Two.right c.in_ok-made-in-Two.made c.in_ok-left-in-Two.ensures.ticks c.in_ok-right-in-Two.ensures.ticks c.in_ok-made-in-Two.ensures)

pub ticks_of-returns-in_err-left-in-Two-clause-reads : goal.ticks_of-returns-in_err-left-in-Two-clause-reads
ticks_of-returns-in_err-left-in-Two-clause-reads g t c = record {
  least = c.in_err-left-in-Two.ensures.reads.least;
  most = most_first _ _ (reads_here c.args.w.lo c.args.w.hi (formula_view c.args.f.now)) (reads_here c.args.w.lo c.args.w.hi (formula_view c.in-Two.left.now)) (reads_here c.args.w.lo c.args.w.hi (formula_view c.in-Two.right.now)) (ap (reads_here c.args.w.lo c.args.w.hi) (sym c.in-Two.ensures) ∙ paired_reads (λ _. 1) (c.args.w.hi + 1 - c.args.w.lo) c.in-Two.pairing (formula_view c.in-Two.left.now) (formula_view c.in-Two.right.now)) c.in_err-left-in-Two.ensures.reads.most;
}

pub ticks_of-returns-in_err-right-in-Two-clause-reads : goal.ticks_of-returns-in_err-right-in-Two-clause-reads
ticks_of-returns-in_err-right-in-Two-clause-reads g t c = record {
  least = at_most_in_turn _ _ _ c.in_ok-left-in-Two.ensures.reads.least c.in_err-right-in-Two.ensures.reads.least;
  most = most_both _ _ _ (reads_here c.args.w.lo c.args.w.hi (formula_view c.args.f.now)) (reads_here c.args.w.lo c.args.w.hi (formula_view c.in-Two.left.now)) (reads_here c.args.w.lo c.args.w.hi (formula_view c.in-Two.right.now)) (ap (reads_here c.args.w.lo c.args.w.hi) (sym c.in-Two.ensures) ∙ paired_reads (λ _. 1) (c.args.w.hi + 1 - c.args.w.lo) c.in-Two.pairing (formula_view c.in-Two.left.now) (formula_view c.in-Two.right.now)) c.in_ok-left-in-Two.ensures.reads.most c.in_err-right-in-Two.ensures.reads.most;
}

pub ticks_of-returns-in_err-made-in-Two-clause-reads : goal.ticks_of-returns-in_err-made-in-Two-clause-reads
ticks_of-returns-in_err-made-in-Two-clause-reads g t c = record {
  least = at_most_in_turn _ _ _ c.in_ok-left-in-Two.ensures.reads.least c.in_ok-right-in-Two.ensures.reads.least;
  most = most_both _ _ _ (reads_here c.args.w.lo c.args.w.hi (formula_view c.args.f.now)) (reads_here c.args.w.lo c.args.w.hi (formula_view c.in-Two.left.now)) (reads_here c.args.w.lo c.args.w.hi (formula_view c.in-Two.right.now)) (ap (reads_here c.args.w.lo c.args.w.hi) (sym c.in-Two.ensures) ∙ paired_reads (λ _. 1) (c.args.w.hi + 1 - c.args.w.lo) c.in-Two.pairing (formula_view c.in-Two.left.now) (formula_view c.in-Two.right.now)) c.in_ok-left-in-Two.ensures.reads.most c.in_ok-right-in-Two.ensures.reads.most;
}

pub ticks_of-returns-in_ok-made-in-Two-clause-reads : goal.ticks_of-returns-in_ok-made-in-Two-clause-reads
ticks_of-returns-in_ok-made-in-Two-clause-reads g t c = record {
  least = at_most_in_turn _ _ _ c.in_ok-left-in-Two.ensures.reads.least c.in_ok-right-in-Two.ensures.reads.least;
  most = most_both _ _ _ (reads_here c.args.w.lo c.args.w.hi (formula_view c.args.f.now)) (reads_here c.args.w.lo c.args.w.hi (formula_view c.in-Two.left.now)) (reads_here c.args.w.lo c.args.w.hi (formula_view c.in-Two.right.now)) (ap (reads_here c.args.w.lo c.args.w.hi) (sym c.in-Two.ensures) ∙ paired_reads (λ _. 1) (c.args.w.hi + 1 - c.args.w.lo) c.in-Two.pairing (formula_view c.in-Two.left.now) (formula_view c.in-Two.right.now)) c.in_ok-left-in-Two.ensures.reads.most c.in_ok-right-in-Two.ensures.reads.most;
}

pub ticks_of-ticks_of_assignment-requires : goal.ticks_of-ticks_of_assignment-requires
ticks_of-ticks_of_assignment-requires g t c κs lives =
    let size = ap nodes c.in-Assign.ensures in (
      omega (arith, c.decreases, size),
      (lives.0, (lives.1.0, (lives.1.1.0, (lives.1.1.1, subst (λ (z : ResolvedTree). CanAskHere (g.I.Interpreter.interpretation c.args.here.now.source.now (slice_index c.args.here.now.binding.now)) (g.I.Interpreter.atom_fits c.args.here.now.source.now c.args.w.lo c.args.w.hi (slice_index c.args.here.now.binding.now)) (g.I.Interpreter.term_fits c.args.here.now.source.now c.args.w.lo c.args.w.hi (slice_index c.args.here.now.binding.now)) c.args.w.lo c.args.w.hi z c.args.here.now.values.now) (sym c.in-Assign.ensures) c.requires)))),
    )

pub ticks_of-returns-in_ok-made-in-Assign-clause-ticks : goal.ticks_of-returns-in_ok-made-in-Assign-clause-ticks
ticks_of-returns-in_ok-made-in-Assign-clause-ticks g t c =
    subst (λ (z : ResolvedTree). AreTicksOf g.S.TickSet.member (g.I.Interpreter.interpretation c.args.here.now.source.now (slice_index c.args.here.now.binding.now)) c.args.w.lo c.args.w.hi z c.args.here.now.values.now c.in_ok-made-in-Assign.made) c.in-Assign.ensures c.in_ok-made-in-Assign.ensures.ticks

pub ticks_of-returns-in_err-made-in-Assign-clause-reads : goal.ticks_of-returns-in_err-made-in-Assign-clause-reads
ticks_of-returns-in_err-made-in-Assign-clause-reads g t c = record {
  least = c.in_err-made-in-Assign.ensures.reads.least;
  most = subst (λ (z : ResolvedTree). c.ticks_of_assignment.new.reads ≤ c.args.reads.now + reads_here c.args.w.lo c.args.w.hi z) c.in-Assign.ensures c.in_err-made-in-Assign.ensures.reads.most;
}

pub ticks_of-returns-in_ok-made-in-Assign-clause-reads : goal.ticks_of-returns-in_ok-made-in-Assign-clause-reads
ticks_of-returns-in_ok-made-in-Assign-clause-reads g t c = record {
  least = c.in_ok-made-in-Assign.ensures.reads.least;
  most = subst (λ (z : ResolvedTree). c.ticks_of_assignment.new.reads ≤ c.args.reads.now + reads_here c.args.w.lo c.args.w.hi z) c.in-Assign.ensures c.in_ok-made-in-Assign.ensures.reads.most;
}

pub ticks_of_assignment-stretches_of-requires : goal.ticks_of_assignment-stretches_of-requires
ticks_of_assignment-stretches_of-requires g t c = c.requires.0

pub ticks_of_assignment-returns-in_err-runs-clause-reads : goal.ticks_of_assignment-returns-in_err-runs-clause-reads
ticks_of_assignment-returns-in_err-runs-clause-reads g t c = record {
  least = c.in_err-runs.ensures.reads.least;
  most = term_here c.args.w.lo c.args.w.hi c.args.a.now.depth c.args.a.now.term.now (formula_view c.args.a.now.body.now) _ _ c.in_err-runs.ensures.reads.most;
}

pub ticks_of_assignment-each-init : goal.ticks_of_assignment-each-init
ticks_of_assignment-each-init g t c = record {
  ticks = λ u. ap (λ (rs : List g.row.S.Denot). any_member g.S.TickSet.member rs u) c.new-parts.ensures.items ∙ false_is_and (within c.args.w.lo c.args.w.hi u);
  least = omega arith;
  most = omega arith;
}

pub ticks_of_assignment-ticks_of_section-requires : goal.ticks_of_assignment-ticks_of_section-requires
ticks_of_assignment-ticks_of_section-requires g t c κs lives = (
  omega (arith, c.decreases),
  (
    lives.0,
    (
      lives.1.0,
      (
        lives.1.1.0,
        (
          lives.1.1.1,
          subst (λ (x : Env). CanAskHere (g.I.Interpreter.interpretation c.args.here.now.source.now (slice_index c.args.here.now.binding.now)) (g.I.Interpreter.atom_fits c.args.here.now.source.now c.args.w.lo c.args.w.hi (slice_index c.args.here.now.binding.now)) (g.I.Interpreter.term_fits c.args.here.now.source.now c.args.w.lo c.args.w.hi (slice_index c.args.here.now.binding.now)) c.args.w.lo c.args.w.hi (formula_view c.args.a.now.body.now) x) (sym c.with-bound.ensures)
              (can_ask_by (formula_uses_value c.args.a.now.depth (formula_view c.args.a.now.body.now)) (g.I.Interpreter.interpretation c.args.here.now.source.now (slice_index c.args.here.now.binding.now)) (g.I.Interpreter.atom_fits c.args.here.now.source.now c.args.w.lo c.args.w.hi (slice_index c.args.here.now.binding.now)) (g.I.Interpreter.term_fits c.args.here.now.source.now c.args.w.lo c.args.w.hi (slice_index c.args.here.now.binding.now)) c.args.w.lo c.args.w.hi c.args.a.now.depth c.args.a.now.term.now (formula_view c.args.a.now.body.now) c.args.here.now.values.now c.requires c.deref-run-items.result.now (subst (λ (rs : List ValueRun). All (IsStretch (formula_uses_value c.args.a.now.depth (formula_view c.args.a.now.body.now)) ((g.I.Interpreter.interpretation c.args.here.now.source.now (slice_index c.args.here.now.binding.now)).term c.args.a.now.term.now c.args.here.now.values.now) c.args.w.lo (c.args.w.hi + 1)) rs) (sym c.deref-run-items.ensures.value) c.in_ok-runs.ensures.runs.each) c.each.run-index c.run-item.result (omega (arith, c.each-test.true)) c.run-item.is),
        ),
      ),
    ),
  ),
)

pub ticks_of_assignment-returns-in_err-part-clause-reads : goal.ticks_of_assignment-returns-in_err-part-clause-reads
ticks_of_assignment-returns-in_err-part-clause-reads g t c = record {
  least = at_most_in_turn _ _ _ c.in_ok-runs.ensures.reads.least (at_most_in_turn _ _ _ c.each.invariant.least c.in_err-part.ensures.reads.least);
  most = (let few : length c.deref-run-items.result.now ≤ c.args.w.hi + 1 - c.args.w.lo = subst (λ (rs : List ValueRun). length rs ≤ c.args.w.hi + 1 - c.args.w.lo) (sym c.deref-run-items.ensures.value) c.in_ok-runs.ensures.runs.few in
      runs_here c.args.w.lo c.args.w.hi c.args.a.now.depth c.args.a.now.term.now (formula_view c.args.a.now.body.now) _ _ _ (c.each.run-index + 1) c.in_ok-runs.ensures.reads.most (omega (arith, c.each-test.true, few))
      (one_step _ c.each.reads _ c.each.run-index (reads_here c.args.w.lo c.args.w.hi (formula_view c.args.a.now.body.now)) c.each.invariant.most c.in_err-part.ensures.reads.most));
}

pub ticks_of_assignment-returns-in_err-push_back-clause-reads : goal.ticks_of_assignment-returns-in_err-push_back-clause-reads
ticks_of_assignment-returns-in_err-push_back-clause-reads g t c = record {
  least = at_most_in_turn _ _ _ c.in_ok-runs.ensures.reads.least (at_most_in_turn _ _ _ c.each.invariant.least c.in_ok-part.ensures.reads.least);
  most = (let few : length c.deref-run-items.result.now ≤ c.args.w.hi + 1 - c.args.w.lo = subst (λ (rs : List ValueRun). length rs ≤ c.args.w.hi + 1 - c.args.w.lo) (sym c.deref-run-items.ensures.value) c.in_ok-runs.ensures.runs.few in
      runs_here c.args.w.lo c.args.w.hi c.args.a.now.depth c.args.a.now.term.now (formula_view c.args.a.now.body.now) _ _ _ (c.each.run-index + 1) c.in_ok-runs.ensures.reads.most (omega (arith, c.each-test.true, few))
      (one_step _ c.each.reads _ c.each.run-index (reads_here c.args.w.lo c.args.w.hi (formula_view c.args.a.now.body.now)) c.each.invariant.most c.in_ok-part.ensures.reads.most));
}

pub ticks_of_assignment-returns-in_err-made-clause-reads : goal.ticks_of_assignment-returns-in_err-made-clause-reads
ticks_of_assignment-returns-in_err-made-clause-reads g t c = record {
  least = at_most_in_turn _ _ _ c.in_ok-runs.ensures.reads.least c.each.invariant.least;
  most = (let few : length c.deref-run-items.result.now ≤ c.args.w.hi + 1 - c.args.w.lo = subst (λ (rs : List ValueRun). length rs ≤ c.args.w.hi + 1 - c.args.w.lo) (sym c.deref-run-items.ensures.value) c.in_ok-runs.ensures.runs.few in
      runs_here c.args.w.lo c.args.w.hi c.args.a.now.depth c.args.a.now.term.now (formula_view c.args.a.now.body.now) _ _ _ c.each.run-index c.in_ok-runs.ensures.reads.most (let l : c.each.run-index ≤ length c.deref-run-items.result.now = c.each.auto.run-index-end in omega (arith, l, few)) c.each.invariant.most);
}

pub ticks_of_assignment-returns-clause-reads : goal.ticks_of_assignment-returns-clause-reads
ticks_of_assignment-returns-clause-reads g t c = record {
  least = at_most_in_turn _ _ _ c.in_ok-runs.ensures.reads.least c.each.invariant.least;
  most = (let few : length c.deref-run-items.result.now ≤ c.args.w.hi + 1 - c.args.w.lo = subst (λ (rs : List ValueRun). length rs ≤ c.args.w.hi + 1 - c.args.w.lo) (sym c.deref-run-items.ensures.value) c.in_ok-runs.ensures.runs.few in
      runs_here c.args.w.lo c.args.w.hi c.args.a.now.depth c.args.a.now.term.now (formula_view c.args.a.now.body.now) _ _ _ c.each.run-index c.in_ok-runs.ensures.reads.most (let l : c.each.run-index ≤ length c.deref-run-items.result.now = c.each.auto.run-index-end in omega (arith, l, few)) c.each.invariant.most);
}

pub ticks_of_assignment-each-preserved : goal.ticks_of_assignment-each-preserved
ticks_of_assignment-each-preserved g t c =
    let own = run_within (formula_uses_value c.args.a.now.depth (formula_view c.args.a.now.body.now)) ((g.I.Interpreter.interpretation c.args.here.now.source.now (slice_index c.args.here.now.binding.now)).term c.args.a.now.term.now c.args.here.now.values.now) c.args.w.lo c.args.w.hi c.deref-run-items.result.now
    (subst (λ (rs : List ValueRun). All (IsStretch (formula_uses_value c.args.a.now.depth (formula_view c.args.a.now.body.now)) ((g.I.Interpreter.interpretation c.args.here.now.source.now (slice_index c.args.here.now.binding.now)).term c.args.a.now.term.now c.args.here.now.values.now) c.args.w.lo (c.args.w.hi + 1)) rs) (sym c.deref-run-items.ensures.value) c.in_ok-runs.ensures.runs.each)
    c.each.run-index c.run-item.result (omega (arith, c.each-test.true)) c.run-item.is in
    record {
      ticks = λ u.
          ap (λ (rs : List g.row.S.Denot). any_member g.S.TickSet.member rs u) c.in_ok-push_back.ensures.items
          ∙ run_added g.S.TickSet.member (g.I.Interpreter.interpretation c.args.here.now.source.now) (slice_index c.args.here.now.binding.now) c.args.w.lo c.args.w.hi c.args.a.now.depth (formula_view c.args.a.now.body.now) c.args.here.now.values.now c.deref-run-items.result.now c.each.run-index c.run-item.result c.each.parts.items c.in_ok-part.part
          (omega (arith, c.each-test.true)) c.run-item.is own.0 own.1 c.each.invariant.ticks
          (λ r. c.in_ok-part.ensures.ticks r ∙ ap (λ (x : Env). within c.run-item.result.span.lo c.run-item.result.span.hi r && sat (g.I.Interpreter.interpretation c.args.here.now.source.now (slice_index c.args.here.now.binding.now)) (formula_view c.args.a.now.body.now) x c.args.w.hi r) c.with-bound.ensures)
          u;
      least = at_most_in_turn _ _ _ c.each.invariant.least c.in_ok-part.ensures.reads.least;
      most = one_step _ c.each.reads _ c.each.run-index (reads_here c.args.w.lo c.args.w.hi (formula_view c.args.a.now.body.now)) c.each.invariant.most c.in_ok-part.ensures.reads.most;
    }

pub ticks_of_assignment-returns-clause-ticks : goal.ticks_of_assignment-returns-clause-ticks
ticks_of_assignment-returns-clause-ticks g t c =
    runs_done g.S.TickSet.member (g.I.Interpreter.interpretation c.args.here.now.source.now) (slice_index c.args.here.now.binding.now) c.args.w.lo c.args.w.hi c.args.a.now.depth (formula_view c.args.a.now.body.now) c.args.here.now.values.now c.deref-run-items.result.now c.args.a.now.term.now
    (λ none v w u. sat_unnamed (g.I.Interpreter.interpretation c.args.here.now.source.now (slice_index c.args.here.now.binding.now)) (λ a x y same r. g.met.I.Interpreter.atom_sees_values c.args.here.now.source.now (slice_index c.args.here.now.binding.now) a x y same r) (λ q x y same r. g.met.I.Interpreter.term_sees_values c.args.here.now.source.now (slice_index c.args.here.now.binding.now) q x y same r)
    c.args.a.now.depth (formula_view c.args.a.now.body.now) none c.args.here.now.values.now v w c.args.w.hi u)
    (subst (λ (rs : List ValueRun). AreStretches (formula_uses_value c.args.a.now.depth (formula_view c.args.a.now.body.now)) ((g.I.Interpreter.interpretation c.args.here.now.source.now (slice_index c.args.here.now.binding.now)).term c.args.a.now.term.now c.args.here.now.values.now) c.args.w.lo (c.args.w.hi + 1) rs) (sym c.deref-run-items.ensures.value) c.in_ok-runs.ensures.runs)
    c.each.run-index c.each.parts.items c.in_ok-made.made (omega (arith, c.each-test.false)) c.each.invariant.ticks c.in_ok-made.ensures

pub ticks_of_until-returns-then-is_empty-clause-ticks : goal.ticks_of_until-returns-then-is_empty-clause-ticks
ticks_of_until-returns-then-is_empty-clause-ticks g t c =
    no_goal g.S.TickSet.member c.args.w.lo c.args.w.hi (g.I.Interpreter.interpretation c.args.here.now.source.now (slice_index c.args.here.now.binding.now)) c.args.here.now.values.now c.args.until.now.form c.args.until.now.number (formula_view c.args.until.now.guard.now) (formula_view c.args.until.now.goal.now) c.in_ok-goals.goals c.in_ok-goals.ensures.ticks (c.is_empty.ensures.0 c.if-is_empty.true)

pub ticks_of_until-returns-clause-ticks : goal.ticks_of_until-returns-clause-ticks
ticks_of_until-returns-clause-ticks g t c =
    two_ticks g.S.TickSet.member c.args.w.lo c.args.w.hi (g.I.Interpreter.interpretation c.args.here.now.source.now (slice_index c.args.here.now.binding.now)) c.args.here.now.values.now (pairings.Until c.args.until.now.form c.args.until.now.number) (formula_view c.args.until.now.guard.now) (formula_view c.args.until.now.goal.now)
    c.in_ok-guards.guards c.in_ok-goals.goals c.in_ok-made.made c.in_ok-guards.ensures.ticks c.in_ok-goals.ensures.ticks c.in_ok-made.ensures

pub ticks_of_section-ticks_of-requires : goal.ticks_of_section-ticks_of-requires
ticks_of_section-ticks_of-requires g t c κs lives = (
  omega (arith, c.decreases),
  (
    lives.0,
    (
      lives.1.0,
      (
        lives.1.1.0,
        (
          lives.1.1.1,
          can_here_fewer (g.I.Interpreter.interpretation c.args.here.now.source.now)
              (g.I.Interpreter.atom_fits c.args.here.now.source.now c.args.section.window.lo c.args.section.window.hi) (g.I.Interpreter.atom_fits c.args.here.now.source.now c.seen_by-w.result.lo c.seen_by-w.result.hi)
              (g.I.Interpreter.term_fits c.args.here.now.source.now c.args.section.window.lo c.args.section.window.hi) (g.I.Interpreter.term_fits c.args.here.now.source.now c.seen_by-w.result.lo c.seen_by-w.result.hi)
              c.args.section.window.lo c.args.section.window.hi c.seen_by-w.result.lo c.seen_by-w.result.hi
              (seen_from c.args.section.window.lo c.args.section.span.lo c.seen_by-w.result.lo c.args.section.begins c.seen_by-w.ensures.lo)
              (seen_upto (reach (formula_view c.args.f.now)) c.args.section.span.hi c.args.section.window.hi c.seen_by-w.result.hi c.args.section.ends c.seen_by-w.ensures.hi)
              (λ b a x can. g.met.I.Interpreter.atom_narrows c.args.here.now.source.now _ _ _ _ (seen_from c.args.section.window.lo c.args.section.span.lo c.seen_by-w.result.lo c.args.section.begins c.seen_by-w.ensures.lo) (seen_upto (reach (formula_view c.args.f.now)) c.args.section.span.hi c.args.section.window.hi c.seen_by-w.result.hi c.args.section.ends c.seen_by-w.ensures.hi) b a x can)
              (λ b q x can. g.met.I.Interpreter.term_narrows c.args.here.now.source.now _ _ _ _ (seen_from c.args.section.window.lo c.args.section.span.lo c.seen_by-w.result.lo c.args.section.begins c.seen_by-w.ensures.lo) (seen_upto (reach (formula_view c.args.f.now)) c.args.section.span.hi c.args.section.window.hi c.seen_by-w.result.hi c.args.section.ends c.seen_by-w.ensures.hi) b q x can)
              (slice_index c.args.here.now.binding.now) (formula_view c.args.f.now) c.args.here.now.values.now c.requires,
        ),
      ),
    ),
  ),
)

pub ticks_of_section-returns-in_err-ticks-clause-reads : goal.ticks_of_section-returns-in_err-ticks-clause-reads
ticks_of_section-returns-in_err-ticks-clause-reads g t c = record {
  least = c.in_err-ticks.ensures.reads.least;
  most = most_seen _ _ _ _ (section_reads (λ _. 1) (formula_view c.args.f.now) c.args.section.window.lo c.args.section.window.hi c.args.section.span.lo c.args.section.span.hi c.seen_by-w.result.lo c.seen_by-w.result.hi c.args.section.begins c.args.section.ends c.seen_by-w.ensures.lo c.seen_by-w.ensures.hi) c.in_err-ticks.ensures.reads.most;
}

pub ticks_of_section-returns-in_err-made-clause-reads : goal.ticks_of_section-returns-in_err-made-clause-reads
ticks_of_section-returns-in_err-made-clause-reads g t c = record {
  least = c.in_ok-ticks.ensures.reads.least;
  most = most_seen _ _ _ _ (section_reads (λ _. 1) (formula_view c.args.f.now) c.args.section.window.lo c.args.section.window.hi c.args.section.span.lo c.args.section.span.hi c.seen_by-w.result.lo c.seen_by-w.result.hi c.args.section.begins c.args.section.ends c.seen_by-w.ensures.lo c.seen_by-w.ensures.hi) c.in_ok-ticks.ensures.reads.most;
}

pub ticks_of_section-returns-clause-reads : goal.ticks_of_section-returns-clause-reads
ticks_of_section-returns-clause-reads g t c = record {
  least = c.in_ok-ticks.ensures.reads.least;
  most = most_seen _ _ _ _ (section_reads (λ _. 1) (formula_view c.args.f.now) c.args.section.window.lo c.args.section.window.hi c.args.section.span.lo c.args.section.span.hi c.seen_by-w.result.lo c.seen_by-w.result.hi c.args.section.begins c.args.section.ends c.seen_by-w.ensures.lo c.seen_by-w.ensures.hi) c.in_ok-ticks.ensures.reads.most;
}

pub ticks_of_section-returns-clause-ticks : goal.ticks_of_section-returns-clause-ticks
ticks_of_section-returns-clause-ticks g t c = λ u.
    c.in_ok-made.ensures u
    ∙ (λ k. within (c.window.ensures.0 k) (c.window.ensures.1 k) u && c.in_ok-ticks.ensures.ticks u k)
    ∙ section_alike (g.I.Interpreter.interpretation c.args.here.now.source.now (slice_index c.args.here.now.binding.now)) (formula_view c.args.f.now) c.args.here.now.values.now c.args.section.span.lo c.args.section.span.hi c.args.section.window.hi c.seen_by-w.result.lo c.seen_by-w.result.hi
    c.args.section.ends c.seen_by-w.ensures.lo c.seen_by-w.ensures.hi u
