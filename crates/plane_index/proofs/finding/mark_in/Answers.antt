use Rattle.std.proofs.Common.{refl, ◌∙◌, arith}
use Rattle.std.proofs.lemmas.Bool.Decides.{nat_tests}
use Rattle.plane.specs.Boxes.{strips_meet}
use Rattle.plane_index.specs.Index.{fresh_at}
use Rattle.plane_index.specs.Lines.{strips_as}
use Rattle.plane_index.specs.States.{strips_at}
use Rattle.plane_index.proofs.FindLemmas.{none_yet, one_more_slice}
use Rattle.plane_index.proofs.finding.mark_in.Goals as goal

pub slices-init : goal.slices-init
slices-init c =
    let first = c.requires.first in
    let states = c.args.states.now in
    record {
      from = omega arith;
      up_to = omega (arith, first);
      count = refl;
      marked = λ k below. none_yet (fresh_at c.args.marks.now k) (λ j. strips_meet (strips_as c.args.asked.now) (strips_at states.grid states.states k j)) c.args.first;
    }

pub slices-preserved : goal.slices-preserved
slices-preserved c =
    let now = c.slices.invariant in
    let test = c.slices-test.true in
    let count = now.count in
    let states = c.args.states.now in
    record {
      from = (let from = now.from in omega (arith, from));
      up_to = grind (arith, nat_tests, test);
      count = c.mark.ensures.length ∙ now.count;
      marked = λ k below.
          c.mark.ensures.marks k (omega (arith, below, count))
          ∙ one_more_slice (fresh_at c.slices.marks k) (fresh_at c.args.marks.now k) (λ j. strips_meet (strips_as c.args.asked.now) (strips_at states.grid states.states k j))
          c.args.first c.slices.s now.from (now.marked k below);
    }
