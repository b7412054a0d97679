use Rattle.std.proofs.Common.{arith, suc}
use Rattle.std.proofs.lemmas.Grind.{common_steps}
use Rattle.motion.proofs.change.write_cells.Goals as goal

pub loop-change-preserved : goal.loop-change-preserved
loop-change-preserved c = record {
  whole = grind (arith, common_steps);
  written = c.set.ensures.written;
  given = λ k d l. grind (arith, common_steps, c.loop-change.invariant.given (suc k) d);
}
