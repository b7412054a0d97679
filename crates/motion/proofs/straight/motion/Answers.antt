use Rattle.std.proofs.Common.{arith, rules}
use Rattle.std.proofs.lemmas.Grind.{common_steps}
use Rattle.motion.proofs.StraightLemmas.{value_on}
use Rattle.motion.proofs.straight.motion.Goals as goal

pub returns-clause-moves : goal.returns-clause-moves
returns-clause-moves c = record {
  vector = c.in_ok-vector.vector.now;
  cell = c.in_ok-vector.ensures.cell;
  near = search rules;
  value = λ t later.
      let on = value_on c.in_ok-vector.vector.now c.args.epoch.now.from t c.in_ok-vector.ensures.one c.in_ok-vector.ensures.written later in
      grind (arith, common_steps, on);
}
