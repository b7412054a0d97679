use Rattle.std.proofs.Common.{◌≡◌, ◌-◌, Some, length, sym, subst, arith}
use Rattle.std.specs.Prelude.{slice_get}
use Rattle.motion.specs.Straight.{MovesFrom}
use Rattle.motion.proofs.TimelineLemmas.{begun_by_last}
use Rattle.motion.proofs.StraightLemmas.{in_force_from}
use Rattle.motion.proofs.straight.straight_of.Goals as goal

pub returns-clause-told : goal.returns-clause-told
returns-clause-told c =
    let epochs = c.args.epochs.now in
    let epoch = c.in_ok-last.last.now in
    let is : slice_get epochs (length epochs - 1) ≡ Some epoch = sym c.in_ok-last.ensures.value in
    let begins = c.from.ensures.value in
    record {
      epoch = epoch;
      last = is;
      begins = begins;
      begun = begun_by_last epochs c.from.result epoch c.requires is (omega arith);
      in_force = λ t later. in_force_from epochs epoch t c.requires is (omega arith);
      x = subst (λ from. MovesFrom epoch 0 from c.in_ok-x.x c.in_ok-x.dx) (sym begins) c.in_ok-x.ensures.moves;
      y = subst (λ from. MovesFrom epoch 1 from c.in_ok-y.y c.in_ok-y.dy) (sym begins) c.in_ok-y.ensures.moves;
    }
