use Rattle.std.proofs.Common.{sym, subst}
use Rattle.motion.specs.declared.asked.Asked.{Asked}
use Rattle.motion.specs.Pieces.{legs_end, IsFirstOrEnd}
use Rattle.motion.proofs.pieces.first_end.Goals as goal

pub returns-in-All : goal.returns-in-All
returns-in-All c =
    let P : Asked → Type 0 = λ asked. IsFirstOrEnd (λ t. legs_end asked t c.args.cells.now) c.args.at c.args.end c.first_turn.result in
    subst P (sym c.in-All.is) c.first_turn.ensures

pub returns-in-These : goal.returns-in-These
returns-in-These c =
    let P : Asked → Type 0 = λ asked. IsFirstOrEnd (λ t. legs_end asked t c.args.cells.now) c.args.at c.args.end c.first_turn_among.result in
    subst P (sym c.in-These.is) c.first_turn_among.ensures
