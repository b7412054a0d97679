use Rattle.std.proofs.Common.{subst, ◌∙◌, arith}
use Rattle.kept_rows.specs.Rows.{row_has}
use Rattle.kept_rows.specs.Turning.{AreSteadyIn}
use Rattle.std.specs.Prelude.{IfNone, IfSome}
use Rattle.kept_rows.proofs.TurnLemmas.{turn-next, turn-none, turn-ticks}
use Rattle.kept_rows.proofs.rows.KeptRows.next_turning.Goals as goal

pub returns-then-before-self-clause-some : goal.returns-then-before-self-clause-some
returns-then-before-self-clause-some g c =
    turn-ticks (row_has g.S.TickSet.member c.args.self.now) c.args.before c.args.now c.args.from c.args.to c.next.result c.next.ensures.some

pub returns-clause-some : goal.returns-clause-some
returns-clause-some g c =
    turn-next (row_has g.S.TickSet.member c.args.self.now) c.self.inside.turns.seen c.args.before c.args.now c.args.from c.args.to
    (omega (arith, c.if-before-self.false)) (omega (arith, c.if-now-before.false)) c.unsteady_from.result
    c.unsteady_from.ensures.least c.unsteady_from.ensures.below
    (subst (λ xs. IfSome c.unsteady_from.result (AreSteadyIn (row_has g.S.TickSet.member xs) c.self.inside.turns.seen c.args.now c.args.from)) (c.deref.ensures.value ∙ c.self.view_is) c.unsteady_from.ensures.some)

pub returns-clause-none : goal.returns-clause-none
returns-clause-none g c =
    turn-none (row_has g.S.TickSet.member c.args.self.now) c.self.inside.turns.seen c.args.before c.args.now c.args.from c.args.to
    (omega (arith, c.if-before-self.false)) (omega (arith, c.if-now-before.false)) c.unsteady_from.result
    (subst (λ xs. IfNone c.unsteady_from.result (AreSteadyIn (row_has g.S.TickSet.member xs) c.self.inside.turns.seen c.args.now c.args.from c.args.to)) (c.deref.ensures.value ∙ c.self.view_is) c.unsteady_from.ensures.none)
