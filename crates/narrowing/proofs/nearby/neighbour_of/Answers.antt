use Rattle.std.proofs.Common.{sym, subst}
use Rattle.std.specs.Prelude.{IfSome}
use Rattle.formula.specs.declared.tree.RAtom.{RAtom}
use Rattle.narrowing.specs.Beside.{NeedsBeside}
use Rattle.narrowing.proofs.nearby.neighbour_of.Goals as goal

pub returns-in-Dist : goal.returns-in-Dist
returns-in-Dist c =
    subst (λ (a : RAtom). IfSome c.neighbour_in.result (λ n. NeedsBeside c.args.error c.args.var n.var n.most a)) (sym c.in-Dist.is) c.neighbour_in.ensures
