use Rattle.std.proofs.Common.{Option, sym, subst}
use Rattle.std.specs.Option.{IfSome}
use Rattle.nearest.specs.Sights.{TellsSquares}
use Rattle.nearest.specs.declared.squares.Separation.{Separation}
use Rattle.nearest.proofs.sight.sight_of.Goals as goal

pub returns-in-Some : goal.returns-in-Some
returns-in-Some c =
    let Tells : Separation → Type 0 = TellsSquares c.args.from.now c.args.to.now c.args.slice in
    let tells : Tells c.in-Some.separation = subst (λ (told : Option Separation). IfSome told Tells) c.in-Some.is c.straight_separation.ensures in
    record { tells = subst Tells (sym c.of.ensures.separation) tells; bounds = c.of.ensures.bounds }
