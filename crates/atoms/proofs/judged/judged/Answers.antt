use Rattle.std.proofs.Common.{◌&&◌, sym, subst}
use Rattle.formula.specs.declared.tree.RAtom.{RAtom}
use Rattle.meaning.specs.Atom.{atom_holds}
use Rattle.tick_set.specs.Ticks.{within}
use Rattle.atoms.specs.Found.{AreRunsWhere}
use Rattle.atoms.specs.Parts.{shown}
use Rattle.atoms.proofs.judged.judged.Goals as goal

pub returns-in-Outside-clause-runs : goal.returns-in-Outside-clause-runs
returns-in-Outside-clause-runs g c =
    let part = c.args.part.now in
    subst (λ (a : RAtom). AreRunsWhere (λ t. within part.span.lo part.span.hi t && atom_holds c.args.regions.now (shown part) a c.args.env.now t) c.outside.result)
    (sym c.in-Outside.is) c.outside.ensures

pub returns-in-Dist-clause-runs : goal.returns-in-Dist-clause-runs
returns-in-Dist-clause-runs g c =
    let part = c.args.part.now in
    subst (λ (a : RAtom). AreRunsWhere (λ t. within part.span.lo part.span.hi t && atom_holds c.args.regions.now (shown part) a c.args.env.now t) c.at_distance.result)
    (sym c.in-Dist.is) c.at_distance.ensures.runs
