use Rattle.std.proofs.Common.{ap}
use Rattle.formula_shape.specs.Shape as shapes
use Rattle.formula.specs.Tree.{formula_view, resolved_view}
use Rattle.narrowing.proofs.WhereaboutsLemmas.{at_same}
use Rattle.narrowing.proofs.whereabouts.can_hold_at.Goals as goal

pub returns-in-Atom : goal.returns-in-Atom
returns-in-Atom c never =
    at_same c.args.area.now c.args.regions.now (shapes.Atom c.in-Atom.a) (resolved_view c.args.q.now).formula
    (ap formula_view c.in-Atom.is) (c.can_atom_hold.ensures never)
