use Rattle.std.proofs.Common.{sym, ◌∙◌}
use Rattle.polygon.proofs.NamedLemmas.{number_found}
use Rattle.polygon.proofs.named.Regions.number_of.Goals as goal

pub returns-clause-number : goal.returns-clause-number
returns-clause-number c =
    number_found c.args.name.now c.self.inside.polygons.entries c.args.self.now _ c.self.view_is (sym c.in_ok-place.was ∙ c.get_index_of.ensures.index)

pub returns-in_err-place-clause-number : goal.returns-in_err-place-clause-number
returns-in_err-place-clause-number c =
    number_found c.args.name.now c.self.inside.polygons.entries c.args.self.now _ c.self.view_is
    (c.from_residual.ensures ∙ sym c.in_err-place.was ∙ c.get_index_of.ensures.index)
