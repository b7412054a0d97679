-- What was written is what a car that passes by a post is, and the query has one atom.
use Rattle.std.proofs.Common.{List, ℕ, sym, ap, subst}
use Rattle.answers.specs.Objects.{AreOfItsClasses}
use Rattle.formula.specs.Resolved.{IsResolved}
use Rattle.formula.specs.Tree.{ResolvedQuery, resolved_view}
use Rattle.history.specs.History.{History}
use Rattle.meaning.specs.Agreement.{world_with}
use Rattle.meaning.specs.Fits.{FitsItsClasses}
use Rattle.object_store.specs.Contents.{catalog_of, history_of}
use Rattle.asking_tests.proofs.PassingLemmas.{are_of_its_classes, car_and_post, fits_classes, is_resolved, of_accepted_writes}
use Rattle.asking_tests.proofs.surely.are_runs_in.Goals as goal

pub blurred-requires-clause-accepted : goal.blurred-requires-clause-accepted
blurred-requires-clause-accepted g c = of_accepted_writes c.args.store.now c.requires.told

pub blurred-requires-clause-resolved : goal.blurred-requires-clause-resolved
blurred-requires-clause-resolved g c =
    subst IsResolved (sym c.in_ok-query.ensures) (is_resolved c.args.atom c.requires.is)

pub blurred-requires-clause-fits : goal.blurred-requires-clause-fits
blurred-requires-clause-fits g c =
    subst
    (λ (q : ResolvedQuery). FitsItsClasses (world_with (history_of c.args.store.now) c.in_ok-regions.regions) q)
    (sym c.in_ok-query.ensures)
    (fits_classes (history_of c.args.store.now) c.in_ok-regions.regions c.args.atom c.requires.told c.in_ok-regions.ensures c.requires.fits)

pub blurred-requires-clause-domains : goal.blurred-requires-clause-domains
blurred-requires-clause-domains g c =
    let catalog = catalog_of c.args.store.now in
    subst (λ (d : List (List ℕ)). AreOfItsClasses catalog (resolved_view c.in_ok-query.query) d) (sym c.in_ok-domains.ensures)
    (subst (λ (q : ResolvedQuery). AreOfItsClasses catalog q car_and_post) (sym c.in_ok-query.ensures)
    (are_of_its_classes catalog c.args.atom (ap (λ (h : History). h.catalog) c.requires.told)))
