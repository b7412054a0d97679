use Rattle.std.proofs.Common.{ℕ, refl, sym, subst}
use Rattle.atoms.specs.Asked.{CanAskAtom, CanAskTerm, told_by}
use Rattle.evaluator.specs.Interpreting.{IsOver}
use Rattle.formula.specs.Tree.{formula_view, resolved_view}
use Rattle.formula.specs.Value.{no_values}
use Rattle.blur.specs.World.{blurred_by}
use Rattle.blur.proofs.QueryLemmas.{asked_alike}
use Rattle.blur.proofs.asking.rows_of_all.Goals as goal

pub full_rows-requires-clause-over : goal.full_rows-requires-clause-over
full_rows-requires-clause-over g c =
    subst (λ (n : ℕ). IsOver n (formula_view c.args.q.now.formula)) (sym c.requires.domains.many)
    (c.fitting_queries_can_be_asked.ensures.over (resolved_view c.args.q.now) c.requires.resolved)

pub full_rows-requires-clause-can : goal.full_rows-requires-clause-can
full_rows-requires-clause-can g c =
    let world = c.args.setting.now.world.now in
    let s = world.store.now in
    let w = c.args.setting.now.w in
    asked_alike (told_by s world.regions.now) (blurred_by world.blur s world.regions.now) (λ b q x t. refl)
    (λ b a x. CanAskAtom s w.lo w.hi b a) (λ b p x. CanAskTerm s w.lo w.hi b p x) c.args.d.now w.lo w.hi (formula_view c.args.q.now.formula) no_values
    (c.fitting_queries_can_be_asked.ensures.asked s world.regions.now (resolved_view c.args.q.now) c.args.d.now w.lo w.hi
    c.requires.accepted c.requires.resolved c.requires.fits c.requires.domains w.in_range c.requires.length)

pub full_rows-requires-clause-objects : goal.full_rows-requires-clause-objects
full_rows-requires-clause-objects g c =
    c.fitting_queries_can_be_asked.ensures.objects c.args.setting.now.world.now.store.now (resolved_view c.args.q.now) c.args.d.now c.requires.domains
