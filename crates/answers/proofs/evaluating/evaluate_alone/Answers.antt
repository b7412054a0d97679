use Rattle.std.proofs.Common.{◌≡◌, ℕ, ◌==◌, [], ◌∷◌, false, refl, sym, subst, ◌∙◌, arith}
use Rattle.std.proofs.lemmas.Bool.{eq-eqb, not-true, or_left}
use Rattle.formula.specs.Tree.{formula_view, resolved_view}
use Rattle.evaluator.specs.Interpreting.{IsOver}
use Rattle.narrowing.specs.Needed.{told}
use Rattle.atoms.specs.Asked.{world_in}
use Rattle.answers.proofs.NarrowLemmas.{never_there}
use Rattle.answers.proofs.evaluating.evaluate_alone.Goals as goal

pub ticks_alone-requires-clause-one : goal.ticks_alone-requires-clause-one
ticks_alone-requires-clause-one g c = sym c.requires.object.many

pub ticks_alone-requires-clause-over : goal.ticks_alone-requires-clause-over
ticks_alone-requires-clause-over g c =
    subst (λ (n : ℕ). IsOver n (formula_view c.args.q.now.formula)) (sym c.requires.object.many)
    (c.fitting_queries_can_be_asked.ensures.over (resolved_view c.args.q.now) c.requires.resolved)

pub ticks_alone-requires-clause-can : goal.ticks_alone-requires-clause-can
ticks_alone-requires-clause-can g c =
    c.fitting_queries_can_be_asked.ensures.asked c.args.store.now c.args.regions.now (resolved_view c.args.q.now) ((c.args.id ∷ []) ∷ []) c.args.w.lo c.args.w.hi
    c.requires.accepted c.requires.resolved c.requires.fits c.requires.object c.args.w.in_range c.requires.length

pub ticks_alone-requires-clause-object : goal.ticks_alone-requires-clause-object
ticks_alone-requires-clause-object g c =
    c.fitting_queries_can_be_asked.ensures.objects c.args.store.now (resolved_view c.args.q.now) ((c.args.id ∷ []) ∷ []) c.requires.object
    0 c.args.id (or_left (c.args.id == c.args.id) false (eq-eqb c.args.id c.args.id refl))

pub returns-then-not-can_hold_alone-clause-ticks : goal.returns-then-not-can_hold_alone-clause-ticks
returns-then-not-can_hold_alone-clause-ticks g c b one t =
    let never : c.can_hold_alone.result ≡ false = grind (arith, not-true, c.if-not-can_hold_alone.true) in
    c.empty.ensures t
    ∙ sym (never_there (told c.args.store.now c.args.regions.now) (world_in c.args.store.now c.args.regions.now) (resolved_view c.args.q.now) c.args.w.lo c.args.w.hi b
    (c.can_hold_alone.ensures never b one) t)
