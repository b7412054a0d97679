use Rattle.std.proofs.Common.{ℕ, ◌&&◌, [], slice_index, refl, ap, ◌∙◌, sym, subst}
use Rattle.tick_set.specs.Ticks.{within}
use Rattle.formula.specs.Tree.{formula_view}
use Rattle.formula.specs.Variables.{has_variable}
use Rattle.meaning.specs.Satisfaction.{sat}
use Rattle.relation.specs.Rows.{table}
use Rattle.evaluator.specs.Interpreting.{IsInFor}
use Rattle.evaluator.specs.Keys.{binding_of}
use Rattle.evaluator.specs.inner.ByBinding.{CanAskHere, holds_at}
use Rattle.evaluator.proofs.AtomLemmas.{inside_at}
use Rattle.evaluator.proofs.ByKeyLemmas.{can_ask_at}
use Rattle.evaluator.proofs.FillingLemmas.{filled_put, fits_inside, fits_lies}
use Rattle.evaluator.proofs.by_key.put_row.Goals as goal

pub ticks_of-requires : goal.ticks_of-requires
ticks_of-requires g c =
    let f = formula_view c.args.scene.now.formula.now in
    let vars = c.args.scene.now.variables.now in
    let here : IsInFor c.args.made.now.domains (λ v. has_variable v f) (slice_index (binding_of vars c.args.key)) =
    inside_at (λ v. has_variable v f) c.requires.over vars c.requires.vars c.args.made.now.domains c.args.key c.requires.inside in
    subst (λ (b : ℕ → ℕ). CanAskHere (g.I.Interpreter.interpretation c.args.scene.now.source.now b) (g.I.Interpreter.atom_fits c.args.scene.now.source.now c.args.scene.now.window.lo c.args.scene.now.window.hi b) (g.I.Interpreter.term_fits c.args.scene.now.source.now c.args.scene.now.window.lo c.args.scene.now.window.hi b) c.args.scene.now.window.lo c.args.scene.now.window.hi f c.args.scene.now.values.now)
    (sym c.binding_at-binding.ensures)
    (can_ask_at (g.I.Interpreter.interpretation c.args.scene.now.source.now) (g.I.Interpreter.atom_fits c.args.scene.now.source.now c.args.scene.now.window.lo c.args.scene.now.window.hi) (g.I.Interpreter.term_fits c.args.scene.now.source.now c.args.scene.now.window.lo c.args.scene.now.window.hi) c.args.made.now.domains c.args.scene.now.window.lo c.args.scene.now.window.hi (slice_index (binding_of vars c.args.key)) f c.args.scene.now.values.now c.requires.can here)

pub put-requires-clause-inside : goal.put-requires-clause-inside
put-requires-clause-inside g c =
    fits_inside (table c.args.scene.now.variables.now c.args.made.now.domains c.args.scene.now.window.lo c.args.scene.now.window.hi []) c.args.made.now c.requires.head c.args.scene.now.variables.now c.args.made.now.domains c.args.scene.now.window.lo c.args.scene.now.window.hi refl c.args.key c.requires.inside

pub put-requires-clause-lies : goal.put-requires-clause-lies
put-requires-clause-lies g c =
    fits_lies (table c.args.scene.now.variables.now c.args.made.now.domains c.args.scene.now.window.lo c.args.scene.now.window.hi []) c.args.made.now c.requires.head c.args.scene.now.variables.now c.args.made.now.domains c.args.scene.now.window.lo c.args.scene.now.window.hi refl g.S.TickSet.member c.in_ok-ticks.ticks
    (sat (g.I.Interpreter.interpretation c.args.scene.now.source.now (slice_index c.binding_at-binding.result)) (formula_view c.args.scene.now.formula.now) c.args.scene.now.values.now c.args.scene.now.window.hi) c.in_ok-ticks.ensures.ticks

pub returns-clause-rows : goal.returns-clause-rows
returns-clause-rows g c =
    filled_put g.S.TickSet.member (holds_at (g.I.Interpreter.interpretation c.args.scene.now.source.now) c.args.scene.now.variables.now c.args.scene.now.window.lo c.args.scene.now.window.hi (formula_view c.args.scene.now.formula.now) c.args.scene.now.values.now)
    c.args.key c.in_ok-ticks.ticks c.args.made.now c.put.new.self
    (λ t. c.in_ok-ticks.ensures.ticks t
    ∙ ap (λ (b : ℕ → ℕ). within c.args.scene.now.window.lo c.args.scene.now.window.hi t && sat (g.I.Interpreter.interpretation c.args.scene.now.source.now b) (formula_view c.args.scene.now.formula.now) c.args.scene.now.values.now c.args.scene.now.window.hi t) c.binding_at-binding.ensures)
    c.in_ok-put.ensures.head c.in_ok-put.ensures.ticks c.in_ok-put.ensures.keys
