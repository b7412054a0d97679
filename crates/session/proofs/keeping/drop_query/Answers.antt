use Rattle.std.proofs.Common.{◌≡◌, [], ◌∷◌, ◌++◌, refl, ap, ◌∙◌, subst}
use Rattle.std.proofs.lemmas.Result.{err_from_is_err_and}
use Rattle.command_text.specs.Journal.{spelled}
use Rattle.command_text.specs.Tree.{command_view}
use Rattle.database.specs.Written.{writes_object}
use Rattle.session.proofs.KeepLemmas.{keeps_line}
use Rattle.session.proofs.QueryLemmas.{drop_done, drop_full, drop_lacks, drop_state, drop_unknown}
use Rattle.session.proofs.keeping.drop_query.Goals as goal

pub returns-then-not-has-clause-stopped : goal.returns-then-not-has-clause-stopped
returns-then-not-has-clause-stopped c =
    drop_unknown c.args.state.now c.requires.state (command_view c.args.command.now) c.args.name.now c.requires.is c.has.result c.has.ensures
    c.if-not-has.true

pub returns-in_err-admit-clause-stopped : goal.returns-in_err-admit-clause-stopped
returns-in_err-admit-clause-stopped c =
    let p = err_from_is_err_and c.from_residual.result c.from_residual.ensures.1 in
    rw (p.1, p.2)
    (drop_full c.args.state.now c.requires.state (command_view c.args.command.now) c.args.name.now c.requires.is c.has.result c.has.ensures c.if-not-has.false
    c.admit.new.line.items _ c.in_err-admit.ensures)

pub returns-in_err-enter-clause-stopped : goal.returns-in_err-enter-clause-stopped
returns-in_err-enter-clause-stopped c =
    let p = err_from_is_err_and c.from_residual-in_err-enter.result c.from_residual-in_err-enter.ensures.1 in
    rw p.1
    (drop_lacks c.args.state.now c.requires.state (command_view c.args.command.now) c.args.name.now c.requires.is c.has.result c.has.ensures c.if-not-has.false
    _ _ c.in_err-enter.ensures.err p.2)

pub returns-clause-state : goal.returns-clause-state
returns-clause-state c =
    drop_state c.args.state.now c.requires.state (command_view c.args.command.now) c.args.name.now c.requires.is c.has.result c.has.ensures c.if-not-has.false
    _ c.in_ok-admit.ensures _ c.clock.ensures spelled c.requires.legible.canonical _ c.requires.legible.printable c.requires.legible.short
    (subst (λ line. c.enter.new.journal ≡ c.args.state.now.journal ++ (c.clock.result, spelled line) ∷ []) c.deref.ensures.value
    c.in_ok-enter.ensures.entered) refl c.drop_query.ensures.others

pub returns-clause-accepted : goal.returns-clause-accepted
returns-clause-accepted c =
    drop_done c.args.state.now c.requires.state (command_view c.args.command.now) c.args.name.now c.requires.is c.has.result c.has.ensures c.if-not-has.false
    _ c.in_ok-admit.ensures _ c.clock.ensures spelled c.requires.legible.canonical _ _ _
    (subst (λ line. c.enter.new.journal ≡ c.args.state.now.journal ++ (c.clock.result, spelled line) ∷ []) c.deref.ensures.value c.in_ok-enter.ensures.entered)
    c.in_ok-enter.ensures.same

pub returns-clause-indexes : goal.returns-clause-indexes
returns-clause-indexes c =
    keeps_line c.args.state.now _ c.clock.result c.admit.new.line.items (command_view c.args.command.now)
    (ap writes_object c.requires.is) (ap spelled c.in_ok-admit.ensures.0 ∙ c.requires.legible.canonical)
    (subst (λ line. c.enter.new.journal ≡ c.args.state.now.journal ++ (c.clock.result, spelled line) ∷ []) c.deref.ensures.value
    c.in_ok-enter.ensures.entered) refl refl
