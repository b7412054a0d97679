use Rattle.std.proofs.Common.{◌≤◌, ◌+◌, ◌∙◌, ◌∷◌, [], sym, subst, arith}
use Rattle.line_loop.specs.Kept.{IsKeptLine}
use Rattle.line_loop.specs.Spending.{total_cost}
use Rattle.line_loop.specs.Stop.{Stops, Takes}
use Rattle.line_loop.proofs.LinesLemmas.{kept_unended, last_is}
use Rattle.line_loop.proofs.GatherLemmas.{gathers_nothing, sends_all}
use Rattle.line_loop.proofs.run.finish.Goals as goal

pub returns-in-Err-clause-takes : goal.returns-in-Err-clause-takes
returns-in-Err-clause-takes g c = λ start begun at begins.
    let r = g.H.Handler in
    let kept : IsKeptLine r.LONGEST c.unended-last.result.now begun =
    subst (λ k. IsKeptLine r.LONGEST k begun) (sym (c.unended-last.ensures ∙ begins)) (kept_unended r.LONGEST begun) in
    subst (λ ls. Stops r.machine r.leaves start ls c.in-Err.stop (r.state c.answer_line.new.handler c.answer_line.new.context) (g.K.Sink.written c.answer_line.new.sink))
    (sym (last_is r.LONGEST c.unended-last.result.now begun (c.unended-last.ensures ∙ begins) (sym c.is_empty.ensures ∙ c.if-is_empty.false)))
    (c.in-Err.ensures.collects start [] begun (gathers_nothing r.machine r.leaves start (r.state c.args.handler.now c.args.context.now) (g.K.Sink.written c.args.sink.now) c.args.replies.now.items c.requires.none at) kept)

pub returns-clause-takes : goal.returns-clause-takes
returns-clause-takes g c = λ start begun at begins.
    let r = g.H.Handler in
    let kept : IsKeptLine r.LONGEST c.unended-last.result.now begun =
    subst (λ k. IsKeptLine r.LONGEST k begun) (sym (c.unended-last.ensures ∙ begins)) (kept_unended r.LONGEST begun) in
    subst (λ ls. Takes r.machine r.leaves start ls c.send.result (r.state c.answer_line.new.handler c.answer_line.new.context) (g.K.Sink.written c.send.new.sink))
    (sym (last_is r.LONGEST c.unended-last.result.now begun (c.unended-last.ensures ∙ begins) (sym c.is_empty.ensures ∙ c.if-is_empty.false)))
    (sends_all r.machine r.leaves start (begun ∷ []) (r.state c.answer_line.new.handler c.answer_line.new.context) (g.K.Sink.written c.answer_line.new.sink) c.answer_line.new.replies.items
    (c.in_default.ensures.collects start [] begun (gathers_nothing r.machine r.leaves start (r.state c.args.handler.now c.args.context.now) (g.K.Sink.written c.args.sink.now) c.args.replies.now.items c.requires.none at) kept)
    c.send.result c.send.new.replies.items (g.K.Sink.written c.send.new.sink) c.send.ensures.sends c.send.ensures.few)

pub returns-in-Err-clause-spends : goal.returns-in-Err-clause-spends
returns-in-Err-clause-spends g c = λ now begun at begins.
    let r = g.H.Handler in
    let kept : IsKeptLine r.LONGEST c.unended-last.result.now begun =
    subst (λ k. IsKeptLine r.LONGEST k begun) (sym (c.unended-last.ensures ∙ begins)) (kept_unended r.LONGEST begun) in
    subst (λ ls. r.spent c.answer_line.new.handler ≤ r.spent c.args.handler.now + total_cost r.machine r.cost now ls)
    (sym (last_is r.LONGEST c.unended-last.result.now begun (c.unended-last.ensures ∙ begins) (sym c.is_empty.ensures ∙ c.if-is_empty.false)))
    (c.in-Err.ensures.spends now begun at kept)

pub returns-clause-spends : goal.returns-clause-spends
returns-clause-spends g c = λ now begun at begins.
    let r = g.H.Handler in
    let kept : IsKeptLine r.LONGEST c.unended-last.result.now begun =
    subst (λ k. IsKeptLine r.LONGEST k begun) (sym (c.unended-last.ensures ∙ begins)) (kept_unended r.LONGEST begun) in
    subst (λ ls. r.spent c.answer_line.new.handler ≤ r.spent c.args.handler.now + total_cost r.machine r.cost now ls)
    (sym (last_is r.LONGEST c.unended-last.result.now begun (c.unended-last.ensures ∙ begins) (sym c.is_empty.ensures ∙ c.if-is_empty.false)))
    (c.in_default.ensures.spends now begun at kept)

pub returns-then-is_empty-clause-spends : goal.returns-then-is_empty-clause-spends
returns-then-is_empty-clause-spends g c = λ now begun at begins. omega arith
