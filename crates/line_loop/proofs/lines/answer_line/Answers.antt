use Rattle.std.proofs.Common.{◌≡◌, ◌∙◌, ◌∷◌, [], sym, subst, false, arith}
use Rattle.outside.specs.Faults.{FailCounts}
use Rattle.line_loop.specs.Machine.{StepsAlike, after}
use Rattle.line_loop.specs.Gathered.{Gathers}
use Rattle.line_loop.proofs.GatherLemmas.{alike_kept, none_waits, sent_more, send_stops_before, nothing_more, answered, context_failed, memory_failed}
use Rattle.line_loop.proofs.SpendingLemmas.{line_spends}
use Rattle.line_loop.proofs.lines.answer_line.Goals as goal

pub returns-then-is_done-clause-collects : goal.returns-then-is_done-clause-collects
returns-then-is_done-clause-collects g c = λ start before line h kept.
    let m = g.H.Handler.machine in
    nothing_more m g.H.Handler.leaves start before (g.H.Handler.state c.args.handler.now c.args.context.now) (g.K.Sink.written c.args.sink.now) c.args.replies.now.items h line (sym (c.is_done.ensures c.args.context.now (after m start.state before) h.in_state) ∙ c.if-is_done.true)

pub returns-in-Err-clause-collects : goal.returns-in-Err-clause-collects
returns-in-Err-clause-collects g c = λ start before line h kept.
    send_stops_before g.H.Handler.machine g.H.Handler.leaves start before (g.H.Handler.state c.args.handler.now c.args.context.now) (g.K.Sink.written c.args.sink.now) c.args.replies.now.items h (line ∷ []) c.in-Err.stop
    (g.K.Sink.written c.send.new.sink) c.in-Err.ensures.sends

pub returns-in-Ok-clause-cause : goal.returns-in-Ok-clause-cause
returns-in-Ok-clause-cause g c = ((c.in_default.ensures.cause (g.H.Handler.faults c.args.context.now)).0, c.in-Ok.ensures.cause)

pub returns-in-Ok-clause-collects : goal.returns-in-Ok-clause-collects
returns-in-Ok-clause-collects g c = λ start before line h kept.
    let r = g.H.Handler in
    let now = after r.machine start.state before in
    let alike : StepsAlike r.machine r.leaves c.args.kept.now line = alike_kept r.machine r.leaves r.LONGEST c.args.kept.now line c.long_lines_step_alike.ensures.steps kept in
    let going_on : r.machine.done now ≡ false = sym (c.is_done.ensures c.args.context.now now h.in_state) ∙ c.if-is_done.false in
    let waits : Gathers r.machine start before (r.state c.args.handler.now c.args.context.now) (g.K.Sink.written c.send.new.sink) c.send.new.replies.items =
    sent_more r.machine r.leaves start before (r.state c.args.handler.now c.args.context.now) (g.K.Sink.written c.args.sink.now) c.args.replies.now.items h c.send.new.replies.items (g.K.Sink.written c.send.new.sink) c.in_default.ensures.sends in
    let step = c.in-Ok.ensures.step now h.in_state in
    answered r.machine r.leaves start before (r.state c.args.handler.now c.args.context.now) (g.K.Sink.written c.send.new.sink) c.send.new.replies.items waits line c.args.kept.now alike going_on
    (r.state c.answer.new.self c.answer.new.context) c.answer.new.out.items step.1 step.0

pub returns-in-Err-Failed-clause-cause : goal.returns-in-Err-Failed-clause-cause
returns-in-Err-Failed-clause-cause g c = (
  (c.in_default.ensures.cause (g.H.Handler.faults c.args.context.now)).0,
  subst (λ fail. FailCounts (g.H.Handler.faults c.args.context.now) (g.H.Handler.faults c.answer.new.context) fail) c.in-Err-Failed.field-0-is c.in-Err-Failed.ensures.cause,
)

pub returns-in-Err-Failed-clause-collects : goal.returns-in-Err-Failed-clause-collects
returns-in-Err-Failed-clause-collects g c = λ start before line h kept.
    let r = g.H.Handler in
    let now = after r.machine start.state before in
    let alike : StepsAlike r.machine r.leaves c.args.kept.now line = alike_kept r.machine r.leaves r.LONGEST c.args.kept.now line c.long_lines_step_alike.ensures.steps kept in
    let going_on : r.machine.done now ≡ false = sym (c.is_done.ensures c.args.context.now now h.in_state) ∙ c.if-is_done.false in
    let waits : Gathers r.machine start before (r.state c.args.handler.now c.args.context.now) (g.K.Sink.written c.send.new.sink) c.send.new.replies.items =
    sent_more r.machine r.leaves start before (r.state c.args.handler.now c.args.context.now) (g.K.Sink.written c.args.sink.now) c.args.replies.now.items h c.send.new.replies.items (g.K.Sink.written c.send.new.sink) c.in_default.ensures.sends in
    let told = r.state c.answer.new.self c.answer.new.context in
    let left = subst (λ fail. r.leaves fail now c.args.kept.now told) c.in-Err-Failed.field-0-is (c.in-Err-Failed.ensures.step now h.in_state) in
    let none = none_waits r.machine r.leaves c.asks.result c.most_waiting-most.result c.send.new.replies.items c.most_waiting-most.ensures c.in_default.ensures.few
    (λ never. c.asks.ensures c.args.context.now now told h.in_state never left) in
    context_failed r.machine r.leaves start before (r.state c.args.handler.now c.args.context.now) (g.K.Sink.written c.send.new.sink) c.send.new.replies.items waits line c.args.kept.now alike going_on told none left

pub returns-in-Err-NoMemory-clause-cause : goal.returns-in-Err-NoMemory-clause-cause
returns-in-Err-NoMemory-clause-cause g c = (
  (c.in_default.ensures.cause (g.H.Handler.faults c.args.context.now)).0,
  subst (λ fail. FailCounts (g.H.Handler.faults c.args.context.now) (g.H.Handler.faults c.answer.new.context) fail) c.in-Err-NoMemory.field-0-is c.in-Err-NoMemory.ensures.cause,
)

pub returns-in-Err-NoMemory-clause-collects : goal.returns-in-Err-NoMemory-clause-collects
returns-in-Err-NoMemory-clause-collects g c = λ start before line h kept.
    let r = g.H.Handler in
    let now = after r.machine start.state before in
    let alike : StepsAlike r.machine r.leaves c.args.kept.now line = alike_kept r.machine r.leaves r.LONGEST c.args.kept.now line c.long_lines_step_alike.ensures.steps kept in
    let going_on : r.machine.done now ≡ false = sym (c.is_done.ensures c.args.context.now now h.in_state) ∙ c.if-is_done.false in
    let waits : Gathers r.machine start before (r.state c.args.handler.now c.args.context.now) (g.K.Sink.written c.send.new.sink) c.send.new.replies.items =
    sent_more r.machine r.leaves start before (r.state c.args.handler.now c.args.context.now) (g.K.Sink.written c.args.sink.now) c.args.replies.now.items h c.send.new.replies.items (g.K.Sink.written c.send.new.sink) c.in_default.ensures.sends in
    let told = r.state c.answer.new.self c.answer.new.context in
    memory_failed r.machine r.leaves start before (r.state c.args.handler.now c.args.context.now) (g.K.Sink.written c.send.new.sink) c.send.new.replies.items waits line c.args.kept.now alike going_on told
    (subst (λ fail. r.leaves fail now c.args.kept.now told) c.in-Err-NoMemory.field-0-is (c.in-Err-NoMemory.ensures.step now h.in_state))

pub returns-in-Ok-clause-spends : goal.returns-in-Ok-clause-spends
returns-in-Ok-clause-spends g c = λ now line at kept.
    let r = g.H.Handler in
    line_spends r.machine r.cost r.LONGEST c.args.kept.now line now (r.spent c.args.handler.now) (r.spent c.answer.new.self)
    c.long_lines_step_alike.ensures.costs kept (sym (c.is_done.ensures c.args.context.now now at) ∙ c.if-is_done.false)
    (c.in-Ok.ensures.spends now at)

pub returns-in-Err-Failed-clause-spends : goal.returns-in-Err-Failed-clause-spends
returns-in-Err-Failed-clause-spends g c = λ now line at kept.
    let r = g.H.Handler in
    line_spends r.machine r.cost r.LONGEST c.args.kept.now line now (r.spent c.args.handler.now) (r.spent c.answer.new.self)
    c.long_lines_step_alike.ensures.costs kept (sym (c.is_done.ensures c.args.context.now now at) ∙ c.if-is_done.false)
    (c.in-Err-Failed.ensures.spends now at)

pub returns-in-Err-NoMemory-clause-spends : goal.returns-in-Err-NoMemory-clause-spends
returns-in-Err-NoMemory-clause-spends g c = λ now line at kept.
    let r = g.H.Handler in
    line_spends r.machine r.cost r.LONGEST c.args.kept.now line now (r.spent c.args.handler.now) (r.spent c.answer.new.self)
    c.long_lines_step_alike.ensures.costs kept (sym (c.is_done.ensures c.args.context.now now at) ∙ c.if-is_done.false)
    (c.in-Err-NoMemory.ensures.spends now at)

pub returns-then-is_done-clause-spends : goal.returns-then-is_done-clause-spends
returns-then-is_done-clause-spends g c = λ now line at kept. omega arith

pub returns-in-Err-clause-spends : goal.returns-in-Err-clause-spends
returns-in-Err-clause-spends g c = λ now line at kept. omega arith
