use Rattle.std.proofs.Common.{◌≡◌, ◌==◌, ◌∙◌, ◌∷◌, [], ◌++◌, ap, sym, inl, length, arith}
use Rattle.std.specs.Str.Lines.{strip_carriage_return}
use Rattle.line_loop.specs.Kept.{IsKeptLine, kept_part}
use Rattle.line_loop.proofs.LinesLemmas.{kept_line, kept_none, ok_is}
use Rattle.line_loop.proofs.GatherLemmas.{memory_before}
use Rattle.line_loop.proofs.SpendingLemmas.{no_bytes}
use Rattle.line_loop.proofs.lines.answer_ended.Goals as goal

pub returns-then-is_err-clause-collects : goal.returns-then-is_err-clause-collects
returns-then-is_err-clause-collects g c = λ start before begun h kept.
    memory_before g.H.Handler.machine g.H.Handler.leaves start before (g.H.Handler.state c.args.handler.now c.args.context.now) (g.K.Sink.written c.args.sink.now) c.args.replies.now.items h (strip_carriage_return (begun ++ c.args.end.now) ∷ [])

pub returns-in-Err-clause-collects : goal.returns-in-Err-clause-collects
returns-in-Err-clause-collects g c = λ start before begun h kept.
    let extended = ok_is c.extend.result (sym c.is_err.ensures.value ∙ c.if-is_err.false) c.extend.ensures.extended in
    let whole : IsKeptLine g.H.Handler.LONGEST c.without_carriage_return-whole.result.now (strip_carriage_return (begun ++ c.args.end.now)) =
    kept_line g.H.Handler.LONGEST c.args.line.now.kept c.args.end.now begun c.without_carriage_return-whole.result.now kept
    (c.without_carriage_return-whole.ensures ∙ ap strip_carriage_return (c.unended-2.ensures ∙ ap (λ b. b.kept) extended
    ∙ ap (λ l. kept_part l (c.args.line.now.kept ++ c.args.end.now)) c.requires)) in
    c.in-Err.ensures.collects start before (strip_carriage_return (begun ++ c.args.end.now)) h whole

pub returns-clause-collects : goal.returns-clause-collects
returns-clause-collects g c = λ start before begun h kept.
    let extended = ok_is c.extend.result (sym c.is_err.ensures.value ∙ c.if-is_err.false) c.extend.ensures.extended in
    let whole : IsKeptLine g.H.Handler.LONGEST c.without_carriage_return-whole.result.now (strip_carriage_return (begun ++ c.args.end.now)) =
    kept_line g.H.Handler.LONGEST c.args.line.now.kept c.args.end.now begun c.without_carriage_return-whole.result.now kept
    (c.without_carriage_return-whole.ensures ∙ ap strip_carriage_return (c.unended-2.ensures ∙ ap (λ b. b.kept) extended
    ∙ ap (λ l. kept_part l (c.args.line.now.kept ++ c.args.end.now)) c.requires)) in
    c.in_default.ensures.collects start before (strip_carriage_return (begun ++ c.args.end.now)) h whole

pub returns-then-is_err-clause-spends : goal.returns-then-is_err-clause-spends
returns-then-is_err-clause-spends g c = λ now begun at kept. omega arith

pub returns-then-is_empty-clause-spends : goal.returns-then-is_empty-clause-spends
returns-then-is_empty-clause-spends g c = λ now begun at kept.
    let nothing : c.args.line.now.kept ≡ [] = no_bytes c.args.line.now.kept
    (sym (ap (λ l. length l == 0) c.unended.ensures) ∙ sym c.is_empty.ensures ∙ c.if-is_empty.true) in
    let none : begun ≡ [] = kept_none g.H.Handler.LONGEST begun (sym kept ∙ nothing) in
    c.answer_line.ensures.spends now (strip_carriage_return (begun ++ c.args.end.now)) at
    (inl (c.without_carriage_return.ensures ∙ ap (λ b. strip_carriage_return (b ++ c.args.end.now)) (sym none)))

pub returns-in-Err-clause-spends : goal.returns-in-Err-clause-spends
returns-in-Err-clause-spends g c = λ now begun at kept.
    let extended = ok_is c.extend.result (sym c.is_err.ensures.value ∙ c.if-is_err.false) c.extend.ensures.extended in
    let whole : IsKeptLine g.H.Handler.LONGEST c.without_carriage_return-whole.result.now (strip_carriage_return (begun ++ c.args.end.now)) =
    kept_line g.H.Handler.LONGEST c.args.line.now.kept c.args.end.now begun c.without_carriage_return-whole.result.now kept
    (c.without_carriage_return-whole.ensures ∙ ap strip_carriage_return (c.unended-2.ensures ∙ ap (λ b. b.kept) extended
    ∙ ap (λ l. kept_part l (c.args.line.now.kept ++ c.args.end.now)) c.requires)) in
    c.in-Err.ensures.spends now (strip_carriage_return (begun ++ c.args.end.now)) at whole

pub returns-clause-spends : goal.returns-clause-spends
returns-clause-spends g c = λ now begun at kept.
    let extended = ok_is c.extend.result (sym c.is_err.ensures.value ∙ c.if-is_err.false) c.extend.ensures.extended in
    let whole : IsKeptLine g.H.Handler.LONGEST c.without_carriage_return-whole.result.now (strip_carriage_return (begun ++ c.args.end.now)) =
    kept_line g.H.Handler.LONGEST c.args.line.now.kept c.args.end.now begun c.without_carriage_return-whole.result.now kept
    (c.without_carriage_return-whole.ensures ∙ ap strip_carriage_return (c.unended-2.ensures ∙ ap (λ b. b.kept) extended
    ∙ ap (λ l. kept_part l (c.args.line.now.kept ++ c.args.end.now)) c.requires)) in
    c.in_default.ensures.spends now (strip_carriage_return (begun ++ c.args.end.now)) at whole
