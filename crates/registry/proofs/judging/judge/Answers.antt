use Rattle.std.proofs.Common.{Option, sym, ◌∙◌, subst}
use Rattle.std.specs.Prelude.{IfErr}
use Rattle.command_text.specs.declared.refusal.Refusal.{Refusal}
use Rattle.ftl_parser.specs.Tree.{query_view}
use Rattle.database.specs.Telling.{IsStoppedBy}
use Rattle.registry.specs.declared.judging.Others.{Others}
use Rattle.formula.specs.declared.tree.RQuery.{RQuery}
use Rattle.formula.specs.Tree.{resolved_view}
use Rattle.registry.proofs.BesideLemmas.{live_beside}
use Rattle.registry.proofs.JudgeLemmas.{judged_by}
use Rattle.registry.proofs.judging.judge.Goals as goal

pub returns-clause-judged : goal.returns-clause-judged
returns-clause-judged c =
    let d = c.args.database.now in
    let r = c.args.request.now in
    let others : Others = record { taken = c.has.result; count = c.count.result; bindings = c.bindings.result } in
    judged_by d c.args.live.now r (λ (q : RQuery). resolved_view q) c.judge_beside.result c.judge_beside.ensures.query c.judge_beside.ensures.sound c.judge_beside.ensures.fits
    (λ ok.
    sym (live_beside d c.args.live.now c.are_kept.ensures c.requires.stand others r.name.now r.span (query_view r.query.now) c.has.ensures c.count.ensures c.bindings.ensures)
    ∙ c.judge_beside.ensures.right ok)

pub returns-clause-cause : goal.returns-clause-cause
returns-clause-cause c =
    let r = c.args.request.now in
    let others : Others = record { taken = c.has.result; count = c.count.result; bindings = c.bindings.result } in
    subst (λ (o : Option Refusal). IfErr c.judge_beside.result (λ fault. IsStoppedBy o fault))
    (live_beside c.args.database.now c.args.live.now c.are_kept.ensures c.requires.stand others r.name.now r.span (query_view r.query.now) c.has.ensures c.count.ensures c.bindings.ensures)
    c.judge_beside.ensures.cause
