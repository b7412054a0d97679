use Rattle.std.proofs.Common.{◌≡◌, ◌<◌, ◌||◌, sym, ap, subst, ◌∙◌, arith}
use Rattle.std.proofs.lemmas.List.{take_all}
use Rattle.tick_set.specs.Runs.{spans_have}
use Rattle.tick_set.specs.declared.spans.Span.{Span}
use Rattle.nearest.proofs.FoundLemmas.{past_next, spans_more}
use Rattle.nearest.proofs.found.append_all.Goals as goal

pub append-requires : goal.append-requires
append-requires c = record {
  past = λ x some t had.
      let same : c.span-item.result ≡ x = cc in
      subst (λ (s : Span). t < s.lo) same
      (past_next (spans_have c.args.runs.now) c.args.more.now c.spans.span-index c.span-item.result c.requires.normal (omega arith) c.span-item.is
      c.requires.past t (sym (c.spans.invariant t) ∙ had));
}

pub spans-preserved : goal.spans-preserved
spans-preserved c = λ t.
    spans_more (spans_have c.args.runs.now) c.args.more.now c.spans.span-index t c.span-item.result _ _ (omega arith) c.span-item.is
    (c.spans.invariant t) (c.in_ok-append.ensures.ticks t)

pub returns : goal.returns
returns c = λ t.
    c.spans.invariant t ∙ ap (λ xs. spans_have c.args.runs.now t || spans_have xs t) (take_all c.spans.span-index c.args.more.now (omega arith))
