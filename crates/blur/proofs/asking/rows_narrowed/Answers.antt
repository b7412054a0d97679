use Rattle.std.proofs.Common.{◌≡◌, List, ℕ, ◌+◌, ◌-◌, ap, sym, subst, ◌∙◌, arith}
use Rattle.std.specs.Prelude.{IfSome}
use Rattle.tick_set.specs.Runs.{spans_have}
use Rattle.formula.specs.Tree.{resolved_view}
use Rattle.narrowing.specs.Narrowed.{SufficeWithin}
use Rattle.relation.specs.Frames.{Frame, frame_of}
use Rattle.relation.specs.Key.{has_id, ids_of_variable}
use Rattle.relation.specs.Rows.{table_has}
use Rattle.answers.proofs.NarrowLemmas.{fewer_reads, rows_among}
use Rattle.blur.specs.Answered.{holds_blurred}
use Rattle.blur.specs.Asked.{slack_of}
use Rattle.blur.proofs.NarrowLemmas.{blurred_sound}
use Rattle.blur.proofs.asking.rows_narrowed.Goals as goal

pub returns-clause-rows : goal.returns-clause-rows
returns-clause-rows g c =
    let x = c.args.setting.now.world.now in
    let s = x.store.now in
    let q = resolved_view c.args.q.now in
    let w = c.args.setting.now.w in
    let suffice : SufficeWithin (slack_of x.blur.sure x.blur.error) s x.regions.now q w.lo w.hi c.args.d.now c.in-Some.some =
    subst (λ error. SufficeWithin error s x.regions.now q w.lo w.hi c.args.d.now c.in-Some.some) c.slack-slack.ensures
    (subst (λ found. IfSome found (λ some. SufficeWithin c.slack-slack.result s x.regions.now q w.lo w.hi c.args.d.now some)) c.in-Some.is c.in_ok-some.ensures) in
    let own : c.in_ok-rows-2.rows.domains ≡ c.in-Some.some = ap (λ (f : Frame). f.domains) c.in_ok-rows-2.ensures.rows.frame in
    record {
      ticks = rows_among s q w.lo w.hi c.args.d.now c.in-Some.some c.requires.domains suffice.wider (holds_blurred x q w.hi)
          (blurred_sound c.worlds_lie_between.ensures.between x q w.lo w.hi c.args.d.now c.in-Some.some suffice) (λ b t. table_has spans_have c.in_ok-made.made b t)
          (λ b here t. c.in_ok-made.ensures.ticks b t ∙ c.in_ok-rows-2.ensures.rows.ticks b here t)
          (λ b t there v among.
          ap (λ (d : List (List ℕ)). has_id (ids_of_variable d v) (b v)) (sym own)
          ∙ c.in_ok-made.ensures.inside b t there v (ap (λ (vars : List ℕ). has_id vars v) c.in_ok-rows-2.ensures.rows.vars ∙ among));
      vars = c.in_ok-made.ensures.vars ∙ c.in_ok-rows-2.ensures.rows.vars;
      frame = c.in_ok-made.ensures.frame ∙ ap (λ (f : Frame). frame_of c.args.d.now f.lo f.hi) c.in_ok-rows-2.ensures.rows.frame;
    }

pub returns-clause-reads : goal.returns-clause-reads
returns-clause-reads g c = record {
  least = omega arith;
  most = (let suffice : SufficeWithin c.slack-slack.result c.args.setting.now.world.now.store.now c.args.setting.now.world.now.regions.now (resolved_view c.args.q.now) c.args.setting.now.w.lo c.args.setting.now.w.hi c.args.d.now c.in-Some.some =
      subst (λ found. IfSome found (λ some. SufficeWithin c.slack-slack.result c.args.setting.now.world.now.store.now c.args.setting.now.world.now.regions.now (resolved_view c.args.q.now) c.args.setting.now.w.lo c.args.setting.now.w.hi c.args.d.now some)) c.in-Some.is c.in_ok-some.ensures in
      fewer_reads (resolved_view c.args.q.now) c.args.d.now c.in-Some.some suffice.fewer
      (c.args.setting.now.w.hi + 1 - c.args.setting.now.w.lo) _ _ c.in_ok-rows-2.ensures.reads.most);
}

pub returns-in_err-made-clause-reads : goal.returns-in_err-made-clause-reads
returns-in_err-made-clause-reads g c = record {
  least = omega arith;
  most = (let suffice : SufficeWithin c.slack-slack.result c.args.setting.now.world.now.store.now c.args.setting.now.world.now.regions.now (resolved_view c.args.q.now) c.args.setting.now.w.lo c.args.setting.now.w.hi c.args.d.now c.in-Some.some =
      subst (λ found. IfSome found (λ some. SufficeWithin c.slack-slack.result c.args.setting.now.world.now.store.now c.args.setting.now.world.now.regions.now (resolved_view c.args.q.now) c.args.setting.now.w.lo c.args.setting.now.w.hi c.args.d.now some)) c.in-Some.is c.in_ok-some.ensures in
      fewer_reads (resolved_view c.args.q.now) c.args.d.now c.in-Some.some suffice.fewer
      (c.args.setting.now.w.hi + 1 - c.args.setting.now.w.lo) _ _ c.in_ok-rows-2.ensures.reads.most);
}

pub returns-in_err-rows-2-clause-reads : goal.returns-in_err-rows-2-clause-reads
returns-in_err-rows-2-clause-reads g c = record {
  least = omega arith;
  most = (let suffice : SufficeWithin c.slack-slack.result c.args.setting.now.world.now.store.now c.args.setting.now.world.now.regions.now (resolved_view c.args.q.now) c.args.setting.now.w.lo c.args.setting.now.w.hi c.args.d.now c.in-Some.some =
      subst (λ found. IfSome found (λ some. SufficeWithin c.slack-slack.result c.args.setting.now.world.now.store.now c.args.setting.now.world.now.regions.now (resolved_view c.args.q.now) c.args.setting.now.w.lo c.args.setting.now.w.hi c.args.d.now some)) c.in-Some.is c.in_ok-some.ensures in
      fewer_reads (resolved_view c.args.q.now) c.args.d.now c.in-Some.some suffice.fewer
      (c.args.setting.now.w.hi + 1 - c.args.setting.now.w.lo) _ _ c.in_err-rows-2.ensures.reads.most);
}
