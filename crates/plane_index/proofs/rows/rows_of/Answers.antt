use Rattle.std.proofs.Common.{ℕ, ◌<◌, ◌++◌, length, get_or, sym, ◌∙◌, arith}
use Rattle.std.proofs.lemmas.Bool.Decides.{nat_tests}
use Rattle.std.proofs.lemmas.List.{get_or_default}
use Rattle.object_store.specs.Contents.{history_of}
use Rattle.plane_index.specs.Ticks.{runs_found}
use Rattle.plane_index.proofs.RowLemmas.{if_some, row_of_runs, rows_more}
use Rattle.plane_index.proofs.rows.rows_of.Goals as goal

pub objects-preserved : goal.objects-preserved
objects-preserved g c =
    let h = history_of c.args.store.now in
    let ids = c.args.ids.now in
    let i = c.objects.id-index in
    let test = c.objects-test.true in
    let below : i < length ids = grind (arith, nat_tests, test) in
    let id : ℕ = get_or ids i 0 in
    let now = c.objects.invariant in
    let row =
    row_of_runs h c.timeline-timeline.result.now c.args.bounds.now.attribute c.args.bounds.now.lo c.args.bounds.now.hi c.args.w.lo c.args.w.hi id (runs_found c.in_ok-found.found)
    c.timeline-timeline.ensures.state c.in_ok-found.ensures.runs in
    let step = c.timeline-timeline.ensures.step in
    let least = now.least in
    let most = now.most in
    record {
      rows =
          c.in_ok-add_row.ensures
          ∙ (λ j. now.rows j ++ if_some (row j))
          ∙ sym (rows_more h c.args.bounds.now.attribute c.args.bounds.now.lo c.args.bounds.now.hi c.args.w.lo c.args.w.hi i id ids below (get_or_default ids i 0 id below));
      least = omega (arith, step, least);
      most = omega (arith, step, most);
    }
