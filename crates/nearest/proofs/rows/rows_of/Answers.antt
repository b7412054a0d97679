use Rattle.std.proofs.Common.{◌≡◌, ◌<◌, ◌&&◌, ◌++◌, length, sym, ap, ◌∙◌, arith}
use Rattle.std.proofs.lemmas.List.{get_or_default}
use Rattle.tick_set.specs.Runs.{spans_have}
use Rattle.tick_set.specs.Ticks.{within}
use Rattle.nearest.specs.Courses.{is_near_along}
use Rattle.nearest.specs.Found.{runs_at}
use Rattle.nearest.specs.Rows.{if_some, object_row}
use Rattle.nearest.proofs.FoundLemmas.{near_at_own, own_index}
use Rattle.nearest.proofs.RowLemmas.{rows_more}
use Rattle.nearest.proofs.rows.rows_of.Goals as goal

pub index-runs-requires : goal.index-runs-requires
index-runs-requires c =
    let inside = own_index c.objects.o-index c.args.courses.now c.o-item.result c.requires (omega arith) c.o-item.is in
    let count = c.in_ok-found.ensures.length in
    omega (arith, inside, count)

pub objects-preserved : goal.objects-preserved
objects-preserved c =
    let i = c.objects.o-index in
    let o = c.o-item.result in
    let target = c.args.aim.now.target.now in
    let courses = c.args.courses.now in
    let k = c.args.aim.now.k in
    let w = c.args.w in
    let found = c.in_ok-found.found.items in
    let count = c.in_ok-found.ensures.length in
    let inside : o.index < length courses = own_index i courses o c.requires (omega arith) c.o-item.is in
    let runs : c.spans.result.now ≡ runs_at found o.index =
    c.spans.ensures.value ∙ c.index-runs.ensures ∙ get_or_default found o.index _ _ (omega (arith, inside, count)) in
    c.in_ok-add_row.ensures (is_near_along target courses k o) w
    (λ t.
    ap (λ spans. spans_have spans t) runs
    ∙ c.in_ok-found.ensures.found o.index t inside
    ∙ ap (λ b. within w.lo w.hi t && b) (near_at_own target k t i courses o c.requires (omega arith) c.o-item.is))
    ∙ ap (λ rows. rows ++ if_some (object_row o.id (is_near_along target courses k o) w)) c.objects.invariant
    ∙ sym (rows_more target courses k w i o (omega arith) c.o-item.is)
