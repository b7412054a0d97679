use Rattle.std.proofs.Common.{◌≡◌, ◌<◌, length, ap, ◌∙◌, arith}
use Rattle.std.proofs.lemmas.Bool.Decides.{nat_tests}
use Rattle.std.proofs.lemmas.List.{get_or_default, get_or-set_other, length-set}
use Rattle.plane.specs.Boxes.{strips_meet}
use Rattle.plane_index.specs.Held.{kept_strips}
use Rattle.plane_index.specs.Lines.{strips_as}
use Rattle.plane_index.specs.States.{no_state, strips_at, strips_by_state}
use Rattle.plane_index.specs.declared.state.State.{State}
use Rattle.plane_index.proofs.ColumnLemmas.{mark_more}
use Rattle.plane_index.proofs.states.mark_rest.Goals as goal

pub places-preserved : goal.places-preserved
places-preserved c =
    let now = c.places.invariant in
    let test = c.places-test.true in
    let grid = c.args.grid.now in
    let states = c.args.states.now in
    let place = c.places.place in
    let count = now.count in
    let room = c.requires.room in
    let from = now.from in
    let below : place < length c.places.marks = grind (arith, nat_tests, test) in
    let state = c.index-states-place.is ∙ get_or_default states place _ no_state (omega (arith, below, count, room)) in
    let met : c.meets.result ≡ strips_meet (strips_as c.args.asked.now) (strips_at grid states place c.args.s) =
    c.meets.ensures ∙ ap (strips_meet (strips_as c.args.asked.now)) (c.cover.ensures ∙ ap (λ (p : State). kept_strips (strips_by_state p grid c.args.s)) state) in
    record {
      from = omega (arith, from);
      count = length-set c.places.marks place _ ∙ count;
      marked =
          mark_more (λ k. strips_meet (strips_as c.args.asked.now) (strips_at grid states k c.args.s)) c.args.from place c.args.marks.now c.places.marks c.meets.result from below met
          now.marked now.rest;
      before = λ k under. get_or-set_other c.places.marks place k _ _ (λ e. omega (arith, e, under, from)) ∙ now.before k under;
      rest = λ k past. get_or-set_other c.places.marks place k _ _ (λ e. omega (arith, e, past)) ∙ now.rest k (omega (arith, past));
    }
