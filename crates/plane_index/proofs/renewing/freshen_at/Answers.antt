use Rattle.std.proofs.Common.{◌<◌, length, sym, ap, ◌∙◌, arith}
use Rattle.std.proofs.lemmas.Bool.{false≢true}
use Rattle.plane_index.specs.Held.{kept_strips}
use Rattle.plane_index.specs.States.{strips_at, strips_by_state, States}
use Rattle.plane_index.specs.Told.{recorded_by}
use Rattle.plane.specs.Boxes.{Grid, strips_in}
use Rattle.plane_index.proofs.ColumnLemmas.{set_elsewhere, set_here}
use Rattle.plane_index.proofs.StoreLemmas.{told_along}
use Rattle.plane_index.proofs.renewing.freshen_at.Goals as goal

pub returns-clause-strips : goal.returns-clause-strips
returns-clause-strips g c =
    let old = c.args.states.now in
    let seen = c.requires.seen in
    let room = c.requires.room in
    let there : c.args.place < length old.states = omega (arith, seen, room) in
    record {
      grid = ap (λ (kept : States). kept.grid) c.set.ensures;
      others = λ k s apart. ap (λ (kept : States). strips_at kept.grid kept.states k s) c.set.ensures ∙ set_elsewhere old.grid old.states c.args.place k s c.of-state.result apart;
      kept = λ fresh s. absurd (false≢true (sym c.if-fresh-place.false ∙ fresh));
      right = λ stale s.
          ap (λ (kept : States). strips_at kept.grid kept.states c.args.place s) c.set.ensures
          ∙ set_here old.grid old.states c.args.place s c.of-state.result there
          ∙ ap (λ (grid : Grid). kept_strips (strips_by_state c.of-state.result grid s)) (sym c.grid.ensures)
          ∙ c.of-state.ensures.strips s
          ∙ ap kept_strips (sym (told_along c.args.store.now c.grid.result.now c.args.id s c.timeline-timeline.result.now c.timeline-timeline.ensures.timeline c.timeline-timeline.ensures.state))
          ∙ ap (λ (grid : Grid). kept_strips (strips_in (recorded_by c.args.store.now) grid c.args.id s)) c.grid.ensures;
    }
