use Rattle.std.proofs.Common.{◌≤◌, sym, ap, subst, ◌∙◌, arith}
use Rattle.plane.specs.Boxes.{Grid, slice_first, slice_last}
use Rattle.plane_index.specs.Index.{fresh_at}
use Rattle.plane_index.proofs.BackLemmas.{written_back}
use Rattle.plane_index.proofs.MarkLemmas.{all_marked, in_order, none_marked, AreEnds}
use Rattle.plane_index.proofs.finding.marked.Goals as goal

pub mark_in-requires-clause-first : goal.mark_in-requires-clause-first
mark_in-requires-clause-first c =
    let g = c.args.states.now.grid in
    let first = c.slice_of-first.ensures.slice in
    let last = c.slice_of-last.ensures.slice in
    let are : AreEnds c.grid.result.now c.args.w.lo c.args.w.hi c.slice_of-first.result c.slice_of-last.result = record {
      begins = first.0;
      begun = first.1;
      ending = subst (λ (grid : Grid). slice_first grid c.slice_of-last.result ≤ c.args.w.hi) (c.grid-2.ensures ∙ sym c.grid.ensures) last.0;
      ends = subst (λ (grid : Grid). c.args.w.hi ≤ slice_last grid c.slice_of-last.result) (c.grid-2.ensures ∙ sym c.grid.ensures) last.1;
      inside = c.slice_of-last.ensures.bound;
    } in
    in_order c.grid.result.now c.args.w.lo c.args.w.hi c.slice_of-first.result c.slice_of-last.result are c.args.w.ordered

pub returns-clause-marks : goal.returns-clause-marks
returns-clause-marks c =
    let g = c.args.states.now.grid in
    let first = c.slice_of-first.ensures.slice in
    let last = c.slice_of-last.ensures.slice in
    let are : AreEnds g c.args.w.lo c.args.w.hi c.slice_of-first.result c.slice_of-last.result = record {
      begins = subst (λ (grid : Grid). slice_first grid c.slice_of-first.result ≤ c.args.w.lo) c.grid.ensures first.0;
      begun = subst (λ (grid : Grid). c.args.w.lo ≤ slice_last grid c.slice_of-first.result) c.grid.ensures first.1;
      ending = subst (λ (grid : Grid). slice_first grid c.slice_of-last.result ≤ c.args.w.hi) c.grid-2.ensures last.0;
      ends = subst (λ (grid : Grid). c.args.w.hi ≤ slice_last grid c.slice_of-last.result) c.grid-2.ensures last.1;
      inside = c.slice_of-last.ensures.bound;
    } in
    let kept = c.mark_in.ensures.length in
    let items = c.in_ok-resize.ensures.items in
    let size = c.in_ok-resize.ensures.len in
    let ok = c.resize.new.self.ok in
    let there = c.deref_mut.ensures.value in
    let here = c.deref_mut.ensures.len in
    λ k below.
    ap (λ marks. fresh_at marks k) (written_back c.mark_in.new.marks c.resize.new.self.items c.resize.new.self.len (kept ∙ here) (omega (arith, ok)))
    ∙ c.mark_in.ensures.marks k (omega (arith, below, here, size))
    ∙ all_marked g c.args.w.lo c.args.w.hi c.slice_of-first.result c.slice_of-last.result c.args.asked.now c.args.states.now.states (fresh_at c.deref_mut.result.now k) k are
    (ap (λ marks. fresh_at marks k) there ∙ none_marked c.resize.new.self.items c.new-marks.result.items c.new-marks.result.len c.args.count k c.new-marks.ensures.items
    c.new-marks.ensures.len items below)
