use Rattle.std.proofs.Common.{sym, ap, ◌∙◌, arith}
use Rattle.std.specs.Prelude.{int_lt}
use Rattle.plane.specs.Boxes.{Grid, strips_between}
use Rattle.plane_index.specs.Index.{fresh_at}
use Rattle.plane_index.proofs.CandidateLemmas.{not_less, told}
use Rattle.plane_index.proofs.index.PlaneIndex.candidates.Goals as goal

pub returns : goal.returns
returns c =
    let was = c.self.inside in
    let counted = c.len.ensures in
    let ok = was.ids.ok in
    told (λ found. found.items) c.found_among.result was.states.grid was.ids.items c.deref.result.now was.fresh.items c.deref-2.result.now was.states.states c.args.self.now
    c.args.lo c.args.hi c.args.w.lo c.args.w.hi c.len.result c.between-asked.result c.self.view_is c.deref.ensures.value (omega (arith, counted, ok))
    (record {
      asked_is = c.between-asked.ensures.value ∙ ap (λ (grid : Grid). strips_between grid.width c.args.lo c.args.hi) c.grid.ensures;
      small = c.between-asked.ensures.size;
      order = not_less (int_lt c.args.hi c.args.lo) _ (sym c.lt.ensures ∙ c.if-lt.false);
      met = λ k below. ap (λ marks. fresh_at marks k) c.deref-2.ensures.value ∙ c.in_ok-marks.ensures.marks k below;
    })
    c.found_among.ensures
