use Rattle.std.proofs.Common.{◌&&◌, Some, sym, ◌∙◌}
use Rattle.geometry.specs.Plane.{squared_distance}
use Rattle.meaning.specs.Atom.{distance_holds}
use Rattle.tick_set.specs.Ticks.{within}
use Rattle.atoms.specs.Routes.{place_along}
use Rattle.atoms.proofs.RunLemmas.{within_same}
use Rattle.atoms.proofs.routes.ticks_apart.Goals as goal
use Rattle.distance_crossing.proofs.FarLemmas.{distance_above}

pub returns-then-keep_apart : goal.returns-then-keep_apart
returns-then-keep_apart c = record {
  normal = c.all_or_none.ensures.normal;
  ticks = λ t.
      let w = c.args.w in
      let p = place_along c.args.first.now t in
      let q = place_along c.args.second.now t in
      c.all_or_none.ensures.ticks t
      ∙ (λ i. within (c.span.ensures.0 i) (c.span.ensures.1 i) t && c.holds.result)
      ∙ within_same w.lo w.hi t c.holds.result (distance_holds c.args.op c.args.c (Some p) (Some q))
      (λ from up_to.
      c.holds.ensures.value
      ∙ sym (distance_above c.args.op c.args.c (squared_distance p q) (λ least. c.keep_apart.ensures c.if-keep_apart.true t from up_to least)));
}
