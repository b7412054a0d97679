use Rattle.std.proofs.Common.{arith}
use Rattle.interval_set.proofs.SpliceLemmas.{part_past, part_more, part_done, first_in_part}
use Rattle.interval_set.proofs.splice.append_part.Goals as goal

pub append-requires : goal.append-requires
append-requires c = record {
  past = λ x e t had.
      part_past _ _ _ _ _ _ _ _ c.spans.invariant c.in-Some.ensures.cases.0 c.max.result c.min.result c.max.ensures c.min.ensures t x.lo
      (first_in_part c.max.result c.min.result c.stretch.result x c.stretch.ensures.ticks e) had;
}

pub spans-preserved : goal.spans-preserved
spans-preserved c =
    part_more _ _ _ _ _ _ _ _ c.spans.invariant c.in-Some.ensures.cases.0 _ c.max.result c.min.result c.max.ensures c.min.ensures
    (λ u. grind (arith, c.in_ok-append.ensures.ticks u, c.stretch.ensures.ticks.ticks u))

pub returns-then-until-s : goal.returns-then-until-s
returns-then-until-s c = part_done _ _ _ _ _ _ _ _ c.spans.invariant c.in-Some.ensures.cases.0 c.if-until-s.true
