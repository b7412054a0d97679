use Rattle.std.proofs.Common.{◌≡◌, ◌/◌, true, false, ap, ◌∙◌, inl, inr, arith}
use Rattle.std.specs.Prelude.{slice_index_or}
use Rattle.std.proofs.lemmas.Bool.{cases_lt, not-false, not-true}
use Rattle.kept_rows.proofs.filled.Filled.past_none.Goals as goal

pub groups-preserved : goal.groups-preserved
groups-preserved c =
    let unset : slice_index_or c.args.self.now.groups.items (c.groups.number / 1024) true ≡ false =
    grind (arith, not-true, not-false, c.is_unset.ensures, c.if-not-is_unset.false, c.deref.ensures.value) in
    record {
      least = omega (arith, c.groups.invariant.least);
      most = omega (arith, c.groups-test.true, c.ranges.to.fits);
      none = λ rows filled n t h k.
          elim (cases_lt n c.groups.number) [
            | inl l ↦ c.groups.invariant.none rows filled n t h l
            | inr l ↦
                let e : n / 1024 ≡ c.groups.number / 1024 = omega (arith, l, k) in
                filled n t (ap (λ i. slice_index_or c.args.self.now.groups.items i true) e ∙ unset)
          ];
    }
