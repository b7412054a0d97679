use Rattle.std.proofs.Common.{◌≡◌, ◌+◌, ◌-◌, ◌/◌, false, sym, ◌∙◌, arith}
use Rattle.distance_crossing.specs.Trials.{fit_at}
use Rattle.distance_crossing.proofs.TrialLemmas.{first_later, first_found, gapless_trial}
use Rattle.distance_crossing.proofs.search.first_fitting.Goals as goal

pub loop-low-preserved : goal.loop-low-preserved
loop-low-preserved c =
    let middle = c.loop-low.low + (c.loop-low.high - c.loop-low.low) / 2 in
    let passes : fit_at c.args.m.now middle ≡ false = sym c.fits_at.ensures ∙ c.if-fits_at.false in
    first_later (fit_at c.args.m.now) c.args.first c.args.found c.loop-low.low c.loop-low.high middle (gapless_trial c.args.m.now) c.loop-low.invariant (omega arith) (omega arith) passes

pub returns-clause-first : goal.returns-clause-first
returns-clause-first c =
    first_found (fit_at c.args.m.now) c.args.first c.args.found c.loop-low.low c.loop-low.high (gapless_trial c.args.m.now) c.loop-low.invariant c.loop-low-test.false c.requires.fits
