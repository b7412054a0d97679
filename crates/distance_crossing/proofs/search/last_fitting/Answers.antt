use Rattle.std.proofs.Common.{◌≡◌, ◌-◌, ◌/◌, false, sym, ◌∙◌, arith}
use Rattle.distance_crossing.specs.Trials.{fit_at}
use Rattle.distance_crossing.proofs.TrialLemmas.{last_sooner, last_found, gapless_trial}
use Rattle.distance_crossing.proofs.search.last_fitting.Goals as goal

pub loop-low-preserved : goal.loop-low-preserved
loop-low-preserved c =
    let middle = c.loop-low.high - (c.loop-low.high - c.loop-low.low) / 2 in
    let passes : fit_at c.args.m.now middle ≡ false = sym c.fits_at.ensures ∙ c.if-fits_at.false in
    last_sooner (fit_at c.args.m.now) c.args.found c.args.last c.loop-low.low c.loop-low.high middle (gapless_trial c.args.m.now) c.loop-low.invariant (omega arith) (omega arith) passes

pub returns-clause-last : goal.returns-clause-last
returns-clause-last c =
    last_found (fit_at c.args.m.now) c.args.found c.args.last c.loop-low.low c.loop-low.high (gapless_trial c.args.m.now) c.loop-low.invariant c.loop-low-test.false c.requires.fits
