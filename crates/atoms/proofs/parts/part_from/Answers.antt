use Rattle.std.proofs.Common.{◌∙◌, refl, sym, arith}
use Rattle.courses.specs.Parts.{epochs_of_each}
use Rattle.courses.proofs.PartLemmas.{length-epochs_of_each}
use Rattle.atoms.specs.Parts.{IsSteadyEpoch}
use Rattle.atoms.proofs.NamingLemmas.{steady_each}
use Rattle.atoms.proofs.PartLemmas.{begun_timelines, each_beside, state_shown}
use Rattle.atoms.proofs.parts.part_from.Goals as goal

pub returns-clause-part : goal.returns-clause-part
returns-clause-part c =
    let common = c.common_for-common.result in
    let span = common.span in
    let part = c.common_for-common.ensures.part in
    record {
      begins = part.begins;
      within = part.within;
      of_variables = refl;
      as_asked = refl;
      shown = λ v t from up_to.
          state_shown c.args.variables.now (epochs_of_each c.args.timelines.now) common.epochs v t
          (c.requires.same ∙ sym (length-epochs_of_each c.args.timelines.now)) (λ k. c.common_for-common.ensures.epochs k t from up_to);
      steady = λ v p is.
          each_beside (λ q. IsSteadyEpoch c.args.asked q span.lo span.hi) c.args.variables.now common.epochs v
          (λ k. steady_each c.args.asked _ k span.lo span.hi (c.common_for-common.ensures.steady k)) p is;
      fewer = λ some begun.
          c.common_for-common.ensures.fewer (omega (arith, some, length-epochs_of_each c.args.timelines.now))
          (begun_timelines c.args.variables.now c.args.timelines.now common.epochs c.args.at c.requires.ascending c.requires.same
          (λ k. c.common_for-common.ensures.epochs k c.args.at (omega (arith, part.begins)) (omega (arith, part.begins, span.ordered))) begun);
      not_more = c.common_for-common.ensures.not_more;
    }
