use Rattle.std.proofs.Common.{◌∙◌}
use Rattle.std.proofs.lemmas.Bool.{false≢true}
use Rattle.interval_set.proofs.SpanLemmas.{no_ticks}
use Rattle.interval_set.proofs.set.IntervalSetTickSet.meet.Goals as goal

pub returns-in_err-meet_of-clause-none_here : goal.returns-in_err-meet_of-clause-none_here
returns-in_err-meet_of-clause-none_here c = λ none.
    absurd (false≢true (c.in_err-meet_of.ensures.none_first (c.deref.ensures.value ∙ c.self.view_is ∙ no_ticks c.args.self.now none)))

pub returns-in_err-meet_of-clause-none_there : goal.returns-in_err-meet_of-clause-none_there
returns-in_err-meet_of-clause-none_there c = λ none.
    absurd (false≢true (c.in_err-meet_of.ensures.none_second (c.deref-2.ensures.value ∙ c.other.view_is ∙ no_ticks c.args.other.now none)))
