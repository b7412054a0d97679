-- What a run blames and takes, and when it is whole.
use Rattle.std.proofs.Common.{inl, inr, ◌≡◌, ◌⊎◌, ℕ, true, List, Option, Some, Result, Ok, Err, refl, ap, sym, subst, ◌∙◌, append-nil, arith}
use Rattle.outside.specs.declared.fault.OutFail.{OutFail}
use Rattle.outside.specs.declared.fault.OutFail.TheVariants as fails
use Rattle.outside.specs.Faults.{HasCauseOrNoMemory, Rose}
use Rattle.line_loop.specs.declared.ending.Ending.{Ending}
use Rattle.line_loop.specs.declared.ending.Ending.TheVariants as endings
use Rattle.line_loop.specs.Ending as loop
use Rattle.line_loop.specs.Ending.{Counts}
use Rattle.line_loop.specs.Stop.{WritesAll}
use Rattle.domino_run.specs.Whole.{bad_words}
use Rattle.run_ends.specs.Ends.{NoneRose, Seen}
use Rattle.run_ends.specs.Saying.{status_said}
use Rattle.run_ends.specs.declared.status.Status.TheVariants as statuses
use Rattle.feeds_run.specs.Ends.{EndsFeedAs, IsFeedPart, IsWholeFeed}
use Rattle.feeds_run.specs.Parts.{TellsAtTheEnd}
use Rattle.run_ends.specs.Status.{HasStatusCause, ending_by}
use Rattle.run_ends.specs.Ends.{says_all}
use Rattle.feeds_run.specs.Status.{said_as, feed_status, run_status}
use Rattle.feeds_run.specs.Theorem.{FeedsAs}
use Rattle.feeds_run.specs.Whole.{whole_feed}
use Rattle.feeds_run.specs.Words.{FeedWords, Bad}
use Rattle.feeds_run.specs.declared.status.FeedStatus.{FeedStatus}
use Rattle.feeds_run.specs.declared.status.FeedStatus.TheVariants.{Done, BadWords, BadFeed, ReadFault, WriteFault, NoMemory, InputLimit}

pub no_rise : (old new : ℕ) → old ≡ 0 → new ≡ 0 → Rose old new → ⊥
no_rise old new was is rose = grind (arith, was, is, rose)

-- where there is no context, it isn't blamed
pub answered_cause : (ending : Ending) (old new : Counts) → old.context ≡ 0 → new.context ≡ 0 → loop.EndsWithCause ending old new →
    HasStatusCause (run_status (feed_status ending)) old new
answered_cause endings.Done old new was is h = h
answered_cause endings.ReadFault old new was is h = h
answered_cause endings.WriteFault old new was is h = h
answered_cause endings.ContextFault old new was is h = absurd (no_rise old.context new.context was is h.0)
answered_cause endings.NoMemory old new was is h = h
answered_cause endings.InputLimit old new was is h = h

pub answered_taken : (ending : Ending) (limit : ℕ) (bytes : List ℕ) (left : Option (List ℕ)) → loop.KeepsLimit limit bytes ending left →
    loop.KeepsLimit limit bytes (ending_by (run_status (feed_status ending))) left
answered_taken endings.Done limit bytes left h = h
answered_taken endings.ReadFault limit bytes left h = h
answered_taken endings.WriteFault limit bytes left h = h
answered_taken endings.ContextFault limit bytes left h = h
answered_taken endings.NoMemory limit bytes left h = h
answered_taken endings.InputLimit limit bytes left h = h

-- nothing is a part of any output
pub nothing_written : (words : FeedWords) (limit : ℕ) (bytes written : List ℕ) (after : Seen) → after.written ≡ Some written →
    IsFeedPart words limit bytes written after
nothing_written words limit bytes written after same = (0, same ∙ ap Some (sym (append-nil written)))

module _ (words : FeedWords) (limit : ℕ) (bytes written : List ℕ) (after : Seen) where
  -- a status that says so is one of a whole run
  pub whole_by_status : (status : FeedStatus) → says_all (run_status status) ≡ true → EndsFeedAs words limit bytes written status after →
      IsWholeFeed words limit bytes written status after
  whole_by_status Done is h = h
  whole_by_status BadWords is h = h
  whole_by_status BadFeed is h = h
  whole_by_status ReadFault is h = absurd (cc is)
  whole_by_status WriteFault is h = absurd (cc is)
  whole_by_status NoMemory is h = absurd (cc is)
  whole_by_status InputLimit is h = h

  -- where no count of faults rose, it is the whole run, or there was no memory after a part
  pub whole_without_faults : (old : Counts) (status : FeedStatus) → NoneRose old after.faults → HasStatusCause (run_status status) old after.faults →
      EndsFeedAs words limit bytes written status after →
      IsWholeFeed words limit bytes written status after ⊎ ((status ≡ NoMemory) × IsFeedPart words limit bytes written after)
  whole_without_faults old Done none cause h = inl h
  whole_without_faults old BadWords none cause h = inl h
  whole_without_faults old BadFeed none cause h = inl h
  whole_without_faults old ReadFault none cause h = absurd (none.source cause.0)
  whole_without_faults old WriteFault none cause h = absurd (none.sink cause.0)
  whole_without_faults old NoMemory none cause h = inr (refl, h)
  whole_without_faults old InputLimit none cause h = inl h

-- ---- Bad words

module _ (limit : ℕ) (before : Seen) (sink : ℕ) (written' : Option (List ℕ)) where
  -- the sink alone was asked
  abbrev last : Seen
  last = record before { faults = record before.faults { sink = sink }; written = written' }

  by_result : (result : Result (Unit {0}) OutFail) → HasCauseOrNoMemory before.faults.sink sink result →
      ((written : List ℕ) → before.written ≡ Some written → WritesAll bad_words written result written') →
      FeedsAs limit Bad before last (said_as BadWords (status_said statuses.Done result))
  by_result (Ok u) cause bytes_are = record {
    fits = refl;
    cause = λ i. record before.faults { sink = cause i };
    taken = λ bytes left_is. left_is;
    ends = λ bytes written left_is written_is. record { status_is = refl; output = bytes_are written written_is };
    users = λ bytes written told left_is written_is is all told_is. absurd (cc is);
  }
  by_result (Err fails.Failed) cause bytes_are = record {
    fits = refl;
    cause = (cause, refl, refl);
    taken = λ bytes left_is. left_is;
    ends = λ bytes written left_is written_is. bytes_are written written_is;
    users = λ bytes written told left_is written_is is all told_is. absurd (cc is);
  }
  by_result (Err fails.NoMemory) cause bytes_are = record {
    fits = refl;
    cause = λ i. record before.faults { sink = cause i };
    taken = λ bytes left_is. left_is;
    ends = λ bytes written left_is written_is. let (count, lacks, is) = bytes_are written written_is in (count, is);
    users = λ bytes written told left_is written_is is all told_is. absurd (cc is);
  }

  pub bad_runs : (words : FeedWords) (status : FeedStatus) → words ≡ Bad →
      TellsAtTheEnd bad_words BadWords status before.faults.sink sink before.written written' → FeedsAs limit words before last status
  bad_runs words status is t =
      subst (λ (w : FeedWords). FeedsAs limit w before last status) (sym is)
      (subst (λ (s : FeedStatus). FeedsAs limit Bad before last s) (sym (t.status_is ∙ ap (said_as BadWords) t.speaks.status_is))
      (by_result t.speaks.result t.speaks.cause t.speaks.bytes))
