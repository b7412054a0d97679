-- Users are answered by a run.
use Rattle.std.proofs.Common.{◌≡◌, ℕ, true, List, ◌++◌, Option, Some, refl, ap, sym, subst, ◌∙◌, if◌then◌else◌}
use Rattle.std.specs.Prelude.{unwrap_or}
use Rattle.line_loop.specs.declared.ending.Ending.{Ending}
use Rattle.line_loop.specs.declared.ending.Ending.TheVariants as endings
use Rattle.line_loop.specs.Ending as loop
use Rattle.line_loop.specs.Machine.{Failures}
use Rattle.line_loop.specs.Run.{output}
use Rattle.line_loop.specs.Stop.{IsAt, Point}
use Rattle.std.proofs.lemmas.List.{append_cancel_left}
use Rattle.run_ends.specs.Ends.{Seen}
use Rattle.feeds_meaning.specs.Hub.{Hub, empty_hub, machine}
use Rattle.feeds_meaning.specs.HeardLaw.{HearsTheView}
use Rattle.feeds_run.specs.Ends.{EndsFeedAs, feed_may_end}
use Rattle.run_ends.specs.Ends.{says_all}
use Rattle.feeds_run.specs.Status.{feed_status, run_status}
use Rattle.feeds_run.specs.Theorem.{FeedsAs, TellsViews}
use Rattle.feeds_run.specs.Whole.{lines_shared, whole_feed}
use Rattle.feeds_run.specs.Words.{Shared}
use Rattle.feeds_run.specs.declared.status.FeedStatus.{FeedStatus}
use Rattle.feeds_run.specs.declared.status.FeedStatus.TheVariants.{Done, InputLimit}
use Rattle.feeds_run.proofs.EndLemmas.{answered_cause, answered_taken, no_rise, whole_by_status}

-- what the read loop promises of users, whatever a failure leaves of them
pub record Answers (leaves : Failures Hub) (limit : ℕ) (first now : Option Hub) (before after : Seen) (ending : Ending) : Type 0 where
  pub is_empty : first ≡ Some empty_hub
  pub none_before : before.faults.context ≡ 0
  pub none_after : after.faults.context ≡ 0
  pub cause : loop.EndsWithCause ending before.faults after.faults
  pub taken : (bytes : List ℕ) → before.left ≡ Some bytes → loop.KeepsLimit limit bytes ending after.left
  pub ends : (start : Point Hub) (bytes : List ℕ) → IsAt start first before.written → before.left ≡ Some bytes →
      loop.HasEnding machine leaves limit start bytes ending now after.written after.left

abbrev begins : List ℕ → Point Hub
begins written = record { state = empty_hub; written = written }

fits : (ending : Ending) → feed_may_end Shared (feed_status ending) ≡ true
fits endings.Done = refl
fits endings.ReadFault = refl
fits endings.WriteFault = refl
fits endings.ContextFault = refl
fits endings.NoMemory = refl
fits endings.InputLimit = refl

module _ (leaves : Failures Hub) (limit : ℕ) (first now : Option Hub) (before after : Seen) where
  ends_by : (ending : Ending) (bytes written : List ℕ) → loop.EndsWithCause ending before.faults after.faults →
      before.faults.context ≡ 0 → after.faults.context ≡ 0 →
      loop.HasEnding machine leaves limit (begins written) bytes ending now after.written after.left →
      EndsFeedAs Shared limit bytes written (feed_status ending) after
  ends_by endings.Done bytes written cause was is h = record {
    status_is = ap (λ cut. if cut then InputLimit else Done) (sym h.whole);
    output = h.reached.has_written;
  }
  ends_by endings.ReadFault bytes written cause was is h = record {
    count = h.count;
    within = h.within;
    taken = h.taken;
    output = h.reached.has_written;
    going_on = refl;
  }
  ends_by endings.WriteFault bytes written cause was is h = (h.count, h.proper, h.has_written)
  ends_by endings.ContextFault bytes written cause was is h = absurd (no_rise before.faults.context after.faults.context was is cause.0)
  ends_by endings.NoMemory bytes written cause was is h = (h.count, h.has_written)
  ends_by endings.InputLimit bytes written cause was is h = record {
    status_is = ap (λ cut. if cut then InputLimit else Done) (sym h.cut);
    output = h.reached.has_written;
  }

  -- what is written of all lines tells each user's view
  tells : HearsTheView → (status : FeedStatus) (bytes written said : List ℕ) → EndsFeedAs Shared limit bytes written status after →
      says_all (run_status status) ≡ true → after.written ≡ Some (written ++ said) → TellsViews (lines_shared limit bytes) said
  tells hears status bytes written said ends all told =
      let output = (whole_by_status Shared limit bytes written after status all ends).output in
      let same : written ++ said ≡ written ++ (whole_feed Shared limit bytes).output
      = ap (λ o. unwrap_or o (written ++ said)) (sym told ∙ output) in
      subst (TellsViews (lines_shared limit bytes)) (sym (append_cancel_left written said (whole_feed Shared limit bytes).output same))
      (λ user letters. hears user (lines_shared limit bytes) letters)

  pub answered_runs : (ending : Ending) (status : FeedStatus) → HearsTheView → status ≡ feed_status ending →
      Answers leaves limit first now before after ending → FeedsAs limit Shared before after status
  answered_runs ending status hears is a = subst (λ (s : FeedStatus). FeedsAs limit Shared before after s) (sym is) (record {
    fits = fits ending;
    cause = answered_cause ending before.faults after.faults a.none_before a.none_after a.cause;
    taken = λ bytes left_is. answered_taken ending limit bytes after.left (a.taken bytes left_is);
    ends = ends;
    users = λ bytes written said left_is written_is is all told.
        tells hears (feed_status ending) bytes written said (ends bytes written left_is written_is) all told;
  })
    where
      ends : (bytes written : List ℕ) → before.left ≡ Some bytes → before.written ≡ Some written → EndsFeedAs Shared limit bytes written (feed_status ending) after
      ends bytes written left_is written_is =
          ends_by ending bytes written a.cause a.none_before a.none_after
          (a.ends (begins written) bytes (record { in_state = a.is_empty; has_written = written_is }) left_is)
