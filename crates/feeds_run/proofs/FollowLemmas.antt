-- A replica hears the lines of a run.
use Rattle.std.proofs.Common.{inl, inr, ◌≡◌, ◌≢◌, ℕ, Bool, true, false, List, ◌++◌, [], ◌∷◌, take, length, Option, Some, Result, Ok, Err, refl, ap, sym, subst, ◌∙◌, append-nil, if◌then◌else◌, arith}
use Rattle.std.specs.Prelude.{is_some, unwrap_or}
use Rattle.std.proofs.lemmas.Grind.{common_steps}
use Rattle.outside.specs.declared.fault.OutFail.{OutFail}
use Rattle.outside.specs.declared.fault.OutFail.TheVariants as fails
use Rattle.outside.specs.Faults.{Rose, HasCauseOrNoMemory}
use Rattle.line_loop.specs.declared.ending.Ending.{Ending}
use Rattle.line_loop.specs.declared.ending.Ending.TheVariants as endings
use Rattle.line_loop.specs.Ending as loop
use Rattle.line_loop.specs.Ending.{Counts, StaysWithin}
use Rattle.line_loop.specs.Lines.{ended_lines}
use Rattle.line_loop.specs.Machine.{after as after_all, replies}
use Rattle.line_loop.specs.Run.{answered_lines}
use Rattle.line_loop.specs.Stop.{IsAt, Point, WritesAll, WritesPart}
use Rattle.run_ends.specs.Ends.{Seen}
use Rattle.run_ends.specs.Saying.{status_said}
use Rattle.run_ends.specs.declared.status.Status.TheVariants as statuses
use Rattle.replica.specs.Feed.{Hearing, hearing_after, next_hearing, said, silent}
use Rattle.feeds_run.specs.Ends.{EndsFeedAs, IsFeedPart, IsWholeFeed, KeepsFeedLimit, feed_may_end}
use Rattle.feeds_run.specs.Following.{following_leaves, following_machine}
use Rattle.feeds_run.specs.Parts.{TellsHeard, heard_end}
use Rattle.run_ends.specs.Status.{HasStatusCause, ending_by}
use Rattle.feeds_run.specs.Status.{said_as, feed_status, run_status}
use Rattle.feeds_run.specs.Theorem.{FeedsAs}
use Rattle.feeds_run.specs.Whole.{WholeFeed, heard_of, whole_feed}
use Rattle.feeds_run.specs.Words.{FeedWords, Followed}
use Rattle.feeds_run.specs.declared.status.FeedStatus.{FeedStatus}
use Rattle.feeds_run.specs.declared.status.FeedStatus.TheVariants.{Done, BadFeed, ReadFault, WriteFault, NoMemory, InputLimit}
use Rattle.feeds_run.proofs.EndLemmas.{answered_cause, answered_taken, no_rise, nothing_written}

-- ---- The machine, and the fold of a feed

silent_machine : (h : Hearing) (lines : List (List ℕ)) → replies following_machine h lines ≡ []
silent_machine h [] = refl
silent_machine h (line ∷ lines) =
    elim (is_some h.bad) as (λ b. (if b then [] else replies following_machine (next_hearing h line) lines) ≡ [])
    [ true ↦ refl | false ↦ silent_machine (next_hearing h line) lines ]

-- a feed that is bad stays as it is
stays_bad : (h : Hearing) (lines : List (List ℕ)) → is_some h.bad ≡ true → hearing_after h lines ≡ h
stays_bad h [] bad = refl
stays_bad h (line ∷ lines) bad =
    let same : next_hearing h line ≡ h = rw bad in
    ap (λ k. hearing_after k lines) same ∙ stays_bad h lines bad

same_fold : (h : Hearing) (lines : List (List ℕ)) → after_all following_machine h lines ≡ hearing_after h lines
same_fold h [] = refl
same_fold h (line ∷ lines) =
    elim (is_some h.bad) as (λ b. is_some h.bad ≡ b → (if b then h else after_all following_machine (next_hearing h line) lines) ≡ hearing_after (next_hearing h line) lines)
    [ true ↦ λ bad. sym (stays_bad h (line ∷ lines) bad) | false ↦ λ bad. same_fold (next_hearing h line) lines ] refl

-- nothing was written where no line has a reply
unwritten : (written : List ℕ) (h : Hearing) (lines : List (List ℕ)) → written ++ replies following_machine h lines ≡ written
unwritten written h lines = ap (λ r. written ++ r) (silent_machine h lines) ∙ append-nil written

no_part : (count : ℕ) → take {A = ℕ} count [] ≡ []
no_part count = grind (arith, common_steps)

-- ---- The read loop

-- what the read loop promises of a replica, from one on and with another in the end
pub record Hears (limit : ℕ) (name : List ℕ) (first now : Hearing) (before hearing_after : Seen) (ending : Ending) : Type 0 where
  pub is_silent : first ≡ silent name
  pub none_before : before.faults.context ≡ 0
  pub none_after : hearing_after.faults.context ≡ 0
  pub cause : loop.EndsWithCause ending before.faults hearing_after.faults
  pub taken : (bytes : List ℕ) → before.left ≡ Some bytes → loop.KeepsLimit limit bytes ending hearing_after.left
  pub ends : (start : Point Hearing) (bytes : List ℕ) → IsAt start (Some first) before.written → before.left ≡ Some bytes →
      loop.HasEnding following_machine following_leaves limit start bytes ending (Some now) hearing_after.written hearing_after.left

abbrev begins : (name written : List ℕ) → Point Hearing
begins name written = record { state = silent name; written = written }

begins_at : (name written : List ℕ) (first : Hearing) (told : Option (List ℕ)) → first ≡ silent name → told ≡ Some written →
    IsAt (begins name written) (Some first) told
begins_at name written first told is_silent is = record { in_state = ap Some is_silent; has_written = is }

fits : (name : List ℕ) (ending : Ending) → feed_may_end (Followed name) (feed_status ending) ≡ true
fits name endings.Done = refl
fits name endings.ReadFault = refl
fits name endings.WriteFault = refl
fits name endings.ContextFault = refl
fits name endings.NoMemory = refl
fits name endings.InputLimit = refl

module _ (limit : ℕ) (name : List ℕ) (first now : Hearing) (before hearing_after : Seen) where
  abbrev by_cut : List ℕ → Bool → WholeFeed
  by_cut bytes cut =
      if cut then record { output = []; status = InputLimit }
      else record { output = said (heard_of name limit bytes); status = heard_end (heard_of name limit bytes) }

  ends_by : (ending : Ending) (bytes written : List ℕ) → ending ≢ endings.Done → loop.EndsWithCause ending before.faults hearing_after.faults →
      before.faults.context ≡ 0 → hearing_after.faults.context ≡ 0 →
      loop.HasEnding following_machine following_leaves limit (begins name written) bytes ending (Some now) hearing_after.written hearing_after.left →
      EndsFeedAs (Followed name) limit bytes written (feed_status ending) hearing_after
  ends_by endings.Done bytes written other cause was is h = absurd (other refl)
  ends_by endings.ReadFault bytes written other cause was is h = record {
    count = h.count;
    within = h.within;
    taken = h.taken;
    output = h.reached.has_written ∙ ap Some (unwritten written (silent name) (ended_lines (take h.count bytes)) ∙ sym (append-nil written));
    going_on = ap (λ k. is_some k.bad) (sym (same_fold (silent name) (ended_lines (take h.count bytes)))) ∙ h.going_on;
  }
  ends_by endings.WriteFault bytes written other cause was is h =
      let none = ap length (silent_machine (silent name) (answered_lines following_machine limit (silent name) bytes)) in
      absurd (grind (arith, none, h.proper))
  ends_by endings.ContextFault bytes written other cause was is h = absurd (no_rise before.faults.context hearing_after.faults.context was is cause.0)
  ends_by endings.NoMemory bytes written other cause was is h =
      nothing_written (Followed name) limit bytes written hearing_after
      (h.has_written ∙ ap (λ r. Some (written ++ take h.count r)) (silent_machine (silent name) (answered_lines following_machine limit (silent name) bytes)) ∙ ap (λ r. Some (written ++ r)) (no_part h.count) ∙ ap Some (append-nil written))
  ends_by endings.InputLimit bytes written other cause was is h = record {
    status_is = ap (λ cut. (by_cut bytes cut).status) (sym h.cut);
    output = h.reached.has_written ∙ ap Some (unwritten written (silent name) (answered_lines following_machine limit (silent name) bytes) ∙ sym (append-nil written))
        ∙ ap (λ cut. Some (written ++ (by_cut bytes cut).output)) (sym h.cut);
  }

  -- where the input wasn't heard to its end, or to a line that hasn't its form
  pub heard_runs : (ending : Ending) (status : FeedStatus) → ending ≢ endings.Done → status ≡ feed_status ending →
      Hears limit name first now before hearing_after ending → FeedsAs limit (Followed name) before hearing_after status
  heard_runs ending status other is h = subst (λ (s : FeedStatus). FeedsAs limit (Followed name) before hearing_after s) (sym is) (record {
    fits = fits name ending;
    cause = answered_cause ending before.faults hearing_after.faults h.none_before h.none_after h.cause;
    taken = λ bytes left_is. answered_taken ending limit bytes hearing_after.left (h.taken bytes left_is);
    ends = λ bytes written left_is written_is.
        ends_by ending bytes written other h.cause h.none_before h.none_after
        (h.ends (begins name written) bytes (begins_at name written first before.written h.is_silent written_is) left_is);
    users = λ bytes written told left_is written_is is all told_is. absurd (cc is);
  })

-- ---- What was heard is said

-- whether the feed is bad decides which status tells that all was said
said_fits : (name : List ℕ) (bad : Bool) → feed_may_end (Followed name) (if bad then BadFeed else Done) ≡ true
said_fits name true = refl
said_fits name false = refl

said_cause : (bad : Bool) (old new : Counts) → new ≡ old → HasStatusCause (run_status (if bad then BadFeed else Done)) old new
said_cause true old new same = same
said_cause false old new same = same

said_taken : (bad : Bool) (limit : ℕ) (bytes : List ℕ) (left : Option (List ℕ)) → StaysWithin limit bytes left →
    loop.KeepsLimit limit bytes (ending_by (run_status (if bad then BadFeed else Done))) left
said_taken true limit bytes left h = h
said_taken false limit bytes left h = h

said_ends : (words : FeedWords) (limit : ℕ) (bytes written : List ℕ) (hearing_after : Seen) (bad : Bool) →
    IsWholeFeed words limit bytes written (if bad then BadFeed else Done) hearing_after → EndsFeedAs words limit bytes written (if bad then BadFeed else Done) hearing_after
said_ends words limit bytes written hearing_after true h = h
said_ends words limit bytes written hearing_after false h = h

module _ (limit : ℕ) (name : List ℕ) (first h : Hearing) (before mid : Seen) (sink : ℕ) (written' : Option (List ℕ))
    (heard_all : Hears limit name first h before mid endings.Done) where
  -- the sink alone was asked after the lines were heard
  abbrev last : Seen
  last = record mid { faults = record mid.faults { sink = sink }; written = written' }

  module _ (bytes written : List ℕ) (left_is : before.left ≡ Some bytes) (written_is : before.written ≡ Some written) where
    done : loop.IsDone following_machine limit (begins name written) bytes (Some h) mid.written mid.left
    done = heard_all.ends (begins name written) bytes (begins_at name written first before.written heard_all.is_silent written_is) left_is

    heard_is : h ≡ heard_of name limit bytes
    heard_is =
        ap (λ o. unwrap_or o h) done.reached.in_state ∙ same_fold (silent name) (answered_lines following_machine limit (silent name) bytes)

    unwritten_yet : mid.written ≡ Some written
    unwritten_yet = done.reached.has_written ∙ ap Some (unwritten written (silent name) (answered_lines following_machine limit (silent name) bytes))

    whole_is : whole_feed (Followed name) limit bytes ≡ record { output = said h; status = heard_end h }
    whole_is =
        ap (by_cut limit name first h before mid bytes) done.whole
        ∙ ap (λ k. record { output = said k; status = heard_end k }) (sym heard_is)

    all_said : written' ≡ Some (written ++ said h) → EndsFeedAs (Followed name) limit bytes written (heard_end h) last
    all_said output = said_ends (Followed name) limit bytes written last (is_some h.bad) (record {
      status_is = ap (λ (w : WholeFeed). w.status) (sym whole_is);
      output = output ∙ ap (λ (w : WholeFeed). Some (written ++ w.output)) (sym whole_is);
    })

    part_said : WritesPart (said h) written written' → WritesPart (whole_feed (Followed name) limit bytes).output written written'
    part_said part = subst (λ (w : WholeFeed). WritesPart w.output written written') (sym whole_is) part

    in_part : WritesPart (said h) written written' → IsFeedPart (Followed name) limit bytes written last
    in_part part = let (count, lacks, is) = part_said part in (count, is)

  counts_stay : sink ≡ mid.faults.sink → last.faults ≡ before.faults
  counts_stay same = (λ i. record mid.faults { sink = same i }) ∙ heard_all.cause

  by_result : (result : Result (Unit {0}) OutFail) → HasCauseOrNoMemory mid.faults.sink sink result →
      ((written : List ℕ) → mid.written ≡ Some written → WritesAll (said h) written result written') →
      FeedsAs limit (Followed name) before last (said_as (heard_end h) (status_said statuses.Done result))
  by_result (Ok u) cause bytes_are = record {
    fits = said_fits name (is_some h.bad);
    cause = said_cause (is_some h.bad) before.faults last.faults (counts_stay cause);
    taken = λ bytes left_is. said_taken (is_some h.bad) limit bytes mid.left (heard_all.taken bytes left_is);
    ends = λ bytes written left_is written_is.
        all_said bytes written left_is written_is (bytes_are written (unwritten_yet bytes written left_is written_is));
    users = λ bytes written told left_is written_is is all told_is. absurd (cc is);
  }
  by_result (Err fails.Failed) cause bytes_are = record {
    fits = refl;
    cause = (
      subst (λ (k : Counts). Rose k.sink sink) heard_all.cause cause,
      ap (λ (k : Counts). k.source) heard_all.cause,
      ap (λ (k : Counts). k.context) heard_all.cause,
    );
    taken = λ bytes left_is. heard_all.taken bytes left_is;
    ends = λ bytes written left_is written_is.
        part_said bytes written left_is written_is (bytes_are written (unwritten_yet bytes written left_is written_is));
    users = λ bytes written told left_is written_is is all told_is. absurd (cc is);
  }
  by_result (Err fails.NoMemory) cause bytes_are = record {
    fits = refl;
    cause = counts_stay cause;
    taken = λ bytes left_is. heard_all.taken bytes left_is;
    ends = λ bytes written left_is written_is.
        in_part bytes written left_is written_is (bytes_are written (unwritten_yet bytes written left_is written_is));
    users = λ bytes written told left_is written_is is all told_is. absurd (cc is);
  }

  -- there was no memory for the text
  unsaid : sink ≡ mid.faults.sink → written' ≡ mid.written → FeedsAs limit (Followed name) before last NoMemory
  unsaid same stays = record {
    fits = refl;
    cause = counts_stay same;
    taken = λ bytes left_is. heard_all.taken bytes left_is;
    ends = λ bytes written left_is written_is.
        nothing_written (Followed name) limit bytes written last (stays ∙ unwritten_yet bytes written left_is written_is);
    users = λ bytes written told left_is written_is is all told_is. absurd (cc is);
  }

  by_telling : (status : FeedStatus) → TellsHeard h status mid.faults.sink sink mid.written written' →
      FeedsAs limit (Followed name) before last status
  by_telling status (inl t) =
      subst (λ (s : FeedStatus). FeedsAs limit (Followed name) before last s)
      (sym (t.status_is ∙ ap (said_as (heard_end h)) t.speaks.status_is))
      (by_result t.speaks.result t.speaks.cause t.speaks.bytes)
  by_telling status (inr (is, same, stays)) =
      subst (λ (s : FeedStatus). FeedsAs limit (Followed name) before last s) (sym is) (unsaid same stays)

pub told_runs : (limit : ℕ) (name : List ℕ) (first now h : Hearing) (before mid : Seen) (sink : ℕ) (written : Option (List ℕ)) (status : FeedStatus) →
    h ≡ now → Hears limit name first now before mid endings.Done → TellsHeard h status mid.faults.sink sink mid.written written →
    FeedsAs limit (Followed name) before (record mid { faults = record mid.faults { sink = sink }; written = written }) status
told_runs limit name first now h before mid sink written status same hears tells =
    by_telling limit name first h before mid sink written
    (subst (λ (k : Hearing). Hears limit name first k before mid endings.Done) (sym same) hears) status tells
