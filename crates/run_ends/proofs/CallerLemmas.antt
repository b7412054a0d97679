-- How a run ends, from what the read loop promises, or the write of what is said.
use Rattle.std.proofs.Common.{inl, inr, ◌≡◌, ℕ, Bool, true, false, List, ◌++◌, take, Option, Some, Result, Ok, Err, refl, ap, sym, ◌∙◌, if◌then◌else◌, append-nil, arith}
use Rattle.std.specs.Prelude.{option_map}
use Rattle.outside.specs.declared.fault.OutFail.{OutFail}
use Rattle.outside.specs.declared.fault.OutFail.TheVariants as fails
use Rattle.outside.specs.Faults.{HasCauseOrNoMemory}
use Rattle.outside.specs.Shelf.{Texts}
use Rattle.line_loop.specs.declared.ending.Ending.{Ending}
use Rattle.line_loop.specs.declared.ending.Ending.TheVariants as endings
use Rattle.line_loop.specs.Ending as loop
use Rattle.line_loop.specs.Ending.{Counts}
use Rattle.line_loop.specs.Machine.{Machine, Failures}
use Rattle.line_loop.specs.Stop.{WritesAll}
use Rattle.run_ends.specs.declared.status.Status.{Status}
use Rattle.run_ends.specs.declared.status.Status.TheVariants.{Done, BadWords, BadSession, ReadFault, WriteFault, ShelfFault, NoMemory, InputLimit}
use Rattle.run_ends.specs.Ends.{AnswersUntil, EndsAs, IsAsBefore, IsOutputPart, IsSaid, IsSaidInPart, IsWhole, IsWholeOrPart, NoneRose, Seen, Setting, says_all, whole_run_of}
use Rattle.run_ends.specs.Saying.{status_said}
use Rattle.run_ends.specs.Status.{HasStatusCause, ending_by, status_of}
use Rattle.run_ends.specs.Whole.{Plan, Says, Answers, Whole, whole_run}

-- ---- What is blamed, and what is taken

pub answered_cause : (ending : Ending) (old new : Counts) → loop.EndsWithCause ending old new → HasStatusCause (status_of ending) old new
answered_cause endings.Done old new h = h
answered_cause endings.ReadFault old new h = h
answered_cause endings.WriteFault old new h = h
answered_cause endings.ContextFault old new h = h
answered_cause endings.NoMemory old new h = h
answered_cause endings.InputLimit old new h = h

pub answered_taken : (ending : Ending) (limit : ℕ) (bytes : List ℕ) (left : Option (List ℕ)) → loop.KeepsLimit limit bytes ending left →
    loop.KeepsLimit limit bytes (ending_by (status_of ending)) left
answered_taken endings.Done limit bytes left h = h
answered_taken endings.ReadFault limit bytes left h = h
answered_taken endings.WriteFault limit bytes left h = h
answered_taken endings.ContextFault limit bytes left h = h
answered_taken endings.NoMemory limit bytes left h = h
answered_taken endings.InputLimit limit bytes left h = h

-- an ending that comes of no byte past the limit
abbrev pub is_within : Ending → Bool
is_within endings.InputLimit = false
is_within _ = true

pub takes_none : (ending : Ending) (limit : ℕ) (bytes : List ℕ) (left : Option (List ℕ)) → is_within ending ≡ true → left ≡ Some bytes →
    loop.KeepsLimit limit bytes ending left
takes_none endings.Done limit bytes left is same = (0, omega arith, record { there = omega arith; rest = same })
takes_none endings.ReadFault limit bytes left is same = (0, omega arith, record { there = omega arith; rest = same })
takes_none endings.WriteFault limit bytes left is same = (0, omega arith, record { there = omega arith; rest = same })
takes_none endings.ContextFault limit bytes left is same = (0, omega arith, record { there = omega arith; rest = same })
takes_none endings.NoMemory limit bytes left is same = (0, omega arith, record { there = omega arith; rest = same })
takes_none endings.InputLimit limit bytes left is same = absurd (cc is)

-- the statuses that something may be said with
abbrev pub is_saying : Status → Bool
is_saying Done = true
is_saying BadWords = true
is_saying BadSession = true
is_saying _ = false

saying_within : (end : Status) → is_saying end ≡ true → is_within (ending_by end) ≡ true
saying_within Done is = refl
saying_within BadWords is = refl
saying_within BadSession is = refl
saying_within ReadFault is = refl
saying_within WriteFault is = refl
saying_within ShelfFault is = refl
saying_within NoMemory is = refl
saying_within InputLimit is = is

pub said_within : (end : Status) (result : Result (Unit {0}) OutFail) → is_saying end ≡ true → is_within (ending_by (status_said end result)) ≡ true
said_within end (Ok u) is = saying_within end is
said_within end (Err fails.Failed) is = refl
said_within end (Err fails.NoMemory) is = refl

saying_cause : (end : Status) (old new : Counts) → is_saying end ≡ true → new ≡ old → HasStatusCause end old new
saying_cause Done old new is same = same
saying_cause BadWords old new is same = same
saying_cause BadSession old new is same = same
saying_cause ReadFault old new is same = absurd (cc is)
saying_cause WriteFault old new is same = absurd (cc is)
saying_cause ShelfFault old new is same = absurd (cc is)
saying_cause NoMemory old new is same = same
saying_cause InputLimit old new is same = same

pub said_cause : (end : Status) (result : Result (Unit {0}) OutFail) (old new : Counts) → is_saying end ≡ true →
    new.source ≡ old.source → new.context ≡ old.context → HasCauseOrNoMemory old.sink new.sink result → HasStatusCause (status_said end result) old new
said_cause end (Ok u) old new is source context same =
    saying_cause end old new is (λ i. record { source = source i; sink = same i; context = context i })
said_cause end (Err fails.Failed) old new is source context rose = (rose, source, context)
said_cause end (Err fails.NoMemory) old new is source context same =
    λ i. record { source = source i; sink = same i; context = context i }

-- ---- What is told of the end

module _ {T : Type 0} (m : Machine T) (leaves : Failures T) (tells : T → Texts) (g : Setting T) (after : Seen) where
  pub answered_ends : (ending : Ending) → AnswersUntil m leaves tells g ending after → EndsAs m leaves tells g (status_of ending) after
  answered_ends endings.Done h = inr h
  answered_ends endings.ReadFault h = h
  answered_ends endings.WriteFault h = inr h
  answered_ends endings.ContextFault h = inr h
  answered_ends endings.NoMemory h = inr h
  answered_ends endings.InputLimit h = h

  saying_ends : (end : Status) → is_saying end ≡ true → IsSaid g end after → EndsAs m leaves tells g end after
  saying_ends Done is h = inl h
  saying_ends BadWords is h = h
  saying_ends BadSession is h = h
  saying_ends ReadFault is h = absurd (cc is)
  saying_ends WriteFault is h = absurd (cc is)
  saying_ends ShelfFault is h = absurd (cc is)
  saying_ends NoMemory is h = absurd (cc is)
  saying_ends InputLimit is h = absurd (cc is)

  pub said_ends : (said : List ℕ) (end : Status) (result : Result (Unit {0}) OutFail) → is_saying end ≡ true → g.plan ≡ Says said end →
      WritesAll said g.written result after.written → after.left ≡ Some g.bytes → after.texts ≡ Some g.texts →
      EndsAs m leaves tells g (status_said end result) after
  said_ends said end (Ok u) is plan all unread stay =
      saying_ends end is (record { said = said; plan = plan; output = all; unread = unread; texts_stay = stay })
  said_ends said end (Err fails.Failed) is plan part unread stay =
      inl (record { said = said; end = end; plan = plan; part = part; unread = unread; texts_stay = stay })
  said_ends said end (Err fails.NoMemory) is plan part unread stay =
      inl (inr (record { said = said; end = end; plan = plan; part = part; unread = unread; texts_stay = stay }))

-- ---- The whole run

module _ {T : Type 0} (m : Machine T) (leaves : Failures T) (tells : T → Texts) (g : Setting T) (after : Seen) where
  abbrev by_plan : Plan T → Whole
  by_plan plan = whole_run m tells plan g.texts g.limit g.bytes

  said_whole : (status : Status) → IsSaid g status after → IsWhole m tells g status after
  said_whole status h =
      let all : whole_run_of m tells g ≡ by_plan (Says h.said status) = ap by_plan h.plan in record {
        status_is = sym (ap (λ (w : Whole). w.status) all);
        output = h.output ∙ ap (λ (w : Whole). Some (g.written ++ w.output)) (sym all);
        texts_are = h.texts_stay ∙ ap (λ (w : Whole). Some w.texts) (sym all);
      }

  done_whole : AnswersUntil m leaves tells g endings.Done after → IsWhole m tells g Done after
  done_whole h =
      let all : whole_run_of m tells g ≡ by_plan (Answers h.start) = ap by_plan h.plan in record {
        status_is = ap (λ cut. if cut then InputLimit else Done) (sym h.ends.whole) ∙ ap (λ (w : Whole). w.status) (sym all);
        output = h.ends.reached.has_written ∙ ap (λ (w : Whole). Some (g.written ++ w.output)) (sym all);
        texts_are = h.texts_are ∙ ap (option_map tells) h.ends.reached.in_state ∙ ap (λ (w : Whole). Some w.texts) (sym all);
      }

  limit_whole : AnswersUntil m leaves tells g endings.InputLimit after → IsWhole m tells g InputLimit after
  limit_whole h =
      let all : whole_run_of m tells g ≡ by_plan (Answers h.start) = ap by_plan h.plan in record {
        status_is = ap (λ cut. if cut then InputLimit else Done) (sym h.ends.cut) ∙ ap (λ (w : Whole). w.status) (sym all);
        output = h.ends.reached.has_written ∙ ap (λ (w : Whole). Some (g.written ++ w.output)) (sym all);
        texts_are = h.texts_are ∙ ap (option_map tells) h.ends.reached.in_state ∙ ap (λ (w : Whole). Some w.texts) (sym all);
      }

  nothing_part : IsAsBefore g after → IsOutputPart m tells g after
  nothing_part h = (0, h.unsaid ∙ ap Some (sym (append-nil g.written)))

  said_part : IsSaidInPart g after → IsOutputPart m tells g after
  said_part h =
      let all : whole_run_of m tells g ≡ by_plan (Says h.said h.end) = ap by_plan h.plan in
      let (count, lacks, part) = h.part in (count, part ∙ ap (λ (w : Whole). Some (g.written ++ take count w.output)) (sym all))

  answered_part : AnswersUntil m leaves tells g endings.NoMemory after → IsOutputPart m tells g after
  answered_part h =
      let all : whole_run_of m tells g ≡ by_plan (Answers h.start) = ap by_plan h.plan in
      (h.ends.count, h.ends.has_written ∙ ap (λ (w : Whole). Some (g.written ++ take h.ends.count w.output)) (sym all))

  -- where no count of faults rose, it is the whole run, or there was no memory after a part
  pub whole_without_faults : (old : Counts) (status : Status) → NoneRose old after.faults → HasStatusCause status old after.faults →
      EndsAs m leaves tells g status after → IsWholeOrPart m tells g status after
  whole_without_faults old Done none cause (inl h) = inl (said_whole Done h)
  whole_without_faults old Done none cause (inr h) = inl (done_whole h)
  whole_without_faults old BadWords none cause h = inl (said_whole BadWords h)
  whole_without_faults old BadSession none cause h = inl (said_whole BadSession h)
  whole_without_faults old ReadFault none cause h = absurd (none.source cause.0)
  whole_without_faults old WriteFault none cause h = absurd (none.sink cause.0)
  whole_without_faults old ShelfFault none cause h = absurd (none.context cause.0)
  whole_without_faults old NoMemory none cause (inl (inl h)) = inr (refl, nothing_part h)
  whole_without_faults old NoMemory none cause (inl (inr h)) = inr (refl, said_part h)
  whole_without_faults old NoMemory none cause (inr h) = inr (refl, answered_part h)
  whole_without_faults old InputLimit none cause h = inl (limit_whole h)

  -- a status that says so is one of a whole run, whatever rose
  pub whole_by_status : (status : Status) → says_all status ≡ true → EndsAs m leaves tells g status after → IsWhole m tells g status after
  whole_by_status Done is (inl h) = said_whole Done h
  whole_by_status Done is (inr h) = done_whole h
  whole_by_status BadWords is h = said_whole BadWords h
  whole_by_status BadSession is h = said_whole BadSession h
  whole_by_status ReadFault is h = absurd (cc is)
  whole_by_status WriteFault is h = absurd (cc is)
  whole_by_status ShelfFault is h = absurd (cc is)
  whole_by_status NoMemory is h = absurd (cc is)
  whole_by_status InputLimit is h = limit_whole h
