-- A run by its plan: what is said, or the lines that are answered.
use Rattle.std.proofs.Common.{inl, inr, ◌≡◌, ◌≤◌, ◌+◌, ℕ, Bool, true, false, List, Option, None, Some, Result, Ok, Err, refl, ap, sym, subst, ◌∙◌, arith}
use Rattle.std.specs.Prelude.{option_map}
use Rattle.outside.specs.declared.fault.OutFail.{OutFail}
use Rattle.outside.specs.declared.fault.OutFail.TheVariants as fails
use Rattle.outside.specs.Shelf.{Texts}
use Rattle.line_loop.specs.declared.ending.Ending.{Ending}
use Rattle.line_loop.specs.declared.ending.Ending.TheVariants as endings
use Rattle.line_loop.specs.Ending as loop
use Rattle.line_loop.specs.Stop.{IsAt, Point}
use Rattle.line_meaning.specs.Loading.{Loaded, Loading, loading_of}
use Rattle.line_meaning.specs.Step.{Held, held}
use Rattle.run_ends.specs.declared.status.Status.{Status}
use Rattle.run_ends.specs.declared.status.Status.TheVariants.{Done, BadWords, BadSession, ReadFault, WriteFault, ShelfFault, NoMemory, InputLimit}
use Rattle.run_ends.specs.Ends.{Seen}
use Rattle.run_ends.specs.Saying.{Speaks, status_said}
use Rattle.run_ends.specs.Status.{HasStatusCause, ending_by, status_of}
use Rattle.run_ends.specs.Whole.{Plan, Says, Answers}
use Rattle.run_ends.proofs.CallerLemmas.{answered_cause, answered_ends, is_saying, is_within, said_cause, said_ends, said_within, takes_none}
use Rattle.domino_run.specs.Ends.{KeepsLimitFor, TakesWithin, allows_status}
use Rattle.domino_run.specs.Looks.{LooksWithin, looks_of_input, looks_of_plan, looks_of_text}
use Rattle.domino_run.specs.Machine.{RunState, run_leaves, run_machine, texts_in, told_state}
use Rattle.domino_run.specs.Parts.{AnswersLines, BlamesShelf, OpenHasCause, Opens}
use Rattle.domino_run.specs.Theorem.{RunsAs, run_setting}
use Rattle.domino_run.specs.Whole.{plan_loaded, plan_of, plan_stored, started}
use Rattle.domino_run.specs.declared.opening.OpenFault.{OpenFault}
use Rattle.domino_run.specs.Words.{Words, Bad, Plain, Generated, Stored}

-- ---- Lines are answered

-- what the read loop promises
pub record Loops (h new : Held) (ended ended' : Bool) (limit : ℕ) (before after : Seen) (looks looks' : ℕ) (ending : Ending) : Type 0 where
  pub starts : ended ≡ false
  pub cause : loop.EndsWithCause ending before.faults after.faults
  pub taken : (bytes : List ℕ) → before.left ≡ Some bytes → loop.KeepsLimit limit bytes ending after.left
  pub ends : (start : Point RunState) (bytes : List ℕ) → IsAt start (told_state h ended before.texts) before.written →
      before.left ≡ Some bytes →
      loop.HasEnding run_machine run_leaves limit start bytes ending (told_state new ended' after.texts) after.written after.left
  pub spends : (start : Point RunState) (bytes : List ℕ) → IsAt start (told_state h ended before.texts) before.written →
      before.left ≡ Some bytes → looks' ≤ looks + looks_of_input start.state limit bytes

-- the texts are those that a state tells, where one is told
texts_told : (h : Held) (ended : Bool) (texts : Option Texts) → texts ≡ option_map texts_in (told_state h ended texts)
texts_told h ended None = refl
texts_told h ended (Some texts) = refl

pub lines_answered : (from h new : Held) (ended ended' : Bool) (limit : ℕ) (before after : Seen) (looks looks' : ℕ) (ending : Ending)
    (status : Status) → h ≡ from → status ≡ status_of ending → Loops h new ended ended' limit before after looks looks' ending →
    AnswersLines from limit before after looks looks' status
lines_answered from h new ended ended' limit before after looks looks' ending status same is l =
    subst (λ (h : Held). AnswersLines h limit before after looks looks' status) same (record {
      ending = ending;
      status_is = is;
      cause = l.cause;
      taken = l.taken;
      ends = λ bytes written texts left_is written_is texts_is. (
        told_state new ended' after.texts,
        texts_told new ended' after.texts,
        l.ends (record { state = started h texts; written = written }) bytes (starts texts written texts_is written_is) left_is,
      );
      within = λ bytes written texts left_is written_is texts_is.
          l.spends (record { state = started h texts; written = written }) bytes (starts texts written texts_is written_is) left_is;
    })
  where
    starts : (texts : Texts) (written : List ℕ) → before.texts ≡ Some texts → before.written ≡ Some written →
        IsAt (record { state = started h texts; written = written }) (told_state h ended before.texts) before.written
    starts texts written texts_is written_is = record {
      in_state = (λ i. told_state h (l.starts i) (texts_is i));
      has_written = written_is;
    }

-- the words that have the input answered
abbrev pub answers_input : Words → Bool
answers_input Bad = false
answers_input Plain = true
answers_input (Generated number) = false
answers_input (Stored name) = true

answering_fits : (words : Words) (ending : Ending) → answers_input words ≡ true → allows_status words (status_of ending) ≡ true
answering_fits Bad ending is = absurd (cc is)
answering_fits (Generated number) ending is = absurd (cc is)
answering_fits Plain endings.Done is = refl
answering_fits Plain endings.ReadFault is = refl
answering_fits Plain endings.WriteFault is = refl
answering_fits Plain endings.ContextFault is = refl
answering_fits Plain endings.NoMemory is = refl
answering_fits Plain endings.InputLimit is = refl
answering_fits (Stored name) endings.Done is = refl
answering_fits (Stored name) endings.ReadFault is = refl
answering_fits (Stored name) endings.WriteFault is = refl
answering_fits (Stored name) endings.ContextFault is = refl
answering_fits (Stored name) endings.NoMemory is = refl
answering_fits (Stored name) endings.InputLimit is = refl

answering_within : (ending : Ending) (limit : ℕ) (bytes : List ℕ) (left : Option (List ℕ)) → loop.KeepsLimit limit bytes ending left →
    TakesWithin limit bytes (status_of ending) left
answering_within endings.Done limit bytes left h = h
answering_within endings.ReadFault limit bytes left h = h
answering_within endings.WriteFault limit bytes left h = h
answering_within endings.ContextFault limit bytes left h = h
answering_within endings.NoMemory limit bytes left h = h
answering_within endings.InputLimit limit bytes left h = h

answering_takes : (words : Words) (ending : Ending) (limit : ℕ) (bytes : List ℕ) (left : Option (List ℕ)) → answers_input words ≡ true →
    loop.KeepsLimit limit bytes ending left → KeepsLimitFor words limit bytes (status_of ending) left
answering_takes Bad ending limit bytes left is h = absurd (cc is)
answering_takes Plain ending limit bytes left is h = answering_within ending limit bytes left h
answering_takes (Generated number) ending limit bytes left is h = absurd (cc is)
answering_takes (Stored name) ending limit bytes left is h = answering_within ending limit bytes left h

-- before a call of the shelf that changed nothing
pub same_seen : (before : Seen) (context : ℕ) (texts : Option Texts) → context ≡ before.faults.context → texts ≡ before.texts →
    record before { faults = record before.faults { context = context }; texts = texts } ≡ before
same_seen before context texts same stay = λ i. record before { faults = record before.faults { context = same i }; texts = stay i }

-- what a run that answers lines from a state on looks at, where some looks may come before
abbrev pub AnsweringWithin : Words → Held → ℕ → ℕ → ℕ → ℕ → Seen → Type 0
AnsweringWithin words h limit first looks looks' before = (bytes : List ℕ) (texts : Texts) → before.texts ≡ Some texts →
    looks' ≤ looks + looks_of_input (started h texts) limit bytes → LooksWithin words limit bytes texts first looks'

-- a run that answers lines, from what is held on
pub answered_runs : (words : Words) (h : Held) (limit : ℕ) (before after : Seen) (first looks looks' : ℕ) (status : Status) (context : ℕ)
    (now : Option Texts) →
    answers_input words ≡ true → context ≡ before.faults.context → now ≡ before.texts →
    ((texts : Texts) → before.texts ≡ Some texts → plan_of words texts ≡ Answers (started h texts)) →
    AnsweringWithin words h limit first looks looks' before →
    AnswersLines h limit (record before { faults = record before.faults { context = context }; texts = now }) after looks looks' status →
    RunsAs limit words before after first looks' status
answered_runs words h limit before after first looks looks' status context now is same stay plan costs answers =
    let a : AnswersLines h limit before after looks looks' status
    = subst (λ (s : Seen). AnswersLines h limit s after looks looks' status) (same_seen before context now same stay) answers in
    subst (λ (s : Status). RunsAs limit words before after first looks' s) (sym a.status_is) (record {
      fits = answering_fits words a.ending is;
      cause = answered_cause a.ending before.faults after.faults a.cause;
      taken = λ bytes left_is. answering_takes words a.ending limit bytes after.left is (a.taken bytes left_is);
      ends = λ bytes written texts left_is written_is texts_is.
          let (state, texts_are, ends) = a.ends bytes written texts left_is written_is texts_is in
          answered_ends run_machine run_leaves texts_in (run_setting words limit bytes written texts) after a.ending (record {
            start = started h texts;
            plan = plan texts texts_is;
            state = state;
            texts_are = texts_are;
            ends = ends;
          });
      within = λ bytes written texts left_is written_is texts_is.
          costs bytes texts texts_is (a.within bytes written texts left_is written_is texts_is);
    })

-- ---- Nothing is read

unread_within : (limit : ℕ) (bytes : List ℕ) (s : Status) (left : Option (List ℕ)) → is_within (ending_by s) ≡ true → left ≡ Some bytes →
    TakesWithin limit bytes s left
unread_within limit bytes BadSession left is same = same
unread_within limit bytes Done left is same = takes_none endings.Done limit bytes left is same
unread_within limit bytes BadWords left is same = takes_none endings.Done limit bytes left is same
unread_within limit bytes ReadFault left is same = takes_none endings.ReadFault limit bytes left is same
unread_within limit bytes WriteFault left is same = takes_none endings.WriteFault limit bytes left is same
unread_within limit bytes ShelfFault left is same = takes_none endings.ContextFault limit bytes left is same
unread_within limit bytes NoMemory left is same = takes_none endings.NoMemory limit bytes left is same
unread_within limit bytes InputLimit left is same = absurd (cc is)

unread : (words : Words) (limit : ℕ) (bytes : List ℕ) (s : Status) (left : Option (List ℕ)) → is_within (ending_by s) ≡ true → left ≡ Some bytes →
    KeepsLimitFor words limit bytes s left
unread Bad limit bytes s left is same = same
unread (Generated number) limit bytes s left is same = same
unread Plain limit bytes s left is same = unread_within limit bytes s left is same
unread (Stored name) limit bytes s left is same = unread_within limit bytes s left is same

-- ---- Something is said

module _ (limit : ℕ) (words : Words) (said : List ℕ) (end : Status) (before after : Seen) (looks looks' : ℕ) where
  -- the sink alone was asked
  pub record AskedSink : Type 0 where
    pub source_stays : after.faults.source ≡ before.faults.source
    pub shelf_stays : after.faults.context ≡ before.faults.context
    pub left_stays : after.left ≡ before.left
    pub texts_stay : after.texts ≡ before.texts

  -- these words have it said with this status
  pub record HaveItSaid : Type 0 where
    pub saying : is_saying end ≡ true
    pub may : allows_status words end ≡ true
    pub plan : (texts : Texts) → before.texts ≡ Some texts → plan_of words texts ≡ Says said end
    pub within : (bytes : List ℕ) (texts : Texts) → before.texts ≡ Some texts → LooksWithin words limit bytes texts looks looks'

  may_fail : (words : Words) → allows_status words WriteFault ≡ true
  may_fail Bad = refl
  may_fail Plain = refl
  may_fail (Generated number) = refl
  may_fail (Stored name) = refl

  may_lack : (words : Words) → allows_status words NoMemory ≡ true
  may_lack Bad = refl
  may_lack Plain = refl
  may_lack (Generated number) = refl
  may_lack (Stored name) = refl

  fits_by : (result : Result (Unit {0}) OutFail) → allows_status words end ≡ true → allows_status words (status_said end result) ≡ true
  fits_by (Ok u) may = may
  fits_by (Err fails.Failed) may = may_fail words
  fits_by (Err fails.NoMemory) may = may_lack words

  -- a run that says something
  pub said_runs : (status : Status) → HaveItSaid → AskedSink →
      Speaks said end status before.faults.sink after.faults.sink before.written after.written → RunsAs limit words before after looks looks' status
  said_runs status w a s =
      subst (λ (x : Status). RunsAs limit words before after looks looks' x) (sym s.status_is) (record {
        fits = fits_by s.result w.may;
        cause = said_cause end s.result before.faults after.faults w.saying a.source_stays a.shelf_stays s.cause;
        taken = λ bytes left_is.
            unread words limit bytes (status_said end s.result) after.left (said_within end s.result w.saying) (a.left_stays ∙ left_is);
        ends = λ bytes written texts left_is written_is texts_is.
            said_ends run_machine run_leaves texts_in (run_setting words limit bytes written texts) after said end s.result w.saying
            (w.plan texts texts_is) (s.bytes written written_is) (a.left_stays ∙ left_is) (a.texts_stay ∙ texts_is);
        within = λ bytes written texts left_is written_is texts_is. w.within bytes texts texts_is;
      })

-- ---- Nothing is done

may_lack_any : (words : Words) → allows_status words NoMemory ≡ true
may_lack_any Bad = refl
may_lack_any Plain = refl
may_lack_any (Generated number) = refl
may_lack_any (Stored name) = refl

-- memory is out before anything is
pub nothing_done : (limit : ℕ) (words : Words) (before after : Seen) (looks looks' : ℕ) → after ≡ before →
    ((bytes : List ℕ) (texts : Texts) → before.texts ≡ Some texts → LooksWithin words limit bytes texts looks looks') →
    RunsAs limit words before after looks looks' NoMemory
nothing_done limit words before after looks looks' same within = record {
  fits = may_lack_any words;
  cause = ap (λ (s : Seen). s.faults) same;
  taken = λ bytes left_is. unread words limit bytes NoMemory after.left refl (ap (λ (s : Seen). s.left) same ∙ left_is);
  ends = λ bytes written texts left_is written_is texts_is. inl (inl (record {
    unread = ap (λ (s : Seen). s.left) same ∙ left_is;
    unsaid = ap (λ (s : Seen). s.written) same ∙ written_is;
    texts_stay = ap (λ (s : Seen). s.texts) same ∙ texts_is;
  }));
  within = λ bytes written texts left_is written_is texts_is. within bytes texts texts_is;
}

-- ---- The looks of a session that is stored

-- its loading alone
pub opened_within : (looks looks' opening more : ℕ) → looks' ≤ looks + opening → looks' ≤ looks + (opening + more)
opened_within looks looks' opening more most = omega (arith, most)

-- its loading, and then the lines
pub stored_within : (name : List ℕ) (h : Held) (limit : ℕ) (bytes : List ℕ) (texts : Texts) (looks mid looks' : ℕ) →
    mid ≤ looks + looks_of_text (texts name) → plan_stored (texts name) texts ≡ Answers (started h texts) →
    looks' ≤ mid + looks_of_input (started h texts) limit bytes → LooksWithin (Stored name) limit bytes texts looks looks'
stored_within name h limit bytes texts looks mid looks' opening plan lines =
    let same = ap (λ (p : Plan RunState). looks_of_plan p limit bytes) plan in
    omega (arith, opening, lines, same)

-- the text of a session isn't fetched
pub fetch_failed : (limit : ℕ) (name : List ℕ) (before after : Seen) (looks looks' : ℕ) → HasStatusCause ShelfFault before.faults after.faults →
    after.left ≡ before.left → after.written ≡ before.written → after.texts ≡ before.texts →
    ((texts : Texts) → before.texts ≡ Some texts → looks' ≤ looks + looks_of_text (texts name)) →
    RunsAs limit (Stored name) before after looks looks' ShelfFault
fetch_failed limit name before after looks looks' cause left_stays unsaid stay opening = record {
  fits = refl;
  cause = cause;
  taken = λ bytes left_is. unread (Stored name) limit bytes ShelfFault after.left refl (left_stays ∙ left_is);
  ends = λ bytes written texts left_is written_is texts_is. inl (
    refl,
    record {
      unread = left_stays ∙ left_is;
      unsaid = unsaid ∙ written_is;
      texts_stay = stay ∙ texts_is;
    },
  );
  within = λ bytes written texts left_is written_is texts_is.
      opened_within looks looks' (looks_of_text (texts name)) _ (opening texts texts_is);
}

-- ---- What is told of a session that isn't opened

pub counts_of : (before now : ℕ) (fault other : OpenFault) → fault ≡ other → OpenHasCause before now (Err fault) →
    BlamesShelf before now other
counts_of before now fault other is counts = subst (λ (f : OpenFault). BlamesShelf before now f) is counts

pub opens_of : (texts : Texts) (name : List ℕ) (fault other : OpenFault) → fault ≡ other → Opens texts name (Err fault) →
    Opens texts name (Err other)
opens_of texts name fault other is opens = subst (λ (f : OpenFault). Opens texts name (Err f)) is opens

-- ---- What is told of a session that is opened

pub opens_loaded : (texts : Texts) (name text : List ℕ) (h : Held) → texts name ≡ Some text → loading_of text ≡ Loaded h.journal → h ≡ held h.journal →
    Opens texts name (Ok h)
opens_loaded texts name text h is loads same =
    ap (λ (o : Option (List ℕ)). plan_stored o texts) is ∙ ap (λ (l : Loading). plan_loaded l texts) loads ∙ ap (λ (x : Held). Answers (started x texts)) (sym same)
