-- What the database answers of a line is the machine's step.
use Rattle.std.proofs.Common.{inl, inr, ◌⊎◌, ◌≡◌, ◌≤◌, ◌+◌, ℕ, Bool, true, false, ◌||◌, ◌&&◌, Option, None, Some, List, ◌++◌, refl, sym, ap, subst, ◌∙◌, if◌then◌else◌, arith}
use Rattle.std.specs.Prelude.{is_none, is_some, Result, Ok, Err, IfOk, IfErr, OnOk}
use Rattle.outside.specs.declared.fault.OutFail.{OutFail}
use Rattle.outside.specs.declared.fault.OutFail.TheVariants.{Failed, NoMemory}
use Rattle.outside.specs.Faults.{FailCounts, HasCauseOrNoMemory}
use Rattle.line_loop.specs.Machine as loop
use Rattle.outside.specs.Shelf.{Texts}
use Rattle.command_text.specs.declared.refusal.Refusal.{Refusal}
use Rattle.exact.specs.First.{or_else}
use Rattle.exact.proofs.Truths.{is_or_false}
use Rattle.command_text.specs.declared.reading.TheConstants.{LINE_LIMIT}
use Rattle.command_text.specs.Journal.{spelled}
use Rattle.command_text.specs.Line.{command_in, early_refusal, first_refusal, late_refusal}
use Rattle.command_text.specs.Refusals.{refusal_line}
use Rattle.line_meaning.specs.declared.role.Role.{Role}
use Rattle.line_meaning.specs.declared.role.Role.TheVariants.{Blank, Journalled, Telling, Indexing, Filing, Ending}
use Rattle.line_meaning.specs.Reply.{line_feed}
use Rattle.line_meaning.specs.Role.{role_of}
use Rattle.line_meaning.specs.Looks.{looks_of}
use Rattle.line_meaning.specs.Step.{Base, Held, base, fault_of, file_refusal, line_refusal, refusal_of, step}
use Rattle.session.specs.declared.next.ApplyFault.{ApplyFault}
use Rattle.session.specs.declared.next.ApplyFault.TheVariants as apply_faults
use Rattle.session.specs.declared.next.Next.{Next}
use Rattle.session.specs.declared.next.Next.TheVariants as nexts
use Rattle.session.specs.Answers.{Answers, Applies, FailsAtLine, HasFaultCause, IsUnread, Suffices, next_by, next_of}
use Rattle.domino_run.specs.Machine.{RunState, is_ending, is_last, looks_of_line, run_cost, run_leaves, run_machine, told_state}

-- whether a line that was answered so ends the run
abbrev pub is_quit : Next → Bool
is_quit nexts.Quit = true
is_quit _ = false

ending_by : (role : Role) → is_quit (next_by role) ≡ is_ending role
ending_by Blank = refl
ending_by Journalled = refl
ending_by Telling = refl
ending_by Indexing = refl
ending_by Filing = refl
ending_by Ending = refl

-- the parts of what `apply` promises of an accepted line
abbrev pub IsStep : Next → Base → List ℕ → Held → List ℕ → List ℕ → Type 0
IsStep next b line new before after =
    (refusal_of b line ≡ None) × (next ≡ next_of (spelled line)) × (new ≡ (step b line).0.held)
    × (after ≡ before ++ (step b line).1)

-- where a state is told, the texts are, and it is that of what is held
told_is : (h : Held) (ended : Bool) (texts : Option Texts) (s : RunState) → told_state h ended texts ≡ Some s →
    (told : Texts) × (texts ≡ Some told) × (s ≡ record { base = base h told; ended = ended })
told_is h ended None s is = absurd (cc is)
told_is h ended (Some told) s is = (told, refl, cc is)

-- an accepted line is one step of the machine
stepped : (next : Next) (h new : Held) (ended : Bool) (told : Texts) (left : Option Texts) (line before after : List ℕ) →
    IsStep next (base h told) line new before after → left ≡ Some (step (base h told) line).0.texts →
    (s : RunState) → s ≡ record { base = base h told; ended = ended } →
    (after ≡ before ++ run_machine.reply s line) × (told_state new (ended || is_quit next) left ≡ Some (run_machine.next s line))
stepped next h new ended told left line before after (fault, next_is, new_is, reply) left_is s s_is =
    let b : Base = base h told in
    let quit : is_quit next ≡ is_last b line
    = ap is_quit next_is ∙ ending_by (role_of (spelled line)) ∙ sym (ap (λ r. is_none r && is_ending (role_of (spelled line))) fault) in
    let start : RunState = record { base = b; ended = ended } in (
      subst (λ (x : RunState). after ≡ before ++ run_machine.reply x line) (sym s_is) reply,
      subst (λ (x : RunState). told_state new (ended || is_quit next) left ≡ Some (run_machine.next x line)) (sym s_is)
          (λ i. told_state (new_is i) (ended || quit i) (left_is i)),
    )

-- a refused line leaves the state, and its reply is the refusal's
refused : (r : Refusal) (h new : Held) (ended : Bool) (told : Texts) (left : Option Texts) (line before after : List ℕ) →
    refusal_of (base h told) line ≡ Some r → step (base h told) line ≡ (base h told, refusal_line r ++ line_feed) → new ≡ h →
    left ≡ Some told → after ≡ before ++ (refusal_line r ++ line_feed) →
    (s : RunState) → s ≡ record { base = base h told; ended = ended } →
    (after ≡ before ++ run_machine.reply s line) × (told_state new ended left ≡ Some (run_machine.next s line))
refused r h new ended told left line before after fault step_is new_is left_is said s s_is =
    let b : Base = base h told in
    let on : ended ≡ (ended || is_last b line)
    = is_or_false ended ∙ ap (λ e. ended || e) (sym (ap (λ f. is_none f && is_ending (role_of (spelled line))) fault)) in
    let start : RunState = record { base = b; ended = ended } in (
      subst (λ (x : RunState). after ≡ before ++ run_machine.reply x line) (sym s_is)
          (said ∙ ap (λ (t : Base × List ℕ). before ++ t.1) (sym step_is)),
      subst (λ (x : RunState). told_state new ended left ≡ Some (run_machine.next x line)) (sym s_is)
          ((λ i. told_state (new_is i) ended (left_is i)) ∙ (λ i. Some (record { base = (sym step_is i).0; ended = on i }))),
    )

-- a line that isn't refused
abbrev pub IsAccepted : Next → Type 0
IsAccepted (nexts.Refused r) = ⊥
IsAccepted next = Unit {0}

pub step_of : (next : Next) (b : Base) (line : List ℕ) (new : Held) (before after : List ℕ) → IsAccepted next →
    Answers next b line new before after → IsStep next b line new before after
step_of nexts.Silent b line new before after is h = h
step_of nexts.Accepted b line new before after is h = h
step_of nexts.Quit b line new before after is h = h
step_of (nexts.Refused r) b line new before after is h = absurd is

module _ (shelf shelf' : Option Texts) (line : List ℕ) (h new : Held) (ended : Bool) (before after : List ℕ) (result : Result Next ApplyFault)
    (applies : Applies shelf shelf' line h new before after result) where
  pub answered : (next : Next) → result ≡ Ok next → (told : Texts) → shelf ≡ Some told → Answers next (base h told) line new before after
  answered next is told texts_are =
      subst (λ (r : Result Next ApplyFault). IfOk r (λ next. Answers next (base h told) line new before after)) is
      (applies.answers told (λ import. texts_are))

  pub left_after : (next : Next) → result ≡ Ok next → (told : Texts) → shelf ≡ Some told → shelf' ≡ Some (step (base h told) line).0.texts
  left_after next is told texts_are =
      subst (λ (r : Result Next ApplyFault). IfOk r (λ next. shelf' ≡ Some (step (base h told) line).0.texts)) is
      (applies.texts told texts_are)

  failing : (fault : ApplyFault) → result ≡ Err fault → FailsAtLine fault shelf shelf' line h new before after
  failing fault is =
      subst (λ (r : Result Next ApplyFault). IfErr r (λ fault. FailsAtLine fault shelf shelf' line h new before after)) is applies.fails

  pub accepted : (next : Next) (ended' : Bool) → IsAccepted next → result ≡ Ok next → ended' ≡ (ended || is_quit next) →
      (s : RunState) → told_state h ended shelf ≡ Some s →
      (after ≡ before ++ run_machine.reply s line) × (told_state new ended' shelf' ≡ Some (run_machine.next s line))
  accepted next ended' plain is end s start =
      let (told, texts_are, s_is) = told_is h ended shelf s start in
      let (reply, state) = stepped next h new ended told shelf' line before after
      (step_of next (base h told) line new before after plain (answered next is told texts_are)) (left_after next is told texts_are) s s_is in
      (reply, (λ i. told_state new (end i) shelf') ∙ state)

  pub refused_answers : (r : Refusal) (written : Result (Unit {0}) OutFail) (final : List ℕ) → result ≡ Ok (nexts.Refused r) →
      OnOk written (final ≡ after ++ (refusal_line r ++ line_feed)) → IfErr written (λ fail. fail ≡ NoMemory) →
      (s : RunState) → told_state h ended shelf ≡ Some s →
      loop.AnswersLine run_machine run_leaves s line written before final (told_state new ended shelf')
  refused_answers r (Ok u) final is said fails s start =
      let (told, texts_are, s_is) = told_is h ended shelf s start in
      let (fault, step_is, new_is, same) = answered (nexts.Refused r) is told texts_are in
      refused r h new ended told shelf' line before final fault step_is new_is
      (left_after (nexts.Refused r) is told texts_are ∙ ap (λ (t : Base × List ℕ). Some t.0.texts) step_is)
      (said ∙ ap (λ o. o ++ (refusal_line r ++ line_feed)) same) s s_is
  refused_answers r (Err fail) final is said fails s start =
      let (told, texts_are, s_is) = told_is h ended shelf s start in
      let (fault, step_is, new_is, same) = answered (nexts.Refused r) is told texts_are in
      let left : shelf' ≡ Some told
      = left_after (nexts.Refused r) is told texts_are ∙ ap (λ (t : Base × List ℕ). Some t.0.texts) step_is in
      subst (λ (f : OutFail). run_leaves f s line (told_state new ended shelf')) (sym fails)
      (inl ((λ i. told_state (new_is i) ended (left i)) ∙ sym (ap Some s_is)))

  -- what a failure of the shelf leaves
  pub shelf_failed : result ≡ Err apply_faults.ShelfFault → (s : RunState) → told_state h ended shelf ≡ Some s →
      run_leaves Failed s line (told_state new ended shelf')
  shelf_failed is s start =
      let (told, texts_are, s_is) = told_is h ended shelf s start in
      let f = failing apply_faults.ShelfFault is in
      let (rest, rest_is, same) = f.texts told texts_are in
      subst (λ (x : RunState). run_leaves Failed x line (told_state new ended shelf')) (sym s_is)
      (rest, record { asks = f.asks; accepted = f.accepted; others = same }, (λ i. told_state (f.held_stays i) ended (rest_is i)))

  -- and what want of memory leaves
  pub memory_failed : result ≡ Err apply_faults.NoMemory → (s : RunState) → told_state h ended shelf ≡ Some s →
      run_leaves NoMemory s line (told_state new ended shelf')
  memory_failed is s start =
      let (told, texts_are, s_is) = told_is h ended shelf s start in
      let f = failing apply_faults.NoMemory is in
      subst (λ (x : RunState). run_leaves NoMemory x line (told_state new ended shelf')) (sym s_is)
      (inr (
        new,
        record { late = f.late; rows = f.leaves told (λ import. texts_are) },
        ap (told_state new ended) (f.texts told texts_are),
      ))

-- ---- Looks

first_none : {A : Type 0} (a b : Option A) → or_else a b ≡ None → a ≡ None
first_none None b is = refl
first_none (Some x) b is = is

-- a line that what is held doesn't refuse isn't refused before it is read
late_of_held : (h : Held) (line : List ℕ) → line_refusal h line ≡ None → early_refusal LINE_LIMIT line ≡ None
unfolding line_refusal
late_of_held h line accepted =
    first_none (early_refusal LINE_LIMIT line) (late_refusal (command_in line))
    (first_none (first_refusal LINE_LIMIT line) (fault_of h (spelled line)) accepted)

late_of : (b : Base) (line : List ℕ) → refusal_of b line ≡ None → early_refusal LINE_LIMIT line ≡ None
late_of b line accepted = late_of_held b.held line (first_none (line_refusal b.held line) (file_refusal b (spelled line)) accepted)

late_looks : (b : Base) (line : List ℕ) → early_refusal LINE_LIMIT line ≡ None → looks_of_line b line ≡ looks_of b (spelled line)
late_looks b line late = ap (λ r. if is_some r then 0 else looks_of b (spelled line)) late

module _ (shelf shelf' : Option Texts) (line : List ℕ) (h new : Held) (ended : Bool) (before after : List ℕ) (result : Result Next ApplyFault)
    (applies : Applies shelf shelf' line h new before after result) (reads reads' : ℕ) where
  -- no look was taken, or the line was read
  unread_or_late : (r : Result Next ApplyFault) → result ≡ r → IfOk r (λ next. IsUnread next reads reads') → (told : Texts) → shelf ≡ Some told →
      (reads' ≡ reads) ⊎ (early_refusal LINE_LIMIT line ≡ None)
  unread_or_late (Ok (nexts.Refused r)) is unread told texts_are = inl unread
  unread_or_late (Ok nexts.Silent) is unread told texts_are = inl unread
  unread_or_late (Ok nexts.Accepted) is unread told texts_are =
      inr (late_of (base h told) line (answered shelf shelf' line h new ended before after result applies nexts.Accepted is told texts_are).0)
  unread_or_late (Ok nexts.Quit) is unread told texts_are =
      inr (late_of (base h told) line (answered shelf shelf' line h new ended before after result applies nexts.Quit is told texts_are).0)
  unread_or_late (Err apply_faults.ShelfFault) is unread told texts_are =
      inr (late_of_held h line (failing shelf shelf' line h new ended before after result applies apply_faults.ShelfFault is).accepted)
  unread_or_late (Err apply_faults.NoMemory) is unread told texts_are =
      inr (failing shelf shelf' line h new ended before after result applies apply_faults.NoMemory is).late

  -- the looks of a line are within its cost
  pub looks_within : ((texts : Texts) → Suffices shelf line texts → reads' ≤ reads + looks_of (base h texts) (spelled line)) →
      IfOk result (λ next. IsUnread next reads reads') → (s : RunState) → told_state h ended shelf ≡ Some s → reads' ≤ reads + run_cost s line
  looks_within most unread s start =
      let (told, texts_are, s_is) = told_is h ended shelf s start in
      let b : Base = base h told in
      let same : run_cost s line ≡ looks_of_line b line = ap (λ (s : RunState). run_cost s line) s_is in
      elim (unread_or_late result refl unread told texts_are) [
        | inl none ↦ omega (arith, none)
        | inr late ↦ omega (arith, same, late_looks b line late, most told (λ import. texts_are))
      ]

-- a refusal that was written, or for which memory was out, has no cause in the shelf
pub refused_cause : (before now : ℕ) (result : Result Next ApplyFault) (r : Refusal) (written : Result (Unit {0}) OutFail) →
    HasFaultCause before now result → result ≡ Ok (nexts.Refused r) → IfErr written (λ fail. fail ≡ NoMemory) →
    HasCauseOrNoMemory before now written
refused_cause before now result r (Ok u) cause is fails = subst (HasFaultCause before now) is cause
refused_cause before now result r (Err fail) cause is fails =
    subst (FailCounts before now) (sym fails) (subst (HasFaultCause before now) is cause)
