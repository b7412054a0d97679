-- From what is done with the command of a line to the step of the line.
use Rattle.std.proofs.Common.{◌≡◌, ◌≤◌, ℕ, ◌+◌, true, false, Option, None, Some, List, ◌++◌, refl, sym, ap, ◌∙◌, subst, append-nil, append_assoc, inl, arith}
use Rattle.std.specs.Prelude.{Result, Ok, Err}
use Rattle.outside.specs.Shelf.{Texts}
use Rattle.command_text.specs.declared.fault.CommandFault.TheVariants as stops
use Rattle.command_text.specs.declared.reading.TheConstants.{LINE_LIMIT}
use Rattle.command_text.specs.declared.refusal.Refusal.{Refusal}
use Rattle.command_text.specs.Journal.{is_kept, spelled}
use Rattle.exact.specs.First.{or_else}
use Rattle.command_text.specs.Line.{IsRead, early_refusal, first_refusal, late_refusal, command_in}
use Rattle.command_text.specs.Tree
use Rattle.command_text.specs.Tree.{CommandTree}
use Rattle.command_text.proofs.grammar.DerivedLines.{none_early}
use Rattle.line_meaning.specs.declared.role.Role.{Role}
use Rattle.line_meaning.specs.declared.role.Role.TheVariants.{Blank, Journalled, Telling, Indexing, Filing, Ending}
use Rattle.line_meaning.specs.Looks.{is_query, looks_of, most_looks}
use Rattle.line_meaning.specs.Role.{asks_shelf, is_filing, is_import, is_on_indexes, role_of}
use Rattle.line_meaning.specs.Step.{Base, Held, all_after, base, base_after, fault_of, file_refusal, refusal_of, reply_by, reply_of, step}
use Rattle.line_meaning.proofs.CallerLemmas.{line_refusal_read, or_none, refusal_first, refusal_read_any, refused_line, spelled_is, step_accepted, step_refused}
use Rattle.session.specs.declared.next.ApplyFault.{ApplyFault}
use Rattle.session.specs.declared.next.ApplyFault.TheVariants as apply_faults
use Rattle.session.specs.declared.next.Next.{Next}
use Rattle.session.specs.declared.next.Next.TheVariants as nexts
use Rattle.session.specs.Answers.{Answers, Applies, FailsAtLine, IsUnread, KeepsIfRefused, LeavesHeld, LeavesTexts, Suffices, next_by, next_of}
use Rattle.session.specs.Carried.{Carried, CarriedAs, CarriesOut, IsAccepted, IsLacking, LacksMemory, Moment, end_of, lines_by, moment}
use Rattle.session.specs.Replayed.{Replays, ReplaysAs}
use Rattle.line_meaning.proofs.IndexLemmas.{plain_after, plain_fault}
use Rattle.line_meaning.proofs.RoleLemmas.{kept_is_journalled}
use Rattle.session.specs.Filed.{Does, FailsAtCommand, IsAnswered, IsApplied, SufficesFor, refusal_with, texts_by}

-- ---- a command that asks nothing of the shelf

plain_refusal : (b : Base) (c : CommandTree) → asks_shelf c ≡ false → file_refusal b c ≡ None
plain_refusal b (Tree.Import class file) plain = absurd (cc plain)
plain_refusal b c plain = refl

plain_base : (b : Base) (c : CommandTree) → asks_shelf c ≡ false → base_after b c ≡ base (all_after b.held c) b.texts
plain_base b (Tree.Save file) plain = absurd (cc plain)
plain_base b (Tree.Import class file) plain = absurd (cc plain)
plain_base b (Tree.Export class file) plain = absurd (cc plain)
plain_base b c plain = refl

plain_reply : (b : Base) (c : CommandTree) → asks_shelf c ≡ false → reply_of b c ≡ reply_by (role_of c) b.held c
plain_reply b (Tree.Import class file) plain = absurd (cc plain)
plain_reply b c plain = refl

pub plain_looks : (b : Base) (c : CommandTree) → asks_shelf c ≡ false → looks_of b c ≡ most_looks b.held c
plain_looks b (Tree.Import class file) plain = absurd (cc plain)
plain_looks b c plain = refl

plain_held : (b : Base) (c : CommandTree) (new : Held) → asks_shelf c ≡ false → new ≡ b.held → LeavesHeld b c new
plain_held b (Tree.Import class file) new plain same = absurd (cc plain)
plain_held b c new plain same = same

-- an accepted command is not told as a refused one
never : (role : Role) (r : Refusal) → nexts.Refused r ≡ next_by role → ⊥
never Blank r h = cc h
never Journalled r h = cc h
never Telling r h = cc h
never Indexing r h = cc h
never Filing r h = cc h
never Ending r h = cc h

pub accepted_does : (next : Next) (b : Base) (c : CommandTree) (new : Held) (before after : List ℕ) → next ≡ next_of c →
    (refusal_with b c ≡ None) × (next ≡ next_of c) × (new ≡ (base_after b c).held) × (after ≡ before ++ reply_of b c) →
    Does next b c new before after
accepted_does nexts.Silent b c new before after is h = h
accepted_does nexts.Accepted b c new before after is h = h
accepted_does nexts.Quit b c new before after is h = h
accepted_does (nexts.Refused r) b c new before after is h = absurd (never (role_of c) r is)

accepted_unchanged : (next : Next) (c : CommandTree) (old new : Held) (before after : List ℕ) → next ≡ next_of c → KeepsIfRefused next old new before after
accepted_unchanged nexts.Silent c old new before after is = tt
accepted_unchanged nexts.Accepted c old new before after is = tt
accepted_unchanged nexts.Quit c old new before after is = tt
accepted_unchanged (nexts.Refused r) c old new before after is = absurd (never (role_of c) r is)

plain_texts : (next : Next) (b : Base) (c : CommandTree) → asks_shelf c ≡ false → texts_by next b c ≡ b.texts
plain_texts (nexts.Refused r) b c plain = refl
plain_texts nexts.Silent b c plain = ap (λ (x : Base). x.texts) (plain_base b c plain)
plain_texts nexts.Accepted b c plain = ap (λ (x : Base). x.texts) (plain_base b c plain)
plain_texts nexts.Quit b c plain = ap (λ (x : Base). x.texts) (plain_base b c plain)

plain_refused : (b : Base) (c : CommandTree) (fault : Option Refusal) → asks_shelf c ≡ false → fault_of b.held c ≡ fault → refusal_with b c ≡ fault
plain_refused b c fault plain is = (λ i. or_else (is i) (plain_refusal b c plain i)) ∙ or_none fault

-- the reply of a command is its lines, and its end by what is told of it
reply_parts : (role : Role) (h : Held) (c : CommandTree) → reply_by role h c ≡ lines_by role h c ++ end_of (next_by role)
reply_parts Blank h c = refl
reply_parts Telling h c = refl
reply_parts Indexing h c = refl
reply_parts Journalled h c = refl
reply_parts Filing h c = refl
reply_parts Ending h c = refl

replied : (c : CommandTree) (m n : Moment) (after : List ℕ) (next : Next) → next ≡ next_of c → n.tally.said ≡ m.tally.said ++ lines_by (role_of c) m.holds c →
    after ≡ n.tally.said ++ end_of next → after ≡ m.tally.said ++ reply_by (role_of c) m.holds c
replied c m n after next is said ends =
    let lines : List ℕ = lines_by (role_of c) m.holds c in
    ends
    ∙ (λ i. said i ++ end_of (is i))
    ∙ append_assoc m.tally.said lines (end_of (next_of c))
    ∙ ap (λ reply. m.tally.said ++ reply) (sym (reply_parts (role_of c) m.holds c))

module _ (told : Option Texts) (c : CommandTree) (m n : Moment) (after : List ℕ) (plain : asks_shelf c ≡ false) where
  accepted_applied : (next : Next) → next ≡ next_of c → IsAccepted c m.holds n.holds m.tally.said n.tally.said → after ≡ n.tally.said ++ end_of next →
      IsApplied told told c m.holds n.holds m.tally.said after (Ok next)
  accepted_applied next is a ends = record {
    answers = λ texts suffices.
        let b : Base = base m.holds texts in
        accepted_does next b c n.holds m.tally.said after is (
          plain_refused b c None plain a.accepted,
          is,
          a.goes_on ∙ sym (ap (λ (x : Base). x.held) (plain_base b c plain)),
          replied c m n after next is a.said ends ∙ ap (λ reply. m.tally.said ++ reply) (sym (plain_reply b c plain)),
        );
    refused = accepted_unchanged next c m.holds n.holds m.tally.said after is;
    texts = λ texts told-is. told-is ∙ ap Some (sym (plain_texts next (base m.holds texts) c plain));
    fails = tt;
  }

  next_applied : (next : Next) → CarriedAs next c m.holds n.holds m.tally.said n.tally.said → after ≡ n.tally.said ++ end_of next →
      IsApplied told told c m.holds n.holds m.tally.said after (Ok next)
  next_applied nexts.Silent h ends = accepted_applied nexts.Silent h.0 h.1 ends
  next_applied nexts.Accepted h ends = accepted_applied nexts.Accepted h.0 h.1 ends
  next_applied nexts.Quit h ends = accepted_applied nexts.Quit h.0 h.1 ends
  next_applied (nexts.Refused r) h ends =
      let cut : after ≡ m.tally.said = ends ∙ append-nil n.tally.said ∙ h.2 in
      record {
        answers = λ texts suffices. (plain_refused (base m.holds texts) c (Some r) plain h.0, h.1, cut);
        refused = (h.1, cut);
        texts = λ texts is. is;
        fails = tt;
      }

  lacking_applied : IsLacking c m.holds n.holds m.tally.said n.tally.said →
      IsApplied told told c m.holds n.holds m.tally.said n.tally.said (Err apply_faults.NoMemory)
  lacking_applied h = record {
    answers = λ texts suffices. tt;
    refused = tt;
    texts = λ texts is. tt;
    fails = record { said = h.cut; texts = λ texts is. is; leaves = λ texts suffices. plain_held (base m.holds texts) c n.holds plain h.same };
  }

-- ---- what it is told of the shelf and of steps

-- a line without a reply is blank
blank_only : (c : CommandTree) → nexts.Silent ≡ next_of c → c ≡ Tree.Nothing
blank_only Tree.Nothing h = refl
blank_only c h = absurd (cc h)

unread_by : (c : CommandTree) (next : Next) (steps steps' : ℕ) → next ≡ next_of c → (c ≡ Tree.Nothing → steps' ≡ steps) → IsUnread next steps steps'
unread_by c nexts.Silent steps steps' is blank = blank (blank_only c is)
unread_by c nexts.Accepted steps steps' is blank = tt
unread_by c nexts.Quit steps steps' is blank = tt
unread_by c (nexts.Refused r) steps steps' is blank = absurd (never (role_of c) r is)

blank_reads : (old : Held) (c : CommandTree) (reads reads' : ℕ) → reads ≤ reads' → reads' ≤ reads + most_looks old c → c ≡ Tree.Nothing → reads' ≡ reads
blank_reads old c reads reads' least most is =
    let none : most_looks old c ≡ 0 = ap (most_looks old) is in omega (arith, least, most, none)

blank_probes : (c : CommandTree) (probes probes' : ℕ) → (is_query c ≡ false → probes' ≡ probes) → c ≡ Tree.Nothing → probes' ≡ probes
blank_probes c probes probes' plain is = plain (ap is_query is)

carried_looks : (told : Option Texts) (c : CommandTree) (old : Held) (reads reads' : ℕ) → asks_shelf c ≡ false → reads' ≤ reads + most_looks old c →
    (texts : Texts) → SufficesFor told c texts → reads' ≤ reads + looks_of (base old texts) c
carried_looks told c old reads reads' plain most texts suffices =
    subst (λ n. reads' ≤ reads + n) (sym (plain_looks (base old texts) c plain)) most

-- a command that was carried out is answered once its reply is ended, whatever the shelf tells
pub carried_is_answered : {E : Type 0} (told : Option Texts) (c : CommandTree) (m n : Moment) (after : List ℕ) (next : Next) →
    asks_shelf c ≡ false → Carried {E = E} c m n (Ok next) → after ≡ n.tally.said ++ end_of next →
    IsAnswered told told c m (moment n.holds after n.tally.reads n.tally.probes) (Ok next)
carried_is_answered told c m n after next plain h ends = record {
  applied = next_applied told c m n after plain next h.carried ends;
  steps = record { least = h.least; unread = h.unread; unprobed = h.unprobed };
  most = carried_looks told c m.holds m.tally.reads n.tally.reads plain h.most;
  plain = h.plain;
}

pub lacking_is_answered : {E : Type 0} (told : Option Texts) (c : CommandTree) (m n : Moment) (fault : E) → asks_shelf c ≡ false →
    Carried c m n (Err fault) → IsAnswered told told c m n (Err apply_faults.NoMemory)
lacking_is_answered told c m n fault plain h = record {
  applied = lacking_applied told c m n n.tally.said plain h.lacks;
  steps = record { least = h.least; unread = tt; unprobed = tt };
  most = carried_looks told c m.holds m.tally.reads n.tally.reads plain h.most;
  plain = h.plain;
}

-- ---- what was performed is carried out, where what was written is cut off after an error

performed_as : (next : Next) (c : CommandTree) (m n : Moment) → next ≡ next_of c → IsAccepted c m.holds n.holds m.tally.said n.tally.said →
    CarriedAs next c m.holds n.holds m.tally.said n.tally.said
performed_as nexts.Silent c m n is a = (is, a)
performed_as nexts.Accepted c m n is a = (is, a)
performed_as nexts.Quit c m n is a = (is, a)
performed_as (nexts.Refused r) c m n is a = absurd (never (role_of c) r is)

pub performed : {E : Type 0} (c : CommandTree) (m n : Moment) (next : Next) → CarriesOut {T = Next} c m n (Ok next) → next ≡ next_of c →
    Carried {E = E} c m n (Ok next)
performed c m n next h is = record {
  carried = performed_as next c m n is h.accepted;
  lacks = tt;
  least = h.spends.within.least;
  most = h.spends.within.most;
  plain = h.spends.plain;
  unread = unread_by c next m.tally.reads n.tally.reads is (blank_reads m.holds c m.tally.reads n.tally.reads h.spends.within.least h.spends.within.most);
  unprobed = unread_by c next m.tally.probes n.tally.probes is (blank_probes c m.tally.probes n.tally.probes h.spends.plain);
}

pub performed_refused : {E : Type 0} (c : CommandTree) (m n : Moment) (after : List ℕ) (r : Refusal) → CarriesOut {T = Next} c m n (Err (stops.Refused r)) →
    after ≡ m.tally.said → Carried {E = E} c m (moment n.holds after n.tally.reads n.tally.probes) (Ok (nexts.Refused r))
performed_refused c m n after r h cut =
    let stopped : (fault_of m.holds c ≡ Some r) × (n.holds ≡ m.holds) = h.stopped in
    record {
      carried = (stopped.0, stopped.1, cut);
      lacks = tt;
      least = h.spends.within.least;
      most = h.spends.within.most;
      plain = h.spends.plain;
      unread = h.free.unread tt;
      unprobed = h.free.unprobed tt;
    }

pub performed_lacking : {E : Type 0} (c : CommandTree) (m n : Moment) (after : List ℕ) (fault : E) → CarriesOut {T = Next} c m n (Err stops.NoMemory) →
    after ≡ m.tally.said → Carried c m (moment n.holds after n.tally.reads n.tally.probes) (Err fault)
performed_lacking c m n after fault h cut =
    let stopped : LacksMemory m.holds c × (n.holds ≡ m.holds) = h.stopped in
    record {
      carried = tt;
      lacks = record { lacks = stopped.0; same = stopped.1; cut = cut };
      least = h.spends.within.least;
      most = h.spends.within.most;
      plain = h.spends.plain;
      unread = tt;
      unprobed = tt;
    }

pub no_looks : (reads more : ℕ) → reads ≤ reads + more
no_looks reads more = omega arith

-- ---- a line that is read as a command

module _ (line : List ℕ) (c : CommandTree) (read : IsRead LINE_LIMIT line c) where
  refusal_is : (b : Base) → refusal_of b line ≡ refusal_with b c
  refusal_is b = refusal_read_any b line c read

  step_is : (b : Base) → refusal_with b c ≡ None → step b line ≡ (base_after b c, reply_of b c)
  step_is b none = step_accepted b line c (refusal_is b ∙ none) (spelled_is line c read)

  did : (next : Next) (b : Base) (new : Held) (before after : List ℕ) →
      (refusal_with b c ≡ None) × (next ≡ next_of c) × (new ≡ (base_after b c).held) × (after ≡ before ++ reply_of b c) →
      (refusal_of b line ≡ None) × (next ≡ next_of (spelled line)) × (new ≡ (step b line).0.held) × (after ≡ before ++ (step b line).1)
  did next b new before after h =
      let stepped = step_is b h.0 in (
        refusal_is b ∙ h.0,
        h.1 ∙ ap next_of (sym (spelled_is line c read)),
        h.2 ∙ sym (ap (λ (s : Base × List ℕ). s.0.held) stepped),
        h.3 ∙ ap (λ reply. before ++ reply) (sym (ap (λ (s : Base × List ℕ). s.1) stepped)),
      )

  pub does_answers : (next : Next) (b : Base) (new : Held) (before after : List ℕ) → Does next b c new before after →
      Answers next b line new before after
  does_answers nexts.Silent b new before after h = did nexts.Silent b new before after h
  does_answers nexts.Accepted b new before after h = did nexts.Accepted b new before after h
  does_answers nexts.Quit b new before after h = did nexts.Quit b new before after h
  does_answers (nexts.Refused r) b new before after h =
      let fault : refusal_of b line ≡ Some r = refusal_is b ∙ h.0 in (fault, step_refused b line r fault, h.1, h.2)

  does_texts : (next : Next) (b : Base) (new : Held) (before after : List ℕ) → Does next b c new before after →
      texts_by next b c ≡ (step b line).0.texts
  does_texts nexts.Silent b new before after h = sym (ap (λ (s : Base × List ℕ). s.0.texts) (step_is b h.0))
  does_texts nexts.Accepted b new before after h = sym (ap (λ (s : Base × List ℕ). s.0.texts) (step_is b h.0))
  does_texts nexts.Quit b new before after h = sym (ap (λ (s : Base × List ℕ). s.0.texts) (step_is b h.0))
  does_texts (nexts.Refused r) b new before after h =
      sym (ap (λ (s : Base × List ℕ). s.0.texts) (step_refused b line r (refusal_is b ∙ h.0)))

  module _ (told left : Option Texts) (old new : Held) (before after : List ℕ) where
    suffices_for : (texts : Texts) → Suffices told line texts → SufficesFor told c texts
    suffices_for texts suffices = λ import. suffices (ap is_import (spelled_is line c read) ∙ import)

    fails_line : (fault : ApplyFault) → FailsAtCommand fault told left c old new before after → FailsAtLine fault told left line old new before after
    fails_line apply_faults.ShelfFault h = record {
      asks = ap asks_shelf (spelled_is line c read) ∙ h.asks;
      accepted = line_refusal_read old line c read ∙ h.accepted;
      held_stays = h.held_stays;
      said = h.said;
      texts = subst (λ (d : CommandTree). LeavesTexts d told left) (sym (spelled_is line c read)) h.texts;
    }
    fails_line apply_faults.NoMemory h = record {
      late = none_early (early_refusal LINE_LIMIT line) (late_refusal (command_in line)) read.taken;
      said = h.said;
      texts = h.texts;
      leaves = λ texts suffices.
          subst (λ (d : CommandTree). LeavesHeld (base old texts) d new) (sym (spelled_is line c read)) (h.leaves texts (suffices_for texts suffices));
    }

    pub applied_line : (r : Result Next ApplyFault) → IsApplied told left c old new before after r → Applies told left line old new before after r
    applied_line (Ok next) h = record {
      answers = λ texts suffices. does_answers next (base old texts) new before after (h.answers texts (suffices_for texts suffices));
      refused = h.refused;
      texts = λ texts is.
          h.texts texts is ∙ ap Some (does_texts next (base old texts) new before after (h.answers texts (λ import. is)));
      fails = tt;
    }
    applied_line (Err fault) h = record {
      answers = λ texts suffices. tt;
      refused = tt;
      texts = λ texts is. tt;
      fails = fails_line fault h.fails;
    }

    pub looks_line : (reads reads' : ℕ) → ((texts : Texts) → SufficesFor told c texts → reads' ≤ reads + looks_of (base old texts) c) →
        (texts : Texts) → Suffices told line texts → reads' ≤ reads + looks_of (base old texts) (spelled line)
    looks_line reads reads' most texts suffices =
        subst (λ (d : CommandTree). reads' ≤ reads + looks_of (base old texts) d) (sym (spelled_is line c read)) (most texts (suffices_for texts suffices))

-- ---- a line that isn't read

pub refused_applies : (told : Option Texts) (line : List ℕ) (old : Held) (before : List ℕ) (r : Refusal) →
    first_refusal LINE_LIMIT line ≡ Some r → Applies told told line old old before before (Ok (nexts.Refused r))
refused_applies told line old before r first = record {
  answers = λ texts suffices.
      let b : Base = base old texts in
      let fault : refusal_of b line ≡ Some r = refused_line b line r (refusal_first old line r first) in
      (fault, step_refused b line r fault, refl, refl);
  refused = (refl, refl);
  texts = λ texts is.
      let b : Base = base old texts in
      let fault : refusal_of b line ≡ Some r = refused_line b line r (refusal_first old line r first) in
      is ∙ ap Some (sym (ap (λ (s : Base × List ℕ). s.0.texts) (step_refused b line r fault)));
  fails = tt;
}

pub same_leaves : (b : Base) (c : CommandTree) → LeavesHeld b c b.held
same_leaves b (Tree.Import class file) = inl refl
same_leaves b c = refl

pub lacks_applies : (told : Option Texts) (line : List ℕ) (old : Held) (before : List ℕ) → early_refusal LINE_LIMIT line ≡ None →
    Applies told told line old old before before (Err apply_faults.NoMemory)
lacks_applies told line old before late = record {
  answers = λ texts suffices. tt;
  refused = tt;
  texts = λ texts is. tt;
  fails = record { late = late; said = refl; texts = λ texts is. is; leaves = λ texts suffices. same_leaves (base old texts) (spelled line) };
}

-- ---- by the role

pub not_filing : (role : Role) → (role ≡ Filing → ⊥) → is_filing role ≡ false
not_filing Blank other = refl
not_filing Journalled other = refl
not_filing Telling other = refl
not_filing Indexing other = refl
not_filing Filing other = absurd (other refl)
not_filing Ending other = refl

-- ---- a command that is replayed

pub kept_plain : (c : CommandTree) → is_kept c ≡ true → asks_shelf c ≡ false
kept_plain c kept = ap is_filing (kept_is_journalled c kept)

pub kept_on_no_index : (c : CommandTree) → is_kept c ≡ true → is_on_indexes c ≡ false
kept_on_no_index (Tree.Index class attribute width) kept = absurd (cc kept)
kept_on_no_index (Tree.Range span class attribute least greatest) kept = absurd (cc kept)
kept_on_no_index c kept = refl

kept_next : (c : CommandTree) → is_kept c ≡ true → next_of c ≡ nexts.Accepted
kept_next c kept = ap next_by (kept_is_journalled c kept)

module _ (c : CommandTree) (m n : Moment) (kept : is_kept c ≡ true) where
  by_next : (next : Next) → CarriedAs next c m.holds n.holds m.tally.said n.tally.said → ReplaysAs m.holds c n.holds next
  by_next nexts.Accepted h = (sym (plain_fault m.holds c (kept_on_no_index c kept)) ∙ h.1.accepted, h.1.goes_on ∙ plain_after m.holds c (kept_on_no_index c kept))
  by_next (nexts.Refused r) h = (sym (plain_fault m.holds c (kept_on_no_index c kept)) ∙ h.0, h.1)
  by_next nexts.Silent h = absurd (cc (h.0 ∙ kept_next c kept))
  by_next nexts.Quit h = absurd (cc (h.0 ∙ kept_next c kept))

  pub replays_as : {E : Type 0} (r : Result Next E) → Carried c m n r → Replays m.holds c n.holds r
  replays_as (Ok next) h = by_next next h.carried
  replays_as (Err fault) h = let l : IsLacking c m.holds n.holds m.tally.said n.tally.said = h.lacks in l.same
