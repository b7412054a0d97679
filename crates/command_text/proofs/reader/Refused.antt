-- What becomes of a part that isn't read, and of a command at the end of its tokens.
use Rattle.command_text.proofs.Names.{◌≡◌, ℕ, zero, suc, ◌<◌, ◌≤◌, true, false, List, [], ◌∷◌, length, Some, None, option_map, refl, sym, ◌∙◌, ap, subst, arith, is_none, if◌then◌else◌, length-map, ◌>>=◌, Token, Lexeme, lexemes, tokens_of, bytes_of_token, At, CommandFault, CommandTree, Reader, Read, front, ended, to_end, StopsPart, standing, late_refusal, is_at_end, IsWholeCommand, Refuses, RefusesAtEnd, ◌&&◌, not, has_long, has_short_words, lexemes_from}
use Rattle.std.proofs.Common.{drop}
use Rattle.ftl_parser.specs.Piece as token
use Rattle.command_text.specs.declared.fault.CommandFault.TheVariants as faults
use Rattle.command_text.specs.declared.refusal.Refusal.TheVariants as refusals
use Rattle.command_text.proofs.reader.StandingLemmas.{front_past}
use Rattle.exact.proofs.Truths.{and_false}

-- where nothing is read
none_refused : {A : Type 0} (o : Read A) → o ≡ None → Refuses o (faults.Refused refusals.BadSyntax)
none_refused o e = (ap late_refusal e, ap is_at_end e)

-- a part that isn't there, of a command
pub no_part : {A B : Type 0} (part : Read A) (rest : A × Reader → Read B) (e : CommandFault) → StopsPart part e → Refuses (part >>= rest) e
no_part part rest (faults.Refused r) h =
    let none : (part >>= rest) ≡ None = ap (λ o. o >>= rest) h.1 in
    let told = none_refused (part >>= rest) none in
    (told.0 ∙ ap Some (sym h.0), told.1)
no_part part rest faults.NoMemory h = tt

-- a part that is there, before one that isn't
pub behind_part : {A B : Type 0} (part : Read A) (x : A × Reader) (rest : A × Reader → Read B) (e : CommandFault) →
    part ≡ Some x → Refuses (rest x) e → Refuses (part >>= rest) e
behind_part part x rest (faults.Refused r) d h = (ap (λ o. late_refusal (o >>= rest)) d ∙ h.0, ap (λ o. is_at_end (o >>= rest)) d ∙ h.1)
behind_part part x rest faults.NoMemory d h = tt

same_late : {A B : Type 0} (f : A → B) (o : Read A) → late_refusal (o >>= (λ r. Some (f r.0, r.1))) ≡ late_refusal o
same_late f None = refl
same_late f (Some x) = refl

same_end : {A B : Type 0} (f : A → B) (o : Read A) → is_at_end (o >>= (λ r. Some (f r.0, r.1))) ≡ is_at_end o
same_end f None = refl
same_end f (Some x) = refl

-- a part in a command's tree
pub mapped_part : {A B : Type 0} (part : Read A) (f : A → B) (e : CommandFault) → Refuses part e → Refuses (part >>= (λ r. Some (f r.0, r.1))) e
mapped_part part f (faults.Refused r) h = (same_late f part ∙ h.0, same_end f part ∙ h.1)
mapped_part part f faults.NoMemory h = tt

-- tokens that are left, and none that are left
left_over : (ts : List Lexeme) (place : ℕ) → place < length ts → is_none (front (drop place (token.pieces ts))) ≡ false
left_over [] place h = absurd (omega arith)
left_over (x ∷ ts) zero h = refl
left_over (x ∷ ts) (suc n) h = let less : n < length ts = omega arith in left_over ts n less

pub ended_early : (line : List ℕ) (at : At) (c : CommandTree) → at.place < length (tokens_of line) → ended (c, standing line at) ≡ None
ended_early line at c h =
    let less : at.place < length (lexemes line) = omega (arith, length-map {B = Lexeme} (tokens_of line) (λ (t : Token). (t.kind, bytes_of_token line t))) in
    ap (λ b. if b then Some (c, standing line at) else None) (left_over (lexemes line) at.place less)

pub ended_whole : (line : List ℕ) (at : At) (c : CommandTree) → length (tokens_of line) ≤ at.place → ended (c, standing line at) ≡ Some (c, standing line at)
ended_whole line at c h =
    let past : length (lexemes line) ≤ at.place = omega (arith, length-map {B = Lexeme} (tokens_of line) (λ (t : Token). (t.kind, bytes_of_token line t))) in
    ap (λ b. if b then Some (c, standing line at) else None) (ap is_none (front_past (lexemes line) at.place past))

at_end : (line : List ℕ) (at : At) → length (tokens_of line) ≤ at.place → is_none (front (standing line at).rest) ≡ true
at_end line at h =
    let past : length (lexemes line) ≤ at.place = omega (arith, length-map {B = Lexeme} (tokens_of line) (λ (t : Token). (t.kind, bytes_of_token line t))) in
    ap is_none (front_past (lexemes line) at.place past)

-- what a command that was read is judged by
pub judged_early : (line : List ℕ) (at : At) → at.place < length (tokens_of line)
    → RefusesAtEnd (standing line at) (faults.Refused refusals.BadSyntax)
judged_early line at h = record { refuses = λ c. none_refused (ended (c, standing line at)) (ended_early line at c h) }

late_unfit : (c : CommandTree) (s : Reader) → s.fit ≡ false → late_refusal (Some (c, s)) ≡ Some refusals.NumberRange
late_unfit c s e = ap (λ fit. late_refusal (Some (c, record { rest = s.rest; fit = fit; small = s.small }))) e

late_large : (c : CommandTree) (s : Reader) → s.fit ≡ true → s.small ≡ false → late_refusal (Some (c, s)) ≡ Some refusals.TooLarge
late_large c s e d = ap (λ fit. late_refusal (Some (c, record { rest = s.rest; fit = fit; small = s.small }))) e
    ∙ ap (λ small. late_refusal (Some (c, record { rest = s.rest; fit = true; small = small }))) d

late_none : (c : CommandTree) (s : Reader) → s.fit ≡ true → s.small ≡ true → late_refusal (Some (c, s)) ≡ None
late_none c s e d = ap (λ fit. late_refusal (Some (c, record { rest = s.rest; fit = fit; small = s.small }))) e
    ∙ ap (λ small. late_refusal (Some (c, record { rest = s.rest; fit = true; small = small }))) d

pub judged_unfit : (line : List ℕ) (at : At) → length (tokens_of line) ≤ at.place → at.fit ≡ false
    → RefusesAtEnd (standing line at) (faults.Refused refusals.NumberRange)
judged_unfit line at h e = record {
  refuses = λ c. (
    ap late_refusal (ended_whole line at c h) ∙ late_unfit c (standing line at) e,
    ap is_at_end (ended_whole line at c h) ∙ at_end line at h,
  );
}

judged_large : (line : List ℕ) (at : At) → length (tokens_of line) ≤ at.place → at.fit ≡ true → (has_short_words line && at.small) ≡ false
    → RefusesAtEnd (standing line at) (faults.Refused refusals.TooLarge)
judged_large line at h e d = record {
  refuses = λ c. (
    ap late_refusal (ended_whole line at c h) ∙ late_large c (standing line at) e d,
    ap is_at_end (ended_whole line at c h) ∙ at_end line at h,
  );
}

pub judged_listed : (line : List ℕ) (at : At) → length (tokens_of line) ≤ at.place → at.fit ≡ true → at.small ≡ false
    → RefusesAtEnd (standing line at) (faults.Refused refusals.TooLarge)
judged_listed line at h e d = judged_large line at h e (ap (λ b. has_short_words line && b) d ∙ and_false (has_short_words line))

pub judged_long : (line : List ℕ) (at : At) → length (tokens_of line) ≤ at.place → at.fit ≡ true → has_long (lexemes_from 0 line) ≡ true
    → RefusesAtEnd (standing line at) (faults.Refused refusals.TooLarge)
judged_long line at h e long = judged_large line at h e (ap (λ b. not b && at.small) long)

pub judged_whole : (line : List ℕ) (at : At) (c : CommandTree) → length (tokens_of line) ≤ at.place → at.fit ≡ true → at.small ≡ true
    → has_long (lexemes_from 0 line) ≡ false → IsWholeCommand (ended (c, standing line at)) c
judged_whole line at c h e d short =
    record {
      taken =
          ap late_refusal (ended_whole line at c h)
          ∙ late_none c (standing line at) e (ap (λ b. not b && at.small) short ∙ d);
      command =
          ap (option_map (λ (r : CommandTree × Reader). r.0)) (ended_whole line at c h);
    }

pub ruleset at_the_end = (judged_early, judged_unfit, judged_listed, judged_long, judged_whole)

ended_at_end : (c : CommandTree × Reader) → is_none (front c.1.rest) ≡ true → Some c ≡ ended c
ended_at_end c e = sym (ap (λ b. if b then Some c else None) e)

-- a command that isn't read, before its end
pub by_ended : (o : Read CommandTree) (fault : CommandFault) → Refuses o fault → Refuses (to_end o) fault
by_ended o faults.NoMemory h = tt
by_ended None (faults.Refused r) h = h
by_ended (Some c) (faults.Refused r) h = subst (λ (o : Read CommandTree). Refuses o (faults.Refused r)) (ended_at_end c h.1) h

-- a command that is read, and taken at its end
pub ended_is_whole : (o : Read CommandTree) (s : Reader) (c : CommandTree) → ((c : CommandTree) → IsWholeCommand (ended (c, s)) c) → o ≡ Some (c, s)
    → IsWholeCommand (to_end o) c
ended_is_whole o s c h e = subst (λ (o : Read CommandTree). IsWholeCommand (to_end o) c) (sym e) (h c)

-- a command that is read, and refused at its end
pub ended_is_refused : (o : Read CommandTree) (s : Reader) (fault : CommandFault) → RefusesAtEnd s fault
    → option_map (λ (r : CommandTree × Reader). r.1) o ≡ Some s → Refuses (to_end o) fault
ended_is_refused None s fault h e = absurd (cc e)
ended_is_refused (Some c) s fault h e =
    let same : c.1 ≡ s = cc e in
    subst (λ (x : Reader). Refuses (ended (c.0, x)) fault) (sym same) (h.refuses c.0)

-- the same of a command of one word
pub word_is_refused : (s : Reader) (c : CommandTree) (fault : CommandFault) → RefusesAtEnd s fault → Refuses (ended (c, s)) fault
word_is_refused s c fault h = h.refuses c

pub ruleset form_steps = (no_part, behind_part, mapped_part, by_ended, ended_is_whole, ended_is_refused, word_is_refused)
