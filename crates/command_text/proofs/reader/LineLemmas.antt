-- From the tokens of a line to the line.
use Rattle.command_text.proofs.Names.{◌≡◌, ℕ, Bool, true, false, List, [], ◌∷◌, Option, Some, None, option_map, refl, sym, ◌∙◌, ap, subst, Result, Ok, Err, IfOk, IfErr, MatchResult, is_none, is_some, not, ◌&&◌, if◌then◌else◌, ◌>>=◌, bad_place, At, Command, CommandFault, Refusal, CommandTree, command_view, Kind, Piece, piece_of, line_pieces, Reader, Read, front, next, at_first, by_token, to_end, command_begun, command, command_of, standing, first_that_holds, is_comment, is_too_long, has_other_byte, has_bad_token, command_in, early_refusal, late_refusal, first_refusal, or_else, IsBegun, IsRead, IsWholeCommand, Refuses, TellsBadPlace, Lexeme, NAME, before, by_key, by_name, good, has_long, has_short_words, lexemes, short_word}
use Rattle.command_text.specs.declared.fault.CommandFault.TheVariants as faults
use Rattle.command_text.specs.declared.refusal.Refusal.TheVariants as refusals
use Rattle.ftl_lexer.specs.declared.kinds.Kind.TheVariants as kinds
use Rattle.ftl_parser.specs.Piece as token
use Rattle.command_text.specs.Tree
use Rattle.command_text.specs.Line.{Explains}
use Rattle.command_text.proofs.reader.TableLemmas.{key_begins, name_begins, sign_begins}
use Rattle.exact.proofs.Truths.{and_true}

-- where a reader begins
abbrev first_place : At
first_place = record { place = 0; fit = true; small = true }

-- a line of which the reader finds no token, or a first one
front_past_none : (ps : List Piece) (fit small : Bool) → next (record { rest = ps; fit = fit; small = small }) ≡ None → is_none (front ps) ≡ true
unfolding next
front_past_none [] fit small e = refl
front_past_none (p ∷ ps) fit small e = absurd (cc e)

front_of_some : (ps : List Piece) (fit small : Bool) (t : Piece × Reader) → next (record { rest = ps; fit = fit; small = small }) ≡ Some t
    → is_none (front ps) ≡ false
unfolding next
front_of_some [] fit small t e = absurd (cc e)
front_of_some (p ∷ ps) fit small t e = refl

-- the reader of the program begins where the reader does
first_is : (line : List ℕ) → standing line first_place ≡ at_first line
first_is line = ap (λ b. before (line_pieces line) (true, b)) (and_true (has_short_words line))

-- a line without tokens
none_left : (tokens : List Lexeme) → is_none (front (token.pieces tokens)) ≡ true → tokens ≡ []
none_left [] e = refl
none_left (t ∷ tokens) e = absurd (cc)

blank_front : (line : List ℕ) → next (standing line first_place) ≡ None → is_none (front (line_pieces line)) ≡ true
blank_front line e = front_past_none (line_pieces line) true (has_short_words line && true) e

blank_line : (line : List ℕ) → next (standing line first_place) ≡ None → command_of (at_first line) ≡ Some (Tree.Nothing, at_first line)
unfolding command_of
blank_line line e = ap (λ b. if b then Some (Tree.Nothing, at_first line) else command (at_first line)) (blank_front line e)

blank_taken : (line : List ℕ) → next (standing line first_place) ≡ None → late_refusal (Some (Tree.Nothing, at_first line)) ≡ None
blank_taken line e =
    ap (λ tokens. late_refusal (Some (Tree.Nothing, before (line_pieces line) (true, not (has_long tokens))))) (none_left (lexemes line) (blank_front line e))

begun_line : (line : List ℕ) (t : Piece × Reader) → next (standing line first_place) ≡ Some t
    → command_of (at_first line) ≡ (to_end (by_token t.0 t.1))
unfolding command_of command command_begun
begun_line line t e =
    ap (λ b. if b then Some (Tree.Nothing, at_first line) else command (at_first line))
    (front_of_some (line_pieces line) true (has_short_words line && true) t e)
    ∙ ap (λ (o : Read Piece). to_end (o >>= (λ t. by_token t.0 t.1))) (ap next (sym (first_is line)) ∙ e)

pub blank_whole : (line : List ℕ) → next (standing line first_place) ≡ None → IsWholeCommand (command_of (at_first line)) Tree.Nothing
blank_whole line e = record {
  taken = ap late_refusal (blank_line line e) ∙ blank_taken line e;
  command = ap (option_map (λ (r : CommandTree × Reader). r.0)) (blank_line line e);
}

-- a line with tokens, whatever its command answers
begun_either : (line : List ℕ) (t : Piece × Reader) (found : Read CommandTree) (r : Result Command CommandFault) →
    next (standing line first_place) ≡ Some t → by_token t.0 t.1 ≡ found →
    MatchResult r (λ c. IsWholeCommand (to_end found) (command_view c)) (Refuses (to_end found)) →
    MatchResult r (λ c. IsWholeCommand (command_of (at_first line)) (command_view c)) (Refuses (command_of (at_first line)))
begun_either line t found r e d h =
    subst (λ (o : Read CommandTree). MatchResult r (λ c. IsWholeCommand o (command_view c)) (Refuses o)) (sym (begun_line line t e ∙ ap to_end d)) h

-- one that a reserved word begins
pub begun_by_key : (line : List ℕ) (code : ℕ) (bytes : List ℕ) (s : Reader) (r : Result Command CommandFault) →
    next (standing line first_place) ≡ Some (piece_of (kinds.Key code) bytes, s) →
    MatchResult r (λ c. IsWholeCommand (to_end (by_key code s)) (command_view c)) (Refuses (to_end (by_key code s))) →
    MatchResult r (λ c. IsWholeCommand (command_of (at_first line)) (command_view c)) (Refuses (command_of (at_first line)))
begun_by_key line code bytes s r e h = begun_either line (piece_of (kinds.Key code) bytes, s) (by_key code s) r e (key_begins code s) h

-- and one that a name begins
pub begun_by_name : (line word : List ℕ) (s : Reader) (r : Result Command CommandFault) →
    next (standing line first_place) ≡ Some (NAME (short_word word), s) →
    MatchResult r (λ c. IsWholeCommand (to_end (by_name word s)) (command_view c)) (Refuses (to_end (by_name word s))) →
    MatchResult r (λ c. IsWholeCommand (command_of (at_first line)) (command_view c)) (Refuses (command_of (at_first line)))
begun_by_name line word s r e h = begun_either line (NAME (short_word word), s) (by_name word s) r e (name_begins word s) h

-- a line whose first token begins no command
pub nothing_begun : (line : List ℕ) (t : Piece × Reader) (e : CommandFault) → next (standing line first_place) ≡ Some t
    → Refuses (to_end (by_token t.0 t.1)) e → Refuses (command_of (at_first line)) e
nothing_begun line t fault e h = subst (λ (o : Read CommandTree). Refuses o fault) (sym (begun_line line t e)) h

pub other_token : (k : Kind) (bytes : List ℕ) (s : Reader) (fault : CommandFault) → ((code : ℕ) → k ≡ kinds.Key code → ⊥) → (k ≡ kinds.Name → ⊥)
    → fault ≡ faults.Refused refusals.BadSyntax → Refuses (to_end (by_token (piece_of k bytes) s)) fault
other_token (kinds.Key code) bytes s fault key name e = absurd (key code refl)
other_token kinds.Name bytes s fault key name e = absurd (name refl)
other_token kinds.Number bytes s fault key name e = subst (λ (f : CommandFault). Refuses {A = CommandTree} None f) (sym e) (refl, refl)
other_token kinds.Text bytes s fault key name e = subst (λ (f : CommandFault). Refuses {A = CommandTree} None f) (sym e) (refl, refl)
other_token (kinds.Sym code) bytes s fault key name e =
    subst (λ (f : CommandFault). Refuses (to_end (by_token (piece_of (kinds.Sym code) bytes) s)) f) (sym e)
    (subst (λ (o : Read CommandTree). Refuses (to_end o) (faults.Refused refusals.BadSyntax)) (sym (sign_begins code s)) (refl, refl))

pub comment_in : (line : List ℕ) → is_comment line ≡ true → command_in line ≡ Some (Tree.Nothing, before [] good)
unfolding command_in
comment_in line e = ap (λ b. if b then Some (Tree.Nothing, before [] good) else command_of (at_first line)) e

pub other_in : (line : List ℕ) → is_comment line ≡ false → command_in line ≡ command_of (at_first line)
unfolding command_in
other_in line e = ap (λ b. if b then Some (Tree.Nothing, before [] good) else command_of (at_first line)) e

bad_in_comment : (line : List ℕ) → is_comment line ≡ true → has_bad_token line ≡ false
bad_in_comment line e = ap (λ b. not b && is_some (bad_place line)) e

bad_in_other : (line : List ℕ) (o : Option ℕ) → is_comment line ≡ false → bad_place line ≡ o → has_bad_token line ≡ is_some o
bad_in_other line o e d = ap (λ b. not b && is_some (bad_place line)) e ∙ ap is_some d

-- the first refusal by whether the first three hold
abbrev early_by : Bool → Bool → Bool → Option Refusal
early_by long other bad = first_that_holds ((refusals.LineTooLong, long) ∷ (refusals.NotAscii, other) ∷ (refusals.BadToken, bad) ∷ [])

early_first : (limit : ℕ) (line : List ℕ) (r : Refusal) → early_refusal limit line ≡ Some r → first_refusal limit line ≡ Some r
early_first limit line r e = ap (λ o. or_else o (late_refusal (command_in line))) e

early_passed : (limit : ℕ) (line : List ℕ) (bad : Bool) → is_too_long limit line ≡ false → has_other_byte line ≡ false → has_bad_token line ≡ bad
    → early_refusal limit line ≡ early_by false false bad
early_passed limit line bad e d b =
    ap (λ long. early_by long (has_other_byte line) (has_bad_token line)) e ∙ ap (λ other. early_by false other (has_bad_token line)) d
    ∙ ap (early_by false false) b

pub too_long : (limit : ℕ) (line : List ℕ) → is_too_long limit line ≡ true → Explains limit line (faults.Refused refusals.LineTooLong)
too_long limit line e =
    early_first limit line refusals.LineTooLong (ap (λ long. early_by long (has_other_byte line) (has_bad_token line)) e)

pub not_ascii : (limit : ℕ) (line : List ℕ) → is_too_long limit line ≡ false → has_other_byte line ≡ true
    → Explains limit line (faults.Refused refusals.NotAscii)
not_ascii limit line e d =
    early_first limit line refusals.NotAscii
    (ap (λ long. early_by long (has_other_byte line) (has_bad_token line)) e ∙ ap (λ other. early_by false other (has_bad_token line)) d)

pub comment_begun : (limit : ℕ) (line tokens : List ℕ) → is_too_long limit line ≡ false → has_other_byte line ≡ false → is_comment line ≡ true
    → IsBegun limit line tokens true
comment_begun limit line tokens e d c = record {
  early = early_passed limit line false e d (bad_in_comment line c);
  comment = c;
  cut = λ clash. absurd (cc clash);
}

pub cut_begun : (limit : ℕ) (line tokens : List ℕ) → is_too_long limit line ≡ false → has_other_byte line ≡ false → is_comment line ≡ false
    → tokens ≡ line → bad_place line ≡ None → IsBegun limit line tokens false
cut_begun limit line tokens e d c same good = record {
  early = early_passed limit line false e d (bad_in_other line None c good);
  comment = c;
  cut = λ other. same;
}

pub bad_explained : (limit : ℕ) (line : List ℕ) (fault : CommandFault) → is_too_long limit line ≡ false → has_other_byte line ≡ false
    → is_comment line ≡ false → TellsBadPlace line fault → Explains limit line fault
bad_explained limit line (faults.Refused r) e d c h =
    early_first limit line r (early_passed limit line true e d (bad_in_other line (bad_place line) c refl ∙ h.1) ∙ ap Some (sym h.0))
bad_explained limit line faults.NoMemory e d c h = early_passed limit line false e d (bad_in_other line None c h)

pub ruleset begin_steps = (too_long, not_ascii, comment_begun, cut_begun, bad_explained)

-- what is read of a line that was begun
late_first : (limit : ℕ) (line : List ℕ) (found : Read CommandTree) → early_refusal limit line ≡ None → command_in line ≡ found
    → first_refusal limit line ≡ late_refusal found
late_first limit line found e d = ap (λ o. or_else o (late_refusal (command_in line))) e ∙ ap late_refusal d

pub comment_read : (limit : ℕ) (line tokens : List ℕ) (told : Bool) → IsBegun limit line tokens told → told ≡ true → IsRead limit line Tree.Nothing
comment_read limit line tokens told begun is =
    let comment : is_comment line ≡ true = begun.comment ∙ is in
    record {
      taken = late_first limit line (Some (Tree.Nothing, before [] good)) begun.early (comment_in line comment);
      command = ap (option_map (λ (r : CommandTree × Reader). r.0)) (comment_in line comment);
    }

pub other_read : (limit : ℕ) (line tokens : List ℕ) (told : Bool) (c : CommandTree) → IsBegun limit line tokens told → told ≡ false
    → IsWholeCommand (command_of (at_first line)) c → IsRead limit line c
other_read limit line tokens told c begun is whole =
    let other : is_comment line ≡ false = begun.comment ∙ is in
    record {
      taken = late_first limit line (command_of (at_first line)) begun.early (other_in line other) ∙ whole.taken;
      command = ap (option_map (λ (r : CommandTree × Reader). r.0)) (other_in line other) ∙ whole.command;
    }

pub whole_read : (limit : ℕ) (line tokens : List ℕ) (told : Bool) (r : Result Command CommandFault) → IsBegun limit line tokens told → told ≡ false →
    MatchResult r (λ c. IsWholeCommand (command_of (at_first tokens)) (command_view c)) (Refuses (command_of (at_first tokens)))
    → IfOk r (λ c. IsRead limit line (command_view c))
whole_read limit line tokens told (Err fault) begun is h = tt
whole_read limit line tokens told (Ok c) begun is h =
    other_read limit line tokens told (command_view c) begun is
    (subst (λ (l : List ℕ). IsWholeCommand (command_of (at_first l)) (command_view c)) (begun.cut is) h)

refused_read : (limit : ℕ) (line : List ℕ) (fault : CommandFault) → early_refusal limit line ≡ None → is_comment line ≡ false
    → Refuses (command_of (at_first line)) fault → Explains limit line fault
refused_read limit line (faults.Refused r) e d h = late_first limit line (command_of (at_first line)) e (other_in line d) ∙ h.0
refused_read limit line faults.NoMemory e d h = e

pub whole_explained : (limit : ℕ) (line tokens : List ℕ) (told : Bool) (r : Result Command CommandFault) → IsBegun limit line tokens told →
    told ≡ false → MatchResult r (λ c. IsWholeCommand (command_of (at_first tokens)) (command_view c)) (Refuses (command_of (at_first tokens)))
    → IfErr r (Explains limit line)
whole_explained limit line tokens told (Ok c) begun is h = tt
whole_explained limit line tokens told (Err fault) begun is h =
    refused_read limit line fault begun.early (begun.comment ∙ is)
    (subst (λ (l : List ℕ). Refuses (command_of (at_first l)) fault) (begun.cut is) h)
