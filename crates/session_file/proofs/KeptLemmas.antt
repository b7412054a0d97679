-- Commands of a journal by what a line is read as.
use Rattle.std.proofs.Common.{◌≡◌, ℕ, ◌∙◌, Bool, true, false, cond, ◌&&◌, List, Option, Some, None, is_none, length, leb, arith, ◌*◌, ◌≤◌, unwrap_or, ap, sym}
use Rattle.command_text.specs.declared.refusal.Refusal.{Refusal}
use Rattle.command_text.specs.Tree
use Rattle.command_text.specs.Tree.{CommandTree}
use Rattle.command_text.specs.Journal.{spelled}
use Rattle.std.proofs.lemmas.Bool.Decides.{nat_tests}
use Rattle.command_text.specs.Text.{text_of}
use Rattle.command_text.specs.TextLaws.{PrintsShortly}
use Rattle.command_text.specs.Line.{IsRead, command_in, early_refusal, first_refusal, late_refusal}
use Rattle.command_text.proofs.grammar.DerivedLines.{none_early}
use Rattle.session_file.specs.Kept.{kept_in, may_be_loaded}

-- what is read is what the line spells
spelled_is : (line : List ℕ) (c : CommandTree) → IsRead 16384 line c → spelled line ≡ c
spelled_is line c read = ap (λ (o : Option CommandTree). unwrap_or o Tree.Nothing) read.command

pub kept_is : (line : List ℕ) (c : CommandTree) (b : Bool) → IsRead 16384 line c → may_be_loaded c ≡ b → kept_in line ≡ cond b (Some c) None
unfolding kept_in
kept_is line c b read is =
    let same : spelled line ≡ c = spelled_is line c read in
    ap (λ (r : Option Refusal). cond (is_none r && may_be_loaded (spelled line)) (Some (spelled line)) None) read.taken
    ∙ ap (λ (d : CommandTree). cond (may_be_loaded d) (Some d) None) same
    ∙ ap (λ t. cond t (Some c) None) is

pub kept_taken : (line : List ℕ) (c : CommandTree) → IsRead 16384 line c → may_be_loaded c ≡ true → Some c ≡ kept_in line
kept_taken line c read is = sym (kept_is line c true read is)

pub kept_other : (line : List ℕ) (c : CommandTree) → IsRead 16384 line c → may_be_loaded c ≡ false → None ≡ kept_in line
kept_other line c read is = sym (kept_is line c false read is)

pub kept_refused : (line : List ℕ) (r : Refusal) → first_refusal 16384 line ≡ Some r → None ≡ kept_in line
unfolding kept_in
kept_refused line r is =
    sym (ap (λ (o : Option Refusal). cond (is_none o && may_be_loaded (spelled line)) (Some (spelled line)) None) is)

-- a line of at most 4096 bytes is read as a command of which the canonical line is short enough
pub short_enough : PrintsShortly → (line : List ℕ) (c : CommandTree) → IsRead 16384 line c → length line ≤ 4096 → true ≡ leb (length (text_of c)) 16384
short_enough shortly line c read few = let long : length (text_of c) ≤ 4 * length line = shortly 16384 line c read in grind (arith, nat_tests, long, few)

-- none of the first three refusals holds of a line that was read
pub read_late : (line : List ℕ) (c : CommandTree) → IsRead 16384 line c → early_refusal 16384 line ≡ None
read_late line c read = none_early (early_refusal 16384 line) (late_refusal (command_in line)) read.taken

pub ruleset kept_steps = (kept_taken, kept_other, kept_refused)
