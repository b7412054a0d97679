-- For this crate and for the crates above: a line of too many bytes is refused for its length, which is the first of all refusals.
use Rattle.std.proofs.Common.{◌≡◌, ℕ, ◌<◌, Bool, true, Option, Some, List, ◌++◌, [], ◌∷◌, length, refl, ap, ◌∙◌, arith}
use Rattle.std.proofs.lemmas.Bool.Decides.{nat_tests}
use Rattle.command_text.specs.declared.reading.TheConstants.{LINE_LIMIT}
use Rattle.command_text.specs.declared.refusal.Refusal.{Refusal}
use Rattle.command_text.specs.declared.refusal.Refusal.TheVariants as refusals
use Rattle.command_text.specs.Refusals.{refusal_line}
use Rattle.exact.specs.First.{first_that_holds, or_else}
use Rattle.command_text.specs.Line.{command_in, has_bad_token, has_other_byte, is_too_long, late_refusal}
use Rattle.line_meaning.specs.Reply.{line_feed}
use Rattle.line_meaning.specs.Step.{Base, Held, line_refusal, step}
use Rattle.line_meaning.proofs.CallerLemmas.{refusal_first, refused_line, step_refused}

long_first : (other bad : Bool) (later : Option Refusal) →
    or_else (first_that_holds ((refusals.LineTooLong, true) ∷ (refusals.NotAscii, other) ∷ (refusals.BadToken, bad) ∷ [])) later
    ≡ Some refusals.LineTooLong
long_first other bad later = refl

pub is_long : (line : List ℕ) → LINE_LIMIT < length line → is_too_long LINE_LIMIT line ≡ true
is_long line h = grind (arith, nat_tests, h)

pub long_refusal : (h : Held) (line : List ℕ) → LINE_LIMIT < length line → line_refusal h line ≡ Some refusals.LineTooLong
long_refusal h line long =
    refusal_first h line refusals.LineTooLong
    (ap (λ b. or_else (first_that_holds ((refusals.LineTooLong, b) ∷ (refusals.NotAscii, has_other_byte line)
    ∷ (refusals.BadToken, has_bad_token line) ∷ [])) (late_refusal (command_in line))) (is_long line long)
    ∙ long_first (has_other_byte line) (has_bad_token line) (late_refusal (command_in line)))

pub long_step : (b : Base) (line : List ℕ) → LINE_LIMIT < length line → step b line ≡ (b, refusal_line refusals.LineTooLong ++ line_feed)
long_step b line long =
    step_refused b line refusals.LineTooLong (refused_line b line refusals.LineTooLong (long_refusal b.held line long))
