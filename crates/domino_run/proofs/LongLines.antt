-- Lines that are too long are all answered alike.
use Rattle.std.proofs.Common.{inl, inr, ◌≡◌, ℕ, ◌<◌, Bool, true, false, ◌&&◌, ◌||◌, List, ◌++◌, [], ◌∷◌, length, Option, Some, refl, ap, sym, ◌∙◌, if◌then◌else◌}
use Rattle.std.specs.Prelude.{is_none, is_some}
use Rattle.outside.specs.declared.fault.OutFail.{OutFail}
use Rattle.outside.specs.declared.fault.OutFail.TheVariants.{Failed, NoMemory}
use Rattle.line_loop.specs.Machine.{StepsAlike}
use Rattle.command_text.specs.declared.reading.TheConstants.{LINE_LIMIT}
use Rattle.command_text.specs.declared.refusal.Refusal.TheVariants as refusals
use Rattle.command_text.specs.declared.refusal.Refusal.TheVariants.{LineTooLong}
use Rattle.command_text.specs.Journal.{spelled}
use Rattle.command_text.specs.Line.{early_refusal, first_that_holds, has_bad_token, has_other_byte}
use Rattle.command_text.specs.Refusals.{refusal_line}
use Rattle.line_meaning.specs.Looks.{looks_of}
use Rattle.line_meaning.specs.Reply.{line_feed}
use Rattle.line_meaning.specs.Role.{role_of}
use Rattle.line_meaning.specs.Step.{Base, Held, line_refusal, step}
use Rattle.line_meaning.proofs.CallerLemmas.{refused_line}
use Rattle.line_meaning.proofs.LongLemmas.{is_long}
use Rattle.domino_run.specs.Machine.{RunState, run_cost, run_machine, run_leaves, is_ending, is_last}

long_first : (other bad : Bool) →
    first_that_holds ((refusals.LineTooLong, true) ∷ (refusals.NotAscii, other) ∷ (refusals.BadToken, bad) ∷ []) ≡ Some LineTooLong
long_first other bad = refl

-- a long line is refused before its tokens are read
is_early : (line : List ℕ) → LINE_LIMIT < length line → early_refusal LINE_LIMIT line ≡ Some LineTooLong
is_early line long =
    ap (λ b. first_that_holds ((refusals.LineTooLong, b) ∷ (refusals.NotAscii, has_other_byte line) ∷ (refusals.BadToken, has_bad_token line) ∷ []))
    (is_long line long) ∙ long_first (has_other_byte line) (has_bad_token line)

-- a refused line doesn't end the run
goes_on : (b : Base) (line : List ℕ) → line_refusal b.held line ≡ Some LineTooLong → is_last b line ≡ false
goes_on b line refused = ap (λ r. is_none r && is_ending (role_of (spelled line))) (refused_line b line LineTooLong refused)

pub long_lines_alike : ((h : Held) (line : List ℕ) → LINE_LIMIT < length line → line_refusal h line ≡ Some LineTooLong) →
    ((b : Base) (line : List ℕ) → LINE_LIMIT < length line → step b line ≡ (b, refusal_line LineTooLong ++ line_feed)) →
    (a b : List ℕ) → LINE_LIMIT < length a → LINE_LIMIT < length b → StepsAlike run_machine run_leaves a b
long_lines_alike refuses long_step a b long_a long_b = record {
  next = λ s.
      let quit : is_last s.base a ≡ is_last s.base b
      = goes_on s.base a (refuses s.base.held a long_a) ∙ sym (goes_on s.base b (refuses s.base.held b long_b)) in
      let same : (step s.base a).0 ≡ (step s.base b).0
      = ap (λ r. r.0) (long_step s.base a long_a ∙ sym (long_step s.base b long_b)) in
      λ i. record { base = same i; ended = s.ended || quit i };
  reply = λ s. ap (λ r. r.1) (long_step s.base a long_a ∙ sym (long_step s.base b long_b));
  failure = λ fail s told h. leaves_alike fail s told h;
}
  where
    leaves_alike : (fail : OutFail) (s : RunState) (told : Option RunState) → run_leaves fail s a told → run_leaves fail s b told
    leaves_alike Failed s told h = absurd (cc (h.1.accepted, refuses s.base.held a long_a))
    leaves_alike NoMemory s told (inl same) = inl same
    leaves_alike NoMemory s told (inr h) = absurd (cc (h.1.late, is_early a long_a))

-- and they cost nothing
pub long_lines_cost : (a b : List ℕ) → LINE_LIMIT < length a → LINE_LIMIT < length b → (s : RunState) → run_cost s a ≡ run_cost s b
long_lines_cost a b long_a long_b s =
    ap (λ r. if is_some r then 0 else looks_of s.base (spelled a)) (is_early a long_a)
    ∙ sym (ap (λ r. if is_some r then 0 else looks_of s.base (spelled b)) (is_early b long_b))
