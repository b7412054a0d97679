-- The generator's lines are answered and counted one after another.
use Rattle.std.proofs.Common.{◌≡◌, ◌≤◌, ◌+◌, arith, ℕ, Bool, true, false, Some, List, ◌++◌, [], ◌∷◌, refl, sym, ap, ◌∙◌}
use Rattle.std.specs.Prelude.{is_some, Result, Ok, fold}
use Rattle.outside.specs.Shelf.{Texts}
use Rattle.command_text.specs.declared.refusal.Refusal.{Refusal}
use Rattle.command_text.specs.Refusals.{refusal_line}
use Rattle.line_meaning.specs.Reply.{line_feed}
use Rattle.line_meaning.specs.Step.{Base, Held, base, step}
use Rattle.session.specs.declared.next.ApplyFault.{ApplyFault}
use Rattle.session.specs.declared.next.Next.{Next}
use Rattle.session.specs.declared.next.Next.TheVariants as nexts
use Rattle.session.specs.Answers.{Applies}
use Rattle.session.proofs.UntoldLemmas.{same_texts}
use Rattle.generator.specs.Lines.{lines_of}
use Rattle.generator.specs.Next.{GivesNext}
use Rattle.domino_run.specs.Looks.{looks_of_lines}
use Rattle.domino_run.specs.Machine.{looks_of_line}
use Rattle.domino_run.specs.Summary.{AnswersAs, LineTally, counted_line, first_state, nothing_counted, summary, tally_after, tally_text, told_of_lines}
use Rattle.domino_run.proofs.AnswerLemmas.{IsAccepted, answered, left_after, step_of}

module _ (told told' : Texts) (line : List ℕ) (h new : Held) (after : List ℕ) (result : Result Next ApplyFault)
    (applies : Applies (Some told) (Some told') line h new [] after result) where
  abbrev empty : List ℕ
  empty = []

  -- a line that is accepted
  pub accepted_counts : (next : Next) → IsAccepted next → result ≡ Ok next → AnswersAs (base h told) line (base new told') false after
  accepted_counts next plain is =
      let (fault, next_is, new_is, reply) = step_of next (base h told) line new [] after plain
      (answered (Some told) (Some told') line h new false empty after result applies next is told refl) in
      let texts = same_texts told' (step (base h told) line).0.texts
      (left_after (Some told) (Some told') line h new false empty after result applies next is told refl) in
      (sym (ap is_some fault), (λ i. (record { held = sym new_is i; texts = sym texts i }, sym reply i)))

  -- and one that is refused, whose refusal is then written
  pub refused_counts : (r : Refusal) (final : List ℕ) → result ≡ Ok (nexts.Refused r) → final ≡ after ++ (refusal_line r ++ line_feed) →
      AnswersAs (base h told) line (base new told') true final
  refused_counts r final is said =
      let (fault, step_is, new_is, same) =
      answered (Some told) (Some told') line h new false empty after result applies (nexts.Refused r) is told refl in
      let texts : told' ≡ told
      = same_texts told' (step (base h told) line).0.texts
      (left_after (Some told) (Some told') line h new false empty after result applies (nexts.Refused r) is told refl)
      ∙ ap (λ (s : Base × List ℕ). s.0.texts) step_is in
      let reply : final ≡ refusal_line r ++ line_feed = said ∙ ap (λ o. o ++ (refusal_line r ++ line_feed)) same in
      (sym (ap is_some fault), step_is ∙ (λ i. (record { held = sym new_is i; texts = sym texts i }, sym reply i)))

-- what was counted goes on to what all lines come to
pub counts_on : (old new : Base) (t : LineTally) (line reply : List ℕ) (refused : Bool) (left after : List (List ℕ)) →
    left ≡ line ∷ after → AnswersAs old line new refused reply →
    fold counted_line (new, tally_after t refused reply) after ≡ fold counted_line (old, t) left
counts_on old new t line reply refused left after is a =
    sym (ap (fold counted_line (old, t)) is
    ∙ (λ i. fold counted_line ((a.1 i).0, tally_after t (sym a.0 i) (a.1 i).1) after))

-- what a line looks at goes on to what all lines may
pub looks_on : (old new : Base) (line reply : List ℕ) (refused : Bool) (left after : List (List ℕ)) (reads reads' most : ℕ) →
    left ≡ line ∷ after → AnswersAs old line new refused reply → reads' ≤ reads + looks_of_line old line →
    reads + looks_of_lines old left ≤ most → reads' + looks_of_lines new after ≤ most
looks_on old new line reply refused left after reads reads' most is a one all =
    let first : looks_of_lines old left ≡ looks_of_line old line + looks_of_lines (step old line).0 after = ap (looks_of_lines old) is in
    let later : looks_of_lines (step old line).0 after ≡ looks_of_lines new after = ap (λ (s : Base × List ℕ). looks_of_lines s.0 after) a.1 in
    omega (arith, one, all, first, later)

-- and so does a line that no reply was counted of
pub looks_stop : (old : Base) (line : List ℕ) (left after : List (List ℕ)) (reads reads' most : ℕ) → left ≡ line ∷ after →
    reads' ≤ reads + looks_of_line old line → reads + looks_of_lines old left ≤ most → reads' ≤ most
looks_stop old line left after reads reads' most is one all =
    let first : looks_of_lines old left ≡ looks_of_line old line + looks_of_lines (step old line).0 after = ap (looks_of_lines old) is in
    omega (arith, one, all, first)

-- where no line is left, the text of what was counted is that of all lines
pub told_is : (text before line : List ℕ) (b start : Base) (t : LineTally) (left after all : List (List ℕ)) (more : Bool) →
    text ≡ tally_text t → fold counted_line (b, t) left ≡ fold counted_line (start, nothing_counted) all →
    GivesNext left after before line more → more ≡ false → text ≡ told_of_lines start all
told_is text before line b start t left after all true text_is on gives none = absurd (cc none)
told_is text before line b start t left after all false text_is on (no_line, none_after, stays) none =
    text_is ∙ ap (λ (s : Base × LineTally). tally_text s.1) (sym (ap (fold counted_line (b, t)) no_line) ∙ on)

-- from the first state on, the lines of a number have their summary
pub summary_is : (text : List ℕ) (start : Base) (number : ℕ) (all : List (List ℕ)) → start ≡ first_state.0 → all ≡ lines_of number →
    text ≡ told_of_lines start all → text ≡ summary number
unfolding summary
summary_is text start number all first are told = told ∙ (λ i. told_of_lines (first i) (are i))
