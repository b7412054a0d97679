use Rattle.std.proofs.Common.{◌≡◌, ◌∙◌, ◌+◌, ◌∷◌, ap, sym, take, drop, arith}
use Rattle.std.proofs.lemmas.Grind.{common_steps}
use Rattle.std.proofs.lemmas.List.{take_rest}
use Rattle.std.specs.Str.Lines.{lines, strip_carriage_return}
use Rattle.session_file.proofs.LineLemmas.{lines_ended}
use Rattle.session_file.proofs.lines.split_line.Goals as goal

pub returns-in-Some-clause-line : goal.returns-in-Some-clause-line
returns-in-Some-clause-line c =
    let text = c.args.text.now in
    let end = c.in-Some.end in
    let line : c.without_carriage_return.result.now ≡ strip_carriage_return (take end text) = grind (arith, common_steps, c.without_carriage_return.ensures) in
    lines_ended text end (sym c.line_end.ensures ∙ c.in-Some.is)
    ∙ ap (λ l. l ∷ lines (drop (end + 1) text)) (sym line)
    ∙ ap (λ rest. c.without_carriage_return.result.now ∷ lines rest) (sym (take_rest text (end + 1)))
