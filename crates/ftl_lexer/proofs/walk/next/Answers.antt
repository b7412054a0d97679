-- The blanks are passed over, and a token follows or none begins.
use Rattle.std.proofs.Common.{◌≡◌, ◌+◌, ◌<◌, ◌≤◌, length, drop, Some, arith, ap, sym, ◌∙◌}
use Rattle.std.specs.List.{prefix_len}
use Rattle.std.proofs.lemmas.List.{length-drop}
use Rattle.ftl_lexer.specs.Forms.{is_blank, token_at}
use Rattle.ftl_lexer.proofs.Steps.{step_end, step_within, step_token, step_bad}
use Rattle.ftl_lexer.proofs.walk.next.Goals as goal

pub returns-then-at-line : goal.returns-then-at-line
returns-then-at-line c =
    step_end c.args.line.now c.args.from c.blank_len.result (c.blank_len.ensures.value ∙ ap (prefix_len is_blank) c.rest_of.ensures) c.if-at-line.true

pub overflow_add-result : goal.overflow_add-result
overflow_add-result c =
    let blanks : c.args.from + c.blank_len.result ≤ length c.args.line.now =
    omega (arith, length-drop c.args.from c.args.line.now, ap length c.rest_of.ensures) in
    let found : token_at (drop (c.args.from + c.blank_len.result) c.args.line.now) ≡ Some (c.in-Some.kind, c.in-Some.len) =
    ap token_at (sym c.rest_of-2.ensures) ∙ (sym c.token_at.ensures ∙ c.in-Some.is) in
    let within = step_within c.args.line.now (c.args.from + c.blank_len.result) c.in-Some.kind c.in-Some.len blanks found in
    omega (arith, within.1)

pub returns-in-Some : goal.returns-in-Some
returns-in-Some c =
    let blanks : c.args.from + c.blank_len.result < length c.args.line.now =
    omega (arith, length-drop c.args.from c.args.line.now, ap length c.rest_of.ensures) in
    let counted = c.blank_len.ensures.value ∙ ap (prefix_len is_blank) c.rest_of.ensures in
    let found : token_at (drop (c.args.from + c.blank_len.result) c.args.line.now) ≡ Some (c.in-Some.kind, c.in-Some.len) =
    ap token_at (sym c.rest_of-2.ensures) ∙ (sym c.token_at.ensures ∙ c.in-Some.is) in
    let within = step_within c.args.line.now (c.args.from + c.blank_len.result) c.in-Some.kind c.in-Some.len (omega arith) found in (
      omega arith,
      omega (arith, within.0),
      within.1,
      step_token c.args.line.now c.args.from c.blank_len.result c.in-Some.kind c.in-Some.len counted blanks found,
    )

pub returns-in-None : goal.returns-in-None
returns-in-None c =
    let blanks : c.args.from + c.blank_len.result < length c.args.line.now =
    omega (arith, length-drop c.args.from c.args.line.now, ap length c.rest_of.ensures) in
    let counted = c.blank_len.ensures.value ∙ ap (prefix_len is_blank) c.rest_of.ensures in
    step_bad c.args.line.now c.args.from c.blank_len.result counted blanks (ap token_at (sym c.rest_of-2.ensures) ∙ (sym c.token_at.ensures ∙ c.in-None.is))
