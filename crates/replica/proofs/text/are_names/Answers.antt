use Rattle.std.proofs.Common.{◌∙◌, sym}
use Rattle.replica.specs.Text.{is_free_name}
use Rattle.replica.proofs.WordLemmas.{all_pass, one_fails}
use Rattle.replica.proofs.text.are_names.Goals as goal

pub returns-then-not-is_name : goal.returns-then-not-is_name
returns-then-not-is_name c =
    let so_far = rw c.in-Some.is at c.words.invariant in
    sym (so_far ∙ one_fails is_free_name c.in-Some.left.now _ _ c.cut.ensures.value (sym c.is_name.ensures ∙ c.if-not-is_name.true))

pub words-preserved : goal.words-preserved
words-preserved c =
    let so_far = rw c.in-Some.is at c.words.invariant in
    so_far ∙ all_pass is_free_name c.in-Some.left.now _ _ c.cut.ensures.value (sym c.is_name.ensures ∙ c.if-not-is_name.false)
