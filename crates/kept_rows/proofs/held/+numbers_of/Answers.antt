use Rattle.std.proofs.Common.{◌∙◌}
use Rattle.std.proofs.lemmas.Bool.{lt-ltb, or_right}
use Rattle.kept_rows.proofs.HeldLemmas.{held-of}
use Rattle.kept_rows.proofs.held.+numbers_of.Goals as goal

pub returns-clause-held : goal.returns-clause-held
returns-clause-held t c = λ n.
    held-of c.args.variables.now c.in-Some.first.now c.in-Some.later.now c.in_ok-held.held.items c.in_ok-rest.rest.all.items c.in_ok-rest.rest.held.items
    c.deref.result.now c.deref-2.result.now c.size-width.result n
    c.in-Some.ensures.cases.0 c.size-width.ensures.value c.size-width.ensures.some c.deref.ensures.value c.deref-2.ensures.value c.in_ok-held.ensures.has
    (λ b. c.in_ok-rest.ensures.all (c.needs_later.ensures ∙ or_right _ _ (lt-ltb _ _ b))) c.in_ok-rest.ensures.held
