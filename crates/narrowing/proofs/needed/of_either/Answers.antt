use Rattle.std.proofs.Common.{subst, ◌∙◌, ap}
use Rattle.std.specs.Prelude.{IfSome}
use Rattle.std.specs.List.{filter}
use Rattle.std.specs.List.Sorted.{IsStrictlyIncreasing}
use Rattle.relation.specs.Key.{has_id}
use Rattle.narrowing.proofs.ShareLemmas.{of_common}
use Rattle.narrowing.proofs.needed.of_either.Goals as goal

pub returns-in_ok-ids-in-Some-Some : goal.returns-in_ok-ids-in-Some-Some
returns-in_ok-ids-in-Some-Some c =
    of_common (λ ids. ids.items) c.args.left c.args.right c.in-Some-Some.left c.in-Some-Some.right c.in_ok-ids-in-Some-Some.ids.items
    c.in-Some-Some.is-0 c.in-Some-Some.is-1
    (subst (λ list. IfSome list (λ ids. IsStrictlyIncreasing ids.items)) c.in-Some-Some.is-0 c.requires.left)
    (c.in_ok-ids-in-Some-Some.ensures
    ∙ ap (λ others. filter (has_id others) c.deref.result.now) c.deref-in-Some-Some.ensures.value
    ∙ ap (filter (has_id c.in-Some-Some.right.items)) c.deref.ensures.value)
