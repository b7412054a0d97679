use Rattle.std.proofs.Common.{◌-◌, length, refl, subst, arith}
use Rattle.std.specs.Option.{IfSome}
use Rattle.std.specs.Prelude.{◌≡◌, false, slice_get}
use Rattle.std.proofs.lemmas.Option.{slice_get_within}
use Rattle.atoms.specs.ValueRuns.{AreMaximalRuns, IsJoined, goes_on}
use Rattle.atoms.proofs.ValueRunLemmas.{joined_more, pushed_more}
use Rattle.atoms.proofs.value_list.append_run.Goals as goal

pub returns-in-Some : goal.returns-in-Some
returns-in-Some c = λ value from order are has.
    let runs = c.args.runs.now.items in
    let joined : IsJoined runs c.args.run c.in-Some.longer
    = subst (λ xs. IsJoined xs c.args.run c.in-Some.longer) c.deref.ensures.value c.in-Some.ensures.joined in
    joined_more value from c.args.run.span.lo c.args.run order refl has runs c.in-Some.longer (c.len-place.result - 1) are joined
    (omega (arith, slice_get_within runs (length runs - 1) joined.last joined.is))

pub returns-in_ok-push-in-None : goal.returns-in_ok-push-in-None
returns-in_ok-push-in-None c = λ value from order are has.
    let runs = c.args.runs.now.items in
    let apart : IfSome (slice_get runs (length runs - 1)) (λ last. goes_on last c.args.run ≡ false)
    = subst (λ xs. IfSome (slice_get xs (length xs - 1)) (λ last. goes_on last c.args.run ≡ false)) c.deref.ensures.value c.in-None.ensures.apart in
    subst (AreMaximalRuns value from _) (grind (arith, c.in_ok-push-in-None.ensures.items))
    (pushed_more value from c.args.run.span.lo c.args.run order refl has runs are apart)
