use Rattle.std.proofs.Common.{None, ap, sym, ◌∙◌, arith}
use Rattle.std.specs.Prelude.{unwrap_or}
use Rattle.std.proofs.lemmas.Bool.Decides.{nat_tests}
use Rattle.std.proofs.lemmas.Option.{unwrap_or-slice_get}
use Rattle.atoms.proofs.PartLemmas.{found_beside, none_beside}
use Rattle.atoms.proofs.parts.beside.Goals as goal

pub returns-then-variables-k : goal.returns-then-variables-k
returns-then-variables-k c =
    let found = found_beside c.args.variables.now c.args.epochs.now c.args.v c.loop-k.k (omega arith) c.loop-k.invariant (grind (arith, nat_tests)) in
    c.item_at.ensures ∙ sym (ap (λ o. unwrap_or o None) found ∙ unwrap_or-slice_get c.args.epochs.now c.loop-k.k None)

pub returns : goal.returns
returns c =
    sym (ap (λ o. unwrap_or o None) (none_beside c.args.variables.now c.args.epochs.now c.args.v (λ j l. c.loop-k.invariant j (omega arith))))
