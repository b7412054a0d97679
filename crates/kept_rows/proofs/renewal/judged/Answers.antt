use Rattle.std.proofs.Common.{ℕ, ◌*◌, ◌∷◌, List, length, subst, arith}
use Rattle.kept_rows.specs.Rising.{AscendsWithin}
use Rattle.kept_rows.proofs.RisingLemmas.{rising-wider}
use Rattle.kept_rows.proofs.renewal.judged.Goals as goal

pub note-requires-clause-rising : goal.note-requires-clause-rising
note-requires-clause-rising g c =
    let from : ℕ = c.numbers.invariant.at.0 in
    let left = c.numbers.invariant.at.2 (length c.args.kept.now * 16) c.requires in
    let r : AscendsWithin from (length c.args.kept.now * 16) (c.in-Some.number.now ∷ c.in-Some.later.now) =
    subst (λ (xs : List ℕ). AscendsWithin from (length c.args.kept.now * 16) xs) c.in-Some.ensures.cases.0 left.1 in
    rising-wider 0 0 from c.in-Some.number.now _ (omega arith) r.0 c.numbers.invariant.at.1

pub returns-clause-rising : goal.returns-clause-rising
returns-clause-rising g c = λ to r.
    let left = c.numbers.invariant.at.2 to r in
    rising-wider 0 0 c.numbers.invariant.at.0 to _ (omega arith) left.0 c.numbers.invariant.at.1
