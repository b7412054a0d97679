use Rattle.replica.proofs.RowLemmas.{ticks_or_none}
use Rattle.replica.proofs.rows.ticks_after.Goals as goal

pub returns : goal.returns
returns c =
    let there = rw c.as_slice.ensures.value at c.get.ensures.value in
    let old = ticks_or_none c.args.told.now.target.items c.args.rows.now.entries c.get.result _ c.unwrap_or-old.result c.unwrap_or-old.ensures there c.nothing-empty.ensures in
    rw old at c.combined.ensures
