use Rattle.std.proofs.Common.{◌+◌, ◌*◌, ◌≤◌, arith}
use Rattle.kept_rows.proofs.RisingLemmas.{rising-wider}
use Rattle.kept_rows.proofs.renewal.refresh_one.Goals as goal

pub note-requires-clause-there : goal.note-requires-clause-there
note-requires-clause-there g c = omega (arith, c.requires.room, c.args.variable.now.room, c.if-own-variable.false)

pub returns-clause-rising : goal.returns-clause-rising
returns-clause-rising g c =
    let below : c.args.variable.now.own + 1 ≤ c.args.variable.now.capacity * 1 = omega (arith, c.args.variable.now.room, c.if-own-variable.false) in
    rising-wider 0 0 (c.args.variable.now.own + 1) (c.args.variable.now.capacity * 1) _ (omega arith) below c.in_ok-note.ensures.rising
