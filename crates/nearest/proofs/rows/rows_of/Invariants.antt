use Rattle.std.proofs.Common.{◌≡◌, take}
use Rattle.nearest.specs.Rows.{rows_along, told_near}
use Rattle.nearest.proofs.rows.rows_of.Given as goal

abbrev pub invariant-objects : goal.invariant-objects
invariant-objects l = told_near l.rows.items ≡ rows_along l.fn.aim.target.now l.courses l.fn.aim.k l.fn.w (take l.o-index l.courses)
