use Rattle.std.proofs.Common.{◌+◌, ◌∙◌, arith}
use Rattle.std.specs.List.{filter_map}
use Rattle.std.proofs.lemmas.Bool.Decides.{nat_tests}
use Rattle.tick_set.specs.Ticks.{between}
use Rattle.plane.specs.Boxes.{box_of}
use Rattle.plane_index.specs.Lines.{number_of_cell}
use Rattle.plane_index.proofs.ExtentLemmas.{no_tick, of_none}
use Rattle.plane_index.proofs.looking.extent.Goals as goal

pub returns-then-until-from : goal.returns-then-until-from
returns-then-until-from c =
    let none = c.if-until-from.true in
    no_tick c.args.cell.now c.args.from c.args.until (grind (arith, nat_tests, none))

pub returns-in-None : goal.returns-in-None
returns-in-None c =
    (λ i. box_of (filter_map (number_of_cell (c.in-None.is i)) (between c.args.from (c.args.until + 1))))
    ∙ of_none c.args.from c.args.until
