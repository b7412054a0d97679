use Rattle.std.proofs.Common.{Some, ◌+◌, ◌∙◌}
use Rattle.std.specs.List.{filter_map}
use Rattle.tick_set.specs.Ticks.{between}
use Rattle.plane.specs.Boxes.{box_of}
use Rattle.plane_index.specs.Lines.{number_of_cell}
use Rattle.plane_index.proofs.ExtentLemmas.{of_number, of_text, of_vector}
use Rattle.plane_index.proofs.looking.values_of.Goals as goal

pub returns-in-Num : goal.returns-in-Num
returns-in-Num c =
    (λ i. box_of (filter_map (number_of_cell (Some (c.in-Num.is i))) (between c.args.from (c.args.until + 1))))
    ∙ of_number c.in-Num.number c.args.from c.args.until c.requires.order

pub returns-in-Text : goal.returns-in-Text
returns-in-Text c =
    (λ i. box_of (filter_map (number_of_cell (Some (c.in-Text.is i))) (between c.args.from (c.args.until + 1))))
    ∙ of_text c.in-Text.field-0 c.args.from c.args.until

pub returns-in-Dyn : goal.returns-in-Dyn
returns-in-Dyn c =
    (λ i. box_of (filter_map (number_of_cell (Some (c.in-Dyn.is i))) (between c.args.from (c.args.until + 1))))
    ∙ of_vector c.in-Dyn.vector c.args.from c.args.until c.range.result.0 c.range.result.1 c.requires.order c.range.ensures
