use Rattle.std.proofs.Common.{◌/◌, ◌%◌, eqb, refl, ◌∙◌}
use Rattle.std.proofs.lemmas.Bool.{eq-eqb, or_right}
use Rattle.kept_rows.specs.Slots.{has_slot}
use Rattle.kept_rows.proofs.slots.Slots.of_tick.Goals as goal

pub returns : goal.returns
returns c =
    c.with_slot.ensures c.args.tick
    ∙ or_right (has_slot c.none.result c.args.tick) (eqb (c.args.tick / 64 % 64) (c.args.tick / 64 % 64)) (eq-eqb (c.args.tick / 64 % 64) (c.args.tick / 64 % 64) refl)
