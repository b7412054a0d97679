use Rattle.std.proofs.Common.{◌+◌, ◌-◌, ℤ, pos, ◌-ℤ◌, subst, sym, arith, rules, ◌≡◌}
use Rattle.std.proofs.lemmas.Int.{to_z-of_z}
use mir.Syntax.{w128}
use mir.Val.{SFits}
use Rattle.case_table.specs.declared.compare.Op.{Op}
use Rattle.case_table.specs.declared.compare.Op.TheVariants.{Lt, Le, Eq, Ne, Ge, Gt}
use Rattle.tick_set.specs.declared.spans.Window.{Window}
use Rattle.linear_crossing.specs.declared.linear.Pair.{Pair}
use Rattle.linear_crossing.specs.Zones.{solves, IsPairOf}
use Rattle.linear_crossing.proofs.Signs.{TurnsAt, zone-Lt, zone-Le, zone-Eq, zone-Ne, zone-Ge, zone-Gt}
use Rattle.linear_crossing.proofs.linear.rising.Goals as goal

for_op : (a b : ℤ) (op o : Op) (w : Window) (x : Pair) → op ≡ o → IsPairOf (solves a b o w) x → IsPairOf (solves a b op w) x
for_op a b op o w x e h = let P : Op → Type 0 = λ k. IsPairOf (solves a b k w) x in subst P (sym e) h

pub returns-in-Lt : goal.returns-in-Lt
returns-in-Lt c =
    let w = c.args.w in
    let start = c.args.start in
    let rise = pos c.args.rise in
    let n = w.hi + 1 - w.lo in
    let not_negative_fits : SFits w128 (start) = search rules in
    let not_negative : TurnsAt rise (start) n c.first_reached.result = λ k l. grind (arith, to_z-of_z, c.first_reached.ensures.first k l) in
    for_op rise start c.args.op Lt w c.one_stretch.result c.in-Lt.is
    (zone-Lt rise start w n c.first_reached.result c.one_stretch.result (omega arith) (omega arith) not_negative c.one_stretch.ensures)

pub returns-in-Le : goal.returns-in-Le
returns-in-Le c =
    let w = c.args.w in
    let start = c.args.start in
    let rise = pos c.args.rise in
    let n = w.hi + 1 - w.lo in
    let above_fits : SFits w128 (start -ℤ pos 1) = search rules in
    let above : TurnsAt rise (start -ℤ pos 1) n c.first_reached-in-Le.result = λ k l. grind (arith, to_z-of_z, c.first_reached-in-Le.ensures.first k l) in
    for_op rise start c.args.op Le w c.one_stretch-in-Le.result c.in-Le.is
    (zone-Le rise start w n c.first_reached-in-Le.result c.one_stretch-in-Le.result (omega arith) (omega arith) above c.one_stretch-in-Le.ensures)

pub returns-in-Eq : goal.returns-in-Eq
returns-in-Eq c =
    let w = c.args.w in
    let start = c.args.start in
    let rise = pos c.args.rise in
    let n = w.hi + 1 - w.lo in
    let not_negative_fits : SFits w128 (start) = search rules in
    let not_negative : TurnsAt rise (start) n c.first_reached-in-Eq.result = λ k l. grind (arith, to_z-of_z, c.first_reached-in-Eq.ensures.first k l) in
    let above_fits : SFits w128 (start -ℤ pos 1) = search rules in
    let above : TurnsAt rise (start -ℤ pos 1) n c.first_reached-in-Eq-2.result = λ k l. grind (arith, to_z-of_z, c.first_reached-in-Eq-2.ensures.first k l) in
    for_op rise start c.args.op Eq w c.one_stretch-in-Eq.result c.in-Eq.is
    (zone-Eq rise start w n c.first_reached-in-Eq.result c.first_reached-in-Eq-2.result c.one_stretch-in-Eq.result (omega arith) (omega arith) not_negative above c.one_stretch-in-Eq.ensures)

pub returns-in-Ne : goal.returns-in-Ne
returns-in-Ne c =
    let w = c.args.w in
    let start = c.args.start in
    let rise = pos c.args.rise in
    let n = w.hi + 1 - w.lo in
    let not_negative_fits : SFits w128 (start) = search rules in
    let not_negative : TurnsAt rise (start) n c.first_reached-in-Ne.result = λ k l. grind (arith, to_z-of_z, c.first_reached-in-Ne.ensures.first k l) in
    let above_fits : SFits w128 (start -ℤ pos 1) = search rules in
    let above : TurnsAt rise (start -ℤ pos 1) n c.first_reached-in-Ne-2.result = λ k l. grind (arith, to_z-of_z, c.first_reached-in-Ne-2.ensures.first k l) in
    for_op rise start c.args.op Ne w c.both_sides.result c.in-Ne.is
    (zone-Ne rise start w n c.first_reached-in-Ne.result c.first_reached-in-Ne-2.result c.both_sides.result (omega arith) (omega arith) not_negative above c.both_sides.ensures)

pub returns-in-Ge : goal.returns-in-Ge
returns-in-Ge c =
    let w = c.args.w in
    let start = c.args.start in
    let rise = pos c.args.rise in
    let n = w.hi + 1 - w.lo in
    let not_negative_fits : SFits w128 (start) = search rules in
    let not_negative : TurnsAt rise (start) n c.first_reached-in-Ge.result = λ k l. grind (arith, to_z-of_z, c.first_reached-in-Ge.ensures.first k l) in
    for_op rise start c.args.op Ge w c.one_stretch-in-Ge.result c.in-Ge.is
    (zone-Ge rise start w n c.first_reached-in-Ge.result c.one_stretch-in-Ge.result (omega arith) not_negative c.one_stretch-in-Ge.ensures)

pub returns-in-Gt : goal.returns-in-Gt
returns-in-Gt c =
    let w = c.args.w in
    let start = c.args.start in
    let rise = pos c.args.rise in
    let n = w.hi + 1 - w.lo in
    let above_fits : SFits w128 (start -ℤ pos 1) = search rules in
    let above : TurnsAt rise (start -ℤ pos 1) n c.first_reached-in-Gt.result = λ k l. grind (arith, to_z-of_z, c.first_reached-in-Gt.ensures.first k l) in
    for_op rise start c.args.op Gt w c.one_stretch-in-Gt.result c.in-Gt.is
    (zone-Gt rise start w n c.first_reached-in-Gt.result c.one_stretch-in-Gt.result (omega arith) above c.one_stretch-in-Gt.ensures)
