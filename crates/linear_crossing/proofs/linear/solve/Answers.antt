use Rattle.std.proofs.Common.{◌≡◌, ℕ, ℤ, pos, ◌+ℤ◌, ◌-ℤ◌, ◌*ℤ◌, neg_ℤ, unsigned_abs, ◌<ℤ◌, ap, sym, ◌∙◌, ◌&&◌, arith}
use Rattle.std.proofs.lemmas.Int.{ints}
use mir.Syntax.{w128}
use mir.Val.{to_z, of_z}
use Rattle.exact.proofs.Ring.{part, sum, product, opposite, same}
use Rattle.case_table.specs.Comparison.{compares}
use Rattle.case_table.specs.declared.compare.Op.{Op}
use Rattle.tick_set.specs.Ticks.{within}
use Rattle.tick_set.specs.declared.spans.Window.{Window}
use Rattle.linear_crossing.specs.Zones.{solves, line_at}
use Rattle.linear_crossing.proofs.Pairs.{pair_by}
use Rattle.linear_crossing.proofs.linear.solve.Goals as goal

turned : (r b k : ℤ) → r *ℤ k +ℤ neg_ℤ b ≡ neg_ℤ (neg_ℤ r *ℤ k +ℤ b)
turned r b k = same (sum (product (part r) (part k)) (opposite (part b))) (opposite (sum (product (opposite (part r)) (part k)) (part b))) (omega arith)

-- a falling line is the opposite of a rising one
opposite_line : (a b : ℤ) (lo t : ℕ) (r : ℕ) (c : ℤ) → a <ℤ pos 0 → r ≡ unsigned_abs a → c ≡ neg_ℤ b → line_at (pos r) c lo t ≡ neg_ℤ (line_at a b lo t)
opposite_line a b lo t r c n e f =
    let same_a : a ≡ neg_ℤ (pos r) = omega (arith, ints) in
    ap (λ d. line_at (pos r) d lo t) f ∙ turned (pos r) b (pos t -ℤ pos lo) ∙ ap (λ d. neg_ℤ (line_at d b lo t)) (sym same_a)

falling : (a b c : ℤ) (r : ℕ) (op m : Op) (w : Window) → a <ℤ pos 0 → r ≡ unsigned_abs a → c ≡ neg_ℤ b
    → ((x : ℤ) → compares m (neg_ℤ x) (pos 0) ≡ compares op x (pos 0)) → (t : ℕ) → solves (pos r) c m w t ≡ solves a b op w t
falling a b c r op m w n e f h t =
    ap (λ v. within w.lo w.hi t && compares m v (pos 0)) (opposite_line a b w.lo t r c n e f) ∙ ap (λ v. within w.lo w.hi t && v) (h (line_at a b w.lo t))

pub returns-else-a-ge0 : goal.returns-else-a-ge0
returns-else-a-ge0 c =
    pair_by _ (solves c.args.a c.args.b c.args.op c.args.w) c.rising-else-a-ge0.result
    (falling c.args.a c.args.b (to_z w128 (of_z w128 c.negated.result)) c.unsigned_abs-else-a-ge0.result c.args.op c.mirrored.result c.args.w (omega (arith, ints)) (omega (arith, ints)) (omega (arith, ints)) c.mirrored.ensures)
    c.rising-else-a-ge0.ensures
