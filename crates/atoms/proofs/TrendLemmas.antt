-- Sums and multiples of numbers that move along a line.
use Rattle.std.proofs.Common.{◌≡◌, ℕ, ℤ, pos, ◌+ℤ◌, ◌-ℤ◌, ◌*ℤ◌, neg_ℤ, ap, ◌∙◌, arith}
use Rattle.exact.proofs.Ring.{part, sum, difference, product, opposite, same}
use Rattle.linear_crossing.specs.Zones.{line_at}

sum_moved : (a b c e d : ℤ) → (a +ℤ c) *ℤ d +ℤ (b +ℤ e) ≡ (a *ℤ d +ℤ b) +ℤ (c *ℤ d +ℤ e)
sum_moved a b c e d =
    same (sum (product (sum (part a) (part c)) (part d)) (sum (part b) (part e)))
    (sum (sum (product (part a) (part d)) (part b)) (sum (product (part c) (part d)) (part e))) (omega arith)

difference_moved : (a b c e d : ℤ) → (a -ℤ c) *ℤ d +ℤ (b -ℤ e) ≡ (a *ℤ d +ℤ b) -ℤ (c *ℤ d +ℤ e)
difference_moved a b c e d =
    same (sum (product (difference (part a) (part c)) (part d)) (difference (part b) (part e)))
    (difference (sum (product (part a) (part d)) (part b)) (sum (product (part c) (part d)) (part e))) (omega arith)

multiple_moved : (k a b d : ℤ) → (k *ℤ a) *ℤ d +ℤ (k *ℤ b) ≡ k *ℤ (a *ℤ d +ℤ b)
multiple_moved k a b d =
    same (sum (product (product (part k) (part a)) (part d)) (product (part k) (part b)))
    (product (part k) (sum (product (part a) (part d)) (part b))) (omega arith)

opposite_moved : (a b d : ℤ) → neg_ℤ a *ℤ d +ℤ neg_ℤ b ≡ neg_ℤ (a *ℤ d +ℤ b)
opposite_moved a b d =
    same (sum (product (opposite (part a)) (part d)) (opposite (part b)))
    (opposite (sum (product (part a) (part d)) (part b))) (omega arith)

module _ (r s : ℤ) (lo t : ℕ) where
  pub sum_at : (a b c e : ℤ) → r ≡ a +ℤ c → s ≡ b +ℤ e → line_at r s lo t ≡ line_at a b lo t +ℤ line_at c e lo t
  sum_at a b c e rise start = (λ i. line_at (rise i) (start i) lo t) ∙ sum_moved a b c e (pos t -ℤ pos lo)

  pub difference_at : (a b c e : ℤ) → r ≡ a -ℤ c → s ≡ b -ℤ e → line_at r s lo t ≡ line_at a b lo t -ℤ line_at c e lo t
  difference_at a b c e rise start = (λ i. line_at (rise i) (start i) lo t) ∙ difference_moved a b c e (pos t -ℤ pos lo)

  pub multiple_at : (k a b : ℤ) → r ≡ k *ℤ a → s ≡ k *ℤ b → line_at r s lo t ≡ k *ℤ line_at a b lo t
  multiple_at k a b rise start = (λ i. line_at (rise i) (start i) lo t) ∙ multiple_moved k a b (pos t -ℤ pos lo)

  pub opposite_at : (k a b : ℤ) → r ≡ neg_ℤ (k *ℤ a) → s ≡ neg_ℤ (k *ℤ b) → line_at r s lo t ≡ neg_ℤ (k *ℤ line_at a b lo t)
  opposite_at k a b rise start =
      (λ i. line_at (rise i) (start i) lo t)
      ∙ opposite_moved (k *ℤ a) (k *ℤ b) (pos t -ℤ pos lo)
      ∙ ap neg_ℤ (multiple_moved k a b (pos t -ℤ pos lo))
