-- Each comparison of a distance with a constant that is not negative, from the ticks at which the square is at most a limit.
use Rattle.std.proofs.Common.{◌≡◌, ℕ, ◌-◌, Bool, true, not, ◌&&◌, Option, option_to_list, ℤ, pos, ◌-ℤ◌, ◌*ℤ◌, ◌≤ℤ◌, int_le, ap, subst, sym, ◌∙◌, arith}
use Rattle.std.specs.Ordering.{int_eq}
use Rattle.std.proofs.lemmas.Bool.{and_parts}
use Rattle.std.proofs.lemmas.Bool.Decides.{nat_tests}
use Rattle.std.proofs.lemmas.Int.{ints}
use Rattle.case_table.specs.Comparison.{compares}
use Rattle.case_table.specs.declared.compare.Op.{Op}
use Rattle.case_table.specs.declared.compare.Op.TheVariants.{Lt, Le, Eq, Ne, Ge, Gt}
use Rattle.geometry.specs.Distance.{distance_compares}
use Rattle.linear_crossing.proofs.Pairs.{pair_by}
use Rattle.linear_crossing.specs.Relative.{Relative, squared_distance_at}
use Rattle.linear_crossing.specs.Zones.{IsPairOf, spans_of}
use Rattle.linear_crossing.specs.declared.linear.Pair.{Pair}
use Rattle.tick_set.specs.Runs.{IsRuns, spans_have}
use Rattle.tick_set.specs.Ticks.{within}
use Rattle.tick_set.specs.declared.spans.Span.{Span}
use Rattle.tick_set.specs.declared.spans.Window.{Window}
use Rattle.distance_crossing.specs.NearTicks.{is_near_at, distance_holds_at}
use Rattle.distance_crossing.specs.Triples.{IsTripleOf}
use Rattle.distance_crossing.specs.declared.comparison.Triple.{Triple}
use Rattle.distance_crossing.proofs.RunLists.{triple_by}

-- ---- values
compares_squares : (op : Op) (c v s : ℤ) → pos 0 ≤ℤ c → s ≡ c *ℤ c → distance_compares op c v ≡ compares op v s
compares_squares op c v s p e =
    let h : int_le (pos 0) c ≡ true = grind (arith, ints) in
    rw h (ap (compares op v) (sym e))

at_most_less : (here : Bool) (v a b : ℤ) → a ≤ℤ b → (here && int_le v a) ≡ true → (here && int_le v b) ≡ true
at_most_less here v a b l h = grind (arith, ints)

at_value : (here : Bool) (v s a b : ℤ) → a ≡ s -ℤ pos 1 → b ≡ s → ((here && int_le v b) && not (here && int_le v a)) ≡ (here && int_eq v s)
at_value here v s a b d e = grind (arith, ints, nat_tests)

value_Lt : (here : Bool) (v s a : ℤ) → a ≡ s -ℤ pos 1 → (here && int_le v a) ≡ (here && compares Lt v s)
value_Lt here v s a e = grind (arith, ints, nat_tests)

value_Le : (here : Bool) (v s a : ℤ) → a ≡ s → (here && int_le v a) ≡ (here && compares Le v s)
value_Le here v s a e = grind (arith, ints, nat_tests)

value_Eq : (here : Bool) (v s a : ℤ) → a ≡ s → (here && int_eq v a) ≡ (here && compares Eq v s)
value_Eq here v s a e = ap (λ z. here && int_eq v z) e

value_Ne : (here : Bool) (v s a : ℤ) → a ≡ s → (here && not (here && int_eq v a)) ≡ (here && compares Ne v s)
value_Ne here v s a e = grind arith

value_Ge : (here : Bool) (v s a : ℤ) → a ≡ s -ℤ pos 1 → (here && not (here && int_le v a)) ≡ (here && compares Ge v s)
value_Ge here v s a e = grind (arith, ints, nat_tests)

value_Gt : (here : Bool) (v s a : ℤ) → a ≡ s → (here && not (here && int_le v a)) ≡ (here && compares Gt v s)
value_Gt here v s a e = grind (arith, ints, nat_tests)

-- ---- the ticks at one distance
module _ (m : Relative) (w : Window) (s a b : ℤ) (below at_most : Option Span)
    (is_below : a ≡ s -ℤ pos 1) (is_at_most : b ≡ s)
    (g : IsRuns (is_near_at m a w) (option_to_list below)) (h : IsRuns (is_near_at m b w) (option_to_list at_most)) where
  pub below_inside : (t : ℕ) → spans_have (option_to_list below) t ≡ true → spans_have (option_to_list at_most) t ≡ true
  below_inside t k =
      h.ticks t ∙ at_most_less (within w.lo w.hi t) (squared_distance_at m (t - w.lo)) a b (omega (arith, ints)) (sym (g.ticks t) ∙ k)

  pub at_distance_runs : (x : Pair) → IsPairOf (λ t. spans_have (option_to_list at_most) t && not (spans_have (option_to_list below) t)) x
      → IsPairOf (λ t. within w.lo w.hi t && int_eq (squared_distance_at m (t - w.lo)) s) x
  at_distance_runs x k =
      pair_by _ _ x
      (λ t. (λ i. h.ticks t i && not (g.ticks t i)) ∙ at_value (within w.lo w.hi t) (squared_distance_at m (t - w.lo)) s a b is_below is_at_most) k

pub near_inside : (m : Relative) (w : Window) (a : ℤ) (run : Option Span) (pair : Pair) → IsRuns (is_near_at m a w) (option_to_list run) → spans_of pair ≡ option_to_list run
    → (t : ℕ) → spans_have (spans_of pair) t ≡ true → within w.lo w.hi t ≡ true
near_inside m w a run pair h same t e =
    (and_parts (within w.lo w.hi t) _ (sym (h.ticks t) ∙ sym (ap (λ spans. spans_have spans t) same) ∙ e)).0

-- ---- the ticks of each comparison
module _ (m : Relative) (w : Window) (op : Op) (c s : ℤ) (x : Triple) (positive : pos 0 ≤ℤ c) (is_square : s ≡ c *ℤ c) where
  -- the set that a pair holds, and what is left of the window
  held : (o : Op) → op ≡ o → (p : ℕ → Bool) → ((t : ℕ) → p t ≡ (within w.lo w.hi t && compares o (squared_distance_at m (t - w.lo)) s)) → IsTripleOf p x
      → IsTripleOf (distance_holds_at m op c w) x
  held o e p h k =
      let P : Op → Type 0 = λ z. IsTripleOf (distance_holds_at m z c w) x in
      subst P (sym e)
      (triple_by p (distance_holds_at m o c w) x k
      (λ t. h t ∙ ap (λ z. within w.lo w.hi t && z) (sym (compares_squares o c (squared_distance_at m (t - w.lo)) s positive is_square))))

  module _ (a : ℤ) (run : Option Span) (pair : Pair) (h : IsRuns (is_near_at m a w) (option_to_list run)) (same : spans_of pair ≡ option_to_list run) where
    ticks : (t : ℕ) → spans_have (spans_of pair) t ≡ is_near_at m a w t
    ticks t = ap (λ spans. spans_have spans t) same ∙ h.ticks t

    pub held_Lt : op ≡ Lt → a ≡ s -ℤ pos 1 → IsTripleOf (spans_have (spans_of pair)) x → IsTripleOf (distance_holds_at m op c w) x
    held_Lt e d k = held Lt e _ (λ t. ticks t ∙ value_Lt (within w.lo w.hi t) (squared_distance_at m (t - w.lo)) s a d) k

    pub held_Le : op ≡ Le → a ≡ s → IsTripleOf (spans_have (spans_of pair)) x → IsTripleOf (distance_holds_at m op c w) x
    held_Le e d k = held Le e _ (λ t. ticks t ∙ value_Le (within w.lo w.hi t) (squared_distance_at m (t - w.lo)) s a d) k

    pub held_Ge : op ≡ Ge → a ≡ s -ℤ pos 1 → IsTripleOf (λ t. within w.lo w.hi t && not (spans_have (spans_of pair) t)) x → IsTripleOf (distance_holds_at m op c w) x
    held_Ge e d k =
        held Ge e _ (λ t. ap (λ z. within w.lo w.hi t && not z) (ticks t) ∙ value_Ge (within w.lo w.hi t) (squared_distance_at m (t - w.lo)) s a d) k

    pub held_Gt : op ≡ Gt → a ≡ s → IsTripleOf (λ t. within w.lo w.hi t && not (spans_have (spans_of pair) t)) x → IsTripleOf (distance_holds_at m op c w) x
    held_Gt e d k =
        held Gt e _ (λ t. ap (λ z. within w.lo w.hi t && not z) (ticks t) ∙ value_Gt (within w.lo w.hi t) (squared_distance_at m (t - w.lo)) s a d) k

  module _ (a : ℤ) (pair : Pair) (h : IsPairOf (λ t. within w.lo w.hi t && int_eq (squared_distance_at m (t - w.lo)) a) pair) where
    pub held_Eq : op ≡ Eq → a ≡ s → IsTripleOf (spans_have (spans_of pair)) x → IsTripleOf (distance_holds_at m op c w) x
    held_Eq e d k = held Eq e _ (λ t. h.runs.ticks t ∙ value_Eq (within w.lo w.hi t) (squared_distance_at m (t - w.lo)) s a d) k

    pub held_Ne : op ≡ Ne → a ≡ s → IsTripleOf (λ t. within w.lo w.hi t && not (spans_have (spans_of pair) t)) x → IsTripleOf (distance_holds_at m op c w) x
    held_Ne e d k =
        held Ne e _ (λ t. ap (λ z. within w.lo w.hi t && not z) (h.runs.ticks t) ∙ value_Ne (within w.lo w.hi t) (squared_distance_at m (t - w.lo)) s a d) k
