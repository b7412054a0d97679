use Rattle.std.proofs.Common.{◌≡◌, true, [], ◌∷◌, ℤ, pos, ◌-ℤ◌, ◌*ℤ◌, ◌≤ℤ◌, int_le, sym, ◌∙◌, arith}
use Rattle.std.proofs.lemmas.Int.{ints}
use Rattle.std.proofs.lemmas.List.Elements.{All-nil, All-cons, All-head, All-tail}
use Rattle.exact.proofs.Ring.{part, number, product, same}
use Rattle.fixed_point.specs.declared.number.Point.{Point}
use Rattle.geometry.specs.Circle.{squared_width, three_fit}
use Rattle.geometry.specs.Plane.{square}
use Rattle.distance_crossing.specs.Circles.{IsInCircle, IsWithinRadius}
use Rattle.distance_crossing.specs.LeastCircle.{least_over, least_under}
use Rattle.distance_crossing.proofs.Centres.{away, room, held_least}
use Rattle.distance_crossing.proofs.LeastCircles.{least_is, three_fit-least, scaled_least}
use Rattle.distance_crossing.proofs.laws.three_fit_where_a_circle_holds_them.Goals as goal

four_out : (a z : ℤ) → pos 4 *ℤ a *ℤ z ≡ pos 4 *ℤ (a *ℤ z)
four_out a z = same (product (product (number 4) (part a)) (part z)) (product (number 4) (product (part a) (part z))) (omega arith)

held-room : (a z way : ℤ) → pos 0 ≤ℤ room (pos 4 *ℤ a) (pos 1) z way → way ≤ℤ (a *ℤ z)
held-room a z way h = let is = four_out a z in omega (arith, ints)

room-held : (a z way : ℤ) → way ≤ℤ (a *ℤ z) → pos 0 ≤ℤ room (pos 4 *ℤ a) (pos 1) z way
room-held a z way h = let is = four_out a z in omega (arith, ints)

at_most : (a b : ℤ) → int_le a b ≡ true → pos 0 ≤ℤ (b -ℤ pos 1 *ℤ a)
at_most a b h = grind (arith, ints)

is_at_most : (a b : ℤ) → pos 0 ≤ℤ (b -ℤ pos 1 *ℤ a) → int_le a b ≡ true
is_at_most a b h = grind (arith, ints)

holds : (r : ℤ) (p q s : Point) → three_fit r p q s ≡ true → IsInCircle r (p ∷ q ∷ s ∷ [])
holds r p q s h =
    let least = least_is p q s in
    let c = least.centre in
    let H = IsWithinRadius r c.x c.y c.z in
    let small = at_most (least_over p q s) (squared_width r *ℤ least_under p q s) (sym (three_fit-least r p q s) ∙ h) in
    let held = λ (way : ℤ) (g : pos 0 ≤ℤ room (least_over p q s) (least_under p q s) (square c.z) way).
    held-room (square r) (square c.z) way (scaled_least (least_over p q s) (least_under p q s) (squared_width r) (pos 1) (square c.z) way least.above (omega (arith, ints)) c.unit g small) in
    record {
      x = c.x;
      y = c.y;
      z = c.z;
      unit = c.unit;
      held = All-cons H p (q ∷ s ∷ []) (held (away c.x c.y c.z p) c.first)
          (All-cons H q (s ∷ []) (held (away c.x c.y c.z q) c.second) (All-cons H s [] (held (away c.x c.y c.z s) c.third) (All-nil H)));
    }

fits : (r : ℤ) (p q s : Point) → IsInCircle r (p ∷ q ∷ s ∷ []) → three_fit r p q s ≡ true
fits r p q s c =
    let least = least_is p q s in
    let H = IsWithinRadius r c.x c.y c.z in
    let later = All-tail H p (q ∷ s ∷ []) c.held in
    let at = λ (t : Point) (g : H t). room-held (square r) (square c.z) (away c.x c.y c.z t) g in
    three_fit-least r p q s
    ∙ is_at_most (least_over p q s) (squared_width r *ℤ least_under p q s)
    (held_least p q s (least_over p q s) (least_under p q s) (squared_width r) (pos 1) c.x c.y c.z least.weights (omega (arith, ints)) c.unit
    (at p (All-head H p (q ∷ s ∷ []) c.held)) (at q (All-head H q (s ∷ []) later)) (at s (All-head H s [] (All-tail H q (s ∷ []) later))))

pub returns : goal.returns
returns c = λ r p q s. (holds r p q s, fits r p q s)
