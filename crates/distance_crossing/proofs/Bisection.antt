-- A function of the whole numbers that falls to `nearest` and rises from there is at most a limit on one stretch round it. Each end is found by halves.
use Rattle.std.proofs.Common.{◌≡◌, ℕ, ◌+◌, ◌-◌, ◌*◌, ◌^◌, ◌<◌, ◌≤◌, ◌&&◌, ⊎_elim, ℤ, ◌≤ℤ◌, ◌<ℤ◌, Bool, nat_le, int_le, true, false, [], ◌∷◌, subst, sym, arith}
use Rattle.std.proofs.lemmas.Bool.{cases_lt}
use Rattle.std.proofs.lemmas.Bool.Decides.{nat_tests}
use Rattle.std.proofs.lemmas.Int.{ints}
use Rattle.exact.specs.Rising.{FallsTo, RisesIn}
use Rattle.exact.proofs.Convex.{falls, rises}
use Rattle.exact.proofs.Halves.{halves}
use Rattle.tick_set.specs.Runs.{IsRuns}
use Rattle.tick_set.specs.Ticks.{within}
use Rattle.tick_set.specs.declared.spans.Span.{Span}
use Rattle.tick_set.specs.declared.spans.Window.{Window}
use Rattle.distance_crossing.specs.Ends.{BracketsFirst, BracketsLast}

-- ---- the first number
pub left_near : (f : ℕ → ℤ) (limit : ℤ) (nearest low high middle : ℕ) → BracketsFirst f limit nearest low high → low ≤ middle → middle ≤ high
    → f middle ≤ℤ limit → BracketsFirst f limit nearest low middle
left_near f limit nearest low high middle h l m near = record { ordered = l; bound = omega (arith, h.bound); near = near; far = h.far }

pub left_far : (f : ℕ → ℤ) (limit : ℤ) (nearest low high middle : ℕ) → FallsTo f nearest → BracketsFirst f limit nearest low high → middle < high
    → limit <ℤ f middle → BracketsFirst f limit nearest (middle + 1) high
left_far f limit nearest low high middle fall h m far = record {
  ordered = omega arith;
  bound = h.bound;
  near = h.near;
  far = λ k l. let before = falls f nearest fall k middle (omega arith) (omega (arith, h.bound)) in omega (arith, ints);
}

-- round the first by one value: past a number that is above the limit, at the next number, and at a number with none at most the limit before it
pub left_past : (f : ℕ → ℤ) (limit : ℤ) (nearest k low : ℕ) → FallsTo f nearest → f nearest ≤ℤ limit → k < nearest → limit <ℤ f k → low ≡ k + 1
    → BracketsFirst f limit nearest low nearest
left_past f limit nearest k low fall near l far e = record {
  ordered = omega arith;
  bound = omega arith;
  near = near;
  far = λ i m. let before = falls f nearest fall i k (omega arith) (omega arith) in omega (arith, ints);
}

pub left_next : (f : ℕ → ℤ) (limit : ℤ) (nearest k : ℕ) → FallsTo f nearest → f nearest ≤ℤ limit → k < nearest → limit <ℤ f k → f (k + 1) ≤ℤ limit
    → BracketsFirst f limit nearest (k + 1) (k + 1)
left_next f limit nearest k fall near l far next =
    left_near f limit nearest (k + 1) nearest (k + 1) (left_past f limit nearest k (k + 1) fall near l far (omega arith)) (omega arith) (omega arith) next

pub left_exact : (f : ℕ → ℤ) (limit : ℤ) (nearest k : ℕ) → FallsTo f nearest → k ≤ nearest → f k ≤ℤ limit → (0 < k → limit <ℤ f (k - 1))
    → BracketsFirst f limit nearest k k
left_exact f limit nearest k fall l near far = record {
  ordered = omega arith;
  bound = l;
  near = near;
  far = λ i m. let at = far (omega arith) in let before = falls f nearest fall i (k - 1) (omega arith) (omega arith) in omega (arith, ints);
}

pub left_found : (f : ℕ → ℤ) (limit : ℤ) (nearest low high : ℕ) → FallsTo f nearest → BracketsFirst f limit nearest low high → high ≤ low
    → (k : ℕ) → k ≤ nearest → int_le (f k) limit ≡ nat_le high k
left_found f limit nearest low high fall h m k l =
    ⊎_elim
    (λ (b : k < high). let far = h.far k (omega arith) in grind (arith, ints, nat_tests))
    (λ (b : high ≤ k). let near = h.near in let after = falls f nearest fall high k b l in grind (arith, ints, nat_tests))
    (cases_lt k high)

-- ---- the last number
pub right_near : (f : ℕ → ℤ) (limit : ℤ) (nearest last low high middle : ℕ) → BracketsLast f limit nearest last low high → low ≤ middle → middle ≤ high
    → f middle ≤ℤ limit → BracketsLast f limit nearest last middle high
right_near f limit nearest last low high middle h l m near = record { from = omega (arith, h.from); ordered = m; bound = h.bound; near = near; far = h.far }

pub right_far : (f : ℕ → ℤ) (limit : ℤ) (nearest last low high middle : ℕ) → RisesIn f nearest last → BracketsLast f limit nearest last low high → low < middle → middle ≤ high
    → limit <ℤ f middle → BracketsLast f limit nearest last low (middle - 1)
right_far f limit nearest last low high middle rise h m top far =
    let from = h.from in
    record {
      from = h.from;
      ordered = omega arith;
      bound = omega (arith, h.bound);
      near = h.near;
      far = λ k l n. let after = rises f nearest last rise middle k (omega arith) (omega arith) n in omega (arith, ints);
    }

-- round the last by one value
pub right_past : (f : ℕ → ℤ) (limit : ℤ) (nearest last k high : ℕ) → RisesIn f nearest last → f nearest ≤ℤ limit → nearest < k → k ≤ last → limit <ℤ f k → high + 1 ≡ k
    → BracketsLast f limit nearest last nearest high
right_past f limit nearest last k high rise near l m far e = record {
  from = omega arith;
  ordered = omega arith;
  bound = omega arith;
  near = near;
  far = λ i n b. let after = rises f nearest last rise k i (omega arith) (omega arith) b in omega (arith, ints);
}

pub right_next : (f : ℕ → ℤ) (limit : ℤ) (nearest last k high : ℕ) → RisesIn f nearest last → f nearest ≤ℤ limit → nearest < k → k ≤ last → limit <ℤ f k → high + 1 ≡ k
    → f high ≤ℤ limit → BracketsLast f limit nearest last high high
right_next f limit nearest last k high rise near l m far e next =
    right_near f limit nearest last nearest high high (right_past f limit nearest last k high rise near l m far e) (omega arith) (omega arith) next

pub right_exact : (f : ℕ → ℤ) (limit : ℤ) (nearest last k : ℕ) → RisesIn f nearest last → nearest ≤ k → k ≤ last → f k ≤ℤ limit → (k < last → limit <ℤ f (k + 1))
    → BracketsLast f limit nearest last k k
right_exact f limit nearest last k rise l m near far = record {
  from = l;
  ordered = omega arith;
  bound = m;
  near = near;
  far = λ i n b. let at = far (omega arith) in let after = rises f nearest last rise (k + 1) i (omega arith) (omega arith) b in omega (arith, ints);
}

pub right_found : (f : ℕ → ℤ) (limit : ℤ) (nearest last low high : ℕ) → RisesIn f nearest last → BracketsLast f limit nearest last low high → high ≤ low
    → (k : ℕ) → nearest ≤ k → k ≤ last → int_le (f k) limit ≡ nat_le k low
right_found f limit nearest last low high rise h m k l n =
    ⊎_elim
    (λ (b : low < k). let far = h.far k (omega arith) n in grind (arith, ints, nat_tests))
    (λ (b : k ≤ low). let near = h.near in let before = rises f nearest last rise k low l b (omega (arith, h.ordered, h.bound)) in grind (arith, ints, nat_tests))
    (cases_lt low k)

-- ---- both: the numbers with a value at most the limit are one stretch round `nearest`
pub one_stretch : (f : ℕ → ℤ) (limit : ℤ) (nearest last first end : ℕ) → first ≤ nearest → nearest ≤ end
    → ((k : ℕ) → k ≤ nearest → int_le (f k) limit ≡ nat_le first k)
    → ((k : ℕ) → nearest ≤ k → k ≤ last → int_le (f k) limit ≡ nat_le k end)
    → (k : ℕ) → k ≤ last → int_le (f k) limit ≡ (nat_le first k && nat_le k end)
one_stretch f limit nearest last first end a b g h k l =
    ⊎_elim
    (λ (m : k < nearest). let left = g k (omega arith) in grind (arith, nat_tests))
    (λ (m : nearest ≤ k). let right = h k m l in grind (arith, nat_tests))
    (cases_lt k nearest)

-- the same by the tick, as one span
pub near_span : (f : ℕ → ℤ) (limit : ℤ) (w : Window) (s : Span) (nearest first end : ℕ) → first ≤ nearest → nearest ≤ end
    → ((k : ℕ) → k ≤ nearest → int_le (f k) limit ≡ nat_le first k)
    → ((k : ℕ) → nearest ≤ k → k ≤ w.hi - w.lo → int_le (f k) limit ≡ nat_le k end)
    → end ≤ w.hi - w.lo → s.lo ≡ w.lo + first → s.hi ≡ w.lo + end
    → IsRuns (λ t. within w.lo w.hi t && int_le (f (t - w.lo)) limit) (s ∷ [])
near_span f limit w s nearest first end a b g h bound lo hi = record {
  normal = (omega arith, tt);
  ticks = λ t. grind (arith, nat_tests, one_stretch f limit nearest (w.hi - w.lo) first end a b g h (t - w.lo), w.ordered);
}

-- where the least value is above the limit, all are
pub none_near : (f : ℕ → ℤ) (limit : ℤ) (nearest last k : ℕ) → f nearest ≤ℤ f k → limit <ℤ f nearest → int_le (f k) limit ≡ false
none_near f limit nearest last k l h = grind (arith, ints)

-- ---- the count: a search among `whole` numbers has come to `left` of them, and the count from `before` to `now`
pub record IsHalved (whole left before now : ℕ) : Type 0 where
  pub counted : before ≤ now
  pub halved : (n : ℕ) → whole < 2 ^ n → (now - before ≤ n) × (left < 2 ^ (n - (now - before)))

pub halved_start : (whole before : ℕ) → IsHalved whole whole before before
halved_start whole before = record {
  counted = omega arith;
  halved = λ n l.
      let none : before - before ≡ 0 = omega arith in
      let all : n - (before - before) ≡ n = omega arith in
      (omega arith, subst (λ m. whole < 2 ^ m) (sym all) l);
}

pub halved_more : (whole left less before now next : ℕ) → IsHalved whole left before now → 0 < left → 2 * less ≤ left → next ≡ now + 1
    → IsHalved whole less before next
halved_more whole left less before now next h p q e = record {
  counted = omega (arith, h.counted);
  halved = λ n l.
      let so_far = h.halved n l in
      let more = halves n (now - before) left less so_far.1 p q in
      let taken : now - before + 1 ≡ next - before = omega (arith, h.counted) in
      let P : ℕ → Type 0 = λ m. (m ≤ n) × (less < 2 ^ (n - m)) in
      subst P taken more;
}

pub halved_found : (whole left before now : ℕ) → IsHalved whole left before now → (n : ℕ) → whole < 2 ^ n → now ≤ before + n
halved_found whole left before now h n l = omega (arith, h.counted, h.halved n l)

-- of two sides of fewer than twice 2 ^ n numbers together, one has fewer than 2 ^ n
pub ends_cost : (n left right before middle after : ℕ) → left < 2 ^ (n + 1) → right < 2 ^ (n + 1) → left + right < 2 * 2 ^ n
    → ((i : ℕ) → left < 2 ^ i → middle ≤ before + i + 2) → ((i : ℕ) → right < 2 ^ i → after ≤ middle + i + 2)
    → after ≤ before + (2 * n + 5)
ends_cost n left right before middle after most_left most_right together to_middle to_after =
    ⊎_elim
    (λ (l : left < 2 ^ n). let a = to_middle n l in let b = to_after (n + 1) most_right in omega (arith, a, b))
    (λ (l : 2 ^ n ≤ left). let a = to_middle (n + 1) most_left in let b = to_after n (omega arith) in omega (arith, a, b))
    (cases_lt left (2 ^ n))

-- ---- a value that is compared with the limit
pub near_by : (x read limit : ℤ) (b : Bool) → read ≡ limit → b ≡ int_le x read → b ≡ true → x ≤ℤ limit
near_by x read limit b same e h = grind (arith, ints)

pub far_by : (x read limit : ℤ) (b : Bool) → read ≡ limit → b ≡ int_le x read → b ≡ false → limit <ℤ x
far_by x read limit b same e h = grind (arith, ints)

-- ---- a value that is computed at k
pub near_at : (f : ℕ → ℤ) (k : ℕ) (value limit : ℤ) → value ≡ f k → value ≤ℤ limit → f k ≤ℤ limit
near_at f k value limit e h = let P : ℤ → Type 0 = λ z. z ≤ℤ limit in subst P e h

pub far_at : (f : ℕ → ℤ) (k : ℕ) (value limit : ℤ) → value ≡ f k → limit <ℤ value → limit <ℤ f k
far_at f k value limit e h = let P : ℤ → Type 0 = λ z. limit <ℤ z in subst P e h
