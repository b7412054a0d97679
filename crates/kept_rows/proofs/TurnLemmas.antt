-- Rows that are the same at two ticks, and the targets that then don't pass.
use Rattle.std.proofs.Common.{◌≡◌, ℕ, ◌+◌, ◌*◌, ◌<◌, ◌≤◌, Bool, true, false, ◌&&◌, leb, Option, None, Some, List, [], ◌∷◌, refl, ap, sym, ◌∙◌, arith}
use Rattle.std.specs.Prelude.{IfNone, IfSome}
use Rattle.std.specs.List.{list_any}
use Rattle.std.proofs.lemmas.Nat.{mul-le}
use Rattle.tick_set.specs.Ticks.{between}
use Rattle.tick_set.proofs.Between.{any_between_at, any_between_found}
use Rattle.kept_rows.specs.Listing.{IsNext, passing_of, target_has, when_differ}
use Rattle.kept_rows.specs.Turning.{AgreeBetween, AreSteadyIn, IsNextDiffering}
use Rattle.exact.proofs.Truths.{same_truth}

-- ---- rows
module _ (rows : ℕ → ℕ → Bool) (seen before now from to : ℕ) (low : seen ≤ before) (up : before ≤ now) where
  alike-steady : (end : ℕ) → AreSteadyIn rows seen now from end → AgreeBetween (λ c. rows c before) (λ c. rows c now) from end
  alike-steady end same c h k =
      same c h k before low (omega (arith, up)) ∙ sym (same c h k now (omega (arith, low, up)) (omega arith))

  -- the first number that may turn
  pub turn-next : (o : Option ℕ) → IfSome o (λ n. from ≤ n) → IfSome o (λ n. n < to) → IfSome o (AreSteadyIn rows seen now from) →
      IfSome o (IsNextDiffering (λ c. rows c before) (λ c. rows c now) from to)
  turn-next None least below same = tt
  turn-next (Some n) least below same = record { least = least; below = below; before = alike-steady n same }

  pub turn-none : (o : Option ℕ) → IfNone o (AreSteadyIn rows seen now from to) → IfNone o (AgreeBetween (λ c. rows c before) (λ c. rows c now) from to)
  turn-none None same = alike-steady to same
  turn-none (Some n) same = tt

-- the first number that has a tick
pub turn-ticks : (rows : ℕ → ℕ → Bool) (before now from to : ℕ) (o : Option ℕ) → IfSome o (IsNext rows from to) →
    IfSome o (IsNextDiffering (λ c. rows c before) (λ c. rows c now) from to)
turn-ticks rows before now from to None next = tt
turn-ticks rows before now from to (Some n) next = record {
  least = next.least;
  below = next.below;
  before = λ c h k. next.before c before h k ∙ sym (next.before c now h k);
}

-- ---- targets
any-counted : (b : Bool) (p : ℕ → Bool) (xs : List ℕ) → (b && list_any p xs) ≡ list_any (λ c. b && p c) xs
any-counted true p xs = refl
any-counted false p [] = refl
any-counted false p (x ∷ xs) = any-counted false p xs

any-alike : (p q : ℕ → Bool) (a b : ℕ) → AgreeBetween p q a b → list_any p (between a b) ≡ list_any q (between a b)
any-alike p q a b same =
    same_truth (list_any p (between a b)) (list_any q (between a b))
    (λ e. let s = any_between_found p a b e in any_between_at q a b s.tick s.from s.below (sym (same s.tick s.from s.below) ∙ s.passes))
    (λ e. let s = any_between_found q a b e in any_between_at p a b s.tick s.from s.below (same s.tick s.from s.below ∙ s.passes))

when-same : (k : ℕ) (x y : Bool) → x ≡ y → when_differ k x y ≡ None
when-same k x y e = ap (λ z. when_differ k z y) e ∙ same y
  where
    same : (y : Bool) → when_differ k y y ≡ None
    same true = refl
    same false = refl

pub passing-alike : (rows : ℕ → ℕ → Bool) (width e before now a to k : ℕ) →
    AgreeBetween (λ c. leb before e && rows c before) (λ c. leb now e && rows c now) (a * width) to → a ≤ k → k * width + width ≤ to →
    passing_of (target_has rows width) e before now k ≡ None
passing-alike rows width e before now a to k same h l =
    let start : a * width ≤ k * width = mul-le a width k width h (omega arith) in
    when-same k (leb before e && target_has rows width k before) (leb now e && target_has rows width k now)
    (any-counted (leb before e) (λ c. rows c before) (between (k * width) (k * width + width))
    ∙ any-alike (λ c. leb before e && rows c before) (λ c. leb now e && rows c now) (k * width) (k * width + width)
    (λ c m n. same c (omega (arith, start, m)) (omega (arith, l, n)))
    ∙ sym (any-counted (leb now e) (λ c. rows c now) (between (k * width) (k * width + width))))
