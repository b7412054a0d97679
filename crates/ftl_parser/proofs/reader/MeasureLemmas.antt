-- The kept sizes of each form of formula, by those of its parts.
use Rattle.std.proofs.Common.{◌≡◌, ℕ, ◌+◌, max, arith}
use Rattle.ftl_parser.specs.inner.Measure.{saturated}

-- one more, past what stays
pub saturated-one : (n : ℕ) → saturated (saturated n + 1) ≡ saturated (n + 1)
saturated-one n = omega arith

pub saturated-sum : (m n : ℕ) → saturated (saturated (saturated m + saturated n) + 1) ≡ saturated (m + n + 1)
saturated-sum m n = omega arith

pub saturated-max : (m n : ℕ) → saturated (max (saturated m) (saturated n) + 1) ≡ saturated (max m n + 1)
saturated-max m n = omega arith

pub max-saturated : (m n : ℕ) → max (saturated m) (saturated n) ≡ saturated (max m n)
max-saturated m n = omega arith

pub ruleset measures = (saturated-one, saturated-sum, saturated-max, max-saturated)
