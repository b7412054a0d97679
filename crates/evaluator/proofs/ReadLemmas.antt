-- How many looks some steps take together.
use Rattle.std.proofs.Common.{◌≡◌, ℕ, ◌+◌, ◌*◌, ◌≤◌, List, length, ap, arith}
use Rattle.meaning.specs.Reads.{choices, looks}
use Rattle.exact.proofs.Naturals.{times_at_most}

pub one_more : (n c : ℕ) → (n + 1) * c ≡ n * c + c
one_more n c = grind arith

-- the looks at some of the choices of objects
pub looks_within : (start read i n : ℕ) (size : ℕ → ℕ) (vs : List ℕ) → read ≤ start + i * length vs → i ≤ n → n ≡ choices size vs → read ≤ start + looks size vs
looks_within start read i n size vs h l e = within_all (length vs) (choices size vs) h l e
  where
    within_all : (len all : ℕ) → read ≤ start + i * len → i ≤ n → n ≡ all → read ≤ start + all * len
    within_all len all f m same =
        let more : i * len ≤ n * len = times_at_most i n len m in
        let are : n * len ≡ all * len = ap (λ (z : ℕ). z * len) same in
        grind (arith, f, more, are)

pub one_step : (start read now i len : ℕ) → read ≤ start + i * len → now ≤ read + len → now ≤ start + (i + 1) * len
one_step start read now i len h l = let more : (i + 1) * len ≡ i * len + len = one_more i len in grind (arith, h, l, more)

-- some steps of many looks each
pub block_step : (start read now i n c : ℕ) → read ≤ start + i * n * c → now ≤ read + n * c → now ≤ start + (i + 1) * n * c
block_step start read now i n c h l =
    let a : (i + 1) * n ≡ i * n + n = one_more i n in
    let b : (i + 1) * n * c ≡ (i * n + n) * c = ap (λ (z : ℕ). z * c) a in
    let d : (i * n + n) * c ≡ i * n * c + n * c = grind arith in
    omega (arith, h, l, b, d)

pub one_of : (start read c : ℕ) → read ≤ start + c → read ≤ start + 1 * c
one_of start read c h = omega (arith, h)
