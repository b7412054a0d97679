-- The value of a term is within its bound.
use Rattle.std.proofs.Common.{◌≡◌, ℕ, ◌+◌, ◌*◌, ◌-◌, ◌≤◌, ℤ, pos, ◌+ℤ◌, ◌*ℤ◌, unsigned_abs, Bool, true, false, ◌&&◌, List, [], ◌∷◌, sym, ap, ◌∙◌, inl, inr, arith}
use Rattle.std.specs.Prelude.{nat_le}
use Rattle.std.specs.List.{list_all}
use Rattle.std.proofs.lemmas.Bool.{false≢true, and_parts, cases_lt}
use Rattle.std.proofs.lemmas.Bool.Decides.{nat_tests}
use Rattle.std.proofs.lemmas.Int.{ints, unsigned_abs-mul}
use Rattle.std.proofs.Math.Nat.{mul-le-mul_right}
use Rattle.fixed_point.specs.declared.number.TheConstants.{READ_LIMIT, SLOPE_LIMIT}
use Rattle.fixed_point.specs.declared.variants.SubName.{SubName}
use Rattle.fixed_point.specs.declared.variants.SubName.TheVariants as subs
use Rattle.tick_set.specs.declared.spans.TheConstants.{LAST_TICK}
use Rattle.motion.specs.Dynamic.{Dynamic, value_at}
use Rattle.motion.specs.Function.{legs_rest, legs_rise, legs_slope, rise}
use Rattle.motion.specs.declared.cell.Cell.{Cell}
use Rattle.motion.specs.declared.cell.Cell.TheVariants as cells
use Rattle.motion.specs.Cells.{kind_of}
use Rattle.formula.specs.Bounds.{sub_bound}
use Rattle.formula.specs.declared.limits.TheConstants.{DYNAMIC_BOUND}
use Rattle.formula.specs.declared.value.Value.{Value}
use Rattle.formula.specs.declared.value.Value.TheVariants as values
use Rattle.meaning.specs.Reachable.{is_reachable, is_reached, is_slope, is_slow}
use Rattle.meaning.specs.Value.{attribute_bound, cell_value, part_at}

abbrev is_text : Value → Bool
is_text (values.Num n) = false
is_text (values.Text s) = true

-- ---- how far legs rise

climb_near : (r : ℤ) (d : ℕ) → is_slope r ≡ true → unsigned_abs (r *ℤ pos d) ≤ SLOPE_LIMIT * d
climb_near r d slow =
    let near : unsigned_abs r ≤ SLOPE_LIMIT = grind (arith, nat_tests, slow) in
    rw (unsigned_abs-mul r (pos d)) (mul-le-mul_right d near)

pub sum_near : (a b : ℤ) (m n k : ℕ) → unsigned_abs a ≤ m → unsigned_abs b ≤ n → m + n ≤ k → unsigned_abs (a +ℤ b) ≤ k
sum_near a b m n k first second both = omega (arith, ints, first, second, both)

pub rise_near : (legs : List (ℤ × ℕ)) (last : ℤ) (d : ℕ) → list_all (λ leg. is_slope leg.0) legs ≡ true → is_slope last ≡ true →
    unsigned_abs (legs_rise legs last d) ≤ SLOPE_LIMIT * d
rise_near [] last d slow last_slow = climb_near last d last_slow
rise_near (leg ∷ legs) last d slow last_slow =
    let parts = and_parts (is_slope leg.0) (list_all (λ l. is_slope l.0) legs) slow in
    elim (cases_lt leg.1 d) [
      | inl past ↦
          let later = rise_near legs last (d - leg.1) parts.1 last_slow in
          let here = climb_near leg.0 leg.1 parts.0 in
          let is : legs_rise (leg ∷ legs) last d ≡ leg.0 *ℤ pos leg.1 +ℤ legs_rise legs last (d - leg.1) = grind (arith, nat_tests) in
          rw is (sum_near (leg.0 *ℤ pos leg.1) (legs_rise legs last (d - leg.1)) (SLOPE_LIMIT * leg.1) (SLOPE_LIMIT * (d - leg.1)) (SLOPE_LIMIT * d) here later (omega (arith, past)))
      | inr within ↦
          let is : legs_rise (leg ∷ legs) last d ≡ leg.0 *ℤ pos d = grind (arith, nat_tests) in
          rw is (climb_near leg.0 d parts.0)
    ]

rest_slow : (legs : List (ℤ × ℕ)) (last : ℤ) (d : ℕ) → list_all (λ leg. is_slope leg.0) legs ≡ true → is_slope last ≡ true →
    is_slope (legs_slope (legs_rest legs d) last) ≡ true
rest_slow [] last d slow last_slow = last_slow
rest_slow (leg ∷ legs) last d slow last_slow =
    let parts = and_parts (is_slope leg.0) (list_all (λ l. is_slope l.0) legs) slow in
    elim (cases_lt d leg.1) [
      | inl runs ↦
          let is : legs_slope (legs_rest (leg ∷ legs) d) last ≡ leg.0 = grind (arith, nat_tests) in
          ap is_slope is ∙ parts.0
      | inr ended ↦
          let is : legs_rest (leg ∷ legs) d ≡ legs_rest legs (d - leg.1) = grind (arith, nat_tests) in
          ap (λ rest. is_slope (legs_slope rest last)) is ∙ rest_slow legs last (d - leg.1) parts.1 last_slow
    ]

-- ---- a dynamic attribute

pub record Reached (t : ℕ) (v : Dynamic) : Type 0 where
  pub updated : v.updatetime ≤ t
  pub near : unsigned_abs v.value ≤ READ_LIMIT + SLOPE_LIMIT * v.updatetime
  pub firsts : list_all (λ leg. is_slope leg.0) v.function.firsts ≡ true
  pub last : is_slope v.function.last ≡ true

pub reached : (t : ℕ) (v : Dynamic) → is_reached t v ≡ true → Reached t v
reached t v is =
    let near = nat_le (unsigned_abs v.value) (READ_LIMIT + SLOPE_LIMIT * v.updatetime) in
    let outer = and_parts (nat_le v.updatetime t && near) (is_slow v.function) is in
    let inner = and_parts (nat_le v.updatetime t) near outer.0 in
    let legs = and_parts (list_all (λ leg. is_slope leg.0) v.function.firsts) (is_slope v.function.last) outer.1 in
    record {
      updated = grind (arith, nat_tests, inner.0);
      near = grind (arith, nat_tests, inner.1);
      firsts = legs.0;
      last = legs.1;
    }

value_near : (t : ℕ) (v : Dynamic) → Reached t v → t ≤ LAST_TICK → unsigned_abs (value_at v t) ≤ DYNAMIC_BOUND
value_near t v r tick =
    let risen = rise_near v.function.firsts v.function.last (t - v.updatetime) r.firsts r.last in
    sum_near v.value (rise v.function (t - v.updatetime)) (READ_LIMIT + SLOPE_LIMIT * v.updatetime) (SLOPE_LIMIT * (t - v.updatetime)) DYNAMIC_BOUND r.near risen
    (omega (arith, r.updated, tick))

pub no_number : (s : List ℕ) (n : ℤ) → values.Text s ≡ values.Num n → ⊥
no_number s n is = let wrong : true ≡ false = ap is_text is in false≢true (sym wrong)

pub cell_near : (t : ℕ) (cell : Cell) (n : ℤ) → t ≤ LAST_TICK → is_reachable t cell ≡ true → cell_value cell t ≡ values.Num n →
    unsigned_abs n ≤ attribute_bound (kind_of cell)
cell_near t (cells.Num m) n tick is value = let same : m ≡ n = cc in rw (sym same) (grind (arith, nat_tests, is))
cell_near t (cells.Text s) n tick is value = absurd (no_number s n value)
cell_near t (cells.Dyn v) n tick is value =
    let same : value_at v t ≡ n = cc in rw (sym same) (value_near t v (reached t v is) tick)

pub part_near : (part : SubName) (t : ℕ) (v : Dynamic) → t ≤ LAST_TICK → is_reached t v ≡ true → unsigned_abs (part_at part v t) ≤ sub_bound part
part_near subs.Value t v tick is = let r = reached t v is in omega (arith, r.near, r.updated, tick)
part_near subs.UpdateTime t v tick is = let r = reached t v is in omega (arith, ints, r.updated, tick)
part_near subs.Function t v tick is =
    let r = reached t v is in
    let slow = rest_slow v.function.firsts v.function.last (t - v.updatetime) r.firsts r.last in
    grind (arith, nat_tests, slow)
