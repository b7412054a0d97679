-- Numbers of the columns of the targets and of the others, joined.
use Rattle.std.proofs.Common.{◌≡◌, ℕ, zero, suc, ◌+◌, ◌*◌, ◌/◌, ◌%◌, ◌<◌, ◌≤◌, Bool, true, false, not, ◌&&◌, ◌||◌, List, [], ◌∷◌, ◌++◌, length, map, refl, sym, ap, ◌∙◌, inl, inr, arith, if◌then◌else◌}
use Rattle.std.specs.Prelude.{◌==◌, nat_lt, slice_index, slice_index_or}
use Rattle.std.specs.List.{list_any}
use Rattle.std.proofs.Math.Nat.{mul_comm}
use Rattle.std.proofs.lemmas.Bool.{and_from, and_parts, cases_Bool, false≢true, or_cases, or_parts}
use Rattle.std.proofs.lemmas.Bool.Decides.{nat_tests}
use Rattle.std.proofs.lemmas.Nat.{div-add-mod', div-mul-add, mod-mul-add, mod_below, mul-add-lt}
use Rattle.formula.specs.Resolved.{are_distinct}
use Rattle.kept_rows.specs.Numbers.{counts, size_of}
use Rattle.kept_rows.proofs.NumberLemmas.{size-some}
use Rattle.live_queries.specs.Columns.{AreCounted, Column, column_variables, columns_have, object_at_number, object_or}
use Rattle.live_queries.specs.Numbered.{AreAmong, IsNumberOf}
use Rattle.live_queries.proofs.ColumnLemmas.{later_variable}
use Rattle.live_queries.proofs.NumberingLemmas.{objects_at}
use Rattle.exact.proofs.Truths.{false_from_not}
use Rattle.exact.proofs.Naturals.{equals_itself, same_from_equal, test_below}

abbrev sized : List Column → ℕ
sized cs = size_of (column_variables cs)

-- ---- a number of the first columns, and one of the later ones

pub size_joined : (ts os : List Column) → sized (ts ++ os) ≡ sized ts * sized os
size_joined [] os = let e : sized os ≡ 1 * sized os = omega arith in e
size_joined (c ∷ ts) os =
    ap (λ n. c.numbers.capacity * n) (size_joined ts os)
    ∙ regroup c.numbers.capacity (sized ts) (sized os)
  where
    regroup : (a b c : ℕ) → a * (b * c) ≡ a * b * c
    regroup a b c = omega arith

pub below_joined : (n d m w : ℕ) → n < m → d < w → n * w + d < m * w
below_joined n d m w h l = rw (mul_comm m w) (mul-add-lt n w d m h l)

regrouped : (p r t w d : ℕ) → (p * t + r) * w + d ≡ p * (t * w) + (r * w + d)
regrouped p r t w d = omega arith

module _ (n d t w : ℕ) (some : 1 ≤ t) (below : d < w) where
  parted : n * w + d ≡ n / t * (t * w) + (n % t * w + d)
  parted = ap (λ m. m * w + d) (sym (div-add-mod' n t)) ∙ regrouped (n / t) (n % t) t w d

  rest_below : n % t * w + d < t * w
  rest_below = below_joined (n % t) d t w (mod_below n t some) below

  pub joined_div : (n * w + d) / (t * w) ≡ n / t
  joined_div = ap (λ m. m / (t * w)) parted ∙ div-mul-add (n / t) (t * w) (n % t * w + d) rest_below

  pub joined_mod : (n * w + d) % (t * w) ≡ n % t * w + d
  joined_mod = ap (λ m. m % (t * w)) parted ∙ mod-mul-add (n / t) (t * w) (n % t * w + d) rest_below

and_regroup : (a b c : Bool) → (a && (b && c)) ≡ ((a && b) && c)
and_regroup true b c = refl
and_regroup false b c = refl

only_zero : (n w d : ℕ) → n < 1 → n * w + d ≡ d
only_zero zero w d h = omega arith
only_zero (suc n) w d h = absurd (omega (arith, h))

zero_counts : (n : ℕ) → n < 1 → (n == 0) ≡ true
zero_counts n h = grind (arith, nat_tests, h)

module _ (os : List Column) where
  pub counts_joined : (ts : List Column) (n d : ℕ) → n < sized ts → d < sized os →
      counts (column_variables (ts ++ os)) (n * sized os + d) ≡ (counts (column_variables ts) n && counts (column_variables os) d)
  counts_joined [] n d h below =
      ap (counts (column_variables os)) (only_zero n (sized os) d h) ∙ ap (λ b. b && counts (column_variables os) d) (sym (zero_counts n h))
  counts_joined (c ∷ ts) n d h below =
      let t : ℕ = sized ts in
      let some : 1 ≤ t = size-some (column_variables ts) in
      (λ i. nat_lt ((n * sized os + d) / size_joined ts os i) c.numbers.count && counts (column_variables (ts ++ os)) ((n * sized os + d) % size_joined ts os i))
      ∙ (λ i. nat_lt (joined_div n d t (sized os) some below i) c.numbers.count
      && counts (column_variables (ts ++ os)) (joined_mod n d t (sized os) some below i))
      ∙ ap (λ b. nat_lt (n / t) c.numbers.count && b) (counts_joined ts (n % t) d (mod_below n t some) below)
      ∙ and_regroup (nat_lt (n / t) c.numbers.count) (counts (column_variables ts) (n % t)) (counts (column_variables os) d)

  pub object_joined : (added : ℕ) (ts : List Column) (n d : ℕ) → n < sized ts → d < sized os → (v : ℕ) →
      object_or added (ts ++ os) (n * sized os + d) v ≡ (if columns_have ts v then object_or added ts n v else object_or added os d v)
  object_joined added [] n d h below v = ap (λ m. object_or added os m v) (only_zero n (sized os) d h)
  object_joined added (c ∷ ts) n d h below v =
      let t : ℕ = sized ts in
      let some : 1 ≤ t = size-some (column_variables ts) in
      (λ i. if v == c.variable then slice_index_or c.ids ((n * sized os + d) / size_joined ts os i) added
      else object_or added (ts ++ os) ((n * sized os + d) % size_joined ts os i) v)
      ∙ (λ i. if v == c.variable then slice_index_or c.ids (joined_div n d t (sized os) some below i) added
      else object_or added (ts ++ os) (joined_mod n d t (sized os) some below i) v)
      ∙ chosen (v == c.variable) (c.variable == v) (columns_have ts v) _ _ _ _ (flipped v c.variable)
      (object_joined added ts (n % t) d (mod_below n t some) below v)
    where
      flipped : (u w : ℕ) → (u == w) ≡ (w == u)
      flipped u w = grind (arith, nat_tests)

      chosen : (a a' b : Bool) (x y z later : ℕ) → a ≡ a' → later ≡ (if b then y else z) →
          (if a then x else later) ≡ (if a' || b then (if a then x else y) else z)
      chosen true true b x y z later e f = refl
      chosen false false b x y z later e f = f
      chosen true false b x y z later e f = absurd (false≢true (sym e))
      chosen false true b x y z later e f = absurd (false≢true e)

-- ---- the objects of a number

pub no_object : (cs : List Column) (n v : ℕ) → columns_have cs v ≡ false → object_at_number cs n v ≡ 0
no_object [] n v none = refl
no_object (c ∷ cs) n v none =
    let parts = or_parts (c.variable == v) (columns_have cs v) none in
    ap (λ b. if b then slice_index c.ids (n / sized cs) else object_at_number cs (n % sized cs) v) (apart c.variable v parts.0)
    ∙ no_object cs (n % sized cs) v parts.1
  where
    apart : (u w : ℕ) → (u == w) ≡ false → (w == u) ≡ false
    apart u w h = grind (arith, nat_tests, h)

-- where the objects column by column are those of a function, so is each
pub each_object : (cs : List Column) (n : ℕ) (f : ℕ → ℕ) → objects_at cs n ≡ map f (map (λ c. c.variable) cs) → (v : ℕ) → columns_have cs v ≡ true →
    object_at_number cs n v ≡ f v
each_object [] n f same v has = absurd (false≢true has)
each_object (c ∷ cs) n f same v has =
    elim (cases_Bool (v == c.variable)) [
      | inl here ↦
          ap (λ b. if b then slice_index c.ids (n / sized cs) else object_at_number cs (n % sized cs) v) here
          ∙ ap (head_or 0) same ∙ ap f (sym (same_from_equal v c.variable here))
      | inr other ↦
          ap (λ b. if b then slice_index c.ids (n / sized cs) else object_at_number cs (n % sized cs) v) other
          ∙ each_object cs (n % sized cs) f (ap tail_of same) v (later_variable c cs v other has)
    ]
  where
    head_or : ℕ → List ℕ → ℕ
    head_or d [] = d
    head_or d (x ∷ xs) = x

    tail_of : List ℕ → List ℕ
    tail_of [] = []
    tail_of (x ∷ xs) = xs

-- each column once: the objects of the columns' variables are the objects column by column
pub objects_are : (cs : List Column) (n : ℕ) → are_distinct (map (λ c. c.variable) cs) ≡ true → map (object_at_number cs n) (map (λ c. c.variable) cs) ≡ objects_at cs n
objects_are [] n distinct = refl
objects_are (c ∷ cs) n distinct =
    let parts = and_parts (not (list_any (λ (y : ℕ). y == c.variable) (map (λ (x : Column). x.variable) cs))) (are_distinct (map (λ (x : Column). x.variable) cs)) distinct in
    (λ i. (if equals_itself c.variable i then slice_index c.ids (n / sized cs) else object_at_number cs (n % sized cs) c.variable)
    ∷ skip (map (λ (x : Column). x.variable) cs) (false_from_not _ parts.0) i)
    ∙ ap (λ rest. slice_index c.ids (n / sized cs) ∷ rest) (objects_are cs (n % sized cs) parts.1)
  where
    skip : (vs : List ℕ) → list_any (λ (y : ℕ). y == c.variable) vs ≡ false → map (object_at_number (c ∷ cs) n) vs ≡ map (object_at_number cs (n % sized cs)) vs
    skip [] none = refl
    skip (v ∷ vs) none =
        let parts = or_parts (v == c.variable) (list_any (λ (y : ℕ). y == c.variable) vs) none in
        λ i. (if parts.0 i then slice_index c.ids (n / sized cs) else object_at_number cs (n % sized cs) v) ∷ skip vs parts.1 i

-- ---- a number for chosen objects

abbrev pub has_id : List ℕ → ℕ → Bool
has_id ids id = list_any (λ (i : ℕ). i == id) ids

pub record Chosen (cs : List Column) (f : ℕ → ℕ) : Type 0 where
  pub number : ℕ
  pub below : number < sized cs
  pub counted : counts (column_variables cs) number ≡ true
  pub objects : (v : ℕ) → columns_have cs v ≡ true → object_at_number cs number v ≡ f v

pub record Placed (ids : List ℕ) (id : ℕ) : Type 0 where
  pub place : ℕ
  pub below : place < length ids
  pub object : slice_index ids place ≡ id

pub placed : (ids : List ℕ) (id : ℕ) → has_id ids id ≡ true → Placed ids id
placed [] id has = absurd (false≢true has)
placed (x ∷ ids) id has = elim (or_cases (x == id) (has_id ids id) has) [
  | inl here ↦ record { place = 0; below = omega arith; object = same_from_equal x id here }
  | inr later ↦
      let p = placed ids id later in record { place = suc p.place; below = omega (arith, p.below); object = p.object }
]

pub numbered_more : (c : Column) (cs : List Column) (f : ℕ → ℕ) (place number : ℕ) → place < c.numbers.count → slice_index c.ids place ≡ f c.variable →
    IsNumberOf cs f number → IsNumberOf (c ∷ cs) f (place * sized cs + number)
numbered_more c cs f place number few object is =
    let w : ℕ = sized cs in
    let quotient : (place * w + number) / w ≡ place = div-mul-add place w number is.below in
    let remainder : (place * w + number) % w ≡ number = mod-mul-add place w number is.below in
    record {
      below = below_joined place number c.numbers.capacity w (omega (arith, few, c.numbers.room)) is.below;
      counted = and_from (nat_lt ((place * w + number) / w) c.numbers.count) (counts (column_variables cs) ((place * w + number) % w))
          (ap (λ q. nat_lt q c.numbers.count) quotient ∙ test_below place c.numbers.count few) (ap (counts (column_variables cs)) remainder ∙ is.counted);
      objects = λ v has. elim (cases_Bool (v == c.variable)) [
        | inl here ↦
            ap (λ b. if b then slice_index c.ids ((place * w + number) / w) else object_at_number cs ((place * w + number) % w) v) here
            ∙ ap (slice_index c.ids) quotient ∙ object ∙ ap f (sym (same_from_equal v c.variable here))
        | inr other ↦
            ap (λ b. if b then slice_index c.ids ((place * w + number) / w) else object_at_number cs ((place * w + number) % w) v) other
            ∙ ap (λ m. object_at_number cs m v) remainder ∙ is.objects v (later_variable c cs v other has)
      ];
    }

pub chosen_number : (cs : List Column) (f : ℕ → ℕ) → AreCounted cs → AreAmong cs f → Chosen cs f
chosen_number [] f counted among = record { number = 0; below = omega arith; counted = refl; objects = λ v has. absurd (false≢true has) }
chosen_number (c ∷ cs) f counted among =
    let p = placed c.ids (f c.variable) among.0 in
    let rest = chosen_number cs f counted.1 among.1 in
    let is = numbered_more c cs f p.place rest.number (omega (arith, p.below, counted.0)) p.object
    (record { below = rest.below; counted = rest.counted; objects = rest.objects }) in
    record { number = p.place * sized cs + rest.number; below = is.below; counted = is.counted; objects = is.objects }
