-- The lines of a query's answer, and of what becomes otherwise for its targets.
use Rattle.std.proofs.Common.{◌≡◌, ℕ, ◌-◌, ◌*◌, ◌<◌, ◌≤◌, Bool, true, false, List, [], ◌∷◌, length, take, drop, refl, sym, ap, ◌∙◌, arith}
use Rattle.std.proofs.Math.Nat.{mul-le-mul_left, mul-le-mul_right}
use Rattle.std.proofs.lemmas.List.{length-drop, take-append-drop, take_all}
use Rattle.std.specs.Prelude.{All, option_to_list}
use Rattle.std.proofs.lemmas.List.Elements.{All-cons, All-nil}
use Rattle.tick_set.specs.Runs.{runs_of}
use Rattle.tick_set.proofs.CallerLemmas.{same_listed}
use Rattle.kept_rows.specs.Listing.{line_of, lines_upto, passing_of, when_differ, with_runs}
use Rattle.kept_rows.specs.Moves.{Moved, if_moved, move_of}
use Rattle.kept_rows.specs.declared.binding.TheConstants.{BINDING_LIMIT}
use Rattle.kept_rows.specs.Numbers.{size_of}
use Rattle.kept_rows.proofs.ListingLemmas.{listed-none}
use Rattle.kept_rows.proofs.NumberLemmas.{size-some}
use Rattle.meaning.specs.Registered.{first_tick}
use Rattle.live_queries.specs.Columns.{Column, column_variables}
use Rattle.live_queries.specs.Current.{row_at}
use Rattle.live_queries.specs.Kept.{KeptQuery}
use Rattle.live_queries.specs.Told.{listed_lines, target_count, target_times, target_width}
use Rattle.live_queries.proofs.JoinedLemmas.{size_joined}
use Rattle.live_queries.proofs.ListLemmas.{lines_below, lines_none}

-- an answer whose first tick is past the expiry is empty
pub late_lines : (k : KeptQuery) (now : ℕ) → k.expiry < first_tick k.kind k.entry now → listed_lines k now ≡ []
late_lines k now late =
    let from : ℕ = first_tick k.kind k.entry now in
    lines_none (line_of (target_times k (row_at k)) from k.expiry)
    (λ n. ap (λ runs. with_runs n runs) (ap runs_of (same_listed (target_times k (row_at k) n) (λ t. false) from k.expiry (λ t a b. absurd (never from k.expiry t late a b))
    ∙ listed-none (λ t. false) from k.expiry (λ t. refl)))) (target_count k)
  where
    never : (u v t : ℕ) → v < u → u ≤ t → t ≤ v → ⊥
    never u v t h a b = omega (arith, h, a, b)

line_number : (n : ℕ) (runs : List (ℕ × ℕ)) → All (λ (line : ℕ × List (ℕ × ℕ)). line.0 ≡ n) (option_to_list (with_runs n runs))
line_number n [] = All-nil (λ (line : ℕ × List (ℕ × ℕ)). line.0 ≡ n)
line_number n (r ∷ runs) = All-cons (λ (line : ℕ × List (ℕ × ℕ)). line.0 ≡ n) (n, r ∷ runs) [] refl (All-nil (λ (line : ℕ × List (ℕ × ℕ)). line.0 ≡ n))

passing_number : (n : ℕ) (a b : Bool) → All (λ (p : ℕ × Bool). p.0 ≡ n) (option_to_list (when_differ n a b))
passing_number n true true = All-nil (λ (p : ℕ × Bool). p.0 ≡ n)
passing_number n false false = All-nil (λ (p : ℕ × Bool). p.0 ≡ n)
passing_number n true false = All-cons (λ (p : ℕ × Bool). p.0 ≡ n) (n, false) [] refl (All-nil (λ (p : ℕ × Bool). p.0 ≡ n))
passing_number n false true = All-cons (λ (p : ℕ × Bool). p.0 ≡ n) (n, true) [] refl (All-nil (λ (p : ℕ × Bool). p.0 ≡ n))

move_number : (line : Moved) (gained lost : List (ℕ × ℕ)) → All (λ (m : Moved). m.target ≡ line.target) (option_to_list (if_moved line gained lost))
move_number line [] [] = All-nil (λ (m : Moved). m.target ≡ line.target)
move_number line [] (r ∷ lost) = All-cons (λ (m : Moved). m.target ≡ line.target) line [] refl (All-nil (λ (m : Moved). m.target ≡ line.target))
move_number line (r ∷ gained) lost = All-cons (λ (m : Moved). m.target ≡ line.target) line [] refl (All-nil (λ (m : Moved). m.target ≡ line.target))

pub lines_numbered : (k : KeptQuery) (now : ℕ) → All (λ line. line.0 < target_count k) (listed_lines k now)
lines_numbered k now =
    lines_below (λ (line : ℕ × List (ℕ × ℕ)). line.0) (line_of (target_times k (row_at k)) (first_tick k.kind k.entry now) k.expiry)
    (λ n. line_number n _) (target_count k)

pub passings_numbered : (k : KeptQuery) (e before now : ℕ) → All (λ p. p.0 < target_count k) (lines_upto (passing_of (target_times k (row_at k)) e before now) (target_count k))
passings_numbered k e before now =
    lines_below (λ (p : ℕ × Bool). p.0) (passing_of (target_times k (row_at k)) e before now) (λ n. passing_number n _ _) (target_count k)

pub moves_numbered : (p q : ℕ → ℕ → Bool) (from e now count : ℕ) → All (λ m. m.target < count) (lines_upto (move_of p q from e now) count)
moves_numbered p q from e now count =
    lines_below (λ (m : Moved). m.target) (move_of p q from e now) (λ n. move_number _ _ _) count

-- the numbers of all targets are those of the bindings
pub target_numbers : (k : KeptQuery) → target_count k * target_width k ≡ size_of (column_variables k.columns)
target_numbers k =
    let m : ℕ = length k.query.targets in
    sym (size_joined (take m k.columns) (drop m k.columns)) ∙ ap (λ cs. size_of (column_variables cs)) (take-append-drop m k.columns)

-- ---- the numbers of the first columns and of the others

module _ (m : ℕ) (cs : List Column) (few : size_of (column_variables cs) ≤ BINDING_LIMIT) where
  abbrev front_size : ℕ
  front_size = size_of (column_variables (take m cs))

  abbrev back_size : ℕ
  back_size = size_of (column_variables (drop m cs))

  parted_size : front_size * back_size ≡ size_of (column_variables cs)
  parted_size = sym (size_joined (take m cs) (drop m cs)) ∙ ap (λ ds. size_of (column_variables ds)) (take-append-drop m cs)

  all_back : take (length cs - m) (drop m cs) ≡ drop m cs
  all_back = take_all (length cs - m) (drop m cs) (let e : length (drop m cs) ≡ length cs - m = length-drop m cs in omega (arith, e))

  pub front_few : front_size ≤ BINDING_LIMIT
  front_few =
      let more : front_size * 1 ≤ front_size * back_size = mul-le-mul_left front_size (size-some (column_variables (drop m cs))) in
      omega (arith, more, parted_size, few)

  pub back_few : size_of (column_variables (take (length cs - m) (drop m cs))) ≤ BINDING_LIMIT
  back_few =
      let more : 1 * back_size ≤ front_size * back_size = mul-le-mul_right back_size (size-some (column_variables (take m cs))) in
      let same : size_of (column_variables (take (length cs - m) (drop m cs))) ≡ back_size = ap (λ ds. size_of (column_variables ds)) all_back in
      omega (arith, more, parted_size, few, same)

  pub both_few : (a b : ℕ) → a ≡ front_size → b ≡ size_of (column_variables (take (length cs - m) (drop m cs))) → a * b ≤ BINDING_LIMIT
  both_few a b e f =
      let same : a * b ≡ size_of (column_variables cs) = (λ i. e i * (f ∙ ap (λ ds. size_of (column_variables ds)) all_back) i) ∙ parted_size in
      omega (arith, same, few)
