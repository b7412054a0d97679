-- How many pieces several timelines have, and that a part leaves fewer.
use Rattle.std.proofs.Common.{◌≡◌, ℕ, zero, suc, ◌+◌, ◌-◌, ◌<◌, ◌≤◌, Bool, true, false, ◌||◌, max, Option, None, Some, is_some, List, [], ◌∷◌, length, take, get_or, refl, sym, ap, subst, ◌∙◌, inl, inr, arith}
use Rattle.std.specs.Prelude.{All, IsSome, ◌==◌, count_by, sum_by, cond}
use Rattle.std.specs.Borrow.{Bor}
use Rattle.std.specs.List.{list_any, range_with_len}
use Rattle.std.specs.Option.{option_map_or}
use Rattle.std.proofs.lemmas.List.Elements.{All-cons, All-map, All-tail}
use Rattle.std.proofs.lemmas.List.Sums.{sum_by-cons}
use Rattle.std.proofs.lemmas.Bool.{cases_lt, or_cases, false≢true}
use Rattle.std.proofs.lemmas.Bool.Decides.{nat_tests}
use Rattle.tick_set.specs.Ticks.{between}
use Rattle.motion.specs.declared.pieces.Piece.{Piece}
use Rattle.motion.specs.Timeline.{Epoch, epoch_at, IsRising}
use Rattle.motion.specs.declared.asked.Asked.{Asked}
use Rattle.motion.specs.declared.asked.Asked.TheVariants as which
use Rattle.motion.specs.Pieces.{changes_for, is_cut_for, ArePieces, ArePiecesFrom}
use Rattle.courses.specs.Parts.{IsSteadyFrom, asked_each, cut_count_for, epochs_of_each, piece_count, piece_count_for, pieces_for, pieces_of_all}
use Rattle.courses.proofs.PartLemmas.{IsCommonTo, common_whole, length-asked_each, length-epochs_of_each, in_force_of, some_in_force, some_begun, none_begun, none_cut, first_cut}
use Rattle.exact.proofs.Items.{count_by-cons}

-- numbers that don't pass count nothing
skipped : (p : ℕ → Bool) (n a m : ℕ) → ((t : ℕ) → a ≤ t → t < a + n → p t ≡ false) → count_by p (range_with_len a (n + m)) ≡ count_by p (range_with_len (a + n) m)
skipped p zero a m none = let more : 0 + m ≡ m = omega arith in let same : a + 0 ≡ a = omega arith in rw (more, same) refl
skipped p (suc n) a m none =
    let longer : suc n + m ≡ suc (n + m) = omega arith in
    let further : a + suc n ≡ a + 1 + n = omega arith in
    let rest : count_by p (range_with_len (a + 1) (n + m)) ≡ count_by p (range_with_len (a + 1 + n) m) = skipped p n (a + 1) m (λ t from below. none t (omega arith) (omega arith)) in
    ap (λ k. count_by p (range_with_len a k)) longer
    ∙ count_by-cons p a (range_with_len (a + 1) (n + m))
    ∙ grind (arith, none a (omega arith) (omega arith), rest, further)

module _ (asked : Asked) (epochs : List Epoch) (at last : ℕ) where
  pub cut_count-none : ((t : ℕ) → at < t → t ≤ last → is_cut_for asked epochs t ≡ false) → cut_count_for asked epochs at last ≡ 0
  unfolding cut_count_for between
  cut_count-none none =
      let all : last + 1 - (at + 1) ≡ last + 1 - (at + 1) + 0 = omega arith in
      ap (λ n. count_by (is_cut_for asked epochs) (range_with_len (at + 1) n)) all
      ∙ skipped (is_cut_for asked epochs) (last + 1 - (at + 1)) (at + 1) 0 (λ t from below. none t (omega arith) (omega arith))

  pub cut_count-next : (hi : ℕ) → at ≤ hi → hi < last → ((t : ℕ) → at < t → t ≤ hi → is_cut_for asked epochs t ≡ false)
      → cut_count_for asked epochs at last ≡ cond (is_cut_for asked epochs (hi + 1)) 1 0 + cut_count_for asked epochs (hi + 1) last
  unfolding cut_count_for between
  cut_count-next hi order below none =
      let all : last + 1 - (at + 1) ≡ hi - at + suc (last + 1 - (hi + 1 + 1)) = omega arith in
      let to : at + 1 + (hi - at) ≡ hi + 1 = omega arith in
      ap (λ n. count_by (is_cut_for asked epochs) (range_with_len (at + 1) n)) all
      ∙ skipped (is_cut_for asked epochs) (hi - at) (at + 1) (suc (last + 1 - (hi + 1 + 1))) (λ t from less. none t (omega arith) (omega arith))
      ∙ ap (λ a. count_by (is_cut_for asked epochs) (range_with_len a (suc (last + 1 - (hi + 1 + 1))))) to
      ∙ count_by-cons (is_cut_for asked epochs) (hi + 1) (range_with_len (hi + 1 + 1) (last + 1 - (hi + 1 + 1)))

-- the first epoch that is in force begins there
begins_new : (asked : Asked) (epochs : List Epoch) (found : Option Epoch) (t : ℕ) → is_some (in_force_of t None epochs) ≡ false → option_map_or (changes_for asked (t + 1)) found true ≡ true
    → option_map_or (changes_for asked (t + 1)) (in_force_of (t + 1) found epochs) true ≡ true
begins_new asked [] found t none is = is
begins_new asked (q ∷ epochs) found t none is =
    elim (cases_lt t q.from) [
      | inl late ↦
          let still : is_some (in_force_of t None epochs) ≡ false = grind (arith, nat_tests) in
          elim (cases_lt (t + 1) q.from) [
            | inl later ↦ grind (arith, nat_tests, begins_new asked epochs found t still is)
            | inr now ↦
                let here : q.from ≡ t + 1 = omega arith in
                let cut : changes_for asked (t + 1) q ≡ true = grind (arith, nat_tests) in
                grind (arith, nat_tests, begins_new asked epochs (Some q) t still cut)
          ]
      | inr begun ↦ absurd (false≢true (sym none ∙ grind (arith, nat_tests, some_in_force epochs q t)))
    ]

cut_of : (test : Epoch → Bool) (p : Option Epoch) → option_map_or test p true ≡ true → is_some p ≡ true → option_map_or test p false ≡ true
cut_of test None is some = some
cut_of test (Some p) is some = is

begun_cut : (asked : Asked) (epochs : List Epoch) (t : ℕ) → is_some (epoch_at epochs t) ≡ false → is_some (epoch_at epochs (t + 1)) ≡ true → is_cut_for asked epochs (t + 1) ≡ true
begun_cut asked epochs t none some = cut_of (changes_for asked (t + 1)) (epoch_at epochs (t + 1)) (begins_new asked epochs None t none refl) some

-- a part of a timeline leaves no more pieces, and fewer where it ends one
module _ (asked : Asked) (epochs : List Epoch) (at last hi : ℕ) (steady : IsSteadyFrom asked epochs at hi) (order : at ≤ hi) (within : hi ≤ last) where
  same_some : is_some (epoch_at epochs hi) ≡ is_some (epoch_at epochs at)
  same_some = ap is_some (steady.in_force hi order (omega arith))

  pub left_no_more : piece_count_for asked epochs (hi + 1) last ≤ piece_count_for asked epochs at last
  left_no_more =
      elim (cases_lt hi last) [
        | inl more ↦
            let count : cut_count_for asked epochs at last ≡ cond (is_cut_for asked epochs (hi + 1)) 1 0 + cut_count_for asked epochs (hi + 1) last
            = cut_count-next asked epochs at last hi order more steady.whole in
            let begun : is_some (epoch_at epochs hi) ≡ false → is_some (epoch_at epochs (hi + 1)) ≡ true → is_cut_for asked epochs (hi + 1) ≡ true = begun_cut asked epochs hi in
            grind (arith, nat_tests, same_some)
        | inr all ↦
            let none : cut_count_for asked epochs (hi + 1) last ≡ 0 = cut_count-none asked epochs (hi + 1) last (λ t past up_to. absurd (omega arith)) in
            grind (arith, nat_tests)
      ]

  pub left_fewer : is_some (epoch_at epochs at) ≡ true → (hi == last || is_cut_for asked epochs (hi + 1)) ≡ true → piece_count_for asked epochs (hi + 1) last < piece_count_for asked epochs at last
  left_fewer some ends =
      elim (cases_lt hi last) [
        | inl more ↦
            let count : cut_count_for asked epochs at last ≡ cond (is_cut_for asked epochs (hi + 1)) 1 0 + cut_count_for asked epochs (hi + 1) last
            = cut_count-next asked epochs at last hi order more steady.whole in
            grind (arith, nat_tests)
        | inr all ↦
            let none : cut_count_for asked epochs (hi + 1) last ≡ 0 = cut_count-none asked epochs (hi + 1) last (λ t past up_to. absurd (omega arith)) in
            grind (arith, nat_tests)
      ]

-- sums of terms of which none is larger, and of which one is smaller
module _ {X : Type 0} (f g : X → ℕ) where
  sums_at_most : (xs : List X) → All (λ x. f x ≤ g x) xs → sum_by f xs ≤ sum_by g xs
  sums_at_most [] each = omega arith
  sums_at_most (x ∷ xs) each =
      let first : f x ≤ g x = each 0 x (omega arith) in
      let rest : sum_by f xs ≤ sum_by g xs = sums_at_most xs (All-tail (λ x. f x ≤ g x) x xs each) in
      omega (arith, sum_by-cons f x xs, sum_by-cons g x xs)

  sums_below : (test : X → Bool) (xs : List X) → All (λ x. f x ≤ g x) xs → All (λ x. test x ≡ true → f x < g x) xs → list_any test xs ≡ true → sum_by f xs < sum_by g xs
  sums_below test [] each less some = absurd (false≢true some)
  sums_below test (x ∷ xs) each less some =
      let first : f x ≤ g x = each 0 x (omega arith) in
      let others : All (λ x. f x ≤ g x) xs = All-tail (λ x. f x ≤ g x) x xs each in
      elim (or_cases (test x) (list_any test xs) some) [
        | inl here ↦
            let lower : f x < g x = less 0 x (omega arith) here in
            let rest : sum_by f xs ≤ sum_by g xs = sums_at_most xs others in
            omega (arith, sum_by-cons f x xs, sum_by-cons g x xs)
        | inr later ↦
            let rest : sum_by f xs < sum_by g xs = sums_below test xs others (All-tail (λ x. test x ≡ true → f x < g x) x xs less) later in
            omega (arith, sum_by-cons f x xs, sum_by-cons g x xs)
      ]

any_of : {X : Type 0} (b : Bool) (test : X → Bool) (xs : List X) → 0 < length xs → (b || list_any test xs) ≡ true → list_any (λ x. b || test x) xs ≡ true
any_of true test [] some is = absurd (omega arith)
any_of true test (x ∷ xs) some is = refl
any_of false test xs some is = is

-- each timeline of a list has an epoch in force, also beside what is asked of it
begun_each : (asked : List Asked) (timelines : List (List Epoch)) (at : ℕ) → All (λ e. is_some (epoch_at e at) ≡ true) timelines
    → All (λ p. is_some (epoch_at p.1 at) ≡ true) (asked_each asked timelines)
begun_each asked [] at begun = λ k d l. absurd (omega arith)
begun_each [] (epochs ∷ timelines) at begun =
    All-cons (λ p. is_some (epoch_at p.1 at) ≡ true) (which.All, epochs) (asked_each [] timelines) (begun 0 epochs (omega arith))
    (begun_each [] timelines at (All-tail (λ e. is_some (epoch_at e at) ≡ true) epochs timelines begun))
begun_each (first ∷ asked) (epochs ∷ timelines) at begun =
    All-cons (λ p. is_some (epoch_at p.1 at) ≡ true) (first, epochs) (asked_each asked timelines) (begun 0 epochs (omega arith))
    (begun_each asked timelines at (All-tail (λ e. is_some (epoch_at e at) ≡ true) epochs timelines begun))

module _ (timelines : List (Asked × List Epoch)) (at last end : ℕ) (common : IsCommonTo timelines at last end) where
  all_no_more : pieces_for timelines (end + 1) last ≤ pieces_for timelines at last
  all_no_more =
      sums_at_most (λ p. piece_count_for p.0 p.1 (end + 1) last) (λ p. piece_count_for p.0 p.1 at last) timelines
      (λ k d l. left_no_more (get_or timelines k d).0 (get_or timelines k d).1 at last end (common.steady k d l) common.past common.within)

  all_fewer : 0 < length timelines → All (λ p. is_some (epoch_at p.1 at) ≡ true) timelines → pieces_for timelines (end + 1) last < pieces_for timelines at last
  all_fewer some begun =
      sums_below (λ p. piece_count_for p.0 p.1 (end + 1) last) (λ p. piece_count_for p.0 p.1 at last) (λ p. end == last || is_cut_for p.0 p.1 (end + 1)) timelines
      (λ k d l. left_no_more (get_or timelines k d).0 (get_or timelines k d).1 at last end (common.steady k d l) common.past common.within)
      (λ k d l. left_fewer (get_or timelines k d).0 (get_or timelines k d).1 at last end (common.steady k d l) common.past common.within (begun k d l))
      (any_of (end == last) (λ p. is_cut_for p.0 p.1 (end + 1)) timelines some common.ends)

-- after a common part of timelines, by references to them
module _ (asked : List Asked) (timelines : List (Bor (List Epoch))) (k at last end : ℕ) (all : length timelines ≤ k)
    (common : IsCommonTo (take k (asked_each asked (epochs_of_each timelines))) at last end) where
  whole : IsCommonTo (asked_each asked (epochs_of_each timelines)) at last end
  whole = common_whole asked timelines k at last end all common

  pub no_more_left : pieces_for (asked_each asked (epochs_of_each timelines)) (end + 1) last ≤ pieces_for (asked_each asked (epochs_of_each timelines)) at last
  no_more_left = all_no_more (asked_each asked (epochs_of_each timelines)) at last end whole

  pub fewer_left : 0 < length timelines → All (λ t. IsSome (epoch_at t.now at)) timelines
      → pieces_for (asked_each asked (epochs_of_each timelines)) (end + 1) last < pieces_for (asked_each asked (epochs_of_each timelines)) at last
  fewer_left some begun =
      all_fewer (asked_each asked (epochs_of_each timelines)) at last end whole
      (omega (arith, length-asked_each asked (epochs_of_each timelines), length-epochs_of_each timelines))
      (begun_each asked (epochs_of_each timelines) at (All-map (λ e. is_some (epoch_at e at) ≡ true) (λ t. t.now) timelines begun))

-- where all is asked of each, they are as many as are counted without saying so
pub pieces_all : (timelines : List (List Epoch)) (at last : ℕ) → pieces_for (asked_each [] timelines) at last ≡ pieces_of_all timelines at last
pieces_all [] at last = refl
pieces_all (epochs ∷ timelines) at last =
    sum_by-cons (λ p. piece_count_for p.0 p.1 at last) (which.All, epochs) (asked_each [] timelines)
    ∙ ap (λ n. piece_count epochs at last + n) (pieces_all timelines at last)
    ∙ sym (sum_by-cons (λ e. piece_count e at last) epochs timelines)

pub fewer_all : (timelines : List (List Epoch)) (a b last : ℕ) → pieces_for (asked_each [] timelines) a last < pieces_for (asked_each [] timelines) b last
    → pieces_of_all timelines a last < pieces_of_all timelines b last
fewer_all timelines a b last less = omega (arith, less, pieces_all timelines a last, pieces_all timelines b last)

pub no_more_all : (timelines : List (List Epoch)) (a b last : ℕ) → pieces_for (asked_each [] timelines) a last ≤ pieces_for (asked_each [] timelines) b last
    → pieces_of_all timelines a last ≤ pieces_of_all timelines b last
no_more_all timelines a b last less = omega (arith, less, pieces_all timelines a last, pieces_all timelines b last)

-- the pieces of a timeline are as many
none_left : (epochs : List Epoch) (at last : ℕ) (pieces : List Piece) → ArePiecesFrom epochs at last pieces → last < at → length pieces ≡ 0
none_left epochs at last [] are past = refl
none_left epochs at last (piece ∷ pieces) are past = absurd (omega (arith, are.0.begins, are.0.within, piece.span.ordered))

counted_from : (epochs : List Epoch) (at last : ℕ) (pieces : List Piece) → ArePiecesFrom epochs at last pieces → at ≤ last → length pieces ≡ 1 + cut_count_for which.All epochs at last
counted_from epochs at last [] are order = absurd (omega arith)
counted_from epochs at last (piece ∷ pieces) are order =
    let from : at ≤ piece.span.hi = omega (arith, are.0.begins, piece.span.ordered) in
    elim (cases_lt piece.span.hi last) [
      | inl more ↦
          let count : cut_count_for which.All epochs at last ≡ cond (is_cut_for which.All epochs (piece.span.hi + 1)) 1 0 + cut_count_for which.All epochs (piece.span.hi + 1) last
          = cut_count-next which.All epochs at last piece.span.hi from more are.0.whole in
          let rest : length pieces ≡ 1 + cut_count_for which.All epochs (piece.span.hi + 1) last = counted_from epochs (piece.span.hi + 1) last pieces are.1 (omega arith) in
          grind (arith, nat_tests, are.0.ends)
      | inr all ↦
          let count : cut_count_for which.All epochs at last ≡ 0 = cut_count-none which.All epochs at last (λ t past up_to. are.0.whole t past (omega arith)) in
          let rest : length pieces ≡ 0 = none_left epochs (piece.span.hi + 1) last pieces are.1 (omega arith) in
          grind arith
    ]

pub counted : (epochs : List Epoch) (lo last : ℕ) (pieces : List Piece) → IsRising epochs → lo ≤ last → ArePieces epochs lo last pieces → length pieces ≡ piece_count epochs lo last
counted [] lo last pieces rising order are =
    let none : cut_count_for which.All [] lo last ≡ 0 = cut_count-none which.All [] lo last (λ t past up_to. refl) in
    grind (arith, nat_tests, ap length are)
counted (p ∷ epochs) lo last pieces rising order are =
    elim (cases_lt lo p.from) [
      | inl before ↦
          let begins : max lo p.from ≡ p.from = omega arith in
          let those : ArePiecesFrom (p ∷ epochs) p.from last pieces = subst (λ t. ArePiecesFrom (p ∷ epochs) t last pieces) begins are in
          let absent : is_some (epoch_at (p ∷ epochs) lo) ≡ false = ap is_some (none_begun p epochs lo rising before) in
          elim (cases_lt last p.from) [
            | inl never ↦
                let none : cut_count_for which.All (p ∷ epochs) lo last ≡ 0
                = cut_count-none which.All (p ∷ epochs) lo last (λ t past up_to. none_cut which.All (p ∷ epochs) t (none_begun p epochs t rising (omega arith))) in
                let empty : length pieces ≡ 0 = none_left (p ∷ epochs) p.from last pieces those never in
                grind (arith, nat_tests)
            | inr some ↦
                let back : p.from - 1 + 1 ≡ p.from = omega arith in
                let count : cut_count_for which.All (p ∷ epochs) lo last ≡ cond (is_cut_for which.All (p ∷ epochs) (p.from - 1 + 1)) 1 0 + cut_count_for which.All (p ∷ epochs) (p.from - 1 + 1) last
                = cut_count-next which.All (p ∷ epochs) lo last (p.from - 1) (omega arith) (omega arith)
                (λ t past up_to. none_cut which.All (p ∷ epochs) t (none_begun p epochs t rising (omega arith))) in
                let begun : cut_count_for which.All (p ∷ epochs) lo last ≡ cond (is_cut_for which.All (p ∷ epochs) p.from) 1 0 + cut_count_for which.All (p ∷ epochs) p.from last
                = count ∙ ap (λ t. cond (is_cut_for which.All (p ∷ epochs) t) 1 0 + cut_count_for which.All (p ∷ epochs) t last) back in
                let rest : length pieces ≡ 1 + cut_count_for which.All (p ∷ epochs) p.from last = counted_from (p ∷ epochs) p.from last pieces those some in
                grind (arith, nat_tests, first_cut which.All p epochs rising)
          ]
      | inr begun ↦
          let begins : max lo p.from ≡ lo = omega arith in
          let those : ArePiecesFrom (p ∷ epochs) lo last pieces = subst (λ t. ArePiecesFrom (p ∷ epochs) t last pieces) begins are in
          let rest : length pieces ≡ 1 + cut_count_for which.All (p ∷ epochs) lo last = counted_from (p ∷ epochs) lo last pieces those order in
          let present : is_some (epoch_at (p ∷ epochs) lo) ≡ true = some_begun p epochs lo begun in
          grind (arith, nat_tests)
    ]
