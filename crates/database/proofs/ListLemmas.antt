-- For this crate and for the crates above: the lines of the first items, and of the next one.
use Rattle.std.proofs.Common.{◌≡◌, arith, ℕ, zero, suc, ◌+◌, ◌≤◌, List, [], ◌∷◌, ◌++◌, length, take, refl, ap, sym, ◌∙◌, add-one, append_assoc}
use Rattle.std.specs.Prelude.{slice_get}
use Rattle.std.specs.List.{enumerate_from, flat_map}
use Rattle.std.specs.Option.{option_map_or}
use Rattle.exact.proofs.Items.{flat_map-take-suc}

-- what was written of the first items, and of one more
pub more_lines : {X : Type 0} (f : X → List ℕ) (xs : List X) (i : ℕ) (start out next : List ℕ) → out ≡ start ++ flat_map f (take i xs) →
    next ≡ out ++ option_map_or f (slice_get xs i) [] → next ≡ start ++ flat_map f (take (i + 1) xs)
more_lines f xs i start out next so_far line =
    line ∙ ap (λ front. front ++ option_map_or f (slice_get xs i) []) so_far
    ∙ append_assoc start (flat_map f (take i xs)) (option_map_or f (slice_get xs i) [])
    ∙ ap (λ lines. start ++ lines) (sym (rw add-one (flat_map-take-suc f xs i)))

-- items with their numbers, counted from one on
numbered : {X : Type 0} (f : ℕ × X → List ℕ) (xs : List X) (from i : ℕ) →
    option_map_or f (slice_get (enumerate_from from xs) i) [] ≡ option_map_or (λ x. f (from + i, x)) (slice_get xs i) []
numbered f [] from zero = refl
numbered f [] from (suc i) = refl
numbered f (x ∷ xs) from zero = ap (λ n. f (n, x)) (omega arith)
numbered f (x ∷ xs) from (suc i) =
    let same : from + 1 + i ≡ from + suc i = omega arith in
    numbered f xs (from + 1) i ∙ ap (λ n. option_map_or (λ x. f (n, x)) (slice_get xs i) []) same

-- the line of an item that stands with its number
pub line_of_numbered : {X : Type 0} (f : ℕ × X → List ℕ) (xs : List X) (i : ℕ) →
    option_map_or f (slice_get (enumerate_from 0 xs) i) [] ≡ option_map_or (λ x. f (i, x)) (slice_get xs i) []
line_of_numbered f xs i =
    let same : 0 + i ≡ i = omega arith in
    numbered f xs 0 i ∙ ap (λ n. option_map_or (λ x. f (n, x)) (slice_get xs i) []) same

numbered_all : {X : Type 0} (xs : List X) (from k : ℕ) → length xs ≤ k → take k (enumerate_from from xs) ≡ enumerate_from from xs
numbered_all [] from zero h = refl
numbered_all [] from (suc k) h = refl
numbered_all (x ∷ xs) from zero h = absurd (omega (arith, h))
numbered_all (x ∷ xs) from (suc k) h = ap (λ es. (from, x) ∷ es) (numbered_all xs (from + 1) k (omega (arith, h)))

-- the lines of all items that stand with their numbers
pub all_lines : {X : Type 0} (f : ℕ × X → List ℕ) (xs : List X) (k : ℕ) (start out : List ℕ) → length xs ≤ k →
    out ≡ start ++ flat_map f (take k (enumerate_from 0 xs)) → out ≡ start ++ flat_map f (enumerate_from 0 xs)
all_lines f xs k start out all is = is ∙ ap (λ es. start ++ flat_map f es) (numbered_all xs 0 k all)
