-- Reading items one after another, as a loop does: what was read so far stands before what is left.
use Rattle.command_text.proofs.Names.{◌≡◌, ℕ, zero, suc, ◌<◌, ◌≤◌, Bool, true, false, List, [], ◌∷◌, ◌++◌, length, Option, Some, None, refl, sym, ◌∙◌, ap, arith, append_assoc, append-nil, if◌then◌else◌, ◌>>=◌, CommandFault, StopsPart, Rate, is_sign, are_few_legs, function_of, legs_of_x, legs_of_y, Reader, Read, begins, many, all, with_front, move_leg, noting_small, OPEN_SQUARE_SIGN}
use Rattle.command_text.specs.inner.Reading.{pair, moves}
use Rattle.command_text.specs.declared.fault.CommandFault.TheVariants as faults
use Rattle.command_text.proofs.grammar.Shorter.{Shortens}

same_steps : {A B : Type 0} (o : Option A) (f g : A → Option B) → ((x : A) → o ≡ Some x → f x ≡ g x) → (o >>= f) ≡ (o >>= g)
same_steps None f g h = refl
same_steps (Some x) f g h = h x refl

no_steps : {A B : Type 0} (o : Option A) (g : A → Option B) → ((x : A) → o ≡ Some x → ⊥) → None ≡ (o >>= g)
no_steps None g h = refl
no_steps (Some x) g h = absurd (h x refl)

as_front : {A : Type 0} (x : A) (o : Read (List A)) → (o >>= (λ xs. Some (x ∷ xs.0, xs.1))) ≡ with_front (x ∷ []) o
as_front x None = refl
as_front x (Some r) = refl

-- no more items are read than there are tokens
many_enough : {A : Type 0} (more : Reader → Bool) (item : Reader → Read A) → Shortens item → (n m : ℕ) (s : Reader) →
    length s.rest ≤ n → length s.rest ≤ m → many more item n s ≡ many more item m s
unfolding many
many_enough more item shorter zero zero s h k = refl
many_enough more item shorter zero (suc m) s h k =
    ap (λ o. if more s then o else Some ([], s))
    (no_steps (item s) (λ x. many more item m x.1 >>= (λ xs. Some (x.0 ∷ xs.0, xs.1)))
    (λ x e. let less : length x.1.rest < length s.rest = shorter.fewer s x.1 x.0 e in omega arith))
many_enough more item shorter (suc n) zero s h k =
    ap (λ o. if more s then o else Some ([], s))
    (sym (no_steps (item s) (λ x. many more item n x.1 >>= (λ xs. Some (x.0 ∷ xs.0, xs.1)))
    (λ x e. let less : length x.1.rest < length s.rest = shorter.fewer s x.1 x.0 e in omega arith)))
many_enough more item shorter (suc n) (suc m) s h k =
    ap (λ o. if more s then o else Some ([], s))
    (same_steps (item s) (λ x. many more item n x.1 >>= (λ xs. Some (x.0 ∷ xs.0, xs.1))) (λ x. many more item m x.1 >>= (λ xs. Some (x.0 ∷ xs.0, xs.1)))
    (λ x e.
    let less : length x.1.rest < length s.rest = shorter.fewer s x.1 x.0 e in
    let left : length x.1.rest ≤ n = omega arith in
    let right : length x.1.rest ≤ m = omega arith in
    ap (λ r. r >>= (λ xs. Some (x.0 ∷ xs.0, xs.1))) (many_enough more item shorter n m x.1 left right)))

step_taken : {A : Type 0} (more : Reader → Bool) (item : Reader → Read A) (k : ℕ) (s later : Reader) (x : A) →
    more s ≡ true → item s ≡ Some (x, later) → many more item (suc k) s ≡ with_front (x ∷ []) (many more item k later)
unfolding many
step_taken more item k s later x begun read =
    ap (λ b. if b then (item s >>= (λ y. many more item k y.1 >>= (λ xs. Some (y.0 ∷ xs.0, xs.1)))) else Some ([], s)) begun
    ∙ ap (λ o. o >>= (λ y. many more item k y.1 >>= (λ xs. Some (y.0 ∷ xs.0, xs.1)))) read
    ∙ as_front x (many more item k later)

-- one item, and then the others
pub all_step : {A : Type 0} (more : Reader → Bool) (item : Reader → Read A) → Shortens item → (s later : Reader) (x : A) →
    more s ≡ true → item s ≡ Some (x, later) → all more item s ≡ with_front (x ∷ []) (all more item later)
all_step more item shorter s later x begun read =
    let less : length later.rest < length s.rest = shorter.fewer s later x read in
    let wide : length s.rest ≤ length s.rest = omega arith in
    let wider : length s.rest ≤ suc (length s.rest) = omega arith in
    let left : length later.rest ≤ length s.rest = omega arith in
    let own : length later.rest ≤ length later.rest = omega arith in
    many_enough more item shorter (length s.rest) (suc (length s.rest)) s wide wider
    ∙ step_taken more item (length s.rest) s later x begun read
    ∙ ap (with_front (x ∷ [])) (many_enough more item shorter (length s.rest) (length later.rest) later left own)

many_stop : {A : Type 0} (more : Reader → Bool) (item : Reader → Read A) (n : ℕ) (s : Reader) →
    more s ≡ false → many more item n s ≡ Some ([], s)
unfolding many
many_stop more item zero s e = ap (λ b. if b then None else Some ([], s)) e
many_stop more item (suc n) s e =
    ap (λ b. if b then (item s >>= (λ x. many more item n x.1 >>= (λ xs. Some (x.0 ∷ xs.0, xs.1)))) else Some ([], s)) e

-- no item begins
pub all_stop : {A : Type 0} (more : Reader → Bool) (item : Reader → Read A) (s : Reader) → more s ≡ false → all more item s ≡ Some ([], s)
all_stop more item s e = many_stop more item (length s.rest) s e

many_bad : {A : Type 0} (more : Reader → Bool) (item : Reader → Read A) (n : ℕ) (s : Reader) →
    more s ≡ true → item s ≡ None → many more item n s ≡ None
unfolding many
many_bad more item zero s e d = ap (λ b. if b then None else Some ([], s)) e
many_bad more item (suc n) s e d =
    ap (λ b. if b then (item s >>= (λ x. many more item n x.1 >>= (λ xs. Some (x.0 ∷ xs.0, xs.1)))) else Some ([], s)) e
    ∙ ap (λ o. o >>= (λ x. many more item n x.1 >>= (λ xs. Some (x.0 ∷ xs.0, xs.1)))) d

front_nil : {A : Type 0} (o : Read (List A)) → o ≡ with_front [] o
front_nil None = refl
front_nil (Some r) = refl

front_more : {A : Type 0} (xs : List A) (x : A) (o : Read (List A)) → with_front xs (with_front (x ∷ []) o) ≡ with_front (xs ++ x ∷ []) o
front_more xs x None = refl
front_more xs x (Some r) = ap (λ ys. Some (ys, r.1)) (sym (append_assoc xs (x ∷ []) r.0))

-- Where a loop stands: the items that were there and those from its start on are those that it has and those from where it is on.
pub record Goes {A : Type 0} (more : Reader → Bool) (item : Reader → Read A) (there : List A) (start : Reader) (so_far : List A) (s : Reader) : Type 0 where
  pub on : with_front there (all more item start) ≡ with_front so_far (all more item s)

pub goes_begun : {A : Type 0} (more : Reader → Bool) (item : Reader → Read A) (there : List A) (start : Reader) → Goes more item there start there start
goes_begun more item there start = record { on = refl }

pub goes_on : {A : Type 0} (more : Reader → Bool) (item : Reader → Read A) → Shortens item
    → (there : List A) (start s later : Reader) (so_far : List A) (x : A) →
    Goes more item there start so_far s → more s ≡ true → item s ≡ Some (x, later) → Goes more item there start (so_far ++ x ∷ []) later
goes_on more item shorter there start s later so_far x before begun read =
    record { on = before.on ∙ ap (with_front so_far) (all_step more item shorter s later x begun read) ∙ front_more so_far x (all more item later) }

pub goes_to_the_end : {A : Type 0} (more : Reader → Bool) (item : Reader → Read A) (there : List A) (start s : Reader) (so_far : List A) →
    Goes more item there start so_far s → more s ≡ false → with_front there (all more item start) ≡ Some (so_far, s)
goes_to_the_end more item there start s so_far before e =
    before.on ∙ ap (with_front so_far) (many_stop more item (length s.rest) s e) ∙ ap (λ xs. Some (xs, s)) (append-nil so_far)

-- a loop that began with no items
pub all_read : {A : Type 0} (more : Reader → Bool) (item : Reader → Read A) (start s : Reader) (so_far : List A) →
    Goes more item [] start so_far s → more s ≡ false → all more item start ≡ Some (so_far, s)
all_read more item start s so_far before e = front_nil (all more item start) ∙ goes_to_the_end more item [] start s so_far before e

front_none : {A : Type 0} (xs : List A) (o : Read (List A)) → with_front xs o ≡ None → o ≡ None
front_none xs None e = refl
front_none xs (Some r) e = absurd (cc)

pub goes_wrong : {A : Type 0} (more : Reader → Bool) (item : Reader → Read A) (there : List A) (start s : Reader) (so_far : List A) →
    Goes more item there start so_far s → more s ≡ true → item s ≡ None → all more item start ≡ None
goes_wrong more item there start s so_far before e d =
    front_none there (all more item start) (before.on ∙ ap (with_front so_far) (many_bad more item (length s.rest) s e d))

-- a loop that stops at an item
pub goes_stopped : {A : Type 0} (more : Reader → Bool) (item : Reader → Read A) (there : List A) (start s : Reader) (so_far : List A) (e : CommandFault) →
    Goes more item there start so_far s → more s ≡ true → StopsPart (item s) e → StopsPart (all more item start) e
goes_stopped more item there start s so_far (faults.Refused r) before begun stops = (stops.0, goes_wrong more item there start s so_far before begun stops.1)
goes_stopped more item there start s so_far faults.NoMemory before begun stops = tt

pub ruleset loop_steps = (goes_begun, goes_on, goes_to_the_end, all_read, goes_wrong)

-- no leg ends where none begins, so both coordinates have one
pub steady_moves : (s : Reader) → begins (is_sign OPEN_SQUARE_SIGN) s ≡ false →
    moves s ≡ (pair Rate s >>= (λ last. Some ((record { firsts = []; last = last.0.0 }, record { firsts = []; last = last.0.1 }), noting_small true last.1)))
unfolding moves
steady_moves s e =
    ap (λ o. o >>= (λ legs. pair Rate legs.1
    >>= (λ last. Some ((function_of (legs_of_x legs.0) last.0.0, function_of (legs_of_y legs.0) last.0.1), noting_small (are_few_legs (length legs.0)) last.1))))
    (all_stop (begins (is_sign OPEN_SQUARE_SIGN)) move_leg s e)
