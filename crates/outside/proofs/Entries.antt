-- What a list of names and texts holds after a change.
use Rattle.std.proofs.Common.{◌≡◌, ℕ, ◌<◌, ◌≤◌, Bool, refl, sym, subst, List, [], ◌∷◌, ◌++◌, length, set, get_or, Some, None, arith}
use Rattle.std.proofs.lemmas.Grind.{common_steps}
use Rattle.std.proofs.lemmas.Slice.Eq.{bytes_eq-Decides}
use Rattle.std.specs.List.{position, position_or_len}
use Rattle.std.specs.Str.{bytes_eq}
use Rattle.outside.specs.Shelf.{texts_of, texts_with}

position-within : {X : Type 0} (p : X → Bool) (xs : List X) (i : ℕ) → position p xs ≡ Some i → (i ≡ position_or_len p xs) × (i < length xs)
position-within p xs i e = grind (arith, common_steps)

position-absent : {X : Type 0} (p : X → Bool) (xs : List X) → position p xs ≡ None → length xs ≤ position_or_len p xs
position-absent p xs e = grind (arith, common_steps)

-- a new text in the place of the first under its name
texts_of-set_first : (entries : List (List ℕ × List ℕ)) (name text other : List ℕ) →
    position_or_len (λ e. bytes_eq e.0 name) entries < length entries →
    texts_of (set entries (position_or_len (λ e. bytes_eq e.0 name) entries) (name, text)) other ≡ texts_with (texts_of entries) name text other
texts_of-set_first [] name text other within = absurd (omega arith)
texts_of-set_first (entry ∷ entries) name text other within =
    grind (arith, common_steps, texts_of-set_first entries name text other, bytes_eq-Decides entry.0 name, bytes_eq-Decides other name, bytes_eq-Decides other entry.0)

-- a new text after the others, none of which is under its name
texts_of-append : (entries : List (List ℕ × List ℕ)) (name text other : List ℕ) →
    length entries ≤ position_or_len (λ e. bytes_eq e.0 name) entries →
    texts_of (entries ++ (name, text) ∷ []) other ≡ texts_with (texts_of entries) name text other
texts_of-append [] name text other absent = refl
texts_of-append (entry ∷ entries) name text other absent =
    grind (arith, common_steps, texts_of-append entries name text other, bytes_eq-Decides entry.0 name, bytes_eq-Decides other name, bytes_eq-Decides other entry.0)

-- the text at the first place under the name
texts_of-first : (entries : List (List ℕ × List ℕ)) (name : List ℕ) (d : List ℕ × List ℕ) →
    position_or_len (λ e. bytes_eq e.0 name) entries < length entries →
    texts_of entries name ≡ Some (get_or entries (position_or_len (λ e. bytes_eq e.0 name) entries) d).1
texts_of-first [] name d within = absurd (omega arith)
texts_of-first (entry ∷ entries) name d within = grind (arith, common_steps, texts_of-first entries name d, bytes_eq-Decides entry.0 name, bytes_eq-Decides name entry.0)

-- no text where there is no such place
texts_of-none : (entries : List (List ℕ × List ℕ)) (name : List ℕ) →
    length entries ≤ position_or_len (λ e. bytes_eq e.0 name) entries → texts_of entries name ≡ None
texts_of-none [] name absent = refl
texts_of-none (entry ∷ entries) name absent = grind (arith, common_steps, texts_of-none entries name, bytes_eq-Decides entry.0 name, bytes_eq-Decides name entry.0)

pub texts_of-set : (entries : List (List ℕ × List ℕ)) (name text other : List ℕ) (i : ℕ) →
    position (λ e. bytes_eq e.0 name) entries ≡ Some i →
    texts_of (set entries i (name, text)) other ≡ texts_with (texts_of entries) name text other
texts_of-set entries name text other i e =
    let h : (i ≡ position_or_len (λ e. bytes_eq e.0 name) entries) × (i < length entries) = position-within _ _ _ e in
    let within : position_or_len (λ e. bytes_eq e.0 name) entries < length entries = omega arith in
    subst (λ j. texts_of (set entries j (name, text)) other ≡ texts_with (texts_of entries) name text other) (sym h.0) (texts_of-set_first entries name text other within)

pub texts_of-push : (entries : List (List ℕ × List ℕ)) (name text other : List ℕ) →
    position (λ e. bytes_eq e.0 name) entries ≡ None →
    texts_of (entries ++ (name, text) ∷ []) other ≡ texts_with (texts_of entries) name text other
texts_of-push entries name text other e = texts_of-append entries name text other (position-absent _ _ e)

pub texts_of-found : (entries : List (List ℕ × List ℕ)) (name : List ℕ) (d : List ℕ × List ℕ) (i : ℕ) →
    position (λ e. bytes_eq e.0 name) entries ≡ Some i → texts_of entries name ≡ Some (get_or entries i d).1
texts_of-found entries name d i e =
    let h : (i ≡ position_or_len (λ e. bytes_eq e.0 name) entries) × (i < length entries) = position-within _ _ _ e in
    let within : position_or_len (λ e. bytes_eq e.0 name) entries < length entries = omega arith in
    subst (λ j. texts_of entries name ≡ Some (get_or entries j d).1) (sym h.0) (texts_of-first entries name d within)

pub texts_of-missing : (entries : List (List ℕ × List ℕ)) (name : List ℕ) →
    position (λ e. bytes_eq e.0 name) entries ≡ None → texts_of entries name ≡ None
texts_of-missing entries name e = texts_of-none entries name (position-absent _ _ e)

pub ruleset entry_lemmas = (texts_of-set, texts_of-push, texts_of-found, texts_of-missing)
