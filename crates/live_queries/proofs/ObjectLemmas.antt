-- The objects of a class before and after a write to an object.
use Rattle.std.proofs.Common.{◌≡◌, ℕ, zero, suc, ◌+◌, ◌<◌, ◌≤◌, Bool, true, false, ◌⊎◌, Option, None, List, [], ◌∷◌, ◌++◌, length, map, drop, refl, sym, ap, ◌∙◌, subst, inl, inr, arith, if◌then◌else◌}
use Rattle.std.specs.Prelude.{◌==◌, slice_get, slice_index}
use Rattle.std.specs.List.{enumerate_from, filter}
use Rattle.std.specs.Option.{option_and_then}
use Rattle.std.proofs.lemmas.List.{append-nil, take-append-drop}
use Rattle.std.proofs.lemmas.List.Elements.{filter-append}
use Rattle.history.specs.Catalog.{Catalog, ObjectInfo, ids_of}
use Rattle.history.specs.History.{ChangesFrom, History, cells_at}
use Rattle.live_queries.specs.Columns.{AreCounted, AreSameColumns, Column, HaveObjectsOf}
use Rattle.live_queries.specs.Renewed.{AddsAtMost}
use Rattle.live_queries.proofs.ColumnLemmas.{AreGrown}

enumerated_append : {X : Type 0} (n : ℕ) (xs ys : List X) → enumerate_from n (xs ++ ys) ≡ enumerate_from n xs ++ enumerate_from (n + length xs) ys
enumerated_append n [] ys = ap (λ m. enumerate_from m ys) (let e : n ≡ n + 0 = omega arith in e)
enumerated_append n (x ∷ xs) ys =
    let e : n + 1 + length xs ≡ n + suc (length xs) = omega arith in
    ap (λ rest. (n, x) ∷ rest) (enumerated_append (n + 1) xs ys ∙ ap (λ m. enumerate_from (n + 1) xs ++ enumerate_from m ys) e)

pub mapped_append : {X Y : Type 0} (f : X → Y) (xs ys : List X) → map f (xs ++ ys) ≡ map f xs ++ map f ys
mapped_append f [] ys = refl
mapped_append f (x ∷ xs) ys = ap (λ rest. f x ∷ rest) (mapped_append f xs ys)

abbrev pub is_in_class : ℕ → ℕ × ObjectInfo → Bool
is_in_class class e = e.1.class == class

abbrev pub ids_from : ℕ → ℕ → List ObjectInfo → List ℕ
ids_from class n objects = map (λ (e : ℕ × ObjectInfo). e.0) (filter (is_in_class class) (enumerate_from n objects))

ids_append : (class : ℕ) (xs ys : List ObjectInfo) → ids_from class 0 (xs ++ ys) ≡ ids_from class 0 xs ++ ids_from class (length xs) ys
ids_append class xs ys =
    ap (λ es. map (λ (e : ℕ × ObjectInfo). e.0) (filter (is_in_class class) es))
    (enumerated_append 0 xs ys ∙ ap (λ m. enumerate_from 0 xs ++ enumerate_from m ys) (let e : 0 + length xs ≡ length xs = omega arith in e))
    ∙ ap (map (λ (e : ℕ × ObjectInfo). e.0)) (filter-append (is_in_class class) (enumerate_from 0 xs) (enumerate_from (length xs) ys))
    ∙ mapped_append (λ (e : ℕ × ObjectInfo). e.0) (filter (is_in_class class) (enumerate_from 0 xs)) (filter (is_in_class class) (enumerate_from (length xs) ys))

abbrev pub HasGrown : Catalog → Catalog → ℕ → ℕ → Type 0
HasGrown old new id class =
    (ids_of new class ≡ ids_of old class) ⊎ ((ids_of new class ≡ ids_of old class ++ id ∷ []) × (length old.objects ≤ id))

length_one : {X : Type 0} (xs : List X) (x : X) (ys : List X) → length xs < length (xs ++ x ∷ ys)
length_one [] x ys = omega arith
length_one (z ∷ xs) x ys = omega (arith, length_one xs x ys)

length_two : {X : Type 0} (xs : List X) (x y : X) (ys : List X) → length xs + 1 < length (xs ++ x ∷ y ∷ ys)
length_two [] x y ys = omega arith
length_two (z ∷ xs) x y ys = omega (arith, length_two xs x y ys)

pub grown_by : (old new : Catalog) (id class : ℕ) → AddsAtMost id old new → (rest : List ObjectInfo) → new.objects ≡ old.objects ++ rest → HasGrown old new id class
grown_by old new id class adds [] is = inl (ap (ids_from class 0) (is ∙ append-nil old.objects))
grown_by old new id class adds (x ∷ []) is =
    let n : ℕ = length old.objects in
    let here : n < length new.objects = subst (λ (os : List ObjectInfo). n < length os) (sym is) (length_one old.objects x []) in
    let same : n ≡ id = adds n (omega arith) here in
    let told : ids_of new class ≡ ids_of old class ++ ids_from class n (x ∷ []) = ap (ids_from class 0) is ∙ ids_append class old.objects (x ∷ []) in
    one (x.class == class) same told
  where
    one : (b : Bool) → length old.objects ≡ id →
        ids_of new class ≡ ids_of old class ++ map (λ (e : ℕ × ObjectInfo). e.0) (if b then ((length old.objects, x) ∷ []) else []) →
        HasGrown old new id class
    one true same told = inr (told ∙ ap (λ m. ids_of old class ++ m ∷ []) same, omega (arith, same))
    one false same told = inl (told ∙ append-nil (ids_of old class))
grown_by old new id class adds (x ∷ y ∷ rest) is =
    let n : ℕ = length old.objects in
    let second : n + 1 < length new.objects = subst (λ (os : List ObjectInfo). n + 1 < length os) (sym is) (length_two old.objects x y rest) in
    let a : n ≡ id = adds n (omega arith) (omega (arith, second)) in
    let b : n + 1 ≡ id = adds (n + 1) (omega arith) second in
    absurd (omega (arith, a, b))

pub objects_grow : (id now : ℕ) (old new : History) → ChangesFrom id now old new → AddsAtMost id old.catalog new.catalog → (class : ℕ) →
    HasGrown old.catalog new.catalog id class
objects_grow id now old new changes adds class =
    let n : ℕ = length old.catalog.objects in
    grown_by old.catalog new.catalog id class adds (drop n new.catalog.objects)
    (sym (take-append-drop n new.catalog.objects) ∙ ap (λ front. front ++ drop n new.catalog.objects) changes.objects)

-- an object that is not there has no state
pub none_past : (h : History) (id t : ℕ) → length h.catalog.objects ≤ id → cells_at h id t ≡ None
none_past h id t past = ap (λ (o : Option ObjectInfo). option_and_then (λ x. h.state x.name t) o) (past_end h.catalog.objects id past)
  where
    past_end : {X : Type 0} (xs : List X) (i : ℕ) → length xs ≤ i → slice_get xs i ≡ None
    past_end [] i h = refl
    past_end (x ∷ xs) zero h = absurd (omega (arith, h))
    past_end (x ∷ xs) (suc i) h = past_end xs i (omega (arith, h))

-- columns with the objects of their classes, before and after
pub grown_columns : (id : ℕ) (old new : Catalog) (classes : List ℕ) → ((class : ℕ) → HasGrown old new id class) → (cs ds : List Column) →
    AreSameColumns cs ds → HaveObjectsOf old classes cs → HaveObjectsOf new classes ds → AreCounted cs → AreCounted ds →
    AreGrown (length old.objects ≤ id) id cs ds
grown_columns id old new classes grow [] [] same a b m n = tt
grown_columns id old new classes grow [] (d ∷ ds) same a b m n = same
grown_columns id old new classes grow (c ∷ cs) [] same a b m n = same
grown_columns id old new classes grow (c ∷ cs) (d ∷ ds) same a b m n =
    let class : ℕ = slice_index classes c.variable in
    let told : d.ids ≡ ids_of new class = b.0 ∙ ap (λ v. ids_of new (slice_index classes v)) same.0 in (
      record {
        variable = same.0;
        capacity = same.1;
        old_count = m.0;
        new_count = n.0;
        ids = elim (grow class) [
          | inl stay ↦ inl (told ∙ stay ∙ sym a.0)
          | inr more ↦ inr (told ∙ more.0 ∙ ap (λ ids. ids ++ id ∷ []) (sym a.0), more.1)
        ];
      },
      grown_columns id old new classes grow cs ds same.2 a.1 b.1 m.1 n.1,
    )
