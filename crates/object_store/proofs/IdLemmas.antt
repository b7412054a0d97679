-- For this crate and for the crates above: the ids of a class.
use Rattle.std.proofs.Common.{◌≡◌, ℕ, suc, ◌+◌, ◌<◌, ◌==◌, Bool, true, false, cond, List, [], ◌∷◌, ◌++◌, map, length, refl, sym, ap, ◌∙◌, arith, append_assoc, length-append}
use Rattle.std.specs.Prelude.{All}
use Rattle.std.specs.List.{filter, enumerate_from}
use Rattle.history.specs.Catalog.{ObjectInfo, ids_of, names}
use Rattle.object_store.specs.Contents.{StoredObject, Contents, object_info, catalog_of, ids_in, object_name}
use Rattle.exact.proofs.Naturals.{differs_below}

abbrev pub ids_from : ℕ → List StoredObject → ℕ → List ℕ
ids_from start objects number = map (λ (e : ℕ × StoredObject). e.0) (filter (λ (e : ℕ × StoredObject). e.1.class == number) (enumerate_from start objects))

abbrev pub class_in : StoredObject → ℕ
class_in o = o.class

ids_step : (b : Bool) (start : ℕ) (o : StoredObject) (rest : List (ℕ × StoredObject)) → map (λ (e : ℕ × StoredObject). e.0) (cond b ((start, o) ∷ rest) rest) ≡ cond b (start ∷ map (λ (e : ℕ × StoredObject). e.0) rest) (map (λ (e : ℕ × StoredObject). e.0) rest)
ids_step true start o rest = refl
ids_step false start o rest = refl

-- the ids by recursion
pub ids-cons : (start : ℕ) (o : StoredObject) (os : List StoredObject) (number : ℕ) → ids_from start (o ∷ os) number ≡ cond (o.class == number) (start ∷ ids_from (start + 1) os number) (ids_from (start + 1) os number)
ids-cons start o os number = ids_step (o.class == number) start o (filter (λ (e : ℕ × StoredObject). e.1.class == number) (enumerate_from (start + 1) os))

append_step : (b : Bool) (n : ℕ) (xs ys zs : List ℕ) → xs ≡ ys ++ zs → cond b (n ∷ xs) xs ≡ cond b (n ∷ ys) ys ++ zs
append_step true n xs ys zs same = ap (λ r. n ∷ r) same
append_step false n xs ys zs same = same

-- one more object
ids_from-append : (start : ℕ) (objects : List StoredObject) (o : StoredObject) (number : ℕ) → ids_from start (objects ++ o ∷ []) number ≡ ids_from start objects number ++ cond (o.class == number) ((start + length objects) ∷ []) []
ids_from-append start [] o number = ids-cons start o [] number ∙ ap (λ n. cond (o.class == number) (n ∷ []) []) (omega arith)
ids_from-append start (x ∷ xs) o number =
    ids-cons start x (xs ++ o ∷ []) number
    ∙ append_step (x.class == number) start _ _ _ (ids_from-append (start + 1) xs o number)
    ∙ ap (λ r. r ++ cond (o.class == number) ((start + 1 + length xs) ∷ []) []) (sym (ids-cons start x xs number))
    ∙ ap (λ n. ids_from start (x ∷ xs) number ++ cond (o.class == number) (n ∷ []) []) (omega arith)

pub ids-append : (objects : List StoredObject) (o : StoredObject) (number : ℕ) → ids_in (objects ++ o ∷ []) number ≡ ids_in objects number ++ cond (o.class == number) (length objects ∷ []) []
ids-append objects o number =
    ids_from-append 0 objects o number ∙ ap (λ n. ids_in objects number ++ cond (o.class == number) (n ∷ []) []) (omega arith)

-- the ids follow from the classes alone
ids_from-same : (start number : ℕ) (xs ys : List StoredObject) → map class_in xs ≡ map class_in ys → ids_from start xs number ≡ ids_from start ys number
ids_from-same start number [] [] same = refl
ids_from-same start number [] (y ∷ ys) same = cc
ids_from-same start number (x ∷ xs) [] same = cc
ids_from-same start number (x ∷ xs) (y ∷ ys) same =
    let head : x.class ≡ y.class = cc in
    let rest : map class_in xs ≡ map class_in ys = cc in
    ids-cons start x xs number
    ∙ ap (λ r. cond (x.class == number) (start ∷ r) r) (ids_from-same (start + 1) number xs ys rest)
    ∙ ap (λ n. cond (n == number) (start ∷ ids_from (start + 1) ys number) (ids_from (start + 1) ys number)) head
    ∙ sym (ids-cons start y ys number)

pub ids-same : (number : ℕ) (xs ys : List StoredObject) → map class_in xs ≡ map class_in ys → ids_in xs number ≡ ids_in ys number
ids-same number xs ys same = ids_from-same 0 number xs ys same

-- a class that isn't there has none
ids_from-none : (start number : ℕ) (objects : List StoredObject) → All (λ (o : StoredObject). o.class < number) objects → ids_from start objects number ≡ []
ids_from-none start number [] all = refl
ids_from-none start number (o ∷ os) all =
    ids-cons start o os number
    ∙ ap (λ b. cond b (start ∷ ids_from (start + 1) os number) (ids_from (start + 1) os number)) (differs_below o.class number (all 0 o (omega arith)))
    ∙ ids_from-none (start + 1) number os (λ k d l. all (suc k) d (omega arith))

pub ids-none : (number : ℕ) (objects : List StoredObject) → All (λ (o : StoredObject). o.class < number) objects → ids_in objects number ≡ []
ids-none number objects all = ids_from-none 0 number objects all

-- ---- the ids of a class, as a catalog has them

abbrev ids_told : ℕ → List StoredObject → ℕ → List ℕ
ids_told start objects number = map (λ (e : ℕ × ObjectInfo). e.0) (filter (λ (e : ℕ × ObjectInfo). e.1.class == number) (enumerate_from start (map object_info objects)))

told_step : (b : Bool) (start : ℕ) (i : ObjectInfo) (rest : List (ℕ × ObjectInfo)) (ids : List ℕ) → map (λ (e : ℕ × ObjectInfo). e.0) rest ≡ ids → map (λ (e : ℕ × ObjectInfo). e.0) (cond b ((start, i) ∷ rest) rest) ≡ cond b (start ∷ ids) ids
told_step true start i rest ids same = ap (λ ids. start ∷ ids) same
told_step false start i rest ids same = same

told_from : (start : ℕ) (objects : List StoredObject) (number : ℕ) → ids_told start objects number ≡ ids_from start objects number
told_from start [] number = refl
told_from start (o ∷ os) number =
    told_step (o.class == number) start (object_info o) (filter (λ (e : ℕ × ObjectInfo). e.1.class == number) (enumerate_from (start + 1) (map object_info os))) (ids_from (start + 1) os number) (told_from (start + 1) os number)
    ∙ sym (ids-cons start o os number)

pub ids-told : (s : Contents) (number : ℕ) → ids_of (catalog_of s) number ≡ ids_in s.objects number
ids-told s number = told_from 0 s.objects number

-- ---- the names of a class

-- the names of the objects of a class, as a catalog has them
abbrev names_by : List StoredObject → ℕ → List (List ℕ)
names_by objects number = map (λ (i : ObjectInfo). i.name) (filter (λ (i : ObjectInfo). i.class == number) (map object_info objects))

at_front : (front : List StoredObject) (x : StoredObject) (xs : List StoredObject) → object_name (front ++ x ∷ xs) (length front) ≡ x.name
at_front [] x xs = refl
at_front (y ∷ front) x xs = at_front front x xs

names_step : (b : Bool) (start : ℕ) (ids : List ℕ) (name : ℕ → List ℕ) → map name (cond b (start ∷ ids) ids) ≡ cond b (name start ∷ map name ids) (map name ids)
names_step true start ids name = refl
names_step false start ids name = refl

infos_step : (b : Bool) (i : ObjectInfo) (is : List ObjectInfo) → map (λ (i : ObjectInfo). i.name) (cond b (i ∷ is) is) ≡ cond b (i.name ∷ map (λ (i : ObjectInfo). i.name) is) (map (λ (i : ObjectInfo). i.name) is)
infos_step true i is = refl
infos_step false i is = refl

names_from : (number : ℕ) (front objects : List StoredObject) → map (object_name (front ++ objects)) (ids_from (length front) objects number) ≡ names_by objects number
names_from number front [] = refl
names_from number front (o ∷ os) =
    let all = front ++ o ∷ os in
    let next : front ++ o ∷ os ≡ (front ++ o ∷ []) ++ os = sym (append_assoc front (o ∷ []) os) in
    let rest : map (object_name all) (ids_from (length front + 1) os number) ≡ names_by os number =
    ap (λ (objects : List StoredObject). map (object_name objects) (ids_from (length front + 1) os number)) next
    ∙ ap (λ n. map (object_name ((front ++ o ∷ []) ++ os)) (ids_from n os number)) (omega (arith, length-append front (o ∷ [])))
    ∙ names_from number (front ++ o ∷ []) os
    in
    ap (map (object_name all)) (ids-cons (length front) o os number)
    ∙ names_step (o.class == number) (length front) (ids_from (length front + 1) os number) (object_name all)
    ∙ ap (λ r. cond (o.class == number) (object_name all (length front) ∷ r) r) rest
    ∙ ap (λ n. cond (o.class == number) (n ∷ names_by os number) (names_by os number)) (at_front front o os)
    ∙ sym (infos_step (o.class == number) (object_info o) (filter (λ (i : ObjectInfo). i.class == number) (map object_info os)))

pub names-ids : (s : Contents) (number : ℕ) → map (object_name s.objects) (ids_in s.objects number) ≡ names (catalog_of s) number
names-ids s number = names_from number [] s.objects
