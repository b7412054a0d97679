-- Which relations judge a binding that holds an object.
use Rattle.std.proofs.Common.{◌≡◌, ℕ, zero, suc, ◌+◌, ◌-◌, ◌<◌, Bool, true, false, ◌&&◌, ◌||◌, Option, None, Some, List, [], ◌∷◌, ◌++◌, length, map, refl, sym, ap, ◌∙◌, subst, inl, inr, arith, if◌then◌else◌}
use Rattle.std.specs.Prelude.{All, ◌==◌, slice_get, slice_index}
use Rattle.std.specs.List.{enumerate_from, filter, flat_map, list_any}
use Rattle.std.specs.Option.{option_map, option_map_or}
use Rattle.std.proofs.lemmas.Bool.{cases_Bool, false≢true, or_left, or_right}
use Rattle.std.proofs.lemmas.List.Elements.{All-append, All-cons, All-head, All-nil, All-tail}
use Rattle.std.proofs.lemmas.List.Folds.{list_any-append}
use Rattle.std.proofs.lemmas.List.{append-nil, length-map}
use Rattle.std.proofs.lemmas.List.FromFn.{length-range_with_len}
use Rattle.std.proofs.lemmas.Grind.{flat_map-append}
use Rattle.std.proofs.lemmas.Option.{slice_get-map}
use Rattle.tick_set.specs.Runs.{spans_have}
use Rattle.tick_set.specs.Ticks.{between, within}
use Rattle.tick_set.proofs.Between.{any_between_at}
use Rattle.history.specs.Catalog.{Catalog, ObjectInfo, ids_of}
use Rattle.history.specs.World.{World}
use Rattle.formula.specs.Tree.{ResolvedQuery}
use Rattle.meaning.specs.Binding.{holds_full}
use Rattle.object_store.specs.Contents.{Contents, StoredObject, catalog_of, object_info}
use Rattle.relation.specs.Frames.{IsIn}
use Rattle.relation.specs.Key.{has_id}
use Rattle.relation.specs.Rows.{table_has}
use Rattle.answers.proofs.ObjectLemmas.{placed}
use Rattle.live_queries.specs.declared.parts.Part.{Part}
use Rattle.live_queries.specs.declared.parts.Single.{Single}
use Rattle.live_queries.specs.Asked.{class_in}
use Rattle.live_queries.specs.Prepared.{is_of_class}
use Rattle.live_queries.specs.Written.{ArePartsOf, domains_for, parts_have, single_for}
use Rattle.live_queries.proofs.ObjectLemmas.{ids_from, is_in_class, mapped_append}
use Rattle.exact.proofs.Naturals.{equals_itself, same_from_equal}
use Rattle.evaluator.proofs.FullLemmas.{between_more}

-- ---- the class of a variable

pub class_of_variable : (classes : List ℕ) (class v : ℕ) → is_of_class classes class v ≡ true → (slice_index classes v == class) ≡ true
class_of_variable [] class v is = absurd (false≢true is)
class_of_variable (k ∷ classes) class zero is = is
class_of_variable (k ∷ classes) class (suc v) is = class_of_variable classes class v is

pub variable_of_class : (classes : List ℕ) (class v : ℕ) → v < length classes → (slice_index classes v == class) ≡ true → is_of_class classes class v ≡ true
variable_of_class [] class v below is = absurd (omega (arith, below))
variable_of_class (k ∷ classes) class zero below is = is
variable_of_class (k ∷ classes) class (suc v) below is = variable_of_class classes class v (omega (arith, below)) is

-- ---- the class of an object

pub class_is : (s : Contents) (class id : ℕ) → has_id (ids_of (catalog_of s) class) id ≡ true → class_in s id ≡ class
class_is s class id table_has =
    let p = placed (catalog_of s) class id table_has in
    let at : slice_get (map object_info s.objects) id ≡ Some p.object = ap (slice_get (map object_info s.objects)) (let e : id ≡ p.place = omega (arith, p.counted) in e) ∙ p.at in
    mapped (slice_get s.objects id)
    ∙ ap (λ (o : Option ObjectInfo). option_map_or (λ i. i.class) o 0) (sym (slice_get-map object_info s.objects id) ∙ at)
    ∙ p.of_class
  where
    mapped : (o : Option StoredObject) → option_map_or (λ x. x.class) o 0 ≡ option_map_or (λ i. i.class) (option_map object_info o) 0
    mapped o = grind arith

-- the class that is told of an object
pub class_told : (s : Contents) (id class : ℕ) → Some class ≡ option_map (λ o. o.class) (slice_get s.objects id) → class ≡ class_in s id
class_told s id class = either (slice_get s.objects id)
  where
    either : (o : Option StoredObject) → Some class ≡ option_map (λ x. x.class) o → class ≡ option_map_or (λ x. x.class) o 0
    either None e = grind (arith, e)
    either (Some x) e = grind (arith, e)

found_from : (class n place : ℕ) (objects : List ObjectInfo) (o : ObjectInfo) → slice_get objects place ≡ Some o → (o.class == class) ≡ true →
    has_id (ids_from class n objects) (n + place) ≡ true
found_from class n place [] o at is = absurd (no_object at)
  where
    no_object : slice_get {X = ObjectInfo} [] place ≡ Some o → ⊥
    no_object e = grind (arith, e)
found_from class n zero (x ∷ objects) o at is = first (x.class == class) (ap (λ (i : ObjectInfo). i.class == class) (same at) ∙ is)
  where
    same : Some x ≡ Some o → x ≡ o
    same e = ap (some_or x) e
      where
        some_or : ObjectInfo → Option ObjectInfo → ObjectInfo
        some_or d None = d
        some_or d (Some i) = i

    first : (b : Bool) → b ≡ true → has_id (map (λ (e : ℕ × ObjectInfo). e.0) (if b then ((n, x) ∷ filter (is_in_class class) (enumerate_from (n + 1) objects)) else filter (is_in_class class) (enumerate_from (n + 1) objects))) (n + zero) ≡ true
    first true e = or_left (n == n + zero) _ (ap (λ m. n == m) (let z : n + zero ≡ n = omega arith in z) ∙ equals_itself n)
    first false e = absurd (false≢true e)
found_from class n (suc place) (x ∷ objects) o at is =
    let found : has_id (ids_from class (n + 1) objects) (n + suc place) ≡ true =
    ap (has_id (ids_from class (n + 1) objects)) (let e : n + suc place ≡ n + 1 + place = omega arith in e) ∙ found_from class (n + 1) place objects o at is in
    either (x.class == class) found
  where
    either : (b : Bool) → has_id (ids_from class (n + 1) objects) (n + suc place) ≡ true →
        has_id (map (λ (e : ℕ × ObjectInfo). e.0) (if b then ((n, x) ∷ filter (is_in_class class) (enumerate_from (n + 1) objects)) else filter (is_in_class class) (enumerate_from (n + 1) objects))) (n + suc place) ≡ true
    either true found = or_right (n == n + suc place) _ found
    either false found = found

-- an object is among those of its class
pub object_of_its_class : (s : Contents) (id : ℕ) → id < length s.objects → has_id (ids_of (catalog_of s) (class_in s id)) id ≡ true
object_of_its_class s id there = found s.objects id there
  where
    at : (xs : List StoredObject) (i : ℕ) → i < length xs → (x : StoredObject) × (slice_get xs i ≡ Some x)
    at [] i below = absurd (omega (arith, below))
    at (x ∷ xs) zero below = (x, refl)
    at (x ∷ xs) (suc i) below = at xs i (omega (arith, below))

    found : (xs : List StoredObject) (i : ℕ) → i < length xs →
        has_id (ids_from (option_map_or (λ x. x.class) (slice_get xs i) 0) 0 (map object_info xs)) i ≡ true
    found xs i below =
        let p = at xs i below in
        subst (λ (k : ℕ). has_id (ids_from k 0 (map object_info xs)) i ≡ true) (sym (ap (λ (o : Option StoredObject). option_map_or (λ x. x.class) o 0) p.1))
        (ap (has_id (ids_from p.0.class 0 (map object_info xs))) (let e : i ≡ 0 + i = omega arith in e)
        ∙ found_from p.0.class 0 i (map object_info xs) (object_info p.0) (slice_get-map object_info xs i ∙ ap (option_map object_info) p.1) (equals_itself p.0.class))

-- ---- the relation of a binding

module _ (w : World) (q : ResolvedQuery) (lo hi id t : ℕ) (b : ℕ → ℕ) where
  pub parts_right : (ss : List Single) (ps : List Part) → ArePartsOf w q lo hi ss ps → All (λ s. b s.variable ≡ id → IsIn s.domains b) ss →
      list_any (λ s. b s.variable == id) ss ≡ true → parts_have ps id b t ≡ (within lo hi t && holds_full w q hi b t)
  parts_right [] ps are inside some = absurd (false≢true some)
  parts_right (s ∷ ss) [] are inside some = absurd are
  parts_right (s ∷ ss) (p ∷ ps) are inside some =
      let same : b p.variable ≡ b s.variable = ap b are.0.variable in
      elim (cases_Bool (b s.variable == id)) [
        | inl here ↦
            ap (λ c. if c then has_in p else parts_have ps id b t) (ap (λ o. o == id) same ∙ here)
            ∙ are.0.rows b (All-head (λ (x : Single). b x.variable ≡ id → IsIn x.domains b) s ss inside (same_from_equal (b s.variable) id here)) t
        | inr other ↦
            ap (λ c. if c then has_in p else parts_have ps id b t) (ap (λ o. o == id) same ∙ other)
            ∙ parts_right ss ps are.1 (All-tail (λ (x : Single). b x.variable ≡ id → IsIn x.domains b) s ss inside)
            (rest (b s.variable == id) (list_any (λ x. b x.variable == id) ss) other some)
      ]
    where
      has_in : Part → Bool
      has_in x = table_has spans_have x.rows b t

      rest : (x y : Bool) → x ≡ false → (x || y) ≡ true → y ≡ true
      rest true y e h = absurd (false≢true (sym e))
      rest false y e h = h

-- ---- the parts of a query

any_of_each : (p : Single → Bool) (g : ℕ → List Single) (vs : List ℕ) → list_any p (flat_map g vs) ≡ list_any (λ v. list_any p (g v)) vs
any_of_each p g [] = refl
any_of_each p g (v ∷ vs) = list_any-append p (g v) (flat_map g vs) ∙ ap (λ b. list_any p (g v) || b) (any_of_each p g vs)

all_of_each : (P : Single → Type 0) (g : ℕ → List Single) → ((v : ℕ) → All P (g v)) → (vs : List ℕ) → All P (flat_map g vs)
all_of_each P g each [] = All-nil P
all_of_each P g each (v ∷ vs) = All-append P (g v) (flat_map g vs) (each v) (all_of_each P g each vs)

module _ (c : Catalog) (classes : List ℕ) (class id : ℕ) where
  -- what is so of the part of each variable of the class is so of all
  pub all_singles : (P : Single → Type 0) → ((v : ℕ) → is_of_class classes class v ≡ true → P (record { variable = v; domains = domains_for c classes id v })) →
      All P (flat_map (single_for c classes class id) (between 0 (length classes)))
  all_singles P each = all_of_each P (single_for c classes class id) (λ v. one v (is_of_class classes class v) refl) (between 0 (length classes))
    where
      one : (v : ℕ) (b : Bool) → is_of_class classes class v ≡ b → All P (if b then ((record { variable = v; domains = domains_for c classes id v }) ∷ []) else [])
      one v true e = All-cons P (record { variable = v; domains = domains_for c classes id v }) [] (each v e) (All-nil P)
      one v false e = All-nil P

  abbrev single_of : ℕ → Single
  single_of v = record { variable = v; domains = domains_for c classes id v }

  pub some_single : (b : ℕ → ℕ) (v : ℕ) → v < length classes → is_of_class classes class v ≡ true → (b v == id) ≡ true →
      list_any (λ s. b s.variable == id) (flat_map (single_for c classes class id) (between 0 (length classes))) ≡ true
  some_single b v below is object =
      any_of_each (λ s. b s.variable == id) (single_for c classes class id) (between 0 (length classes))
      ∙ any_between_at (λ u. list_any (λ s. b s.variable == id) (single_for c classes class id u)) 0 (length classes) v (omega arith) below
      (ap (λ (x : Bool). list_any (λ s. b s.variable == id) (if x then (single_of v ∷ []) else [])) is
      ∙ or_left (b v == id) false object)

-- ---- one variable more

pub one_more_variable : (g : ℕ → List Single) (n : ℕ) → flat_map g (between 0 (n + 1)) ≡ flat_map g (between 0 n) ++ g n
one_more_variable g n =
    ap (flat_map g) (between_more n)
    ∙ flat_map-append g (between 0 n) (n ∷ [])
    ∙ ap (λ last. flat_map g (between 0 n) ++ last) (append-nil (g n))

pub one_more_domain : (f : ℕ → List ℕ) (n : ℕ) → map f (between 0 (n + 1)) ≡ map f (between 0 n) ++ f n ∷ []
one_more_domain f n = ap (map f) (between_more n) ∙ mapped_append f (between 0 n) (n ∷ [])

pub so_many : (f : ℕ → List ℕ) (n : ℕ) (domains : List (List ℕ)) → domains ≡ map f (between 0 n) → length domains ≡ n
unfolding between
so_many f n domains are =
    ap length are ∙ length-map (between 0 n) f ∙ length-range_with_len 0 (n - 0) ∙ (let e : n - 0 ≡ n = omega arith in e)
