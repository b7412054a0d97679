-- Domains with the objects of some rows alone.
use Rattle.std.proofs.Common.{◌≡◌, ℕ, zero, suc, ◌+◌, ◌<◌, ◌≤◌, Bool, true, false, ◌==◌, if◌then◌else◌, List, [], ◌∷◌, ◌++◌, length, get_or, take, map, refl, sym, ap, ◌∙◌, subst, inl, inr, arith}
use Rattle.std.specs.Prelude.{slice_index}
use Rattle.std.specs.List.{filter, list_all}
use Rattle.std.specs.List.Sorted.{IsStrictlyIncreasing}
use Rattle.std.specs.Str.{bytes_eq}
use Rattle.std.proofs.lemmas.Bool.{and_parts, cases_Bool, cases_lt, eq-eqb, false≢true, eqb-true, ltb-true, or_cases, or_left, or_right}
use Rattle.std.proofs.lemmas.List.{get_or_past, length-map, take_more}
use Rattle.std.proofs.lemmas.Slice.Eq.{bytes_eq-Decides}
use Rattle.relation.specs.declared.row.Row.{Row}
use Rattle.relation.specs.Frames.{domain_size}
use Rattle.relation.specs.Key.{has_id, ids_of_variable, key_below, key_in}
use Rattle.relation.specs.Order.{has_row, keys_over}
use Rattle.relation.specs.Rows.{Table}
use Rattle.evaluator.specs.Keys.{AreAscendingKeys}
use Rattle.evaluator.specs.inner.Column.{AreForRows, first_ids, ids_left}
use Rattle.evaluator.proofs.AwayLemmas.{AreRowKeys, own_first, row_keys}

-- what holds of each of three lists holds of what is left
left_case : {S : Type 0} (vars : List ℕ) (rows : List (Row S)) (old : List (List ℕ)) (v : ℕ) (P : List ℕ → Type 0) →
    (rows ≡ [] → P []) → (vars ≡ v ∷ [] → P (first_ids rows)) → P (ids_of_variable old v) → P (ids_left vars rows old v)
left_case vars [] old v P none one all = none refl
left_case vars (r ∷ rest) old v P none one all =
    elim (cases_Bool (bytes_eq vars (v ∷ []))) [
      | inl e ↦ subst P (sym (ap (λ (c : Bool). if c then first_ids (r ∷ rest) else ids_of_variable old v) e)) (one ((bytes_eq-Decides vars (v ∷ [])).0 e))
      | inr e ↦ subst P (sym (ap (λ (c : Bool). if c then first_ids (r ∷ rest) else ids_of_variable old v) e)) all
    ]

first_inside : {S : Type 0} (old : List (List ℕ)) (v id : ℕ) (rows : List (Row S)) → list_all (key_in old (v ∷ [])) (map (λ r. r.key) rows) ≡ true →
    has_id (first_ids rows) id ≡ true → has_id (ids_of_variable old v) id ≡ true
first_inside old v id [] inside h = absurd (let f : false ≡ true = h in cc)
first_inside old v id (r ∷ rows) inside h =
    let parts = and_parts _ _ inside in
    elim (or_cases _ _ h) [
      | inl e ↦ subst (λ (n : ℕ). has_id (ids_of_variable old v) n ≡ true) (eqb-true (slice_index r.key 0) id e) (own_first old v r.key parts.0)
      | inr e ↦ first_inside old v id rows parts.1 e
    ]

first_has : {S : Type 0} (x : ℕ) (rows : List (Row S)) → has_row rows (x ∷ []) ≡ true → has_id (first_ids rows) x ≡ true
first_has x [] h = absurd (let f : false ≡ true = h in cc)
first_has x (r ∷ rows) h =
    elim (or_cases _ _ h) [
      | inl e ↦ or_left (slice_index r.key 0 == x) (has_id (first_ids rows) x) (eq-eqb (slice_index r.key 0) x (ap (λ (k : List ℕ). slice_index k 0) ((bytes_eq-Decides r.key (x ∷ [])).0 e)))
      | inr e ↦ or_right (slice_index r.key 0 == x) (has_id (first_ids rows) x) (first_has x rows e)
    ]

below_first : (old : List (List ℕ)) (v : ℕ) (k l : List ℕ) → key_in old (v ∷ []) k ≡ true → key_in old (v ∷ []) l ≡ true → key_below k l ≡ true →
    slice_index k 0 < slice_index l 0
below_first old v [] l h m b = absurd (let f : false ≡ true = h in cc)
below_first old v (x ∷ k) [] h m b = absurd (let f : false ≡ true = m in cc)
below_first old v (x ∷ y ∷ k) (z ∷ l) h m b = absurd (false≢true (and_parts (has_id (ids_of_variable old v) x) false h).1)
below_first old v (x ∷ []) (z ∷ l) h m b = elim (or_cases _ _ b) [
  | inl e ↦ ltb-true x z e
  | inr e ↦ absurd (false≢true (and_parts (x == z) false e).1)
]

next_place : (k : ℕ) → suc (k + 1) ≡ suc k + 1
next_place k = omega arith

place_before : (k n : ℕ) → suc k + 1 < suc (suc n) → k + 1 < suc n
place_before k n l = omega (arith, l)

first_ascend : {S : Type 0} (old : List (List ℕ)) (v : ℕ) (rows : List (Row S)) → AreAscendingKeys (map (λ r. r.key) rows) → list_all (key_in old (v ∷ [])) (map (λ r. r.key) rows) ≡ true →
    (k : ℕ) → k + 1 < length (first_ids rows) → get_or (first_ids rows) k 0 < get_or (first_ids rows) (k + 1) 0
first_ascend old v [] up inside k l = absurd (omega (arith, l))
first_ascend old v (r ∷ []) up inside k l = absurd (omega (arith, l))
first_ascend old v (r ∷ s ∷ rows) up inside zero l =
    below_first old v r.key s.key (and_parts _ _ inside).0 (and_parts _ _ (and_parts _ _ inside).1).0 (and_parts _ _ up.0).0
first_ascend old v (r ∷ s ∷ rows) up inside (suc k) l =
    subst (λ (n : ℕ). get_or (first_ids (s ∷ rows)) k 0 < get_or (first_ids (r ∷ s ∷ rows)) n 0) (next_place k)
    (first_ascend old v (s ∷ rows) up.1 (and_parts _ _ inside).1 k (place_before k (length (first_ids rows)) l))

-- the objects of rows over one variable ascend
pub ids_ascend : {S : Type 0} (r : Table S) (v : ℕ) → IsStrictlyIncreasing (ids_of_variable r.domains v) →
    map (λ row. row.key) r.rows ≡ filter (has_row r.rows) (keys_over r.domains r.vars) → r.vars ≡ v ∷ [] → IsStrictlyIncreasing (first_ids r.rows)
ids_ascend r v up is one =
    let are = row_keys r.domains v (has_row r.rows) (map (λ row. row.key) r.rows) (is ∙ (λ i. filter (has_row r.rows) (keys_over r.domains (one i)))) up in
    first_ascend r.domains v r.rows are.ascend are.inside

module _ {S : Type 0} (r : Table S) (old : List (List ℕ)) (up : (v : ℕ) → IsStrictlyIncreasing (ids_of_variable old v))
    (is : map (λ row. row.key) r.rows ≡ filter (has_row r.rows) (keys_over old r.vars)) where
  keys_of_one : (v : ℕ) → r.vars ≡ v ∷ [] → AreRowKeys old v (map (λ row. row.key) r.rows)
  keys_of_one v one = row_keys old v (has_row r.rows) (map (λ row. row.key) r.rows) (is ∙ (λ i. filter (has_row r.rows) (keys_over old (one i)))) (up v)

  -- what is left for each variable makes up such domains
  pub left_domains : (new : List (List ℕ)) → length new ≡ length old → ((v : ℕ) → v < length old → ids_of_variable new v ≡ ids_left r.vars r.rows old v) → AreForRows r old new
  left_domains new many ids = record {
    many = many;
    wider = record { many = sym many; all = inside };
    few = λ v. elim (cases_lt v (length old)) [
      | inl l ↦ subst (λ (xs : List ℕ). length xs ≤ domain_size old v) (sym (ids v l)) (few v)
      | inr g ↦ subst (λ (xs : List ℕ). length xs ≤ domain_size old v) (sym (past v g)) (omega arith)
    ];
    all = λ b is_in here v l.
        let below : v < length old = subst (λ (n : ℕ). v < n) many l in
        subst (λ (xs : List ℕ). has_id xs (b v) ≡ true) (sym (ids v below)) (covers b v (is_in v below) here);
  }
    where
      past : (v : ℕ) → length old ≤ v → ids_of_variable new v ≡ []
      past v g = get_or_past new v [] (subst (λ (n : ℕ). n ≤ v) (sym many) g)

      few : (v : ℕ) → length (ids_left r.vars r.rows old v) ≤ length (ids_of_variable old v)
      few v =
          left_case r.vars r.rows old v (λ xs. length xs ≤ length (ids_of_variable old v)) (λ e. omega arith)
          (λ one. (let are = keys_of_one v one in let f = are.few in let m : length (first_ids r.rows) ≡ length (map (λ row. row.key) r.rows) = length-map (map (λ row. row.key) r.rows) (λ k. slice_index k 0) in omega (arith, f, m)))
          (omega arith)

      inside : (v id : ℕ) → has_id (ids_of_variable new v) id ≡ true → has_id (ids_of_variable old v) id ≡ true
      inside v id h = elim (cases_lt v (length old)) [
        | inl l ↦
            left_case r.vars r.rows old v (λ xs. has_id xs id ≡ true → has_id (ids_of_variable old v) id ≡ true) (λ e m. absurd (let f : false ≡ true = m in cc))
            (λ one. first_inside old v id r.rows (keys_of_one v one).inside) (λ m. m) (subst (λ (xs : List ℕ). has_id xs id ≡ true) (ids v l) h)
        | inr g ↦ absurd (let f : false ≡ true = subst (λ (xs : List ℕ). has_id xs id ≡ true) (past v g) h in cc)
      ]

      covers : (b : ℕ → ℕ) (v : ℕ) → has_id (ids_of_variable old v) (b v) ≡ true → has_row r.rows (map b r.vars) ≡ true → has_id (ids_left r.vars r.rows old v) (b v) ≡ true
      covers b v own here =
          left_case r.vars r.rows old v (λ xs. has_id xs (b v) ≡ true)
          (λ e. absurd (let f : false ≡ true = subst (λ (rows : List (Row S)). has_row rows (map b r.vars) ≡ true) e here in cc))
          (λ one. first_has (b v) r.rows (subst (λ (vs : List ℕ). has_row r.rows (map b vs) ≡ true) one here)) own

-- the first object of one more key
first_of_both : (xs ys : List (List ℕ)) → map (λ k. slice_index k 0) (xs ++ ys) ≡ map (λ k. slice_index k 0) xs ++ map (λ k. slice_index k 0) ys
first_of_both [] ys = refl
first_of_both (x ∷ xs) ys = ap (λ (zs : List ℕ). slice_index x 0 ∷ zs) (first_of_both xs ys)

pub first_more : (keys : List (List ℕ)) (i : ℕ) (key : List ℕ) (x : ℕ) (ids : List ℕ) → i < length keys → key ≡ get_or keys i key → x ≡ slice_index key 0 →
    ids ≡ map (λ k. slice_index k 0) (take i keys) → (ids ++ x ∷ []) ≡ map (λ k. slice_index k 0) (take (i + 1) keys)
first_more keys i key x ids l at own is =
    (λ p. is p ++ (own ∙ ap (λ (k : List ℕ). slice_index k 0) at) p ∷ [])
    ∙ sym (first_of_both (take i keys) (get_or keys i key ∷ []))
    ∙ ap (map (λ k. slice_index k 0)) (sym (take_more keys i key l))

-- what is left where there is no row, and where these rows have this variable alone
pub left_none : {S : Type 0} (vars : List ℕ) (rows : List (Row S)) (old : List (List ℕ)) (v : ℕ) → rows ≡ [] → [] ≡ ids_left vars rows old v
left_none vars rows old v e = ap (λ (rs : List (Row _)). ids_left vars rs old v) (sym e)

some_left : {S : Type 0} (vars : List ℕ) (rows : List (Row S)) (old : List (List ℕ)) (v : ℕ) (c : Bool) → (rows ≡ [] → ⊥) → bytes_eq vars (v ∷ []) ≡ c →
    (if c then first_ids rows else ids_of_variable old v) ≡ ids_left vars rows old v
some_left vars [] old v c some e = absurd (some refl)
some_left vars (r ∷ rest) old v c some e = ap (λ (d : Bool). if d then first_ids (r ∷ rest) else ids_of_variable old v) (sym e)

pub left_own : {S : Type 0} (vars : List ℕ) (rows : List (Row S)) (old : List (List ℕ)) (v : ℕ) → (rows ≡ [] → ⊥) → bytes_eq vars (v ∷ []) ≡ true →
    first_ids rows ≡ ids_left vars rows old v
left_own vars rows old v some e = some_left vars rows old v true some e

pub left_all : {S : Type 0} (vars : List ℕ) (rows : List (Row S)) (old : List (List ℕ)) (v : ℕ) → (rows ≡ [] → ⊥) → bytes_eq vars (v ∷ []) ≡ false →
    ids_of_variable old v ≡ ids_left vars rows old v
left_all vars rows old v some e = some_left vars rows old v false some e
