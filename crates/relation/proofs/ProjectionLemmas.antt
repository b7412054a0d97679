-- The objects of some of a relation's variables.
use Rattle.std.proofs.Common.{◌≡◌, ℕ, suc, ◌+◌, ◌<◌, ◌≤◌, Bool, true, false, not, ◌&&◌, ◌||◌, ◌==◌, nat_lt, List, [], ◌∷◌, ◌++◌, Option, if◌then◌else◌, length, get_or, drop, take, map, refl, sym, ap, ◌∙◌, subst, inl, inr, arith}
use Rattle.std.specs.List.{All, filter, list_all, slice_get}
use Rattle.std.specs.Str.{bytes_eq}
use Rattle.std.proofs.lemmas.Bool.{and_from, and_parts, cases_Bool, eq-eqb, eqb-true, false≢true, not-true, or_cases, or_left, or_parts, or_right}
use Rattle.std.proofs.lemmas.List.Elements.{All-push}
use Rattle.std.proofs.lemmas.List.Folds.{list_any-append, list_any_more}
use Rattle.std.proofs.lemmas.Option.{slice_get_read}
use Rattle.relation.specs.declared.entries.Entry.{Entry}
use Rattle.relation.specs.declared.row.Row.{Row}
use Rattle.relation.specs.Entries.{AreEntries, HasGathered, IsBefore, IsEntry, entries_have, entry_has, optional_row_has}
use Rattle.relation.specs.Frames.{IsIn}
use Rattle.formula.specs.Resolved.{are_distinct}
use Rattle.relation.specs.Key.{are_known, has_id, ids_of_variable, key_in}
use Rattle.relation.specs.Projection.{IsPicked, picked, rows_over, variable_place}
use Rattle.relation.specs.Rows.{AreRows, IsRow, IsTable, Table, has_at, table, table_has}
use Rattle.relation.proofs.RowLemmas.{row_at}
use Rattle.exact.proofs.Items.{all_weaker}
use Rattle.exact.proofs.Lists.{bytes_eq_refl, bytes_eq_true}

-- a test of a member of a list that all its members pass
pub passed_by : (p : ℕ → Bool) (us : List ℕ) (x : ℕ) → list_all p us ≡ true → has_id us x ≡ true → p x ≡ true
passed_by p [] x h e = absurd (false≢true e)
passed_by p (u ∷ us) x h e =
    let parts : (p u ≡ true) × (list_all p us ≡ true) = and_parts _ _ h in
    elim (or_cases _ _ e) [
      | inl here ↦ subst (λ (z : ℕ). p z ≡ true) (eqb-true u x here) parts.0
      | inr later ↦ passed_by p us x parts.1 later
    ]

-- the members of a list but one
abbrev without : ℕ → List ℕ → List ℕ
without x ys = filter (λ y. not (y == x)) ys

shorter : (x : ℕ) (ys : List ℕ) → length (without x ys) ≤ length ys
shorter x [] = omega arith
shorter x (y ∷ ys) =
    let later : length (without x ys) ≤ length ys = shorter x ys in
    elim (not (y == x)) as (λ b. length (if b then y ∷ without x ys else without x ys) ≤ suc (length ys)) [ true ↦ omega (arith, later) | false ↦ omega (arith, later) ]

one_fewer : (x : ℕ) (ys : List ℕ) → has_id ys x ≡ true → length (without x ys) < length ys
one_fewer x [] h = absurd (false≢true h)
one_fewer x (y ∷ ys) h =
    elim (cases_Bool (y == x)) [
      | inl e ↦
          let fewer : length (without x ys) ≤ length ys = shorter x ys in
          subst (λ (b : Bool). length (if not b then y ∷ without x ys else without x ys) < suc (length ys)) (sym e) (let l : length (without x ys) < suc (length ys) = omega (arith, fewer) in l)
      | inr n ↦
          let later : has_id ys x ≡ true = elim (or_cases _ _ h) [ inl e ↦ absurd (false≢true (sym n ∙ e)) | inr l ↦ l ] in
          let fewer : length (without x ys) < length ys = one_fewer x ys later in
          subst (λ (b : Bool). length (if not b then y ∷ without x ys else without x ys) < suc (length ys)) (sym n) (let l : suc (length (without x ys)) < suc (length ys) = omega (arith, fewer) in l)
    ]

still_there : (x w : ℕ) (ys : List ℕ) → (w == x) ≡ false → has_id ys w ≡ true → has_id (without x ys) w ≡ true
still_there x w [] n h = absurd (false≢true h)
still_there x w (y ∷ ys) n h =
    elim (cases_Bool (y == x)) [
      | inl e ↦
          let differs : (y == w) ≡ false = ap (λ (z : ℕ). z == w) (eqb-true y x e) ∙ other w n in
          let later : has_id ys w ≡ true = elim (or_cases _ _ h) [ inl l ↦ absurd (false≢true (sym differs ∙ l)) | inr l ↦ l ] in
          subst (λ (b : Bool). has_id (if not b then y ∷ without x ys else without x ys) w ≡ true) (sym e) (still_there x w ys n later)
      | inr m ↦
          subst (λ (b : Bool). has_id (if not b then y ∷ without x ys else without x ys) w ≡ true) (sym m)
          (elim (or_cases (y == w) (has_id ys w) h) [ inl l ↦ or_left (y == w) (has_id (without x ys) w) l | inr l ↦ or_right (y == w) (has_id (without x ys) w) (still_there x w ys n l) ])
    ]
  where
    other : (w : ℕ) → (w == x) ≡ false → (x == w) ≡ false
    other w n = elim (cases_Bool (x == w)) [ inl e ↦ absurd (false≢true (sym n ∙ eq-eqb w x (sym (eqb-true x w e)))) | inr m ↦ m ]

all_still : (x : ℕ) (us ys : List ℕ) → has_id us x ≡ false → list_all (has_id ys) us ≡ true → list_all (has_id (without x ys)) us ≡ true
all_still x [] ys n h = refl
all_still x (u ∷ us) ys n h =
    let differ : ((u == x) ≡ false) × (has_id us x ≡ false) = or_parts _ _ n in
    let parts : (has_id ys u ≡ true) × (list_all (has_id ys) us ≡ true) = and_parts _ _ h in
    and_from _ _ (still_there x u ys differ.0 parts.0) (all_still x us ys differ.1 parts.1)

-- distinct members of a list are not more than its length
pub few_distinct : (us ys : List ℕ) → are_distinct us ≡ true → list_all (has_id ys) us ≡ true → length us ≤ length ys
few_distinct [] ys d h = omega arith
few_distinct (u ∷ us) ys d h =
    let apart : (not (has_id us u) ≡ true) × (are_distinct us ≡ true) = and_parts _ _ d in
    let parts : (has_id ys u ≡ true) × (list_all (has_id ys) us ≡ true) = and_parts _ _ h in
    let later : length us ≤ length (without u ys) = few_distinct us (without u ys) apart.1 (all_still u us ys (not-true _ apart.0) parts.1) in
    let fewer : length (without u ys) < length ys = one_fewer u ys parts.0 in
    omega (arith, later, fewer)

pub few_within : (us ys own : List ℕ) (limit : ℕ) → own ≡ ys → length own ≤ limit → are_distinct us ≡ true → list_all (has_id ys) us ≡ true → length us ≤ limit
few_within us ys own limit same few d h =
    let fewer : length us ≤ length ys = few_distinct us ys d h in
    let lengths : length own ≡ length ys = ap length same in
    omega (arith, fewer, lengths, few)

-- variables of a list have domains as all of the list have
pub known_among : (domains : List (List ℕ)) (own vars : List ℕ) → are_known domains own ≡ true → list_all (has_id own) vars ≡ true → are_known domains vars ≡ true
known_among domains own vars known among =
    all_weaker (has_id own) (λ v. nat_lt v (length domains)) (λ v e. passed_by (λ w. nat_lt w (length domains)) own v known e) vars among

-- the object at a variable's place, where the objects are those of an assignment
pub object_assigned : (b : ℕ → ℕ) (own : List ℕ) (var : ℕ) → has_id own var ≡ true → get_or (map b own) (variable_place own var) 0 ≡ b var
object_assigned b [] var h = absurd (false≢true h)
object_assigned b (v ∷ own) var h = elim (cases_Bool (v == var)) [
  | inl e ↦ ap (λ (x : Bool). get_or (b v ∷ map b own) (if x then 0 else suc (variable_place own var)) 0) e ∙ ap b (eqb-true v var e)
  | inr n ↦
      let later : has_id own var ≡ true = elim (or_cases _ _ h) [ inl e ↦ absurd (false≢true (sym n ∙ e)) | inr l ↦ l ] in
      ap (λ (x : Bool). get_or (b v ∷ map b own) (if x then 0 else suc (variable_place own var)) 0) n ∙ object_assigned b own var later
]

picked_assigned : (b : ℕ → ℕ) (own vars : List ℕ) → list_all (has_id own) vars ≡ true → picked own (map b own) vars ≡ map b vars
picked_assigned b own [] h = refl
picked_assigned b own (v ∷ vars) h =
    let parts : (has_id own v ≡ true) × (list_all (has_id own) vars ≡ true) = and_parts _ _ h in
    λ i. object_assigned b own v parts.0 i ∷ picked_assigned b own vars parts.1 i

-- the object at a variable's place lies in the variable's domain
pub object_inside : (domains : List (List ℕ)) (own key : List ℕ) (var : ℕ) → key_in domains own key ≡ true → has_id own var ≡ true → has_id (ids_of_variable domains var) (get_or key (variable_place own var) 0) ≡ true
object_inside domains [] key var h e = absurd (false≢true e)
object_inside domains (v ∷ own) [] var h e = absurd (false≢true h)
object_inside domains (v ∷ own) (x ∷ key) var h e =
    let parts : (has_id (ids_of_variable domains v) x ≡ true) × (key_in domains own key ≡ true) = and_parts _ _ h in
    elim (cases_Bool (v == var)) [
      | inl s ↦
          ap (λ (y : Bool). has_id (ids_of_variable domains var) (get_or (x ∷ key) (if y then 0 else suc (variable_place own var)) 0)) s
          ∙ ap (λ (w : ℕ). has_id (ids_of_variable domains w) x) (sym (eqb-true v var s)) ∙ parts.0
      | inr n ↦
          let later : has_id own var ≡ true = elim (or_cases _ _ e) [ inl s ↦ absurd (false≢true (sym n ∙ s)) | inr l ↦ l ] in
          ap (λ (y : Bool). has_id (ids_of_variable domains var) (get_or (x ∷ key) (if y then 0 else suc (variable_place own var)) 0)) n ∙ object_inside domains own key var parts.1 later
    ]

pub picked_inside : (domains : List (List ℕ)) (own key vars : List ℕ) → key_in domains own key ≡ true → list_all (has_id own) vars ≡ true → key_in domains vars (picked own key vars) ≡ true
picked_inside domains own key [] h among = refl
picked_inside domains own key (v ∷ vars) h among =
    let parts : (has_id own v ≡ true) × (list_all (has_id own) vars ≡ true) = and_parts _ _ among in
    and_from _ _ (object_inside domains own key v h parts.0) (picked_inside domains own key vars h parts.1)

-- an assignment of a key's objects gives the key
key_assigned : (domains : List (List ℕ)) (own key : List ℕ) (f : ℕ → ℕ) → key_in domains own key ≡ true → are_distinct own ≡ true →
    ((var : ℕ) → has_id own var ≡ true → f var ≡ get_or key (variable_place own var) 0) → map f own ≡ key
key_assigned domains [] [] f h d same = refl
key_assigned domains [] (x ∷ key) f h d same = absurd (false≢true h)
key_assigned domains (v ∷ own) [] f h d same = absurd (false≢true h)
key_assigned domains (v ∷ own) (x ∷ key) f h d same = λ i. first i ∷ key_assigned domains own key f (and_parts _ _ h).1 apart.1 later i
  where
    apart : (not (has_id own v) ≡ true) × (are_distinct own ≡ true)
    apart = and_parts _ _ d

    itself : (v == v) ≡ true
    itself = eq-eqb v v refl

    first : f v ≡ x
    first = same v (or_left _ _ itself) ∙ ap (λ (b : Bool). get_or (x ∷ key) (if b then 0 else suc (variable_place own v)) 0) itself

    later : (var : ℕ) → has_id own var ≡ true → f var ≡ get_or key (variable_place own var) 0
    later var e = elim (cases_Bool (v == var)) [
      | inl s ↦ absurd (false≢true (sym (not-true _ apart.0) ∙ ap (has_id own) (eqb-true v var s) ∙ e))
      | inr n ↦ same var (or_right _ _ e) ∙ ap (λ (b : Bool). get_or (x ∷ key) (if b then 0 else suc (variable_place own var)) 0) n
    ]

-- two assignments that give some variables the same objects
same_at : (f b : ℕ → ℕ) (vars : List ℕ) (var : ℕ) → map f vars ≡ map b vars → has_id vars var ≡ true → f var ≡ b var
same_at f b [] var e h = absurd (false≢true h)
same_at f b (v ∷ vars) var e h = elim (or_cases _ _ h) [
  | inl s ↦ subst (λ (w : ℕ). f w ≡ b w) (eqb-true v var s) (ap (λ (l : List ℕ). get_or l 0 0) e)
  | inr l ↦ same_at f b vars var (ap (drop 1) e) l
]

-- a row with the tick of a key over other variables
record Found {S : Type 0} (member : S → ℕ → Bool) (domains : List (List ℕ)) (own vars : List ℕ) (lo hi : ℕ) (rows : List (Row S)) (key : List ℕ) (t : ℕ) : Type 0 where
  row : Row S
  is : IsRow member domains own lo hi 0 row
  picks : picked own row.key vars ≡ key
  here : has_at member rows row.key t ≡ true

module _ {S : Type 0} (member : S → ℕ → Bool) (domains : List (List ℕ)) (own vars : List ℕ) (lo hi : ℕ) where
  find : (rows : List (Row S)) (key : List ℕ) (t : ℕ) → AreRows member domains own lo hi 0 rows → rows_over member own vars rows key t ≡ true → Found member domains own vars lo hi rows key t
  find [] key t are h = absurd (false≢true h)
  find (r ∷ rows) key t are h = elim (or_cases _ _ h) [
    | inl here ↦
        let parts : (bytes_eq (picked own r.key vars) key ≡ true) × (member r.set t ≡ true) = and_parts _ _ here in
        record { row = r; is = are.0; picks = bytes_eq_true _ _ parts.0; here = or_left _ _ (and_from _ _ (bytes_eq_refl r.key) parts.1) }
    | inr later ↦
        let found : Found member domains own vars lo hi rows key t = find rows key t are.2 later in
        record { row = found.row; is = found.is; picks = found.picks; here = or_right _ _ found.here }
  ]

module _ {S : Type 0} (member : S → ℕ → Bool) (own vars : List ℕ) (among : list_all (has_id own) vars ≡ true) where
  -- a row that has the tick has it for the objects of some of its variables
  pub taken : (b : ℕ → ℕ) (rows : List (Row S)) (t : ℕ) → has_at member rows (map b own) t ≡ true → rows_over member own vars rows (map b vars) t ≡ true
  taken b [] t h = absurd (false≢true h)
  taken b (r ∷ rows) t h = elim (or_cases _ _ h) [
    | inl here ↦
        let parts : (bytes_eq r.key (map b own) ≡ true) × (member r.set t ≡ true) = and_parts _ _ here in
        or_left _ _ (and_from _ _
        (ap (λ (k : List ℕ). bytes_eq (picked own k vars) (map b vars)) (bytes_eq_true r.key (map b own) parts.0)
        ∙ ap (λ (k : List ℕ). bytes_eq k (map b vars)) (picked_assigned b own vars among) ∙ bytes_eq_refl (map b vars)) parts.1)
    | inr later ↦ or_right _ _ (taken b rows t later)
  ]

module _ {S : Type 0} (member : S → ℕ → Bool) (r : Table S) (vars : List ℕ) (is : IsTable member r) where
  -- an assignment of the objects of a row that has the tick
  pub given : (b : ℕ → ℕ) (t : ℕ) → rows_over member r.vars vars r.rows (map b vars) t ≡ true → IsPicked member r vars b t
  given b t h = record {
    other = other;
    here = ap (λ (k : List ℕ). has_at member r.rows k t) (key_assigned r.domains r.vars found.row.key other found.is.inside is.distinct at_own) ∙ found.here;
    same = same;
    inside = inside;
  }
    where
      found : Found member r.domains r.vars vars r.lo r.hi r.rows (map b vars) t
      found = find member r.domains r.vars vars r.lo r.hi r.rows (map b vars) t is.rows h

      object : ℕ → ℕ
      object var = get_or found.row.key (variable_place r.vars var) 0

      other : ℕ → ℕ
      other var = if has_id r.vars var then object var else b var

      at_own : (var : ℕ) → has_id r.vars var ≡ true → other var ≡ object var
      at_own var e = ap (λ (x : Bool). if x then object var else b var) e

      not_own : (var : ℕ) → has_id r.vars var ≡ false → other var ≡ b var
      not_own var e = ap (λ (x : Bool). if x then object var else b var) e

      same : (var : ℕ) → (has_id r.vars var && not (has_id vars var)) ≡ false → other var ≡ b var
      same var e = elim (cases_Bool (has_id r.vars var)) [
        | inl owned ↦ at_own var owned ∙ same_at object b vars var found.picks (among (has_id r.vars var) (has_id vars var) owned e)
        | inr n ↦ not_own var n
      ]
        where
          among : (x y : Bool) → x ≡ true → (x && not y) ≡ false → y ≡ true
          among true true h k = refl
          among true false h k = absurd (false≢true (sym k))
          among false y h k = absurd (false≢true h)

      inside : IsIn r.domains b → IsIn r.domains other
      inside is_in var l = elim (cases_Bool (has_id r.vars var)) [
        | inl owned ↦ ap (has_id (ids_of_variable r.domains var)) (at_own var owned) ∙ object_inside r.domains r.vars found.row.key var found.is.inside owned
        | inr n ↦ ap (has_id (ids_of_variable r.domains var)) (not_own var n) ∙ is_in var l
      ]

-- an entry for each row, in turn
module _ {S : Type 0} (member : S → ℕ → Bool) (own vars : List ℕ) (rows : List (Row S)) (place : ℕ) (row : Row S) (key : List ℕ) (e : Entry)
    (in_list : place < length rows) (at : row ≡ get_or rows place row) (picks : key ≡ picked own row.key vars) (bytes_eq_true : e.key ≡ key) (same_place : e.place ≡ place) where
  own_ticks : (t : ℕ) → entry_has member rows e t ≡ member row.set t
  own_ticks t = ap (λ (n : ℕ). optional_row_has member (slice_get rows n) t) same_place ∙ ap (λ (o : Option (Row S)). optional_row_has member o t) (slice_get_read rows (length rows) place row refl in_list at)

  pub entries_each : (domains : List (List ℕ)) (lo hi : ℕ) (old new : List Entry) → new ≡ old ++ e ∷ [] → list_all (has_id own) vars ≡ true → AreRows member domains own lo hi 0 rows →
      All (IsEntry member rows domains vars lo hi) old → All (IsEntry member rows domains vars lo hi) new
  entries_each domains lo hi old new pushed among are each =
      subst (λ (z : List Entry). All (IsEntry member rows domains vars lo hi) z) (sym pushed)
      (All-push (IsEntry member rows domains vars lo hi) old e each
      (record {
        inside = ap (key_in domains vars) (bytes_eq_true ∙ picks) ∙ picked_inside domains own row.key vars is.inside among;
        lies = λ t h. is.lies t (sym (own_ticks t) ∙ h);
      }))
    where
      is : IsRow member domains own lo hi 0 row
      is = subst (λ (z : Row S). IsRow member domains own lo hi 0 z) (sym at) (row_at member domains own lo hi 0 rows place row in_list are)

  pub entries_ticks : (old new : List Entry) → new ≡ old ++ e ∷ [] → (k : List ℕ) (t : ℕ) → entries_have member rows old k t ≡ rows_over member own vars (take place rows) k t →
      entries_have member rows new k t ≡ rows_over member own vars (take (place + 1) rows) k t
  entries_ticks old new pushed k t before =
      ap (λ (z : List Entry). entries_have member rows z k t) pushed
      ∙ list_any-append (λ f. bytes_eq f.key k && entry_has member rows f t) old (e ∷ [])
      ∙ ap (λ (x : Bool). x || ((bytes_eq e.key k && entry_has member rows e t) || false)) before
      ∙ ap (λ (x : Bool). rows_over member own vars (take place rows) k t || x) (or_nothing _ ∙ here)
      ∙ sym (list_any_more (λ r. bytes_eq (picked own r.key vars) k && member r.set t) rows place row in_list)
    where
      or_nothing : (x : Bool) → (x || false) ≡ x
      or_nothing true = refl
      or_nothing false = refl

      here : (bytes_eq e.key k && entry_has member rows e t) ≡ (bytes_eq (picked own (get_or rows place row).key vars) k && member (get_or rows place row).set t)
      here = (λ i. bytes_eq ((bytes_eq_true ∙ picks) i) k && own_ticks t i) ∙ ap (λ (z : Row S). bytes_eq (picked own z.key vars) k && member z.set t) at

-- no row comes before all entries
pub before_none : {S : Type 0} (rows : List (Row S)) (es : List Entry) → rows ≡ [] → IsBefore rows es
before_none {S} rows es none = subst (λ (z : List (Row S)). IsBefore z es) (sym none) (all_pass es)
  where
    all_pass : (fs : List Entry) → IsBefore {S = S} [] fs
    all_pass [] = refl
    all_pass (f ∷ fs) = all_pass fs

-- a relation that is gathered from the entries of another one's rows
module _ {S : Type 0} (member : S → ℕ → Bool) (self made new : Table S) (own vars : List ℕ) (rows : List (Row S)) (es : List Entry) (domains : List (List ℕ)) (lo hi : ℕ)
    (same_own : own ≡ self.vars) (same : rows ≡ self.rows) (empty : made ≡ table vars domains lo hi []) (gathered : HasGathered member rows es made new)
    (ticks : (key : List ℕ) (t : ℕ) → entries_have member rows es key t ≡ rows_over member own vars rows key t) where
  projected : (b : ℕ → ℕ) (t : ℕ) → table_has member new b t ≡ rows_over member self.vars vars self.rows (map b vars) t
  projected b t =
      ap (λ (vs : List ℕ). has_at member new.rows (map b vs) t) (gathered.head.vars ∙ ap (λ (z : Table S). z.vars) empty)
      ∙ gathered.ticks (map b vars) t
      ∙ ap (λ (z : Table S). has_at member z.rows (map b vars) t || entries_have member rows es (map b vars) t) empty
      ∙ ticks (map b vars) t
      ∙ (λ i. rows_over member (same_own i) vars (same i) (map b vars) t)

  pub projected_all : list_all (has_id self.vars) vars ≡ true → (b : ℕ → ℕ) (t : ℕ) → table_has member self b t ≡ true → table_has member new b t ≡ true
  projected_all among b t h = projected b t ∙ taken member self.vars vars among b self.rows t h

  pub projected_some : IsTable member self → (b : ℕ → ℕ) (t : ℕ) → table_has member new b t ≡ true → IsPicked member self vars b t
  projected_some is b t h = given member self vars is b t (sym (projected b t) ∙ h)

-- the entries of a relation's rows, for one that is made over the same domains
pub entries_ready : {S : Type 0} (member : S → ℕ → Bool) (self made : Table S) (own vars : List ℕ) (rows : List (Row S)) (es es' : List Entry) →
    made ≡ table vars self.domains self.lo self.hi [] → es' ≡ es → own ≡ self.vars → rows ≡ self.rows → IsTable member self →
    ((domains : List (List ℕ)) (lo hi : ℕ) → AreRows member domains own lo hi 0 rows → AreEntries member rows domains vars lo hi es) →
    AreEntries member rows made.domains made.vars made.lo made.hi es'
entries_ready {S} member self made own vars rows es es' empty same_es same_own same is ready =
    subst (λ (z : List Entry). AreEntries member rows made.domains made.vars made.lo made.hi z) (sym same_es)
    (subst (λ (z : Table S). AreEntries member rows z.domains z.vars z.lo z.hi es) (sym empty)
    (ready self.domains self.lo self.hi
    (subst (λ (vs : List ℕ). AreRows member self.domains vs self.lo self.hi 0 rows) (sym same_own)
    (subst (λ (z : List (Row S)). AreRows member self.domains self.vars self.lo self.hi 0 z) (sym same) is.rows))))
