-- Rows that do not give a variable one object, and those that do.
use Rattle.std.proofs.Common.{◌≡◌, ℕ, ◌+◌, ◌<◌, ◌≤◌, Bool, true, false, not, ◌&&◌, ◌||◌, ◌==◌, nat_lt, List, [], ◌∷◌, if◌then◌else◌, length, get_or, take, map, refl, sym, ap, ◌∙◌, subst, inl, inr}
use Rattle.std.proofs.Math.ListN.{set}
use Rattle.std.specs.List.{list_all}
use Rattle.std.specs.Str.{bytes_eq}
use Rattle.std.proofs.lemmas.Bool.{and_parts, cases_Bool, eq-eqb, eqb-true, false≢true, ltb-true, or_cases}
use Rattle.std.proofs.lemmas.List.{get_or-set_same, take_all}
use Rattle.std.proofs.lemmas.List.Folds.{list_all_more, list_any_more}
use Rattle.tick_set.specs.Ticks.{LiesIn, within}
use Rattle.relation.specs.declared.row.Row.{Row}
use Rattle.relation.specs.Key.{are_known, has_id, ids_of_variable, key_below, key_in}
use Rattle.relation.specs.Projection.{variable_place}
use Rattle.relation.specs.Rows.{AreRows, IsRow, IsSameHead, IsTable, Table, has_at, table, table_has}
use Rattle.relation.proofs.ChangeLemmas.{before_row}
use Rattle.relation.proofs.ProjectionLemmas.{object_assigned, object_inside, passed_by}
use Rattle.relation.proofs.RowLemmas.{row_at}
use Rattle.relation.proofs.WalkLemmas.{same_head-trans}
use Rattle.exact.proofs.Lists.{bytes_eq_true}

-- whether a key has another object at a place
abbrev pub other_at : ℕ → ℕ → List ℕ → Bool
other_at place id k = not (get_or k place 0 == id)

-- a relation in the midst of taking over rows, of which the first i are done
pub record IsKeeping {S : Type 0} (member : S → ℕ → Bool) (place id : ℕ) (rows : List (Row S)) (i : ℕ) (start made : Table S) : Type 0 where
  pub head : IsSameHead start made
  pub ticks : (k : List ℕ) (t : ℕ) → has_at member made.rows k t ≡ (other_at place id k && has_at member (take i rows) k t)
  pub upto : (p : List ℕ → Bool) → list_all (λ r. p r.key) (take i rows) ≡ true → list_all (λ r. p r.key) made.rows ≡ true

module _ {S : Type 0} (member : S → ℕ → Bool) (place id : ℕ) (self start : Table S) (rows : List (Row S)) (lo hi : ℕ)
    (same : rows ≡ self.rows) (empty : start ≡ table self.vars self.domains lo hi []) (same_lo : lo ≡ self.lo) (same_hi : hi ≡ self.hi) where
  module _ (is : IsTable member self) (i : ℕ) (made : Table S) (row : Row S) (in_list : i < length rows) (at : row ≡ get_or rows i row) (keeping : IsKeeping member place id rows i start made) where
    rows_are : AreRows member self.domains self.vars self.lo self.hi 0 rows
    rows_are = subst (λ (z : List (Row S)). AreRows member self.domains self.vars self.lo self.hi 0 z) (sym same) is.rows

    row_is : IsRow member self.domains self.vars self.lo self.hi 0 row
    row_is = subst (λ (z : Row S). IsRow member self.domains self.vars self.lo self.hi 0 z) (sym at) (row_at member self.domains self.vars self.lo self.hi 0 rows i row in_list rows_are)

    pub keeping_above : list_all (λ r. key_below r.key row.key) made.rows ≡ true
    keeping_above =
        keeping.upto (λ k. key_below k row.key)
        (subst (λ (z : Row S). list_all (λ s. key_below s.key z.key) (take i rows) ≡ true) (sym at) (before_row member self.domains self.vars self.lo self.hi rows i row rows_are in_list))

    pub keeping_inside : key_in made.domains made.vars row.key ≡ true
    keeping_inside =
        (λ j. key_in ((keeping.head.domains ∙ ap (λ (z : Table S). z.domains) empty) j) ((keeping.head.vars ∙ ap (λ (z : Table S). z.vars) empty) j) row.key) ∙ row_is.inside

    pub keeping_lies : LiesIn made.lo made.hi (member row.set)
    keeping_lies = λ t e.
        (λ j. within ((keeping.head.lo ∙ ap (λ (z : Table S). z.lo) empty ∙ same_lo) j) ((keeping.head.hi ∙ ap (λ (z : Table S). z.hi) empty ∙ same_hi) j) t) ∙ row_is.lies t e

    pub keeping_more : (new : Table S) → IsSameHead made new →
        ((k : List ℕ) (t : ℕ) → has_at member new.rows k t ≡ (has_at member made.rows k t || (other_at place id k && (bytes_eq row.key k && member row.set t)))) →
        ((p : List ℕ → Bool) → list_all (λ r. p r.key) made.rows ≡ true → p row.key ≡ true → list_all (λ r. p r.key) new.rows ≡ true) →
        IsKeeping member place id rows (i + 1) start new
    keeping_more new head put keys = record {
      head = same_head-trans start made new keeping.head head;
      ticks = λ k t.
          put k t
          ∙ ap (λ (x : Bool). x || (other_at place id k && (bytes_eq row.key k && member row.set t))) (keeping.ticks k t)
          ∙ shared (other_at place id k) (has_at member (take i rows) k t) (bytes_eq row.key k && member row.set t)
          ∙ ap (λ (x : Bool). other_at place id k && x)
          (ap (λ (z : Row S). has_at member (take i rows) k t || (bytes_eq z.key k && member z.set t)) at
          ∙ sym (list_any_more (λ r. bytes_eq r.key k && member r.set t) rows i row in_list));
      upto = λ p h.
          let parts = and_parts _ _ (sym (list_all_more (λ r. p r.key) rows i row in_list) ∙ h) in
          keys p (keeping.upto p parts.0) (ap (λ (z : Row S). p z.key) at ∙ parts.1);
    }
      where
        shared : (x p q : Bool) → ((x && p) || (x && q)) ≡ (x && (p || q))
        shared true p q = refl
        shared false p q = refl

  pub keeping_all : (var i : ℕ) (made : Table S) → place ≡ variable_place self.vars var → has_id self.vars var ≡ true → length rows ≤ i → IsKeeping member place id rows i start made →
      (b : ℕ → ℕ) (t : ℕ) → table_has member made b t ≡ (not (b var == id) && table_has member self b t)
  keeping_all var i made at owned l keeping b t =
      ap (λ (vs : List ℕ). has_at member made.rows (map b vs) t) (keeping.head.vars ∙ ap (λ (z : Table S). z.vars) empty)
      ∙ keeping.ticks (map b self.vars) t
      ∙ ap (λ (x : ℕ). not (x == id) && has_at member (take i rows) (map b self.vars) t) (ap (λ (n : ℕ). get_or (map b self.vars) n 0) at ∙ object_assigned b self.vars var owned)
      ∙ ap (λ (z : List (Row S)). not (b var == id) && has_at member z (map b self.vars) t) (take_all i rows l ∙ same)

-- the rows of domains that give a variable one object have no tick of another
pub only_of : {S : Type 0} (member : S → ℕ → Bool) (domains : List (List ℕ)) (own : List ℕ) (lo hi var id : ℕ) → ids_of_variable domains var ≡ id ∷ [] → has_id own var ≡ true → (b : ℕ → ℕ) → (b var == id) ≡ false →
    (rows : List (Row S)) → AreRows member domains own lo hi 0 rows → (t : ℕ) → has_at member rows (map b own) t ≡ false
only_of member domains own lo hi var id single owned b other [] are t = refl
only_of member domains own lo hi var id single owned b other (r ∷ rows) are t = elim (cases_Bool (bytes_eq r.key (map b own))) [
  | inl same ↦
      let inside : has_id (ids_of_variable domains var) (b var) ≡ true =
      ap (has_id (ids_of_variable domains var)) (sym (ap (λ (k : List ℕ). get_or k (variable_place own var) 0) (bytes_eq_true r.key (map b own) same) ∙ object_assigned b own var owned))
      ∙ object_inside domains own r.key var are.0.inside owned in
      absurd (not_single (b var) other (ap (λ (l : List ℕ). has_id l (b var)) (sym single) ∙ inside))
  | inr n ↦
      ap (λ (x : Bool). (x && member r.set t) || has_at member rows (map b own) t) n
      ∙ only_of member domains own lo hi var id single owned b other rows are.2 t
]
  where
    not_single : (x : ℕ) → (x == id) ≡ false → has_id (id ∷ []) x ≡ true → ⊥
    not_single x n e = elim (or_cases _ _ e) [ inl s ↦ false≢true (sym n ∙ eq-eqb x id (sym (eqb-true id x s))) | inr l ↦ false≢true l ]

-- rows without the object, and rows of the object, are those of a relation whose rows of the object are others
pub replaced : {S : Type 0} (member : S → ℕ → Bool) (self part : Table S) (var id : ℕ) → IsTable member part → part.vars ≡ self.vars → ids_of_variable part.domains var ≡ id ∷ [] → has_id self.vars var ≡ true →
    (b : ℕ → ℕ) (t : ℕ) (kept column made : Bool) → kept ≡ (not (b var == id) && table_has member self b t) → column ≡ table_has member part b t → made ≡ (kept || column) →
    made ≡ (if b var == id then table_has member part b t else table_has member self b t)
replaced member self part var id is vars single owned b t kept column made e f h = elim (cases_Bool (b var == id)) [
  | inl here ↦
      h ∙ (λ i. e i || f i)
      ∙ ap (λ (x : Bool). (not x && table_has member self b t) || table_has member part b t) here
      ∙ ap (λ (x : Bool). if x then table_has member part b t else table_has member self b t) (sym here)
  | inr other ↦
      h ∙ (λ i. e i || f i)
      ∙ ap (λ (x : Bool). (not x && table_has member self b t) || table_has member part b t) other
      ∙ ap (λ (x : Bool). table_has member self b t || x)
      (only_of member part.domains part.vars part.lo part.hi var id single (ap (λ (vs : List ℕ). has_id vs var) vars ∙ owned) b other part.rows is.rows t)
      ∙ or_nothing (table_has member self b t)
      ∙ ap (λ (x : Bool). if x then table_has member part b t else table_has member self b t) (sym other)
]
  where
    or_nothing : (x : Bool) → (x || false) ≡ x
    or_nothing true = refl
    or_nothing false = refl

-- domains that are the same but for a variable's
pub single_there : (domains new : List (List ℕ)) (own : List ℕ) (var id : ℕ) → new ≡ set domains var (id ∷ []) → are_known domains own ≡ true → has_id own var ≡ true → ids_of_variable new var ≡ id ∷ []
single_there domains new own var id e known owned =
    ap (λ (d : List (List ℕ)). ids_of_variable d var) e ∙ get_or-set_same domains var (id ∷ []) [] (ltb-true _ _ (passed_by (λ v. nat_lt v (length domains)) own var known owned))
