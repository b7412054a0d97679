-- Rows that change one by one.
use Rattle.std.proofs.Common.{◌≡◌, ℕ, zero, suc, ◌+◌, ◌<◌, ◌≤◌, min, Bool, true, false, ◌&&◌, ◌||◌, List, [], ◌∷◌, length, get_or, take, map, refl, sym, ap, ◌∙◌, subst, inl, inr, arith}
use Rattle.std.specs.List.{list_all, list_any}
use Rattle.std.specs.Str.{bytes_eq}
use Rattle.std.proofs.lemmas.Bool.{and_from, and_left, and_parts, and_right, cases_Bool, or_from, or_parts}
use Rattle.std.proofs.lemmas.List.{take_all}
use Rattle.std.proofs.lemmas.List.Folds.{list_all_more, list_any_more}
use Rattle.tick_set.specs.Ticks.{within}
use Rattle.tick_set.proofs.Between.{all_in_fails, some_in_none, within_parts}
use Rattle.fixed_point.specs.declared.variants.BoundForm.TheVariants as bounds
use Rattle.relation.specs.declared.row.Row.{Row}
use Rattle.relation.specs.declared.operation.Change.{Change}
use Rattle.relation.specs.declared.operation.Change.TheVariants as changes
use Rattle.relation.specs.Frames.{IsWider}
use Rattle.relation.specs.Key.{has_id, ids_of_variable, key_below, key_in}
use Rattle.relation.specs.Operations.{changed_between}
use Rattle.relation.specs.Rows.{AreRows, IsRow, IsSameHead, IsTable, Table, has_at, table_has}
use Rattle.relation.proofs.KeyLemmas.{below_apart, below_not_same}
use Rattle.relation.proofs.RowLemmas.{all_at, row_at}
use Rattle.relation.proofs.WalkLemmas.{same_head-trans}
use Rattle.exact.proofs.Lists.{bytes_eq_refl, bytes_eq_true}

pub wider_same : (old new : List (List ℕ)) → new ≡ old → IsWider old new
wider_same old new e = record {
  many = ap length e;
  all = λ var id h. ap (λ (d : List (List ℕ)). has_id (ids_of_variable d var) id) e ∙ h;
}

pub key_in-wider : (old new : List (List ℕ)) → IsWider old new → (vars key : List ℕ) → key_in old vars key ≡ true → key_in new vars key ≡ true
key_in-wider old new wider [] [] h = refl
key_in-wider old new wider [] (id ∷ key) h = h
key_in-wider old new wider (var ∷ vars) [] h = h
key_in-wider old new wider (var ∷ vars) (id ∷ key) h =
    let parts : (has_id (ids_of_variable old var) id ≡ true) × (key_in old vars key ≡ true) = and_parts _ _ h in
    and_from _ _ (wider.all var id parts.0) (key_in-wider old new wider vars key parts.1)

-- a change of no ticks gives none
pub changed_nothing : (change : Change) (lo hi : ℕ) (p : ℕ → Bool) → ((t : ℕ) → p t ≡ false) → (t : ℕ) → changed_between change lo hi p t ≡ false
changed_nothing changes.Copy lo hi p none t = none t
changed_nothing (changes.Clip w) lo hi p none t = and_right _ _ (none t)
changed_nothing changes.Next lo hi p none t = and_right _ _ (and_right _ _ (none (t + 1)))
changed_nothing (changes.Bounded bounds.Within c) lo hi p none t = and_right _ _ (some_in_none p t (min (t + c) hi) (λ u l k. none u))
changed_nothing (changes.Bounded bounds.After c) lo hi p none t = and_right _ _ (some_in_none p (t + c) hi (λ u l k. none u))
changed_nothing (changes.Bounded bounds.Always c) lo hi p none t =
    elim (cases_Bool (within lo hi t)) [
      | inl e ↦ and_right _ _ (all_in_fails p t (min (t + c) hi) t (let l : t ≤ t = omega arith in l) (upto (within_parts lo hi t e).1) (none t))
      | inr e ↦ and_left _ _ e
    ]
  where
    upto : t ≤ hi → t ≤ min (t + c) hi
    upto l = omega arith

-- whether a row has the key
abbrev pub among : {S : Type 0} → List ℕ → List (Row S) → Bool
among key rows = list_any (λ r. bytes_eq r.key key) rows

both_ways : (a e c d : Bool) → (e ≡ true → d ≡ c) → ((a && c) || (e && d)) ≡ ((a || e) && c)
both_ways true true true d f = refl
both_ways true true false d f = f refl
both_ways true false true d f = refl
both_ways true false false d f = refl
both_ways false true c d f = f refl
both_ways false false c d f = refl

module _ {S : Type 0} (member : S → ℕ → Bool) where
  -- a key without a row has no tick
  pub has_at-none : (rows : List (Row S)) (key : List ℕ) → among key rows ≡ false → (t : ℕ) → has_at member rows key t ≡ false
  has_at-none [] key h t = refl
  has_at-none (r ∷ rs) key h t =
      let parts : (bytes_eq r.key key ≡ false) × (among key rs ≡ false) = or_parts _ _ h in
      or_from _ _ (and_left _ _ parts.0) (has_at-none rs key parts.1 t)

  above_first : (r : Row S) (rows : List (Row S)) → list_all (λ s. key_below r.key s.key) rows ≡ true → among r.key rows ≡ false
  above_first r [] h = refl
  above_first r (s ∷ rows) h =
      let parts : (key_below r.key s.key ≡ true) × (list_all (λ z. key_below r.key z.key) rows ≡ true) = and_parts _ _ h in
      or_from _ _ (below_apart r.key s.key parts.0) (above_first r rows parts.1)

  module _ (domains : List (List ℕ)) (vars : List ℕ) (lo hi : ℕ) where
    -- the row at a place has the ticks of its key
    pub row_own : (rows : List (Row S)) (i : ℕ) (d : Row S) → AreRows member domains vars lo hi 0 rows → i < length rows → (t : ℕ) →
        has_at member rows (get_or rows i d).key t ≡ member (get_or rows i d).set t
    row_own [] i d h l t = absurd (omega arith)
    row_own (r ∷ rs) zero d h l t =
        ap (λ (x : Bool). (x && member r.set t) || has_at member rs r.key t) (bytes_eq_refl r.key)
        ∙ ap (λ (x : Bool). member r.set t || x) (has_at-none rs r.key (above_first r rs h.1) t)
        ∙ or_nothing (member r.set t)
      where
        or_nothing : (x : Bool) → (x || false) ≡ x
        or_nothing true = refl
        or_nothing false = refl
    row_own (r ∷ rs) (suc i) d h l t =
        let in_list : i < length rs = omega arith in
        let differs : bytes_eq r.key (get_or rs i d).key ≡ false = first_differs rs i h.1 in_list in
        ap (λ (x : Bool). (x && member r.set t) || has_at member rs (get_or rs i d).key t) differs ∙ row_own rs i d h.2 in_list t
      where
        first_differs : (zs : List (Row S)) (j : ℕ) → list_all (λ s. key_below r.key s.key) zs ≡ true → j < length zs → bytes_eq r.key (get_or zs j d).key ≡ false
        first_differs [] j e m = absurd (omega arith)
        first_differs (z ∷ zs) zero e m = below_not_same r.key z.key (and_parts _ _ e).0
        first_differs (z ∷ zs) (suc j) e m = first_differs zs j (and_parts _ _ e).1 (omega arith)

    -- the rows before a place have smaller keys
    pub before_row : (rows : List (Row S)) (i : ℕ) (d : Row S) → AreRows member domains vars lo hi 0 rows → i < length rows →
        list_all (λ s. key_below s.key (get_or rows i d).key) (take i rows) ≡ true
    before_row [] i d h l = absurd (omega arith)
    before_row (r ∷ rs) zero d h l = refl
    before_row (r ∷ rs) (suc i) d h l =
        and_from _ _ (all_at (λ s. key_below r.key s.key) rs i d (omega arith) h.1) (before_row rs i d h.2 (omega arith))

-- a relation in the midst of a change of rows, of which the first i are done
pub record IsChanging {S : Type 0} (member : S → ℕ → Bool) (change : Change) (lo hi : ℕ) (rows : List (Row S)) (i : ℕ) (start made : Table S) : Type 0 where
  pub head : IsSameHead start made
  pub ticks : (k : List ℕ) (t : ℕ) → has_at member made.rows k t ≡ (among k (take i rows) && changed_between change lo hi (has_at member rows k) t)
  pub upto : (p : List ℕ → Bool) → list_all (λ r. p r.key) (take i rows) ≡ true → list_all (λ r. p r.key) made.rows ≡ true

module _ {S : Type 0} (member : S → ℕ → Bool) (change : Change) (domains : List (List ℕ)) (vars : List ℕ) (lo hi : ℕ) (rows : List (Row S)) (start : Table S) where
  pub changing_none : start.rows ≡ [] → IsChanging member change lo hi rows 0 start start
  changing_none e = record {
    head = record { vars = refl; domains = refl; lo = refl; hi = refl };
    ticks = λ k t. ap (λ (z : List (Row S)). has_at member z k t) e;
    upto = λ p h. ap (λ (z : List (Row S)). list_all (λ r. p r.key) z) e;
  }

  module _ (i : ℕ) (made : Table S) (row : Row S) (is : AreRows member domains vars lo hi 0 rows) (in_list : i < length rows) (at : row ≡ get_or rows i row) (changing : IsChanging member change lo hi rows i start made) where
    own : (t : ℕ) → has_at member rows row.key t ≡ member row.set t
    own t = subst (λ (z : Row S). has_at member rows z.key t ≡ member z.set t) (sym at) (row_own member domains vars lo hi rows i row is in_list t)

    pub changing_above : list_all (λ r. key_below r.key row.key) made.rows ≡ true
    changing_above =
        changing.upto (λ k. key_below k row.key)
        (subst (λ (z : Row S). list_all (λ s. key_below s.key z.key) (take i rows) ≡ true) (sym at) (before_row member domains vars lo hi rows i row is in_list))

    pub row_is : IsRow member domains vars lo hi 0 row
    row_is = subst (λ (z : Row S). IsRow member domains vars lo hi 0 z) (sym at) (row_at member domains vars lo hi 0 rows i row in_list is)

    pub changing_more : (set : S) (new : Table S) → ((t : ℕ) → member set t ≡ changed_between change lo hi (member row.set) t) → IsSameHead made new →
        ((k : List ℕ) (t : ℕ) → has_at member new.rows k t ≡ (has_at member made.rows k t || (bytes_eq row.key k && member set t))) →
        ((p : List ℕ → Bool) → list_all (λ r. p r.key) made.rows ≡ true → p row.key ≡ true → list_all (λ r. p r.key) new.rows ≡ true) →
        IsChanging member change lo hi rows (i + 1) start new
    changing_more set new ticks head put keys = record {
      head = same_head-trans start made new changing.head head;
      ticks = λ k t.
          put k t
          ∙ ap (λ (x : Bool). x || (bytes_eq row.key k && member set t)) (changing.ticks k t)
          ∙ both_ways (among k (take i rows)) (bytes_eq row.key k) (changed_between change lo hi (has_at member rows k) t) (member set t) (λ e. here k t (bytes_eq_true row.key k e))
          ∙ ap (λ (x : Bool). x && changed_between change lo hi (has_at member rows k) t) (sym (one_more k));
      upto = λ p h.
          let parts = and_parts _ _ (sym (list_all_more (λ r. p r.key) rows i row in_list) ∙ h) in
          keys p (changing.upto p parts.0) (ap (λ (z : Row S). p z.key) at ∙ parts.1);
    }
      where
        here : (k : List ℕ) (t : ℕ) → row.key ≡ k → member set t ≡ changed_between change lo hi (has_at member rows k) t
        here k t e = ticks t ∙ (λ j. changed_between change lo hi (λ u. sym (own u) j) t) ∙ ap (λ (z : List ℕ). changed_between change lo hi (has_at member rows z) t) e

        one_more : (k : List ℕ) → among k (take (i + 1) rows) ≡ (among k (take i rows) || bytes_eq row.key k)
        one_more k = list_any_more (λ r. bytes_eq r.key k) rows i row in_list ∙ ap (λ (z : Row S). among k (take i rows) || bytes_eq z.key k) (sym at)

  pub changing_all : (i : ℕ) (made : Table S) → length rows ≤ i → IsChanging member change lo hi rows i start made →
      (k : List ℕ) (t : ℕ) → has_at member made.rows k t ≡ changed_between change lo hi (has_at member rows k) t
  changing_all i made l changing k t =
      changing.ticks k t
      ∙ ap (λ (z : List (Row S)). among k z && changed_between change lo hi (has_at member rows k) t) (take_all i rows l)
      ∙ elim (cases_Bool (among k rows)) [
        | inl e ↦ ap (λ (x : Bool). x && changed_between change lo hi (has_at member rows k) t) e
        | inr e ↦ ap (λ (x : Bool). x && changed_between change lo hi (has_at member rows k) t) e ∙ sym (changed_nothing change lo hi (has_at member rows k) (has_at-none member rows k e) t)
      ]

-- the change of a relation's rows, which `items` are, by a window that is its own
module _ {S : Type 0} (member : S → ℕ → Bool) (change : Change) (self : Table S) (lo hi : ℕ) (items : List (Row S)) (start : Table S)
    (same : items ≡ self.rows) (same_lo : lo ≡ self.lo) (same_hi : hi ≡ self.hi) (same_vars : start.vars ≡ self.vars) where
  pub items_are : IsTable member self → AreRows member self.domains self.vars lo hi 0 items
  items_are is =
      subst (λ (z : List (Row S)). AreRows member self.domains self.vars lo hi 0 z) (sym same)
      (subst (λ (l : ℕ). AreRows member self.domains self.vars l hi 0 self.rows) (sym same_lo)
      (subst (λ (h : ℕ). AreRows member self.domains self.vars self.lo h 0 self.rows) (sym same_hi) is.rows))

  pub put_inside : (i : ℕ) (made : Table S) (new : List (List ℕ)) (row : Row S) → IsChanging member change lo hi items i start made → IsWider self.domains new → start.domains ≡ new →
      key_in self.domains self.vars row.key ≡ true → key_in made.domains made.vars row.key ≡ true
  put_inside i made new row changing wider same_domains inside =
      (λ j. key_in ((changing.head.domains ∙ same_domains) j) ((changing.head.vars ∙ same_vars) j) row.key)
      ∙ key_in-wider self.domains new wider self.vars row.key inside

  pub changed_has : (i : ℕ) (made : Table S) → length items ≤ i → IsChanging member change lo hi items i start made →
      (b : ℕ → ℕ) (t : ℕ) → table_has member made b t ≡ changed_between change self.lo self.hi (table_has member self b) t
  changed_has i made l changing b t =
      ap (λ (vs : List ℕ). has_at member made.rows (map b vs) t) (changing.head.vars ∙ same_vars)
      ∙ changing_all member change self.domains self.vars lo hi items start i made l changing (map b self.vars) t
      ∙ (λ j. changed_between change (same_lo j) (same_hi j) (has_at member (same j) (map b self.vars)) t)
