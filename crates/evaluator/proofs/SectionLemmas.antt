-- The rows of a section, by those of the ticks that a formula sees from it.
use Rattle.std.proofs.Common.{◌≡◌, ℕ, ◌<◌, ◌≤◌, Bool, true, false, ◌&&◌, ◌||◌, Some, zero, suc, List, [], ◌∷◌, length, get_or, map, refl, sym, ap, ◌∙◌, subst, inl, inr, arith}
use Rattle.std.specs.Prelude.{option_map, slice_get}
use Rattle.std.specs.List.{filter, list_all}
use Rattle.std.specs.List.Sorted.{IsStrictlyIncreasing}
use Rattle.std.proofs.lemmas.Bool.{cases_Bool}
use Rattle.std.proofs.lemmas.Option.{same_Some}
use Rattle.tick_set.specs.Ticks.{LiesIn, within}
use Rattle.tick_set.proofs.Between.{within_from, within_parts}
use Rattle.formula.specs.declared.value.Env.{Env}
use Rattle.formula.specs.Reach.{reach}
use Rattle.formula.specs.Tree.{ResolvedTree}
use Rattle.formula.specs.Variables.{variables_of}
use Rattle.meaning.specs.Satisfaction.{Interpretation, sat}
use Rattle.relation.specs.declared.row.Row.{Row}
use Rattle.relation.specs.Frames.{frame, frame_of}
use Rattle.relation.specs.Key.{ids_of_variable, key_in}
use Rattle.relation.specs.Order.{has_row, keys_over}
use Rattle.relation.specs.Rows.{IsSameHead, Table, has_at, table, table_has}
use Rattle.evaluator.specs.Keys.{AreAscendingKeys, has_key}
use Rattle.evaluator.specs.Rows.{AreRowsOf, AreRowsWhere}
use Rattle.evaluator.specs.inner.Filled.{IsFilled}
use Rattle.evaluator.specs.inner.Seen.{last_seen}
use Rattle.evaluator.proofs.AwayLemmas.{all_filter, ascend_filter, has_key_of, keys_at}
use Rattle.evaluator.proofs.KeyLemmas.{keys_over_all}
use Rattle.evaluator.proofs.SeenLemmas.{section_alike}

-- the keys of rows
pub record AreKeysOfRows (domains : List (List ℕ)) (vars : List ℕ) (keys : List (List ℕ)) : Type 0 where
  pub ascend : AreAscendingKeys keys
  pub inside : list_all (key_in domains vars) keys ≡ true

pub keys_of_rows : {S : Type 0} (rows : Table S) (domains : List (List ℕ)) → rows.domains ≡ domains →
    keys_at rows ≡ filter (has_row rows.rows) (keys_over rows.domains rows.vars) → ((var : ℕ) → IsStrictlyIncreasing (ids_of_variable domains var)) →
    AreKeysOfRows domains rows.vars (keys_at rows)
keys_of_rows rows domains same is up =
    let all = keys_over_all domains up rows.vars in
    subst (AreKeysOfRows domains rows.vars) (sym (is ∙ ap (λ (d : List (List ℕ)). filter (has_row rows.rows) (keys_over d rows.vars)) same)) (record {
      ascend = ascend_filter (has_row rows.rows) (keys_over domains rows.vars) all.ascend;
      inside = all_filter (key_in domains rows.vars) (has_row rows.rows) (keys_over domains rows.vars) all.inside;
    })

-- what is told of ticks of a section lies in its window
pub section_lies : (from upto lo hi : ℕ) (p q : ℕ → Bool) → lo ≤ from → upto ≤ hi → ((t : ℕ) → p t ≡ (within from upto t && q t)) → LiesIn lo hi p
section_lies from upto lo hi p q begins ends says t h =
    elim (cases_Bool (within from upto t)) [
      | inl e ↦ let parts = within_parts from upto t e in within_from lo hi t (omega (arith, begins, parts.0)) (omega (arith, ends, parts.1))
      | inr e ↦ absurd (let f : false ≡ true = sym (says t ∙ ap (λ (b : Bool). b && q t) e) ∙ h in cc)
    ]

-- also in the window of the rows that it goes into
pub head_lies : {S : Type 0} (start made : Table S) → IsSameHead start made → (vars : List ℕ) (domains : List (List ℕ)) (lo hi : ℕ) → start ≡ table vars domains lo hi [] →
    (p : ℕ → Bool) → LiesIn lo hi p → LiesIn made.lo made.hi p
head_lies start made head vars domains lo hi is p lies =
    subst (λ (l : ℕ). LiesIn l made.hi p) (sym (head.lo ∙ ap (λ r. r.lo) is))
    (subst (λ (h : ℕ). LiesIn lo h p) (sym (head.hi ∙ ap (λ r. r.hi) is)) lies)

-- the row at a place has the ticks of its key
pub row_ticks : {S : Type 0} (member : S → ℕ → Bool) (all rows : List (Row S)) (i : ℕ) (key : List ℕ) (set : S) →
    option_map (λ r. r.key) (slice_get rows i) ≡ Some key → option_map (λ r. r.set) (slice_get rows i) ≡ Some set →
    ((d : Row S) → i < length rows → (t : ℕ) → has_at member all (get_or rows i d).key t ≡ member (get_or rows i d).set t) →
    (t : ℕ) → has_at member all key t ≡ member set t
row_ticks member all [] i key set is_key is_set says t = cc
row_ticks member all (r ∷ rows) zero key set is_key is_set says t =
    let k : r.key ≡ key = same_Some r.key key is_key in
    let s : r.set ≡ set = same_Some r.set set is_set in
    ap (λ z. has_at member all z t) (sym k) ∙ says r (omega arith) t ∙ ap (λ z. member z t) s
row_ticks member all (r ∷ rows) (suc i) key set is_key is_set says t =
    row_ticks member all rows i key set is_key is_set (λ d l. says d (omega (arith, l))) t

none_else : (h k w : Bool) → (h ≡ true → k ≡ true) → (false || (k && (w && h))) ≡ (w && h)
none_else true k true table_has = ap (λ (b : Bool). b && true) (table_has refl)
none_else true true false table_has = refl
none_else true false false table_has = refl
none_else false true true table_has = refl
none_else false true false table_has = refl
none_else false false true table_has = refl
none_else false false false table_has = refl

-- all keys of rows have the ticks of the section
pub section_all : {S : Type 0} (member : S → ℕ → Bool) (domains : List (List ℕ)) (from upto lo hi : ℕ) (rows start made : Table S) →
    IsFilled member (λ k t. within from upto t && has_at member rows.rows k t) (keys_at rows) start made →
    start ≡ table rows.vars domains lo hi [] → (b : ℕ → ℕ) (t : ℕ) → table_has member made b t ≡ (within from upto t && table_has member rows b t)
section_all member domains from upto lo hi rows start made filling is b t =
    let key = map b rows.vars in
    ap (λ (vs : List ℕ). has_at member made.rows (map b vs) t) (filling.head.vars ∙ ap (λ r. r.vars) is)
    ∙ filling.ticks key t
    ∙ ap (λ r. has_at member r.rows key t || (has_key (keys_at rows) key && (within from upto t && has_at member rows.rows key t))) is
    ∙ none_else (has_at member rows.rows key t) (has_key (keys_at rows) key) (within from upto t) (has_key_of member rows.rows key t)

pub section_frame : {S : Type 0} (vars : List ℕ) (domains : List (List ℕ)) (lo hi : ℕ) (truth : List ℕ → ℕ → Bool) (member : S → ℕ → Bool) (keys : List (List ℕ)) (start made : Table S) →
    IsFilled member truth keys start made → start ≡ table vars domains lo hi [] → frame made ≡ frame_of domains lo hi
section_frame vars domains lo hi truth member keys start made filling is =
    (λ i. frame_of (filling.head.domains i) (filling.head.lo i) (filling.head.hi i)) ∙ ap (λ r. frame r) is

-- the rows of a formula over what it sees are at the ticks of the section those of the whole window
pub section_rows : {S : Type 0} (member : S → ℕ → Bool) (j : (ℕ → ℕ) → Interpretation) (domains : List (List ℕ)) (f : ResolvedTree) (x : Env)
    (lo hi from upto first e : ℕ) → hi ≤ e → first ≤ lo → from ≡ lo → upto ≡ last_seen (reach f) hi e → (rows made : Table S) →
    AreRowsOf member j domains from upto f x rows →
    ((b : ℕ → ℕ) (t : ℕ) → table_has member made b t ≡ (within lo hi t && table_has member rows b t)) → made.vars ≡ rows.vars → frame made ≡ frame_of domains first e →
    AreRowsWhere member domains first e (variables_of f) (λ b t. within lo hi t && sat (j b) f x e t) made
section_rows member j domains f x lo hi from upto first e most least begins ends rows made are says vars same = record {
  ticks = λ b is_in t.
      says b t
      ∙ ap (λ (y : Bool). within lo hi t && y) (are.ticks b is_in t)
      ∙ section_alike (j b) f x lo hi e from upto most begins ends t
      ∙ twice (within first e t) (within lo hi t) (sat (j b) f x e t) (λ h.
      let parts = within_parts lo hi t h in
      within_from first e t (omega (arith, least, parts.0)) (omega (arith, most, parts.1)));
  vars = vars ∙ are.vars;
  frame = same;
}
  where
    twice : (v w q : Bool) → (w ≡ true → v ≡ true) → (w && q) ≡ (v && (w && q))
    twice v true q inside = sym (ap (λ (b : Bool). b && q) (inside refl))
    twice true false q inside = refl
    twice false false q inside = refl
