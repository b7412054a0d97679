-- The rows of a query's targets are those of its answer, by any test of assignments.
use Rattle.std.proofs.Common.{◌≡◌, ℕ, ◌+◌, ◌-◌, ◌<◌, ◌≤◌, Bool, true, false, not, ◌&&◌, ◌||◌, List, [], ◌∷◌, length, map, get_or, refl, sym, ap, ◌∙◌, subst, inl, inr, arith, if◌then◌else◌}
use Rattle.std.specs.Prelude.{◌==◌, nat_lt, slice_index}
use Rattle.std.specs.List.{filter, list_all, list_any, range_with_len}
use Rattle.std.specs.Str.{bytes_eq}
use Rattle.std.proofs.lemmas.Bool.{false≢true, and_from, and_parts, cases_Bool, or_cases, or_left, or_right}
use Rattle.std.proofs.lemmas.Bool.Decides.{nat_tests}
use Rattle.std.proofs.lemmas.List.{length-map}
use Rattle.std.proofs.lemmas.List.FromFn.{get_or-map-range_with_len}
use Rattle.exact.proofs.Lists.{bytes_eq_refl, bytes_eq_true}
use Rattle.exact.proofs.Truths.{same_truth}
use Rattle.tick_set.specs.Runs.{runs_of, spans_have}
use Rattle.tick_set.specs.Ticks.{between, listed, within}
use Rattle.tick_set.specs.declared.spans.Span.{Span}
use Rattle.tick_set.specs.declared.spans.TheConstants.{LAST_TICK}
use Rattle.tick_set.proofs.Between.{any_between_at, any_between_found}
use Rattle.history.specs.Catalog.{ids_of as ids_of_class}
use Rattle.history.specs.World.{World}
use Rattle.formula.specs.Tree.{ResolvedQuery}
use Rattle.meaning.specs.Answer.{answer_where, has_ticks, row_where}
use Rattle.meaning.specs.Answer as answers
use Rattle.meaning.specs.Binding.{target_where, tuple_of}
use Rattle.relation.specs.declared.row.Row.{Row}
use Rattle.relation.specs.Frames.{IsIn}
use Rattle.formula.specs.Resolved.{are_distinct}
use Rattle.relation.specs.Key.{has_id, ids_of_variable, key_in}
use Rattle.relation.specs.Order.{has_row, keys_over}
use Rattle.relation.specs.Projection.{IsPicked}
use Rattle.relation.specs.Rows.{Table, has_at, table_has}
use Rattle.relation.proofs.OrderLemmas.{told_in_order}
use Rattle.answers.specs.Told.{told_rows}
use Rattle.answers.proofs.ProductLemmas.{AreMembers, assigned, each_below, key_assigned, key_found, key_in_at, keys_are_tuples, member_at, members_from, product_any, product_found, same_key}
use Rattle.answers.proofs.TickLemmas.{narrowed, no_ticks_from, some_ticks_from}

-- the rows of a relation stand in order, as it tells of them
pub record AreInOrder (r : Table (List Span)) : Type 0 where
  pub keys : map (λ (x : Row (List Span)). x.key) r.rows ≡ filter (has_row r.rows) (keys_over r.domains r.vars)
  pub ticks : (i : ℕ) (d : Row (List Span)) → i < length r.rows → (t : ℕ) → has_at spans_have r.rows (get_or r.rows i d).key t ≡ spans_have (get_or r.rows i d).set t
  pub some : (key : List ℕ) → has_row r.rows key ≡ true → ((t : ℕ) → has_at spans_have r.rows key t ≡ false) → ⊥
  pub none : (key : List ℕ) → has_row r.rows key ≡ false → (t : ℕ) → has_at spans_have r.rows key t ≡ false

any_first : (p test : List ℕ → Bool) (k : List ℕ) (keys : List (List ℕ)) → (list_any test (filter p keys) ≡ true → list_any test keys ≡ true) →
    (b : Bool) → list_any test (if b then k ∷ filter p keys else filter p keys) ≡ true → (test k || list_any test keys) ≡ true
any_first p test k keys rest true here =
    elim (or_cases (test k) (list_any test (filter p keys)) here) [
      | inl first ↦ or_left (test k) (list_any test keys) first
      | inr later ↦ or_right (test k) (list_any test keys) (rest later)
    ]
any_first p test k keys rest false here = or_right (test k) (list_any test keys) (rest here)

any_kept : (p test : List ℕ → Bool) (keys : List (List ℕ)) → list_any test (filter p keys) ≡ true → list_any test keys ≡ true
any_kept p test [] some = some
any_kept p test (k ∷ keys) some = any_first p test k keys (any_kept p test keys) (p k) some

any_of_keys : (key : List ℕ) (rows : List (Row (List Span))) → list_any (λ k. bytes_eq k key) (map (λ (x : Row (List Span)). x.key) rows) ≡ has_row rows key
any_of_keys key [] = refl
any_of_keys key (x ∷ rows) = ap (λ (b : Bool). bytes_eq x.key key || b) (any_of_keys key rows)

-- a key with a row has for each variable an object of its domain
pub inside_domains : (r : Table (List Span)) → AreInOrder r → (key : List ℕ) → has_row r.rows key ≡ true → key_in r.domains r.vars key ≡ true
inside_domains r in_order key there =
    let test : List ℕ → Bool = λ k. bytes_eq k key in
    let kept : list_any test (filter (has_row r.rows) (keys_over r.domains r.vars)) ≡ true =
    sym (ap (list_any test) in_order.keys) ∙ any_of_keys key r.rows ∙ there in
    let found = key_found test r.domains r.vars (any_kept (has_row r.rows) test (keys_over r.domains r.vars) kept) in
    ap (key_in r.domains r.vars) (sym (bytes_eq_true found.0 key found.1)) ∙ found.2

-- a key with a tick has a row
pub row_there : (r : Table (List Span)) → AreInOrder r → (key : List ℕ) (t : ℕ) → has_at spans_have r.rows key t ≡ true → has_row r.rows key ≡ true
row_there r in_order key t there =
    elim (cases_Bool (has_row r.rows key)) [
      | inl is ↦ is
      | inr not' ↦ absurd (false≢true (sym (in_order.none key not' t) ∙ there))
    ]

-- what is kept of a list and then made is what is made of the list and then kept
one_made : {A B : Type 0} (p : A → Bool) (f g : A → B) (k : B → Bool) (x : A) (xs : List A) → f x ≡ g x → p x ≡ k (g x) →
    map f (filter p xs) ≡ filter k (map g xs) → (b : Bool) → p x ≡ b →
    map f (if b then x ∷ filter p xs else filter p xs) ≡ (if k (g x) then g x ∷ filter k (map g xs) else filter k (map g xs))
one_made p f g k x xs made kept later true is =
    (λ i. made i ∷ later i) ∙ sym (ap (λ (b : Bool). if b then g x ∷ filter k (map g xs) else filter k (map g xs)) (sym kept ∙ is))
one_made p f g k x xs made kept later false is =
    later ∙ sym (ap (λ (b : Bool). if b then g x ∷ filter k (map g xs) else filter k (map g xs)) (sym kept ∙ is))

kept_made : {A B : Type 0} (p : A → Bool) (f g : A → B) (k : B → Bool) → ((x : A) → f x ≡ g x) → ((x : A) → p x ≡ k (g x)) → (xs : List A) →
    map f (filter p xs) ≡ filter k (map g xs)
kept_made p f g k made kept [] = refl
kept_made p f g k made kept (x ∷ xs) = one_made p f g k x xs (made x) (kept x) (kept_made p f g k made kept xs) (p x) refl

index_upto : (b : ℕ → ℕ) (n v : ℕ) → v < n → slice_index (map b (between 0 n)) v ≡ b v
unfolding between
index_upto b n v within = get_or-map-range_with_len b 0 (n - 0) v v 0 (omega (arith, within)) (omega arith)

members_upto : (lists : List (List ℕ)) (b : ℕ → ℕ) → ((v : ℕ) → v < length lists → has_id (ids_of_variable lists v) (b v) ≡ true) → (n : ℕ) → n ≡ length lists →
    AreMembers lists (map b (between 0 n))
unfolding between
members_upto lists b each n many =
    subst (λ (m : ℕ). AreMembers lists (map b (range_with_len 0 m))) (let e : length lists ≡ n - 0 = omega (arith, many) in e)
    (members_from lists 0 b (λ v within. ap (λ (u : ℕ). has_id (ids_of_variable lists v) (b u)) (let e : 0 + v ≡ v = omega arith in e) ∙ each v within))

pub between_has : (n v : ℕ) → v < n → has_id (between 0 n) v ≡ true
between_has n v within = any_between_at (λ i. i == v) 0 n v (omega arith) within (grind (arith, nat_tests))

has_below : (n v : ℕ) → has_id (between 0 n) v ≡ true → v < n
has_below n v has_v =
    let s = any_between_found (λ i. i == v) 0 n has_v in
    let below : s.tick < n = s.below in
    let same : s.tick ≡ v = grind (arith, nat_tests, s.passes) in
    omega (arith, below, same)

module _ (w : World) (q : ResolvedQuery) (holds : (ℕ → ℕ) → ℕ → Bool)
    (targets : list_all (λ v. nat_lt v (length q.classes)) q.targets ≡ true) (distinct : are_distinct q.targets ≡ true)
    (lo hi : ℕ) (order : lo ≤ hi) (last : hi ≤ LAST_TICK) (full r : Table (List Span))
    (domains : full.domains ≡ map (ids_of_class w.history.catalog) q.classes) (vars : full.vars ≡ between 0 (length q.classes))
    (full_ticks : (b : ℕ → ℕ) → IsIn full.domains b → (t : ℕ) → table_has spans_have full b t ≡ (within lo hi t && holds b t))
    (full_inside : (key : List ℕ) (t : ℕ) → has_at spans_have full.rows key t ≡ true → key_in full.domains full.vars key ≡ true)
    (r_vars : r.vars ≡ q.targets) (r_domains : r.domains ≡ map (ids_of_class w.history.catalog) q.classes)
    (all : (b : ℕ → ℕ) (t : ℕ) → table_has spans_have full b t ≡ true → table_has spans_have r b t ≡ true)
    (some : (b : ℕ → ℕ) (t : ℕ) → table_has spans_have r b t ≡ true → IsPicked spans_have full q.targets b t)
    (in_order : AreInOrder r) where
  lists : List (List ℕ)
  lists = map (ids_of_class w.history.catalog) q.classes

  many : length lists ≡ length q.classes
  unfolding lists
  many = length-map q.classes (ids_of_class w.history.catalog)

  -- an assignment that has the tick in the relation over all variables is one of the query, and passes the test
  at_other : (b : ℕ → ℕ) (t : ℕ) → table_has spans_have full b t ≡ true →
      (within lo hi t ≡ true) × (target_where w q holds (map b q.targets) t ≡ true)
  unfolding lists
  at_other b t has_it =
      let bound = map b (between 0 (length q.classes)) in
      let inside : (v : ℕ) → v < length q.classes → has_id (ids_of_variable full.domains v) (b v) ≡ true = λ v within.
      key_in_at full.domains full.vars b (full_inside (map b full.vars) t has_it) v
      (ap (λ (us : List ℕ). has_id us v) vars ∙ between_has (length q.classes) v within) in
      let in_lists : (v : ℕ) → v < length lists → has_id (ids_of_variable lists v) (b v) ≡ true = λ v within.
      ap (λ (d : List (List ℕ)). has_id (ids_of_variable d v) (b v)) (sym domains) ∙ inside v (let m = many in omega (arith, m, within)) in
      let same : (v : ℕ) → v < length q.classes → slice_index bound v ≡ b v = index_upto b (length q.classes) in
      let is_in : IsIn full.domains (slice_index bound) = λ v within.
      let within' : v < length q.classes = (let l : length full.domains ≡ length lists = ap length domains in let m = many in omega (arith, within, l, m)) in
      ap (λ (id : ℕ). has_id (ids_of_variable full.domains v) id) (same v within') ∙ inside v within' in
      let there : table_has spans_have full (slice_index bound) t ≡ true =
      ap (λ (key : List ℕ). has_at spans_have full.rows key t)
      (same_key full.vars (slice_index bound) b (λ v has_v. same v (below_vars v has_v))) ∙ has_it in
      let both = and_parts (within lo hi t) (holds (slice_index bound) t) (sym (full_ticks (slice_index bound) is_in t) ∙ there) in
      let tuple : tuple_of q bound ≡ map b q.targets =
      same_key q.targets (slice_index bound) b (λ v has_v. same v (each_below (length q.classes) q.targets targets v has_v)) in (
        both.0,
        product_any (λ c. bytes_eq (tuple_of q c) (map b q.targets) && holds (slice_index c) t) lists bound
            (members_upto lists b in_lists (length q.classes) (sym many))
            (and_from (bytes_eq (tuple_of q bound) (map b q.targets)) (holds (slice_index bound) t)
            (ap (λ (k : List ℕ). bytes_eq k (map b q.targets)) tuple ∙ bytes_eq_refl (map b q.targets)) both.1),
      )
    where
      below_vars : (v : ℕ) → has_id full.vars v ≡ true → v < length q.classes
      below_vars v has_v =
          has_below (length q.classes) v (ap (λ (us : List ℕ). has_id us v) (sym vars) ∙ has_v)

  target_ticks : (key : List ℕ) (t : ℕ) → has_at spans_have r.rows key t ≡ (within lo hi t && target_where w q holds key t)
  target_ticks key t = same_truth (has_at spans_have r.rows key t) (within lo hi t && target_where w q holds key t) to from
    where
      to : has_at spans_have r.rows key t ≡ true → (within lo hi t && target_where w q holds key t) ≡ true
      to there =
          let b : ℕ → ℕ = assigned q.targets key in
          let inside : key_in r.domains q.targets key ≡ true =
          ap (λ (us : List ℕ). key_in r.domains us key) (sym r_vars) ∙ inside_domains r in_order key (row_there r in_order key t there) in
          let is : map b q.targets ≡ key = key_assigned r.domains q.targets key distinct inside in
          let here : table_has spans_have r b t ≡ true =
          ap (λ (us : List ℕ). has_at spans_have r.rows (map b us) t) r_vars ∙ ap (λ (k : List ℕ). has_at spans_have r.rows k t) is ∙ there in
          let picked = some b t here in
          let target : map picked.other q.targets ≡ key = same_key q.targets picked.other b (λ v has_v. picked.same v (kept_variable v has_v)) ∙ is in
          let found = at_other picked.other t picked.here in
          and_from (within lo hi t) (target_where w q holds key t) found.0
          (ap (λ (k : List ℕ). target_where w q holds k t) (sym target) ∙ found.1)
        where
          not_both : (x y : Bool) → y ≡ true → (x && not y) ≡ false
          not_both true true is = refl
          not_both false true is = refl
          not_both x false is = absurd (false≢true is)

          kept_variable : (v : ℕ) → has_id q.targets v ≡ true → (has_id full.vars v && not (has_id q.targets v)) ≡ false
          kept_variable v has_v = not_both (has_id full.vars v) (has_id q.targets v) has_v

      from : (within lo hi t && target_where w q holds key t) ≡ true → has_at spans_have r.rows key t ≡ true
      from passes =
          let parts = and_parts (within lo hi t) (target_where w q holds key t) passes in
          let s = product_found (λ c. bytes_eq (tuple_of q c) key && holds (slice_index c) t) (map (ids_of_class w.history.catalog) q.classes) parts.1 in
          let both = and_parts (bytes_eq (tuple_of q s.choice) key) (holds (slice_index s.choice) t) s.passes in
          let is_in : IsIn full.domains (slice_index s.choice) = λ v within.
          let l : length full.domains ≡ length (map (ids_of_class w.history.catalog) q.classes) = ap length domains in
          ap (λ (d : List (List ℕ)). has_id (ids_of_variable d v) (slice_index s.choice v)) domains
          ∙ member_at (map (ids_of_class w.history.catalog) q.classes) s.choice s.are v (omega (arith, within, l)) in
          let there : table_has spans_have full (slice_index s.choice) t ≡ true =
          full_ticks (slice_index s.choice) is_in t ∙ and_from (within lo hi t) (holds (slice_index s.choice) t) parts.0 both.1 in
          ap (λ (k : List ℕ). has_at spans_have r.rows k t) (sym (bytes_eq_true (tuple_of q s.choice) key both.0))
          ∙ ap (λ (us : List ℕ). has_at spans_have r.rows (map (slice_index s.choice) us) t) (sym r_vars)
          ∙ all (slice_index s.choice) t there

  -- the row that a key's ticks make
  made_row : List ℕ → (ℕ → Bool) → answers.Row
  made_row key p = record { key = key; runs = runs_of (listed p 0 LAST_TICK) }

  same_row : (key : List ℕ) → made_row key (has_at spans_have r.rows key) ≡ row_where (target_where w q holds) lo hi key
  unfolding made_row
  same_row key =
      ap (λ (ticks : List ℕ). record { key = key; runs = runs_of ticks })
      (narrowed (has_at spans_have r.rows key) (target_where w q holds key) lo hi LAST_TICK last order (target_ticks key))

  kept_row : (key : List ℕ) → has_row r.rows key ≡ has_ticks (row_where (target_where w q holds) lo hi key).runs
  kept_row key = same_truth (has_row r.rows key) (has_ticks (row_where (target_where w q holds) lo hi key).runs) to from
    where
      to : has_row r.rows key ≡ true → has_ticks (row_where (target_where w q holds) lo hi key).runs ≡ true
      to there =
          elim (cases_Bool (has_ticks (row_where (target_where w q holds) lo hi key).runs)) [
            | inl is ↦ is
            | inr not' ↦ absurd (in_order.some key there (λ t. target_ticks key t ∙ no_ticks_from (target_where w q holds key) lo hi not' t))
          ]

      from : has_ticks (row_where (target_where w q holds) lo hi key).runs ≡ true → has_row r.rows key ≡ true
      from ticks =
          elim (cases_Bool (has_row r.rows key)) [
            | inl is ↦ is
            | inr not' ↦ absurd (some_ticks_from (target_where w q holds key) lo hi ticks (λ t. sym (target_ticks key t) ∙ in_order.none key not' t))
          ]

  pub rows_are_the_answer : told_rows r.rows ≡ answer_where w q holds lo hi
  unfolding made_row
  rows_are_the_answer =
      told_in_order spans_have made_row r.rows (filter (has_row r.rows) (keys_over r.domains r.vars)) in_order.keys in_order.ticks
      ∙ kept_made (has_row r.rows) (λ key. made_row key (has_at spans_have r.rows key)) (row_where (target_where w q holds) lo hi) (λ row. has_ticks row.runs) same_row kept_row (keys_over r.domains r.vars)
      ∙ ap (λ (keys : List (List ℕ)). filter (λ row. has_ticks row.runs) (map (row_where (target_where w q holds) lo hi) keys))
      ((λ i. keys_over (r_domains i) (r_vars i)) ∙ keys_are_tuples (ids_of_class w.history.catalog) q.classes q.targets targets)
