-- Rows that are current stay current.
use Rattle.std.proofs.Common.{◌≡◌, ℕ, ◌+◌, ◌<◌, ◌≤◌, Bool, true, false, ◌&&◌, ◌⊎◌, Option, None, Some, List, length, map, refl, sym, ap, ◌∙◌, subst, inl, inr, arith, if◌then◌else◌}
use Rattle.std.specs.Prelude.{◌==◌, nat_le}
use Rattle.std.specs.List.{list_any}
use Rattle.std.proofs.lemmas.Bool.{cases_Bool, false≢true}
use Rattle.std.proofs.lemmas.Bool.Decides.{nat_tests}
use Rattle.tick_set.specs.Ticks.{within}
use Rattle.tick_set.proofs.Between.{within_parts}
use Rattle.geometry.specs.Region.{Region}
use Rattle.history.specs.History.{ChangesFrom, History, cells_at}
use Rattle.history.specs.World.{World}
use Rattle.formula.specs.Reach.{reach}
use Rattle.formula.specs.Resolved.{are_distinct}
use Rattle.formula.specs.Tree.{ResolvedQuery}
use Rattle.formula.specs.declared.kind.QueryKind.{QueryKind}
use Rattle.formula.specs.declared.kind.QueryKind.TheVariants.{Keep, Watch}
use Rattle.kept_rows.specs.Numbers.{counts}
use Rattle.meaning.specs.Agreement.{world_with}
use Rattle.meaning.specs.Binding.{holds_full}
use Rattle.meaning.specs.Registered.{first_tick}
use Rattle.live_queries.specs.Columns.{Column, HaveObjectsOf, column_variables, columns_have, gives, object_at_number}
use Rattle.live_queries.specs.Current.{IsCurrentFor, full_at, row_at, told_from}
use Rattle.live_queries.specs.Kept.{IsKeptQuery, KeptQuery}
use Rattle.live_queries.specs.declared.fresh.Renewal.{Renewal}
use Rattle.live_queries.specs.Prepared.{IsFreshFor, IsMade}
use Rattle.live_queries.specs.Renewed.{AddsAtMost, AreRenewedRows, IsRenewed, IsSameRequest, is_judged, judged_from, judged_tick}
use Rattle.live_queries.proofs.ColumnLemmas.{AreGrown, counts_more, new_or_before, not_given, same_counts, same_objects}
use Rattle.live_queries.proofs.ObjectLemmas.{grown_columns, none_past, objects_grow}
use Rattle.live_queries.proofs.OrderLemmas.{columns_are, order_below, order_distinct, order_has}
use Rattle.exact.proofs.Naturals.{above_from_test}

-- one row at one tick: whether the query is judged anew there, the binding has the object, is one now and before, the
-- tick is in the window, it satisfies the query before and now, and its row before and now
row_renewed : (a g d c i f f' r r' : Bool) → r ≡ (c && (i && f)) → r' ≡ (if a && (d && g) then (i && f') else r) →
    (g ≡ false → d ≡ c) → (g ≡ false → i ≡ true → f ≡ f') → (c ≡ true → d ≡ true) → (a ≡ false → i ≡ true → d ≡ true → (c && f) ≡ f') →
    r' ≡ (d && (i && f'))
row_renewed true true true c i f f' r r' e e' same agree more stay = e'
row_renewed true true false true i f f' r r' e e' same agree more stay = absurd (false≢true (more refl))
row_renewed true true false false i f f' r r' e e' same agree more stay = e' ∙ e
row_renewed true false true true true f f' r r' e e' same agree more stay = e' ∙ e ∙ agree refl refl
row_renewed true false true true false f f' r r' e e' same agree more stay = e' ∙ e
row_renewed true false true false i f f' r r' e e' same agree more stay = absurd (false≢true (sym (same refl)))
row_renewed true false false true i f f' r r' e e' same agree more stay = absurd (false≢true (same refl))
row_renewed true false false false i f f' r r' e e' same agree more stay = e' ∙ e
row_renewed false g true true true f f' r r' e e' same agree more stay = e' ∙ e ∙ stay refl refl refl
row_renewed false g true true false f f' r r' e e' same agree more stay = e' ∙ e
row_renewed false g true false true f f' r r' e e' same agree more stay = e' ∙ e ∙ stay refl refl refl
row_renewed false g true false false f f' r r' e e' same agree more stay = e' ∙ e
row_renewed false g false true i f f' r r' e e' same agree more stay = absurd (false≢true (more refl))
row_renewed false g false false i f f' r r' e e' same agree more stay = e' ∙ e

module _ (New : Type 0) (id : ℕ) (cs ds : List Column) (grown : AreGrown New id cs ds) (distinct : are_distinct (map (λ d. d.variable) ds) ≡ true)
    (judged inside : Bool) (full full' : (ℕ → ℕ) → Bool) (row row' : ℕ → Bool) where
  -- at one tick, of a binding without the object, of any binding where none is judged, and of one with an object that
  -- wasn't there
  pub rows_renewed :
      ((b : ℕ → ℕ) → ((v : ℕ) → columns_have ds v ≡ true → (b v == id) ≡ false) → inside ≡ true → full b ≡ full' b) →
      (judged ≡ false → (b : ℕ → ℕ) → inside ≡ true → full b ≡ full' b) →
      (judged ≡ false → New → (b : ℕ → ℕ) (v : ℕ) → columns_have ds v ≡ true → b v ≡ id → inside ≡ true → full' b ≡ false) →
      (n : ℕ) → row n ≡ (counts (column_variables cs) n && (inside && full (object_at_number cs n))) →
      row' n ≡ (if judged && (counts (column_variables ds) n && gives ds id n) then (inside && full' (object_at_number ds n)) else row n) →
      row' n ≡ (counts (column_variables ds) n && (inside && full' (object_at_number ds n)))
  rows_renewed others same absent n current renewed =
      row_renewed judged (gives ds id n) (counts (column_variables ds) n) (counts (column_variables cs) n) inside
      (full (object_at_number cs n)) (full' (object_at_number ds n)) (row n) (row' n) current renewed
      (same_counts New id cs ds grown n)
      (λ other in_window.
      ap (λ (b : ℕ → ℕ). full b) (λ i v. sym (same_objects New id cs ds grown n v other) i)
      ∙ others (object_at_number ds n) (λ v there. not_given ds id n v there other) in_window)
      (counts_more New id cs ds grown n)
      (λ past in_window here. elim (new_or_before New id cs ds grown distinct n here) [
        | inl new ↦
            ap (λ b. b && full (object_at_number cs n)) new.none
            ∙ sym (absent past new.new (object_at_number ds n) new.variable new.there new.object in_window)
        | inr before ↦
            ap (λ b. b && full (object_at_number cs n)) before.0
            ∙ ap (λ (b : ℕ → ℕ). full b) (λ i v. sym (before.1 v) i)
            ∙ same past (object_at_number ds n) in_window
      ])

-- a variable of the columns is one of the query
module _ (k : KeptQuery) (is : IsKeptQuery k) where
  pub variable_of_query : (v : ℕ) → columns_have k.columns v ≡ true → v < length k.query.classes
  variable_of_query v has =
      order_below k.query is.resolved v (ap (λ xs. list_any (λ (u : ℕ). u == v) xs) (sym is.order) ∙ sym (columns_are k.columns v) ∙ has)

  pub variable_of_column : (v : ℕ) → v < length k.query.classes → columns_have k.columns v ≡ true
  variable_of_column v below =
      columns_are k.columns v ∙ ap (λ xs. list_any (λ (u : ℕ). u == v) xs) is.order ∙ order_has k.query is.resolved v below

pub columns_grow : (id now : ℕ) (old new : History) → ChangesFrom id now old new → AddsAtMost id old.catalog new.catalog →
    (regions : List Region) (k k' : KeptQuery) → IsKeptQuery k → IsKeptQuery k' →
    IsCurrentFor (world_with old regions) now k → IsRenewed (world_with new regions) id now k k' →
    AreGrown (length old.catalog.objects ≤ id) id k.columns k'.columns
columns_grow id now old new changes adds regions k k' is is' current renewed =
    grown_columns id old.catalog new.catalog k.query.classes (objects_grow id now old new changes adds) k.columns k'.columns renewed.head.columns
    current.objects (subst (λ (q : ResolvedQuery). HaveObjectsOf new.catalog q.classes k'.columns) renewed.head.query renewed.objects)
    is.counted is'.counted

-- a binding that there was is one still, of the same objects
pub binding_stays : (id now : ℕ) (old new : History) → ChangesFrom id now old new → AddsAtMost id old.catalog new.catalog →
    (regions : List Region) (k k' : KeptQuery) → IsKeptQuery k → IsKeptQuery k' →
    IsCurrentFor (world_with old regions) now k → IsRenewed (world_with new regions) id now k k' →
    (n : ℕ) → counts (column_variables k.columns) n ≡ true →
    (counts (column_variables k'.columns) n ≡ true) × ((v : ℕ) → object_at_number k'.columns n v ≡ object_at_number k.columns n v)
binding_stays id now old new changes adds regions k k' is is' current renewed n there =
    let grown : AreGrown (length old.catalog.objects ≤ id) id k.columns k'.columns =
    columns_grow id now old new changes adds regions k k' is is' current renewed in
    let here = counts_more (length old.catalog.objects ≤ id) id k.columns k'.columns grown n there in
    elim (new_or_before (length old.catalog.objects ≤ id) id k.columns k'.columns grown
    (ap are_distinct is'.order ∙ order_distinct k'.query is'.resolved) n here) [
      | inl anew ↦ absurd (false≢true (sym anew.none ∙ there))
      | inr before ↦ (here, before.1)
    ]

-- the ticks that are told begin at the same tick
pub same_start : {k k' : KeptQuery} → IsSameRequest k k' → (now : ℕ) → told_from k' now ≡ told_from k now
same_start head now = λ i. first_tick (head.kind i) (head.entry i) now

-- whether a tick is judged: the query runs still, and the write may change what is told of the tick
abbrev judged_at : KeptQuery → ℕ → ℕ → Bool
judged_at k now t = nat_le now k.expiry && nat_le (judged_from k now) t

not_judged : (a b : Bool) → (a && b) ≡ false → (a ≡ false) ⊎ (b ≡ false)
not_judged true b h = inr h
not_judged false b h = inl refl

-- of a tick that is told and not judged the formula doesn't see the write
sees_no_write : (kind : QueryKind) (ahead : Option ℕ) (entry now t : ℕ) → first_tick kind entry now ≤ t → t < judged_tick kind ahead now →
    (n : ℕ) × (ahead ≡ Some n) × (t + n < now)
sees_no_write Watch ahead entry now t told before = absurd (omega (arith, told, before))
sees_no_write Keep None entry now t told before = absurd (omega (arith, before))
sees_no_write Keep (Some n) entry now t told before = (n, refl, omega (arith, before))

-- a renewed row at a tick that is told
renewed_row : (w : World) (id now : ℕ) (k : KeptQuery) (columns : List Column) (rows : ℕ → ℕ → Bool) → AreRenewedRows w id now k columns rows →
    (c t : ℕ) → told_from k now ≤ t → rows c t
    ≡ (if judged_at k now t && (counts (column_variables columns) c && gives columns id c)
    then (within k.entry k.expiry t && holds_full w k.query k.expiry (object_at_number columns c) t) else row_at k c t)
renewed_row w id now k columns rows renewed c t from =
    elim (cases_Bool (is_judged id now k columns c)) [
      | inr other ↦
          renewed.stay c other t
          ∙ sym (ap (λ b. if b then there else row_at k c t) (less (nat_le now k.expiry) (nat_le (judged_from k now) t) held other))
      | inl judged ↦ elim (cases_Bool (nat_le (judged_from k now) t)) [
        | inl later ↦
            renewed.anew c judged t from (is_from (judged_from k now) t later)
            ∙ sym (ap (λ b. if b then there else row_at k c t) (both (nat_le now k.expiry) (nat_le (judged_from k now) t) held judged later))
        | inr before ↦
            renewed.past c judged t from (above_from_test (judged_from k now) t before)
            ∙ sym (ap (λ b. if b then there else row_at k c t) (before_it (nat_le now k.expiry) (nat_le (judged_from k now) t) held before))
      ]
    ]
  where
    there : Bool
    there = within k.entry k.expiry t && holds_full w k.query k.expiry (object_at_number columns c) t

    held : Bool
    held = counts (column_variables columns) c && gives columns id c

    is_from : (n u : ℕ) → nat_le n u ≡ true → n ≤ u
    is_from n u h = grind (arith, nat_tests, h)

    less : (a l h : Bool) → (a && h) ≡ false → ((a && l) && h) ≡ false
    less true true h e = e
    less true false h e = refl
    less false l h e = refl

    both : (a l h : Bool) → (a && h) ≡ true → l ≡ true → ((a && l) && h) ≡ true
    both true true h e f = e
    both true false h e f = absurd (false≢true f)
    both false l h e f = absurd (false≢true e)

    before_it : (a l h : Bool) → l ≡ false → ((a && l) && h) ≡ false
    before_it true true h e = absurd (false≢true (sym e))
    before_it true false h e = refl
    before_it false l h e = refl

pub stays_current : (id now : ℕ) (old new : History) → ChangesFrom id now old new → AddsAtMost id old.catalog new.catalog →
    (regions : List Region) (k k' : KeptQuery) → IsKeptQuery k → IsKeptQuery k' →
    ((b : ℕ → ℕ) → ((v : ℕ) → v < length k.query.classes → (b v == id) ≡ false) → (t : ℕ) → t ≤ k.expiry →
    holds_full (world_with old regions) k.query k.expiry b t ≡ holds_full (world_with new regions) k.query k.expiry b t) →
    ((b : ℕ → ℕ) (t : ℕ) → t ≤ k.expiry → k.expiry < now →
    holds_full (world_with old regions) k.query k.expiry b t ≡ holds_full (world_with new regions) k.query k.expiry b t) →
    ((n : ℕ) → reach k.query.formula ≡ Some n → (b : ℕ → ℕ) (t : ℕ) → t ≤ k.expiry → t + n < now →
    holds_full (world_with old regions) k.query k.expiry b t ≡ holds_full (world_with new regions) k.query k.expiry b t) →
    ((b : ℕ → ℕ) (t v : ℕ) → v < length k.query.classes → cells_at new (b v) t ≡ None →
    holds_full (world_with new regions) k.query k.expiry b t ≡ false) →
    IsCurrentFor (world_with old regions) now k → IsRenewed (world_with new regions) id now k k' → IsCurrentFor (world_with new regions) now k'
stays_current id now old new changes adds regions k k' is is' others expired unseen absent current renewed =
    let same : (c t : ℕ) → full_at (world_with new regions) k' c t
    ≡ (within k.entry k.expiry t && holds_full (world_with new regions) k.query k.expiry (object_at_number k'.columns c) t) =
    λ c t i. within (renewed.head.entry i) (renewed.head.expiry i) t
    && holds_full (world_with new regions) (renewed.head.query i) (renewed.head.expiry i) (object_at_number k'.columns c) t in
    let classes : length k'.query.classes ≡ length k.query.classes = λ i. length (renewed.head.query i).classes in
    let grown : AreGrown (length old.catalog.objects ≤ id) id k.columns k'.columns =
    columns_grow id now old new changes adds regions k k' is is' current renewed in
    record {
      objects = renewed.objects;
      rows = λ c t from.
          let told : told_from k now ≤ t = subst (λ (n : ℕ). n ≤ t) (same_start renewed.head now) from in
          rows_renewed (length old.catalog.objects ≤ id) id k.columns k'.columns grown (ap are_distinct is'.order ∙ order_distinct k'.query is'.resolved)
          (judged_at k now t) (within k.entry k.expiry t)
          (λ b. holds_full (world_with old regions) k.query k.expiry b t) (λ b. holds_full (world_with new regions) k.query k.expiry b t)
          (λ n. row_at k n t) (λ n. row_at k' n t)
          (λ b apart l. others b (λ v below. apart v (variable_of_column k' is' v (subst (λ (n : ℕ). v < n) (sym classes) below))) t (inside t l))
          (λ h b l. unjudged t told h b l)
          (λ h none b v there object l.
          absent b t v (subst (λ (n : ℕ). v < n) classes (variable_of_query k' is' v there))
          (ap (λ o. cells_at new o t) object ∙ changes.past t (past t told h l) ∙ none_past old id t none))
          c (current.rows c t told)
          (renewed_row (world_with new regions) id now k k'.columns (row_at k') renewed.rows c t told)
          ∙ ap (λ b. counts (column_variables k'.columns) c && b) (sym (same c t));
    }
  where
    inside : (t : ℕ) → within k.entry k.expiry t ≡ true → t ≤ k.expiry
    inside t h = (within_parts k.entry k.expiry t h).1

    seen : (t : ℕ) → told_from k now ≤ t → nat_le (judged_from k now) t ≡ false → (n : ℕ) × (reach k.query.formula ≡ Some n) × (t + n < now)
    seen t told h = sees_no_write k.kind (reach k.query.formula) k.entry now t told (above_from_test (judged_from k now) t h)

    past : (t : ℕ) → told_from k now ≤ t → judged_at k now t ≡ false → within k.entry k.expiry t ≡ true → t < now
    past t told h l = elim (not_judged (nat_le now k.expiry) (nat_le (judged_from k now) t) h) [
      | inl over ↦ before now k.expiry t (above_from_test now k.expiry over) (inside t l)
      | inr early ↦ ends t (seen t told early).0 now (seen t told early).2
    ]
      where
        before : (n e u : ℕ) → e < n → u ≤ e → u < n
        before n e u a b = omega (arith, a, b)

        ends : (u n m : ℕ) → u + n < m → u < m
        ends u n m h = omega (arith, h)

    unjudged : (t : ℕ) → told_from k now ≤ t → judged_at k now t ≡ false → (b : ℕ → ℕ) → within k.entry k.expiry t ≡ true →
        holds_full (world_with old regions) k.query k.expiry b t ≡ holds_full (world_with new regions) k.query k.expiry b t
    unjudged t told h b l = elim (not_judged (nat_le now k.expiry) (nat_le (judged_from k now) t) h) [
      | inl over ↦ expired b t (inside t l) (above_from_test now k.expiry over)
      | inr early ↦ unseen (seen t told early).0 (seen t told early).1 b t (inside t l) (seen t told early).2
    ]

-- where what comes after a write is the same for a binding, its row is the same before and after
pub row_stays : (id now : ℕ) (old new : History) → ChangesFrom id now old new → AddsAtMost id old.catalog new.catalog →
    (regions : List Region) (k k' : KeptQuery) → IsKeptQuery k → IsKeptQuery k' →
    ((b : ℕ → ℕ) → ((v : ℕ) → v < length k.query.classes → (t : ℕ) → now ≤ t → t ≤ k.expiry → cells_at old (b v) t ≡ cells_at new (b v) t) →
    (t : ℕ) → t ≤ k.expiry →
    holds_full (world_with old regions) k.query k.expiry b t ≡ holds_full (world_with new regions) k.query k.expiry b t) →
    IsCurrentFor (world_with old regions) now k → IsRenewed (world_with new regions) id now k k' → IsCurrentFor (world_with new regions) now k' →
    (n : ℕ) → counts (column_variables k.columns) n ≡ true →
    ((v : ℕ) → v < length k.query.classes → (t : ℕ) → now ≤ t → t ≤ k.expiry →
    cells_at old (object_at_number k.columns n v) t ≡ cells_at new (object_at_number k.columns n v) t) →
    (t : ℕ) → told_from k now ≤ t → row_at k' n t ≡ row_at k n t
row_stays id now old new changes adds regions k k' is is' past current renewed current' n there later t from =
    let stays = binding_stays id now old new changes adds regions k k' is is' current renewed n there in
    let same : full_at (world_with new regions) k' n t
    ≡ (within k.entry k.expiry t && holds_full (world_with new regions) k.query k.expiry (object_at_number k.columns n) t) =
    λ i. within (renewed.head.entry i) (renewed.head.expiry i) t
    && holds_full (world_with new regions) (renewed.head.query i) (renewed.head.expiry i) (λ v. stays.1 v i) t in
    current'.rows n t (subst (λ (m : ℕ). m ≤ t) (sym (same_start renewed.head now)) from)
    ∙ ap (λ b. b && full_at (world_with new regions) k' n t) (stays.0 ∙ sym there)
    ∙ ap (λ b. counts (column_variables k.columns) n && b) (same ∙ inside (cases_Bool (within k.entry k.expiry t)))
    ∙ sym (current.rows n t from)
  where
    inside : ((within k.entry k.expiry t ≡ true) ⊎ (within k.entry k.expiry t ≡ false)) →
        (within k.entry k.expiry t && holds_full (world_with new regions) k.query k.expiry (object_at_number k.columns n) t)
        ≡ full_at (world_with old regions) k n t
    inside (inl here) =
        ap (λ b. within k.entry k.expiry t && b) (sym (past (object_at_number k.columns n) later t (within_parts k.entry k.expiry t here).1))
    inside (inr out) =
        ap (λ b. b && holds_full (world_with new regions) k.query k.expiry (object_at_number k.columns n) t) out
        ∙ sym (ap (λ b. b && holds_full (world_with old regions) k.query k.expiry (object_at_number k.columns n) t) out)

-- what was prepared in a world and made renews a query
pub made_renews : (w : World) (object class now : ℕ) (r : Renewal) (k k' : KeptQuery) → IsFreshFor w object class now k r → IsMade object class r k k' →
    IsRenewed w object now k k'
made_renews w object class now r k k' fresh made =
    record {
      head = made.head;
      objects = subst (λ (q : ResolvedQuery). HaveObjectsOf w.history.catalog q.classes k'.columns) (sym made.head.query) (fresh.objects k'.columns made.columns);
      rows = record {
        stay = λ c other t. made.rows c t ∙ (fresh.rows k'.columns made.columns).stay c other t;
        past = λ c judged t from before. made.rows c t ∙ (fresh.rows k'.columns made.columns).past c judged t from before;
        anew = λ c judged t from later. made.rows c t ∙ (fresh.rows k'.columns made.columns).anew c judged t from later;
      };
    }

-- a binding without the object isn't judged, and none is past the expiry
pub others_stay : (w : World) (id now : ℕ) (k k' : KeptQuery) → IsRenewed w id now k k' → (n : ℕ) → gives k'.columns id n ≡ false → (t : ℕ) →
    row_at k' n t ≡ row_at k n t
others_stay w id now k k' renewed n other t = renewed.rows.stay n (not_held (nat_le now k.expiry) (counts (column_variables k'.columns) n) (gives k'.columns id n) other) t
  where
    not_held : (a c g : Bool) → g ≡ false → (a && (c && g)) ≡ false
    not_held true true g e = e
    not_held true false g e = refl
    not_held false c g e = refl

pub expired_stay : (w : World) (id now : ℕ) (k k' : KeptQuery) → IsRenewed w id now k k' → k.expiry < now → (n t : ℕ) → row_at k' n t ≡ row_at k n t
expired_stay w id now k k' renewed past n t =
    renewed.rows.stay n (ap (λ b. b && (counts (column_variables k'.columns) n && gives k'.columns id n)) (is_over now k.expiry past)) t
  where
    is_over : (m e : ℕ) → e < m → nat_le m e ≡ false
    is_over m e h = grind (arith, nat_tests, h)
