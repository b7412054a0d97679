-- A query that is registered anew, and what a write makes of a registered one.
use Rattle.std.proofs.Common.{◌≡◌, ℕ, ◌+◌, ◌-◌, ◌<◌, ◌≤◌, Bool, true, false, ◌&&◌, Option, List, [], ◌++◌, length, map, refl, sym, ap, ◌∙◌, subst, arith, if◌then◌else◌}
use Rattle.std.specs.Prelude.{max, nat_le}
use Rattle.std.specs.List.{list_any}
use Rattle.std.proofs.lemmas.Bool.{false≢true}
use Rattle.std.proofs.lemmas.Bool.Decides.{nat_tests}
use Rattle.std.proofs.lemmas.List.{length-append, length-map}
use Rattle.tick_set.specs.Runs.{spans_have}
use Rattle.tick_set.specs.Ticks.{within}
use Rattle.tick_set.specs.declared.spans.Span.{Span}
use Rattle.tick_set.specs.declared.spans.TheConstants.{LAST_TICK}
use Rattle.history.specs.Catalog.{Catalog, capacity_of, ids_of, most_bindings}
use Rattle.history.specs.World.{World}
use Rattle.formula.specs.Reach.{reach}
use Rattle.formula.specs.Resolved.{IsResolved}
use Rattle.formula.specs.Tree.{ResolvedQuery}
use Rattle.formula.specs.declared.kind.QueryKind.{QueryKind}
use Rattle.formula.specs.declared.kind.QueryKind.TheVariants.{Keep, Watch}
use Rattle.kept_rows.specs.declared.binding.TheConstants.{BINDING_LIMIT}
use Rattle.kept_rows.specs.declared.change.Change.{Change}
use Rattle.kept_rows.specs.Changes.{rows_after}
use Rattle.kept_rows.specs.Exact.{AreFullRows}
use Rattle.kept_rows.specs.Numbers.{counts, size_of}
use Rattle.kept_rows.specs.Rows.{HasRoom}
use Rattle.meaning.specs.Agreement.{SeesItsClasses}
use Rattle.meaning.specs.Binding.{holds_full}
use Rattle.meaning.specs.Fits.{FitsItsClasses}
use Rattle.meaning.specs.Reads.{change_reads}
use Rattle.meaning.specs.Registered.{first_tick}
use Rattle.object_store.specs.Contents.{Contents, catalog_of}
use Rattle.live_queries.specs.Asked.{ExtendsCatalog, class_in}
use Rattle.live_queries.specs.Columns.{AreColumnsOf, Column, HaveCapacitiesOf, HaveObjectsOf, column_variables, gives, object_at_number, order_of}
use Rattle.live_queries.specs.Current.{row_at, told_from}
use Rattle.live_queries.specs.Effort.{judged_reads}
use Rattle.live_queries.specs.Kept.{IsKeptQuery, KeptQuery}
use Rattle.live_queries.specs.Prepared.{AreColumnsWith, AreNewRows, HaveRoomFor}
use Rattle.live_queries.specs.Registering.{IsRegistered}
use Rattle.live_queries.specs.Renewed.{is_judged, judged_from, judged_tick}
use Rattle.live_queries.specs.Told.{Info, info_of}
use Rattle.live_queries.specs.Written.{HaveObjectsWith, lacks_objects}
use Rattle.live_queries.proofs.CurrentLemmas.{variable_of_query}
use Rattle.live_queries.proofs.FormedLemmas.{are_counted, have_capacities, have_objects, variables_are}
use Rattle.live_queries.proofs.GrowLemmas.{have_room, have_with, lack_tells}
use Rattle.live_queries.proofs.SizeLemmas.{columns_size}

-- ---- a query that is registered

-- its targets come first
pub targets_first : (catalog : Catalog) (q : ResolvedQuery) (cs : List Column) → AreColumnsOf catalog q.classes (order_of q) cs →
    length q.targets ≤ length cs
targets_first catalog q cs are =
    let many : length (map (λ (c : Column). c.variable) cs) ≡ length (order_of q) = ap length (variables_are catalog q.classes (order_of q) cs are) in
    let same : length (map (λ (c : Column). c.variable) cs) ≡ length cs = length-map cs (λ (c : Column). c.variable) in
    let front : length q.targets ≤ length (order_of q) = shorter q.targets _ in
    omega (arith, many, same, front)
  where
    shorter : (xs ys : List ℕ) → length xs ≤ length (xs ++ ys)
    shorter xs ys = let e : length (xs ++ ys) ≡ length xs + length ys = length-append xs ys in omega (arith, e)

pub few_numbers : (catalog : Catalog) (q : ResolvedQuery) (cs : List Column) → IsResolved q → AreColumnsOf catalog q.classes (order_of q) cs →
    most_bindings catalog.classes q.classes ≤ BINDING_LIMIT → size_of (column_variables cs) ≤ BINDING_LIMIT
few_numbers catalog q cs is are few =
    let e : size_of (column_variables cs) ≡ most_bindings catalog.classes q.classes = columns_size catalog q cs is are in
    omega (arith, e, few)

pub anew_is_kept : (catalog : Catalog) (k : KeptQuery) → IsResolved k.query → SeesItsClasses k.query →
    AreColumnsOf catalog k.query.classes (order_of k.query) k.columns → size_of (column_variables k.columns) ≤ BINDING_LIMIT →
    HasRoom k.pages (size_of (column_variables k.columns)) → k.entry ≤ k.expiry → k.expiry ≤ LAST_TICK → IsKeptQuery k
anew_is_kept catalog k is sees are few room window last = record {
  resolved = is;
  sees = sees;
  order = variables_are catalog k.query.classes (order_of k.query) k.columns are;
  counted = are_counted catalog k.query.classes (order_of k.query) k.columns are;
  size = few;
  room = room;
  window = window;
  last = last;
}

pub anew_is_registered : (w : World) (now : ℕ) (given : Info) (k : KeptQuery) (lo : ℕ) → info_of k ≡ given → FitsItsClasses w k.query →
    AreColumnsOf w.history.catalog k.query.classes (order_of k.query) k.columns →
    ((t : ℕ) → told_from k now ≤ t → nat_le lo t ≡ nat_le k.entry t) →
    AreFullRows (row_at k) (counts (column_variables k.columns)) (λ n t. within lo k.expiry t && holds_full w k.query k.expiry (object_at_number k.columns n) t) →
    IsRegistered w now given k.query k
anew_is_registered w now given k lo info fits are told rows = record {
  info = info;
  query = refl;
  current = record {
    objects = have_objects w.history.catalog k.query.classes (order_of k.query) k.columns are;
    rows = λ c t from. rows c t
        ∙ ap (λ b. counts (column_variables k.columns) c && ((b && nat_le t k.expiry) && holds_full w k.query k.expiry (object_at_number k.columns c) t)) (told t from);
  };
  fits = record { fits = fits; capacities = have_capacities w.history.catalog k.query.classes (order_of k.query) k.columns are };
}

-- ---- what a write makes of it

-- after its expiry nothing
pub expired_rows : (w : World) (grows : Bool) (object class now : ℕ) (k : KeptQuery) (changes : List (Change (List Span))) → k.expiry < now → changes ≡ [] →
    AreNewRows w grows object class now k changes
expired_rows w grows object class now k changes past none ds made = record {
  stay = λ c other t. ap (λ (fs : List (Change (List Span))). rows_after spans_have fs (row_at k) c t) none;
  past = λ c judged t from before. ap (λ (fs : List (Change (List Span))). rows_after spans_have fs (row_at k) c t) none;
  anew = λ c judged t from later.
      absurd (false≢true (sym (ap (λ b. b && (counts (column_variables ds) c && gives ds object c)) (not_alive now k.expiry past)) ∙ judged));
}
  where
    not_alive : (n e : ℕ) → e < n → nat_le n e ≡ false
    not_alive n e h = grind (arith, nat_tests, h)

-- of the ticks that are told it keeps those before the first that it may change, and no other
kept_back : (kind : QueryKind) (ahead : Option ℕ) (entry now from t : ℕ) → (kind ≡ Keep → from ≡ judged_tick kind ahead now) → (kind ≡ Watch → from ≡ 0) →
    first_tick kind entry now ≤ t → nat_le from t ≡ nat_le (judged_tick kind ahead now) t
kept_back Watch ahead entry now from t kept watched told =
    ap (λ n. nat_le n t) (watched refl) ∙ sym (later now t told)
  where
    later : (n u : ℕ) → n ≤ u → nat_le n u ≡ nat_le 0 u
    later n u h = grind (arith, nat_tests, h)
kept_back Keep ahead entry now from t kept watched told = ap (λ n. nat_le n t) (kept refl)

pub alive_rows : (w : World) (grows : Bool) (object class now lo from : ℕ) (k : KeptQuery) (changes : List (Change (List Span))) → now ≤ k.expiry →
    ((t : ℕ) → judged_from k now ≤ t → nat_le lo t ≡ nat_le k.entry t) →
    ((t : ℕ) → told_from k now ≤ t → nat_le from t ≡ nat_le (judged_from k now) t) →
    ((ds : List Column) → AreColumnsWith grows class k.query.classes object k.columns ds → (c t : ℕ) →
    rows_after spans_have changes (row_at k) c t
    ≡ (if (counts (column_variables ds) c && gives ds object c) && nat_le from t
    then (within lo k.expiry t && holds_full w k.query k.expiry (object_at_number ds c) t) else row_at k c t)) →
    AreNewRows w grows object class now k changes
alive_rows w grows object class now lo from k changes alive judged_is back rows ds made = record {
  stay = λ c other t. rows ds made c t ∙ ap (λ b. if b && nat_le from t then there c t else row_at k c t) (same c ∙ other);
  past = λ c judged t told before.
      rows ds made c t
      ∙ ap (λ b. if b && nat_le from t then there c t else row_at k c t) (same c ∙ judged)
      ∙ ap (λ b. if b then there c t else row_at k c t) (back t told ∙ is_before (judged_from k now) t before);
  anew = λ c judged t told later.
      rows ds made c t
      ∙ ap (λ b. if b && nat_le from t then there c t else row_at k c t) (same c ∙ judged)
      ∙ ap (λ b. if b then there c t else row_at k c t) (back t told ∙ is_alive (judged_from k now) t later)
      ∙ ap (λ b. (b && nat_le t k.expiry) && holds_full w k.query k.expiry (object_at_number ds c) t) (judged_is t later);
}
  where
    is_alive : (n e : ℕ) → n ≤ e → nat_le n e ≡ true
    is_alive n e h = grind (arith, nat_tests, h)

    is_before : (n t : ℕ) → t < n → nat_le n t ≡ false
    is_before n t h = grind (arith, nat_tests, h)

    there : ℕ → ℕ → Bool
    there c t = within lo k.expiry t && holds_full w k.query k.expiry (object_at_number ds c) t

    same : (c : ℕ) → (counts (column_variables ds) c && gives ds object c) ≡ is_judged object now k ds c
    same c = sym (ap (λ b. b && (counts (column_variables ds) c && gives ds object c)) (is_alive now k.expiry alive))

pub alive_rows_as_seen : (w : World) (grows : Bool) (object class now lo from judged : ℕ) (x k : KeptQuery) → x ≡ k →
    (changes : List (Change (List Span))) → now ≤ x.expiry → judged ≡ judged_from k now →
    ((t : ℕ) → judged ≤ t → nat_le lo t ≡ nat_le x.entry t) → (x.kind ≡ Keep → from ≡ judged) → (x.kind ≡ Watch → from ≡ 0) →
    ((ds : List Column) → AreColumnsWith grows class x.query.classes object x.columns ds → (c t : ℕ) →
    rows_after spans_have changes (row_at x) c t
    ≡ (if (counts (column_variables ds) c && gives ds object c) && nat_le from t
    then (within lo x.expiry t && holds_full w x.query x.expiry (object_at_number ds c) t) else row_at x c t)) →
    AreNewRows w grows object class now k changes
alive_rows_as_seen w grows object class now lo from judged x k e changes alive first later kept watched rows =
    let first_x : judged ≡ judged_from x now = first ∙ ap (λ (y : KeptQuery). judged_from y now) (sym e) in
    subst (λ (y : KeptQuery). AreNewRows w grows object class now y changes) e
    (alive_rows w grows object class now lo from x changes alive
    (λ t h. later t (subst (λ (n : ℕ). n ≤ t) (sym first_x) h))
    (λ t told. kept_back x.kind (reach x.query.formula) x.entry now from t (λ is. kept is ∙ first_x) watched told)
    rows)

-- it looks as often as the ticks that are judged ask
pub judged_within : (c : Catalog) (now class old new lo judged : ℕ) (x k : KeptQuery) → x ≡ k → now ≤ x.expiry → judged ≡ judged_from k now →
    lo ≡ max x.entry judged → new ≤ old + change_reads c x.query (x.expiry + 1 - lo) class → new ≤ old + judged_reads c now class k
judged_within c now class old new lo judged x k e alive first is most =
    let at : lo ≡ max x.entry (judged_from x now) =
    is ∙ ap (max x.entry) (first ∙ ap (λ (y : KeptQuery). judged_from y now) (sym e)) in
    let whole : judged_reads c now class x ≡ change_reads c x.query (x.expiry + 1 - lo) class =
    ap (λ b. if b then change_reads c x.query (x.expiry + 1 - max x.entry (judged_from x now)) class else 0) (is_alive now x.expiry alive)
    ∙ ap (λ n. change_reads c x.query (x.expiry + 1 - n) class) (sym at) in
    subst (λ (y : KeptQuery). new ≤ old + judged_reads c now class y) e (omega (arith, most, whole))
  where
    is_alive : (n h : ℕ) → n ≤ h → nat_le n h ≡ true
    is_alive n h l = grind (arith, nat_tests, l)

module _ (s : Contents) (id class : ℕ) (its : class ≡ class_in s id) (k : KeptQuery) (is : IsKeptQuery k) (old : Catalog) (before : ExtendsCatalog id old (catalog_of s))
    (have : HaveObjectsOf old k.query.classes k.columns) (grows : Bool) (classes : List ℕ) (same : classes ≡ k.query.classes) (cs : List Column)
    (own : cs ≡ k.columns) (count : ℕ) (many : count ≡ length (ids_of (catalog_of s) class)) (lacking : grows ≡ list_any (lacks_objects classes class count) cs) where
  pub renewed_objects : HaveObjectsWith (catalog_of s) grows class k.query.classes id k.columns
  renewed_objects =
      have_with s old id before k.query.classes class its grows k.columns have (variable_of_query k is)
      (lack_tells s old id before k.query.classes class its grows k.columns have (lacking ∙ (λ i. list_any (lacks_objects (same i) class (many i)) (own i))))

  pub renewed_room : (1 ≤ capacity_of (catalog_of s).classes class → count ≤ capacity_of (catalog_of s).classes class) →
      HaveCapacitiesOf (catalog_of s) k.query.classes k.columns → grows ≡ true → HaveRoomFor class k.query.classes k.columns
  renewed_room room capacities yes_grows =
      have_room (catalog_of s) grows class k.query.classes id count (sym many) room k.columns renewed_objects capacities is.counted yes_grows
