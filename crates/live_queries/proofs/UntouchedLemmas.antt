-- What a write makes of a query that it doesn't touch: nothing.
use Rattle.std.proofs.Common.{◌≡◌, ℕ, zero, suc, ◌<◌, Bool, true, false, not, ◌&&◌, ◌||◌, Option, None, Some, List, [], ◌∷◌, length, map, refl, sym, ap, subst, ◌∙◌, arith}
use Rattle.std.specs.Prelude.{◌==◌, IfSome, nat_le, nat_lt, slice_index}
use Rattle.std.specs.List.{list_any}
use Rattle.std.proofs.lemmas.Bool.{and_parts, false≢true, or_parts}
use Rattle.std.proofs.lemmas.Bool.Decides.{nat_tests}
use Rattle.std.proofs.lemmas.List.Elements.{All-nil}
use Rattle.tick_set.specs.Runs.{spans_have}
use Rattle.tick_set.specs.declared.spans.Span.{Span}
use Rattle.geometry.specs.Region.{Region}
use Rattle.history.specs.Catalog.{Catalog, ids_of}
use Rattle.formula.specs.Resolved.{are_distinct}
use Rattle.kept_rows.specs.declared.change.Change.{Change}
use Rattle.kept_rows.specs.Changes.{IsReady}
use Rattle.kept_rows.specs.Numbers.{counts}
use Rattle.object_store.specs.Contents.{Contents, catalog_of}
use Rattle.relation.specs.Key.{has_id}
use Rattle.atoms.specs.Asked.{world_in}
use Rattle.live_queries.specs.declared.fresh.Renewal.{Renewal}
use Rattle.live_queries.specs.Asked.{ExtendsCatalog, class_in}
use Rattle.live_queries.specs.Columns.{Column, HaveObjectsOf, column_variables, gives, order_of}
use Rattle.live_queries.specs.Kept.{IsKeptQuery, KeptQuery}
use Rattle.live_queries.specs.Prepared.{AreColumnsWith, IsFreshFor, IsReadyFor, is_of_class}
use Rattle.live_queries.specs.Renewed.{is_judged}
use Rattle.live_queries.specs.Untouched.{TouchesQuery, untouched}
use Rattle.live_queries.specs.Written.{HaveObjectsWith, lacks_objects}
use Rattle.live_queries.proofs.AnewLemmas.{renewed_objects}
use Rattle.live_queries.proofs.GrowLemmas.{objects_with}
use Rattle.live_queries.proofs.JudgedLemmas.{given}
use Rattle.live_queries.proofs.MadeLemmas.{counted, same_order}
use Rattle.live_queries.proofs.OrderLemmas.{among, columns_are, order_below, order_distinct}
use Rattle.live_queries.proofs.PartLemmas.{class_is, variable_of_class}
use Rattle.live_queries.proofs.TargetLemmas.{object_is_of_class}
use Rattle.exact.proofs.Truths.{false_from_not}
use Rattle.exact.proofs.Naturals.{equals_itself, test_below}

-- ---- no variable is of a class that is none of the query's

no_variable : (classes : List ℕ) (class : ℕ) → list_any (λ (c : ℕ). c == class) classes ≡ false → (v : ℕ) → is_of_class classes class v ≡ false
no_variable [] class none v = refl
no_variable (c ∷ classes) class none zero = (or_parts (c == class) (list_any (λ (x : ℕ). x == class) classes) none).0
no_variable (c ∷ classes) class none (suc v) =
    no_variable classes class (or_parts (c == class) (list_any (λ (x : ℕ). x == class) classes) none).1 v

pub none_lacks : (classes : List ℕ) (class count : ℕ) → list_any (λ (c : ℕ). c == class) classes ≡ false → (cs : List Column) →
    list_any (lacks_objects classes class count) cs ≡ false
none_lacks classes class count none [] = refl
none_lacks classes class count none (c ∷ cs) =
    ap (λ b. (b && nat_lt (length c.ids) count) || list_any (lacks_objects classes class count) cs) (no_variable classes class none c.variable)
    ∙ none_lacks classes class count none cs

-- ---- nothing is made

pub untouched_ready : (class : ℕ) (k : KeptQuery) → IsReadyFor class k untouched
untouched_ready class k = record {
  ready = All-nil (IsReady spans_have k.pages);
  rising = tt;
  room = λ grows. absurd (false≢true grows);
}

module _ (s : Contents) (regions : List Region) (id class now : ℕ) (k : KeptQuery) (have : HaveObjectsWith (catalog_of s) false class k.query.classes id k.columns) where
  abbrev Made : List Column → Type 0
  Made ds = AreColumnsWith false class k.query.classes id k.columns ds

  untouched_fresh : ((ds : List Column) → Made ds → (c : ℕ) → is_judged id now k ds c ≡ true → ⊥) →
      IsFreshFor (world_in s regions) id class now k untouched
  untouched_fresh never = record {
    objects = λ ds made. objects_with (catalog_of s) false class k.query.classes id k.columns ds made have;
    rows = λ ds made. record {
      stay = λ c other t. refl;
      past = λ c judged t from before. refl;
      anew = λ c judged t from later. absurd (never ds made c judged);
    };
  }

  -- of a query whose expiry is before the write
  pub expired_fresh : k.expiry < now → IsFreshFor (world_in s regions) id class now k untouched
  expired_fresh past =
      untouched_fresh (λ ds made c judged.
      false≢true (sym (is_past now k.expiry past) ∙ (and_parts (nat_le now k.expiry) (counts (column_variables ds) c && gives ds id c) judged).0))
    where
      is_past : (m e : ℕ) → e < m → nat_le m e ≡ false
      is_past m e h = grind (arith, nat_tests, h)

  -- of a query without a variable of the object's class: none of its bindings has the object
  pub other_fresh : class ≡ class_in s id → IsKeptQuery k → list_any (λ (c : ℕ). c == class) k.query.classes ≡ false →
      IsFreshFor (world_in s regions) id class now k untouched
  other_fresh its is none = untouched_fresh never
    where
      never : (ds : List Column) → Made ds → (c : ℕ) → is_judged id now k ds c ≡ true → ⊥
      never ds made c judged =
          let holding = and_parts (counts (column_variables ds) c) (gives ds id c)
          (and_parts (nat_le now k.expiry) (counts (column_variables ds) c && gives ds id c) judged).1 in
          let order : map (λ (d : Column). d.variable) ds ≡ order_of k.query = same_order false class k.query.classes id k.columns ds made ∙ is.order in
          let found = given ds id c (ap are_distinct order ∙ order_distinct k.query is.resolved) holding.1 in
          let of : ℕ = slice_index k.query.classes found.variable in
          let below : found.variable < length k.query.classes =
          order_below k.query is.resolved found.variable
          (ap (λ (vs : List ℕ). among vs found.variable) (sym order) ∙ sym (columns_are ds found.variable) ∙ found.there) in
          let same : class_in s id ≡ of =
          class_is s of id
          (ap (has_id (ids_of (catalog_of s) of)) (sym found.object)
          ∙ object_is_of_class (world_in s regions) k.query.classes ds c (counted false class k.query.classes id k.columns ds made)
          (objects_with (catalog_of s) false class k.query.classes id k.columns ds made have) holding.0 found.variable found.there) in
          false≢true (sym (no_variable k.query.classes class none found.variable)
          ∙ variable_of_class k.query.classes class found.variable below (ap (λ n. of == n) (its ∙ same) ∙ equals_itself of))

-- ---- what the tests of a query tell

abbrev one_is : ℕ → List ℕ → Bool
one_is class classes = list_any (λ (c : ℕ). c == class) classes

module _ (s : Contents) (regions : List Region) (id class now : ℕ) (its : class ≡ class_in s id) (k : KeptQuery) (is : IsKeptQuery k) (old : Catalog)
    (before : ExtendsCatalog id old (catalog_of s)) (have : HaveObjectsOf old k.query.classes k.columns) (classes : List ℕ) (same : classes ≡ k.query.classes) where
  -- none of its classes is this one
  pub other_untouched : (has : Bool) → has ≡ one_is class classes → has ≡ false → IsFreshFor (world_in s regions) id class now k untouched
  other_untouched has tells none =
      let missing : one_is class k.query.classes ≡ false = ap (one_is class) (sym same) ∙ sym tells ∙ none in
      other_fresh s regions id class now k
      (renewed_objects s id class its k is old before have false k.query.classes refl k.columns refl (length (ids_of (catalog_of s) class)) refl
      (sym (none_lacks k.query.classes class (length (ids_of (catalog_of s) class)) missing k.columns)))
      its is missing

  -- its expiry is before the write, and none of its columns gets an object
  pub expired_untouched : (grows : Bool) (cs : List Column) → cs ≡ k.columns → (count : ℕ) → count ≡ length (ids_of (catalog_of s) class) →
      grows ≡ list_any (lacks_objects classes class count) cs → (nat_lt k.expiry now && not grows) ≡ true → IsFreshFor (world_in s regions) id class now k untouched
  expired_untouched grows cs own_columns count many lacking test =
      let parts = and_parts (nat_lt k.expiry now) (not grows) test in
      let unchanged : grows ≡ false = false_from_not grows parts.1 in
      expired_fresh s regions id class now k
      (renewed_objects s id class its k is old before have false classes same cs own_columns count many (sym unchanged ∙ lacking))
      (is_less k.expiry now parts.0)
    where
      is_less : (e n : ℕ) → nat_lt e n ≡ true → e < n
      is_less e n h = grind (arith, nat_tests, h)

pub is_touched : (class now : ℕ) (k : KeptQuery) (classes : List ℕ) → classes ≡ k.query.classes → (has : Bool) → has ≡ one_is class classes →
    has ≡ true → (r : Renewal) → (nat_lt k.expiry now && not r.grows) ≡ false → TouchesQuery class now k r
is_touched class now k classes same has tells there r test = record {
  variable = ap (one_is class) (sym same) ∙ sym tells ∙ there;
  runs = λ past. gets k.expiry r.grows test past;
}
  where
    gets : (e : ℕ) (g : Bool) → (nat_lt e now && not g) ≡ false → e < now → g ≡ true
    gets e true t past = refl
    gets e false t past = absurd (false≢true (sym t ∙ ap (λ b. b && true) (test_below e now past)))

-- ---- a query of which nothing changes

pub none_made : (grows : Bool) (changes : List (Change (List Span))) → grows ≡ false → changes ≡ [] →
    untouched ≡ record { grows = grows; changes = changes }
none_made grows changes same none = sym (λ i. record { grows = same i; changes = none i })

pub some_touched : (class now : ℕ) (k : KeptQuery) (o : Option Renewal) (x : Renewal) → IfSome o (λ r. r ≡ x) → TouchesQuery class now k x →
    IfSome o (TouchesQuery class now k)
some_touched class now k None x is touched = tt
some_touched class now k (Some r) x is touched = subst (TouchesQuery class now k) (sym is) touched
