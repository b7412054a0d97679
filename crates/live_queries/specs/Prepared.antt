-- What a write makes of each registered query, before and after it is made.
use Rattle.std.specs.Prelude.{◌≡◌, ⊤, ℕ, ◌<◌, ◌==◌, Bool, true, false, ◌&&◌, List, [], ◌∷◌, ◌++◌, length, slice_get, if◌then◌else◌}
use Rattle.std.specs.Option.{option_map_or}
use Rattle.tick_set.specs.Runs.{spans_have}
use Rattle.tick_set.specs.declared.spans.Span.{Span}
use Rattle.history.specs.World.{World}
use Rattle.kept_rows.specs.declared.change.Change.{Change}
use Rattle.kept_rows.specs.Changes.{AreReady, AreRising, rows_after}
use Rattle.kept_rows.specs.Numbers.{size_of}
use Rattle.live_queries.specs.declared.fresh.Renewal.{Renewal}
use Rattle.live_queries.specs.Columns.{Column, HaveObjectsOf, column_variables}
use Rattle.live_queries.specs.Current.{row_at}
use Rattle.live_queries.specs.Kept.{KeptQuery}
use Rattle.live_queries.specs.Renewed.{AreRenewedRows, IsSameRequest}

-- what is prepared of a write to an object of a class, query by query
pub record Prepared : Type 0 where
  pub object : ℕ
  pub class : ℕ
  pub renewals : List Renewal

-- whether a variable is of the class
abbrev pub is_of_class : List ℕ → ℕ → ℕ → Bool
is_of_class classes class v = option_map_or (λ k. k == class) (slice_get classes v) false

-- each variable of the class has room for one object more
abbrev pub HaveRoomFor : ℕ → List ℕ → List Column → Type 0
HaveRoomFor class classes [] = ⊤
HaveRoomFor class classes (c ∷ cs) =
    (is_of_class classes class c.variable ≡ true → c.numbers.count < c.numbers.capacity) × HaveRoomFor class classes cs

-- a column with an object more, or as it is
pub record IsColumnWith (takes : Bool) (id : ℕ) (c d : Column) : Type 0 where
  pub variable : d.variable ≡ c.variable
  pub capacity : d.numbers.capacity ≡ c.numbers.capacity
  pub count : d.numbers.count ≡ length d.ids
  pub ids : d.ids ≡ (if takes then c.ids ++ id ∷ [] else c.ids)

-- the columns of the class with the object more, where there is one
abbrev pub AreColumnsWith : Bool → ℕ → List ℕ → ℕ → List Column → List Column → Type 0
AreColumnsWith grows class classes id [] [] = ⊤
AreColumnsWith grows class classes id [] (d ∷ ds) = ⊥
AreColumnsWith grows class classes id (c ∷ cs) [] = ⊥
AreColumnsWith grows class classes id (c ∷ cs) (d ∷ ds) =
    IsColumnWith (grows && is_of_class classes class c.variable) id c d × AreColumnsWith grows class classes id cs ds

-- it can be made without memory
pub record IsReadyFor (class : ℕ) (k : KeptQuery) (r : Renewal) : Type 0 where
  pub ready : AreReady spans_have k.pages r.changes
  pub rising : AreRising (size_of (column_variables k.columns)) r.changes
  pub room : r.grows ≡ true → HaveRoomFor class k.query.classes k.columns

-- one for each query
abbrev pub ArePrepared : ℕ → List KeptQuery → List Renewal → Type 0
ArePrepared class [] [] = ⊤
ArePrepared class [] (r ∷ rs) = ⊥
ArePrepared class (k ∷ ks) [] = ⊥
ArePrepared class (k ∷ ks) (r ∷ rs) = IsReadyFor class k r × ArePrepared class ks rs

abbrev pub IsPrepared : List KeptQuery → Prepared → Type 0
IsPrepared live f = ArePrepared f.class live f.renewals

-- the rows of a query that these changes leave are renewed, by the columns with the object
abbrev pub AreNewRows : World → Bool → ℕ → ℕ → ℕ → KeptQuery → List (Change (List Span)) → Type 0
AreNewRows w grows object class now k changes =
    (ds : List Column) → AreColumnsWith grows class k.query.classes object k.columns ds →
    AreRenewedRows w object now k ds (rows_after spans_have changes (row_at k))

-- it is what a write to an object of a class at tick `now` makes of a query in a world, by the columns with the object
pub record IsFreshFor (w : World) (object class now : ℕ) (k : KeptQuery) (r : Renewal) : Type 0 where
  pub objects : (ds : List Column) → AreColumnsWith r.grows class k.query.classes object k.columns ds →
      HaveObjectsOf w.history.catalog k.query.classes ds
  pub rows : AreNewRows w r.grows object class now k r.changes

-- one for each query
abbrev pub AreFreshFor : World → ℕ → ℕ → ℕ → List KeptQuery → List Renewal → Type 0
AreFreshFor w object class now [] [] = ⊤
AreFreshFor w object class now [] (r ∷ rs) = ⊥
AreFreshFor w object class now (k ∷ ks) [] = ⊥
AreFreshFor w object class now (k ∷ ks) (r ∷ rs) =
    IsFreshFor w object class now k r × AreFreshFor w object class now ks rs

-- it stands after what is made of other queries
pub record AddsRenewal (w : World) (object class now : ℕ) (k : KeptQuery) (old new : List Renewal) : Type 0 where
  pub added : Renewal
  pub ready : IsReadyFor class k added
  pub fresh : IsFreshFor w object class now k added
  pub list : new ≡ old ++ added ∷ []

-- it was made of a query
pub record IsMade (object class : ℕ) (r : Renewal) (old new : KeptQuery) : Type 0 where
  pub head : IsSameRequest old new
  pub columns : AreColumnsWith r.grows class old.query.classes object old.columns new.columns
  pub rows : (c t : ℕ) → row_at new c t ≡ rows_after spans_have r.changes (row_at old) c t

abbrev pub AreMade : ℕ → ℕ → List Renewal → List KeptQuery → List KeptQuery → Type 0
AreMade object class [] [] [] = ⊤
AreMade object class (r ∷ rs) (k ∷ old) (k' ∷ new) = IsMade object class r k k' × AreMade object class rs old new
AreMade object class rs old new = ⊥
