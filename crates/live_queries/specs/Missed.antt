-- An object that was written, and queries that it leaves as they are since it can't be where they need it.
use Rattle.std.specs.Prelude.{◌≡◌, ⊤, ℕ, ◌<◌, ◌==◌, false, Option, None, Some, [], ◌∷◌, length, slice_index}
use Rattle.std.specs.List.{list_any}
use Rattle.history.specs.Catalog.{ids_of}
use Rattle.object_store.specs.Contents.{Contents, catalog_of}
use Rattle.narrowing.specs.Whereabouts.{StaysInArea}
use Rattle.live_queries.specs.declared.sight.Sight.{Sight}
use Rattle.live_queries.specs.declared.sight.Seen.{Seen}
use Rattle.live_queries.specs.declared.written.Written.{Written}
use Rattle.live_queries.specs.Asked.{class_in}
use Rattle.live_queries.specs.Current.{row_at}
use Rattle.live_queries.specs.Kept.{KeptQuery}
use Rattle.live_queries.specs.Written.{lacks_objects}

-- it is one of the store's, with its class, how many objects that has, and its place among them
pub record IsOfContents (s : Contents) (o : Written) : Type 0 where
  pub there : o.id < length s.objects
  pub class : o.class ≡ class_in s o.id
  pub count : o.count ≡ length (ids_of (catalog_of s) o.class)
  pub place : (p : ℕ) → p < o.count → (p == o.place) ≡ (slice_index (ids_of (catalog_of s) o.class) p == o.id)

-- a query has one variable, of the object's class, with all objects of the class, and the row of this one is empty
pub record IsClearOf (o : Written) (k : KeptQuery) : Type 0 where
  pub alone : k.query.classes ≡ o.class ∷ []
  pub one : length k.columns ≡ 1
  pub all : list_any (lacks_objects k.query.classes o.class o.count) k.columns ≡ false
  pub clear : (t : ℕ) → row_at k o.place t ≡ false

-- where an object was seen it is, over the window that was looked at
abbrev pub IsSeen : Contents → ℕ → Option Seen → Type 0
IsSeen s id None = ⊤
IsSeen s id (Some seen) = StaysInArea s id seen.area seen.over.lo seen.over.hi

abbrev pub IsSightOf : Contents → ℕ → Sight → Type 0
IsSightOf s id sight = IsSeen s id sight.seen
