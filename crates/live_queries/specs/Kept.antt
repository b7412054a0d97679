-- A registered query with its rows.
use Rattle.std.specs.Prelude.{◌≡◌, ℕ, ◌≤◌, List, All, length, map}
use Rattle.tick_set.specs.declared.spans.Span.{Span}
use Rattle.tick_set.specs.declared.spans.TheConstants.{LAST_TICK}
use Rattle.formula.specs.declared.kind.QueryKind.{QueryKind}
use Rattle.formula.specs.Resolved.{IsResolved}
use Rattle.formula.specs.Tree.{ResolvedQuery}
use Rattle.kept_rows.specs.declared.binding.TheConstants.{BINDING_LIMIT}
use Rattle.kept_rows.specs.Numbers.{size_of}
use Rattle.kept_rows.specs.Rows.{HasRoom}
use Rattle.meaning.specs.Agreement.{SeesItsClasses}
use Rattle.meaning.specs.Registered.{RegisteredQuery}
use Rattle.formula.specs.declared.limits.TheConstants.{QUERY_LIMIT}
use Rattle.live_queries.specs.Columns.{AreCounted, Column, column_variables, order_of}

-- what a contract sees of it. The pages are seen through the rows that they have.
pub record KeptQuery : Type 0 where
  pub name : List ℕ
  pub kind : QueryKind
  pub query : ResolvedQuery
  pub entry : ℕ
  pub expiry : ℕ
  pub columns : List Column
  pub pages : List (List (List Span))

abbrev pub registered_query : KeptQuery → RegisteredQuery
registered_query k = record { kind = k.kind; query = k.query; entry = k.entry; expiry = k.expiry }

-- what each of them is
pub record IsKeptQuery (k : KeptQuery) : Type 0 where
  pub resolved : IsResolved k.query
  pub sees : SeesItsClasses k.query
  pub order : map (λ c. c.variable) k.columns ≡ order_of k.query
  pub counted : AreCounted k.columns
  pub size : size_of (column_variables k.columns) ≤ BINDING_LIMIT
  pub room : HasRoom k.pages (size_of (column_variables k.columns))
  pub window : k.entry ≤ k.expiry
  pub last : k.expiry ≤ LAST_TICK

-- and what is so of all together
pub record AreKept (live : List KeptQuery) : Type 0 where
  pub each : All IsKeptQuery live
  pub few : length live ≤ QUERY_LIMIT
