-- A query that was judged, and what it is once it is registered.
use Rattle.std.specs.Prelude.{◌≡◌, ℕ, List, ◌++◌, None, Result, OnErr, OnOk}
use Rattle.formula.specs.Resolved.{IsResolved}
use Rattle.formula.specs.Tree.{ResolvedQuery}
use Rattle.meaning.specs.Fits.{FitsItsClasses}
use Rattle.ftl_parser.specs.Tree.{query_view}
use Rattle.line_meaning.specs.Ask.{query_in}
use Rattle.line_meaning.specs.Changes.{answer_text}
use Rattle.line_meaning.specs.QueryFault.{register_refusal}
use Rattle.line_meaning.specs.Registry.{registration}
use Rattle.live_queries.specs.Kept.{KeptQuery}
use Rattle.live_queries.specs.Registering.{AddsQuery}
use Rattle.database.specs.declared.database.Database.{Database}
use Rattle.database.specs.Keeping.{clock_of, world_of_database}
use Rattle.registry.specs.declared.registering.Request.{Request}
use Rattle.registry.specs.Registers.{info_for}
use Rattle.registry.specs.Standing.{known_of}

-- by number it is what was asked for, and nothing refuses that it is registered
pub record IsRegistrable (d : Database) (live : List KeptQuery) (r : Request) (q : ResolvedQuery) : Type 0 where
  pub query : q ≡ query_in (world_of_database d) (query_view r.query.now)
  pub sound : IsResolved q
  pub fits : FitsItsClasses (world_of_database d) q
  pub right : register_refusal (known_of d live) r.name.now r.span (query_view r.query.now) ≡ None

-- it is registered from now on, after the others, and its answer is written; or no query more is registered
pub record Registers {E : Type 0} (d : Database) (r : Request) (q : ResolvedQuery) (old new : List KeptQuery) (before after : List ℕ)
    (result : Result (Unit {0}) E) : Type 0 where
  pub added : OnOk result (AddsQuery (world_of_database d) (clock_of d) (info_for r.kind (clock_of d) r.name.now r.span) q old new)
  pub told : OnOk result (after ≡ before ++ answer_text (world_of_database d) (clock_of d)
      (registration r.kind (world_of_database d) (clock_of d) r.name.now r.span (query_view r.query.now)))
  pub err : OnErr result (new ≡ old)
