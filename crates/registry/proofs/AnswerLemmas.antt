-- The answer of the registered query of a name.
use Rattle.std.proofs.Common.{◌≡◌, ℕ, ◌≤◌, true, Option, None, Some, List, [], length, map, refl, sym, ap, subst, ◌∙◌}
use Rattle.std.specs.Prelude.{All, Err, Ok, Result, unwrap_or}
use Rattle.std.specs.Result.{IsErrAnd}
use Rattle.std.specs.List.{list_all}
use Rattle.std.specs.Option.{option_map, option_map_or}
use Rattle.std.specs.Str.{bytes_eq}
use Rattle.history.specs.World.{World}
use Rattle.meaning.specs.Answer.{Row}
use Rattle.meaning.specs.Registered.{registered_answer}
use Rattle.command_text.specs.declared.fault.CommandFault.{CommandFault}
use Rattle.command_text.specs.declared.fault.CommandFault.TheVariants as faults
use Rattle.line_meaning.specs.Changes.{answer_text}
use Rattle.line_meaning.specs.QueryFault.{unregistered_refusal}
use Rattle.line_meaning.specs.Registry.{registration_named}
use Rattle.line_meaning.specs.Reply.{rows_text}
use Rattle.live_queries.specs.Current.{IsCurrentFor}
use Rattle.live_queries.specs.Kept.{IsKeptQuery, KeptQuery, registered_query}
use Rattle.live_queries.specs.Told.{answer_of, query_named}
use Rattle.database.specs.declared.database.Database.{Database}
use Rattle.database.specs.Keeping.{clock_of, world_of_database}
use Rattle.database.specs.Rows.{has_objects}
use Rattle.database.specs.Telling.{IsStoppedBy}
use Rattle.registry.specs.Registers.{Shows}
use Rattle.registry.specs.Standing.{Stand, known_of, registration_of}
use Rattle.registry.proofs.KeyLemmas.{answer_below}
use Rattle.registry.proofs.NameLemmas.{found_is, query_is}

-- that a query which is current tells its answer, as the law of registered queries says
abbrev pub TellAnswers : Type 0
TellAnswers = (w : World) (k : KeptQuery) → IsKeptQuery k → (now : ℕ) → IsCurrentFor w now k → k.entry ≤ now →
    answer_of k now ≡ registered_answer w (registered_query k) now

-- these are the rows of the query of a name
pub record AreTold (live : List KeptQuery) (name : List ℕ) (now : ℕ) (rows : List Row) : Type 0 where
  pub query : KeptQuery
  pub named : query_named live name ≡ Some query
  pub told : rows ≡ answer_of query now

pub rows_of_name : (live : List KeptQuery) (name : List ℕ) (now : ℕ) (rows : List Row) →
    Some rows ≡ option_map (λ k. answer_of k now) (query_named live name) → AreTold live name now rows
rows_of_name live name now rows is = of (query_named live name) refl is
  where
    of : (found : Option KeptQuery) → query_named live name ≡ found → Some rows ≡ option_map (λ k. answer_of k now) found → AreTold live name now rows
    of None named e = absurd (cc e)
    of (Some k) named e = record { query = k; named = named; told = ap (λ o. unwrap_or o rows) e }

none_named : (live : List KeptQuery) (name : List ℕ) (now : ℕ) → None ≡ option_map (λ k. answer_of k now) (query_named live name) →
    query_named live name ≡ None
none_named live name now is = of (query_named live name) is
  where
    of : (found : Option KeptQuery) → None ≡ option_map (λ k. answer_of k now) found → found ≡ None
    of None e = refl
    of (Some k) e = absurd (cc e)

module _ (d : Database) (live : List KeptQuery) (name : List ℕ) where
  module _ (rows : List Row) (are : AreTold live name (clock_of d) rows) where
    module _ (stand : Stand d live) (kept : All IsKeptQuery live) where
      is : IsKeptQuery are.query
      is = found_is IsKeptQuery (λ k. bytes_eq k.name name) are.query live are.named kept

      current : IsCurrentFor (world_of_database d) (clock_of d) are.query
      current = found_is (IsCurrentFor (world_of_database d) (clock_of d)) (λ k. bytes_eq k.name name) are.query live are.named stand.current

      pub rows_below : list_all (has_objects (length (world_of_database d).history.catalog.objects)) rows ≡ true
      rows_below =
          ap (list_all (has_objects (length (world_of_database d).history.catalog.objects))) are.told
          ∙ answer_below (world_of_database d) (clock_of d) are.query is current

      pub rows_told : TellAnswers →
          rows_text (world_of_database d).history.catalog (clock_of d) rows
          ≡ option_map_or (answer_text (world_of_database d) (clock_of d)) (registration_named (map registration_of live) name) []
      rows_told law =
          ap (rows_text (world_of_database d).history.catalog (clock_of d))
          (are.told ∙ law (world_of_database d) are.query is (clock_of d) current
          (found_is (λ k. k.entry ≤ clock_of d) (λ k. bytes_eq k.name name) are.query live are.named stand.entered))
          ∙ sym (ap (λ found. option_map_or (answer_text (world_of_database d) (clock_of d)) found [])
          (query_is live name ∙ ap (option_map registration_of) are.named))

  -- no query has the name
  module _ (none : None ≡ option_map (λ k. answer_of k (clock_of d)) (query_named live name)) where
    pub nothing_told : [] ≡ option_map_or (answer_text (world_of_database d) (clock_of d)) (registration_named (map registration_of live) name) []
    nothing_told =
        sym (ap (λ found. option_map_or (answer_text (world_of_database d) (clock_of d)) found [])
        (query_is live name ∙ ap (option_map registration_of) (none_named live name (clock_of d) none)))

-- where memory is out there is a query of the name
pub none_shown : (d : Database) (live : List KeptQuery) (name before after : List ℕ) (answered : Result (Unit {0}) CommandFault) →
    IsErrAnd answered (λ fault. fault ≡ faults.NoMemory) → unregistered_refusal (known_of d live).live name ≡ None →
    Shows d live name before after answered
none_shown d live name before after (Ok u) told none = absurd told
none_shown d live name before after (Err fault) told none =
    subst (λ (f : CommandFault). IsStoppedBy (unregistered_refusal (known_of d live).live name) f) (sym told) none
