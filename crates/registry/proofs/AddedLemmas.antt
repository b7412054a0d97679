-- A query that is registered after the others, and taken away again.
use Rattle.std.proofs.Common.{◌≡◌, ℕ, ◌+◌, ◌-◌, ◌≤◌, Bool, true, false, not, Option, None, Some, List, [], ◌∷◌, ◌++◌, map, refl, sym, ap, subst, ◌∙◌, arith, if◌then◌else◌}
use Rattle.std.specs.Prelude.{All, cond, is_some}
use Rattle.std.specs.List.{filter, find, list_any}
use Rattle.std.specs.Option.{option_map, option_map_or, option_or}
use Rattle.std.specs.Str.{bytes_eq}
use Rattle.std.proofs.lemmas.Bool.{or_parts}
use Rattle.std.proofs.lemmas.List.{append-nil}
use Rattle.std.proofs.lemmas.List.Elements.{All-push, filter-append}
use Rattle.std.proofs.lemmas.List.Folds.{find-append}
use Rattle.geometry.specs.Region.{Region}
use Rattle.history.specs.World.{World}
use Rattle.formula.specs.declared.kind.QueryKind.{QueryKind}
use Rattle.formula.specs.Tree.{ResolvedQuery}
use Rattle.meaning.specs.Reads.{query_reads, sizes_of}
use Rattle.object_store.specs.Contents.{Contents, history_of}
use Rattle.ftl_parser.specs.Tree.{QueryTree}
use Rattle.line_meaning.specs.Ask.{query_in}
use Rattle.line_meaning.specs.Changes.{answer_text}
use Rattle.line_meaning.specs.Looks.{most_reads}
use Rattle.line_meaning.specs.Registry.{registration, registration_named}
use Rattle.live_queries.specs.Asked.{FitsWorld}
use Rattle.live_queries.specs.Current.{IsCurrentFor}
use Rattle.live_queries.specs.Kept.{KeptQuery}
use Rattle.live_queries.specs.Registering.{AddsQuery}
use Rattle.live_queries.specs.Told.{Info, query_named}
use Rattle.database.specs.declared.database.Database.{Database}
use Rattle.database.specs.Keeping.{clock_of, world_of_database}
use Rattle.registry.specs.Registers.{info_for}
use Rattle.registry.specs.Standing.{Stand, registration_of}
use Rattle.registry.proofs.NameLemmas.{any_found, named_either, query_is}
use Rattle.exact.proofs.Lists.{bytes_eq_refl}

abbrev is_named : List ℕ → KeptQuery → Bool
is_named name k = bytes_eq k.name name

-- ---- none has the name

none_kept : (name : List ℕ) (live : List KeptQuery) → list_any (is_named name) live ≡ false → filter (λ k. not (is_named name k)) live ≡ live
none_kept name [] none = refl
none_kept name (k ∷ live) none =
    let parts = or_parts (is_named name k) (list_any (is_named name) live) none in
    ap (λ b. if not b then k ∷ filter (λ q. not (is_named name q)) live else filter (λ q. not (is_named name q)) live) parts.0
    ∙ ap (λ ks. k ∷ ks) (none_kept name live parts.1)

not_found : (found : Option KeptQuery) → is_some found ≡ false → found ≡ None
not_found None none = refl
not_found (Some k) none = absurd (cc none)

-- what is registered in the store and the regions of a database at its clock's tick
pub same_adds : (d : Database) (s : Contents) (r : List Region) (now : ℕ) (kind : QueryKind) (name : List ℕ) (span : ℕ) (q : ResolvedQuery)
    (old new : List KeptQuery) → s ≡ d.store → r ≡ d.regions → now ≡ clock_of d →
    AddsQuery (record { history = history_of s; regions = r }) now (info_for kind now name span) q old new →
    AddsQuery (world_of_database d) (clock_of d) (info_for kind (clock_of d) name span) q old new
same_adds d s r now kind name span q old new store regions clock adds =
    subst (λ (n : ℕ). AddsQuery (world_of_database d) n (info_for kind n name span) q old new) clock
    (subst (λ (rs : List Region). AddsQuery (record { history = history_of d.store; regions = rs }) now (info_for kind now name span) q old new) regions
    (subst (λ (t : Contents). AddsQuery (record { history = history_of t; regions = r }) now (info_for kind now name span) q old new) store adds))

module _ (d : Database) (name : List ℕ) (kind : QueryKind) (span : ℕ) (q : ResolvedQuery) (old new : List KeptQuery)
    (adds : AddsQuery (world_of_database d) (clock_of d) (info_for kind (clock_of d) name span) q old new) where
  added_name : adds.added.name ≡ name
  added_name = ap (λ (i : Info). i.name) adds.is.info

  added_is_named : is_named name adds.added ≡ true
  added_is_named = ap (λ n. bytes_eq n name) added_name ∙ bytes_eq_refl name

  -- the queries with the added one stand
  pub still_stand : Stand d old → Stand d new
  still_stand stand = record {
    current = subst (All (IsCurrentFor (world_of_database d) (clock_of d))) (sym adds.list)
        (All-push (IsCurrentFor (world_of_database d) (clock_of d)) old adds.added stand.current adds.is.current);
    fits = subst (All (FitsWorld (world_of_database d))) (sym adds.list)
        (All-push (FitsWorld (world_of_database d)) old adds.added stand.fits adds.is.fits);
    entered = subst (All (λ (k : KeptQuery). k.entry ≤ clock_of d)) (sym adds.list)
        (All-push (λ (k : KeptQuery). k.entry ≤ clock_of d) old adds.added stand.entered entered);
  }
    where
      entered : adds.added.entry ≤ clock_of d
      entered = let e : adds.added.entry ≡ clock_of d = ap (λ (i : Info). i.entry) adds.is.info in omega (arith, e)

  module _ (untaken : list_any (λ k. bytes_eq name k.name) old ≡ false) where
    none : list_any (is_named name) old ≡ false
    none = named_either old name ∙ untaken

    -- it is the query of its name
    found : query_named new name ≡ Some adds.added
    found =
        ap (λ ks. find (is_named name) ks) adds.list
        ∙ find-append (is_named name) old (adds.added ∷ [])
        ∙ (λ i. option_or (not_found (find (is_named name) old) (sym (any_found (is_named name) old) ∙ none) i)
        (cond (added_is_named i) (Some adds.added) None))

    added_answer : (tree : QueryTree) → q ≡ query_in (world_of_database d) tree →
        option_map_or (answer_text (world_of_database d) (clock_of d)) (registration_named (map registration_of new) name) []
        ≡ answer_text (world_of_database d) (clock_of d) (registration kind (world_of_database d) (clock_of d) name span tree)
    added_answer tree is =
        ap (λ o. option_map_or (answer_text (world_of_database d) (clock_of d)) o []) (query_is new name ∙ ap (option_map registration_of) found)
        ∙ (λ i. answer_text (world_of_database d) (clock_of d) (record {
          name = (adds.is.info i).name;
          query = record { kind = (adds.is.info i).kind; query = (adds.is.query ∙ is) i; entry = (adds.is.info i).entry; expiry = (adds.is.info i).expiry };
        }))

    -- the text with its answer
    pub added_told : (tree : QueryTree) → q ≡ query_in (world_of_database d) tree → (before after : List ℕ) →
        after ≡ before ++ option_map_or (answer_text (world_of_database d) (clock_of d)) (registration_named (map registration_of new) name) [] →
        after ≡ before ++ answer_text (world_of_database d) (clock_of d) (registration kind (world_of_database d) (clock_of d) name span tree)
    added_told tree is before after told = told ∙ ap (λ text. before ++ text) (added_answer tree is)

    pub taken_away : filter (λ k. not (bytes_eq k.name name)) new ≡ old
    taken_away =
        ap (λ ks. filter (λ k. not (is_named name k)) ks) adds.list
        ∙ filter-append (λ k. not (is_named name k)) old (adds.added ∷ [])
        ∙ (λ i. none_kept name old none i ++ (if not (added_is_named i) then adds.added ∷ [] else []))
        ∙ append-nil old

-- ---- looks at timelines

pub same_looks : (w : World) (now span : ℕ) (q : ResolvedQuery) (tree : QueryTree) → q ≡ query_in w tree →
    query_reads (sizes_of w.history.catalog q) (now + span + 1 - now) q ≡ most_reads w span tree
same_looks w now span q tree is =
    let ticks : now + span + 1 - now ≡ span + 1 = omega arith in
    λ i. query_reads (sizes_of w.history.catalog (is i)) (ticks i) (is i)
