-- The lines of what a change changes for the registered queries.
use Rattle.std.proofs.Common.{◌≡◌, ℕ, ◌+◌, ◌≤◌, Bool, true, false, ◌||◌, List, [], ◌∷◌, ◌++◌, length, map, refl, sym, ap, ◌∙◌, append-nil, if◌then◌else◌}
use Rattle.std.specs.Prelude.{All}
use Rattle.std.specs.List.{filter, flat_map}
use Rattle.std.proofs.lemmas.Grind.{flat_map-append}
use Rattle.std.proofs.lemmas.List.{nil_from_length}
use Rattle.std.proofs.lemmas.List.Elements.{All-head, All-tail}
use Rattle.std.proofs.lemmas.List.Folds.{flat_map-map}
use Rattle.tick_set.specs.Runs.{runs_of, spans_have}
use Rattle.tick_set.specs.Ticks.{between, listed}
use Rattle.tick_set.specs.declared.spans.Span.{Span}
use Rattle.kept_rows.specs.declared.change.Change as row_changes
use Rattle.kept_rows.specs.Changes.{rows_after}
use Rattle.history.specs.Catalog.{Catalog}
use Rattle.history.specs.World.{World}
use Rattle.meaning.specs.Answer.{has_ticks}
use Rattle.meaning.specs.Binding.{tuples}
use Rattle.meaning.specs.Registered.{Change, RegisteredQuery, change_of, changes_of_tick, changes_of_write, first_tick, gained, holds_for, is_change, stands_at}
use Rattle.command_text.specs.Tree
use Rattle.command_text.specs.Tree.{CommandTree}
use Rattle.line_meaning.specs.Answering.{kept_lines}
use Rattle.line_meaning.specs.Changes.{change_text, tick_lines, write_lines}
use Rattle.line_meaning.specs.Registry.{Known, Registration}
use Rattle.live_queries.specs.declared.fresh.Renewal.{Renewal}
use Rattle.live_queries.specs.Current.{AreCurrent, IsCurrentFor, row_at}
use Rattle.live_queries.specs.Kept.{IsKeptQuery, KeptQuery, registered_query}
use Rattle.live_queries.specs.Prepared.{AreFreshFor, AreMade, IsFreshFor, IsMade}
use Rattle.live_queries.specs.Renewed.{IsRenewed}
use Rattle.live_queries.specs.Told.{Told, changes_of, moves_of, passings_of, told_changes}
use Rattle.registry.specs.Moves.{told_change_text, told_moves_text}
use Rattle.registry.specs.Standing.{registration_of}
use Rattle.database.specs.Written.{writes_object}
use Rattle.exact.proofs.Truths.{and_not}
use Rattle.exact.proofs.Items.{filter_false}

told_lines : (c : Catalog) (name : List ℕ) (changes : List Change) → told_moves_text c (told_changes name changes) ≡ flat_map (change_text c name) changes
told_lines c name changes = flat_map-map (told_change_text c) (λ (x : Change). record { query = name; change = x }) changes

-- what one query is told, and what the others are
both_lines : (c : Catalog) (name : List ℕ) (moves more : List Told) (changes : List Change) (rest : List ℕ) → moves ≡ told_changes name changes →
    told_moves_text c more ≡ rest → told_moves_text c (moves ++ more) ≡ flat_map (change_text c name) changes ++ rest
both_lines c name moves more changes rest first others =
    flat_map-append (told_change_text c) moves more
    ∙ (λ i. ap (told_moves_text c) first i ++ others i)
    ∙ ap (λ ls. ls ++ rest) (told_lines c name changes)

-- ---- of time that passes

module _ (w : World) (c : Catalog) (is : c ≡ w.history.catalog) (before now : ℕ) (upto : before ≤ now)
    (passed : (k : KeptQuery) → IsKeptQuery k → IsCurrentFor w before k → k.entry ≤ before →
    passings_of before now k ≡ told_changes k.name (changes_of_tick w (registered_query k) before now)) where
  pub passings_are : (ks : List KeptQuery) → All IsKeptQuery ks → AreCurrent w before ks → All (λ k. k.entry ≤ before) ks →
      told_moves_text c (flat_map (passings_of before now) ks) ≡ tick_lines w before now (map registration_of ks)
  passings_are [] kept current entered = refl
  passings_are (k ∷ ks) kept current entered =
      both_lines c k.name (passings_of before now k) (flat_map (passings_of before now) ks) (changes_of_tick w (registered_query k) before now)
      (tick_lines w before now (map registration_of ks))
      (passed k (All-head IsKeptQuery k ks kept) (All-head (IsCurrentFor w before) k ks current) (All-head (λ (x : KeptQuery). x.entry ≤ before) k ks entered))
      (passings_are ks (All-tail IsKeptQuery k ks kept) (All-tail (IsCurrentFor w before) k ks current) (All-tail (λ (x : KeptQuery). x.entry ≤ before) k ks entered))
      ∙ ap (λ (d : Catalog). flat_map (change_text d k.name) (changes_of_tick w (registered_query k) before now)
      ++ tick_lines w before now (map registration_of ks)) is

-- ---- of a write

module _ (old new : World) (id class now : ℕ)
    (renews : (r : Renewal) (k k' : KeptQuery) → IsFreshFor new id class now k r → IsMade id class r k k' → IsRenewed new id now k k')
    (tells : (k k' : KeptQuery) → IsKeptQuery k → IsKeptQuery k' → IsCurrentFor old now k → IsRenewed new id now k k' →
    (changes : List (row_changes.Change (List Span))) → ((c t : ℕ) → row_at k' c t ≡ rows_after spans_have changes (row_at k) c t) → k.entry ≤ now →
    moves_of id now k changes ≡ told_changes k.name (changes_of_write old new (registered_query k) now)) where
  pub moves_are : (rs : List Renewal) (ks ks' : List KeptQuery) → All IsKeptQuery ks → All IsKeptQuery ks' → AreCurrent old now ks → All (λ k. k.entry ≤ now) ks →
      AreFreshFor new id class now ks rs → AreMade id class rs ks ks' →
      told_moves_text new.history.catalog (changes_of id now ks rs) ≡ write_lines old new now (map registration_of ks)
  moves_are [] [] ks' kept kept' current entered fresh made = refl
  moves_are (r ∷ rs) [] ks' kept kept' current entered fresh made = absurd fresh
  moves_are [] (k ∷ ks) ks' kept kept' current entered fresh made = absurd fresh
  moves_are (r ∷ rs) (k ∷ ks) [] kept kept' current entered fresh made = absurd made
  moves_are (r ∷ rs) (k ∷ ks) (k' ∷ ks') kept kept' current entered fresh made =
      both_lines new.history.catalog k.name (moves_of id now k r.changes) (changes_of id now ks rs) (changes_of_write old new (registered_query k) now)
      (write_lines old new now (map registration_of ks))
      (tells k k' (All-head IsKeptQuery k ks kept) (All-head IsKeptQuery k' ks' kept') (All-head (IsCurrentFor old now) k ks current)
      (renews r k k' fresh.0 made.0) r.changes made.0.rows (All-head (λ (x : KeptQuery). x.entry ≤ now) k ks entered))
      (moves_are rs ks ks' (All-tail IsKeptQuery k ks kept) (All-tail IsKeptQuery k' ks' kept') (All-tail (IsCurrentFor old now) k ks current)
      (All-tail (λ (x : KeptQuery). x.entry ≤ now) k ks entered) fresh.1 made.1)

-- ---- of a write that leaves the world as it is: none

none_listed : (from e : ℕ) → listed (λ t. false) from e ≡ []
unfolding listed
none_listed from e = filter_false (between from (e + 1))

none_gained : (holds : ℕ → Bool) (from e : ℕ) → gained holds holds from e ≡ []
none_gained holds from e =
    ap (λ (test : ℕ → Bool). runs_of (listed test from e)) (λ i t. and_not (holds t) i) ∙ ap runs_of (none_listed from e)

no_change : (key : List ℕ) (holds : ℕ → Bool) (n from e : ℕ) → is_change (change_of key holds holds n from e) ≡ false
no_change key holds n from e =
    (λ i. has_ticks (none_gained holds from e i) || has_ticks (none_gained holds from e i)
    || and_not (stands_at e holds n) i || and_not (stands_at e holds n) i)

no_changes : (w : World) (r : RegisteredQuery) (n : ℕ) → changes_of_write w w r n ≡ []
no_changes w r n = none (tuples w r.query)
  where
    from : ℕ
    from = first_tick r.kind r.entry n

    same : List ℕ → Change
    same key = change_of key (holds_for w r key) (holds_for w r key) n from r.expiry

    none : (keys : List (List ℕ)) → filter is_change (map same keys) ≡ []
    none [] = refl
    none (key ∷ keys) =
        ap (λ b. if b then same key ∷ filter is_change (map same keys) else filter is_change (map same keys))
        (no_change key (holds_for w r key) n from r.expiry)
        ∙ none keys

pub same_lines : (old new : World) (now : ℕ) (rs : List Registration) → new ≡ old → write_lines old new now rs ≡ []
same_lines old new now rs same = ap (λ (w : World). write_lines old w now rs) same ∙ none rs
  where
    none : (ss : List Registration) → write_lines old old now ss ≡ []
    none [] = refl
    none (s ∷ ss) =
        (λ i. flat_map (change_text old.history.catalog s.name) (no_changes old s.query now i) ++ none ss i)

-- ---- by the command

pub lines_of_write : (old new : Known) (c : CommandTree) → writes_object c ≡ true → kept_lines old new c ≡ write_lines old.world new.world old.now old.live
lines_of_write old new (Tree.Insert class name place sets) write = refl
lines_of_write old new (Tree.Update name place sets) write = refl
lines_of_write old new (Tree.Remove name) write = refl
lines_of_write old new c write = absurd (cc write)

-- ---- where no query is registered

pub nothing_passes : (c : Catalog) (out : List ℕ) (passings : KeptQuery → List Told) (live : List KeptQuery) → length live ≡ 0
    → out ≡ out ++ told_moves_text c (flat_map passings live)
nothing_passes c out passings live none =
    sym (ap (λ (ks : List KeptQuery). out ++ told_moves_text c (flat_map passings ks)) (nil_from_length live none) ∙ append-nil out)
