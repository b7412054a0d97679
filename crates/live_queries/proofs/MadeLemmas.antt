-- A query once what was prepared of a write is made.
use Rattle.std.proofs.Common.{◌≡◌, ℕ, zero, suc, ◌-◌, ◌≤◌, ◌*◌, Bool, ◌+◌, ◌<◌, List, [], ◌∷◌, ◌++◌, length, map, take, drop, refl, sym, ap, ◌∙◌, subst, arith}
use Rattle.std.specs.Prelude.{All}
use Rattle.std.specs.List.{filter}
use Rattle.std.proofs.lemmas.List.Elements.{All-append, All-cons, All-filter, All-nil}
use Rattle.std.proofs.lemmas.List.{length-append}
use Rattle.std.proofs.lemmas.List.Sums.{count_by-le-length, length-filter}
use Rattle.tick_set.specs.Runs.{spans_have}
use Rattle.tick_set.specs.declared.spans.Span.{Span}
use Rattle.tick_set.specs.declared.spans.TheConstants.{SPAN_LIMIT}
use Rattle.kept_rows.specs.Changes.{rows_after}
use Rattle.kept_rows.specs.Numbers.{size_of}
use Rattle.kept_rows.specs.Rows.{row_has}
use Rattle.live_queries.specs.declared.fresh.Renewal.{Renewal}
use Rattle.formula.specs.declared.limits.TheConstants.{QUERY_LIMIT}
use Rattle.live_queries.specs.Columns.{AreCounted, AreSameColumns, Column, column_variables}
use Rattle.live_queries.specs.Kept.{AreKept, IsKeptQuery, KeptQuery}
use Rattle.live_queries.specs.Prepared.{AreColumnsWith, AreMade, ArePrepared, IsMade, IsReadyFor, Prepared}
use Rattle.live_queries.specs.Told.{target_count, target_width}

module _ (grows : Bool) (class : ℕ) (classes : List ℕ) (id : ℕ) where
  pub same_columns : (cs ds : List Column) → AreColumnsWith grows class classes id cs ds → AreSameColumns cs ds
  same_columns [] [] made = tt
  same_columns [] (d ∷ ds) made = made
  same_columns (c ∷ cs) [] made = made
  same_columns (c ∷ cs) (d ∷ ds) made = (made.0.variable, made.0.capacity, same_columns cs ds made.1)

  pub same_order : (cs ds : List Column) → AreColumnsWith grows class classes id cs ds → map (λ c. c.variable) ds ≡ map (λ c. c.variable) cs
  same_order [] [] made = refl
  same_order [] (d ∷ ds) made = absurd made
  same_order (c ∷ cs) [] made = absurd made
  same_order (c ∷ cs) (d ∷ ds) made = λ i. made.0.variable i ∷ same_order cs ds made.1 i

  pub counted : (cs ds : List Column) → AreColumnsWith grows class classes id cs ds → AreCounted ds
  counted [] [] made = tt
  counted [] (d ∷ ds) made = absurd made
  counted (c ∷ cs) [] made = tt
  counted (c ∷ cs) (d ∷ ds) made = (made.0.count, counted cs ds made.1)

  same_size : (cs ds : List Column) → AreColumnsWith grows class classes id cs ds → size_of (column_variables ds) ≡ size_of (column_variables cs)
  same_size [] [] made = refl
  same_size [] (d ∷ ds) made = absurd made
  same_size (c ∷ cs) [] made = absurd made
  same_size (c ∷ cs) (d ∷ ds) made = λ i. made.0.capacity i * same_size cs ds made.1 i

  front : (m : ℕ) (cs ds : List Column) → AreColumnsWith grows class classes id cs ds → AreColumnsWith grows class classes id (take m cs) (take m ds)
  front zero cs ds made = tt
  front (suc m) [] [] made = tt
  front (suc m) [] (d ∷ ds) made = made
  front (suc m) (c ∷ cs) [] made = made
  front (suc m) (c ∷ cs) (d ∷ ds) made = (made.0, front m cs ds made.1)

  back : (m : ℕ) (cs ds : List Column) → AreColumnsWith grows class classes id cs ds → AreColumnsWith grows class classes id (drop m cs) (drop m ds)
  back zero [] [] made = tt
  back zero [] (d ∷ ds) made = made
  back zero (c ∷ cs) [] made = made
  back zero (c ∷ cs) (d ∷ ds) made = made
  back (suc m) [] [] made = tt
  back (suc m) [] (d ∷ ds) made = absurd made
  back (suc m) (c ∷ cs) [] made = absurd made
  back (suc m) (c ∷ cs) (d ∷ ds) made = back m cs ds made.1

  -- with other columns and as many pages it is kept still
  pub kept_still : (k : KeptQuery) (ds : List Column) (pages : List (List (List Span))) → IsKeptQuery k → AreColumnsWith grows class classes id k.columns ds →
      length pages ≡ length k.pages → IsKeptQuery (record k { columns = ds; pages = pages })
  kept_still k ds pages is made same =
      let size : size_of (column_variables ds) ≡ size_of (column_variables k.columns) = same_size k.columns ds made in
      record {
        resolved = is.resolved;
        sees = is.sees;
        order = same_order k.columns ds made ∙ is.order;
        counted = counted k.columns ds made;
        size = omega (arith, size, is.size);
        room = omega (arith, size, same, is.room);
        window = is.window;
        last = is.last;
      }

  pub same_targets : (k : KeptQuery) (ds : List Column) (pages : List (List (List Span))) → AreColumnsWith grows class classes id k.columns ds →
      (target_count (record k { columns = ds; pages = pages }) ≡ target_count k) × (target_width (record k { columns = ds; pages = pages }) ≡ target_width k)
  same_targets k ds pages made =
      let m : ℕ = length k.query.targets in
      (same_size (take m k.columns) (take m ds) (front m k.columns ds made), same_size (drop m k.columns) (drop m ds) (back m k.columns ds made))

  pub same_length : (cs ds : List Column) → AreColumnsWith grows class classes id cs ds → length ds ≡ length cs
  same_length [] [] made = refl
  same_length [] (d ∷ ds) made = absurd made
  same_length (c ∷ cs) [] made = absurd made
  same_length (c ∷ cs) (d ∷ ds) made = ap suc (same_length cs ds made.1)

-- what is made of a query's columns, once they and its classes are read from it
pub made_of : (grows : Bool) (class : ℕ) (k : KeptQuery) (id : ℕ) (classes : List ℕ) (cs ds : List Column) → classes ≡ k.query.classes → cs ≡ k.columns →
    AreColumnsWith grows class classes id cs ds → AreColumnsWith grows class k.query.classes id k.columns ds
made_of grows class k id classes cs ds e f made =
    subst (λ (xs : List ℕ). AreColumnsWith grows class xs id k.columns ds) e (subst (λ (xs : List Column). AreColumnsWith grows class classes id xs ds) f made)

-- the columns that a query has, as those that it has had
made_from : (grows : Bool) (class id : ℕ) (x k : KeptQuery) → x ≡ k → (cs ds : List Column) → cs ≡ ds →
    AreColumnsWith grows class k.query.classes id k.columns ds → AreColumnsWith grows class x.query.classes id x.columns cs
made_from grows class id x k e cs ds f made =
    subst (λ (zs : List Column). AreColumnsWith grows class x.query.classes id x.columns zs) (sym f)
    (subst (λ (y : KeptQuery). AreColumnsWith grows class y.query.classes id y.columns ds) (sym e) made)

pub made_is_kept : (grows : Bool) (class id : ℕ) (x k : KeptQuery) → x ≡ k → (cs ds : List Column) → cs ≡ ds →
    AreColumnsWith grows class k.query.classes id k.columns ds → (pages : List (List (List Span))) → length pages ≡ length x.pages →
    (count width : ℕ) → IsKeptQuery x × (count ≡ target_count x) × (width ≡ target_width x) × (x.expiry - x.entry ≤ SPAN_LIMIT) →
    IsKeptQuery (record x { columns = cs; pages = pages })
    × (count ≡ target_count (record x { columns = cs; pages = pages }))
    × (width ≡ target_width (record x { columns = cs; pages = pages }))
    × (x.expiry - x.entry ≤ SPAN_LIMIT)
made_is_kept grows class id x k e cs ds f made pages same count width is =
    let columns : AreColumnsWith grows class x.query.classes id x.columns cs = made_from grows class id x k e cs ds f made in
    let targets = same_targets grows class x.query.classes id x cs pages columns in
    (kept_still grows class x.query.classes id x cs pages is.0 columns same, is.1 ∙ sym targets.0, is.2 ∙ sym targets.1, is.3)

pub made_is_made : (class id : ℕ) (r : Renewal) (x k : KeptQuery) → x ≡ k → (cs ds : List Column) → cs ≡ ds →
    AreColumnsWith r.grows class k.query.classes id k.columns ds → (pages : List (List (List Span))) →
    ((c t : ℕ) → row_has spans_have pages c t ≡ rows_after spans_have r.changes (row_has spans_have x.pages) c t) →
    IsMade id class r k (record x { columns = cs; pages = pages })
made_is_made class id r x k e cs ds f made pages rows =
    let columns : AreColumnsWith r.grows class x.query.classes id x.columns cs = made_from r.grows class id x k e cs ds f made in
    subst (λ (y : KeptQuery). IsMade id class r y (record x { columns = cs; pages = pages })) e (record {
      head = record {
        name = refl;
        kind = refl;
        query = refl;
        entry = refl;
        expiry = refl;
        columns = same_columns r.grows class x.query.classes id x.columns cs columns;
      };
      columns = columns;
      rows = rows;
    })

-- ---- all queries
pub none_made : (object class : ℕ) (rs : List Renewal) (ks : List KeptQuery) → length ks ≡ 0 → ArePrepared class ks rs → AreMade object class rs ks ks
none_made object class [] [] none is = tt
none_made object class (r ∷ rs) [] none is = absurd is
none_made object class rs (k ∷ ks) none is = absurd (omega (arith, none))

pub never_spent : (class : ℕ) (ks : List KeptQuery) (rs : List Renewal) (k : KeptQuery) (later : List KeptQuery) → ks ≡ k ∷ later → length rs ≡ 0 →
    ArePrepared class ks rs → ⊥
never_spent class [] rs k later e none is = absurd (omega (arith, ap length e))
never_spent class (k' ∷ ks) [] k later e none is = is
never_spent class (k' ∷ ks) (r ∷ rs) k later e none is = absurd (omega (arith, none))

pub prepared_parts : (class : ℕ) (ks : List KeptQuery) (rs : List Renewal) (k : KeptQuery) (later : List KeptQuery) (r : Renewal) (more : List Renewal) →
    ks ≡ k ∷ later → rs ≡ r ∷ more → ArePrepared class ks rs → IsReadyFor class k r × ArePrepared class later more
prepared_parts class ks rs k later r more e f is =
    subst (λ (zs : List KeptQuery). ArePrepared class zs (r ∷ more)) e (subst (λ (ts : List Renewal). ArePrepared class ks ts) f is)

pub one_made : (object class : ℕ) (ks : List KeptQuery) (rs : List Renewal) (k k' : KeptQuery) (later later' : List KeptQuery) (r : Renewal) (more : List Renewal) →
    ks ≡ k ∷ later → rs ≡ r ∷ more → IsMade object class r k k' → AreMade object class more later later' → AreMade object class rs ks (k' ∷ later')
one_made object class ks rs k k' later later' r more e f made rest =
    subst (λ (zs : List KeptQuery). AreMade object class rs zs (k' ∷ later')) (sym e)
    (subst (λ (ts : List Renewal). AreMade object class ts (k ∷ later) (k' ∷ later')) (sym f) (made, rest))

pub as_many : (object class : ℕ) (rs : List Renewal) (ks ks' : List KeptQuery) → AreMade object class rs ks ks' → length ks' ≡ length ks
as_many object class [] [] [] made = refl
as_many object class [] [] (k' ∷ ks') made = absurd made
as_many object class [] (k ∷ ks) ks' made = absurd made
as_many object class (r ∷ rs) [] ks' made = absurd made
as_many object class (r ∷ rs) (k ∷ ks) [] made = absurd made
as_many object class (r ∷ rs) (k ∷ ks) (k' ∷ ks') made = ap suc (as_many object class rs ks ks' made.1)

pub fewer_kept : (p : KeptQuery → Bool) (ks : List KeptQuery) → AreKept ks → AreKept (filter p ks)
fewer_kept p ks are = record { each = All-filter p IsKeptQuery ks are.each; few = omega (arith, length-filter p ks, count_by-le-length p ks, are.few) }

pub none_kept : (ks : List KeptQuery) → length ks ≡ 0 → All IsKeptQuery ks
none_kept [] none = All-nil IsKeptQuery
none_kept (k ∷ ks) none = absurd (omega (arith, none))

pub still_kept : (object class : ℕ) (rs : List Renewal) (ks ks' : List KeptQuery) → AreMade object class rs ks ks' → (old : List KeptQuery) → ks ≡ old →
    AreKept old → All IsKeptQuery ks' → AreKept ks'
still_kept object class rs ks ks' made old e are each =
    record { each = each; few = omega (arith, as_many object class rs ks ks' made, ap length e, are.few) }

pub prepared_in : (f g : Prepared) → f ≡ g → (ks old : List KeptQuery) → ks ≡ old → (rs : List Renewal) → rs ≡ f.renewals →
    ArePrepared g.class old g.renewals → ArePrepared f.class ks rs
prepared_in f g e ks old q rs s is =
    subst (λ (ts : List Renewal). ArePrepared f.class ks ts) (sym s)
    (subst (λ (zs : List KeptQuery). ArePrepared f.class zs f.renewals) (sym q)
    (subst (λ (h : Prepared). ArePrepared h.class old h.renewals) (sym e) is))

pub made_in : (f g : Prepared) → f ≡ g → (ks old : List KeptQuery) → ks ≡ old → (rs : List Renewal) → rs ≡ f.renewals →
    (ks' new : List KeptQuery) → new ≡ ks' → AreMade f.object f.class rs ks ks' → AreMade g.object g.class g.renewals old new
made_in f g e ks old q rs s ks' new n made =
    subst (λ (h : Prepared). AreMade h.object h.class h.renewals old new) e
    (subst (λ (zs : List KeptQuery). AreMade f.object f.class f.renewals zs new) q
    (subst (λ (zs : List KeptQuery). AreMade f.object f.class f.renewals ks zs) (sym n)
    (subst (λ (ts : List Renewal). AreMade f.object f.class ts ks ks') s made)))

-- one query more
pub one_more_kept : (ks new : List KeptQuery) (k : KeptQuery) → AreKept ks → IsKeptQuery k → length ks < QUERY_LIMIT → new ≡ ks ++ k ∷ [] → AreKept new
one_more_kept ks new k are is few e =
    subst AreKept (sym e) (record {
      each = All-append IsKeptQuery ks (k ∷ []) are.each (All-cons IsKeptQuery k [] is (All-nil IsKeptQuery));
      few = (let many : length (ks ++ k ∷ []) ≡ length ks + 1 = length-append ks (k ∷ []) in omega (arith, many, few));
    })
