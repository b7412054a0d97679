-- For this crate and for the crates above: renewals that are told by the queries that are touched.
use Rattle.std.proofs.Common.{◌≡◌, ℕ, zero, suc, ◌+◌, ◌-◌, ◌<◌, ◌≤◌, Bool, true, false, not, ◌&&◌, List, [], ◌∷◌, ◌++◌, length, map, take, drop, refl, sym, ap, ◌∙◌, subst, arith, if◌then◌else◌}
use Rattle.std.specs.Prelude.{All, None, nat_le}
use Rattle.std.proofs.lemmas.List.Elements.{All-append, All-cons, All-head, All-nil, All-tail}
use Rattle.std.proofs.lemmas.List.{length-drop}
use Rattle.tick_set.specs.Runs.{runs_of}
use Rattle.tick_set.specs.Ticks.{within}
use Rattle.kept_rows.specs.Listing.{lines_upto}
use Rattle.kept_rows.specs.Moves.{difference, if_moved, move_between, move_of}
use Rattle.kept_rows.proofs.ListingLemmas.{listed-none}
use Rattle.meaning.specs.Registered.{first_tick}
use Rattle.live_queries.specs.declared.fresh.Renewal.{Renewal}
use Rattle.live_queries.specs.declared.fresh.Touched.{Touched}
use Rattle.live_queries.specs.Columns.{AreCounted, AreSameColumns, Column}
use Rattle.live_queries.specs.Current.{row_at}
use Rattle.live_queries.specs.Kept.{IsKeptQuery, KeptQuery}
use Rattle.live_queries.specs.Prepared.{AreColumnsWith, AreMade, ArePrepared, IsMade, IsReadyFor}
use Rattle.live_queries.specs.Told.{changes_of, move, moves_of, target_count, target_times}
use Rattle.live_queries.specs.Untouched.{spread, untouched, untouched_before}
use Rattle.live_queries.proofs.ListLemmas.{lines_none}
use Rattle.exact.proofs.Truths.{and_not}

-- ---- one query more

append_untouched : (n : ℕ) (rs more : List Renewal) → untouched_before n rs ++ more ≡ untouched_before n (rs ++ more)
append_untouched zero rs more = refl
append_untouched (suc n) rs more = ap (λ ts. untouched ∷ ts) (append_untouched n rs more)

untouched_last : (n : ℕ) (rs : List Renewal) → untouched_before (suc n) rs ≡ untouched_before n (untouched ∷ rs)
untouched_last zero rs = refl
untouched_last (suc n) rs = ap (λ ts. untouched ∷ ts) (untouched_last n rs)

pub one_untouched : (ts : List Touched) (n m : ℕ) → m ≡ suc n → spread ts m ≡ spread ts n ++ untouched ∷ []
one_untouched [] n m e =
    ap (λ k. untouched_before k []) e ∙ untouched_last n [] ∙ sym (append_untouched n [] (untouched ∷ []))
one_untouched (t ∷ ts) n m e =
    ap (λ rs. untouched_before t.passed (t.renewal ∷ rs)) (one_untouched ts n m e)
    ∙ sym (append_untouched t.passed (t.renewal ∷ spread ts n) (untouched ∷ []))

pub one_touched : (ts : List Touched) (t : Touched) → spread (ts ++ t ∷ []) 0 ≡ spread ts t.passed ++ t.renewal ∷ []
one_touched [] t = sym (append_untouched t.passed [] (t.renewal ∷ []))
one_touched (x ∷ ts) t =
    ap (λ rs. untouched_before x.passed (x.renewal ∷ rs)) (one_touched ts t)
    ∙ sym (append_untouched x.passed (x.renewal ∷ spread ts t.passed) (t.renewal ∷ []))

many_untouched : (n : ℕ) (rs : List Renewal) → length (untouched_before n rs) ≡ n + length rs
many_untouched zero rs = omega arith
many_untouched (suc n) rs = let e : length (untouched_before n rs) ≡ n + length rs = many_untouched n rs in omega (arith, e)

pub rest_within : (ts : List Touched) (n : ℕ) → n ≤ length (spread ts n)
rest_within [] n = let e : length (untouched_before n []) ≡ n + 0 = many_untouched n [] in omega (arith, e)
rest_within (t ∷ ts) n =
    let e : length (untouched_before t.passed (t.renewal ∷ spread ts n)) ≡ t.passed + length (t.renewal ∷ spread ts n) =
    many_untouched t.passed (t.renewal ∷ spread ts n) in
    let later : n ≤ length (spread ts n) = rest_within ts n in
    omega (arith, e, later)

-- ---- the next one that is touched

prepared_at : (class n : ℕ) (ks : List KeptQuery) (r : Renewal) (rs : List Renewal) → ArePrepared class ks (untouched_before n (r ∷ rs)) →
    (n < length ks) × ArePrepared class (drop n ks) (r ∷ rs)
prepared_at class zero [] r rs is = absurd is
prepared_at class zero (k ∷ ks) r rs is = (omega arith, is)
prepared_at class (suc n) [] r rs is = absurd is
prepared_at class (suc n) (k ∷ ks) r rs is =
    let later = prepared_at class n ks r rs is.1 in (omega (arith, later.0), later.1)

pub same_columns : (cs : List Column) → AreSameColumns cs cs
same_columns [] = tt
same_columns (c ∷ cs) = (refl, refl, same_columns cs)

same_with : (class : ℕ) (classes : List ℕ) (id : ℕ) (cs : List Column) → AreCounted cs → AreColumnsWith false class classes id cs cs
same_with class classes id [] counted = tt
same_with class classes id (c ∷ cs) counted =
    (record { variable = refl; capacity = refl; count = counted.0; ids = refl }, same_with class classes id cs counted.1)

pub untouched_made : (object class : ℕ) (k : KeptQuery) → IsKeptQuery k → IsMade object class untouched k k
untouched_made object class k is = record {
  head = record { name = refl; kind = refl; query = refl; entry = refl; expiry = refl; columns = same_columns k.columns };
  columns = same_with class k.query.classes object k.columns is.counted;
  rows = λ c t. refl;
}

made_at : (object class n : ℕ) (ks : List KeptQuery) (r : Renewal) (rs : List Renewal) (later : List KeptQuery) → All IsKeptQuery ks →
    AreMade object class (r ∷ rs) (drop n ks) later → AreMade object class (untouched_before n (r ∷ rs)) ks (take n ks ++ later)
made_at object class zero [] r rs later kept made = absurd made
made_at object class zero (k ∷ ks) r rs later kept made = made
made_at object class (suc n) [] r rs later kept made = absurd made
made_at object class (suc n) (k ∷ ks) r rs later kept made =
    (untouched_made object class k (All-head IsKeptQuery k ks kept), made_at object class n ks r rs later (All-tail IsKeptQuery k ks kept) made)

none_made : (object class n : ℕ) (ks : List KeptQuery) → All IsKeptQuery ks → ArePrepared class ks (untouched_before n []) →
    AreMade object class (untouched_before n []) ks ks
none_made object class zero [] kept is = tt
none_made object class zero (k ∷ ks) kept is = absurd is
none_made object class (suc n) [] kept is = absurd is
none_made object class (suc n) (k ∷ ks) kept is =
    (untouched_made object class k (All-head IsKeptQuery k ks kept), none_made object class n ks (All-tail IsKeptQuery k ks kept) is.1)

kept_front : (n : ℕ) (ks : List KeptQuery) → All IsKeptQuery ks → All IsKeptQuery (take n ks)
kept_front zero [] kept = All-nil IsKeptQuery
kept_front zero (k ∷ ks) kept = All-nil IsKeptQuery
kept_front (suc n) [] kept = All-nil IsKeptQuery
kept_front (suc n) (k ∷ ks) kept = All-cons IsKeptQuery k (take n ks) (All-head IsKeptQuery k ks kept) (kept_front n ks (All-tail IsKeptQuery k ks kept))

kept_back : (n : ℕ) (ks : List KeptQuery) → All IsKeptQuery ks → All IsKeptQuery (drop n ks)
kept_back zero [] kept = All-nil IsKeptQuery
kept_back zero (k ∷ ks) kept = kept
kept_back (suc n) [] kept = All-nil IsKeptQuery
kept_back (suc n) (k ∷ ks) kept = kept_back n ks (All-tail IsKeptQuery k ks kept)

-- ---- what it changes for targets

none_differ : (p : ℕ → Bool) (from e : ℕ) → difference p p from e ≡ []
none_differ p from e = ap runs_of (listed-none (λ t. p t && not (p t)) from e (λ t. and_not (p t)))

no_move : (p : ℕ → Bool) (from e now target : ℕ) → move_between p p from e now target ≡ None
no_move p from e now target =
    λ i. if_moved (record {
      target = target;
      gained = none_differ p from e i;
      lost = none_differ p from e i;
      enters = within from e now && (p now && not (p now));
      leaves = within from e now && (p now && not (p now));
    }) (none_differ p from e i) (none_differ p from e i)

no_moves : (added now : ℕ) (k : KeptQuery) → moves_of added now k [] ≡ []
no_moves added now k = either (nat_le now k.expiry)
  where
    rows : ℕ → ℕ → Bool
    rows = target_times k (row_at k)

    from : ℕ
    from = first_tick k.kind k.entry now

    either : (b : Bool) → (if b then map (move added k) (lines_upto (move_of rows rows from k.expiry now) (target_count k)) else []) ≡ []
    either false = refl
    either true = ap (map (move added k)) (lines_none (move_of rows rows from k.expiry now) (λ target. no_move (rows target) from k.expiry now target) (target_count k))

changes_at : (added now n : ℕ) (ks : List KeptQuery) (r : Renewal) (rs : List Renewal) →
    changes_of added now ks (untouched_before n (r ∷ rs)) ≡ changes_of added now (drop n ks) (r ∷ rs)
changes_at added now zero [] r rs = refl
changes_at added now zero (k ∷ ks) r rs = refl
changes_at added now (suc n) [] r rs = refl
changes_at added now (suc n) (k ∷ ks) r rs =
    ap (λ ms. ms ++ changes_of added now ks (untouched_before n (r ∷ rs))) (no_moves added now k) ∙ changes_at added now n ks r rs

changes_end : (added now n : ℕ) (ks : List KeptQuery) → changes_of added now ks (untouched_before n []) ≡ []
changes_end added now zero [] = refl
changes_end added now zero (k ∷ ks) = refl
changes_end added now (suc n) [] = refl
changes_end added now (suc n) (k ∷ ks) =
    ap (λ ms. ms ++ changes_of added now ks (untouched_before n [])) (no_moves added now k) ∙ changes_end added now n ks

-- ---- step by step

pub none_touched : (object class : ℕ) (ks : List KeptQuery) (ts : List Touched) (rest : ℕ) → length ts ≡ 0 → All IsKeptQuery ks → ArePrepared class ks (spread ts rest) →
    AreMade object class (spread ts rest) ks ks
none_touched object class ks [] rest none kept is = none_made object class rest ks kept is
none_touched object class ks (t ∷ ts) rest none kept is = absurd (omega (arith, none))

pub none_change : (added now : ℕ) (ks : List KeptQuery) (ts : List Touched) (rest : ℕ) → length ts ≡ 0 → changes_of added now ks (spread ts rest) ≡ []
none_change added now ks [] rest none = changes_end added now rest ks
none_change added now ks (t ∷ ts) rest none = absurd (omega (arith, none))

-- the queries from the next one that is touched on
module _ (ks back : List KeptQuery) (ts more : List Touched) (t : Touched) (rest : ℕ) (first : ts ≡ t ∷ more) where
  module _ (class : ℕ) (is : ArePrepared class ks (spread ts rest)) where
    from_next : (t.passed < length ks) × ArePrepared class (drop t.passed ks) (t.renewal ∷ spread more rest)
    from_next = prepared_at class t.passed ks t.renewal (spread more rest) (subst (λ (xs : List Touched). ArePrepared class ks (spread xs rest)) first is)

    pub next_there : t.passed ≤ length ks
    next_there = let there : t.passed < length ks = from_next.0 in omega (arith, there)

    module _ (later : back ≡ drop t.passed ks) where
      pub next_missing : length back ≡ 0 → ⊥
      next_missing none =
          let there : t.passed < length ks = from_next.0 in
          let many : length back ≡ length ks - t.passed = ap length later ∙ length-drop t.passed ks in
          omega (arith, there, many, none)

      pub next_ready : (k : KeptQuery) (behind : List KeptQuery) → back ≡ k ∷ behind → IsReadyFor class k t.renewal × ArePrepared class behind (spread more rest)
      next_ready k behind e =
          subst (λ (bs : List KeptQuery). ArePrepared class bs (t.renewal ∷ spread more rest)) (sym later ∙ e) from_next.1

  module _ (later : back ≡ drop t.passed ks) (k : KeptQuery) (behind : List KeptQuery) (parts : back ≡ k ∷ behind) where
    pub next_changes : (added now : ℕ) →
        changes_of added now ks (spread ts rest) ≡ moves_of added now k t.renewal.changes ++ changes_of added now behind (spread more rest)
    next_changes added now =
        ap (λ (xs : List Touched). changes_of added now ks (spread xs rest)) first
        ∙ changes_at added now t.passed ks t.renewal (spread more rest)
        ∙ ap (λ (bs : List KeptQuery). changes_of added now bs (t.renewal ∷ spread more rest)) (sym later ∙ parts)

    module _ (kept : All IsKeptQuery ks) where
      pub behind_kept : All IsKeptQuery behind
      behind_kept = All-tail IsKeptQuery k behind (subst (All IsKeptQuery) (sym later ∙ parts) (kept_back t.passed ks kept))

      module _ (front : List KeptQuery) (before : front ≡ take t.passed ks) (k' : KeptQuery) (behind' : List KeptQuery) where
        pub next_made : (object class : ℕ) → IsMade object class t.renewal k k' → AreMade object class (spread more rest) behind behind' →
            AreMade object class (spread ts rest) ks (front ++ k' ∷ behind')
        next_made object class made others =
            subst (λ (xs : List Touched). AreMade object class (spread xs rest) ks (front ++ k' ∷ behind')) (sym first)
            (subst (λ (fs : List KeptQuery). AreMade object class (untouched_before t.passed (t.renewal ∷ spread more rest)) ks (fs ++ k' ∷ behind')) (sym before)
            (made_at object class t.passed ks t.renewal (spread more rest) (k' ∷ behind') kept
            (subst (λ (bs : List KeptQuery). AreMade object class (t.renewal ∷ spread more rest) bs (k' ∷ behind')) (sym (sym later ∙ parts)) (made, others))))

        pub next_kept : IsKeptQuery k' → All IsKeptQuery behind' → All IsKeptQuery (front ++ k' ∷ behind')
        next_kept is others =
            All-append IsKeptQuery front (k' ∷ behind') (subst (All IsKeptQuery) (sym before) (kept_front t.passed ks kept)) (All-cons IsKeptQuery k' behind' is others)
