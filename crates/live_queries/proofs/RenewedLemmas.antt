-- How many looks at timelines a write takes, query by query.
use Rattle.std.proofs.Common.{◌≡◌, ℕ, ◌+◌, ◌-◌, ◌≤◌, Bool, true, false, List, [], ◌∷◌, map, ap, ◌∙◌, arith, if◌then◌else◌}
use Rattle.std.specs.Prelude.{max, nat_le}
use Rattle.std.proofs.Math.Nat.{le-max_left}
use Rattle.std.proofs.lemmas.List.Sums.{sum_by-cons}
use Rattle.history.specs.Catalog.{Catalog}
use Rattle.meaning.specs.Reads.{change_reads, renewal_reads, write_reads}
use Rattle.meaning.specs.Registered.{RegisteredQuery}
use Rattle.live_queries.specs.Effort.{all_judged_reads, judged_reads}
use Rattle.live_queries.specs.Kept.{KeptQuery, registered_query}
use Rattle.live_queries.specs.Renewed.{judged_from}
use Rattle.live_queries.proofs.ReadLemmas.{more_of_change}

module _ (c : Catalog) (now class : ℕ) where
  parted : (rest later : List KeptQuery) (k : KeptQuery) → rest ≡ k ∷ later →
      all_judged_reads c rest now class ≡ judged_reads c now class k + all_judged_reads c later now class
  parted rest later k e =
      ap (λ ks. all_judged_reads c ks now class) e ∙ sum_by-cons (judged_reads c now class) k later

  pub looks_go_on : (rest later : List KeptQuery) (k : KeptQuery) (mid after total : ℕ) → rest ≡ k ∷ later →
      after ≤ mid + judged_reads c now class k → mid + all_judged_reads c rest now class ≤ total →
      after + all_judged_reads c later now class ≤ total
  looks_go_on rest later k mid after total e few most =
      let both = parted rest later k e in omega (arith, both, few, most)

  pub looks_stop : (rest later : List KeptQuery) (k : KeptQuery) (mid after total : ℕ) → rest ≡ k ∷ later →
      after ≤ mid + judged_reads c now class k → mid + all_judged_reads c rest now class ≤ total → after ≤ total
  looks_stop rest later k mid after total e few most =
      let both = parted rest later k e in omega (arith, both, few, most)

  pub looks_end : (rest : List KeptQuery) (mid total : ℕ) → mid + all_judged_reads c rest now class ≤ total → mid ≤ total
  looks_end rest mid total most = omega (arith, most)

  -- over the ticks that are judged it looks no more often than over all
  judged_less : (k : KeptQuery) → judged_reads c now class k ≤ renewal_reads c now class (registered_query k)
  judged_less k = either (nat_le now k.expiry)
    where
      fewer : (x e j : ℕ) → e ≤ j → x + 1 - j ≤ x + 1 - e
      fewer x e j h = omega (arith, h)

      lo : ℕ
      lo = max k.entry (judged_from k now)

      either : (b : Bool) → (if b then change_reads c k.query (k.expiry + 1 - lo) class else 0)
          ≤ (if b then change_reads c k.query (k.expiry + 1 - k.entry) class else 0)
      either true =
          more_of_change (k.expiry + 1 - lo) (k.expiry + 1 - k.entry)
          (fewer k.expiry k.entry lo (le-max_left k.entry (judged_from k now))) c k.query class
      either false = omega arith

  pub no_more_looks : (ks : List KeptQuery) → all_judged_reads c ks now class ≤ write_reads c (map registered_query ks) now class
  no_more_looks [] = omega arith
  no_more_looks (k ∷ ks) =
      let judged = sum_by-cons (judged_reads c now class) k ks in
      let all = sum_by-cons (λ (r : RegisteredQuery). renewal_reads c now class r) (registered_query k) (map registered_query ks) in
      let one = judged_less k in
      let later = no_more_looks ks in
      omega (arith, judged, all, one, later)

  pub looks_within : (ks : List KeptQuery) (old new : ℕ) → new ≤ old + all_judged_reads c ks now class →
      new ≤ old + write_reads c (map registered_query ks) now class
  looks_within ks old new most = let more = no_more_looks ks in omega (arith, most, more)
