-- Entries, and the rows that are made of them.
use Rattle.std.proofs.Common.{◌≡◌, ℕ, suc, ◌+◌, ◌-◌, ◌<◌, Bool, true, false, ◌&&◌, ◌||◌, ◌==◌, nat_lt, List, [], ◌∷◌, ◌++◌, length, get_or, take, drop, Some, Ordering, refl, sym, ap, ◌∙◌, subst, inl, inr, arith, get_or-drop, length-drop, take-append-drop}
use Rattle.std.specs.List.{All, list_all, slice_get}
use Rattle.std.specs.List.Sorted.{IsSortedByKey}
use Rattle.std.specs.Ordering.{is_lt, nat_cmp, ordering_then}
use Rattle.std.specs.Str.{bytes_eq}
use Rattle.std.specs.Cmp.Lexicographic.{nat_list_cmp_total, slice_cmp}
use Rattle.std.proofs.lemmas.Bool.{and_from, and_parts, cases_lt, false≢true, or_cases, or_left}
use Rattle.std.proofs.lemmas.Bool.Decides.{nat_tests}
use Rattle.std.proofs.lemmas.List.{take_rest}
use Rattle.std.proofs.lemmas.List.Folds.{list_any-append}
use Rattle.std.proofs.lemmas.List.Sorted.{ranks_by, sorted_far}
use Rattle.tick_set.specs.Ticks.{LiesIn, within}
use Rattle.relation.specs.declared.entries.Entry.{Entry}
use Rattle.relation.specs.declared.row.Row.{Row}
use Rattle.relation.specs.Entries.{AreEntries, IsBefore, IsEntry, any_has, entries_have, entry_has}
use Rattle.relation.specs.Key.{key_below, key_in}
use Rattle.relation.specs.Rows.{IsSameHead, Table, has_at}
use Rattle.relation.proofs.WalkLemmas.{same_head-trans}
use Rattle.exact.proofs.Items.{all_from_at, all_weaker}
use Rattle.exact.proofs.Lists.{bytes_eq_refl, bytes_eq_true}

order_step : (x y : ℕ) (e l : Bool) (o : Ordering) → (is_lt o ≡ false → (e || l) ≡ true) → is_lt (ordering_then (nat_cmp y x) o) ≡ false →
    ((x == y && e) || (nat_lt x y || (x == y && l))) ≡ true
order_step x y e l o f h = grind (arith, nat_tests, f)

-- of two keys over the same variables, the first comes before the second unless the order tells otherwise
order_cases : (domains : List (List ℕ)) (vars a b : List ℕ) → key_in domains vars a ≡ true → key_in domains vars b ≡ true → is_lt (slice_cmp nat_cmp b a) ≡ false →
    (bytes_eq a b || key_below a b) ≡ true
order_cases domains [] [] [] ha hb h = refl
order_cases domains [] [] (y ∷ b) ha hb h = absurd (false≢true hb)
order_cases domains [] (x ∷ a) b ha hb h = absurd (false≢true ha)
order_cases domains (v ∷ vars) [] b ha hb h = absurd (false≢true ha)
order_cases domains (v ∷ vars) (x ∷ a) [] ha hb h = absurd (false≢true hb)
order_cases domains (v ∷ vars) (x ∷ a) (y ∷ b) ha hb h =
    order_step x y (bytes_eq a b) (key_below a b) (slice_cmp nat_cmp b a) (order_cases domains vars a b (and_parts _ _ ha).1 (and_parts _ _ hb).1) h

trans_step : (x y z : ℕ) (a b c : Bool) → (a ≡ true → b ≡ true → c ≡ true) → (nat_lt x y || (x == y && a)) ≡ true → (nat_lt y z || (y == z && b)) ≡ true →
    (nat_lt x z || (x == z && c)) ≡ true
trans_step x y z a b c f h k = grind (arith, nat_tests, f)

-- the order of keys is transitive
pub below_trans : (a b c : List ℕ) → key_below a b ≡ true → key_below b c ≡ true → key_below a c ≡ true
below_trans [] b c h k = absurd (false≢true h)
below_trans (x ∷ a) [] c h k = absurd (false≢true h)
below_trans (x ∷ a) (y ∷ b) [] h k = absurd (false≢true k)
below_trans (x ∷ a) (y ∷ b) (z ∷ c) h k = trans_step x y z (key_below a b) (key_below b c) (key_below a c) (below_trans a b c) h k

below_upward : (a b c : List ℕ) → key_below a b ≡ true → (bytes_eq b c || key_below b c) ≡ true → key_below a c ≡ true
below_upward a b c h k = elim (or_cases _ _ k) [
  | inl e ↦ subst (λ (z : List ℕ). key_below a z ≡ true) (bytes_eq_true b c e) h
  | inr l ↦ below_trans a b c h l
]

module _ {S : Type 0} (member : S → ℕ → Bool) (rows : List (Row S)) (domains : List (List ℕ)) (vars : List ℕ) (lo hi : ℕ) where
  entries_back : (xs ys : List Entry) → AreEntries member rows domains vars lo hi (xs ++ ys) → AreEntries member rows domains vars lo hi ys
  entries_back [] ys h = h
  entries_back (x ∷ xs) ys h = entries_back xs ys h.2

  -- entries in the order of their keys
  pub entries_sorted : (xs : List Entry) → All (IsEntry member rows domains vars lo hi) xs → IsSortedByKey (λ (e : Entry). e.key) (slice_cmp nat_cmp) xs → AreEntries member rows domains vars lo hi xs
  entries_sorted [] each up = tt
  entries_sorted (x ∷ xs) each up = (own, all_from_at (λ f. bytes_eq x.key f.key || key_below x.key f.key) xs after, entries_sorted xs later up')
    where
      lt : Entry → Entry → Bool
      lt a b = is_lt (slice_cmp nat_cmp a.key b.key)

      own : IsEntry member rows domains vars lo hi x
      own = each 0 x (omega arith)

      later : All (IsEntry member rows domains vars lo hi) xs
      later = λ k d l. each (suc k) d (omega arith)

      up' : IsSortedByKey (λ (e : Entry). e.key) (slice_cmp nat_cmp) xs
      up' = λ k d l m. subst (λ (n : ℕ). lt (get_or (x ∷ xs) n d) (get_or xs k d) ≡ false) (let e : suc k + 1 ≡ suc (k + 1) = omega arith in e) (up (suc k) d (omega arith) (omega arith))

      after : (k : ℕ) (d : Entry) → k < length xs → (bytes_eq x.key (get_or xs k d).key || key_below x.key (get_or xs k d).key) ≡ true
      after k d l =
          order_cases domains vars x.key (get_or xs k d).key own.inside (later k d l).inside
          (sorted_far lt (ranks_by nat_list_cmp_total (λ (e : Entry). e.key)) (x ∷ xs) up 0 (suc k) d (omega arith) (omega arith))

-- entries of one key have the ticks of all their sets there, and none elsewhere
have_of_one : {S : Type 0} (member : S → ℕ → Bool) (rows : List (Row S)) (key : List ℕ) (entries : List Entry) → list_all (λ e. bytes_eq e.key key) entries ≡ true →
    (k : List ℕ) (t : ℕ) → entries_have member rows entries k t ≡ (bytes_eq key k && any_has member rows entries t)
have_of_one member rows key [] h k t = sym (and_false (bytes_eq key k))
  where
    and_false : (b : Bool) → (b && false) ≡ false
    and_false true = refl
    and_false false = refl
have_of_one member rows key (e ∷ es) h k t =
    let parts : (bytes_eq e.key key ≡ true) × (list_all (λ f. bytes_eq f.key key) es ≡ true) = and_parts _ _ h in
    ap (λ (z : List ℕ). (bytes_eq z k && entry_has member rows e t) || entries_have member rows es k t) (bytes_eq_true e.key key parts.0)
    ∙ ap (λ (x : Bool). (bytes_eq key k && entry_has member rows e t) || x) (have_of_one member rows key es parts.1 k t)
    ∙ shared (bytes_eq key k) (entry_has member rows e t) (any_has member rows es t)
  where
    shared : (b p q : Bool) → ((b && p) || (b && q)) ≡ (b && (p || q))
    shared true p q = refl
    shared false p q = refl

-- an entry that follows one that is not of the key comes after all of the key
after_group : {S : Type 0} (member : S → ℕ → Bool) (rows : List (Row S)) (domains : List (List ℕ)) (vars : List ℕ) (lo hi : ℕ) (first : Entry) (rest : List Entry) →
    AreEntries member rows domains vars lo hi rest → list_all (λ f. bytes_eq first.key f.key || key_below first.key f.key) rest ≡ true →
    ((d : Entry) → 0 < length rest → bytes_eq (get_or rest 0 d).key first.key ≡ false) → list_all (λ f. key_below first.key f.key) rest ≡ true
after_group member rows domains vars lo hi first [] are order next = refl
after_group member rows domains vars lo hi first (n ∷ rest) are order next =
    and_from _ _ below (all_weaker (λ f. bytes_eq n.key f.key || key_below n.key f.key) (λ f. key_below first.key f.key) (λ f. below_upward first.key n.key f.key below) rest are.1)
  where
    below : key_below first.key n.key ≡ true
    below = elim (or_cases _ _ (and_parts _ _ order).0) [
      | inl e ↦ absurd (false≢true (sym (next n (omega arith)) ∙ ap (λ (k : List ℕ). bytes_eq k first.key) (sym (bytes_eq_true first.key n.key e)) ∙ bytes_eq_refl first.key))
      | inr l ↦ l
    ]

-- rows that gain one of a key stay before entries that come after it
before_more : {S : Type 0} (old new : List (Row S)) (key : List ℕ) (es : List Entry) → IsBefore old es → list_all (λ e. key_below key e.key) es ≡ true →
    ((p : List ℕ → Bool) → list_all (λ r. p r.key) old ≡ true → p key ≡ true → list_all (λ r. p r.key) new ≡ true) → IsBefore new es
before_more old new key [] h l keys = refl
before_more old new key (e ∷ es) h l keys =
    let have : (list_all (λ r. key_below r.key e.key) old ≡ true) × IsBefore old es = and_parts _ _ h in
    let after : (key_below key e.key ≡ true) × (list_all (λ f. key_below key f.key) es ≡ true) = and_parts _ _ l in
    and_from _ _ (keys (λ k. key_below k e.key) have.0 after.0) (before_more old new key es have.1 after.1 keys)

all_back : {X : Type 0} (p : X → Bool) (xs ys : List X) → list_all p (xs ++ ys) ≡ true → list_all p ys ≡ true
all_back p [] ys h = h
all_back p (x ∷ xs) ys h = all_back p xs ys (and_parts _ _ h).1

regroup : (made here front back : Bool) (all : Bool) → here ≡ front → (made || (front || back)) ≡ all → ((made || here) || back) ≡ all
regroup made here front back all e h = grind (arith, nat_tests)

-- a relation in the midst of gathering, with entries left
pub record IsGathering {S : Type 0} (member : S → ℕ → Bool) (rows : List (Row S)) (entries : List Entry) (start made : Table S) (rest : List Entry) : Type 0 where
  pub head : IsSameHead start made
  pub ticks : (k : List ℕ) (t : ℕ) → (has_at member made.rows k t || entries_have member rows rest k t) ≡ (has_at member start.rows k t || entries_have member rows entries k t)
  pub are : AreEntries member rows start.domains start.vars start.lo start.hi rest
  pub above : IsBefore made.rows rest

module _ {S : Type 0} (member : S → ℕ → Bool) (rows : List (Row S)) (entries : List Entry) (start : Table S) where
  -- the entries of the first one's key go into one row
  module _ (made : Table S) (first : Entry) (more front back : List Entry) (cut : first ∷ more ≡ front ++ back) (gathering : IsGathering member rows entries start made (first ∷ more))
      (one : list_all (λ e. bytes_eq e.key first.key) front ≡ true)
      (next : (d : Entry) → 0 < length back → bytes_eq (get_or back 0 d).key first.key ≡ false) where
    back_after : list_all (λ f. bytes_eq first.key f.key || key_below first.key f.key) back ≡ true
    back_after =
        all_back (λ f. bytes_eq first.key f.key || key_below first.key f.key) front back
        (subst (λ (z : List Entry). list_all (λ f. bytes_eq first.key f.key || key_below first.key f.key) z ≡ true) cut (and_from _ _ (or_left _ _ (bytes_eq_refl first.key)) gathering.are.1))

    back_are : AreEntries member rows start.domains start.vars start.lo start.hi back
    back_are = entries_back member rows start.domains start.vars start.lo start.hi front back (subst (λ (z : List Entry). AreEntries member rows start.domains start.vars start.lo start.hi z) cut gathering.are)

    gathering_lies : (set : S) → ((t : ℕ) → member set t ≡ any_has member rows front t) → LiesIn made.lo made.hi (member set)
    gathering_lies set ticks = λ t e.
        (λ i. within (gathering.head.lo i) (gathering.head.hi i) t)
        ∙ any_lies (front ++ back) (subst (λ (z : List Entry). AreEntries member rows start.domains start.vars start.lo start.hi z) cut gathering.are) t
        (list_any-append (λ f. entry_has member rows f t) front back ∙ or_left _ _ (sym (ticks t) ∙ e))
      where
        any_lies : (es : List Entry) → AreEntries member rows start.domains start.vars start.lo start.hi es → (t : ℕ) → any_has member rows es t ≡ true → within start.lo start.hi t ≡ true
        any_lies [] are t e = absurd (false≢true e)
        any_lies (f ∷ es) are t e = elim (or_cases _ _ e) [ inl here ↦ are.0.lies t here | inr later ↦ any_lies es are.2 t later ]

    gathering_more : (set : S) (new : Table S) → ((t : ℕ) → member set t ≡ any_has member rows front t) → IsSameHead made new →
        ((k : List ℕ) (t : ℕ) → has_at member new.rows k t ≡ (has_at member made.rows k t || (bytes_eq first.key k && member set t))) →
        ((p : List ℕ → Bool) → list_all (λ r. p r.key) made.rows ≡ true → p first.key ≡ true → list_all (λ r. p r.key) new.rows ≡ true) →
        IsGathering member rows entries start new back
    gathering_more set new ticks head put keys = record {
      head = same_head-trans start made new gathering.head head;
      ticks = λ k t.
          ap (λ (x : Bool). x || entries_have member rows back k t) (put k t)
          ∙ regroup (has_at member made.rows k t) (bytes_eq first.key k && member set t) (entries_have member rows front k t) (entries_have member rows back k t) _
          (ap (λ (x : Bool). bytes_eq first.key k && x) (ticks t) ∙ sym (have_of_one member rows first.key front one k t))
          (ap (λ (x : Bool). has_at member made.rows k t || x) (sym (list_any-append (λ e. bytes_eq e.key k && entry_has member rows e t) front back))
          ∙ ap (λ (z : List Entry). has_at member made.rows k t || entries_have member rows z k t) (sym cut)
          ∙ gathering.ticks k t);
      are = back_are;
      above = before_more made.rows new.rows first.key back
          (all_back (λ e. list_all (λ r. key_below r.key e.key) made.rows) front back (subst (λ (z : List Entry). IsBefore made.rows z) cut gathering.above))
          (after_group member rows start.domains start.vars start.lo start.hi first back back_are back_after next) keys;
    }

-- the same, where a place cuts the entries
module _ {S : Type 0} (member : S → ℕ → Bool) (rows : List (Row S)) (entries : List Entry) (start made : Table S) (rest : List Entry) (first : Entry) (count : ℕ)
    (gathering : IsGathering member rows entries start made rest) (at : Some first ≡ slice_get rest 0) (one : list_all (λ e. bytes_eq e.key first.key) (take count rest) ≡ true)
    (next : (d : Entry) → count < length rest → bytes_eq (get_or rest count d).key first.key ≡ false) where
  opens : rest ≡ first ∷ drop 1 rest
  opens = found rest at
    where
      found : (es : List Entry) → Some first ≡ slice_get es 0 → es ≡ first ∷ drop 1 es
      found [] e = absurd (cc e)
      found (f ∷ es) e = let same : f ≡ first = cc e in ap (λ (z : Entry). z ∷ es) same

  opened : IsGathering member rows entries start made (first ∷ drop 1 rest)
  opened = subst (λ (z : List Entry). IsGathering member rows entries start made z) opens gathering

  cut : first ∷ drop 1 rest ≡ take count rest ++ drop count rest
  cut = sym opens ∙ sym (take-append-drop count rest)

  after : (d : Entry) → 0 < length (drop count rest) → bytes_eq (get_or (drop count rest) 0 d).key first.key ≡ false
  after d l =
      let lengths : length (drop count rest) ≡ length rest - count = length-drop count rest in
      ap (λ (e : Entry). bytes_eq e.key first.key) (get_or-drop count rest 0 d ∙ ap (λ (n : ℕ). get_or rest n d) (let e : count + 0 ≡ count = omega arith in e))
      ∙ next d (omega arith)

  pub group_lies : (set : S) → ((t : ℕ) → member set t ≡ any_has member rows (take count rest) t) → LiesIn made.lo made.hi (member set)
  group_lies = gathering_lies member rows entries start made first (drop 1 rest) (take count rest) (drop count rest) cut opened one after

  pub group_more : (set : S) (new : Table S) → ((t : ℕ) → member set t ≡ any_has member rows (take count rest) t) → IsSameHead made new →
      ((k : List ℕ) (t : ℕ) → has_at member new.rows k t ≡ (has_at member made.rows k t || (bytes_eq first.key k && member set t))) →
      ((p : List ℕ → Bool) → list_all (λ r. p r.key) made.rows ≡ true → p first.key ≡ true → list_all (λ r. p r.key) new.rows ≡ true) →
      IsGathering member rows entries start new (take (length rest - count) (drop count rest))
  group_more set new ticks head put keys =
      subst (λ (z : List Entry). IsGathering member rows entries start new z) (sym (take_rest rest count))
      (gathering_more member rows entries start made first (drop 1 rest) (take count rest) (drop count rest) cut opened one after set new ticks head put keys)

  pub group_smaller : length (take (length rest - count) (drop count rest)) < length rest
  group_smaller =
      let lengths : length (drop count rest) ≡ length rest - count = length-drop count rest in
      let whole : length (take (length rest - count) (drop count rest)) ≡ length (drop count rest) = ap length (take_rest rest count) in
      let some : 0 < length rest = subst (λ (z : List Entry). 0 < length z) (sym opens) (let l : 0 < length (first ∷ drop 1 rest) = omega arith in l) in
      let moved : 0 < count = elim (cases_lt 0 count) [ inl l ↦ l | inr l ↦ absurd (stuck (let e : count ≡ 0 = omega (arith, l) in e) some) ] in
      omega (arith, lengths, whole, some, moved)
    where
      stuck : count ≡ 0 → 0 < length rest → ⊥
      stuck e l =
          let same : bytes_eq (get_or rest 0 first).key first.key ≡ true = ap (λ (z : List Entry). bytes_eq (get_or z 0 first).key first.key) opens ∙ bytes_eq_refl first.key in
          false≢true (sym (subst (λ (n : ℕ). n < length rest → bytes_eq (get_or rest n first).key first.key ≡ false) e (next first) l) ∙ same)
