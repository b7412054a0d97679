-- For this crate and for the crates above: relations that get one row after another.
use Rattle.std.proofs.Common.{◌≡◌, ℕ, zero, suc, ◌+◌, ◌<◌, Bool, true, false, ◌&&◌, ◌||◌, nat_lt, List, [], ◌∷◌, ◌++◌, length, get_or, take, map, refl, sym, ap, ◌∙◌, subst, arith}
use Rattle.std.specs.List.{flat_map, list_all}
use Rattle.std.specs.List.Sorted.{IsStrictlyIncreasing}
use Rattle.std.specs.Str.{bytes_eq}
use Rattle.std.proofs.lemmas.Bool.{and_from, and_parts, eq-eqb, or_left, or_right}
use Rattle.std.proofs.lemmas.List.{map-append, take_more}
use Rattle.std.proofs.lemmas.List.Folds.{list_all-append, list_any-append}
use Rattle.std.proofs.lemmas.Slice.Eq.{bytes_eq-Decides}
use Rattle.tick_set.specs.Ticks.{LiesIn, within}
use Rattle.relation.specs.declared.row.Row.{Row}
use Rattle.relation.specs.Frames.{IsIn, frame_of}
use Rattle.relation.specs.Key.{are_known, has_id, ids_of_variable, key_below, key_in}
use Rattle.relation.specs.Rows.{IsSameHead, Table, has_at, table}
use Rattle.evaluator.specs.Keys.{AreAscendingKeys, AreKeys, has_key}
use Rattle.evaluator.specs.Rows.{AreRowsWhere}
use Rattle.evaluator.specs.inner.Filled.{IsFilled, keys_behind}
use Rattle.evaluator.proofs.BindingLemmas.{key_in-map}
use Rattle.evaluator.proofs.KeyLemmas.{Rising, flat_map-step, rising}
use Rattle.exact.proofs.Items.{all_weaker}

pub at_key : {X : Type 0} (p : X → Bool) (xs : List X) (i : ℕ) (d : X) → list_all p xs ≡ true → i < length xs → p (get_or xs i d) ≡ true
at_key p [] i d h l = absurd (omega (arith, l))
at_key p (x ∷ xs) zero d h l = (and_parts _ _ h).0
at_key p (x ∷ xs) (suc i) d h l = at_key p xs i d (and_parts _ _ h).1 (omega (arith, l))

-- ---- keys in front of which an object stands

-- the keys of smaller objects
below_next : (x y : ℕ) (keys : List (List ℕ)) → nat_lt x y ≡ true → list_all (λ k. key_below k (y ∷ [])) (keys_behind x keys) ≡ true
below_next x y [] l = refl
below_next x y (key ∷ keys) l = and_from _ _ (or_left _ _ l) (below_next x y keys l)

blocks_before : (later : List (List ℕ)) (ids : List ℕ) (i d : ℕ) → Rising ids → i < length ids →
    list_all (λ k. key_below k (get_or ids i d ∷ [])) (flat_map (λ id. keys_behind id later) (take i ids)) ≡ true
blocks_before later [] i d up l = absurd (omega (arith, l))
blocks_before later (x ∷ ids) zero d up l = refl
blocks_before later (x ∷ ids) (suc i) d up l =
    list_all-append (λ k. key_below k (get_or ids i d ∷ [])) (keys_behind x later) (flat_map (λ id. keys_behind id later) (take i ids))
    ∙ and_from _ _ (below_next x (get_or ids i d) later (at_key (nat_lt x) ids i d up.0 (omega (arith, l))))
    (blocks_before later ids i d up.1 (omega (arith, l)))

pub before_block : (later : List (List ℕ)) (ids : List ℕ) (i d : ℕ) → IsStrictlyIncreasing ids → i < length ids →
    list_all (λ k. key_below k (get_or ids i d ∷ [])) (flat_map (λ id. keys_behind id later) (take i ids)) ≡ true
before_block later ids i d up l = blocks_before later ids i d (rising ids up) l

-- the keys before a place are below the one there
before_key : (id : ℕ) (keys : List (List ℕ)) (i : ℕ) (d : List ℕ) → AreAscendingKeys keys → i < length keys →
    list_all (λ k. key_below k (id ∷ get_or keys i d)) (keys_behind id (take i keys)) ≡ true
before_key id [] i d up l = absurd (omega (arith, l))
before_key id (key ∷ keys) zero d up l = refl
before_key id (key ∷ keys) (suc i) d up l =
    and_from _ _ (or_right _ _ (and_from _ _ (eq-eqb id id refl) (at_key (key_below key) keys i d up.0 (omega (arith, l)))))
    (before_key id keys i d up.1 (omega (arith, l)))

below_longer : (k : List ℕ) (id : ℕ) (key : List ℕ) → key_below k (id ∷ []) ≡ true → key_below k (id ∷ key) ≡ true
below_longer [] id key h = h
below_longer (x ∷ xs) id key h = longer (nat_lt x id) _ _ _ (none_below xs) h
  where
    none_below : (ys : List ℕ) → key_below ys [] ≡ false
    none_below [] = refl
    none_below (y ∷ ys) = refl

    longer : (a b c d : Bool) → c ≡ false → (a || (b && c)) ≡ true → (a || (b && d)) ≡ true
    longer true b c d e s = refl
    longer false true true d e s = absurd (let f : true ≡ false = e in cc)
    longer false true false d e s = absurd (let f : false ≡ true = s in cc)
    longer false false c d e s = absurd (let f : false ≡ true = s in cc)

pub behind_more : (id : ℕ) (keys : List (List ℕ)) (i : ℕ) (d : List ℕ) → i < length keys →
    keys_behind id (take (i + 1) keys) ≡ keys_behind id (take i keys) ++ (id ∷ get_or keys i d) ∷ []
behind_more id keys i d l = ap (keys_behind id) (take_more keys i d l) ∙ map-append (λ key. id ∷ key) (take i keys) (get_or keys i d ∷ [])

-- ---- rows

keep : (x q : Bool) → x ≡ (x || (false && q))
keep true q = refl
keep false q = refl

one_key : (e x y : Bool) → (e ≡ true → x ≡ y) → (e && x) ≡ ((e || false) && y)
one_key true x y f = f refl
one_key false x y f = refl

both_keys : (o x y q : Bool) → ((o || (x && q)) || (y && q)) ≡ (o || ((x || y) && q))
both_keys true x y q = refl
both_keys false true true true = refl
both_keys false true false true = refl
both_keys false false y q = refl
both_keys false true true false = refl
both_keys false true false false = refl

module _ {S : Type 0} (member : S → ℕ → Bool) (truth : List ℕ → ℕ → Bool) where
  pub filled_none : (r : Table S) → IsFilled member truth [] r r
  filled_none r = record {
    head = record { vars = refl; domains = refl; lo = refl; hi = refl };
    ticks = λ k t. keep (has_at member r.rows k t) (truth k t);
    upto = λ p h l. h;
  }

  pub filled_put : (key : List ℕ) (set : S) (old new : Table S) → ((t : ℕ) → member set t ≡ truth key t) → IsSameHead old new →
      ((k : List ℕ) (t : ℕ) → has_at member new.rows k t ≡ (has_at member old.rows k t || (bytes_eq key k && member set t))) →
      ((p : List ℕ → Bool) → list_all (λ r. p r.key) old.rows ≡ true → p key ≡ true → list_all (λ r. p r.key) new.rows ≡ true) →
      IsFilled member truth (key ∷ []) old new
  filled_put key set old new says head put all = record {
    head = head;
    ticks = λ k t.
        put k t
        ∙ ap (λ (x : Bool). has_at member old.rows k t || x)
        (one_key (bytes_eq key k) (member set t) (truth k t) (λ e. says t ∙ ap (λ (z : List ℕ). truth z t) ((bytes_eq-Decides key k).0 e)));
    upto = λ p h l. all p h (and_parts _ _ l).0;
  }

  pub filled_both : (xs ys : List (List ℕ)) (a b c : Table S) → IsFilled member truth xs a b → IsFilled member truth ys b c →
      IsFilled member truth (xs ++ ys) a c
  filled_both xs ys a b c first second = record {
    head = record {
      vars = second.head.vars ∙ first.head.vars;
      domains = second.head.domains ∙ first.head.domains;
      lo = second.head.lo ∙ first.head.lo;
      hi = second.head.hi ∙ first.head.hi;
    };
    ticks = λ k t.
        second.ticks k t
        ∙ ap (λ (x : Bool). x || (has_key ys k && truth k t)) (first.ticks k t)
        ∙ both_keys (has_at member a.rows k t) (has_key xs k) (has_key ys k) (truth k t)
        ∙ ap (λ (x : Bool). has_at member a.rows k t || (x && truth k t)) (sym (list_any-append (λ z. bytes_eq z k) xs ys));
    upto = λ p h l.
        let parts = and_parts _ _ (sym (list_all-append p xs ys) ∙ l) in
        second.upto p (first.upto p h parts.0) parts.1;
  }

  -- the next object's rows, where the keys of each object are those of a list behind it
  pub filled_block : (later : List (List ℕ)) (ids : List ℕ) (i d : ℕ) (a b c : Table S) → i < length ids →
      IsFilled member truth (flat_map (λ id. keys_behind id later) (take i ids)) a b → IsFilled member truth (keys_behind (get_or ids i d) later) b c →
      IsFilled member truth (flat_map (λ id. keys_behind id later) (take (i + 1) ids)) a c
  filled_block later ids i d a b c l first second =
      subst (λ (ks : List (List ℕ)). IsFilled member truth ks a c) (sym (flat_map-step (λ id. keys_behind id later) ids i d l))
      (filled_both (flat_map (λ id. keys_behind id later) (take i ids)) (keys_behind (get_or ids i d) later) a b c first second)

  -- those of the keys before are below them
  pub block_above : (later : List (List ℕ)) (ids : List ℕ) (i d : ℕ) (a b : Table S) → i < length ids → a.rows ≡ [] → IsStrictlyIncreasing ids →
      IsFilled member truth (flat_map (λ id. keys_behind id later) (take i ids)) a b → list_all (λ r. key_below r.key (get_or ids i d ∷ [])) b.rows ≡ true
  block_above later ids i d a b l none up first =
      first.upto (λ k. key_below k (get_or ids i d ∷ []))
      (ap (λ (rs : List (Row S)). list_all (λ r. key_below r.key (get_or ids i d ∷ [])) rs) none) (before_block later ids i d up l)

  -- the next key of an object
  pub filled_next : (id : ℕ) (keys : List (List ℕ)) (i : ℕ) (key : List ℕ) (a b c : Table S) → i < length keys → key ≡ get_or keys i key →
      IsFilled member truth (keys_behind id (take i keys)) a b → IsFilled member truth ((id ∷ key) ∷ []) b c →
      IsFilled member truth (keys_behind id (take (i + 1) keys)) a c
  filled_next id keys i key a b c l at first second =
      subst (λ (ks : List (List ℕ)). IsFilled member truth ks a c) (sym (behind_more id keys i key l))
      (filled_both (keys_behind id (take i keys)) ((id ∷ get_or keys i key) ∷ []) a b c first
      (subst (λ (k : List ℕ). IsFilled member truth ((id ∷ k) ∷ []) b c) at second))

  pub next_above : (id : ℕ) (keys : List (List ℕ)) (i : ℕ) (key : List ℕ) (a b : Table S) → i < length keys → key ≡ get_or keys i key →
      list_all (λ r. key_below r.key (id ∷ [])) a.rows ≡ true → AreAscendingKeys keys → IsFilled member truth (keys_behind id (take i keys)) a b →
      list_all (λ r. key_below r.key (id ∷ key)) b.rows ≡ true
  next_above id keys i key a b l at below up first =
      first.upto (λ k. key_below k (id ∷ key))
      (all_weaker (λ r. key_below r.key (id ∷ [])) (λ r. key_below r.key (id ∷ key)) (λ r h. below_longer r.key id key h) a.rows below)
      (subst (λ (z : List ℕ). list_all (λ k. key_below k (id ∷ z)) (keys_behind id (take i keys)) ≡ true) (sym at) (before_key id keys i key up l))

  -- all rows of these variables' keys
  pub filled_all : (domains : List (List ℕ)) (vars : List ℕ) (lo hi : ℕ) (holds : (ℕ → ℕ) → ℕ → Bool) (keys : List (List ℕ)) (start made : Table S) →
      IsFilled member truth keys start made → start ≡ table vars domains lo hi [] → AreKeys domains vars keys → are_known domains vars ≡ true →
      ((b : ℕ → ℕ) → IsIn domains b → (t : ℕ) → truth (map b vars) t ≡ (within lo hi t && holds b t)) → AreRowsWhere member domains lo hi vars holds made
  filled_all domains vars lo hi holds keys start made filling from are known says = record {
    ticks = λ b is_in t.
        ap (λ (vs : List ℕ). has_at member made.rows (map b vs) t) same_vars
        ∙ filling.ticks (map b vars) t
        ∙ ap (λ (r : Table S). has_at member r.rows (map b vars) t || (has_key keys (map b vars) && truth (map b vars) t)) from
        ∙ ap (λ (x : Bool). x && truth (map b vars) t) (are.all (map b vars) (key_in-map domains vars b is_in known))
        ∙ says b is_in t;
    vars = same_vars;
    frame = λ j. frame_of ((filling.head.domains ∙ ap (λ (r : Table S). r.domains) from) j) ((filling.head.lo ∙ ap (λ (r : Table S). r.lo) from) j) ((filling.head.hi ∙ ap (λ (r : Table S). r.hi) from) j);
  }
    where
      same_vars : made.vars ≡ vars
      same_vars = filling.head.vars ∙ ap (λ (r : Table S). r.vars) from

-- what the row of a key must be
module _ {S : Type 0} (start made : Table S) (head : IsSameHead start made) where
  module _ (vars : List ℕ) (domains : List (List ℕ)) (lo hi : ℕ) (from : start ≡ table vars domains lo hi []) where
    pub fits_inside : (key : List ℕ) → key_in domains vars key ≡ true → key_in made.domains made.vars key ≡ true
    fits_inside key h =
        (λ j. key_in ((head.domains ∙ ap (λ (r : Table S). r.domains) from) j) ((head.vars ∙ ap (λ (r : Table S). r.vars) from) j) key) ∙ h

    pub fits_lies : (member : S → ℕ → Bool) (set : S) (q : ℕ → Bool) → ((t : ℕ) → member set t ≡ (within lo hi t && q t)) → LiesIn made.lo made.hi (member set)
    fits_lies member set q says t h =
        (λ j. within ((head.lo ∙ ap (λ (r : Table S). r.lo) from) j) ((head.hi ∙ ap (λ (r : Table S). r.hi) from) j) t)
        ∙ (and_parts _ _ (sym (says t) ∙ h)).0

-- a relation that is to get rows keeps its variables and its window
pub still_fits : {S : Type 0} (vars : List ℕ) (lo hi : ℕ) (old made : Table S) → IsSameHead (table vars old.domains lo hi []) old → IsSameHead old made →
    IsSameHead (table vars made.domains lo hi []) made
still_fits vars lo hi old made first second = record { vars = second.vars ∙ first.vars; domains = refl; lo = second.lo ∙ first.lo; hi = second.hi ∙ first.hi }

pub first_inside : (domains : List (List ℕ)) (var : ℕ) (vars : List ℕ) (id : ℕ) (later : List (List ℕ)) → has_id (ids_of_variable domains var) id ≡ true →
    list_all (key_in domains vars) later ≡ true → list_all (λ key. key_in domains (var ∷ vars) (id ∷ key)) later ≡ true
first_inside domains var vars id later h inside =
    all_weaker (key_in domains vars) (λ key. key_in domains (var ∷ vars) (id ∷ key)) (λ key k. and_from _ _ h k) later inside
