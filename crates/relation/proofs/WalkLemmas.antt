-- The walk over bindings.
use Rattle.std.proofs.Common.{◌≡◌, ℕ, ◌+◌, ◌<◌, ◌≤◌, Bool, true, false, ◌&&◌, ◌||◌, ◌==◌, List, [], ◌∷◌, ◌++◌, length, drop, map, Option, Some, None, refl, sym, ap, ◌∙◌, subst, inl, inr, if◌then◌else◌, append_assoc, arith}
use Rattle.std.specs.List.{list_all, list_any}
use Rattle.std.specs.Str.{bytes_eq}
use Rattle.std.proofs.lemmas.Bool.{and_cases, and_from, and_left, and_parts, and_right, cases_eq, cases_lt, eq-eqb, false≢true, ltb-true, ne_eqb, or_cases, or_from, or_parts}
use Rattle.std.proofs.lemmas.Bool.Decides.{nat_tests}
use Rattle.std.proofs.lemmas.List.{length_push}
use Rattle.std.proofs.lemmas.List.Folds.{list_any-append}
use Rattle.tick_set.specs.Ticks.{LiesIn, within}
use Rattle.tick_set.specs.Operators.{until_in}
use Rattle.fixed_point.specs.declared.variants.UntilForm.{UntilForm}
use Rattle.fixed_point.specs.declared.variants.UntilForm.TheVariants as untils
use Rattle.formula.specs.Forms.{until_form_at}
use Rattle.relation.specs.declared.row.Row.{Row}
use Rattle.relation.specs.declared.operation.Operation.{Operation}
use Rattle.relation.specs.declared.operation.Operation.TheVariants as operations
use Rattle.relation.specs.declared.part.Part.{Part}
use Rattle.relation.specs.Frames.{IsIn}
use Rattle.relation.specs.Group.{IsNextIn, ids_at}
use Rattle.relation.specs.Key.{are_known, has_id, ids_of_variable, key_below, key_in}
use Rattle.relation.specs.Operations.{combined_between}
use Rattle.relation.specs.Part.{IsFixed, IsRowPart, has_from, offers, part_has, vars_after}
use Rattle.relation.specs.Rows.{AreRows, IsSameHead, Table, has_at}
use Rattle.relation.specs.Walk.{CanWalk, HasWalked, IsWalking, covers, goes_left, key_starts, key_upto, set_or, visited, visited_by}
use Rattle.relation.proofs.GroupLemmas.{rows_idle, rows_inside}
use Rattle.relation.proofs.KeyLemmas.{below_continues, below_from_upto, below_upto, starts_no_longer, starts_with_another, upto_from_below, upto_itself}
use Rattle.relation.proofs.RowLemmas.{has_at-below}
use Rattle.exact.proofs.Truths.{or_false}
use Rattle.exact.proofs.Items.{all_weaker}

-- tests that agree at each tick are put together alike
pub combined_same : (op : Operation) (lo hi : ℕ) (p p' q q' : ℕ → Bool) → ((t : ℕ) → p' t ≡ p t) → ((t : ℕ) → q' t ≡ q t) → (t : ℕ) →
    combined_between op lo hi p' q' t ≡ combined_between op lo hi p q t
combined_same op lo hi p p' q q' f g t = λ i. combined_between op lo hi (λ u. f u i) (λ u. g u i) t

pub same_head-trans : {S : Type 0} (a b c : Table S) → IsSameHead a b → IsSameHead b c → IsSameHead a c
same_head-trans a b c f g = record { vars = g.vars ∙ f.vars; domains = g.domains ∙ f.domains; lo = g.lo ∙ f.lo; hi = g.hi ∙ f.hi }

-- a list that covers another covers what is left of that after its first variable
pub covers_after : (var : ℕ) (vars us : List ℕ) → covers (var ∷ vars) us ≡ true → covers vars (vars_after var us) ≡ true
covers_after var [] [] h = refl
covers_after var (v ∷ vars) [] h = refl
covers_after var vars (u ∷ us) h =
    elim (u == var) as (λ b. (if b then covers vars us else covers vars (u ∷ us)) ≡ true → covers vars (if b then us else u ∷ us) ≡ true) [ true ↦ λ e. e | false ↦ λ e. e ] h

not_equal_below : (y x : ℕ) → (y ≡ x → ⊥) → y < x + 1 → y < x
not_equal_below y x differs l = elim (cases_lt y x) [ inl m ↦ m | inr m ↦ absurd (differs (let e : y ≡ x = omega arith in e)) ]

-- nothing leads to a goal that never holds
none_in : (xs : List ℕ) (f : ℕ → Bool) → ((u : ℕ) → f u ≡ false) → list_any f xs ≡ false
none_in [] f h = refl
none_in (x ∷ xs) f h = or_from _ _ (h x) (none_in xs f h)

no_goal : (g h : ℕ → Bool) (lo hi t : ℕ) → ((u : ℕ) → h u ≡ false) → until_in g h lo hi t ≡ false
unfolding until_in
no_goal g h lo hi t none = none_in _ _ (λ u. and_left _ _ (none u))

pub until_without_goal : (form : UntilForm) (c lo hi : ℕ) (p q : ℕ → Bool) → ((t : ℕ) → q t ≡ false) → (t : ℕ) → (within lo hi t && until_form_at form c p q hi t) ≡ false
until_without_goal untils.Plain c lo hi p q none t = and_right _ _ (no_goal p q _ _ t none)
until_without_goal untils.Within c lo hi p q none t = and_right _ _ (no_goal p q _ _ t none)
until_without_goal untils.After c lo hi p q none t = and_right _ _ (no_goal p q _ _ t none)

-- where the next object of a choice of lists is sought
pub next_if_true : (b : Bool) (xs ys : List ℕ) (from : ℕ) (r : Option ℕ) → b ≡ true → IsNextIn xs from r → IsNextIn (if b then xs else ys) from r
next_if_true true xs ys from r e h = h
next_if_true false xs ys from r e h = absurd (false≢true e)

pub next_if_false : (b : Bool) (xs ys : List ℕ) (from : ℕ) (r : Option ℕ) → b ≡ false → IsNextIn ys from r → IsNextIn (if b then xs else ys) from r
next_if_false true xs ys from r e h = absurd (false≢true (sym e))
next_if_false false xs ys from r e h = h

key_in_nil : (domains : List (List ℕ)) (k : List ℕ) → key_in domains [] k ≡ true → k ≡ []
key_in_nil domains [] h = refl
key_in_nil domains (x ∷ k) h = absurd (false≢true h)

bytes_eq-itself : (k : List ℕ) → bytes_eq k (k ++ []) ≡ true
bytes_eq-itself [] = refl
bytes_eq-itself (x ∷ k) = and_from _ _ (eq-eqb x x refl) (bytes_eq-itself k)

starts_differ : (k key : List ℕ) → key_starts k key ≡ false → bytes_eq key k ≡ false
starts_differ k [] h = absurd (false≢true (sym h))
starts_differ [] (x ∷ key) h = refl
starts_differ (y ∷ k) (x ∷ key) h =
    let e : (x == y) ≡ (y == x) = grind (arith, nat_tests) in
    elim (and_cases _ _ h) [ inl f ↦ and_left _ _ (e ∙ f) | inr f ↦ and_right _ _ (starts_differ k key f) ]

-- a list that covers another has no fewer members
covers_nil : (us : List ℕ) → covers [] us ≡ true → us ≡ []
covers_nil [] h = refl
covers_nil (u ∷ us) h = absurd (false≢true h)

module _ {S : Type 0} (member : S → ℕ → Bool) where
  -- a part without variables has at most one row, whose set has its ticks
  leaf_has : (domains : List (List ℕ)) (lo hi place : ℕ) (rows : List (Row S)) (nothing : S) → AreRows member domains [] lo hi place rows → ((t : ℕ) → member nothing t ≡ false) →
      (t : ℕ) → has_from member place rows [] t ≡ member (set_or nothing rows) t
  leaf_has domains lo hi place [] nothing h none t = sym (none t)
  leaf_has domains lo hi place (r ∷ []) nothing h none t =
      ap (λ (k : List ℕ). (bytes_eq k [] && member r.set t) || false) (key_in_nil domains (drop place r.key) h.0.inside) ∙ or_false (member r.set t)
  leaf_has domains lo hi place (r ∷ s ∷ rows) nothing h none t =
      let below : key_below (drop place r.key) (drop place s.key) ≡ true = (and_parts _ _ h.1).0 in
      absurd (false≢true (ap (λ (k : List ℕ). key_below k (drop place s.key)) (sym (key_in_nil domains (drop place r.key) h.0.inside)) ∙ below))

  leaf_lies : (domains : List (List ℕ)) (vars : List ℕ) (lo hi place : ℕ) (rows : List (Row S)) (nothing : S) → AreRows member domains vars lo hi place rows →
      ((t : ℕ) → member nothing t ≡ false) → LiesIn lo hi (member (set_or nothing rows))
  leaf_lies domains vars lo hi place [] nothing h none = λ t e. absurd (false≢true (sym (none t) ∙ e))
  leaf_lies domains vars lo hi place (r ∷ rows) nothing h none = h.0.lies

  pub part_leaf_has : (domains : List (List ℕ)) (lo hi : ℕ) (p : Part S) (nothing : S) → IsRowPart member domains lo hi p → covers [] p.vars.now ≡ true → ((t : ℕ) → member nothing t ≡ false) →
      (b : ℕ → ℕ) (t : ℕ) → part_has member p b t ≡ member (set_or nothing p.rows.now) t
  part_leaf_has domains lo hi p nothing h cover none b t =
      let e = covers_nil p.vars.now cover in
      ap (λ (us : List ℕ). has_from member p.place p.rows.now (map b us) t) e
      ∙ leaf_has domains lo hi p.place p.rows.now nothing (subst (λ (us : List ℕ). AreRows member domains us lo hi p.place p.rows.now) e h) none t

  pub part_leaf_lies : (domains : List (List ℕ)) (lo hi lo' hi' : ℕ) (p : Part S) (nothing : S) → IsRowPart member domains lo hi p → ((t : ℕ) → member nothing t ≡ false) → lo' ≡ lo → hi' ≡ hi →
      LiesIn lo' hi' (member (set_or nothing p.rows.now))
  part_leaf_lies domains lo hi lo' hi' p nothing h none el eh =
      let lies = leaf_lies domains p.vars.now lo hi p.place p.rows.now nothing h none in
      λ t e. ap (λ (l : ℕ). within l hi' t) el ∙ ap (λ (u : ℕ). within lo u t) eh ∙ lies t e

  -- the row of the key
  pub walked_leaf : (op : Operation) (key : List ℕ) (p q : Part S) (old new : Table S) (nothing set : S) (lo hi : ℕ) → CanWalk member old key [] p q →
      ((t : ℕ) → member nothing t ≡ false) → lo ≡ old.lo → hi ≡ old.hi →
      ((t : ℕ) → member set t ≡ combined_between op lo hi (member (set_or nothing p.rows.now)) (member (set_or nothing q.rows.now)) t) →
      IsSameHead old new → ((k : List ℕ) (t : ℕ) → has_at member new.rows k t ≡ (has_at member old.rows k t || (bytes_eq key k && member set t))) →
      ((f : List ℕ → Bool) → list_all (λ r. f r.key) old.rows ≡ true → f key ≡ true → list_all (λ r. f r.key) new.rows ≡ true) →
      HasWalked member op key [] p q old new
  walked_leaf op key p q old new nothing set lo hi can none el eh ticks head put keys = record {
    head = head;
    here = λ b is_in t. put (key ++ []) t
        ∙ ap (λ (x : Bool). x || (bytes_eq key (key ++ []) && member set t)) (has_at-below member old.rows key [] t can.above)
        ∙ ap (λ (x : Bool). x && member set t) (bytes_eq-itself key)
        ∙ ticks t
        ∙ ap (λ (l : ℕ). combined_between op l hi (member (set_or nothing p.rows.now)) (member (set_or nothing q.rows.now)) t) el
        ∙ ap (λ (u : ℕ). combined_between op old.lo u (member (set_or nothing p.rows.now)) (member (set_or nothing q.rows.now)) t) eh
        ∙ combined_same op old.lo old.hi (part_has member p b) _ (part_has member q b) _
        (λ u. sym (part_leaf_has old.domains old.lo old.hi p nothing can.left can.left_vars none b u))
        (λ u. sym (part_leaf_has old.domains old.lo old.hi q nothing can.right can.right_vars none b u)) t;
    elsewhere = λ k e t. put k t ∙ ap (λ (x : Bool). has_at member old.rows k t || (x && member set t)) (starts_differ k key e) ∙ or_false (has_at member old.rows k t);
    upto = keys (λ k. key_upto k key) (all_weaker (λ r. key_below r.key key) (λ r. key_upto r.key key) (λ r. below_upto r.key key) old.rows can.above) (upto_itself key);
  }

-- what no tick needs, or what lies in a domain, of the objects that are visited
pub idle_elsewhere : (op : Operation) (left right : Bool) (lefts rights ids : List ℕ) (y lo hi : ℕ) (p q : ℕ → Bool) →
    (left ≡ true → has_id lefts y ≡ false → (t : ℕ) → p t ≡ false) → (right ≡ true → has_id rights y ≡ false → (t : ℕ) → q t ≡ false) →
    has_id ids y ≡ true → has_id (visited_by op left right lefts rights ids) y ≡ false → (t : ℕ) → combined_between op lo hi p q t ≡ false
idle_elsewhere operations.Meet true right lefts rights ids y lo hi p q f g i h t = and_left _ _ (f refl h t)
idle_elsewhere operations.Meet false true lefts rights ids y lo hi p q f g i h t = and_right _ _ (g refl h t)
idle_elsewhere operations.Meet false false lefts rights ids y lo hi p q f g i h t = absurd (false≢true (sym h ∙ i))
idle_elsewhere operations.Union true true lefts rights ids y lo hi p q f g i h t =
    let parts = or_parts _ _ (sym (list_any-append (λ (x : ℕ). x == y) lefts rights) ∙ h) in
    or_from _ _ (f refl parts.0 t) (g refl parts.1 t)
idle_elsewhere operations.Union true false lefts rights ids y lo hi p q f g i h t = absurd (false≢true (sym h ∙ i))
idle_elsewhere operations.Union false right lefts rights ids y lo hi p q f g i h t = absurd (false≢true (sym h ∙ i))
idle_elsewhere (operations.Until form c) left true lefts rights ids y lo hi p q f g i h t = until_without_goal form c lo hi p q (g refl h) t
idle_elsewhere (operations.Until form c) left false lefts rights ids y lo hi p q f g i h t = absurd (false≢true (sym h ∙ i))
idle_elsewhere operations.Complement left right lefts rights ids y lo hi p q f g i h t = absurd (false≢true (sym h ∙ i))

pub visited_inside : (op : Operation) (left right : Bool) (lefts rights ids : List ℕ) (y : ℕ) →
    (left ≡ true → has_id lefts y ≡ true → has_id ids y ≡ true) → (right ≡ true → has_id rights y ≡ true → has_id ids y ≡ true) →
    has_id (visited_by op left right lefts rights ids) y ≡ true → has_id ids y ≡ true
visited_inside operations.Meet true right lefts rights ids y f g h = f refl h
visited_inside operations.Meet false true lefts rights ids y f g h = g refl h
visited_inside operations.Meet false false lefts rights ids y f g h = h
visited_inside operations.Union true true lefts rights ids y f g h =
    elim (or_cases _ _ (sym (list_any-append (λ (x : ℕ). x == y) lefts rights) ∙ h)) [ inl l ↦ f refl l | inr r ↦ g refl r ]
visited_inside operations.Union true false lefts rights ids y f g h = h
visited_inside operations.Union false right lefts rights ids y f g h = h
visited_inside (operations.Until form c) left true lefts rights ids y f g h = g refl h
visited_inside (operations.Until form c) left false lefts rights ids y f g h = h
visited_inside operations.Complement left right lefts rights ids y f g h = h

goes_left-offers : {S : Type 0} (op : Operation) (var : ℕ) (p q : Part S) → goes_left op var p q ≡ true → offers var p ≡ true
goes_left-offers operations.Meet var p q h = (and_parts _ _ h).0
goes_left-offers operations.Union var p q h = h
goes_left-offers (operations.Until form c) var p q h = h
goes_left-offers operations.Complement var p q h = h

module _ {S : Type 0} (member : S → ℕ → Bool) where
  pub part_moved : (p : Part S) (old now : Table S) → IsSameHead old now → IsRowPart member old.domains old.lo old.hi p → IsRowPart member now.domains now.lo now.hi p
  part_moved p old now head h =
      let first = subst (λ (d : List (List ℕ)). IsRowPart member d old.lo old.hi p) (sym head.domains) h in
      let second = subst (λ (l : ℕ). IsRowPart member now.domains l old.hi p) (sym head.lo) first in
      subst (λ (u : ℕ). IsRowPart member now.domains now.lo u p) (sym head.hi) second

  -- the objects of a part's next variable are those of its rows, and lie in its domain
  pub part_idle : (domains : List (List ℕ)) (lo hi var : ℕ) (p : Part S) → IsRowPart member domains lo hi p → offers var p ≡ true → (b : ℕ → ℕ) →
      has_id (ids_at p.place p.rows.now) (b var) ≡ false → (t : ℕ) → part_has member p b t ≡ false
  part_idle domains lo hi var p h offered b none t = rows_idle member domains lo hi var p.vars.now p.place p.rows.now h offered b none t

  pub part_inside : (domains : List (List ℕ)) (lo hi var : ℕ) (p : Part S) → IsRowPart member domains lo hi p → offers var p ≡ true → (x : ℕ) →
      has_id (ids_at p.place p.rows.now) x ≡ true → has_id (ids_of_variable domains var) x ≡ true
  part_inside domains lo hi var p h offered x has_x = rows_inside member domains lo hi var p.vars.now p.place p.rows.now h offered x has_x

module _ {S : Type 0} (member : S → ℕ → Bool) (op : Operation) (key : List ℕ) (var : ℕ) (vars : List ℕ) (p q : Part S) (old : Table S) where
  -- before the first object
  pub walking_none : CanWalk member old key (var ∷ vars) p q → IsWalking member op key var vars p q old old 0
  walking_none can = record {
    head = record { vars = refl; domains = refl; lo = refl; hi = refl };
    here = λ b is_in l t. absurd (omega (arith, l));
    elsewhere = λ k e t. refl;
    above = λ y l. all_weaker (λ r. key_below r.key key) (λ r. key_below r.key (key ++ y ∷ [])) (λ r. below_continues r.key key (y ∷ [])) old.rows can.above;
  }

  module _ (can : CanWalk member old key (var ∷ vars) p q) (ids : List ℕ) (domain : ids ≡ ids_of_variable old.domains var) where
    var_known : var < length old.domains
    var_known = ltb-true _ _ (and_parts _ _ can.known).0

    -- where the objects that are left out have no tick
    idle : (b : ℕ → ℕ) → IsIn old.domains b → has_id (visited op var ids p q) (b var) ≡ false → (t : ℕ) →
        combined_between op old.lo old.hi (part_has member p b) (part_has member q b) t ≡ false
    idle b is_in none t =
        idle_elsewhere op (goes_left op var p q) (offers var q) (ids_at p.place p.rows.now) (ids_at q.place q.rows.now) ids (b var) old.lo old.hi
        (part_has member p b) (part_has member q b)
        (λ e. part_idle member old.domains old.lo old.hi var p can.left (goes_left-offers op var p q e) b)
        (λ e. part_idle member old.domains old.lo old.hi var q can.right e b)
        (ap (λ (l : List ℕ). has_id l (b var)) domain ∙ is_in var var_known)
        none t

    inside : (x : ℕ) → has_id (visited op var ids p q) x ≡ true → has_id (ids_of_variable old.domains var) x ≡ true
    inside x visited_x =
        ap (λ (l : List ℕ). has_id l x) (sym domain)
        ∙ visited_inside op (goes_left op var p q) (offers var q) (ids_at p.place p.rows.now) (ids_at q.place q.rows.now) ids x
        (λ e has_x. ap (λ (l : List ℕ). has_id l x) domain ∙ part_inside member old.domains old.lo old.hi var p can.left (goes_left-offers op var p q e) x has_x)
        (λ e has_x. ap (λ (l : List ℕ). has_id l x) domain ∙ part_inside member old.domains old.lo old.hi var q can.right e x has_x)
        visited_x

    -- after the last object
    pub walking_all : (now : Table S) (from : ℕ) → IsWalking member op key var vars p q old now from → IsNextIn (visited op var ids p q) from None →
        HasWalked member op key (var ∷ vars) p q old now
    walking_all now from walking next = record {
      head = walking.head;
      here = λ b is_in t. elim (cases_lt (b var) from) [
        | inl l ↦ walking.here b is_in l t
        | inr l ↦
            ap (λ (k : List ℕ). has_at member now.rows k t) (sym (append_assoc key (b var ∷ []) (map b vars)))
            ∙ has_at-below member now.rows (key ++ b var ∷ []) (map b vars) t (walking.above (b var) l)
            ∙ sym (idle b is_in (next (b var) l) t)
      ];
      elsewhere = walking.elsewhere;
      upto = all_weaker (λ r. key_below r.key (key ++ from ∷ [])) (λ r. key_upto r.key key) (λ r. upto_from_below r.key key (from ∷ [])) now.rows (walking.above from (let l : from ≤ from = omega arith in l));
    }

    -- at an object
    module _ (now : Table S) (from x : ℕ) (walking : IsWalking member op key var vars p q old now from) (next : IsNextIn (visited op var ids p q) from (Some x))
        (p' q' : Part S) (left : IsFixed member old.domains old.lo old.hi var x p p') (right : IsFixed member old.domains old.lo old.hi var x q q') where
      pub can_go_on : p'.vars.now ≡ vars_after var p.vars.now → q'.vars.now ≡ vars_after var q.vars.now →
          p'.place + length p'.vars.now ≡ p.place + length p.vars.now → q'.place + length q'.vars.now ≡ q.place + length q.vars.now →
          CanWalk member now (key ++ x ∷ []) vars p' q'
      can_go_on left_vars right_vars left_room right_room = record {
        left = part_moved member p' old now walking.head left.rows;
        right = part_moved member q' old now walking.head right.rows;
        left_vars = ap (λ (us : List ℕ). covers vars us) left_vars ∙ covers_after var vars p.vars.now can.left_vars;
        right_vars = ap (λ (us : List ℕ). covers vars us) right_vars ∙ covers_after var vars q.vars.now can.right_vars;
        known = ap (λ (d : List (List ℕ)). are_known d vars) walking.head.domains ∙ (and_parts _ _ can.known).1;
        fits = λ rest e. fits rest e;
        above = walking.above x next.0;
        room = let n = length_push key x in omega (arith, n, can.room);
        left_room = omega (arith, left_room, can.left_room);
        right_room = omega (arith, right_room, can.right_room);
      }
        where
          fits : (rest : List ℕ) → key_in now.domains vars rest ≡ true → key_in now.domains now.vars ((key ++ x ∷ []) ++ rest) ≡ true
          fits rest e =
              ap (λ (k : List ℕ). key_in now.domains now.vars k) (append_assoc key (x ∷ []) rest)
              ∙ ap (λ (d : List (List ℕ)). key_in d now.vars (key ++ x ∷ rest)) walking.head.domains
              ∙ ap (λ (vs : List ℕ). key_in old.domains vs (key ++ x ∷ rest)) walking.head.vars
              ∙ can.fits (x ∷ rest) (and_from _ _ (inside x next.1) (ap (λ (d : List (List ℕ)). key_in d vars rest) (sym walking.head.domains) ∙ e))

      pub walking_more : (new : Table S) → HasWalked member op (key ++ x ∷ []) vars p' q' now new → IsWalking member op key var vars p q old new (x + 1)
      walking_more new walked = record {
        head = same_head-trans old now new walking.head walked.head;
        here = here;
        elsewhere = λ k e t. walked.elsewhere k (starts_no_longer k key (x ∷ []) e) t ∙ walking.elsewhere k e t;
        above = λ y l. all_weaker (λ r. key_upto r.key (key ++ x ∷ [])) (λ r. key_below r.key (key ++ y ∷ [])) (λ r e. below_from_upto r.key key x y e (omega arith)) new.rows walked.upto;
      }
        where
          same : (b : ℕ → ℕ) → IsIn old.domains b → b var ≡ x → (t : ℕ) →
              has_at member new.rows (key ++ b var ∷ map b vars) t ≡ combined_between op old.lo old.hi (part_has member p b) (part_has member q b) t
          same b is_in e t =
              ap (λ (y : ℕ). has_at member new.rows (key ++ y ∷ map b vars) t) e
              ∙ ap (λ (k : List ℕ). has_at member new.rows k t) (sym (append_assoc key (x ∷ []) (map b vars)))
              ∙ walked.here b (subst (λ (d : List (List ℕ)). IsIn d b) (sym walking.head.domains) is_in) t
              ∙ ap (λ (l : ℕ). combined_between op l now.hi (part_has member p' b) (part_has member q' b) t) walking.head.lo
              ∙ ap (λ (u : ℕ). combined_between op old.lo u (part_has member p' b) (part_has member q' b) t) walking.head.hi
              ∙ combined_same op old.lo old.hi (part_has member p b) (part_has member p' b) (part_has member q b) (part_has member q' b) (left.same b e) (right.same b e) t

          other : (b : ℕ → ℕ) → (b var ≡ x → ⊥) → (t : ℕ) → has_at member new.rows (key ++ b var ∷ map b vars) t ≡ has_at member now.rows (key ++ b var ∷ map b vars) t
          other b differs t = walked.elsewhere (key ++ b var ∷ map b vars) (starts_with_another key (map b vars) x (b var) (ne_eqb (b var) x differs)) t

          passed : (b : ℕ → ℕ) → IsIn old.domains b → from ≤ b var → b var < x → (t : ℕ) →
              has_at member new.rows (key ++ b var ∷ map b vars) t ≡ combined_between op old.lo old.hi (part_has member p b) (part_has member q b) t
          passed b is_in l below t =
              other b (λ e. omega (arith, e, below)) t
              ∙ ap (λ (k : List ℕ). has_at member now.rows k t) (sym (append_assoc key (b var ∷ []) (map b vars)))
              ∙ has_at-below member now.rows (key ++ b var ∷ []) (map b vars) t (walking.above (b var) l)
              ∙ sym (idle b is_in (next.2 (b var) l below) t)

          here : (b : ℕ → ℕ) → IsIn old.domains b → b var < x + 1 → (t : ℕ) →
              has_at member new.rows (key ++ b var ∷ map b vars) t ≡ combined_between op old.lo old.hi (part_has member p b) (part_has member q b) t
          here b is_in l t = elim (cases_lt (b var) from) [
            | inl below ↦ other b (λ e. omega (arith, e, below, next.0)) t ∙ walking.here b is_in below t
            | inr above ↦ elim (cases_eq (b var) x) [
              | inl e ↦ same b is_in e t
              | inr differs ↦ passed b is_in above (let m : b var < x = not_equal_below (b var) x differs l in m) t
            ]
          ]
