-- Some of the objects of each variable, one variable after the other.
use Rattle.std.proofs.Common.{◌≡◌, ℕ, zero, suc, ◌+◌, ◌<◌, ◌≤◌, Bool, true, false, not, ◌&&◌, ◌||◌, Option, None, Some, Result, Ok, Err, List, [], ◌∷◌, ◌++◌, length, get_or, refl, sym, ap, ◌∙◌, subst, inl, inr, arith, append-nil, length-append}
use Rattle.std.specs.Prelude.{IfOk, IfSome, option_map, slice_index}
use Rattle.std.specs.List.{filter}
use Rattle.std.specs.List.Sorted.{IsStrictlyIncreasing}
use Rattle.std.proofs.lemmas.Bool.{false≢true, and_parts, cases_Bool, cases_lt, both_ways}
use Rattle.std.proofs.lemmas.List.Kept.{IsStrictlyIncreasing-filter}
use Rattle.geometry.specs.Region.{Region}
use Rattle.formula.specs.Tree.{ResolvedQuery}
use Rattle.object_store.specs.Contents.{Contents, ids_in}
use Rattle.object_store.specs.Searching.{AreFrom, IsSearched}
use Rattle.object_store.proofs.AreaLemmas.{increasing}
use Rattle.object_store.proofs.IdLemmas.{ids-told}
use Rattle.relation.specs.Key.{has_id, ids_of_variable}
use Rattle.narrowing.specs.declared.scene.Scene.{Scene}
use Rattle.narrowing.specs.Holding.{FailsWith}
use Rattle.narrowing.specs.Narrowed.{AreOfClasses, IsShare, Suffice, SufficeSoFar, SufficeWithin}
use Rattle.narrowing.specs.Needed.{AreNeeded, IsOfEither}
use Rattle.worlds.specs.Between.{LiesBetween}
use Rattle.narrowing.proofs.HoldingLemmas.{fails_exactly}
use Rattle.narrowing.proofs.ListLemmas.{has-filter, no_more, rest_increases}

-- ---- one variable

not_both : (b c : Bool) → c ≡ true → (b && c) ≡ false → b ≡ false
not_both true c is fails = absurd (both_ways c fails is)
not_both false c is fails = refl

module _ (a : Scene) (q : ResolvedQuery) where
  -- those of its own that the formula needs
  pub share_of_needed : (v class : ℕ) (ids : List ℕ) → v < length a.domains.now → IsStrictlyIncreasing (ids_of_variable a.domains.now v) → AreNeeded a class v q.formula ids →
      ((id : ℕ) → has_id (ids_of_variable a.domains.now v) id ≡ true → has_id (ids_in a.store.now.objects class) id ≡ true) →
      IsShare a q v (filter (has_id (ids_of_variable a.domains.now v)) ids)
  share_of_needed v class ids within rise needed of_class =
      let own : List ℕ = ids_of_variable a.domains.now v in
      let up : IsStrictlyIncreasing (filter (has_id own) ids) = IsStrictlyIncreasing-filter (has_id own) ids needed.ascending in
      let among : (id : ℕ) → has_id (filter (has_id own) ids) id ≡ true → has_id own id ≡ true =
      λ id has. (and_parts (has_id ids id) (has_id own id) (sym (has-filter (has_id own) ids id) ∙ has)).1 in
      record {
        ascending = up;
        among = among;
        fewer = no_more (filter (has_id own) ids) own up rise among;
        sound = λ b is_in lacking.
            needed.fails b is_in (of_class (b v) (is_in v within))
            (not_both (has_id ids (b v)) (has_id own (b v)) (is_in v within) (sym (has-filter (has_id own) ids (b v)) ∙ lacking));
      }

  -- those that weren't lost, of few that were looked at
  pub share_of_few : (v : ℕ) (ids : List ℕ) → v < length a.domains.now → IsStrictlyIncreasing (ids_of_variable a.domains.now v) →
      IsSearched (FailsWith a v q.formula) (ids_of_variable a.domains.now v) ids [] → IsShare a q v ids
  share_of_few v ids within rise searched =
      let same : ids ++ [] ≡ ids = append-nil ids in
      let up : IsStrictlyIncreasing ids = increasing 0 ids (subst (AreFrom 0) same searched.ascending) in
      let among : (id : ℕ) → has_id ids id ≡ true → has_id (ids_of_variable a.domains.now v) id ≡ true =
      λ id has. searched.among id (ap (λ all. has_id all id) same ∙ has) in
      record {
        ascending = up;
        among = among;
        fewer = no_more ids (ids_of_variable a.domains.now v) up rise among;
        sound = λ b is_in lacking. searched.lost (b v) (is_in v within) (ap (λ all. has_id all (b v)) same ∙ lacking) b is_in refl;
      }

  -- all of its own
  pub whole_share : (v : ℕ) → v < length a.domains.now → IsStrictlyIncreasing (ids_of_variable a.domains.now v) → IsShare a q v (ids_of_variable a.domains.now v)
  whole_share v within up = record {
    ascending = up;
    among = λ id has. has;
    fewer = omega arith;
    sound = λ b is_in lacking. absurd (both_ways (has_id (ids_of_variable a.domains.now v) (b v)) lacking (is_in v within));
  }

  -- ---- one variable more

  in_front : (some : List (List ℕ)) (ids : List ℕ) (v : ℕ) → v < length some → ids_of_variable (some ++ ids ∷ []) v ≡ ids_of_variable some v
  in_front [] ids v within = absurd (omega (arith, within))
  in_front (x ∷ some) ids zero within = refl
  in_front (x ∷ some) ids (suc v) within = in_front some ids v (omega (arith, within))

  at_end : (some : List (List ℕ)) (ids : List ℕ) → ids_of_variable (some ++ ids ∷ []) (length some) ≡ ids
  at_end [] ids = refl
  at_end (x ∷ some) ids = at_end some ids

  -- what holds of each variable so far and of the next one holds of all of them
  each_so_far : (P : ℕ → List ℕ → Type 0) (some : List (List ℕ)) (ids : List ℕ) → ((v : ℕ) → v < length some → P v (ids_of_variable some v)) →
      P (length some) ids → (v : ℕ) → v < length (some ++ ids ∷ []) → P v (ids_of_variable (some ++ ids ∷ []) v)
  each_so_far P some ids before next v within =
      elim (cases_lt v (length some)) [
        | inl earlier ↦ subst (P v) (sym (in_front some ids v earlier)) (before v earlier)
        | inr later ↦
            let same : v ≡ length some = omega (arith, later, within, length-append some (ids ∷ [])) in
            subst (λ (v : ℕ). P v (ids_of_variable (some ++ ids ∷ []) v)) (sym same) (subst (P (length some)) (sym (at_end some ids)) next)
      ]

  pub more_suffice : (some : List (List ℕ)) (ids : List ℕ) → SufficeSoFar a q some → length some < length a.domains.now →
      IsShare a q (length some) ids → SufficeSoFar a q (some ++ ids ∷ [])
  more_suffice some ids so_far within share = record {
    upto = omega (arith, within, length-append some (ids ∷ []));
    among = each_so_far (λ v own. (id : ℕ) → has_id own id ≡ true → has_id (ids_of_variable a.domains.now v) id ≡ true) some ids so_far.among share.among;
    fewer = each_so_far (λ v own. length own ≤ length (ids_of_variable a.domains.now v)) some ids so_far.fewer share.fewer;
    sound = λ b is_in.
        elim (so_far.sound b is_in) [
          | inr fails ↦ inr fails
          | inl before ↦ elim (cases_Bool (has_id ids (b (length some)))) [
            | inl has ↦ inl (each_so_far (λ v own. has_id own (b v) ≡ true) some ids before has)
            | inr lacking ↦ inr (share.sound b is_in lacking)
          ]
        ];
  }

  pub none_suffice : SufficeSoFar a q []
  none_suffice = record {
    upto = omega arith;
    among = λ v within. absurd (omega (arith, within));
    fewer = λ v within. absurd (omega (arith, within));
    sound = λ b is_in. inl (λ v within. absurd (omega (arith, within)));
  }

  -- ---- all variables

  past_end : (some : List (List ℕ)) (v : ℕ) → length some ≤ v → ids_of_variable some v ≡ []
  past_end [] v past = refl
  past_end (x ∷ some) zero past = absurd (omega (arith, past))
  past_end (x ∷ some) (suc v) past = past_end some v (omega (arith, past))

  pub all_suffice : (some : List (List ℕ)) → length some ≡ length a.domains.now → SufficeSoFar a q some →
      SufficeWithin a.error a.store.now a.regions.now q a.w.lo a.w.hi a.domains.now some
  all_suffice some many so_far = record {
    wider = record {
      many = sym many;
      all = λ v id has.
          elim (cases_lt v (length some)) [
            | inl within ↦ so_far.among v within id has
            | inr past ↦ absurd (false≢true (sym (ap (λ ids. has_id ids id) (past_end some v past)) ∙ has))
          ];
    };
    fewer = λ v.
        elim (cases_lt v (length some)) [
          | inl within ↦ so_far.fewer v within
          | inr past ↦ let none : length (ids_of_variable some v) ≡ 0 = ap length (past_end some v past) in omega (arith, none)
        ];
    sound = so_far.sound;
  }

pub exact_suffice : LiesBetween → (s : Contents) (regions : List Region) (q : ResolvedQuery) (lo e : ℕ) (domains some : List (List ℕ)) →
    SufficeWithin 0 s regions q lo e domains some → Suffice s regions q lo e domains some
exact_suffice law s regions q lo e domains some within = record {
  wider = within.wider;
  fewer = within.fewer;
  sound = λ b is_in.
      elim (within.sound b is_in) [
        | inl here ↦ inl here
        | inr fails ↦ inr (fails_exactly law s regions lo e q.formula b fails)
      ];
}

pub found_suffice : LiesBetween → {E : Type 0} (s : Contents) (regions : List Region) (q : ResolvedQuery) (lo e : ℕ) (domains : List (List ℕ)) (r : Result (Option (List (List ℕ))) E) →
    IfOk r (λ found. IfSome found (λ some. SufficeWithin 0 s regions q lo e domains some)) → IfOk r (λ found. IfSome found (λ some. Suffice s regions q lo e domains some))
found_suffice law s regions q lo e domains (Err error) within = within
found_suffice law s regions q lo e domains (Ok None) within = within
found_suffice law s regions q lo e domains (Ok (Some some)) within = exact_suffice law s regions q lo e domains some within

-- the objects of a variable are those of its class
pub own_of_class : (s : Contents) (q : ResolvedQuery) (domains : List (List ℕ)) (v : ℕ) → AreOfClasses s q domains → v < length domains →
    (id : ℕ) → has_id (ids_of_variable domains v) id ≡ true → has_id (ids_in s.objects (slice_index q.classes v)) id ≡ true
own_of_class s q domains v are within id has =
    let many = are.many in
    ap (λ ids. has_id ids id) (sym (ids-told s (slice_index q.classes v))) ∙ are.each v id (omega (arith, within, many)) has

-- ---- what both sides of AND need

either_lacks : (b c : Bool) → (b && c) ≡ false → (not b || not c) ≡ true
either_lacks true true fails = sym fails
either_lacks true false fails = refl
either_lacks false c fails = refl

pub of_common : {V : Type 0} (items : V → List ℕ) (left right : Option V) (l r : V) (ids : List ℕ) → left ≡ Some l → right ≡ Some r →
    IsStrictlyIncreasing (items l) → ids ≡ filter (has_id (items r)) (items l) → IsOfEither (option_map items left) (option_map items right) ids
of_common {V} items left right l r ids first second up are =
    subst (λ (left : Option V). IsOfEither (option_map items left) (option_map items right) ids) (sym first)
    (subst (λ (right : Option V). IsOfEither (Some (items l)) (option_map items right) ids) (sym second)
    (subst (IsOfEither (Some (items l)) (Some (items r))) (sym are) (record {
      ascending = IsStrictlyIncreasing-filter (has_id (items r)) (items l) up;
      lacking = λ id lacking.
          either_lacks (has_id (items l) id) (has_id (items r) id) (sym (has-filter (has_id (items r)) (items l) id) ∙ lacking);
    })))

-- the first of ascending ids and what follows
pub from_increasing : (low : ℕ) (ids : List ℕ) → IsStrictlyIncreasing ids → (0 < length ids → low ≤ get_or ids 0 0) → AreFrom low ids
from_increasing low [] up first = tt
from_increasing low (x ∷ ids) up first =
    (first (omega arith), from_increasing (x + 1) ids (rest_increases x ids up) (λ some. let next : x < get_or ids 0 0 = up 0 (omega (arith, some)) in omega (arith, next)))

-- the next variable's ids are added
pub next_suffice : (a : Scene) (q : ResolvedQuery) (some new : List (List ℕ)) (v : ℕ) (ids pushed : List ℕ) →
    v ≡ length some → v < length a.domains.now → SufficeSoFar a q some → IsShare a q v ids →
    pushed ≡ ids → new ≡ some ++ pushed ∷ [] → SufficeSoFar a q new
next_suffice a q some new v ids pushed next within so_far share same pushes =
    subst (SufficeSoFar a q) (sym (pushes ∙ ap (λ (ids : List ℕ). some ++ ids ∷ []) same))
    (more_suffice a q some ids so_far (omega (arith, next, within)) (subst (λ (v : ℕ). IsShare a q v ids) next share))
