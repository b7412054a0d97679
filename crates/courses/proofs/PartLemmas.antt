-- For this crate and for the crates above: how the parts of one timeline and of several lie.
use Rattle.std.proofs.Common.{◌≡◌, ℕ, zero, suc, ◌+◌, ◌-◌, ◌<◌, ◌≤◌, Bool, true, false, ◌||◌, min, Option, None, Some, is_some, List, [], ◌∷◌, ◌++◌, length, take, take_all, get_or, set, refl, sym, ap, subst, ◌∙◌, inl, inr, arith}
use Rattle.std.specs.Prelude.{All, IfSome, ◌==◌, nat_le, slice_get, if◌then◌else◌}
use Rattle.std.specs.Borrow.{Bor}
use Rattle.std.specs.List.{list_any, fold}
use Rattle.std.specs.Option.{option_copied, option_map_or}
use Rattle.std.proofs.lemmas.List.{take_more, get_or_past, get_or-map, length-map, get_or-set_same, get_or-set_other}
use Rattle.std.proofs.lemmas.List.Elements.{All-push}
use Rattle.std.proofs.lemmas.List.Folds.{list_any-append}
use Rattle.std.proofs.lemmas.Bool.{cases_lt, false≢true}
use Rattle.std.proofs.lemmas.Bool.Decides.{nat_tests}
use Rattle.motion.specs.Dynamic.{Dynamic}
use Rattle.motion.specs.declared.asked.Asked.{Asked}
use Rattle.motion.specs.declared.asked.Asked.TheVariants as which
use Rattle.motion.specs.Timeline.{AreBegunUpTo, Epoch, epoch_at, IsRising, IsRisingFrom}
use Rattle.motion.specs.Pieces.{changes_for, is_cut_for, AreSteadyFor, IsLinear}
use Rattle.courses.specs.Parts.{asked_at, asked_each, epochs_of_each, AreBegun, IsSteadyFrom, IsTimelinePart}

-- the epoch in force at tick t of some more epochs, where `found` is in force of those before
abbrev pub in_force_of : ℕ → Option Epoch → List Epoch → Option Epoch
in_force_of t found epochs = fold (λ found p. if nat_le p.from t then Some p else found) found epochs

-- epochs that begin past a tick change nothing there
none_more : (epochs : List Epoch) (found : Option Epoch) (low t : ℕ) → IsRisingFrom low epochs → t < low → in_force_of t found epochs ≡ found
none_more [] found low t rising before = refl
none_more (q ∷ epochs) found low t rising before =
    let late : t < q.from = omega (arith, rising.0) in
    grind (arith, nat_tests, none_more epochs found (q.from + 1) t rising.1 (omega arith))

-- where one epoch has begun, there is one in force
pub some_in_force : (epochs : List Epoch) (p : Epoch) (t : ℕ) → is_some (in_force_of t (Some p) epochs) ≡ true
some_in_force [] p t = refl
some_in_force (q ∷ epochs) p t =
    elim (cases_lt t q.from) [
      | inl before ↦ grind (arith, nat_tests, some_in_force epochs p t)
      | inr begun ↦ grind (arith, nat_tests, some_in_force epochs q t)
    ]

pub some_begun : (p : Epoch) (epochs : List Epoch) (t : ℕ) → p.from ≤ t → is_some (epoch_at (p ∷ epochs) t) ≡ true
some_begun p epochs t begun = grind (arith, nat_tests, some_in_force epochs p t)

pub none_begun : (p : Epoch) (epochs : List Epoch) (t : ℕ) → IsRising (p ∷ epochs) → t < p.from → epoch_at (p ∷ epochs) t ≡ None
none_begun p epochs t rising before = none_more (p ∷ epochs) None p.from t (omega arith, rising.1) before

pub first_in_force : (p : Epoch) (epochs : List Epoch) → IsRising (p ∷ epochs) → epoch_at (p ∷ epochs) p.from ≡ Some p
first_in_force p epochs rising = grind (arith, nat_tests, none_more epochs (Some p) (p.from + 1) p.from rising.1 (omega arith))

-- no cut is before the first epoch, and one is where it begins
pub none_cut : (asked : Asked) (epochs : List Epoch) (t : ℕ) → epoch_at epochs t ≡ None → is_cut_for asked epochs t ≡ false
none_cut asked epochs t none = ap (λ q. option_map_or (changes_for asked t) q false) none

pub first_cut : (asked : Asked) (p : Epoch) (epochs : List Epoch) → IsRising (p ∷ epochs) → is_cut_for asked (p ∷ epochs) p.from ≡ true
first_cut asked p epochs rising = ap (λ q. option_map_or (changes_for asked p.from) q false) (first_in_force p epochs rising) ∙ grind (arith, nat_tests)

first_late : (p : Epoch) (epochs : List Epoch) (t : ℕ) → epoch_at (p ∷ epochs) t ≡ None → t < p.from
first_late p epochs t none =
    elim (cases_lt t p.from) [
      | inl before ↦ before
      | inr begun ↦ absurd (false≢true (ap is_some (sym none) ∙ some_begun p epochs t begun))
    ]

pub late_first : (epochs : List Epoch) (first : Epoch) (t : ℕ) → slice_get epochs 0 ≡ Some first → epoch_at epochs t ≡ None → t < first.from
late_first [] first t is none = cc
late_first (p ∷ epochs) first t is none = let same : p ≡ first = cc in subst (λ q. t < q.from) same (first_late p epochs t none)

-- with no epoch in force all is steady
quiet : (asked : Asked) (epochs : List Epoch) (lo hi : ℕ) → ((t : ℕ) → t ≤ hi → epoch_at epochs t ≡ None) → lo ≤ hi → IsSteadyFrom asked epochs lo hi
quiet asked epochs lo hi none order = record {
  in_force = λ t from up_to. none t up_to ∙ sym (none lo order);
  linear = λ p is. absurd (false≢true (ap is_some (sym (none lo order)) ∙ ap is_some is));
  whole = λ t past up_to. none_cut asked epochs t (none t up_to);
}

part_before : (asked : Asked) (p : Epoch) (epochs : List Epoch) (at last end : ℕ) → IsRising (p ∷ epochs) → at < p.from → at ≤ last → end ≡ min last (p.from - 1) → IsTimelinePart asked (p ∷ epochs) at last end
part_before asked p epochs at last end rising before order is = record {
  past = omega arith;
  within = omega arith;
  steady = quiet asked (p ∷ epochs) at end (λ t up_to. none_begun p epochs t rising (omega arith)) (omega arith);
  ends =
      elim (cases_lt last p.from) [
        | inl all ↦ let whole : end ≡ last = omega arith in grind (arith, nat_tests)
        | inr some ↦
            let next : end + 1 ≡ p.from = omega arith in
            let cut : is_cut_for asked (p ∷ epochs) (end + 1) ≡ true = ap (is_cut_for asked (p ∷ epochs)) next ∙ first_cut asked p epochs rising in
            grind (arith, cut)
      ];
}

-- a timeline before its first epoch
pub part_before_first : (asked : Asked) (epochs : List Epoch) (first : Epoch) (at last end : ℕ) → IsRising epochs → slice_get epochs 0 ≡ Some first → epoch_at epochs at ≡ None
    → at ≤ last → end ≡ min last (first.from - 1) → IsTimelinePart asked epochs at last end
part_before_first asked [] first at last end rising is none order end_is = cc
part_before_first asked (p ∷ epochs) first at last end rising is none order end_is =
    let same : first ≡ p = cc in
    part_before asked p epochs at last end rising (first_late p epochs at none) order (end_is ∙ ap (λ q. min last (q.from - 1)) same)

-- and one that was never written
pub part_never : (asked : Asked) (epochs : List Epoch) (at last : ℕ) → slice_get epochs 0 ≡ None → at ≤ last → IsTimelinePart asked epochs at last last
part_never asked [] at last none order = record {
  past = order;
  within = omega arith;
  steady = quiet asked [] at last (λ t up_to. refl) order;
  ends = grind (arith, nat_tests);
}
part_never asked (p ∷ epochs) at last none order = cc

-- what is steady stays so over fewer ticks
pub linear_less : (v : Dynamic) (lo hi end : ℕ) → end ≤ hi → IsLinear v lo hi → IsLinear v lo end
linear_less v lo hi end less linear = record {
  written = linear.written;
  slope = λ t from up_to. linear.slope t from (omega arith);
  value = λ t from up_to. linear.value t from (omega arith);
}

steady_for_less : (asked : Asked) (p : Epoch) (lo hi end : ℕ) → end ≤ hi → AreSteadyFor asked p lo hi → AreSteadyFor asked p lo end
steady_for_less which.All p lo hi end less steady = λ a v cell. linear_less v lo hi end less (steady a v cell)
steady_for_less (which.These indexes) p lo hi end less steady = λ a v asks cell. linear_less v lo hi end less (steady a v asks cell)

pub steady_less : (asked : Asked) (epochs : List Epoch) (lo hi end : ℕ) → end ≤ hi → IsSteadyFrom asked epochs lo hi → IsSteadyFrom asked epochs lo end
steady_less asked epochs lo hi end less steady = record {
  in_force = λ t from up_to. steady.in_force t from (omega arith);
  linear = λ p is. steady_for_less asked p lo hi end less (steady.linear p is);
  whole = λ t past up_to. steady.whole t past (omega arith);
}

-- the common part of some timelines, each beside what is asked of it, ends with tick `end`
pub record IsCommonTo (timelines : List (Asked × List Epoch)) (at last end : ℕ) : Type 0 where
  pub past : at ≤ end
  pub within : end ≤ last
  pub steady : All (λ p. IsSteadyFrom p.0 p.1 at end) timelines
  pub ends : (end == last || list_any (λ p. is_cut_for p.0 p.1 (end + 1)) timelines) ≡ true

pub common_none : (at last : ℕ) → at ≤ last → IsCommonTo [] at last last
common_none at last order = record {
  past = order;
  within = omega arith;
  steady = λ k d l. absurd (omega arith);
  ends = grind (arith, nat_tests);
}

-- one more timeline
common_push : (timelines : List (Asked × List Epoch)) (asked : Asked) (epochs : List Epoch) (at last end next : ℕ) → IsCommonTo timelines at last end → IsTimelinePart asked epochs at end next
    → IsCommonTo (timelines ++ (asked, epochs) ∷ []) at last next
common_push timelines asked epochs at last end next common part =
    let cut : Asked × List Epoch → Bool = λ p. is_cut_for p.0 p.1 (next + 1) in
    let any : list_any cut (timelines ++ (asked, epochs) ∷ []) ≡ (list_any cut timelines || is_cut_for asked epochs (next + 1))
    = grind (arith, list_any-append cut timelines ((asked, epochs) ∷ [])) in
    record {
      past = part.past;
      within = omega (arith, part.within, common.within);
      steady =
          All-push (λ p. IsSteadyFrom p.0 p.1 at next) timelines (asked, epochs)
          (λ k d l. steady_less (get_or timelines k d).0 (get_or timelines k d).1 at end next part.within (common.steady k d l)) part.steady;
      ends =
          elim (cases_lt next end) [
            | inl less ↦ grind (arith, nat_tests, any, part.ends)
            | inr same ↦ let is : next ≡ end = omega (arith, part.within) in rw any (rw is (grind (arith, nat_tests, common.ends)))
          ];
    }

pub common_more : (timelines : List (Asked × List Epoch)) (k : ℕ) (asked : Asked) (epochs : List Epoch) (at last end next : ℕ) → k < length timelines
    → get_or timelines k (which.All, []) ≡ (asked, epochs) → IsCommonTo (take k timelines) at last end → IsTimelinePart asked epochs at end next → IsCommonTo (take (k + 1) timelines) at last next
common_more timelines k asked epochs at last end next some is common part =
    rw (take_more timelines k (which.All, []) some) (rw is (common_push (take k timelines) asked epochs at last end next common part))

-- the epochs of the timeline of an index, and what is asked of it
pub item_of : (timelines : List (Bor (List Epoch))) (k : ℕ) (item : Bor (List Epoch)) → k < length timelines → item ≡ get_or timelines k item
    → get_or (epochs_of_each timelines) k [] ≡ item.now
item_of timelines k item there is = get_or-map (λ t. t.now) timelines k item [] there ∙ ap (λ t. t.now) (sym is)

pub length-epochs_of_each : (timelines : List (Bor (List Epoch))) → length (epochs_of_each timelines) ≡ length timelines
length-epochs_of_each timelines = length-map timelines (λ t. t.now)

pub length-asked_each : (asked : List Asked) (timelines : List (List Epoch)) → length (asked_each asked timelines) ≡ length timelines
length-asked_each asked [] = refl
length-asked_each [] (epochs ∷ timelines) = ap suc (length-asked_each [] timelines)
length-asked_each (first ∷ asked) (epochs ∷ timelines) = ap suc (length-asked_each asked timelines)

pub asked_each_at : (asked : List Asked) (timelines : List (List Epoch)) (k : ℕ) → k < length timelines
    → get_or (asked_each asked timelines) k (which.All, []) ≡ (asked_at asked k, get_or timelines k [])
asked_each_at asked [] k there = absurd (omega arith)
asked_each_at [] (epochs ∷ timelines) zero there = refl
asked_each_at [] (epochs ∷ timelines) (suc k) there = asked_each_at [] timelines k (omega arith)
asked_each_at (first ∷ asked) (epochs ∷ timelines) zero there = refl
asked_each_at (first ∷ asked) (epochs ∷ timelines) (suc k) there = asked_each_at asked timelines k (omega arith)

pub item_asked : (asked : List Asked) (timelines : List (Bor (List Epoch))) (k : ℕ) (item : Bor (List Epoch)) → k < length timelines → item ≡ get_or timelines k item
    → get_or (asked_each asked (epochs_of_each timelines)) k (which.All, []) ≡ (asked_at asked k, item.now)
item_asked asked timelines k item there is =
    asked_each_at asked (epochs_of_each timelines) k (omega (arith, length-epochs_of_each timelines)) ∙ ap (λ epochs. (asked_at asked k, epochs)) (item_of timelines k item there is)

pub common_whole : (asked : List Asked) (timelines : List (Bor (List Epoch))) (k at last end : ℕ) → length timelines ≤ k
    → IsCommonTo (take k (asked_each asked (epochs_of_each timelines))) at last end → IsCommonTo (asked_each asked (epochs_of_each timelines)) at last end
common_whole asked timelines k at last end all common =
    subst (λ ts. IsCommonTo ts at last end)
    (take_all k (asked_each asked (epochs_of_each timelines)) (omega (arith, length-asked_each asked (epochs_of_each timelines), length-epochs_of_each timelines))) common

-- ---- how many epochs have begun
if_some : {X : Type 0} (P Q : X → Type 0) (o : Option X) → ((x : X) → P x → Q x) → IfSome o P → IfSome o Q
if_some P Q None h is = tt
if_some P Q (Some x) h is = h x is

-- as many have begun at each tick between two at which so many have
pub begun_between : (epochs : List Epoch) (at t hi count : ℕ) → at ≤ t → t ≤ hi → AreBegunUpTo epochs at count → AreBegunUpTo epochs hi count → AreBegunUpTo epochs t count
begun_between epochs at t hi count from up_to first last = record {
  within = first.within;
  begun = λ k l. if_some (λ p. p.from ≤ at) (λ p. p.from ≤ t) (slice_get epochs k) (λ p is. omega arith) (first.begun k l);
  later = λ k l. if_some (λ p. hi < p.from) (λ p. t < p.from) (slice_get epochs k) (λ p is. omega arith) (last.later k l);
}

-- one more timeline, whose part ends no later than those before it
pub begun_more : (timelines : List (List Epoch)) (counts : List ℕ) (at k end next : ℕ) → at ≤ next → next ≤ end → AreBegun timelines at counts → k < length timelines
    → ((j : ℕ) → j < k → AreBegunUpTo (get_or timelines j []) end (get_or counts j 0)) → AreBegunUpTo (get_or timelines k []) next (get_or counts k 0)
    → (j : ℕ) → j < k + 1 → AreBegunUpTo (get_or timelines j []) next (get_or counts j 0)
begun_more timelines counts at k end next order less first there before one j l =
    elim (cases_lt j k) [
      | inl earlier ↦ begun_between (get_or timelines j []) at next end (get_or counts j 0) order less (first j (omega arith)) (before j earlier)
      | inr here ↦ let same : j ≡ k = omega arith in rw same one
    ]

-- before the first epoch none has
late_each : (epochs : List Epoch) (low t k : ℕ) → IsRisingFrom low epochs → t < low → IfSome (slice_get epochs k) (λ p. t < p.from)
late_each [] low t k rising before = tt
late_each (p ∷ epochs) low t zero rising before = omega (arith, rising.0)
late_each (p ∷ epochs) low t (suc k) rising before = late_each epochs (p.from + 1) t k rising.1 (omega (arith, rising.0))

pub none_begun_before : (epochs : List Epoch) (first : Epoch) (t : ℕ) → IsRising epochs → slice_get epochs 0 ≡ Some first → t < first.from → AreBegunUpTo epochs t 0
none_begun_before [] first t rising is before = cc
none_begun_before (p ∷ epochs) first t rising is before =
    let same : first ≡ p = cc in
    let early : t < p.from = subst (λ q. t < q.from) same before in
    record {
      within = omega arith;
      begun = λ k l. absurd (omega arith);
      later = λ k l. late_each (p ∷ epochs) p.from t k (omega arith, rising.1) early;
    }

pub none_begun_ever : (epochs : List Epoch) (t : ℕ) → slice_get epochs 0 ≡ None → AreBegunUpTo epochs t 0
none_begun_ever [] t none = record { within = omega arith; begun = λ k l. absurd (omega arith); later = λ k l. tt }
none_begun_ever (p ∷ epochs) t none = cc

-- the first k of the epochs are in force at tick `at`, and there are no more
pub record AreFilled (timelines : List (List Epoch)) (at k : ℕ) (epochs : List (Option (Bor Epoch))) : Type 0 where
  pub in_force : (j : ℕ) → j < k → option_copied (get_or epochs j None) ≡ epoch_at (get_or timelines j []) at
  pub rest : (j : ℕ) → k ≤ j → get_or epochs j None ≡ None

pub filled_more : (timelines : List (List Epoch)) (at k : ℕ) (epochs : List (Option (Bor Epoch))) (epoch : Option (Bor Epoch)) → k < length epochs
    → option_copied epoch ≡ epoch_at (get_or timelines k []) at → AreFilled timelines at k epochs → AreFilled timelines at (k + 1) (set epochs k epoch)
filled_more timelines at k epochs epoch room is filled = record {
  in_force = λ j l.
      elim (cases_lt j k) [
        | inl before ↦ ap option_copied (get_or-set_other epochs k j epoch None (omega arith)) ∙ filled.in_force j before
        | inr here ↦ let same : j ≡ k = omega arith in rw same (ap option_copied (get_or-set_same epochs k epoch None room) ∙ is)
      ];
  rest = λ j past. get_or-set_other epochs k j epoch None (omega arith) ∙ filled.rest j (omega arith);
}

pub filled_all : (timelines : List (List Epoch)) (at k : ℕ) (epochs : List (Option (Bor Epoch))) → length timelines ≤ k → AreFilled timelines at k epochs
    → (j : ℕ) → option_copied (get_or epochs j None) ≡ epoch_at (get_or timelines j []) at
filled_all timelines at k epochs all filled j =
    elim (cases_lt j k) [
      | inl before ↦ filled.in_force j before
      | inr past ↦
          ap option_copied (filled.rest j past)
          ∙ ap (λ epochs. epoch_at epochs at) (sym (get_or_past timelines j [] (omega arith)))
    ]

-- ---- what a common part shows
if_steady : (asked : Asked) (epochs : List Epoch) (o : Option (Bor Epoch)) (at end : ℕ) → option_copied o ≡ epoch_at epochs at → IsSteadyFrom asked epochs at end
    → IfSome o (λ epoch. AreSteadyFor asked epoch.now at end)
if_steady asked epochs None at end is steady = tt
if_steady asked epochs (Some epoch) at end is steady = steady.linear epoch.now (sym is)

module _ (asked : List Asked) (timelines : List (List Epoch)) (at end k : ℕ) (epochs : List (Option (Bor Epoch))) (order : at ≤ end) (all : length timelines ≤ k)
    (steady : All (λ p. IsSteadyFrom p.0 p.1 at end) (asked_each asked timelines)) (filled : AreFilled timelines at k epochs) where
  steady_each : (j : ℕ) → IsSteadyFrom (asked_at asked j) (get_or timelines j []) at end
  steady_each j =
      elim (cases_lt j (length timelines)) [
        | inl there ↦
            let P : Asked × List Epoch → Type 0 = λ p. IsSteadyFrom p.0 p.1 at end in
            subst P (asked_each_at asked timelines j there) (steady j (which.All, []) (omega (arith, length-asked_each asked timelines)))
        | inr past ↦
            let P : List Epoch → Type 0 = λ e. IsSteadyFrom (asked_at asked j) e at end in
            subst P (sym (get_or_past timelines j [] past)) (quiet (asked_at asked j) [] at end (λ t up_to. refl) order)
      ]

  pub epochs_in : (j t : ℕ) → at ≤ t → t ≤ end → epoch_at (get_or timelines j []) t ≡ option_copied (get_or epochs j None)
  epochs_in j t from up_to = (steady_each j).in_force t from up_to ∙ sym (filled_all timelines at k epochs all filled j)

  pub steady_in : (j : ℕ) → IfSome (get_or epochs j None) (λ epoch. AreSteadyFor (asked_at asked j) epoch.now at end)
  steady_in j = if_steady (asked_at asked j) (get_or timelines j []) (get_or epochs j None) at end (filled_all timelines at k epochs all filled j) (steady_each j)
