-- Columns of narrowed strips.
use Rattle.std.proofs.Common.{◌≡◌, ℕ, zero, suc, ◌+◌, ◌<◌, ◌≤◌, ℤ, ◌≤ℤ◌, ◌<ℤ◌, Bool, false, ◌&&◌, ◌||◌, ◌⊎◌, List, [], ◌∷◌, ◌++◌, ◌-◌, length, replicate, set, take, refl, sym, ap, subst, ◌∙◌, inl, inr, arith}
use Rattle.std.specs.Prelude.{◌==◌, ◌≢◌, int_le, slice_index_or}
use Rattle.std.proofs.lemmas.Bool.{cases_eq, cases_lt}
use Rattle.std.proofs.lemmas.Bool.Decides.{nat_tests}
use Rattle.std.proofs.lemmas.Grind.{common_steps}
use Rattle.std.proofs.lemmas.Int.{ints}
use Rattle.std.proofs.lemmas.List.{get_or-append_right, get_or-set_other, get_or-set_same, get_or_append_left, length-append, length-set, take_all}
use Rattle.plane.specs.Boxes.{Grid, Strips, strips_meet}
use Rattle.plane.specs.declared.limits.TheConstants.{SLICES}
use Rattle.plane_index.specs.Columns.{bounded, greatest_narrow, least_narrow, narrow_at, narrow_meets, narrowed, no_narrow, AreColumns, IsColumn}
use Rattle.plane_index.specs.Held.{kept_strips}
use Rattle.plane_index.specs.Index.{fresh_at}
use Rattle.plane_index.specs.Lines.{strips_as}
use Rattle.plane_index.specs.States.{no_state, state_of_place, strips_at, strips_by_state, AreWritten, IsWritten}
use Rattle.plane_index.specs.declared.cover.Cover.{Cover}
use Rattle.plane_index.specs.declared.cover.Narrow.{Narrow}
use Rattle.plane_index.specs.declared.state.State.{State}

-- ---- narrowed strips

low_same : (a n : ℤ) → least_narrow <ℤ a → a ≤ℤ greatest_narrow → int_le (bounded a) (bounded n) ≡ int_le a n
low_same a n h k = grind (arith, ints, nat_tests)

high_same : (a n : ℤ) → least_narrow ≤ℤ a → a <ℤ greatest_narrow → int_le (bounded n) (bounded a) ≡ int_le n a
high_same a n h k = grind (arith, ints, nat_tests)

pub told_exactly : (asked : Cover) → least_narrow <ℤ asked.first → asked.first ≤ℤ greatest_narrow → least_narrow ≤ℤ asked.last → asked.last <ℤ greatest_narrow →
    (p : Strips) → narrow_meets (narrowed p) (narrowed (strips_as asked)) ≡ strips_meet (strips_as asked) p
told_exactly asked above under over below p = λ i. low_same asked.first p.last above under i && high_same asked.last p.first over below i

-- ---- columns

pub none_kept : (grid : Grid) (states : List State) (s : ℕ) → IsColumn grid states s []
none_kept grid states s = record { within = omega arith; each = λ k below. absurd (omega (arith, below)) }

at_end : {X : Type 0} (xs : List X) (x d : X) (n : ℕ) → n ≡ length xs → slice_index_or (xs ++ x ∷ []) n d ≡ x
at_end xs x d n is = grind (arith, common_steps)

pub one_more_kept : (grid : Grid) (states : List State) (s : ℕ) (covers : List Narrow) (cover : Narrow) → IsColumn grid states s covers → length covers < length states →
    cover ≡ narrowed (strips_at grid states (length covers) s) → IsColumn grid states s (covers ++ cover ∷ [])
one_more_kept grid states s covers cover are below is =
    let longer : length (covers ++ cover ∷ []) ≡ length covers + 1 = length-append covers (cover ∷ []) in
    record {
      within = omega (arith, longer, below);
      each = λ k under.
          elim (cases_eq k (length covers)) [
            | inl same ↦ at_end covers cover no_narrow k same ∙ is ∙ ap (λ n. narrowed (strips_at grid states n s)) (sym same)
            | inr apart ↦
                let old : k < length covers = omega (arith, longer, under, apart) in
                get_or_append_left covers (cover ∷ []) no_narrow k old ∙ are.each k old
          ];
    }

abbrev told_by_state : State → Grid → ℕ → Narrow
told_by_state state grid s = narrowed (kept_strips (strips_by_state state grid s))

pub column_set : (grid : Grid) (states : List State) (s place : ℕ) (state : State) (covers : List Narrow) → place < length states → IsColumn grid states s covers →
    IsColumn grid (set states place state) s (set covers place (told_by_state state grid s))
column_set grid states s place state covers there are =
    let few = length-set covers place (told_by_state state grid s) in
    let many = length-set states place state in
    let within = are.within in
    record {
      within = omega (arith, few, many, within);
      each = λ k below.
          elim (cases_eq k place) [
            | inl same ↦
                ap (narrow_at (set covers place (told_by_state state grid s))) same
                ∙ get_or-set_same covers place (told_by_state state grid s) no_narrow (omega (arith, few, below, same))
                ∙ sym (ap (λ (p : State). told_by_state p grid s) (ap (state_of_place (set states place state)) same ∙ get_or-set_same states place state no_state there))
            | inr apart ↦
                get_or-set_other covers place k (told_by_state state grid s) no_narrow apart
                ∙ are.each k (omega (arith, few, below))
                ∙ sym (ap (λ (p : State). told_by_state p grid s) (get_or-set_other states place k state no_state apart))
          ];
    }

pub columns_set : (grid : Grid) (states : List State) (place : ℕ) (state : State) (columns columns' : List (List Narrow)) → place < length states → IsWritten state → AreColumns grid states columns →
    length columns' ≡ length columns → ((s : ℕ) → s < SLICES → slice_index_or columns' s [] ≡ set (slice_index_or columns s []) place (told_by_state state grid s)) →
    AreColumns grid (set states place state) columns'
columns_set grid states place state columns columns' there is are same noted = record {
  written = λ k below.
      let many = length-set states place state in
      elim (cases_eq k place) [
        | inl e ↦ subst IsWritten (sym (ap (state_of_place (set states place state)) e ∙ get_or-set_same states place state no_state there)) is
        | inr apart ↦ subst IsWritten (sym (get_or-set_other states place k state no_state apart)) (are.written k (omega (arith, below, many)))
      ];
  slices = same ∙ are.slices;
  each = λ s under.
      subst (IsColumn grid (set states place state) s) (sym (noted s under))
      (column_set grid states s place state (slice_index_or columns s []) there (are.each s under));
}

pub columns_longer : (grid : Grid) (states states' : List State) (columns : List (List Narrow)) → AreColumns grid states columns → length states ≤ length states' → AreWritten states' →
    ((k : ℕ) → k < length states → state_of_place states' k ≡ state_of_place states k) → AreColumns grid states' columns
columns_longer grid states states' columns are more written kept = record {
  written = written;
  slices = are.slices;
  each = λ s under.
      let column = are.each s under in
      let within = column.within in
      record {
        within = omega (arith, within, more);
        each = λ k below.
            column.each k below ∙ sym (ap (λ (p : State). told_by_state p grid s) (kept k (omega (arith, below, within))));
      };
}

pub columns_forgotten : (grid : Grid) (states : List State) (columns columns' : List (List Narrow)) → AreColumns grid states columns → length columns' ≡ length columns →
    ((s : ℕ) → (slice_index_or columns' s [] ≡ []) ⊎ (slice_index_or columns' s [] ≡ slice_index_or columns s [])) → AreColumns grid states columns'
columns_forgotten grid states columns columns' are same each = record {
  written = are.written;
  slices = same ∙ are.slices;
  each = λ s under. elim (each s) [
    | inl gone ↦ subst (IsColumn grid states s) (sym gone) (none_kept grid states s)
    | inr stays ↦ subst (IsColumn grid states s) (sym stays) (are.each s under)
  ];
}

pub columns_empty : (grid : Grid) (columns : List (List Narrow)) → length columns ≡ SLICES → ((s : ℕ) → slice_index_or columns s [] ≡ []) → AreColumns grid [] columns
columns_empty grid columns size empty = record {
  written = λ k below. absurd (omega (arith, below));
  slices = size;
  each = λ s under. subst (IsColumn grid [] s) (sym (empty s)) (none_kept grid [] s);
}

pub columns_filled : (grid : Grid) (states : List State) (columns : List (List Narrow)) (s : ℕ) (covers : List Narrow) → s < SLICES → AreColumns grid states columns →
    IsColumn grid states s covers → AreColumns grid states (set columns s covers)
columns_filled grid states columns s covers under are is =
    let size = are.slices in
    record {
      written = are.written;
      slices = length-set columns s covers ∙ size;
      each = λ j below. elim (cases_eq j s) [
        | inl same ↦
            subst (λ n. IsColumn grid states n (slice_index_or (set columns s covers) n [])) (sym same)
            (subst (IsColumn grid states s) (sym (get_or-set_same columns s covers [] (omega (arith, under, size)))) is)
        | inr apart ↦ subst (IsColumn grid states j) (sym (get_or-set_other columns s j covers [] apart)) (are.each j below)
      ];
    }

-- ---- marks by a column and by states

pub marked_by_both : (grid : Grid) (states : List State) (s : ℕ) (asked : Cover) (covers : List Narrow) (old middle new : List Bool) (known : ℕ) →
    IsColumn grid states s covers → known ≤ length covers → length middle ≡ length old →
    ((k : ℕ) (p : Strips) → k < known → narrow_at covers k ≡ narrowed p → fresh_at middle k ≡ (fresh_at old k || strips_meet (strips_as asked) p)) →
    ((k : ℕ) → known ≤ k → fresh_at middle k ≡ fresh_at old k) →
    ((k : ℕ) → known ≤ k → k < length middle → fresh_at new k ≡ (fresh_at middle k || strips_meet (strips_as asked) (strips_at grid states k s))) →
    ((k : ℕ) → k < known → fresh_at new k ≡ fresh_at middle k) →
    (k : ℕ) → k < length old → fresh_at new k ≡ (fresh_at old k || strips_meet (strips_as asked) (strips_at grid states k s))
marked_by_both grid states s asked covers old middle new known are within same first rest last stays k below =
    elim (cases_lt k known) [
      | inl before ↦ stays k before ∙ first k (strips_at grid states k s) before (are.each k (omega (arith, before, within)))
      | inr after ↦
          last k after (omega (arith, below, same))
          ∙ ap (λ b. b || strips_meet (strips_as asked) (strips_at grid states k s)) (rest k after)
    ]

pub mark_more : (test : ℕ → Bool) (from place : ℕ) (old marks : List Bool) (met : Bool) → from ≤ place → place < length marks → met ≡ test place →
    ((k : ℕ) → from ≤ k → k < place → fresh_at marks k ≡ (fresh_at old k || test k)) → ((k : ℕ) → place ≤ k → fresh_at marks k ≡ fresh_at old k) →
    (k : ℕ) → from ≤ k → k < place + 1 → fresh_at (set marks place (slice_index_or marks place false || met)) k ≡ (fresh_at old k || test k)
mark_more test from place old marks met begun there is marked rest k after below =
    let new = slice_index_or marks place false || met in
    elim (cases_eq k place) [
      | inl same ↦
          ap (fresh_at (set marks place new)) same
          ∙ get_or-set_same marks place new false there
          ∙ (λ i. rest place (omega arith) i || is i)
          ∙ ap (λ n. fresh_at old n || test n) (sym same)
      | inr apart ↦ get_or-set_other marks place k new false apart ∙ marked k after (omega (arith, below, apart))
    ]

-- ---- a state that is set

pub set_here : (grid : Grid) (states : List State) (place s : ℕ) (state : State) → place < length states →
    strips_at grid (set states place state) place s ≡ kept_strips (strips_by_state state grid s)
set_here grid states place s state there = ap (λ (p : State). kept_strips (strips_by_state p grid s)) (get_or-set_same states place state no_state there)

pub set_elsewhere : (grid : Grid) (states : List State) (place k s : ℕ) (state : State) → (k == place) ≡ false →
    strips_at grid (set states place state) k s ≡ strips_at grid states k s
set_elsewhere grid states place k s state apart =
    let other : k ≢ place = λ e. absurd (grind (arith, nat_tests, apart, e)) in
    ap (λ (p : State). kept_strips (strips_by_state p grid s)) (get_or-set_other states place k state no_state other)

-- ---- states that are added

replicated : (m k : ℕ) → state_of_place (replicate m no_state) k ≡ no_state
replicated zero k = refl
replicated (suc m) zero = refl
replicated (suc m) (suc k) = replicated m k

pub still_written : (old new : List State) (n m : ℕ) → n ≡ length old → AreWritten old → new ≡ take n old ++ replicate m no_state → AreWritten new
still_written old new n m size are is k below =
    let first : take n old ≡ old = take_all n old (omega (arith, size)) in
    let whole : new ≡ old ++ replicate m no_state = is ∙ ap (λ xs. xs ++ replicate m no_state) first in
    subst (λ xs. IsWritten (state_of_place xs k)) (sym whole)
    (elim (cases_lt k (length old)) [
      | inl before ↦ subst IsWritten (sym (get_or_append_left old (replicate m no_state) no_state k before)) (are k before)
      | inr past ↦ subst IsWritten (sym (rest k past)) tt
    ])
  where
    rest : (k : ℕ) → length old ≤ k → state_of_place (old ++ replicate m no_state) k ≡ no_state
    rest k past = get_or-append_right old (replicate m no_state) (length old) k no_state refl past ∙ replicated m (k - length old)

pub still_there : (old new : List State) (n m : ℕ) → n ≡ length old → new ≡ take n old ++ replicate m no_state → (k : ℕ) → k < length old → state_of_place new k ≡ state_of_place old k
still_there old new n m size is k below =
    ap (λ xs. state_of_place xs k) (is ∙ ap (λ xs. xs ++ replicate m no_state) (take_all n old (omega (arith, size))))
    ∙ get_or_append_left old (replicate m no_state) no_state k below
