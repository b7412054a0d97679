-- What is told of faults is the first of them, and which kinds are found, for this crate and for the crates above.
use Rattle.std.proofs.Common.{◌≡◌, ℕ, ◌+◌, ◌≤◌, Bool, true, false, cond, not, ◌&&◌, ◌||◌, List, [], ◌∷◌, map, Option, None, Some, ◌⊎◌, inl, inr, refl, sym, ap, subst, ◌∙◌, arith}
use Rattle.std.specs.Prelude.{◌==◌, Contains, is_some, min, nat_le, nat_lt}
use Rattle.std.specs.List.{filter, fold, list_all}
use Rattle.std.proofs.lemmas.Bool.{and_from, and_parts, cases_Bool, false≢true, le-leb}
use Rattle.std.proofs.lemmas.Bool.Decides.{nat_tests}
use Rattle.std.proofs.lemmas.List.Elements.{Contains-append_right}
use Rattle.ftl_typer.specs.declared.found.FaultKind.{FaultKind}
use Rattle.ftl_typer.specs.declared.found.FaultKind.TheVariants.{UnknownName, NameTaken, WrongKind, TermRange}
use Rattle.ftl_typer.specs.Fault.{Fault, fault_rank, has_kind}
use Rattle.ftl_typer.specs.First.{IsFirst, first_fault, first_found, found_after, is_no_later, least_place, lesser, nothing_found}
use Rattle.ftl_typer.proofs.FaultLemmas.{no_faults}

here : (f g : Fault) (fs : List Fault) → f ≡ g → Contains (f ∷ fs) g
here f g fs same = (0, omega arith, same)

there : (f g : Fault) (fs : List Fault) → Contains fs g → Contains (f ∷ fs) g
there f g fs later = Contains-append_right (f ∷ []) fs g later

same_kind : (j k : FaultKind) → (fault_rank j == fault_rank k) ≡ true → j ≡ k
same_kind UnknownName UnknownName same = refl
same_kind UnknownName NameTaken same = absurd (false≢true same)
same_kind UnknownName WrongKind same = absurd (false≢true same)
same_kind UnknownName TermRange same = absurd (false≢true same)
same_kind NameTaken UnknownName same = absurd (false≢true same)
same_kind NameTaken NameTaken same = refl
same_kind NameTaken WrongKind same = absurd (false≢true same)
same_kind NameTaken TermRange same = absurd (false≢true same)
same_kind WrongKind UnknownName same = absurd (false≢true same)
same_kind WrongKind NameTaken same = absurd (false≢true same)
same_kind WrongKind WrongKind same = refl
same_kind WrongKind TermRange same = absurd (false≢true same)
same_kind TermRange UnknownName same = absurd (false≢true same)
same_kind TermRange NameTaken same = absurd (false≢true same)
same_kind TermRange WrongKind same = absurd (false≢true same)
same_kind TermRange TermRange same = refl

-- ---- the least place of a kind

abbrev at_least : FaultKind → ℕ → Fault → Bool
at_least kind m g = not (fault_rank g.kind == fault_rank kind) || nat_le m g.place

abbrev of_another : FaultKind → Fault → Bool
of_another kind g = not (fault_rank g.kind == fault_rank kind)

step : (b : Bool) (before : Option ℕ) (f : Fault) (gs : List Fault) →
    fold lesser before (map (λ (g : Fault). g.place) (cond b (f ∷ gs) gs))
    ≡ cond b (fold lesser (lesser before f.place) (map (λ (g : Fault). g.place) gs)) (fold lesser before (map (λ (g : Fault). g.place) gs))
step true before f gs = refl
step false before f gs = refl

of_kind : (kind : FaultKind) (before : Option ℕ) (f : Fault) (fs : List Fault) → (fault_rank f.kind == fault_rank kind) ≡ true →
    least_place kind before (f ∷ fs) ≡ least_place kind (lesser before f.place) fs
of_kind kind before f fs same =
    let gs = filter (λ (g : Fault). fault_rank g.kind == fault_rank kind) fs in
    step (fault_rank f.kind == fault_rank kind) before f gs
    ∙ ap (λ (b : Bool). cond b (fold lesser (lesser before f.place) (map (λ (g : Fault). g.place) gs)) (fold lesser before (map (λ (g : Fault). g.place) gs))) same

of_other : (kind : FaultKind) (before : Option ℕ) (f : Fault) (fs : List Fault) → (fault_rank f.kind == fault_rank kind) ≡ false →
    least_place kind before (f ∷ fs) ≡ least_place kind before fs
of_other kind before f fs other =
    let gs = filter (λ (g : Fault). fault_rank g.kind == fault_rank kind) fs in
    step (fault_rank f.kind == fault_rank kind) before f gs
    ∙ ap (λ (b : Bool). cond b (fold lesser (lesser before f.place) (map (λ (g : Fault). g.place) gs)) (fold lesser before (map (λ (g : Fault). g.place) gs))) other

least_head : (b : Bool) (m place : ℕ) → m ≤ place → (not b || nat_le m place) ≡ true
least_head true m place below = le-leb m place below
least_head false m place below = refl

other_head : (b holds : Bool) → b ≡ false → (not b || holds) ≡ true
other_head true holds other = absurd (false≢true (sym other))
other_head false holds other = refl

record LeastFrom (kind : FaultKind) (start : ℕ) (fs : List Fault) (m : ℕ) : Type 0 where
  is : least_place kind (Some start) fs ≡ Some m
  below : m ≤ start
  least : list_all (at_least kind m) fs ≡ true
  place : (m ≡ start) ⊎ Contains fs (record { kind = kind; place = m })

least_from : (kind : FaultKind) (start : ℕ) (fs : List Fault) → (m : ℕ) × LeastFrom kind start fs m
least_from kind start [] = (start, record { is = refl; below = omega arith; least = refl; place = inl refl })
least_from kind start (f ∷ fs) =
    elim (cases_Bool (fault_rank f.kind == fault_rank kind)) [
      | inl same ↦
          let later = least_from kind (min start f.place) fs in
          let m = later.0 in
          let below = later.1.below in
          let found : (m ≡ start) ⊎ Contains (f ∷ fs) (record { kind = kind; place = m }) =
          elim later.1.place [
            | inl first ↦
                elim (least_of start f.place) [
                  | inl old ↦ inl (first ∙ old)
                  | inr new ↦ inr (here f (record { kind = kind; place = m }) fs
                      (λ i. record { kind = same_kind f.kind kind same i; place = sym (first ∙ new) i }))
                ]
            | inr behind ↦ inr (there f (record { kind = kind; place = m }) fs behind)
          ] in (
            m,
            record {
              is = of_kind kind (Some start) f fs same ∙ later.1.is;
              below = omega arith;
              least = and_from (at_least kind m f) (list_all (at_least kind m) fs) (least_head (fault_rank f.kind == fault_rank kind) m f.place (omega arith)) later.1.least;
              place = found;
            },
          )
      | inr other ↦
          let later = least_from kind start fs in
          let m = later.0 in
          let found : (m ≡ start) ⊎ Contains (f ∷ fs) (record { kind = kind; place = m }) =
          elim later.1.place [
            | inl first ↦ inl first
            | inr behind ↦ inr (there f (record { kind = kind; place = m }) fs behind)
          ] in (
            m,
            record {
              is = of_other kind (Some start) f fs other ∙ later.1.is;
              below = later.1.below;
              least = and_from (at_least kind m f) (list_all (at_least kind m) fs) (other_head (fault_rank f.kind == fault_rank kind) (nat_le m f.place) other) later.1.least;
              place = found;
            },
          )
    ]
  where
    least_of : (a b : ℕ) → (min a b ≡ a) ⊎ (min a b ≡ b)
    least_of a b = elim (cases_Bool (nat_le a b)) [
      | inl first ↦ inl (grind (arith, nat_tests))
      | inr second ↦ inr (grind (arith, nat_tests))
    ]

record NoneOf (kind : FaultKind) (fs : List Fault) : Type 0 where
  is : least_place kind None fs ≡ None
  none : list_all (of_another kind) fs ≡ true

record LeastOf (kind : FaultKind) (fs : List Fault) (m : ℕ) : Type 0 where
  is : least_place kind None fs ≡ Some m
  least : list_all (at_least kind m) fs ≡ true
  place : Contains fs (record { kind = kind; place = m })

of_each_kind : (kind : FaultKind) (fs : List Fault) → NoneOf kind fs ⊎ ((m : ℕ) × LeastOf kind fs m)
of_each_kind kind [] = inl (record { is = refl; none = refl })
of_each_kind kind (f ∷ fs) =
    elim (cases_Bool (fault_rank f.kind == fault_rank kind)) [
      | inl same ↦
          let later = least_from kind f.place fs in
          let m = later.0 in
          let below = later.1.below in
          let found : Contains (f ∷ fs) (record { kind = kind; place = m }) =
          elim later.1.place [
            | inl first ↦ here f (record { kind = kind; place = m }) fs (λ i. record { kind = same_kind f.kind kind same i; place = sym first i })
            | inr behind ↦ there f (record { kind = kind; place = m }) fs behind
          ] in
          inr (
            m,
            record {
              is = of_kind kind None f fs same ∙ later.1.is;
              least = and_from (at_least kind m f) (list_all (at_least kind m) fs) (least_head (fault_rank f.kind == fault_rank kind) m f.place below) later.1.least;
              place = found;
            },
          )
      | inr other ↦
          elim (of_each_kind kind fs) [
            | inl none ↦ inl (record {
              is = of_other kind None f fs other ∙ none.is;
              none = and_from (of_another kind f) (list_all (of_another kind) fs) (ap not other) none.none;
            })
            | inr some ↦ inr (
              some.0,
              record {
                is = of_other kind None f fs other ∙ some.1.is;
                least = and_from (at_least kind some.0 f) (list_all (at_least kind some.0) fs) (other_head (fault_rank f.kind == fault_rank kind) (nat_le some.0 f.place) other) some.1.least;
                place = there f (record { kind = kind; place = some.0 }) fs some.1.place;
              },
            )
          ]
    ]

-- ---- no fault before the one that is told

abbrev not_before : ℕ → Fault → Bool
not_before k g = not (nat_lt (fault_rank g.kind) k)

all_first : (fs : List Fault) → list_all (not_before 0) fs ≡ true
all_first [] = refl
all_first (f ∷ fs) = and_from (not_before 0 f) (list_all (not_before 0) fs) (grind (arith, nat_tests)) (all_first fs)

further : (n k : ℕ) → not (nat_lt n k) ≡ true → not (n == k) ≡ true → not (nat_lt n (k + 1)) ≡ true
further n k behind other = grind (arith, nat_tests, behind, other)

all_further : (kind : FaultKind) (fs : List Fault) → list_all (not_before (fault_rank kind)) fs ≡ true → list_all (of_another kind) fs ≡ true →
    list_all (not_before (fault_rank kind + 1)) fs ≡ true
all_further kind [] behind other = refl
all_further kind (f ∷ fs) behind other =
    let first = and_parts (not_before (fault_rank kind) f) (list_all (not_before (fault_rank kind)) fs) behind in
    let second = and_parts (of_another kind f) (list_all (of_another kind) fs) other in
    and_from (not_before (fault_rank kind + 1) f) (list_all (not_before (fault_rank kind + 1)) fs)
    (further (fault_rank f.kind) (fault_rank kind) first.0 second.0) (all_further kind fs first.1 second.1)

no_later : (k n : ℕ) (least : Bool) → not (nat_lt n k) ≡ true → (not (n == k) || least) ≡ true → (nat_lt k n || (k == n && least)) ≡ true
no_later k n true behind h = grind (arith, nat_tests, behind)
no_later k n false behind h = grind (arith, nat_tests, behind, h)

all_no_later : (kind : FaultKind) (m : ℕ) (fs : List Fault) → list_all (not_before (fault_rank kind)) fs ≡ true → list_all (at_least kind m) fs ≡ true →
    list_all (is_no_later (record { kind = kind; place = m })) fs ≡ true
all_no_later kind m [] behind least = refl
all_no_later kind m (f ∷ fs) behind least =
    let first = and_parts (not_before (fault_rank kind) f) (list_all (not_before (fault_rank kind)) fs) behind in
    let second = and_parts (at_least kind m f) (list_all (at_least kind m) fs) least in
    and_from (is_no_later (record { kind = kind; place = m }) f) (list_all (is_no_later (record { kind = kind; place = m })) fs)
    (no_later (fault_rank kind) (fault_rank f.kind) (nat_le m f.place) first.0 second.0) (all_no_later kind m fs first.1 second.1)

pub first_is_first : (fs : List Fault) → IsFirst fs (first_fault fs)
unfolding found_after
first_is_first fs =
    let found = found_after nothing_found fs in
    let zero_behind = all_first fs in
    elim (of_each_kind UnknownName fs) [
      | inr (m, l) ↦
          subst (IsFirst fs)
          (sym (λ i. first_found (record { unknown = l.is i; taken = found.taken; kind = found.kind; range = found.range })))
          (record { kind = UnknownName; place = m }, refl, l.place, all_no_later UnknownName m fs zero_behind l.least)
      | inl unknown ↦
          let one_behind = all_further UnknownName fs zero_behind unknown.none in
          elim (of_each_kind NameTaken fs) [
            | inr (m, l) ↦
                subst (IsFirst fs)
                (sym (λ i. first_found (record { unknown = unknown.is i; taken = l.is i; kind = found.kind; range = found.range })))
                (record { kind = NameTaken; place = m }, refl, l.place, all_no_later NameTaken m fs one_behind l.least)
            | inl taken ↦
                let two_behind = all_further NameTaken fs one_behind taken.none in
                elim (of_each_kind WrongKind fs) [
                  | inr (m, l) ↦
                      subst (IsFirst fs)
                      (sym (λ i. first_found (record { unknown = unknown.is i; taken = taken.is i; kind = l.is i; range = found.range })))
                      (record { kind = WrongKind; place = m }, refl, l.place, all_no_later WrongKind m fs two_behind l.least)
                  | inl wrong ↦
                      let three_behind = all_further WrongKind fs two_behind wrong.none in
                      elim (of_each_kind TermRange fs) [
                        | inr (m, l) ↦
                            subst (IsFirst fs)
                            (sym (λ i. first_found (record { unknown = unknown.is i; taken = taken.is i; kind = wrong.is i; range = l.is i })))
                            (record { kind = TermRange; place = m }, refl, l.place, all_no_later TermRange m fs three_behind l.least)
                        | inl past ↦
                            let nothing : first_fault fs ≡ None = λ i. first_found (record { unknown = unknown.is i; taken = taken.is i; kind = wrong.is i; range = past.is i }) in
                            subst (IsFirst fs) (sym nothing) (no_faults fs nothing)
                      ]
                ]
          ]
    ]

-- ---- which kinds are found

one_found : (before : Option ℕ) (place : ℕ) → is_some (lesser before place) ≡ true
one_found None place = refl
one_found (Some least) place = refl

found_here : (here before now later : Bool) → here ≡ true → now ≡ true → (now || later) ≡ (before || (here || later))
found_here here before now later is found = grind (arith, is, found)

found_later : (here before later : Bool) → here ≡ false → (before || later) ≡ (before || (here || later))
found_later here before later other = grind (arith, other)

-- a kind has a least place where one was found before, or one of the faults is of it
pub least_is_some : (kind : FaultKind) (before : Option ℕ) (fs : List Fault) → is_some (least_place kind before fs) ≡ (is_some before || has_kind kind fs)
least_is_some kind before [] = grind (arith)
least_is_some kind before (f ∷ fs) =
    let of_it : Bool = fault_rank f.kind == fault_rank kind in
    elim (cases_Bool (fault_rank f.kind == fault_rank kind)) [
      | inl same ↦
          ap is_some (of_kind kind before f fs same)
          ∙ least_is_some kind (lesser before f.place) fs
          ∙ found_here of_it (is_some before) (is_some (lesser before f.place)) (has_kind kind fs) same (one_found before f.place)
      | inr other ↦
          ap is_some (of_other kind before f fs other)
          ∙ least_is_some kind before fs
          ∙ found_later of_it (is_some before) (has_kind kind fs) other
    ]
