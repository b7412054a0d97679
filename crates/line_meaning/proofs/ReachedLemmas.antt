-- For this crate and for the crates above: the writes of a journal that steps lead to are accepted, and an accepted command
-- leads from such a journal to one.
use Rattle.std.proofs.Common.{◌≡◌, ℕ, ◌≤◌, ℤ, Bool, true, false, not, ◌&&◌, Option, None, Some, List, [], ◌∷◌, ◌++◌, length, refl, sym, ap, subst, ◌∙◌, inl, inr, append-nil, arith, if◌then◌else◌}
use Rattle.std.specs.Prelude.{◌==◌, nat_le, nat_lt, is_none, option_and_then, option_map, codes}
use Rattle.std.specs.List.{AllByRecursion, find, fold, list_all, position, position_or_len}
use Rattle.std.specs.Option.{option_map_or}
use Rattle.std.specs.Str.{bytes_eq}
use Rattle.std.proofs.lemmas.Bool.{and_from, cases_lt, false≢true, or_parts}
use Rattle.std.proofs.lemmas.Bool.Decides.{nat_tests}
use Rattle.std.proofs.lemmas.List.{append_assoc}
use Rattle.std.proofs.lemmas.List.Folds.{find_at, list_all-append}
use Rattle.std.proofs.lemmas.List.Sums.{fold-append}
use Rattle.std.proofs.lemmas.Option.{slice_get_past}
use Rattle.exact.specs.First.{first_that_holds, or_else}
use Rattle.exact.proofs.Naturals.{test_at_most}
use Rattle.fixed_point.specs.declared.number.Point.{Point}
use Rattle.motion.specs.Cells.{given_of, place_sets, setting_of}
use Rattle.motion.specs.Function.{Function}
use Rattle.motion.specs.declared.cell.Given.{Given}
use Rattle.motion.specs.declared.cell.Given.TheVariants as givens
use Rattle.motion.specs.declared.cell.NamedSet.{NamedSet}
use Rattle.motion.specs.declared.cell.Place.{Place}
use Rattle.history.specs.Catalog.{Catalog, ClassInfo, ObjectInfo, catalog, catalog_after, class_of, empty_catalog, number_of_class, object_of}
use Rattle.history.specs.Write.{Write}
use Rattle.meaning.specs.Accepted.{are_accepted, are_given, is_given, is_own_class}
use Rattle.meaning.specs.Reachable.{is_slope, is_slow}
use Rattle.object_store.specs.declared.fault.StoreFault.TheVariants as store_faults
use Rattle.object_store.specs.Faults.{insert_fault, is_elsewhere, is_past_capacity, repeats_set}
use Rattle.command_text.specs.declared.refusal.Refusal.{Refusal}
use Rattle.command_text.specs.declared.refusal.Refusal.TheVariants as refusals
use Rattle.command_text.specs.Journal.{Accepted, bytes_of, clock, is_kept}
use Rattle.command_text.specs.Shape.{AreLegs, IsAtPoint, IsChange, IsLeg, IsMoving, IsPrintable, IsPrintableGiven, IsRate, IsSetting, IsValue}
use Rattle.command_text.specs.Text.{text_of}
use Rattle.command_text.specs.Tree
use Rattle.command_text.specs.Tree.{CommandTree}
use Rattle.session_file.specs.declared.kept.TheConstants.{SESSION_LINE_LIMIT}
use Rattle.line_meaning.specs.declared.role.Role.{Role}
use Rattle.line_meaning.specs.declared.role.Role.TheVariants.{Journalled}
use Rattle.line_meaning.specs.Fault.{is_present, journal_refusal, refusal_by_store}
use Rattle.line_meaning.specs.QueryFault.{command_fault}
use Rattle.line_meaning.specs.Journal.{world, writes, writes_of}
use Rattle.line_meaning.specs.Reached.{AreReached, IsNextEntry}
use Rattle.line_meaning.specs.Registry.{known}
use Rattle.line_meaning.specs.Role.{role_of}
use Rattle.line_meaning.specs.Judging.{Held, fault_by, fault_of, held_after}
use Rattle.line_meaning.proofs.JournalLemmas.{clock_more, writes_more}
use Rattle.line_meaning.proofs.RoleLemmas.{kept_is_journalled}

-- ---- what a printable command gives

value_given : (v : ℤ) → IsValue v → is_given (givens.Num v) ≡ true
value_given v h = grind (arith, nat_tests, h)

rate_slope : (a : ℤ) → IsRate a → is_slope a ≡ true
rate_slope a h = grind (arith, nat_tests, h)

legs_slow : (firsts : List (ℤ × ℕ)) → AllByRecursion IsLeg firsts → list_all (λ leg. is_slope leg.0) firsts ≡ true
legs_slow [] h = refl
legs_slow (leg ∷ firsts) h =
    and_from (is_slope leg.0) (list_all (λ l. is_slope l.0) firsts) (rate_slope leg.0 h.0.0) (legs_slow firsts h.1)

function_slow : (f : Function) → AreLegs f → is_slow f ≡ true
function_slow f h =
    and_from (list_all (λ leg. is_slope leg.0) f.firsts) (is_slope f.last) (legs_slow f.firsts h.firsts) (rate_slope f.last h.last)

given_is : (g : Given) → IsPrintableGiven g → is_given g ≡ true
given_is (givens.Num v) h = value_given v h
given_is (givens.Text t) h = refl
given_is (givens.Rate f) h = function_slow f h
given_is (givens.Both v f) h = and_from (is_given (givens.Num v)) (is_slow f) (value_given v h.0) (function_slow f h.1)

abbrev all_given : List NamedSet → Bool
all_given sets = list_all (λ (set : NamedSet). is_given set.given) sets

settings_given : (sets : List NamedSet) → AllByRecursion IsSetting sets → all_given sets ≡ true
settings_given [] h = refl
settings_given (set ∷ sets) h = and_from (is_given set.given) (all_given sets) (given_is set.given h.0.1) (settings_given sets h.1)

one_given : (name : List ℕ) (given : Given) → is_given given ≡ true → all_given (record { name = name; given = given } ∷ []) ≡ true
one_given name given is = and_from (is_given given) true is refl

-- `at` and `move` give x and y
place_given : (at : Option Point) (moving : Option (Function × Function)) → IsAtPoint at → IsMoving moving →
    all_given
    (setting_of (codes "x") (given_of (option_map (λ (p : Point). p.x) at) (option_map (λ (m : Function × Function). m.0) moving))
    ++ setting_of (codes "y") (given_of (option_map (λ (p : Point). p.y) at) (option_map (λ (m : Function × Function). m.1) moving))) ≡ true
place_given None None a m = refl
place_given (Some p) None a m =
    and_from (is_given (givens.Num p.x)) (all_given (record { name = codes "y"; given = givens.Num p.y } ∷ [])) (value_given p.x a.0)
    (one_given (codes "y") (givens.Num p.y) (value_given p.y a.1))
place_given None (Some f) a m =
    and_from (is_given (givens.Rate f.0)) (all_given (record { name = codes "y"; given = givens.Rate f.1 } ∷ [])) (function_slow f.0 m.x)
    (one_given (codes "y") (givens.Rate f.1) (function_slow f.1 m.y))
place_given (Some p) (Some f) a m =
    and_from (is_given (givens.Both p.x f.0)) (all_given (record { name = codes "y"; given = givens.Both p.y f.1 } ∷ []))
    (given_is (givens.Both p.x f.0) (a.0, m.x)) (one_given (codes "y") (givens.Both p.y f.1) (given_is (givens.Both p.y f.1) (a.1, m.y)))

change_given : (place : Place) (sets : List NamedSet) → IsChange place sets → are_given place sets ≡ true
change_given place sets h =
    list_all-append (λ (set : NamedSet). is_given set.given) (place_sets place) sets
    ∙ and_from (all_given (place_sets place)) (all_given sets) (place_given place.at place.moving h.at h.moving) (settings_given sets h.settings)

-- ---- where two refusals are none

pub none_of_both : (first other : Option Refusal) → or_else first other ≡ None → (first ≡ None) × (other ≡ None)
none_of_both None other is = (refl, is)
none_of_both (Some r) other is = absurd (cc is)

-- ---- an insert that nothing refuses is into the class of the object

first_two : (a b c d e : Bool) →
    option_and_then refusal_by_store
    (first_that_holds ((store_faults.UnknownName, a) ∷ (store_faults.NameTaken, b) ∷ (store_faults.WrongKind, c) ∷ (store_faults.Presence, d) ∷ (store_faults.ClassFull, e) ∷ []))
    ≡ None → (a ≡ false) × (b ≡ false)
first_two true b c d e is = absurd (cc is)
first_two false true c d e is = absurd (cc is)
first_two false false c d e is = (refl, refl)

position_there : {A : Type 0} (p : A → Bool) (xs : List A) → is_none (find p xs) ≡ false → is_none (position p xs) ≡ false
position_there p xs there =
    elim (cases_lt (position_or_len p xs) (length xs)) [
      | inl within ↦
          let before : nat_lt (position_or_len p xs) (length xs) ≡ true = grind (arith, nat_tests, within) in
          ap (λ b. is_none (if b then Some (position_or_len p xs) else None)) before
      | inr past ↦
          absurd
          (false≢true (sym there ∙ ap is_none (find_at p xs ∙ slice_get_past xs (position_or_len p xs) past)))
    ]

own_class : (number : Option ℕ) (o : Option ObjectInfo) → is_none number ≡ false →
    option_map_or (λ (x : ObjectInfo). not (option_map_or (λ n. x.class == n) number false)) o false ≡ false →
    option_map_or (λ n. option_map_or (λ (x : ObjectInfo). n == x.class) o true) number false ≡ true
own_class None o there here = absurd (false≢true (sym there))
own_class (Some n) None there here = refl
own_class (Some n) (Some x) there here = grind (arith, nat_tests, here)

insert_is_own : (c : Catalog) (present : Bool) (class name : List ℕ) (place : Place) (sets : List NamedSet) →
    option_and_then refusal_by_store (insert_fault c present class name place sets) ≡ None → is_own_class c class name ≡ true
insert_is_own c present class name place sets is =
    let two = first_two _ _ _ present (is_past_capacity c class name) is in
    let known = (or_parts (is_none (class_of c class)) _ two.0).0 in
    let own = (or_parts (is_elsewhere c class name) (repeats_set place sets) two.1).0 in
    own_class (number_of_class c class) (object_of c name) (position_there (λ (k : ClassInfo). bytes_eq class k.name) c.classes known) own

-- ---- the writes of a journal

-- the writes after those of an entry are accepted at each tick that its writes may leave as the last
abbrev AreAfter : Catalog → ℕ → List Write → Type 0
AreAfter c now later = (next : ℕ) → next ≤ now → are_accepted c next later ≡ true

-- an entry's writes and those after it, from any last tick up to its own
accepted_entry : (journal : List Accepted) (now : ℕ) (command : CommandTree) → now ≡ clock journal → IsPrintable command →
    command_fault (known journal) command ≡ None → (last : ℕ) → last ≤ now → (later : List Write) →
    AreAfter (fold catalog_after (catalog (writes journal)) (writes_of now command)) now later →
    are_accepted (catalog (writes journal)) last (writes_of now command ++ later) ≡ true
accepted_entry journal now (Tree.Insert class name place sets) is printable fault last upto later after =
    let c = catalog (writes journal) in
    let present = is_present (world journal).history name (clock journal) in
    let accepted = none_of_both (option_and_then refusal_by_store (insert_fault c present class name place sets)) None fault in
    let own = insert_is_own c present class name place sets accepted.0 in
    and_from (nat_le last now && (are_given place sets && is_own_class c class name)) (are_accepted _ now later)
    (and_from (nat_le last now) (are_given place sets && is_own_class c class name) (test_at_most last now upto)
    (and_from (are_given place sets) (is_own_class c class name) (change_given place sets printable.1.1.1) own))
    (after now (omega arith))
accepted_entry journal now (Tree.Update name place sets) is printable fault last upto later after =
    and_from (nat_le last now && are_given place sets) (are_accepted _ now later)
    (and_from (nat_le last now) (are_given place sets) (test_at_most last now upto) (change_given place sets printable.1.1))
    (after now (omega arith))
accepted_entry journal now (Tree.Remove name) is printable fault last upto later after =
    and_from (nat_le last now) (are_accepted _ now later) (test_at_most last now upto) (after now (omega arith))
accepted_entry journal now command is printable fault last upto later after = after last upto

reached_accepted : (before journal : List Accepted) → AreReached before journal → (last : ℕ) → last ≤ clock before →
    are_accepted (catalog (writes before)) last (writes journal) ≡ true
reached_accepted before [] reached last upto = refl
reached_accepted before ((now, command) ∷ journal) reached last upto =
    let is = reached.0 in
    let same : catalog (writes (before ++ (now, command) ∷ [])) ≡ fold catalog_after (catalog (writes before)) (writes_of now command) =
    ap catalog (writes_more before now command) ∙ fold-append catalog_after empty_catalog (writes before) (writes_of now command) in
    accepted_entry before now command is.tick is.printable is.accepted last (omega (arith, is.tick, upto)) (writes journal)
    (λ next till.
    ap (λ (c : Catalog). are_accepted c next (writes journal)) (sym same)
    ∙ reached_accepted (before ++ (now, command) ∷ []) journal reached.1 next (omega (arith, is.tick, till, clock_more before now command)))

pub writes_are_accepted : (journal : List Accepted) → AreReached [] journal → are_accepted empty_catalog 0 (writes journal) ≡ true
writes_are_accepted journal reached = reached_accepted [] journal reached 0 (omega arith)

-- ---- one more entry

reached_more : (before journal : List Accepted) (e : Accepted) → AreReached before journal → IsNextEntry (before ++ journal) e →
    AreReached before (journal ++ e ∷ [])
reached_more before [] e reached is = (subst (λ (j : List Accepted). IsNextEntry j e) (append-nil before) is, tt)
reached_more before (d ∷ journal) e reached is = (
  reached.0,
  reached_more (before ++ d ∷ []) journal e reached.1 (subst (λ (j : List Accepted). IsNextEntry j e) (sym (append_assoc before (d ∷ []) journal)) is),
)

-- nothing refuses a kept command: neither what the journal tells nor its limits
record IsAccepted (journal : List Accepted) (c : CommandTree) : Type 0 where
  pub fault : command_fault (known journal) c ≡ None
  pub room : journal_refusal (length journal) (bytes_of journal) c ≡ None

accepted_by : (role : Role) (h : Held) (c : CommandTree) → role ≡ Journalled → fault_by role h c ≡ None → IsAccepted h.journal c
accepted_by role h c keeping none =
    let both = none_of_both (command_fault (known h.journal) c) (journal_refusal (length h.journal) (bytes_of h.journal) c)
    (ap (λ (r : Role). fault_by r h c) (sym keeping) ∙ none) in
    record { fault = both.0; room = both.1 }

-- a kept command that nothing refuses
next_entry : (h : Held) (c : CommandTree) → IsPrintable c → length (text_of c) ≤ SESSION_LINE_LIMIT → fault_of h c ≡ None →
    is_kept c ≡ true → IsNextEntry h.journal (clock h.journal, c)
next_entry h c printable short none kept =
    let accepted = accepted_by (role_of c) h c (kept_is_journalled c kept) none in
    record { tick = refl; kept = kept; printable = printable; short = short; accepted = accepted.fault; room = accepted.room }

entries_reached : (journal : List Accepted) (e : Accepted) (kept : Bool) → (kept ≡ true → IsNextEntry journal e) →
    AreReached [] journal → AreReached [] (journal ++ (if kept then e ∷ [] else []))
entries_reached journal e true is reached = reached_more [] journal e reached (is refl)
entries_reached journal e false is reached = subst (λ (j : List Accepted). AreReached [] j) (sym (append-nil journal)) reached

pub command_is_reached : (h : Held) (c : CommandTree) → IsPrintable c → length (text_of c) ≤ SESSION_LINE_LIMIT → fault_of h c ≡ None →
    AreReached [] h.journal → AreReached [] (held_after h c).journal
command_is_reached h c printable short none reached =
    entries_reached h.journal (clock h.journal, c) (is_kept c) (next_entry h c printable short none) reached
