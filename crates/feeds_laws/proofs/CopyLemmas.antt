-- A copy of a query that is registered goes on having the ticks of its answer.
use Rattle.std.proofs.Common.{◌≡◌, ◌∙◌, ℕ, ◌≤◌, Bool, true, false, ◌&&◌, not, List, [], ◌∷◌, ◌++◌, length, option_map, Option, None, refl, ap, sym, subst, append-nil, arith, inl, inr}
use Rattle.std.proofs.lemmas.Bool.{cases_Bool}
use Rattle.std.proofs.lemmas.Bool.Decides.{nat_tests}
use Rattle.std.proofs.lemmas.List.Elements.{filter-append}
use Rattle.std.proofs.lemmas.Slice.Eq.{bytes_eq-Decides}
use Rattle.std.specs.Prelude.{filter, if◌then◌else◌}
use Rattle.std.specs.List.{AllByRecursion, flat_map, list_any}
use Rattle.std.specs.Str.{bytes_eq}
use Rattle.formula.specs.declared.kind.QueryKind.{QueryKind}
use Rattle.formula.specs.declared.kind.QueryKind.TheVariants.{Watch, Keep}
use Rattle.tick_set.specs.Runs.{runs_of}
use Rattle.tick_set.specs.Ticks.{listed, within}
use Rattle.tick_set.specs.declared.spans.TheConstants.{LAST_TICK}
use Rattle.history.specs.Catalog.{ObjectInfo}
use Rattle.history.specs.World.{World}
use Rattle.meaning.specs.Binding.{holds_target, tuples}
use Rattle.meaning.specs.Registered.{Change, RegisteredQuery, change_of, changes_of_tick, changes_of_write, first_tick, holds_for, passage_of}
use Rattle.meaning.proofs.AnswerLemmas.{rows_have_where}
use Rattle.line_meaning.specs.Changes.{answer_text, change_text, tick_lines, write_lines}
use Rattle.line_meaning.specs.Registry.{Registration, has_name, is_registered}
use Rattle.line_meaning.specs.Reply.{ok_line}
use Rattle.feeds_meaning.specs.Lines.{start_line}
use Rattle.replica.specs.Copied as copies
use Rattle.replica.specs.Copied.{at_clock}
use Rattle.replica.specs.Rows.{TargetRow}
use Rattle.replica.specs.Text.{is_free_name}
use Rattle.replica.specs.declared.copied.Copied.{Copied}
use Rattle.feeds_laws.specs.Targets.{target_of}
use Rattle.feeds_laws.proofs.AlikeLemmas.{answer_at}
use Rattle.feeds_laws.proofs.AnswerLemmas.{rows_lead, start_leads, with_rows_at}
use Rattle.feeds_laws.proofs.ChangeLemmas.{HasTargets, all_lines, copy_of, others_stay, passage_stays, write_leads}
use Rattle.feeds_laws.proofs.FineLemmas.{IsRight}
use Rattle.feeds_laws.proofs.GrowthLemmas.{AnswersAreUnions, same_told, tuples_are_keys}
use Rattle.feeds_laws.proofs.KeyLemmas.{AreApart, IsKey, IsNamed, all_mapped, key_targets, one_key}
use Rattle.feeds_laws.proofs.QuietLemmas.{lines_stay, ok_leads}
use Rattle.feeds_laws.proofs.ReadingLemmas.{Leads, both_lead, nothing_leads}
use Rattle.feeds_laws.proofs.RowLemmas.{after_keys, gains, has_at, keys_at, losses, with_rows}
use Rattle.feeds_laws.proofs.TurningLemmas.{all_turned, turned_all}
use Rattle.exact.proofs.Items.{bytes_differ_swap}
use Rattle.exact.proofs.Lists.{bytes_eq_refl}

-- the registrations of a name, of which there is one at most
abbrev pub own : List ℕ → List Registration → List Registration
own name live = filter (has_name name) live

-- a copy of a query at a clock, with the ticks of its answer from the first that is told on
pub record HasRows (w : World) (now : ℕ) (r : RegisteredQuery) (copy : Option Copied) : Type 0 where
  pub rows : List TargetRow
  pub is : copy ≡ copy_of r.kind now rows
  pub ticks : (target : List ℕ) (t : ℕ) → copies.first_copied_tick r.kind now ≤ t →
      has_at rows target t ≡ answer_at w r.query (first_tick r.kind r.entry now) r.expiry target t

abbrev pub AgreesBy : World → ℕ → List Registration → Option Copied → Type 0
AgreesBy w now [] copy = copy ≡ None
AgreesBy w now (r ∷ []) copy = HasRows w now r.query copy
AgreesBy w now (r ∷ s ∷ later) copy = ⊥

-- ---- The keys of a registered query

keys_told : (w : World) → AllByRecursion IsNamed w.history.catalog.objects → (r : Registration) → IsRight r → AllByRecursion (HasTargets w.history.catalog) (tuples w r.query.query)
keys_told w named r right =
    all_mapped (IsKey w.history.catalog (length r.query.query.targets)) (HasTargets w.history.catalog)
    (key_targets w.history.catalog named (length r.query.query.targets) right.some right.few)
    (tuples w r.query.query) (tuples_are_keys w r.query.query)

-- ---- A write

-- the copy after some text, and that it has the ticks
pub record Goes (name text : List ℕ) (copy : Option Copied) (w : World) (now : ℕ) (regs : List Registration) : Type 0 where
  pub after : Option Copied
  pub leads : Leads name text (copy, false) (after, false)
  pub agrees : AgreesBy w now regs after

-- the lines of a write for one query
abbrev pub write_text : World → World → ℕ → Registration → List ℕ
write_text w v now r = flat_map (change_text v.history.catalog r.name) (changes_of_write w v r.query now)

module _ (unions : AnswersAreUnions) (w v : World) (more : List ObjectInfo) (grown : v.history.catalog.objects ≡ w.history.catalog.objects ++ more)
    (named : AllByRecursion IsNamed v.history.catalog.objects) (apart : AreApart v.history.catalog) (now : ℕ) where
  own_write : (r : Registration) → IsRight r → (copy : Option Copied) → HasRows w now r.query copy → Goes r.name (write_text w v now r) copy v now (r ∷ [])
  own_write r right copy has =
      let c = v.history.catalog in
      let q = r.query.query in
      let from = first_tick r.query.kind r.query.entry now in
      let e = r.query.expiry in
      let before : List ℕ → ℕ → Bool = holds_for w r.query in
      let after : List ℕ → ℕ → Bool = holds_for v r.query in
      let keys = tuples v q in
      let rows : List TargetRow = after_keys (target_of c) (gains (target_of c) before after from e) (losses (target_of c) before after from e) keys has.rows in
      let told : Leads r.name (flat_map (λ key. change_text c r.name (change_of key (before key) (after key) now from e)) keys) (copy_of r.query.kind now has.rows, false) (copy_of r.query.kind now rows, false) =
      write_leads r.name right.named c before after now from e right.last r.query.kind now keys (keys_told v named r right) has.rows in
      let text : Leads r.name (write_text w v now r) (copy_of r.query.kind now has.rows, false) (copy_of r.query.kind now rows, false) =
      subst (λ (t : List ℕ). Leads r.name t (copy_of r.query.kind now has.rows, false) (copy_of r.query.kind now rows, false))
      (sym (all_lines c r.name (λ key. change_of key (before key) (after key) now from e) keys)) told in
      record {
        after = copy_of r.query.kind now rows;
        leads = subst (λ (o : Option Copied). Leads r.name (write_text w v now r) (o, false) (copy_of r.query.kind now rows, false)) (sym has.is) text;
        agrees = record {
          rows = rows;
          is = refl;
          ticks = λ target t first.
              keys_at (target_of c) before after from e keys has.rows target t
              ∙ ap (turned_all (target_of c) (λ key. within from e t && before key t) (λ key. within from e t && after key t) target keys)
              (has.ticks target t first
              ∙ rows_have_where (λ key. bytes_eq (target_of w.history.catalog key) target) (tuples w q) (holds_target w q e) from e t
              ∙ sym (same_told unions w q right.below from e t v more grown target))
              ∙ all_turned (IsKey c (length q.targets)) (target_of c) (one_key c named apart (length q.targets) right.some right.few) target
              (λ key. within from e t && before key t) (λ key. within from e t && after key t) keys (tuples_are_keys v q)
              ∙ sym (rows_have_where (λ key. bytes_eq (target_of c key) target) keys (holds_target v q e) from e t);
        };
      }

  other_write : (name : List ℕ) → is_free_name name ≡ true → (r : Registration) → IsRight r → has_name name r ≡ false → (copy : Option Copied) → Leads name (write_text w v now r) (copy, false) (copy, false)
  other_write name is r right other copy =
      let c = v.history.catalog in
      let make : List ℕ → Change = λ key. change_of key (holds_for w r.query key) (holds_for v r.query key) now (first_tick r.query.kind r.query.entry now) r.query.expiry in
      subst (λ (t : List ℕ). Leads name t (copy, false) (copy, false)) (sym (all_lines c r.name make (tuples v r.query.query)))
      (others_stay name is copy r.name right.named (bytes_differ_swap name r.name other) c make (λ key. refl) (tuples v r.query.query) (keys_told v named r right))

-- ---- The lines of all registered queries

module _ (name : List ℕ) (text : Registration → List ℕ) (stays : (r : Registration) → IsRight r → has_name name r ≡ false → (copy : Option Copied) → Leads name (text r) (copy, false) (copy, false)) where
  none_leads : (live : List Registration) → AllByRecursion IsRight live → own name live ≡ [] → (copy : Option Copied) → Leads name (flat_map text live) (copy, false) (copy, false)
  none_leads [] all none copy = nothing_leads name (copy, false)
  none_leads (r ∷ live) all none copy = elim (cases_Bool (has_name name r)) [
    | inl own_is ↦ let wrong : r ∷ own name live ≡ [] = rw own_is at none in absurd (cc)
    | inr other ↦
        let later : own name live ≡ [] = rw other at none in
        both_lead name (text r) (flat_map text live) (copy, false) (copy, false) (copy, false) (stays r all.0 other copy) (none_leads live all.1 later copy)
  ]

  pub one_leads : (live : List Registration) → AllByRecursion IsRight live → (x : Registration) → own name live ≡ x ∷ [] → (copy after : Option Copied) → Leads name (text x) (copy, false) (after, false) →
      Leads name (flat_map text live) (copy, false) (after, false)
  one_leads [] all x is copy after leads = absurd (cc)
  one_leads (r ∷ live) all x is copy after leads = elim (cases_Bool (has_name name r)) [
    | inl own_is ↦
        let both : r ∷ own name live ≡ x ∷ [] = rw own_is at is in
        let first : r ≡ x = cc in
        let later : own name live ≡ [] = cc in
        both_lead name (text r) (flat_map text live) (copy, false) (after, false) (after, false) (subst (λ (r : Registration). Leads name (text r) (copy, false) (after, false)) (sym first) leads) (none_leads live all.1 later after)
    | inr other ↦
        let later : own name live ≡ x ∷ [] = rw other at is in
        both_lead name (text r) (flat_map text live) (copy, false) (copy, false) (after, false) (stays r all.0 other copy) (one_leads live all.1 x later copy after leads)
  ]

-- the registration of the name is right, and has the name
pub own_is : (name : List ℕ) (live : List Registration) → AllByRecursion IsRight live → (x : Registration) → own name live ≡ x ∷ [] → IsRight x × (name ≡ x.name)
own_is name [] all x is = absurd (cc)
own_is name (r ∷ live) all x is = elim (cases_Bool (has_name name r)) [
  | inl own_r ↦
      let both : r ∷ own name live ≡ x ∷ [] = rw own_r at is in
      let first : r ≡ x = cc in
      (subst IsRight first all.0, (bytes_eq-Decides name r.name).0 own_r ∙ ap (λ (r : Registration). r.name) first)
  | inr other ↦ let later : own name live ≡ x ∷ [] = rw other at is in own_is name live all.1 x later
]

pub write_goes : (unions : AnswersAreUnions) (w v : World) (more : List ObjectInfo) → v.history.catalog.objects ≡ w.history.catalog.objects ++ more →
    AllByRecursion IsNamed v.history.catalog.objects → AreApart v.history.catalog → (now : ℕ) (name : List ℕ) → is_free_name name ≡ true → (live : List Registration) → AllByRecursion IsRight live →
    (copy : Option Copied) → AgreesBy w now (own name live) copy → Goes name (write_lines w v now live) copy v now (own name live)
write_goes unions w v more grown named apart now name is live right copy agrees = by (own name live) refl agrees
  where
    stays : (r : Registration) → IsRight r → has_name name r ≡ false → (copy : Option Copied) → Leads name (write_text w v now r) (copy, false) (copy, false)
    stays r right other copy = other_write unions w v more grown named apart now name is r right other copy

    by : (regs : List Registration) → own name live ≡ regs → AgreesBy w now regs copy → Goes name (write_lines w v now live) copy v now regs
    by [] regs_are none = record { after = copy; leads = none_leads name (write_text w v now) stays live right regs_are copy; agrees = none }
    by (r ∷ []) regs_are has =
        let its = own_is name live right r regs_are in
        let goes = own_write unions w v more grown named apart now r its.0 copy has in
        record {
          after = goes.after;
          leads = one_leads name (write_text w v now) stays live right r regs_are copy goes.after (subst (λ (n : List ℕ). Leads n (write_text w v now r) (copy, false) (goes.after, false)) (sym its.1) goes.leads);
          agrees = goes.agrees;
        }
    by (r ∷ s ∷ later) regs_are has = absurd has

-- ---- The passing of time

pub passage_quiet : (w : World) → AllByRecursion IsNamed w.history.catalog.objects → (before now : ℕ) (name : List ℕ) → is_free_name name ≡ true → (live : List Registration) → AllByRecursion IsRight live →
    (copy : Option Copied) → Leads name (tick_lines w before now live) (copy, false) (copy, false)
passage_quiet w named before now name is live right copy =
    lines_stay name is copy IsRight (λ r. flat_map (change_text w.history.catalog r.name) (changes_of_tick w r.query before now))
    (λ r its. subst (λ (t : List ℕ). Leads name t (copy, false) (copy, false)) (sym (all_lines w.history.catalog r.name (λ key. passage_of key (holds_for w r.query key) before now r.query.expiry) (tuples w r.query.query)))
    (passage_stays name is copy r.name its.named w.history.catalog (holds_for w r.query) before now r.query.expiry (tuples w r.query.query) (keys_told w named r its)))
    live right

earlier : (kind : QueryKind) (before now t : ℕ) → before ≤ now → copies.first_copied_tick kind now ≤ t → copies.first_copied_tick kind before ≤ t
earlier Watch before now t upto first = omega (arith, upto, first)
earlier Keep before now t upto first = first

same_window : (kind : QueryKind) (entry before now e t : ℕ) → before ≤ now → copies.first_copied_tick kind now ≤ t → within (first_tick kind entry before) e t ≡ within (first_tick kind entry now) e t
same_window Watch entry before now e t upto first = grind (arith, nat_tests, upto, first)
same_window Keep entry before now e t upto first = refl

pub passage_agrees : (w : World) (before now : ℕ) → before ≤ now → (regs : List Registration) (copy : Option Copied) → AgreesBy w before regs copy → AgreesBy w now regs (option_map (at_clock now) copy)
passage_agrees w before now upto [] copy none = ap (option_map (at_clock now)) none
passage_agrees w before now upto (r ∷ []) copy has =
    let q = r.query.query in
    let e = r.query.expiry in
    record {
      rows = has.rows;
      is = ap (option_map (at_clock now)) has.is;
      ticks = λ target t first.
          has.ticks target t (earlier r.query.kind before now t upto first)
          ∙ rows_have_where (λ key. bytes_eq (target_of w.history.catalog key) target) (tuples w q) (holds_target w q e) (first_tick r.query.kind r.query.entry before) e t
          ∙ ap (λ here. list_any (λ key. bytes_eq (target_of w.history.catalog key) target && (here && holds_target w q e key t)) (tuples w q)) (same_window r.query.kind r.query.entry before now e t upto first)
          ∙ sym (rows_have_where (λ key. bytes_eq (target_of w.history.catalog key) target) (tuples w q) (holds_target w q e) (first_tick r.query.kind r.query.entry now) e t);
    }
passage_agrees w before now upto (r ∷ s ∷ later) copy has = absurd has

-- ---- The start of the query

-- the start, the rows and `ok`
abbrev pub begun_text : World → ℕ → Registration → List ℕ
begun_text w now r = start_line r.query.kind r.name now ++ (answer_text w now r ++ ok_line)

pub start_goes : (w : World) → AllByRecursion IsNamed w.history.catalog.objects → (now : ℕ) → now ≤ LAST_TICK → (r : Registration) → IsRight r → (copy : Option Copied) →
    Goes r.name (begun_text w now r) copy w now (r ∷ [])
start_goes w named now last r right copy =
    let c = w.history.catalog in
    let q = r.query.query in
    let from = first_tick r.query.kind r.query.entry now in
    let e = r.query.expiry in
    let holds : List ℕ → ℕ → Bool = holds_target w q e in
    let rows : List TargetRow = with_rows (target_of c) (λ key. runs_of (listed (holds key) from e)) (tuples w q) [] in
    let begun : Option Copied = copy_of r.query.kind now [] in
    let full : Option Copied = copy_of r.query.kind now rows in
    record {
      after = full;
      leads =
          both_lead r.name (start_line r.query.kind r.name now) (answer_text w now r ++ ok_line) (copy, false) (begun, true) (full, false)
          (start_leads r.name right.named r.query.kind now last (copy, false))
          (both_lead r.name (answer_text w now r) ok_line (begun, true) (full, true) (full, false)
          (rows_lead r.name right.named c holds now from e right.last r.query.kind now (tuples w q) (keys_told w named r right) [])
          (ok_leads r.name right.named full true));
      agrees = record {
        rows = rows;
        is = refl;
        ticks = λ target t first.
            with_rows_at (target_of c) holds from e (tuples w q) [] target t
            ∙ sym (rows_have_where (λ key. bytes_eq (target_of c key) target) (tuples w q) holds from e t);
      };
    }

-- ---- Registrations that come and go

not_registered : (name : List ℕ) (live : List Registration) → is_registered live name ≡ false → own name live ≡ []
not_registered name [] none = refl
not_registered name (r ∷ live) none = elim (cases_Bool (has_name name r)) [
  | inl own_r ↦ let wrong : true ≡ false = rw own_r at none in absurd (cc)
  | inr other ↦ let later : is_registered live name ≡ false = rw other at none in rw other (not_registered name live later)
]

pub own_added : (live : List Registration) (r : Registration) → is_registered live r.name ≡ false → own r.name (live ++ r ∷ []) ≡ r ∷ []
own_added live r none =
    filter-append (has_name r.name) live (r ∷ [])
    ∙ ap (λ regs. regs ++ filter (has_name r.name) (r ∷ [])) (not_registered r.name live none)
    ∙ ap (λ b. if b then r ∷ [] else []) (bytes_eq_refl r.name)

pub own_kept : (name : List ℕ) (live : List Registration) (r : Registration) → has_name name r ≡ false → own name (live ++ r ∷ []) ≡ own name live
own_kept name live r other =
    filter-append (has_name name) live (r ∷ [])
    ∙ ap (λ b. own name live ++ (if b then r ∷ [] else [])) other
    ∙ append-nil (own name live)

pub own_dropped : (name : List ℕ) (live : List Registration) → own name (filter (λ r. not (has_name name r)) live) ≡ []
own_dropped name [] = refl
own_dropped name (r ∷ live) = elim (cases_Bool (has_name name r)) [
  | inl own_r ↦ rw own_r (own_dropped name live)
  | inr other ↦ rw (other, other) (own_dropped name live)
]

pub other_dropped : (name other : List ℕ) → bytes_eq other name ≡ false → (live : List Registration) → own name (filter (λ r. not (has_name other r)) live) ≡ own name live
other_dropped name other differs [] = refl
other_dropped name other differs (r ∷ live) = elim (cases_Bool (has_name other r)) [
  | inl dropped ↦
      let same : other ≡ r.name = (bytes_eq-Decides other r.name).0 dropped in
      let apart : has_name name r ≡ false = ap (bytes_eq name) (sym same) ∙ bytes_differ_swap other name differs in
      rw (dropped, apart) (other_dropped name other differs live)
  | inr kept ↦ rw kept (ap (λ regs. if has_name name r then r ∷ regs else regs) (other_dropped name other differs live))
]
