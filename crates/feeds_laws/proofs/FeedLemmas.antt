-- What the items that concern a user leave of a copy, one after another.
use Rattle.std.proofs.Common.{◌≡◌, ◌∙◌, ℕ, ◌+◌, Bool, true, false, List, [], ◌∷◌, ◌++◌, codes, Option, Some, None, refl, ap, sym, subst, append-nil, inl, inr}
use Rattle.std.proofs.lemmas.Bool.{cases_Bool, false≢true}
use Rattle.std.proofs.lemmas.Slice.Eq.{bytes_eq-Decides}
use Rattle.std.specs.Prelude.{if◌then◌else◌}
use Rattle.std.specs.List.{AllByRecursion}
use Rattle.case_table.specs.Language.{reserved_words}
use Rattle.exact.specs.First.{first_that_holds, or_else}
use Rattle.history.specs.World.{World}
use Rattle.command_text.specs.declared.reading.TheConstants.{LINE_LIMIT}
use Rattle.command_text.specs.declared.refusal.Refusal.{Refusal}
use Rattle.command_text.specs.declared.refusal.Refusal.TheVariants as refusals
use Rattle.command_text.specs.Journal.{Accepted, clock, is_kept, spelled}
use Rattle.command_text.specs.Line.{command_in, early_refusal, first_refusal, late_refusal}
use Rattle.command_text.specs.Shape.{IsPrintable}
use Rattle.command_text.specs.TextLaws.{PrintsWhatIsRead}
use Rattle.command_text.specs.Tree
use Rattle.command_text.specs.Tree.{CommandTree}
use Rattle.line_meaning.specs.Answering.{kept_lines}
use Rattle.line_meaning.specs.Journal.{world}
use Rattle.line_meaning.specs.Judging.{Held, fault_of, held_after}
use Rattle.line_meaning.specs.QueryFault.{command_fault}
use Rattle.line_meaning.specs.Registry.{Registration, has_name, known, registered, registration_named}
use Rattle.line_meaning.proofs.JournalLemmas.{registered_more}
use Rattle.line_meaning.proofs.ReachedLemmas.{none_of_both}
use Rattle.line_meaning.proofs.StepLemmas.{taken_is}
use Rattle.feeds_meaning.specs.Heard.{Item, Own, Other, Seat, empty_seat, heard, seat_after, command_refusal, limit_refusal, other_text, own_by, own_refusal, item_outcome}
use Rattle.feeds_meaning.specs.Lines.{is_barred, is_data, notice}
use Rattle.users.specs.Tagged.{lines_in}
use Rattle.replica.specs.Feed.{hearing_after, silent}
use Rattle.feeds_laws.specs.Followed.{FollowsQuery, Holds}
use Rattle.replica.specs.Text.{is_free_name}
use Rattle.replica.specs.declared.copied.Copied.{Copied}
use Rattle.feeds_laws.proofs.CopyLemmas.{AgreesBy, own}
use Rattle.feeds_laws.proofs.FineLemmas.{fine_none, IsFine, IsRight, fine_after}
use Rattle.feeds_laws.proofs.QuietLemmas.{refusal_stays}
use Rattle.feeds_laws.proofs.ReadingLemmas.{feed_ends, read, text_read, texts_read, Leads, both_lead, nothing_leads}
use Rattle.feeds_laws.proofs.ItemLemmas.{AgreesWith, Laws, data_goes, next}
use Rattle.feeds_laws.proofs.OwnLemmas.{kept_fault, own_goes}

-- ---- A line that is accepted

-- it was read as a printable command, which no user is barred from, and nothing refuses it
pub record IsAccepted (s : Seat) (line : List ℕ) : Type 0 where
  pub printable : IsPrintable (spelled line)
  pub free : is_barred (spelled line) ≡ false
  pub fault : fault_of s.held (spelled line) ≡ None

not_barred : (barred : Bool) → first_that_holds ((refusals.BadSyntax, barred) ∷ []) ≡ None → barred ≡ false
not_barred true none = absurd (cc none)
not_barred false none = refl

pub accepted : PrintsWhatIsRead → (s : Seat) (line : List ℕ) → own_refusal s line ≡ None → IsAccepted s line
unfolding own_refusal
accepted prints s line none =
    let c = spelled line in
    let limits = none_of_both (limit_refusal s line) (or_else (first_refusal LINE_LIMIT line) (command_refusal s.held c)) none in
    let both = none_of_both (first_refusal LINE_LIMIT line) (command_refusal s.held c) limits.1 in
    let late = (none_of_both (early_refusal LINE_LIMIT line) (late_refusal (command_in line)) both.0).1 in
    let command = none_of_both (first_that_holds ((refusals.BadSyntax, is_barred c) ∷ [])) (fault_of s.held c) both.1 in
    record {
      printable = prints LINE_LIMIT line c (record { taken = both.0; command = taken_is (command_in line) late });
      free = not_barred (is_barred c) command.0;
      fault = command.1;
    }

-- ---- One item

-- what an item asks: a data command of another is one that was read, and that nothing refuses
abbrev pub IsTaken : Seat → Item → Type 0
IsTaken s (Own line) = Unit {0}
IsTaken s (Other c) = (is_data c ≡ true) × IsPrintable c × (command_fault (known s.held.journal) c ≡ None)

abbrev pub AreTaken : Seat → List Item → Type 0
AreTaken s [] = Unit {0}
AreTaken s (item ∷ items) = IsTaken s item × AreTaken (item_outcome s item).0 items

-- the copy agrees with what a user's lines are answered by; a user who sent no line has no query
pub record Stands (name : List ℕ) (s : Seat) (copy : Option Copied) : Type 0 where
  pub fine : IsFine s.held.journal
  pub agrees : AgreesWith name s.held.journal copy
  pub away : s.here ≡ false → registered s.held.journal ≡ []

pub record ItemGoes (name : List ℕ) (left : Seat × List ℕ) (copy : Option Copied) : Type 0 where
  pub after : Option Copied
  pub leads : Leads name left.1 (copy, false) (after, false)
  pub stands : Stands name left.0 after

module _ (laws : Laws) (name : List ℕ) (is : is_free_name name ≡ true) where
  entry_fine : (journal : List Accepted) (c : CommandTree) (kept : Bool) → IsFine journal → IsPrintable c → (kept ≡ true → command_fault (known journal) c ≡ None) →
      IsFine (journal ++ (if kept then (clock journal, c) ∷ [] else []))
  entry_fine journal c true fine printable none = fine_after laws.right laws.fitting journal c printable (none refl) fine
  entry_fine journal c false fine printable none = subst IsFine (sym (append-nil journal)) fine

  own_item : (s : Seat) (copy : Option Copied) (line : List ℕ) → Stands name s copy → (o : Option Refusal) → own_refusal s line ≡ o → ItemGoes name (own_by s (spelled line) o) copy
  own_item s copy line stands (Some refusal) refused = record {
    after = copy;
    leads = refusal_stays name is copy refusal;
    stands = record { fine = stands.fine; agrees = stands.agrees; away = λ here. absurd (false≢true (sym here)) };
  }
  own_item s copy line stands None none =
      let c = spelled line in
      let its = accepted laws.prints s line none in
      let goes = own_goes laws name is s.held stands.fine copy stands.agrees c its.printable its.free its.fault in
      record {
        after = goes.after;
        leads = goes.leads;
        stands = record {
          fine = entry_fine s.held.journal c (is_kept c) stands.fine its.printable (λ kept. kept_fault s.held c kept its.fault);
          agrees = goes.agrees;
          away = λ here. absurd (false≢true (sym here));
        };
      }

  -- the registered queries are those before
  data_regs : (journal : List Accepted) (c : CommandTree) → is_data c ≡ true → registered (next journal c) ≡ registered journal
  data_regs journal (Tree.Class class capacity point attributes) kind = registered_more journal (clock journal) (Tree.Class class capacity point attributes)
  data_regs journal (Tree.Region region points) kind = registered_more journal (clock journal) (Tree.Region region points)
  data_regs journal (Tree.Insert class object place sets) kind = registered_more journal (clock journal) (Tree.Insert class object place sets)
  data_regs journal (Tree.Update object place sets) kind = registered_more journal (clock journal) (Tree.Update object place sets)
  data_regs journal (Tree.Remove object) kind = registered_more journal (clock journal) (Tree.Remove object)
  data_regs journal (Tree.Tick ticks) kind = registered_more journal (clock journal) (Tree.Tick ticks)
  data_regs journal c kind = absurd (false≢true kind)

  data_kept : (h : Held) (c : CommandTree) → is_data c ≡ true → (held_after h c).journal ≡ next h.journal c
  data_kept h (Tree.Class class capacity point attributes) kind = refl
  data_kept h (Tree.Region region points) kind = refl
  data_kept h (Tree.Insert class object place sets) kind = refl
  data_kept h (Tree.Update object place sets) kind = refl
  data_kept h (Tree.Remove object) kind = refl
  data_kept h (Tree.Tick ticks) kind = refl
  data_kept h c kind = absurd (false≢true kind)

  -- the seat after a data command of another
  abbrev after_other : Seat → CommandTree → Seat
  after_other s c = record s { held = held_after s.held c; data_lines = s.data_lines + 1 }

  other_item : (s : Seat) (copy : Option Copied) (c : CommandTree) → Stands name s copy → IsTaken s (Other c) → (here : Bool) → s.here ≡ here →
      ItemGoes name (after_other s c, if here then other_text s.held c else []) copy
  other_item s copy c stands its here here_is = by here here_is
    where
      regs : registered (held_after s.held c).journal ≡ registered s.held.journal
      regs = ap registered (data_kept s.held c its.0) ∙ data_regs s.held.journal c its.0

      fine : IsFine (held_after s.held c).journal
      fine = subst IsFine (sym (data_kept s.held c its.0)) (fine_after laws.right laws.fitting s.held.journal c its.1 its.2 stands.fine)

      away : s.here ≡ false → registered (held_after s.held c).journal ≡ []
      away gone = regs ∙ stands.away gone

      by : (here : Bool) → s.here ≡ here → ItemGoes name (after_other s c, if here then other_text s.held c else []) copy
      by true there =
          let goes = data_goes laws name is s.held stands.fine copy stands.agrees c its.0 its.1 its.2 in
          record {
            after = goes.after;
            leads = both_lead name (notice s.held c) (kept_lines (known s.held.journal) (known (held_after s.held c).journal) c) (copy, false) (goes.mid, false) (goes.after, false) goes.first goes.second;
            stands = record { fine = fine; agrees = goes.agrees; away = away };
          }
      by false gone =
          let none : copy ≡ None = subst (λ (live : List Registration). AgreesBy (world s.held.journal) (clock s.held.journal) (own name live) copy) (stands.away gone) stands.agrees in
          record {
            after = copy;
            leads = nothing_leads name (copy, false);
            stands = record {
              fine = fine;
              agrees = subst (λ (live : List Registration). AgreesBy (world (held_after s.held c).journal) (clock (held_after s.held c).journal) (own name live) copy) (sym (away gone)) none;
              away = away;
            };
          }

  item_goes : (s : Seat) (copy : Option Copied) (item : Item) → Stands name s copy → IsTaken s item → ItemGoes name (item_outcome s item) copy
  item_goes s copy (Own line) stands its = own_item s copy line stands (own_refusal s line) refl
  item_goes s copy (Other c) stands its = other_item s copy c stands its s.here refl

  -- ---- All items

  pub record FeedGoes (s : Seat) (items : List Item) (copy : Option Copied) : Type 0 where
    pub after : Option Copied
    pub reads : read name (copy, false) (heard s items) ≡ Some (after, false)
    pub stands : Stands name (seat_after s items) after

  pub feed_goes : (items : List Item) (s : Seat) (copy : Option Copied) → Stands name s copy → AreTaken s items → FeedGoes s items copy
  feed_goes [] s copy stands all = record { after = copy; reads = refl; stands = stands }
  feed_goes (item ∷ items) s copy stands all =
      let first = item_goes s copy item stands all.0 in
      let later = feed_goes items (item_outcome s item).0 first.after first.stands all.1 in
      record {
        after = later.after;
        reads =
            texts_read name (lines_in (item_outcome s item).1) (heard (item_outcome s item).0 items) (copy, false) (first.after, false) (text_read name (item_outcome s item).1 (copy, false) (first.after, false) first.leads)
            ∙ later.reads;
        stands = later.stands;
      }

  -- ---- What a replica holds

  find_none : (live : List Registration) → own name live ≡ [] → registration_named live name ≡ None
  find_none [] none = refl
  find_none (r ∷ live) none = elim (cases_Bool (has_name name r)) [
    | inl own_r ↦ let wrong : r ∷ own name live ≡ [] = rw own_r at none in absurd (cc)
    | inr other ↦ let later : own name live ≡ [] = rw other at none in rw other (find_none live later)
  ]

  find_one : (live : List Registration) (x : Registration) (more : List Registration) → own name live ≡ x ∷ more → registration_named live name ≡ Some x
  find_one [] x more is = absurd (cc)
  find_one (r ∷ live) x more is = elim (cases_Bool (has_name name r)) [
    | inl own_r ↦ let both : r ∷ own name live ≡ x ∷ more = rw own_r at is in let same : r ≡ x = cc in rw own_r (ap Some same)
    | inr other ↦ let later : own name live ≡ x ∷ more = rw other at is in rw other (find_one live x more later)
  ]

  held_copy : (w : World) (now : ℕ) (live : List Registration) (regs : List Registration) (copy : Option Copied) → own name live ≡ regs → AgreesBy w now regs copy →
      Holds (record { world = w; now = now; live = live }) (registration_named live name) copy
  held_copy w now live [] copy is none =
      subst (λ (o : Option Registration). Holds (record { world = w; now = now; live = live }) o copy) (sym (find_none live is))
      (subst (λ (o : Option Copied). Holds (record { world = w; now = now; live = live }) None o) (sym none) tt)
  held_copy w now live (r ∷ []) copy is has =
      subst (λ (o : Option Registration). Holds (record { world = w; now = now; live = live }) o copy) (sym (find_one live r [] is))
      (subst (λ (o : Option Copied). Holds (record { world = w; now = now; live = live }) (Some r) o) (sym has.is)
      (record { kind = refl; clock = refl; ticks = has.ticks }))
  held_copy w now live (r ∷ s ∷ later) copy is has = absurd has

  pub replica_follows : (items : List Item) (s : Seat) → Stands name s None → AreTaken s items → FollowsQuery (known (seat_after s items).held.journal) name (hearing_after (silent name) (heard s items))
  replica_follows items s stands all =
      let goes = feed_goes items s None stands all in
      let j = (seat_after s items).held.journal in
      let ends = feed_ends name (heard s items) (None, false) (goes.after, false) 0 goes.reads in
      record {
        good = ends.good;
        copy = subst (λ (o : Option Copied). Holds (known j) (registration_named (registered j) name) o) (sym ends.copy)
            (held_copy (world j) (clock j) (registered j) (own name (registered j)) goes.after refl goes.stands.agrees);
      }

-- a query that is registered has a name that may be one, whatever name is followed
pub found_right : (name : List ℕ) (live : List Registration) → AllByRecursion IsRight live → (r : Registration) → registration_named live name ≡ Some r → IsRight r
found_right name [] all r is = absurd (cc)
found_right name (x ∷ live) all r is = elim (cases_Bool (has_name name x)) [
  | inl own_x ↦ let both : Some x ≡ Some r = rw own_x at is in let same : x ≡ r = cc in subst IsRight same all.0
  | inr other ↦ let later : registration_named live name ≡ Some r = rw other at is in found_right name live all.1 r later
]

found_named : (name : List ℕ) (live : List Registration) → AllByRecursion IsRight live → (r : Registration) → registration_named live name ≡ Some r → is_free_name name ≡ true
found_named name [] all r is = absurd (cc)
found_named name (x ∷ live) all r is = elim (cases_Bool (has_name name x)) [
  | inl own_x ↦ ap is_free_name ((bytes_eq-Decides name x.name).0 own_x) ∙ all.0.named
  | inr other ↦ let later : registration_named live name ≡ Some r = rw other at is in found_named name live all.1 r later
]

pub registered_named : Laws → (items : List Item) (s : Seat) → Stands (codes "w") s None → AreTaken s items → (name : List ℕ) (r : Registration) →
    registration_named (registered (seat_after s items).held.journal) name ≡ Some r → is_free_name name ≡ true
unfolding reserved_words
registered_named laws items s stands all name r found =
    found_named name (registered (seat_after s items).held.journal) (feed_goes laws (codes "w") refl items s None stands all).stands.fine.live r found

-- a user who sent nothing yet
pub empty_stands : (name : List ℕ) → Stands name empty_seat None
empty_stands name = record { fine = fine_none; agrees = refl; away = λ gone. refl }
