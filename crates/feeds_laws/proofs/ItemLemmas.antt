-- What one item that concerns a user leaves of a copy: whatever it is, the copy goes on having the ticks of the answer.
use Rattle.std.proofs.Common.{◌≡◌, ◌∙◌, ℕ, ◌+◌, ◌≤◌, Bool, true, false, List, [], ◌∷◌, ◌++◌, option_map, Option, None, refl, ap, sym, subst, arith}
use Rattle.std.proofs.lemmas.Bool.{false≢true}
use Rattle.std.specs.Prelude.{if◌then◌else◌}
use Rattle.std.specs.List.{AllByRecursion}
use Rattle.formula.specs.Tree.{ResolvedQuery}
use Rattle.tick_set.specs.declared.spans.TheConstants.{LAST_TICK}
use Rattle.history.specs.World.{World}
use Rattle.history.proofs.LawLemmas.{names_apart}
use Rattle.meaning.specs.Fits.{FitsItsClasses}
use Rattle.meaning.specs.Registered.{first_tick}
use Rattle.command_text.specs.Journal.{Accepted, clock, ticks_of}
use Rattle.command_text.specs.Shape.{IsPrintable}
use Rattle.command_text.specs.TextLaws.{PrintsWhatIsRead}
use Rattle.command_text.specs.Tree
use Rattle.command_text.specs.Tree.{CommandTree}
use Rattle.line_meaning.specs.Answering.{kept_lines}
use Rattle.line_meaning.specs.Changes.{tick_lines, write_lines}
use Rattle.line_meaning.specs.Journal.{world, writes}
use Rattle.line_meaning.specs.Judging.{Held, held_after}
use Rattle.line_meaning.specs.QueryFault.{command_fault}
use Rattle.line_meaning.specs.Registry.{Registration, has_name, known, registered}
use Rattle.line_meaning.proofs.JournalLemmas.{clock_more, registered_more}
use Rattle.feeds_meaning.specs.Lines.{is_data, notice}
use Rattle.replica.specs.Copied.{at_clock}
use Rattle.replica.specs.Text.{is_free_name}
use Rattle.replica.specs.declared.copied.Copied.{Copied}
use Rattle.feeds_laws.proofs.AlikeLemmas.{GiveTheSameTruth, answer_at, class_leaves, region_leaves}
use Rattle.feeds_laws.proofs.CopyLemmas.{AgreesBy, own, passage_agrees, passage_quiet, write_goes}
use Rattle.feeds_laws.proofs.FineLemmas.{AreRight, FitsIn, GoOnFitting, IsFine, fine_after, grown_after, world_stays}
use Rattle.feeds_laws.proofs.GrowthLemmas.{AnswersAreUnions}
use Rattle.feeds_laws.proofs.QuietLemmas.{clock_leads}
use Rattle.feeds_laws.proofs.ReadingLemmas.{Leads, nothing_leads}

-- what laws of the crates below say
pub record Laws : Type 0 where
  pub unions : AnswersAreUnions
  pub right : AreRight
  pub fitting : GoOnFitting
  pub truth : GiveTheSameTruth
  pub prints : PrintsWhatIsRead

-- the copy agrees with a journal
abbrev pub AgreesWith : List ℕ → List Accepted → Option Copied → Type 0
AgreesWith name journal copy = AgreesBy (world journal) (clock journal) (own name (registered journal)) copy

pub agrees_as : (w v : World) → w ≡ v → (n m : ℕ) → n ≡ m → (regs others : List Registration) → regs ≡ others → (copy : Option Copied) → AgreesBy w n regs copy → AgreesBy v m others copy
agrees_as w v worlds n m clocks regs others same copy agrees =
    subst (λ (w : World). AgreesBy w m others copy) worlds (subst (λ (n : ℕ). AgreesBy w n others copy) clocks (subst (λ (regs : List Registration). AgreesBy w n regs copy) same agrees))

abbrev pub next : List Accepted → CommandTree → List Accepted
next journal c = journal ++ (clock journal, c) ∷ []

pub same_clock : (journal : List Accepted) (c : CommandTree) → ticks_of c ≡ 0 → clock journal ≡ clock (next journal c)
same_clock journal c none = let more = clock_more journal (clock journal) c in omega (arith, more, none)

-- ---- Data commands

fits_own : (w : World) (name : List ℕ) (live : List Registration) → AllByRecursion (FitsIn w) live → AllByRecursion (FitsIn w) (own name live)
fits_own w name [] all = tt
fits_own w name (r ∷ live) all = by (has_name name r) (fits_own w name live all.1)
  where
    by : (b : Bool) → AllByRecursion (FitsIn w) (own name live) → AllByRecursion (FitsIn w) (if b then r ∷ own name live else own name live)
    by true later = (all.0, later)
    by false later = later

-- what is told before and of the changes, and that the copy agrees with the journal after it
pub record DataGoes (name before changes : List ℕ) (copy : Option Copied) (journal : List Accepted) : Type 0 where
  pub mid : Option Copied
  pub after : Option Copied
  pub first : Leads name before (copy, false) (mid, false)
  pub second : Leads name changes (mid, false) (after, false)
  pub agrees : AgreesWith name journal after

module _ (laws : Laws) (name : List ℕ) (is : is_free_name name ≡ true) (h : Held) (fine : IsFine h.journal) (copy : Option Copied) (agrees : AgreesWith name h.journal copy) where
  abbrev j : List Accepted
  j = h.journal

  -- a write
  written : (c : CommandTree) → IsFine (next j c) → ticks_of c ≡ 0 → registered (next j c) ≡ registered j → DataGoes name [] (write_lines (world j) (world (next j c)) (clock j) (registered j)) copy (next j c)
  written c later none same =
      let g = grown_after j c in
      let goes = write_goes laws.unions (world j) (world (next j c)) g.more g.is later.objects (names_apart (writes (next j c))) (clock j) name is (registered j) fine.live copy agrees in
      record {
        mid = copy;
        after = goes.after;
        first = nothing_leads name (copy, false);
        second = goes.leads;
        agrees = agrees_as (world (next j c)) (world (next j c)) refl (clock j) (clock (next j c)) (same_clock j c none) (own name (registered j)) (own name (registered (next j c))) (ap (own name) (sym same)) goes.after goes.agrees;
      }

  passed : (ticks : ℕ) → IsFine (next j (Tree.Tick ticks)) →
      DataGoes name (notice h (Tree.Tick ticks)) (tick_lines (world j) (clock j) (clock (next j (Tree.Tick ticks))) (registered j)) copy (next j (Tree.Tick ticks))
  passed ticks later =
      let c = Tree.Tick ticks in
      let now = clock j + ticks in
      let clock_is : now ≡ clock (next j c) = sym (clock_more j (clock j) c) in
      let last : now ≤ LAST_TICK = subst (λ (n : ℕ). n ≤ LAST_TICK) (sym clock_is) later.last in
      let after : Option Copied = option_map (at_clock now) copy in
      record {
        mid = after;
        after = after;
        first = clock_leads name is now last copy;
        second = passage_quiet (world j) fine.objects (clock j) (clock (next j c)) name is (registered j) fine.live after;
        agrees =
            agrees_as (world j) (world (next j c)) (sym (world_stays j c refl refl)) now (clock (next j c)) clock_is (own name (registered j)) (own name (registered (next j c)))
            (ap (own name) (sym (registered_more j (clock j) c))) after
            (passage_agrees (world j) (clock j) now (omega arith) (own name (registered j)) copy agrees);
      }

  -- what changes no answer
  alike : (c : CommandTree) → ticks_of c ≡ 0 → registered (next j c) ≡ registered j →
      ((q : ResolvedQuery) → FitsItsClasses (world j) q → (from e : ℕ) (target : List ℕ) (t : ℕ) → answer_at (world (next j c)) q from e target t ≡ answer_at (world j) q from e target t) →
      DataGoes name [] [] copy (next j c)
  alike c none same leaves = record {
    mid = copy;
    after = copy;
    first = nothing_leads name (copy, false);
    second = nothing_leads name (copy, false);
    agrees = agrees_as (world (next j c)) (world (next j c)) refl (clock j) (clock (next j c)) (same_clock j c none) (own name (registered j)) (own name (registered (next j c))) (ap (own name) (sym same)) copy
        (by (own name (registered j)) (fits_own (world j) name (registered j) fine.fits) agrees);
  }
    where
      by : (regs : List Registration) → AllByRecursion (FitsIn (world j)) regs → AgreesBy (world j) (clock j) regs copy → AgreesBy (world (next j c)) (clock j) regs copy
      by [] fits has = has
      by (r ∷ []) fits has = record {
        rows = has.rows;
        is = has.is;
        ticks = λ target t first. has.ticks target t first ∙ sym (leaves r.query.query fits.0 (first_tick r.query.kind r.query.entry (clock j)) r.query.expiry target t);
      }
      by (r ∷ s ∷ later) fits has = has

  pub data_goes : (c : CommandTree) → is_data c ≡ true → IsPrintable c → command_fault (known j) c ≡ None →
      DataGoes name (notice h c) (kept_lines (known j) (known (held_after h c).journal) c) copy (held_after h c).journal
  data_goes (Tree.Class class capacity point attributes) kind printable none =
      let c = Tree.Class class capacity point attributes in
      alike c refl (registered_more j (clock j) c) (λ q fits from e target t. class_leaves j class capacity point attributes q from e target t)
  data_goes (Tree.Region region points) kind printable none =
      let c = Tree.Region region points in
      alike c refl (registered_more j (clock j) c) (λ q fits from e target t. region_leaves laws.truth j region points q fits from e target t)
  data_goes (Tree.Insert class object place sets) kind printable none =
      let c = Tree.Insert class object place sets in
      written c (fine_after laws.right laws.fitting j c printable none fine) refl (registered_more j (clock j) c)
  data_goes (Tree.Update object place sets) kind printable none =
      let c = Tree.Update object place sets in
      written c (fine_after laws.right laws.fitting j c printable none fine) refl (registered_more j (clock j) c)
  data_goes (Tree.Remove object) kind printable none =
      let c = Tree.Remove object in
      written c (fine_after laws.right laws.fitting j c printable none fine) refl (registered_more j (clock j) c)
  data_goes (Tree.Tick ticks) kind printable none = passed ticks (fine_after laws.right laws.fitting j (Tree.Tick ticks) printable none fine)
  data_goes c kind printable none = absurd (false≢true kind)
