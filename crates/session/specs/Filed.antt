-- What is done with a command, by what was held and told of the shelf before it, and what is after it.
use Rattle.std.specs.Prelude.{◌≡◌, ◌≤◌, ◌+◌, ℕ, List, ◌++◌, true, false, Option, None, Some, Result, Ok, Err, IfOk, IfErr}
use Rattle.outside.specs.Shelf.{SameButAt, Texts, texts_with}
use Rattle.command_text.specs.declared.refusal.Refusal.{Refusal}
use Rattle.exact.specs.First.{or_else}
use Rattle.command_text.specs.Shape.{IsPrintable}
use Rattle.command_text.specs.Tree.{CommandTree}
use Rattle.line_meaning.specs.Looks.{is_query, looks_of}
use Rattle.line_meaning.specs.Role.{asks_shelf, is_import}
use Rattle.line_meaning.specs.Step.{Base, Held, base, base_after, fault_of, file_refusal, reply_of}
use Rattle.session.specs.declared.next.ApplyFault.{ApplyFault}
use Rattle.session.specs.declared.next.ApplyFault.TheVariants as apply_faults
use Rattle.session.specs.declared.next.Next.{Next}
use Rattle.session.specs.declared.next.Next.TheVariants as nexts
use Rattle.session.specs.Answers.{IsUnread, KeepsIfRefused, LeavesHeld, LeavesTexts, MayHave, next_of}
use Rattle.session.specs.Carried.{Moment}

-- a command that asks the shelf
pub record IsFiling (c : CommandTree) : Type 0 where
  pub printable : IsPrintable c
  pub asks : asks_shelf c ≡ true

-- the refusal of a command, also by what a text of the shelf holds
abbrev pub refusal_with : Base → CommandTree → Option Refusal
refusal_with b c = or_else (fault_of b.held c) (file_refusal b c)

-- the texts of the shelf need to be told for an import alone
abbrev pub SufficesFor : Option Texts → CommandTree → Texts → Type 0
SufficesFor told c texts = is_import c ≡ true → told ≡ Some texts

abbrev pub Does : Next → Base → CommandTree → Held → List ℕ → List ℕ → Type 0
Does (nexts.Refused r) b c new before after = (refusal_with b c ≡ Some r) × (new ≡ b.held) × (after ≡ before)
Does next b c new before after =
    (refusal_with b c ≡ None) × (next ≡ next_of c) × (new ≡ (base_after b c).held) × (after ≡ before ++ reply_of b c)

abbrev pub texts_by : Next → Base → CommandTree → Texts
texts_by (nexts.Refused r) b c = b.texts
texts_by next b c = (base_after b c).texts

-- ---- Failures

pub record IsStoppedByShelf (told left : Option Texts) (c : CommandTree) (old new : Held) (before after : List ℕ) : Type 0 where
  pub asks : asks_shelf c ≡ true
  pub accepted : fault_of old c ≡ None
  pub held_stays : new ≡ old
  pub said : after ≡ before
  pub texts : LeavesTexts c told left

pub record WantsMemory (told left : Option Texts) (c : CommandTree) (old new : Held) (before after : List ℕ) : Type 0 where
  pub said : after ≡ before
  pub texts : (texts : Texts) → told ≡ Some texts → left ≡ Some texts
  pub leaves : (texts : Texts) → SufficesFor told c texts → LeavesHeld (base old texts) c new

abbrev pub FailsAtCommand : ApplyFault → Option Texts → Option Texts → CommandTree → Held → Held → List ℕ → List ℕ → Type 0
FailsAtCommand apply_faults.ShelfFault told left c old new before after = IsStoppedByShelf told left c old new before after
FailsAtCommand apply_faults.NoMemory told left c old new before after = WantsMemory told left c old new before after

-- ---- All that is done with a command

pub record IsApplied (told left : Option Texts) (c : CommandTree) (old new : Held) (before after : List ℕ)
    (result : Result Next ApplyFault) : Type 0 where
  pub answers : (texts : Texts) → SufficesFor told c texts → IfOk result (λ next. Does next (base old texts) c new before after)
  pub refused : IfOk result (λ next. KeepsIfRefused next old new before after)
  pub texts : (texts : Texts) → told ≡ Some texts → IfOk result (λ next. left ≡ Some (texts_by next (base old texts) c))
  pub fails : IfErr result (λ fault. FailsAtCommand fault told left c old new before after)

-- of a command that is refused, and of one without a reply, no step is taken
pub record TakesSteps (reads reads' probes probes' : ℕ) (result : Result Next ApplyFault) : Type 0 where
  pub least : reads ≤ reads'
  pub unread : IfOk result (λ next. IsUnread next reads reads')
  pub unprobed : IfOk result (λ next. IsUnread next probes probes')

-- all that is done with a command from one moment to the next, and the steps that it takes
pub record IsAnswered (told left : Option Texts) (c : CommandTree) (old new : Moment) (result : Result Next ApplyFault) : Type 0 where
  pub applied : IsApplied told left c old.holds new.holds old.tally.said new.tally.said result
  pub steps : TakesSteps old.tally.reads new.tally.reads old.tally.probes new.tally.probes result
  pub most : (texts : Texts) → SufficesFor told c texts → new.tally.reads ≤ old.tally.reads + looks_of (base old.holds texts) c
  pub plain : is_query c ≡ false → new.tally.probes ≡ old.tally.probes

-- What is done with a command by some texts that the shelf may have, also where it tells none: an import is then that of the
-- text which was fetched.
pub record IsBySome (told : Option Texts) (c : CommandTree) (old new : Moment) (result : Result Next ApplyFault) : Type 0 where
  pub texts : Texts
  pub agree : MayHave told texts
  pub does : IfOk result (λ next. Does next (base old.holds texts) c new.holds old.tally.said new.tally.said)
  pub leaves : IfErr result (λ fault. LeavesHeld (base old.holds texts) c new.holds)
  pub most : new.tally.reads ≤ old.tally.reads + looks_of (base old.holds texts) c

-- the bytes after what was done, where those after an error are cut off
abbrev pub said_after : {T E : Type 0} → Result T E → List ℕ → List ℕ → List ℕ
said_after (Ok x) before after = after
said_after (Err e) before after = before

-- a text was put on the shelf, or what a failure left of it
abbrev pub Puts : Option Texts → Option Texts → List ℕ → List ℕ → Result Next ApplyFault → Type 0
Puts told left file text (Ok next) = (next ≡ nexts.Accepted) × ((texts : Texts) → told ≡ Some texts → left ≡ Some (texts_with texts file text))
Puts told left file text (Err apply_faults.ShelfFault) =
    (texts : Texts) → told ≡ Some texts → (rest : Texts) × (left ≡ Some rest) × SameButAt file texts rest
Puts told left file text (Err apply_faults.NoMemory) = (texts : Texts) → told ≡ Some texts → left ≡ Some texts
