-- What is done with a command of a journal that is replayed.
use Rattle.std.specs.Prelude.{◌≡◌, None, Some, Result, MatchResult}
use Rattle.command_text.specs.Tree.{CommandTree}
use Rattle.line_meaning.specs.Step.{Held, fault_of, held, held_after}
use Rattle.session.specs.declared.next.Next.{Next}
use Rattle.session.specs.declared.next.Next.TheVariants as nexts

-- it is entered, or refused as its line would be; indexes refuse no such command, and stay
abbrev pub ReplaysAs : Held → CommandTree → Held → Next → Type 0
ReplaysAs old c new nexts.Accepted = (fault_of (held old.journal) c ≡ None) × (new ≡ held_after old c)
ReplaysAs old c new (nexts.Refused r) = (fault_of (held old.journal) c ≡ Some r) × (new ≡ old)
ReplaysAs old c new next = ⊥

-- want of memory changes nothing
abbrev pub Replays : {E : Type 0} → Held → CommandTree → Held → Result Next E → Type 0
Replays old c new result = MatchResult result (ReplaysAs old c new) (λ _. new ≡ old)
