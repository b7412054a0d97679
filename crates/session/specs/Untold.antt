-- What is done with a line by some texts that the shelf may have, also where it tells none: an import is that of some text.
use Rattle.std.specs.Prelude.{◌≤◌, ◌+◌, ℕ, List, Option, Result, IfOk, IfErr}
use Rattle.outside.specs.Shelf.{Texts}
use Rattle.command_text.specs.Journal.{spelled}
use Rattle.line_meaning.specs.Looks.{looks_of}
use Rattle.line_meaning.specs.Step.{base}
use Rattle.session.specs.declared.next.ApplyFault.{ApplyFault}
use Rattle.session.specs.declared.next.Next.{Next}
use Rattle.session.specs.Answers.{Answers, LeavesHeld, MayHave}
use Rattle.session.specs.Carried.{Moment}

-- what is answered, what a failure leaves, and how many looks that takes, all by the same texts
pub record AppliesBySome (told : Option Texts) (line : List ℕ) (old new : Moment) (result : Result Next ApplyFault) : Type 0 where
  pub texts : Texts
  pub agree : MayHave told texts
  pub answers : IfOk result (λ next. Answers next (base old.holds texts) line new.holds old.tally.said new.tally.said)
  pub leaves : IfErr result (λ fault. LeavesHeld (base old.holds texts) (spelled line) new.holds)
  pub most : new.tally.reads ≤ old.tally.reads + looks_of (base old.holds texts) (spelled line)
