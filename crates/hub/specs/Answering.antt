-- What a command leaves of one session, and the text that is told of it.
use Rattle.std.specs.Prelude.{◌≡◌, ℕ, Bool, true, false, is_none, Option, None, Some, List, ◌++◌, codes, decimal, if◌then◌else◌}
use Rattle.command_text.specs.declared.refusal.Refusal.{Refusal}
use Rattle.command_text.specs.Journal.{spelled}
use Rattle.command_text.specs.Line.{IsRead}
use Rattle.command_text.specs.Refusals.{refusal_line}
use Rattle.command_text.specs.Text.{text_of}
use Rattle.command_text.specs.Tree.{CommandTree}
use Rattle.line_meaning.specs.Judging.{Held, all_after, fault_of, held_after}
use Rattle.line_meaning.specs.Reply.{line_feed, name_text, ok_line}
use Rattle.session.specs.declared.next.Next.{Next}
use Rattle.session.specs.declared.next.Next.TheVariants as nexts
use Rattle.session.specs.Carried.{IsLegible}
use Rattle.session_file.specs.declared.kept.TheConstants.{SESSION_LINE_LIMIT}
use Rattle.feeds_meaning.specs.Heard.{other_text, own_text}
use Rattle.feeds_meaning.specs.Lines.{is_barred}

-- `start w watch 7`, by the word of the kind
abbrev pub start_line_by_word : (query kind : List ℕ) → ℕ → List ℕ
start_line_by_word query kind now = codes "start" ++ name_text query ++ name_text kind ++ name_text (decimal now) ++ line_feed

-- a user may give it, and it can be carried out
pub record MayBeGiven (c : CommandTree) : Type 0 where
  pub legible : IsLegible c
  pub allowed : is_barred c ≡ false

-- by the refusal of the command, if there is one
abbrev pub answer_by : Held → CommandTree → Option Refusal → List ℕ
answer_by h c (Some refusal) = refusal_line refusal ++ line_feed
answer_by h c None = own_text h c

-- the end of a reply by what became of the command, and whether it was accepted
abbrev pub Finishes : Next → (before after : List ℕ) → Bool → Type 0
Finishes (nexts.Refused r) before after accepted = (accepted ≡ false) × (after ≡ refusal_line r ++ line_feed)
Finishes nexts.Silent before after accepted = (accepted ≡ true) × (after ≡ before)
Finishes nexts.Accepted before after accepted = (accepted ≡ true) × (after ≡ before ++ ok_line)
Finishes nexts.Quit before after accepted = (accepted ≡ true) × (after ≡ before ++ ok_line)

-- a command of the user's own was accepted or not
pub record IsOwn (c : CommandTree) (old new : Held) (text : List ℕ) (accepted : Bool) : Type 0 where
  pub told : accepted ≡ is_none (fault_of old c)
  pub held_is : new ≡ (if accepted then all_after old c else old)
  pub text_is : text ≡ answer_by old c (fault_of old c)

-- a data command of another user, which was accepted
pub record IsOther (c : CommandTree) (old new : Held) (text : List ℕ) : Type 0 where
  pub held_is : new ≡ held_after old c
  pub text_is : text ≡ other_text old c

-- the canonical line of a command that a journal has
pub record IsEntryLine (line : List ℕ) : Type 0 where
  pub read : IsRead SESSION_LINE_LIMIT line (spelled line)
  pub canonical : text_of (spelled line) ≡ line
