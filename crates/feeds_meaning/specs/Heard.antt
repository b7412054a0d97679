-- What one user hears of what concerns this user: the user's own lines, and the accepted data commands of others. No other
-- user is told of here.
use Rattle.std.specs.Prelude.{ℕ, ◌+◌, Bool, true, false, ◌&&◌, nat_le, Option, None, Some, List, [], ◌∷◌, ◌++◌, if◌then◌else◌}
use Rattle.exact.specs.First.{first_that_holds, or_else}
use Rattle.command_text.specs.declared.reading.TheConstants.{LINE_LIMIT}
use Rattle.command_text.specs.declared.refusal.Refusal.{Refusal}
use Rattle.command_text.specs.declared.refusal.Refusal.TheVariants.{BadSyntax, JournalFull}
use Rattle.command_text.specs.Journal.{spelled}
use Rattle.command_text.specs.Line.{first_refusal}
use Rattle.command_text.specs.Refusals.{refusal_line}
use Rattle.command_text.specs.Tree.{CommandTree}
use Rattle.line_meaning.specs.Answering.{kept_lines}
use Rattle.line_meaning.specs.Judging.{Held, all_after, fault_of, held, held_after}
use Rattle.line_meaning.specs.Registry.{known}
use Rattle.line_meaning.specs.Reply.{line_feed}
use Rattle.line_meaning.specs.Role.{role_of}
use Rattle.line_meaning.specs.Step.{reply_by}
use Rattle.users.specs.Tagged.{lines_in}
use Rattle.feeds_meaning.specs.declared.limits.TheConstants.{DATA_LINES_LIMIT, QUERY_LINES_LIMIT}
use Rattle.feeds_meaning.specs.Lines.{is_barred, is_data, is_data_line, is_of_queries, is_query_line, notice}

-- what one user's lines are answered by
pub record Seat : Type 0 where
  pub held : Held
  -- whether the user has sent a line
  pub here : Bool
  -- how many data commands were accepted, of whomever, and how many of this user's commands on registered queries
  pub data_lines : ℕ
  pub query_lines : ℕ

-- nothing was sent yet
abbrev pub empty_seat : Seat
empty_seat = record { held = held []; here = false; data_lines = 0; query_lines = 0 }

-- what concerns a user
pub data Item : Type 0 where
  -- a line of the user's own
  Own : List ℕ → Item
  -- a data command of another user that was accepted
  Other : CommandTree → Item

-- ---- The user's own lines

-- the limits of lines, which are judged before all else
abbrev pub limit_refusal : Seat → List ℕ → Option Refusal
limit_refusal s line = first_that_holds (
    (JournalFull, is_data_line line && nat_le DATA_LINES_LIMIT s.data_lines)
    ∷ (JournalFull, is_query_line line && nat_le QUERY_LINES_LIMIT s.query_lines)
    ∷ [])

-- a command that no user may give, and then what is held
abbrev pub command_refusal : Held → CommandTree → Option Refusal
command_refusal h c = or_else (first_that_holds ((BadSyntax, is_barred c) ∷ [])) (fault_of h c)

-- the first refusal of a line, None where it is accepted
unfoldable pub own_refusal : Seat → List ℕ → Option Refusal
own_refusal s line = or_else (limit_refusal s line) (or_else (first_refusal LINE_LIMIT line) (command_refusal s.held (spelled line)))

-- how many lines of a kind there are after one that is of it or not
abbrev pub count_with_line : Bool → ℕ → ℕ
count_with_line is count = if is then count + 1 else count

abbrev pub after_own : Seat → CommandTree → Seat
after_own s c = record {
  held = all_after s.held c;
  here = true;
  data_lines = count_with_line (is_data c) s.data_lines;
  query_lines = count_with_line (is_of_queries c) s.query_lines;
}

-- the reply to an accepted command
abbrev pub own_text : Held → CommandTree → List ℕ
own_text h c = notice h c ++ reply_by (role_of c) h c

-- a refused line changes nothing but that the user is there
abbrev pub own_by : Seat → CommandTree → Option Refusal → Seat × List ℕ
own_by s c (Some refusal) = (record s { here = true }, refusal_line refusal ++ line_feed)
own_by s c None = (after_own s c, own_text s.held c)

-- ---- Data commands of others

-- an accepted one: what it changes for the user's queries, without the `ok` of its sender
abbrev pub other_text : Held → CommandTree → List ℕ
other_text h c = notice h c ++ kept_lines (known h.journal) (known (held_after h c).journal) c

-- a user who sent no line yet is told nothing
abbrev pub other_by : Seat → CommandTree → Seat × List ℕ
other_by s c = (record s { held = held_after s.held c; data_lines = s.data_lines + 1 }, if s.here then other_text s.held c else [])

-- ---- All that concerns a user

-- what one item leaves, and the text that is told of it
abbrev pub item_outcome : Seat → Item → Seat × List ℕ
item_outcome s (Own line) = own_by s (spelled line) (own_refusal s line)
item_outcome s (Other c) = other_by s c

-- what items leave, one after another
abbrev pub seat_after : Seat → List Item → Seat
seat_after s [] = s
seat_after s (item ∷ items) = seat_after (item_outcome s item).0 items

-- the lines that a user hears of items, each without its line feed
abbrev pub heard : Seat → List Item → List (List ℕ)
heard s [] = []
heard s (item ∷ items) = lines_in (item_outcome s item).1 ++ heard (item_outcome s item).0 items
