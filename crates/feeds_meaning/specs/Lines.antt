-- The kinds of lines where several users share one world, and the lines that a user is told beside replies.
use Rattle.std.specs.Prelude.{ℕ, ◌+◌, Bool, true, false, not, ◌&&◌, List, [], ◌∷◌, ◌++◌, codes, decimal}
use Rattle.std.specs.List.{list_any}
use Rattle.std.specs.Str.{bytes_eq}
use Rattle.formula.specs.declared.kind.QueryKind.{QueryKind}
use Rattle.formula.specs.declared.kind.QueryKind.TheVariants as kinds
use Rattle.formula.specs.Kinds.{kind_word}
use Rattle.command_text.specs.Journal.{clock, is_kept}
use Rattle.command_text.specs.Tree
use Rattle.command_text.specs.Tree.{CommandTree}
use Rattle.line_meaning.specs.declared.role.Role.{Role}
use Rattle.line_meaning.specs.declared.role.Role.TheVariants.{Filing, Ending}
use Rattle.line_meaning.specs.Judging.{Held}
use Rattle.line_meaning.specs.Reply.{clock_line, line_feed, name_text}
use Rattle.line_meaning.specs.Role.{role_of}
use Rattle.users.specs.Sender.{first_word}

-- ---- Kinds of lines, by their first words

abbrev pub data_words : List (List ℕ)
data_words = codes "class" ∷ codes "region" ∷ codes "insert" ∷ codes "update" ∷ codes "remove" ∷ codes "tick" ∷ []

abbrev pub query_words : List (List ℕ)
query_words = codes "watch" ∷ codes "keep" ∷ codes "drop" ∷ []

abbrev pub is_among : List (List ℕ) → List ℕ → Bool
is_among words word = list_any (λ w. bytes_eq w word) words

-- a line on the objects, the regions or the clock, which all users share
abbrev pub is_data_line : List ℕ → Bool
is_data_line line = is_among data_words (first_word line)

-- a line on the user's own registered queries
abbrev pub is_query_line : List ℕ → Bool
is_query_line line = is_among query_words (first_word line)

-- ---- Kinds of commands

abbrev pub is_data : CommandTree → Bool
is_data (Tree.Class name capacity point attributes) = true
is_data (Tree.Region name points) = true
is_data (Tree.Insert class name place sets) = true
is_data (Tree.Update name place sets) = true
is_data (Tree.Remove name) = true
is_data (Tree.Tick ticks) = true
is_data c = false

-- a journal keeps it, and it is of the user's own queries
abbrev pub is_of_queries : CommandTree → Bool
is_of_queries c = is_kept c && not (is_data c)

abbrev pub is_barred_role : Role → Bool
is_barred_role Filing = true
is_barred_role Ending = true
is_barred_role role = false

-- no user may give it: it would name a file of the program, or end the run of all
abbrev pub is_barred : CommandTree → Bool
is_barred c = is_barred_role (role_of c)

-- ---- Lines beside replies

-- `start w watch 7`
abbrev pub start_line : QueryKind → List ℕ → ℕ → List ℕ
start_line kind query now = codes "start" ++ name_text query ++ name_text (kind_word kind) ++ name_text (decimal now) ++ line_feed

-- `stop w`
abbrev pub stop_line : List ℕ → List ℕ
stop_line query = codes "stop" ++ name_text query ++ line_feed

-- what is told before the reply to an accepted command: the new clock, or the query that begins or ends
abbrev pub notice : Held → CommandTree → List ℕ
notice h (Tree.Tick ticks) = clock_line (clock h.journal + ticks)
notice h (Tree.Watch name span q) = start_line kinds.Watch name (clock h.journal)
notice h (Tree.Keep name span q) = start_line kinds.Keep name (clock h.journal)
notice h (Tree.Drop name) = stop_line name
notice h c = []
