-- The parts of each command, in their order; Grammar.antt has the rules of num, pt, attr, moves and setting. A command's
-- rule, its canonical line, what is asked of its numbers and sizes, and what holds of it where it is read follow from its row.
use Rattle.std.specs.Prelude.{ℕ, ℤ, Bool, true, ◌&&◌, nat_le, List, length, codes}
use Rattle.std.specs.Option.{option_map_or}
use Rattle.case_table.specs.Language.{reserved_words}
use Rattle.case_table.specs.Rows.{code_of}
use Rattle.case_table.specs.declared.key.TheConstants.{CLASS}
use Rattle.fixed_point.specs.declared.number.Point.{Point}
use Rattle.motion.specs.declared.cell.AttrKind.{AttrKind}
use Rattle.motion.specs.declared.cell.NamedSet.{NamedSet}
use Rattle.motion.specs.declared.cell.Place.{Place}
use Rattle.ftl_lexer.specs.Cut.{is_word}
use Rattle.ftl_parser.specs.Tree.{QueryTree}
use Rattle.command_text.specs.Ranges.{WholePlace, Span, Steps, Capacity, Nearest, SignedPlace, Value, Width}
use Rattle.command_text.specs.Tree
use Rattle.command_text.specs.Tree.{CommandTree}

pub data Part : Type 0 where
  -- the first word
  Verb : List ℕ → Part
  -- NAME
  Name : List ℕ → Part
  -- TEXT
  Quoted : List ℕ → Part
  -- NUMBER, a whole one
  Whole : WholePlace → ℕ → Part
  -- NUMBER, the error of `must` and `may`
  Error : ℤ → Part
  -- num
  Num : SignedPlace → ℤ → Part
  -- ['point']
  PointWord : Bool → Part
  -- ['(' attr (',' attr)* ')']
  Attrs : List (List ℕ × AttrKind) → Part
  -- pt pt pt pt*
  Points : List Point → Part
  -- ['at' pt] ['move' moves] setting*
  Change : Place → List NamedSet → Part

infixr 20 ◌▸◌
-- nothing, or parts of which the last may be a query
pub data Parts : Type 0 where
  Blank : Parts
  Last : Part → Parts
  Asking : QueryTree → Parts
  ◌▸◌ : Part → Parts → Parts

-- no query has the word of this code
abbrev pub is_of_commands : ℕ → Bool
is_of_commands code = nat_le CLASS code

-- a word of at most seven bytes that no query has
abbrev pub is_verb : List ℕ → Bool
is_verb word = is_word word && (nat_le (length word) 7 && option_map_or is_of_commands (code_of reserved_words word) true)

abbrev pub parts : CommandTree → Parts
-- a blank line, or a comment
parts Tree.Nothing = Blank
-- 'class' NAME NUMBER ['point'] ['(' attr (',' attr)* ')']
parts (Tree.Class n k b attrs) = Verb (codes "class") ▸ Name n ▸ Whole Capacity k ▸ PointWord b ▸ Last (Attrs attrs)
-- 'region' NAME pt pt pt pt*
parts (Tree.Region n ps) = Verb (codes "region") ▸ Name n ▸ Last (Points ps)
-- 'insert' NAME NAME ['at' pt] ['move' moves] setting*
parts (Tree.Insert c n p ss) = Verb (codes "insert") ▸ Name c ▸ Name n ▸ Last (Change p ss)
-- 'update' NAME ['at' pt] ['move' moves] setting*
parts (Tree.Update n p ss) = Verb (codes "update") ▸ Name n ▸ Last (Change p ss)
-- 'remove' NAME
parts (Tree.Remove n) = Verb (codes "remove") ▸ Last (Name n)
-- 'tick' NUMBER
parts (Tree.Tick k) = Verb (codes "tick") ▸ Last (Whole Steps k)
-- 'ask' NUMBER query
parts (Tree.Ask k q) = Verb (codes "ask") ▸ Whole Span k ▸ Asking q
-- 'watch' NAME NUMBER query
parts (Tree.Watch n k q) = Verb (codes "watch") ▸ Name n ▸ Whole Span k ▸ Asking q
-- 'keep' NAME NUMBER query
parts (Tree.Keep n k q) = Verb (codes "keep") ▸ Name n ▸ Whole Span k ▸ Asking q
-- 'show' NAME
parts (Tree.Show n) = Verb (codes "show") ▸ Last (Name n)
-- 'drop' NAME
parts (Tree.Drop n) = Verb (codes "drop") ▸ Last (Name n)
-- 'list'
parts Tree.Listing = Last (Verb (codes "list"))
-- 'save' TEXT
parts (Tree.Save t) = Verb (codes "save") ▸ Last (Quoted t)
-- 'import' NAME TEXT
parts (Tree.Import n t) = Verb (codes "import") ▸ Name n ▸ Last (Quoted t)
-- 'export' NAME TEXT
parts (Tree.Export n t) = Verb (codes "export") ▸ Name n ▸ Last (Quoted t)
-- 'quit'
parts Tree.Quit = Last (Verb (codes "quit"))
-- 'nearest' NUMBER NUMBER NAME NAME
parts (Tree.Nearest s k o c) = Verb (codes "nearest") ▸ Whole Span s ▸ Whole Nearest k ▸ Name o ▸ Last (Name c)
-- 'must' NUMBER NUMBER query
parts (Tree.Must e k q) = Verb (codes "must") ▸ Error e ▸ Whole Span k ▸ Asking q
-- 'may' NUMBER NUMBER query
parts (Tree.May e k q) = Verb (codes "may") ▸ Error e ▸ Whole Span k ▸ Asking q
-- 'index' NAME NAME num
parts (Tree.Index c a w) = Verb (codes "index") ▸ Name c ▸ Name a ▸ Last (Num Width w)
-- 'range' NUMBER NAME NAME num num
parts (Tree.Range k c a l g) = Verb (codes "range") ▸ Whole Span k ▸ Name c ▸ Name a ▸ Num Value l ▸ Last (Num Value g)
