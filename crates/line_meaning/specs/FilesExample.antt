-- Texts that are saved, exported, imported and loaded, worked out by hand.
use Rattle.std.specs.Prelude.{◌≡◌, ℕ, pos, true, None, Some, List, [], ◌∷◌, ◌++◌, codes}
use Rattle.outside.specs.Shelf.{Texts, texts_of}
use Rattle.motion.specs.declared.cell.Given.TheVariants as givens
use Rattle.motion.specs.declared.cell.NamedSet.{NamedSet}
use Rattle.motion.specs.Cells.{nowhere}
use Rattle.command_text.specs.Journal.{Accepted}
use Rattle.command_text.specs.Tree as commands
use Rattle.command_text.specs.Tree.{CommandTree}
use Rattle.command_text.specs.declared.refusal.Refusal.TheVariants as refusals
use Rattle.line_meaning.specs.Example.{driving_along}
use Rattle.line_meaning.specs.Files.{texts_after}
use Rattle.line_meaning.specs.Import.{journal_after_text}
use Rattle.line_meaning.specs.Loading.{Loaded, BadLine, loading_of}
use Rattle.line_meaning.specs.QueryExample.{at_once, watched}
use Rattle.line_meaning.specs.Step.{Base, base, file_refusal, held, import_lines}

-- ---- a car that drives along the x axis by 1 a tick, at tick 3

abbrev pub driven_car : List Accepted
driven_car =
    at_once (commands.Class (codes "car") 2 true [] ∷ commands.Insert (codes "car") (codes "a") driving_along [] ∷ commands.Tick 3 ∷ [])

abbrev pub no_texts : Texts
no_texts = texts_of []

abbrev pub saved_car : List ℕ
saved_car =
    codes "domino-session 2\nentries 3 clock 3\nclass car 2 point\ninsert car a at (0,0) move (1,0)\ntick 3\nend\n"

pub record SavesTexts : Type 0 where
  pub saved : texts_after (held driven_car) no_texts (commands.Save (codes "s")) (codes "s") ≡ Some saved_car
  pub exported :
      texts_after (held driven_car) no_texts (commands.Export (codes "car") (codes "e")) (codes "e")
      ≡ Some (codes "name,x,x.rate,y,y.rate\na,3,1,0,0\n")
  pub others : texts_after (held driven_car) no_texts (commands.Save (codes "s")) (codes "e") ≡ None

-- ---- imports

abbrev pub x_is : ℕ → List NamedSet
x_is n = record { name = codes "x"; given = givens.Num (pos n) } ∷ []

-- with this text under `f`
abbrev pub with_text : List Accepted → List ℕ → Base
with_text journal text = base (held journal) (texts_of ((codes "f", text) ∷ []))

abbrev pub car_import : CommandTree
car_import = commands.Import (codes "car") (codes "f")

pub record ImportsRows : Type 0 where
  -- an update and an insert, at the tick of the clock
  pub two_rows :
      journal_after_text driven_car (codes "car") (codes "name,x\na,5\nb,7\n")
      ≡ Some (driven_car
      ++ (3, commands.Update (codes "a") nowhere (x_is 5000))
      ∷ (3, commands.Insert (codes "car") (codes "b") nowhere (x_is 7000))
      ∷ [])
  -- the insert of the first row changes nothing of the watch, the update of the second one does
  pub lines :
      import_lines (with_text watched (codes "name,x\nb,9\nb,12\n")) (codes "car") (codes "f") ≡ codes "gain w b : 0..30\nenter w b\n"
  pub accepted : file_refusal (with_text driven_car (codes "name,x\na,5\nb,7\n")) car_import ≡ None
  pub no_file : file_refusal (base (held driven_car) no_texts) car_import ≡ Some refusals.NoFile
  pub no_number : file_refusal (with_text driven_car (codes "name,x\na,5\nb,z\n")) car_import ≡ Some refusals.BadFile
  -- a row of a third name, for which the class has no room
  pub refused_row : file_refusal (with_text driven_car (codes "name\nb\nc\n")) car_import ≡ Some refusals.BadFile

-- ---- texts of sessions

pub record LoadsTexts : Type 0 where
  pub loaded : loading_of saved_car ≡ Loaded driven_car
  -- the line of the command that is refused, in the format without counts
  pub refused : loading_of (codes "domino-session 1\nclass car 2 point\n\ninsert bus a\nend\n") ≡ BadLine 4
  -- a line that is faulty comes before one that is refused
  pub faulty : loading_of (codes "domino-session 1\nremove a\nlist\nend\n") ≡ BadLine 3
  pub no_end : loading_of (codes "domino-session 1\ntick 3\n") ≡ BadLine 3
