-- For this crate and for the crates above: what was read is ready for the database.
use Rattle.std.proofs.Common.{◌≤◌, ℤ, pos, negsuc, List, [], ◌∷◌, Option, None, Some, arith}
use Rattle.std.specs.Prelude.{All, IfSome, unsigned_abs}
use Rattle.std.specs.List.{AllByRecursion}
use Rattle.std.proofs.lemmas.List.Elements.{All-cons}
use Rattle.fixed_point.specs.declared.number.Point.{Point}
use Rattle.ftl_parser.specs.Lawful.{IsUnsigned}
use Rattle.geometry.specs.declared.limits.TheConstants.{RADIUS_LIMIT}
use Rattle.motion.specs.Cells.{IsGiven}
use Rattle.fixed_point.specs.declared.number.TheConstants.{READ_LIMIT}
use Rattle.motion.specs.declared.cell.Given.{Given}
use Rattle.motion.specs.declared.cell.Given.TheVariants as givens
use Rattle.motion.specs.declared.cell.NamedSet.{NamedSet}
use Rattle.motion.specs.declared.cell.Place.{Place}
use Rattle.object_store.specs.Changes.{AreGiven}
use Rattle.command_text.specs.Shape as shape
use Rattle.command_text.specs.Shape.{IsPrintable}
use Rattle.command_text.specs.Tree
use Rattle.command_text.specs.Tree.{CommandTree}
use Rattle.database.specs.Ready.{IsReadyCommand}

given_fits : (g : Given) → shape.IsPrintableGiven g → IsGiven g
given_fits (givens.Num v) h = h
given_fits (givens.Text t) h = tt
given_fits (givens.Rate f) h = tt
given_fits (givens.Both v f) h = h.0

sets_fit : (sets : List NamedSet) → AllByRecursion shape.IsSetting sets → All (λ (set : NamedSet). IsGiven set.given) sets
sets_fit [] h = λ k d l. absurd (omega arith)
sets_fit (set ∷ sets) h = All-cons (λ (set : NamedSet). IsGiven set.given) set sets (given_fits set.given h.0.1) (sets_fit sets h.1)

at_fits : (at : Option Point) → shape.IsAtPoint at → IfSome at (λ p. (unsigned_abs p.x ≤ READ_LIMIT) × (unsigned_abs p.y ≤ READ_LIMIT))
at_fits None h = tt
at_fits (Some p) h = h

change_fits : (place : Place) (sets : List NamedSet) → shape.IsChange place sets → AreGiven place sets
change_fits place sets h = record { at = at_fits place.at h.at; settings = sets_fit sets h.settings }

error_fits : (e : ℤ) → IsUnsigned RADIUS_LIMIT e → unsigned_abs e ≤ RADIUS_LIMIT
error_fits (pos n) h = h
error_fits (negsuc n) h = absurd h

pub is_ready : (c : CommandTree) → IsPrintable c → IsReadyCommand c
is_ready (Tree.Class name capacity point attributes) h = (h.1.1.0.0, h.1.1.0.1, h.1.1.1.1.few)
is_ready (Tree.Region name points) h = h.1.1.count
is_ready (Tree.Insert class name place sets) h = change_fits place sets h.1.1.1
is_ready (Tree.Update name place sets) h = change_fits place sets h.1.1
is_ready (Tree.Tick ticks) h = h.1.1
is_ready (Tree.Ask span q) h = (h.1.0.1, h.1.1.lawful)
is_ready (Tree.Watch name span q) h = (h.1.1.0.1, h.1.1.1.lawful)
is_ready (Tree.Keep name span q) h = (h.1.1.0.1, h.1.1.1.lawful)
is_ready (Tree.Nearest span k object class) h = h.1.0.1
is_ready (Tree.Must error span q) h = (error_fits error h.1.0, h.1.1.0.1, h.1.1.1.lawful)
is_ready (Tree.May error span q) h = (error_fits error h.1.0, h.1.1.0.1, h.1.1.1.lawful)
is_ready c h = tt
