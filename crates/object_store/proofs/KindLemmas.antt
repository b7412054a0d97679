-- Writes keep the kinds of cells.
use Rattle.std.proofs.Common.{◌≡◌, ℕ, zero, suc, Bool, true, false, Option, None, Some, List, [], ◌∷◌, ◌++◌, map, refl, sym, ap, subst, ◌∙◌, arith, if◌then◌else◌}
use Rattle.std.specs.Prelude.{All, option_and_then, option_map, nat_le, nat_lt}
use Rattle.std.specs.List.{fold, filter}
use Rattle.std.specs.Option.{ForSome}
use Rattle.std.specs.Str.{bytes_eq}
use Rattle.std.proofs.lemmas.List.Elements.{All-push, All-filter}
use Rattle.std.proofs.lemmas.Option.{same_Some, none-some}
use Rattle.motion.specs.declared.cell.AttrKind.{AttrKind}
use Rattle.motion.specs.declared.cell.AttrKind.TheVariants as kinds
use Rattle.motion.specs.declared.cell.Cell.{Cell}
use Rattle.motion.specs.declared.cell.Cell.TheVariants as cells
use Rattle.motion.specs.declared.cell.Given.{Given}
use Rattle.motion.specs.declared.cell.Given.TheVariants as givens
use Rattle.motion.specs.declared.cell.NamedSet.{NamedSet}
use Rattle.motion.specs.declared.cell.Place.{Place}
use Rattle.motion.specs.Cells.{fresh, written, set_named, place_sets, kind_of}
use Rattle.motion.specs.Timeline.{Epoch, put, epoch_at, state_at}
use Rattle.history.specs.Write.{Attribute}
use Rattle.history.specs.State.{attribute_names, inserted, updated}
use Rattle.object_store.specs.Sound.{AreCellsOf, AreEpochsOf}

written_kind : (s : ℕ) (cell : Cell) (given : Given) → kind_of (written s cell given) ≡ kind_of cell
written_kind s (cells.Num n) (givens.Num m) = refl
written_kind s (cells.Num n) (givens.Text w) = refl
written_kind s (cells.Num n) (givens.Rate f) = refl
written_kind s (cells.Num n) (givens.Both m f) = refl
written_kind s (cells.Text v) (givens.Num m) = refl
written_kind s (cells.Text v) (givens.Text w) = refl
written_kind s (cells.Text v) (givens.Rate f) = refl
written_kind s (cells.Text v) (givens.Both m f) = refl
written_kind s (cells.Dyn v) (givens.Num m) = refl
written_kind s (cells.Dyn v) (givens.Text w) = refl
written_kind s (cells.Dyn v) (givens.Rate f) = refl
written_kind s (cells.Dyn v) (givens.Both m f) = refl

fresh_kind : (s : ℕ) (kind : AttrKind) → kind_of (fresh s kind) ≡ kind
fresh_kind s kinds.Num = refl
fresh_kind s kinds.Text = refl
fresh_kind s kinds.Dyn = refl

named_kinds : (b : Bool) (s : ℕ) (cell : Cell) (given : Given) (rest later : List Cell) → map kind_of later ≡ map kind_of rest → map kind_of (if b then (written s cell given ∷ rest) else (cell ∷ later)) ≡ kind_of cell ∷ map kind_of rest
named_kinds true s cell given rest later same = ap (λ k. k ∷ map kind_of rest) (written_kind s cell given)
named_kinds false s cell given rest later same = ap (λ ks. kind_of cell ∷ ks) same

kinds-set_named : (s : ℕ) (names : List (List ℕ)) (cs : List Cell) (set : NamedSet) → map kind_of (set_named s names cs set) ≡ map kind_of cs
kinds-set_named s [] cs set = refl
kinds-set_named s (name ∷ names) [] set = refl
kinds-set_named s (name ∷ names) (cell ∷ cs) set =
    named_kinds (bytes_eq name set.name) s cell set.given cs (set_named s names cs set) (kinds-set_named s names cs set)

kinds-sets : (s : ℕ) (names : List (List ℕ)) (sets : List NamedSet) (cs : List Cell) → map kind_of (fold (set_named s names) cs sets) ≡ map kind_of cs
kinds-sets s names [] cs = refl
kinds-sets s names (set ∷ sets) cs = kinds-sets s names sets (set_named s names cs set) ∙ kinds-set_named s names cs set

kinds-fresh : (s : ℕ) (attributes : List Attribute) → map kind_of (map (λ a. fresh s a.kind) attributes) ≡ map (λ a. a.kind) attributes
kinds-fresh s [] = refl
kinds-fresh s (a ∷ attributes) =
    ap (λ k. k ∷ map kind_of (map (λ a. fresh s a.kind) attributes)) (fresh_kind s a.kind) ∙ ap (λ ks. a.kind ∷ ks) (kinds-fresh s attributes)

pub AreCellsOf-inserted : (now : ℕ) (attributes : List Attribute) (place : Place) (sets : List NamedSet) → AreCellsOf attributes (inserted now attributes place sets)
AreCellsOf-inserted now attributes place sets =
    kinds-sets now (attribute_names attributes) (place_sets place ++ sets) (map (λ a. fresh now a.kind) attributes) ∙ kinds-fresh now attributes

AreCellsOf-updated : (now : ℕ) (attributes : List Attribute) (place : Place) (sets : List NamedSet) (cs : List Cell) → AreCellsOf attributes cs → AreCellsOf attributes (updated now attributes place sets cs)
AreCellsOf-updated now attributes place sets cs fit = kinds-sets now (attribute_names attributes) (place_sets place ++ sets) cs ∙ fit

-- the cells of an epoch, where the object is present
abbrev pub FitsIn : List Attribute → Option (List Cell) → Type 0
FitsIn attributes cs = ForSome cs (AreCellsOf attributes)

found_fits : (attributes : List Attribute) (t : ℕ) (epochs : List Epoch) (found : Option Epoch) → ForSome found (λ p. FitsIn attributes p.cells) → AreEpochsOf attributes epochs → ForSome (fold (λ found p. if nat_le p.from t then Some p else found) found epochs) (λ p. FitsIn attributes p.cells)
found_fits attributes t [] found fits all = fits
found_fits attributes t (q ∷ epochs) found fits all =
    found_fits attributes t epochs (if nat_le q.from t then Some q else found) (either (nat_le q.from t) q found (all 0 q (omega arith)) fits) (λ k d l. all (suc k) d (omega arith))
  where
    either : (b : Bool) (q : Epoch) (found : Option Epoch) → FitsIn attributes q.cells → ForSome found (λ p. FitsIn attributes p.cells) → ForSome (if b then Some q else found) (λ p. FitsIn attributes p.cells)
    either true q found here before p is = subst (λ (p : Epoch). FitsIn attributes p.cells) (same_Some q p is) here
    either false q found here before p is = before p is

none_fits : (attributes : List Attribute) → ForSome None (λ (p : Epoch). FitsIn attributes p.cells)
none_fits attributes p is = absurd (none-some p is)

state_of_found : (attributes : List Attribute) (found : Option Epoch) → ForSome found (λ p. FitsIn attributes p.cells) → FitsIn attributes (option_and_then (λ p. p.cells) found)
state_of_found attributes None fits cs is = absurd (none-some cs is)
state_of_found attributes (Some p) fits cs is = fits p refl cs is

-- the state at a tick fits as the epochs do
pub state_fits : (attributes : List Attribute) (epochs : List Epoch) (t : ℕ) → AreEpochsOf attributes epochs → FitsIn attributes (state_at epochs t)
state_fits attributes epochs t all = state_of_found attributes (epoch_at epochs t) (found_fits attributes t epochs None (none_fits attributes) all)

pub updated_fits : (now : ℕ) (attributes : List Attribute) (place : Place) (sets : List NamedSet) (before : Option (List Cell)) → FitsIn attributes before → FitsIn attributes (option_map (updated now attributes place sets) before)
updated_fits now attributes place sets None fits cs is = absurd (none-some cs is)
updated_fits now attributes place sets (Some old) fits cs is =
    subst (AreCellsOf attributes) (same_Some (updated now attributes place sets old) cs is) (AreCellsOf-updated now attributes place sets old (fits old refl))

-- epochs go on fitting after one more
pub put_fits : (attributes : List Attribute) (epochs : List Epoch) (p : Epoch) → AreEpochsOf attributes epochs → FitsIn attributes p.cells → AreEpochsOf attributes (put epochs p)
put_fits attributes epochs p all fits =
    All-push (λ (p : Epoch). FitsIn attributes p.cells) (filter (λ q. nat_lt q.from p.from) epochs) p
    (All-filter (λ q. nat_lt q.from p.from) (λ (p : Epoch). FitsIn attributes p.cells) epochs all) fits
