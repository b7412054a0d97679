-- Writes to cells, by index and by name.
use Rattle.std.proofs.Common.{◌≡◌, ℕ, zero, suc, ◌+◌, ◌<◌, ◌≤◌, Bool, true, false, cond, Option, None, Some, List, [], ◌∷◌, ◌++◌, map, length, set, get_or, take, drop, refl, sym, ap, ◌∙◌, arith, if◌then◌else◌, All}
use Rattle.std.specs.Prelude.{option_map, codes}
use Rattle.std.specs.List.{fold, filter_map, cons_option, position}
use Rattle.std.specs.Option.{option_map_or}
use Rattle.std.specs.Str.{bytes_eq}
use Rattle.motion.specs.declared.cell.Cell.{Cell}
use Rattle.motion.specs.declared.cell.Given.{Given}
use Rattle.motion.specs.declared.cell.NamedSet.{NamedSet}
use Rattle.motion.specs.declared.cell.Place.{Place}
use Rattle.motion.specs.Cells.{fresh, set_at, set_named, written, changed, place_sets, setting_of, given_of, cells_after, IsGiven}
use Rattle.history.specs.Write.{Attribute}
use Rattle.history.specs.Catalog.{coordinates}
use Rattle.history.specs.State.{attribute_names, inserted, updated}
use Rattle.object_store.specs.Changes.{fresh_cells, setting_change, setting_changes}
use Rattle.std.proofs.lemmas.List.{map-append, take-append-drop, take_more}
use Rattle.object_store.proofs.Lists.{index_in, index_is}
use Rattle.exact.proofs.Items.{bytes_eq_swap}

-- the cells after a write at the index where a name is found
abbrev set_found : ℕ → List Cell → Given → Option ℕ → List Cell
set_found now cells given index = option_map_or (λ i. set_at now cells i given) index cells

named_step : (now : ℕ) (b : Bool) (cell : Cell) (cells : List Cell) (given : Given) (r : Option ℕ) → (if b then (written now cell given ∷ cells) else (cell ∷ set_found now cells given r)) ≡ set_found now (cell ∷ cells) given (cond b (Some 0) (option_map suc r))
named_step now true cell cells given r = refl
named_step now false cell cells given None = refl
named_step now false cell cells given (Some i) = refl

past_none : (now : ℕ) (given : Given) (r : Option ℕ) → [] ≡ set_found now [] given r
past_none now given None = refl
past_none now given (Some i) = refl

-- a write by name is a write at the first index of that name
set_named-index : (now : ℕ) (attributes : List Attribute) (cells : List Cell) (s : NamedSet) → set_named now (attribute_names attributes) cells s ≡ set_found now cells s.given (index_in (λ a. bytes_eq s.name a.name) attributes)
set_named-index now [] cells s = refl
set_named-index now (a ∷ attributes) [] s = past_none now s.given (index_in (λ a. bytes_eq s.name a.name) (a ∷ attributes))
set_named-index now (a ∷ attributes) (cell ∷ cells) s =
    ap (λ b. if b then (written now cell s.given ∷ cells) else (cell ∷ set_named now (attribute_names attributes) cells s)) (bytes_eq_swap a.name s.name)
    ∙ ap (λ rest. if bytes_eq s.name a.name then (written now cell s.given ∷ cells) else (cell ∷ rest)) (set_named-index now attributes cells s)
    ∙ named_step now (bytes_eq s.name a.name) cell cells s.given (index_in (λ a. bytes_eq s.name a.name) attributes)

change_step : (now : ℕ) (cells : List Cell) (given : Given) (r : Option ℕ) (rest : List (ℕ × Given)) → changed now rest (set_found now cells given r) ≡ changed now (cons_option (option_map (λ index. (index, given)) r) rest) cells
change_step now cells given None rest = refl
change_step now cells given (Some i) rest = refl

-- so the writes of a command can be done by index
pub changed-cells : (now : ℕ) (attributes : List Attribute) (sets : List NamedSet) (cells : List Cell) → changed now (setting_changes attributes sets) cells ≡ fold (set_named now (attribute_names attributes)) cells sets
changed-cells now attributes [] cells = refl
changed-cells now attributes (s ∷ sets) cells =
    sym (change_step now cells s.given (position (λ a. bytes_eq s.name a.name) attributes) (setting_changes attributes sets))
    ∙ ap (λ cs. changed now (setting_changes attributes sets) cs) (ap (set_found now cells s.given) (index_is (λ a. bytes_eq s.name a.name) attributes) ∙ sym (set_named-index now attributes cells s))
    ∙ changed-cells now attributes sets (set_named now (attribute_names attributes) cells s)

pub changed-inserted : (now : ℕ) (attributes : List Attribute) (place : Place) (sets : List NamedSet) → changed now (setting_changes attributes (place_sets place ++ sets)) (fresh_cells now attributes) ≡ inserted now attributes place sets
changed-inserted now attributes place sets = changed-cells now attributes (place_sets place ++ sets) (fresh_cells now attributes)

-- ---- a point class begins with x and y

x_at : (rest : List Attribute) → position (λ a. bytes_eq (codes "x") a.name) (coordinates ++ rest) ≡ Some 0
x_at rest = index_is (λ (a : Attribute). bytes_eq (codes "x") a.name) (coordinates ++ rest)

y_at : (rest : List Attribute) → position (λ a. bytes_eq (codes "y") a.name) (coordinates ++ rest) ≡ Some 1
y_at rest = index_is (λ (a : Attribute). bytes_eq (codes "y") a.name) (coordinates ++ rest)

-- changes of x and y, where something is given for them
abbrev given_both : Option Given → Option Given → List (ℕ × Given)
given_both x y =
    cons_option (option_map (λ given. (0, given)) x) (cons_option (option_map (λ given. (1, given)) y) [])

both_named : (rest : List Attribute) (x y : Option Given) → setting_changes (coordinates ++ rest) (setting_of (codes "x") x ++ setting_of (codes "y") y) ≡ given_both x y
both_named rest None None = refl
both_named rest (Some x) None = ap (λ r. cons_option (option_map (λ index. (index, x)) r) []) (x_at rest)
both_named rest None (Some y) = ap (λ r. cons_option (option_map (λ index. (index, y)) r) []) (y_at rest)
both_named rest (Some x) (Some y) = λ i.
    cons_option (option_map (λ index. (index, x)) (x_at rest i)) (cons_option (option_map (λ index. (index, y)) (y_at rest i)) [])

-- what a place gives is written to the first two attributes
pub placed_both : (attributes : List Attribute) (place : Place) → take 2 attributes ≡ coordinates
    → setting_changes attributes (place_sets place) ≡ setting_changes coordinates (place_sets place)
placed_both attributes place first =
    let x = given_of (option_map (λ p. p.x) place.at) (option_map (λ m. m.0) place.moving) in
    let y = given_of (option_map (λ p. p.y) place.at) (option_map (λ m. m.1) place.moving) in
    ap (λ attributes. setting_changes attributes (place_sets place)) (sym (take-append-drop 2 attributes) ∙ ap (λ front. front ++ drop 2 attributes) first)
    ∙ both_named (drop 2 attributes) x y
    ∙ sym (both_named [] x y)

-- the cells of a class, as far as the code has come
pub fresh_more : (now : ℕ) (attributes : List Attribute) (i : ℕ) (d : Attribute) → i < length attributes → fresh_cells now (take (i + 1) attributes) ≡ fresh_cells now (take i attributes) ++ fresh now (get_or attributes i d).kind ∷ []
fresh_more now attributes i d within =
    ap (fresh_cells now) (take_more attributes i d within) ∙ map-append (λ (a : Attribute). fresh now a.kind) (take i attributes) (get_or attributes i d ∷ [])
