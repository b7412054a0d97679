-- Parts of a relation: the rows that give its first variables certain objects.
use Rattle.std.specs.Prelude.{◌≡◌, ◌==◌, ℕ, Bool, false, ◌&&◌, ◌||◌, List, [], ◌∷◌, map, drop, length, if◌then◌else◌}
use Rattle.std.specs.List.{list_any}
use Rattle.std.specs.Str.{bytes_eq}
use Rattle.relation.specs.declared.row.Row.{Row}
use Rattle.relation.specs.declared.part.Part.{Part}
use Rattle.relation.specs.Rows.{AreRows}

-- whether a row has the tick whose key is, from a place on, this one
abbrev pub has_from : {S : Type 0} → (S → ℕ → Bool) → ℕ → List (Row S) → List ℕ → ℕ → Bool
has_from member place rows key t = list_any (λ r. bytes_eq (drop place r.key) key && member r.set t) rows

-- the rows of a part, which have the objects of its variables from its place on
abbrev pub IsRowPart : {S : Type 0} → (S → ℕ → Bool) → List (List ℕ) → ℕ → ℕ → Part S → Type 0
IsRowPart member domains lo hi p = AreRows member domains p.vars.now lo hi p.place p.rows.now

abbrev pub part_has : {S : Type 0} → (S → ℕ → Bool) → Part S → (ℕ → ℕ) → ℕ → Bool
part_has member p b t = has_from member p.place p.rows.now (map b p.vars.now) t

-- whether a variable is the first of a list, and the list after it
abbrev pub leads : ℕ → List ℕ → Bool
leads var [] = false
leads var (v ∷ vars) = v == var

abbrev pub vars_after : ℕ → List ℕ → List ℕ
vars_after var [] = []
vars_after var (v ∷ vars) = if v == var then vars else v ∷ vars

-- whether the rows of a part tell the objects that it gives a variable
abbrev pub offers : {S : Type 0} → ℕ → Part S → Bool
offers var p = leads var p.vars.now || length p.rows.now == 0

-- a part whose rows give the variable the object, where it is their next one
pub record IsFixed {S : Type 0} (member : S → ℕ → Bool) (domains : List (List ℕ)) (lo hi var id : ℕ) (p q : Part S) : Type 0 where
  pub rows : IsRowPart member domains lo hi q
  pub same : (b : ℕ → ℕ) → b var ≡ id → (t : ℕ) → part_has member q b t ≡ part_has member p b t
