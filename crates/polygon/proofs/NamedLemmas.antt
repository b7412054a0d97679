-- What a map of polygons by name tells of the regions.
use Rattle.std.proofs.Common.{◌≡◌, ℕ, suc, ◌+◌, false, not, cond, is_some, take, ◌-◌, Option, None, Some, List, [], ◌∷◌, ◌++◌, length, refl, ap, sym, ◌∙◌, slice_get, position}
use Rattle.std.specs.Prelude.{nat_lt}
use Rattle.std.proofs.lemmas.List.{map-append, take-map}
use Rattle.std.specs.List.{position_or_len, IsDistinct}
use Rattle.std.specs.Cmp.Lexicographic.{nat_list_eq_equiv}
use Rattle.indexmap.proofs.MapLemmas.{index-first, some_index}
use Rattle.indexmap.proofs.RemoveLemmas.{own_first}
use Rattle.std.specs.Map.{keys_of, lookup}
use Rattle.std.specs.Str.{bytes_eq}
use Rattle.fixed_point.specs.declared.number.Point.{Point}
use Rattle.geometry.specs.Region.{Region, region_number}
use Rattle.polygon.specs.Named.{named_regions}

place_of : (name : List ℕ) (es : List (List ℕ × List Point)) → position_or_len (λ (r : Region). bytes_eq name r.name) (named_regions es) ≡ position_or_len (bytes_eq name) (keys_of es)
place_of name [] = refl
place_of name (e ∷ es) = ap (λ n. cond (not (bytes_eq name e.0)) (1 + n) 0) (place_of name es)

map_length : (es : List (List ℕ × List Point)) → length (named_regions es) ≡ length es
map_length [] = refl
map_length (e ∷ es) = ap suc (map_length es)

count_of : (es : List (List ℕ × List Point)) → length (named_regions es) ≡ length (keys_of es)
count_of [] = refl
count_of (e ∷ es) = ap suc (count_of es)

-- a region has the number that the place of its name is
number_is_place : (name : List ℕ) (es : List (List ℕ × List Point)) → region_number (named_regions es) name ≡ position (bytes_eq name) (keys_of es)
number_is_place name es = λ i. cond (nat_lt (place_of name es i) (count_of es i)) (Some (place_of name es i)) None

pub number_found : (name : List ℕ) (es : List (List ℕ × List Point)) (regions : List Region) (r : Option ℕ) → named_regions es ≡ regions → r ≡ position (bytes_eq name) (keys_of es) → r ≡ region_number regions name
number_found name es regions r e f = f ∙ sym (number_is_place name es) ∙ ap (λ rs. region_number rs name) e

is_none : (o : Option (List Point)) → is_some o ≡ false → o ≡ None
is_none None h = refl
is_none (Some x) h = cc

-- a name without a number is not in the map
pub name_is_new : (name : List ℕ) (es : List (List ℕ × List Point)) (regions : List Region) → named_regions es ≡ regions → region_number regions name ≡ None → lookup (bytes_eq name) es ≡ None
name_is_new name es regions e h =
    is_none (lookup (bytes_eq name) es)
    (sym (some_index (bytes_eq name) es) ∙ ap is_some (sym (number_is_place name es) ∙ ap (λ rs. region_number rs name) e ∙ h))

pub region_added : (es fs : List (List ℕ × List Point)) (regions : List Region) (name : List ℕ) (points : List Point) → named_regions es ≡ regions → fs ≡ es ++ (name, points) ∷ []
    → named_regions fs ≡ regions ++ record { name = name; points = points } ∷ []
region_added es fs regions name points e f =
    ap named_regions f ∙ map-append (λ (e : List ℕ × List Point). let r : Region = record { name = e.0; points = e.1 } in r) es ((name, points) ∷ [])
    ∙ ap (λ rs. rs ++ record { name = name; points = points } ∷ []) e

pub region_removed : (es fs : List (List ℕ × List Point)) (regions : List Region) (n : ℕ) → named_regions es ≡ regions → fs ≡ take n es → n ≡ length es - 1 → named_regions fs ≡ take (length regions - 1) regions
region_removed es fs regions n e f last =
    let same : n ≡ length regions - 1 = last ∙ ap (λ m. m - 1) (sym (map_length es) ∙ ap length e) in
    ap named_regions f ∙ sym (take-map (λ (e : List ℕ × List Point). let r : Region = record { name = e.0; points = e.1 } in r) n es)
    ∙ (λ i. take (same i) (e i))

-- the region of a name has the place of its name, which no other has
pub own_number : (es : List (List ℕ × List Point)) (regions : List Region) (k : ℕ) (name : List ℕ) (points : List Point) → named_regions es ≡ regions → IsDistinct bytes_eq (keys_of es) → slice_get es k ≡ Some (name, points) → region_number regions name ≡ Some k
own_number es regions k name points e unique at =
    ap (λ rs. region_number rs name) (sym e)
    ∙ number_is_place name es ∙ index-first (bytes_eq name) es k (own_first bytes_eq nat_list_eq_equiv es k name points unique at)
