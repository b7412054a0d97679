-- What a map of polygons by name tells of the regions.
use Rattle.std.specs.Prelude.{ℕ, ◌≤◌, List, map, length}
use Rattle.std.specs.List.{IsDistinct}
use Rattle.std.specs.Map.{keys_of}
use Rattle.std.specs.Str.{bytes_eq}
use Rattle.fixed_point.specs.declared.number.Point.{Point}
use Rattle.geometry.specs.Region.{Region}
use Rattle.polygon.specs.declared.named.TheConstants.{REGION_LIMIT}

abbrev pub named_regions : List (List ℕ × List Point) → List Region
named_regions entries = map (λ e. record { name = e.0; points = e.1 }) entries

-- the names differ, and there are not too many
pub record IsNamed (entries : List (List ℕ × List Point)) : Type 0 where
  pub distinct : IsDistinct bytes_eq (keys_of entries)
  pub few : length entries ≤ REGION_LIMIT
