-- Named polygons. Regions are numbered from 0, in the order in which they were made.
use Rattle.std.specs.Prelude.{ℕ, Option, List, position}
use Rattle.std.specs.Str.{bytes_eq}
use Rattle.fixed_point.specs.declared.number.Point.{Point}

-- a region, by its points in the order given
pub record Region : Type 0 where
  pub name : List ℕ
  pub points : List Point

-- the number of the region of that name
abbrev pub region_number : List Region → List ℕ → Option ℕ
region_number regions name = position (λ r. bytes_eq name r.name) regions
