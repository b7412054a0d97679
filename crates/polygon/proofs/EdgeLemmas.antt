-- The edges of a list of points, from its front on.
use Rattle.std.proofs.Common.{◌≡◌, ℕ, suc, zero, Bool, true, ◌&&◌, ◌||◌, None, Some, List, [], ◌∷◌, slice_get, drop, refl, ap, ◌∙◌}
use Rattle.std.specs.Prelude.{unwrap_or}
use Rattle.std.specs.List.{list_all, list_any}
use Rattle.fixed_point.specs.declared.number.Point.{Point}
use Rattle.geometry.specs.Polygon.{edges, edges_back_to}

-- where the first edge ends, by the points after its beginning
abbrev pub end_of : Point → List Point → Point
end_of first later = unwrap_or (slice_get later 0) first

pub edges_step : (first start : Point) (later : List Point) → edges_back_to first (start ∷ later) ≡ (start, end_of first later) ∷ edges_back_to first later
edges_step first start [] = refl
edges_step first start (next ∷ rest) = refl

-- a test of each edge, and of some edge, from the first edge to the others
pub all_step : (f : Point × Point → Bool) (first start : Point) (rest later : List Point) → rest ≡ start ∷ later
    → list_all f (edges_back_to first rest) ≡ (f (start, end_of first later) && list_all f (edges_back_to first later))
all_step f first start rest later e = ap (λ r. list_all f (edges_back_to first r)) e ∙ ap (list_all f) (edges_step first start later)

pub any_step : (f : Point × Point → Bool) (first start : Point) (rest later : List Point) → rest ≡ start ∷ later
    → list_any f (edges_back_to first rest) ≡ (f (start, end_of first later) || list_any f (edges_back_to first later))
any_step f first start rest later e = ap (λ r. list_any f (edges_back_to first r)) e ∙ ap (list_any f) (edges_step first start later)

-- without points there is no edge
pub all_past : (f : Point × Point → Bool) (first : Point) (rest : List Point) → rest ≡ [] → list_all f (edges_back_to first rest) ≡ true
all_past f first rest e = ap (λ r. list_all f (edges_back_to first r)) e

-- the edges of a whole list go back to its first point
pub edges_from : (points : List Point) (first : Point) → slice_get points 0 ≡ Some first → edges points ≡ edges_back_to first points
edges_from [] first e = absurd (cc)
edges_from (p ∷ rest) first e = let same : p ≡ first = cc in ap (λ q. edges_back_to q (p ∷ rest)) same

-- the edge that begins at a point
pub edge_at : (first : Point) (points : List Point) (i : ℕ) (start : Point) → slice_get points i ≡ Some start → slice_get (edges_back_to first points) i ≡ Some (start, end_of first (drop (suc i) points))
edge_at first [] i start h = absurd (cc)
edge_at first (p ∷ rest) zero start h = let same : p ≡ start = cc in ap (λ es. slice_get es 0) (edges_step first p rest) ∙ ap (λ q. Some (q, end_of first rest)) same
edge_at first (p ∷ rest) (suc i) start h = ap (λ es. slice_get es (suc i)) (edges_step first p rest) ∙ edge_at first rest i start h

pub edge_past : (first : Point) (points : List Point) (i : ℕ) → slice_get points i ≡ None → slice_get (edges_back_to first points) i ≡ None
edge_past first [] i h = refl
edge_past first (p ∷ rest) zero h = absurd (cc)
edge_past first (p ∷ rest) (suc i) h = ap (λ es. slice_get es (suc i)) (edges_step first p rest) ∙ edge_past first rest i h
