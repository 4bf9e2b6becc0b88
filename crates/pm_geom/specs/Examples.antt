-- The definitions read on small things: what holds of them, and what does not.
use Rattle.std.specs.Prelude.{ℕ, ◌≡◌, ◌↔◌, List, [], ◌∷◌, length}
use Rattle.std.specs.List.{All}
use Rattle.pm_vector.specs.Rows.{Row}
use Rattle.pm_vector.specs.Cones.{InCone, InSpan}
use Rattle.pm_geom.specs.Cones.{CutOut, IsValid, Vanishes, IsExtremeRay, IsFacetRow, IsOrder}
use Rattle.pm_geom.specs.Things.{IsPolytopeThing}
use lib.IntN.{pos, negsuc}

-- the row (a,b)
abbrev pub pair : ℕ → ℕ → Row
pair a b = pos a ∷ pos b ∷ []

-- the row (a,b,c)
abbrev pub triple : ℕ → ℕ → ℕ → Row
triple a b c = pos a ∷ pos b ∷ pos c ∷ []

-- the unit square, with vertices (1,0,0), (1,0,1), (1,1,0), (1,1,1)
abbrev pub square : List Row
square = triple 1 0 0 ∷ triple 1 0 1 ∷ triple 1 1 0 ∷ triple 1 1 1 ∷ []

-- the edges x1 >= 0, x2 >= 0, x2 <= 1, x1 <= 1
abbrev pub edges : List Row
edges = triple 0 1 0 ∷ triple 0 0 1 ∷ (pos 1 ∷ pos 0 ∷ negsuc 0 ∷ []) ∷ (pos 1 ∷ negsuc 0 ∷ pos 0 ∷ []) ∷ []

-- each vertex is an extreme ray, and the midpoint is none; an edge's row is a facet row, and the sum of two edges'
-- rows is none; the four vertices are an order, and three of them are none
pub record SquareIsRead : Type 0 where
  pub polytope : IsPolytopeThing 3 square []
  pub vertices : All (IsExtremeRay 3 square []) square
  pub midpoint : ¬ (IsExtremeRay 3 square [] (triple 2 1 1))
  pub edge : IsFacetRow 3 square [] (triple 0 1 0)
  pub corner : ¬ (IsFacetRow 3 square [] (triple 0 1 1))
  pub order : IsOrder 3 (InCone square []) square
  pub three : ¬ (IsOrder 3 (InCone square []) (triple 1 0 0 ∷ triple 1 0 1 ∷ triple 1 1 0 ∷ []))
  pub facets : IsOrder 3 (IsValid 3 square []) edges

-- the half line x1 >= 0, with the ray (0,1) and the vertex (1,0)
abbrev pub half_line : List Row
half_line = pair 0 1 ∷ pair 1 0 ∷ []

-- the rows (0,1) and (1,0) cut out the half line; the extreme rays are (0,1) and (1,0), the facet rows (0,1) and
-- (1,0), the far face among them
pub record HalfLineIsRead : Type 0 where
  pub polytope : IsPolytopeThing 2 half_line []
  pub cut : (x : Row) → length x ≡ 2 → InCone half_line [] x ↔ CutOut (pair 0 1 ∷ pair 1 0 ∷ []) x
  pub rays : IsOrder 2 (InCone half_line []) (pair 0 1 ∷ pair 1 0 ∷ [])
  pub facets : IsOrder 2 (IsValid 2 half_line []) (pair 0 1 ∷ pair 1 0 ∷ [])

-- the empty polytope, whose cone is {0}: no extreme ray, no facet row, and every row vanishes
pub record EmptyIsRead (n : ℕ) : Type 0 where
  pub polytope : IsPolytopeThing n [] []
  pub no_ray : (r : Row) → ¬ (IsExtremeRay n [] [] r)
  pub no_facet : (a : Row) → ¬ (IsFacetRow n [] [] a)
  pub vanish : (a : Row) → length a ≡ n → Vanishes n [] [] a

-- the line through (1,0,0) along (0,1,0) in the plane: one extreme ray modulo the lineality, and one facet row modulo
-- the rows that vanish, which (0,0,1) spans
pub record LineIsRead : Type 0 where
  pub polytope : IsPolytopeThing 3 (triple 1 0 0 ∷ []) (triple 0 1 0 ∷ [])
  pub rays : IsOrder 3 (InCone (triple 1 0 0 ∷ []) (triple 0 1 0 ∷ [])) (triple 1 0 0 ∷ [])
  pub facets : IsOrder 3 (IsValid 3 (triple 1 0 0 ∷ []) (triple 0 1 0 ∷ [])) (triple 1 0 0 ∷ [])
  pub vanish : (a : Row) → length a ≡ 3 → Vanishes 3 (triple 1 0 0 ∷ []) (triple 0 1 0 ∷ []) a
      ↔ InSpan (triple 0 0 1 ∷ []) a

-- the segment from 0 to 2
abbrev pub segment : List Row
segment = pair 1 0 ∷ pair 1 2 ∷ []

-- no order has one extreme ray twice, or a row that is not extreme; the midpoint of a segment is no extreme ray,
-- though only its double is a sum of two other whole rows; a ray without a vertex, and a cone with a negative first
-- entry, are over no polytope
pub record IsRefused : Type 0 where
  pub twice : ¬ (IsOrder 3 (InCone square []) (triple 2 0 0 ∷ square))
  pub with_midpoint : ¬ (IsOrder 3 (InCone square []) (triple 2 1 1 ∷ square))
  pub segment_midpoint : ¬ (IsExtremeRay 2 segment [] (pair 1 1))
  pub no_vertex : ¬ (IsPolytopeThing 2 (pair 0 1 ∷ []) [])
  pub behind : ¬ (IsPolytopeThing 2 (pair 1 0 ∷ (negsuc 0 ∷ pos 1 ∷ []) ∷ []) [])
