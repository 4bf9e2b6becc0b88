-- The values of new objects.
use Rattle.std.specs.Prelude.{ℕ, suc, ◌+◌, ◌-◌, List, [], ◌∷◌, ◌++◌, map, replicate}
use Rattle.pm_vector.specs.Numbers.{Ratio}
use Rattle.pm_files.specs.Files.{SavedFile}
use Rattle.pm_fraction.specs.Matrices.{FractionMatrix}
use Rattle.pm_object.specs.State.{State}
use Rattle.pm_object_type.specs.declared.object_type.ObjectType.TheVariants.{Polytope}
use Rattle.pm_props.specs.declared.property.PropId.{PropId}
use Rattle.pm_props.specs.declared.property.PropId.TheVariants.{AffineHull, Equations, Facets, Inequalities, InputLineality, LinealitySpace, Points, Vertices}
use Rattle.pm_types.specs.Values.{PropertyValue, matrix}
use Rattle.pm_types.specs.Views.{over_one, ratios}
use Rattle.pm_object.specs.Known.{cols_at, rows_at}
use Rattle.pm_types.specs.Parts.{value_over}
use Rattle.pm_build.specs.Rows.{apex_row, curve_points, headed_rows, opposite_units, simplex_corners}
use lib.IntN.{pos}

-- a polytope with these values, all of them given
abbrev pub polytope_with : List (PropId × PropertyValue) → SavedFile
polytope_with values = record {
  of = Polytope;
  values = values;
  stored = 0;
  failed = [];
  programs = [];
  ignored = [];
}

-- the matrix, and these rows below its own
abbrev pub put_below : FractionMatrix → List (List Ratio) → FractionMatrix
put_below m rows = record { cols = m.cols; rows = m.rows ++ rows }

-- ---- standard polytopes
-- 1 + x_i >= 0 and 1 - x_i >= 0
abbrev pub cube_of : ℕ → SavedFile
cube_of d = polytope_with ((Inequalities, value_over (suc d) (headed_rows (opposite_units d d))) ∷ [])

-- 0 and the unit vectors, as points
abbrev pub simplex_of : ℕ → SavedFile
simplex_of d = polytope_with ((Points, value_over (suc d) (headed_rows (simplex_corners d))) ∷ [])

-- the unit vectors and their opposites, as points
abbrev pub cross_of : ℕ → SavedFile
cross_of d = polytope_with ((Points, value_over (suc d) (headed_rows (opposite_units d d))) ∷ [])

-- the points at 1, .., n of the moment curve
abbrev pub cyclic_of : ℕ → ℕ → SavedFile
cyclic_of d n = polytope_with ((Points, value_over (suc d) (headed_rows (curve_points d n))) ∷ [])

-- ---- polytopes of others
abbrev pub zeros : ℕ → List Ratio
zeros k = replicate k (over_one (pos 0))

-- the row, and k zeros behind it
abbrev pub padded : ℕ → List Ratio → List Ratio
padded k r = r ++ zeros k

-- the row with k zeros behind its first entry
abbrev pub spread : ℕ → List Ratio → List Ratio
spread k [] = []
spread k (q ∷ r) = q ∷ zeros k ++ r

-- the facet rows as points
abbrev pub polar_of : State → SavedFile
polar_of o = polytope_with ((Points, value_over (cols_at o) (rows_at Facets o)) ∷ [])

-- the columns of a product: one first column, and the others of both
abbrev pub product_cols : State → State → ℕ
product_cols a b = cols_at a + cols_at b - 1

-- rows of the property of both, those of a in its columns, those of b in the first column and its own
abbrev pub both_rows : PropId → State → State → List (List Ratio)
both_rows p a b = map (padded (cols_at b - 1)) (rows_at p a) ++ map (spread (cols_at a - 1)) (rows_at p b)

-- the facet rows of both and the rows of both affine hulls, in the columns of the product
abbrev pub product_of : State → State → SavedFile
product_of a b = polytope_with
    ((Inequalities, value_over (product_cols a b) (both_rows Facets a b))
    ∷ (Equations, value_over (product_cols a b) (both_rows AffineHull a b)) ∷ [])

-- the vertices in one column more, and the apex
abbrev pub pyramid_points : State → List (List Ratio)
pyramid_points o = map (padded 1) (rows_at Vertices o) ++ ratios (apex_row (cols_at o)) ∷ []

-- the lineality in one column more
abbrev pub pyramid_lines : State → List (List Ratio)
pyramid_lines o = map (padded 1) (rows_at LinealitySpace o)

-- the vertices and the apex as points, and the lineality
abbrev pub pyramid_of : State → SavedFile
pyramid_of o = polytope_with
    ((Points, value_over (suc (cols_at o)) (pyramid_points o))
    ∷ (InputLineality, value_over (suc (cols_at o)) (pyramid_lines o)) ∷ [])
