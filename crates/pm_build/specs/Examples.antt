-- The definitions read on small numbers and small objects: what holds, and what does not.
use Rattle.std.specs.Prelude.{ℕ, ◌≡◌, ◌≢◌, Bool, true, false, List, [], ◌∷◌, None, Some, codes, ◌+◌}
use Rattle.pm_vector.specs.Rows.{Row}
use Rattle.pm_object.specs.State.{HeldValue, State, word_of}
use Rattle.pm_object.specs.declared.held.Origin.TheVariants.{Given}
use Rattle.pm_object_type.specs.declared.object_type.ObjectType.TheVariants.{Cone, Polytope}
use Rattle.pm_props.specs.declared.property.PropId.{PropId}
use Rattle.pm_props.specs.declared.property.PropId.TheVariants.{AffineHull, Bounded, Centered, ConeAmbientDim, Equations, Facets, FullDim, Inequalities, InputLineality, LinealitySpace, Points, Vertices}
use Rattle.pm_types.specs.Values.{PropertyValue, matrix, truth, whole}
use Rattle.pm_types.specs.Views.{ratios}
use Rattle.pm_build.specs.Conditions.{cyclic_refusal, polar_refusal, product_refusal, pyramid_refusal, shape_refusal}
use Rattle.pm_object.specs.Known.{cols_at, is_true, rows_at}
use Rattle.pm_types.specs.Parts.{value_over}
use Rattle.pm_build.specs.Objects.{both_rows, cross_of, cube_of, cyclic_of, padded, polar_of, polytope_with, product_of, put_below, pyramid_of, simplex_of, spread}
use Rattle.pm_build.specs.Rows.{apex_row, curve, curve_points, opposite_units, simplex_corners, unit, units}
use Rattle.pm_object.specs.declared.held.Condition.TheVariants as condition
use lib.IntN.{ℤ, pos, negsuc}
use Rattle.pm_limits.specs.Limits.{most_columns, most_dimensions, most_rows}

-- 1
abbrev pub one : ℤ
one = pos 1

-- 0
abbrev pub no : ℤ
no = pos 0

-- -1
abbrev pub minus : ℤ
minus = negsuc 0

-- the first entry of the first row
abbrev pub head_of : List Row → List ℤ
head_of [] = []
head_of (x ∷ X) = x

-- rows of standard polytopes
pub record RowsAreRead : Type 0 where
  -- places are counted from 0
  pub second : unit one 1 3 ≡ no ∷ one ∷ no ∷ []
  pub not_first : unit one 1 2 ≢ one ∷ no ∷ []
  pub opposed : unit minus 0 2 ≡ minus ∷ no ∷ []
  pub two_units : units 2 2 ≡ (one ∷ no ∷ []) ∷ (no ∷ one ∷ []) ∷ []
  -- each unit vector stands before its opposite
  pub pairs : opposite_units 2 2 ≡ (one ∷ no ∷ []) ∷ (minus ∷ no ∷ []) ∷ (no ∷ one ∷ []) ∷ (no ∷ minus ∷ [])
      ∷ []
  pub not_behind : head_of (opposite_units 1 1) ≢ minus ∷ []
  pub no_dimension : opposite_units 0 0 ≡ []
  -- a simplex has 0 as its first corner
  pub corners : simplex_corners 2 ≡ (no ∷ no ∷ []) ∷ (one ∷ no ∷ []) ∷ (no ∷ one ∷ []) ∷ []
  pub not_without_nought : head_of (simplex_corners 1) ≢ one ∷ []
  -- a curve begins with its first power, and its points with that at 1
  pub powers : curve 2 3 ≡ pos 2 ∷ pos 4 ∷ pos 8 ∷ []
  pub no_first_power : curve 2 2 ≢ one ∷ pos 2 ∷ []
  pub points : curve_points 2 2 ≡ (one ∷ one ∷ []) ∷ (pos 2 ∷ pos 4 ∷ []) ∷ []
  pub not_from_nought : head_of (curve_points 1 2) ≢ no ∷ []
  -- the apex lies in the last column
  pub apex : apex_row 2 ≡ one ∷ no ∷ one ∷ []
  pub not_in_the_base : apex_row 2 ≢ one ∷ no ∷ no ∷ []

-- a given value of the object
abbrev pub held : PropId → PropertyValue → HeldValue
held p v = record { place = None; property = p; value = v; origin = Given }

-- the segment from -1 to 1, with what is read of it
abbrev pub segment_with : Bool → Bool → Bool → State
segment_with bounded full centered = record {
  of = Polytope;
  held = held ConeAmbientDim (whole (pos 2)) ∷ held Bounded (truth bounded) ∷ held FullDim (truth full)
      ∷ held Centered (truth centered)
      ∷ held Facets (matrix 2 (ratios (one ∷ one ∷ []) ∷ ratios (one ∷ minus ∷ []) ∷ []))
      ∷ held AffineHull (matrix 0 []) ∷ held Vertices
      (matrix 2 (ratios (one ∷ minus ∷ []) ∷ ratios (one ∷ one ∷ []) ∷ []))
      ∷ held LinealitySpace (matrix 0 []) ∷ [];
  excluded = [];
  rounds = [];
  disabled = [];
  programs = [];
}

-- the segment, for which all conditions hold
abbrev pub segment : State
segment = segment_with true true true

-- facets that contradict CENTERED
abbrev pub contradiction : State
contradiction =
    record segment {
      held = held Bounded (truth true) ∷ held FullDim (truth true)
          ∷ held Centered (truth true) ∷ held Facets (matrix 2 (ratios (minus ∷ one ∷ []) ∷ [])) ∷ [];
    }

-- a polytope of so many columns
abbrev pub wide : ℕ → State
wide n = record segment { held = held ConeAmbientDim (whole (pos n)) ∷ [] }

-- sizes that are built, what is read, and the condition that is named
pub record ConditionsAreRead : Type 0 where
  pub words : word_of condition.OfType ≡ codes "type"
  -- 32 dimensions, and no more
  pub most : shape_refusal most_dimensions ≡ None
  pub too_many : shape_refusal most_columns ≡ Some condition.Size
  pub triangle : cyclic_refusal 2 3 ≡ None
  pub few_points : cyclic_refusal 2 2 ≡ Some condition.Size
  pub many_points : cyclic_refusal 1 most_rows ≡ None
  pub too_many_points : cyclic_refusal 1 (most_rows + 1) ≡ Some condition.Size
  pub high_power : cyclic_refusal 25 33 ≡ None
  pub too_high : cyclic_refusal 25 34 ≡ Some condition.Size
  -- what is read
  pub true' : is_true Bounded segment ≡ true
  pub untrue : is_true Bounded (segment_with false true true) ≡ false
  pub not_held : is_true Bounded (wide 2) ≡ false
  pub columns : cols_at segment ≡ 2
  pub facets : rows_at Facets segment ≡ ratios (one ∷ one ∷ []) ∷ ratios (one ∷ minus ∷ []) ∷ []
  pub none : rows_at Facets (wide 2) ≡ []
  -- the first condition that fails
  pub fits : polar_refusal segment ≡ None
  pub of_type : polar_refusal (record segment { of = Cone }) ≡ Some condition.OfType
  pub bounded_first : polar_refusal (segment_with false false false) ≡ Some condition.Bounded
  pub then_full : polar_refusal (segment_with true false false) ≡ Some condition.FullDim
  pub then_centered : polar_refusal (segment_with true true false) ≡ Some condition.Centered
  pub last : polar_refusal contradiction ≡ Some condition.Rows
  pub of_types : product_refusal segment (record segment { of = Cone }) ≡ Some condition.OfType
  pub both : product_refusal segment segment ≡ None
  pub widest : product_refusal (wide 2) (wide most_dimensions) ≡ None
  pub too_wide : product_refusal (wide 2) (wide most_columns) ≡ Some condition.Columns
  pub with_room : pyramid_refusal (wide most_dimensions) ≡ None
  pub without_room : pyramid_refusal (wide most_columns) ≡ Some condition.Columns

-- the values of new objects
pub record ObjectsAreRead : Type 0 where
  -- no row, no columns
  pub no_rows : value_over 3 [] ≡ matrix 0 []
  pub some_rows : value_over 1 (ratios (one ∷ []) ∷ []) ≡ matrix 1 (ratios (one ∷ []) ∷ [])
  pub behind : padded 2 (ratios (one ∷ minus ∷ [])) ≡ ratios (one ∷ minus ∷ no ∷ no ∷ [])
  pub between : spread 2 (ratios (one ∷ minus ∷ [])) ≡ ratios (one ∷ no ∷ no ∷ minus ∷ [])
  pub below : put_below (record { cols = 1; rows = ratios (one ∷ []) ∷ [] }) (ratios (no ∷ []) ∷ [])
      ≡ record { cols = 1; rows = ratios (one ∷ []) ∷ ratios (no ∷ []) ∷ [] }
  pub square_rows : both_rows Facets segment segment
      ≡ ratios (one ∷ one ∷ no ∷ []) ∷ ratios (one ∷ minus ∷ no ∷ []) ∷ ratios (one ∷ no ∷ one ∷ [])
      ∷ ratios (one ∷ no ∷ minus ∷ []) ∷ []
  pub cube : cube_of 1
      ≡ polytope_with ((Inequalities, matrix 2 (ratios (one ∷ one ∷ []) ∷ ratios (one ∷ minus ∷ []) ∷ []))
      ∷ [])
  pub point : cube_of 0 ≡ polytope_with ((Inequalities, matrix 0 []) ∷ [])
  pub simplex : simplex_of 1 ≡ polytope_with
      ((Points, matrix 2 (ratios (one ∷ no ∷ []) ∷ ratios (one ∷ one ∷ []) ∷ [])) ∷ [])
  pub cross : cross_of 1
      ≡ polytope_with ((Points, matrix 2 (ratios (one ∷ one ∷ []) ∷ ratios (one ∷ minus ∷ []) ∷ [])) ∷ [])
  pub cyclic : cyclic_of 1 2 ≡ polytope_with
      ((Points, matrix 2 (ratios (one ∷ one ∷ []) ∷ ratios (one ∷ pos 2 ∷ []) ∷ [])) ∷ [])
  pub polar : polar_of segment ≡ polytope_with
      ((Points, matrix 2 (ratios (one ∷ one ∷ []) ∷ ratios (one ∷ minus ∷ []) ∷ [])) ∷ [])
  pub product : product_of segment segment
      ≡ polytope_with ((Inequalities, matrix 3 (both_rows Facets segment segment)) ∷ (Equations, matrix 0 [])
      ∷ [])
  pub pyramid : pyramid_of segment ≡ polytope_with
      ((
        Points,
        matrix 3 (ratios (one ∷ minus ∷ no ∷ []) ∷ ratios (one ∷ one ∷ no ∷ [])
            ∷ ratios (one ∷ no ∷ one ∷ []) ∷ []),
      ) ∷ (InputLineality, matrix 0 []) ∷ [])
