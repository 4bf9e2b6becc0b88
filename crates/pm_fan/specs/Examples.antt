-- The definitions read on a square, a segment and a point, and on small cones: what holds, and what does not.
use Rattle.std.specs.Prelude.{ℕ, ◌≡◌, Bool, true, false, List, [], ◌∷◌, ◌++◌, None, Some, map}
use Rattle.pm_vector.specs.Rows.{Row}
use Rattle.pm_elim.specs.LostExamples.{odd_next, odd_row}
use Rattle.pm_files.specs.Files.{SavedFile}
use Rattle.pm_types.specs.Parts.{value_over}
use Rattle.pm_object.specs.State.{HeldValue, State}
use Rattle.pm_object.specs.declared.held.Condition.TheVariants as condition
use Rattle.pm_object.specs.declared.held.Origin.TheVariants.{Given}
use Rattle.pm_object_type.specs.declared.object_type.ObjectType.TheVariants.{Cone, Polytope}
use Rattle.pm_props.specs.declared.property.PropId.{PropId}
use Rattle.pm_props.specs.declared.property.PropId.TheVariants.{AffineHull, Bounded, Centered, ConeAmbientDim, Facets, Feasible, LinealitySpace, MaximalCones, Vertices, VerticesInFacets}
use Rattle.pm_types.specs.Values.{PropertyValue, sets, truth, whole}
use Rattle.pm_types.specs.Views.{ratios}
use Rattle.pm_fan.specs.Conditions.{face_refusal, normal_refusal}
use Rattle.pm_fan.specs.Dimensions.{AreDimensions, ArePlaces, IsDimension, IsLostCone, cone_rows}
use Rattle.pm_fan.specs.Fans.{cut, face_fan_of, fan_with, holders_from, normal_fan_of, with_members}
use lib.IntN.{ℤ, pos, negsuc}

-- 1
abbrev pub one : ℤ
one = pos 1

-- 0
abbrev pub no : ℤ
no = pos 0

-- -1
abbrev pub minus : ℤ
minus = negsuc 0

-- ---- dimensions
-- the two unit rows of the plane
abbrev pub axes : List Row
axes = (one ∷ no ∷ []) ∷ (no ∷ one ∷ []) ∷ []

pub record DimensionsAreRead : Type 0 where
  -- the lines stand first, and the rays in the order of the set
  pub rows : cone_rows axes ((one ∷ one ∷ []) ∷ []) (1 ∷ []) ≡ (one ∷ one ∷ []) ∷ (no ∷ one ∷ []) ∷ []
  -- the quadrant, a ray, and {0}
  pub each : AreDimensions axes [] ((0 ∷ 1 ∷ []) ∷ (1 ∷ []) ∷ [] ∷ []) (pos 2 ∷ one ∷ no ∷ [])
  -- over the line of the first ray the quadrant is a half-plane, and that ray adds nothing
  pub over_line : AreDimensions axes ((one ∷ no ∷ []) ∷ []) ((0 ∷ 1 ∷ []) ∷ (0 ∷ []) ∷ []) (pos 2 ∷ one ∷ [])
  -- a number for each cone, in their order, and none below 0
  pub one_less : ¬ (AreDimensions axes [] ((0 ∷ 1 ∷ []) ∷ (1 ∷ []) ∷ []) (pos 2 ∷ []))
  pub one_more : ¬ (AreDimensions axes [] ((1 ∷ []) ∷ []) (one ∷ one ∷ []))
  pub other_order : ¬ (AreDimensions axes [] ([] ∷ (1 ∷ []) ∷ []) (one ∷ no ∷ []))
  pub below_nought : ¬ (IsDimension [] minus)
  -- places of rays
  pub places : ArePlaces axes [] ((0 ∷ 1 ∷ []) ∷ [])
  pub no_place : ¬ (ArePlaces axes [] ((2 ∷ []) ∷ []))

-- eliminations of the rows of cones
pub record LostConesAreRead : Type 0 where
  -- that of (2, 1, -1) and (1, 1, 2^126) is lost, where both are rays of a cone, and where the first is a line
  pub lost : IsLostCone 3 (odd_row ∷ odd_next ∷ []) [] ((0 ∷ []) ∷ (0 ∷ 1 ∷ []) ∷ [])
  pub over_line : IsLostCone 3 (odd_next ∷ []) (odd_row ∷ []) ((0 ∷ []) ∷ [])
  -- not where no cone has both, and where there is no cone
  pub not_apart : ¬ (IsLostCone 3 (odd_row ∷ odd_next ∷ []) [] ((0 ∷ []) ∷ (1 ∷ []) ∷ []))
  pub not_without_cone : ¬ (IsLostCone 3 (odd_next ∷ []) (odd_row ∷ []) [])

-- ---- objects
-- a given value of the object
abbrev pub given : PropId × PropertyValue → HeldValue
given v = record { place = None; property = v.0; value = v.1; origin = Given }

-- a polytope that holds these
abbrev pub holding : List (PropId × PropertyValue) → State
holding values = record {
  of = Polytope;
  held = map given values;
  excluded = [];
  rounds = [];
  disabled = [];
  programs = [];
}

-- whether it is bounded, not empty, and has 0 in its interior
abbrev pub truths : Bool → Bool → Bool → List (PropId × PropertyValue)
truths bounded feasible centered = (Bounded, truth bounded) ∷ (Feasible, truth feasible)
    ∷ (Centered, truth centered) ∷ []

-- n columns, facet rows, rows of the affine hull, sets of so many places, vertices
abbrev pub described : ℕ → List Row → List Row → List (List ℕ) → ℕ → List Row → List (PropId × PropertyValue)
described n facets hull places count vertices =
    (ConeAmbientDim, whole (pos n)) ∷ (Facets, value_over n (map ratios facets))
    ∷ (AffineHull, value_over n (map ratios hull)) ∷ (VerticesInFacets, sets places count)
    ∷ (Vertices, value_over n (map ratios vertices)) ∷ []

-- a polytope for which all truth values hold
abbrev pub fitting : List (PropId × PropertyValue) → State
fitting values = holding (truths true true true ++ values)

-- the unit square
abbrev pub square_values : List (PropId × PropertyValue)
square_values = described 3
    ((no ∷ no ∷ one ∷ []) ∷ (no ∷ one ∷ no ∷ []) ∷ (one ∷ minus ∷ no ∷ []) ∷ (one ∷ no ∷ minus ∷ []) ∷ []) []
    ((0 ∷ 2 ∷ []) ∷ (0 ∷ 1 ∷ []) ∷ (2 ∷ 3 ∷ []) ∷ (1 ∷ 3 ∷ []) ∷ []) 4
    ((one ∷ no ∷ no ∷ []) ∷ (one ∷ no ∷ one ∷ []) ∷ (one ∷ one ∷ no ∷ []) ∷ (one ∷ one ∷ one ∷ []) ∷ [])

-- the point 2 of the line, whose only facet is far
abbrev pub point_values : List (PropId × PropertyValue)
point_values = described 2 ((one ∷ no ∷ []) ∷ []) ((pos 2 ∷ minus ∷ []) ∷ []) ([] ∷ []) 1
    ((one ∷ pos 2 ∷ []) ∷ [])

-- the segment from -1 to 2, whose vertices are these rows, with sets of so many places
abbrev pub segment_values : List (List ℕ) → ℕ → List Row → List (PropId × PropertyValue)
segment_values places count vertices =
    described 2 ((one ∷ one ∷ []) ∷ (pos 2 ∷ minus ∷ []) ∷ []) [] places count vertices

abbrev pub ends : List Row
ends = (one ∷ minus ∷ []) ∷ (pos 2 ∷ pos 4 ∷ []) ∷ []

abbrev pub segment : List (PropId × PropertyValue)
segment = segment_values ((0 ∷ []) ∷ (1 ∷ []) ∷ []) 2 ends

-- the fan of n columns of these rays, lines and cones
abbrev pub fan_of : ℕ → List Row → List Row → List (List ℕ) → ℕ → SavedFile
fan_of n rays lines cones count = fan_with
    ((ConeAmbientDim, whole (pos n)) ∷ (Vertices, value_over n (map ratios rays))
    ∷ (LinealitySpace, value_over n (map ratios lines)) ∷ (MaximalCones, sets cones count) ∷ [])

-- one without a value of its lineality
abbrev pub pointed_fan_of : ℕ → List Row → List (List ℕ) → ℕ → SavedFile
pointed_fan_of n rays cones count = fan_with
    ((ConeAmbientDim, whole (pos n)) ∷ (Vertices, value_over n (map ratios rays))
    ∷ (MaximalCones, sets cones count) ∷ [])

-- the values of new fans
pub record FansAreRead : Type 0 where
  pub without_first : cut (ratios (one ∷ minus ∷ no ∷ []) ∷ []) ≡ ratios (minus ∷ no ∷ []) ∷ []
  -- rows whose set is empty fall out
  pub some_kept : with_members ([] ∷ (0 ∷ []) ∷ []) (ratios (one ∷ []) ∷ ratios (minus ∷ []) ∷ [])
      ≡ ratios (minus ∷ []) ∷ []
  pub holders : holders_from 3 ((0 ∷ 2 ∷ []) ∷ (1 ∷ []) ∷ (2 ∷ []) ∷ []) 2 ≡ 3 ∷ 5 ∷ []
  -- normal fans
  pub square : normal_fan_of (fitting square_values)
      ≡ fan_of 2 ((no ∷ one ∷ []) ∷ (one ∷ no ∷ []) ∷ (minus ∷ no ∷ []) ∷ (no ∷ minus ∷ []) ∷ []) []
      ((0 ∷ 1 ∷ []) ∷ (1 ∷ 3 ∷ []) ∷ (0 ∷ 2 ∷ []) ∷ (2 ∷ 3 ∷ []) ∷ []) 4
  -- of a point its lines, without a ray
  pub point : normal_fan_of (fitting point_values) ≡ fan_of 1 [] ((minus ∷ []) ∷ []) ([] ∷ []) 0
  -- a facet without vertices between others
  pub far_facet
      : normal_fan_of
      (fitting (described 2 ((one ∷ one ∷ []) ∷ (one ∷ no ∷ []) ∷ (pos 2 ∷ minus ∷ []) ∷ []) []
      ((0 ∷ []) ∷ [] ∷ (1 ∷ []) ∷ []) 2 ends))
      ≡ fan_of 1 ((one ∷ []) ∷ (minus ∷ []) ∷ []) [] ((0 ∷ []) ∷ (1 ∷ []) ∷ []) 2
  -- face fans, whose rays keep their scale
  pub ends : face_fan_of (fitting segment)
      ≡ pointed_fan_of 1 ((minus ∷ []) ∷ (pos 4 ∷ []) ∷ []) ((0 ∷ []) ∷ (1 ∷ []) ∷ []) 2
  pub apex : face_fan_of (fitting point_values) ≡ pointed_fan_of 1 [] ([] ∷ []) 0

-- which conditions fail, and which first
pub record ConditionsAreRead : Type 0 where
  -- of normal fans
  pub normal : normal_refusal (fitting square_values) ≡ None
  pub normal_of_point : normal_refusal (fitting point_values) ≡ None
  pub not_centered : normal_refusal (holding (truths true true false ++ square_values)) ≡ None
  pub of_type : normal_refusal (record (holding (truths false false false ++ square_values)) { of = Cone })
      ≡ Some condition.OfType
  pub bounded : normal_refusal (holding (truths false false true ++ square_values)) ≡ Some condition.Bounded
  pub feasible : normal_refusal (holding (truths true false true ++ described 1 [] [] [] 0 []))
      ≡ Some condition.Feasible
  pub columns : normal_refusal (fitting (described 1 ((one ∷ []) ∷ []) [] [] 1 ((one ∷ []) ∷ [])))
      ≡ Some condition.Columns
  -- a set less, a place more, a normal that is 0
  pub of_facets : normal_refusal (fitting (segment_values ((0 ∷ []) ∷ []) 2 ends)) ≡ Some condition.Rows
  pub of_vertices : normal_refusal (fitting (segment_values ((0 ∷ []) ∷ (1 ∷ []) ∷ []) 3 ends))
      ≡ Some condition.Rows
  pub no_normal
      : normal_refusal
      (fitting (described 2 ((one ∷ no ∷ []) ∷ []) [] ((0 ∷ []) ∷ []) 1 ((one ∷ no ∷ []) ∷ [])))
      ≡ Some condition.Rows
  -- of face fans
  pub face : face_refusal (fitting segment) ≡ None
  pub face_of_point : face_refusal (fitting point_values) ≡ None
  pub not_feasible : face_refusal (holding (truths true false true ++ segment)) ≡ None
  pub face_of_type : face_refusal (record (holding (truths false false false ++ segment)) { of = Cone })
      ≡ Some condition.OfType
  pub face_bounded : face_refusal (holding (truths false true false ++ segment)) ≡ Some condition.Bounded
  pub face_centered : face_refusal (holding (truths true true false ++ described 1 [] [] [] 0 []))
      ≡ Some condition.Centered
  pub face_columns : face_refusal (fitting (described 1 [] [] [] 1 ((one ∷ []) ∷ [])))
      ≡ Some condition.Columns
  pub face_of_vertices : face_refusal (fitting (segment_values ((0 ∷ []) ∷ (1 ∷ []) ∷ []) 1 ends))
      ≡ Some condition.Rows
  -- 0 is no vertex of several
  pub no_ray : face_refusal
      (fitting (segment_values ((0 ∷ []) ∷ (1 ∷ []) ∷ []) 2 ((one ∷ no ∷ []) ∷ (one ∷ one ∷ []) ∷ [])))
      ≡ Some condition.Rows
