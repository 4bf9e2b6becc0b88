-- Which rows generate what half-spaces cut out, and which are the facets of what rows generate (Ziegler, Lectures on
-- Polytopes, lectures 1 and 2).
use Rattle.std.specs.Prelude.{ℕ, ◌≡◌, ◌⊎◌, List, [], ◌∷◌, ◌++◌, length}
use Rattle.pm_vector.specs.Rows.{Row, entry, IsZero}
use Rattle.pm_dd.specs.Fronts.{HalfSpaces}
use Rattle.pm_vector.specs.Evidence.{unit}
use Rattle.pm_geom.specs.Cones.{IsValid}
use Rattle.pm_geom.specs.Generators.{AreGenerators}
use Rattle.pm_object_type.specs.declared.object_type.ObjectType.{ObjectType}
use Rattle.pm_object_type.specs.declared.object_type.ObjectType.TheVariants.{Cone, Fan, Polytope}
use lib.IntN.{pos}
use lib.Signed.{◌<ℤ◌, ◌≤ℤ◌}

-- some row of n entries that meets the equations E and the inequalities A has a positive first entry
pub record HasPoint (n : ℕ) (A E : List Row) : Type 0 where
  pub point : Row
  pub cols : length point ≡ n
  pub solves : HalfSpaces E A point
  pub positive : pos 0 <ℤ entry point 0

-- x is in the cone over the polytope that inequalities and equations describe: where that has a point, the solutions
-- with no negative first entry, and else 0
pub record InPolytopeCone (n : ℕ) (A E : List Row) (x : Row) : Type 0 where
  pub solves : HalfSpaces E A x
  pub first : pos 0 ≤ℤ entry x 0
  pub proper : IsZero x ⊎ HasPoint n A E

-- the cone that inequalities A and equations E describe: of a polytope, of a cone; a fan has none
abbrev pub InConeOf : ObjectType → ℕ → List Row → List Row → Row → Type 0
InConeOf Polytope n A E x = InPolytopeCone n A E x
InConeOf Cone n A E x = HalfSpaces E A x
InConeOf Fan n A E x = ⊥

-- its half-spaces as they are taken: those of a polytope end with the row (1, 0, .., 0)
abbrev pub half_spaces_of : ObjectType → ℕ → List Row → List Row
half_spaces_of Polytope n A = A ++ unit n 0 ∷ []
half_spaces_of Cone n A = A
half_spaces_of Fan n A = A

-- F has each facet row of cone(G) + span(L) once, in canonical form and lexicographic order, and H is the echelon
-- basis of the rows that vanish on the cone
abbrev pub AreFacets : ℕ → List Row → List Row → List Row → List Row → Type 0
AreFacets n G L F H = AreGenerators n (IsValid n G L) F H
