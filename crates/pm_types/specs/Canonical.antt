-- When a value that a client found is canonical for a thing. VERTICES, LINEALITY_SPACE, FACETS and AFFINE_HULL have a
-- canonical form; each right value of another property is canonical.
use Rattle.std.specs.Prelude.{ℕ, ◌≡◌, List, [], ◌∷◌, map}
use Rattle.std.specs.List.{All, AllPairs}
use Rattle.pm_vector.specs.Divisors.{IsPrimitive}
use Rattle.pm_vector.specs.Numbers.{Ratio}
use Rattle.pm_vector.specs.Rows.{Row, entry, ratio_at, Stands}
use Rattle.pm_vector.specs.Bases.{IsEchelonBasis}
use Rattle.pm_geom.specs.Cones.{Vanishes}
use Rattle.pm_geom.specs.Generators.{IsBefore, VanishAt}
use Rattle.pm_types.specs.Things.{Thing}
use Rattle.pm_object_type.specs.declared.object_type.ObjectType.TheVariants.{Polytope}
use Rattle.pm_props.specs.Kinds.{IsFresh}
use Rattle.pm_props.specs.Properties.{rays_tag, facets_tag}
use Rattle.pm_types.specs.Right.{InLines, IsBasis}
use Rattle.pm_types.specs.Values.{PropertyValue, matrix}
use Rattle.pm_types.specs.Views.{over_one, ratios}
use Rattle.pm_props.specs.declared.kind.Kind.{Kind}
use Rattle.pm_props.specs.declared.property.PropId.{PropId}
use Rattle.pm_props.specs.declared.property.PropId.TheVariants.{Vertices, LinealitySpace, Facets, AffineHull}
use lib.IntN.{pos}

-- R, with pivot columns P, is the echelon basis of the rows in S
pub record IsEchelonBasisOf (n : ℕ) (S : Row → Type 0) (R : List Row) (P : List ℕ) : Type 0 where
  pub basis : IsBasis n S R
  pub echelon : IsEchelonBasis n R P

pub record IsDivided (t : Thing) (x : Row) : Type 0 where
  pub polytope : t.of ≡ Polytope
  pub first : ¬ (entry x 0 ≡ pos 0)

-- the row r of fractions stands for the primitive whole row x: for a polytope divided so that the first coordinate is
-- 1 where that is not 0, else as it is
pub record IsRayRow (t : Thing) (r : List Ratio) (x : Row) : Type 0 where
  pub stands : Stands r x
  pub divided : IsDivided t x → ratio_at r 0 ≡ over_one (pos 1)
  pub whole : ¬ (IsDivided t x) → r ≡ ratios x

-- as many, and R holds at each place
abbrev pub EachIs : (List Ratio → Row → Type 0) → List (List Ratio) → List Row → Type 0
EachIs R [] [] = Unit {0}
EachIs R [] (x ∷ xs) = ⊥
EachIs R (r ∷ rows) [] = ⊥
EachIs R (r ∷ rows) (x ∷ xs) = R r x × EachIs R rows xs

-- the rows stand for primitive whole rows with zeros at the pivot columns of the echelon basis of S (the lineality,
-- or the rows that vanish), ascending where their order is fresh
pub record AreCanonical (n : ℕ) (S : Row → Type 0) (is_row : List Ratio → Row
    → Type 0) (IsFreshOrder : Type 0) (rows : List (List Ratio)) : Type 0 where
  pub lines : List Row
  pub pivots : List ℕ
  pub echelon : IsEchelonBasisOf n S lines pivots
  pub xs : List Row
  pub each : EachIs is_row rows xs
  pub primitive : All IsPrimitive xs
  pub reduced : All (VanishAt pivots) xs
  pub ascending : IsFreshOrder → AllPairs IsBefore xs

-- the rows are the echelon basis of S
pub record IsEchelonMatrix (n : ℕ) (S : Row → Type 0) (rows : List (List Ratio)) : Type 0 where
  pub lines : List Row
  pub pivots : List ℕ
  pub echelon : IsEchelonBasisOf n S lines pivots
  pub these : rows ≡ map ratios lines

abbrev pub Vanishing : Thing → Row → Type 0
Vanishing t = Vanishes t.cols t.generators t.lines

-- a value v of p that a client of this kind found
abbrev pub IsCanonical : Kind → PropId → PropertyValue → Thing → Type 0
IsCanonical kind Vertices (matrix n rows) t =
    AreCanonical t.cols (InLines t) (IsRayRow t) (IsFresh rays_tag kind) rows
IsCanonical kind LinealitySpace (matrix n rows) t = IsEchelonMatrix t.cols (InLines t) rows
IsCanonical kind Facets (matrix n rows) t =
    AreCanonical t.cols (Vanishing t) (λ r x. r ≡ ratios x) (IsFresh facets_tag kind) rows
IsCanonical kind AffineHull (matrix n rows) t = IsEchelonMatrix t.cols (Vanishing t) rows
IsCanonical kind p v t = Unit {0}
