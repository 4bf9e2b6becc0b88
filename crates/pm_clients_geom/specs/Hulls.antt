-- What the clients of double description are for, and what they put.
use Rattle.pm_vector.specs.Numbers.{InRange, Ratio}
use Rattle.pm_vector.specs.Rows.{HasCols, Row}
use Rattle.pm_client.specs.Fails.{IfOutOfRange}
use Rattle.pm_client.specs.Sound.{AreParts, FailsRightly, are_parts, has_way, doubling, eliminated_by, first_part, double_list, enlarging_rows}
use Rattle.pm_client.specs.declared.ClientFail.{ClientFail}
use Rattle.pm_clients_geom.specs.declared.hulls.HullWork.{HullWork}
use Rattle.pm_clients_geom.specs.declared.hulls.HullWork.TheVariants as hull
use Rattle.pm_dd.specs.Lost.{PartsAreLost}
use Rattle.pm_clients_geom.specs.Matrices.{AreRays, MayBeLines}
use Rattle.pm_types.specs.Parts.{cols_over}
use Rattle.pm_clients_geom.specs.Rays.{ArePutRays}
use Rattle.pm_object.specs.Reading.{DraftSeen, ViewSeen}
use Rattle.pm_props.specs.declared.kind.Kind.{Kind}
use Rattle.pm_object_type.specs.declared.object_type.ObjectType.{ObjectType}
use Rattle.pm_object_type.specs.declared.object_type.ObjectType.TheVariants.{Cone}
use Rattle.pm_props.specs.declared.property.PropId.{PropId}
use Rattle.pm_props.specs.declared.property.PropId.TheVariants.{AffineHull, Facets, LinealitySpace, Vertices}
use Rattle.pm_props.specs.Properties.{is_generator, is_half_space}
use Rattle.pm_props.specs.Sets.{set_of}
use Rattle.pm_types.specs.Values.{matrix}
use Rattle.pm_types.specs.Views.{ratios}
use Rattle.std.specs.List.{All}
use Rattle.std.specs.Prelude.{IsTrue, List, [], length, map, ℕ, ◌∷◌, ◌≡◌, ◌≤◌, ◌⊎◌}
use Rattle.pm_limits.specs.Limits.{most_rows}

-- a client of the kind does double description, and finds FACETS and AFFINE_HULL from lines, and points or rays
pub record FindsFacets (kind : Kind) (first second : PropId) : Type 0 where
  pub targets : kind.targets ≡ set_of (Facets ∷ AffineHull ∷ [])
  pub sources : kind.sources ≡ set_of (second ∷ first ∷ [])
  pub parts : IsTrue (are_parts first second)
  pub generators : IsTrue (is_generator second)
  pub doubles : IsTrue (has_way kind doubling)
  pub lists : eliminated_by kind ≡ first_part ∷ double_list ∷ enlarging_rows ∷ []

-- a client of the kind does double description, and finds VERTICES and LINEALITY_SPACE from equations and half-spaces
pub record FindsRays (kind : Kind) (first second : PropId) : Type 0 where
  pub targets : kind.targets ≡ set_of (Vertices ∷ LinealitySpace ∷ [])
  pub sources : kind.sources ≡ set_of (second ∷ first ∷ [])
  pub parts : IsTrue (are_parts first second)
  pub half_spaces : IsTrue (is_half_space second)
  pub doubles : IsTrue (has_way kind doubling)
  pub lists : eliminated_by kind ≡ first_part ∷ double_list ∷ enlarging_rows ∷ []

-- rows of the property are taken as half-spaces of a thing of that type: facets cut out the cone over it, the far face
-- among them
abbrev pub cut_type : PropId → ObjectType → ObjectType
cut_type Facets of = Cone
cut_type p of = of

-- few rows of n entries
pub record AreFewRows (n : ℕ) (X : List Row) : Type 0 where
  pub cols : HasCols n X
  pub few : length X ≤ most_rows

-- the rays V and the lines K, of a thing of that type
pub record MayGenerate (of : ObjectType) (V K : List Row) : Type 0 where
  pub rays : AreRays of V
  pub lines : MayBeLines of K

-- V and K are V' and K' wherever these may generate a thing of the view's type, and else there are none
pub record ArePossible (v : ViewSeen) (V' K' V K : List Row) : Type 0 where
  pub few_rays : AreFewRows v.cols V
  pub few_lines : AreFewRows v.cols K
  pub may : MayGenerate v.of V K
  pub kept : MayGenerate v.of V' K' → (V ≡ V') × (K ≡ K')
  pub either : ((V ≡ V') × (K ≡ K')) ⊎ ((V ≡ []) × (K ≡ []))

-- such rays and lines were put as VERTICES and LINEALITY_SPACE
pub record ArePutGenerators (v : ViewSeen) (V' K' : List Row) (new : DraftSeen) : Type 0 where
  pub rays : List Row
  pub lines : List Row
  pub rows : List (List Ratio)
  pub possible : ArePossible v V' K' rays lines
  pub each : ArePutRays v.of rows rays
  pub in_range : All (All InRange) lines
  pub draft : new ≡ record {
    kind = v.kind;
    values = record { property = Vertices; value = matrix (cols_over v.cols rows) rows }
        ∷ record {
          property = LinealitySpace;
          value = matrix (cols_over v.cols (map ratios lines)) (map ratios lines);
        }
        ∷ [];
  }

-- the rows F and H were put as FACETS and AFFINE_HULL, where nothing was put
pub record ArePutRows (n : ℕ) (F H : List Row) (old new : DraftSeen) : Type 0 where
  pub in_range : All (All InRange) F
  pub hull_in_range : All (All InRange) H
  pub draft : new ≡ record {
    kind = old.kind;
    values = record { property = Facets; value = matrix (cols_over n (map ratios F)) (map ratios F) }
        ∷ record { property = AffineHull; value = matrix (cols_over n (map ratios H)) (map ratios H) }
        ∷ [];
  }

-- double description of the two parts that a client reads is lost by wide numbers
pub record ReadsLostParts (v : ViewSeen) : Type 0 where
  pub lines : List Row
  pub others : List Row
  pub read : AreParts v lines others
  pub lost : PartsAreLost v.cols lines others

-- a client of double description fails for want of memory, or with evidence that holds of the view; a wide one with
-- evidence of a number out of the range only where what it reads is lost by wide numbers too
abbrev pub HullFails : HullWork → ViewSeen → ClientFail → Type 0
HullFails hull.DdVerticesWide v e = FailsRightly v e × IfOutOfRange e (ReadsLostParts v)
HullFails hull.DdFacetsWide v e = FailsRightly v e × IfOutOfRange e (ReadsLostParts v)
HullFails hull.DdFacetsVWide v e = FailsRightly v e × IfOutOfRange e (ReadsLostParts v)
HullFails hull.DdVerticesFWide v e = FailsRightly v e × IfOutOfRange e (ReadsLostParts v)
HullFails w v e = FailsRightly v e
