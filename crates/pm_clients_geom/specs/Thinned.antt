-- What the clients put that thin one description of a thing by the other, or find one from sets.
use Rattle.pm_client.specs.Fails.{IfFailed, IfOutOfRange}
use Rattle.pm_vector.specs.Numbers.{InRange}
use Rattle.pm_vector.specs.Rows.{Row}
use Rattle.pm_client.specs.Sound.{ArePartsOf, AreRowsOf, AreSetsOf, FailsRightly, determined_facets, determined_rays, determining_rows, eliminated_by, facet_count, flat_basis_and_row, flat_rows, has_way, products, row_list}
use Rattle.pm_client.specs.declared.ClientFail.{ClientFail}
use Rattle.pm_clients_geom.specs.Hulls.{AreFewRows}
use Rattle.pm_clients_geom.specs.Matrices.{AreNotZero, AreRays}
use Rattle.pm_clients_geom.specs.declared.thinning.ThinWork.{ThinWork}
use Rattle.pm_clients_geom.specs.declared.thinning.ThinWork.TheVariants as thin
use Rattle.pm_incidence.specs.Lost.{SetsAreLost, ThinningIsLost}
use Rattle.pm_types.specs.Parts.{cols_over}
use Rattle.pm_object.specs.Reading.{DraftSeen, ViewSeen}
use Rattle.pm_object_type.specs.declared.object_type.ObjectType.{ObjectType}
use Rattle.pm_props.specs.Sets.{set_of}
use Rattle.pm_props.specs.declared.kind.Kind.{Kind}
use Rattle.pm_props.specs.declared.property.PropId.{PropId}
use Rattle.pm_props.specs.declared.property.PropId.TheVariants.{AffineHull, Equations, Facets, Inequalities, InputLineality, LinealitySpace, Points, Vertices, VerticesInFacets}
use Rattle.pm_types.specs.Values.{matrix}
use Rattle.pm_types.specs.Views.{ratios}
use Rattle.std.specs.List.{All}
use Rattle.std.specs.Prelude.{IsTrue, List, [], map, ℕ, ◌∷◌, ◌≡◌, ◌⊎◌}

-- a client of the kind thins POINTS and INPUT_LINEALITY by FACETS and AFFINE_HULL
pub record ThinsPoints (kind : Kind) : Type 0 where
  pub targets : kind.targets ≡ set_of (Vertices ∷ LinealitySpace ∷ [])
  pub sources : kind.sources ≡ set_of (Points ∷ InputLineality ∷ Facets ∷ AffineHull ∷ [])
  pub lists : eliminated_by kind ≡ flat_rows ∷ flat_basis_and_row ∷ []
  pub multiplies : IsTrue (has_way kind products)

-- a client of the kind thins INEQUALITIES and EQUATIONS by VERTICES and LINEALITY_SPACE, and counts the facets
pub record ThinsInequalities (kind : Kind) : Type 0 where
  pub targets : kind.targets ≡ set_of (Facets ∷ AffineHull ∷ [])
  pub sources : kind.sources ≡ set_of (Inequalities ∷ Equations ∷ Vertices ∷ LinealitySpace ∷ [])
  pub lists : eliminated_by kind ≡ flat_rows ∷ flat_basis_and_row ∷ []
  pub multiplies : IsTrue (has_way kind products)
  pub counts : IsTrue (has_way kind facet_count)

-- a client of the kind finds VERTICES from FACETS, AFFINE_HULL and the sets of VERTICES_IN_FACETS
pub record FindsRaysOfSets (kind : Kind) : Type 0 where
  pub targets : kind.targets ≡ set_of (Vertices ∷ [])
  pub sources : kind.sources ≡ set_of (Facets ∷ AffineHull ∷ VerticesInFacets ∷ [])
  pub lists : eliminated_by kind ≡ row_list ∷ determining_rows ∷ []
  pub determines : IsTrue (has_way kind determined_rays)

-- a client of the kind finds FACETS from VERTICES, LINEALITY_SPACE and the sets of VERTICES_IN_FACETS
pub record FindsFacetsOfSets (kind : Kind) : Type 0 where
  pub targets : kind.targets ≡ set_of (Facets ∷ [])
  pub sources : kind.sources ≡ set_of (Vertices ∷ LinealitySpace ∷ VerticesInFacets ∷ [])
  pub lists : eliminated_by kind ≡ row_list ∷ determining_rows ∷ []
  pub determines : IsTrue (has_way kind determined_facets)

-- V is V' wherever these may be rays of a thing of that type, and else there are none
pub record ArePossibleRays (of : ObjectType) (V' V : List Row) : Type 0 where
  pub may : AreRays of V
  pub kept : AreRays of V' → V ≡ V'
  pub either : (V ≡ V') ⊎ (V ≡ [])

-- F is F' wherever none of these is zero, and else there are none
pub record ArePossibleFacets (F' F : List Row) : Type 0 where
  pub may : AreNotZero F
  pub kept : AreNotZero F' → F ≡ F'
  pub either : (F ≡ F') ⊎ (F ≡ [])

-- the facet rows F', or none where one of these is zero, and the rows H that vanish were put as FACETS and AFFINE_HULL
pub record ArePutFacets (v : ViewSeen) (F' H : List Row) (new : DraftSeen) : Type 0 where
  pub facets : List Row
  pub possible : ArePossibleFacets F' facets
  pub few : AreFewRows v.cols facets
  pub few_hull : AreFewRows v.cols H
  pub in_range : All (All InRange) facets
  pub hull_in_range : All (All InRange) H
  pub draft : new ≡ record {
    kind = v.kind;
    values = record {
      property = Facets;
      value = matrix (cols_over v.cols (map ratios facets)) (map ratios facets);
    }
        ∷ record { property = AffineHull; value = matrix (cols_over v.cols (map ratios H)) (map ratios H) }
        ∷ [];
  }

-- thinning of the rows of the second property and of what is added to them, with those of the first as lines, by the
-- rows of the third is lost by wide numbers
pub record ReadsLostRows (v : ViewSeen) (first second third : PropId) : Type 0 where
  pub lines : List Row
  pub rows : List Row
  pub others : List Row
  pub read : ArePartsOf v first second lines rows
  pub reads_others : AreRowsOf v third others
  pub lost : ThinningIsLost v.cols rows lines others

-- rows from the sets of rows of the second property, with those of the first as equations, are lost by wide numbers
pub record ReadsLostSets (v : ViewSeen) (first second : PropId) : Type 0 where
  pub equations : List Row
  pub inequalities : List Row
  pub in_sets : List (List ℕ)
  pub read : AreSetsOf v first second equations inequalities in_sets
  pub lost : SetsAreLost v.cols equations inequalities in_sets

-- a client that thins or takes sets fails for want of memory, or with evidence that holds of the view; a wide one with
-- evidence, but for that of too many facets, only where what it reads is lost by wide numbers too
abbrev pub ThinFails : ThinWork → ViewSeen → ClientFail → Type 0
ThinFails thin.ThinPointsFWide v e = FailsRightly v e × IfFailed e (ReadsLostRows v InputLineality Points Facets)
ThinFails thin.ThinInequalitiesVWide v e = FailsRightly v e
    × IfOutOfRange e (ReadsLostRows v Equations Inequalities Vertices)
ThinFails thin.VerticesFromSetsWide v e = FailsRightly v e × IfFailed e (ReadsLostSets v AffineHull Facets)
ThinFails thin.FacetsFromSetsWide v e = FailsRightly v e × IfFailed e (ReadsLostSets v LinealitySpace Vertices)
ThinFails w v e = FailsRightly v e
