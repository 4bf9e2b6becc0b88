-- The definitions of matrices that are put, read on small cases: what holds of them, and what does not.
use Rattle.pm_types.specs.Parts.{as_put}
use Rattle.pm_vector.specs.Numbers.{Ratio}
use Rattle.pm_vector.specs.Rows.{Row}
use Rattle.pm_client.specs.Examples.{no_rows, single}
use Rattle.pm_clients_geom.specs.Hulls.{AreFewRows, ArePossible, ArePutGenerators, FindsFacets, FindsRays, MayGenerate, cut_type}
use Rattle.pm_clients_geom.specs.Lists.{ReadsParts}
use Rattle.pm_clients_geom.specs.Thinned.{ArePossibleFacets, ArePossibleRays, ArePutFacets, FindsFacetsOfSets, FindsRaysOfSets, ThinsInequalities, ThinsPoints}
use Rattle.pm_clients_geom.specs.Ranks.{FindsNullSpace}
use Rattle.pm_clients_geom.specs.Rays.{ArePutRays, IsPutRay}
use Rattle.pm_types.specs.OverFirst.{IsOverFirst}
use Rattle.pm_object.specs.Reading.{DraftSeen, Put}
use Rattle.pm_standard.specs.Table.{standard_kind}
use Rattle.pm_props.specs.declared.property.PropId.TheVariants.{AffineHull, Equations, Facets, Inequalities, InputLineality, LinealitySpace, Points, Vertices}
use Rattle.pm_types.specs.Values.{matrix}
use Rattle.pm_clients_geom.specs.Matrices.{AreNotZero, AreRays, MayBeLines, MayBeRays}
use Rattle.pm_object_type.specs.declared.object_type.ObjectType.TheVariants.{Cone, Polytope}
use Rattle.pm_types.specs.Views.{over_one, ratios}
use Rattle.pm_standard.specs.declared.standard.StandardClient.TheVariants as client
use Rattle.std.specs.Prelude.{List, [], ◌∷◌, ◌≡◌}
use lib.IntN.{negsuc, pos}

-- the row (1, 2) of fractions
abbrev pub one_two : List Ratio
one_two = ratios (pos 1 ∷ pos 2 ∷ [])

pub record MatricesAreRead : Type 0 where
  -- a matrix states its columns, unless it has no rows
  pub stated : as_put 2 (one_two ∷ []) ≡ record { cols = 2; rows = one_two ∷ [] }
  pub not_stated : as_put 2 [] ≡ record { cols = 0; rows = [] }
  -- lines of a polytope have first coordinate 0, those of a cone any
  pub lines : MayBeLines Polytope ((pos 0 ∷ pos 2 ∷ []) ∷ [])
  pub no_lines : ¬ (MayBeLines Polytope ((pos 0 ∷ pos 2 ∷ []) ∷ (pos 1 ∷ pos 2 ∷ []) ∷ []))
  pub of_a_cone : MayBeLines Cone ((pos 1 ∷ pos 2 ∷ []) ∷ [])
  -- rays of a polytope do not lie behind, those of a cone may
  pub rays : MayBeRays Polytope ((pos 1 ∷ negsuc 1 ∷ []) ∷ [])
  pub no_rays : ¬ (MayBeRays Polytope ((negsuc 0 ∷ pos 2 ∷ []) ∷ []))
  pub rays_of_a_cone : MayBeRays Cone ((negsuc 0 ∷ pos 2 ∷ []) ∷ [])

-- the ray (2, 1), and the row (1, 1/2) of fractions
abbrev pub two_one : Row
two_one = pos 2 ∷ pos 1 ∷ []

abbrev pub one_half : List Ratio
one_half = over_one (pos 1) ∷ record { num = pos 1; den = pos 2 } ∷ []

pub record RaysAreRead : Type 0 where
  -- of a polytope a ray is divided by its first entry, of a cone it stays
  pub over_first : IsOverFirst two_one one_half
  pub not_over_first : ¬ (IsOverFirst two_one (ratios two_one))
  pub divided : IsPutRay Polytope one_half two_one
  pub not_divided : ¬ (IsPutRay Polytope (ratios two_one) two_one)
  pub of_a_cone : IsPutRay Cone (ratios two_one) two_one
  pub not_of_a_cone : ¬ (IsPutRay Cone one_half two_one)
  -- the rows stand in the order of the rays
  pub rows : ArePutRays Polytope (one_half ∷ []) (two_one ∷ [])
  pub too_few : ¬ (ArePutRays Polytope [] (two_one ∷ []))

-- a draft for the view without rows
abbrev pub drafted : List Put → DraftSeen
drafted values = record { kind = no_rows.kind; values = values }

pub record HullsAreRead : Type 0 where
  -- which clients find FACETS, and from which two parts
  pub from_points : FindsFacets (standard_kind client.DdFacets) InputLineality Points
  pub from_vertices : FindsFacets (standard_kind client.DdFacetsV) LinealitySpace Vertices
  pub turned : ¬ (FindsFacets (standard_kind client.DdFacets) Points InputLineality)
  -- from half-spaces of either kind; facets cut out the cone over a polytope
  pub rays_by_rows : FindsRays (standard_kind client.DdVerticesWide) Equations Inequalities
  pub rays_by_facets : FindsRays (standard_kind client.DdVerticesF) AffineHull Facets
  pub rays_by_points : ¬ (FindsRays (standard_kind client.DdFacets) InputLineality Points)
  -- from null spaces, of either way
  pub lines_by_null_space : FindsNullSpace (standard_kind client.LinealityFromFacetsWide)
      AffineHull Facets LinealitySpace
  pub hull_by_null_space : FindsNullSpace (standard_kind client.HullFromVertices)
      LinealitySpace Vertices AffineHull
  pub hull_by_no_null_space : ¬ (FindsNullSpace (standard_kind client.DdFacetsV)
      LinealitySpace Vertices AffineHull)
  pub taken_as_cone : cut_type Facets Polytope ≡ Cone
  pub taken_as_polytope : cut_type Inequalities Polytope ≡ Polytope
  pub finds_rays : ¬ (FindsFacets (standard_kind client.DdVertices) Equations Inequalities)
  -- what is read of a view
  pub reads : ReadsParts no_rows Equations Inequalities [] []
  pub reads_no_facets : ¬ (ReadsParts no_rows AffineHull Facets [] [])
  -- rows of the view's columns
  pub few : AreFewRows 1 (single 1 ∷ [])
  pub other_columns : ¬ (AreFewRows 2 (single 1 ∷ []))
  -- rays and lines of a polytope, or none in the place of others
  pub may : MayGenerate Polytope (single 1 ∷ []) (single 0 ∷ [])
  pub may_not : ¬ (MayGenerate Polytope [] (single 1 ∷ []))
  pub kept : ArePossible no_rows (single 1 ∷ []) [] (single 1 ∷ []) []
  pub none : ArePossible no_rows [] (single 1 ∷ []) [] []
  pub lost : ¬ (ArePossible no_rows (single 1 ∷ []) [] [] [])
  -- both are put
  pub put : ArePutGenerators no_rows (single 1 ∷ []) []
      (drafted (record { property = Vertices; value = matrix 1 (ratios (single 1) ∷ []) }
      ∷ record { property = LinealitySpace; value = matrix 0 [] } ∷ []))
  pub not_put : ¬ (ArePutGenerators no_rows (single 1 ∷ []) [] (drafted []))

pub record ThinnedAreRead : Type 0 where
  -- which clients thin one description by the other, and which find one from sets
  pub thins_points : ThinsPoints (standard_kind client.ThinPointsFWide)
  pub doubles : ¬ (ThinsPoints (standard_kind client.DdVertices))
  pub thins_inequalities : ThinsInequalities (standard_kind client.ThinInequalitiesV)
  pub thins_others : ¬ (ThinsInequalities (standard_kind client.ThinPointsF))
  pub rays_of_sets : FindsRaysOfSets (standard_kind client.VerticesFromSets)
  pub no_rays_of_sets : ¬ (FindsRaysOfSets (standard_kind client.FacetsFromSets))
  pub facets_of_sets : FindsFacetsOfSets (standard_kind client.FacetsFromSetsWide)
  pub no_facets_of_sets : ¬ (FindsFacetsOfSets (standard_kind client.VerticesFromSets))
  -- a row of zeros is no ray and no facet row
  pub not_zero : AreNotZero (single 1 ∷ [])
  pub zero : ¬ (AreNotZero (single 0 ∷ []))
  pub ray : AreRays Polytope (single 1 ∷ [])
  pub no_ray : ¬ (AreRays Polytope (single 0 ∷ []))
  -- what may be rays, or facet rows, is kept; in the place of others there are none
  pub kept : ArePossibleRays Polytope (single 1 ∷ []) (single 1 ∷ [])
  pub none : ArePossibleRays Polytope (single 0 ∷ []) []
  pub lost : ¬ (ArePossibleRays Polytope (single 1 ∷ []) [])
  pub kept_facet : ArePossibleFacets (single 1 ∷ []) (single 1 ∷ [])
  pub no_facet : ArePossibleFacets (single 0 ∷ []) []
  pub lost_facet : ¬ (ArePossibleFacets (single 1 ∷ []) [])
  -- facet rows and rows that vanish are put
  pub put : ArePutFacets no_rows (single 1 ∷ []) []
      (drafted (record { property = Facets; value = matrix 1 (ratios (single 1) ∷ []) }
      ∷ record { property = AffineHull; value = matrix 0 [] } ∷ []))
  pub not_put : ¬ (ArePutFacets no_rows (single 1 ∷ []) [] (drafted []))
  -- none are put where one is zero
  pub none_put : ArePutFacets no_rows (single 0 ∷ []) []
      (drafted (record { property = Facets; value = matrix 0 [] }
      ∷ record { property = AffineHull; value = matrix 0 [] } ∷ []))
