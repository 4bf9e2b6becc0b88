-- The rules that are shipped and their clients: what each finds, from what, and what it weighs.
use Rattle.std.specs.Prelude.{ℕ, List, [], ◌∷◌, codes, map, ◌++◌}
use Rattle.pm_props.specs.Kinds.{finding}
use Rattle.pm_props.specs.Sets.{set_of}
use Rattle.pm_props.specs.declared.kind.Kind.{Kind}
use Rattle.pm_props.specs.declared.property.PropId.{PropId}
use Rattle.pm_props.specs.declared.property.PropId.TheVariants.{Points, InputLineality, Inequalities, Equations, Vertices, LinealitySpace, Facets, AffineHull, VerticesInFacets, ConeDim, LinealityDim, CombinatorialDim, NVertices, NFacets, Feasible, Bounded, Pointed, FullDim, Centered, Simple, Simplicial, VertexSizes, FacetSizes, HasseDiagram, FVector, F2Vector, HVector, Graph, DualGraph, Diameter, DualDiameter, NEdges, NRidges, VertexDegrees, FarFace, MaximalCones, NMaximalCones, MaximalConesDims, FanDim, Pure, LinearObjective, MaximalValue, MinimalValue, MaximalFace, MinimalFace, MaximalDual, MinimalDual, PlacingTriangulation, Sites, SiteHeights, RegularCells, DelaunayCells}
use Rattle.pm_standard.specs.declared.standard.StandardClient.{StandardClient}
use Rattle.pm_standard.specs.declared.standard.StandardRule.{StandardRule}
use Rattle.pm_standard.specs.declared.standard.StandardClient.TheVariants as client
use Rattle.pm_standard.specs.Ways.{Way, at_face, at_rays, by_doubling, by_placing, by_programs, by_sets, by_thinning, cone_rows, determined_facets, determined_rays, dual, eliminates, face_count, facet_count, feasibility, greatest, least, optimum_over_facets, optimum_over_rows, products, row_list, lifting, raising}

-- a row of the table of rules: its label, what it finds, from what, what must be true, what it weighs, and how its
-- client may fail
pub record RuleRow : Type 0 where
  pub label : List ℕ
  pub targets : List PropId
  pub sources : List PropId
  pub must : List PropId
  pub weight : ℕ
  pub ways : List Way

-- a rule under no condition, whose client fails for want of memory alone
abbrev pub plain_rule : List ℕ → List PropId → List PropId → ℕ → RuleRow
plain_rule label targets sources weight =
    record { label = label; targets = targets; sources = sources; must = []; weight = weight; ways = [] }

-- the rule where these properties must be true
abbrev pub where_true : List PropId → RuleRow → RuleRow
where_true must r = record r { must = must }

-- the rule whose client may fail in these ways too
abbrev pub may_fail : List Way → RuleRow → RuleRow
may_fail ways r = record r { ways = ways }

-- the rules: ways to fail, label, targets, sources, weight
abbrev pub table_row : StandardClient → RuleRow
table_row client.DdVertices =
    may_fail by_doubling (plain_rule (codes "dd_vertices") (Vertices ∷ LinealitySpace ∷ [])
    (Inequalities ∷ Equations ∷ []) 40)
table_row client.DdFacets =
    may_fail by_doubling (plain_rule (codes "dd_facets") (Facets ∷ AffineHull ∷ [])
    (Points ∷ InputLineality ∷ []) 40)
table_row client.DdFacetsV =
    may_fail by_doubling (plain_rule (codes "dd_facets_v") (Facets ∷ AffineHull ∷ [])
    (Vertices ∷ LinealitySpace ∷ []) 30)
table_row client.DdVerticesF =
    may_fail by_doubling (plain_rule (codes "dd_vertices_f") (Vertices ∷ LinealitySpace ∷ [])
    (Facets ∷ AffineHull ∷ []) 30)
table_row client.ThinPointsLp =
    may_fail by_programs (plain_rule (codes "thin_points_lp") (Vertices ∷ LinealitySpace ∷ [])
    (Points ∷ InputLineality ∷ []) 60)
table_row client.ThinInequalitiesLp =
    may_fail (by_programs ++ facet_count ∷ [])
    (plain_rule (codes "thin_inequalities_lp") (Facets ∷ AffineHull ∷ []) (Inequalities ∷ Equations ∷ []) 60)
table_row client.ThinPointsF =
    may_fail by_thinning (plain_rule (codes "thin_points_f") (Vertices ∷ LinealitySpace ∷ [])
    (Points ∷ InputLineality ∷ Facets ∷ AffineHull ∷ []) 10)
table_row client.ThinInequalitiesV =
    may_fail (by_thinning ++ facet_count ∷ [])
    (plain_rule (codes "thin_inequalities_v") (Facets ∷ AffineHull ∷ [])
    (Inequalities ∷ Equations ∷ Vertices ∷ LinealitySpace ∷ []) 10)
table_row client.VerticesFromSets =
    may_fail (by_sets ++ determined_rays ∷ [])
    (plain_rule (codes "vertices_from_sets") (Vertices ∷ [])
    (Facets ∷ AffineHull ∷ VerticesInFacets ∷ []) 20)
table_row client.FacetsFromSets =
    may_fail (by_sets ++ determined_facets ∷ [])
    (plain_rule (codes "facets_from_sets") (Facets ∷ [])
    (Vertices ∷ LinealitySpace ∷ VerticesInFacets ∷ []) 20)
table_row client.PointsFromVertices =
    plain_rule (codes "points_from_vertices") (Points ∷ InputLineality ∷ [])
    (Vertices ∷ LinealitySpace ∷ []) 5
table_row client.InequalitiesFromFacets =
    plain_rule (codes "inequalities_from_facets") (Inequalities ∷ Equations ∷ [])
    (Facets ∷ AffineHull ∷ []) 5
table_row client.LinealityFromFacets =
    may_fail (eliminates row_list ∷ []) (plain_rule (codes "lineality_from_facets") (LinealitySpace ∷ [])
    (Facets ∷ AffineHull ∷ []) 5)
table_row client.HullFromVertices =
    may_fail (eliminates row_list ∷ []) (plain_rule (codes "hull_from_vertices") (AffineHull ∷ [])
    (Vertices ∷ LinealitySpace ∷ []) 5)
table_row client.ConeDimV =
    may_fail (eliminates row_list ∷ [])
    (plain_rule (codes "cone_dim_v") (ConeDim ∷ []) (Vertices ∷ LinealitySpace ∷ []) 4)
table_row client.ConeDimSpan = plain_rule (codes "cone_dim_span") (ConeDim ∷ []) (AffineHull ∷ []) 1
table_row client.ConeDimPoints =
    may_fail (eliminates row_list ∷ [])
    (plain_rule (codes "cone_dim_points") (ConeDim ∷ []) (Points ∷ InputLineality ∷ []) 8)
table_row client.LinealityDim = plain_rule (codes "lineality_dim") (LinealityDim ∷ [])
    (LinealitySpace ∷ []) 1
table_row client.CombinatorialDim = plain_rule (codes "combinatorial_dim") (CombinatorialDim ∷ [])
    (ConeDim ∷ LinealityDim ∷ []) 1
table_row client.NVertices = plain_rule (codes "n_vertices") (NVertices ∷ []) (Vertices ∷ []) 1
table_row client.NVerticesSets =
    plain_rule (codes "n_vertices_sets") (NVertices ∷ []) (VerticesInFacets ∷ []) 1
table_row client.NFacets = plain_rule (codes "n_facets") (NFacets ∷ []) (Facets ∷ []) 1
table_row client.NFacetsSets = plain_rule (codes "n_facets_sets") (NFacets ∷ []) (VerticesInFacets ∷ []) 1
table_row client.Feasible = plain_rule (codes "feasible") (Feasible ∷ []) (ConeDim ∷ []) 1
table_row client.FeasibleLp =
    may_fail (feasibility ∷ products ∷ [])
    (plain_rule (codes "feasible_lp") (Feasible ∷ []) (Inequalities ∷ Equations ∷ []) 15)
table_row client.Bounded = plain_rule (codes "bounded") (Bounded ∷ []) (Vertices ∷ LinealitySpace ∷ []) 1
table_row client.FarFace = plain_rule (codes "far_face") (FarFace ∷ []) (Vertices ∷ []) 1
table_row client.Pointed = plain_rule (codes "pointed") (Pointed ∷ []) (LinealityDim ∷ []) 1
table_row client.FullDim = plain_rule (codes "full_dim") (FullDim ∷ []) (ConeDim ∷ []) 1
table_row client.Centered = plain_rule (codes "centered") (Centered ∷ []) (Facets ∷ AffineHull ∷ []) 1
table_row client.Incidence =
    may_fail (products ∷ []) (plain_rule (codes "incidence") (VerticesInFacets ∷ [])
    (Vertices ∷ Facets ∷ []) 5)
table_row client.VertexSizes = plain_rule (codes "vertex_sizes") (VertexSizes ∷ []) (VerticesInFacets ∷ []) 2
table_row client.FacetSizes = plain_rule (codes "facet_sizes") (FacetSizes ∷ []) (VerticesInFacets ∷ []) 2
table_row client.Simple = plain_rule (codes "simple") (Simple ∷ []) (VertexSizes ∷ CombinatorialDim ∷ []) 1
table_row client.Simplicial =
    plain_rule (codes "simplicial") (Simplicial ∷ []) (FacetSizes ∷ CombinatorialDim ∷ []) 1
table_row client.Faces =
    may_fail (face_count ∷ []) (plain_rule (codes "faces") (HasseDiagram ∷ []) (VerticesInFacets ∷ []) 50)
table_row client.FVector = plain_rule (codes "f_vector") (FVector ∷ []) (HasseDiagram ∷ []) 2
table_row client.F2Vector = plain_rule (codes "f2_vector") (F2Vector ∷ []) (HasseDiagram ∷ []) 3
table_row client.HVector =
    where_true (Bounded ∷ Simplicial ∷ [])
    (plain_rule (codes "h_vector") (HVector ∷ []) (FVector ∷ CombinatorialDim ∷ []) 2)
table_row client.GraphOfSets = plain_rule (codes "graph_of_sets") (Graph ∷ []) (VerticesInFacets ∷ []) 15
table_row client.GraphOfFaces = plain_rule (codes "graph_of_faces") (Graph ∷ []) (HasseDiagram ∷ []) 3
table_row client.DualGraph = plain_rule (codes "dual_graph") (DualGraph ∷ []) (VerticesInFacets ∷ []) 15
table_row client.VertexDegrees = plain_rule (codes "vertex_degrees") (VertexDegrees ∷ []) (Graph ∷ []) 1
table_row client.Diameter = plain_rule (codes "diameter") (Diameter ∷ []) (Graph ∷ []) 4
table_row client.DualDiameter = plain_rule (codes "dual_diameter") (DualDiameter ∷ []) (DualGraph ∷ []) 4
table_row client.NEdges = plain_rule (codes "n_edges") (NEdges ∷ []) (Graph ∷ []) 1
table_row client.NRidges = plain_rule (codes "n_ridges") (NRidges ∷ []) (DualGraph ∷ []) 1
table_row client.LpMax = may_fail (optimum_over_facets greatest ∷ dual greatest ∷ products ∷ [])
    (plain_rule (codes "lp_max") (MaximalValue ∷ MaximalDual ∷ [])
    (Facets ∷ AffineHull ∷ LinearObjective ∷ []) 20)
table_row client.LpMin = may_fail (optimum_over_facets least ∷ dual least ∷ products ∷ [])
    (plain_rule (codes "lp_min") (MinimalValue ∷ MinimalDual ∷ [])
    (Facets ∷ AffineHull ∷ LinearObjective ∷ []) 20)
table_row client.LpMaxRows =
    may_fail (optimum_over_rows greatest ∷ products ∷ [])
    (plain_rule (codes "lp_max_rows") (MaximalValue ∷ [])
    (Inequalities ∷ Equations ∷ LinearObjective ∷ []) 25)
table_row client.LpMinRows =
    may_fail (optimum_over_rows least ∷ products ∷ [])
    (plain_rule (codes "lp_min_rows") (MinimalValue ∷ [])
    (Inequalities ∷ Equations ∷ LinearObjective ∷ []) 25)
table_row client.LpMaxV =
    may_fail (at_rays greatest ∷ [])
    (plain_rule (codes "lp_max_v") (MaximalValue ∷ []) (Vertices ∷ LinealitySpace ∷ LinearObjective ∷ []) 6)
table_row client.LpMinV =
    may_fail (at_rays least ∷ [])
    (plain_rule (codes "lp_min_v") (MinimalValue ∷ []) (Vertices ∷ LinealitySpace ∷ LinearObjective ∷ []) 6)
table_row client.LpMaxFace =
    may_fail (at_face greatest ∷ [])
    (plain_rule (codes "lp_max_face") (MaximalFace ∷ []) (Vertices ∷ MaximalValue ∷ LinearObjective ∷ []) 3)
table_row client.LpMinFace =
    may_fail (at_face least ∷ [])
    (plain_rule (codes "lp_min_face") (MinimalFace ∷ []) (Vertices ∷ MinimalValue ∷ LinearObjective ∷ []) 3)
table_row client.FanDims =
    may_fail (eliminates cone_rows ∷ []) (plain_rule (codes "fan_dims") (MaximalConesDims ∷ [])
    (Vertices ∷ LinealitySpace ∷ MaximalCones ∷ []) 4)
table_row client.FanDim = plain_rule (codes "fan_dim") (FanDim ∷ []) (MaximalConesDims ∷ []) 1
table_row client.FanPure = plain_rule (codes "fan_pure") (Pure ∷ []) (MaximalConesDims ∷ []) 1
table_row client.FanSimplicial =
    plain_rule (codes "fan_simplicial") (Simplicial ∷ [])
    (MaximalConesDims ∷ MaximalCones ∷ LinealityDim ∷ []) 1
table_row client.FanSize = plain_rule (codes "fan_size") (NMaximalCones ∷ []) (MaximalCones ∷ []) 1
table_row client.BbFacets =
    may_fail by_placing (plain_rule (codes "bb_facets") (Facets ∷ AffineHull ∷ [])
    (Points ∷ InputLineality ∷ []) 45)
table_row client.BbFacetsV =
    may_fail by_placing (plain_rule (codes "bb_facets_v") (Facets ∷ AffineHull ∷ PlacingTriangulation ∷ [])
    (Vertices ∷ LinealitySpace ∷ []) 35)
table_row client.Placing =
    may_fail by_placing (plain_rule (codes "placing") (PlacingTriangulation ∷ [])
    (Vertices ∷ LinealitySpace ∷ []) 25)
table_row client.RegularCells =
    may_fail (lifting ∷ []) (plain_rule (codes "regular_cells") (RegularCells ∷ [])
    (Sites ∷ SiteHeights ∷ []) 40)
table_row client.Delaunay =
    may_fail (raising ∷ []) (plain_rule (codes "delaunay") (DelaunayCells ∷ []) (Sites ∷ []) 45)
table_row client.DdVerticesWide =
    may_fail by_doubling (plain_rule (codes "dd_vertices_wide") (Vertices ∷ LinealitySpace ∷ [])
    (Inequalities ∷ Equations ∷ []) 41)
table_row client.DdFacetsWide =
    may_fail by_doubling (plain_rule (codes "dd_facets_wide") (Facets ∷ AffineHull ∷ [])
    (Points ∷ InputLineality ∷ []) 41)
table_row client.DdFacetsVWide =
    may_fail by_doubling (plain_rule (codes "dd_facets_v_wide") (Facets ∷ AffineHull ∷ [])
    (Vertices ∷ LinealitySpace ∷ []) 31)
table_row client.DdVerticesFWide =
    may_fail by_doubling (plain_rule (codes "dd_vertices_f_wide") (Vertices ∷ LinealitySpace ∷ [])
    (Facets ∷ AffineHull ∷ []) 31)
table_row client.ThinPointsLpWide =
    may_fail by_programs (plain_rule (codes "thin_points_lp_wide") (Vertices ∷ LinealitySpace ∷ [])
    (Points ∷ InputLineality ∷ []) 61)
table_row client.ThinInequalitiesLpWide =
    may_fail (by_programs ++ facet_count ∷ [])
    (plain_rule (codes "thin_inequalities_lp_wide") (Facets ∷ AffineHull ∷ [])
    (Inequalities ∷ Equations ∷ []) 61)
table_row client.ThinPointsFWide =
    may_fail by_thinning (plain_rule (codes "thin_points_f_wide") (Vertices ∷ LinealitySpace ∷ [])
    (Points ∷ InputLineality ∷ Facets ∷ AffineHull ∷ []) 11)
table_row client.ThinInequalitiesVWide =
    may_fail (by_thinning ++ facet_count ∷ [])
    (plain_rule (codes "thin_inequalities_v_wide") (Facets ∷ AffineHull ∷ [])
    (Inequalities ∷ Equations ∷ Vertices ∷ LinealitySpace ∷ []) 11)
table_row client.VerticesFromSetsWide =
    may_fail (by_sets ++ determined_rays ∷ [])
    (plain_rule (codes "vertices_from_sets_wide") (Vertices ∷ [])
    (Facets ∷ AffineHull ∷ VerticesInFacets ∷ []) 21)
table_row client.FacetsFromSetsWide =
    may_fail (by_sets ++ determined_facets ∷ [])
    (plain_rule (codes "facets_from_sets_wide") (Facets ∷ [])
    (Vertices ∷ LinealitySpace ∷ VerticesInFacets ∷ []) 21)
table_row client.LinealityFromFacetsWide =
    may_fail (eliminates row_list ∷ [])
    (plain_rule (codes "lineality_from_facets_wide") (LinealitySpace ∷ []) (Facets ∷ AffineHull ∷ []) 6)
table_row client.HullFromVerticesWide =
    may_fail (eliminates row_list ∷ []) (plain_rule (codes "hull_from_vertices_wide") (AffineHull ∷ [])
    (Vertices ∷ LinealitySpace ∷ []) 6)
table_row client.ConeDimVWide =
    may_fail (eliminates row_list ∷ [])
    (plain_rule (codes "cone_dim_v_wide") (ConeDim ∷ []) (Vertices ∷ LinealitySpace ∷ []) 5)
table_row client.ConeDimPointsWide =
    may_fail (eliminates row_list ∷ []) (plain_rule (codes "cone_dim_points_wide") (ConeDim ∷ [])
    (Points ∷ InputLineality ∷ []) 9)
table_row client.FeasibleLpWide =
    may_fail (feasibility ∷ products ∷ [])
    (plain_rule (codes "feasible_lp_wide") (Feasible ∷ []) (Inequalities ∷ Equations ∷ []) 16)
table_row client.IncidenceWide =
    plain_rule (codes "incidence_wide") (VerticesInFacets ∷ []) (Vertices ∷ Facets ∷ []) 6
table_row client.LpMaxWide = may_fail (optimum_over_facets greatest ∷ dual greatest ∷ products ∷ [])
    (plain_rule (codes "lp_max_wide") (MaximalValue ∷ MaximalDual ∷ [])
    (Facets ∷ AffineHull ∷ LinearObjective ∷ []) 21)
table_row client.LpMinWide = may_fail (optimum_over_facets least ∷ dual least ∷ products ∷ [])
    (plain_rule (codes "lp_min_wide") (MinimalValue ∷ MinimalDual ∷ [])
    (Facets ∷ AffineHull ∷ LinearObjective ∷ []) 21)
table_row client.LpMaxRowsWide =
    may_fail (optimum_over_rows greatest ∷ products ∷ [])
    (plain_rule (codes "lp_max_rows_wide") (MaximalValue ∷ [])
    (Inequalities ∷ Equations ∷ LinearObjective ∷ []) 26)
table_row client.LpMinRowsWide =
    may_fail (optimum_over_rows least ∷ products ∷ [])
    (plain_rule (codes "lp_min_rows_wide") (MinimalValue ∷ [])
    (Inequalities ∷ Equations ∷ LinearObjective ∷ []) 26)
table_row client.LpMaxVWide =
    may_fail (at_rays greatest ∷ [])
    (plain_rule (codes "lp_max_v_wide") (MaximalValue ∷ []) (Vertices ∷ LinealitySpace ∷ LinearObjective ∷ []) 7)
table_row client.LpMinVWide =
    may_fail (at_rays least ∷ [])
    (plain_rule (codes "lp_min_v_wide") (MinimalValue ∷ []) (Vertices ∷ LinealitySpace ∷ LinearObjective ∷ []) 7)
table_row client.LpMaxFaceWide =
    may_fail (at_face greatest ∷ [])
    (plain_rule (codes "lp_max_face_wide") (MaximalFace ∷ []) (Vertices ∷ MaximalValue ∷ LinearObjective ∷ []) 4)
table_row client.LpMinFaceWide =
    may_fail (at_face least ∷ [])
    (plain_rule (codes "lp_min_face_wide") (MinimalFace ∷ []) (Vertices ∷ MinimalValue ∷ LinearObjective ∷ []) 4)
table_row client.FanDimsWide =
    may_fail (eliminates cone_rows ∷ []) (plain_rule (codes "fan_dims_wide") (MaximalConesDims ∷ [])
    (Vertices ∷ LinealitySpace ∷ MaximalCones ∷ []) 5)
table_row client.BbFacetsWide =
    may_fail by_placing (plain_rule (codes "bb_facets_wide") (Facets ∷ AffineHull ∷ [])
    (Points ∷ InputLineality ∷ []) 46)
table_row client.BbFacetsVWide =
    may_fail by_placing
    (plain_rule (codes "bb_facets_v_wide") (Facets ∷ AffineHull ∷ PlacingTriangulation ∷ [])
    (Vertices ∷ LinealitySpace ∷ []) 36)
table_row client.PlacingWide =
    may_fail by_placing (plain_rule (codes "placing_wide") (PlacingTriangulation ∷ [])
    (Vertices ∷ LinealitySpace ∷ []) 26)
table_row client.RegularCellsWide =
    may_fail (lifting ∷ []) (plain_rule (codes "regular_cells_wide") (RegularCells ∷ [])
    (Sites ∷ SiteHeights ∷ []) 41)
table_row client.DelaunayWide =
    may_fail (raising ∷ []) (plain_rule (codes "delaunay_wide") (DelaunayCells ∷ []) (Sites ∷ []) 46)

-- the rule that a row says: the kind of its client, which bears the label as its name, and the weight
abbrev pub rule_in : RuleRow → StandardRule
rule_in r = record {
  kind = record (finding r.label r.targets r.sources) { must = set_of r.must };
  weight = r.weight;
}

abbrev pub standard_row : StandardClient → StandardRule
standard_row c = rule_in (table_row c)

-- the standard ones, in the order of the standard book
abbrev pub standard_clients : List StandardClient
standard_clients =
    client.DdVertices ∷ client.DdFacets ∷ client.DdFacetsV ∷ client.DdVerticesF ∷ client.ThinPointsLp
    ∷ client.ThinInequalitiesLp ∷ client.ThinPointsF ∷ client.ThinInequalitiesV ∷ client.VerticesFromSets
    ∷ client.FacetsFromSets
    ∷ client.PointsFromVertices ∷ client.InequalitiesFromFacets ∷ client.LinealityFromFacets
    ∷ client.HullFromVertices ∷ client.ConeDimV
    ∷ client.ConeDimSpan ∷ client.ConeDimPoints ∷ client.LinealityDim ∷ client.CombinatorialDim
    ∷ client.NVertices
    ∷ client.NVerticesSets ∷ client.NFacets ∷ client.NFacetsSets ∷ client.Feasible ∷ client.FeasibleLp
    ∷ client.Bounded ∷ client.FarFace ∷ client.Pointed ∷ client.FullDim ∷ client.Centered
    ∷ client.Incidence ∷ client.VertexSizes ∷ client.FacetSizes ∷ client.Simple ∷ client.Simplicial
    ∷ client.Faces ∷ client.FVector ∷ client.F2Vector ∷ client.HVector ∷ client.GraphOfSets
    ∷ client.GraphOfFaces ∷ client.DualGraph ∷ client.VertexDegrees ∷ client.Diameter ∷ client.DualDiameter
    ∷ client.NEdges ∷ client.NRidges ∷ client.LpMax ∷ client.LpMin ∷ client.LpMaxRows
    ∷ client.LpMinRows ∷ client.LpMaxV ∷ client.LpMinV ∷ client.LpMaxFace ∷ client.LpMinFace
    ∷ client.FanDims ∷ client.FanDim ∷ client.FanPure ∷ client.FanSimplicial ∷ client.FanSize
    ∷ client.BbFacets ∷ client.BbFacetsV ∷ client.Placing ∷ client.RegularCells ∷ client.Delaunay ∷ []

-- those whose clients answer by wide numbers where the numbers on the way leave the range: each has the targets,
-- sources and ways to fail of the standard one of its name without "_wide", and weighs more; that of incidence has no
-- way to fail
abbrev pub wide_clients : List StandardClient
wide_clients =
    client.DdVerticesWide ∷ client.DdFacetsWide ∷ client.DdFacetsVWide ∷ client.DdVerticesFWide
    ∷ client.ThinPointsLpWide ∷ client.ThinInequalitiesLpWide
    ∷ client.ThinPointsFWide ∷ client.ThinInequalitiesVWide ∷ client.VerticesFromSetsWide
    ∷ client.FacetsFromSetsWide ∷ client.LinealityFromFacetsWide ∷ client.HullFromVerticesWide
    ∷ client.ConeDimVWide ∷ client.ConeDimPointsWide ∷ client.FeasibleLpWide ∷ client.IncidenceWide
    ∷ client.LpMaxWide ∷ client.LpMinWide ∷ client.LpMaxRowsWide ∷ client.LpMinRowsWide
    ∷ client.LpMaxVWide ∷ client.LpMinVWide ∷ client.LpMaxFaceWide ∷ client.LpMinFaceWide
    ∷ client.FanDimsWide
    ∷ client.BbFacetsWide ∷ client.BbFacetsVWide ∷ client.PlacingWide ∷ client.RegularCellsWide ∷ client.DelaunayWide ∷ []

abbrev pub standard_kind : StandardClient → Kind
standard_kind c = (standard_row c).kind

-- the standard kinds: those of the standard ones, and behind them those of the wide ones
abbrev pub standard_kinds_list : List Kind
standard_kinds_list = map standard_kind standard_clients ++ map standard_kind wide_clients
