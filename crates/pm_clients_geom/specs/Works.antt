-- The standard client of each work of a family.
use Rattle.pm_clients_geom.specs.declared.hulls.HullWork.{HullWork}
use Rattle.pm_clients_geom.specs.declared.hulls.HullWork.TheVariants as hull
use Rattle.pm_clients_geom.specs.declared.placing.PlaceWork.{PlaceWork}
use Rattle.pm_clients_geom.specs.declared.placing.PlaceWork.TheVariants as place
use Rattle.pm_clients_geom.specs.declared.thinning.ThinWork.{ThinWork}
use Rattle.pm_clients_geom.specs.declared.thinning.ThinWork.TheVariants as thin
use Rattle.pm_clients_geom.specs.declared.redundancy.RedundancyWork.{RedundancyWork}
use Rattle.pm_clients_geom.specs.declared.redundancy.RedundancyWork.TheVariants as redundancy
use Rattle.pm_clients_geom.specs.declared.rows.RowsWork.{RowsWork}
use Rattle.pm_clients_geom.specs.declared.rows.RowsWork.TheVariants as rows
use Rattle.pm_clients_geom.specs.declared.dims.DimWork.{DimWork}
use Rattle.pm_clients_geom.specs.declared.dims.DimWork.TheVariants as dimension
use Rattle.pm_standard.specs.declared.standard.StandardClient.{StandardClient}
use Rattle.pm_standard.specs.declared.standard.StandardClient.TheVariants as client

-- of double description
abbrev pub hull_client : HullWork → StandardClient
hull_client hull.DdVertices = client.DdVertices
hull_client hull.DdFacets = client.DdFacets
hull_client hull.DdFacetsV = client.DdFacetsV
hull_client hull.DdVerticesF = client.DdVerticesF
hull_client hull.DdVerticesWide = client.DdVerticesWide
hull_client hull.DdFacetsWide = client.DdFacetsWide
hull_client hull.DdFacetsVWide = client.DdFacetsVWide
hull_client hull.DdVerticesFWide = client.DdVerticesFWide

-- of those that place rays
abbrev pub place_client : PlaceWork → StandardClient
place_client place.BbFacets = client.BbFacets
place_client place.BbFacetsV = client.BbFacetsV
place_client place.Placing = client.Placing
place_client place.BbFacetsWide = client.BbFacetsWide
place_client place.BbFacetsVWide = client.BbFacetsVWide
place_client place.PlacingWide = client.PlacingWide

-- of those that thin one description by the other, or find one from sets
abbrev pub thinning_client : ThinWork → StandardClient
thinning_client thin.ThinPointsF = client.ThinPointsF
thinning_client thin.ThinInequalitiesV = client.ThinInequalitiesV
thinning_client thin.VerticesFromSets = client.VerticesFromSets
thinning_client thin.FacetsFromSets = client.FacetsFromSets
thinning_client thin.ThinPointsFWide = client.ThinPointsFWide
thinning_client thin.ThinInequalitiesVWide = client.ThinInequalitiesVWide
thinning_client thin.VerticesFromSetsWide = client.VerticesFromSetsWide
thinning_client thin.FacetsFromSetsWide = client.FacetsFromSetsWide

-- of those that thin a description by linear programs, and of the one that asks whether there is a point
abbrev pub redundancy_client : RedundancyWork → StandardClient
redundancy_client redundancy.ThinPointsLp = client.ThinPointsLp
redundancy_client redundancy.ThinInequalitiesLp = client.ThinInequalitiesLp
redundancy_client redundancy.FeasibleLp = client.FeasibleLp
redundancy_client redundancy.ThinPointsLpWide = client.ThinPointsLpWide
redundancy_client redundancy.ThinInequalitiesLpWide = client.ThinInequalitiesLpWide
redundancy_client redundancy.FeasibleLpWide = client.FeasibleLpWide

-- of those that find rows
abbrev pub rows_client : RowsWork → StandardClient
rows_client rows.PointsFromVertices = client.PointsFromVertices
rows_client rows.InequalitiesFromFacets = client.InequalitiesFromFacets
rows_client rows.LinealityFromFacets = client.LinealityFromFacets
rows_client rows.HullFromVertices = client.HullFromVertices
rows_client rows.LinealityFromFacetsWide = client.LinealityFromFacetsWide
rows_client rows.HullFromVerticesWide = client.HullFromVerticesWide

-- of those that find a dimension
abbrev pub dimension_client : DimWork → StandardClient
dimension_client dimension.ConeDimV = client.ConeDimV
dimension_client dimension.ConeDimSpan = client.ConeDimSpan
dimension_client dimension.ConeDimPoints = client.ConeDimPoints
dimension_client dimension.LinealityDim = client.LinealityDim
dimension_client dimension.CombinatorialDim = client.CombinatorialDim
dimension_client dimension.ConeDimVWide = client.ConeDimVWide
dimension_client dimension.ConeDimPointsWide = client.ConeDimPointsWide
