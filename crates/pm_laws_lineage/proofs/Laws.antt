-- The law of lineage, by the laws of new objects.
use Rattle.pm_laws_things.proofs.PolarLaws.{polar_described}
use Rattle.pm_laws_things.proofs.ProductLaws.{product_described}
use Rattle.pm_laws_things.proofs.PyramidLaws.{pyramid_described}
use Rattle.pm_laws_things.proofs.ShapeLaws.{cross_described, cube_described, cyclic_described, simplex_described}
use Rattle.pm_laws_things.proofs.SumDescribed.{sum_described}
use Rattle.pm_laws_things.proofs.FaceRows.{face_described}
use Rattle.pm_laws_things.proofs.NormalRows.{normal_described}
use Rattle.pm_laws_things.proofs.RefinedRows.{refinement_described}
use Rattle.pm_laws_lineage.proofs.Builds.{BuildLaws}
use Rattle.pm_laws_lineage.proofs.Steps.{run_stands}
use Rattle.pm_laws_lineage.specs.Laws.{RunsKeepLineage}
use Rattle.pm_laws_things.proofs.OrdersExist.{orders_exist}

pub build_laws : BuildLaws
build_laws = record {
  cube = cube_described;
  simplex = simplex_described;
  cross = cross_described;
  cyclic = cyclic_described;
  polar = polar_described;
  pyramid = pyramid_described;
  product = product_described;
  sum = sum_described;
  normal = normal_described;
  face = face_described;
  refinement = refinement_described;
  orders = orders_exist;
}

pub runs_keep_lineage : RunsKeepLineage
runs_keep_lineage = run_stands build_laws
