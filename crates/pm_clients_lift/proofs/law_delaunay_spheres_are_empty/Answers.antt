use Rattle.pm_clients_lift.proofs.FoundLifted.{delaunay_spheres_are_empty}
use Rattle.pm_clients_lift.proofs.law_delaunay_spheres_are_empty.Goals as goal

pub returns : goal.returns
returns c = delaunay_spheres_are_empty
