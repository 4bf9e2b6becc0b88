use Rattle.pm_clients_geom.proofs.Examples.{rays_are_read}
use Rattle.pm_clients_geom.proofs.example_rays.Goals as goal

pub returns : goal.returns
returns c = rays_are_read
