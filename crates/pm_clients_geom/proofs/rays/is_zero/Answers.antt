use Rattle.pm_clients_geom.proofs.PutRays.{nought_zero, zero_nought}
use Rattle.pm_clients_geom.proofs.rays.is_zero.Goals as goal

pub returns : goal.returns
returns c =
    let test = rw c.as_slice.ensures.value at c.are_zero.ensures in
    (λ t. nought_zero c.args.row.now (test.0 t), λ z. test.1 (zero_nought c.args.row.now z))
