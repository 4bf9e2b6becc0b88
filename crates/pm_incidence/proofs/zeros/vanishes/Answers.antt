use Rattle.pm_incidence.proofs.Products.{itself, stays_turned}
use Rattle.pm_incidence.proofs.zeros.vanishes.Goals as goal
use Rattle.pm_vector.specs.Products.{ProductsStay}
use Rattle.std.proofs.Common.{rules}

pub returns-clause-failed : goal.returns-clause-failed
returns-clause-failed c =
    let row = c.args.row.now in
    let cut = c.args.cut.now in
    let wide : ProductsStay cut row → ⊥ = search rules in
    rw c.in_ok-wide_product.ensures (record {
      generator = itself row;
      inequality = itself cut;
      wide = λ h. wide (stays_turned row cut h);
    })
