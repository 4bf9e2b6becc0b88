use Rattle.pm_vector.specs.Rows.{dot}
use Rattle.pm_optima.proofs.products.products.Goals as goal
use Rattle.std.proofs.Common.{ap, arith, length, map, take, ◌∙◌, ◌≡◌}
use Rattle.std.proofs.Math.Seq.{take-length}

pub returns-clause-products : goal.returns-clause-products
returns-clause-products c =
    let end : c.loop-x.x-index ≡ length c.args.rows.now = omega arith in
    c.loop-x.invariant ∙ ap (λ n. map (dot c.args.row.now) (take n c.args.rows.now)) end ∙ ap (map (dot c.args.row.now)) (take-length c.args.rows.now)
