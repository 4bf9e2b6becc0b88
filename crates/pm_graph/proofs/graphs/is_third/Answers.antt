-- The row at the place is the third one.
use Rattle.pm_bits.specs.Sets.{IsSubset}
use Rattle.pm_bits.specs.Table.{row_at}
use Rattle.pm_graph.proofs.graphs.is_third.Goals as goal
use Rattle.std.proofs.Common.{arith, length, rules, subst, ◌<◌, ◌≡◌, ◌≢◌}

pub returns : goal.returns
returns c t =
    let below : c.args.n < length c.args.table.now.rows = omega (arith, c.len.ensures, c.if-n-len.false) in
    let subset : IsSubset c.args.s.now c.row.result.now = c.contains.ensures.0 t in
    (c.args.n, below, c.if-n-i.false, c.if-n-k.false, subst (λ r. IsSubset c.args.s.now r) c.row.ensures.value subset)
