use Rattle.pm_vector.proofs.Rank.{basis_gives_rank}
use Rattle.pm_elim.proofs.wide_bases.wide_rank.Goals as goal
use Rattle.std.proofs.Common.{arith, length, ◌≡◌}

pub returns-clause-rank : goal.returns-clause-rank
returns-clause-rank c =
    let b = c.in_ok-basis.ensures.basis in
    let counted = c.len.ensures in
    let whole = c.in_ok-basis.basis.rows.ok.0 in
    let e : c.len.result ≡ length c.in_ok-basis.basis.rows.items = omega arith in
    rw e (basis_gives_rank c.args.cols c.in_ok-basis.basis.rows.items c.in_ok-basis.basis.pivots.items c.args.rows.now b.echelon.basis b.span)
