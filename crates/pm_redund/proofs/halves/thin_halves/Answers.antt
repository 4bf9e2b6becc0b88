use Rattle.pm_incidence.proofs.Thinned.{thinned_length}
use Rattle.pm_redund.proofs.Canonical.{thin_generators, thinned_cols}
use Rattle.pm_redund.proofs.halves.thin_halves.Goals as goal
use Rattle.std.proofs.Common.{arith, sym}

pub returns-clause-generators : goal.returns-clause-generators
returns-clause-generators c =
    let k = rw (sym c.kept.view_is) at c.in_ok-kept.ensures.kept in
    let s = rw c.deref-2.ensures.value at c.in_ok-facets.ensures.thinned in
    thin_generators c.args.cols c.args.halves.now c.args.equations.now c.requires.half_cols c.requires.equation_cols _ _ _ k c.in_ok-facets.facets.items s

pub returns-clause-cols : goal.returns-clause-cols
returns-clause-cols c =
    let k = rw (sym c.kept.view_is) at c.in_ok-kept.ensures.kept in
    let s = rw c.deref-2.ensures.value at c.in_ok-facets.ensures.thinned in
    thinned_cols c.args.cols c.args.halves.now c.args.equations.now c.requires.half_cols c.requires.equation_cols _ _ _ k c.in_ok-facets.facets.items s

pub returns-clause-few : goal.returns-clause-few
returns-clause-few c =
    let s = rw c.deref-2.ensures.value at c.in_ok-facets.ensures.thinned in
    let e = thinned_length _ _ c.args.halves.now _ c.in_ok-facets.facets.items s in
    let f = c.if-len-gt-MOST_ROWS.false in
    let l = c.len.ensures in
    omega arith
