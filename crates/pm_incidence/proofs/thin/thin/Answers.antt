use Rattle.pm_incidence.proofs.Thinned.{kept_within, thin_generators, thinned_cols, thinned_length}
use Rattle.pm_incidence.proofs.thin.thin.Goals as goal
use Rattle.std.proofs.Common.{arith, sym}

pub returns-clause-generators : goal.returns-clause-generators
returns-clause-generators c = λ E agree.
    let k = rw (sym c.kept.view_is) at c.in_ok-kept.ensures.kept in
    let s = rw c.deref.ensures.value at c.in_ok-rays.ensures.thinned in
    thin_generators c.args.cols c.args.rows.now c.args.lines.now c.args.cuts.now E c.requires.row_cols c.requires.line_cols c.requires.cut_cols agree _ _ k.basis k.sets k.marks k.zeros k.marked _ k.kept s.rows s.thinned c.in_ok-rays.rays.items s.permutation s.sorted

pub returns-clause-cols : goal.returns-clause-cols
returns-clause-cols c =
    let k = rw (sym c.kept.view_is) at c.in_ok-kept.ensures.kept in
    let s = rw c.deref.ensures.value at c.in_ok-rays.ensures.thinned in
    thinned_cols c.args.cols _ _ c.args.rows.now _ c.in_ok-rays.rays.items c.requires.row_cols (kept_within k) s

pub returns-clause-few : goal.returns-clause-few
returns-clause-few c =
    let s = rw c.deref.ensures.value at c.in_ok-rays.ensures.thinned in
    let e = thinned_length _ _ c.args.rows.now _ c.in_ok-rays.rays.items s in
    let f = rw (sym c.kept.view_is) at c.in_ok-kept.ensures.few in
    omega arith
