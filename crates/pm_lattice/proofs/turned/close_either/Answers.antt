-- What the sets of rows share that are closed for the columns.
use Rattle.pm_lattice.proofs.Duality.{shared_closed, shared_count, shared_meets}
use Rattle.pm_lattice.proofs.turned.close_either.Goals as goal
use Rattle.pm_lattice.specs.Closures.{IsClosureOf}
use Rattle.std.proofs.Common.{arith, subst}

pub returns-in-All : goal.returns-in-All
returns-in-All c =
    let t = subst (λ x. IsClosureOf c.in_ok-columns.columns x) c.in-All.is c.in_ok-sets.ensures in
    let h = rw c.deref.ensures.value at c.in_ok-faces_of-in-All.ensures in (
      shared_closed c.args.rows.now c.in_ok-columns.columns c.in_ok-columns.ensures c.in-All.sets.items c.in_ok-faces_of-in-All.field-0.items t.0 h,
      omega (arith, t.1, shared_count c.args.rows.now c.in_ok-columns.columns c.in_ok-columns.ensures c.in-All.sets.items c.in_ok-faces_of-in-All.field-0.items (record { each = t.0.each; lengths = t.0.lengths; ordered = t.0.ordered }) h),
    )

pub returns : goal.returns
returns c =
    let t = subst (λ x. IsClosureOf c.in_ok-columns.columns x) c.in-Many.is c.in_ok-sets.ensures in
    let h = rw c.deref-in-Many.ensures.value at c.in_ok-faces_of-in-Many.ensures in (
      shared_meets c.args.rows.now c.in_ok-columns.columns c.in_ok-columns.ensures c.in-Many.sets.items c.in_ok-faces_of-in-Many.field-0.items t.0 h,
      omega (arith, t.1, shared_count c.args.rows.now c.in_ok-columns.columns c.in_ok-columns.ensures c.in-Many.sets.items c.in_ok-faces_of-in-Many.field-0.items t.0 h),
    )
