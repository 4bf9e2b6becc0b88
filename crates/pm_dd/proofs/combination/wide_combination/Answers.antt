use Rattle.pm_dd.proofs.Combinations.{combined_is}
use Rattle.pm_dd.proofs.combination.wide_combination.Goals as goal
use Rattle.pm_vector.specs.Rows.{dot}
use Rattle.pm_vector.specs.WideInts.{value_of}
use Rattle.std.proofs.Common.{◌≡◌}

pub returns-clause-combination : goal.returns-clause-combination
returns-clause-combination c =
    let p : value_of c.wide_dot-p.result ≡ dot c.args.row.now c.args.up.now = rw (c.as_slice.ensures.value, c.as_slice-2.ensures.value) at c.wide_dot-p.ensures.value in
    let q : value_of c.wide_dot-q.result ≡ dot c.args.row.now c.args.down.now = rw (c.as_slice-3.ensures.value, c.as_slice-4.ensures.value) at c.wide_dot-q.ensures.value in
    rw combined_is (rw (p, q) at c.primitive_combination.ensures.primitive)

pub returns-clause-lost : goal.returns-clause-lost
returns-clause-lost c =
    let p : value_of c.wide_dot-p.result ≡ dot c.args.row.now c.args.up.now = rw (c.as_slice.ensures.value, c.as_slice-2.ensures.value) at c.wide_dot-p.ensures.value in
    let q : value_of c.wide_dot-q.result ≡ dot c.args.row.now c.args.down.now = rw (c.as_slice-3.ensures.value, c.as_slice-4.ensures.value) at c.wide_dot-q.ensures.value in
    rw combined_is (rw (p, q) at c.primitive_combination.ensures.wide)
