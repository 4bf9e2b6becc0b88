use Rattle.pm_elim.proofs.EvidenceLaws.{on_ok_weaker}
use Rattle.pm_elim.proofs.ExtendedLaws.{extended_cols, extended_unique}
use Rattle.pm_elim.proofs.PrefixLaws.{at_most_columns}
use Rattle.pm_elim.proofs.nulls.extended_basis.Goals as goal
use Rattle.pm_elim.proofs.nulls.extended_basis.Goals.{After-len}
use Rattle.pm_vector.specs.Evidence.{IsExtended}
use Rattle.std.proofs.Common.{arith, length, ◌≡◌}

count : (c : After-len) → c.len.result ≡ length c.args.basis.now.rows.items
count c = let n = c.len.ensures in let whole = c.args.basis.now.rows.ok.0 in omega arith

listed : (c : After-len) → IsExtended c.args.cols c.args.basis.now.rows.items c.in_ok-listed.listed.items
listed c = rw c.deref.ensures.value at c.in_ok-listed.ensures

pub basis_of-requires-clause-columns : goal.basis_of-requires-clause-columns
basis_of-requires-clause-columns c = rw (count c, c.deref-2.ensures.value) (extended_cols c.args.cols c.args.basis.now.rows.items c.in_ok-listed.listed.items c.requires.is_basis.cols (listed c))

pub basis_of-requires-clause-few_columns : goal.basis_of-requires-clause-few_columns
basis_of-requires-clause-few_columns c =
    let few = at_most_columns c.args.cols c.args.basis.now.rows.items c.args.basis.now.pivots.items c.requires.is_basis in
    let n = count c in
    omega arith

pub returns-clause-never_wide : goal.returns-clause-never_wide
returns-clause-never_wide c =
    let at = (goal.at.returns-clause-never_wide c).After-len in
    on_ok_weaker c.basis_of.result _ _
    (λ never e w. never e (rw (count at, c.deref-2.ensures.value, extended_unique c.args.cols c.args.basis.now.rows.items c.in_ok-listed.listed.items w.listed (listed at) w.extended) w.step))
    c.basis_of.ensures.never_wide
