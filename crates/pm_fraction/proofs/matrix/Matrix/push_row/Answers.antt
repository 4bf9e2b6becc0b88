use Rattle.pm_fraction.proofs.Tables.{IsMatrix-push}
use Rattle.pm_fraction.proofs.matrix.Matrix.push_row.Goals as goal
use Rattle.std.proofs.Common.{arith, length, ◌≡◌}

pub invariant_of-self-2 : goal.invariant_of-self-2
invariant_of-self-2 c =
    let value = c.in_ok-copy.ensures.value in
    let same : length c.in_ok-copy.copy.items ≡ c.self.inside.cols = rw value (omega arith) in
    rw c.in_ok-push.ensures.items (IsMatrix-push (λ r. r.items) c.self.inside.cols c.self.inside.rows.items c.in_ok-copy.copy c.self.invariant same c.in_ok-copy.ensures.entries)
