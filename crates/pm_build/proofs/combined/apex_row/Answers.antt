use Rattle.pm_build.proofs.RowLaws.{apex_made}
use Rattle.pm_build.proofs.combined.apex_row.Goals as goal
use Rattle.std.proofs.Common.{arith, ◌-◌}

pub returns : goal.returns
returns c = rw (c.in_ok-push.ensures.items, c.in_ok-made.ensures, c.one.ensures) (apex_made c.args.n (c.args.n - 1) (let h = c.requires.some in omega arith))
