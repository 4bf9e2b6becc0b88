-- The closure does not go by the order of the rows.
use Rattle.pm_lattice.proofs.Reordered.{closure_moved}
use Rattle.pm_lattice.proofs.closure.close.Goals as goal
use Rattle.pm_lattice.specs.Closures.{IsClosureOf}
use Rattle.std.proofs.lemmas.Result.{IfOk-weaker}

pub returns : goal.returns
returns c = IfOk-weaker c.close_rows.result (IsClosureOf c.in_ok-ordered.ordered) (IsClosureOf c.args.rows.now)
    (λ closure. closure_moved c.args.rows.now c.in_ok-ordered.ordered closure c.in_ok-ordered.ensures.row_len c.in_ok-ordered.ensures.rows) c.close_rows.ensures
