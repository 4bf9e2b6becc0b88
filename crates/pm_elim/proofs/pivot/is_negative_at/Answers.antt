use Rattle.pm_vector.specs.Rows.{entry}
use Rattle.pm_elim.proofs.PivotLaws.{lt_z_reads}
use Rattle.pm_elim.proofs.pivot.is_negative_at.Goals as goal
use Rattle.std.proofs.Common.{FitsSigned, rules}
use Rattle.std.proofs.lemmas.Int.{to_z-of_z}
use Rattle.std.specs.Int.{w128}
use Rattle.std.specs.Prelude.{pos}

pub returns : goal.returns
returns c =
    let fits : FitsSigned w128 c.get.result = search rules in
    rw (to_z-of_z w128 c.get.result fits, c.get.ensures.value) (lt_z_reads (entry c.args.row.now c.args.i) (pos 0))
