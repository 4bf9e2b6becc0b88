use Rattle.pm_incidence.proofs.ThinFails.{facets_fail}
use Rattle.pm_incidence.proofs.Described.{half_length}
use Rattle.pm_incidence.proofs.facets.kept_halves.Goals as goal
use Rattle.std.proofs.Common.{arith}
use Rattle.std.specs.Prelude.{length, ◌≤◌, ◌^◌}

pub returns-in-Err-clause-failed : goal.returns-in-Err-clause-failed
returns-in-Err-clause-failed c = rw c.exchanged.ensures.exchanged (facets_fail c.args.of c.args.cols c.args.rows.now c.args.equations.now c.args.rays.now c.in-Err.fail (rw c.requires.halves at c.in-Err.ensures.failed) c.in-Err.ensures.ranged)

pub kept_of-requires-clause-few_rows : goal.kept_of-requires-clause-few_rows
kept_of-requires-clause-few_rows c =
    let f = half_length c.args.of c.args.cols c.args.rows.now in
    let few = c.requires.few_rows in
    rw c.requires.halves (omega arith)
