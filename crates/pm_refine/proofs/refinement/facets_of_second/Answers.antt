use Rattle.pm_refine.proofs.Answered.{turned_twice}
use Rattle.pm_refine.proofs.refinement.facets_of_second.Goals as goal

pub returns-in-Err-clause-failed : goal.returns-in-Err-clause-failed
returns-in-Err-clause-failed c = rw (c.with_places_turned.ensures) (turned_twice (λ v. v.items) c.args.cols c.args.cones.now c.args.lines.now c.in-Err.fail c.in-Err.ensures.failed)
