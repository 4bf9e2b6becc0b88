-- The example is a lemma of Refusals.
use Rattle.pm_geom.proofs.Refusals.{is_refused}
use Rattle.pm_geom.proofs.example_refusals.Goals as goal

pub returns : goal.returns
returns c = is_refused
