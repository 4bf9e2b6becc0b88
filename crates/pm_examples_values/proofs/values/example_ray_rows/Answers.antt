use Rattle.pm_examples_values.proofs.RayRowExamples.{ray_rows_are_read}
use Rattle.pm_examples_values.proofs.values.example_ray_rows.Goals as goal

pub returns : goal.returns
returns c = ray_rows_are_read
