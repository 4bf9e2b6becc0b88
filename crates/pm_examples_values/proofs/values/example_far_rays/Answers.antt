use Rattle.pm_examples_values.proofs.ConeExamples.{far_rays_are_read}
use Rattle.pm_examples_values.proofs.values.example_far_rays.Goals as goal

pub returns : goal.returns
returns c = far_rays_are_read
