use Rattle.pm_examples_values.proofs.SiteExamples.{sites_are_right}
use Rattle.pm_examples_values.proofs.values.example_sites.Goals as goal

pub returns : goal.returns
returns c = sites_are_right
