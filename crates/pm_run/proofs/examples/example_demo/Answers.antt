use Rattle.pm_run.proofs.DemoTexts.{demo_is_read}
use Rattle.pm_run.proofs.examples.example_demo.Goals as goal

pub returns : goal.returns
returns c = demo_is_read
