use Rattle.pm_run.proofs.DemoTexts.{shape_written}
use Rattle.pm_run.proofs.demo.push_shape.Goals as goal

pub returns : goal.returns
returns c = shape_written c.push_str-3.result _ c.args.shape.now _ _ _ c.in_ok-push_str.ensures.bytes c.in_ok-push_str-2.ensures.bytes c.push_str-3.ensures.bytes
