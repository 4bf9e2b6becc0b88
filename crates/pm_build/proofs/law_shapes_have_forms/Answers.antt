use Rattle.pm_build.proofs.FormLaws.{shapes_forms}
use Rattle.pm_build.proofs.law_shapes_have_forms.Goals as goal

pub returns : goal.returns
returns c = shapes_forms
