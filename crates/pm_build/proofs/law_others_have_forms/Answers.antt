use Rattle.pm_build.proofs.OtherForms.{others_forms}
use Rattle.pm_build.proofs.law_others_have_forms.Goals as goal

pub returns : goal.returns
returns c = others_forms
