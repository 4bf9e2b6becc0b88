use Rattle.pm_fan.proofs.Forms.{fans_forms}
use Rattle.pm_fan.proofs.law_fans_have_forms.Goals as goal

pub returns : goal.returns
returns c = fans_forms
