use Rattle.pm_build.proofs.SumForms.{sums_forms}
use Rattle.pm_build.proofs.law_sums_have_forms.Goals as goal

pub returns : goal.returns
returns c = sums_forms
