use Rattle.pm_laws_normal_fans.proofs.SumRows.{sum_rows_generate}
use Rattle.pm_laws_normal_fans.proofs.law_sum_rows_generate.Goals as goal

pub returns : goal.returns
returns c = sum_rows_generate
