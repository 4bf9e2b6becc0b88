use Rattle.pm_vector.proofs.Columns.{zero_by_columns}
use Rattle.pm_vector.proofs.law_zero_by_columns.Goals as goal

pub returns : goal.returns
returns c = zero_by_columns
