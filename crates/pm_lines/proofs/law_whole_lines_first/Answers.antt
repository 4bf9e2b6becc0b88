use Rattle.pm_lines.proofs.Order.{whole_lines_first}
use Rattle.pm_lines.proofs.law_whole_lines_first.Goals as goal

pub returns : goal.returns
returns c = whole_lines_first
