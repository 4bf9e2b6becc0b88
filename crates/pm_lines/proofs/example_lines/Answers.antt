use Rattle.pm_lines.proofs.Examples.{lines_are_whole, lines_come}
use Rattle.pm_lines.proofs.example_lines.Goals as goal

pub returns : goal.returns
returns c = record { whole = lines_are_whole; coming = lines_come }
