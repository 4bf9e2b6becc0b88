use Rattle.std.proofs.Common.{◌-◌, length}
use Rattle.pm_books.proofs.read.+more_rules.Given as goal
use Rattle.std.specs.Prelude.{◌+◌}
use Rattle.pm_limits.specs.Limits.{most_rules}

abbrev pub decreases-more_rules : goal.decreases-more_rules
decreases-more_rules l = (most_rules + 1) - length l.rules.items
