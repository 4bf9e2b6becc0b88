use Rattle.std.proofs.Common.{length}
use Rattle.pm_books.proofs.parts.+names_beside.Given as goal

abbrev pub decreases-names_beside : goal.decreases-names_beside
decreases-names_beside l = length l.tokens.now
