use Rattle.std.proofs.Common.{length}
use Rattle.pm_books.proofs.parts.Conditions.+and_more.Given as goal

abbrev pub decreases-and_more : goal.decreases-and_more
decreases-and_more l = length l.tokens.now
