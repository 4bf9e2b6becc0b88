use Rattle.std.proofs.Common.{◌≡◌, ◌≤◌, length, false}
use Rattle.pm_books.specs.Tokens.{after_gap}
use Rattle.pm_books.proofs.lex.after_gap.Given as goal

abbrev pub invariant-loop-first : goal.invariant-loop-first
invariant-loop-first l = record {
  left : after_gap l.inside l.rest ≡ after_gap false l.bytes;
  within : length l.rest ≤ length l.bytes;
}

abbrev pub decreases-loop-first : goal.decreases-loop-first
decreases-loop-first l = length l.rest
