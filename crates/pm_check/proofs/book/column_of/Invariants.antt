-- What is left goes on from the column so far.
use Rattle.std.proofs.Common.{◌≡◌, ◌≤◌, ◌+◌, drop}
use Rattle.pm_check.specs.Books.{column_from}
use Rattle.pm_check.proofs.book.column_of.Given as goal

abbrev pub invariant-loop-b : goal.invariant-loop-b
invariant-loop-b l = record {
  same : column_from l.column (drop l.b-index l.front) ≡ column_from 1 l.front;
  fits : l.column ≤ l.b-index + 1;
}
