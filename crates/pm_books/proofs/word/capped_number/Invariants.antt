use Rattle.std.proofs.Common.{◌≡◌, ◌≤◌, min, drop}
use Rattle.pm_books.specs.Reading.{number_on}
use Rattle.pm_books.proofs.word.capped_number.Given as goal

abbrev pub invariant-loop-b : goal.invariant-loop-b
invariant-loop-b l = record {
  left : min (number_on l.number (drop l.b-index l.text)) 1000001 ≡ min (number_on 0 l.text) 1000001;
  below : l.number ≤ 1000001;
}
