-- What was read so far stands before the rest.
use Rattle.std.proofs.Common.{◌≡◌, ◌++◌, length}
use Rattle.std.specs.Prelude.{All, flat_map}
use Rattle.pm_printed.specs.Printed.{IsRow}
use Rattle.pm_printed.specs.Texts.{row_text}
use Rattle.pm_printed.proofs.read.rows_of.Given as goal

abbrev pub decreases-loop-row : goal.decreases-loop-row
decreases-loop-row l = length l.rest

abbrev pub invariant-loop-row : goal.invariant-loop-row
invariant-loop-row l = record {
  each : All IsRow l.rows.items;
  whole : l.fn.text ≡ flat_map row_text l.rows.items ++ l.rest;
}
