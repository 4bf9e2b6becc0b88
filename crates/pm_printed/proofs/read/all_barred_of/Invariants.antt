-- What was read so far stands before the rest.
use Rattle.std.proofs.Common.{◌≡◌, ◌++◌, length, map}
use Rattle.std.specs.Prelude.{All, flat_map}
use Rattle.pm_printed.specs.Printed.{IsBarred}
use Rattle.pm_printed.specs.Readings.{seen}
use Rattle.pm_printed.specs.Texts.{barred_text}
use Rattle.pm_printed.proofs.read.all_barred_of.Given as goal

abbrev pub decreases-loop-one : goal.decreases-loop-one
decreases-loop-one l = length l.rest

abbrev pub invariant-loop-one : goal.invariant-loop-one
invariant-loop-one l = record {
  each : All (IsBarred l.rules) (map seen l.told.items);
  whole : l.fn.text ≡ flat_map (barred_text l.rules) (map seen l.told.items) ++ l.rest;
}
