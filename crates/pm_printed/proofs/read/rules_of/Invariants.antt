-- What was read so far stands before the rest.
use Rattle.std.proofs.Common.{◌≡◌, ◌++◌, length}
use Rattle.std.specs.Prelude.{All, flat_map}
use Rattle.pm_printed.specs.Printed.{IsOfBook}
use Rattle.pm_printed.specs.Texts.{rule_text}
use Rattle.pm_printed.proofs.read.rules_of.Given as goal

abbrev pub decreases-loop-id : goal.decreases-loop-id
decreases-loop-id l = length l.rest

abbrev pub invariant-loop-id : goal.invariant-loop-id
invariant-loop-id l = record {
  each : All (IsOfBook l.rules) l.chain.items;
  whole : l.fn.text ≡ flat_map (rule_text l.rules) l.chain.items ++ l.rest;
}
