use Rattle.std.proofs.Common.{◌≡◌, ◌++◌, drop, map}
use Rattle.pm_filing.specs.Filing.{own, property_with_value}
use Rattle.pm_filing.specs.Views.{value_seen}
use Rattle.pm_object.specs.Views.{held_seen}
use Rattle.pm_saving.proofs.save.own_values.Given as goal

-- what is left is put behind what was put
abbrev pub invariant-loop-h : goal.invariant-loop-h
invariant-loop-h l = map value_seen l.values.items ++ map property_with_value (own (map held_seen (drop l.h-index l.held))) ≡ map property_with_value (own (map held_seen l.held))
