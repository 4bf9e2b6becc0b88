-- Rows in order, and sets that are not among them.
use Rattle.std.specs.Prelude.{◌≡◌, ◌<◌, ◌⊎◌}
use Rattle.pm_props.specs.declared.set.PropSet.{PropSet}
use Rattle.pm_weights.specs.declared.Cost.{Cost}
use Rattle.pm_weights.specs.Weights.{IsBelow}
use Rattle.pm_rules.specs.declared.table.TableRow.{TableRow}

-- the first row costs more, or the last costs the same as the first and the set is below that of the first or above
-- that of the last
abbrev pub IsOutside : TableRow → TableRow → PropSet → Cost → Type 0
IsOutside first last set cost = IsBelow cost first.cost
    ⊎ ((first.cost ≡ last.cost) × ((set < first.set) ⊎ (last.set < set)))
