-- The rows of all values pass where those of the values that are left do.
use Rattle.pm_fan.proofs.conditions.rows_pass.Given as goal
use Rattle.pm_types.specs.Forms.{are_rows}
use Rattle.pm_types.specs.Views.{view_of}
use Rattle.std.proofs.Common.{drop, ◌≡◌}
use Rattle.std.specs.List.{list_all}

abbrev pub invariant-loop-value : goal.invariant-loop-value
invariant-loop-value l = list_all (λ v. are_rows l.f.of v.0 (view_of v.1)) l.f.values.items ≡ list_all (λ v. are_rows l.f.of v.0 (view_of v.1)) (drop l.value-index l.f.values.items)
