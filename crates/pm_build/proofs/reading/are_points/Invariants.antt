-- All rows pass the test where those that are left do.
use Rattle.pm_build.proofs.reading.are_points.Given as goal
use Rattle.pm_object_type.specs.declared.object_type.ObjectType.TheVariants.{Polytope}
use Rattle.pm_props.specs.declared.property.PropId.TheVariants.{Points}
use Rattle.pm_types.specs.Forms.{is_row}
use Rattle.std.proofs.Common.{drop, ◌≡◌}
use Rattle.std.specs.List.{list_all}

abbrev pub invariant-loop-i : goal.invariant-loop-i
invariant-loop-i l = list_all (is_row Polytope Points) l.matrix.rows ≡ list_all (is_row Polytope Points) (drop l.i l.matrix.rows)
