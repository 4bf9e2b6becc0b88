use Rattle.pm_clients_geom.proofs.PointLaws.{with_first}
use Rattle.pm_clients_geom.proofs.points.has_point.Goals as goal
use Rattle.pm_vector.specs.Evidence.{unit}
use Rattle.pm_incidence.proofs.Described.{half_cols}
use Rattle.pm_object_type.specs.declared.object_type.ObjectType.TheVariants.{Polytope}
use Rattle.std.proofs.Common.{arith}
use Rattle.std.proofs.lemmas.List.{length-append}
use Rattle.std.specs.Prelude.{[], ◌∷◌}

pub is_feasible-requires-clause-inequality_cols : goal.is_feasible-requires-clause-inequality_cols
is_feasible-requires-clause-inequality_cols c = rw (c.deref.ensures.value, c.in_ok-rows.ensures) (half_cols Polytope c.args.cols c.args.inequalities.items c.requires.inequality_cols)

pub is_feasible-requires-clause-few_inequalities : goal.is_feasible-requires-clause-few_inequalities
is_feasible-requires-clause-few_inequalities c =
    let l = length-append c.args.inequalities.items (unit c.args.cols 0 ∷ []) in
    let f = c.requires.few_inequalities in
    rw (c.deref.ensures.value, c.in_ok-rows.ensures) (omega arith)

pub returns-clause-found : goal.returns-clause-found
returns-clause-found c =
    let says = rw (c.deref.ensures.value, c.in_ok-rows.ensures) at c.in_ok-found.ensures.found in
    let same = with_first c.args.cols c.args.inequalities.items c.args.equations.now c.requires.some_columns in
    (λ t. same.0 (says.0 t), λ h. says.1 (same.1 h))
