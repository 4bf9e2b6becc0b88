use Rattle.pm_clients_geom.proofs.PointLaws.{pointless_has_none}
use Rattle.pm_clients_geom.proofs.points.is_feasible.Goals as goal
use Rattle.pm_redund.proofs.Lifted.{objective_length}
use Rattle.std.proofs.Common.{arith, false, true, ◌≡◌}

pub greatest_by-requires-clause-some : goal.greatest_by-requires-clause-some
greatest_by-requires-clause-some c = rw (c.deref.ensures.value, c.in_ok-objective.ensures, objective_length c.args.cols) c.requires.some_columns

pub greatest_by-requires-clause-few : goal.greatest_by-requires-clause-few
greatest_by-requires-clause-few c =
    let f = c.requires.few_inequalities in
    let g = c.requires.few_equations in
    let h = c.requires.few_columns in
    rw (c.deref.ensures.value, c.in_ok-objective.ensures, objective_length c.args.cols) (omega arith)

pub greatest_by-requires-clause-inequality_cols : goal.greatest_by-requires-clause-inequality_cols
greatest_by-requires-clause-inequality_cols c = rw (c.deref.ensures.value, c.in_ok-objective.ensures, objective_length c.args.cols) c.requires.inequality_cols

pub greatest_by-requires-clause-equation_cols : goal.greatest_by-requires-clause-equation_cols
greatest_by-requires-clause-equation_cols c = rw (c.deref.ensures.value, c.in_ok-objective.ensures, objective_length c.args.cols) c.requires.equation_cols

pub returns-clause-found : goal.returns-clause-found
returns-clause-found c =
    let none = rw c.in-Minus.is at c.in_ok-greatest_by.ensures.value in (
      λ t. absurd (let e : false ≡ true = t in cc),
      λ h. absurd (pointless_has_none c.args.cols c.args.inequalities.now c.args.equations.now none h),
    )
