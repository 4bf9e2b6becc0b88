use Rattle.pm_client.proofs.ViewLaws.{has_listed}
use Rattle.pm_client.specs.Sound.{FailsRightly, IsWideOptimum, fail_of_program}
use Rattle.pm_clients_lp.proofs.Facts.{objective_cols, objective_some, program_view, rows_cols, rows_few}
use Rattle.pm_clients_lp.proofs.Failing.{fails_rightly, optimum_holds, rows_fail}
use Rattle.pm_clients_lp.proofs.FoundPrograms.{rows_sound}
use Rattle.pm_clients_lp.proofs.StandardKinds.{has_optimum, row_sources, rows_found, rows_read}
use Rattle.pm_clients_lp.proofs.halves.value_from_rows.Goals as goal
use Rattle.pm_clients_lp.specs.Clients.{FailsBy}
use Rattle.pm_vector.specs.Evidence.{unit}
use Rattle.pm_incidence.proofs.Described.{half_cols}
use Rattle.pm_object_type.specs.declared.object_type.ObjectType.TheVariants.{Polytope}
use Rattle.pm_props.specs.declared.property.PropId.TheVariants.{Equations, Inequalities, LinearObjective}
use Rattle.pm_types.specs.Views.{extended_of}
use Rattle.std.proofs.Common.{[], ap, arith, refl, rules, subst, sym, ◌∙◌, ◌∷◌, ◌≡◌}
use Rattle.std.proofs.lemmas.Bool.{leb-true}
use Rattle.std.proofs.lemmas.List.{length-append}
use Rattle.std.proofs.lemmas.Result.{err_from_is_err_and}
use Rattle.pm_limits.specs.Limits.{most_columns}

pub prove-unreachable-requires : goal.prove-unreachable-requires
prove-unreachable-requires c =
    let v = c.args.view.now in
    let other : ¬ (c.of.result ≡ Polytope) = search rules in
    other (c.of.ensures.value ∙ program_view v c.of.ensures.view (has_listed _ row_sources LinearObjective (rows_read v.kind c.args.sense c.args.wide c.requires.kind)))

pub rows_of-requires-clause-source : goal.rows_of-requires-clause-source
rows_of-requires-clause-source c = has_listed _ row_sources Equations (rows_read c.args.view.now.kind c.args.sense c.args.wide c.requires.kind)

pub rows_of-requires-2-clause-source : goal.rows_of-requires-2-clause-source
rows_of-requires-2-clause-source c = has_listed _ row_sources Inequalities (rows_read c.args.view.now.kind c.args.sense c.args.wide c.requires.kind)

pub objective_of-requires : goal.objective_of-requires
objective_of-requires c = has_listed _ row_sources LinearObjective (rows_read c.args.view.now.kind c.args.sense c.args.wide c.requires.kind)

pub optimum_over-requires-clause-some : goal.optimum_over-requires-clause-some
optimum_over-requires-clause-some c = objective_some c.args.view.now c.of.ensures.view c.objective_of.result.now c.objective_of.ensures

pub optimum_over-requires-clause-few : goal.optimum_over-requires-clause-few
optimum_over-requires-clause-few c =
    let v = c.args.view.now in
    let view = c.of.ensures.view in
    let a = rows_few v view Inequalities refl c.in_ok-inequalities.inequalities.items c.in_ok-inequalities.ensures.read in
    let e = rows_few v view Equations refl c.in_ok-equations.equations.items c.in_ok-equations.ensures.read in
    let n = objective_cols v view c.objective_of.result.now c.objective_of.ensures in
    let k = leb-true v.cols most_columns view.few_cols in
    let l = length-append c.in_ok-inequalities.inequalities.items (unit v.cols 0 ∷ []) in
    rw (c.deref.ensures.value, c.deref-2.ensures.value, c.in_ok-rows.ensures, c.cols.ensures.value) (omega arith)

pub optimum_over-requires-clause-inequality_cols : goal.optimum_over-requires-clause-inequality_cols
optimum_over-requires-clause-inequality_cols c =
    let v = c.args.view.now in
    let view = c.of.ensures.view in
    rw (c.deref.ensures.value, c.in_ok-rows.ensures, c.cols.ensures.value, objective_cols v view c.objective_of.result.now c.objective_of.ensures)
    (half_cols Polytope v.cols c.in_ok-inequalities.inequalities.items (rows_cols v view Inequalities refl c.in_ok-inequalities.inequalities.items c.in_ok-inequalities.ensures.read))

pub optimum_over-requires-clause-equation_cols : goal.optimum_over-requires-clause-equation_cols
optimum_over-requires-clause-equation_cols c =
    let v = c.args.view.now in
    rw (c.deref-2.ensures.value, objective_cols v c.of.ensures.view c.objective_of.result.now c.objective_of.ensures) (rows_cols v c.of.ensures.view Equations refl c.in_ok-equations.equations.items c.in_ok-equations.ensures.read)

pub put_number-requires-clause-target : goal.put_number-requires-clause-target
put_number-requires-clause-target c = rw c.value_in.ensures (has_optimum _ c.args.sense [] (ap (λ d. d.kind.targets) c.requires.empty ∙ rows_found c.args.view.now.kind c.args.sense c.args.wide c.requires.kind))

pub returns-clause-sound : goal.returns-clause-sound
returns-clause-sound c =
    let v = c.args.view.now in
    rows_sound v c.of.ensures.view c.objective_of.result.now c.objective_of.ensures c.args.sense c.in_ok-equations.equations.items c.in_ok-inequalities.inequalities.items (extended_of c.in_ok-value.value)
    c.in_ok-equations.ensures.read c.in_ok-inequalities.ensures.read (rw (c.deref.ensures.value, c.deref-2.ensures.value, c.in_ok-rows.ensures, c.cols.ensures.value) at c.in_ok-value.ensures.value)
    c.in_ok-put_number.ensures.fraction c.args.draft.now c.put_number.new.draft
    (record { targets = rows_found v.kind c.args.sense c.args.wide c.requires.kind; empty = c.requires.empty; put = rw c.value_in.ensures at c.in_ok-put_number.ensures.ok })

pub returns-in_err-value-clause-fails : goal.returns-in_err-value-clause-fails
returns-in_err-value-clause-fails c =
    let v = c.args.view.now in
    let polytope = program_view v c.of.ensures.view (has_listed _ row_sources LinearObjective (rows_read v.kind c.args.sense c.args.wide c.requires.kind)) in
    let w = err_from_is_err_and c.from_residual-in_err-value.result c.from_residual-in_err-value.ensures.1 in
    rw w.1 (subst (FailsBy (IsWideOptimum v)) (sym w.2)
    (rows_fail v c.args.sense c.objective_of.result.now c.objective_of.ensures c.in_err-value.field-0.0 c.args.wide c.requires.kind polytope c.in_ok-equations.equations.items c.in_ok-inequalities.inequalities.items
    c.in_ok-equations.ensures.read c.in_ok-inequalities.ensures.read (rw (c.deref.ensures.value, c.deref-2.ensures.value, c.in_ok-rows.ensures, c.cols.ensures.value) at c.in_err-value.ensures.wide)))

pub returns-in_err-value-clause-failed : goal.returns-in_err-value-clause-failed
returns-in_err-value-clause-failed c =
    let v = c.args.view.now in
    let polytope = program_view v c.of.ensures.view (has_listed _ row_sources LinearObjective (rows_read v.kind c.args.sense c.args.wide c.requires.kind)) in
    let w = err_from_is_err_and c.from_residual-in_err-value.result c.from_residual-in_err-value.ensures.1 in
    rw w.1 (subst (FailsRightly v) (sym w.2) (fails_rightly v (IsWideOptimum v) (optimum_holds v) (fail_of_program c.in_err-value.field-0.0)
    (rows_fail v c.args.sense c.objective_of.result.now c.objective_of.ensures c.in_err-value.field-0.0 c.args.wide c.requires.kind polytope c.in_ok-equations.equations.items c.in_ok-inequalities.inequalities.items
    c.in_ok-equations.ensures.read c.in_ok-inequalities.ensures.read (rw (c.deref.ensures.value, c.deref-2.ensures.value, c.in_ok-rows.ensures, c.cols.ensures.value) at c.in_err-value.ensures.wide))))
