use Rattle.pm_client.proofs.ViewLaws.{has_listed}
use Rattle.pm_client.specs.Sound.{FailsRightly, fail_of_program}
use Rattle.pm_clients_lp.proofs.Facts.{objective_cols, objective_some, program_view, rows_cols, rows_few}
use Rattle.pm_clients_lp.proofs.Failing.{dual_holds, facets_fail, fails_rightly}
use Rattle.pm_clients_lp.proofs.FoundPrograms.{facets_sound}
use Rattle.pm_clients_lp.proofs.StandardKinds.{dual_missing, facet_sources, facets_found, facets_read, has_dual, has_optimum}
use Rattle.pm_clients_lp.proofs.halves.value_with_dual.Goals as goal
use Rattle.pm_clients_lp.specs.Clients.{FailsBy, IsWideWithDual, dual}
use Rattle.pm_object_type.specs.declared.object_type.ObjectType.TheVariants.{Polytope}
use Rattle.pm_props.specs.declared.property.PropId.TheVariants.{AffineHull, Facets, LinearObjective}
use Rattle.pm_types.specs.Values.{extended}
use Rattle.pm_types.specs.Views.{extended_of}
use Rattle.std.proofs.Common.{[], ap, arith, refl, rules, subst, sym, ◌∙◌, ◌∷◌, ◌≡◌}
use Rattle.std.proofs.lemmas.Bool.{leb-true}
use Rattle.std.proofs.lemmas.Result.{err_from_is_err_and}
use Rattle.pm_limits.specs.Limits.{most_columns}

pub prove-unreachable-requires : goal.prove-unreachable-requires
prove-unreachable-requires c =
    let v = c.args.view.now in
    let other : ¬ (c.of.result ≡ Polytope) = search rules in
    other (c.of.ensures.value ∙ program_view v c.of.ensures.view (has_listed _ facet_sources LinearObjective (facets_read v.kind c.args.sense c.args.wide c.requires.kind)))

pub rows_of-requires-clause-source : goal.rows_of-requires-clause-source
rows_of-requires-clause-source c = has_listed _ facet_sources AffineHull (facets_read c.args.view.now.kind c.args.sense c.args.wide c.requires.kind)

pub rows_of-requires-2-clause-source : goal.rows_of-requires-2-clause-source
rows_of-requires-2-clause-source c = has_listed _ facet_sources Facets (facets_read c.args.view.now.kind c.args.sense c.args.wide c.requires.kind)

pub objective_of-requires : goal.objective_of-requires
objective_of-requires c = has_listed _ facet_sources LinearObjective (facets_read c.args.view.now.kind c.args.sense c.args.wide c.requires.kind)

pub optimum_with_dual-requires-clause-some : goal.optimum_with_dual-requires-clause-some
optimum_with_dual-requires-clause-some c = objective_some c.args.view.now c.of.ensures.view c.objective_of.result.now c.objective_of.ensures

pub optimum_with_dual-requires-clause-few : goal.optimum_with_dual-requires-clause-few
optimum_with_dual-requires-clause-few c =
    let v = c.args.view.now in
    let view = c.of.ensures.view in
    let a = rows_few v view Facets refl c.in_ok-facets.facets.items c.in_ok-facets.ensures.read in
    let e = rows_few v view AffineHull refl c.in_ok-equations.equations.items c.in_ok-equations.ensures.read in
    let n = objective_cols v view c.objective_of.result.now c.objective_of.ensures in
    let k = leb-true v.cols most_columns view.few_cols in
    rw (c.deref.ensures.value, c.deref-2.ensures.value) (omega arith)

pub optimum_with_dual-requires-clause-inequality_cols : goal.optimum_with_dual-requires-clause-inequality_cols
optimum_with_dual-requires-clause-inequality_cols c =
    let v = c.args.view.now in
    rw (c.deref.ensures.value, objective_cols v c.of.ensures.view c.objective_of.result.now c.objective_of.ensures) (rows_cols v c.of.ensures.view Facets refl c.in_ok-facets.facets.items c.in_ok-facets.ensures.read)

pub optimum_with_dual-requires-clause-equation_cols : goal.optimum_with_dual-requires-clause-equation_cols
optimum_with_dual-requires-clause-equation_cols c =
    let v = c.args.view.now in
    rw (c.deref-2.ensures.value, objective_cols v c.of.ensures.view c.objective_of.result.now c.objective_of.ensures) (rows_cols v c.of.ensures.view AffineHull refl c.in_ok-equations.equations.items c.in_ok-equations.ensures.read)

pub returns-in_err-found-clause-fails : goal.returns-in_err-found-clause-fails
returns-in_err-found-clause-fails c =
    let v = c.args.view.now in
    let w = err_from_is_err_and c.from_residual-in_err-found.result c.from_residual-in_err-found.ensures.1 in
    rw w.1 (subst (FailsBy (IsWideWithDual v)) (sym w.2)
    (facets_fail v c.args.sense c.objective_of.result.now c.objective_of.ensures c.in_err-found.field-0.0 c.args.wide c.requires.kind c.in_ok-equations.equations.items c.in_ok-facets.facets.items
    c.in_ok-equations.ensures.read c.in_ok-facets.ensures.read (rw (c.deref.ensures.value, c.deref-2.ensures.value) at c.in_err-found.ensures.wide)))

pub returns-in_err-found-clause-failed : goal.returns-in_err-found-clause-failed
returns-in_err-found-clause-failed c =
    let v = c.args.view.now in
    let w = err_from_is_err_and c.from_residual-in_err-found.result c.from_residual-in_err-found.ensures.1 in
    rw w.1 (subst (FailsRightly v) (sym w.2) (fails_rightly v (IsWideWithDual v) (dual_holds v) (fail_of_program c.in_err-found.field-0.0)
    (facets_fail v c.args.sense c.objective_of.result.now c.objective_of.ensures c.in_err-found.field-0.0 c.args.wide c.requires.kind c.in_ok-equations.equations.items c.in_ok-facets.facets.items
    c.in_ok-equations.ensures.read c.in_ok-facets.ensures.read (rw (c.deref.ensures.value, c.deref-2.ensures.value) at c.in_err-found.ensures.wide))))

pub put_number-requires-clause-target : goal.put_number-requires-clause-target
put_number-requires-clause-target c =
    rw c.value_in.ensures (has_optimum _ c.args.sense (dual c.args.sense ∷ []) (ap (λ d. d.kind.targets) c.requires.empty ∙ facets_found c.args.view.now.kind c.args.sense c.args.wide c.requires.kind))

pub put_value-requires-clause-target : goal.put_value-requires-clause-target
put_value-requires-clause-target c =
    rw c.dual_in.ensures (has_dual _ c.args.sense (ap (λ d. d.kind.targets) c.in_ok-put_number.ensures.ok ∙ ap (λ d. d.kind.targets) c.requires.empty ∙ facets_found c.args.view.now.kind c.args.sense c.args.wide c.requires.kind))

pub put_value-requires-clause-missing : goal.put_value-requires-clause-missing
put_value-requires-clause-missing c =
    let x = extended (extended_of c.in_ok-found.found.value) in
    let empty = ap (λ d. d.values) c.requires.empty in
    let values = ap (λ d. d.values) c.in_ok-put_number.ensures.ok in
    rw (c.dual_in.ensures, values, empty, c.value_in.ensures) (dual_missing c.args.sense x)

pub returns-clause-sound : goal.returns-clause-sound
returns-clause-sound c =
    let v = c.args.view.now in
    let view = c.of.ensures.view in
    let few = rows_few v view Facets refl c.in_ok-facets.facets.items c.in_ok-facets.ensures.read in
    facets_sound v view c.objective_of.result.now c.objective_of.ensures c.args.sense c.in_ok-equations.equations.items c.in_ok-facets.facets.items (extended_of c.in_ok-found.found.value)
    c.in_ok-equations.ensures.read c.in_ok-facets.ensures.read c.in_ok-found.found.dual (rw (c.deref.ensures.value, c.deref-2.ensures.value) at c.in_ok-found.ensures.found)
    few c.cols.ensures.matrix c.in_ok-put_number.ensures.fraction c.args.draft.now c.put_number.new.draft c.put_value.new.draft
    (record {
      targets = facets_found v.kind c.args.sense c.args.wide c.requires.kind;
      empty = c.requires.empty;
      value = rw c.value_in.ensures at c.in_ok-put_number.ensures.ok;
      shown = rw c.dual_in.ensures at c.in_ok-put_value.ensures.ok;
    })
