use Rattle.pm_clients_lp.proofs.Facts.{objective_cols, objective_some, objective_stays, program_view, rows_cols, rows_few}
use Rattle.pm_client.specs.Sound.{IsWideFace, fail_of_program, optimum}
use Rattle.pm_clients_lp.proofs.Failing.{face_fails}
use Rattle.pm_clients_lp.proofs.Found.{none_at}
use Rattle.pm_clients_lp.specs.Clients.{FailsBy}
use Rattle.pm_object.specs.Reading.{fact_of}
use Rattle.pm_types.specs.Values.{extended}
use Rattle.std.proofs.lemmas.Result.{err_from_is_err_and}
use Rattle.std.specs.Prelude.{Some}
use Rattle.pm_clients_lp.proofs.StandardKinds.{face_read, has_objective, has_rays}
use Rattle.pm_clients_lp.proofs.faces.places_at.Goals as goal
use Rattle.pm_clients_lp.specs.Reading.{ArePlacesAt}
use Rattle.pm_object_type.specs.declared.object_type.ObjectType.TheVariants.{Polytope}
use Rattle.pm_props.specs.declared.property.PropId.TheVariants.{Vertices}
use Rattle.pm_types.specs.Forms.{is_counts_form}
use Rattle.pm_types.specs.Views.{extended_of}
use Rattle.std.proofs.Common.{ap, refl, rules, subst, sym, true, ◌∙◌, ◌≡◌}

pub prove-unreachable-requires : goal.prove-unreachable-requires
prove-unreachable-requires c =
    let v = c.args.view.now in
    let other : ¬ (c.of.result ≡ Polytope) = search rules in
    other (c.of.ensures.value ∙ program_view v c.of.ensures.view (has_objective _ c.args.sense (face_read v.kind c.args.sense c.args.wide c.requires.kind)))

pub rows_of-requires-clause-source : goal.rows_of-requires-clause-source
rows_of-requires-clause-source c = has_rays _ c.args.sense (face_read c.args.view.now.kind c.args.sense c.args.wide c.requires.kind)

pub objective_of-objective-requires : goal.objective_of-objective-requires
objective_of-objective-requires c = has_objective _ c.args.sense (face_read c.args.view.now.kind c.args.sense c.args.wide c.requires.kind)

pub places_of_value_by-requires-clause-stays : goal.places_of_value_by-requires-clause-stays
places_of_value_by-requires-clause-stays c = objective_stays c.args.view.now c.of.ensures.view c.objective_of-objective.result.now c.objective_of-objective.ensures

pub places_of_value_by-requires-clause-some : goal.places_of_value_by-requires-clause-some
places_of_value_by-requires-clause-some c = objective_some c.args.view.now c.of.ensures.view c.objective_of-objective.result.now c.objective_of-objective.ensures

pub places_of_value_by-requires-clause-cols : goal.places_of_value_by-requires-clause-cols
places_of_value_by-requires-clause-cols c =
    let v = c.args.view.now in
    rw (c.deref.ensures.value, objective_cols v c.of.ensures.view c.objective_of-objective.result.now c.objective_of-objective.ensures) (rows_cols v c.of.ensures.view Vertices refl c.in_ok-rays.rays.items c.in_ok-rays.ensures.read)

pub places_of_value_by-requires-clause-few : goal.places_of_value_by-requires-clause-few
places_of_value_by-requires-clause-few c = rw c.deref.ensures.value (rows_few c.args.view.now c.of.ensures.view Vertices refl c.in_ok-rays.rays.items c.in_ok-rays.ensures.read)

pub returns-in_err-places-in-Finite-clause-fails : goal.returns-in_err-places-in-Finite-clause-fails
returns-in_err-places-in-Finite-clause-fails c =
    let v = c.args.view.now in
    let w = err_from_is_err_and c.from_residual-in_err-places-in-Finite.result c.from_residual-in_err-places-in-Finite.ensures.1 in
    rw w.1 (subst (FailsBy (IsWideFace v)) (sym w.2)
    (face_fails v c.args.sense c.objective_of-objective.result.now c.objective_of-objective.ensures c.in_err-places-in-Finite.field-0.0 c.args.wide c.requires.kind c.in_ok-rays.rays.items c.in_ok-rays.ensures.read _
    (subst (λ z. fact_of (optimum c.args.sense) v.facts ≡ Some (extended (extended_of z))) c.in-Finite.is c.requires.value)
    (rw (c.deref.ensures.value) at c.in_err-places-in-Finite.ensures.wide)))

pub returns-in_err-places-in-Finite-clause-total : goal.returns-in_err-places-in-Finite-clause-total
returns-in_err-places-in-Finite-clause-total c = λ t.
    let w = err_from_is_err_and c.from_residual-in_err-places-in-Finite.result c.from_residual-in_err-places-in-Finite.ensures.1 in
    rw w.1 (w.2 ∙ ap fail_of_program (c.in_err-places-in-Finite.ensures.total t))

pub returns : goal.returns
returns c =
    let v = c.args.view.now in
    record {
      places = subst (ArePlacesAt v c.args.sense (extended_of c.args.number)) (sym c.new.ensures.items) (none_at v c.args.sense c.args.number (λ q e. c.in_default.not-Finite q e) c.in_ok-rays.rays.items c.in_ok-rays.ensures.read c.objective_of-objective.result.now c.objective_of-objective.ensures);
      form = subst (λ z. is_counts_form z ≡ true) (sym c.new.ensures.items) refl;
      fails = tt;
      total = λ t. tt;
    }
