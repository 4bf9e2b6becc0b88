use Rattle.pm_client.proofs.Failing.{fails_by_feasibility}
use Rattle.pm_client.proofs.ViewLaws.{has_listed, not_fan, source_named, target_named}
use Rattle.pm_client.specs.Sound.{FailsRightly}
use Rattle.pm_clients_geom.proofs.FoundThinned.{first_rows_of, second_rows_of}
use Rattle.pm_client.proofs.Polytopes.{polytope_view}
use Rattle.pm_clients_geom.proofs.RightRows.{point_fails, point_sound, program_as}
use Rattle.pm_clients_geom.proofs.redundancy.feasible_lp.Goals as goal
use Rattle.pm_clients_geom.specs.Redundancy.{AsksForPoint, FailsForProgram}
use Rattle.pm_object.specs.Reading.{IsView, ViewSeen}
use Rattle.pm_object_type.specs.declared.object_type.ObjectType.TheVariants.{Polytope}
use Rattle.pm_props.specs.declared.property.PropId.TheVariants.{Equations, Feasible, Inequalities}
use Rattle.pm_props.specs.declared.property.PropId.{PropId}
use Rattle.std.proofs.Common.{ap, refl, rules, subst, sym, ◌∙◌}
use Rattle.std.proofs.lemmas.Result.{err_from_is_err_and}
use Rattle.std.specs.Prelude.{List, [], ◌∷◌, ◌≡◌}

abbrev sources : List PropId
sources = Inequalities ∷ Equations ∷ []

of_polytope : (v : ViewSeen) → IsView v → AsksForPoint v.kind → v.of ≡ Polytope
of_polytope v view kind = polytope_view v Feasible view (target_named v.kind Feasible (has_listed _ (Feasible ∷ []) Feasible kind.targets)) refl refl refl

pub prove-unreachable-requires : goal.prove-unreachable-requires
prove-unreachable-requires c =
    let other : ¬ (c.of.result ≡ Polytope) = search rules in
    other (c.of.ensures.value ∙ of_polytope c.args.view.now c.of.ensures.view c.requires.kind)

pub read_parts-requires-clause-first : goal.read_parts-requires-clause-first
read_parts-requires-clause-first c = has_listed _ sources Equations c.requires.kind.sources

pub read_parts-requires-clause-second : goal.read_parts-requires-clause-second
read_parts-requires-clause-second c = has_listed _ sources Inequalities c.requires.kind.sources

pub put_value-requires-clause-target : goal.put_value-requires-clause-target
put_value-requires-clause-target c = has_listed _ (Feasible ∷ []) Feasible (ap (λ d. d.kind.targets) c.requires.empty ∙ c.requires.kind.targets)

pub returns-clause-sound : goal.returns-clause-sound
returns-clause-sound c =
    let v = c.args.view.now in
    let polytope = of_polytope v c.of.ensures.view c.requires.kind in
    let no_fan = not_fan v Inequalities c.of.ensures.view (source_named v.kind Inequalities (has_listed _ sources Inequalities c.requires.kind.sources)) refl refl in
    point_sound v polytope no_fan c.in_ok-halves.halves.first.items c.in_ok-halves.halves.second.items c.in_ok-halves.ensures.read c.in_ok-is_feasible.is_feasible
    (rw (c.cols.ensures.value, c.deref.ensures.value) at c.in_ok-is_feasible.ensures.found) c.args.draft.now c.put_value.new.draft
    (record { targets = c.requires.kind.targets; empty = c.requires.empty; put = c.in_ok-put_value.ensures.ok })

pub returns-in_err-is_feasible-clause-failed : goal.returns-in_err-is_feasible-clause-failed
returns-in_err-is_feasible-clause-failed c =
    let v = c.args.view.now in
    let w = err_from_is_err_and c.from_residual-in_err-is_feasible.result c.from_residual-in_err-is_feasible.ensures.1 in
    let polytope = of_polytope v c.of.ensures.view c.requires.kind in
    rw w.1 (subst (FailsRightly v) (sym w.2)
    (fails_by_feasibility v c.requires.kind.asks c.in_ok-halves.halves.first.items c.in_ok-halves.halves.second.items
    (first_rows_of c.in_ok-halves.ensures.read) (second_rows_of c.in_ok-halves.ensures.read) c.in_err-is_feasible.field-0.0
    (program_as v polytope c.in_ok-halves.halves.first.items c.in_ok-halves.halves.second.items c.in_err-is_feasible.field-0.0
    (rw (c.cols.ensures.value, c.deref.ensures.value) at c.in_err-is_feasible.ensures.wide))))

pub returns-in_err-is_feasible-clause-fails : goal.returns-in_err-is_feasible-clause-fails
returns-in_err-is_feasible-clause-fails c =
    let v = c.args.view.now in
    let w = err_from_is_err_and c.from_residual-in_err-is_feasible.result c.from_residual-in_err-is_feasible.ensures.1 in
    let polytope = of_polytope v c.of.ensures.view c.requires.kind in
    rw w.1 (subst (FailsForProgram v) (sym w.2)
    (point_fails v c.requires.kind.asks c.in_ok-halves.halves.first.items c.in_ok-halves.halves.second.items
    (first_rows_of c.in_ok-halves.ensures.read) (second_rows_of c.in_ok-halves.ensures.read) c.in_err-is_feasible.field-0.0
    (program_as v polytope c.in_ok-halves.halves.first.items c.in_ok-halves.halves.second.items c.in_err-is_feasible.field-0.0
    (rw (c.cols.ensures.value, c.deref.ensures.value) at c.in_err-is_feasible.ensures.wide))))
