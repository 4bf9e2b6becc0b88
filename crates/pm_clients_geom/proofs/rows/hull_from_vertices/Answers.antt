use Rattle.pm_client.specs.Fails.{IfFailed}
use Rattle.std.proofs.lemmas.Result.{err_from_is_err_and}
use Rattle.pm_client.proofs.Failing.{eliminates_in, fails_by_list}
use Rattle.pm_family.proofs.Failing.{takes_alone}
use Rattle.pm_client.specs.Sound.{EliminatesExtended, FailsRightly}
use Rattle.pm_vector.specs.declared.evidence.ElimList.TheVariants as elimination_list
use Rattle.pm_client.proofs.Lost.{failed_lost}
use Rattle.pm_clients_geom.specs.Lists.{IsLostExtendedList}
use Rattle.pm_elim.specs.Lost.{IsLostOnExtended}
use Rattle.pm_clients_geom.proofs.NullMatrices.{hull_sound}
use Rattle.pm_client.proofs.ViewLaws.{has_listed, not_fan, target_named}
use Rattle.pm_clients_geom.proofs.rows.hull_from_vertices.Goals as goal
use Rattle.pm_props.specs.declared.property.PropId.TheVariants.{AffineHull, LinealitySpace, Vertices}
use Rattle.pm_props.specs.declared.property.PropId.{PropId}
use Rattle.std.proofs.Common.{ap, refl, ◌∙◌, subst, sym}
use Rattle.std.specs.Prelude.{List, [], ◌∷◌, ◌≡◌, ◌⊎◌}

abbrev sources : List PropId
sources = Vertices ∷ LinealitySpace ∷ []

abbrev targets : List PropId
targets = AffineHull ∷ []

pub row_list-requires-clause-first : goal.row_list-requires-clause-first
row_list-requires-clause-first c = has_listed _ sources LinealitySpace c.requires.kind.sources

pub row_list-requires-clause-second : goal.row_list-requires-clause-second
row_list-requires-clause-second c = has_listed _ sources Vertices c.requires.kind.sources

pub null_space_by-requires-clause-columns : goal.null_space_by-requires-clause-columns
null_space_by-requires-clause-columns c = rw (c.deref.ensures.value, c.cols.ensures.value) c.in_ok-rows.ensures.cols

pub matrix_over_one-requires : goal.matrix_over_one-requires
matrix_over_one-requires c = rw (c.deref-2.ensures.value, c.cols-2.ensures.value, ← c.cols.ensures.value) c.in_ok-null.ensures.null.1.echelon.cols

pub put_value-requires-clause-target : goal.put_value-requires-clause-target
put_value-requires-clause-target c = has_listed _ targets AffineHull (ap (λ d. d.kind.targets) c.requires.empty ∙ c.requires.kind.targets)

pub returns-clause-sound : goal.returns-clause-sound
returns-clause-sound c =
    let null = rw (c.deref.ensures.value, c.cols.ensures.value) at c.in_ok-null.ensures.null in
    let no_fan = not_fan c.args.view.now AffineHull c.cols.ensures.view (target_named c.args.view.now.kind AffineHull (has_listed _ targets AffineHull c.requires.kind.targets)) refl refl in
    hull_sound c.args.view.now c.cols.ensures.view no_fan c.in_ok-rows.rows.items c.in_ok-null.null.items null.0 c.in_ok-rows.ensures.listed null.1 c.in_ok-hull.hull c.args.draft.now c.put_value.new.draft c.requires.kind.targets
    (rw c.deref-2.ensures.value at c.in_ok-hull.ensures.in_range) (rw (c.deref-2.ensures.value, c.cols-2.ensures.value) at c.in_ok-hull.ensures.rows) c.requires.empty c.in_ok-put_value.ensures.ok

pub returns-clause-stays : goal.returns-clause-stays
returns-clause-stays c = λ narrow. record { rows = c.in_ok-rows.rows.items; listed = c.in_ok-rows.ensures.listed; stays = rw (c.deref.ensures.value, c.cols.ensures.value) at (c.in_ok-null.ensures.never_wide narrow) }

pub returns-clause-stays_extended : goal.returns-clause-stays_extended
returns-clause-stays_extended c = λ narrow. record { rows = c.in_ok-rows.rows.items; listed = c.in_ok-rows.ensures.listed; stays = rw (c.deref.ensures.value, c.cols.ensures.value) at (c.in_ok-null.ensures.never_wide_extended narrow) }

pub returns-in_err-null-clause-failed : goal.returns-in_err-null-clause-failed
returns-in_err-null-clause-failed c =
    let w = err_from_is_err_and c.from_residual-in_err-null.result c.from_residual-in_err-null.ensures.1 in
    rw w.1 (subst (FailsRightly c.args.view.now) (sym w.2)
    (fails_by_list c.args.view.now c.in_ok-rows.rows.items c.in_err-null.field-0.0 (takes_alone c.args.view.now c.requires.kind.lists) (record { first = LinealitySpace; second = Vertices; parts = refl; list = c.in_ok-rows.ensures.listed }) (rw (← c.deref.ensures.value, ← c.cols.ensures.value) c.in_err-null.ensures.wide)))

pub returns-in_err-null-clause-fails : goal.returns-in_err-null-clause-fails
returns-in_err-null-clause-fails c =
    let w = err_from_is_err_and c.from_residual-in_err-null.result c.from_residual-in_err-null.ensures.1 in
    rw w.1 (subst (λ e. FailsRightly c.args.view.now e × EliminatesExtended e) (sym w.2) (
      fails_by_list c.args.view.now c.in_ok-rows.rows.items c.in_err-null.field-0.0 (takes_alone c.args.view.now c.requires.kind.lists) (record { first = LinealitySpace; second = Vertices; parts = refl; list = c.in_ok-rows.ensures.listed }) (rw (← c.deref.ensures.value, ← c.cols.ensures.value) c.in_err-null.ensures.wide),
      eliminates_in (λ l. (l ≡ elimination_list.Rows) ⊎ (l ≡ elimination_list.Extended)) c.in_err-null.field-0.0 c.in_err-null.ensures.list,
    ))

pub returns-in_err-null-clause-lost : goal.returns-in_err-null-clause-lost
returns-in_err-null-clause-lost c = λ wide.
    let w = err_from_is_err_and c.from_residual-in_err-null.result c.from_residual-in_err-null.ensures.1 in
    rw w.1 (subst (λ e. FailsRightly c.args.view.now e × EliminatesExtended e × IfFailed e (IsLostExtendedList c.args.view.now LinealitySpace Vertices)) (sym w.2) (
      fails_by_list c.args.view.now c.in_ok-rows.rows.items c.in_err-null.field-0.0 (takes_alone c.args.view.now c.requires.kind.lists) (record { first = LinealitySpace; second = Vertices; parts = refl; list = c.in_ok-rows.ensures.listed }) (rw (← c.deref.ensures.value, ← c.cols.ensures.value) c.in_err-null.ensures.wide),
      eliminates_in (λ l. (l ≡ elimination_list.Rows) ⊎ (l ≡ elimination_list.Extended)) c.in_err-null.field-0.0 c.in_err-null.ensures.list,
      failed_lost c.in_err-null.field-0.0 (IsLostOnExtended c.args.view.now.cols c.in_ok-rows.rows.items) (IsLostExtendedList c.args.view.now LinealitySpace Vertices)
          (λ lost. record { rows = c.in_ok-rows.rows.items; listed = c.in_ok-rows.ensures.listed; lost = lost })
          (rw (c.deref.ensures.value, c.cols.ensures.value) at (c.in_err-null.ensures.lost wide)),
    ))
