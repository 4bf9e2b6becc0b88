use Rattle.pm_client.specs.Fails.{IfFailed}
use Rattle.std.proofs.lemmas.Result.{err_from_is_err_and}
use Rattle.pm_client.proofs.Failing.{eliminates_in, fails_by_list}
use Rattle.pm_family.proofs.Failing.{takes_alone}
use Rattle.pm_client.specs.Sound.{EliminatesExtended, FailsRightly}
use Rattle.pm_vector.specs.declared.evidence.ElimList.TheVariants as elimination_list
use Rattle.pm_client.proofs.Lost.{failed_lost}
use Rattle.pm_clients_geom.specs.Lists.{IsLostExtendedList}
use Rattle.pm_elim.specs.Lost.{IsLostOnExtended}
use Rattle.pm_clients_geom.proofs.NullMatrices.{lineality_sound, put_lines, some_entries}
use Rattle.pm_client.proofs.ViewLaws.{has_listed, not_fan, source_named}
use Rattle.pm_clients_geom.proofs.rows.lineality_from_facets.Goals as goal
use Rattle.pm_clients_geom.proofs.rows.lineality_from_facets.Goals.{else-may_be_lines, then-may_be_lines}
use Rattle.pm_props.specs.declared.property.PropId.TheVariants.{AffineHull, Facets, LinealitySpace}
use Rattle.pm_props.specs.declared.property.PropId.{PropId}
use Rattle.std.proofs.Common.{ap, false, inl, inr, refl, true, ◌∙◌, subst, sym}
use Rattle.std.specs.Prelude.{List, [], ◌∷◌, ◌≡◌, ◌⊎◌}

abbrev sources : List PropId
sources = Facets ∷ AffineHull ∷ []

abbrev targets : List PropId
targets = LinealitySpace ∷ []

pub row_list-requires-clause-first : goal.row_list-requires-clause-first
row_list-requires-clause-first c = has_listed _ sources AffineHull c.requires.kind.sources

pub row_list-requires-clause-second : goal.row_list-requires-clause-second
row_list-requires-clause-second c = has_listed _ sources Facets c.requires.kind.sources

pub null_space_by-requires-clause-columns : goal.null_space_by-requires-clause-columns
null_space_by-requires-clause-columns c = rw (c.deref.ensures.value, c.cols.ensures.value) c.in_ok-rows.ensures.cols

pub may_be_lines-requires : goal.may_be_lines-requires
may_be_lines-requires c =
    let cols = c.in_ok-null.ensures.null.1.echelon.cols in
    rw c.deref-2.ensures.value (some_entries c.args.view.now.cols c.in_ok-null.null.items c.cols.ensures.view.some_cols (rw c.cols.ensures.value at cols))

pub matrix_over_one-requires : goal.matrix_over_one-requires
matrix_over_one-requires c =
    rw (c.deref-3.ensures.value, c.cols-2.ensures.value)
    (elim c.if-may_be_lines.branch [
      | then-may_be_lines w ↦ rw (w.lines-is, ← c.cols.ensures.value) c.in_ok-null.ensures.null.1.echelon.cols
      | else-may_be_lines w ↦ rw (w.lines-is, w.new-lines.ensures.items) tt
    ])

pub put_value-requires-clause-target : goal.put_value-requires-clause-target
put_value-requires-clause-target c = has_listed _ targets LinealitySpace (ap (λ d. d.kind.targets) c.requires.empty ∙ c.requires.kind.targets)

pub returns-clause-sound : goal.returns-clause-sound
returns-clause-sound c =
    let null = rw (c.deref.ensures.value, c.cols.ensures.value) at c.in_ok-null.ensures.null in
    let no_fan = not_fan c.args.view.now Facets c.cols.ensures.view (source_named c.args.view.now.kind Facets (has_listed _ sources Facets c.requires.kind.sources)) refl refl in
    let put : ((c.may_be_lines.result ≡ true) × (c.if-may_be_lines.lines.items ≡ c.in_ok-null.null.items)) ⊎ ((c.may_be_lines.result ≡ false) × (c.if-may_be_lines.lines.items ≡ [])) = elim c.if-may_be_lines.branch [
      | then-may_be_lines w ↦ inl (w.if-may_be_lines.true, ap (λ r. r.items) w.lines-is)
      | else-may_be_lines w ↦ inr (w.if-may_be_lines.false, ap (λ r. r.items) w.lines-is ∙ w.new-lines.ensures.items)
    ] in
    lineality_sound c.args.view.now c.cols.ensures.view no_fan c.in_ok-rows.rows.items c.in_ok-null.null.items null.0 c.in_ok-rows.ensures.listed null.1 c.if-may_be_lines.lines.items
    (put_lines c.args.view.now.of c.in_ok-null.null.items c.if-may_be_lines.lines.items c.may_be_lines.result (rw (c.of.ensures.value, c.deref-2.ensures.value) at c.may_be_lines.ensures) put)
    (rw c.deref-3.ensures.value at c.in_ok-lineality.ensures.in_range) c.in_ok-lineality.lineality c.args.draft.now c.put_value.new.draft c.requires.kind.targets
    (rw (c.deref-3.ensures.value, c.cols-2.ensures.value) at c.in_ok-lineality.ensures.rows) c.requires.empty c.in_ok-put_value.ensures.ok

pub returns-clause-stays : goal.returns-clause-stays
returns-clause-stays c = λ narrow. record { rows = c.in_ok-rows.rows.items; listed = c.in_ok-rows.ensures.listed; stays = rw (c.deref.ensures.value, c.cols.ensures.value) at (c.in_ok-null.ensures.never_wide narrow) }

pub returns-clause-stays_extended : goal.returns-clause-stays_extended
returns-clause-stays_extended c = λ narrow. record { rows = c.in_ok-rows.rows.items; listed = c.in_ok-rows.ensures.listed; stays = rw (c.deref.ensures.value, c.cols.ensures.value) at (c.in_ok-null.ensures.never_wide_extended narrow) }

pub returns-in_err-null-clause-failed : goal.returns-in_err-null-clause-failed
returns-in_err-null-clause-failed c =
    let w = err_from_is_err_and c.from_residual-in_err-null.result c.from_residual-in_err-null.ensures.1 in
    rw w.1 (subst (FailsRightly c.args.view.now) (sym w.2)
    (fails_by_list c.args.view.now c.in_ok-rows.rows.items c.in_err-null.field-0.0 (takes_alone c.args.view.now c.requires.kind.lists) (record { first = AffineHull; second = Facets; parts = refl; list = c.in_ok-rows.ensures.listed }) (rw (← c.deref.ensures.value, ← c.cols.ensures.value) c.in_err-null.ensures.wide)))

pub returns-in_err-null-clause-fails : goal.returns-in_err-null-clause-fails
returns-in_err-null-clause-fails c =
    let w = err_from_is_err_and c.from_residual-in_err-null.result c.from_residual-in_err-null.ensures.1 in
    rw w.1 (subst (λ e. FailsRightly c.args.view.now e × EliminatesExtended e) (sym w.2) (
      fails_by_list c.args.view.now c.in_ok-rows.rows.items c.in_err-null.field-0.0 (takes_alone c.args.view.now c.requires.kind.lists) (record { first = AffineHull; second = Facets; parts = refl; list = c.in_ok-rows.ensures.listed }) (rw (← c.deref.ensures.value, ← c.cols.ensures.value) c.in_err-null.ensures.wide),
      eliminates_in (λ l. (l ≡ elimination_list.Rows) ⊎ (l ≡ elimination_list.Extended)) c.in_err-null.field-0.0 c.in_err-null.ensures.list,
    ))

pub returns-in_err-null-clause-lost : goal.returns-in_err-null-clause-lost
returns-in_err-null-clause-lost c = λ wide.
    let w = err_from_is_err_and c.from_residual-in_err-null.result c.from_residual-in_err-null.ensures.1 in
    rw w.1 (subst (λ e. FailsRightly c.args.view.now e × EliminatesExtended e × IfFailed e (IsLostExtendedList c.args.view.now AffineHull Facets)) (sym w.2) (
      fails_by_list c.args.view.now c.in_ok-rows.rows.items c.in_err-null.field-0.0 (takes_alone c.args.view.now c.requires.kind.lists) (record { first = AffineHull; second = Facets; parts = refl; list = c.in_ok-rows.ensures.listed }) (rw (← c.deref.ensures.value, ← c.cols.ensures.value) c.in_err-null.ensures.wide),
      eliminates_in (λ l. (l ≡ elimination_list.Rows) ⊎ (l ≡ elimination_list.Extended)) c.in_err-null.field-0.0 c.in_err-null.ensures.list,
      failed_lost c.in_err-null.field-0.0 (IsLostOnExtended c.args.view.now.cols c.in_ok-rows.rows.items) (IsLostExtendedList c.args.view.now AffineHull Facets)
          (λ lost. record { rows = c.in_ok-rows.rows.items; listed = c.in_ok-rows.ensures.listed; lost = lost })
          (rw (c.deref.ensures.value, c.cols.ensures.value) at (c.in_err-null.ensures.lost wide)),
    ))
