use Rattle.pm_incidence.proofs.Described.{half_cols, units_echelon, zero_cone, zero_facets}
use Rattle.pm_incidence.proofs.FacetPlaces.{facets_answered, few_rows, taken_within}
use Rattle.pm_incidence.proofs.Lost.{reduction_lost}
use Rattle.pm_incidence.proofs.ThinFails.{facets_reduction}
use Rattle.pm_incidence.proofs.Thinned.{thinned_cols}
use Rattle.pm_incidence.proofs.facets.facets_by_incidence.Goals as goal
use Rattle.pm_incidence.specs.Thinning.{HasPointAmong}
use Rattle.std.proofs.Common.{false, sym, true, ◌≡◌}
use Rattle.std.proofs.lemmas.Result.{err_from_is_err_and}
use Rattle.std.specs.List.{range_with_len}

pub returns-then-not-has_point-clause-facets : goal.returns-then-not-has_point-clause-facets
returns-then-not-has_point-clause-facets c = λ hK cut.
    let V = c.args.g.now.rays.items in
    let K = c.args.g.now.lineality.items in
    let none : ¬ (HasPointAmong c.args.of V) = λ p. let e : false ≡ true = rw c.if-not-has_point.true at (c.has_point.ensures.1 (rw c.deref.ensures.value p)) in cc in
    rw (c.new.ensures.items, c.in_ok-unit_rows.ensures) (zero_facets c.args.cols V K (zero_cone c.args.cols c.requires.some_columns V K c.args.rows.now c.args.equations.now c.requires.ray_cols hK c.args.of none cut))

pub returns-then-not-has_point-clause-echelon : goal.returns-then-not-has_point-clause-echelon
returns-then-not-has_point-clause-echelon c = (range_with_len 0 c.args.cols, rw c.in_ok-unit_rows.ensures (units_echelon c.args.cols))

pub thinned_rows-requires-clause-row_cols : goal.thinned_rows-requires-clause-row_cols
thinned_rows-requires-clause-row_cols c = rw (c.deref-5.ensures.value, c.in_ok-halves.ensures) (half_cols c.args.of c.args.cols c.args.rows.now c.requires.row_cols)

pub thinned_rows-requires-clause-within : goal.thinned_rows-requires-clause-within
thinned_rows-requires-clause-within c =
    let k = rw (sym c.kept.view_is, c.deref-2.ensures.value, c.in_ok-halves.ensures, c.deref-3.ensures.value) at c.in_ok-kept.ensures.kept in
    rw (c.deref-5.ensures.value, c.in_ok-halves.ensures, c.deref-6.ensures.value) (taken_within c.args.of c.args.cols c.requires.some_columns c.args.rows.now c.args.equations.now c.args.g.now.rays.items _ _ _ c.requires.row_cols c.requires.equation_cols c.requires.ray_cols k c.in_ok-count.count (rw (sym c.kept.view_is) at c.in_ok-count.ensures.within))

pub returns-in_err-facets-clause-failed : goal.returns-in_err-facets-clause-failed
returns-in_err-facets-clause-failed c =
    let k = rw (sym c.kept.view_is, c.deref-2.ensures.value, c.in_ok-halves.ensures, c.deref-3.ensures.value) at c.in_ok-kept.ensures.kept in
    let p = err_from_is_err_and c.from_residual-in_err-facets.result c.from_residual-in_err-facets.ensures.1 in
    rw (p.1, p.2) (facets_reduction c.args.of c.args.cols c.args.rows.now c.args.equations.now c.args.g.now.rays.items _ _ k.basis c.in_err-facets.field-0.0 (rw (c.deref-5.ensures.value, c.in_ok-halves.ensures) at c.in_err-facets.ensures.failed))

pub returns-in_err-facets-clause-lost : goal.returns-in_err-facets-clause-lost
returns-in_err-facets-clause-lost c = λ wide.
    let k = rw (sym c.kept.view_is, c.deref-2.ensures.value, c.in_ok-halves.ensures, c.deref-3.ensures.value) at c.in_ok-kept.ensures.kept in
    let p = err_from_is_err_and c.from_residual-in_err-facets.result c.from_residual-in_err-facets.ensures.1 in
    rw (p.1, p.2) (reduction_lost c.args.cols _ c.args.equations.now c.args.g.now.rays.items _ _ k.basis c.in_err-facets.field-0.0 (rw (c.deref-5.ensures.value, c.in_ok-halves.ensures) at (c.in_err-facets.ensures.lost wide)))

pub returns-clause-facets : goal.returns-clause-facets
returns-clause-facets c = λ hK cut.
    let k = rw (sym c.kept.view_is, c.deref-2.ensures.value, c.in_ok-halves.ensures, c.deref-3.ensures.value) at c.in_ok-kept.ensures.kept in
    let s = rw (c.deref-5.ensures.value, c.in_ok-halves.ensures, c.deref-6.ensures.value) at c.in_ok-facets.ensures.thinned in
    let all = rw (sym c.kept.view_is, c.deref-4.ensures.value) at c.in_ok-count.ensures.all in
    facets_answered c.args.of c.args.cols c.requires.some_columns c.args.rows.now c.args.equations.now c.args.g.now.rays.items _ _ _ c.requires.row_cols c.requires.equation_cols c.requires.ray_cols k c.args.g.now.lineality.items hK (rw c.deref.ensures.value at (c.has_point.ensures.0 c.if-not-has_point.false)) cut c.in_ok-count.count all c.in_ok-facets.facets.items s

pub returns-clause-cols : goal.returns-clause-cols
returns-clause-cols c =
    let k = rw (sym c.kept.view_is, c.deref-2.ensures.value, c.in_ok-halves.ensures, c.deref-3.ensures.value) at c.in_ok-kept.ensures.kept in
    let s = rw (c.deref-5.ensures.value, c.in_ok-halves.ensures, c.deref-6.ensures.value) at c.in_ok-facets.ensures.thinned in
    thinned_cols c.args.cols _ _ _ _ c.in_ok-facets.facets.items (half_cols c.args.of c.args.cols c.args.rows.now c.requires.row_cols) (taken_within c.args.of c.args.cols c.requires.some_columns c.args.rows.now c.args.equations.now c.args.g.now.rays.items _ _ _ c.requires.row_cols c.requires.equation_cols c.requires.ray_cols k c.in_ok-count.count (rw (sym c.kept.view_is) at c.in_ok-count.ensures.within)) s

pub returns-clause-few : goal.returns-clause-few
returns-clause-few c =
    let s = rw (c.deref-5.ensures.value, c.in_ok-halves.ensures, c.deref-6.ensures.value) at c.in_ok-facets.ensures.thinned in
    few_rows _ _ c.in_ok-facets.facets.items _ _ c.in_ok-count.count s c.in_ok-count.ensures.few
