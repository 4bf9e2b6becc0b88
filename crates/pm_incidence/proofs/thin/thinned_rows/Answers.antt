use Rattle.pm_dd.proofs.Building.{places_more}
use Rattle.pm_elim.proofs.BasisLaws.{row_length}
use Rattle.pm_incidence.proofs.Lost.{row_lost}
use Rattle.pm_incidence.proofs.ThinFails.{reduction_of_elimination}
use Rattle.pm_incidence.proofs.thin.thinned_rows.Goals as goal
use Rattle.pm_incidence.proofs.thin.thinned_rows.Goals.{After-index-rows-place}
use Rattle.pm_incidence.specs.Thinning.{IsThinned}
use Rattle.pm_vector.specs.Bases.{row_at}
use Rattle.std.proofs.Common.{[], ap, get_or, length, subst, sym, ◌+◌, ◌<◌, ◌∙◌, ◌≡◌, ℕ}
use Rattle.std.proofs.lemmas.List.{get_or_read, length_push}
use Rattle.std.proofs.lemmas.List.Elements.{Contains-get_or}
use Rattle.std.proofs.lemmas.Result.{err_from_is_err_and}
use Rattle.std.specs.List.{Contains}

-- the row at the place
within : (c : After-index-rows-place) → get_or c.args.places.now c.loop-place.place-index 0 < length c.args.rows.now
within c = c.requires.within c.loop-place.place-index 0 c.loop-place-test.true

here : (c : After-index-rows-place) → c.index-rows-place.result ≡ row_at c.args.rows.now (get_or c.args.places.now c.loop-place.place-index 0)
here c = get_or_read c.args.rows.now (get_or c.args.places.now c.loop-place.place-index 0) c.index-rows-place.result (within c) c.index-rows-place.is []

cols : (c : After-index-rows-place) → length c.index-rows-place.result ≡ c.args.cols
cols c =
    let k = get_or c.args.places.now c.loop-place.place-index 0 in
    ap length (here c) ∙ row_length c.args.cols c.args.rows.now k c.requires.row_cols (within c)

listed : (c : After-index-rows-place) → Contains c.args.rows.now c.index-rows-place.result
listed c = subst (Contains c.args.rows.now) (sym c.index-rows-place.is) (Contains-get_or c.args.rows.now (get_or c.args.places.now c.loop-place.place-index 0) c.index-rows-place.result (within c))

-- the goals
pub thinned-requires-clause-is_basis : goal.thinned-requires-clause-is_basis
thinned-requires-clause-is_basis c = rw (cols c) c.requires.is_basis

pub thinned-requires-clause-few_columns : goal.thinned-requires-clause-few_columns
thinned-requires-clause-few_columns c = rw (cols c) c.requires.few_columns

pub returns-in_err-thinned-clause-failed : goal.returns-in_err-thinned-clause-failed
returns-in_err-thinned-clause-failed c =
    let at = (goal.at.returns-in_err-thinned-clause-failed c).After-index-rows-place in
    let p = err_from_is_err_and c.from_residual.result c.from_residual.ensures.1 in
    rw (p.1, p.2) (reduction_of_elimination c.args.cols c.args.basis.now.rows c.args.rows.now c.index-rows-place.result c.in_err-thinned.field-0.0 (listed at) (rw (cols at) at c.in_err-thinned.ensures.wide))

pub returns-in_err-thinned-clause-lost : goal.returns-in_err-thinned-clause-lost
returns-in_err-thinned-clause-lost c = λ wide.
    let at = (goal.at.returns-in_err-thinned-clause-lost c).After-index-rows-place in
    let p = err_from_is_err_and c.from_residual.result c.from_residual.ensures.1 in
    rw (p.1, p.2) (row_lost c.args.basis.now.rows c.args.basis.now.pivots c.args.rows.now c.index-rows-place.result (listed at) c.in_err-thinned.field-0.0 (c.in_err-thinned.ensures.lost wide))

pub loop-place-preserved : goal.loop-place-preserved
loop-place-preserved c =
    let at = (goal.at.loop-place-preserved c).After-index-rows-place in
    let many = c.loop-place.invariant.many in
    rw c.in_ok-push.ensures.items (record {
      many = length_push c.loop-place.thin.items c.in_ok-thinned.field-0 ∙ ap (λ (k : ℕ). k + 1) many;
      each = places_more [] (λ k x. IsThinned c.args.basis.now.rows c.args.basis.now.pivots (row_at c.args.rows.now (get_or c.args.places.now k 0)) x) c.loop-place.thin.items c.in_ok-thinned.field-0 c.loop-place.place-index many c.loop-place.invariant.each
          (rw (sym (here at)) c.in_ok-thinned.ensures.thinned);
    })
