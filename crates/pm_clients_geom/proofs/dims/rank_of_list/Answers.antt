use Rattle.pm_client.specs.Fails.{IfFailed}
use Rattle.std.proofs.Common.{subst, sym, ◌≡◌}
use Rattle.std.proofs.lemmas.Result.{err_from_is_err_and}
use Rattle.pm_client.proofs.Failing.{eliminates_in, fails_by_list}
use Rattle.pm_client.specs.Sound.{EliminatesRows, FailsRightly}
use Rattle.pm_vector.specs.declared.evidence.ElimList.TheVariants as list
use Rattle.pm_client.proofs.Lost.{failed_lost}
use Rattle.pm_clients_geom.specs.Lists.{IsLostList}
use Rattle.pm_elim.specs.Lost.{IsLost}
use Rattle.pm_clients_geom.proofs.FoundDims.{rank_at_most}
use Rattle.pm_clients_geom.proofs.dims.rank_of_list.Goals as goal

pub rank_by-requires-clause-columns : goal.rank_by-requires-clause-columns
rank_by-requires-clause-columns c = rw (c.deref.ensures.value, c.cols.ensures.value) c.in_ok-rows.ensures.cols

pub returns-clause-rank : goal.returns-clause-rank
returns-clause-rank c = record {
  rows = c.in_ok-rows.rows.items;
  listed = c.in_ok-rows.ensures.listed;
  rank = rw (← c.deref.ensures.value) c.in_ok-rank.ensures.rank;
}

pub returns-clause-few : goal.returns-clause-few
returns-clause-few c = rank_at_most c.deref.result.now c.in_ok-rank.rank 4096 c.in_ok-rank.ensures.rank (rw c.deref.ensures.value c.in_ok-rows.ensures.few)

pub returns-clause-view : goal.returns-clause-view
returns-clause-view c = c.cols.ensures.view

pub returns-clause-stays : goal.returns-clause-stays
returns-clause-stays c = λ narrow. record {
  rows = c.in_ok-rows.rows.items;
  listed = c.in_ok-rows.ensures.listed;
  stays = rw (← c.deref.ensures.value, ← c.cols.ensures.value) (c.in_ok-rank.ensures.never_wide narrow);
}

pub returns-clause-failed : goal.returns-clause-failed
returns-clause-failed c = tt

pub returns-in_err-rank-clause-failed : goal.returns-in_err-rank-clause-failed
returns-in_err-rank-clause-failed c =
    let w = err_from_is_err_and c.from_residual-in_err-rank.result c.from_residual-in_err-rank.ensures.1 in
    rw w.1 (subst (FailsRightly c.args.view.now) (sym w.2)
    (fails_by_list c.args.view.now c.in_ok-rows.rows.items c.in_err-rank.field-0.0 c.requires.eliminates (record { first = c.args.first; second = c.args.second; parts = c.requires.parts; list = c.in_ok-rows.ensures.listed }) (rw (← c.deref.ensures.value, ← c.cols.ensures.value) c.in_err-rank.ensures.wide)))

pub returns-clause-fails : goal.returns-clause-fails
returns-clause-fails c = tt

pub returns-in_err-rank-clause-fails : goal.returns-in_err-rank-clause-fails
returns-in_err-rank-clause-fails c =
    let w = err_from_is_err_and c.from_residual-in_err-rank.result c.from_residual-in_err-rank.ensures.1 in
    rw w.1 (subst (λ e. FailsRightly c.args.view.now e × EliminatesRows e) (sym w.2) (
      fails_by_list c.args.view.now c.in_ok-rows.rows.items c.in_err-rank.field-0.0 c.requires.eliminates (record { first = c.args.first; second = c.args.second; parts = c.requires.parts; list = c.in_ok-rows.ensures.listed }) (rw (← c.deref.ensures.value, ← c.cols.ensures.value) c.in_err-rank.ensures.wide),
      eliminates_in (λ l. l ≡ list.Rows) c.in_err-rank.field-0.0 c.in_err-rank.ensures.list,
    ))

pub returns-in_err-rank-clause-lost : goal.returns-in_err-rank-clause-lost
returns-in_err-rank-clause-lost c = λ wide.
    let w = err_from_is_err_and c.from_residual-in_err-rank.result c.from_residual-in_err-rank.ensures.1 in
    rw w.1 (subst (λ e. FailsRightly c.args.view.now e × IfFailed e (IsLostList c.args.view.now c.args.first c.args.second)) (sym w.2) (
      fails_by_list c.args.view.now c.in_ok-rows.rows.items c.in_err-rank.field-0.0 c.requires.eliminates (record { first = c.args.first; second = c.args.second; parts = c.requires.parts; list = c.in_ok-rows.ensures.listed }) (rw (← c.deref.ensures.value, ← c.cols.ensures.value) c.in_err-rank.ensures.wide),
      failed_lost c.in_err-rank.field-0.0 (IsLost c.args.view.now.cols c.in_ok-rows.rows.items) (IsLostList c.args.view.now c.args.first c.args.second)
          (λ lost. record { rows = c.in_ok-rows.rows.items; listed = c.in_ok-rows.ensures.listed; lost = lost })
          (rw (c.deref.ensures.value, c.cols.ensures.value) at (c.in_err-rank.ensures.lost wide)),
    ))
