-- The clients are those of the tables, and say what their families say.
use Rattle.std.proofs.Common.{ap, arith, length, map, refl, ℕ, ◌++◌, ◌≡◌}
use Rattle.pm_clients_geom.specs.declared.hulls.HullWork.TheVariants.{DdVertices}
use Rattle.pm_machine.proofs.Beside.{files_stay}
use Rattle.pm_props.specs.declared.kind.Kind.{Kind}
use Rattle.pm_run.proofs.Boxing.{all_pushed, as_many, narrows_all, over_boxes, pushed_next, seen_by}
use Rattle.pm_run.proofs.Outcomes.{bad_with, not_run}
use Rattle.pm_run.proofs.Widening.{ended_as}
use Rattle.pm_run.proofs.shipped.polymake_with_shipped.Goals as goal
use Rattle.pm_run.specs.Shipped.{ShippedFails, ShippedStays, shipped, shipped_client, shipped_clients, unstarted}
use Rattle.pm_run.specs.declared.shipped.ShippedWork.TheVariants as work
use Rattle.pm_standard.specs.Table.{standard_clients, standard_kind, wide_clients}

pub loop-work-init : goal.loop-work-init
loop-work-init g c =
    ap (map {B = Kind × ℕ} (seen_by (λ x. (standard_kind (shipped_client x.work), x.starts)))) c.new-clients.ensures.items

pub loop-work-preserved : goal.loop-work-preserved
loop-work-preserved g c =
    let many : length c.every-works.result ≡ 95 = as_many shipped_client c.every-works.result (standard_clients ++ wide_clients) c.every-works.ensures in
    let on = c.loop-work-test.true in
    pushed_next (λ w. unstarted (shipped_client w)) c.every-works.result c.loop-work.work-index (work.Hull DdVertices) (omega arith) _ _ (over_boxes _ (λ x p a. refl))
    c.loop-work.clients.items c.push_client.new.clients.items _ c.loop-work.invariant c.in-Ok-push_client.ensures.pushed refl

-- memory ran out before it ran
pub returns-in_default-clause-run : goal.returns-in_default-clause-run
returns-in_default-clause-run g c = (shipped_clients, not_run _ _ _ (refl, refl, refl, files_stay _))

pub returns-in_default-push_client-clause-run : goal.returns-in_default-push_client-clause-run
returns-in_default-push_client-clause-run g c = (shipped_clients, not_run _ _ _ (refl, refl, refl, files_stay _))

-- it ran, with all of them
pub returns-clause-run : goal.returns-clause-run
returns-clause-run g c =
    let many : length c.every-works.result ≡ 95 = as_many shipped_client c.every-works.result (standard_clients ++ wide_clients) c.every-works.ensures in
    let over = c.loop-work-test.false in
    let narrows = narrows_all _ _ _ (λ w. standard_kind (shipped_client w)) ShippedStays ShippedFails c.loop-work.clients.items
    (over_boxes _ (λ x p a. record { work = x.work; is = refl; gives_so = λ v d q. q; fails_so = λ v e q. q })) in
    (_, ended_as shipped _ narrows _ _ _ _ (all_pushed unstarted shipped_client c.every-works.result c.loop-work.work-index (standard_clients ++ wide_clients) (omega arith) c.every-works.ensures _ _ (over_boxes _ (λ x p a. refl)) c.loop-work.clients.items c.loop-work.invariant) c.polymake-status.ensures.run)

pub returns-clause-bad_book : goal.returns-clause-bad_book
returns-clause-bad_book g c =
    let many : length c.every-works.result ≡ 95 = as_many shipped_client c.every-works.result (standard_clients ++ wide_clients) c.every-works.ensures in
    let over = c.loop-work-test.false in
    λ e. bad_with _ _ _ (g.F.Store.files c.args.store.now) (g.F.Store.faults c.args.store.now) (g.F.Store.faults c.polymake-status.new.store)
    (all_pushed unstarted shipped_client c.every-works.result c.loop-work.work-index (standard_clients ++ wide_clients) (omega arith) c.every-works.ensures _ _ (over_boxes _ (λ x p a. refl)) c.loop-work.clients.items c.loop-work.invariant)
    (c.polymake-status.ensures.bad_book e)
