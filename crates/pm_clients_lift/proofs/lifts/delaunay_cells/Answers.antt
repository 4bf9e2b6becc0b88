-- Delaunay cells are found of the sites that the view reads.
use Rattle.pm_client.proofs.ViewLaws.{has_listed}
use Rattle.pm_clients_lift.proofs.FoundLifted.{fails_by_raising}
use Rattle.pm_clients_lift.proofs.LostSites.{delaunay_sites_lost, raising_as}
use Rattle.pm_clients_lift.proofs.lifts.delaunay_cells.Goals as goal
use Rattle.pm_props.specs.declared.property.PropId.TheVariants.{Sites}
use Rattle.std.proofs.Common.{[], ap, arith, length, ◌∷◌}
use Rattle.std.proofs.lemmas.List.{length-map}

pub read_sites-requires : goal.read_sites-requires
read_sites-requires c = has_listed _ (Sites ∷ []) Sites c.requires.sources

pub returns-in-Ok-clause-cells : goal.returns-in-Ok-clause-cells
returns-in-Ok-clause-cells c =
    let cells = rw (c.deref.ensures.value, c.cols.ensures.value) at c.in-Ok.ensures.cells in
    let few = c.in-Ok.ensures.few in
    let long = length-map c.in-Ok.cells.items (λ s. s.items) in
    rw c.as_sets.ensures (record {
      sites = c.in_ok-sites.sites.items;
      read_sites = c.in_ok-sites.ensures.read;
      cols = ap length c.deref-in-Ok.ensures.value;
      found = cells;
      few = omega arith;
    })

pub returns-clause-failed : goal.returns-clause-failed
returns-clause-failed c =
    rw c.client_fail.ensures (fails_by_raising c.args.view.now c.in_ok-sites.sites.items c.requires c.in_ok-sites.ensures.read c.in-Err.fail (rw (c.deref.ensures.value, c.cols.ensures.value) at c.in-Err.ensures.failed))

pub returns-clause-lost : goal.returns-clause-lost
returns-clause-lost c = λ wide.
    rw c.client_fail.ensures (delaunay_sites_lost c.args.view.now c.in_ok-sites.sites.items c.in_ok-sites.ensures.read c.in-Err.fail
    (rw (c.deref.ensures.value, c.cols.ensures.value) at c.in-Err.ensures.failed) (raising_as c.cols.result c.args.view.now.cols c.deref.result.now c.in_ok-sites.sites.items c.in-Err.fail c.cols.ensures.value c.deref.ensures.value (c.in-Err.ensures.lost wide)))
