-- Cells are found of the sites and heights that the view reads, or there are more or fewer heights than sites.
use Rattle.pm_client.proofs.ViewLaws.{has_listed}
use Rattle.pm_clients_lift.proofs.FoundLifted.{fails_by_lifting, no_cells}
use Rattle.pm_clients_lift.proofs.LostSites.{lifting_as, sites_lost}
use Rattle.pm_clients_lift.proofs.lifts.regular_cells.Goals as goal
use Rattle.pm_props.specs.declared.property.PropId.TheVariants.{SiteHeights, Sites}
use Rattle.std.proofs.Common.{[], ap, arith, inl, length, map, refl, ◌∷◌}
use Rattle.std.proofs.lemmas.List.{length-map}

pub read_heights-heights-requires : goal.read_heights-heights-requires
read_heights-heights-requires c = has_listed _ (Sites ∷ SiteHeights ∷ []) SiteHeights c.requires.sources

pub read_sites-requires : goal.read_sites-requires
read_sites-requires c = has_listed _ (Sites ∷ SiteHeights ∷ []) Sites c.requires.sources

pub returns-then-heights-len-clause-cells : goal.returns-then-heights-len-clause-cells
returns-then-heights-len-clause-cells c =
    let whole = c.in_ok-sites.sites.ok in
    let count = c.len.ensures in
    rw c.from_vec.ensures
    (no_cells c.args.view.now c.in_ok-sites.sites.items c.read_heights-heights.result.now c.in_ok-sites.ensures.read
    (record { reads = c.read_heights-heights.ensures.read; fractions = c.read_heights-heights.ensures.fractions })
    (λ e. c.if-heights-len.true (omega arith)) _ (ap (λ rows. map (λ s. s.items) rows) c.new.ensures.items) refl)

pub returns-in-Ok-clause-cells : goal.returns-in-Ok-clause-cells
returns-in-Ok-clause-cells c =
    let cells = rw (c.deref.ensures.value, c.cols.ensures.value) at c.in-Ok.ensures.cells in
    let few = c.in-Ok.ensures.few in
    let whole = c.in_ok-sites.sites.ok in
    let count = c.len.ensures in
    let same = c.if-heights-len.false in
    let long = length-map c.in-Ok.cells.items (λ s. s.items) in
    rw c.as_sets.ensures (record {
      sites = c.in_ok-sites.sites.items;
      heights = c.read_heights-heights.result.now;
      read_sites = c.in_ok-sites.ensures.read;
      read_heights = record { reads = c.read_heights-heights.ensures.read; fractions = c.read_heights-heights.ensures.fractions };
      found = inl (omega arith, ap length c.deref-in-Ok.ensures.value, cells);
      few = omega arith;
    })

pub returns-clause-failed : goal.returns-clause-failed
returns-clause-failed c =
    rw c.client_fail.ensures (fails_by_lifting c.args.view.now c.in_ok-sites.sites.items c.read_heights-heights.result.now c.requires c.in_ok-sites.ensures.read
    (record { reads = c.read_heights-heights.ensures.read; fractions = c.read_heights-heights.ensures.fractions }) c.in-Err.fail (rw (c.deref.ensures.value, c.cols.ensures.value) at c.in-Err.ensures.failed))

pub returns-clause-lost : goal.returns-clause-lost
returns-clause-lost c = λ wide.
    let whole = c.in_ok-sites.sites.ok in
    let count = c.len.ensures in
    let same = c.if-heights-len.false in
    rw c.client_fail.ensures (sites_lost c.args.view.now c.in_ok-sites.sites.items c.read_heights-heights.result.now c.in_ok-sites.ensures.read
    (record { reads = c.read_heights-heights.ensures.read; fractions = c.read_heights-heights.ensures.fractions }) (omega arith) c.in-Err.fail
    (rw (c.deref.ensures.value, c.cols.ensures.value) at c.in-Err.ensures.failed) (lifting_as c.cols.result c.args.view.now.cols c.deref.result.now c.in_ok-sites.sites.items c.read_heights-heights.result.now c.in-Err.fail c.cols.ensures.value c.deref.ensures.value (c.in-Err.ensures.lost wide)))
