use Rattle.pm_beneath.proofs.SortedLaws.{ordered_apart}
use Rattle.pm_clients_geom.proofs.FoundHulls.{parts_of_generators}
use Rattle.pm_clients_geom.proofs.FoundPlaced.{fails_by_placing}
use Rattle.pm_clients_geom.proofs.LostParts.{placing_lost}
use Rattle.pm_clients_geom.proofs.RowLists.{first_source, second_source}
use Rattle.pm_clients_geom.proofs.placing.place_rows.Goals as goal
use Rattle.std.proofs.Common.{arith, map, sym}
use Rattle.std.proofs.lemmas.List.{length-map}

pub read_parts-requires-clause-first : goal.read_parts-requires-clause-first
read_parts-requires-clause-first c = first_source _ c.args.first c.args.second c.requires.kind.sources

pub read_parts-requires-clause-second : goal.read_parts-requires-clause-second
read_parts-requires-clause-second c = second_source _ c.args.first c.args.second c.requires.kind.sources

pub returns-in-Ok-clause-placed : goal.returns-in-Ok-clause-placed
returns-in-Ok-clause-placed c =
    let facets = rw (c.deref.ensures.value, c.deref-2.ensures.value, c.cols.ensures.value) at c.in-Ok.ensures.facets in
    let triangulation = rw (c.deref.ensures.value, c.deref-2.ensures.value, c.cols.ensures.value) at c.in-Ok.ensures.triangulation in
    let placed = rw (c.deref.ensures.value, c.deref-2.ensures.value, c.cols.ensures.value) at c.in-Ok.ensures.cells in
    let few = c.in-Ok.ensures.few_cells in
    let long = length-map c.in-Ok.found.simplices.items (λ s. s.items) in
    rw (c.from_vec-cells.ensures, c.len.ensures) (record {
      read = c.in_ok-parts.ensures.read;
      few_rays = c.in_ok-parts.ensures.second_few.few;
      facets = facets;
      few_facets = c.in-Ok.ensures.few_facets;
      triangulation = triangulation;
      few_cells = omega arith;
      ascending = placed.1.ascending;
      different = ordered_apart (map (λ s. s.items) c.in-Ok.found.simplices.items) placed.1.ordered;
      cols = sym (rw c.deref.ensures.value at c.deref.ensures.len);
    })

pub returns-in-Err-clause-failed : goal.returns-in-Err-clause-failed
returns-in-Err-clause-failed c =
    let v = c.args.view.now in
    let kind = c.requires.kind in
    rw c.client_fail.ensures (fails_by_placing v c.args.first c.args.second kind c.in_ok-parts.parts.first.items c.in_ok-parts.parts.second.items
    (parts_of_generators v c.args.first c.args.second c.in_ok-parts.parts.first.items c.in_ok-parts.parts.second.items kind.parts kind.generators c.in_ok-parts.ensures.read) c.in-Err.fail
    (rw (c.deref.ensures.value, c.deref-2.ensures.value, c.cols.ensures.value) at c.in-Err.ensures.shown))

pub returns-in-Err-clause-lost : goal.returns-in-Err-clause-lost
returns-in-Err-clause-lost c = λ e.
    let v = c.args.view.now in
    let kind = c.requires.kind in
    let parts = parts_of_generators v c.args.first c.args.second c.in_ok-parts.parts.first.items c.in_ok-parts.parts.second.items kind.parts kind.generators c.in_ok-parts.ensures.read in
    let shown = rw (c.deref.ensures.value, c.deref-2.ensures.value, c.cols.ensures.value) at c.in-Err.ensures.shown in
    let lost = rw (c.deref.ensures.value, c.deref-2.ensures.value, c.cols.ensures.value) at (c.in-Err.ensures.lost e) in
    rw c.client_fail.ensures (
      fails_by_placing v c.args.first c.args.second kind c.in_ok-parts.parts.first.items c.in_ok-parts.parts.second.items parts c.in-Err.fail shown,
      placing_lost v c.in_ok-parts.parts.first.items c.in_ok-parts.parts.second.items c.in-Err.fail parts shown lost,
    )
