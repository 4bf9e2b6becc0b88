use Rattle.pm_beneath.proofs.PlaceOutcomes.{placed_cells, placed_cells_triangulate}
use Rattle.pm_beneath.proofs.engine.place.Goals as goal
use Rattle.std.proofs.Common.{arith, map}

pub ordered_cells-requires-clause-within : goal.ordered_cells-requires-clause-within
ordered_cells-requires-clause-within c = rw (c.deref.ensures.value, c.deref-2.ensures.value) c.in_ok-placed.ensures.within

pub returns-clause-cells : goal.returns-clause-cells
returns-clause-cells c =
    let same = rw (c.deref.ensures.value, c.deref-2.ensures.value) at c.in_ok-simplices.ensures.same in
    placed_cells (λ s. s.items) c.args.cols c.args.lineality.now c.args.rays.now c.in_ok-placed.placed.taken.places.items c.in_ok-placed.placed.whole.cells.items (map (λ s. s.items) c.in_ok-simplices.simplices.items) c.requires.line_cols c.requires.ray_cols c.in_ok-placed.ensures.run same c.in_ok-simplices.ensures.ordered

pub returns-clause-triangulation : goal.returns-clause-triangulation
returns-clause-triangulation c =
    let same = rw (c.deref.ensures.value, c.deref-2.ensures.value) at c.in_ok-simplices.ensures.same in
    let all = placed_cells (λ s. s.items) c.args.cols c.args.lineality.now c.args.rays.now c.in_ok-placed.placed.taken.places.items c.in_ok-placed.placed.whole.cells.items (map (λ s. s.items) c.in_ok-simplices.simplices.items) c.requires.line_cols c.requires.ray_cols c.in_ok-placed.ensures.run same c.in_ok-simplices.ensures.ordered in
    placed_cells_triangulate c.args.cols c.args.lineality.now c.args.rays.now (map (λ s. s.items) c.in_ok-simplices.simplices.items) c.requires.line_cols c.requires.ray_cols all

pub returns-clause-few_cells : goal.returns-clause-few_cells
returns-clause-few_cells c =
    let f = rw c.deref.ensures.value at c.in_ok-simplices.ensures.few in
    let g = c.in_ok-placed.ensures.few in
    omega arith
