use Rattle.pm_beneath.proofs.FrontLaws.{all_within}
use Rattle.pm_beneath.proofs.PlaceLost.{place_lost}
use Rattle.pm_beneath.proofs.PlaceOutcomes.{arranged, basis_few, facets, fits, is_double, places_many, rows_many, shown}
use Rattle.pm_beneath.proofs.placed.all_placed.Goals as goal
use Rattle.pm_dd.proofs.HullLaws.{list_cols, list_length}
use Rattle.std.proofs.Common.{arith, inr, length, ◌*◌}

pub list_fronts-requires-clause-columns : goal.list_fronts-requires-clause-columns
list_fronts-requires-clause-columns c = list_cols c.args.cols c.args.lineality.now c.args.rays.now c.in_ok-stated.stated.list.items (is_double c.args.cols c.args.lineality.now c.args.rays.now c.in_ok-stated.stated.basis.items c.in_ok-stated.stated.list.items c.in_ok-stated.stated.taken.rows.items c.in_ok-stated.stated.taken.places.items c.in_ok-stated.stated.taken.start c.requires.line_cols c.requires.ray_cols c.in_ok-stated.ensures.stated) c.requires.ray_cols

pub list_fronts-requires-clause-few_list : goal.list_fronts-requires-clause-few_list
list_fronts-requires-clause-few_list c = let l = list_length c.args.cols c.args.lineality.now c.args.rays.now c.in_ok-stated.stated.list.items (is_double c.args.cols c.args.lineality.now c.args.rays.now c.in_ok-stated.stated.basis.items c.in_ok-stated.stated.list.items c.in_ok-stated.stated.taken.rows.items c.in_ok-stated.stated.taken.places.items c.in_ok-stated.stated.taken.start c.requires.line_cols c.requires.ray_cols c.in_ok-stated.ensures.stated) in omega arith

pub list_fronts-requires-clause-few_rows : goal.list_fronts-requires-clause-few_rows
list_fronts-requires-clause-few_rows c = let l = rows_many c.args.cols c.args.lineality.now c.args.rays.now c.in_ok-stated.stated.basis.items c.in_ok-stated.stated.list.items c.in_ok-stated.stated.taken.rows.items c.in_ok-stated.stated.taken.places.items c.in_ok-stated.stated.taken.start c.requires.line_cols c.requires.ray_cols c.in_ok-stated.ensures.stated in omega arith

pub list_fronts-requires-clause-few_equations : goal.list_fronts-requires-clause-few_equations
list_fronts-requires-clause-few_equations c = let l = basis_few c.args.cols c.args.lineality.now c.args.rays.now c.in_ok-stated.stated.basis.items c.in_ok-stated.stated.list.items c.in_ok-stated.stated.taken.rows.items c.in_ok-stated.stated.taken.places.items c.in_ok-stated.stated.taken.start c.requires.line_cols c.requires.ray_cols c.in_ok-stated.ensures.stated in omega arith

pub list_fronts-requires-clause-arranged : goal.list_fronts-requires-clause-arranged
list_fronts-requires-clause-arranged c = arranged c.args.cols c.args.lineality.now c.args.rays.now c.in_ok-stated.stated.basis.items c.in_ok-stated.stated.list.items c.in_ok-stated.stated.taken.rows.items c.in_ok-stated.stated.taken.places.items c.in_ok-stated.stated.taken.start c.requires.line_cols c.requires.ray_cols c.in_ok-stated.ensures.stated

pub place_fail-requires-clause-fits : goal.place_fail-requires-clause-fits
place_fail-requires-clause-fits c =
    let h = rw c.in-Err.is at c.list_fronts.ensures.fail in
    rw c.deref.ensures.value (fits c.args.cols c.args.lineality.now c.args.rays.now c.in_ok-stated.stated.basis.items c.in_ok-stated.stated.list.items c.in_ok-stated.stated.taken.rows.items c.in_ok-stated.stated.taken.places.items c.in_ok-stated.stated.taken.start c.requires.line_cols c.requires.ray_cols c.in_ok-stated.ensures.stated c.in-Err.fail c.requires.few_rays c.requires.few_lines (2 * c.len-lead.result) (let n = c.len-lead.ensures in let o = c.in_ok-stated.stated.basis.ok.0 in omega arith) h)

pub returns-in-Ok-clause-facets : goal.returns-in-Ok-clause-facets
returns-in-Ok-clause-facets c =
    let g = rw c.in-Ok.is at c.list_fronts.ensures.generators in
    facets c.args.cols c.args.lineality.now c.args.rays.now c.in_ok-stated.stated.basis.items c.in_ok-stated.stated.list.items c.in_ok-stated.stated.taken.rows.items c.in_ok-stated.stated.taken.places.items c.in_ok-stated.stated.taken.start c.requires.line_cols c.requires.ray_cols c.in_ok-stated.ensures.stated c.in-Ok.whole.facets.items c.in-Ok.whole.hull.items g

pub returns-in-Ok-clause-run : goal.returns-in-Ok-clause-run
returns-in-Ok-clause-run c =
    let r = rw c.in-Ok.is at c.list_fronts.ensures.run in
    record {
      basis = c.in_ok-stated.stated.basis.items;
      list = c.in_ok-stated.stated.list.items;
      rows = c.in_ok-stated.stated.taken.rows.items;
      start = c.in_ok-stated.stated.taken.start;
      stated = c.in_ok-stated.ensures.stated;
      run = r;
    }

pub returns-in-Ok-clause-within : goal.returns-in-Ok-clause-within
returns-in-Ok-clause-within c =
    let up = rw c.in-Ok.is at c.list_fronts.ensures.ascending in
    all_within (λ s. s.items) c.in-Ok.whole.cells.items (length c.in_ok-stated.stated.taken.rows.items) (length c.in_ok-stated.stated.taken.places.items) (let a = rows_many c.args.cols c.args.lineality.now c.args.rays.now c.in_ok-stated.stated.basis.items c.in_ok-stated.stated.list.items c.in_ok-stated.stated.taken.rows.items c.in_ok-stated.stated.taken.places.items c.in_ok-stated.stated.taken.start c.requires.line_cols c.requires.ray_cols c.in_ok-stated.ensures.stated in let b = places_many c.args.cols c.args.lineality.now c.args.rays.now c.in_ok-stated.stated.basis.items c.in_ok-stated.stated.list.items c.in_ok-stated.stated.taken.rows.items c.in_ok-stated.stated.taken.places.items c.in_ok-stated.stated.taken.start c.requires.line_cols c.requires.ray_cols c.in_ok-stated.ensures.stated in omega arith) up

pub returns-in-Err-clause-shown : goal.returns-in-Err-clause-shown
returns-in-Err-clause-shown c =
    let h = rw c.in-Err.is at c.list_fronts.ensures.fail in
    let q = rw c.deref.ensures.value at c.place_fail.ensures in
    shown c.args.cols c.args.lineality.now c.args.rays.now c.in_ok-stated.stated.basis.items c.in_ok-stated.stated.list.items c.in_ok-stated.stated.taken.rows.items c.in_ok-stated.stated.taken.places.items c.in_ok-stated.stated.taken.start c.requires.line_cols c.requires.ray_cols c.in_ok-stated.ensures.stated c.in-Err.fail c.place_fail.result (2 * c.len-lead.result) (let n = c.len-lead.ensures in let o = c.in_ok-stated.stated.basis.ok.0 in omega arith) h q

pub returns-in-Err-clause-lost : goal.returns-in-Err-clause-lost
returns-in-Err-clause-lost c = λ e.
    let q = rw c.deref.ensures.value at c.place_fail.ensures in
    let double = is_double c.args.cols c.args.lineality.now c.args.rays.now c.in_ok-stated.stated.basis.items c.in_ok-stated.stated.list.items c.in_ok-stated.stated.taken.rows.items c.in_ok-stated.stated.taken.places.items c.in_ok-stated.stated.taken.start c.requires.line_cols c.requires.ray_cols c.in_ok-stated.ensures.stated in
    let lost = rw c.in-Err.is at (c.list_fronts.ensures.lost e) in
    place_lost (length c.args.rays.now) (2 * c.len-lead.result) c.in_ok-stated.stated.taken.places.items c.in-Err.fail c.place_fail.result _ _ (λ h. inr (c.in_ok-stated.stated.list.items, double, h)) q lost
