use Rattle.pm_incidence.proofs.Described.{half_length}
use Rattle.pm_incidence.proofs.FacetPlaces.{many_facets, places_within}
use Rattle.pm_incidence.proofs.facets.taken.Goals as goal
use Rattle.std.proofs.Common.{arith}

pub as_evidence-requires : goal.as_evidence-requires
as_evidence-requires c =
    let w = places_within c.args.of c.args.cols c.requires.some_columns c.args.rows.now c.args.equations.now c.args.rays.now c.args.kept.now.basis.rows c.args.kept.now.basis.pivots c.args.kept.now.places.items c.requires.row_cols c.requires.equation_cols c.requires.ray_cols c.requires.kept in
    let f = half_length c.args.of c.args.cols c.args.rows.now in
    let few = c.requires.few_rows in
    rw c.deref.ensures.value (λ k d l. let q = w k d l in omega arith)

pub returns-then-inside-clause-failed : goal.returns-then-inside-clause-failed
returns-then-inside-clause-failed c =
    let many = c.if-len-le-MOST_ROWS.false in
    let e = c.len.ensures in
    rw (c.from_vec.ensures, c.in_ok-places.ensures, c.deref.ensures.value) (many_facets c.args.of c.args.cols c.requires.some_columns c.args.rows.now c.args.equations.now c.args.rays.now c.args.kept.now.basis.rows c.args.kept.now.basis.pivots c.args.kept.now.places.items c.requires.row_cols c.requires.equation_cols c.requires.ray_cols c.requires.kept c.requires.point (c.in_ok-inside.ensures.inside.0 c.if-inside.true) (omega arith))
