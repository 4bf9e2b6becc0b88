use Rattle.pm_geom.specs.FaceCounts.{binom}
use Rattle.pm_graph.proofs.Binomials.{binom_small}
use Rattle.pm_graph.proofs.HNumbers.{in_64, kept_product, term_bounds}
use Rattle.pm_graph.proofs.h_numbers.term.Goals as goal
use Rattle.std.proofs.Common.{ap, arith, pos, ◌-◌, ◌∙◌}
use Rattle.std.proofs.lemmas.Int.{ints}

pub returns-clause-low : goal.returns-clause-low
returns-clause-low c =
    let b = binom_small (c.args.d - c.args.i) (c.args.d - c.args.k) (let l = c.requires.few in omega arith) in
    let z = in_64 c.before-2.result c.before-2.type_inv in
    let e = kept_product c.from-count.result c.from-faces.result (binom (c.args.d - c.args.i) (c.args.d - c.args.k)) c.before-2.result (c.from-count.ensures ∙ ap pos c.choose.ensures) (omega (arith, ints, c.from-faces.ensures)) b z.0 z.1 in
    rw e (term_bounds (binom (c.args.d - c.args.i) (c.args.d - c.args.k)) c.before-2.result b z.0 z.1).0

pub returns-clause-high : goal.returns-clause-high
returns-clause-high c =
    let b = binom_small (c.args.d - c.args.i) (c.args.d - c.args.k) (let l = c.requires.few in omega arith) in
    let z = in_64 c.before-2.result c.before-2.type_inv in
    let e = kept_product c.from-count.result c.from-faces.result (binom (c.args.d - c.args.i) (c.args.d - c.args.k)) c.before-2.result (c.from-count.ensures ∙ ap pos c.choose.ensures) (omega (arith, ints, c.from-faces.ensures)) b z.0 z.1 in
    rw e (term_bounds (binom (c.args.d - c.args.i) (c.args.d - c.args.k)) c.before-2.result b z.0 z.1).1
