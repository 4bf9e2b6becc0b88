use Rattle.pm_vector.proofs.Held.{kept}
use Rattle.pm_vector.proofs.WrittenQuotients.{difference_more, difference_whole}
use Rattle.pm_vector.proofs.wide_combination.differences.Goals as goal
use Rattle.pm_vector.specs.Rows.{entry}
use Rattle.pm_vector.specs.WideInts.{value_of}
use Rattle.std.proofs.Common.{FitsSigned, ap, arith, map, rules, [], ◌∷◌, ◌∙◌}
use Rattle.std.proofs.lemmas.List.{map-append}
use Rattle.std.specs.Int.{w128}

pub loop-i-preserved : goal.loop-i-preserved
loop-i-preserved c =
    let fits_v : FitsSigned w128 (entry c.args.v.now c.loop-i.i) = search rules in
    let fits_w : FitsSigned w128 (entry c.args.w.now c.loop-i.i) = search rules in
    difference_more (value_of c.args.p) c.args.v.now (value_of c.args.q) c.args.w.now c.loop-i.i (map value_of c.loop-i.made.items) (map value_of c.push.new.self.items) (value_of c.difference_of_products.result)
    c.loop-i-test.true c.requires.same_length
    (rw (kept (entry c.args.v.now c.loop-i.i) fits_v, kept (entry c.args.w.now c.loop-i.i) fits_w) at c.difference_of_products.ensures)
    (ap (map value_of) c.in_ok-push.ensures.items ∙ map-append value_of c.loop-i.made.items (c.difference_of_products.result ∷ []))
    c.loop-i.invariant

pub returns : goal.returns
returns c = difference_whole (value_of c.args.p) c.args.v.now (value_of c.args.q) c.args.w.now c.loop-i.i (map value_of c.loop-i.made.items) (omega arith) c.requires.same_length c.loop-i.invariant
