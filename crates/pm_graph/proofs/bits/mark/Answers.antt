use Rattle.pm_graph.proofs.Turns.{lengths_stay, marked_more}
use Rattle.pm_bits.specs.Sets.{has}
use Rattle.pm_graph.proofs.bits.mark.Goals as goal
use Rattle.pm_graph.specs.Tables.{IsMarked}
use Rattle.std.proofs.Common.{[], ap, arith, get_or, length, subst, sym, ◌<◌, ◌∙◌}
use Rattle.std.proofs.lemmas.List.{get_or_default, take_all}

pub loop-j-preserved : goal.loop-j-preserved
loop-j-preserved c =
    let k = c.loop-j.j-index in
    let l : c.loop-j.j-index < length c.args.set.now = c.loop-j-test.true in
    let x = get_or c.args.set.now c.loop-j.j-index 0 in
    let ex = get_or_default c.args.set.now c.loop-j.j-index 0 (get_or c.args.set.now c.loop-j.j-index 0) l in
    let lx : get_or c.args.set.now c.loop-j.j-index 0 < length c.loop-j.rows = omega (arith, c.requires.below c.loop-j.j-index 0 l) in
    let is = c.index-rows-j.is ∙ get_or_default c.loop-j.rows (get_or c.args.set.now c.loop-j.j-index 0) c.index-rows-j.result [] lx in
    let same = sym c.index-rows-j.is in
    record {
      lengths = λ j. lengths_stay c.args.set.now c.args.place k c.args.rows.now c.loop-j.rows x c.index-rows-j.result c.set.new.self l ex c.loop-j.auto.rows lx is c.set.ensures.member (λ i ne. c.set.ensures.others i ne ∙ ap (λ r. has r i) same) c.loop-j.invariant.marked (c.set.ensures.len ∙ ap length same) j ∙ c.loop-j.invariant.lengths j;
      marked = marked_more c.args.set.now c.args.place k c.args.rows.now c.loop-j.rows x c.index-rows-j.result c.set.new.self l ex c.loop-j.auto.rows lx is c.set.ensures.member (λ i ne. c.set.ensures.others i ne ∙ ap (λ r. has r i) same) c.loop-j.invariant.marked;
    }

pub returns-clause-marked : goal.returns-clause-marked
returns-clause-marked c = subst (λ s. IsMarked s c.args.place c.args.rows.now c.loop-j.rows) (take_all c.loop-j.j-index c.args.set.now (omega arith)) c.loop-j.invariant.marked
