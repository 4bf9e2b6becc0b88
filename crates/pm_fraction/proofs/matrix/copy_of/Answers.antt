use Rattle.pm_fraction.proofs.Tables.{copy_more}
use Rattle.pm_fraction.proofs.matrix.copy_of.Goals as goal
use Rattle.pm_fraction.specs.Matrices.{IsFraction}
use Rattle.std.proofs.lemmas.List.Elements.{All-push}

pub loop-i-preserved : goal.loop-i-preserved
loop-i-preserved c =
    let known = c.known.ensures in
    rw (c.in_ok-push.ensures.items, known.value) record {
      items = copy_more c.args.row.now c.loop-i.copy.items c.loop-i.i c.index-row-i.result c.loop-i-test.true c.index-row-i.is c.loop-i.invariant.items;
      entries = All-push IsFraction c.loop-i.copy.items c.index-row-i.result c.loop-i.invariant.entries known.is_fraction;
    }
