use Rattle.pm_fraction.proofs.Tables.{column_more}
use Rattle.pm_fraction.proofs.matrix.Matrix.column.Goals as goal
use Rattle.pm_fraction.specs.Matrices.{IsFraction}
use Rattle.std.proofs.Common.{arith, length, ◌<◌}
use Rattle.std.proofs.lemmas.List.Elements.{All-push}

pub loop-i-preserved : goal.loop-i-preserved
loop-i-preserved c =
    let known = c.known.ensures in
    let row = c.row.ensures in
    let in_row : c.args.j < length c.row.result.now = (let l = row.len in let j = c.requires in omega arith) in
    let within : c.loop-i.i < length c.args.self.now.rows = omega arith in
    rw (c.in_ok-push.ensures.items, known.value) record {
      items = column_more c.args.self.now.rows c.loop-i.i c.args.j c.loop-i.column.items c.row.result.now c.index-row-j.result within row.value in_row c.index-row-j.is c.loop-i.invariant.items;
      entries = All-push IsFraction c.loop-i.column.items c.index-row-j.result c.loop-i.invariant.entries known.is_fraction;
    }
