use Rattle.std.proofs.Common.{ap, drop, map, ◌∙◌}
use Rattle.std.proofs.lemmas.List.{take_all}
use Rattle.pm_elim.proofs.nulls.tail_rows.Goals as goal

pub tail_of-requires : goal.tail_of-requires
tail_of-requires c = rw c.row-item.is (c.requires c.loop-row.row-index c.row-item.result c.loop-row-test.true)

pub returns : goal.returns
returns c = c.loop-row.invariant ∙ ap (map (drop c.args.from)) (take_all c.loop-row.row-index c.args.rows.now c.loop-row-test.false)
