use Rattle.pm_fraction.proofs.Tables.{IsTransposeOf-columns, TransposedSoFar-more, TransposedSoFar-none}
use Rattle.pm_fraction.proofs.matrix.Matrix.transpose.Goals as goal
use Rattle.std.proofs.Common.{arith, map, ◌≡◌}
use Rattle.std.proofs.lemmas.List.{map_push}

pub loop-j-init : goal.loop-j-init
loop-j-init c = rw c.new-transposed.ensures.items (TransposedSoFar-none c.args.self.now)

pub loop-j-preserved : goal.loop-j-preserved
loop-j-preserved c =
    let column = c.in_ok-column.ensures in
    rw (c.in_ok-push.ensures.items, map_push)
    (TransposedSoFar-more c.args.self.now c.loop-j.j (map (λ r. r.items) c.loop-j.transposed.items) c.in_ok-column.field-0.items c.loop-j.invariant column.value column.entries)

pub returns : goal.returns
returns c =
    let value = c.cols-j-end.ensures.value in
    let all : c.loop-j.j ≡ c.args.self.now.cols = omega arith in
    rw c.rows.ensures.value (IsTransposeOf-columns c.args.self.now (map (λ r. r.items) c.loop-j.transposed.items) (rw all at c.loop-j.invariant))
