use Rattle.pm_fraction.proofs.PrimitiveRows.{ArePrimitiveRows-all, IsWideRow-first, PrimitiveSoFar, PrimitiveSoFar-more, PrimitiveSoFar-none}
use Rattle.pm_fraction.proofs.matrix.Matrix.to_primitive_rows.Goals as goal
use Rattle.pm_fraction.proofs.matrix.Matrix.to_primitive_rows.Goals.{After-loop-i}
use Rattle.std.proofs.Common.{arith, length, ◌<◌, ◌≡◌}
use Rattle.std.proofs.lemmas.Result.{err_from_is_err_and}

pub loop-i-init : goal.loop-i-init
loop-i-init c = rw c.new-rows.ensures.items (PrimitiveSoFar-none c.args.self.now.rows)

pub loop-i-preserved : goal.loop-i-preserved
loop-i-preserved c =
    let row = c.in_ok-primitive_row_at.ensures in
    rw c.in_ok-push.ensures.items
    (PrimitiveSoFar-more c.args.self.now.rows c.loop-i.i c.loop-i.rows.items c.in_ok-primitive_row_at.field-0 c.loop-i.invariant
    (rw c.row.ensures.value at row.value) (rw c.row.ensures.value at row.multiple) (rw c.row.ensures.value at row.stays))

all_rows : (c : After-loop-i) → PrimitiveSoFar c.args.self.now.rows (length c.args.self.now.rows) c.loop-i.rows.items
all_rows c =
    let count = c.rows-i-end.ensures.value in
    let all : c.loop-i.i ≡ length c.args.self.now.rows = omega arith in
    rw all at c.loop-i.invariant

pub returns-clause-rows : goal.returns-clause-rows
returns-clause-rows c = ArePrimitiveRows-all c.args.self.now.rows c.loop-i.rows.items (all_rows c)

pub returns-clause-stays : goal.returns-clause-stays
returns-clause-stays c = (all_rows c).stay

pub returns-in_err-primitive_row_at-clause-wide : goal.returns-in_err-primitive_row_at-clause-wide
returns-in_err-primitive_row_at-clause-wide c =
    let p = err_from_is_err_and c.from_residual.result c.from_residual.ensures.1 in
    let count = c.rows-i-end.ensures.value in
    let within : c.loop-i.i < length c.args.self.now.rows = omega arith in
    rw (p.1, p.2)
    (IsWideRow-first c.args.self.now.rows c.loop-i.i c.in_err-primitive_row_at.field-0.0 within c.loop-i.invariant.stay
    (rw c.row.ensures.value at c.in_err-primitive_row_at.ensures.wide))
