-- Each turn puts the next row below the others.
use Rattle.std.proofs.Common.{add-one, ap, arith, drop, drop-cons, length, suc, sym, ◌∙◌, ◌<◌, ◌≡◌, ◌++◌, ◌∷◌, Ok, []}
use Rattle.pm_json.proofs.Readings.{later_rows_from-item}
use Rattle.pm_json.specs.Readings.{later_row_from, later_rows_from, with_front}
use Rattle.pm_fraction.specs.Matrices.{FractionMatrix}
use Rattle.serde_json.specs.View.{items_view, view}
use Rattle.pm_json.proofs.matrix.read_later_rows.Goals as goal
use Rattle.pm_limits.specs.Limits.{most_rows}

pub loop-item-preserved : goal.loop-item-preserved
loop-item-preserved c =
    let m = c.loop-item.matrix in
    let n = c.args.matrix.now.cols in
    let rest = drop (suc c.loop-item.item-index) c.args.items.now in
    let kept = c.loop-item.invariant in
    let new : c.push_row.new.matrix ≡ record { cols = m.cols; rows = m.rows ++ c.in_ok-row.row.items ∷ [] } = rw c.deref.ensures.value at c.in_ok-push_row.ensures.ok in
    let left : drop c.loop-item.item-index c.args.items.now ≡ c.item-item.result ∷ rest =
    drop-cons c.args.items.now c.loop-item.item-index c.item-item.result c.loop-item-test.true ∙ ap (λ v. v ∷ rest) (sym c.item-item.is) in
    let room : length m.rows < most_rows = (let count = c.rows.ensures.value in let few = c.if-rows-ge-MOST_ROWS.false in omega arith) in
    let row : later_row_from n 0 (items_view c.in_ok-entries.entries.now) ≡ Ok c.in_ok-row.row.items =
    ap (λ k. later_row_from k 0 (items_view c.in_ok-entries.entries.now)) (sym (c.cols.ensures.value ∙ kept.0)) ∙ c.in_ok-row.ensures.ok in (
      ap (λ (z : FractionMatrix). z.cols) new ∙ kept.0,
      rw add-one (kept.1
          ∙ ap (λ vs. with_front m.rows (later_rows_from n (length m.rows) (items_view vs))) left
          ∙ later_rows_from-item n m.rows c.in_ok-row.row.items (view c.item-item.result) (items_view c.in_ok-entries.entries.now) (items_view rest) room c.in_ok-entries.ensures.ok row
          ∙ ap (λ (z : FractionMatrix). with_front z.rows (later_rows_from n (length z.rows) (items_view rest))) (sym new)),
    )
