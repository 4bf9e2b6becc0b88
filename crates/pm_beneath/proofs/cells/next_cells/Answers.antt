use Rattle.pm_vector.specs.Rows.{entry}
use Rattle.pm_beneath.proofs.CellTurns.{below_else, below_then}
use Rattle.pm_beneath.proofs.cells.next_cells.Goals as goal
use Rattle.pm_beneath.proofs.cells.next_cells.Goals.{else-visible, then-visible+in_ok-made-2}
use Rattle.pm_beneath.specs.CellLists.{joined_cells}
use Rattle.std.proofs.Common.{Bool, List, ap, rules, map, sym, ◌++◌, ◌∙◌}
use Rattle.std.proofs.lemmas.Int.{to_z-of_z}
use Rattle.std.specs.Int.{w128}
use lib.IntN.{pos, ℤ}
use lib.Signed.{lt_z}

pub loop-i-preserved : goal.loop-i-preserved
loop-i-preserved c =
    let same = to_z-of_z w128 (entry c.args.values.now c.loop-i.i) (search rules) in
    elim c.if-visible.branch [
      | then-visible+in_ok-made-2 w ↦ below_then c.args.values.now c.args.zeros.now.rows c.args.new (map (λ s. s.items) c.args.cells.now) (map (λ s. s.items) c.loop-i.made.items) c.loop-i.i c.loop-i-test.true c.requires.many c.loop-i.invariant (map (λ s. s.items) c.if-visible.made.items)
          (ap (λ v. map (λ s. s.items) v.items) w.made-is ∙ w.in_ok-made-2.ensures ∙ ap (λ (z : List Bool). map (λ s. s.items) c.loop-i.made.items ++ joined_cells z c.args.new (map (λ s. s.items) c.args.cells.now)) w.row.ensures.value)
          (ap (λ (k : ℤ). lt_z k (pos 0)) (sym same) ∙ sym c.is_visible-visible.ensures ∙ w.if-visible.true)
      | else-visible w ↦ below_else c.args.values.now c.args.zeros.now.rows c.args.new (map (λ s. s.items) c.args.cells.now) (map (λ s. s.items) c.loop-i.made.items) c.loop-i.i c.loop-i-test.true c.requires.many c.loop-i.invariant (map (λ s. s.items) c.if-visible.made.items)
          (ap (λ v. map (λ s. s.items) v.items) w.made-is)
          (ap (λ (k : ℤ). lt_z k (pos 0)) (sym same) ∙ sym c.is_visible-visible.ensures ∙ w.if-visible.false)
    ]
