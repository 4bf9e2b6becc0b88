use Rattle.pm_redund.proofs.Supported.{met_needed, products_length}
use Rattle.pm_redund.proofs.shot.met_first.Goals as goal
use Rattle.pm_redund.proofs.shot.met_first.Goals.{else-is_alone, then-is_alone}
use Rattle.std.proofs.Common.{ap, arith, false, length, sym, true, ◌≡◌, ◌∙◌}

pub returns-clause-sure : goal.returns-clause-sure
returns-clause-sure c = λ t. elim c.if-is_alone.branch [
  | then-is_alone w ↦
      let alone = rw (c.deref-3.ensures.value, c.deref-4.ensures.value) at (c.is_alone.ensures w.if-is_alone.true) in
      let flat = w.vanishes_on-sure.ensures (sym w.sure-is ∙ t) in
      let products = rw c.in-Some.is at c.in_ok-levels.ensures in
      met_needed c.args.cols c.args.rows.now c.args.lines.now c.args.support.now c.requires.support c.args.direction.now c.in-Some.levels.items c.in-Some-least.place products (let p = products_length c.args.direction.now c.args.rows.now in let q = ap length products in let e = rw c.deref.ensures.value at c.in-Some-least.ensures in omega arith) alone flat
  | else-is_alone w ↦ absurd (let e : false ≡ true = sym w.if-is_alone.false ∙ sym w.sure-is ∙ t in cc)
]
