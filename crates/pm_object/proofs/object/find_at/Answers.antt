-- What is looked up is what is looked up among the values that are left, of those that are read at the place.
use Rattle.std.proofs.Common.{refl, sym, ◌+◌, ◌≡◌, ◌≢◌, ◌∙◌}
use Rattle.pm_object.proofs.Find.{is_property, is_other, read_on, read_over, read_past}
use Rattle.pm_object.proofs.object.find_at.Goals as goal
use Rattle.pm_object.proofs.object.find_at.Goals.{else-is_read_at-via-then-is_read_at+else-eq, else-is_read_at-via-else-is_read_at}

pub loop-h-preserved : goal.loop-h-preserved
loop-h-preserved c =
    c.loop-h.invariant ∙ elim c.else-is_read_at.branch [
      | else-is_read_at-via-then-is_read_at+else-eq w ↦
          let other : c.h-item.result.id ≢ c.args.p = is_other c.h-item.result.id c.args.p (sym w.eq.ensures ∙ w.if-eq.false) in
          read_over c.args.sub c.args.p c.args.held.now c.loop-h.h-index (c.loop-h.h-index + 1) c.h-item.result refl c.loop-h-test.true c.h-item.is (sym c.is_read_at.ensures ∙ w.if-is_read_at.true) other
      | else-is_read_at-via-else-is_read_at w ↦
          read_past c.args.sub c.args.p c.args.held.now c.loop-h.h-index (c.loop-h.h-index + 1) c.h-item.result refl c.loop-h-test.true c.h-item.is (sym c.is_read_at.ensures ∙ w.if-is_read_at.false)
    ]

pub returns-then-eq : goal.returns-then-eq
returns-then-eq c =
    let same : c.h-item.result.id ≡ c.args.p = is_property c.h-item.result.id c.args.p (sym c.eq.ensures ∙ c.if-eq.true) in
    sym (c.loop-h.invariant ∙ read_on c.args.sub c.args.p c.args.held.now c.loop-h.h-index c.h-item.result c.loop-h-test.true c.h-item.is (sym c.is_read_at.ensures ∙ c.if-is_read_at.true) same)
