-- What is looked up is what is looked up among the values that are left.
use Rattle.std.proofs.Common.{◌+◌, refl, ◌≡◌, ◌≢◌, sym, ◌∙◌}
use Rattle.pm_object.proofs.Find.{is_property, is_other, value_here, value_next}
use Rattle.pm_object.proofs.object.find.Goals as goal

pub loop-h-preserved : goal.loop-h-preserved
loop-h-preserved c =
    let other : c.h-item.result.id ≢ c.args.p = is_other c.h-item.result.id c.args.p (sym c.eq.ensures ∙ c.if-eq.false) in
    c.loop-h.invariant ∙ value_next c.args.p c.args.held.now c.loop-h.h-index (c.loop-h.h-index + 1) c.h-item.result refl c.loop-h-test.true c.h-item.is other

pub returns-then-eq : goal.returns-then-eq
returns-then-eq c =
    let same : c.h-item.result.id ≡ c.args.p = is_property c.h-item.result.id c.args.p (sym c.eq.ensures ∙ c.if-eq.true) in
    sym (c.loop-h.invariant ∙ value_here c.args.p c.args.held.now c.loop-h.h-index c.h-item.result c.loop-h-test.true c.h-item.is same)
