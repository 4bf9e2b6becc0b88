use Rattle.std.proofs.Common.{sym, ◌∙◌}
use Rattle.pm_machine.proofs.Unloading.{none_before, none_named, not_this, this_is, without_this}
use Rattle.pm_machine.proofs.naming.place_named.Goals as goal

pub loop-i-init : goal.loop-i-init
loop-i-init g c = none_before _ _

pub loop-i-preserved : goal.loop-i-preserved
loop-i-preserved g c = not_this _ _ _ _ _ c.loop-i-test.true c.index-clients-i.is c.loop-i.invariant (sym c.is_named.ensures ∙ c.if-is_named.false)

pub returns-then-is_named-clause-some : goal.returns-then-is_named-clause-some
returns-then-is_named-clause-some g c = this_is _ _ _ _ _ c.loop-i-test.true c.index-clients-i.is c.loop-i.invariant (sym c.is_named.ensures ∙ c.if-is_named.true)

pub returns-then-is_named-clause-without : goal.returns-then-is_named-clause-without
returns-then-is_named-clause-without g c = without_this _ _ _ _ _ c.loop-i-test.true c.index-clients-i.is c.loop-i.invariant (sym c.is_named.ensures ∙ c.if-is_named.true)

pub returns-clause-none : goal.returns-clause-none
returns-clause-none g c = none_named _ _ _ _ c.loop-i-test.false c.loop-i.invariant
