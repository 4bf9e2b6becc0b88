use Rattle.std.proofs.Common.{IsTrue, ap, arith, false, subst, sym, ◌∙◌, ◌<◌, ◌≡◌}
use Rattle.std.specs.Option.{IfNone, IfSome}
use Rattle.std.specs.Prelude.{Option}
use Rattle.pm_props.specs.Properties.{number}
use Rattle.pm_props.specs.Sets.{has}
use Rattle.pm_props.specs.declared.property.PropId.{PropId}
use Rattle.pm_props.proofs.Members.{first_of, has-empty}
use Rattle.pm_props.proofs.set.PropSet.first.Goals as goal

pub returns-then-self-eq0-clause-none : goal.returns-then-self-eq0-clause-none
returns-then-self-eq0-clause-none c = λ p. rw (← c.self.view_is) (ap (λ n. has n p) c.if-self-eq0.true ∙ has-empty p)

pub returns-clause-some : goal.returns-clause-some
returns-clause-some c =
    let s = c.self.inside.bits in
    let first = first_of s c.self.invariant (omega arith) in
    rw (← c.self.view_is) (subst (λ (o : Option PropId). IfSome o (λ p. IsTrue (has s p))) (sym (c.at.ensures ∙ first.1)) first.2.inside)

pub returns-clause-least : goal.returns-clause-least
returns-clause-least c =
    let s = c.self.inside.bits in
    let first = first_of s c.self.invariant (omega arith) in
    rw (← c.self.view_is) (subst (λ (o : Option PropId). IfSome o (λ p. (q : PropId) → number q < number p → has s q ≡ false)) (sym (c.at.ensures ∙ first.1)) first.2.least)

pub returns-clause-none : goal.returns-clause-none
returns-clause-none c =
    let s = c.self.inside.bits in
    let first = first_of s c.self.invariant (omega arith) in
    subst (λ (o : Option PropId). IfNone o ((p : PropId) → has c.args.self p ≡ false)) (sym (c.at.ensures ∙ first.1)) tt
