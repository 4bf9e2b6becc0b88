use Rattle.std.proofs.Common.{ap, not, refl, true, ◌&&◌, ◌∙◌, ◌≡◌}
use Rattle.std.proofs.lemmas.Bool.{eq-eqb}
use Rattle.pm_props.specs.Properties.{number}
use Rattle.pm_props.specs.Sets.{has}
use Rattle.pm_props.proofs.Members.{gone_less, has-only}
use Rattle.pm_props.proofs.set.PropSet.without.Goals as goal

pub returns-clause-members : goal.returns-clause-members
returns-clause-members c = λ q. c.difference.ensures.members q ∙ ap (λ b. has c.args.self q && not b) (ap (λ n. has n q) c.of.ensures.value ∙ has-only c.args.p q)

pub returns-clause-less : goal.returns-clause-less
returns-clause-less c = λ h.
    let there : has c.of.result c.args.p ≡ true = ap (λ n. has n c.args.p) c.of.ensures.value ∙ has-only c.args.p c.args.p ∙ eq-eqb (number c.args.p) (number c.args.p) refl in
    gone_less c.args.self c.difference.result c.args.p c.difference.ensures.most h
    (c.difference.ensures.members c.args.p ∙ ap (λ b. b && not (has c.of.result c.args.p)) h ∙ ap (λ b. not b) there)
