use Rattle.std.proofs.Common.{◌≡◌, ◌∙◌, sym, subst}
use Rattle.pm_props.specs.declared.set.PropSet.{PropSet}
use Rattle.pm_props.specs.Sets.{IsSubset}
use Rattle.pm_rules.specs.Rules.{inputs}
use Rattle.pm_rules.specs.Chains.Needed.{is_asked}
use Rattle.pm_rules.proofs.NeededNames.{needed_within}
use Rattle.pm_rules.proofs.useful.needed.Goals as goal

pub grow-init : goal.grow-init
grow-init c = record { begun = λ p h. h; sound = λ p h. is_asked h }

pub grow-preserved : goal.grow-preserved
grow-preserved c = record {
  begun = λ p h. c.with_read-more.ensures.grows p (c.grow.invariant.begun p h);
  sound = c.with_read-more.ensures.sound c.args.asked c.grow.invariant.sound;
}

pub returns-then-bits : goal.returns-then-bits
returns-then-bits c =
    let same : c.with_read-more.result ≡ c.grow.needed = sym c.bits.ensures.value ∙ c.if-bits.true ∙ c.bits-in-grow.ensures.value in
    λ p. (
      (λ h. c.grow.invariant.sound p h),
      (λ h. needed_within c.args.rules.now c.args.names c.args.barred.now c.args.asked c.grow.needed c.grow.invariant.begun
          (λ id rule e finds. subst (λ (s : PropSet). IsSubset (inputs rule) s) same (c.with_read-more.ensures.closed id rule e finds)) p h),
    )
