-- What is asked is found.
use Rattle.pm_laws_complete.specs.Comes.{lacking}
use Rattle.pm_machine.specs.Steps.{is_asked, is_refused, no_chain}
use Rattle.pm_props.specs.Sets.{only}
use Rattle.pm_props.specs.declared.kind.RuleId.{RuleId}
use Rattle.pm_props.specs.declared.set.PropSet.{PropSet}
use Rattle.pm_rounds.specs.Events.{Configuration, EndsIn, after_events, configuration}
use Rattle.pm_rounds.specs.declared.round.Ending.{Ending}
use Rattle.pm_rounds.specs.declared.round.Ending.TheVariants.{Crowded, Found, NoChain}
use Rattle.pm_rules.specs.declared.rule.Rule.{Rule}
use Rattle.pm_laws_complete.proofs.Free.{kept_rules_stay_free}
use Rattle.pm_laws_complete.specs.SparedExamples.{SparedIsRead}
use Rattle.pm_laws_complete.specs.Spared.{AreFree, KeptChainLeads, SparedGiveComes, SparedIsFound}
use Rattle.std.proofs.Common.{ap, refl, subst, sym, true≢false, ◌∙◌}
use Rattle.std.specs.Prelude.{Bool, List, Option, ℕ, ◌≡◌}

not_for_want : (book : List Rule) (keeps : RuleId → Bool) (sub : Option ℕ) (asked : PropSet) (end : Ending) (new : Configuration) → AreFree book keeps sub new → KeptChainLeads book keeps sub asked new → EndsIn book sub asked end new → end ≡ NoChain → ⊥
not_for_want book keeps sub asked Found new free leads ends e = cc
not_for_want book keeps sub asked Crowded new free leads ends e = cc
not_for_want book keeps sub asked NoChain new free leads ends e =
    let l = leads ends.barred (λ id rule at k. ends.are_barred.each id rule at ∙ free id rule at k) in
    ends.none.none l.0 l.1

pub spared_is_found : SparedIsFound
spared_is_found book keeps sub asked end old new e need spares free leads =
    not_for_want book keeps sub asked end new
    (subst (AreFree book keeps sub) (sym e.reaches.becomes) (kept_rules_stay_free book keeps sub old e.reaches.events need spares free))
    leads e.ends

pub spared_give_comes : SparedGiveComes
spared_give_comes book keeps old new ref text _ (is_refused r s) need spares free leads = elim r [ ]
spared_give_comes book keeps old new ref text more (is_asked (x, at, p, named, c, no_chain e told, becomes)) need spares free leads =
    spared_is_found book keeps x.sub (only p) NoChain (configuration x.object old.clients) c e need spares free leads refl

pub spared_is_read : SparedIsRead
spared_is_read = record {
  other = (tt, (refl, tt));
  none = tt;
  excluded = λ h. true≢false h.1.0;
}
