-- No event of a trace excludes a rule whose client cannot fail.
use Rattle.pm_client.specs.Meanings.{unsaid}
use Rattle.pm_geom.specs.declared.evidence.Evidence.{Evidence}
use Rattle.pm_object.specs.Reading.{ViewSeen}
use Rattle.pm_object.specs.State.{State, read_at, value_of}
use Rattle.pm_object.specs.declared.held.Excluded.{Excluded}
use Rattle.pm_object.specs.declared.held.Why.TheVariants as why
use Rattle.pm_props.specs.Sets.{has}
use Rattle.pm_props.specs.declared.kind.Kind.{Kind}
use Rattle.pm_props.specs.declared.kind.RuleId.{RuleId}
use Rattle.pm_props.specs.declared.set.PropSet.{PropSet}
use Rattle.pm_rounds.specs.Chains.{is_truth}
use Rattle.pm_rounds.specs.Events.{Configuration, Ensured, Event, HasFailed, IsFalse, IsTrace, MayOccur, Phase, after_event, at_rest, begun, committed, excluded, over, phase_after, running, settled, started, turn, unsettled, written}
use Rattle.pm_rounds.specs.declared.round.Ending.{Ending}
use Rattle.pm_rounds.specs.declared.round.Ending.TheVariants.{NoChain}
use Rattle.pm_rules.specs.Rules.{rule_at}
use Rattle.pm_rules.specs.declared.rule.Rule.{Rule}
use Rattle.pm_laws_complete.proofs.Free.{needs_none}
use Rattle.pm_laws_complete.proofs.SparedLaws.{spared_is_found}
use Rattle.pm_laws_complete.specs.Spared.{AreFree, KeptChainLeads, NeedNothing, Spares, SparesIn}
use Rattle.pm_laws_complete.specs.Told.{AreTold, KeptNeverFail, ToldIn}
use Rattle.std.proofs.Common.{ap, sym, true≢false, ◌∙◌}
use Rattle.std.specs.Prelude.{Bool, List, Option, Some, [], false, true, ℕ, ◌∷◌, ◌≡◌}
use Rattle.std.proofs.lemmas.Bool.{false_from_ne_true}

module _ (Fails : Kind → ViewSeen → Evidence → Type 0) (book : List Rule) (keeps : RuleId → Bool) (sub : Option ℕ) (asked : PropSet) (Good : State → Type 0) (need : NeedNothing book keeps) (kept : KeptNeverFail Fails book keeps sub asked Good) where
  by_false : (id : RuleId) (c : Configuration) (x : Excluded) → IsFalse book sub id c.object x → keeps id ≡ true → ⊥
  by_false id c x f k =
      let p = f.property in
      let n = need id f.rule f.is_rule k p in
      true≢false (sym f.first.wrong ∙ needs_none (has f.rule.must p) (is_truth false (value_of p (read_at sub c.object.held))) (has f.rule.must_not p) (is_truth true (value_of p (read_at sub c.object.held))) n.0 n.1)

  by_failure : (id : RuleId) (c : Configuration) (x : Excluded) → Good c.object → ToldIn Fails book sub c (excluded x) → HasFailed unsaid book sub id c.object x → keeps id ≡ true → ⊥
  by_failure id c x good told f k =
      let at : rule_at book x.rule ≡ Some f.rule = ap (λ (z : Excluded). rule_at book z.rule) f.is ∙ f.is_rule in
      kept.never c.object good id f.rule f.is_rule k f.evidence (told f.rule f.evidence at (ap (λ (z : Excluded). z.why) f.is))

  excludes : (phase : Phase) (c : Configuration) (x : Excluded) → MayOccur unsaid book sub asked phase c (excluded x) → Good c.object → ToldIn Fails book sub c (excluded x) → keeps x.rule ≡ false
  excludes unsettled c x may good told = absurd may
  excludes at_rest c x may good told = absurd may
  excludes (over chain e) c x may good told = absurd may
  excludes (turn chain id left) c x may good told = ap (λ (z : Excluded). keeps z.rule) may.is ∙ false_from_ne_true (keeps id) (by_false id c x may)
  excludes (running chain id left) c x may good told = ap (λ (z : Excluded). keeps z.rule) may.is ∙ false_from_ne_true (keeps id) (by_failure id c x good told may)

  one_spares : (phase : Phase) (c : Configuration) (e : Event) → MayOccur unsaid book sub asked phase c e → Good c.object → ToldIn Fails book sub c e → SparesIn keeps e
  one_spares phase c settled may good told = tt
  one_spares phase c (begun chain) may good told = tt
  one_spares phase c (started kind) may good told = tt
  one_spares phase c (committed answer) may good told = tt
  one_spares phase c (excluded x) may good told = excludes phase c x may good told
  one_spares phase c (written r) may good told = tt

  all_spare : (phase : Phase) (c : Configuration) (events : List Event) → IsTrace unsaid book sub asked phase c events → AreTold Fails book sub c events → Good c.object → Spares keeps events
  all_spare phase c [] t told good = tt
  all_spare phase c (e ∷ events) t told good =
      (one_spares phase c e t.0 good told.0, all_spare (phase_after phase e) (after_event sub e c) events t.1 told.1 (kept.stays phase c e t.0 good))

-- then no event of a trace excludes a kept rule (of Type 1, since it speaks of all predicates: so no contract names it)
pub told_are_spared : (Fails : Kind → ViewSeen → Evidence → Type 0) (book : List Rule) (keeps : RuleId → Bool) (sub : Option ℕ) (asked : PropSet) (Good : State → Type 0) → NeedNothing book keeps
    → KeptNeverFail Fails book keeps sub asked Good → (phase : Phase) (c : Configuration) (events : List Event)
    → IsTrace unsaid book sub asked phase c events → AreTold Fails book sub c events → Good c.object → Spares keeps events
told_are_spared Fails book keeps sub asked Good need kept phase c events t told good = all_spare Fails book keeps sub asked Good need kept phase c events t told good

-- and ensuring does not end for want of a chain
pub told_is_found : (Fails : Kind → ViewSeen → Evidence → Type 0) (book : List Rule) (keeps : RuleId → Bool) (sub : Option ℕ) (asked : PropSet) (Good : State → Type 0) (end : Ending) (old new : Configuration)
    (e : Ensured unsaid book sub asked end old new) → NeedNothing book keeps
    → KeptNeverFail Fails book keeps sub asked Good → AreTold Fails book sub old e.reaches.events → Good old.object
    → AreFree book keeps sub old → KeptChainLeads book keeps sub asked new → ¬ (end ≡ NoChain)
told_is_found Fails book keeps sub asked Good end old new e need kept told good free leads =
    spared_is_found book keeps sub asked end old new e need (all_spare Fails book keeps sub asked Good need kept unsettled old e.reaches.events e.reaches.trace told good) free leads
