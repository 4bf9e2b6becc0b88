-- Clients that fail as they are told to, and rules whose clients cannot fail so where the object is good.
use Rattle.pm_client.specs.Meanings.{unsaid}
use Rattle.pm_geom.specs.declared.evidence.Evidence.{Evidence}
use Rattle.pm_object.specs.Reading.{ViewSeen, view_for}
use Rattle.pm_object.specs.State.{State}
use Rattle.pm_object.specs.declared.held.Why.TheVariants as why
use Rattle.pm_props.specs.declared.kind.Kind.{Kind}
use Rattle.pm_props.specs.declared.kind.RuleId.{RuleId}
use Rattle.pm_props.specs.declared.set.PropSet.{PropSet}
use Rattle.pm_rounds.specs.Events.{Configuration, Event, MayOccur, Phase, after_event, columns, excluded}
use Rattle.pm_rounds.specs.declared.round.Ending.TheVariants as ending
use Rattle.pm_rules.specs.Rules.{rule_at}
use Rattle.pm_rules.specs.declared.rule.Rule.{Rule}
use Rattle.std.specs.Prelude.{Bool, IsTrue, List, Option, Some, [], ℕ, ◌∷◌, ◌≡◌}

-- where the event is that a client failed, it failed with this evidence as clients of its kind do
abbrev pub ToldIn : (Kind → ViewSeen → Evidence → Type 0) → List Rule → Option ℕ → Configuration → Event → Type 0
ToldIn Fails book sub c (excluded x) = (rule : Rule) (e : Evidence) → rule_at book x.rule ≡ Some rule
    → x.why ≡ why.Failed e → Fails rule.kind (view_for c.object sub rule.kind (columns c.object)) e
ToldIn Fails book sub c e = Unit {0}

-- so it is for each of the events
abbrev pub AreTold : (Kind → ViewSeen → Evidence → Type 0) → List Rule → Option ℕ → Configuration → List Event
    → Type 0
AreTold Fails book sub c [] = Unit {0}
AreTold Fails book sub c (e ∷ events) = ToldIn Fails book sub c e
    × AreTold Fails book sub (after_event sub e c) events

-- a good object stays good, and on a good object no client of a kept rule fails so
pub record KeptNeverFail (Fails : Kind → ViewSeen → Evidence → Type 0) (book : List Rule)
    (keeps : RuleId → Bool) (sub : Option ℕ) (asked : PropSet) (Good : State → Type 0) : Type 0 where
  pub stays : (phase : Phase) (c : Configuration) (e : Event) → MayOccur unsaid book sub asked phase c e → Good c.object
      → Good (after_event sub e c).object
  pub never : (o : State) → Good o → (id : RuleId) (rule : Rule) → rule_at book id ≡ Some rule
      → IsTrue (keeps id) → (e : Evidence) → Fails rule.kind (view_for o sub rule.kind (columns o)) e → ⊥
