-- What the functions of a round do, each in terms of the events that it makes.
use Rattle.pm_client.specs.Meanings.{Meanings}
use Rattle.std.specs.Prelude.{Err, Ok, Result, ℕ, suc, ◌+◌, ◌++◌, ◌<◌, ◌≡◌, ◌⊎◌, ◌&&◌, false, true, IfSome, IsTrue, Option, None, Some, List, [], ◌∷◌, if◌then◌else◌, length, nat_eq}
use Rattle.std.specs.List.{list_any}
use Rattle.pm_client.specs.Sound.{HoldsOf}
use Rattle.pm_client.specs.declared.ClientFail.{ClientFail}
use Rattle.pm_client.specs.declared.ClientFail.TheVariants.{Failed}
use Rattle.pm_client.specs.Starts.{after_start, has_client}
use Rattle.pm_geom.specs.Evidence.{evidence_number}
use Rattle.pm_geom.specs.declared.evidence.Evidence.{Evidence}
use Rattle.pm_rounds.specs.Chains.{AllHeld, IsFirstWrong, held_names, is_excluded, place_of_rule, table}
use Rattle.pm_rounds.specs.Events.{Configuration, EndsIn, Phase, TraceLeads, StartedRule, at_rest, columns, over, turns}
use Rattle.pm_rounds.specs.declared.round.Ending.{Ending}
use Rattle.pm_object.specs.Honest.{facts}
use Rattle.pm_object.specs.Laws.{computed}
use Rattle.pm_object.specs.Reading.{DraftSeen, ViewSeen, answer_of, view_for}
use Rattle.pm_object.specs.State.{State, read_at, with_excluded, with_held}
use Rattle.pm_object.specs.declared.held.Excluded.{Excluded}
use Rattle.pm_object.specs.declared.held.RoundEnd.{RoundEnd}
use Rattle.pm_object.specs.declared.held.RoundEnd.TheVariants as end
use Rattle.pm_object.specs.declared.held.Why.TheVariants as why
use Rattle.pm_rules.specs.Chains.{IsChain, reached}
use Rattle.pm_rules.specs.Rules.{EachTag, is_barred, rule_at}
use Rattle.pm_rules.specs.declared.rule.Rule.{Rule}
use Rattle.pm_types.specs.Runs.{MayAnswer, missing, shown}
use Rattle.pm_props.specs.Kinds.{IsFresh, names_of}
use Rattle.pm_props.specs.Places.{same_place}
use Rattle.pm_props.specs.Properties.{has_program}
use Rattle.pm_props.specs.Sets.{IsSubset, has}
use Rattle.pm_types.specs.Values.{Fact}
use Rattle.pm_props.specs.declared.kind.Kind.{Kind}
use Rattle.pm_props.specs.declared.kind.RuleId.{RuleId}
use Rattle.pm_props.specs.declared.property.PropId.{PropId}
use Rattle.pm_props.specs.declared.set.PropSet.{PropSet}

-- the object has the program that is asked, if one is
abbrev pub HasPlace : Option ℕ → State → Type 0
HasPlace sub o = IfSome sub (λ s. s < length o.programs)

-- where it has a name of linear programs, the kind is fresh in no tag
abbrev pub IsStale : Kind → Type 0
IsStale kind = (p : PropId) → IsTrue (has (names_of kind) p) → IsTrue (has_program p)
    → EachTag (λ tag. IsFresh tag kind → ⊥)

-- ---- a turn of a rule
-- what a client means that read this view and failed so
abbrev pub failed_so : ViewSeen → ClientFail → Meanings
failed_so view fail = record { Gives = λ v d. ⊥; Fails = λ v f. (v ≡ view) × (f ≡ fail) }

-- what a client means that read this view, and put this draft or failed
abbrev pub ran_so : ViewSeen → DraftSeen → Result (Unit {0}) ClientFail → Meanings
ran_so view draft (Ok x) = record { Gives = λ v d. (v ≡ view) × (d ≡ draft); Fails = λ v f. ⊥ }
ran_so view draft (Err fail) = failed_so view fail

-- what is missing of the answer that the rule's client put is added
pub record Commits (m : Meanings) (sub : Option ℕ) (rule : Rule) (old new : State) : Type 0 where
  pub started : StartedRule sub rule old
  pub draft : DraftSeen
  pub gives : m.Gives (view_for old sub rule.kind (columns old)) draft
  pub answer : List Fact
  pub is : answer ≡ answer_of sub draft
  pub may_answer : MayAnswer old.of (columns old) rule.kind sub (shown rule.kind sub (facts old.held)) answer
  pub added : new ≡ with_held old (computed (missing sub (facts old.held) answer))

-- the rule is excluded, as its client failed, with evidence that holds of what it read
pub record FailedRun (m : Meanings) (sub : Option ℕ) (id : RuleId) (rule : Rule) (old : State)
    (other : RuleId) (k : ℕ) (new : State) : Type 0 where
  pub same : other ≡ id
  pub started : StartedRule sub rule old
  pub evidence : Evidence
  pub fails : m.Fails (view_for old sub rule.kind (columns old)) (Failed evidence)
  pub holds : HoldsOf evidence (view_for old sub rule.kind (columns old))
  pub named : k ≡ evidence_number evidence
  pub excluded : new
      ≡ with_excluded old (record { rule = id; sub = place_of_rule sub rule; why = why.Failed evidence })

-- the rule is excluded, for a precondition that is held with the wrong value
pub record FoundFalse (sub : Option ℕ) (id : RuleId) (rule : Rule) (old : State) (other : RuleId)
    (p : PropId) (new : State) : Type 0 where
  pub same : other ≡ id
  pub first : IsFirstWrong rule (read_at sub old.held) p
  pub excluded : new
      ≡ with_excluded old (record { rule = id; sub = place_of_rule sub rule; why = why.False p })

-- what a run of the rule's client makes of the object
abbrev pub RunsRule : Meanings → Option ℕ → RuleId → Rule → State → RoundEnd → State → Type 0
RunsRule m sub id rule old end.Done new = Commits m sub rule old new
RunsRule m sub id rule old (end.Failed other k) new = FailedRun m sub id rule old other k new
RunsRule m sub id rule old (end.False other p) new = ⊥

-- what a turn of the rule makes of the object and the clients: its client is started, unless a precondition is held
-- with the wrong value
abbrev pub TakesTurn : Meanings → Option ℕ → RuleId → Rule → Configuration → RoundEnd → Configuration → Type 0
TakesTurn m sub id rule old end.Done new = Commits m sub rule old.object new.object
    × (new.clients ≡ after_start rule.kind old.clients)
TakesTurn m sub id rule old (end.Failed other k) new = FailedRun m sub id rule old.object other k new.object
    × (new.clients ≡ after_start rule.kind old.clients)
TakesTurn m sub id rule old (end.False other p) new = FoundFalse sub id rule old.object other p new.object
    × (new.clients ≡ old.clients)

-- a turn broken off: the object stays, and the client was started or not
pub record BreaksTurn (sub : Option ℕ) (rule : Rule) (old new : Configuration) : Type 0 where
  pub object : new.object ≡ old.object
  pub clients : (new.clients ≡ old.clients)
      ⊎ (StartedRule sub rule old.object × (new.clients ≡ after_start rule.kind old.clients))

-- the phase after a turn, where these rules of the chain are left
abbrev pub after_turn : List RuleId → List RuleId → RoundEnd → Phase
after_turn chain left end.Done = turns chain left
after_turn chain left e = over chain e

-- ---- the turns of a chain
-- the rules that are left of a chain may take their turns: each is enabled in turn from the names held now, none was
-- excluded there, and each has a client
pub record MayFollow (book : List Rule) (sub : Option ℕ) (left : List RuleId) (c : Configuration)
    : Type 0 where
  pub barred : List RuleId
  pub enabled : IsChain book (table sub c.object.of) barred (held_names sub c.object) left
  pub free : (id : RuleId) (rule : Rule) → rule_at book id ≡ Some rule → is_barred barred id ≡ false
      → is_excluded c.object sub id rule ≡ false
  pub served : (id : RuleId) (rule : Rule) → rule_at book id ≡ Some rule → is_barred barred id ≡ false
      → has_client rule.kind c.clients ≡ true

-- the rule was not excluded there, and then it was
pub record Excludes (sub : Option ℕ) (id : RuleId) (rule : Rule) (old new : State) : Type 0 where
  pub before : is_excluded old sub id rule ≡ false
  pub why : Excluded
  pub number : why.rule.0 ≡ id.0
  pub place : why.sub ≡ place_of_rule sub rule
  pub after : new.excluded ≡ old.excluded ++ why ∷ []

-- some rule of the book was not excluded there, and then it was
pub record ExcludesOne (book : List Rule) (sub : Option ℕ) (old new : State) : Type 0 where
  pub id : RuleId
  pub rule : Rule
  pub is_rule : rule_at book id ≡ Some rule
  pub excludes : Excludes sub id rule old new

-- the rules of the chain took their turns until the round ended so: then all names are held that the chain reaches,
-- or one rule more is excluded
pub record FollowsChain (m : Meanings) (book : List Rule) (sub : Option ℕ) (chain : List RuleId) (old : Configuration)
    (e : RoundEnd) (new : Configuration) : Type 0 where
  pub reaches : (asked : PropSet) → TraceLeads m book sub asked (turns chain chain) old (over chain e) new
  pub further : IsSubset (reached book (held_names sub old.object) chain) (held_names sub new.object)
      ⊎ ExcludesOne book sub old.object new.object

-- ---- rounds
-- the chain was followed and the round written down
pub record RunsRound (m : Meanings) (book : List Rule) (sub : Option ℕ) (chain : List RuleId)
    (old new : Configuration) : Type 0 where
  pub reaches : (asked : PropSet) → TraceLeads m book sub asked (turns chain chain) old at_rest new
  pub further : IsSubset (reached book (held_names sub old.object) chain) (held_names sub new.object)
      ⊎ ExcludesOne book sub old.object new.object

-- a round was started: then all is held that was asked, or one rule more is excluded there
pub record RoundStarted (m : Meanings) (book : List Rule) (sub : Option ℕ) (asked : PropSet) (old new : Configuration)
    : Type 0 where
  pub reaches : TraceLeads m book sub asked at_rest old at_rest new
  pub further : AllHeld sub asked new.object ⊎ ExcludesOne book sub old.object new.object

-- a round was started; or the call ends so, and nothing changed
abbrev pub NextRound : Meanings → List Rule → Option ℕ → PropSet → Option Ending → Configuration → Configuration
    → Type 0
NextRound m book sub asked None old new = RoundStarted m book sub asked old new
NextRound m book sub asked (Some ending) old new = EndsIn book sub asked ending old × (new ≡ old)

-- how many rules of the book, counted from the number k, were not excluded there
abbrev pub unexcluded : Option ℕ → ℕ → List Rule → List Excluded → ℕ
unexcluded sub k [] excluded = 0
unexcluded sub k (rule ∷ rules) excluded =
    (if list_any (λ e. nat_eq e.rule.0 k && same_place e.sub (place_of_rule sub rule)) excluded then 0
    else 1) + unexcluded sub (suc k) rules excluded
