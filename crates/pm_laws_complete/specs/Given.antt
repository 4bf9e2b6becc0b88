-- Objects as a user gives them, by one description or the first half of one: what they hold once they are settled, what
-- is found of them, and what happened where something is not.
use Rattle.pm_client.specs.Meanings.{unsaid}
use Rattle.std.specs.Prelude.{ℕ, ◌≡◌, ◌⊎◌, ◌||◌, Bool, IsTrue, None, Option, Some, false, List, [], ◌∷◌, ◌++◌}
use Rattle.std.specs.List.{Contains, list_all}
use Rattle.pm_client.specs.Starts.{has_client}
use Rattle.pm_command.specs.Commands.{RefSeen}
use Rattle.pm_machine.specs.Machines.{Machine, later_rounds, shelf}
use Rattle.pm_machine.specs.Steps.{GiveStep, Named, named_at, property_at, settled_object}
use Rattle.pm_object.specs.Formed.{IsFormed}
use Rattle.pm_object.specs.State.{HeldValue, RoundSeen, State, has_rounds, read_at, value_of}
use Rattle.pm_object.specs.declared.held.Excluded.{Excluded}
use Rattle.pm_object_type.specs.declared.object_type.ObjectType.TheVariants.{Fan}
use Rattle.pm_props.specs.Places.{same_place}
use Rattle.pm_props.specs.Properties.{has_program, is_in_use}
use Rattle.pm_props.specs.Sets.{has, only}
use Rattle.pm_props.specs.declared.property.PropId.{PropId}
use Rattle.pm_props.specs.declared.property.PropId.TheVariants.{Bounded, Simplicial}
use Rattle.pm_props.specs.declared.set.PropSet.{PropSet}
use Rattle.pm_rounds.specs.Chains.{held_names, is_truth, place_of_rule}
use Rattle.pm_rounds.specs.Events.{Configuration, after_event, configuration, end_by, settled}
use Rattle.pm_rules.specs.Rules.{rule_at}
use Rattle.pm_rules.specs.declared.rule.Rule.{Rule}
use Rattle.pm_script.specs.Replies.{Remarks, refused}
use Rattle.pm_script.specs.declared.refusal.Refusal.TheVariants.{NoChain}
use Rattle.pm_standard.specs.Book.{standard_rules}
use Rattle.pm_standard.specs.Table.{standard_clients, standard_kind}
use Rattle.pm_laws_complete.specs.Comes.{SomeChainLeadsNow}
use Rattle.pm_laws_complete.specs.Completeness.{HoldsAlone, HoldsNeeds, HoldsObjective, descriptions, is_tagged}
use Rattle.pm_laws_complete.specs.Objects.{BarsNothing}

-- the first half of the description d is held; of the names that have a tag no other is, but for its second half
pub record IsDescribedBy (d : PropId × PropId) (held : PropSet) : Type 0 where
  pub first : IsTrue (has held d.0)
  pub no_other : (p : PropId) → IsTrue (has held p) → IsTrue (is_tagged p) → (p ≡ d.0) ⊎ (p ≡ d.1)

-- what is no property of linear programs stands in the object itself
abbrev pub are_own : List HeldValue → Bool
are_own held = list_all (λ h. has_program h.property || same_place h.place None) held

-- so it is in every object that is formed
abbrev pub FormedAreOwn : Type 0
FormedAreOwn = (o : State) → IsFormed o → IsTrue (are_own o.held)

-- where no round was started for an object that is described so, once it is settled it holds the description alone
abbrev pub SettledHoldsAlone : Type 0
SettledHoldsAlone = (sub : Option ℕ) (o : State) (d : PropId × PropId) → Contains descriptions d
    → has_rounds o ≡ false → IsTrue (are_own o.held) → IsDescribedBy d (held_names sub o)
    → HoldsAlone d (held_names sub (settled_object o))

-- no rule was excluded for the object and no label disabled, there is a client of each standard kind, and who asks does
-- not read BOUNDED or SIMPLICIAL as false
pub record IsUntouched (sub : Option ℕ) (c : Configuration) : Type 0 where
  pub excluded : c.object.excluded ≡ []
  pub disabled : c.object.disabled ≡ []
  pub clients : IsTrue (list_all (λ k. has_client (standard_kind k) c.clients) standard_clients)
  pub bounded : is_truth false (value_of Bounded (read_at sub c.object.held)) ≡ false
  pub simplicial : is_truth false (value_of Simplicial (read_at sub c.object.held)) ≡ false

-- no standard rule is barred then
abbrev pub UntouchedBarsNothing : Type 0
UntouchedBarsNothing = (sub : Option ℕ) (c : Configuration) → IsUntouched sub c → BarsNothing sub c

-- a polytope or cone, with an objective where a linear program is asked, as it is given by the description d or the
-- first half of it: no round was started for it, and no standard rule is barred
pub record IsGivenBy (d : PropId × PropId) (sub : Option ℕ) (c : Configuration) : Type 0 where
  pub listed : Contains descriptions d
  pub type : ¬ (c.object.of ≡ Fan)
  pub described : IsDescribedBy d (held_names sub c.object)
  pub own : IsTrue (are_own c.object.held)
  pub objective : HoldsObjective sub (held_names sub c.object)
  pub no_rounds : has_rounds c.object ≡ false
  pub free : BarsNothing sub c

-- by each book that begins with the standard rules a chain leads from what is given so, as it is settled, to each
-- property of its table for which what it needs is held, and of that of programs where one is asked
abbrev pub GivenLeadsNow : Type 0
GivenLeadsNow = (more : List Rule) (d : PropId × PropId) (sub : Option ℕ) (c : Configuration) → IsGivenBy d sub c
    → (p : PropId) → IsTrue (is_in_use sub c.object.of p) → HoldsNeeds p (held_names sub c.object)
    → SomeChainLeadsNow (standard_rules ++ more) sub (only p) (after_event sub settled c)

-- the object after has the excluded rules of the object before, and more: the first of these is a rule of the book, is
-- excluded at the place where that bars it for who asks, and ended a later round
pub record ExcludesMore (book : List Rule) (sub : Option ℕ) (old new : State) : Type 0 where
  pub next : Excluded
  pub others : List Excluded
  pub are : new.excluded ≡ old.excluded ++ next ∷ others
  pub rule : Rule
  pub is_rule : rule_at book next.rule ≡ Some rule
  pub place : next.sub ≡ place_of_rule sub rule
  pub round : RoundSeen
  pub later : Contains (later_rounds old new) round
  pub ended : round.end ≡ end_by next.rule next.why

-- so where `give` is refused for want of a chain to such a property of what is given so, it has excluded a rule
abbrev pub RefusedExcludesMore : Type 0
RefusedExcludesMore = (more : List Rule) (old new : Machine) (ref : RefSeen) (text : List ℕ) (beside : Remarks)
    → GiveStep unsaid (standard_rules ++ more) old ref text (refused NoChain beside) new
    → (x : Named) → named_at (shelf old) ref ≡ Some x → (d : PropId × PropId)
    → IsGivenBy d x.sub (configuration x.object old.clients)
    → (p : PropId) → property_at x text ≡ Some p → HoldsNeeds p (held_names x.sub x.object)
    → (o : State) × (new.object ref.name ≡ Some o)
    × ExcludesMore (standard_rules ++ more) x.sub x.object o
