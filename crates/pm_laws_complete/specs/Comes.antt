-- The value comes: what is asked of an object is found wherever a chain leads to it and nothing that started failed.
use Rattle.pm_client.specs.Meanings.{unsaid}
use Rattle.pm_command.specs.Commands.{RefSeen}
use Rattle.pm_laws_complete.specs.Completeness.{HoldsAlone, HoldsNeeds, HoldsObjective, descriptions}
use Rattle.pm_laws_complete.specs.Objects.{BarsNothing}
use Rattle.pm_rounds.specs.Chains.{AreBarred, held_names, still_missing, table}
use Rattle.pm_rounds.specs.Events.{Configuration, Ensured, Event, after_event, begun, committed, configuration, excluded, settled, started, written}
use Rattle.pm_machine.specs.Machines.{Machine}
use Rattle.pm_machine.specs.Steps.{GiveStep, Named, is_asked, no_chain, is_refused}
use Rattle.pm_rounds.specs.declared.round.Ending.{Ending}
use Rattle.pm_rounds.specs.declared.round.Ending.TheVariants as ending
use Rattle.pm_object_type.specs.declared.object_type.ObjectType.TheVariants.{Fan}
use Rattle.pm_props.specs.Properties.{is_in_use}
use Rattle.pm_props.specs.Sets.{only}
use Rattle.pm_props.specs.declared.kind.RuleId.{RuleId}
use Rattle.pm_props.specs.declared.property.PropId.{PropId}
use Rattle.pm_props.specs.declared.set.PropSet.{PropSet}
use Rattle.pm_rules.specs.Chains.{LeadsTo}
use Rattle.pm_rules.specs.declared.rule.Rule.{Rule}
use Rattle.pm_script.specs.Replies.{Remarks, refused}
use Rattle.pm_script.specs.declared.refusal.Refusal.TheVariants.{NoChain}
use Rattle.pm_standard.specs.Book.{standard_rules}
use Rattle.std.specs.List.{Contains}
use Rattle.std.specs.Prelude.{Bool, IsTrue, List, Option, [], false, true, ℕ, ◌∷◌, ◌≡◌}

-- the event is that a rule is excluded: its client failed, or it found a false precondition
abbrev pub is_exclusion : Event → Bool
is_exclusion (excluded e) = true
is_exclusion settled = false
is_exclusion (begun chain) = false
is_exclusion (started kind) = false
is_exclusion (committed answer) = false
is_exclusion (written r) = false

-- none of the events is
abbrev pub ExcludesNone : List Event → Type 0
ExcludesNone [] = Unit {0}
ExcludesNone (e ∷ events) = (is_exclusion e ≡ false) × ExcludesNone events

-- a chain of rules that are not barred now leads to what is asked and missing now
abbrev pub SomeChainLeadsNow : List Rule → Option ℕ → PropSet → Configuration → Type 0
SomeChainLeadsNow book sub asked c = (barred : List RuleId) → AreBarred book c.clients c.object sub barred
    → (chain : List RuleId) × LeadsTo book (table sub c.object.of) barred (held_names sub c.object)
    (still_missing sub asked c.object) chain

-- where one does as the object is settled, and no rule is excluded, the ending is that all is found, or that the
-- planner was crowded
abbrev pub ValueComes : Type 0
ValueComes = (book : List Rule) (sub : Option ℕ) (asked : PropSet) (end : Ending) (old new : Configuration)
    (e : Ensured unsaid book sub asked end old new)
    → ExcludesNone e.reaches.events → SomeChainLeadsNow book sub asked (after_event sub settled old)
    → ¬ (end ≡ ending.Crowded) → end ≡ ending.Found

-- a property of what a REF names was asked, and for want of a chain it was not found
pub record LacksChain (book : List Rule) (old : Machine) : Type 0 where
  pub found : Named
  pub property : PropId
  pub now : Configuration
  pub ensured : Ensured unsaid book found.sub (only property) ending.NoChain
      (configuration found.object old.clients) now

-- where `give` is refused for want of a chain, this was asked
abbrev pub lacking : {book : List Rule} {old new : Machine} {ref : RefSeen} {text : List ℕ} {more : Remarks}
    → GiveStep unsaid book old ref text (refused NoChain more) new → LacksChain book old
lacking (is_refused r s) = elim r [ ]
lacking (is_asked (x, at, p, named, c, no_chain e told, becomes)) =
    record { found = x; property = p; now = c; ensured = e }

-- so `give` is not refused for want of a chain, where one led there as the object was settled and no rule that it
-- started was excluded
abbrev pub GiveComes : Type 0
GiveComes = (book : List Rule) (old new : Machine) (ref : RefSeen) (text : List ℕ) (more : Remarks)
    (g : GiveStep unsaid book old ref text (refused NoChain more) new)
    → let l = lacking g in ExcludesNone l.ensured.reaches.events
    → SomeChainLeadsNow book l.found.sub (only l.property)
    (after_event l.found.sub settled (configuration l.found.object old.clients)) → ⊥

-- by the standard book one leads there where the settled object is a polytope or cone that holds one description
-- alone, and what the property needs beside it, and nothing is barred for it
abbrev pub StandardChainLeadsNow : Type 0
StandardChainLeadsNow = (sub : Option ℕ) (c : Configuration) → ¬ (c.object.of ≡ Fan) → (d : PropId × PropId)
    → Contains descriptions d → HoldsAlone d (held_names sub c.object)
    → HoldsObjective sub (held_names sub c.object)
    → BarsNothing sub c → (p : PropId) → IsTrue (is_in_use sub c.object.of p)
    → HoldsNeeds p (held_names sub c.object) → SomeChainLeadsNow standard_rules sub (only p) c
