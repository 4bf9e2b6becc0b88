-- What is told of an object: the names that its rounds need, what it holds and how that came to be held, and the
-- evidence by which rules are barred. Nothing is computed to tell it.
use Rattle.pm_object.specs.State.{HeldValue, RoundSeen, State, read_at}
use Rattle.pm_object.specs.declared.held.Excluded.{Excluded}
use Rattle.pm_object.specs.declared.held.Origin.{Origin}
use Rattle.pm_object.specs.declared.held.Why.{Why}
use Rattle.pm_object.specs.declared.held.Why.TheVariants as why
use Rattle.pm_props.specs.Places.{same_property}
use Rattle.pm_props.specs.Properties.{every_property, has_program}
use Rattle.pm_props.specs.declared.kind.RuleId.{RuleId}
use Rattle.pm_props.specs.declared.property.PropId.{PropId}
use Rattle.pm_rules.specs.Rules.{rule_at}
use Rattle.pm_rules.specs.declared.rule.Rule.{Rule}
use Rattle.pm_script.specs.Replies.{NamesSeen, Rounds}
use Rattle.std.specs.List.{enumerate_from}
use Rattle.std.specs.Prelude.{Bool, List, None, Option, Some, [], false, filter, find, flat_map, if◌then◌else◌, map, not, option_map, true, ℕ, ◌&&◌, ◌∷◌}
use Rattle.std.specs.Str.{bytes_eq}

-- the label and the weight of each rule, and no programs
abbrev pub rules_told : List Rule → NamesSeen
rules_told book = record { rules = map (λ rule. (rule.label, rule.weight)) book; programs = [] }

-- the label and the weight of each rule of the book, and the names of the object's programs
abbrev pub names_told : List Rule → State → NamesSeen
names_told book o = record { rules = map (λ rule. (rule.label, rule.weight)) book; programs = o.programs }

abbrev pub named_rounds : List Rule → State → List RoundSeen → Rounds
named_rounds book o rounds = record { rounds = rounds; names = names_told book o }

-- ---- what is held
-- how the value of a property came to be held, if it is held
abbrev pub origin_of : PropId → List HeldValue → Option Origin
origin_of p held = option_map (λ h. h.origin) (find (λ h. same_property p h.property) held)

-- values of the property belong to the object itself, or to this program if one is asked
abbrev pub is_own : Option ℕ → PropId → Bool
is_own None p = not (has_program p)
is_own (Some s) p = has_program p

-- the property with its origin, if it has one
abbrev pub with_origin : PropId → Option Origin → List (PropId × Origin)
with_origin p None = []
with_origin p (Some origin) = (p, origin) ∷ []

-- the property with its origin, if it is held there as its own
abbrev pub told_there : State → Option ℕ → PropId → List (PropId × Origin)
told_there o sub p = if is_own sub p then with_origin p (origin_of p (read_at sub o.held)) else []

-- each property that the object itself holds, or this program if one is asked, in the order of the table
abbrev pub held_told : State → Option ℕ → List (PropId × Origin)
held_told o sub = flat_map (told_there o sub) every_property

-- the name of each program, and what it holds
abbrev pub programs_told : State → List (List ℕ × List (PropId × Origin))
programs_told o = map (λ x. (x.1, held_told o (Some x.0))) (enumerate_from 0 o.programs)

-- ---- evidence
-- by evidence, which is at hand or whose number came with a file
abbrev pub by_evidence : Why → Bool
by_evidence (why.Failed evidence) = true
by_evidence (why.Stored k) = true
by_evidence (why.False p) = false

abbrev pub is_labelled : List ℕ → Option Rule → Bool
is_labelled label None = false
is_labelled label (Some rule) = bytes_eq rule.label label

-- the rule of the number has the label
abbrev pub has_that_label : List Rule → List ℕ → RuleId → Bool
has_that_label book label id = is_labelled label (rule_at book id)

-- the exclusions by evidence of rules of the label, at the object and at its programs
abbrev pub evidence_of : List Rule → List ℕ → List Excluded → List Excluded
evidence_of book label excluded =
    filter (λ e. by_evidence e.why && has_that_label book label e.rule) excluded
