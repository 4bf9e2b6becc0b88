-- Books that begin with the standard rules, as the wide one does: what the standard book finds, each of them finds.
use Rattle.std.specs.Prelude.{ℕ, ◌≡◌, IsTrue, Option, false, List, ◌++◌}
use Rattle.std.specs.List.{All, Contains}
use Rattle.pm_rounds.specs.Chains.{held_names}
use Rattle.pm_rounds.specs.Events.{Configuration}
use Rattle.pm_props.specs.declared.kind.RuleId.{RuleId}
use Rattle.pm_object_type.specs.declared.object_type.ObjectType.{ObjectType}
use Rattle.pm_object_type.specs.declared.object_type.ObjectType.TheVariants.{Fan}
use Rattle.pm_props.specs.declared.property.PropId.{PropId}
use Rattle.pm_props.specs.declared.set.PropSet.{PropSet}
use Rattle.pm_props.specs.Properties.{is_in_use}
use Rattle.pm_props.specs.Sets.{has, only}
use Rattle.pm_standard.specs.Book.{standard_rules, wide_rules}
use Rattle.pm_rules.specs.Chains.{LeadsTo}
use Rattle.pm_rules.specs.Rules.{is_barred}
use Rattle.pm_rules.specs.declared.rule.Rule.{Rule}
use Rattle.pm_laws_complete.specs.Comes.{SomeChainLeadsNow}
use Rattle.pm_laws_complete.specs.Completeness.{BarsNone, HoldsAlone, HoldsNeeds, HoldsObjective, descriptions, names_for}
use Rattle.pm_laws_complete.specs.Objects.{BarsNothing}

-- what a chain of a book leads to, it leads to by each book that begins with it, where none of its rules is barred
abbrev pub ChainsStay : Type 0
ChainsStay = (book more : List Rule) (names : PropSet) (barred later : List RuleId) (held asked : PropSet)
    (chain : List RuleId) → LeadsTo book names barred held asked chain
    → All (λ id. is_barred later id ≡ false) chain → LeadsTo (book ++ more) names later held asked chain

-- where no standard rule is barred, a chain of the book leads from names that are held alone to each property of the
-- table for which what it needs is held, and, where a linear program with an objective is asked, of that of programs
abbrev pub IsComplete : List Rule → Type 0
IsComplete book = (sub : Option ℕ) (of : ObjectType) → ¬ (of ≡ Fan) → (d : PropId × PropId)
    → Contains descriptions d → (held : PropSet) → HoldsAlone d held → HoldsObjective sub held
    → (barred : List RuleId) → BarsNone barred → (p : PropId) → IsTrue (has (names_for sub of) p)
    → HoldsNeeds p held → (chain : List RuleId)
    × LeadsTo book (names_for sub of) barred held (only p) chain

-- so it is of each book that begins with the standard rules
abbrev pub LongerBooksAreComplete : Type 0
LongerBooksAreComplete = (more : List Rule) → IsComplete (standard_rules ++ more)

-- and so of the wide one
abbrev pub WideBookIsComplete : Type 0
WideBookIsComplete = IsComplete wide_rules

-- by the book a chain leads to such a property now, where a polytope or cone holds one description alone and no
-- standard rule is barred for it
abbrev pub LeadsNow : List Rule → Type 0
LeadsNow book = (sub : Option ℕ) (c : Configuration) → ¬ (c.object.of ≡ Fan) → (d : PropId × PropId)
    → Contains descriptions d → HoldsAlone d (held_names sub c.object)
    → HoldsObjective sub (held_names sub c.object)
    → BarsNothing sub c → (p : PropId) → IsTrue (is_in_use sub c.object.of p)
    → HoldsNeeds p (held_names sub c.object) → SomeChainLeadsNow book sub (only p) c

-- so it is by each book that begins with the standard rules
abbrev pub LongerBooksLeadNow : Type 0
LongerBooksLeadNow = (more : List Rule) → LeadsNow (standard_rules ++ more)

-- and so by the wide one
abbrev pub WideChainLeadsNow : Type 0
WideChainLeadsNow = LeadsNow wide_rules
