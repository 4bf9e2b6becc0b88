-- What the standard book finds of a polytope or cone (Gawrilow and Joswig, polymake: a framework for analyzing convex
-- polytopes; Ziegler, Lectures on Polytopes, theorem 1.1: a description by generators and one by half-spaces
-- determine each other).
use Rattle.std.specs.Prelude.{ℕ, ◌≡◌, ◌||◌, ◌⊎◌, Bool, IsTrue, None, Option, Some, false, List, [], ◌∷◌, filter}
use Rattle.std.specs.List.{All, Contains}
use Rattle.pm_props.specs.declared.kind.RuleId.{RuleId}
use Rattle.pm_object_type.specs.declared.object_type.ObjectType.{ObjectType}
use Rattle.pm_object_type.specs.declared.object_type.ObjectType.TheVariants.{Fan}
use Rattle.pm_props.specs.declared.property.PropId.{PropId}
use Rattle.pm_props.specs.declared.property.PropId.TheVariants.{AffineHull, ConeAmbientDim, Equations, Facets, Inequalities, InputLineality, LinealitySpace, LinearObjective, Points, Vertices, Sites, SiteHeights, RegularCells, DelaunayCells}
use Rattle.pm_props.specs.declared.set.PropSet.{PropSet}
use Rattle.pm_props.specs.Properties.{every_property, facets_tag, generators_tag, half_spaces_tag, is_in_use, rays_tag}
use Rattle.pm_props.specs.Sets.{has, only, set_of}
use Rattle.pm_standard.specs.Book.{standard_rules}
use Rattle.pm_rules.specs.Chains.{LeadsTo}
use Rattle.pm_rules.specs.Rules.{is_barred, rule_at}
use Rattle.pm_rules.specs.declared.rule.Rule.{Rule}

-- the four descriptions, by two properties each
abbrev pub descriptions : List (PropId × PropId)
descriptions = (Points, InputLineality) ∷ (Inequalities, Equations) ∷ (Vertices, LinealitySpace)
    ∷ (Facets, AffineHull) ∷ []

-- the property has a tag: it speaks of the order of rays or facets, or is half of POINTS and INPUT_LINEALITY, or of
-- INEQUALITIES and EQUATIONS
abbrev pub is_tagged : PropId → Bool
is_tagged p = rays_tag p || facets_tag p || generators_tag p || half_spaces_tag p

-- the description d is held, and the column count, which goes without saying; of the names that have a tag no other is
pub record HoldsAlone (d : PropId × PropId) (held : PropSet) : Type 0 where
  pub first : IsTrue (has held d.0)
  pub second : IsTrue (has held d.1)
  pub columns : IsTrue (has held ConeAmbientDim)
  pub no_other : (p : PropId) → IsTrue (has held p) → IsTrue (is_tagged p) → (p ≡ d.0) ⊎ (p ≡ d.1)

-- where a linear program is asked, its objective is held
abbrev pub HoldsObjective : Option ℕ → PropSet → Type 0
HoldsObjective None held = Unit {0}
HoldsObjective (Some s) held = IsTrue (has held LinearObjective)

-- what has to be held beside a description: sites are given, and so are their heights; cells are found of these
abbrev pub needs : PropId → List PropId
needs Sites = Sites ∷ []
needs SiteHeights = SiteHeights ∷ []
needs RegularCells = Sites ∷ SiteHeights ∷ []
needs DelaunayCells = Sites ∷ []
needs p = []

abbrev pub HoldsNeeds : PropId → PropSet → Type 0
HoldsNeeds p held = All (λ q. IsTrue (has held q)) (needs p)

-- the names of the table of a type, and where a linear program is asked those of programs
abbrev pub names_for : Option ℕ → ObjectType → PropSet
names_for sub of = set_of (filter (is_in_use sub of) every_property)

-- no rule of the standard book is barred
abbrev pub BarsNone : List RuleId → Type 0
BarsNone barred = (id : RuleId) (rule : Rule) → rule_at standard_rules id ≡ Some rule
    → is_barred barred id ≡ false

-- where none is, a chain of the standard book leads from such names to each property of the table for which what it
-- needs is held, and, where a linear program with an objective is asked, of the table of programs
abbrev pub StandardBookIsComplete : Type 0
StandardBookIsComplete = (sub : Option ℕ) (of : ObjectType) → ¬ (of ≡ Fan) → (d : PropId × PropId)
    → Contains descriptions d → (held : PropSet) → HoldsAlone d held → HoldsObjective sub held
    → (barred : List RuleId) → BarsNone barred → (p : PropId) → IsTrue (has (names_for sub of) p)
    → HoldsNeeds p held → (chain : List RuleId)
    × LeadsTo standard_rules (names_for sub of) barred held (only p) chain
