-- Which rules stand in the wide book, what is no complete book, and what it is to be given by one description.
use Rattle.std.specs.Prelude.{◌≡◌, None, Some, codes, false, true, List, [], ◌∷◌}
use Rattle.pm_machine.specs.Steps.{settled_object}
use Rattle.pm_object.specs.State.{HeldValue, RoundSeen, State, empty_object, given_at, with_held}
use Rattle.pm_object.specs.declared.held.Excluded.{Excluded}
use Rattle.pm_object.specs.declared.held.RoundEnd.TheVariants as end
use Rattle.pm_object.specs.declared.held.Why.TheVariants as why
use Rattle.pm_object_type.specs.declared.object_type.ObjectType.TheVariants.{Polytope}
use Rattle.pm_props.specs.Sets.{set_of}
use Rattle.pm_props.specs.declared.property.PropId.TheVariants.{Bounded, Graph, InputLineality, LinealitySpace, LinearObjective, Points, Vertices}
use Rattle.pm_rounds.specs.Chains.{held_names}
use Rattle.pm_rounds.specs.Events.{configuration}
use Rattle.pm_rules.specs.Rules.{rule_at}
use Rattle.pm_standard.specs.Book.{standard_rule, standard_rules, wide_rules}
use Rattle.pm_standard.specs.declared.standard.StandardClient.TheVariants as client
use Rattle.pm_types.specs.Values.{matrix, truth}
use Rattle.pm_types.specs.Views.{ratios}
use Rattle.pm_laws_complete.specs.Comes.{StandardChainLeadsNow}
use Rattle.pm_laws_complete.specs.Completeness.{HoldsAlone, StandardBookIsComplete}
use Rattle.pm_laws_complete.specs.Examples.{all_clients, by_points, held_value}
use Rattle.pm_laws_complete.specs.Given.{ExcludesMore, IsDescribedBy, IsGivenBy, IsUntouched, are_own}
use Rattle.pm_laws_complete.specs.LongerBooks.{IsComplete, LeadsNow, LongerBooksAreComplete, LongerBooksLeadNow}
use lib.IntN.{pos}

pub record LongerBooksAreRead : Type 0 where
  -- the wide rules stand behind the standard ones
  pub first : rule_at wide_rules (record { 0 = 0 }) ≡ Some (standard_rule client.DdVertices)
  pub behind : rule_at wide_rules (record { 0 = 65 }) ≡ Some (standard_rule client.DdVerticesWide)
  pub last : rule_at wide_rules (record { 0 = 94 }) ≡ Some (standard_rule client.DelaunayWide)
  pub no_more : rule_at wide_rules (record { 0 = 95 }) ≡ None
  pub not_standard : rule_at standard_rules (record { 0 = 65 }) ≡ None
  -- what is said of the standard book is said of it with nothing behind it
  pub complete : LongerBooksAreComplete → StandardBookIsComplete
  pub now : LongerBooksLeadNow → StandardChainLeadsNow
  -- nothing is found by a book without rules
  pub empty : ¬ (IsComplete [])
  pub empty_now : ¬ (LeadsNow [])

-- the segment from 0 to 1 as `new` and `take` make it, by its points alone
abbrev pub given_segment : State
given_segment = with_held (empty_object Polytope)
    (given_at None Points (matrix 2 (ratios (pos 1 ∷ pos 0 ∷ []) ∷ ratios (pos 1 ∷ pos 1 ∷ []) ∷ [])) ∷ [])

-- a value that stands in the first linear program
abbrev pub of_program : HeldValue → List HeldValue
of_program h = record h { place = Some 0 } ∷ []

-- the rule 1 failed, in a round of it alone
abbrev pub failed : Excluded
failed = record { rule = record { 0 = 1 }; sub = None; why = why.Stored 2 }

abbrev pub failed_round : RoundSeen
failed_round = record {
  sub = None;
  weight = record { class = 0; minor = 40 };
  chain = record { 0 = 1 } ∷ [];
  end = end.Failed (record { 0 = 1 }) 2;
}

pub record GivenIsRead : Type 0 where
  pub half : IsDescribedBy by_points (set_of (Points ∷ []))
  pub both : IsDescribedBy by_points (set_of (Points ∷ InputLineality ∷ LinealitySpace ∷ []))
  pub with_graph : ¬ (IsDescribedBy by_points (set_of (Points ∷ Graph ∷ [])))
  pub other_half : ¬ (IsDescribedBy by_points (set_of (InputLineality ∷ [])))
  -- an objective stands in a linear program, and points do not
  pub own : are_own given_segment.held ≡ true
  pub objective : are_own (of_program (held_value LinearObjective (matrix 0 []))) ≡ true
  pub stray : are_own (of_program (held_value Points (matrix 0 []))) ≡ false
  -- the segment holds its description once it is settled, and not before
  pub not_before : ¬ (HoldsAlone by_points (held_names None given_segment))
  pub settled : HoldsAlone by_points (held_names None (settled_object given_segment))
  -- it is given so until a round is started for it, where all clients are there
  pub given : IsGivenBy by_points None (configuration given_segment all_clients)
  pub by_vertices
      : ¬ (IsGivenBy (Vertices, LinealitySpace) None (configuration given_segment all_clients))
  pub with_round
      : ¬ (IsGivenBy by_points None (configuration (record given_segment { rounds = failed_round ∷ [] }) all_clients))
  pub no_clients : ¬ (IsGivenBy by_points None (configuration given_segment []))
  -- no rule is barred for it, until a label is disabled, BOUNDED is false or a client is missing
  pub untouched : IsUntouched None (configuration given_segment all_clients)
  pub with_label
      : ¬ (IsUntouched None (configuration (record given_segment { disabled = codes "dd_facets" ∷ [] }) all_clients))
  pub unbounded : ¬ (IsUntouched None
      (configuration (record given_segment { held = held_value Bounded (truth false) ∷ [] }) all_clients))
  pub none_there : ¬ (IsUntouched None (configuration given_segment []))
  -- a rule was excluded, and its round tells it; where nothing was, none is
  pub excluded : ExcludesMore standard_rules None given_segment
      (record given_segment { excluded = failed ∷ []; rounds = failed_round ∷ [] })
  pub untold : ¬ (ExcludesMore standard_rules None given_segment
      (record given_segment { excluded = failed ∷ [] }))
  pub none : ¬ (ExcludesMore standard_rules None given_segment given_segment)
