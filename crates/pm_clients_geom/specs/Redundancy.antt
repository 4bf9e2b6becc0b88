-- What the clients of linear programs over half-spaces or generators find, and how they fail.
use Rattle.pm_client.specs.Sound.{FailsRightly, IsWideFeasibility, eliminated_by, facet_count, feasibility, has_way, line_basis_and_row, line_rows, thinning_programs}
use Rattle.pm_client.specs.declared.ClientFail.{ClientFail}
use Rattle.pm_client.specs.declared.ClientFail.TheVariants.{Failed, Memory}
use Rattle.pm_clients_geom.specs.declared.redundancy.RedundancyWork.{RedundancyWork}
use Rattle.pm_clients_geom.specs.declared.redundancy.RedundancyWork.TheVariants as redundancy
use Rattle.pm_object.specs.Reading.{ViewSeen}
use Rattle.pm_props.specs.Sets.{set_of}
use Rattle.pm_props.specs.declared.kind.Kind.{Kind}
use Rattle.pm_props.specs.declared.property.PropId.TheVariants.{AffineHull, Equations, Facets, Feasible, Inequalities, InputLineality, LinealitySpace, Points, Vertices}
use Rattle.std.specs.Prelude.{IsTrue, [], ◌∷◌, ◌≡◌}

-- a client of the kind thins POINTS and INPUT_LINEALITY by linear programs
pub record ThinsByPrograms (kind : Kind) : Type 0 where
  pub targets : kind.targets ≡ set_of (Vertices ∷ LinealitySpace ∷ [])
  pub sources : kind.sources ≡ set_of (Points ∷ InputLineality ∷ [])
  pub lists : eliminated_by kind ≡ line_rows ∷ line_basis_and_row ∷ []
  pub programs : IsTrue (has_way kind thinning_programs)

-- a client of the kind thins INEQUALITIES and EQUATIONS by linear programs, and counts the facets
pub record ThinsHalvesByPrograms (kind : Kind) : Type 0 where
  pub targets : kind.targets ≡ set_of (Facets ∷ AffineHull ∷ [])
  pub sources : kind.sources ≡ set_of (Inequalities ∷ Equations ∷ [])
  pub lists : eliminated_by kind ≡ line_rows ∷ line_basis_and_row ∷ []
  pub programs : IsTrue (has_way kind thinning_programs)
  pub counts : IsTrue (has_way kind facet_count)

-- a client of the kind asks the program of INEQUALITIES and EQUATIONS whether there is a point
pub record AsksForPoint (kind : Kind) : Type 0 where
  pub targets : kind.targets ≡ set_of (Feasible ∷ [])
  pub sources : kind.sources ≡ set_of (Inequalities ∷ Equations ∷ [])
  pub asks : IsTrue (has_way kind feasibility)

-- for want of memory, or with a pivot of the program of half-spaces and the objective 0 that leaves the range
abbrev pub FailsForProgram : ViewSeen → ClientFail → Type 0
FailsForProgram v Memory = Unit {0}
FailsForProgram v (Failed e) = IsWideFeasibility v e

-- `feasible_lp` fails so, the wide one too; those that thin fail for want of memory, or with evidence that holds of the
-- view
abbrev pub RedundancyFails : RedundancyWork → ViewSeen → ClientFail → Type 0
RedundancyFails redundancy.FeasibleLp v e = FailsForProgram v e
RedundancyFails redundancy.FeasibleLpWide v e = FailsForProgram v e
RedundancyFails w v e = FailsRightly v e
