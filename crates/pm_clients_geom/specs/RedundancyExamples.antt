-- How the clients of the family fail; inequalities of a line that have a point, and that have none.
use Rattle.pm_vector.specs.Rows.{Row}
use Rattle.pm_client.specs.Examples.{without_rows}
use Rattle.pm_client.specs.Sound.{IsWideElimination}
use Rattle.pm_client.specs.declared.ClientFail.TheVariants.{Failed, Memory}
use Rattle.pm_clients_geom.specs.Redundancy.{AsksForPoint, FailsForProgram, RedundancyFails, ThinsByPrograms, ThinsHalvesByPrograms}
use Rattle.pm_clients_geom.specs.Points.{HasSolution}
use Rattle.pm_vector.specs.EliminationSteps.{EliminationStep}
use Rattle.pm_geom.specs.declared.evidence.Evidence.TheVariants.{E1, E4}
use Rattle.pm_clients_geom.specs.declared.redundancy.RedundancyWork.TheVariants as redundancy
use Rattle.pm_standard.specs.Table.{standard_kind}
use Rattle.pm_standard.specs.declared.standard.StandardClient.TheVariants as client
use Rattle.std.specs.Prelude.{[], codes, ◌∷◌}
use lib.IntN.{ℤ, negsuc, pos}

-- a row of two entries
abbrev pub pair : ℤ → ℤ → Row
pair a b = a ∷ b ∷ []

pub record FailsAreRead : Type 0 where
  -- which clients thin by linear programs, and which asks for a point
  pub thins : ThinsByPrograms (standard_kind client.ThinPointsLpWide)
  pub thins_otherwise : ¬ (ThinsByPrograms (standard_kind client.ThinPointsFWide))
  pub thins_halves : ThinsHalvesByPrograms (standard_kind client.ThinInequalitiesLp)
  pub counts_no_facets : ¬ (ThinsHalvesByPrograms (standard_kind client.ThinPointsLp))
  pub asks : AsksForPoint (standard_kind client.FeasibleLpWide)
  pub asks_nothing : ¬ (AsksForPoint (standard_kind client.ThinInequalitiesLpWide))
  -- memory may be wanting to each; a product is no evidence of the program of `feasible_lp`
  pub memory : FailsForProgram (without_rows (codes "feasible_lp")) Memory
  pub feasible_fails : RedundancyFails redundancy.FeasibleLp (without_rows (codes "feasible_lp")) Memory
  pub others_fail : RedundancyFails redundancy.ThinPointsLp (without_rows (codes "thin_points_lp")) Memory
  pub product : ¬
      (FailsForProgram (without_rows (codes "feasible_lp"))
      (Failed (E4 (pair (pos 1) (pos 0)) (pair (pos 1) (pos 0)))))
  -- a step of an elimination is evidence of those that thin, and not of `feasible_lp`
  pub step : (e : EliminationStep) → IsWideElimination (without_rows (codes "thin_points_lp")) e
      → RedundancyFails redundancy.ThinPointsLp (without_rows (codes "thin_points_lp")) (Failed (E1 e))
  pub no_step : (e : EliminationStep)
      → ¬ (RedundancyFails redundancy.FeasibleLp (without_rows (codes "feasible_lp")) (Failed (E1 e)))

pub record PointsAreRead : Type 0 where
  -- x - 1 >= 0 and 2 - x >= 0 have the point 1
  pub between : HasSolution 2 (pair (negsuc 0) (pos 1) ∷ pair (pos 2) (negsuc 0) ∷ []) []
  -- x - 1 >= 0 and -x >= 0 have none
  pub apart : ¬ (HasSolution 2 (pair (negsuc 0) (pos 1) ∷ pair (pos 0) (negsuc 0) ∷ []) [])
  -- without rows each point is one
  pub all : HasSolution 1 [] []
  -- an equation that says 1 = 0 leaves none
  pub contradicted : ¬ (HasSolution 1 [] ((pos 1 ∷ []) ∷ []))
  -- a row without columns is no point
  pub no_columns : ¬ (HasSolution 0 [] [])
