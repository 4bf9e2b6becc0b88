-- What the clients of linear programs read, and the rays that they find at a value.
use Rattle.pm_vector.specs.Numbers.{Ratio}
use Rattle.pm_vector.specs.Rows.{Row}
use Rattle.pm_client.specs.Sound.{AreRowsOf, ReadsObjective}
use Rattle.pm_object.specs.Reading.{ViewSeen}
use Rattle.pm_props.specs.declared.property.PropId.{PropId}
use Rattle.pm_props.specs.declared.property.PropId.TheVariants.{AffineHull, Equations, Facets, Inequalities, LinealitySpace, Vertices}
use Rattle.pm_simplex.specs.Senses.{objective_in, value_in}
use Rattle.pm_simplex.specs.declared.sense.Sense.{Sense}
use Rattle.pm_types.specs.Programs.{ArePlacesOfValue}
use Rattle.pm_types.specs.Values.{Extended}
use Rattle.std.specs.Prelude.{Bool, List, false, true}
use lib.IntN.{ℤ}

-- the rays, lines and half-spaces that they read
abbrev pub is_of_rows : PropId → Bool
is_of_rows Vertices = true
is_of_rows LinealitySpace = true
is_of_rows Inequalities = true
is_of_rows Equations = true
is_of_rows Facets = true
is_of_rows AffineHull = true
is_of_rows p = false

-- the numbers are the places, ascending, of the rows of VERTICES at which the objective has the optimum x in that
-- sense; none where that is an infinity
pub record ArePlacesAt (v : ViewSeen) (sense : Sense) (x : Extended) (ks : List ℤ) : Type 0 where
  pub rays : List Row
  pub reads_rays : AreRowsOf v Vertices rays
  pub objective : List Ratio
  pub reads_objective : ReadsObjective v objective
  pub places : ArePlacesOfValue (objective_in sense objective) (value_in sense x) rays ks
