-- The clients of linear programs, by what they find from what, and how they fail.
use Rattle.pm_client.specs.Sound.{IsWideAtRays, IsWideDual, IsWideFace, IsWideOptimum}
use Rattle.pm_client.specs.declared.ClientFail.{ClientFail}
use Rattle.pm_client.specs.declared.ClientFail.TheVariants.{Failed, Memory}
use Rattle.pm_clients_lp.specs.declared.family.LpWork.{LpWork}
use Rattle.pm_clients_lp.specs.declared.family.LpWork.TheVariants as work
use Rattle.pm_geom.specs.declared.evidence.Evidence.{Evidence}
use Rattle.pm_object.specs.Reading.{ViewSeen}
use Rattle.pm_props.specs.declared.property.PropId.{PropId}
use Rattle.pm_props.specs.declared.property.PropId.TheVariants.{MaximalDual, MaximalFace, MinimalDual, MinimalFace}
use Rattle.pm_standard.specs.declared.standard.StandardClient.{StandardClient}
use Rattle.pm_standard.specs.declared.standard.StandardClient.TheVariants as client
use Rattle.pm_simplex.specs.declared.sense.Sense.{Sense}
use Rattle.pm_simplex.specs.declared.sense.Sense.TheVariants.{Maximal, Minimal}
use Rattle.std.specs.Prelude.{Bool, false, true, ◌≡◌, ◌⊎◌}

-- ---- in each sense, and by wide numbers or not: the client of the optimum, with a dual, over FACETS; over
-- INEQUALITIES
abbrev pub over_facets : Sense → Bool → StandardClient
over_facets Maximal false = client.LpMax
over_facets Minimal false = client.LpMin
over_facets Maximal true = client.LpMaxWide
over_facets Minimal true = client.LpMinWide

abbrev pub over_rows : Sense → Bool → StandardClient
over_rows Maximal false = client.LpMaxRows
over_rows Minimal false = client.LpMinRows
over_rows Maximal true = client.LpMaxRowsWide
over_rows Minimal true = client.LpMinRowsWide

-- ---- in each sense, and by wide numbers or not: the client of the optimum at VERTICES, and that of the rays at the
-- optimum
abbrev pub at_rays : Sense → Bool → StandardClient
at_rays Maximal false = client.LpMaxV
at_rays Minimal false = client.LpMinV
at_rays Maximal true = client.LpMaxVWide
at_rays Minimal true = client.LpMinVWide

abbrev pub at_face : Sense → Bool → StandardClient
at_face Maximal false = client.LpMaxFace
at_face Minimal false = client.LpMinFace
at_face Maximal true = client.LpMaxFaceWide
at_face Minimal true = client.LpMinFaceWide

-- the rays at the optimum, and the dual, as properties
abbrev pub face : Sense → PropId
face Maximal = MaximalFace
face Minimal = MinimalFace

abbrev pub dual : Sense → PropId
dual Maximal = MaximalDual
dual Minimal = MinimalDual

-- the client of each work
abbrev pub linear_client : LpWork → StandardClient
linear_client (work.OverFacets sense) = over_facets sense false
linear_client (work.OverRows sense) = over_rows sense false
linear_client (work.AtRays sense) = at_rays sense false
linear_client (work.AtFace sense) = at_face sense false
linear_client (work.OverFacetsWide sense) = over_facets sense true
linear_client (work.OverRowsWide sense) = over_rows sense true
linear_client (work.AtRaysWide sense) = at_rays sense true
linear_client (work.AtFaceWide sense) = at_face sense true

-- for want of memory, or with such evidence
abbrev pub FailsBy : (Evidence → Type 0) → ClientFail → Type 0
FailsBy P Memory = Unit {0}
FailsBy P (Failed e) = P e

-- with a pivot of the program of the client that leaves the range, or a row of its dual that does
abbrev pub IsWideWithDual : ViewSeen → Evidence → Type 0
IsWideWithDual v e = IsWideOptimum v e ⊎ IsWideDual v e

-- each client fails with evidence of its own, and the wide one of the rays at the optimum for want of memory alone
abbrev pub LinearFails : LpWork → ViewSeen → ClientFail → Type 0
LinearFails (work.OverFacets sense) v e = FailsBy (IsWideWithDual v) e
LinearFails (work.OverRows sense) v e = FailsBy (IsWideOptimum v) e
LinearFails (work.AtRays sense) v e = FailsBy (IsWideAtRays v) e
LinearFails (work.AtFace sense) v e = FailsBy (IsWideFace v) e
LinearFails (work.OverFacetsWide sense) v e = FailsBy (IsWideWithDual v) e
LinearFails (work.OverRowsWide sense) v e = FailsBy (IsWideOptimum v) e
LinearFails (work.AtRaysWide sense) v e = FailsBy (IsWideAtRays v) e
LinearFails (work.AtFaceWide sense) v e = e ≡ Memory
