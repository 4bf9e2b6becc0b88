-- The works of the clients of fans.
use Rattle.pm_client.specs.Fails.{IfFailed}
use Rattle.pm_client.specs.Sound.{EliminatesRows, FailsRightly, cone_rows, eliminated_by}
use Rattle.pm_client.specs.declared.ClientFail.{ClientFail}
use Rattle.pm_client.specs.declared.ClientFail.TheVariants.{Memory}
use Rattle.pm_clients_fans.specs.Cones.{ConesStay, ReadsLostCone}
use Rattle.pm_clients_fans.specs.declared.client.FanWork.{FanWork}
use Rattle.pm_clients_fans.specs.declared.client.FanWork.TheVariants as work
use Rattle.pm_object.specs.Reading.{ViewSeen}
use Rattle.pm_standard.specs.declared.standard.StandardClient.{StandardClient}
use Rattle.pm_standard.specs.declared.standard.StandardClient.TheVariants as client
use Rattle.pm_props.specs.Sets.{set_of}
use Rattle.pm_props.specs.declared.kind.Kind.{Kind}
use Rattle.pm_props.specs.declared.property.PropId.TheVariants.{LinealitySpace, MaximalCones, MaximalConesDims, Vertices}
use Rattle.std.specs.Prelude.{[], ◌∷◌, ◌≡◌}

-- the standard client of each work
abbrev pub fan_client : FanWork → StandardClient
fan_client work.FanDims = client.FanDims
fan_client work.FanDim = client.FanDim
fan_client work.FanPure = client.FanPure
fan_client work.FanSimplicial = client.FanSimplicial
fan_client work.FanSize = client.FanSize
fan_client work.FanDimsWide = client.FanDimsWide

-- a client of the kind finds MAXIMAL_CONES_DIMS from VERTICES, LINEALITY_SPACE and MAXIMAL_CONES
pub record FindsDims (kind : Kind) : Type 0 where
  pub targets : kind.targets ≡ set_of (MaximalConesDims ∷ [])
  pub sources : kind.sources ≡ set_of (Vertices ∷ LinealitySpace ∷ MaximalCones ∷ [])
  pub lists : eliminated_by kind ≡ cone_rows ∷ []

-- where `fan_dims` answers, the eliminations stay in the range; where the wide one does, they need not
abbrev pub FanStays : FanWork → ViewSeen → Type 0
FanStays work.FanDims v = ConesStay v
FanStays w v = Unit {0}

-- both fail for want of memory or with evidence that holds of the view, of the rows of a cone as they stand, the wide
-- one with evidence only where the elimination of the rows of a cone is lost by wide numbers too; the others for want
-- of memory alone
abbrev pub FanFails : FanWork → ViewSeen → ClientFail → Type 0
FanFails work.FanDims v e = FailsRightly v e × EliminatesRows e
FanFails work.FanDimsWide v e = FailsRightly v e × EliminatesRows e × IfFailed e (ReadsLostCone v)
FanFails w v e = e ≡ Memory
