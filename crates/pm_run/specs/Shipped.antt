-- The clients of the program: their works, family by family, and what they say of themselves.
use Rattle.pm_client.specs.Meanings.{Meanings}
use Rattle.pm_client.specs.Starts.{Clients}
use Rattle.pm_client.specs.declared.ClientFail.{ClientFail}
use Rattle.pm_client.specs.declared.ClientFail.TheVariants.{Memory}
use Rattle.pm_clients_comb.specs.Works.{SetsFail, SetsStay, sets_client}
use Rattle.pm_clients_counts.specs.Works.{size_client, truth_client}
use Rattle.pm_clients_faces.specs.Works.{FacesFail, FacesStay, faces_client}
use Rattle.pm_clients_fans.specs.Works.{FanFails, FanStays, fan_client}
use Rattle.pm_clients_geom.specs.Hulls.{HullFails}
use Rattle.pm_clients_geom.specs.PlacedRays.{PlaceFails}
use Rattle.pm_clients_geom.specs.Redundancy.{RedundancyFails}
use Rattle.pm_clients_geom.specs.Stays.{DimFails, DimStays, RowsFail, RowsStay}
use Rattle.pm_clients_geom.specs.Thinned.{ThinFails}
use Rattle.pm_clients_geom.specs.Works.{dimension_client, hull_client, place_client, redundancy_client, rows_client, thinning_client}
use Rattle.pm_clients_graph.specs.Works.{graph_client}
use Rattle.pm_clients_lift.specs.Works.{LiftFails, lift_client}
use Rattle.pm_clients_lp.specs.Clients.{LinearFails, linear_client}
use Rattle.pm_object.specs.Reading.{DraftSeen, ViewSeen}
use Rattle.pm_props.specs.declared.kind.Kind.{Kind}
use Rattle.pm_run.specs.declared.shipped.ShippedWork.{ShippedWork}
use Rattle.pm_standard.specs.Table.{standard_clients, standard_kind, wide_clients}
use Rattle.pm_standard.specs.declared.standard.StandardClient.{StandardClient}
use Rattle.std.specs.Prelude.{map, ℕ, ◌++◌, ◌≡◌}
use Rattle.pm_run.specs.declared.shipped.ShippedWork.TheVariants as work

-- the standard client that does the work
abbrev pub shipped_client : ShippedWork → StandardClient
shipped_client (work.Hull w) = hull_client w
shipped_client (work.Redundancy w) = redundancy_client w
shipped_client (work.Thin w) = thinning_client w
shipped_client (work.Rows w) = rows_client w
shipped_client (work.Dim w) = dimension_client w
shipped_client (work.Size w) = size_client w
shipped_client (work.Test w) = truth_client w
shipped_client (work.Sets w) = sets_client w
shipped_client (work.Faces w) = faces_client w
shipped_client (work.Graph w) = graph_client w
shipped_client (work.Lp w) = linear_client w
shipped_client (work.Fan w) = fan_client w
shipped_client (work.Place w) = place_client w
shipped_client (work.Lift w) = lift_client w

-- what is so of the view, and of what is put, where the client of the work answers
abbrev pub ShippedStays : ShippedWork → ViewSeen → DraftSeen → Type 0
ShippedStays (work.Rows w) v d = RowsStay w v d
ShippedStays (work.Dim w) v d = DimStays w v
ShippedStays (work.Sets w) v d = SetsStay w v
ShippedStays (work.Faces w) v d = FacesStay w v
ShippedStays (work.Fan w) v d = FanStays w v
ShippedStays w v d = Unit {0}

-- how it fails
abbrev pub ShippedFails : ShippedWork → ViewSeen → ClientFail → Type 0
ShippedFails (work.Hull w) v e = HullFails w v e
ShippedFails (work.Redundancy w) v e = RedundancyFails w v e
ShippedFails (work.Thin w) v e = ThinFails w v e
ShippedFails (work.Rows w) v e = RowsFail w v e
ShippedFails (work.Dim w) v e = DimFails w v e
ShippedFails (work.Sets w) v e = SetsFail w v e
ShippedFails (work.Faces w) v e = FacesFail w v e
ShippedFails (work.Lp w) v e = LinearFails w v e
ShippedFails (work.Fan w) v e = FanFails w v e
ShippedFails (work.Place w) v e = PlaceFails w v e
ShippedFails (work.Lift w) v e = LiftFails w v e
ShippedFails w v e = e ≡ Memory

-- What the clients of the program say of themselves: a client of the view's kind answers and fails as its family
-- says.
abbrev pub shipped : Meanings
shipped = record {
  Gives = λ v d. (w : ShippedWork) × (standard_kind (shipped_client w) ≡ v.kind) × ShippedStays w v d;
  Fails = λ v e. (w : ShippedWork) × (standard_kind (shipped_client w) ≡ v.kind) × ShippedFails w v e;
}

-- a client that was never started
abbrev pub unstarted : StandardClient → Kind × ℕ
unstarted c = (standard_kind c, 0)

-- the clients of the program, before it runs: the standard ones, and those that go on by wide numbers
abbrev pub shipped_clients : Clients
shipped_clients = map unstarted (standard_clients ++ wide_clients)
