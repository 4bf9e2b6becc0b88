-- The works of the clients that find sets, and what sets show by their sizes.
use Rattle.pm_client.specs.Sound.{FailsRightly}
use Rattle.pm_client.specs.declared.ClientFail.{ClientFail}
use Rattle.pm_client.specs.declared.ClientFail.TheVariants.{Memory}
use Rattle.pm_clients_comb.specs.Incidence.{StaysInRange}
use Rattle.pm_clients_comb.specs.declared.client.SetsWork.{SetsWork}
use Rattle.pm_clients_comb.specs.declared.client.SetsWork.TheVariants as work
use Rattle.pm_object.specs.Reading.{ViewSeen}
use Rattle.pm_standard.specs.declared.standard.StandardClient.{StandardClient}
use Rattle.pm_standard.specs.declared.standard.StandardClient.TheVariants as client
use Rattle.std.specs.Prelude.{◌≡◌}

-- the standard client of each work
abbrev pub sets_client : SetsWork → StandardClient
sets_client work.Incidence = client.Incidence
sets_client work.VertexSizes = client.VertexSizes
sets_client work.FacetSizes = client.FacetSizes
sets_client work.Simple = client.Simple
sets_client work.Simplicial = client.Simplicial
sets_client work.IncidenceWide = client.IncidenceWide

-- where `incidence` answers, the products that it takes stay in the range
abbrev pub SetsStay : SetsWork → ViewSeen → Type 0
SetsStay work.Incidence v = StaysInRange v
SetsStay w v = Unit {0}

-- `incidence` fails with evidence that holds of the view too, the others, `incidence_wide` among them, for want of
-- memory alone
abbrev pub SetsFail : SetsWork → ViewSeen → ClientFail → Type 0
SetsFail work.Incidence v e = FailsRightly v e
SetsFail w v e = e ≡ Memory
