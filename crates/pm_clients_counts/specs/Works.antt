-- The standard client of each work of a family.
use Rattle.pm_clients_counts.specs.declared.sizes.SizeWork.{SizeWork}
use Rattle.pm_clients_counts.specs.declared.sizes.SizeWork.TheVariants as size
use Rattle.pm_clients_counts.specs.declared.truths.TestWork.{TestWork}
use Rattle.pm_clients_counts.specs.declared.truths.TestWork.TheVariants as truth
use Rattle.pm_standard.specs.declared.standard.StandardClient.{StandardClient}
use Rattle.pm_standard.specs.declared.standard.StandardClient.TheVariants as client

-- of those that count rays or facets, or list rays
abbrev pub size_client : SizeWork → StandardClient
size_client size.NVertices = client.NVertices
size_client size.NVerticesSets = client.NVerticesSets
size_client size.NFacets = client.NFacets
size_client size.NFacetsSets = client.NFacetsSets
size_client size.FarFace = client.FarFace

-- of those that find a truth value
abbrev pub truth_client : TestWork → StandardClient
truth_client truth.Feasible = client.Feasible
truth_client truth.Bounded = client.Bounded
truth_client truth.Pointed = client.Pointed
truth_client truth.FullDim = client.FullDim
truth_client truth.Centered = client.Centered
