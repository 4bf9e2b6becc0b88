-- The works of the clients that find graphs, and what these show.
use Rattle.pm_clients_graph.specs.declared.client.GraphWork.{GraphWork}
use Rattle.pm_clients_graph.specs.declared.client.GraphWork.TheVariants as work
use Rattle.pm_standard.specs.declared.standard.StandardClient.{StandardClient}
use Rattle.pm_standard.specs.declared.standard.StandardClient.TheVariants as client

-- the standard client of each work
abbrev pub graph_client : GraphWork → StandardClient
graph_client work.GraphOfSets = client.GraphOfSets
graph_client work.GraphOfFaces = client.GraphOfFaces
graph_client work.DualGraph = client.DualGraph
graph_client work.VertexDegrees = client.VertexDegrees
graph_client work.Diameter = client.Diameter
graph_client work.DualDiameter = client.DualDiameter
graph_client work.NEdges = client.NEdges
graph_client work.NRidges = client.NRidges
