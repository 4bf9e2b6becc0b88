use Rattle.pm_relations.proofs.Twins.{vertices_generate}
use Rattle.pm_relations.proofs.law_vertices_generate.Goals as goal

pub returns : goal.returns
returns c = vertices_generate
