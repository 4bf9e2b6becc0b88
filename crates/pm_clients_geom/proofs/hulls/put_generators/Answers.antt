use Rattle.pm_client.proofs.ViewLaws.{has_listed}
use Rattle.pm_clients_geom.proofs.hulls.put_generators.Goals as goal
use Rattle.pm_props.specs.declared.property.PropId.TheVariants.{LinealitySpace, Vertices}
use Rattle.pm_props.specs.declared.property.PropId.{PropId}
use Rattle.std.proofs.Common.{ap, ◌∙◌}
use Rattle.std.specs.Prelude.{List, [], ◌∷◌}

abbrev targets : List PropId
targets = Vertices ∷ LinealitySpace ∷ []

pub put_value-requires-clause-target : goal.put_value-requires-clause-target
put_value-requires-clause-target c = has_listed _ targets Vertices (ap (λ d. d.kind.targets) c.requires.empty ∙ c.requires.targets)

pub put_value-requires-2-clause-target : goal.put_value-requires-2-clause-target
put_value-requires-2-clause-target c = has_listed _ targets LinealitySpace (ap (λ d. d.kind.targets) c.in_ok-put_value.ensures.ok ∙ ap (λ d. d.kind.targets) c.requires.empty ∙ c.requires.targets)
