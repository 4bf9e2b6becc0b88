use Rattle.pm_clients_graph.proofs.OneSource.{has_alone, no_fan_reads}
use Rattle.pm_clients_graph.proofs.client.graph_of_sets.Goals as goal
use Rattle.pm_props.specs.declared.property.PropId.TheVariants.{Graph, VerticesInFacets}
use Rattle.pm_object_type.specs.declared.object_type.ObjectType.TheVariants.{Fan}
use Rattle.pm_clients_graph.proofs.Answered.{graph_of_sets_sound}
use Rattle.pm_clients_graph.proofs.EdgeForms.{sets_below}
use Rattle.std.proofs.Common.{ap, ◌∙◌, refl, rules, sym, ◌≡◌}

pub prove-unreachable-requires : goal.prove-unreachable-requires
prove-unreachable-requires c =
    let fan : c.of.result ≡ Fan = search rules in
    no_fan_reads c.args.view.now VerticesInFacets c.of.ensures.view (ap (λ k. k.sources) c.requires.kind) refl refl (sym c.of.ensures.value ∙ fan)

pub sets_of-sets-requires-clause-source : goal.sets_of-sets-requires-clause-source
sets_of-sets-requires-clause-source c = has_alone _ VerticesInFacets (ap (λ k. k.sources) c.requires.kind)

pub graph_of_sets-requires : goal.graph_of_sets-requires
graph_of_sets-requires c = sets_below c.sets_of-sets.result.now.rows c.sets_of-sets.result.now.cols c.sets_of-sets.ensures.forms.formed

pub put_value-requires-clause-target : goal.put_value-requires-clause-target
put_value-requires-clause-target c = has_alone _ Graph (ap (λ d. d.kind.targets) c.requires.empty ∙ ap (λ k. k.targets) c.requires.kind)

pub returns-clause-sound : goal.returns-clause-sound
returns-clause-sound c =
    let v = c.args.view.now in
    let no_fan = no_fan_reads v VerticesInFacets c.of.ensures.view (ap (λ k. k.sources) c.requires.kind) refl refl in
    graph_of_sets_sound v c.args.draft.now c.put_value.new.draft no_fan c.in_ok-graph.graph.rows c.in_ok-graph.graph.cols c.sets_of-sets.result.now.rows c.sets_of-sets.result.now.cols c.sets_of-sets.ensures.value c.sets_of-sets.ensures.forms c.in_ok-graph.ensures.graph c.in_ok-graph.ensures.cols
    (record { targets = ap (λ k. k.targets) c.requires.kind; empty = c.requires.empty; put = c.in_ok-put_value.ensures.ok })
