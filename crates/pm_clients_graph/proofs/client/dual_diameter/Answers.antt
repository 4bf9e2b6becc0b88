use Rattle.pm_clients_graph.proofs.Answered.{dual_diameter_sound}
use Rattle.pm_clients_graph.proofs.OneSource.{has_alone, no_fan_reads}
use Rattle.pm_clients_graph.proofs.client.dual_diameter.Goals as goal
use Rattle.pm_props.specs.declared.property.PropId.TheVariants.{DualDiameter, DualGraph}
use Rattle.pm_object_type.specs.declared.object_type.ObjectType.TheVariants.{Fan}
use Rattle.pm_clients_graph.proofs.EdgeForms.{edges_with_nodes, index_sets, sets_below, sets_of_edges}
use Rattle.std.proofs.Common.{SFits, ap, arith, length, refl, rules, sym, w64, ◌∙◌, ◌≡◌}

pub prove-unreachable-requires : goal.prove-unreachable-requires
prove-unreachable-requires c =
    let fan : c.of.result ≡ Fan = search rules in
    no_fan_reads c.args.view.now DualGraph c.of.ensures.view (ap (λ k. k.sources) c.requires.kind) refl refl (sym c.of.ensures.value ∙ fan)

pub edges_of-requires-clause-source : goal.edges_of-requires-clause-source
edges_of-requires-clause-source c = has_alone _ DualGraph (ap (λ k. k.sources) c.requires.kind)

pub diameter-requires-clause-neighbours : goal.diameter-requires-clause-neighbours
diameter-requires-clause-neighbours c = sets_below c.edges_of.result.now.rows (length c.edges_of.result.now.rows) (sets_of_edges c.edges_of.result.now.rows (edges_with_nodes c.edges_of.result.now.rows c.edges_of.result.now.cols c.edges_of.ensures.forms.formed))

pub diameter-requires-clause-few : goal.diameter-requires-clause-few
diameter-requires-clause-few c = let few = (index_sets c.edges_of.result.now.rows (length c.edges_of.result.now.rows) (sets_of_edges c.edges_of.result.now.rows (edges_with_nodes c.edges_of.result.now.rows c.edges_of.result.now.cols c.edges_of.ensures.forms.formed))).0 in omega arith

pub put_value-requires-clause-target : goal.put_value-requires-clause-target
put_value-requires-clause-target c = has_alone _ DualDiameter (ap (λ d. d.kind.targets) c.requires.empty ∙ ap (λ k. k.targets) c.requires.kind)

pub returns-clause-sound : goal.returns-clause-sound
returns-clause-sound c =
    let v = c.args.view.now in
    let fits : SFits w64 c.in_ok-greatest.greatest = search rules in
    let no_fan = no_fan_reads v DualGraph c.of.ensures.view (ap (λ k. k.sources) c.requires.kind) refl refl in
    dual_diameter_sound v c.args.draft.now c.put_value.new.draft c.edges_of.result.now.rows c.edges_of.result.now.cols c.edges_of.ensures.value no_fan c.in_ok-greatest.greatest fits c.in_ok-greatest.ensures
    (record { targets = ap (λ k. k.targets) c.requires.kind; empty = c.requires.empty; put = c.in_ok-put_value.ensures.ok })
