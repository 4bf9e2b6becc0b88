use Rattle.pm_client.proofs.ViewLaws.{not_fan, target_named}
use Rattle.pm_clients_geom.proofs.rows.reads_no_half.Goals as goal
use Rattle.pm_object_type.specs.declared.object_type.ObjectType.TheVariants.{Fan}
use Rattle.std.proofs.Common.{rules, sym, ◌≡◌, ◌∙◌}

pub prove-unreachable-requires : goal.prove-unreachable-requires
prove-unreachable-requires c =
    let fan : c.of.result ≡ Fan = search rules in
    not_fan c.args.view.now c.args.first c.of.ensures.view (target_named c.args.view.now.kind c.args.first c.requires.target) c.requires.no_fan c.requires.no_program (sym c.of.ensures.value ∙ fan)
