use Rattle.pm_client.proofs.ViewLaws.{has_listed}
use Rattle.pm_clients_lift.proofs.FoundLifted.{regular_sound}
use Rattle.pm_clients_lift.proofs.lifts.put_regular_cells.Goals as goal
use Rattle.pm_props.specs.declared.property.PropId.TheVariants.{RegularCells}
use Rattle.std.proofs.Common.{[], ap, ◌∙◌, ◌∷◌}

pub put_value-requires-clause-target : goal.put_value-requires-clause-target
put_value-requires-clause-target c = has_listed _ (RegularCells ∷ []) RegularCells (ap (λ d. d.kind.targets) c.requires.empty ∙ c.requires.targets)

pub returns-clause-sound : goal.returns-clause-sound
returns-clause-sound c =
    regular_sound c.args.view.now c.in_ok-cells.cells c.args.draft.now c.put_value.new.draft c.in_ok-cells.ensures.cells
    (record { targets = c.requires.targets; empty = c.requires.empty; put = c.in_ok-put_value.ensures.ok })
