use Rattle.pm_client.proofs.SameKind.{same_kind_is}
use Rattle.pm_client.proofs.Started.{kind_map, one_is_there}
use Rattle.pm_client.proofs.boxes.has_client.Goals as goal
use Rattle.std.proofs.Common.{Some, ap, sym, ◌∙◌}

pub returns-then-eq : goal.returns-then-eq
returns-then-eq g c =
    sym (one_is_there c.args.kind 0 c.args.place.now _
    (kind_map _ c.args.clients.now c.args.place.now c.index-clients-at.result c.if-at-clients.true c.index-clients-at.is
    ∙ ap Some (sym c.kind_of_box.ensures ∙ same_kind_is c.kind_of_box.result c.args.kind (sym c.eq.ensures ∙ c.if-eq.true))))
