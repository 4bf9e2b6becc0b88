use Rattle.pm_client.proofs.SameKind.{same_kind_differs, same_kind_is}
use Rattle.pm_client.proofs.Started.{kind_map, place_here, place_next}
use Rattle.pm_client.proofs.boxes.place_of.Goals as goal
use Rattle.std.proofs.Common.{Some, ap, refl, sym, ◌+◌, ◌∙◌}

pub returns-then-eq-clause-place : goal.returns-then-eq-clause-place
returns-then-eq-clause-place g c =
    sym (c.loop-i.invariant ∙ place_here _ c.args.kind c.args.clients.now c.loop-i.i c.loop-i.i c.index-clients-i.result c.loop-i-test.true c.index-clients-i.is
    (sym c.kind_of_box.ensures ∙ same_kind_is c.kind_of_box.result c.args.kind (sym c.eq.ensures ∙ c.if-eq.true)))

pub loop-i-preserved : goal.loop-i-preserved
loop-i-preserved g c =
    c.loop-i.invariant ∙ place_next _ c.args.kind c.args.clients.now c.loop-i.i (c.loop-i.i + 1) c.loop-i.i (c.loop-i.i + 1) c.index-clients-i.result refl refl c.loop-i-test.true c.index-clients-i.is
    (λ e. same_kind_differs c.kind_of_box.result c.args.kind (sym c.eq.ensures ∙ c.if-eq.false) (c.kind_of_box.ensures ∙ e))

pub returns-then-eq-clause-kind : goal.returns-then-eq-clause-kind
returns-then-eq-clause-kind g c =
    kind_map _ c.args.clients.now c.loop-i.i c.index-clients-i.result c.loop-i-test.true c.index-clients-i.is
    ∙ ap Some (sym c.kind_of_box.ensures ∙ same_kind_is c.kind_of_box.result c.args.kind (sym c.eq.ensures ∙ c.if-eq.true))
