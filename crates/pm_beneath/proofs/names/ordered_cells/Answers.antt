use Rattle.pm_beneath.proofs.names.ordered_cells.Goals as goal
use Rattle.pm_beneath.specs.Names.{named}
use Rattle.pm_dd.proofs.Outcomes.{ok_weaker}
use Rattle.std.proofs.Common.{ap, arith, length, sym, ◌≡◌, ◌∙◌}
use Rattle.std.proofs.lemmas.List.{length-map}

pub returns-clause-same : goal.returns-clause-same
returns-clause-same c = rw c.in_ok-made.ensures at c.in_order.ensures.same

pub returns-clause-few : goal.returns-clause-few
returns-clause-few c =
    let e : length c.in_ok-made.made.items ≡ length c.args.cells.now = sym (length-map c.in_ok-made.made.items (λ s. s.items)) ∙ ap length c.in_ok-made.ensures ∙ length-map c.args.cells.now (λ s. named c.args.many c.args.places.now s.items) in
    ok_weaker c.in_order.result _ _ (λ v h. omega (arith, h, e)) c.in_order.ensures.few

pub returns-clause-as_many : goal.returns-clause-as_many
returns-clause-as_many c = λ d.
    let e : length c.in_ok-made.made.items ≡ length c.args.cells.now = sym (length-map c.in_ok-made.made.items (λ s. s.items)) ∙ ap length c.in_ok-made.ensures ∙ length-map c.args.cells.now (λ s. named c.args.many c.args.places.now s.items) in
    ok_weaker c.in_order.result _ _ (λ v h. h ∙ e) (c.in_order.ensures.as_many (rw c.in_ok-made.ensures d))
