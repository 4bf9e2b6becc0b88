use Rattle.pm_beneath.proofs.placed.place_fail.Goals as goal
use Rattle.pm_beneath.specs.Names.{named}
use Rattle.std.proofs.Common.{refl, sym, ◌∙◌}
use Rattle.std.proofs.lemmas.List.{length-map}

pub returns-in-Ok : goal.returns-in-Ok
returns-in-Ok c =
    let same = rw c.deref.ensures.value at c.in-Ok.ensures.same in
    let as_many = rw c.deref.ensures.value at c.in-Ok.ensures.as_many in
    rw (c.in-Crowd.is, c.from_vec.ensures) (refl, same, c.in-Ok.ensures.ordered, λ d. length-map c.in-Ok.cells.items (λ s. s.items) ∙ as_many d ∙ sym (length-map c.in-Crowd.crowd.items (λ s. named c.args.many c.args.places.now s.items)))
