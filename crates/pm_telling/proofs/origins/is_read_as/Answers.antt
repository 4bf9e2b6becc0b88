use Rattle.std.proofs.Common.{ap, sym, true, ◌∙◌, ◌≡◌}
use Rattle.pm_telling.proofs.FirstHeld.{same_test}
use Rattle.pm_props.specs.Places.{place_of, same_place}
use Rattle.pm_telling.proofs.origins.is_read_as.Goals as goal

pub returns-then-are_same : goal.returns-then-are_same
returns-then-are_same c =
    let here' : same_place c.args.h.now.place (place_of c.args.sub c.args.h.now.id) ≡ true = ap (same_place c.args.h.now.place) (sym c.place.ensures) ∙ sym c.are_same.ensures ∙ c.if-are_same.true in
    rw here' (c.eq.ensures ∙ same_test c.args.p c.args.h.now.id)
