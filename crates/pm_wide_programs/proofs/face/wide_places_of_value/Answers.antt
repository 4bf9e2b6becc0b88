use Rattle.pm_geom.specs.Programs.{IsTimes}
use Rattle.pm_types.specs.Forms.{HasPrimitiveRow}
use Rattle.pm_vector.specs.Numbers.{Ratio}
use Rattle.pm_wide_programs.proofs.Senses.{places_found}
use Rattle.pm_wide_programs.proofs.WholeRows.{turned_stays}
use Rattle.pm_wide_programs.proofs.face.wide_places_of_value.Goals as goal
use Rattle.std.proofs.Common.{subst, sym, ◌∙◌}
use Rattle.std.specs.Prelude.{List}

pub returns-clause-places : goal.returns-clause-places
returns-clause-places c =
    let times : IsTimes c.in-Some.whole.times c.deref.result.now c.in-Some.whole.row = rw c.in-Some.is at c.in_ok-whole.ensures.times in
    places_found c.args.sense c.args.objective.now c.deref.result.now c.in-Some.whole.times c.in-Some.whole.row c.args.value c.value.result c.args.rays.now c.in_ok-level_places.field-0.items (c.deref.ensures.value ∙ c.in_ok-turned.ensures) c.value.ensures times c.in_ok-level_places.ensures.places

pub returns-in_default-clause-none : goal.returns-in_default-clause-none
returns-in_default-clause-none c = λ h.
    (rw c.in_default.is at c.in_ok-whole.ensures.none) (subst (λ (r : List Ratio). HasPrimitiveRow r) (sym (c.deref.ensures.value ∙ c.in_ok-turned.ensures)) (turned_stays c.args.sense c.args.objective.now h))
