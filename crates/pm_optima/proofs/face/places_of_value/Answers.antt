use Rattle.pm_optima.proofs.Faces.{level_cols, level_product, level_wide, places_found}
use Rattle.pm_optima.proofs.face.places_of_value.Goals as goal
use Rattle.pm_optima.specs.Objectives.{IsPrimitiveLevel}
use Rattle.pm_simplex.specs.Senses.{objective_in, ratio_in}
use Rattle.std.proofs.lemmas.Result.{IfErr-weaker, IfOk-weaker}

pub zero_places-requires-clause-cols : goal.zero_places-requires-clause-cols
zero_places-requires-clause-cols c =
    let level : IsPrimitiveLevel (objective_in c.args.sense c.args.objective.now) (ratio_in c.args.sense c.args.value) c.in-Some.level =
    rw (c.deref.ensures.value, c.in_ok-turned.ensures, c.value.ensures) at (rw c.in-Some.is at c.in_ok-level.ensures.some) in
    level_cols c.args.sense c.args.objective.now c.args.value c.args.rays.now c.in-Some.level level c.requires.cols

pub returns-in_default-clause-wide : goal.returns-in_default-clause-wide
returns-in_default-clause-wide c =
    level_wide c.args.sense c.args.objective.now c.args.value c.args.rays.now c.in_ok-row.row c.in_ok-row.ensures.primitive c.in_ok-wide_pair.field-0
    (rw c.in_ok-first.ensures at c.in_ok-wide_pair.ensures) (rw (c.deref.ensures.value, c.in_ok-turned.ensures, c.value.ensures) at (rw c.in_default.is at c.in_ok-level.ensures.none))

pub returns-clause-places : goal.returns-clause-places
returns-clause-places c =
    let level : IsPrimitiveLevel (objective_in c.args.sense c.args.objective.now) (ratio_in c.args.sense c.args.value) c.in-Some.level =
    rw (c.deref.ensures.value, c.in_ok-turned.ensures, c.value.ensures) at (rw c.in-Some.is at c.in_ok-level.ensures.some) in
    IfOk-weaker c.zero_places.result _ _
    (λ v h. places_found c.args.sense c.args.objective.now c.args.value c.args.rays.now c.in-Some.level level c.in_ok-row.row c.in_ok-row.ensures.stands c.requires.some c.den.ensures.reduced.positive v.items h) c.zero_places.ensures.places

pub returns-clause-wide : goal.returns-clause-wide
returns-clause-wide c =
    let level : IsPrimitiveLevel (objective_in c.args.sense c.args.objective.now) (ratio_in c.args.sense c.args.value) c.in-Some.level =
    rw (c.deref.ensures.value, c.in_ok-turned.ensures, c.value.ensures) at (rw c.in-Some.is at c.in_ok-level.ensures.some) in
    IfErr-weaker c.zero_places.result _ _ (λ f h. level_product c.args.sense c.args.objective.now c.args.value c.args.rays.now c.in-Some.level level f h) c.zero_places.ensures.wide
