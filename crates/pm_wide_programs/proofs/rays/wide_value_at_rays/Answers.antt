use Rattle.pm_simplex.proofs.Senses.{value_twice}
use Rattle.pm_simplex.specs.Senses.{objective_in}
use Rattle.pm_types.specs.Views.{extended_of}
use Rattle.pm_wide_programs.proofs.rays.wide_value_at_rays.Goals as goal

pub returns-in-Some-greatest_in_cone : goal.returns-in-Some-greatest_in_cone
returns-in-Some-greatest_in_cone c =
    let whole = rw (c.in-Some.is, c.deref.ensures.value, c.in_ok-turned.ensures) at c.in_ok-whole.ensures.times in
    let greatest = rw c.in-Some-greatest_in_cone.is at c.greatest_in_cone.ensures in
    rw (c.number.ensures, value_twice c.args.sense (extended_of c.in-Some-greatest_in_cone.value)) (greatest (objective_in c.args.sense c.args.objective.now) whole)
