use Rattle.pm_wide_programs.proofs.Cones.{greatest_found, grows_by_line, grows_by_ray, none_ahead}
use Rattle.pm_wide_programs.proofs.rays.greatest_in_cone.Goals as goal

pub returns-in_default : goal.returns-in_default
returns-in_default c d tc = none_ahead c.args.rays.now c.args.lines.now c.requires.ahead c.requires.level c.in_default.ensures.none

pub returns-in-Some-rising : goal.returns-in-Some-rising
returns-in-Some-rising c d tc =
    grows_by_ray d c.args.objective.now.times c.args.objective.now.row tc c.args.rays.now c.args.lines.now c.requires.ray_cols c.requires.line_cols c.requires.level c.in-Some.start c.in-Some.ensures.some c.in-Some-rising._ray c.in-Some-rising.ensures

pub returns-in-Some-turning : goal.returns-in-Some-turning
returns-in-Some-turning c d tc =
    grows_by_line d c.args.objective.now.times c.args.objective.now.row tc c.args.rays.now c.args.lines.now c.requires.ray_cols c.requires.line_cols c.requires.level c.in-Some.start c.in-Some.ensures.some c.in-Some-turning._line c.in-Some-turning.ensures.some

pub returns : goal.returns
returns c d tc =
    greatest_found d c.args.objective.now.times c.args.objective.now.row tc c.args.rays.now c.args.lines.now c.requires.ray_cols c.requires.line_cols c.requires.level c.in_ok-value.value c.in_ok-value.ensures c.in_default-turning.ensures.none
