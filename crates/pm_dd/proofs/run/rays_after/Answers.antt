use Rattle.pm_dd.proofs.FormLaws.{reduced_kept}
use Rattle.pm_dd.proofs.Fronts.{front_rank, next_spanned}
use Rattle.pm_dd.proofs.run.rays_after.Goals as goal
use Rattle.std.proofs.Common.{length, take, ◌++◌, ◌+◌}

pub step_at-requires-clause-spanned : goal.step_at-requires-clause-spanned
step_at-requires-clause-spanned c = next_spanned c.args.equations.now c.args.rows.now c.args.start c.args.front c.requires.from c.requires.within c.requires.spans

pub step_at-requires-clause-rank : goal.step_at-requires-clause-rank
step_at-requires-clause-rank c = front_rank c.args.equations.now c.args.rows.now c.args.start c.args.front (length c.args.equations.now + c.args.start) c.requires.from c.requires.spans c.requires.rank

pub next_rays-requires-clause-spanned : goal.next_rays-requires-clause-spanned
next_rays-requires-clause-spanned c = next_spanned c.args.equations.now c.args.rows.now c.args.start c.args.front c.requires.from c.requires.within c.requires.spans

pub returns-clause-reduced : goal.returns-clause-reduced
returns-clause-reduced c = reduced_kept c.args.cols (c.args.equations.now ++ take c.args.start c.args.rows.now) c.args.rays.rows.items c.in_ok-next.next.rows.items c.requires.reduced c.in_ok-next.ensures.form
