use Rattle.pm_dd.proofs.Moving.{both_form, both_table}
use Rattle.pm_dd.proofs.step.next_rays.Goals as goal

pub returns-clause-form : goal.returns-clause-form
returns-clause-form c =
    rw c.in_ok-append.ensures.items
    (both_form c.args.cols c.args.equations.now c.args.rows.now c.args.front c.args.rays.rows.items c.kept_rays-next.result.rows.items c.args.step.pairs.rows.items c.kept_rays-next.result.zeros.rows c.args.step.pairs.zeros.rows c.kept_rays-next.ensures.built c.requires.built)

pub returns-clause-table : goal.returns-clause-table
returns-clause-table c =
    rw (c.in_ok-append.ensures.items, c.in_ok-append-2.ensures.ok)
    (both_table c.args.cols c.args.equations.now c.args.rows.now c.args.front c.requires.within c.args.rays.rows.items c.args.rays.zeros.rows c.requires.table c.requires.equation_cols c.requires.row_cols c.requires.spanned c.kept_rays-next.result.rows.items c.args.step.pairs.rows.items c.kept_rays-next.result.zeros.rows c.args.step.pairs.zeros.rows c.kept_rays-next.ensures.built c.requires.built)
