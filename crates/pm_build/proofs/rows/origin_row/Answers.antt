use Rattle.pm_build.proofs.RowLaws.{set_origin}
use Rattle.pm_build.proofs.rows.origin_row.Goals as goal

pub returns : goal.returns
returns c = rw (c.in_ok-row.ensures.items_if_clones_equal (λ y e. e), c.zero.ensures, c.one.ensures) (set_origin c.args.d)
