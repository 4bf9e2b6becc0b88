use Rattle.pm_build.proofs.Read.{both_made}
use Rattle.pm_build.proofs.combined.both_rows.Goals as goal
use Rattle.pm_object.specs.Known.{held_rows}
use Rattle.pm_build.specs.Objects.{padded, spread}
use Rattle.pm_fraction.specs.Matrices.{FractionMatrix}
use Rattle.std.proofs.Common.{ap, map, ◌++◌, ◌-◌, ◌∙◌}

pub returns-clause-rows : goal.returns-clause-rows
returns-clause-rows c =
    let pad = map (padded (c.cols_at-n.result - 1)) c.matrix_at-first.result.now.rows in
    let behind = map (spread (c.cols_at-m.result - 1)) c.matrix_at-second.result.now.rows in
    ap (λ (x : FractionMatrix). x.rows) c.in_ok-put_spread.ensures ∙ ap (λ (x : FractionMatrix). x.rows ++ behind) c.in_ok-put_padded.ensures ∙ ap (λ (x : FractionMatrix). (x.rows ++ pad) ++ behind) c.new-rows.ensures
    ∙ both_made c.args.p c.args.a.now.state c.args.b.now.state c.cols_at-m.result c.cols_at-n.result c.matrix_at-first.result.now.rows c.matrix_at-second.result.now.rows c.cols_at-m.ensures.value c.cols_at-n.ensures.value (ap held_rows c.matrix_at-first.ensures.value) (ap held_rows c.matrix_at-second.ensures.value)
