use Rattle.pm_build.proofs.PointLaws.{form_lengths, points_cols, points_up}
use Rattle.pm_build.proofs.summands.sum_points.Goals as goal
use Rattle.pm_build.specs.Points.{far, points}
use Rattle.pm_fraction.specs.FractionRows.{ArePrimitiveRowsOf}
use Rattle.pm_fraction.specs.Matrices.{FractionMatrix}
use Rattle.pm_object.specs.Known.{cols_at, held_rows, rows_at}
use Rattle.pm_props.specs.declared.property.PropId.TheVariants.{Vertices}
use Rattle.pm_types.specs.Parts.{cols_over}
use Rattle.pm_vector.specs.Numbers.{Ratio}
use Rattle.pm_vector.specs.Rows.{Row}
use Rattle.std.proofs.Common.{List, ap, ap₂, append_assoc, length, subst, sym, ◌++◌, ◌≡◌, ◌∙◌}
use Rattle.std.specs.List.{All}

pub put_sums-requires-clause-cols : goal.put_sums-requires-clause-cols
put_sums-requires-clause-cols c =
    let a = c.args.a.now.state in
    let first = c.matrix_at-first.result.now in
    let n : c.new-rows.result.cols ≡ cols_at a = ap (λ m. m.cols) c.new-rows.ensures ∙ c.cols_at.ensures.value in
    rw (n, c.deref.ensures.value) (points_cols (cols_at a) first.rows c.in_ok-points.field-0.items (form_lengths a.of (cols_at a) Vertices first.cols first.rows tt c.matrix_at-first.ensures.forms) c.in_ok-points.ensures)

pub put_sums-requires-clause-other_cols : goal.put_sums-requires-clause-other_cols
put_sums-requires-clause-other_cols c =
    let a = c.args.a.now.state in
    let b = c.args.b.now.state in
    let second = c.matrix_at-second.result.now in
    let n : c.new-rows.result.cols ≡ cols_at a = ap (λ m. m.cols) c.new-rows.ensures ∙ c.cols_at.ensures.value in
    let lengths = form_lengths b.of (cols_at b) Vertices second.cols second.rows tt c.matrix_at-second.ensures.forms in
    rw (n, c.deref-2.ensures.value) (points_cols (cols_at a) second.rows c.in_ok-points-2.field-0.items (subst (λ k. All (λ r. length r ≡ k) second.rows) c.requires.columns lengths) c.in_ok-points-2.ensures)

pub put_sums-requires-clause-first : goal.put_sums-requires-clause-first
put_sums-requires-clause-first c = rw c.deref.ensures.value (points_up c.matrix_at-first.result.now.rows c.in_ok-points.field-0.items c.in_ok-points.ensures)

pub put_sums-requires-clause-second : goal.put_sums-requires-clause-second
put_sums-requires-clause-second c = rw c.deref-2.ensures.value (points_up c.matrix_at-second.result.now.rows c.in_ok-points-2.field-0.items c.in_ok-points-2.ensures)

pub returns-clause-rows : goal.returns-clause-rows
returns-clause-rows c =
    let first = c.matrix_at-first.result.now.rows in
    let second = c.matrix_at-second.result.now.rows in
    let these : rows_at Vertices c.args.a.now.state ≡ first = ap held_rows c.matrix_at-first.ensures.value in
    let those : rows_at Vertices c.args.b.now.state ≡ second = ap held_rows c.matrix_at-second.ensures.value in
    let below = c.in_ok-put_sums.ensures.value in
    let points_of = λ (rs : List (List Ratio)) (vs : List Row). ArePrimitiveRowsOf (points rs) vs in
    record {
      first = c.deref.result.now;
      second = c.deref-2.result.now;
      points = record {
        first = subst (λ rs. points_of rs c.deref.result.now) (sym these) (subst (points_of first) (sym c.deref.ensures.value) c.in_ok-points.ensures);
        second = subst (λ rs. points_of rs c.deref-2.result.now) (sym those) (subst (points_of second) (sym c.deref-2.ensures.value) c.in_ok-points-2.ensures);
      };
      sums = below.rows;
      are_sums = below.sums;
      all = ap (λ (m : FractionMatrix). m.rows) c.stated.ensures
          ∙ ap (λ (m : FractionMatrix). m.rows) c.in_ok-put_far-2.ensures
          ∙ ap (λ (m : FractionMatrix). m.rows ++ far second) c.in_ok-put_far.ensures
          ∙ ap (λ (m : FractionMatrix). (m.rows ++ far first) ++ far second) below.put
          ∙ ap (λ (m : FractionMatrix). ((m.rows ++ below.rows) ++ far first) ++ far second) c.new-rows.ensures
          ∙ append_assoc below.rows (far first) (far second)
          ∙ ap₂ (λ (xs ys : List (List Ratio)). below.rows ++ (far xs ++ far ys)) (sym these) (sym those);
    }

pub returns-clause-cols : goal.returns-clause-cols
returns-clause-cols c =
    let n : c.put_far-2.new.rows.cols ≡ cols_at c.args.a.now.state = ap (λ (m : FractionMatrix). m.cols) c.in_ok-put_far-2.ensures
    ∙ ap (λ (m : FractionMatrix). m.cols) c.in_ok-put_far.ensures
    ∙ ap (λ (m : FractionMatrix). m.cols) c.in_ok-put_sums.ensures.value.put
    ∙ ap (λ (m : FractionMatrix). m.cols) c.new-rows.ensures
    ∙ c.cols_at.ensures.value in
    ap (λ (m : FractionMatrix). m.cols) c.stated.ensures ∙ ap₂ cols_over n (sym (ap (λ (m : FractionMatrix). m.rows) c.stated.ensures))
