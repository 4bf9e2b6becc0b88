use Rattle.pm_fan.proofs.Kept.{kept_few_sets}
use Rattle.pm_fan.proofs.building.normal_cones.Goals as goal
use Rattle.pm_fan.specs.Fans.{with_members}
use Rattle.pm_object.specs.Known.{held_sets, rows_at, sets_at}
use Rattle.pm_props.specs.declared.property.PropId.TheVariants.{Facets, VerticesInFacets}
use Rattle.pm_types.specs.Forms.{are_indices}
use Rattle.std.proofs.Common.{ap, arith, length, ◌≡◌}
use Rattle.std.proofs.lemmas.Bool.{and_parts, leb-true}
use Rattle.std.proofs.lemmas.List.{length-map}
use Rattle.std.specs.List.{list_all}
use Rattle.std.specs.Prelude.{List, drop, nat_le, ◌&&◌}
use Rattle.pm_vector.specs.Numbers.{Ratio}
use Rattle.pm_limits.specs.Limits.{most_rows}

pub overflow_cast-rays : goal.overflow_cast-rays
overflow_cast-rays c =
    let o = c.args.o.now.state in
    let s = c.sets_at-sets.result.now in
    let few = leb-true (length s.rows) most_rows (and_parts (nat_le (length s.rows) most_rows) (nat_le s.cols most_rows) (and_parts (nat_le (length s.rows) most_rows && nat_le s.cols most_rows) (list_all (are_indices s.cols 0) s.rows) c.sets_at-sets.ensures.forms.formed).0).0 in
    let same : (sets_at VerticesInFacets o).rows ≡ s.rows = ap (λ v. (held_sets v).rows) c.sets_at-sets.ensures.value in
    let kept = kept_few_sets (sets_at VerticesInFacets o).rows (rows_at Facets o) in
    let cut = length-map (with_members (sets_at VerticesInFacets o).rows (rows_at Facets o)) (λ (r : List Ratio). drop 1 r) in
    let count = ap length same in
    let is = c.requires.as_many in
    omega arith
