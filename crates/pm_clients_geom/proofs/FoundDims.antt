-- The dimensions that follow from what was read.
use Rattle.pm_vector.proofs.Lists.{Contains_among}
use Rattle.pm_vector.specs.Numbers.{Ratio}
use Rattle.pm_vector.specs.Rows.{Row}
use Rattle.pm_vector.proofs.Rank.{independent_are_few}
use Rattle.pm_vector.proofs.Spans.{span_at, span_to}
use Rattle.pm_vector.specs.Bases.{IsRank}
use Rattle.pm_client.proofs.ReadValues.{found, read_right}
use Rattle.pm_client.specs.Sound.{IsSound, added_rows}
use Rattle.pm_client.proofs.Machine.{bits_below, cast_back, cast_difference, difference_bits, found_bits, found_less}
use Rattle.pm_client.proofs.PlainValues.{Follows, sound_count, sound_whole}
use Rattle.pm_client.proofs.Puts.{IsPut}
use Rattle.pm_client.proofs.ViewLaws.{few_columns, has_listed, not_fan, target_named}
use Rattle.pm_clients_geom.specs.Ranks.{IsListRank}
use Rattle.pm_geom.specs.Things.{Orders}
use Rattle.pm_types.specs.Things.{Thing}
use Rattle.pm_object_type.specs.declared.object_type.ObjectType.TheVariants.{Cone, Fan, Polytope}
use Rattle.pm_object_type.specs.declared.object_type.ObjectType.{ObjectType}
use Rattle.pm_object.specs.Reading.{DraftSeen, IsView, ViewSeen, fact_of}
use Rattle.pm_relations.proofs.Dimensions.{cone_dim_is_found, cone_dim_is_left, lineality_dim_is_found}
use Rattle.pm_types.proofs.PrimitiveRows.{few_rows}
use Rattle.pm_relations.proofs.PrimitiveStanding.{pair_primitive_span, vertices_primitive_span}
use Rattle.pm_types.specs.Forms.{FormsIn, has_64_bits}
use Rattle.pm_types.specs.Right.{PairGenerates, RightAll, RightPair, objective_of}
use Rattle.pm_props.specs.Sets.{has, set_of}
use Rattle.pm_types.specs.Values.{matrix, whole}
use Rattle.pm_props.specs.declared.property.PropId.TheVariants.{AffineHull, CombinatorialDim, ConeDim, InputLineality, LinealityDim, LinealitySpace, Points, Vertices}
use Rattle.std.proofs.Common.{ap, arith, of_z, refl, subst, sym, to_z, true, w64, ◌∙◌}
use Rattle.std.specs.Int.{saturate_signed}
use Rattle.std.specs.Prelude.{List, Some, [], length, ℕ, ◌++◌, ◌<◌, ◌^◌, ◌∷◌, ◌≡◌, ◌≤◌}
use lib.IntN.{pos, ℤ, ◌-ℤ◌}

-- ---- a rank is at most the number of the rows
pub rank_at_most : (X : List Row) (k n : ℕ) → IsRank X k → length X ≤ n → k ≤ n
rank_at_most X k n h l =
    let few = independent_are_few h.basis X h.independent (λ i below. span_to h.span (span_at i below)) in
    let e = h.as_many in
    omega arith

-- ---- no view of a fan is for a client that finds CONE_DIM
no_fan : (v : ViewSeen) (t : Thing) → IsView v → v.kind.targets ≡ set_of (ConeDim ∷ []) → t.of ≡ v.of → t.of ≡ Fan → ⊥
no_fan v t view targets of e =
    let target : has v.kind.targets ConeDim ≡ true = has_listed v.kind.targets (ConeDim ∷ []) ConeDim targets in
    not_fan v ConeDim view (target_named v.kind ConeDim target) refl refl (sym of ∙ e)

no_vertices_added : (of : ObjectType) (n : ℕ) → added_rows of n Vertices ≡ []
no_vertices_added Polytope n = refl
no_vertices_added Cone n = refl
no_vertices_added Fan n = refl

no_points_added : (of : ObjectType) (n : ℕ) → added_rows of n Points ≡ []
no_points_added Polytope n = refl
no_points_added Cone n = refl
no_points_added Fan n = refl

-- POINTS and INPUT_LINEALITY that were read are right together
pub pair_right : (v : ViewSeen) (n m : ℕ) (points lines : List (List Ratio)) (t : Thing) (o : Orders) → fact_of Points v.facts ≡ Some (matrix n points) → fact_of InputLineality v.facts ≡ Some (matrix m lines) → RightAll v.facts t o → PairGenerates t points lines
pair_right v n m points lines t o h k right =
    let (f, i, p, x) = found Points v.facts (matrix n points) h in
    let (g, j, q, y) = found InputLineality v.facts (matrix m lines) k in
    let both = right.together f g (Contains_among i) (Contains_among j) in
    subst (λ z. RightPair Points (matrix n points) InputLineality z t) y
    (subst (λ z. RightPair Points (matrix n points) z g.value t) q (subst (λ z. RightPair Points z g.property g.value t) x (subst (λ z. RightPair z f.value g.property g.value t) p both)))

-- ---- the rank of a row list
vertices_follow : (v : ViewSeen) (k : ℕ) → IsView v → v.kind.targets ≡ set_of (ConeDim ∷ []) → IsListRank v LinealitySpace Vertices k → Follows v ConeDim (whole (pos k))
vertices_follow v k view targets h t o of cols right c =
    let l = h.listed in
    let (s, rv) = read_right Vertices v.facts (matrix l.second_cols l.second_rows) t o l.reads_second right in
    let (r, rl) = read_right LinealitySpace v.facts (matrix l.first_cols l.first_rows) t o l.reads_first right in
    let span = vertices_primitive_span t o right.thing right.orders (no_fan v t view targets of) l.second_cols l.first_cols l.second_rows l.first_rows (objective_of t s) (objective_of t r) rv rl
    l.ys l.xs h.rows l.second_primitive l.first_primitive (l.listed ∙ ap (λ z. l.xs ++ l.ys ++ z) (no_vertices_added v.of v.cols)) in
    cone_dim_is_found t o c h.rows span k h.rank

points_follow : (v : ViewSeen) (k : ℕ) → IsListRank v InputLineality Points k → Follows v ConeDim (whole (pos k))
points_follow v k h t o of cols right c =
    let l = h.listed in
    let (s, rp) = read_right Points v.facts (matrix l.second_cols l.second_rows) t o l.reads_second right in
    let (r, rl) = read_right InputLineality v.facts (matrix l.first_cols l.first_rows) t o l.reads_first right in
    let pair = pair_right v l.second_cols l.first_cols l.second_rows l.first_rows t o l.reads_second l.reads_first right in
    let span = pair_primitive_span t o right.thing l.second_cols l.first_cols l.second_rows l.first_rows (objective_of t s) (objective_of t r) rp rl pair
    l.ys l.xs h.rows l.second_primitive l.first_primitive (l.listed ∙ ap (λ z. l.xs ++ l.ys ++ z) (no_points_added v.of v.cols)) in
    cone_dim_is_found t o c h.rows span k h.rank

-- ---- what the clients put
module _ (v : ViewSeen) (old new : DraftSeen) where
  module _ (k : ℕ) (few : k ≤ 4096) (put : IsPut v ConeDim (whole (to_z w64 k)) old new) where
    small : k < 2 ^ 63
    small = omega arith

    pub rank_of_vertices : IsView v → IsListRank v LinealitySpace Vertices k → IsSound v new
    rank_of_vertices view h = sound_count v ConeDim k old new refl small put (vertices_follow v k view put.targets h)

    pub rank_of_points : IsListRank v InputLineality Points k → IsSound v new
    rank_of_points h = sound_count v ConeDim k old new refl small put (points_follow v k h)

  pub what_hull_leaves : (m n l : ℕ) (rows : List (List Ratio)) → n ≡ v.cols → l ≡ length rows → IsView v → fact_of AffineHull v.facts ≡ Some (matrix m rows) → FormsIn v.of v.cols AffineHull (matrix m rows)
      → IsPut v ConeDim (whole (to_z w64 (of_z w64 (to_z w64 n -ℤ to_z w64 l)))) old new → IsSound v new
  what_hull_leaves m n l rows e f view read form put =
      let some : n < 2 ^ 63 = rw e (few_columns v view) in
      let few : l < 2 ^ 63 = let k = few_rows m rows form.formed in omega arith in
      sound_whole v ConeDim (to_z w64 (of_z w64 (to_z w64 n -ℤ to_z w64 l))) (pos n -ℤ pos l) old new refl (cast_difference n l some few) (difference_bits n l some few) put (λ t o of cols right c.
      let (s, hull) = read_right AffineHull v.facts (matrix m rows) t o read right in
      rw (e, f, ← cols) (cone_dim_is_left t o right.thing m rows (objective_of t s) c hull))

  pub number_of_lines : (m l : ℕ) (rows : List (List Ratio)) → l ≡ length rows → fact_of LinealitySpace v.facts ≡ Some (matrix m rows) → FormsIn v.of v.cols LinealitySpace (matrix m rows) → IsPut v LinealityDim (whole (to_z w64 l)) old new → IsSound v new
  number_of_lines m l rows f read form put =
      let few : l < 2 ^ 63 = let k = few_rows m rows form.formed in omega arith in
      sound_count v LinealityDim l old new refl few put (λ t o of cols right c.
      let (s, lines) = read_right LinealitySpace v.facts (matrix m rows) t o read right in
      rw f (lineality_dim_is_found t o m rows (objective_of t s) c lines))

  pub difference_less_one : (i j r s : ℤ) → r ≡ saturate_signed w64 (to_z w64 (of_z w64 i) -ℤ to_z w64 (of_z w64 j)) → s ≡ saturate_signed w64 (to_z w64 (of_z w64 r) -ℤ pos 1)
      → fact_of ConeDim v.facts ≡ Some (whole i) → fact_of LinealityDim v.facts ≡ Some (whole j) → FormsIn v.of v.cols ConeDim (whole i) → FormsIn v.of v.cols LinealityDim (whole j)
      → IsPut v CombinatorialDim (whole (to_z w64 (of_z w64 s))) old new → IsSound v new
  difference_less_one i j r s first second read_cone read_lineality cone_form lineality_form put =
      let bits = found_bits i j r s first second in
      sound_whole v CombinatorialDim (to_z w64 (of_z w64 s)) s old new refl (cast_back s bits) bits put (λ t o of cols right c.
      let (a, cone) = read_right ConeDim v.facts (whole i) t o read_cone right in
      let (b, lineality) = read_right LinealityDim v.facts (whole j) t o read_lineality right in
      let (d, p, is_cone) = cone in
      let (e, q, is_lineality) = lineality in
      let less = found_less i j r s first second d e p q (bits_below d (subst (λ z. has_64_bits z ≡ true) p cone_form.formed)) (bits_below e (subst (λ z. has_64_bits z ≡ true) q lineality_form.formed)) in
      record { cone = d; lineality = e; is_cone = is_cone; is_lineality = is_lineality; less = less })
