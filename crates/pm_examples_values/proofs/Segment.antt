-- The segment from 0 to 1 and the empty polytope: their orders, and the segment's dimension.
use Rattle.pm_vector.proofs.ConeLaws.{in_generator, none_from_zero, none_to_zero}
use Rattle.pm_vector.proofs.Lists.{Among, here, there}
use Rattle.pm_vector.proofs.Ring.{ring}
use Rattle.pm_vector.proofs.RowLaws.{dot-nil, dot-same, dot_comm}
use Rattle.pm_vector.specs.Cones.{InCone, InSpan}
use Rattle.pm_vector.specs.Rows.{HasCols, IsZero, Row}
use Rattle.pm_vector.specs.Bases.{IsRank}
use Rattle.pm_geom.proofs.Apart.{apart, lineality_spanned, order_of_apart, without}
use Rattle.pm_geom.proofs.Dimension.{rank_is_left}
use Rattle.pm_geom.proofs.ShortRows.{at_two, by_two, first_entry}
use Rattle.pm_geom.proofs.SmallThings.{empty_is_read}
use Rattle.pm_geom.proofs.ValidRows.{facet_order}
use Rattle.pm_geom.specs.Cones.{CutOut, IsOrder, IsValid, Vanishes}
use Rattle.pm_geom.specs.Examples.{pair}
use Rattle.pm_relations.proofs.Standing.{whole_objective}
use Rattle.pm_examples_values.proofs.DimensionExamples.{no_lines, none_independent, none_spanned}
use Rattle.pm_examples_values.proofs.RayExamples.{zero_two}
use Rattle.pm_examples_values.specs.Examples.{empty_thing, no_orders}
use Rattle.pm_examples_values.specs.FaceExamples.{ends, segment_orders, segment_thing}
use Rattle.pm_examples_values.specs.RayExamples.{from_zero}
use Rattle.pm_relations.proofs.Sites.{no_sites}
use Rattle.pm_types.specs.Right.{IsCombinatorialDim}
use Rattle.pm_types.specs.Things.{AreOrders, IsThing}
use Rattle.std.proofs.Common.{arith, inr, refl, ◌∙◌}
use Rattle.std.proofs.lemmas.Int.{ints}
use Rattle.std.specs.Prelude.{[], length, ◌++◌, ◌↔◌, ◌∷◌, ◌≡◌}
use lib.IntN.{neg_ℤ, negsuc, pos, ℤ, ◌+ℤ◌}
use lib.Signed.{lt_z_yes}

-- ---- the segment
pub segment_cols : HasCols 2 from_zero
segment_cols = (refl, (refl, tt))

ends_cols : HasCols 2 ends
ends_cols = (refl, (refl, tt))

end_needed : (v : Row) (i : Among v from_zero) → ¬ (InCone (without i) [] v)
unfolding without
end_needed v here = apart _ [] (negsuc 0 ∷ pos 1 ∷ []) _ tt tt tt
end_needed v (there here) = apart _ [] (pos 0 ∷ negsuc 0 ∷ []) _ tt tt tt
end_needed v (there (there i)) = elim i [ ]

end_order : IsOrder 2 (InCone from_zero []) from_zero
end_order = order_of_apart 2 from_zero [] segment_cols tt (pair 1 0) tt tt end_needed

row_needed : (v : Row) (i : Among v ends) → ¬ (InCone (without i) [] v)
unfolding without
row_needed v here = apart _ [] (pos 0 ∷ negsuc 0 ∷ []) _ tt tt tt
row_needed v (there here) = apart _ [] (pair 0 1) _ tt tt tt
row_needed v (there (there i)) = elim i [ ]

within : (a b : ℤ) → CutOut ends (a ∷ b ∷ []) → InCone from_zero [] (a ∷ b ∷ [])
within a b (p, (q, u)) =
    let second = simp ring at p in
    let first = simp ring at q in
    record {
      m = pos 1;
      c = (a +ℤ neg_ℤ b) ∷ b ∷ [];
      d = [];
      positive = lt_z_yes tt;
      not_negative = (omega (arith, ints), (omega (arith, ints), tt));
      same = at_two _ _ _ _ (simp ring (omega (arith, ints))) (simp ring (omega (arith, ints)));
    }

row_order : IsOrder 2 (IsValid 2 from_zero []) ends
row_order = facet_order 2 from_zero [] ends [] segment_cols tt ends_cols tt (record { rows = tt; rows_lines = tt; lines = tt; lines_lines = tt })
    (λ x l c u. by_two (λ y. CutOut ends y → InCone from_zero [] y) within x l c)
    (order_of_apart 2 ends [] ends_cols tt (pair 2 1) tt tt row_needed)

pub segment_is_thing : IsThing segment_thing
segment_is_thing = record {
  some_cols = omega arith;
  few_cols = omega arith;
  kind = (
    record {
      cone = record { generators = segment_cols; lines = tt };
      first = λ x l h. first_entry from_zero [] tt tt x h;
      proper = inr (pair 1 0, refl, in_generator here, lt_z_yes tt);
    },
    refl,
  );
  programs = whole_objective 2 (pos 0 ∷ pos 0 ∷ []) refl;
  sites = no_sites _;
}

pub segment_are_orders : AreOrders segment_thing segment_orders
segment_are_orders = record { rays = end_order; facets = row_order; cones = refl }

vanishing_zero : (a b : ℤ) → Vanishes 2 from_zero [] (a ∷ b ∷ []) → IsZero (a ∷ b ∷ [])
vanishing_zero a b v =
    let p = simp ring at (v.holds (pair 1 0) refl (in_generator here)) in
    let q = simp ring at (v.holds (pair 1 1) refl (in_generator (there here))) in
    zero_two a b (omega (arith, ints)) (omega (arith, ints))

none_vanish : (a : Row) → length a ≡ 2 → Vanishes 2 from_zero [] a ↔ InSpan [] a
none_vanish a la = (
  λ v. none_from_zero a (by_two (λ y. Vanishes 2 from_zero [] y → IsZero y) vanishing_zero a la v),
  λ h. record { cols = la; holds = λ x l k. dot_comm a x ∙ dot-same x a [] (none_to_zero a h) ∙ dot-nil x },
)

plane : IsRank (from_zero ++ []) 2
plane = (rank_is_left 2 from_zero [] segment_cols tt [] tt none_independent none_vanish 2).1 refl

pub segment_dimension : IsCombinatorialDim segment_thing (pos 1)
segment_dimension = record {
  cone = 2;
  lineality = 0;
  is_cone = plane;
  is_lineality = no_lines 2 _ (λ x l s. lineality_spanned 2 from_zero [] segment_cols tt (pair 1 0) tt tt x l s);
  less = refl;
}

-- ---- the empty polytope
pub empty_are_orders : AreOrders empty_thing no_orders
empty_are_orders = record {
  rays = record { each = λ i d l. absurd (omega arith); all = λ r e. absurd ((empty_is_read 2).no_ray r e); once = λ i j d l m. absurd (omega arith) };
  facets = record { each = λ i d l. absurd (omega arith); all = λ r e. absurd ((empty_is_read 2).no_facet r e); once = λ i j d l m. absurd (omega arith) };
  cones = refl;
}

pub empty_dimension : IsCombinatorialDim empty_thing (negsuc 0)
empty_dimension = record { cone = 0; lineality = 0; is_cone = none_spanned; is_lineality = no_lines 2 _ (λ x l s. s.inside); less = refl }
