-- What is right for a polytope is so for a cone with the same rows; the lines of a fan; far rays.
use Rattle.pm_vector.proofs.ConeLaws.{in_line, in_line_times, none_to_zero}
use Rattle.pm_vector.proofs.Lists.{AllPairs_cons, Among, Contains_among, among_All, among_Contains, here, there}
use Rattle.pm_vector.proofs.Spans.{span_of}
use Rattle.pm_vector.specs.Cones.{InSpan, IsIndependent, combination}
use Rattle.pm_vector.specs.Rows.{IsZero, Row, entry, plus, times}
use Rattle.pm_geom.specs.Faces.{ray}
use Rattle.pm_relations.proofs.Dimensions.{dimension_one}
use Rattle.pm_relations.proofs.Orders.{as_many_rays}
use Rattle.pm_relations.proofs.Standing.{stand_for_ratios, stand_length}
use Rattle.pm_examples_values.proofs.RayExamples.{far_ascending, far_at, first_of, is_false, is_true, not_false, not_true}
use Rattle.pm_examples_values.proofs.RayRowExamples.{bases_are_right, double_independent, facet_rows_are_read, one_of, ray_rows_are_read}
use Rattle.pm_examples_values.proofs.RowExamples.{all_none, all_one, first_row, rows_are_read}
use Rattle.pm_examples_values.proofs.StandingExamples.{stand_among, stands_in}
use Rattle.pm_examples_values.proofs.ThingExamples.{fan_orders_are_read}
use Rattle.pm_examples_values.specs.ConeExamples.{ConeRowsAreRead, FanLinesAreRead, FarRaysAreRead, quadrant}
use Rattle.pm_examples_values.specs.ThingExamples.{both_rays, fan_orders, single, two_rays}
use Rattle.pm_types.specs.Right.{HasDimension, IsBasis}
use Rattle.std.proofs.Common.{arith, refl}
use Rattle.std.proofs.lemmas.Int.{ints}
use Rattle.std.specs.List.{AllPairs, Contains}
use Rattle.std.specs.Prelude.{[], length, suc, zero, ℕ, ◌<◌, ◌↔◌, ◌∷◌, ◌≡◌}
use lib.IntN.{pos}
use lib.Signed.{lt_z_yes}

-- ---- the half line and the line as cones
pub cone_rows_are_read : ConeRowsAreRead
cone_rows_are_read = record {
  input_rays = let r = rows_are_read.points in record { xs = r.xs; stand = r.stand; cols = r.cols; each = r.each };
  outside = λ h. rows_are_read.outside (record { xs = h.xs; stand = h.stand; cols = h.cols; each = h.each });
  rays = let r = ray_rows_are_read.rays in record { xs = r.xs; stand = r.stand; cols = r.cols; order = r.order };
  rays_turned = λ h. ray_rows_are_read.turned (record { xs = h.xs; stand = h.stand; cols = h.cols; order = h.order });
  slanted_ray = let r = ray_rows_are_read.slanted in record { xs = r.xs; stand = r.stand; cols = r.cols; order = r.order };
  not_a_ray = λ h. ray_rows_are_read.not_a_ray (record { xs = h.xs; stand = h.stand; cols = h.cols; order = h.order });
  facets = let r = facet_rows_are_read.facets in record { xs = r.xs; stand = r.stand; cols = r.cols; order = r.order };
  facets_turned = λ h. facet_rows_are_read.turned (record { xs = h.xs; stand = h.stand; cols = h.cols; order = h.order });
  slanted_facet = let r = facet_rows_are_read.slanted in record { xs = r.xs; stand = r.stand; cols = r.cols; order = r.order };
  not_a_facet = λ h. facet_rows_are_read.not_a_facet (record { xs = h.xs; stand = h.stand; cols = h.cols; order = h.order });
  lineality = let r = bases_are_right.lineality in record { xs = r.xs; stand = r.stand; basis = r.basis };
  no_lines = λ h. bases_are_right.too_few (record { xs = h.xs; stand = h.stand; basis = h.basis });
  not_a_line = λ h. bases_are_right.no_line (record { xs = h.xs; stand = h.stand; basis = h.basis });
  span = let r = bases_are_right.hull in record { xs = r.xs; stand = r.stand; basis = r.basis };
  no_rows = λ h. bases_are_right.hull_too_few (record { xs = h.xs; stand = h.stand; basis = h.basis });
  not_vanishing = λ h. bases_are_right.not_vanishing (record { xs = h.xs; stand = h.stand; basis = h.basis });
}

-- ---- the lines of fans
half_of : InSpan (single (pos 2)) (pos 1 ∷ [])
half_of = record { m = pos 2; c = []; d = pos 1 ∷ []; positive = lt_z_yes tt; not_negative = tt; same = record { at = λ i. at i } }
  where
    at : (i : ℕ) → entry (times (pos 2) (pos 1 ∷ [])) i ≡ entry (plus (combination [] []) (combination (pos 1 ∷ []) (single (pos 2)))) i
    at zero = refl
    at (suc i) = refl

doubled : IsBasis 1 (InSpan (single (pos 1))) (single (pos 2))
doubled = record {
  cols = (refl, tt);
  inside = all_one (InSpan (single (pos 1))) (pos 2 ∷ []) (in_line_times (pos 2) (first_row (pos 1 ∷ []) []));
  independent = double_independent (pos 2 ∷ []) 0 refl;
  spans = λ x l h. span_of (single (pos 2)) (single (pos 1)) (one_of (single (pos 2)) (pos 1 ∷ []) half_of) h;
}

one_line : HasDimension 1 (InSpan (single (pos 1))) 1
one_line = record { rows = single (pos 2); basis = doubled; as_many = refl }

none_independent : IsIndependent []
none_independent c z i l = absurd (omega arith)

no_lines : IsBasis 1 (InSpan []) []
no_lines = record { cols = tt; inside = all_none (InSpan []); independent = none_independent; spans = λ x l h. h }

-- the line has a row that is not zero
has_line : ¬ ((x : Row) → length x ≡ 1 → InSpan (single (pos 1)) x → IsZero x)
has_line f = let e : pos 1 ≡ pos 0 = f (pos 1 ∷ []) refl (in_line (first_row (pos 1 ∷ []) [])) 0 in omega (arith, ints)

pub fan_lines_are_read : FanLinesAreRead
fan_lines_are_read = record {
  lineality = record { xs = single (pos 2); stand = stand_for_ratios (single (pos 2)); basis = doubled };
  no_lines = λ h. let e = dimension_one 1 (InSpan (single (pos 1))) 0 1 (record { rows = h.xs; basis = h.basis; as_many = stand_length [] h.xs h.stand }) one_line in omega arith;
  none = record { xs = []; stand = tt; basis = no_lines };
  not_a_line = λ h.
      let r = stand_among (single (pos 1)) h.xs h.stand (first_row (pos 1 ∷ []) []) in
      let e : pos 1 ≡ pos 0 = none_to_zero (pos 1 ∷ []) (stands_in (pos 1 ∷ []) r.2 [] [] (among_All (InSpan []) r.1 h.basis.inside)) 0 in
      omega (arith, ints);
  dimension = (1, refl, one_line);
  not_nought = λ h. let e = dimension_one 1 (InSpan (single (pos 1))) h.0 1 h.2 one_line in let k = h.1 in omega (arith, ints);
  not_pointed = is_false has_line;
  has_a_line = not_true has_line;
  pointed = is_true (λ x l h. none_to_zero x h);
  has_no_line = not_false (λ x l h. none_to_zero x h);
  two_rays = λ p o. let e = as_many_rays two_rays (fan_orders both_rays (0 ∷ 1 ∷ [])) p fan_orders_are_read.orders o in let f : length both_rays ≡ 2 = refl in omega (arith, ints);
  not_three = λ h. let e = h (fan_orders both_rays (0 ∷ 1 ∷ [])) fan_orders_are_read.orders in omega (arith, ints);
}

-- ---- far rays
far : (j : ℕ) → Contains (0 ∷ 2 ∷ []) j ↔ ((j < length quadrant) × (entry (ray quadrant j) 0 ≡ pos 0))
far j = (λ c. to (among_Contains (0 ∷ 2 ∷ []) c), back j)
  where
    to : {j : ℕ} → Among j (0 ∷ 2 ∷ []) → (j < length quadrant) × (entry (ray quadrant j) 0 ≡ pos 0)
    to here = (omega arith, refl)
    to (there here) = (omega arith, refl)
    to (there (there i)) = elim i [ ]

    back : (j : ℕ) → (j < length quadrant) × (entry (ray quadrant j) 0 ≡ pos 0) → Contains (0 ∷ 2 ∷ []) j
    back zero h = first_of 0 (2 ∷ [])
    back (suc zero) h = absurd (let e = h.1 in omega (arith, ints))
    back (suc (suc zero)) h = Contains_among (there {y = 0} (here {xs = []}))
    back (suc (suc (suc j))) h = absurd (let l = h.0 in omega arith)

rising : AllPairs (λ i j. i < j) (0 ∷ 2 ∷ [])
rising = AllPairs_cons (λ i j. i < j) 0 (2 ∷ []) above (λ i j d l m. absurd (omega arith))
  where
    above : (k : ℕ) → Among k (2 ∷ []) → 0 < k
    above k here = omega arith
    above k (there i) = elim i [ ]

pub far_rays_are_read : FarRaysAreRead
far_rays_are_read = record {
  both = record { js = 0 ∷ 2 ∷ []; places = refl; ascending = rising; far = far };
  descending = λ h. let l : 2 < 0 = far_ascending (2 ∷ 0 ∷ []) quadrant h 0 1 0 (omega arith) (omega arith) in omega arith;
  first_alone = λ h. elim (among_Contains (0 ∷ []) ((far_at (0 ∷ []) quadrant h 2).1 (omega arith, refl))) [ there i ↦ elim i [ ] ];
  with_the_vertex = λ h. let e : pos 1 ≡ pos 0 = ((far_at (0 ∷ 1 ∷ 2 ∷ []) quadrant h 1).0 (Contains_among (there {y = 0} (here {xs = 2 ∷ []})))).1 in omega (arith, ints);
}
