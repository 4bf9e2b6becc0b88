-- Rays and facet rows of the half line and of a line in their order, and bases of the lineality and of the rows that vanish.
use Rattle.pm_vector.proofs.ConeLaws.{combination_none, dot_in, in_generator, in_line, in_line_times, in_zero}
use Rattle.pm_vector.proofs.Lists.{Among, all_at, among_All, here, there}
use Rattle.pm_vector.proofs.Ring.{ring}
use Rattle.pm_vector.proofs.RowLaws.{dot-plus, dot-same, dot-times, dot_comm, entry-plus, entry-times, plus-dot, times-dot}
use Rattle.pm_vector.proofs.Signs.{mul_cancel, mul_nonneg, nonneg_cancel, weaken}
use Rattle.pm_vector.specs.Cones.{InCone, InSpan, IsIndependent, combination}
use Rattle.pm_vector.specs.Rows.{Row, Stands, dot, entry, opposite, plus, times}
use Rattle.pm_vector.proofs.Spans.{span_of}
use Rattle.pm_geom.proofs.Apart.{apart, not_below, not_below_at, null, null_at, order_of_apart, products, without}
use Rattle.pm_geom.proofs.Facets.{dot-opposite, opposite-dot}
use Rattle.pm_geom.proofs.ShortRows.{at_three, at_two}
use Rattle.pm_geom.proofs.SmallThings.{half_line_is_read, line_is_read}
use Rattle.pm_geom.proofs.ValidRows.{Tables, facet_order}
use Rattle.pm_geom.specs.Cones.{InLineality, IsValid, SameModulo, Vanishes}
use Rattle.pm_geom.specs.Examples.{half_line, pair, triple}
use Rattle.pm_types.specs.Things.{AreOrders}
use Rattle.pm_relations.proofs.Dimensions.{dimension_one}
use Rattle.pm_examples_values.proofs.RayExamples.{one_line}
use Rattle.pm_examples_values.proofs.RowExamples.{all_one, first_row, on_lines, second_row, spanned, valid_row, vanishing_row}
use Rattle.pm_relations.proofs.Standing.{in_order_length, stand_for_ratios, stand_length}
use Rattle.pm_examples_values.proofs.StandingExamples.{row_not_negative, row_null, stand_among, stands_in, stands_not_negative, stands_null}
use Rattle.pm_examples_values.specs.RayExamples.{half_line_thing}
use Rattle.pm_types.specs.Right.{HasDimension, InOrder, IsBasis, StandFor}
use Rattle.pm_examples_values.specs.RowExamples.{BasesAreRight, FacetRowsAreRead, RayRowsAreRead, mixed_orders}
use Rattle.pm_types.specs.Views.{ratios}
use Rattle.std.proofs.Common.{T, arith, refl, ◌∙◌}
use Rattle.std.proofs.lemmas.Int.{ints}
use Rattle.std.specs.Prelude.{List, [], length, map, suc, zero, ℕ, ◌∷◌, ◌≡◌}
use lib.IntN.{negsuc, pos, ℤ, ◌*ℤ◌, ◌+ℤ◌}
use lib.Signed.{le_z_yes, lt_z_yes, ◌<ℤ◌, ◌≤ℤ◌}

-- ---- the first rows of an order and of a value
pub first_place : (R : Row → Row → Type 0) (v y : Row) (V Y xs : List Row) → InOrder R (v ∷ V) xs → StandFor (map ratios (y ∷ Y)) xs → (x : Row) × R v x × Stands (ratios y) x
first_place R v y V Y [] o s = absurd o
first_place R v y V Y (x ∷ xs) o s = (x, o.0, s.0)

zero_of : (p q z w : ℤ) → pos 0 <ℤ p → p *ℤ w ≡ q *ℤ z → z ≡ pos 0 → w ≡ pos 0
zero_of p q z w h e z0 = mul_cancel h (e ∙ simp (z0, ring) refl)

sign_of : (p q z w : ℤ) → pos 0 <ℤ p → pos 0 <ℤ q → p *ℤ w ≡ q *ℤ z → pos 0 ≤ℤ z → pos 0 ≤ℤ w
sign_of p q z w hp hq e h = let up = mul_nonneg (weaken hq) h in nonneg_cancel hp (omega (arith, ints))

-- ---- the product of a valid row with a row that stands for a ray
module _ (n : ℕ) (G L : List Row) (a : Row) (g : T (products not_below a G)) (l : T (products null a L)) where
  on_line : (w : Row) → InLineality (InCone G L) w → dot a w ≡ pos 0
  on_line w h =
      let up = dot_in a G L (λ v i. not_below_at a i g) (λ v i. null_at a i l) h.inside in
      let down = rw dot-opposite at (dot_in a G L (λ v i. not_below_at a i g) (λ v i. null_at a i l) h.opposed) in
      omega (arith, ints)

  scaled : (v x : Row) (s : SameModulo n (InCone G L) v x) → s.p *ℤ dot a x ≡ s.k *ℤ dot a v
  scaled v x s =
      let e = simp (dot-times, dot-plus) at (dot-same a (times s.p x) (plus (times s.k v) s.w) s.same.at) in
      let z = on_line s.w s.line in
      omega (arith, ints)

  module _ (v y : Row) (w : (x : Row) × SameModulo n (InCone G L) v x × Stands (ratios y) x) where
    ray_null : dot a v ≡ pos 0 → dot a y ≡ pos 0
    ray_null z = stands_null y w.2 a (zero_of (w.1).p (w.1).k (dot a v) (dot a w.0) (w.1).p_positive (scaled v w.0 w.1) z)

    ray_not_negative : pos 0 ≤ℤ dot a v → pos 0 ≤ℤ dot a y
    ray_not_negative z = stands_not_negative y w.2 a (sign_of (w.1).p (w.1).k (dot a v) (dot a w.0) (w.1).p_positive (w.1).k_positive (scaled v w.0 w.1) z)

-- ---- the product of a row of the cone with a row that stands for a facet row
module _ (n : ℕ) (G L : List Row) (g : Row) (lg : length g ≡ n) (ig : InCone G L g) where
  on_facets_line : (w : Row) → InLineality (IsValid n G L) w → dot w g ≡ pos 0
  on_facets_line w h =
      let up = h.inside.holds g lg ig in
      let down = rw opposite-dot at (h.opposed.holds g lg ig) in
      omega (arith, ints)

  facet_scaled : (f x : Row) (s : SameModulo n (IsValid n G L) f x) → s.p *ℤ dot x g ≡ s.k *ℤ dot f g
  facet_scaled f x s =
      let e = dot_comm (times s.p x) g ∙ dot-same g (times s.p x) (plus (times s.k f) s.w) s.same.at ∙ dot_comm g (plus (times s.k f) s.w) in
      let e' = simp (times-dot, plus-dot) at e in
      let z = on_facets_line s.w s.line in
      omega (arith, ints)

  module _ (f y : Row) (w : (x : Row) × SameModulo n (IsValid n G L) f x × Stands (ratios y) x) where
    facet_null : dot f g ≡ pos 0 → dot y g ≡ pos 0
    facet_null z = row_null y w.2 g (zero_of (w.1).p (w.1).k (dot f g) (dot w.0 g) (w.1).p_positive (facet_scaled f w.0 w.1) z)

    facet_not_negative : pos 0 ≤ℤ dot f g → pos 0 ≤ℤ dot y g
    facet_not_negative z = row_not_negative y w.2 g (sign_of (w.1).p (w.1).k (dot f g) (dot w.0 g) (w.1).p_positive (w.1).k_positive (facet_scaled f w.0 w.1) z)

-- ---- rows that are alike
null_pair : (i : ℕ) → entry (pair 0 0) i ≡ pos 0
null_pair zero = refl
null_pair (suc zero) = refl
null_pair (suc (suc i)) = refl

null_line : InLineality (InCone half_line []) (pair 0 0)
unfolding opposite
null_line = record { inside = in_zero null_pair; opposed = in_zero null_pair }

null_facet : InLineality (IsValid 2 half_line []) (pair 0 0)
unfolding opposite
null_facet = record { inside = valid_row 2 half_line [] (pair 0 0) refl tt tt; opposed = valid_row 2 half_line [] (pair 0 0) refl tt tt }

times_up : (S : Row → Type 0) → InLineality S (pair 0 0) → (k : ℤ) → pos 0 <ℤ k → (a b : ℤ) → SameModulo 2 S (a ∷ b ∷ []) ((k *ℤ a) ∷ (k *ℤ b) ∷ [])
times_up S l k h a b = record {
  p = pos 1;
  k = k;
  w = pair 0 0;
  cols = refl;
  p_positive = lt_z_yes tt;
  k_positive = h;
  line = l;
  same = at_two _ _ _ _ (simp ring (omega (arith, ints))) (simp ring (omega (arith, ints)));
}

abbrev points : List Row
points = triple 1 0 0 ∷ []

abbrev lines : List Row
lines = triple 0 1 0 ∷ []

slanted_ray : SameModulo 3 (InCone points lines) (triple 1 0 0) (triple 1 5 0)
slanted_ray = record {
  p = pos 1;
  k = pos 1;
  w = triple 0 5 0;
  cols = refl;
  p_positive = lt_z_yes tt;
  k_positive = lt_z_yes tt;
  line = on_lines (triple 0 5 0) (in_line_times (pos 5) (first_row (triple 0 1 0) []));
  same = at_three _ _ _ _ _ _ refl refl refl;
}

slanted_facet : SameModulo 3 (IsValid 3 points lines) (triple 1 0 0) (triple 1 0 3)
unfolding opposite
slanted_facet = record {
  p = pos 1;
  k = pos 1;
  w = triple 0 0 3;
  cols = refl;
  p_positive = lt_z_yes tt;
  k_positive = lt_z_yes tt;
  line = record { inside = valid_row 3 points lines (triple 0 0 3) refl tt tt; opposed = valid_row 3 points lines (pos 0 ∷ pos 0 ∷ negsuc 2 ∷ []) refl tt tt };
  same = at_three _ _ _ _ _ _ refl refl refl;
}

-- ---- the rays
abbrev turned_rows : List Row
turned_rows = pair 1 0 ∷ pair 0 1 ∷ []

turned_needed : (v : Row) (i : Among v turned_rows) → ¬ (InCone (without i) [] v)
unfolding without
turned_needed v here = apart _ [] (negsuc 0 ∷ pos 0 ∷ []) _ tt tt tt
turned_needed v (there here) = apart _ [] (pos 0 ∷ negsuc 0 ∷ []) _ tt tt tt
turned_needed v (there (there i)) = elim i [ ]

signs : Tables half_line [] turned_rows []
signs = record { rows = tt; rows_lines = tt; lines = tt; lines_lines = tt }

mixed_are_orders : AreOrders half_line_thing mixed_orders
mixed_are_orders = record {
  rays = half_line_is_read.rays;
  facets = facet_order 2 half_line [] turned_rows [] (refl, (refl, tt)) tt (refl, (refl, tt)) tt signs (λ x l c u. (half_line_is_read.cut x l).1 (c.1.0, (c.0, tt)))
      (order_of_apart 2 turned_rows [] (refl, (refl, tt)) tt (pair 1 1) tt tt turned_needed);
  cones = refl;
}

pub ray_rows_are_read : RayRowsAreRead
ray_rows_are_read = record {
  orders = mixed_are_orders;
  rays = record {
    xs = half_line;
    stand = stand_for_ratios half_line;
    cols = (refl, (refl, tt));
    order = (times_up (InCone half_line []) null_line (pos 1) (lt_z_yes tt) (pos 0) (pos 1), (times_up (InCone half_line []) null_line (pos 1) (lt_z_yes tt) (pos 1) (pos 0), tt));
  };
  scaled = record {
    xs = pair 0 2 ∷ pair 3 0 ∷ [];
    stand = stand_for_ratios (pair 0 2 ∷ pair 3 0 ∷ []);
    cols = (refl, (refl, tt));
    order = (times_up (InCone half_line []) null_line (pos 2) (lt_z_yes tt) (pos 0) (pos 1), (times_up (InCone half_line []) null_line (pos 3) (lt_z_yes tt) (pos 1) (pos 0), tt));
  };
  turned = λ h.
      let w = first_place (SameModulo 2 (InCone half_line [])) (pair 0 1) (pair 1 0) (pair 1 0 ∷ []) (pair 0 1 ∷ []) h.xs h.order h.stand in
      let e : pos 1 ≡ pos 0 = ray_null 2 half_line [] (pair 1 0) tt tt (pair 0 1) (pair 1 0) w refl in
      omega (arith, ints);
  fewer = λ h.
      let k : length h.xs ≡ 2 = in_order_length (SameModulo 2 (InCone half_line [])) half_line h.xs h.order in
      let l : length h.xs ≡ 1 = stand_length (map ratios (pair 0 1 ∷ [])) h.xs h.stand in
      omega arith;
  more = λ h.
      let k : length h.xs ≡ 2 = in_order_length (SameModulo 2 (InCone half_line [])) half_line h.xs h.order in
      let l : length h.xs ≡ 3 = stand_length (map ratios (pair 0 1 ∷ pair 1 0 ∷ pair 1 0 ∷ [])) h.xs h.stand in
      omega arith;
  negative = λ h.
      let w = first_place (SameModulo 2 (InCone half_line [])) (pair 0 1) (pos 0 ∷ negsuc 0 ∷ []) (pair 1 0 ∷ []) (pair 1 0 ∷ []) h.xs h.order h.stand in
      let e : pos 0 ≤ℤ negsuc 0 = ray_not_negative 2 half_line [] (pair 0 1) tt tt (pair 0 1) (pos 0 ∷ negsuc 0 ∷ []) w (le_z_yes tt) in
      omega (arith, ints);
  longer = λ h.
      let r = stand_among (triple 0 1 0 ∷ triple 1 0 0 ∷ []) h.xs h.stand (first_row (triple 0 1 0) (triple 1 0 0 ∷ [])) in
      let l : length r.0 ≡ 2 = all_at (λ (x : Row). length x ≡ 2) r.1 h.cols in
      let k : length r.0 ≡ 3 = r.2.cols in
      omega arith;
  slanted = record { xs = triple 1 5 0 ∷ []; stand = stand_for_ratios (triple 1 5 0 ∷ []); cols = (refl, tt); order = (slanted_ray, tt) };
  not_a_ray = λ h.
      let w = first_place (SameModulo 3 (InCone points lines)) (triple 1 0 0) (triple 1 0 1) [] [] h.xs h.order h.stand in
      let e : pos 1 ≡ pos 0 = ray_null 3 points lines (triple 0 0 1) tt tt (triple 1 0 0) (triple 1 0 1) w refl in
      omega (arith, ints);
}

-- ---- the facet rows
pub facet_rows_are_read : FacetRowsAreRead
facet_rows_are_read = record {
  facets = record {
    xs = turned_rows;
    stand = stand_for_ratios turned_rows;
    cols = (refl, (refl, tt));
    order = (times_up (IsValid 2 half_line []) null_facet (pos 1) (lt_z_yes tt) (pos 1) (pos 0), (times_up (IsValid 2 half_line []) null_facet (pos 1) (lt_z_yes tt) (pos 0) (pos 1), tt));
  };
  scaled = record {
    xs = pair 2 0 ∷ pair 0 3 ∷ [];
    stand = stand_for_ratios (pair 2 0 ∷ pair 0 3 ∷ []);
    cols = (refl, (refl, tt));
    order = (times_up (IsValid 2 half_line []) null_facet (pos 2) (lt_z_yes tt) (pos 1) (pos 0), (times_up (IsValid 2 half_line []) null_facet (pos 3) (lt_z_yes tt) (pos 0) (pos 1), tt));
  };
  turned = λ h.
      let w = first_place (SameModulo 2 (IsValid 2 half_line [])) (pair 1 0) (pair 0 1) (pair 0 1 ∷ []) (pair 1 0 ∷ []) h.xs h.order h.stand in
      let e : pos 1 ≡ pos 0 = facet_null 2 half_line [] (pair 0 1) refl (in_generator (first_row (pair 0 1) (pair 1 0 ∷ []))) (pair 1 0) (pair 0 1) w refl in
      omega (arith, ints);
  fewer = λ h.
      let k : length h.xs ≡ 2 = in_order_length (SameModulo 2 (IsValid 2 half_line [])) turned_rows h.xs h.order in
      let l : length h.xs ≡ 1 = stand_length (map ratios (pair 1 0 ∷ [])) h.xs h.stand in
      omega arith;
  negative = λ h.
      let w = first_place (SameModulo 2 (IsValid 2 half_line [])) (pair 1 0) (negsuc 0 ∷ pos 0 ∷ []) (pair 0 1 ∷ []) (pair 0 1 ∷ []) h.xs h.order h.stand in
      let e : pos 0 ≤ℤ negsuc 0 = facet_not_negative 2 half_line [] (pair 1 0) refl (in_generator (second_row (pair 0 1) (pair 1 0) [])) (pair 1 0) (negsuc 0 ∷ pos 0 ∷ []) w (le_z_yes tt) in
      omega (arith, ints);
  slanted = record { xs = triple 1 0 3 ∷ []; stand = stand_for_ratios (triple 1 0 3 ∷ []); cols = (refl, tt); order = (slanted_facet, tt) };
  not_a_facet = λ h.
      let w = first_place (SameModulo 3 (IsValid 3 points lines)) (triple 1 0 0) (triple 1 1 0) [] [] h.xs h.order h.stand in
      let e : pos 1 ≡ pos 0 = facet_null 3 points lines (triple 0 1 0) refl (in_line (first_row (triple 0 1 0) [])) (triple 1 0 0) (triple 1 1 0) w refl in
      omega (arith, ints);
}

-- ---- bases
-- a row that has the entry 2 somewhere is independent
pub double_independent : (x : Row) (j : ℕ) → entry x j ≡ pos 2 → IsIndependent (x ∷ [])
double_independent x j two [] z i l = refl
double_independent x j two (k ∷ c) z zero l = half k (entry (combination c []) j) (simp (entry-plus, entry-times, two) at (z j)) (combination_none c j)
  where
    half : (k t : ℤ) → k *ℤ pos 2 +ℤ t ≡ pos 0 → t ≡ pos 0 → k ≡ pos 0
    half k t e f = omega (arith, ints)
double_independent x j two (k ∷ c) z (suc i) l = absurd (omega arith)

pub one_of : (T : List Row) (x : Row) → InSpan T x → (r : Row) → Among r (x ∷ []) → InSpan T r
one_of T x h r here = h
one_of T x h r (there i) = elim i [ ]

half_line_of : InSpan (triple 0 2 0 ∷ []) (triple 0 1 0)
half_line_of = record { m = pos 2; c = []; d = pos 1 ∷ []; positive = lt_z_yes tt; not_negative = tt; same = at_three _ _ _ _ _ _ refl refl refl }

half_hull_of : InSpan (triple 0 0 2 ∷ []) (triple 0 0 1)
half_hull_of = record { m = pos 2; c = []; d = pos 1 ∷ []; positive = lt_z_yes tt; not_negative = tt; same = at_three _ _ _ _ _ _ refl refl refl }

doubled_lines : IsBasis 3 (InLineality (InCone points lines)) (triple 0 2 0 ∷ [])
doubled_lines = record {
  cols = (refl, tt);
  inside = all_one (InLineality (InCone points lines)) (triple 0 2 0) (on_lines (triple 0 2 0) (in_line_times (pos 2) (first_row (triple 0 1 0) [])));
  independent = double_independent (triple 0 2 0) 1 refl;
  spans = λ x l h. span_of (triple 0 2 0 ∷ []) lines (one_of (triple 0 2 0 ∷ []) (triple 0 1 0) half_line_of) (spanned x l h);
}

doubled_hull : IsBasis 3 (Vanishes 3 points lines) (triple 0 0 2 ∷ [])
doubled_hull = record {
  cols = (refl, tt);
  inside = all_one (Vanishes 3 points lines) (triple 0 0 2) (vanishing_row 3 points lines (triple 0 0 2) refl tt tt);
  independent = double_independent (triple 0 0 2) 2 refl;
  spans = λ x l h. span_of (triple 0 0 2 ∷ []) (triple 0 0 1 ∷ []) (one_of (triple 0 0 2 ∷ []) (triple 0 0 1) half_hull_of) ((line_is_read.vanish x l).0 h);
}

one_hull : HasDimension 3 (Vanishes 3 points lines) 1
one_hull = record { rows = triple 0 0 2 ∷ []; basis = doubled_hull; as_many = refl }

pub bases_are_right : BasesAreRight
bases_are_right = record {
  lineality = record { xs = triple 0 2 0 ∷ []; stand = stand_for_ratios (triple 0 2 0 ∷ []); basis = doubled_lines };
  too_few = λ h. let e = dimension_one 3 (InLineality (InCone points lines)) 0 1 (record { rows = h.xs; basis = h.basis; as_many = stand_length [] h.xs h.stand }) one_line in omega arith;
  dependent = λ h. let e = dimension_one 3 (InLineality (InCone points lines)) 2 1 (record { rows = h.xs; basis = h.basis; as_many = stand_length (map ratios (triple 0 1 0 ∷ triple 0 2 0 ∷ [])) h.xs h.stand }) one_line in omega arith;
  no_line = λ h.
      let r = stand_among (triple 0 0 1 ∷ []) h.xs h.stand (first_row (triple 0 0 1) []) in
      apart [] lines (pos 0 ∷ pos 0 ∷ negsuc 0 ∷ []) (triple 0 0 1) tt tt tt
      (stands_in (triple 0 0 1) r.2 [] lines (spanned r.0 (all_at (λ (x : Row). length x ≡ 3) r.1 h.basis.cols) (among_All (InLineality (InCone points lines)) r.1 h.basis.inside)));
  longer = λ h.
      let r = stand_among ((pos 0 ∷ triple 1 0 0) ∷ []) h.xs h.stand (first_row (pos 0 ∷ triple 1 0 0) []) in
      let l : length r.0 ≡ 3 = all_at (λ (x : Row). length x ≡ 3) r.1 h.basis.cols in
      let k : length r.0 ≡ 4 = r.2.cols in
      omega arith;
  hull = record { xs = triple 0 0 2 ∷ []; stand = stand_for_ratios (triple 0 0 2 ∷ []); basis = doubled_hull };
  hull_too_few = λ h. let e = dimension_one 3 (Vanishes 3 points lines) 0 1 (record { rows = h.xs; basis = h.basis; as_many = stand_length [] h.xs h.stand }) one_hull in omega arith;
  hull_dependent = λ h. let e = dimension_one 3 (Vanishes 3 points lines) 2 1 (record { rows = h.xs; basis = h.basis; as_many = stand_length (map ratios (triple 0 0 1 ∷ triple 0 0 2 ∷ [])) h.xs h.stand }) one_hull in omega arith;
  not_vanishing = λ h.
      let r = stand_among (triple 0 1 0 ∷ []) h.xs h.stand (first_row (triple 0 1 0) []) in
      let v = among_All (Vanishes 3 points lines) r.1 h.basis.inside in
      let k : pos 1 ≡ pos 0 = row_null (triple 0 1 0) r.2 (triple 0 1 0) (v.holds (triple 0 1 0) refl (in_line (first_row (triple 0 1 0) []))) in
      omega (arith, ints);
}
