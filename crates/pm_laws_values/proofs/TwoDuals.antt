-- Two duals of one linear program, on a segment in the plane.
use Rattle.pm_geom.proofs.Apart.{apart, order_of_apart, without}
use Rattle.pm_geom.proofs.ShortRows.{at_three, by_three, first_entry}
use Rattle.pm_geom.proofs.ValidRows.{facet_order, null_in}
use Rattle.pm_geom.specs.Cones.{CutOut, IsFacetRow, IsOrder, IsValid, Vanishes}
use Rattle.pm_geom.specs.Examples.{triple}
use Rattle.pm_geom.specs.Generators.{IsBefore}
use Rattle.pm_geom.specs.Programs.{IsMaximum, IsTimes}
use Rattle.pm_geom.specs.Things.{Orders}
use Rattle.pm_laws_normal_fans.proofs.Places.{no_pairs}
use Rattle.pm_laws_things.proofs.OrdersExist.{orders_exist}
use Rattle.pm_laws_values.proofs.TwoTriangulations.{placing_has_two}
use Rattle.pm_laws_values.specs.Examples.{HasTwoValues, TwoValuesAreRead, end_row, segment_thing}
use Rattle.pm_laws_values.specs.OneValue.{IsAnswer}
use Rattle.pm_props.specs.declared.kind.Kind.{Kind}
use Rattle.pm_props.specs.declared.property.PropId.TheVariants.{MaximalDual}
use Rattle.pm_relations.proofs.Standing.{stands_ratios, whole_denominators, whole_objective}
use Rattle.pm_types.proofs.WholeRows.{length_ratios, ratio_at_ratios, ratios_rows_fractions, ratios_rows_primitive}
use Rattle.pm_types.specs.Right.{AreFacetDirections, InSet, IsBoundBy, total}
use Rattle.pm_types.specs.Things.{IsThing}
use Rattle.pm_types.specs.Values.{PropertyValue, finite, matrix}
use Rattle.pm_types.specs.Views.{over_one, ratios}
use Rattle.pm_vector.proofs.BasisExamples.{primitive_by_one}
use Rattle.pm_vector.proofs.ConeLaws.{dot_in, in_generator}
use Rattle.pm_vector.proofs.Lists.{AllPairs_cons, All_among, Among, among_All, here, there}
use Rattle.pm_vector.proofs.Ring.{ring}
use Rattle.pm_vector.proofs.Signs.{mul_le, weaken}
use Rattle.pm_vector.specs.Cones.{InCone}
use Rattle.pm_vector.specs.Divisors.{IsPrimitive}
use Rattle.pm_vector.specs.Numbers.{InRange, Ratio}
use Rattle.pm_vector.specs.Rows.{HasCols, Row, dot, entry, plus, ratio_at}
use Rattle.std.proofs.Common.{ap, arith, inr, refl, sym, true≢false}
use Rattle.std.proofs.lemmas.Int.{ints}
use Rattle.std.specs.List.{All, AllByRecursion, slice_index_or}
use Rattle.std.specs.Prelude.{List, [], length, map, suc, zero, ℕ, ◌<◌, ◌∷◌, ◌≡◌}
use lib.IntN.{negsuc, pos, ℤ, ◌*ℤ◌, ◌+ℤ◌, ◌-ℤ◌}
use lib.Signed.{lt_z_yes, le_z_yes, ◌≤ℤ◌}

-- the segment from (0, 0) to (1, 0)
abbrev segment : List Row
segment = triple 1 0 0 ∷ triple 1 1 0 ∷ []

-- its facet rows x1 >= 0 and x1 <= 1, the second with s times the row that vanishes
abbrev ends : ℕ → List Row
ends s = triple 0 1 0 ∷ end_row s ∷ []

abbrev flat : List Row
flat = triple 0 0 1 ∷ []

segment_cols : HasCols 3 segment
segment_cols = (refl, (refl, tt))

enough : (s : ℕ) (x : Row) → length x ≡ 3 → CutOut (ends s) x → AllByRecursion (λ e. dot e x ≡ pos 0) flat → InCone segment [] x
enough s x l u v = by_three (λ x. CutOut (ends s) x → AllByRecursion (λ e. dot e x ≡ pos 0) flat → InCone segment [] x) made x l u v
  where
    made : (a b c : ℤ) → CutOut (ends s) (a ∷ b ∷ c ∷ []) → AllByRecursion (λ e. dot e (a ∷ b ∷ c ∷ []) ≡ pos 0) flat → InCone segment [] (a ∷ b ∷ c ∷ [])
    made a b c u v =
        let z : c ≡ pos 0 = (let q = v.0 in omega (arith, ints)) in
        let lo : pos 0 ≤ℤ b = (let q = u.0 in omega (arith, ints)) in
        let hi : pos 0 ≤ℤ (a -ℤ b) = high s a b c z u.1.0 in
        record {
          m = pos 1;
          c = (a -ℤ b) ∷ b ∷ [];
          d = [];
          positive = lt_z_yes tt;
          not_negative = (hi, (lo, tt));
          same = at_three _ _ _ _ _ _ (simp ring (omega (arith, ints))) (simp ring (omega (arith, ints))) (simp ring (omega (arith, ints)));
        }
      where
        high : (s : ℕ) (a b c : ℤ) → c ≡ pos 0 → pos 0 ≤ℤ dot (end_row s) (a ∷ b ∷ c ∷ []) → pos 0 ≤ℤ (a -ℤ b)
        high s a b c z h = let g = simp (z, ring) at h in omega (arith, ints)

-- ---- the facets, with s = 0 and s = 1
needed_0 : (v : Row) (i : Among v (ends 0)) → ¬ (InCone (without i) flat v)
unfolding without
needed_0 v here = apart (end_row 0 ∷ []) flat (pos 0 ∷ negsuc 0 ∷ pos 0 ∷ []) (triple 0 1 0) tt tt tt
needed_0 v (there here) = apart (triple 0 1 0 ∷ []) flat (negsuc 0 ∷ pos 0 ∷ pos 0 ∷ []) (end_row 0) tt tt tt
needed_0 v (there (there i)) = elim i [ ]

needed_1 : (v : Row) (i : Among v (ends 1)) → ¬ (InCone (without i) flat v)
unfolding without
needed_1 v here = apart (end_row 1 ∷ []) flat (pos 0 ∷ negsuc 0 ∷ pos 0 ∷ []) (triple 0 1 0) tt tt tt
needed_1 v (there here) = apart (triple 0 1 0 ∷ []) flat (negsuc 0 ∷ pos 0 ∷ pos 0 ∷ []) (end_row 1) tt tt tt
needed_1 v (there (there i)) = elim i [ ]

facets_0 : IsOrder 3 (IsValid 3 segment []) (ends 0)
facets_0 = facet_order 3 segment [] (ends 0) flat segment_cols tt (refl, (refl, tt)) (refl, tt) (record { rows = tt; rows_lines = tt; lines = tt; lines_lines = tt }) (enough 0)
    (order_of_apart 3 (ends 0) flat (refl, (refl, tt)) (refl, tt) (triple 2 1 0) tt tt needed_0)

facets_1 : IsOrder 3 (IsValid 3 segment []) (ends 1)
facets_1 = facet_order 3 segment [] (ends 1) flat segment_cols tt (refl, (refl, tt)) (refl, tt) (record { rows = tt; rows_lines = tt; lines = tt; lines_lines = tt }) (enough 1)
    (order_of_apart 3 (ends 1) flat (refl, (refl, tt)) (refl, tt) (triple 2 1 0) tt tt needed_1)

-- ---- the polytope, and the objective x1
abbrev along : Row
along = triple 0 1 0

is_thing : IsThing segment_thing
is_thing = record {
  some_cols = omega arith;
  few_cols = omega arith;
  kind = (record { cone = record { generators = segment_cols; lines = tt }; first = λ x l h. first_entry segment [] tt tt x h; proper = inr (triple 1 0 0, refl, in_generator here, lt_z_yes tt) }, refl);
  programs = whole_objective 3 along refl;
  sites = record { each = record { cols = λ j l. absurd (omega arith); positive = λ j l. absurd (omega arith); denominators = λ j l. absurd (omega arith) }; as_many = refl };
}

whole_times : (x : Row) → IsTimes (pos 1) (ratios x) x
whole_times x = record {
  positive = lt_z_yes tt;
  cols = length_ratios x;
  denominators = λ i l. whole_denominators x i;
  same = λ i l. rw (ratio_at_ratios x i) (simp ring);
}

-- x0 - x1 >= 0
below_one : (x : Row) → InCone segment [] x → entry x 1 ≤ℤ entry x 0
below_one x h = let g = dot_in (pos 1 ∷ negsuc 0 ∷ []) segment [] each (λ l i. elim i [ ]) h in by x g
  where
    each : (g : Row) → Among g segment → pos 0 ≤ℤ dot (pos 1 ∷ negsuc 0 ∷ []) g
    each g here = le_z_yes tt
    each g (there here) = le_z_yes tt
    each g (there (there i)) = elim i [ ]

    by : (x : Row) → pos 0 ≤ℤ dot (pos 1 ∷ negsuc 0 ∷ []) x → entry x 1 ≤ℤ entry x 0
    by [] h = le_z_yes tt
    by (a ∷ []) h = omega (arith, ints)
    by (a ∷ b ∷ x) h = omega (arith, ints)

objective_is : (k : ℤ) (objective x : Row) → IsTimes k (ratios along) objective → dot objective x ≡ k *ℤ entry x 1
objective_is k objective x t = by objective t.cols (t.same 0 (omega arith)) (t.same 1 (omega arith)) (t.same 2 (omega arith)) x
  where
    by : (w : Row) → length w ≡ 3 → entry w 0 *ℤ pos 1 ≡ k *ℤ pos 0 → entry w 1 *ℤ pos 1 ≡ k *ℤ pos 1 → entry w 2 *ℤ pos 1 ≡ k *ℤ pos 0 → (x : Row) → dot w x ≡ k *ℤ entry x 1
    by (a ∷ b ∷ c ∷ []) l p q r x = at a b c (let g = simp ring at p in omega (arith, ints)) (let g = simp ring at q in omega (arith, ints)) (let g = simp ring at r in omega (arith, ints)) x
      where
        at : (a b c : ℤ) → a ≡ pos 0 → b ≡ k → c ≡ pos 0 → (x : Row) → dot (a ∷ b ∷ c ∷ []) x ≡ k *ℤ entry x 1
        at a b c p q r [] = simp ring
        at a b c p q r (x ∷ []) = rw p (simp ring)
        at a b c p q r (x ∷ y ∷ []) = rw (p, q) (simp ring (omega (arith, ints)))
        at a b c p q r (x ∷ y ∷ z ∷ xs) = rw (p, q, r) (simp ring (omega (arith, ints)))
    by [] l p q r x = absurd (omega arith)
    by (a ∷ []) l p q r x = absurd (omega arith)
    by (a ∷ b ∷ []) l p q r x = absurd (omega arith)
    by (a ∷ b ∷ c ∷ d ∷ w) l p q r x = absurd (omega arith)

greatest : IsMaximum (InSet segment_thing) (ratios along) (over_one (pos 1))
greatest = record {
  attained = record {
    k = pos 1;
    objective = along;
    whole = triple 1 1 0;
    times = whole_times along;
    cols = refl;
    inside = in_generator (there here);
    first = lt_z_yes tt;
    positive = lt_z_yes tt;
    value = refl;
  };
  greatest = record { holds = λ k objective x t i up. let e = objective_is k objective x t in let m = mul_le {a = k} (weaken t.positive) (below_one x i) in at (dot objective x) k (entry x 1) (entry x 0) e m };
}
  where
    at : (D k y z : ℤ) → D ≡ k *ℤ y → (k *ℤ y) ≤ℤ (k *ℤ z) → (D *ℤ pos 1) ≤ℤ ((k *ℤ z) *ℤ pos 1)
    at D k y z e m = simp ring (omega (arith, ints))

-- ---- the dual with s times the row that vanishes
in_range : (s : ℕ) → s < 2 → All InRange (end_row s)
in_range s l = All_among InRange (end_row s) each
  where
    each : (z : ℤ) → Among z (end_row s) → InRange z
    each z here = omega arith
    each z (there here) = omega arith
    each z (there (there here)) = omega arith
    each z (there (there (there i))) = elim i [ ]

abbrev dual_rows : ℕ → List (List Ratio)
dual_rows s = map ratios (end_row s ∷ [])

directions : (s : ℕ) → IsOrder 3 (IsValid 3 segment []) (ends s) → AreFacetDirections segment_thing (dual_rows s)
directions s o = record {
  xs = end_row s ∷ [];
  stand = (stands_ratios (end_row s), tt);
  facets = All_among (IsFacetRow 3 segment []) (end_row s ∷ []) (λ a i. facet a i);
  primitive = All_among (λ x. IsPrimitive x) (end_row s ∷ []) (λ a i. whole a i);
  ascending = AllPairs_cons IsBefore (end_row s) [] (λ y i. elim i [ ]) (no_pairs IsBefore);
}
  where
    facet : (a : Row) → Among a (end_row s ∷ []) → IsFacetRow 3 segment [] a
    facet a here = among_All (λ f. IsFacetRow 3 segment [] f) (there (here {xs = []})) o.each
    facet a (there i) = elim i [ ]

    whole : (a : Row) → Among a (end_row s ∷ []) → IsPrimitive a
    whole a here = primitive_by_one (end_row s) 0 refl
    whole a (there i) = elim i [ ]

vanishing_row : (z : ℤ) → Vanishes 3 segment [] (pos 0 ∷ pos 0 ∷ z ∷ [])
vanishing_row z = record { cols = refl; holds = λ x l h. null_in (pos 0 ∷ pos 0 ∷ z ∷ []) segment [] each (λ l i. elim i [ ]) h }
  where
    each : (g : Row) → Among g segment → dot (pos 0 ∷ pos 0 ∷ z ∷ []) g ≡ pos 0
    each g here = simp ring
    each g (there here) = simp ring
    each g (there (there i)) = elim i [ ]

bound : (s : ℕ) (z : ℤ) → pos s +ℤ z ≡ pos 0 → IsBoundBy segment_thing (ratios along) (over_one (pos 1)) (dual_rows s)
bound s z e = record {
  k = pos 1;
  objective = along;
  xs = end_row s ∷ [];
  rest = pos 0 ∷ pos 0 ∷ z ∷ [];
  constant = pos 1;
  objective_times = whole_times along;
  as_many = refl;
  times = λ i l. one_row i l;
  vanishes = vanishing_row z;
  constant_times = refl;
  sum = record { at = sums };
}
  where
    one_row : (i : ℕ) → i < 1 → IsTimes (pos 1) (slice_index_or (dual_rows s) i []) (slice_index_or (end_row s ∷ []) i [])
    one_row zero l = whole_times (end_row s)
    one_row (suc i) l = absurd (omega arith)

    sums : (i : ℕ) → entry (plus along (plus (total (end_row s ∷ [])) (pos 0 ∷ pos 0 ∷ z ∷ []))) i ≡ entry (pos 1 ∷ []) i
    sums zero = refl
    sums (suc zero) = refl
    sums (suc (suc zero)) = omega (arith, ints)
    sums (suc (suc (suc i))) = refl

answer : (kind : Kind) (o : Orders) (s : ℕ) (z : ℤ) → s < 2 → pos s +ℤ z ≡ pos 0 → IsOrder 3 (IsValid 3 segment []) (ends s) → IsAnswer kind MaximalDual (matrix 3 (dual_rows s)) segment_thing o (ratios along)
answer kind o s z l e f = record {
  formed = record { formed = refl; columns = refl; rows = refl; entries = ratios_rows_fractions (end_row s ∷ []) ranges; primitive = ratios_rows_primitive (end_row s ∷ []) ranges };
  stated = refl;
  right = record { value = finite (over_one (pos 1)); greatest = greatest; holds = (directions s f, bound s z e) };
  canonical = tt;
}
  where
    ranges : All (All InRange) (end_row s ∷ [])
    ranges = All_among (All InRange) (end_row s ∷ []) (λ a i. only a i)
      where
        only : (a : Row) → Among a (end_row s ∷ []) → All InRange a
        only a here = in_range s l
        only a (there i) = elim i [ ]

dual_has_two : (kind : Kind) → HasTwoValues kind MaximalDual
dual_has_two kind =
    let (o, are) = orders_exist segment_thing is_thing in
    record {
      t = segment_thing;
      thing = is_thing;
      asked = refl;
      o = o;
      orders = are;
      c = ratios along;
      v = matrix 3 (dual_rows 0);
      w = matrix 3 (dual_rows 1);
      first = answer kind o 0 (pos 0) (omega arith) (omega (arith, ints)) facets_0;
      second = answer kind o 1 (negsuc 0) (omega arith) (omega (arith, ints)) facets_1;
      differ = λ e. last e;
    }
  where
    corner : PropertyValue → ℤ
    corner (matrix n rows) = (ratio_at (slice_index_or rows 0 []) 2).num
    corner v = pos 0

    last : ¬ (matrix 3 (dual_rows 0) ≡ matrix 3 (dual_rows 1))
    last e = let q : pos 0 ≡ pos 1 = ap corner e in omega (arith, ints)

pub two_values_are_read : TwoValuesAreRead
two_values_are_read = record {
  placing = placing_has_two;
  dual = dual_has_two;
  vertices = refl;
  not_dual = λ e. true≢false (sym e);
  program = refl;
  of_cones = λ e. true≢false (sym e);
}
