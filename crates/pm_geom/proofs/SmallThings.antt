-- The half line, the empty polytope and a line.
use Rattle.pm_vector.proofs.ConeLaws.{dot_in, in_generator, none_from_zero, none_to_zero}
use Rattle.pm_vector.proofs.Lists.{Among, here, there}
use Rattle.pm_vector.proofs.Ring.{ring}
use Rattle.pm_vector.proofs.RowLaws.{dot-nil, dot-same, entry-opposite, length-opposite}
use Rattle.pm_vector.specs.Cones.{InCone}
use Rattle.pm_vector.specs.Rows.{HasCols, Row, dot, opposite}
use Rattle.pm_geom.proofs.Apart.{apart, lineality_spanned, order_of_apart, without}
use Rattle.pm_geom.proofs.Apart.{not_below_at}
use Rattle.pm_geom.proofs.ShortRows.{at_three, at_two, by_three, by_two, first_entry}
use Rattle.pm_geom.proofs.ValidRows.{Tables, facet_order, vanishing_rows}
use Rattle.pm_geom.specs.Cones.{CutOut, IsOrder, IsValid}
use Rattle.pm_geom.specs.Examples.{EmptyIsRead, HalfLineIsRead, LineIsRead, half_line, pair, triple}
use Rattle.pm_geom.specs.Things.{IsPolytopeThing}
use Rattle.std.proofs.Common.{ap, arith, inl, inr, refl, ◌∙◌}
use Rattle.std.proofs.lemmas.Int.{ints}
use Rattle.std.specs.List.{AllByRecursion}
use Rattle.std.specs.Prelude.{List, [], length, ℕ, ◌↔◌, ◌∷◌, ◌≡◌}
use lib.IntN.{neg_ℤ, negsuc, pos, ℤ}
use lib.Signed.{lt_z_yes}

-- ---- the half line
half_line_cols : HasCols 2 half_line
half_line_cols = (refl, (refl, tt))

half_line_needed : (v : Row) (i : Among v half_line) → ¬ (InCone (without i) [] v)
unfolding without
half_line_needed v here = apart _ [] (pos 0 ∷ negsuc 0 ∷ []) _ tt tt tt
half_line_needed v (there here) = apart _ [] (negsuc 0 ∷ pos 0 ∷ []) _ tt tt tt
half_line_needed v (there (there i)) = elim i [ ]

half_line_order : IsOrder 2 (InCone half_line []) half_line
half_line_order = order_of_apart 2 half_line [] half_line_cols tt (pair 1 1) tt tt half_line_needed

half_line_within : (a b : ℤ) → CutOut half_line (a ∷ b ∷ []) → InCone half_line [] (a ∷ b ∷ [])
half_line_within a b (p, (q, u)) =
    let second = simp ring at p in
    let first = simp ring at q in
    record {
      m = pos 1;
      c = b ∷ a ∷ [];
      d = [];
      positive = lt_z_yes tt;
      not_negative = (omega (arith, ints), (omega (arith, ints), tt));
      same = at_two _ _ _ _ (simp ring (omega (arith, ints))) (simp ring (omega (arith, ints)));
    }

half_line_cut : (x : Row) → length x ≡ 2 → InCone half_line [] x ↔ CutOut half_line x
half_line_cut x l = (
  λ h. (dot_in (pair 0 1) half_line [] (λ g i. not_below_at (pair 0 1) i tt) (λ k i. elim i [ ]) h, (dot_in (pair 1 0) half_line [] (λ g i. not_below_at (pair 1 0) i tt) (λ k i. elim i [ ]) h, tt)),
  λ c. by_two (λ y. CutOut half_line y → InCone half_line [] y) half_line_within x l c,
)

half_line_facets : IsOrder 2 (IsValid 2 half_line []) half_line
half_line_facets =
    facet_order 2 half_line [] half_line [] half_line_cols tt half_line_cols tt (record { rows = tt; rows_lines = tt; lines = tt; lines_lines = tt }) (λ x l c u. (half_line_cut x l).1 c) half_line_order

half_line_polytope : IsPolytopeThing 2 half_line []
half_line_polytope = record {
  cone = record { generators = half_line_cols; lines = tt };
  first = λ x l h. first_entry half_line [] tt tt x h;
  proper = inr (pair 1 0, refl, in_generator (there here), lt_z_yes tt);
}

pub half_line_is_read : HalfLineIsRead
half_line_is_read = record { polytope = half_line_polytope; cut = half_line_cut; rays = half_line_order; facets = half_line_facets }

-- ---- the empty polytope
null_product : (a x : Row) → InCone [] [] x → dot a x ≡ pos 0
null_product a x h = dot-same a x [] (none_to_zero x h) ∙ dot-nil a

every_valid : (n : ℕ) (a : Row) → length a ≡ n → IsValid n [] [] a
every_valid n a la = record { cols = la; holds = λ x l h. let e = null_product a x h in omega (arith, ints) }

empty_polytope : (n : ℕ) → IsPolytopeThing n [] []
empty_polytope n = record {
  cone = record { generators = tt; lines = tt };
  first = λ x l h. let e = none_to_zero x h 0 in omega (arith, ints);
  proper = inl (λ x l h. none_to_zero x h);
}

pub empty_is_read : (n : ℕ) → EmptyIsRead n
empty_is_read n = record {
  polytope = empty_polytope n;
  no_ray = λ r e. e.not_line (none_from_zero (opposite r) (λ i. entry-opposite r i ∙ ap neg_ℤ (none_to_zero r e.inside i)));
  no_facet = λ a e. e.not_line (every_valid n (opposite a) (length-opposite a ∙ e.cols));
  vanish = λ a la. record { cols = la; holds = λ x l h. null_product a x h };
}

-- ---- the line through (1,0,0) along (0,1,0)
abbrev points : List Row
points = triple 1 0 0 ∷ []

abbrev lines : List Row
lines = triple 0 1 0 ∷ []

abbrev vanishing : List Row
vanishing = triple 0 0 1 ∷ []

point_needed : (v : Row) (i : Among v points) → ¬ (InCone (without i) lines v)
unfolding without
point_needed v here = apart [] lines (negsuc 0 ∷ pos 0 ∷ pos 0 ∷ []) _ tt tt tt
point_needed v (there i) = elim i [ ]

facet_needed : (v : Row) (i : Among v points) → ¬ (InCone (without i) vanishing v)
unfolding without
facet_needed v here = apart [] vanishing (negsuc 0 ∷ pos 0 ∷ pos 0 ∷ []) _ tt tt tt
facet_needed v (there i) = elim i [ ]

signs : Tables points lines points vanishing
signs = record { rows = tt; rows_lines = tt; lines = tt; lines_lines = tt }

line_within : (a b c : ℤ) → CutOut points (a ∷ b ∷ c ∷ []) → AllByRecursion (λ e. dot e (a ∷ b ∷ c ∷ []) ≡ pos 0) vanishing → InCone points lines (a ∷ b ∷ c ∷ [])
line_within a b c (p, u) (q, w) =
    let first = simp ring at p in
    let third = simp ring at q in
    record {
      m = pos 1;
      c = a ∷ [];
      d = b ∷ [];
      positive = lt_z_yes tt;
      not_negative = (omega (arith, ints), tt);
      same = at_three _ _ _ _ _ _ (simp ring (omega (arith, ints))) (simp ring (omega (arith, ints))) (simp ring (omega (arith, ints)));
    }

line_inside : (x : Row) → length x ≡ 3 → CutOut points x → AllByRecursion (λ e. dot e x ≡ pos 0) vanishing → InCone points lines x
line_inside x l = by_three (λ y. CutOut points y → AllByRecursion (λ e. dot e y ≡ pos 0) vanishing → InCone points lines y) line_within x l

line_facets : IsOrder 3 (IsValid 3 points lines) points
line_facets = facet_order 3 points lines points vanishing (refl, tt) (refl, tt) (refl, tt) (refl, tt) signs line_inside (order_of_apart 3 points vanishing (refl, tt) (refl, tt) (triple 1 0 0) tt tt facet_needed)

line_polytope : IsPolytopeThing 3 points lines
line_polytope = record {
  cone = record { generators = (refl, tt); lines = (refl, tt) };
  first = λ x l h. first_entry points lines tt tt x h;
  proper = inr (triple 1 0 0, refl, in_generator here, lt_z_yes tt);
}

pub line_is_read : LineIsRead
line_is_read = record {
  polytope = line_polytope;
  rays = order_of_apart 3 points lines (refl, tt) (refl, tt) (triple 1 0 0) tt tt point_needed;
  facets = line_facets;
  vanish = vanishing_rows 3 points lines points vanishing (refl, tt) (refl, tt) (refl, tt) (refl, tt) signs line_inside (lineality_spanned 3 points vanishing (refl, tt) (refl, tt) (triple 1 0 0) tt tt);
}
