-- Rows of the half line, of a line and of the empty polytope, alone and in pairs.
use Rattle.pm_vector.proofs.ConeLaws.{dot_in, in_generator, in_line, in_line_times, in_of, lines_opposite, none_from_zero, none_to_zero}
use Rattle.pm_vector.proofs.Lists.{All_among, Among, Contains_among, all_at, among_All, among_Contains, here, there}
use Rattle.pm_vector.proofs.Ring.{ring}
use Rattle.pm_vector.specs.Cones.{InCone, InSpan}
use Rattle.pm_vector.specs.Rows.{IsZero, Row, dot, entry}
use Rattle.pm_geom.proofs.Apart.{apart, lineality_spanned, not_below, not_below_at, null, null_at, products}
use Rattle.pm_geom.proofs.ShortRows.{at_three, by_three, by_two, first_entry}
use Rattle.pm_geom.proofs.SmallThings.{half_line_is_read}
use Rattle.pm_geom.proofs.ValidRows.{null_in}
use Rattle.pm_geom.specs.Cones.{CutOut, InLineality, IsExtreme, IsValid, SameModulo, Vanishes}
use Rattle.pm_geom.specs.Examples.{half_line, pair, triple}
use Rattle.pm_examples_values.proofs.RayExamples.{half_line_are_orders, half_line_is_thing}
use Rattle.pm_relations.proofs.Standing.{stand_for_ratios}
use Rattle.pm_examples_values.proofs.StandingExamples.{generated_whole, half_stands, row_not_negative, row_null, solves_whole, stand_among, stands_in, whole_generated, whole_solves}
use Rattle.pm_examples_values.specs.RayExamples.{beyond, half_line_orders, half_line_thing}
use Rattle.pm_types.specs.Right.{CutsOutPolytope, RightFact, RightTogether, Solves, StandFor, empty, proper}
use Rattle.pm_examples_values.specs.RowExamples.{CutOutTogether, Generate, GeneratorsAreRead, HalfSpacesAreRead, PairsAreRead, RowsAreRead, before_zero, fact_of, generators_of, whole_matrix}
use Rattle.pm_types.specs.Values.{Fact}
use Rattle.pm_types.specs.Views.{ratios}
use Rattle.pm_props.specs.declared.property.PropId.TheVariants.{InputLineality, Points}
use Rattle.std.proofs.Common.{T, arith, refl}
use Rattle.std.proofs.lemmas.Int.{ints}
use Rattle.std.specs.List.{All, Any, Contains}
use Rattle.std.specs.Prelude.{List, [], length, map, ℕ, ◌↔◌, ◌∷◌, ◌≡◌}
use lib.IntN.{negsuc, pos, ℤ}
use lib.Signed.{le_z_yes, lt_z_yes, ◌<ℤ◌, ◌≤ℤ◌}

-- ---- short lists
pub all_none : (P : Row → Type 0) → All P []
all_none P = All_among P [] (λ x i. elim i [ ])

pub all_one : (P : Row → Type 0) (x : Row) → P x → All P (x ∷ [])
all_one P x h = All_among P (x ∷ []) at
  where
    at : (y : Row) → Among y (x ∷ []) → P y
    at y here = h
    at y (there i) = elim i [ ]

all_two : (P : Row → Type 0) (x y : Row) → P x → P y → All P (x ∷ y ∷ [])
all_two P x y h k = All_among P (x ∷ y ∷ []) at
  where
    at : (z : Row) → Among z (x ∷ y ∷ []) → P z
    at z here = h
    at z (there here) = k
    at z (there (there i)) = elim i [ ]

-- the one row that stands for the first
pub first_row : (x : Row) (X : List Row) → Among x (x ∷ X)
first_row x X = here

pub second_row : (x y : Row) (X : List Row) → Among y (x ∷ y ∷ X)
second_row x y X = there here

-- ---- valid rows and rows that vanish, by products
pub valid_row : (n : ℕ) (G L : List Row) (a : Row) → length a ≡ n → T (products not_below a G) → T (products null a L) → IsValid n G L a
valid_row n G L a la g l = record { cols = la; holds = λ x lx h. dot_in a G L (λ v i. not_below_at a i g) (λ v i. null_at a i l) h }

pub vanishing_row : (n : ℕ) (G L : List Row) (a : Row) → length a ≡ n → T (products null a G) → T (products null a L) → Vanishes n G L a
vanishing_row n G L a la g l = record { cols = la; holds = λ x lx h. null_in a G L (λ v i. null_at a i g) (λ v i. null_at a i l) h }

-- ---- the line
abbrev points : List Row
points = triple 1 0 0 ∷ []

abbrev lines : List Row
lines = triple 0 1 0 ∷ []

pub on_lines : (x : Row) → InSpan lines x → InLineality (InCone points lines) x
on_lines x h = record { inside = in_of points [] lines (λ g i. elim i [ ]) h; opposed = in_of points [] lines (λ g i. elim i [ ]) (lines_opposite lines x h) }

pub spanned : (x : Row) → length x ≡ 3 → InLineality (InCone points lines) x → InSpan lines x
spanned = lineality_spanned 3 points lines (refl, tt) (refl, tt) (triple 1 0 0) tt tt

-- ---- rows alone
half_line_row : (x : Row) → length x ≡ 2 → CutOut half_line x → InCone half_line [] x
half_line_row x l c = (half_line_is_read.cut x l).1 c

pub rows_are_read : RowsAreRead
rows_are_read = record {
  points = record {
    xs = pair 1 3 ∷ pair 0 2 ∷ [];
    stand = stand_for_ratios (pair 1 3 ∷ pair 0 2 ∷ []);
    cols = (refl, (refl, tt));
    each = all_two (InCone half_line []) (pair 1 3) (pair 0 2) (half_line_row (pair 1 3) refl (le_z_yes tt, (le_z_yes tt, tt))) (half_line_row (pair 0 2) refl (le_z_yes tt, (le_z_yes tt, tt)));
  };
  fraction = record {
    xs = pair 2 1 ∷ [];
    stand = (half_stands, tt);
    cols = (refl, tt);
    each = all_one (InCone half_line []) (pair 2 1) (half_line_row (pair 2 1) refl (le_z_yes tt, (le_z_yes tt, tt)));
  };
  outside = λ h.
      let r = stand_among (pair 1 3 ∷ before_zero ∷ []) h.xs h.stand (second_row (pair 1 3) before_zero []) in
      apart half_line [] (pair 0 1) before_zero tt tt tt (stands_in before_zero r.2 half_line [] (among_All (InCone half_line []) r.1 h.each));
  longer = λ h.
      let r = stand_among (triple 1 3 0 ∷ []) h.xs h.stand (first_row (triple 1 3 0) []) in
      let l : length r.0 ≡ 2 = all_at (λ (x : Row). length x ≡ 2) r.1 h.cols in
      let k : length r.0 ≡ 3 = r.2.cols in
      omega arith;
  segment_point = record {
    xs = pair 1 1 ∷ [];
    stand = stand_for_ratios (pair 1 1 ∷ []);
    cols = (refl, tt);
    each = all_one (InCone beyond []) (pair 1 1) (in_generator (first_row (pair 1 1) (pair 1 2 ∷ [])));
  };
  valid_outside = λ h.
      let r = stand_among (pair 1 0 ∷ []) h.xs h.stand (first_row (pair 1 0) []) in
      apart beyond [] (negsuc 0 ∷ pos 1 ∷ []) (pair 1 0) tt tt tt (stands_in (pair 1 0) r.2 beyond [] (among_All (InCone beyond []) r.1 h.each));
  segment_row = record {
    xs = (negsuc 0 ∷ pos 1 ∷ []) ∷ [];
    stand = stand_for_ratios ((negsuc 0 ∷ pos 1 ∷ []) ∷ []);
    cols = (refl, tt);
    each = all_one (IsValid 2 beyond []) (negsuc 0 ∷ pos 1 ∷ []) (valid_row 2 beyond [] (negsuc 0 ∷ pos 1 ∷ []) refl tt tt);
  };
  lineality = record {
    xs = triple 0 2 0 ∷ [];
    stand = stand_for_ratios (triple 0 2 0 ∷ []);
    cols = (refl, tt);
    each = all_one (InLineality (InCone points lines)) (triple 0 2 0) (on_lines (triple 0 2 0) (in_line_times (pos 2) (first_row (triple 0 1 0) [])));
  };
  no_line = λ h.
      let r = stand_among points h.xs h.stand (first_row (triple 1 0 0) []) in
      apart [] lines (negsuc 0 ∷ pos 0 ∷ pos 0 ∷ []) (triple 1 0 0) tt tt tt (stands_in (triple 1 0 0) r.2 [] lines (spanned r.0 (all_at (λ (x : Row). length x ≡ 3) r.1 h.cols) (among_All (InLineality (InCone points lines)) r.1 h.each)));
  inequality = record {
    xs = pair 1 1 ∷ [];
    stand = stand_for_ratios (pair 1 1 ∷ []);
    cols = (refl, tt);
    each = all_one (IsValid 2 half_line []) (pair 1 1) (valid_row 2 half_line [] (pair 1 1) refl tt tt);
  };
  not_valid = λ h.
      let r = stand_among (before_zero ∷ []) h.xs h.stand (first_row before_zero []) in
      let v = among_All (IsValid 2 half_line []) r.1 h.each in
      let k : pos 0 ≤ℤ negsuc 0 = row_not_negative before_zero r.2 (pair 0 1) (v.holds (pair 0 1) refl (in_generator (first_row (pair 0 1) (pair 1 0 ∷ [])))) in
      omega (arith, ints);
  equation = record {
    xs = triple 0 0 2 ∷ [];
    stand = stand_for_ratios (triple 0 0 2 ∷ []);
    cols = (refl, tt);
    each = all_one (Vanishes 3 points lines) (triple 0 0 2) (vanishing_row 3 points lines (triple 0 0 2) refl tt tt);
  };
  valid_alone = λ h.
      let r = stand_among (triple 1 0 0 ∷ []) h.xs h.stand (first_row (triple 1 0 0) []) in
      let v = among_All (Vanishes 3 points lines) r.1 h.each in
      let k : pos 1 ≡ pos 0 = row_null (triple 1 0 0) r.2 (triple 1 0 0) (v.holds (triple 1 0 0) refl (in_generator (first_row (triple 1 0 0) []))) in
      omega (arith, ints);
  not_on_the_line = λ h.
      let r = stand_among (triple 0 1 0 ∷ []) h.xs h.stand (first_row (triple 0 1 0) []) in
      let v = among_All (Vanishes 3 points lines) r.1 h.each in
      let k : pos 1 ≡ pos 0 = row_null (triple 0 1 0) r.2 (triple 0 1 0) (v.holds (triple 0 1 0) refl (in_line (first_row (triple 0 1 0) []))) in
      omega (arith, ints);
}

-- ---- points and lines together
generated : (X K : List Row) (t : ℕ) → ((x : Row) → length x ≡ t → InCone X K x ↔ InCone X K x)
generated X K t x l = (λ h. h, λ h. h)

pub not_alone : ¬ (Generate half_line_thing 2 (pair 1 0 ∷ []) [])
not_alone h =
    apart (pair 1 0 ∷ []) [] (pos 0 ∷ negsuc 0 ∷ []) (pair 0 1) tt tt tt
    (whole_generated (pair 1 0 ∷ []) [] h.xs h.ls h.points_stand h.lines_stand ((h.generates.same (pair 0 1) refl).0 (in_generator (first_row (pair 0 1) (pair 1 0 ∷ [])))))

either : (g x y : Row) → Among g (x ∷ y ∷ []) → Among g (y ∷ x ∷ [])
either g x y here = there here
either g x y (there here) = here
either g x y (there (there i)) = elim i [ ]

pub generators_are_read : GeneratorsAreRead
generators_are_read = record {
  described = record {
    xs = pair 1 0 ∷ pair 0 1 ∷ [];
    ls = [];
    points_stand = stand_for_ratios (pair 1 0 ∷ pair 0 1 ∷ []);
    lines_stand = tt;
    generates = record { same = λ x l. (λ h. in_of (pair 1 0 ∷ pair 0 1 ∷ []) half_line [] (λ g i. either g (pair 0 1) (pair 1 0) i) h, λ h. in_of half_line (pair 1 0 ∷ pair 0 1 ∷ []) [] (λ g i. either g (pair 1 0) (pair 0 1) i) h) };
  };
  vertex_alone = not_alone;
  too_much = λ h.
      apart half_line [] (pair 0 1) before_zero tt tt tt
      ((h.generates.same before_zero refl).1 (generated_whole (pair 0 1 ∷ pair 1 0 ∷ before_zero ∷ []) [] h.xs h.ls h.points_stand h.lines_stand (in_generator (there (second_row (pair 1 0) before_zero [])))));
  line_described = record { xs = points; ls = lines; points_stand = stand_for_ratios points; lines_stand = stand_for_ratios lines; generates = record { same = generated points lines 3 } };
  point_alone = λ h.
      apart points [] (pos 0 ∷ negsuc 0 ∷ pos 0 ∷ []) (triple 0 1 0) tt tt tt
      (whole_generated points [] h.xs h.ls h.points_stand h.lines_stand ((h.generates.same (triple 0 1 0) refl).0 (in_line (first_row (triple 0 1 0) []))));
}

-- ---- inequalities and equations together
abbrev no_equations : (x : Row) → All (λ e. dot e x ≡ pos 0) []
no_equations x = all_none (λ e. dot e x ≡ pos 0)

-- a point x that solves, with a positive first entry, is in what is cut out, and no polytope's cone is {0} then
must_be_in : (n : ℕ) (S : Row → Type 0) (A E as' es : List Row) → StandFor (map ratios A) as' → StandFor (map ratios E) es → CutsOutPolytope n S as' es → (x : Row) → length x ≡ n → Solves A E x → pos 0 <ℤ entry x 0 → S x
must_be_in n S A E as' es sa se h x l s p = elim h [
  | proper y ly sy py same ↦ (same x l).1 (solves_whole A E as' es sa se s, weak (entry x 0) p)
  | empty none zero ↦ absurd (none x l (solves_whole A E as' es sa se s) p)
]
  where
    weak : (z : ℤ) → pos 0 <ℤ z → pos 0 ≤ℤ z
    weak z p = omega (arith, ints)

-- where some row of S is not zero, some solution has a positive first entry
some_solution : (n : ℕ) (S : Row → Type 0) (A E as' es : List Row) → StandFor (map ratios A) as' → StandFor (map ratios E) es → CutsOutPolytope n S as' es → (x : Row) → length x ≡ n → S x → ¬ (IsZero x) → (y : Row) × (length y ≡ n) × Solves A E y × (pos 0 <ℤ entry y 0)
some_solution n S A E as' es sa se h x l s nz = elim h [
  | proper y ly sy py same ↦ (y, ly, whole_solves A E as' es sa se sy, py)
  | empty none zero ↦ absurd (nz ((zero x l).0 s))
]

half_line_solved : (y : Row) → length y ≡ 2 → InCone half_line [] y ↔ (Solves (pair 0 1 ∷ []) [] y × (pos 0 ≤ℤ entry y 0))
half_line_solved y l = (
  λ h. (record { inequalities = (((half_line_is_read.cut y l).0 h).0, tt); equations = no_equations y }, first_entry half_line [] tt tt y h),
  λ w. (half_line_is_read.cut y l).1 (w.0.inequalities.0, (by_two (λ z. pos 0 ≤ℤ entry z 0 → pos 0 ≤ℤ dot (pair 1 0) z) first y l w.1, tt)),
)
  where
    first : (a b : ℤ) → pos 0 ≤ℤ a → pos 0 ≤ℤ dot (pair 1 0) (a ∷ b ∷ [])
    first a b h = simp ring (omega (arith, ints))

line_solved : (y : Row) → length y ≡ 3 → InCone points lines y ↔ (Solves [] (triple 0 0 1 ∷ []) y × (pos 0 ≤ℤ entry y 0))
line_solved y l = (
  λ h. (record { inequalities = tt; equations = all_one (λ e. dot e y ≡ pos 0) (triple 0 0 1) (null_in (triple 0 0 1) points lines (λ g i. null_at (triple 0 0 1) i tt) (λ g i. null_at (triple 0 0 1) i tt) h) }, first_entry points lines tt tt y h),
  λ w. by_three (λ z. dot (triple 0 0 1) z ≡ pos 0 → pos 0 ≤ℤ entry z 0 → InCone points lines z) within y l (among_All (λ e. dot e y ≡ pos 0) (first_row (triple 0 0 1) []) w.0.equations) w.1,
)
  where
    within : (a b c : ℤ) → dot (triple 0 0 1) (a ∷ b ∷ c ∷ []) ≡ pos 0 → pos 0 ≤ℤ a → InCone points lines (a ∷ b ∷ c ∷ [])
    within a b c e h =
        let third = simp ring at e in
        record {
          m = pos 1;
          c = a ∷ [];
          d = b ∷ [];
          positive = lt_z_yes tt;
          not_negative = (h, tt);
          same = at_three _ _ _ _ _ _ (simp ring (omega (arith, ints))) (simp ring (omega (arith, ints))) (simp ring (omega (arith, ints)));
        }

abbrev minus_one : Row
minus_one = negsuc 0 ∷ pos 0 ∷ []

no_solution : (x : Row) → length x ≡ 2 → Solves (minus_one ∷ []) [] x → ¬ (pos 0 <ℤ entry x 0)
no_solution x l s = by_two (λ y. pos 0 ≤ℤ dot minus_one y → ¬ (pos 0 <ℤ entry y 0)) at x l s.inequalities.0
  where
    at : (a b : ℤ) → pos 0 ≤ℤ dot minus_one (a ∷ b ∷ []) → ¬ (pos 0 <ℤ a)
    at a b h p = let q = simp ring at h in omega (arith, ints)

solves_both : Solves (pair 0 1 ∷ []) [] (pair 1 0)
solves_both = record { inequalities = (le_z_yes tt, tt); equations = no_equations (pair 1 0) }

one_not_zero : ¬ (IsZero (pair 1 0))
one_not_zero z = let e : pos 1 ≡ pos 0 = z 0 in omega (arith, ints)

pub half_spaces_are_read : HalfSpacesAreRead
half_spaces_are_read = record {
  described = record {
    as' = pair 0 1 ∷ [];
    es = [];
    inequalities_stand = stand_for_ratios (pair 0 1 ∷ []);
    equations_stand = tt;
    cuts_out = proper (pair 1 0) refl solves_both (lt_z_yes tt) half_line_solved;
  };
  far_face_alone = λ h.
      apart half_line [] (pair 0 1) before_zero tt tt tt
      (must_be_in 2 (InCone half_line []) (pair 1 0 ∷ []) [] h.as' h.es h.inequalities_stand h.equations_stand h.cuts_out before_zero refl (record { inequalities = (le_z_yes tt, tt); equations = no_equations before_zero }) (lt_z_yes tt));
  too_much = λ h.
      let s = too_few h in
      omega (arith, ints);
  cone_described = record {
    as' = half_line;
    es = [];
    inequalities_stand = stand_for_ratios half_line;
    equations_stand = tt;
    cuts_out = λ x l. (λ h. record { inequalities = (half_line_is_read.cut x l).0 h; equations = no_equations x }, λ s. (half_line_is_read.cut x l).1 s.inequalities);
  };
  cone_needs_both = λ h.
      apart half_line [] (pair 1 0) minus_one tt tt tt
      ((h.cuts_out minus_one refl).1 (solves_whole (pair 0 1 ∷ []) [] h.as' h.es h.inequalities_stand h.equations_stand (record { inequalities = (le_z_yes tt, tt); equations = no_equations minus_one })));
  line_described = record {
    as' = [];
    es = triple 0 0 1 ∷ [];
    inequalities_stand = tt;
    equations_stand = stand_for_ratios (triple 0 0 1 ∷ []);
    cuts_out = proper (triple 1 0 0) refl (record { inequalities = tt; equations = all_one (λ e. dot e (triple 1 0 0) ≡ pos 0) (triple 0 0 1) refl }) (lt_z_yes tt) line_solved;
  };
  no_equation = λ h.
      apart points lines (pos 0 ∷ pos 0 ∷ negsuc 0 ∷ []) (triple 1 0 1) tt tt tt
      (must_be_in 3 (InCone points lines) [] [] h.as' h.es h.inequalities_stand h.equations_stand h.cuts_out (triple 1 0 1) refl (record { inequalities = tt; equations = no_equations (triple 1 0 1) }) (lt_z_yes tt));
  empty_described = record {
    as' = minus_one ∷ [];
    es = [];
    inequalities_stand = stand_for_ratios (minus_one ∷ []);
    equations_stand = tt;
    cuts_out = empty no_solution (λ y l. (λ h. none_to_zero y h, λ z. none_from_zero y z));
  };
  not_empty = λ h. one_not_zero (none_to_zero (pair 1 0) (must_be_in 2 (InCone [] []) (pair 0 1 ∷ []) [] h.as' h.es h.inequalities_stand h.equations_stand h.cuts_out (pair 1 0) refl solves_both (lt_z_yes tt)));
  not_the_half_line = λ h.
      let w = some_solution 2 (InCone half_line []) (minus_one ∷ []) [] h.as' h.es h.inequalities_stand h.equations_stand h.cuts_out (pair 1 0) refl (in_generator (second_row (pair 0 1) (pair 1 0) [])) one_not_zero in
      no_solution w.0 w.1 w.2 w.3;
}
  where
    -- with x1 >= 1 the point 0 would have to solve
    too_few : CutOutTogether half_line_thing 2 (pair 0 1 ∷ (negsuc 0 ∷ pos 1 ∷ []) ∷ []) [] → pos 0 ≤ℤ negsuc 0
    too_few h = elim h.cuts_out [
      | proper y ly sy py same ↦ (whole_solves (pair 0 1 ∷ (negsuc 0 ∷ pos 1 ∷ []) ∷ []) [] h.as' h.es h.inequalities_stand h.equations_stand ((same (pair 1 0) refl).0 (in_generator (second_row (pair 0 1) (pair 1 0) []))).0).inequalities.1.0
      | empty none zero ↦ absurd (one_not_zero ((zero (pair 1 0) refl).0 (in_generator (second_row (pair 0 1) (pair 1 0) []))))
    ]

-- ---- facts together
generators_each : (f : Fact) → Among f (generators_of half_line) → RightFact f half_line_thing half_line_orders
generators_each f here = record { xs = half_line; stand = stand_for_ratios half_line; cols = (refl, (refl, tt)); each = All_among (InCone half_line []) half_line (λ x i. in_generator i) }
generators_each f (there here) = record { xs = []; stand = tt; cols = tt; each = all_none (InLineality (InCone half_line [])) }
generators_each f (there (there i)) = elim i [ ]

generators_together : (f g : Fact) → Among f (generators_of half_line) → Among g (generators_of half_line) → RightTogether half_line_thing f g
generators_together f g here here = tt
generators_together f g here (there here) = record { xs = half_line; ls = []; points_stand = stand_for_ratios half_line; lines_stand = tt; generates = record { same = generated half_line [] 2 } }
generators_together f g (there here) here = tt
generators_together f g (there here) (there here) = tt
generators_together f g here (there (there i)) = elim i [ ]
generators_together f g (there here) (there (there i)) = elim i [ ]
generators_together f g (there (there i)) j = elim i [ ]

fact_first : (f g : Fact) → Contains (f ∷ g ∷ []) f
fact_first f g = Contains_among (here {xs = g ∷ []})

fact_second : (f g : Fact) → Contains (f ∷ g ∷ []) g
fact_second f g = Contains_among (there {y = f} (here {xs = []}))

no_any : (P : Row → Type 0) → ¬ (Any P [])
no_any P a = let l = a.2 in omega arith

pub pairs_are_read : PairsAreRead
pairs_are_read = record {
  together = record {
    thing = half_line_is_thing;
    orders = half_line_are_orders;
    each = λ f c. generators_each f (among_Contains (generators_of half_line) c);
    together = λ f g c d. generators_together f g (among_Contains (generators_of half_line) c) (among_Contains (generators_of half_line) d);
  };
  first = record { xs = pair 1 0 ∷ []; stand = stand_for_ratios (pair 1 0 ∷ []); cols = (refl, tt); each = all_one (InCone half_line []) (pair 1 0) (in_generator (second_row (pair 0 1) (pair 1 0) [])) };
  second = record { xs = []; stand = tt; cols = tt; each = all_none (InLineality (InCone half_line [])) };
  not_together = λ h.
      let f = fact_of Points (whole_matrix 2 (pair 1 0 ∷ [])) in
      let g = fact_of InputLineality (whole_matrix 2 []) in
      not_alone (h.together f g (fact_first f g) (fact_second f g));
  no_facts = record {
    thing = half_line_is_thing;
    orders = half_line_are_orders;
    each = λ f c. elim (among_Contains [] c) [ ];
    together = λ f g c d. elim (among_Contains [] c) [ ];
  };
  not_each = λ h.
      let r = h.each (fact_of Points (whole_matrix 2 (before_zero ∷ []))) (fact_first (fact_of Points (whole_matrix 2 (before_zero ∷ []))) (fact_of InputLineality (whole_matrix 2 []))) in
      let y = stand_among (before_zero ∷ []) r.xs r.stand (first_row before_zero []) in
      apart half_line [] (pair 0 1) before_zero tt tt tt (stands_in before_zero y.2 half_line [] (among_All (InCone half_line []) y.1 r.each));
  not_orders = λ h. no_any (λ v. SameModulo 2 (InCone half_line []) (pair 0 1) v) (h.orders.rays.all (pair 0 1) (among_All (λ v. IsExtreme 2 (InCone half_line []) v) (first_row (pair 0 1) (pair 1 0 ∷ [])) half_line_is_read.rays.each));
  no_thing = λ h. let e : 1 ≡ 2 = h.thing.programs.cols 0 in omega arith;
}
