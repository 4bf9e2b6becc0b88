-- The square as the sum of two of its edges.
use Rattle.pm_vector.proofs.ConeLaws.{in_generator, in_through}
use Rattle.pm_vector.proofs.Lists.{All_among, Among, Any_among, Contains_among, among_All, among_Any, among_Contains, here, there}
use Rattle.pm_vector.specs.Cones.{InCone}
use Rattle.pm_vector.specs.Rows.{Row, entry, times}
use Rattle.pm_geom.proofs.Apart.{apart}
use Rattle.pm_geom.proofs.Polar.{cols_at}
use Rattle.pm_geom.proofs.ShortRows.{first_entry}
use Rattle.pm_geom.proofs.Square.{square_is_read}
use Rattle.pm_geom.specs.Examples.{square, triple}
use Rattle.pm_geom.specs.Things.{IsPolytopeThing}
use Rattle.pm_laws_normal_fans.proofs.SumRows.{sum_rows_generate}
use Rattle.pm_laws_normal_fans.specs.Examples.{SumsAreRead, first_edge, minus, second_edge, unit_square}
use Rattle.pm_laws_normal_fans.specs.Sums.{AreRowsOf, AreSumRows, In, InMinkowskiSum, IsPointSum, IsSumOf}
use Rattle.std.proofs.Common.{arith, inr, refl}
use Rattle.std.proofs.lemmas.Int.{ints}
use Rattle.std.specs.List.{Any}
use Rattle.std.specs.Prelude.{List, [], suc, zero, ℕ, ◌∷◌, ◌≡◌}
use lib.IntN.{negsuc, pos, ℤ, ◌*ℤ◌, ◌+ℤ◌}
use lib.Signed.{le_z_yes, lt_z_yes, ◌<ℤ◌}

-- rows of three entries, the third of which is the sum of the others beyond the first entry
three_sum : (a b c d e p q : ℤ) → p ≡ b +ℤ d → q ≡ c +ℤ e → IsPointSum (a ∷ b ∷ c ∷ []) (a ∷ d ∷ e ∷ []) (a ∷ p ∷ q ∷ [])
three_sum a b c d e p q f g = record { first = refl; second = refl; others = others }
  where
    others : (i : ℕ) → entry (a ∷ p ∷ q ∷ []) (suc i) ≡ entry (a ∷ b ∷ c ∷ []) (suc i) +ℤ entry (a ∷ d ∷ e ∷ []) (suc i)
    others zero = f
    others (suc zero) = g
    others (suc (suc i)) = refl

-- ---- the edges
first_thing : IsPolytopeThing 3 first_edge.generators []
first_thing = record {
  cone = record { generators = (refl, (refl, tt)); lines = tt };
  first = λ x l h. first_entry first_edge.generators [] tt tt x h;
  proper = inr (triple 1 0 0, refl, in_generator here, lt_z_yes tt);
}

second_thing : IsPolytopeThing 3 second_edge.generators []
second_thing = record {
  cone = record { generators = (refl, (refl, tt)); lines = tt };
  first = λ x l h. first_entry second_edge.generators [] tt tt x h;
  proper = inr (triple 1 0 0, refl, in_generator here, lt_z_yes tt);
}

first_rows : AreRowsOf 3 first_edge first_edge.generators []
first_rows = record { rows = (refl, (refl, tt)); lines = tt; same = λ x l. (λ h. h, λ h. h) }

second_rows : AreRowsOf 3 second_edge second_edge.generators []
second_rows = record { rows = (refl, (refl, tt)); lines = tt; same = λ x l. (λ h. h, λ h. h) }

of_edges : IsSumOf 3 first_edge second_edge unit_square
of_edges = sum_rows_generate 3 first_edge second_edge first_edge.generators [] second_edge.generators [] first_thing second_thing
    (triple 1 0 0, refl, in_generator here, lt_z_yes tt) (triple 1 0 0, refl, in_generator here, lt_z_yes tt) first_rows second_rows

inside : InMinkowskiSum 3 (In first_edge) (In second_edge) (triple 2 1 1)
inside = record {
  factor = pos 1;
  first = triple 2 1 0;
  second = triple 2 0 1;
  positive = lt_z_yes tt;
  first_cols = refl;
  second_cols = refl;
  of_first = record { m = pos 1; c = pos 1 ∷ pos 1 ∷ []; d = []; positive = lt_z_yes tt; not_negative = (le_z_yes tt, (le_z_yes tt, tt)); same = record { at = λ i. refl } };
  of_second = record { m = pos 1; c = pos 1 ∷ pos 1 ∷ []; d = []; positive = lt_z_yes tt; not_negative = (le_z_yes tt, (le_z_yes tt, tt)); same = record { at = λ i. refl } };
  sum = three_sum _ _ _ _ _ _ _ refl refl;
}

outside : ¬ (InMinkowskiSum 3 (In first_edge) (In second_edge) (triple 1 2 0))
outside h = apart square [] (pos 1 ∷ minus ∷ pos 0 ∷ []) (triple 1 2 0) tt tt tt ((of_edges.sum (triple 1 2 0) refl).1 h)

no_sum : ¬ (IsSumOf 3 first_edge second_edge first_edge)
no_sum s = apart first_edge.generators [] (pos 0 ∷ pos 0 ∷ minus ∷ []) (triple 1 0 1) tt tt tt
    ((s.sum (triple 1 0 1) refl).1 ((of_edges.sum (triple 1 0 1) refl).0 (in_generator (there here))))

-- ---- rows of the sum
abbrev IsRowOfSum : Row → Row → Row → Type 0
IsRowOfSum v w x = (p : ℤ) × (pos 0 <ℤ p) × IsPointSum (times (entry w 0) v) (times (entry v 0) w) (times p x)

row_pairs : (v w : Row) → Among v first_edge.generators → Among w second_edge.generators → Any (IsRowOfSum v w) square
row_pairs v w here here = Any_among (IsRowOfSum v w) {xs = square} here (pos 1, lt_z_yes tt, three_sum _ _ _ _ _ _ _ refl refl)
row_pairs v w here (there here) = Any_among (IsRowOfSum v w) {xs = square} (there here) (pos 1, lt_z_yes tt, three_sum _ _ _ _ _ _ _ refl refl)
row_pairs v w (there here) here = Any_among (IsRowOfSum v w) {xs = square} (there (there here)) (pos 1, lt_z_yes tt, three_sum _ _ _ _ _ _ _ refl refl)
row_pairs v w (there here) (there here) = Any_among (IsRowOfSum v w) {xs = square} (there (there (there here))) (pos 1, lt_z_yes tt, three_sum _ _ _ _ _ _ _ refl refl)
row_pairs v w here (there (there j)) = elim j [ ]
row_pairs v w (there here) (there (there j)) = elim j [ ]
row_pairs v w (there (there i)) j = elim i [ ]

no_far_first : (v : Row) → Among v first_edge.generators → entry v 0 ≡ pos 0 → ⊥
no_far_first v here e = omega (arith, ints)
no_far_first v (there here) e = omega (arith, ints)
no_far_first v (there (there i)) e = elim i [ ]

no_far_second : (v : Row) → Among v second_edge.generators → entry v 0 ≡ pos 0 → ⊥
no_far_second v here e = omega (arith, ints)
no_far_second v (there here) e = omega (arith, ints)
no_far_second v (there (there i)) e = elim i [ ]

rows : AreSumRows 3 first_edge second_edge square
rows = record {
  cols = square_is_read.polytope.cone.generators;
  each = All_among (λ x. InMinkowskiSum 3 (In first_edge) (In second_edge) x) square (λ x i. (of_edges.sum x (cols_at i square_is_read.polytope.cone.generators)).0 (in_generator i));
  pairs = λ v w cv cw uv uw. row_pairs v w (among_Contains _ cv) (among_Contains _ cw);
  first_far = λ v c e. absurd (no_far_first v (among_Contains _ c) e);
  second_far = λ w c e. absurd (no_far_second w (among_Contains _ c) e);
}

lacks : ¬ (AreSumRows 3 first_edge second_edge (triple 1 0 0 ∷ triple 1 0 1 ∷ triple 1 1 0 ∷ []))
lacks r =
    let i : Among (triple 1 1 0) first_edge.generators = there here in
    let j : Among (triple 1 0 1) second_edge.generators = there here in
    let w = among_Any (IsRowOfSum (triple 1 1 0) (triple 1 0 1)) (triple 1 0 0 ∷ triple 1 0 1 ∷ triple 1 1 0 ∷ []) (r.pairs (triple 1 1 0) (triple 1 0 1) (Contains_among i) (Contains_among j) (lt_z_yes tt) (lt_z_yes tt)) in
    other w.0 w.1 w.2
  where
    other : (x : Row) → Among x (triple 1 0 0 ∷ triple 1 0 1 ∷ triple 1 1 0 ∷ []) → ¬ (IsRowOfSum (triple 1 1 0) (triple 1 0 1) x)
    other x here s = let e : s.0 *ℤ pos 0 ≡ pos 1 = s.2.others 0 in omega (arith, ints)
    other x (there here) s = let e : s.0 *ℤ pos 0 ≡ pos 1 = s.2.others 0 in omega (arith, ints)
    other x (there (there here)) s = let e : s.0 *ℤ pos 0 ≡ pos 1 = s.2.others 1 in omega (arith, ints)
    other x (there (there (there i))) s = elim i [ ]

beyond : ¬ (AreSumRows 3 first_edge second_edge (triple 1 2 0 ∷ square))
beyond r = let i : Among (triple 1 2 0) (triple 1 2 0 ∷ square) = here in outside (among_All (λ x. InMinkowskiSum 3 (In first_edge) (In second_edge) x) i r.each)

-- ---- rows that generate an edge
abbrev more_rows : List Row
more_rows = triple 2 2 0 ∷ triple 2 1 0 ∷ triple 1 0 0 ∷ []

in_more_rows : (g : Row) → Among g first_edge.generators → InCone more_rows [] g
in_more_rows g here = in_generator (there (there here))
in_more_rows g (there here) = record { m = pos 2; c = pos 1 ∷ []; d = []; positive = lt_z_yes tt; not_negative = (le_z_yes tt, tt); same = record { at = λ i. refl } }
in_more_rows g (there (there i)) = elim i [ ]

in_edge : (g : Row) → Among g more_rows → InCone first_edge.generators [] g
in_edge g here = record { m = pos 1; c = pos 0 ∷ pos 2 ∷ []; d = []; positive = lt_z_yes tt; not_negative = (le_z_yes tt, (le_z_yes tt, tt)); same = record { at = λ i. refl } }
in_edge g (there here) = record { m = pos 1; c = pos 1 ∷ pos 1 ∷ []; d = []; positive = lt_z_yes tt; not_negative = (le_z_yes tt, (le_z_yes tt, tt)); same = record { at = λ i. refl } }
in_edge g (there (there here)) = in_generator here
in_edge g (there (there (there i))) = elim i [ ]

generate : AreRowsOf 3 first_edge more_rows []
generate = record {
  rows = (refl, (refl, (refl, tt)));
  lines = tt;
  same = λ x l. (
    λ h. in_through more_rows [] first_edge.generators [] in_more_rows (λ l i. elim i [ ]) h,
    λ h. in_through first_edge.generators [] more_rows [] in_edge (λ l i. elim i [ ]) h,
  );
}

too_few : ¬ (AreRowsOf 3 first_edge (triple 2 1 0 ∷ triple 1 0 0 ∷ []) [])
too_few r = apart (triple 2 1 0 ∷ triple 1 0 0 ∷ []) [] (pos 1 ∷ negsuc 1 ∷ pos 0 ∷ []) (triple 1 1 0) tt tt tt ((r.same (triple 1 1 0) refl).0 (in_generator (there here)))

other_sum : ¬ (IsPointSum (triple 1 1 2) (triple 1 3 1) (triple 1 4 4))
other_sum h = let e : pos 4 ≡ pos 3 = h.others 1 in omega (arith, ints)

added : ¬ (IsPointSum (triple 1 1 2) (triple 1 3 1) (triple 2 4 3))
added h = let e : pos 1 ≡ pos 2 = h.first in omega (arith, ints)

pub sums_are_read : SumsAreRead
sums_are_read = record {
  sum_of_points = three_sum _ _ _ _ _ _ _ refl refl;
  other_sum = other_sum;
  added = added;
  inside = inside;
  outside = outside;
  of_edges = of_edges;
  no_sum = no_sum;
  rows = rows;
  lacks = lacks;
  beyond = beyond;
  generate = generate;
  too_few = too_few;
  standing = refl;
  others = refl;
  fractions = refl;
  in_order = refl;
}
