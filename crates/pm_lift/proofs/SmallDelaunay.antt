-- The Delaunay cells of 0, 1 and 3 on a line, and of the corners of the unit square.
use Rattle.pm_vector.proofs.Lists.{All_among, AllPairs_cons, Among, Any_among, here, there}
use Rattle.pm_vector.proofs.Ring.{neg_one_mul, ring}
use Rattle.pm_vector.proofs.Signs.{mul_pos}
use Rattle.pm_vector.specs.Numbers.{IsBelow, SameRatio}
use Rattle.pm_vector.specs.Rows.{Row, difference, dot, entry, ratio_at}
use Rattle.pm_geom.specs.FaceCounts.{IsLexBefore, SamePlaces}
use Rattle.pm_geom.specs.Faces.{ray}
use Rattle.pm_geom.specs.Graphs.{IsAscending, holds}
use Rattle.pm_lift.proofs.SmallCells.{at_three, no_pairs, off, on, rising, same_bool}
use Rattle.pm_lift.proofs.Spheres.{affine_function, empty_sphere}
use Rattle.pm_geom.specs.Cells.{AreCells, AreSites, IsCell, IsLowerFace, Touches, squares}
use Rattle.pm_lift.specs.Examples.{DelaunayIsRead, corners, pair, uneven}
use Rattle.pm_lift.specs.Spheres.{HasAffineFunction, HasEmptySphere, distance_square}
use Rattle.std.proofs.Common.{arith, refl, sym, true≢false, ◌∙◌}
use Rattle.std.proofs.lemmas.Int.{ints}
use Rattle.std.specs.List.{Any}
use Rattle.std.specs.Prelude.{Bool, IsTrue, List, [], false, length, suc, true, zero, ℕ, ◌<◌, ◌↔◌, ◌∷◌, ◌≡◌}
use lib.IntN.{neg_ℤ, negsuc, pos, ℤ, ◌*ℤ◌, ◌+ℤ◌, ◌-ℤ◌}
use lib.Signed.{le_z_yes, lt_z_yes, ◌<ℤ◌, ◌≤ℤ◌}

-- ---- 0, 1 and 3
-- the numbers of a function at the three sites
uneven_at : (b : Row) (m : ℤ) → length b ≡ 2 → (a : ℤ) × (c : ℤ) × (dot b (pos 1 ∷ pos 0 ∷ []) ≡ a) × (dot b (pos 1 ∷ pos 1 ∷ []) ≡ a +ℤ c) × (dot b (pos 1 ∷ pos 3 ∷ []) ≡ a +ℤ (c +ℤ (c +ℤ c)))
uneven_at (a ∷ c ∷ []) m l = (a, c, simp ring (omega (arith, ints)), simp ring (omega (arith, ints)), simp ring (omega (arith, ints)))
uneven_at [] m l = absurd (omega arith)
uneven_at (a ∷ []) m l = absurd (omega arith)
uneven_at (a ∷ c ∷ d ∷ e) m l = absurd (omega arith)

uneven_sites : AreSites 2 uneven (squares uneven)
uneven_sites = record {
  cols = at_three (λ j. length (ray uneven j) ≡ 2) refl refl refl;
  positive = at_three (λ j. pos 0 <ℤ entry (ray uneven j) 0) (lt_z_yes tt) (lt_z_yes tt) (lt_z_yes tt);
  denominators = at_three (λ j. pos 0 <ℤ (ratio_at (squares uneven) j).den) (lt_z_yes tt) (lt_z_yes tt) (lt_z_yes tt);
}

abbrev IsUnderSquare : Row → ℤ → ℕ → Type 0
IsUnderSquare b m j = (dot b (ray uneven j) *ℤ (ratio_at (squares uneven) j).den) ≤ℤ (m *ℤ (entry (ray uneven j) 0 *ℤ (ratio_at (squares uneven) j).num))

-- by the function x
left_face : IsLowerFace 2 uneven (squares uneven) (holds (0 ∷ 1 ∷ []))
left_face = record {
  b = pair (pos 0) (pos 1);
  m = pos 1;
  function = record { cols = refl; positive = lt_z_yes tt; below = at_three (IsUnderSquare (pair (pos 0) (pos 1)) (pos 1)) (le_z_yes tt) (le_z_yes tt) (le_z_yes tt) };
  places = at_three (λ j. IsTrue (holds (0 ∷ 1 ∷ []) j) ↔ Touches uneven (squares uneven) (pair (pos 0) (pos 1)) (pos 1) j) (on refl refl) (on refl refl) (off (λ e. omega (arith, ints)));
}

-- by the function 4 x - 3
right_face : IsLowerFace 2 uneven (squares uneven) (holds (1 ∷ 2 ∷ []))
right_face = record {
  b = pair (negsuc 2) (pos 4);
  m = pos 1;
  function = record { cols = refl; positive = lt_z_yes tt; below = at_three (IsUnderSquare (pair (negsuc 2) (pos 4)) (pos 1)) (le_z_yes tt) (le_z_yes tt) (le_z_yes tt) };
  places = at_three (λ j. IsTrue (holds (1 ∷ 2 ∷ []) j) ↔ Touches uneven (squares uneven) (pair (negsuc 2) (pos 4)) (pos 1) j) (off (λ e. omega (arith, ints))) (on refl refl) (on refl refl);
}

-- a function that touches both ends does not stay below the height of the middle
touches_ends : (b : Row) (m : ℤ) → length b ≡ 2 → pos 0 <ℤ m → Touches uneven (squares uneven) b m 0 → Touches uneven (squares uneven) b m 2 → IsUnderSquare b m 1 → ⊥
touches_ends b m l up e g f =
    let w = uneven_at b m l in
    let x = simp (w.2, ring) at e in
    let y = simp (w.3, ring) at f in
    let z = simp (w.4, ring) at g in
    omega (arith, ints)

not_both_ends : (f : ℕ → Bool) → IsLowerFace 2 uneven (squares uneven) f → IsTrue (f 0) → IsTrue (f 2) → ⊥
not_both_ends f h s t = touches_ends h.b h.m h.function.cols h.function.positive ((h.places 0 (omega arith)).0 s) ((h.places 2 (omega arith)).0 t) (h.function.below 1 (omega arith))

-- a lower face without the site at an end is within the segment at the other
in_left : (f : ℕ → Bool) → (IsTrue (f 2) → ⊥) → (j : ℕ) → j < 3 → IsTrue (f j) → IsTrue (holds (0 ∷ 1 ∷ []) j)
in_left f out = at_three (λ j. IsTrue (f j) → IsTrue (holds (0 ∷ 1 ∷ []) j)) (λ t. refl) (λ t. refl) (λ t. absurd (out t))

in_right : (f : ℕ → Bool) → (IsTrue (f 0) → ⊥) → (j : ℕ) → j < 3 → IsTrue (f j) → IsTrue (holds (1 ∷ 2 ∷ []) j)
in_right f out = at_three (λ j. IsTrue (f j) → IsTrue (holds (1 ∷ 2 ∷ []) j)) (λ t. absurd (out t)) (λ t. refl) (λ t. refl)

left_cell : IsCell 2 uneven (squares uneven) (holds (0 ∷ 1 ∷ []))
left_cell = record { face = left_face; maximal = λ g h sub. in_left g (λ t. not_both_ends g h (sub 0 (omega arith) refl) t) }

right_cell : IsCell 2 uneven (squares uneven) (holds (1 ∷ 2 ∷ []))
right_cell = record { face = right_face; maximal = λ g h sub. in_right g (λ t. not_both_ends g h t (sub 2 (omega arith) refl)) }

neighbours : AreCells 2 uneven (squares uneven) ((0 ∷ 1 ∷ []) ∷ (1 ∷ 2 ∷ []) ∷ [])
neighbours = record {
  each = All_among (λ set. IsAscending 3 set × IsCell 2 uneven (squares uneven) (holds set)) ((0 ∷ 1 ∷ []) ∷ (1 ∷ 2 ∷ []) ∷ []) each;
  all = λ f c. by f c (f 0) refl;
  ordered = AllPairs_cons IsLexBefore (0 ∷ 1 ∷ []) ((1 ∷ 2 ∷ []) ∷ []) later (no_pairs (1 ∷ 2 ∷ []));
}
  where
    each : (set : List ℕ) → Among set ((0 ∷ 1 ∷ []) ∷ (1 ∷ 2 ∷ []) ∷ []) → IsAscending 3 set × IsCell 2 uneven (squares uneven) (holds set)
    each set here = (rising 3 0 1 (omega arith) (omega arith), left_cell)
    each set (there here) = (rising 3 1 2 (omega arith) (omega arith), right_cell)
    each set (there (there i)) = elim i [ ]

    later : (set : List ℕ) → Among set ((1 ∷ 2 ∷ []) ∷ []) → IsLexBefore (0 ∷ 1 ∷ []) set
    later set here = refl
    later set (there i) = elim i [ ]

    by : (f : ℕ → Bool) → IsCell 2 uneven (squares uneven) f → (t : Bool) → f 0 ≡ t → Any (λ set. SamePlaces 3 f (holds set)) ((0 ∷ 1 ∷ []) ∷ (1 ∷ 2 ∷ []) ∷ [])
    by f c true e =
        let sub = in_left f (not_both_ends f c.face e) in
        Any_among (λ set. SamePlaces 3 f (holds set)) (here {xs = (1 ∷ 2 ∷ []) ∷ []}) (λ j l. same_bool (f j) (holds (0 ∷ 1 ∷ []) j) (sub j l) (c.maximal (holds (0 ∷ 1 ∷ [])) left_face sub j l))
    by f c false e =
        let sub = in_right f (λ t. true≢false (sym t ∙ e)) in
        Any_among (λ set. SamePlaces 3 f (holds set)) (there (here {xs = []})) (λ j l. same_bool (f j) (holds (1 ∷ 2 ∷ []) j) (sub j l) (c.maximal (holds (1 ∷ 2 ∷ [])) right_face sub j l))

turned : IsLexBefore (1 ∷ 2 ∷ []) (0 ∷ 1 ∷ []) → ⊥
turned e = absurd cc

no_function : HasAffineFunction 2 uneven (holds (0 ∷ 2 ∷ [])) → ⊥
no_function h =
    let w = uneven_at h.b h.m h.cols in
    let up = h.positive in
    let x = simp (w.2, ring) at (h.inside 0 (omega arith) refl) in
    let y = simp (w.3, ring) at (h.outside 1 (omega arith) (λ t. true≢false (sym t))) in
    let z = simp (w.4, ring) at (h.inside 2 (omega arith) refl) in
    omega (arith, ints)

-- the point between two others on a line is inside of each sphere through these
inside_sphere : (c d n e x y z : ℤ) → pos 0 <ℤ c → pos 0 <ℤ e → x ≡ neg_ℤ d → y ≡ c -ℤ d → z ≡ (c +ℤ (c +ℤ c)) -ℤ d → (x *ℤ x +ℤ pos 0) *ℤ e ≡ n *ℤ ((c *ℤ pos 1) *ℤ (c *ℤ pos 1)) → (z *ℤ z +ℤ pos 0) *ℤ e ≡ n *ℤ ((c *ℤ pos 1) *ℤ (c *ℤ pos 1)) → (n *ℤ ((c *ℤ pos 1) *ℤ (c *ℤ pos 1))) <ℤ ((y *ℤ y +ℤ pos 0) *ℤ e) → ⊥
inside_sphere c d n e x y z hc he ex ey ez f g h =
    let p = simp ring at (mul_pos (mul_pos hc hc) he) in
    let f1 = simp ring at (rw ex at f) in
    let g1 = simp ring at (rw ez at g) in
    let h1 = simp ring at (rw ey at h) in
    omega (arith, ints)

no_sphere : HasEmptySphere 2 uneven (holds (0 ∷ 2 ∷ [])) → ⊥
unfolding difference
no_sphere h = by h.center h.cols h.point (h.on 0 (omega arith) refl) (h.on 2 (omega arith) refl) (h.outside 1 (omega arith) (λ t. true≢false (sym t)))
  where
    by : (c : Row) → length c ≡ 2 → pos 0 <ℤ entry c 0 → SameRatio (distance_square c (pos 1 ∷ pos 0 ∷ [])) h.radius_square → SameRatio (distance_square c (pos 1 ∷ pos 3 ∷ [])) h.radius_square → IsBelow h.radius_square (distance_square c (pos 1 ∷ pos 1 ∷ [])) → ⊥
    by (c ∷ d ∷ []) l up e f g = inside_sphere c d h.radius_square.num h.radius_square.den _ _ _ up h.positive (simp (neg_one_mul, ring) (omega (arith, ints))) (simp (neg_one_mul, ring) (omega (arith, ints))) (simp (neg_one_mul, ring) (omega (arith, ints))) e f g
    by [] l up e f g = absurd (omega arith)
    by (c ∷ []) l up e f g = absurd (omega arith)
    by (c ∷ d ∷ k ∷ r) l up e f g = absurd (omega arith)

-- ---- the corners of the square
at_four : (P : ℕ → Type 0) → P 0 → P 1 → P 2 → P 3 → (j : ℕ) → j < 4 → P j
at_four P a b c d zero l = a
at_four P a b c d (suc zero) l = b
at_four P a b c d (suc (suc zero)) l = c
at_four P a b c d (suc (suc (suc zero))) l = d
at_four P a b c d (suc (suc (suc (suc k)))) l = absurd (omega arith)

-- the row of the function x + y
sum_of_both : Row
sum_of_both = pos 0 ∷ pos 1 ∷ pos 1 ∷ []

corners_face : IsLowerFace 3 corners (squares corners) (holds (0 ∷ 1 ∷ 2 ∷ 3 ∷ []))
unfolding sum_of_both
corners_face = record {
  b = sum_of_both;
  m = pos 1;
  function = record {
    cols = refl;
    positive = lt_z_yes tt;
    below = at_four (λ j. (dot sum_of_both (ray corners j) *ℤ (ratio_at (squares corners) j).den) ≤ℤ (pos 1 *ℤ (entry (ray corners j) 0 *ℤ (ratio_at (squares corners) j).num))) (le_z_yes tt) (le_z_yes tt) (le_z_yes tt) (le_z_yes tt);
  };
  places = at_four (λ j. IsTrue (holds (0 ∷ 1 ∷ 2 ∷ 3 ∷ []) j) ↔ Touches corners (squares corners) sum_of_both (pos 1) j) (on refl refl) (on refl refl) (on refl refl) (on refl refl);
}

all_corners : (j : ℕ) → j < 4 → IsTrue (holds (0 ∷ 1 ∷ 2 ∷ 3 ∷ []) j)
all_corners = at_four (λ j. IsTrue (holds (0 ∷ 1 ∷ 2 ∷ 3 ∷ []) j)) refl refl refl refl

pub delaunay_is_read : DelaunayIsRead
unfolding difference
delaunay_is_read = record {
  square = refl;
  three_squares = refl;
  neighbours = neighbours;
  not_turned = λ c. turned (c.ordered 0 1 [] (omega arith) (omega arith));
  not_ends = λ c. not_both_ends (holds (0 ∷ 2 ∷ [])) c.face refl refl;
  not_all = λ c. not_both_ends (holds (0 ∷ 1 ∷ 2 ∷ [])) c.face refl refl;
  at_one = refl;
  at_three = refl;
  at_half = refl;
  function = affine_function 2 uneven (holds (0 ∷ 1 ∷ [])) uneven_sites left_face;
  no_function = no_function;
  distance = refl;
  sphere = empty_sphere 1 uneven (holds (0 ∷ 1 ∷ [])) uneven_sites (affine_function 2 uneven (holds (0 ∷ 1 ∷ [])) uneven_sites left_face);
  no_sphere = no_sphere;
  all_corners = record { face = corners_face; maximal = λ g h sub j l t. all_corners j l };
  not_three = λ c. true≢false (sym (c.maximal (holds (0 ∷ 1 ∷ 2 ∷ 3 ∷ [])) corners_face (λ j l t. all_corners j l) 3 (omega arith) refl));
}
