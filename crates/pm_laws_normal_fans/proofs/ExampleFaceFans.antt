-- The face fan of a square with 0 inside.
use Rattle.pm_vector.proofs.ConeLaws.{in_generator, in_zero}
use Rattle.pm_vector.proofs.Lists.{All_among, Among, Any_among, Contains_among, among_All, here, there}
use Rattle.pm_vector.proofs.Ring.{ring}
use Rattle.pm_vector.specs.Cones.{InCone}
use Rattle.pm_vector.specs.Rows.{HasCols, IsZero, Row, dot, entry}
use Rattle.pm_geom.proofs.Apart.{apart, order_of_apart, without}
use Rattle.pm_geom.proofs.ShortRows.{at_three, by_three, first_entry}
use Rattle.pm_geom.proofs.Square.{square_is_read}
use Rattle.pm_geom.proofs.ValidRows.{Tables, facet_order}
use Rattle.pm_geom.specs.Cones.{CutOut, IsFacetRow, IsOrder, IsValid, Vanishes}
use Rattle.pm_geom.specs.Examples.{pair, triple}
use Rattle.pm_geom.specs.Things.{IsPolytopeThing}
use Rattle.pm_laws_normal_fans.proofs.ExampleNormalFans.{zero_product}
use Rattle.pm_laws_normal_fans.proofs.ExampleVertices.{on_cone}
use Rattle.pm_laws_normal_fans.proofs.FacetFans.{face_fan_of_vertices}
use Rattle.pm_laws_normal_fans.specs.Examples.{FaceFansAreRead, even_corners, even_edges, even_square, fan, minus, over_edges, quadrants, unit_square}
use Rattle.pm_laws_normal_fans.specs.FaceFans.{AreOrdersOf, InConeOver, IsCenteredPolytope, IsFaceFan}
use Rattle.pm_laws_normal_fans.specs.Fans.{Fan, IsConeAt}
use Rattle.pm_laws_normal_fans.specs.Shadows.{AreUsed}
use Rattle.pm_laws_normal_fans.specs.Sums.{In, IsBounded}
use Rattle.std.proofs.Common.{arith, inr, refl}
use Rattle.std.proofs.lemmas.Int.{by_lt_z, ints}
use Rattle.std.specs.List.{Any, Contains}
use Rattle.std.specs.Prelude.{[], length, suc, zero, ℕ, ◌<◌, ◌∷◌, ◌≡◌}
use lib.IntN.{negsuc, pos, ℤ, ◌*ℤ◌, ◌+ℤ◌, ◌-ℤ◌}
use lib.Signed.{le_z_yes, lt_z_yes, ◌<ℤ◌, ◌≤ℤ◌}

corners_cols : HasCols 3 even_corners
corners_cols = (refl, (refl, (refl, (refl, tt))))

edges_cols : HasCols 3 even_edges
edges_cols = (refl, (refl, (refl, (refl, tt))))

-- ---- corners and edges: each is apart from the others
corner_needed : (v : Row) (i : Among v even_corners) → ¬ (InCone (without i) [] v)
unfolding without
corner_needed v here = apart _ [] (pos 1 ∷ minus ∷ minus ∷ []) _ tt tt tt
corner_needed v (there here) = apart _ [] (pos 1 ∷ minus ∷ pos 1 ∷ []) _ tt tt tt
corner_needed v (there (there here)) = apart _ [] (pos 1 ∷ pos 1 ∷ minus ∷ []) _ tt tt tt
corner_needed v (there (there (there here))) = apart _ [] (triple 1 1 1) _ tt tt tt
corner_needed v (there (there (there (there i)))) = elim i [ ]

corner_order : IsOrder 3 (In even_square) even_corners
corner_order = order_of_apart 3 even_corners [] corners_cols tt (triple 1 0 0) tt tt corner_needed

edge_needed : (f : Row) (i : Among f even_edges) → ¬ (InCone (without i) [] f)
unfolding without
edge_needed f here = apart _ [] (pos 1 ∷ negsuc 1 ∷ pos 0 ∷ []) _ tt tt tt
edge_needed f (there here) = apart _ [] (pos 1 ∷ pos 0 ∷ negsuc 1 ∷ []) _ tt tt tt
edge_needed f (there (there here)) = apart _ [] (triple 1 0 2) _ tt tt tt
edge_needed f (there (there (there here))) = apart _ [] (triple 1 2 0) _ tt tt tt
edge_needed f (there (there (there (there i)))) = elim i [ ]

-- twice a row within the edges is a sum of multiples of three corners
under : (a b c : ℤ) → pos 0 ≤ℤ (a +ℤ b) → b ≤ℤ c → c ≤ℤ a → In even_square (a ∷ b ∷ c ∷ [])
under a b c h k l = record {
  m = pos 2;
  c = (a +ℤ b) ∷ pos 0 ∷ (c -ℤ b) ∷ (a -ℤ c) ∷ [];
  d = [];
  positive = lt_z_yes tt;
  not_negative = (h, (le_z_yes tt, (omega (arith, ints), (omega (arith, ints), tt))));
  same = at_three _ _ _ _ _ _ (simp ring (omega (arith, ints))) (simp ring (omega (arith, ints))) (simp ring (omega (arith, ints)));
}

over : (a b c : ℤ) → pos 0 ≤ℤ (a +ℤ c) → c ≤ℤ b → b ≤ℤ a → In even_square (a ∷ b ∷ c ∷ [])
over a b c h k l = record {
  m = pos 2;
  c = (a +ℤ c) ∷ (b -ℤ c) ∷ pos 0 ∷ (a -ℤ b) ∷ [];
  d = [];
  positive = lt_z_yes tt;
  not_negative = (h, (omega (arith, ints), (le_z_yes tt, (omega (arith, ints), tt))));
  same = at_three _ _ _ _ _ _ (simp ring (omega (arith, ints))) (simp ring (omega (arith, ints))) (simp ring (omega (arith, ints)));
}

within : (a b c : ℤ) → CutOut even_edges (a ∷ b ∷ c ∷ []) → In even_square (a ∷ b ∷ c ∷ [])
within a b c (p, (q, (r, (s, u)))) =
    let west = simp ring at p in
    let south = simp ring at q in
    let north = simp ring at r in
    let east = simp ring at s in
    by_lt_z b c (λ h. under a b c (omega (arith, ints)) (omega (arith, ints)) (omega (arith, ints))) (λ h. over a b c (omega (arith, ints)) h (omega (arith, ints)))

signs : Tables even_corners [] even_edges []
signs = record { rows = tt; rows_lines = tt; lines = tt; lines_lines = tt }

edge_order : IsOrder 3 (IsValid 3 even_corners []) even_edges
edge_order = facet_order 3 even_corners [] even_edges [] corners_cols tt edges_cols tt signs (λ x l c u. by_three (λ y. CutOut even_edges y → In even_square y) within x l c)
    (order_of_apart 3 even_edges [] edges_cols tt (triple 1 0 0) tt tt edge_needed)

orders : AreOrdersOf 3 even_square even_corners even_edges
orders = record { rays = corner_order; facets = edge_order }

-- ---- 0 is inside
thing : IsPolytopeThing 3 even_corners []
thing = record {
  cone = record { generators = corners_cols; lines = tt };
  first = λ x l h. first_entry even_corners [] tt tt x h;
  proper = inr (triple 1 1 1, refl, in_generator here, lt_z_yes tt);
}

zero_row : (a b c : ℤ) → In even_square (a ∷ b ∷ c ∷ []) → a ≡ pos 0 → IsZero (a ∷ b ∷ c ∷ [])
zero_row a b c h o zero = o
zero_row a b c h o (suc zero) =
    let p = simp ring at (on_cone (triple 1 1 0) even_corners tt (a ∷ b ∷ c ∷ []) h) in
    let q = simp ring at (on_cone (pos 1 ∷ minus ∷ pos 0 ∷ []) even_corners tt (a ∷ b ∷ c ∷ []) h) in
    omega (arith, ints)
zero_row a b c h o (suc (suc zero)) =
    let p = simp ring at (on_cone (triple 1 0 1) even_corners tt (a ∷ b ∷ c ∷ []) h) in
    let q = simp ring at (on_cone (pos 1 ∷ pos 0 ∷ minus ∷ []) even_corners tt (a ∷ b ∷ c ∷ []) h) in
    omega (arith, ints)
zero_row a b c h o (suc (suc (suc i))) = refl

bounded : IsBounded 3 (In even_square)
bounded = record { only_zero = by_three (λ x. In even_square x → entry x 0 ≡ pos 0 → IsZero x) zero_row }

-- a valid row that is not positive at 0 is 0
at_origin : (a b c : ℤ) → IsValid 3 even_corners [] (a ∷ b ∷ c ∷ []) → a ≤ℤ pos 0 → IsZero (a ∷ b ∷ c ∷ [])
at_origin a b c v low i =
    let p = simp ring at (v.holds (triple 1 1 1) refl (in_generator here)) in
    let q = simp ring at (v.holds (pos 1 ∷ pos 1 ∷ minus ∷ []) refl (in_generator (there here))) in
    let r = simp ring at (v.holds (pos 1 ∷ minus ∷ pos 1 ∷ []) refl (in_generator (there (there here)))) in
    let s = simp ring at (v.holds (pos 1 ∷ minus ∷ minus ∷ []) refl (in_generator (there (there (there here))))) in
    go i (omega (arith, ints)) (omega (arith, ints)) (omega (arith, ints))
  where
    go : (i : ℕ) → a ≡ pos 0 → b ≡ pos 0 → c ≡ pos 0 → entry (a ∷ b ∷ c ∷ []) i ≡ pos 0
    go zero e f g = e
    go (suc zero) e f g = f
    go (suc (suc zero)) e f g = g
    go (suc (suc (suc i))) e f g = refl

positive : (a : Row) → length a ≡ 3 → IsValid 3 even_corners [] a → ¬ (Vanishes 3 even_corners [] a) → pos 0 <ℤ entry a 0
positive a la v n = by_lt_z (pos 0) (entry a 0) (λ up. up) (λ low.
    let z = by_three (λ a. IsValid 3 even_corners [] a → entry a 0 ≤ℤ pos 0 → IsZero a) at_origin a la v low in
    absurd (n (record { cols = la; holds = λ x lx h. zero_product a x (in_zero z) })))

centered : IsCenteredPolytope 3 even_square
centered = record { thing = thing; bounded = bounded; positive = λ a v n. positive a v.cols v n }

not_centered : ¬ (IsCenteredPolytope 3 unit_square)
not_centered h =
    let p : pos 0 <ℤ pos 0 = h.positive (triple 0 1 0) square_is_read.edge.inside (λ v. let e : pos 1 ≡ pos 0 = v.holds (triple 1 1 0) refl (in_generator (there (there here))) in omega (arith, ints)) in
    omega (arith, ints)

-- ---- the cone over the edge x1 = -1
over_edge : InConeOver 2 even_square (triple 1 1 0) (negsuc 2 ∷ pos 1 ∷ [])
over_edge = record {
  factor = pos 1;
  row = pos 3 ∷ negsuc 2 ∷ pos 1 ∷ [];
  positive = lt_z_yes tt;
  cols = refl;
  inside = within (pos 3) (negsuc 2) (pos 1) (le_z_yes tt, (le_z_yes tt, (le_z_yes tt, (le_z_yes tt, tt))));
  zero = refl;
  same = same;
}
  where
    same : (i : ℕ) → pos 1 *ℤ entry (negsuc 2 ∷ pos 1 ∷ []) i ≡ entry (pos 3 ∷ negsuc 2 ∷ pos 1 ∷ []) (suc i)
    same zero = refl
    same (suc zero) = refl
    same (suc (suc i)) = refl

-- in it the first coordinate is not positive, and the second at most its opposite
past_edge : (p : ℤ) (b c : ℤ) → pos 0 <ℤ p → (x : Row) → length x ≡ 3 → In even_square x → dot (triple 1 1 0) x ≡ pos 0 → p *ℤ b ≡ entry x 1 → p *ℤ c ≡ entry x 2 → ((p *ℤ b) ≤ℤ pos 0) × (((p *ℤ b) +ℤ (p *ℤ c)) ≤ℤ pos 0)
past_edge p b c up x lx h z e f = by_three (λ x. In even_square x → dot (triple 1 1 0) x ≡ pos 0 → p *ℤ b ≡ entry x 1 → p *ℤ c ≡ entry x 2 → ((p *ℤ b) ≤ℤ pos 0) × (((p *ℤ b) +ℤ (p *ℤ c)) ≤ℤ pos 0)) go x lx h z e f
  where
    go : (q r s : ℤ) → In even_square (q ∷ r ∷ s ∷ []) → dot (triple 1 1 0) (q ∷ r ∷ s ∷ []) ≡ pos 0 → p *ℤ b ≡ r → p *ℤ c ≡ s → ((p *ℤ b) ≤ℤ pos 0) × (((p *ℤ b) +ℤ (p *ℤ c)) ≤ℤ pos 0)
    go q r s h z e f =
        let o = simp ring at z in
        let east = simp ring at (on_cone (pos 1 ∷ minus ∷ pos 0 ∷ []) even_corners tt (q ∷ r ∷ s ∷ []) h) in
        let north = simp ring at (on_cone (pos 1 ∷ pos 0 ∷ minus ∷ []) even_corners tt (q ∷ r ∷ s ∷ []) h) in
        (omega (arith, ints), omega (arith, ints))

beside : ¬ (InConeOver 2 even_square (triple 1 1 0) (minus ∷ pos 2 ∷ []))
beside s =
    let q = (past_edge s.factor minus (pos 2) s.positive s.row s.cols s.inside s.zero (s.same 0) (s.same 1)).1 in
    let up = s.positive in
    omega (arith, ints)

across : ¬ (InConeOver 2 even_square (triple 1 1 0) (pair 3 1))
across s =
    let q = (past_edge s.factor (pos 3) (pos 1) s.positive s.row s.cols s.inside s.zero (s.same 0) (s.same 1)).0 in
    let up = s.positive in
    omega (arith, ints)

-- ---- the face fan
abbrev OnEdge : Row → Type 0
OnEdge b = Any (λ a. dot b a ≡ pos 0) even_edges

on_edge : (b : Row) → Among b even_corners → OnEdge b
on_edge b here = Any_among (λ a. dot b a ≡ pos 0) {xs = even_edges} (there (there here)) refl
on_edge b (there here) = Any_among (λ a. dot b a ≡ pos 0) {xs = even_edges} (there here) refl
on_edge b (there (there here)) = Any_among (λ a. dot b a ≡ pos 0) {xs = even_edges} here refl
on_edge b (there (there (there here))) = Any_among (λ a. dot b a ≡ pos 0) {xs = even_edges} here refl
on_edge b (there (there (there (there i)))) = elim i [ ]

used : AreUsed 3 even_corners [] even_edges even_corners
used = record {
  each = All_among (λ b. Contains even_corners b × OnEdge b) even_corners (λ b i. (Contains_among i, on_edge b i));
  all = All_among (λ b. OnEdge b → Contains even_corners b) even_corners (λ b i h. Contains_among i);
  once = corner_order.once;
}

face_fan : IsFaceFan 2 even_square (fan over_edges)
face_fan = (face_fan_of_vertices 2 even_square even_corners even_edges even_corners centered orders used).0

-- the edge x1 = 1, and its corners
abbrev east_edge : Row
east_edge = pos 1 ∷ minus ∷ pos 0 ∷ []

east_facet : IsFacetRow 3 even_corners [] east_edge
east_facet = let i : Among east_edge even_edges = there (there (there here)) in among_All (λ a. IsFacetRow 3 even_corners [] a) i edge_order.each

above : InConeOver 2 even_square east_edge (pair 1 1)
above = record { factor = pos 1; row = triple 1 1 1; positive = lt_z_yes tt; cols = refl; inside = in_generator here; zero = refl; same = same }
  where
    same : (i : ℕ) → pos 1 *ℤ entry (pair 1 1) i ≡ entry (triple 1 1 1) (suc i)
    same zero = refl
    same (suc zero) = refl
    same (suc (suc i)) = refl

below : InConeOver 2 even_square east_edge (pos 1 ∷ minus ∷ [])
below = record { factor = pos 1; row = pos 1 ∷ pos 1 ∷ minus ∷ []; positive = lt_z_yes tt; cols = refl; inside = in_generator (there here); zero = refl; same = same }
  where
    same : (i : ℕ) → pos 1 *ℤ entry (pos 1 ∷ minus ∷ []) i ≡ entry (pos 1 ∷ pos 1 ∷ minus ∷ []) (suc i)
    same zero = refl
    same (suc zero) = refl
    same (suc (suc i)) = refl

abbrev three_sides : Fan
three_sides = fan (((minus ∷ pos 1 ∷ []) ∷ (minus ∷ minus ∷ []) ∷ []) ∷ ((pos 1 ∷ minus ∷ []) ∷ (minus ∷ minus ∷ []) ∷ []) ∷ (pair 1 1 ∷ (minus ∷ pos 1 ∷ []) ∷ []) ∷ [])

three : ¬ (IsFaceFan 2 even_square three_sides)
three n = let w = n.all east_edge east_facet in go w.0 w.1 w.2
  where
    go : (k : ℕ) → k < 3 → ¬ (IsConeAt 2 three_sides k (InConeOver 2 even_square east_edge))
    go zero l c = apart ((minus ∷ pos 1 ∷ []) ∷ (minus ∷ minus ∷ []) ∷ []) [] (minus ∷ pos 0 ∷ []) (pair 1 1) tt tt tt ((c (pair 1 1) refl).1 above)
    go (suc zero) l c = apart ((pos 1 ∷ minus ∷ []) ∷ (minus ∷ minus ∷ []) ∷ []) [] (pos 0 ∷ minus ∷ []) (pair 1 1) tt tt tt ((c (pair 1 1) refl).1 above)
    go (suc (suc zero)) l c = apart (pair 1 1 ∷ (minus ∷ pos 1 ∷ []) ∷ []) [] (pair 0 1) (pos 1 ∷ minus ∷ []) tt tt tt ((c (pos 1 ∷ minus ∷ []) refl).1 below)
    go (suc (suc (suc k))) l c = absurd (omega arith)

normal : ¬ (IsFaceFan 2 even_square (fan quadrants))
normal n = let w = n.all east_edge east_facet in go w.0 w.1 w.2
  where
    go : (k : ℕ) → k < 4 → ¬ (IsConeAt 2 (fan quadrants) k (InConeOver 2 even_square east_edge))
    go zero l c = apart (pair 1 0 ∷ pair 0 1 ∷ []) [] (pair 0 1) (pos 1 ∷ minus ∷ []) tt tt tt ((c (pos 1 ∷ minus ∷ []) refl).1 below)
    go (suc zero) l c = apart (pair 1 0 ∷ (pos 0 ∷ minus ∷ []) ∷ []) [] (pos 0 ∷ minus ∷ []) (pair 1 1) tt tt tt ((c (pair 1 1) refl).1 above)
    go (suc (suc zero)) l c = apart (pair 0 1 ∷ (minus ∷ pos 0 ∷ []) ∷ []) [] (minus ∷ pos 0 ∷ []) (pair 1 1) tt tt tt ((c (pair 1 1) refl).1 above)
    go (suc (suc (suc zero))) l c = apart ((pos 0 ∷ minus ∷ []) ∷ (minus ∷ pos 0 ∷ []) ∷ []) [] (minus ∷ pos 0 ∷ []) (pair 1 1) tt tt tt ((c (pair 1 1) refl).1 above)
    go (suc (suc (suc (suc k)))) l c = absurd (omega arith)

pub face_fans_are_read : FaceFansAreRead
face_fans_are_read = record {
  centered = centered;
  not_centered = not_centered;
  over = over_edge;
  beside = beside;
  across = across;
  square = face_fan;
  three = three;
  normal = normal;
}
