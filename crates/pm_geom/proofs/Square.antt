-- The unit square: its vertices and its edges.
use Rattle.pm_vector.proofs.ConeLaws.{in_generator, in_of, lines_opposite}
use Rattle.pm_vector.proofs.Lists.{Among, among_All, here, there}
use Rattle.pm_vector.proofs.Ring.{ring}
use Rattle.pm_vector.specs.Cones.{InCone}
use Rattle.pm_vector.specs.Rows.{HasCols, Row}
use Rattle.pm_geom.proofs.Apart.{apart, lineality_spanned, on_row, order_of_apart, without}
use Rattle.pm_geom.proofs.Facets.{order_generates}
use Rattle.pm_geom.proofs.Reduce.{extreme_as}
use Rattle.pm_geom.proofs.ShortRows.{at_three, by_three, first_entry}
use Rattle.pm_geom.proofs.ValidRows.{Tables, facet_order, in_valid, valid_in}
use Rattle.pm_geom.specs.Cones.{CutOut, InLineality, IsExtreme, IsExtremeRay, IsFacetRow, IsOrder, IsValid}
use Rattle.pm_geom.specs.Examples.{SquareIsRead, edges, square, triple}
use Rattle.pm_geom.specs.Things.{IsPolytopeThing}
use Rattle.std.proofs.Common.{arith, inr, refl}
use Rattle.std.proofs.lemmas.Int.{by_lt_z, ints}
use Rattle.std.specs.Prelude.{[], length, ◌↔◌, ◌∷◌, ◌≡◌}
use lib.IntN.{negsuc, pos, ℤ, ◌-ℤ◌}
use lib.Signed.{lt_z_yes, ◌≤ℤ◌}

square_cols : HasCols 3 square
square_cols = (refl, (refl, (refl, (refl, tt))))

edges_cols : HasCols 3 edges
edges_cols = (refl, (refl, (refl, (refl, tt))))

-- ---- the vertices: each is apart from the other three
vertex_needed : (v : Row) (i : Among v square) → ¬ (InCone (without i) [] v)
unfolding without
vertex_needed v here = apart _ [] (negsuc 0 ∷ pos 1 ∷ pos 1 ∷ []) _ tt tt tt
vertex_needed v (there here) = apart _ [] (pos 0 ∷ pos 1 ∷ negsuc 0 ∷ []) _ tt tt tt
vertex_needed v (there (there here)) = apart _ [] (pos 0 ∷ negsuc 0 ∷ pos 1 ∷ []) _ tt tt tt
vertex_needed v (there (there (there here))) = apart _ [] (pos 1 ∷ negsuc 0 ∷ negsuc 0 ∷ []) _ tt tt tt
vertex_needed v (there (there (there (there i)))) = elim i [ ]

vertex_order : IsOrder 3 (InCone square []) square
vertex_order = order_of_apart 3 square [] square_cols tt (triple 1 0 0) tt tt vertex_needed

pub midpoint : ¬ (IsExtremeRay 3 square [] (triple 2 1 1))
midpoint e =
    let t = (e.summands (pos 1) (triple 1 0 0) (triple 1 1 1) (lt_z_yes tt) refl refl (in_generator here) (in_generator (there (there (there here)))) (at_three _ _ _ _ _ _ refl refl refl)).0 in
    apart (triple 2 1 1 ∷ []) [] (negsuc 0 ∷ pos 1 ∷ pos 1 ∷ []) (triple 1 0 0) tt tt tt (on_row 3 square [] square_cols tt (triple 1 0 0) tt tt (triple 2 1 1) (triple 1 0 0) t)

-- the cone of the square is pointed
pub pointed : (x : Row) → length x ≡ 3 → InLineality (InCone square []) x ↔ InCone [] [] x
pointed x l = (
  lineality_spanned 3 square [] square_cols tt (triple 1 0 0) tt tt x l,
  λ h. record { inside = in_of square [] [] (λ g i. elim i [ ]) h; opposed = in_of square [] [] (λ g i. elim i [ ]) (lines_opposite [] x h) },
)

-- an order would generate the fourth vertex
three : ¬ (IsOrder 3 (InCone square []) (triple 1 0 0 ∷ triple 1 0 1 ∷ triple 1 1 0 ∷ []))
three o =
    apart (triple 1 0 0 ∷ triple 1 0 1 ∷ triple 1 1 0 ∷ []) [] (pos 1 ∷ negsuc 0 ∷ negsuc 0 ∷ []) (triple 1 1 1) tt tt tt
    ((order_generates 3 square [] square_cols tt (triple 1 0 0 ∷ triple 1 0 1 ∷ triple 1 1 0 ∷ []) [] tt o pointed (triple 1 1 1) refl).0 (in_generator (there (there (there here)))))

-- ---- the edges: for each there is a row beyond it alone
edge_needed : (f : Row) (i : Among f edges) → ¬ (InCone (without i) [] f)
unfolding without
edge_needed f here = apart _ [] (pos 1 ∷ negsuc 0 ∷ pos 0 ∷ []) _ tt tt tt
edge_needed f (there here) = apart _ [] (pos 1 ∷ pos 0 ∷ negsuc 0 ∷ []) _ tt tt tt
edge_needed f (there (there here)) = apart _ [] (pos 0 ∷ pos 0 ∷ pos 1 ∷ []) _ tt tt tt
edge_needed f (there (there (there here))) = apart _ [] (pos 0 ∷ pos 1 ∷ pos 0 ∷ []) _ tt tt tt
edge_needed f (there (there (there (there i)))) = elim i [ ]

-- a row within the edges is a sum of multiples of three vertices, those of a triangle that holds it
under : (a b c : ℤ) → pos 0 ≤ℤ b → b ≤ℤ c → c ≤ℤ a → InCone square [] (a ∷ b ∷ c ∷ [])
under a b c h k l = record {
  m = pos 1;
  c = (a -ℤ c) ∷ (c -ℤ b) ∷ pos 0 ∷ b ∷ [];
  d = [];
  positive = lt_z_yes tt;
  not_negative = (omega (arith, ints), (omega (arith, ints), (omega (arith, ints), (h, tt))));
  same = at_three _ _ _ _ _ _ (simp ring (omega (arith, ints))) (simp ring (omega (arith, ints))) (simp ring (omega (arith, ints)));
}

over : (a b c : ℤ) → pos 0 ≤ℤ c → c ≤ℤ b → b ≤ℤ a → InCone square [] (a ∷ b ∷ c ∷ [])
over a b c h k l = record {
  m = pos 1;
  c = (a -ℤ b) ∷ pos 0 ∷ (b -ℤ c) ∷ c ∷ [];
  d = [];
  positive = lt_z_yes tt;
  not_negative = (omega (arith, ints), (omega (arith, ints), (omega (arith, ints), (h, tt))));
  same = at_three _ _ _ _ _ _ (simp ring (omega (arith, ints))) (simp ring (omega (arith, ints))) (simp ring (omega (arith, ints)));
}

within : (a b c : ℤ) → CutOut edges (a ∷ b ∷ c ∷ []) → InCone square [] (a ∷ b ∷ c ∷ [])
within a b c (p, (q, (r, (s, u)))) =
    let left = simp ring at p in
    let below = simp ring at q in
    let top = simp ring at r in
    let right = simp ring at s in
    by_lt_z b c (λ h. under a b c (omega (arith, ints)) (omega (arith, ints)) (omega (arith, ints))) (λ h. over a b c (omega (arith, ints)) h (omega (arith, ints)))

inside : (x : Row) → length x ≡ 3 → CutOut edges x → Unit {0} → InCone square [] x
inside x l c u = by_three (λ y. CutOut edges y → InCone square [] y) within x l c

signs : Tables square [] edges []
signs = record { rows = tt; rows_lines = tt; lines = tt; lines_lines = tt }

edge_order : IsOrder 3 (IsValid 3 square []) edges
edge_order = facet_order 3 square [] edges [] square_cols tt edges_cols tt signs inside (order_of_apart 3 edges [] edges_cols tt (triple 2 1 1) tt tt edge_needed)

corner : ¬ (IsFacetRow 3 square [] (triple 0 1 1))
corner e =
    let f : IsExtreme 3 (InCone edges []) (triple 0 1 1) = extreme_as 3 (IsValid 3 square []) (InCone edges []) (valid_in 3 square [] edges [] square_cols tt edges_cols tt signs inside) (in_valid 3 square [] edges [] square_cols tt edges_cols tt signs inside) e in
    let t = (f.summands (pos 1) (triple 0 1 0) (triple 0 0 1) (lt_z_yes tt) refl refl (in_generator here) (in_generator (there here)) (at_three _ _ _ _ _ _ refl refl refl)).0 in
    apart (triple 0 1 1 ∷ []) [] (pos 0 ∷ negsuc 0 ∷ pos 1 ∷ []) (triple 0 1 0) tt tt tt (on_row 3 edges [] edges_cols tt (triple 2 1 1) tt tt (triple 0 1 1) (triple 0 1 0) t)

polytope : IsPolytopeThing 3 square []
polytope = record {
  cone = record { generators = square_cols; lines = tt };
  first = λ x l h. first_entry square [] tt tt x h;
  proper = inr (triple 1 0 0, refl, in_generator here, lt_z_yes tt);
}

pub square_is_read : SquareIsRead
square_is_read = record {
  polytope = polytope;
  vertices = vertex_order.each;
  midpoint = midpoint;
  edge = (let i : Among (triple 0 1 0) edges = here in among_All (λ a. IsFacetRow 3 square [] a) i edge_order.each);
  corner = corner;
  order = vertex_order;
  three = three;
  facets = edge_order;
}
