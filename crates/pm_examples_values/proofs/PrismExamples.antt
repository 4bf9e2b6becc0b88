-- The prism over a triangle: its counts.
use Rattle.pm_relations.proofs.Standing.{whole_objective}
use Rattle.pm_vector.proofs.ConeLaws.{in_cone_set, in_generator, none_from_zero, none_to_zero}
use Rattle.pm_vector.proofs.Lists.{All_among, Among, all_at, here, there}
use Rattle.pm_vector.proofs.Ring.{ring}
use Rattle.pm_vector.proofs.RowLaws.{dot-nil, dot-same, dot_comm}
use Rattle.pm_vector.specs.Cones.{InCone, InSpan}
use Rattle.pm_vector.specs.Rows.{HasCols, IsZero, Row, dot}
use Rattle.pm_vector.specs.Bases.{IsRank}
use Rattle.pm_geom.proofs.Apart.{apart, not_below, order_of_apart, products, without}
use Rattle.pm_geom.proofs.Facets.{order_as}
use Rattle.pm_geom.proofs.ShortRows.{first_entry}
use Rattle.pm_geom.proofs.ValidRows.{Tables, facet_order, in_valid, valid_in}
use Rattle.pm_geom.proofs.Dimension.{rank_is_left}
use Rattle.pm_geom.specs.Cones.{CutOut, InLineality, IsOrder, IsValid, Vanishes}
use Rattle.pm_relations.proofs.Sites.{no_sites}
use Rattle.pm_types.specs.Things.{AreOrders, IsThing}
use Rattle.pm_geom.specs.Things.{Orders}
use Rattle.pm_relations.proofs.Orders.{orders_total}
use Rattle.pm_relations.proofs.Sizes.{simple_by_sizes, simplicial_by_sizes, tight_total, vanishing_total}
use Rattle.pm_examples_values.proofs.BipyramidExamples.{at_four, by_four, five, four, four_zero, on_line, same_if_zero, six}
use Rattle.pm_examples_values.specs.PrismExamples.{PrismCountsAreRead, prism, prism_orders, prism_thing, sizes_of_vertices, sizes_of_walls, walls}
use Rattle.pm_object_type.specs.declared.object_type.ObjectType.{ObjectType}
use Rattle.pm_object_type.specs.declared.object_type.ObjectType.TheVariants.{Fan, Polytope}
use Rattle.pm_props.specs.declared.property.PropId.TheVariants.{Simple, Simplicial}
use Rattle.pm_examples_values.proofs.DimensionExamples.{no_lines, none_independent}
use Rattle.pm_types.specs.Right.{IsCombinatorialDim, Right, one_if_zero, tight, vanishing}
use Rattle.pm_types.specs.Values.{truth}
use Rattle.std.proofs.Common.{T, ap, arith, inr, refl, sym, true≢false, ◌∙◌}
use Rattle.std.proofs.lemmas.Int.{by_lt_z, ints}
use Rattle.std.specs.List.{All}
use Rattle.std.specs.Prelude.{Bool, [], false, length, map, true, ◌++◌, ◌↔◌, ◌∷◌, ◌≡◌}
use lib.IntN.{negsuc, pos, ℤ, ◌+ℤ◌, ◌-ℤ◌}
use lib.Signed.{lt_z_yes}

-- ---- the vertices and the facets
rays_cols : HasCols 4 prism
rays_cols = (refl, (refl, (refl, (refl, (refl, (refl, tt))))))

walls_cols : HasCols 4 walls
walls_cols = (refl, (refl, (refl, (refl, (refl, tt)))))

ray_needed : (v : Row) (i : Among v prism) → ¬ (InCone (without i) [] v)
unfolding without
ray_needed v here = apart _ [] (four (negsuc 0) (pos 1) (pos 1) (pos 1)) _ tt tt tt
ray_needed v (there here) = apart _ [] (four (pos 0) (negsuc 0) (pos 0) (pos 1)) _ tt tt tt
ray_needed v (there (there here)) = apart _ [] (four (pos 0) (pos 0) (negsuc 0) (pos 1)) _ tt tt tt
ray_needed v (there (there (there here))) = apart _ [] (four (pos 0) (pos 1) (pos 1) (negsuc 0)) _ tt tt tt
ray_needed v (there (there (there (there here)))) = apart _ [] (four (pos 1) (negsuc 0) (pos 0) (negsuc 0)) _ tt tt tt
ray_needed v (there (there (there (there (there here))))) = apart _ [] (four (pos 1) (pos 0) (negsuc 0) (negsuc 0)) _ tt tt tt
ray_needed v (there (there (there (there (there (there i)))))) = elim i [ ]

ray_order : IsOrder 4 (InCone prism []) prism
ray_order = order_of_apart 4 prism [] rays_cols tt (four (pos 1) (pos 0) (pos 0) (pos 0)) tt tt ray_needed

wall_needed : (f : Row) (i : Among f walls) → ¬ (InCone (without i) [] f)
unfolding without
wall_needed f here = apart _ [] (four (pos 0) (negsuc 0) (pos 0) (pos 0)) _ tt tt tt
wall_needed f (there here) = apart _ [] (four (pos 0) (pos 0) (negsuc 0) (pos 0)) _ tt tt tt
wall_needed f (there (there here)) = apart _ [] (four (pos 0) (pos 1) (pos 0) (pos 0)) _ tt tt tt
wall_needed f (there (there (there here))) = apart _ [] (four (pos 0) (pos 0) (pos 0) (negsuc 0)) _ tt tt tt
wall_needed f (there (there (there (there here)))) = apart _ [] (four (pos 0) (pos 0) (pos 0) (pos 1)) _ tt tt tt
wall_needed f (there (there (there (there (there i))))) = elim i [ ]

wall_order : IsOrder 4 (InCone walls []) walls
wall_order = order_of_apart 4 walls [] walls_cols tt (four (pos 3) (pos 1) (pos 1) (pos 1)) tt tt wall_needed

-- a row within the facets, by how much of its height the first edge takes, and how much the second
within : (a b c d : ℤ) → CutOut walls (four a b c d) → InCone prism [] (four a b c d)
within a b c d (p, (q, (r, (s, (t, w))))) =
    let p' = simp ring at p in
    let q' = simp ring at q in
    let r' = simp ring at r in
    let s' = simp ring at s in
    let t' = simp ring at t in
    by_lt_z d (a -ℤ b -ℤ c)
    (λ h. record {
      m = pos 1;
      c = (a -ℤ b -ℤ c -ℤ d) ∷ b ∷ c ∷ d ∷ pos 0 ∷ pos 0 ∷ [];
      d = [];
      positive = lt_z_yes tt;
      not_negative = (omega (arith, ints), (omega (arith, ints), (omega (arith, ints), (omega (arith, ints), (omega (arith, ints), (omega (arith, ints), tt))))));
      same = at_four _ _ _ _ _ _ _ _ (simp ring (omega (arith, ints))) (simp ring (omega (arith, ints))) (simp ring (omega (arith, ints))) (simp ring (omega (arith, ints)));
    })
    (λ h. by_lt_z d (a -ℤ c)
    (λ k. record {
      m = pos 1;
      c = pos 0 ∷ (a -ℤ c -ℤ d) ∷ c ∷ (a -ℤ b -ℤ c) ∷ (d -ℤ a +ℤ b +ℤ c) ∷ pos 0 ∷ [];
      d = [];
      positive = lt_z_yes tt;
      not_negative = (omega (arith, ints), (omega (arith, ints), (omega (arith, ints), (omega (arith, ints), (omega (arith, ints), (omega (arith, ints), tt))))));
      same = at_four _ _ _ _ _ _ _ _ (simp ring (omega (arith, ints))) (simp ring (omega (arith, ints))) (simp ring (omega (arith, ints))) (simp ring (omega (arith, ints)));
    })
    (λ k. record {
      m = pos 1;
      c = pos 0 ∷ pos 0 ∷ (a -ℤ d) ∷ (a -ℤ b -ℤ c) ∷ b ∷ (d -ℤ a +ℤ c) ∷ [];
      d = [];
      positive = lt_z_yes tt;
      not_negative = (omega (arith, ints), (omega (arith, ints), (omega (arith, ints), (omega (arith, ints), (omega (arith, ints), (omega (arith, ints), tt))))));
      same = at_four _ _ _ _ _ _ _ _ (simp ring (omega (arith, ints))) (simp ring (omega (arith, ints))) (simp ring (omega (arith, ints))) (simp ring (omega (arith, ints)));
    }))

inside : (x : Row) → length x ≡ 4 → CutOut walls x → Unit {0} → InCone prism [] x
inside x l c u = by_four (λ y. CutOut walls y → InCone prism [] y) within x l c

signs : Tables prism [] walls []
signs = record { rows = tt; rows_lines = tt; lines = tt; lines_lines = tt }

facet_rows : IsOrder 4 (IsValid 4 prism []) walls
facet_rows = facet_order 4 prism [] walls [] rays_cols tt walls_cols tt signs inside wall_order

is_thing : IsThing prism_thing
is_thing = record {
  some_cols = omega arith;
  few_cols = omega arith;
  kind = (
    record {
      cone = record { generators = rays_cols; lines = tt };
      first = λ x l h. first_entry prism [] tt tt x h;
      proper = inr (four (pos 1) (pos 0) (pos 0) (pos 0), refl, in_generator here, lt_z_yes tt);
    },
    refl,
  );
  programs = whole_objective 4 (pos 0 ∷ pos 0 ∷ pos 0 ∷ pos 0 ∷ []) refl;
  sites = no_sites _;
}

are_orders : AreOrders prism_thing prism_orders
are_orders = record { rays = ray_order; facets = facet_rows; cones = refl }

-- ---- any orders
as_rows : (p : Orders) → AreOrders prism_thing p → IsOrder 4 (InCone walls []) p.facets
as_rows p o = order_as 4 (IsValid 4 prism []) (InCone walls [])
    (valid_in 4 prism [] walls [] rays_cols tt walls_cols tt signs inside)
    (in_valid 4 prism [] walls [] rays_cols tt walls_cols tt signs inside) o.facets

vanishing_same : (v : Row) → T (products not_below v walls) → (p : Orders) → AreOrders prism_thing p → vanishing walls v ≡ vanishing p.facets v
vanishing_same v valid p o =
    vanishing_total walls v
    ∙ orders_total 4 (InCone walls []) (in_cone_set walls []) walls p.facets wall_order (as_rows p o) (λ f. one_if_zero (dot v f)) (λ f g i j s. same_if_zero walls v valid f g s)
    ∙ sym (vanishing_total p.facets v)

tight_same : (a : Row) → T (products not_below a prism) → (p : Orders) → AreOrders prism_thing p → tight prism a ≡ tight p.rays a
tight_same a valid p o =
    tight_total prism a
    ∙ orders_total 4 (InCone prism []) (in_cone_set prism []) prism p.rays ray_order o.rays (λ v. one_if_zero (dot a v)) (λ v w i j s. same_if_zero prism a valid v w s)
    ∙ sym (tight_total p.rays a)

vertex_sizes : (p : Orders) → AreOrders prism_thing p → sizes_of_vertices ≡ map (λ v. pos (vanishing p.facets v)) prism
vertex_sizes p o = six _ _ _ _ _ _ _ _ _ _ _ _ (vanishing_same _ tt p o) (vanishing_same _ tt p o) (vanishing_same _ tt p o) (vanishing_same _ tt p o) (vanishing_same _ tt p o) (vanishing_same _ tt p o)

facet_sizes : (p : Orders) → AreOrders prism_thing p → sizes_of_walls ≡ map (λ a. pos (tight p.rays a)) walls
facet_sizes p o = five _ _ _ _ _ _ _ _ _ _ (tight_same _ tt p o) (tight_same _ tt p o) (tight_same _ tt p o) (tight_same _ tt p o) (tight_same _ tt p o)

six_not_five : sizes_of_vertices ≡ sizes_of_walls → ⊥
six_not_five e = let l = ap length e in omega arith

-- ---- simple and not simplicial
vanishing_zero : (a b c d : ℤ) → Vanishes 4 prism [] (four a b c d) → IsZero (four a b c d)
vanishing_zero a b c d v =
    let p = simp ring at (v.holds (four (pos 1) (pos 0) (pos 0) (pos 0)) refl (in_generator here)) in
    let q = simp ring at (v.holds (four (pos 1) (pos 1) (pos 0) (pos 0)) refl (in_generator (there here))) in
    let r = simp ring at (v.holds (four (pos 1) (pos 0) (pos 1) (pos 0)) refl (in_generator (there (there here)))) in
    let s = simp ring at (v.holds (four (pos 1) (pos 0) (pos 0) (pos 1)) refl (in_generator (there (there (there here))))) in
    four_zero a b c d (omega (arith, ints)) (omega (arith, ints)) (omega (arith, ints)) (omega (arith, ints))

none_vanish : (a : Row) → length a ≡ 4 → Vanishes 4 prism [] a ↔ InSpan [] a
none_vanish a la = (
  λ v. none_from_zero a (by_four (λ y. Vanishes 4 prism [] y → IsZero y) vanishing_zero a la v),
  λ h. record { cols = la; holds = λ x l k. dot_comm a x ∙ dot-same x a [] (none_to_zero a h) ∙ dot-nil x },
)

solid : IsRank (prism ++ []) 4
solid = (rank_is_left 4 prism [] rays_cols tt [] tt none_independent none_vanish 4).1 refl

line_zero : (a b c d : ℤ) → InLineality (InCone prism []) (four a b c d) → IsZero (four a b c d)
line_zero a b c d l =
    let p = simp ring at (on_line prism (four (pos 1) (pos 0) (pos 0) (pos 0)) tt (four a b c d) l) in
    let q = simp ring at (on_line prism (four (pos 0) (pos 1) (pos 0) (pos 0)) tt (four a b c d) l) in
    let r = simp ring at (on_line prism (four (pos 0) (pos 0) (pos 1) (pos 0)) tt (four a b c d) l) in
    let s = simp ring at (on_line prism (four (pos 0) (pos 0) (pos 0) (pos 1)) tt (four a b c d) l) in
    four_zero a b c d (omega (arith, ints)) (omega (arith, ints)) (omega (arith, ints)) (omega (arith, ints))

dimension : IsCombinatorialDim prism_thing (pos 3)
dimension = record {
  cone = 4;
  lineality = 0;
  is_cone = solid;
  is_lineality = no_lines 4 (InLineality (InCone prism [])) (λ x l s. none_from_zero x (by_four (λ y. InLineality (InCone prism []) y → IsZero y) line_zero x l s));
  less = refl;
}

is_polytope : ObjectType → Bool
is_polytope Polytope = true
is_polytope of = false

no_fan : ¬ (prism_thing.of ≡ Fan)
unfolding is_polytope
no_fan e = true≢false (ap is_polytope e)

all_three : All (λ z. z ≡ pos 3) sizes_of_vertices
all_three = All_among (λ z. z ≡ pos 3) sizes_of_vertices (λ z i. all_at (λ (z : ℤ). z ≡ pos 3) i (refl, (refl, (refl, (refl, (refl, (refl, tt)))))))

simple : Right Simple (truth true) prism_thing prism_orders []
simple = simple_by_sizes prism_thing prism_orders are_orders no_fan sizes_of_vertices (pos 3) true [] [] [] dimension ((λ y. all_three), (λ a. refl)) vertex_sizes

four_first : All (λ z. z ≡ pos 3) sizes_of_walls → ⊥
four_first h = let e : pos 4 ≡ pos 3 = h 0 (pos 0) (omega arith) in omega (arith, ints)

not_simplicial : Right Simplicial (truth false) prism_thing prism_orders []
not_simplicial = simplicial_by_sizes prism_thing prism_orders are_orders no_fan sizes_of_walls (pos 3) false [] [] [] dimension ((λ y. absurd (true≢false (sym y))), (λ a. absurd (four_first a))) facet_sizes

pub prism_counts_are_read : PrismCountsAreRead
prism_counts_are_read = record {
  thing = is_thing;
  orders = are_orders;
  dimension = dimension;
  vertex_sizes = vertex_sizes;
  vertex_sizes_refused = λ h. six_not_five (sym (h prism_orders are_orders));
  facet_sizes = facet_sizes;
  facet_sizes_refused = λ h. six_not_five (h prism_orders are_orders);
  simple = simple;
  not_simple_refused = λ h. true≢false (sym ((h prism_orders are_orders).1 ((simple prism_orders are_orders).0 refl)));
  not_simplicial = not_simplicial;
  simplicial_refused = λ h. true≢false (sym ((not_simplicial prism_orders are_orders).1 ((h prism_orders are_orders).0 refl)));
}
