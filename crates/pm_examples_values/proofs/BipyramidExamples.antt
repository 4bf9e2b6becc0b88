-- The cone over a bipyramid: its counts.
use Rattle.pm_relations.proofs.Standing.{whole_objective}
use Rattle.pm_vector.proofs.ConeLaws.{dot_in, in_cone_set, in_generator, none_from_zero, none_to_zero}
use Rattle.pm_vector.proofs.Lists.{All_among, Among, Contains_among, all_at, among_Contains, here, there}
use Rattle.pm_vector.proofs.Ring.{ring}
use Rattle.pm_vector.proofs.RowLaws.{dot-nil, dot-same, dot_comm}
use Rattle.pm_vector.specs.Cones.{InCone, InSpan}
use Rattle.pm_vector.specs.Rows.{HasCols, IsZero, Row, Same, dot, entry}
use Rattle.pm_vector.specs.Bases.{IsRank}
use Rattle.pm_geom.proofs.Apart.{apart, not_below, not_below_at, order_of_apart, products, without}
use Rattle.pm_geom.proofs.Facets.{dot-opposite, order_as}
use Rattle.pm_geom.proofs.ValidRows.{Tables, facet_order, in_valid, valid_in}
use Rattle.pm_geom.proofs.Dimension.{rank_is_left}
use Rattle.pm_geom.specs.Cones.{CutOut, InLineality, IsOrder, IsValid, SameModulo, Vanishes}
use Rattle.pm_geom.specs.Faces.{ray}
use Rattle.pm_relations.proofs.Sites.{no_sites}
use Rattle.pm_types.specs.Things.{AreOrders, IsThing}
use Rattle.pm_geom.specs.Things.{Orders}
use Rattle.pm_relations.proofs.Orders.{orders_length, orders_total}
use Rattle.pm_relations.proofs.Sizes.{alike_ones, simple_by_sizes, simplicial_by_sizes, tight_total, vanishing_total}
use Rattle.pm_examples_values.specs.BipyramidExamples.{BipyramidCountsAreRead, bipyramid, bipyramid_orders, bipyramid_thing, side_sets, sides, sizes_of_facets, sizes_of_rays}
use Rattle.pm_object_type.specs.declared.object_type.ObjectType.{ObjectType}
use Rattle.pm_object_type.specs.declared.object_type.ObjectType.TheVariants.{Cone, Fan}
use Rattle.pm_props.specs.declared.property.PropId.TheVariants.{Simple, Simplicial}
use Rattle.pm_examples_values.proofs.DimensionExamples.{no_lines, none_independent}
use Rattle.pm_types.specs.Right.{IsCombinatorialDim, IsIncidence, Right, one_if_zero, tight, vanishing}
use Rattle.pm_types.specs.Values.{truth}
use Rattle.std.proofs.Common.{T, ap, arith, inl, inr, refl, subst, sym, true≢false, ◌∙◌}
use Rattle.std.proofs.lemmas.Int.{by_lt_z, ints}
use Rattle.std.specs.List.{All, Contains}
use Rattle.std.specs.Prelude.{Bool, List, [], false, length, map, suc, true, zero, ℕ, ◌+◌, ◌++◌, ◌↔◌, ◌∷◌, ◌≡◌, ◌<◌, ◌⊎◌}
use lib.IntN.{neg_ℤ, negsuc, pos, ℤ, ◌+ℤ◌}
use lib.Signed.{lt_z_yes}

-- ---- rows of four entries
abbrev pub four : ℤ → ℤ → ℤ → ℤ → Row
four a b c d = a ∷ b ∷ c ∷ d ∷ []

pub by_four : (P : Row → Type 0) → ((a b c d : ℤ) → P (four a b c d)) → (x : Row) → length x ≡ 4 → P x
by_four P f [] l = absurd (omega arith)
by_four P f (a ∷ []) l = absurd (omega arith)
by_four P f (a ∷ b ∷ []) l = absurd (omega arith)
by_four P f (a ∷ b ∷ c ∷ []) l = absurd (omega arith)
by_four P f (a ∷ b ∷ c ∷ d ∷ []) l = f a b c d
by_four P f (a ∷ b ∷ c ∷ d ∷ e ∷ x) l = absurd (omega arith)

pub at_four : (a b c d a' b' c' d' : ℤ) → a ≡ a' → b ≡ b' → c ≡ c' → d ≡ d' → Same (four a b c d) (four a' b' c' d')
at_four a b c d a' b' c' d' e f g h = record { at = go }
  where
    go : (i : ℕ) → entry (four a b c d) i ≡ entry (four a' b' c' d') i
    go zero = e
    go (suc zero) = f
    go (suc (suc zero)) = g
    go (suc (suc (suc zero))) = h
    go (suc (suc (suc (suc i)))) = refl

-- ---- the rays and the facets
rays_cols : HasCols 4 bipyramid
rays_cols = (refl, (refl, (refl, (refl, (refl, tt)))))

sides_cols : HasCols 4 sides
sides_cols = (refl, (refl, (refl, (refl, (refl, (refl, tt))))))

ray_needed : (v : Row) (i : Among v bipyramid) → ¬ (InCone (without i) [] v)
unfolding without
ray_needed v here = apart _ [] (four (negsuc 0) (pos 1) (pos 0) (pos 0)) _ tt tt tt
ray_needed v (there here) = apart _ [] (four (pos 1) (negsuc 0) (pos 0) (pos 0)) _ tt tt tt
ray_needed v (there (there here)) = apart _ [] (four (pos 1) (pos 0) (negsuc 0) (pos 0)) _ tt tt tt
ray_needed v (there (there (there here))) = apart _ [] (four (pos 0) (pos 0) (pos 0) (negsuc 0)) _ tt tt tt
ray_needed v (there (there (there (there here)))) = apart _ [] (four (pos 0) (pos 0) (pos 0) (pos 1)) _ tt tt tt
ray_needed v (there (there (there (there (there i))))) = elim i [ ]

ray_order : IsOrder 4 (InCone bipyramid []) bipyramid
ray_order = order_of_apart 4 bipyramid [] rays_cols tt (four (pos 2) (pos 2) (pos 2) (pos 1)) tt tt ray_needed

side_needed : (f : Row) (i : Among f sides) → ¬ (InCone (without i) [] f)
unfolding without
side_needed f here = apart _ [] (four (negsuc 0) (pos 0) (pos 0) (pos 1)) _ tt tt tt
side_needed f (there here) = apart _ [] (four (pos 0) (negsuc 0) (pos 0) (pos 1)) _ tt tt tt
side_needed f (there (there here)) = apart _ [] (four (pos 0) (pos 0) (negsuc 0) (pos 1)) _ tt tt tt
side_needed f (there (there (there here))) = apart _ [] (four (pos 0) (pos 1) (pos 1) (negsuc 0)) _ tt tt tt
side_needed f (there (there (there (there here)))) = apart _ [] (four (pos 1) (pos 0) (pos 1) (negsuc 0)) _ tt tt tt
side_needed f (there (there (there (there (there here))))) = apart _ [] (four (pos 1) (pos 1) (pos 0) (negsuc 0)) _ tt tt tt
side_needed f (there (there (there (there (there (there i)))))) = elim i [ ]

side_order : IsOrder 4 (InCone sides []) sides
side_order = order_of_apart 4 sides [] sides_cols tt (four (pos 1) (pos 1) (pos 1) (pos 1)) tt tt side_needed

-- a row within the facets is on the side of the one tip or of the other
within : (a b c d : ℤ) → CutOut sides (four a b c d) → InCone bipyramid [] (four a b c d)
within a b c d (p, (q, (r, (s, (t, (u, w)))))) =
    let p' = simp ring at p in
    let q' = simp ring at q in
    let r' = simp ring at r in
    let s' = simp ring at s in
    let t' = simp ring at t in
    let u' = simp ring at u in
    by_lt_z d (pos 0)
    (λ h. record {
      m = pos 1;
      c = (a +ℤ d) ∷ (b +ℤ d) ∷ (c +ℤ d) ∷ pos 0 ∷ neg_ℤ d ∷ [];
      d = [];
      positive = lt_z_yes tt;
      not_negative = (omega (arith, ints), (omega (arith, ints), (omega (arith, ints), (omega (arith, ints), (omega (arith, ints), tt)))));
      same = at_four _ _ _ _ _ _ _ _ (simp ring (omega (arith, ints))) (simp ring (omega (arith, ints))) (simp ring (omega (arith, ints))) (simp ring (omega (arith, ints)));
    })
    (λ h. record {
      m = pos 1;
      c = a ∷ b ∷ c ∷ d ∷ pos 0 ∷ [];
      d = [];
      positive = lt_z_yes tt;
      not_negative = (omega (arith, ints), (omega (arith, ints), (omega (arith, ints), (omega (arith, ints), (omega (arith, ints), tt)))));
      same = at_four _ _ _ _ _ _ _ _ (simp ring (omega (arith, ints))) (simp ring (omega (arith, ints))) (simp ring (omega (arith, ints))) (simp ring (omega (arith, ints)));
    })

inside : (x : Row) → length x ≡ 4 → CutOut sides x → Unit {0} → InCone bipyramid [] x
inside x l c u = by_four (λ y. CutOut sides y → InCone bipyramid [] y) within x l c

signs : Tables bipyramid [] sides []
signs = record { rows = tt; rows_lines = tt; lines = tt; lines_lines = tt }

facet_rows : IsOrder 4 (IsValid 4 bipyramid []) sides
facet_rows = facet_order 4 bipyramid [] sides [] rays_cols tt sides_cols tt signs inside side_order

is_thing : IsThing bipyramid_thing
is_thing = record { some_cols = omega arith; few_cols = omega arith; kind = (record { generators = rays_cols; lines = tt }, refl); programs = whole_objective 4 (pos 0 ∷ pos 0 ∷ pos 0 ∷ pos 0 ∷ []) refl; sites = no_sites _ }

are_orders : AreOrders bipyramid_thing bipyramid_orders
are_orders = record { rays = ray_order; facets = facet_rows; cones = refl }

-- ---- any orders
as_rows : (p : Orders) → AreOrders bipyramid_thing p → IsOrder 4 (InCone sides []) p.facets
as_rows p o = order_as 4 (IsValid 4 bipyramid []) (InCone sides [])
    (valid_in 4 bipyramid [] sides [] rays_cols tt sides_cols tt signs inside)
    (in_valid 4 bipyramid [] sides [] rays_cols tt sides_cols tt signs inside) o.facets

n_rays : (p : Orders) → AreOrders bipyramid_thing p → pos 5 ≡ pos (length p.rays)
n_rays p o = ap pos (orders_length 4 (InCone bipyramid []) (in_cone_set bipyramid []) bipyramid p.rays ray_order o.rays)

n_facets : (p : Orders) → AreOrders bipyramid_thing p → pos 6 ≡ pos (length p.facets)
n_facets p o = ap pos (orders_length 4 (InCone sides []) (in_cone_set sides []) sides p.facets side_order (as_rows p o))

-- ---- likeness keeps which products are 0
module _ (G : List Row) (x : Row) (valid : T (products not_below x G)) where
  pub on_line : (w : Row) → InLineality (InCone G []) w → dot x w ≡ pos 0
  on_line w l =
      let up = dot_in x G [] (λ g i. not_below_at x i valid) (λ k i. elim i [ ]) l.inside in
      let down = rw dot-opposite at (dot_in x G [] (λ g i. not_below_at x i valid) (λ k i. elim i [ ]) l.opposed) in
      omega (arith, ints)

  pub same_if_zero : (v w : Row) → SameModulo 4 (InCone G []) v w → one_if_zero (dot x v) ≡ one_if_zero (dot x w)
  same_if_zero v w s = alike_ones 4 (InCone G []) x (λ w l i. on_line w i) v w s

vanishing_same : (v : Row) → T (products not_below v sides) → (p : Orders) → AreOrders bipyramid_thing p → vanishing sides v ≡ vanishing p.facets v
vanishing_same v valid p o =
    vanishing_total sides v
    ∙ orders_total 4 (InCone sides []) (in_cone_set sides []) sides p.facets side_order (as_rows p o) (λ f. one_if_zero (dot v f)) (λ f g i j s. same_if_zero sides v valid f g s)
    ∙ sym (vanishing_total p.facets v)

tight_same : (a : Row) → T (products not_below a bipyramid) → (p : Orders) → AreOrders bipyramid_thing p → tight bipyramid a ≡ tight p.rays a
tight_same a valid p o =
    tight_total bipyramid a
    ∙ orders_total 4 (InCone bipyramid []) (in_cone_set bipyramid []) bipyramid p.rays ray_order o.rays (λ v. one_if_zero (dot a v)) (λ v w i j s. same_if_zero bipyramid a valid v w s)
    ∙ sym (tight_total p.rays a)

pub five : (a b c d e a' b' c' d' e' : ℕ) → a ≡ a' → b ≡ b' → c ≡ c' → d ≡ d' → e ≡ e' → pos a ∷ pos b ∷ pos c ∷ pos d ∷ pos e ∷ [] ≡ pos a' ∷ pos b' ∷ pos c' ∷ pos d' ∷ pos e' ∷ []
five a b c d e a' b' c' d' e' p q r s t = cc

pub six : (a b c d e f a' b' c' d' e' f' : ℕ) → a ≡ a' → b ≡ b' → c ≡ c' → d ≡ d' → e ≡ e' → f ≡ f' → pos a ∷ pos b ∷ pos c ∷ pos d ∷ pos e ∷ pos f ∷ [] ≡ pos a' ∷ pos b' ∷ pos c' ∷ pos d' ∷ pos e' ∷ pos f' ∷ []
six a b c d e f a' b' c' d' e' f' p q r s t u = cc

ray_sizes : (p : Orders) → AreOrders bipyramid_thing p → sizes_of_rays ≡ map (λ v. pos (vanishing p.facets v)) bipyramid
ray_sizes p o = five _ _ _ _ _ _ _ _ _ _ (vanishing_same _ tt p o) (vanishing_same _ tt p o) (vanishing_same _ tt p o) (vanishing_same _ tt p o) (vanishing_same _ tt p o)

facet_sizes : (p : Orders) → AreOrders bipyramid_thing p → sizes_of_facets ≡ map (λ a. pos (tight p.rays a)) sides
facet_sizes p o = six _ _ _ _ _ _ _ _ _ _ _ _ (tight_same _ tt p o) (tight_same _ tt p o) (tight_same _ tt p o) (tight_same _ tt p o) (tight_same _ tt p o) (tight_same _ tt p o)

-- ---- the places at which a product is 0
if_zero : ℤ → List ℕ → List ℕ → List ℕ
if_zero (pos zero) a b = a
if_zero (pos (suc k)) a b = b
if_zero (negsuc k) a b = b

abbrev null_places : Row → List Row → ℕ → List ℕ
null_places f [] k = []
null_places f (v ∷ V) k = if_zero (dot f v) (k ∷ null_places f V (suc k)) (null_places f V (suc k))

if_to : (z : ℤ) (k : ℕ) (rest : List ℕ) {j : ℕ} → Among j (if_zero z (k ∷ rest) rest) → ((j ≡ k) × (z ≡ pos 0)) ⊎ Among j rest
unfolding if_zero
if_to (pos zero) k rest here = inl (refl, refl)
if_to (pos zero) k rest (there i) = inr i
if_to (pos (suc m)) k rest i = inr i
if_to (negsuc m) k rest i = inr i

if_here : (z : ℤ) (k : ℕ) (rest : List ℕ) → z ≡ pos 0 → Among k (if_zero z (k ∷ rest) rest)
unfolding if_zero
if_here (pos zero) k rest e = here
if_here (pos (suc m)) k rest e = absurd (omega (arith, ints))
if_here (negsuc m) k rest e = absurd (omega (arith, ints))

if_there : (z : ℤ) (k : ℕ) (rest : List ℕ) {j : ℕ} → Among j rest → Among j (if_zero z (k ∷ rest) rest)
unfolding if_zero
if_there (pos zero) k rest i = there i
if_there (pos (suc m)) k rest i = i
if_there (negsuc m) k rest i = i

places_to : (f : Row) (V : List Row) (k : ℕ) {j : ℕ} → Among j (null_places f V k) → (i : ℕ) × (j ≡ k + i) × (i < length V) × (dot f (ray V i) ≡ pos 0)
places_to f [] k i = elim i [ ]
places_to f (v ∷ V) k i = elim (if_to (dot f v) k (null_places f V (suc k)) i) [
  | inl w ↦ (0, (let e = w.0 in omega arith), omega arith, w.1)
  | inr h ↦ (let r = places_to f V (suc k) h in let e = r.1 in let l = r.2 in (suc r.0, omega arith, omega arith, r.3))
]

places_from : (f : Row) (V : List Row) (k i : ℕ) → i < length V → dot f (ray V i) ≡ pos 0 → (j : ℕ) → j ≡ k + i → Among j (null_places f V k)
places_from f [] k i l e j q = absurd (omega arith)
places_from f (v ∷ V) k zero l e j q = let r : k ≡ j = omega arith in subst (λ m. Among m (null_places f (v ∷ V) k)) r (if_here (dot f v) k (null_places f V (suc k)) e)
places_from f (v ∷ V) k (suc i) l e j q = if_there (dot f v) k (null_places f V (suc k)) (places_from f V (suc k) i (omega arith) e j (omega arith))

places_are : (f : Row) (V : List Row) (j : ℕ) → Contains (null_places f V 0) j ↔ ((j < length V) × (dot f (ray V j) ≡ pos 0))
places_are f V j = (
  λ c.
      let r = places_to f V 0 (among_Contains (null_places f V 0) c) in
      let e : r.0 ≡ j = (let q = r.1 in omega arith) in
      ((let l = r.2 in omega arith), subst (λ i. dot f (ray V i) ≡ pos 0) e r.3),
  λ w. Contains_among (places_from f V 0 j w.0 w.1 j (omega arith)),
)

abbrev sets_of : List Row → List Row → List (List ℕ)
sets_of [] V = []
sets_of (f ∷ F) V = null_places f V 0 ∷ sets_of F V

incidence_of : (F V : List Row) → IsIncidence F V (sets_of F V)
incidence_of [] V = tt
incidence_of (f ∷ F) V = (λ j. places_are f V j, incidence_of F V)

sets_are : side_sets ≡ sets_of sides bipyramid
unfolding if_zero
sets_are = refl

side_incidence : IsIncidence sides bipyramid side_sets
side_incidence = subst (λ rows. IsIncidence sides bipyramid rows) (sym sets_are) (incidence_of sides bipyramid)

five_not_six : sizes_of_facets ≡ sizes_of_rays → ⊥
five_not_six e = let l = ap length e in omega arith

-- ---- simple and simplicial
pub four_zero : (a b c d : ℤ) → a ≡ pos 0 → b ≡ pos 0 → c ≡ pos 0 → d ≡ pos 0 → IsZero (four a b c d)
four_zero a b c d ea eb ec ed zero = ea
four_zero a b c d ea eb ec ed (suc zero) = eb
four_zero a b c d ea eb ec ed (suc (suc zero)) = ec
four_zero a b c d ea eb ec ed (suc (suc (suc zero))) = ed
four_zero a b c d ea eb ec ed (suc (suc (suc (suc i)))) = refl

vanishing_zero : (a b c d : ℤ) → Vanishes 4 bipyramid [] (four a b c d) → IsZero (four a b c d)
vanishing_zero a b c d v =
    let p = simp ring at (v.holds (four (pos 1) (pos 0) (pos 0) (pos 0)) refl (in_generator here)) in
    let q = simp ring at (v.holds (four (pos 0) (pos 1) (pos 0) (pos 0)) refl (in_generator (there here))) in
    let r = simp ring at (v.holds (four (pos 0) (pos 0) (pos 1) (pos 0)) refl (in_generator (there (there here)))) in
    let s = simp ring at (v.holds (four (pos 0) (pos 0) (pos 0) (pos 1)) refl (in_generator (there (there (there here))))) in
    four_zero a b c d (omega (arith, ints)) (omega (arith, ints)) (omega (arith, ints)) (omega (arith, ints))

none_vanish : (a : Row) → length a ≡ 4 → Vanishes 4 bipyramid [] a ↔ InSpan [] a
none_vanish a la = (
  λ v. none_from_zero a (by_four (λ y. Vanishes 4 bipyramid [] y → IsZero y) vanishing_zero a la v),
  λ h. record { cols = la; holds = λ x l k. dot_comm a x ∙ dot-same x a [] (none_to_zero a h) ∙ dot-nil x },
)

solid : IsRank (bipyramid ++ []) 4
solid = (rank_is_left 4 bipyramid [] rays_cols tt [] tt none_independent none_vanish 4).1 refl

line_zero : (a b c d : ℤ) → InLineality (InCone bipyramid []) (four a b c d) → IsZero (four a b c d)
line_zero a b c d l =
    let p = simp ring at (on_line bipyramid (four (pos 1) (pos 0) (pos 0) (pos 0)) tt (four a b c d) l) in
    let q = simp ring at (on_line bipyramid (four (pos 0) (pos 1) (pos 0) (pos 0)) tt (four a b c d) l) in
    let r = simp ring at (on_line bipyramid (four (pos 0) (pos 0) (pos 1) (pos 0)) tt (four a b c d) l) in
    let s = simp ring at (on_line bipyramid (four (pos 1) (pos 0) (pos 0) (pos 1)) tt (four a b c d) l) in
    four_zero a b c d (omega (arith, ints)) (omega (arith, ints)) (omega (arith, ints)) (omega (arith, ints))

dimension : IsCombinatorialDim bipyramid_thing (pos 3)
dimension = record {
  cone = 4;
  lineality = 0;
  is_cone = solid;
  is_lineality = no_lines 4 (InLineality (InCone bipyramid [])) (λ x l s. none_from_zero x (by_four (λ y. InLineality (InCone bipyramid []) y → IsZero y) line_zero x l s));
  less = refl;
}

is_cone : ObjectType → Bool
is_cone Cone = true
is_cone of = false

no_fan : ¬ (bipyramid_thing.of ≡ Fan)
unfolding is_cone
no_fan e = true≢false (ap is_cone e)

all_three : All (λ z. z ≡ pos 3) sizes_of_facets
all_three = All_among (λ z. z ≡ pos 3) sizes_of_facets (λ z i. all_at (λ (z : ℤ). z ≡ pos 3) i (refl, (refl, (refl, (refl, (refl, (refl, tt)))))))

simplicial : Right Simplicial (truth true) bipyramid_thing bipyramid_orders []
simplicial = simplicial_by_sizes bipyramid_thing bipyramid_orders are_orders no_fan sizes_of_facets (pos 3) true [] [] [] dimension ((λ y. all_three), (λ a. refl)) facet_sizes

four_first : All (λ z. z ≡ pos 3) sizes_of_rays → ⊥
four_first h = let e : pos 4 ≡ pos 3 = h 0 (pos 0) (omega arith) in omega (arith, ints)

not_simple : Right Simple (truth false) bipyramid_thing bipyramid_orders []
not_simple = simple_by_sizes bipyramid_thing bipyramid_orders are_orders no_fan sizes_of_rays (pos 3) false [] [] [] dimension ((λ y. absurd (true≢false (sym y))), (λ a. absurd (four_first a))) ray_sizes

pub bipyramid_counts_are_read : BipyramidCountsAreRead
bipyramid_counts_are_read = record {
  thing = is_thing;
  orders = are_orders;
  incidence = (refl, side_incidence);
  more_columns = λ h. let e : 6 ≡ 5 = h.0 in omega arith;
  transposed = λ h. h.1.1.1.1.1.1;
  n_rays = n_rays;
  n_rays_refused = λ h. let e : pos 6 ≡ pos 5 = h bipyramid_orders are_orders in omega (arith, ints);
  n_facets = n_facets;
  n_facets_refused = λ h. let e : pos 5 ≡ pos 6 = h bipyramid_orders are_orders in omega (arith, ints);
  ray_sizes = ray_sizes;
  ray_sizes_refused = λ h. five_not_six (h bipyramid_orders are_orders);
  facet_sizes = facet_sizes;
  facet_sizes_refused = λ h. five_not_six (sym (h bipyramid_orders are_orders));
  dimension = dimension;
  simplicial = simplicial;
  simplicial_refused = λ h. true≢false (sym ((h bipyramid_orders are_orders).1 ((simplicial bipyramid_orders are_orders).0 refl)));
  not_simple = not_simple;
  simple_refused = λ h. true≢false (sym ((not_simple bipyramid_orders are_orders).1 ((h bipyramid_orders are_orders).0 refl)));
}
