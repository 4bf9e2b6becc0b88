-- How many facets hold each ray and how many rays each facet holds: the same in all orders, and found from right sets of the rays in each facet; simple and simplicial by these sizes.
use Rattle.pm_vector.proofs.ConeLaws.{in_cone_set}
use Rattle.pm_vector.proofs.Lists.{All_among, Among, Contains_among, among_All, among_Any, among_Contains, here, there}
use Rattle.pm_vector.proofs.Ring.{ring}
use Rattle.pm_vector.proofs.RowLaws.{dot-plus, dot-same, dot-times, dot_comm, length-opposite}
use Rattle.pm_vector.proofs.Signs.{mul_cancel}
use Rattle.pm_vector.specs.Cones.{InCone}
use Rattle.pm_vector.specs.Numbers.{Ratio}
use Rattle.pm_vector.specs.Rows.{Row, dot, opposite, plus, times}
use Rattle.pm_geom.proofs.Facets.{dot-opposite}
use Rattle.pm_geom.specs.Cones.{InLineality, IsExtreme, IsValid, SameModulo}
use Rattle.pm_geom.specs.Faces.{ray}
use Rattle.pm_geom.specs.Things.{AreConeOrders, Orders}
use Rattle.pm_object_type.specs.declared.object_type.ObjectType.TheVariants.{Cone, Fan, Polytope}
use Rattle.pm_object_type.specs.declared.object_type.ObjectType.{ObjectType}
use Rattle.pm_props.specs.declared.property.PropId.TheVariants.{CombinatorialDim, FacetSizes, NFacets, NVertices, Simple, Simplicial, VertexSizes, VerticesInFacets}
use Rattle.pm_relations.proofs.Dimensions.{dimensions_are_determined}
use Rattle.pm_relations.proofs.Orders.{Holds, as_many_facets, as_many_rays, facets_hold, holds_set, orders_total, total}
use Rattle.pm_relations.specs.Sizes.{has_place, holding, place_sizes, set_sizes}
use Rattle.pm_types.specs.Forms.{are_indices}
use Rattle.pm_types.specs.Right.{IsIncidence, IsSimplicial, IsSimplicialTruth, Right, one_if_zero, tight, vanishing}
use Rattle.pm_types.specs.Things.{AreOrders, AreOrdersOf, Thing}
use Rattle.pm_types.specs.Values.{counts, sets, truth, whole}
use Rattle.std.proofs.Common.{ap, arith, eqb, false, inl, inr, leb, ltb, refl, subst, sym, true, true≢false, ◌∙◌, ◌&&◌}
use Rattle.std.proofs.lemmas.Bool.{and_from, and_parts, cases_Bool, eq-eqb, eqb-true, le-leb, leb-true}
use Rattle.std.proofs.lemmas.Int.{ints}
use Rattle.std.specs.List.{All, Contains, list_all, range_with_len}
use Rattle.std.specs.Prelude.{Bool, IsTrue, List, [], if◌then◌else◌, length, map, suc, zero, ℕ, ◌+◌, ◌↔◌, ◌∷◌, ◌≡◌, ◌<◌, ◌≤◌, ◌||◌, ◌⊎◌}
use lib.IntN.{negsuc, pos, ℤ, ◌*ℤ◌}
use lib.Signed.{◌<ℤ◌}

-- ---- products that are 0
-- both 0 or neither
pub same_ones : (z w : ℤ) → (z ≡ pos 0 → w ≡ pos 0) → (w ≡ pos 0 → z ≡ pos 0) → one_if_zero z ≡ one_if_zero w
same_ones (pos zero) (pos zero) f g = refl
same_ones (pos zero) (pos (suc k)) f g = absurd (let e = f refl in omega (arith, ints))
same_ones (pos zero) (negsuc k) f g = absurd (let e = f refl in omega (arith, ints))
same_ones (pos (suc k)) (pos zero) f g = absurd (let e = g refl in omega (arith, ints))
same_ones (negsuc k) (pos zero) f g = absurd (let e = g refl in omega (arith, ints))
same_ones (pos (suc k)) (pos (suc l)) f g = refl
same_ones (pos (suc k)) (negsuc l) f g = refl
same_ones (negsuc k) (pos (suc l)) f g = refl
same_ones (negsuc k) (negsuc l) f g = refl

ones : (z : ℤ) → ((z ≡ pos 0) × (one_if_zero z ≡ 1)) ⊎ (¬ (z ≡ pos 0) × (one_if_zero z ≡ 0))
ones (pos zero) = inl (refl, refl)
ones (pos (suc k)) = inr ((λ e. omega (arith, ints)), refl)
ones (negsuc k) = inr ((λ e. omega (arith, ints)), refl)

pub vanishing_total : (F : List Row) (v : Row) → vanishing F v ≡ total (λ f. one_if_zero (dot v f)) F
vanishing_total [] v = refl
vanishing_total (f ∷ F) v = let e = vanishing_total F v in rw (dot_comm f v, e) refl

pub tight_total : (V : List Row) (a : Row) → tight V a ≡ total (λ v. one_if_zero (dot a v)) V
tight_total [] a = refl
tight_total (v ∷ V) a = let e = tight_total V a in rw e refl

-- a row whose products with the lineality are 0 vanishes on both of two rows that are alike, or on neither
module _ (n : ℕ) (S : Row → Type 0) (x : Row) (flat : (w : Row) → length w ≡ n → InLineality S w → dot x w ≡ pos 0) where
  scaled : (v w : Row) (s : SameModulo n S v w) → s.p *ℤ dot x w ≡ s.k *ℤ dot x v
  scaled v w s =
      let e = simp (dot-times, dot-plus) at (dot-same x (times s.p w) (plus (times s.k v) s.w) s.same.at) in
      let z = flat s.w s.cols s.line in
      omega (arith, ints)

  zero_if : (p q z w : ℤ) → pos 0 <ℤ p → p *ℤ w ≡ q *ℤ z → z ≡ pos 0 → w ≡ pos 0
  zero_if p q z w h e z0 = mul_cancel h (e ∙ simp (z0, ring) refl)

  pub alike_ones : (v w : Row) → SameModulo n S v w → one_if_zero (dot x v) ≡ one_if_zero (dot x w)
  alike_ones v w s = same_ones (dot x v) (dot x w)
      (λ e. zero_if s.p s.k (dot x v) (dot x w) s.p_positive (scaled v w s) e)
      (λ e. zero_if s.k s.p (dot x w) (dot x v) s.k_positive (sym (scaled v w s)) e)

-- ---- sizes are the same in all orders of a cone
module _ (n : ℕ) (G L : List Row) where
  flat_facet : (a : Row) → IsValid n G L a → (w : Row) → length w ≡ n → InLineality (InCone G L) w → dot a w ≡ pos 0
  flat_facet a v w l h =
      let up = v.holds w l h.inside in
      let down = rw dot-opposite at (v.holds (opposite w) (length-opposite w ∙ l) h.opposed) in
      omega (arith, ints)

  flat_ray : (v : Row) → length v ≡ n → InCone G L v → (e : Row) → length e ≡ n → InLineality (Holds n G L) e → dot v e ≡ pos 0
  flat_ray v l i e c h =
      let up = rw (dot_comm e v) at (h.inside v l i) in
      let down = rw (dot_comm (opposite e) v, dot-opposite) at (h.opposed v l i) in
      omega (arith, ints)

  -- a facet row vanishes on as many rows of each order of the rays, and on rows alike as often
  pub tight_alike : (V : List Row) (a b : Row) → IsValid n G L a → IsValid n G L b → SameModulo n (Holds n G L) a b → ((v : Row) → Among v V → (length v ≡ n) × InCone G L v) → tight V a ≡ tight V b
  tight_alike [] a b p q s f = refl
  tight_alike (v ∷ V) a b p q s f =
      let i = f v here in
      let e = alike_ones n (Holds n G L) v (flat_ray v i.0 i.1) a b s in
      let r = tight_alike V a b p q s (λ w j. f w (there j)) in
      rw (dot_comm a v, dot_comm b v, e, r) refl

  pub vanishing_alike : (F : List Row) (v w : Row) → SameModulo n (InCone G L) v w → ((a : Row) → Among a F → IsValid n G L a) → vanishing F v ≡ vanishing F w
  vanishing_alike [] v w s f = refl
  vanishing_alike (a ∷ F) v w s f =
      let e = alike_ones n (InCone G L) a (flat_facet a (f a here)) v w s in
      let r = vanishing_alike F v w s (λ b j. f b (there j)) in
      rw (e, r) refl

  module _ (o p : Orders) (h : AreConeOrders n G L o) (k : AreConeOrders n G L p) where
    pub vanishing_same : (v : Row) → length v ≡ n → InCone G L v → vanishing o.facets v ≡ vanishing p.facets v
    vanishing_same v l i =
        vanishing_total o.facets v
        ∙ orders_total n (Holds n G L) (holds_set n G L) o.facets p.facets (facets_hold n G L o.facets h.facets) (facets_hold n G L p.facets k.facets) (λ f. one_if_zero (dot v f)) (λ f g i' j s. alike_ones n (Holds n G L) v (flat_ray v l i) f g s)
        ∙ sym (vanishing_total p.facets v)

    pub tight_same : (a : Row) → IsValid n G L a → tight o.rays a ≡ tight p.rays a
    tight_same a v =
        tight_total o.rays a
        ∙ orders_total n (InCone G L) (in_cone_set G L) o.rays p.rays h.rays k.rays (λ x. one_if_zero (dot a x)) (λ x y i j s. alike_ones n (InCone G L) a (flat_facet a v) x y s)
        ∙ sym (tight_total p.rays a)

-- ---- the number of places in a set
abbrev Lists : ℕ → Row → List Row → List ℕ → Type 0
Lists low f V r = (j : ℕ) → Among j r ↔ ((i : ℕ) × (j ≡ low + i) × (i < length V) × (dot f (ray V i) ≡ pos 0))

pub record Next (n low j : ℕ) (r : List ℕ) : Type 0 where
  pub above : low ≤ j
  pub rest : are_indices n (suc j) r ≡ true

pub next : (n low j : ℕ) (r : List ℕ) → are_indices n low (j ∷ r) ≡ true → Next n low j r
next n low j r h =
    let p = and_parts (leb low j && ltb j n) (are_indices n (suc j) r) h in
    let q = and_parts (leb low j) (ltb j n) p.0 in
    record { above = leb-true low j q.0; rest = p.1 }

first_or_later : {x y : ℕ} {xs : List ℕ} → Among x (y ∷ xs) → (x ≡ y) ⊎ Among x xs
first_or_later here = inl refl
first_or_later (there i) = inr i

all_above : (n low : ℕ) (r : List ℕ) → are_indices n low r ≡ true → {j : ℕ} → Among j r → low ≤ j
all_above n low [] h i = elim i [ ]
all_above n low (k ∷ r) h here = (next n low k r h).above
all_above n low (k ∷ r) h (there i) =
    let a = (next n low k r h).above in
    let b = all_above n (suc k) r (next n low k r h).rest i in
    omega arith

-- from the next place on, where the first is not in the set
higher : (n low : ℕ) (r : List ℕ) → are_indices n low r ≡ true → ¬ (Among low r) → are_indices n (suc low) r ≡ true
higher n low [] h none = refl
higher n low (j ∷ r) h none =
    let p = and_parts (leb low j && ltb j n) (are_indices n (suc j) r) h in
    let q = and_parts (leb low j) (ltb j n) p.0 in
    let above = leb-true low j q.0 in
    let other : ¬ (j ≡ low) = λ e. none (subst (λ k. Among k (j ∷ r)) e here) in
    and_from (leb (suc low) j && ltb j n) (are_indices n (suc j) r) (and_from (leb (suc low) j) (ltb j n) (le-leb (suc low) j (omega (arith, other))) q.1) p.1

-- the places but the first
lists_on : (n low : ℕ) (f v : Row) (V : List Row) (r : List ℕ) → are_indices n (suc low) r ≡ true → Lists low f (v ∷ V) (low ∷ r) → Lists (suc low) f V r
lists_on n low f v V r asc h j = (
  λ i.
      let w = (h j).0 (there i) in
      let above = all_above n (suc low) r asc i in
      later w above,
  λ (i, e, l, z). tail ((h j).1 (suc i, (omega arith), (omega arith), z)) (omega arith),
)
  where
    later : (i : ℕ) × (j ≡ low + i) × (i < length (v ∷ V)) × (dot f (ray (v ∷ V) i) ≡ pos 0) → suc low ≤ j → (i : ℕ) × (j ≡ suc low + i) × (i < length V) × (dot f (ray V i) ≡ pos 0)
    later (zero, e, l, z) a = absurd (omega arith)
    later (suc i, e, l, z) a = (i, (omega arith), (omega arith), z)

    tail : Among j (low ∷ r) → suc low ≤ j → Among j r
    tail i a = elim (first_or_later i) [ inl e ↦ absurd (omega arith) | inr k ↦ k ]

-- the places, where the first row is not among them
lists_past : (low : ℕ) (f v : Row) (V : List Row) (r : List ℕ) → ¬ (dot f v ≡ pos 0) → Lists low f (v ∷ V) r → Lists (suc low) f V r
lists_past low f v V r other h j = (
  λ i. later ((h j).0 i),
  λ (i, e, l, z). (h j).1 (suc i, (omega arith), (omega arith), z),
)
  where
    later : (i : ℕ) × (j ≡ low + i) × (i < length (v ∷ V)) × (dot f (ray (v ∷ V) i) ≡ pos 0) → (i : ℕ) × (j ≡ suc low + i) × (i < length V) × (dot f (ray V i) ≡ pos 0)
    later (zero, e, l, z) = absurd (other z)
    later (suc i, e, l, z) = (i, (omega arith), (omega arith), z)

first_in : (n low : ℕ) (f v : Row) (V : List Row) (r : List ℕ) → are_indices n low r ≡ true → Lists low f (v ∷ V) r → dot f v ≡ pos 0 → (s : List ℕ) × (r ≡ low ∷ s) × (are_indices n (suc low) s ≡ true)
first_in n low f v V [] asc h z = elim ((h low).1 (0, (omega arith), (omega arith), z)) [ ]
first_in n low f v V (j ∷ r) asc h z =
    let x = next n low j r asc in
    let above = x.above in
    let same : j ≡ low = at ((h low).1 (0, (omega arith), (omega arith), z)) in
    (r, ap (λ k. k ∷ r) same, subst (λ k. are_indices n (suc k) r ≡ true) same x.rest)
  where
    at : Among low (j ∷ r) → j ≡ low
    at i = elim (first_or_later i) [
      | inl e ↦ sym e
      | inr k ↦
          let x = next n low j r asc in
          let above = x.above in
          let more = all_above n (suc j) r x.rest k in
          absurd (omega arith)
    ]

-- an ascending set with exactly the places at which f vanishes has as many as there are such rows
size : (n low : ℕ) (f : Row) (V : List Row) (r : List ℕ) → are_indices n low r ≡ true → Lists low f V r → length r ≡ tight V f
size n low f [] [] asc h = refl
size n low f [] (j ∷ r) asc h = absurd (let l = ((h j).0 here).2 in omega arith)
size n low f (v ∷ V) r asc h = elim (ones (dot f v)) [
  | inl w ↦
      let (s, e, up) = first_in n low f v V r asc h w.0 in
      let rest = size n (suc low) f V s up (lists_on n low f v V s up (subst (Lists low f (v ∷ V)) e h)) in
      let l = ap length e in
      let one = w.1 in
      let sum : length r ≡ one_if_zero (dot f v) + tight V f = omega arith in
      sum
  | inr w ↦
      let none : ¬ (Among low r) = λ i. not_first i w.0 in
      let rest = size n (suc low) f V r (higher n low r asc none) (lists_past low f v V r w.0 h) in
      let nothing = w.1 in
      let sum : length r ≡ one_if_zero (dot f v) + tight V f = omega arith in
      sum
]
  where
    not_first : Among low r → ¬ (dot f v ≡ pos 0) → ⊥
    not_first i other = at ((h low).0 i) other
      where
        at : (i : ℕ) × (low ≡ low + i) × (i < length (v ∷ V)) × (dot f (ray (v ∷ V) i) ≡ pos 0) → ¬ (dot f v ≡ pos 0) → ⊥
        at (zero, e, l, z) other = other z
        at (suc i, e, l, z) other = omega arith

-- ---- sizes from right sets
facet_size : (n : ℕ) (f : Row) (V : List Row) (r : List ℕ) → are_indices n 0 r ≡ true → ((j : ℕ) → Contains r j ↔ ((j < length V) × (dot f (ray V j) ≡ pos 0))) → length r ≡ tight V f
facet_size n f V r asc h = size n 0 f V r asc (λ j. (
  λ i. let w = (h j).0 (Contains_among i) in (j, (omega arith), w.0, w.1),
  λ (i, e, l, z).
      let same : i ≡ j = omega arith in
      among_Contains r ((h j).1 (subst (λ k. (k < length V) × (dot f (ray V k) ≡ pos 0)) same (l, z))),
))

facet_sizes : (n : ℕ) (F V : List Row) (rows : List (List ℕ)) → IsIncidence F V rows → list_all (are_indices n 0) rows ≡ true → set_sizes rows ≡ map (λ a. pos (tight V a)) F
facet_sizes n [] V [] h asc = refl
facet_sizes n [] V (r ∷ rows) h asc = absurd h
facet_sizes n (f ∷ F) V [] h asc = absurd h
facet_sizes n (f ∷ F) V (r ∷ rows) h asc =
    let p = and_parts (are_indices n 0 r) (list_all (are_indices n 0) rows) asc in
    let one = facet_size n f V r p.0 h.0 in
    let rest = facet_sizes n F V rows h.1 p.1 in
    rw (one, rest) refl

place_in : (j : ℕ) (r : List ℕ) → has_place j r ≡ true → Among j r
place_in j [] h = absurd (true≢false (sym h))
place_in j (k ∷ r) h = elim (cases_Bool (eqb k j)) [
  | inl e ↦ let same = eqb-true k j e in subst (λ z. Among z (k ∷ r)) same here
  | inr e ↦ there (place_in j r (rw e at h))
]

in_place : (j : ℕ) (r : List ℕ) → Among j r → has_place j r ≡ true
in_place j [] i = elim i [ ]
in_place j (k ∷ r) here = let e = eq-eqb k k refl in rw e refl
in_place j (k ∷ r) (there i) = let e = in_place j r i in rw e (or_true (eqb k j))
  where
    or_true : (b : Bool) → (b || true) ≡ true
    or_true true = refl
    or_true false = refl

one_in : (f v : Row) (j : ℕ) (r : List ℕ) → Contains r j ↔ (dot f v ≡ pos 0) → (if has_place j r then 1 else 0) ≡ one_if_zero (dot f v)
one_in f v j r h = elim (ones (dot f v)) [
  | inl w ↦ let e = in_place j r (among_Contains r (h.1 w.0)) in rw (e, w.1) refl
  | inr w ↦ elim (cases_Bool (has_place j r)) [
    | inl e ↦ absurd (w.0 (h.0 (Contains_among (place_in j r e))))
    | inr e ↦ rw (e, w.1) refl
  ]
]

holding_is : (F V : List Row) (rows : List (List ℕ)) (j : ℕ) → j < length V → IsIncidence F V rows → holding rows j ≡ vanishing F (ray V j)
holding_is [] V [] j l h = refl
holding_is [] V (r ∷ rows) j l h = absurd h
holding_is (f ∷ F) V [] j l h = absurd h
holding_is (f ∷ F) V (r ∷ rows) j l h =
    let one = one_in f (ray V j) j r ((λ c. ((h.0 j).0 c).1), (λ z. (h.0 j).1 (l, z))) in
    let rest = holding_is F V rows j l h.1 in
    rw (one, rest) refl

ray_sizes_from : (F W : List Row) (rows : List (List ℕ)) (k : ℕ) → ((i : ℕ) → i < length W → holding rows (k + i) ≡ vanishing F (ray W i)) → map (λ j. pos (holding rows j)) (range_with_len k (length W)) ≡ map (λ v. pos (vanishing F v)) W
ray_sizes_from F [] rows k h = refl
ray_sizes_from F (w ∷ W) rows k h =
    let first : holding rows k ≡ vanishing F w = ap (holding rows) (let e : k ≡ k + 0 = omega arith in e) ∙ h 0 (omega arith) in
    let rest = ray_sizes_from F W rows (k + 1) (λ i l. ap (holding rows) (let e : (k + 1) + i ≡ k + suc i = omega arith in e) ∙ h (suc i) (omega arith)) in
    rw (first, rest) refl

map_same : (f g : Row → ℤ) (V : List Row) → ((v : Row) → Among v V → f v ≡ g v) → map f V ≡ map g V
map_same f g [] h = refl
map_same f g (v ∷ V) h =
    let one = h v here in
    let rest = map_same f g V (λ w i. h w (there i)) in
    rw (one, rest) refl

-- ---- sizes of a cone's orders
module _ (n : ℕ) (G L : List Row) (o p : Orders) (h : AreConeOrders n G L o) (k : AreConeOrders n G L p) (rows : List (List ℕ)) (sets : IsIncidence o.facets o.rays rows) where
  ray_of : (V : List Row) → All (λ v. IsExtreme n (InCone G L) v) V → (v : Row) → Among v V → (length v ≡ n) × InCone G L v
  ray_of V each v i = let e = among_All (λ v. IsExtreme n (InCone G L) v) i each in (e.cols, e.inside)

  ray_sizes_are : place_sizes rows (length o.rays) ≡ map (λ v. pos (vanishing p.facets v)) o.rays
  ray_sizes_are =
      ray_sizes_from o.facets o.rays rows 0 (λ i l. ap (holding rows) (let e : 0 + i ≡ i = omega arith in e) ∙ holding_is o.facets o.rays rows i l sets)
      ∙ map_same (λ v. pos (vanishing o.facets v)) (λ v. pos (vanishing p.facets v)) o.rays (λ v i. let w = ray_of o.rays h.rays.each v i in ap pos (vanishing_same n G L o p h k v w.0 w.1))

  facet_sizes_are : (m : ℕ) → list_all (are_indices m 0) rows ≡ true → set_sizes rows ≡ map (λ a. pos (tight p.rays a)) o.facets
  facet_sizes_are m asc =
      facet_sizes m o.facets o.rays rows sets asc
      ∙ map_same (λ a. pos (tight o.rays a)) (λ a. pos (tight p.rays a)) o.facets (λ a i. ap pos (tight_same n G L o p h k a (among_All (λ a. IsExtreme n (IsValid n G L) a) i h.facets.each).inside))

incidence_length : (F V : List Row) (rows : List (List ℕ)) → IsIncidence F V rows → length rows ≡ length F
incidence_length [] V [] h = refl
incidence_length [] V (r ∷ rows) h = absurd h
incidence_length (f ∷ F) V [] h = absurd h
incidence_length (f ∷ F) V (r ∷ rows) h = ap suc (incidence_length F V rows h.1)

-- ---- a thing
module _ (t : Thing) (o : Orders) (orders : AreOrders t o) (rows : List (List ℕ)) (n : ℕ) (c : List Ratio) (right : Right VerticesInFacets (sets rows n) t o c) (d : List Ratio) where
  -- the column count is the number of rays, and there are as many sets as facets
  pub rays_of_sets : Right NVertices (whole (pos n)) t o d
  rays_of_sets p q = ap pos (right.0 ∙ as_many_rays t o p orders q)

  pub facets_of_sets : Right NFacets (whole (pos (length rows))) t o d
  facets_of_sets p q = ap pos (incidence_length o.facets o.rays rows right.1 ∙ as_many_facets t o p orders q)

  module _ (no_fan : ¬ (t.of ≡ Fan)) where
    -- a place has the size of its ray, and a set the size of its facet
    pub sizes_of_rays : Right VertexSizes (counts (place_sizes rows n)) t o d
    sizes_of_rays p q = ap (place_sizes rows) right.0 ∙ by t.of refl orders q
      where
        by : (of : ObjectType) → t.of ≡ of → AreOrdersOf of t.cols t.generators t.lines t.cones o → AreOrdersOf of t.cols t.generators t.lines t.cones p → place_sizes rows (length o.rays) ≡ map (λ v. pos (vanishing p.facets v)) o.rays
        by Polytope e a b = ray_sizes_are t.cols t.generators t.lines o p a b rows right.1
        by Cone e a b = ray_sizes_are t.cols t.generators t.lines o p a b rows right.1
        by Fan e a b = absurd (no_fan e)

    pub sizes_of_facets : (m : ℕ) → list_all (are_indices m 0) rows ≡ true → Right FacetSizes (counts (set_sizes rows)) t o d
    sizes_of_facets m asc p q = by t.of refl orders q
      where
        by : (of : ObjectType) → t.of ≡ of → AreOrdersOf of t.cols t.generators t.lines t.cones o → AreOrdersOf of t.cols t.generators t.lines t.cones p → set_sizes rows ≡ map (λ a. pos (tight p.rays a)) o.facets
        by Polytope e a b = facet_sizes_are t.cols t.generators t.lines o p a b rows right.1 m asc
        by Cone e a b = facet_sizes_are t.cols t.generators t.lines o p a b rows right.1 m asc
        by Fan e a b = absurd (no_fan e)

-- ---- simple and simplicial
whole_is : {k l : ℤ} → whole k ≡ whole l → k ≡ l
whole_is h = cc

mapped_all : (f : Row → ℤ) (k : ℤ) (V : List Row) → All (λ z. z ≡ k) (map f V) → (v : Row) → Among v V → f v ≡ k
mapped_all f k [] h w i = elim i [ ]
mapped_all f k (v ∷ V) h w here = h 0 (f v) (omega arith)
mapped_all f k (v ∷ V) h w (there i) = mapped_all f k V (λ j d l. h (suc j) d (omega arith)) w i

all_mapped : (f : Row → ℤ) (k : ℤ) (V : List Row) → ((v : Row) → Among v V → f v ≡ k) → All (λ z. z ≡ k) (map f V)
all_mapped f k [] h = λ i d l. absurd (omega arith)
all_mapped f k (v ∷ V) h = all_cons (f v) (map f V) (h v here) (all_mapped f k V (λ w i. h w (there i)))
  where
    all_cons : (z : ℤ) (zs : List ℤ) → z ≡ k → All (λ z. z ≡ k) zs → All (λ z. z ≡ k) (z ∷ zs)
    all_cons z zs e f zero d l = e
    all_cons z zs e f (suc i) d l = f i d (omega arith)

module _ (t : Thing) (o : Orders) (orders : AreOrders t o) (no_fan : ¬ (t.of ≡ Fan)) (ks : List ℤ) (k : ℤ) (b : Bool) (c d e : List Ratio) (dim : Right CombinatorialDim (whole k) t o d) (says : IsTrue b ↔ All (λ z. z ≡ k) ks) where
  dim_is : (l : ℤ) → Right CombinatorialDim (whole l) t o d → l ≡ k
  dim_is l h = whole_is ((dimensions_are_determined t).2 (whole l) (whole k) o o d d h dim)

  module _ (p : Orders) (q : AreOrders t p) where
    -- rows that are alike are on as many facets, and hold as many rays
    rays_as : (x y : Orders) → AreOrders t x → AreOrders t y → ((v : Row) → Among v x.rays → pos (vanishing p.facets v) ≡ k) → (w : Row) → Among w y.rays → pos (vanishing p.facets w) ≡ k
    rays_as x y r s h w i = by t.of refl r s q
      where
        cone : AreConeOrders t.cols t.generators t.lines x → AreConeOrders t.cols t.generators t.lines y → AreConeOrders t.cols t.generators t.lines p → pos (vanishing p.facets w) ≡ k
        cone a b r =
            let like = among_Any (λ v. SameModulo t.cols (InCone t.generators t.lines) w v) x.rays (a.rays.all w (among_All (λ v. IsExtreme t.cols (InCone t.generators t.lines) v) i b.rays.each)) in
            ap pos (vanishing_alike t.cols t.generators t.lines p.facets w like.0 like.2 (λ f j. (among_All (λ f. IsExtreme t.cols (IsValid t.cols t.generators t.lines) f) j r.facets.each).inside)) ∙ h like.0 like.1

        by : (of : ObjectType) → t.of ≡ of → AreOrdersOf of t.cols t.generators t.lines t.cones x → AreOrdersOf of t.cols t.generators t.lines t.cones y → AreOrdersOf of t.cols t.generators t.lines t.cones p → pos (vanishing p.facets w) ≡ k
        by Polytope e a b r = cone a b r
        by Cone e a b r = cone a b r
        by Fan e a b r = absurd (no_fan e)

    facets_as : (x y : Orders) → AreOrders t x → AreOrders t y → ((a : Row) → Among a x.facets → pos (tight p.rays a) ≡ k) → (a : Row) → Among a y.facets → pos (tight p.rays a) ≡ k
    facets_as x y r s h w i = by t.of refl r s q
      where
        cone : AreConeOrders t.cols t.generators t.lines x → AreConeOrders t.cols t.generators t.lines y → AreConeOrders t.cols t.generators t.lines p → pos (tight p.rays w) ≡ k
        cone a b r =
            let S = Holds t.cols t.generators t.lines in
            let of_x = facets_hold t.cols t.generators t.lines x.facets a.facets in
            let of_y = facets_hold t.cols t.generators t.lines y.facets b.facets in
            let extreme = among_All (λ f. IsExtreme t.cols S f) i of_y.each in
            let like = among_Any (λ f. SameModulo t.cols S w f) x.facets (of_x.all w extreme) in
            let other = among_All (λ f. IsExtreme t.cols (IsValid t.cols t.generators t.lines) f) like.1 a.facets.each in
            let own = among_All (λ f. IsExtreme t.cols (IsValid t.cols t.generators t.lines) f) i b.facets.each in
            ap pos (tight_alike t.cols t.generators t.lines p.rays w like.0 own.inside other.inside like.2 (λ v j. let u = among_All (λ v. IsExtreme t.cols (InCone t.generators t.lines) v) j r.rays.each in (u.cols, u.inside))) ∙ h like.0 like.1

        by : (of : ObjectType) → t.of ≡ of → AreOrdersOf of t.cols t.generators t.lines t.cones x → AreOrdersOf of t.cols t.generators t.lines t.cones y → AreOrdersOf of t.cols t.generators t.lines t.cones p → pos (tight p.rays w) ≡ k
        by Polytope e a b r = cone a b r
        by Cone e a b r = cone a b r
        by Fan e a b r = absurd (no_fan e)

  -- simple: each ray is on as many facets as the dimension says
  pub simple_by_sizes : Right VertexSizes (counts ks) t o c → Right Simple (truth b) t o e
  simple_by_sizes sizes p q = (
    λ y.
        let all = subst (λ zs. All (λ z. z ≡ k) zs) (sizes p q) (says.0 y) in
        record { d = k; dim = dim; sizes = All_among (λ v. pos (vanishing p.facets v) ≡ k) p.rays (rays_as p q o p orders q (mapped_all (λ v. pos (vanishing p.facets v)) k o.rays all)) },
    λ s.
        let same = dim_is s.d s.dim in
        let own : (v : Row) → Among v p.rays → pos (vanishing p.facets v) ≡ k = λ v i. among_All (λ v. pos (vanishing p.facets v) ≡ s.d) i s.sizes ∙ same in
        says.1 (subst (λ zs. All (λ z. z ≡ k) zs) (sym (sizes p q)) (all_mapped (λ v. pos (vanishing p.facets v)) k o.rays (rays_as p q p o q orders own))),
  )

  -- simplicial: each facet holds as many rays as the dimension says
  pub simplicial_by_sizes : Right FacetSizes (counts ks) t o c → Right Simplicial (truth b) t o e
  simplicial_by_sizes sizes = by t.of refl
    where
      of_facets : (p : Orders) → AreOrders t p → IsTrue b ↔ IsSimplicial t p
      of_facets p q = (
        λ y.
            let all = subst (λ zs. All (λ z. z ≡ k) zs) (sizes p q) (says.0 y) in
            record { d = k; dim = dim; sizes = All_among (λ a. pos (tight p.rays a) ≡ k) p.facets (facets_as p q o p orders q (mapped_all (λ a. pos (tight p.rays a)) k o.facets all)) },
        λ s.
            let same = dim_is s.d s.dim in
            let own : (a : Row) → Among a p.facets → pos (tight p.rays a) ≡ k = λ a i. among_All (λ a. pos (tight p.rays a) ≡ s.d) i s.sizes ∙ same in
            says.1 (subst (λ zs. All (λ z. z ≡ k) zs) (sym (sizes p q)) (all_mapped (λ a. pos (tight p.rays a)) k o.facets (facets_as p q p o q orders own))),
      )

      by : (of : ObjectType) → t.of ≡ of → IsSimplicialTruth of t b
      by Polytope e = of_facets
      by Cone e = of_facets
      by Fan e = absurd (no_fan e)
