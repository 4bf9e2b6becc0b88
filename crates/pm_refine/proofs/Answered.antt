-- From the parts to the call on two fans.
use Rattle.pm_vector.proofs.Lists.{All_among, all_at, all_from, among_All, among_Any, among_Contains}
use Rattle.pm_vector.specs.Rows.{HasCols, Row}
use Rattle.pm_geom.specs.Cones.{IsExtreme}
use Rattle.pm_geom.specs.Generators.{AreGenerators, IsBefore, IsCanonicalRay, VanishAt}
use Rattle.pm_geom.specs.declared.evidence.Evidence.{Evidence}
use Rattle.pm_geom.specs.declared.evidence.Evidence.TheVariants.{E4}
use Rattle.pm_laws_normal_fans.proofs.Places.{map_length, no_pairs, place_at}
use Rattle.pm_laws_normal_fans.proofs.RefinedRays.{refined_rays_are_orders}
use Rattle.pm_laws_normal_fans.proofs.Refinements.{kept_are_refinement}
use Rattle.pm_laws_normal_fans.specs.Fans.{Fan, InIntersection, IsFan}
use Rattle.pm_laws_normal_fans.specs.Refinements.{AreAllIntersections, AreAllRays, AreKeptIntersections, HasRefinedRays, Intersection, IsEarlier, IsIntersection, IsWithin}
use Rattle.pm_vector.specs.Divisors.{IsPrimitive}
use Rattle.pm_refine.proofs.Cuts.{few_rows}
use Rattle.pm_refine.proofs.Found.{found_kept, is_intersection, placed}
use Rattle.pm_refine.specs.CutRows.{AreFacetsOf, CutRows, IsRowOf, IsSmallFan, cuts_at, fan_from}
use Rattle.pm_refine.specs.Fails.{IsConeFail, IsFacetRowOf, IsRefineFail, IsStepFail, IsWideCut, IsWideRay, turned}
use Rattle.pm_refine.specs.Refined.{AreRaySets, AreRefined}
use Rattle.pm_refine.specs.Steps.{AreKeptBefore, IsCutOutBy, IsPlaced}
use Rattle.pm_refine.specs.declared.fails.RefineFail.{RefineFail}
use Rattle.pm_refine.specs.declared.fails.RefineFail.TheVariants.{Memory, NotMade}
use Rattle.std.proofs.Common.{arith, inl, inr, refl, subst, sym}
use Rattle.std.specs.List.{All, Any, Contains}
use Rattle.std.specs.Prelude.{List, [], length, map, ℕ, ◌<◌, ◌≡◌, ◌≤◌, ◌⊎◌}

pub turned_twice : {A : Type 0} (items : A → List Row) (n : ℕ) (cones : List A) (lines : List Row) (f : RefineFail) → IsConeFail n (fan_from (map items cones) lines) f → IsConeFail n (fan_from (map items cones) lines) (turned (turned f))
turned_twice items n cones lines (NotMade i j e) h = h
turned_twice items n cones lines Memory h = h

-- ---- refusals
-- of the cones of the first fan, where the second has some cone; and of those of the second, where the first has one
pub first_fail : (n : ℕ) (f g : Fan) (e : RefineFail) → 0 < length g.cones → IsConeFail n f e → IsRefineFail n f g e
first_fail n f g (NotMade i j e) some h = let z = h.1 in (h.0, omega arith, inl (inl h.2))
first_fail n f g Memory some h = tt

pub second_fail : (n : ℕ) (f g : Fan) (e : RefineFail) → 0 < length f.cones → IsConeFail n g (turned e) → IsRefineFail n f g e
second_fail n f g (NotMade i j e) some h = let z = h.1 in (omega arith, h.0, inl (inr h.2))
second_fail n f g Memory some h = tt

module _ (n : ℕ) (f : Fan) (C : List CutRows) (are : AreFacetsOf n f C) where
  facet_row : (r : Row) → Any (λ c. IsRowOf c r) C → IsFacetRowOf n f r
  facet_row r w =
      let (c, ic, h) = among_Any (λ c. IsRowOf c r) C w in
      let (k, l, e) = place_at (record { facets = []; hull = [] }) C ic in
      let m = are.as_many in
      record { place = k; within = omega arith; facets = (cuts_at C k).facets; hull = (cuts_at C k).hull; are = are.each k (omega arith); row = subst (λ z. IsRowOf z r) (sym e) h }

module _ (n : ℕ) (f g : Fan) (C D : List CutRows) (sf : IsSmallFan n f) (sg : IsSmallFan n g) (af : AreFacetsOf n f C) (ag : AreFacetsOf n g D) where
  canonical : (S : Row → Type 0) (V K : List Row) (x : Row) → AreGenerators n S V K → Contains V x → IsCanonicalRay n S x
  canonical S V K x g c = let i = among_Contains V c in record {
    lines = K;
    pivots = g.pivots;
    basis = g.basis;
    extreme = among_All (λ v. IsExtreme n S v) i g.order.each;
    primitive = among_All IsPrimitive i g.primitive;
    reduced = among_All (VanishAt g.pivots) i g.reduced;
  }

  wide_ray : (i j : ℕ) (e : Evidence) → IsWideCut n C D i j e → IsWideRay n f g i j e
  wide_ray i j (E4 x r) h =
      let (rays, K, c, cx) = h.0 in
      let m = is_intersection n f g C D sf sg af ag K (record { first = i; second = j; rays = rays }) c in
      (canonical (InIntersection f g i j) rays K x m.generators cx, elim h.1 [ inl w ↦ inl (facet_row n f C af r w) | inr w ↦ inr (facet_row n g D ag r w) ], h.2)
  wide_ray i j e h = absurd h

  pub step_fail : (e : RefineFail) → IsStepFail n C D e → IsRefineFail n f g e
  step_fail (NotMade i j e) h =
      let m = af.as_many in
      let p = ag.as_many in
      let li : i < length f.cones = (let l = h.0 in omega arith) in
      let lj : j < length g.cones = (let l = h.1 in omega arith) in (
        li,
        lj,
        inr (elim h.2 [
          | inl s ↦ inl (record { first_facets = (cuts_at C i).facets; first_hull = (cuts_at C i).hull; second_facets = (cuts_at D j).facets; second_hull = (cuts_at D j).hull; first = af.each i li; second = ag.each j lj; shown = s })
          | inr w ↦ inr (wide_ray i j e w)
        ]),
      )
  step_fail Memory h = tt

-- ---- where a fan has no cone
module _ (n : ℕ) (f g : Fan) (none : (i j : ℕ) → i < length f.cones → j < length g.cones → ⊥) where
  empty : AreAllIntersections n f g [] []
  empty = record {
    each = All_among (IsIntersection n f g []) [] (λ a i. elim i [ ]);
    all = λ i j li lj. absurd (none i j li lj);
    ordered = no_pairs IsEarlier;
  }

  kept : AreKeptIntersections n f g [] []
  kept = record {
    some = All_among (Contains []) [] (λ a i. elim i [ ]);
    cover = All_among (λ b. Any (λ a. IsWithin n f g b a × (IsWithin n f g a b → ¬ (IsEarlier b a))) []) [] (λ b i. elim i [ ]);
    once = no_pairs (λ a b. IsEarlier a b × ¬ (IsWithin n f g a b) × ¬ (IsWithin n f g b a));
  }

  pub refined_none : IsFan n f → IsFan n g → AreRefined n f g [] []
  refined_none ff fg = record { listed = []; all = empty; maximal = kept; lines = λ e. refl; refined = kept_are_refinement n f g [] [] [] ff fg empty kept (λ e. refl) }

pub no_rays : AreAllRays [] []
no_rays = record {
  each = All_among (λ r. Any (λ a. Contains a.rays r) []) [] (λ r i. elim i [ ]);
  all = All_among (λ a. All (λ r. Contains [] r) a.rays) [] (λ a i. elim i [ ]);
  ascending = no_pairs IsBefore;
}

pub no_sets : AreRaySets [] [] []
no_sets = record { as_many = refl; each = λ k a l. absurd (omega arith) }

-- ---- fans that are given by lists
module _ {A : Type 0} (items : A → List Row) (n : ℕ) (first second : List A) (ls ms : List Row) where
  pub refined_empty : (K : List Row) (kept : List Intersection) → (length first ≡ 0) ⊎ (length second ≡ 0) → K ≡ [] → kept ≡ [] → IsFan n (fan_from (map items first) ls) → IsFan n (fan_from (map items second) ms) → AreRefined n (fan_from (map items first) ls) (fan_from (map items second) ms) K kept
  refined_empty K kept none ek el ff fg =
      let e = map_length items first in
      let d = map_length items second in
      rw (ek, el) (refined_none n (fan_from (map items first) ls) (fan_from (map items second) ms) (λ i j li lj. elim none [ inl z ↦ absurd (omega arith) | inr z ↦ absurd (omega arith) ]) ff fg)

  pub first_refused : (e : RefineFail) → (length second ≡ 0 → ⊥) → IsConeFail n (fan_from (map items first) ls) e → IsRefineFail n (fan_from (map items first) ls) (fan_from (map items second) ms) e
  first_refused e some h = first_fail n (fan_from (map items first) ls) (fan_from (map items second) ms) e (let d = map_length items second in omega arith) h

  pub second_refused : (e : RefineFail) → (length first ≡ 0 → ⊥) → IsConeFail n (fan_from (map items second) ms) (turned e) → IsRefineFail n (fan_from (map items first) ls) (fan_from (map items second) ms) e
  second_refused e some h = second_fail n (fan_from (map items first) ls) (fan_from (map items second) ms) e (let d = map_length items first in omega arith) h

-- what is kept has rays of n entries
pub kept_cols : (n : ℕ) (C D : List CutRows) (i j : ℕ) (K : List Row) (kept : List Intersection) → AreKeptBefore n C D i j K kept → All (λ a. HasCols n a.rays) kept
kept_cols n C D i j K kept k = All_among (λ a. HasCols n a.rays) kept (λ a ia. (among_All (IsPlaced n C D) ia (placed n C D i j K kept k)).cols)

-- so do all rays, and the lines
pub rays_cols : (n : ℕ) (kept : List Intersection) (R : List Row) → All (λ a. HasCols n a.rays) kept → AreAllRays kept R → HasCols n R
rays_cols n kept R h all = all_from (λ x. length x ≡ n) R (λ r i.
    let (a, ia, c) = among_Any (λ a. Contains a.rays r) kept (among_All (λ r. Any (λ a. Contains a.rays r) kept) i all.each) in
    all_at (λ (x : Row). length x ≡ n) (among_Contains a.rays c) (among_All (λ a. HasCols n a.rays) ia h))

pub lines_cols : (n : ℕ) (C D : List CutRows) (i j : ℕ) (K : List Row) (kept : List Intersection) → AreKeptBefore n C D i j K kept → HasCols n K
lines_cols n C D i j K kept k = elim k.lines [
  | inl none ↦ rw none.1 tt
  | inr w ↦ (let (a, ia, c) = among_Any (IsCutOutBy n C D K) k.listed w in c.generators.basis.echelon.basis.cols)
]

pub no_cols : (n : ℕ) (R K : List Row) → R ≡ [] → K ≡ [] → HasCols n R × HasCols n K
no_cols n R K e f = rw (e, f) (tt, tt)

-- all rays are primitive
pub rays_primitive : (n : ℕ) (C D : List CutRows) (i j : ℕ) (K : List Row) (kept : List Intersection) (R : List Row) → AreKeptBefore n C D i j K kept → AreAllRays kept R → All IsPrimitive R
rays_primitive n C D i j K kept R k all = All_among IsPrimitive R (λ r ir.
    let (a, ia, c) = among_Any (λ a. Contains a.rays r) kept (among_All (λ r. Any (λ a. Contains a.rays r) kept) ir all.each) in
    let (L, f) = found_kept n C D i j K kept k a ia in
    among_All IsPrimitive (among_Contains a.rays c) f.generators.primitive)

-- there are no more lines than columns
pub lines_few : (n : ℕ) (C D : List CutRows) (i j : ℕ) (K : List Row) (kept : List Intersection) → AreKeptBefore n C D i j K kept → length K ≤ n
lines_few n C D i j K kept k = elim k.lines [
  | inl none ↦ rw none.1 (omega arith)
  | inr w ↦ (let (a, ia, c) = among_Any (IsCutOutBy n C D K) k.listed w in few_rows n K c.generators.pivots c.generators.basis.echelon)
]

pub none_primitive : (R : List Row) → R ≡ [] → All IsPrimitive R
none_primitive R e = rw e (All_among IsPrimitive [] (λ r i. elim i [ ]))

pub none_few : (n : ℕ) (K : List Row) → K ≡ [] → length K ≤ n
none_few n K e = rw e (omega arith)

-- the rays of what is kept are orders of its fan
pub orders_of : (n : ℕ) (f g : Fan) (K : List Row) (kept : List Intersection) (R : List Row) → AreRefined n f g K kept → AreAllRays kept R → IsFan n f → IsFan n g → HasRefinedRays n f g K kept R
orders_of n f g K kept R a rows ff fg = refined_rays_are_orders n f g K a.listed kept R ff fg a.all a.maximal rows

pub orders_empty : (n : ℕ) (f g : Fan) (K : List Row) (kept : List Intersection) (R : List Row) → (IsFan n f → IsFan n g → AreRefined n f g K kept) → kept ≡ [] → R ≡ [] → IsFan n f → IsFan n g → HasRefinedRays n f g K kept R
orders_empty n f g K kept R a el er ff fg = orders_of n f g K kept R (a ff fg) (rw (el, er) no_rays) ff fg
