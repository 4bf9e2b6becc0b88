-- The kept intersections of the rays of the line are their common refinement.
use Rattle.pm_vector.proofs.ConeLaws.{in_generator, in_line}
use Rattle.pm_vector.proofs.Lists.{AllPairs_cons, All_among, Among, Any_among, Contains_among, among_All, among_Contains, here, there}
use Rattle.pm_vector.proofs.Ring.{ring}
use Rattle.pm_vector.specs.Rows.{Row, entry}
use Rattle.pm_geom.proofs.SmallFans.{fan_orders_are_read, fans_are_read}
use Rattle.pm_geom.specs.Generators.{IsBefore}
use Rattle.pm_geom.specs.ThingExamples.{left, right}
use Rattle.pm_laws_normal_fans.proofs.ExampleIntersections.{all_listed, kept}
use Rattle.pm_laws_normal_fans.proofs.ExampleRefinements.{half, not_in_left, not_maximal}
use Rattle.pm_laws_normal_fans.proofs.Places.{no_pairs}
use Rattle.pm_laws_normal_fans.proofs.RefinedRays.{refined_rays_are_orders}
use Rattle.pm_laws_normal_fans.proofs.Refinements.{kept_are_refinement}
use Rattle.pm_laws_normal_fans.specs.Examples.{KeptAreRead, all_four, both_rays, in_right, minus, rays_of_line, right_left, whole_line}
use Rattle.pm_laws_normal_fans.specs.Fans.{HasOneFan, InPlace, IsCommonRefinement, IsConeAt, IsFan, IsMaximalIntersection}
use Rattle.pm_laws_normal_fans.specs.Refinements.{AreAllRays, HasRefinedRays, InHalfSpaces, Intersection, IsCutAt, IsRefined, fan_of}
use Rattle.std.proofs.Common.{arith, refl}
use Rattle.std.proofs.lemmas.Int.{ints}
use Rattle.std.specs.List.{All, Any, Contains}
use Rattle.std.specs.Prelude.{[], suc, zero, ℕ, ◌<◌, ◌∷◌, ◌≡◌}
use lib.IntN.{pos}
use lib.Signed.{le_z_yes, lt_z_yes, ◌<ℤ◌, ◌≤ℤ◌}

is_fan : IsFan 1 rays_of_line
is_fan = fans_are_read.rays

refined : IsRefined 1 rays_of_line rays_of_line [] both_rays
refined = kept_are_refinement 1 rays_of_line rays_of_line [] all_four both_rays is_fan is_fan all_listed kept (λ e. refl)

not_refined : ¬ (IsRefined 1 rays_of_line rays_of_line [] all_four)
not_refined r = let i : Among right_left all_four = there here in not_maximal (among_All (λ a. IsMaximalIntersection 1 rays_of_line rays_of_line a.first a.second) i r.maximal)

one : HasOneFan 1 (IsCommonRefinement 1 rays_of_line rays_of_line)
one = record { fan = fan_of both_rays []; is_fan = refined.fan; has = refined.refinement; only = refined.only }

several : ¬ (HasOneFan 1 (IsFan 1))
several h =
    let (i, li, c) = (h.only rays_of_line is_fan is_fan).all 1 (omega arith) in
    let (j, lj, d) = (h.only whole_line fans_are_read.line fans_are_read.line).each i li in
    other i j lj c d
  where
    other : (i j : ℕ) → j < 1 → IsConeAt 1 h.fan i (InPlace rays_of_line 1) → ¬ (IsConeAt 1 h.fan i (InPlace whole_line j))
    other i zero lj c d = not_in_left ((c right refl).0 ((d right refl).1 (in_line here)))
    other i (suc j) lj c d = absurd (omega arith)

-- ---- their rays
abbrev HasRay : Row → Intersection → Type 0
HasRay r a = Contains a.rays r

left_before : IsBefore left right
left_before = record { place = 0; within = omega arith; same = λ i l. absurd (omega arith); below = lt_z_yes tt }

right_not_before : ¬ (IsBefore right left)
right_not_before b = go b.place b.within b.below
  where
    go : (p : ℕ) → p < 1 → ¬ (entry right p <ℤ entry left p)
    go zero l e = let f : pos 1 <ℤ minus = e in omega (arith, ints)
    go (suc p) l e = absurd (omega arith)

rays : AreAllRays both_rays (left ∷ right ∷ [])
rays = record {
  each = All_among (λ r. Any (HasRay r) both_rays) (left ∷ right ∷ []) each;
  all = All_among (λ a. All (Contains (left ∷ right ∷ [])) a.rays) both_rays all;
  ascending = AllPairs_cons IsBefore left (right ∷ []) before (AllPairs_cons IsBefore right [] (λ b i. elim i [ ]) (no_pairs IsBefore));
}
  where
    each : (r : Row) → Among r (left ∷ right ∷ []) → Any (HasRay r) both_rays
    each r here = Any_among (HasRay left) {xs = both_rays} (there here) (Contains_among {xs = left ∷ []} here)
    each r (there here) = Any_among (HasRay right) {xs = both_rays} here (Contains_among {xs = right ∷ []} here)
    each r (there (there i)) = elim i [ ]

    in_first : (r : Row) → Among r (right ∷ []) → Contains (left ∷ right ∷ []) r
    in_first r here = Contains_among {xs = left ∷ right ∷ []} (there here)
    in_first r (there i) = elim i [ ]

    in_second : (r : Row) → Among r (left ∷ []) → Contains (left ∷ right ∷ []) r
    in_second r here = Contains_among {xs = left ∷ right ∷ []} here
    in_second r (there i) = elim i [ ]

    all : (a : Intersection) → Among a both_rays → All (Contains (left ∷ right ∷ [])) a.rays
    all a here = All_among (Contains (left ∷ right ∷ [])) (right ∷ []) in_first
    all a (there here) = All_among (Contains (left ∷ right ∷ [])) (left ∷ []) in_second
    all a (there (there i)) = elim i [ ]

    before : (b : Row) → Among b (right ∷ []) → IsBefore left b
    before b here = left_before
    before b (there i) = elim i [ ]

turned : ¬ (AreAllRays both_rays (right ∷ left ∷ []))
turned r = right_not_before (r.ascending 0 1 right (omega arith) (omega arith))

lacks : ¬ (AreAllRays both_rays (left ∷ []))
lacks r =
    let i : Among in_right both_rays = here in
    let j : Among right (right ∷ []) = here in
    let c = among_All (Contains (left ∷ [])) j (among_All (λ a. All (Contains (left ∷ [])) a.rays) i r.all) in
    let k : Among right (left ∷ []) = among_Contains (left ∷ []) c in
    let e : pos 1 ≡ minus = among_All (λ b. entry b 0 ≡ minus) k (All_among (λ b. entry b 0 ≡ minus) (left ∷ []) only) in
    omega (arith, ints)
  where
    only : (b : Row) → Among b (left ∷ []) → entry b 0 ≡ minus
    only b here = refl
    only b (there i) = elim i [ ]

refined_rays : HasRefinedRays 1 rays_of_line rays_of_line [] both_rays (left ∷ right ∷ [])
refined_rays = refined_rays_are_orders 1 rays_of_line rays_of_line [] all_four both_rays (left ∷ right ∷ []) is_fan is_fan all_listed kept rays

lost_rays : ¬ (HasRefinedRays 1 rays_of_line rays_of_line [] both_rays (right ∷ []))
lost_rays h = fan_orders_are_read.lacks_ray h.orders

-- ---- rows that cut out
cut : IsCutAt 1 rays_of_line 0 (right ∷ []) []
cut [] l = absurd (omega arith)
cut (a ∷ b ∷ x) l = absurd (omega arith)
cut (a ∷ []) l = (
  λ h. let p = (half (a ∷ []) refl).0 h in (tt, (simp ring (omega (arith, ints)), tt)),
  λ h. let p = simp ring at h.1.0 in (half (a ∷ []) refl).1 (omega (arith, ints)),
)

not_cut : ¬ (IsCutAt 1 rays_of_line 0 (left ∷ []) [])
not_cut c = let p : pos 0 ≤ℤ minus = ((c right refl).0 (in_generator here)).1.0 in omega (arith, ints)

beyond : ¬ (InHalfSpaces (right ∷ []) [] left)
beyond h = let p : pos 0 ≤ℤ minus = h.1.0 in omega (arith, ints)

off_null : ¬ (InHalfSpaces [] (right ∷ []) right)
off_null h = let e : pos 1 ≡ pos 0 = h.0.0 in omega (arith, ints)

pub kept_are_read : KeptAreRead
kept_are_read = record {
  refined = refined;
  not_refined = not_refined;
  one = one;
  several = several;
  rays = rays;
  turned = turned;
  lacks = lacks;
  refined_rays = refined_rays;
  lost_rays = lost_rays;
  in_half = (tt, (le_z_yes tt, tt));
  beyond = beyond;
  off_null = off_null;
  cut = cut;
  not_cut = not_cut;
}
