-- Intersections of the rays of the line: which are listed, and which are kept.
use Rattle.pm_vector.proofs.ConeLaws.{in_generator, in_line, in_zero, lines_opposite, none_to_zero}
use Rattle.pm_vector.proofs.Lists.{AllPairs_cons, All_among, Among, Any_among, Contains_among, among_All, among_Any, here, there}
use Rattle.pm_vector.proofs.Ring.{ring}
use Rattle.pm_vector.proofs.RowLaws.{entry-times, length-opposite}
use Rattle.pm_vector.proofs.Signs.{mul_le, pos_cancel, weaken}
use Rattle.pm_vector.specs.Cones.{InCone, InSpan}
use Rattle.pm_vector.specs.Divisors.{IsPrimitive}
use Rattle.pm_vector.specs.Rows.{Row, entry, opposite, times}
use Rattle.pm_vector.proofs.BasisExamples.{primitive_by_one}
use Rattle.pm_vector.specs.Bases.{IsEchelonBasis}
use Rattle.pm_geom.proofs.Apart.{lineality_spanned, order_of_apart}
use Rattle.pm_geom.proofs.SmallFans.{fans_are_read, right_needed, left_needed}
use Rattle.pm_geom.specs.Cones.{InLineality, IsExtreme, IsOrder, SameModulo}
use Rattle.pm_geom.specs.Generators.{AreGenerators, IsBefore}
use Rattle.pm_geom.specs.ThingExamples.{left, right}
use Rattle.pm_laws_normal_fans.proofs.ExampleRefinements.{half, not_in_left, not_in_right}
use Rattle.pm_laws_normal_fans.proofs.ExampleVertices.{on_cone}
use Rattle.pm_laws_normal_fans.proofs.IntersectionRows.{generators_as}
use Rattle.pm_laws_normal_fans.proofs.Places.{no_pairs}
use Rattle.pm_laws_normal_fans.specs.Examples.{IntersectionsAreRead, all_four, both_rays, from_right, in_left, in_right, left_right, minus, rays_of_line, right_left}
use Rattle.pm_laws_normal_fans.specs.Fans.{InIntersection, IsFan}
use Rattle.pm_laws_normal_fans.specs.Refinements.{AreAllIntersections, AreKeptIntersections, Intersection, IsEarlier, IsIntersection, IsWithin, Tells}
use Rattle.std.proofs.Common.{arith, false, inl, inr, refl, sym, true, true≢false, ◌∙◌}
use Rattle.std.proofs.lemmas.Int.{ints}
use Rattle.std.specs.List.{Any, Contains}
use Rattle.std.specs.Prelude.{List, [], length, suc, zero, ℕ, ◌<◌, ◌↔◌, ◌∷◌, ◌≡◌}
use lib.IntN.{neg_ℤ, pos, ℤ, ◌*ℤ◌}
use lib.Signed.{lt_z_yes, ◌<ℤ◌, ◌≤ℤ◌}

line_fan : IsFan 1 rays_of_line
line_fan = fans_are_read.rays

-- ---- generators of a ray and of {0}
no_basis : IsEchelonBasis 1 [] []
no_basis = record {
  basis = record { cols = tt; as_many = refl; positive = λ i l. absurd (omega arith); reduced = λ i j l m ne. absurd (omega arith); primitive = λ i l. absurd (omega arith) };
  ascending = λ i j l m. absurd (omega arith);
  before = λ i c l m. absurd (omega arith);
}

span_opposite : (x : Row) → InSpan [] x → InSpan [] (opposite x)
span_opposite x h = lines_opposite [] x h

-- one primitive row, with a row that is positive on it
ray_generators : (r tip : Row) → IsOrder 1 (InCone (r ∷ []) []) (r ∷ []) → IsPrimitive r → ((x : Row) → length x ≡ 1 → InLineality (InCone (r ∷ []) []) x → InSpan [] x) → AreGenerators 1 (InCone (r ∷ []) []) (r ∷ []) []
ray_generators r tip o p spanned = record {
  pivots = [];
  basis = record { echelon = no_basis; lines = λ x lx. (spanned x lx, λ h. record { inside = in_zero (none_to_zero x h); opposed = in_zero (none_to_zero (opposite x) (span_opposite x h)) }) };
  order = o;
  primitive = All_among IsPrimitive (r ∷ []) only;
  reduced = λ k d l i e m. absurd (omega arith);
  ascending = λ i j d l m. absurd (omega arith);
}
  where
    only : (x : Row) → Among x (r ∷ []) → IsPrimitive x
    only x here = p
    only x (there i) = elim i [ ]

right_generators : AreGenerators 1 (InCone (right ∷ []) []) (right ∷ []) []
right_generators = ray_generators right right (order_of_apart 1 (right ∷ []) [] (refl, tt) tt right tt tt right_needed) (primitive_by_one right 0 refl) (lineality_spanned 1 (right ∷ []) [] (refl, tt) tt right tt tt)

-- -1 = k z, with k > 0
unit_factor : (k z : ℤ) → pos 0 <ℤ k → minus ≡ k *ℤ z → k ≡ pos 1
unit_factor k z h e =
    let up : pos 0 <ℤ neg_ℤ z = pos_cancel h (simp ring (omega (arith, ints))) in
    let one : pos 1 ≤ℤ neg_ℤ z = omega (arith, ints) in
    let g = simp ring at (mul_le (weaken h) one) in
    omega (arith, ints)

left_primitive : IsPrimitive left
left_primitive = record { whole = λ k y l h s. let g = simp entry-times at (s.at 0) in unit_factor k (entry y 0) h g }

left_generators : AreGenerators 1 (InCone (left ∷ []) []) (left ∷ []) []
left_generators = ray_generators left left (order_of_apart 1 (left ∷ []) [] (refl, tt) tt left tt tt left_needed) left_primitive (lineality_spanned 1 (left ∷ []) [] (refl, tt) tt left tt tt)

-- ---- the four intersections
right_is : IsIntersection 1 rays_of_line rays_of_line [] in_right
right_is = record { first = omega arith; second = omega arith; generators = generators_as 1 (InCone (right ∷ []) []) (InIntersection rays_of_line rays_of_line 0 0) (right ∷ []) [] (λ x l. (λ h. (h, h), λ h. h.0)) right_generators }

left_is : IsIntersection 1 rays_of_line rays_of_line [] in_left
left_is = record { first = omega arith; second = omega arith; generators = generators_as 1 (InCone (left ∷ []) []) (InIntersection rays_of_line rays_of_line 1 1) (left ∷ []) [] (λ x l. (λ h. (h, h), λ h. h.0)) left_generators }

-- what is on both rays is 0
both_zero : (x : Row) → length x ≡ 1 → InCone (right ∷ []) [] x → InCone (left ∷ []) [] x → InSpan [] x
both_zero [] l h k = absurd (omega arith)
both_zero (a ∷ b ∷ x) l h k = absurd (omega arith)
both_zero (a ∷ []) l h k = in_zero at
  where
    at : (i : ℕ) → entry (a ∷ []) i ≡ pos 0
    at zero = let p = (half (a ∷ []) refl).0 h in let q = simp ring at (on_cone left (left ∷ []) tt (a ∷ []) k) in omega (arith, ints)
    at (suc i) = refl

-- {0} has no ray
zero_generators : (S : Row → Type 0) → ((x : Row) → length x ≡ 1 → S x ↔ InSpan [] x) → AreGenerators 1 S [] []
zero_generators S same = record {
  pivots = [];
  basis = record {
    echelon = no_basis;
    lines = λ x l. (
      λ h. (same x l).0 h.inside,
      λ h. record { inside = (same x l).1 h; opposed = (same (opposite x) (length-opposite x ∙ l)).1 (span_opposite x h) },
    );
  };
  order = record {
    each = λ k d l. absurd (omega arith);
    all = λ r e. absurd (e.not_line ((same (opposite r) (length-opposite r ∙ e.cols)).1 (span_opposite r ((same r e.cols).0 e.inside))));
    once = no_pairs (λ v w. ¬ (SameModulo 1 S v w));
  };
  primitive = λ k d l. absurd (omega arith);
  reduced = λ k d l. absurd (omega arith);
  ascending = no_pairs IsBefore;
}

apex_is : IsIntersection 1 rays_of_line rays_of_line [] right_left
apex_is = record { first = omega arith; second = omega arith; generators = zero_generators (InIntersection rays_of_line rays_of_line 0 1) (λ x l. (λ h. both_zero x l h.0 h.1, λ h. (in_zero (none_to_zero x h), in_zero (none_to_zero x h)))) }

other_apex_is : IsIntersection 1 rays_of_line rays_of_line [] left_right
other_apex_is = record { first = omega arith; second = omega arith; generators = zero_generators (InIntersection rays_of_line rays_of_line 1 0) (λ x l. (λ h. both_zero x l h.1 h.0, λ h. (in_zero (none_to_zero x h), in_zero (none_to_zero x h)))) }

no_ray : ¬ (IsIntersection 1 rays_of_line rays_of_line [] (record { first = 0; second = 0; rays = [] }))
no_ray h =
    let i : Among right (right ∷ []) = here in
    let w = among_Any (λ v. SameModulo 1 (InIntersection rays_of_line rays_of_line 0 0) right v) [] (h.generators.order.all right (among_All (λ v. IsExtreme 1 (InIntersection rays_of_line rays_of_line 0 0) v) i right_is.generators.order.each)) in
    none w.0 w.1
  where
    none : (v : Row) → Among v [] → ⊥
    none v i = elim i [ ]

doubled : ¬ (IsIntersection 1 rays_of_line rays_of_line [] (record { first = 0; second = 0; rays = (pos 2 ∷ []) ∷ [] }))
doubled h =
    let i : Among (pos 2 ∷ []) ((pos 2 ∷ []) ∷ []) = here in
    let e = (among_All IsPrimitive i h.generators.primitive).whole (pos 2) right refl (lt_z_yes tt) (record { at = at }) in
    omega (arith, ints)
  where
    at : (i : ℕ) → entry (pos 2 ∷ []) i ≡ entry (times (pos 2) right) i
    at zero = refl
    at (suc i) = refl

opposite_in : InLineality (InIntersection rays_of_line rays_of_line 0 0) right → InCone (right ∷ []) [] left
unfolding opposite
opposite_in l = l.opposed.0

lined : ¬ (IsIntersection 1 rays_of_line rays_of_line (right ∷ []) in_right)
lined h = not_in_right (opposite_in ((h.generators.basis.lines right refl).1 (in_line here)))

not_within : ¬ (IsWithin 1 rays_of_line rays_of_line in_right right_left)
not_within w = not_in_left (w right refl (in_generator here, in_generator here)).1

-- ---- all of them, in order
later : ¬ (IsEarlier left_right right_left)
later (inl l) = absurd (omega arith)
later (inr l) = let e = l.0 in absurd (omega arith)

is_listed : (a : Intersection) → Among a all_four → IsIntersection 1 rays_of_line rays_of_line [] a
is_listed a here = right_is
is_listed a (there here) = apex_is
is_listed a (there (there here)) = other_apex_is
is_listed a (there (there (there here))) = left_is
is_listed a (there (there (there (there i)))) = elim i [ ]

abbrev IsAtPlaces : ℕ → ℕ → Intersection → Type 0
IsAtPlaces i j a = (a.first ≡ i) × (a.second ≡ j)

at_places : (i j : ℕ) → i < 2 → j < 2 → Any (IsAtPlaces i j) all_four
at_places zero zero l m = Any_among (IsAtPlaces 0 0) {xs = all_four} here (refl, refl)
at_places zero (suc zero) l m = Any_among (IsAtPlaces 0 1) {xs = all_four} (there here) (refl, refl)
at_places (suc zero) zero l m = Any_among (IsAtPlaces 1 0) {xs = all_four} (there (there here)) (refl, refl)
at_places (suc zero) (suc zero) l m = Any_among (IsAtPlaces 1 1) {xs = all_four} (there (there (there here))) (refl, refl)
at_places (suc (suc i)) j l m = absurd (omega arith)
at_places zero (suc (suc j)) l m = absurd (omega arith)
at_places (suc zero) (suc (suc j)) l m = absurd (omega arith)

after_first : (b : Intersection) → Among b (right_left ∷ left_right ∷ in_left ∷ []) → IsEarlier in_right b
after_first b here = inr (refl, omega arith)
after_first b (there here) = inl (omega arith)
after_first b (there (there here)) = inl (omega arith)
after_first b (there (there (there i))) = elim i [ ]

after_second : (b : Intersection) → Among b (left_right ∷ in_left ∷ []) → IsEarlier right_left b
after_second b here = inl (omega arith)
after_second b (there here) = inl (omega arith)
after_second b (there (there i)) = elim i [ ]

after_third : (b : Intersection) → Among b (in_left ∷ []) → IsEarlier left_right b
after_third b here = inr (refl, omega arith)
after_third b (there i) = elim i [ ]

none_after : (R : Intersection → Intersection → Type 0) (a b : Intersection) → Among b [] → R a b
none_after R a b i = elim i [ ]

pub all_listed : AreAllIntersections 1 rays_of_line rays_of_line [] all_four
all_listed = record {
  each = All_among (IsIntersection 1 rays_of_line rays_of_line []) all_four is_listed;
  all = at_places;
  ordered = AllPairs_cons IsEarlier in_right _ after_first (AllPairs_cons IsEarlier right_left _ after_second (AllPairs_cons IsEarlier left_right _ after_third (AllPairs_cons IsEarlier in_left [] (λ b. none_after IsEarlier in_left b) (no_pairs IsEarlier))));
}

not_all : ¬ (AreAllIntersections 1 rays_of_line rays_of_line [] both_rays)
not_all h = let w = among_Any (IsAtPlaces 0 1) both_rays (h.all 0 1 (omega arith) (omega arith)) in other w.0 w.1 w.2
  where
    other : (a : Intersection) → Among a both_rays → ¬ (IsAtPlaces 0 1 a)
    other a here e = let f = e.1 in omega arith
    other a (there here) e = let f = e.0 in omega arith
    other a (there (there i)) e = elim i [ ]

unordered : ¬ (AreAllIntersections 1 rays_of_line rays_of_line [] (in_right ∷ left_right ∷ right_left ∷ in_left ∷ []))
unordered h = later (h.ordered 1 2 in_right (omega arith) (omega arith))

-- ---- which are kept
abbrev IsCovered : Intersection → Intersection → Type 0
IsCovered b a = IsWithin 1 rays_of_line rays_of_line b a × (IsWithin 1 rays_of_line rays_of_line a b → ¬ (IsEarlier b a))

not_itself : (a : Intersection) → ¬ (IsEarlier a a)
not_itself a (inl l) = absurd (omega arith)
not_itself a (inr l) = let m = l.1 in absurd (omega arith)

covered : (b : Intersection) → Among b all_four → Any (IsCovered b) both_rays
covered b here = Any_among (IsCovered in_right) {xs = both_rays} here (λ x l h. h, λ w. not_itself in_right)
covered b (there here) = Any_among (IsCovered right_left) {xs = both_rays} here (λ x l h. (h.0, h.0), λ w. absurd (not_within w))
covered b (there (there here)) = Any_among (IsCovered left_right) {xs = both_rays} here (λ x l h. (h.1, h.1), λ w. absurd (not_in_left (w right refl (in_generator here, in_generator here)).0))
covered b (there (there (there here))) = Any_among (IsCovered in_left) {xs = both_rays} (there here) (λ x l h. h, λ w. not_itself in_left)
covered b (there (there (there (there i)))) = elim i [ ]

some_listed : (a : Intersection) → Among a both_rays → Contains all_four a
some_listed a here = Contains_among {xs = all_four} here
some_listed a (there here) = Contains_among {xs = all_four} (there (there (there here)))
some_listed a (there (there i)) = elim i [ ]

abbrev AreApart : Intersection → Intersection → Type 0
AreApart a b = IsEarlier a b × ¬ (IsWithin 1 rays_of_line rays_of_line a b) × ¬ (IsWithin 1 rays_of_line rays_of_line b a)

rays_apart : (b : Intersection) → Among b (in_left ∷ []) → AreApart in_right b
rays_apart b here = (inl (omega arith), λ w. not_in_left (w right refl (in_generator here, in_generator here)).0, λ w. not_in_right (w left refl (in_generator here, in_generator here)).0)
rays_apart b (there i) = elim i [ ]

pub kept : AreKeptIntersections 1 rays_of_line rays_of_line all_four both_rays
kept = record {
  some = All_among (Contains all_four) both_rays some_listed;
  cover = All_among (λ b. Any (IsCovered b) both_rays) all_four covered;
  once = AllPairs_cons AreApart in_right (in_left ∷ []) rays_apart (AllPairs_cons AreApart in_left [] (λ b. none_after AreApart in_left b) (no_pairs AreApart));
}

apex_kept : ¬ (AreKeptIntersections 1 rays_of_line rays_of_line all_four all_four)
apex_kept k = (k.once 0 1 in_right (omega arith) (omega arith)).2 (λ x l h. (h.0, h.0))

ray_lost : ¬ (AreKeptIntersections 1 rays_of_line rays_of_line all_four (in_right ∷ []))
ray_lost k =
    let i : Among in_left all_four = there (there (there here)) in
    let w = among_Any (IsCovered in_left) (in_right ∷ []) (among_All (λ b. Any (IsCovered b) (in_right ∷ [])) i k.cover) in
    other w.0 w.1 w.2
  where
    other : (a : Intersection) → Among a (in_right ∷ []) → ¬ (IsCovered in_left a)
    other a here c = not_in_right (c.0 left refl (in_generator here, in_generator here)).0
    other a (there i) c = elim i [ ]

abbrev equal_ones : List Intersection
equal_ones = right_left ∷ left_right ∷ []

first_of_equal : AreKeptIntersections 1 rays_of_line rays_of_line equal_ones (right_left ∷ [])
first_of_equal = record {
  some = All_among (Contains equal_ones) (right_left ∷ []) some;
  cover = All_among (λ b. Any (IsCovered b) (right_left ∷ [])) equal_ones cover;
  once = AllPairs_cons AreApart right_left [] (λ b. none_after AreApart right_left b) (no_pairs AreApart);
}
  where
    some : (a : Intersection) → Among a (right_left ∷ []) → Contains equal_ones a
    some a here = Contains_among {xs = equal_ones} here
    some a (there i) = elim i [ ]

    cover : (b : Intersection) → Among b equal_ones → Any (IsCovered b) (right_left ∷ [])
    cover b here = Any_among (IsCovered right_left) {xs = right_left ∷ []} here (λ x l h. h, λ w. not_itself right_left)
    cover b (there here) = Any_among (IsCovered left_right) {xs = right_left ∷ []} here (λ x l h. (h.1, h.0), λ w. later)
    cover b (there (there i)) = elim i [ ]

second_of_equal : ¬ (AreKeptIntersections 1 rays_of_line rays_of_line equal_ones (left_right ∷ []))
second_of_equal k =
    let i : Among right_left equal_ones = here in
    let w = among_Any (IsCovered right_left) (left_right ∷ []) (among_All (λ b. Any (IsCovered b) (left_right ∷ [])) i k.cover) in
    other w.0 w.1 w.2
  where
    other : (a : Intersection) → Among a (left_right ∷ []) → ¬ (IsCovered right_left a)
    other a here c = c.1 (λ x l h. (h.1, h.0)) (inl (omega arith))
    other a (there i) c = elim i [ ]

-- ---- a test of what stays
tells : Tells 1 rays_of_line rays_of_line in_left both_rays from_right
tells = record {
  yes = All_among (λ a. from_right a ≡ true → ¬ (IsWithin 1 rays_of_line rays_of_line a in_left)) both_rays yes;
  no = All_among (λ a. from_right a ≡ false → IsWithin 1 rays_of_line rays_of_line a in_left) both_rays no;
}
  where
    yes : (a : Intersection) → Among a both_rays → from_right a ≡ true → ¬ (IsWithin 1 rays_of_line rays_of_line a in_left)
    yes a here e w = not_in_left (w right refl (in_generator here, in_generator here)).0
    yes a (there here) e w = true≢false (sym e)
    yes a (there (there i)) e w = elim i [ ]

    no : (a : Intersection) → Among a both_rays → from_right a ≡ false → IsWithin 1 rays_of_line rays_of_line a in_left
    no a here e = absurd (true≢false e)
    no a (there here) e = λ x l h. h
    no a (there (there i)) e = elim i [ ]

tells_not : ¬ (Tells 1 rays_of_line rays_of_line in_right both_rays from_right)
tells_not t = let i : Among in_right both_rays = here in among_All (λ a. from_right a ≡ true → ¬ (IsWithin 1 rays_of_line rays_of_line a in_right)) i t.yes refl (λ x l h. h)

pub intersections_are_read : IntersectionsAreRead
intersections_are_read = record {
  ray = right_is;
  apex = apex_is;
  no_ray = no_ray;
  doubled = doubled;
  lined = lined;
  within = λ x l h. (h.0, h.0);
  not_within = not_within;
  earlier = inl (omega arith);
  by_second = inr (refl, omega arith);
  later = later;
  all = all_listed;
  not_all = not_all;
  unordered = unordered;
  kept = kept;
  apex_kept = apex_kept;
  ray_lost = ray_lost;
  first_of_equal = first_of_equal;
  second_of_equal = second_of_equal;
  tells = tells;
  tells_not = tells_not;
}
