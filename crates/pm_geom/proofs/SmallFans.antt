-- The two rays of the line as a fan, its orders, and what is none.
use Rattle.pm_vector.proofs.ConeLaws.{in_generator, in_more, in_zero, lines_opposite, none_to_zero}
use Rattle.pm_vector.proofs.Lists.{AllPairs_cons, All_among, Among, Any_among, among_All, among_Any, here, there}
use Rattle.pm_vector.proofs.RowLaws.{entry-plus, entry-times}
use Rattle.pm_vector.specs.Cones.{InCone, InSpan}
use Rattle.pm_vector.specs.Rows.{Row, entry, opposite}
use Rattle.pm_geom.proofs.Apart.{apart, lineality_spanned, order_of_apart, without}
use Rattle.pm_geom.specs.Cones.{InLineality, IsExtremeRay, IsOrder, SameModulo}
use Rattle.pm_geom.specs.Examples.{pair}
use Rattle.pm_geom.specs.ThingExamples.{FanOrdersAreRead, FansAreRead, OrderTwoRays, left, right, two_rays}
use Rattle.pm_geom.specs.Things.{IsConeThing, IsFanThing}
use Rattle.std.proofs.Common.{ap, arith, lit<, refl, sym, ◌∙◌}
use Rattle.std.proofs.lemmas.Int.{ints}
use Rattle.std.specs.List.{All, AllPairs, Any, Contains, slice_index_or}
use Rattle.std.specs.Prelude.{List, [], length, suc, zero, ℕ, ◌<◌, ◌∷◌, ◌≡◌}
use lib.IntN.{negsuc, pos, ℤ, ◌*ℤ◌}
use lib.Signed.{lt_z_yes, ◌<ℤ◌}

differ : (k m n : ℕ) → k ≡ m → k ≡ n → ¬ (m ≡ n) → ⊥
differ k m n e f ne = ne (sym e ∙ f)

-- ---- each of the two rays is the order of its cone
pub right_needed : (v : Row) (i : Among v (right ∷ [])) → ¬ (InCone (without i) [] v)
unfolding without
right_needed v here = apart [] [] left right tt tt tt
right_needed v (there i) = elim i [ ]

pub left_needed : (v : Row) (i : Among v (left ∷ [])) → ¬ (InCone (without i) [] v)
unfolding without
left_needed v here = apart [] [] right left tt tt tt
left_needed v (there i) = elim i [ ]

right_order : IsOrder 1 (InCone (right ∷ []) []) (right ∷ [])
right_order = order_of_apart 1 (right ∷ []) [] (refl, tt) tt right tt tt right_needed

left_order : IsOrder 1 (InCone (left ∷ []) []) (left ∷ [])
left_order = order_of_apart 1 (left ∷ []) [] (refl, tt) tt left tt tt left_needed

pointed : (G : List Row) → Among G two_rays → (x : Row) → length x ≡ 1 → InLineality (InCone G []) x → InSpan [] x
pointed G here x l h = lineality_spanned 1 (right ∷ []) [] (refl, tt) tt right tt tt x l h
pointed G (there here) x l h = lineality_spanned 1 (left ∷ []) [] (refl, tt) tt left tt tt x l h
pointed G (there (there i)) x l h = elim i [ ]

-- ---- the fan, and cones that are none
cone_thing : (G : List Row) → Among G two_rays → IsConeThing 1 G []
cone_thing G here = record { generators = (refl, tt); lines = tt }
cone_thing G (there here) = record { generators = (refl, tt); lines = tt }
cone_thing G (there (there i)) = elim i [ ]

apart_cones : (i j : ℕ) → i < 2 → j < 2 → ¬ (i ≡ j) → ¬ ((x : Row) → length x ≡ 1 → InCone (slice_index_or two_rays i []) [] x → InCone (slice_index_or two_rays j []) [] x)
apart_cones zero zero l m ne f = ne refl
apart_cones zero (suc zero) l m ne f = apart (left ∷ []) [] left right tt tt tt (f right refl (in_generator here))
apart_cones zero (suc (suc j)) l m ne f = absurd (omega arith)
apart_cones (suc zero) zero l m ne f = apart (right ∷ []) [] right left tt tt tt (f left refl (in_generator here))
apart_cones (suc zero) (suc zero) l m ne f = ne refl
apart_cones (suc zero) (suc (suc j)) l m ne f = absurd (omega arith)
apart_cones (suc (suc i)) j l m ne f = absurd (omega arith)

rays_fan : IsFanThing 1 two_rays []
rays_fan = record {
  lines = tt;
  cones = All_among (λ G. IsConeThing 1 G []) two_rays cone_thing;
  lineality = All_among (λ G. (x : Row) → length x ≡ 1 → InLineality (InCone G []) x → InSpan [] x) two_rays pointed;
  apart = apart_cones;
}

line_fan : IsFanThing 1 ([] ∷ []) (right ∷ [])
line_fan = record {
  lines = (refl, tt);
  cones = All_among (λ G. IsConeThing 1 G (right ∷ [])) ([] ∷ []) cone;
  lineality = All_among (λ G. (x : Row) → length x ≡ 1 → InLineality (InCone G (right ∷ [])) x → InSpan (right ∷ []) x) ([] ∷ []) spanned;
  apart = λ i j l m ne f. absurd (ne (omega arith));
}
  where
    cone : (G : List Row) → Among G ([] ∷ []) → IsConeThing 1 G (right ∷ [])
    cone G here = record { generators = tt; lines = (refl, tt) }
    cone G (there i) = elim i [ ]

    spanned : (G : List Row) → Among G ([] ∷ []) → (x : Row) → length x ≡ 1 → InLineality (InCone G (right ∷ [])) x → InSpan (right ∷ []) x
    spanned G here x l h = h.inside
    spanned G (there i) x l h = elim i [ ]

opposite_right : InCone (right ∷ left ∷ []) [] (opposite right)
unfolding opposite
opposite_right = in_generator (there here)

more_lineality : ¬ (IsFanThing 1 ((right ∷ left ∷ []) ∷ []) [])
more_lineality f = apart [] [] left right tt tt tt (f.lineality 0 [] (lit< tt) right refl (record { inside = in_generator here; opposed = opposite_right }))

included : ¬ (IsFanThing 1 ((right ∷ []) ∷ [] ∷ []) [])
included f = f.apart 1 0 (lit< tt) (lit< tt) (λ e. absurd (omega arith)) (λ x l h. in_more [] [] right h)

twice : ¬ (IsFanThing 1 ((right ∷ []) ∷ (right ∷ []) ∷ []) [])
twice f = f.apart 0 1 (lit< tt) (lit< tt) (λ e. absurd (omega arith)) (λ x l h. h)

columns : ¬ (IsFanThing 1 ((pair 1 0 ∷ []) ∷ []) [])
columns f = differ (length (pair 1 0)) 2 1 refl (f.cones 0 [] (lit< tt)).generators.0 (λ e. absurd (omega arith))

pub fans_are_read : FansAreRead
fans_are_read = record { rays = rays_fan; line = line_fan; more_lineality = more_lineality; included = included; twice = twice; columns = columns }

-- ---- the orders of the two rays
extreme_right : IsExtremeRay 1 (right ∷ []) [] right
extreme_right = (let i : Among right (right ∷ []) = here in among_All (λ v. IsExtremeRay 1 (right ∷ []) [] v) i right_order.each)

extreme_left : IsExtremeRay 1 (left ∷ []) [] left
extreme_left = (let i : Among left (left ∷ []) = here in among_All (λ v. IsExtremeRay 1 (left ∷ []) [] v) i left_order.each)

some_right : Any (λ G. IsExtremeRay 1 G [] right) two_rays
some_right = let i : Among (right ∷ []) two_rays = here in Any_among (λ G. IsExtremeRay 1 G [] right) i extreme_right

some_left : Any (λ G. IsExtremeRay 1 G [] left) two_rays
some_left = let i : Among (left ∷ []) two_rays = there here in Any_among (λ G. IsExtremeRay 1 G [] left) i extreme_left

-- the lineality of each cone is {0}
same_in_span : (G : List Row) → Among G two_rays → (r v : Row) → SameModulo 1 (InCone G []) r v → SameModulo 1 (InSpan []) r v
same_in_span G i r v s =
    let z = pointed G i s.w s.cols s.line in
    record { p = s.p; k = s.k; w = s.w; cols = s.cols; p_positive = s.p_positive; k_positive = s.k_positive; line = record { inside = z; opposed = lines_opposite [] s.w z }; same = s.same }

found : (R : List Row) → Among right R → Among left R → (G : List Row) → Among G two_rays → (r : Row) → IsExtremeRay 1 G [] r → Any (λ v. SameModulo 1 (InSpan []) r v) R
found R i j G here r e = go (among_Any (λ v. SameModulo 1 (InCone (right ∷ []) []) r v) (right ∷ []) (right_order.all r e))
  where
    go : ((v : Row) × Among v (right ∷ []) × SameModulo 1 (InCone (right ∷ []) []) r v) → Any (λ v. SameModulo 1 (InSpan []) r v) R
    go (v, here, s) = Any_among (λ u. SameModulo 1 (InSpan []) r u) i (same_in_span (right ∷ []) here r right s)
    go (v, there k, s) = elim k [ ]
found R i j G (there here) r e = go (among_Any (λ v. SameModulo 1 (InCone (left ∷ []) []) r v) (left ∷ []) (left_order.all r e))
  where
    go : ((v : Row) × Among v (left ∷ []) × SameModulo 1 (InCone (left ∷ []) []) r v) → Any (λ v. SameModulo 1 (InSpan []) r v) R
    go (v, here, s) = Any_among (λ u. SameModulo 1 (InSpan []) r u) j (same_in_span (left ∷ []) (there here) r left s)
    go (v, there k, s) = elim k [ ]
found R i j G (there (there k)) r e = elim k [ ]

-- rows of one entry with one direction modulo {0} have entries of one sign
record Multiples (a b : ℤ) : Type 0 where
  p : ℤ
  k : ℤ
  p_positive : pos 0 <ℤ p
  k_positive : pos 0 <ℤ k
  equal : p *ℤ b ≡ k *ℤ a

multiples : (a b : ℤ) → SameModulo 1 (InSpan []) (a ∷ []) (b ∷ []) → Multiples a b
multiples a b s = record { p = s.p; k = s.k; p_positive = s.p_positive; k_positive = s.k_positive; equal = equal }
  where
    equal : s.p *ℤ b ≡ s.k *ℤ a
    equal =
        let z = none_to_zero s.w s.line.inside 0 in
        let e = simp (entry-times, entry-plus) at (s.same.at 0) in
        omega (arith, ints)

not_left : ¬ (SameModulo 1 (InSpan []) right left)
not_left s = let m = multiples (pos 1) (negsuc 0) s in let h = m.p_positive in let g = m.k_positive in let e = m.equal in omega (arith, ints)

not_right : ¬ (SameModulo 1 (InSpan []) left right)
not_right s = let m = multiples (negsuc 0) (pos 1) s in let h = m.p_positive in let g = m.k_positive in let e = m.equal in omega (arith, ints)

-- a list of two elements that differ
two_apart : {X : Type 0} (R : X → X → Type 0) (x y : X) → R x y → AllPairs R (x ∷ y ∷ [])
two_apart {X = X} R x y h = AllPairs_cons R x (y ∷ []) only (AllPairs_cons R y [] (λ z i. elim i [ ]) (λ i j d l m. absurd (omega arith)))
  where
    only : (z : X) → Among z (y ∷ []) → R x z
    only z here = h
    only z (there i) = elim i [ ]

two_all : {X : Type 0} (P : X → Type 0) (x y : X) → P x → P y → All P (x ∷ y ∷ [])
two_all {X = X} P x y p q = All_among P (x ∷ y ∷ []) each
  where
    each : (z : X) → Among z (x ∷ y ∷ []) → P z
    each z here = p
    each z (there here) = q
    each z (there (there i)) = elim i [ ]

holds_first : (a b : ℕ) → Contains (a ∷ b ∷ []) a
holds_first a b = (0, lit< tt, refl)

holds_second : (a b : ℕ) → Contains (a ∷ b ∷ []) b
holds_second a b = (1, lit< tt, refl)

abbrev differing : ℕ → ℕ → Type 0
differing i j = ¬ (i ≡ j)

order : OrderTwoRays (right ∷ left ∷ []) [] (0 ∷ 1 ∷ [])
order = record {
  each = two_all (λ v. Any (λ G. IsExtremeRay 1 G [] v) two_rays) right left some_right some_left;
  all = All_among (λ G. (r : Row) → IsExtremeRay 1 G [] r → Any (λ v. SameModulo 1 (InSpan []) r v) (right ∷ left ∷ [])) two_rays (found (right ∷ left ∷ []) here (there here));
  once = two_apart (λ v w. ¬ (SameModulo 1 (InSpan []) v w)) right left not_left;
  facets = refl;
  places = two_all (λ i. i < 2) 0 1 (lit< tt) (lit< tt);
  every = every;
  places_once = two_apart differing 0 1 (λ e. absurd (omega arith));
}
  where
    every : (i : ℕ) → i < 2 → Contains (0 ∷ 1 ∷ []) i
    every zero l = holds_first 0 1
    every (suc zero) l = holds_second 0 1
    every (suc (suc i)) l = absurd (omega arith)

turned : OrderTwoRays (left ∷ right ∷ []) [] (1 ∷ 0 ∷ [])
turned = record {
  each = two_all (λ v. Any (λ G. IsExtremeRay 1 G [] v) two_rays) left right some_left some_right;
  all = All_among (λ G. (r : Row) → IsExtremeRay 1 G [] r → Any (λ v. SameModulo 1 (InSpan []) r v) (left ∷ right ∷ [])) two_rays (found (left ∷ right ∷ []) (there here) here);
  once = two_apart (λ v w. ¬ (SameModulo 1 (InSpan []) v w)) left right not_right;
  facets = refl;
  places = two_all (λ i. i < 2) 1 0 (lit< tt) (lit< tt);
  every = every;
  places_once = two_apart differing 1 0 (λ e. absurd (omega arith));
}
  where
    every : (i : ℕ) → i < 2 → Contains (1 ∷ 0 ∷ []) i
    every zero l = holds_second 1 0
    every (suc zero) l = holds_first 1 0
    every (suc (suc i)) l = absurd (omega arith)

-- ---- lists that are no orders
null_entries : (i : ℕ) → entry (pos 0 ∷ []) i ≡ pos 0
null_entries zero = refl
null_entries (suc i) = refl

null_opposite : {G : List Row} → InCone G [] (opposite (pos 0 ∷ []))
unfolding opposite
null_opposite = in_zero null_entries

doubled : SameModulo 1 (InSpan []) right (pos 2 ∷ [])
doubled = record {
  p = pos 1;
  k = pos 2;
  w = pos 0 ∷ [];
  cols = refl;
  p_positive = lt_z_yes tt;
  k_positive = lt_z_yes tt;
  line = record { inside = in_zero null_entries; opposed = null_opposite };
  same = record { at = at_one };
}
  where
    at_one : (i : ℕ) → entry (pos 2 ∷ []) i ≡ entry (pos 2 ∷ []) i
    at_one i = refl

ray_twice : ¬ (OrderTwoRays (right ∷ left ∷ (pos 2 ∷ []) ∷ []) [] (0 ∷ 1 ∷ []))
ray_twice o = o.once 0 2 [] (lit< tt) (lit< tt) doubled

lacks_ray : ¬ (OrderTwoRays (right ∷ []) [] (0 ∷ 1 ∷ []))
lacks_ray o = go (among_Any (λ v. SameModulo 1 (InSpan []) left v) (right ∷ []) (o.all 1 [] (lit< tt) left extreme_left))
  where
    go : ¬ ((v : Row) × Among v (right ∷ []) × SameModulo 1 (InSpan []) left v)
    go (v, here, s) = not_right s
    go (v, there i, s) = elim i [ ]

no_ray : ¬ (OrderTwoRays (right ∷ left ∷ (pos 0 ∷ []) ∷ []) [] (0 ∷ 1 ∷ []))
no_ray o = let w = among_Any (λ G. IsExtremeRay 1 G [] (pos 0 ∷ [])) two_rays (o.each 2 [] (lit< tt)) in w.2.not_line null_opposite

facet : ¬ (OrderTwoRays (right ∷ left ∷ []) (right ∷ []) (0 ∷ 1 ∷ []))
facet o = differ (length (right ∷ [])) 1 0 refl (ap length o.facets) (λ e. absurd (omega arith))

lacks_cone : ¬ (OrderTwoRays (right ∷ left ∷ []) [] (0 ∷ []))
lacks_cone o = go (o.every 1 (lit< tt))
  where
    go : ¬ (Contains {X = ℕ} (0 ∷ []) 1)
    go (zero, l, e) = absurd (omega arith)
    go (suc k, l, e) = absurd (omega arith)

cone_twice : ¬ (OrderTwoRays (right ∷ left ∷ []) [] (0 ∷ 1 ∷ 1 ∷ []))
cone_twice o = o.places_once 1 2 0 (lit< tt) (lit< tt) refl

no_cone : ¬ (OrderTwoRays (right ∷ left ∷ []) [] (0 ∷ 1 ∷ 2 ∷ []))
no_cone o = let l : 2 < 2 = o.places 2 0 (lit< tt) in absurd (omega arith)

pub fan_orders_are_read : FanOrdersAreRead
fan_orders_are_read = record {
  order = order;
  turned = turned;
  ray_twice = ray_twice;
  lacks_ray = lacks_ray;
  no_ray = no_ray;
  facet = facet;
  lacks_cone = lacks_cone;
  cone_twice = cone_twice;
  no_cone = no_cone;
}
