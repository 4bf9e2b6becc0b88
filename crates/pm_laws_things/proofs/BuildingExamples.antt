-- The examples of built things.
use Rattle.pm_vector.proofs.ConeLaws.{dot_in, in_generator, in_zero}
use Rattle.pm_vector.proofs.Lists.{Among, here, there}
use Rattle.pm_vector.specs.Cones.{InCone}
use Rattle.pm_vector.specs.Rows.{Row, Same, dot, entry, plus, times}
use Rattle.pm_laws_things.proofs.PyramidLaws.{pyramid_above}
use Rattle.pm_laws_things.specs.Built.{InCube, InPolar, InProduct, InPyramid, IsSum}
use Rattle.pm_laws_normal_fans.proofs.ExampleSums.{sums_are_read}
use Rattle.pm_laws_things.specs.BuildingExamples.{MinkowskiSumsAreRead, OthersAreRead, ShapesAreRead, even_segment, five, generated, high_segment, long_segment, unit_segment}
use Rattle.pm_build.specs.Rows.{apex_row}
use Rattle.pm_types.specs.Right.{InSet}
use Rattle.std.proofs.Common.{arith, refl, subst}
use Rattle.std.proofs.lemmas.Int.{ints}
use Rattle.std.specs.Prelude.{List, [], length, suc, zero, ℕ, ◌++◌, ◌<◌, ◌↔◌, ◌∷◌, ◌≡◌}
use lib.IntN.{negsuc, neg_ℤ, pos, ℤ, ◌*ℤ◌, ◌+ℤ◌, ◌-ℤ◌}
use lib.Signed.{◌<ℤ◌, ◌≤ℤ◌}

-- ---- cones of one row and of two
one_row : (S : Row → Type 0) (x : Row) → S x → (g : Row) → Among g (x ∷ []) → S g
one_row S x h g here = h
one_row S x h g (there i) = elim i [ ]

two_rows : (S : Row → Type 0) (x y : Row) → S x → S y → (g : Row) → Among g (x ∷ y ∷ []) → S g
two_rows S x y h k g here = h
two_rows S x y h k g (there i) = one_row S y k g i

-- what is not negative on one row, or on two, is not negative on their cone
on_one : (a x z : Row) → pos 0 ≤ℤ dot a x → InCone (x ∷ []) [] z → pos 0 ≤ℤ dot a z
on_one a x z h i = dot_in a (x ∷ []) [] (one_row (λ g. pos 0 ≤ℤ dot a g) x h) (λ l j. elim j [ ]) i

on_two : (a x y z : Row) → pos 0 ≤ℤ dot a x → pos 0 ≤ℤ dot a y → InCone (x ∷ y ∷ []) [] z → pos 0 ≤ℤ dot a z
on_two a x y z h k i = dot_in a (x ∷ y ∷ []) [] (two_rows (λ g. pos 0 ≤ℤ dot a g) x y h k) (λ l j. elim j [ ]) i

-- a positive multiple of z is a sum of multiples of two rows
in_two : (x y z : Row) (m p q : ℤ) → pos 0 <ℤ m → pos 0 ≤ℤ p → pos 0 ≤ℤ q → Same (times m z) (plus (plus (times p x) (plus (times q y) [])) []) → InCone (x ∷ y ∷ []) [] z
in_two x y z m p q hm hp hq e = record { m = m; c = p ∷ q ∷ []; d = []; positive = hm; not_negative = (hp, (hq, tt)); same = e }

-- the rows with -z0 <= z1 <= z0 are the cone of the segment from -1 to 1
even_in : (a b : ℤ) → neg_ℤ a ≤ℤ b → b ≤ℤ a → InSet even_segment (a ∷ b ∷ [])
even_in a b h k = in_two (pos 1 ∷ pos 1 ∷ []) (pos 1 ∷ negsuc 0 ∷ []) (a ∷ b ∷ []) (pos 2) (a +ℤ b) (a -ℤ b) (omega (arith, ints)) (omega (arith, ints)) (omega (arith, ints)) (record { at = at })
  where
    at : (i : ℕ) → entry (times (pos 2) (a ∷ b ∷ [])) i ≡ entry (plus (plus (times (a +ℤ b) (pos 1 ∷ pos 1 ∷ [])) (plus (times (a -ℤ b) (pos 1 ∷ negsuc 0 ∷ [])) [])) []) i
    at zero = omega (arith, ints)
    at (suc zero) = omega (arith, ints)
    at (suc (suc i)) = refl

even_out : (a b : ℤ) → InSet even_segment (a ∷ b ∷ []) → (neg_ℤ a ≤ℤ b) × (b ≤ℤ a)
even_out a b h =
    let p = on_two (pos 1 ∷ pos 1 ∷ []) (pos 1 ∷ pos 1 ∷ []) (pos 1 ∷ negsuc 0 ∷ []) (a ∷ b ∷ []) (omega (arith, ints)) (omega (arith, ints)) h in
    let q = on_two (pos 1 ∷ negsuc 0 ∷ []) (pos 1 ∷ pos 1 ∷ []) (pos 1 ∷ negsuc 0 ∷ []) (a ∷ b ∷ []) (omega (arith, ints)) (omega (arith, ints)) h in
    (omega (arith, ints), omega (arith, ints))

-- nothing below 0 is in the cone of the segment from 0 to 1, and nothing above 1
unit_out : (a b : ℤ) → InSet unit_segment (a ∷ b ∷ []) → (pos 0 ≤ℤ a) × (pos 0 ≤ℤ b) × (b ≤ℤ a)
unit_out a b h =
    let o = on_two (pos 1 ∷ pos 0 ∷ []) (pos 1 ∷ pos 0 ∷ []) (pos 1 ∷ pos 1 ∷ []) (a ∷ b ∷ []) (omega (arith, ints)) (omega (arith, ints)) h in
    let p = on_two (pos 0 ∷ pos 1 ∷ []) (pos 1 ∷ pos 0 ∷ []) (pos 1 ∷ pos 1 ∷ []) (a ∷ b ∷ []) (omega (arith, ints)) (omega (arith, ints)) h in
    let q = on_two (pos 1 ∷ negsuc 0 ∷ []) (pos 1 ∷ pos 0 ∷ []) (pos 1 ∷ pos 1 ∷ []) (a ∷ b ∷ []) (omega (arith, ints)) (omega (arith, ints)) h in
    (omega (arith, ints), omega (arith, ints), omega (arith, ints))

-- ---- the cube
cube_points : (x : Row) → length x ≡ 2 → InSet even_segment x ↔ InCube 1 x
cube_points [] e = absurd (omega arith)
cube_points (a ∷ []) e = absurd (omega arith)
cube_points (a ∷ b ∷ c ∷ x) e = absurd (omega arith)
cube_points (a ∷ b ∷ []) e = (λ h. record { within = within (even_out a b h) }, λ c. let w = c.within 0 (omega arith) in even_in a b w.0 w.1)
  where
    within : (neg_ℤ a ≤ℤ b) × (b ≤ℤ a) → (i : ℕ) → i < 1 → (neg_ℤ a ≤ℤ entry (a ∷ b ∷ []) (suc i)) × (entry (a ∷ b ∷ []) (suc i) ≤ℤ a)
    within w zero l = w
    within w (suc i) l = absurd (omega arith)

in_cube : (a b : ℤ) → neg_ℤ a ≤ℤ b → b ≤ℤ a → InCube 1 (a ∷ b ∷ [])
in_cube a b h k = (cube_points (a ∷ b ∷ []) refl).0 (even_in a b h k)

pub shapes : ShapesAreRead
shapes = record {
  corner = in_cube (pos 1) (negsuc 0) (omega (arith, ints)) (omega (arith, ints));
  half = in_cube (pos 2) (pos 1) (omega (arith, ints)) (omega (arith, ints));
  above = λ c. let w = c.within 0 (omega arith) in let p : pos 2 ≤ℤ pos 1 = w.1 in omega (arith, ints);
  below = λ c. let w = c.within 0 (omega arith) in let p : negsuc 0 ≤ℤ negsuc 1 = w.0 in omega (arith, ints);
  cube = record { of = refl; cols = refl; points = λ x e up. cube_points x e };
  no_cube = λ h. let w = unit_out (pos 1) (negsuc 0) ((h.points (pos 1 ∷ negsuc 0 ∷ []) refl (omega (arith, ints))).1 (in_cube (pos 1) (negsuc 0) (omega (arith, ints)) (omega (arith, ints)))) in let p : pos 0 ≤ℤ negsuc 0 = w.1 in omega (arith, ints);
  no_square = λ h. let e : 2 ≡ 3 = h.cols in omega arith;
  between = in_two (pos 1 ∷ pos 0 ∷ []) (pos 1 ∷ pos 1 ∷ []) (pos 2 ∷ pos 1 ∷ []) (pos 1) (pos 1) (pos 1) (omega (arith, ints)) (omega (arith, ints)) (omega (arith, ints)) (record { at = λ i. refl });
  outside = λ h. let w = unit_out (pos 1) (pos 2) h in let p : pos 2 ≤ℤ pos 1 = w.2 in omega (arith, ints);
  simplex = record { of = refl; cols = refl; points = λ x e up. (λ h. h, λ h. h) };
  no_simplex = λ h. let w = unit_out (pos 1) (negsuc 0) ((h.points (pos 1 ∷ negsuc 0 ∷ []) refl (omega (arith, ints))).0 (in_generator (there here))) in let p : pos 0 ≤ℤ negsuc 0 = w.1 in omega (arith, ints);
  cross = record { of = refl; cols = refl; points = λ x e up. (λ h. h, λ h. h) };
  no_cross = λ h. let w = unit_out (pos 1) (negsuc 0) ((h.points (pos 1 ∷ negsuc 0 ∷ []) refl (omega (arith, ints))).1 (in_generator (there here))) in let p : pos 0 ≤ℤ negsuc 0 = w.1 in omega (arith, ints);
  cyclic = record { of = refl; cols = refl; points = λ x e up. (λ h. h, λ h. h) };
  no_cyclic = λ h. let w = unit_out (pos 1) (pos 2) ((h.points (pos 1 ∷ pos 2 ∷ []) refl (omega (arith, ints))).1 (in_generator (there here))) in let p : pos 2 ≤ℤ pos 1 = w.2 in omega (arith, ints);
}

-- ---- a product with a point
unit_in : (a b : ℤ) → pos 0 ≤ℤ b → b ≤ℤ a → InSet unit_segment (a ∷ b ∷ [])
unit_in a b h k = in_two (pos 1 ∷ pos 0 ∷ []) (pos 1 ∷ pos 1 ∷ []) (a ∷ b ∷ []) (pos 1) (a -ℤ b) b (omega (arith, ints)) (omega (arith, ints)) (omega (arith, ints)) (record { at = at })
  where
    at : (i : ℕ) → entry (times (pos 1) (a ∷ b ∷ [])) i ≡ entry (plus (plus (times (a -ℤ b) (pos 1 ∷ pos 0 ∷ [])) (plus (times b (pos 1 ∷ pos 1 ∷ [])) [])) []) i
    at zero = omega (arith, ints)
    at (suc zero) = omega (arith, ints)
    at (suc (suc i)) = refl

five_in : (a c : ℤ) → pos 0 ≤ℤ a → c ≡ pos 5 *ℤ a → InSet five (a ∷ c ∷ [])
five_in a c h e = record { m = pos 1; c = a ∷ []; d = []; positive = omega (arith, ints); not_negative = (h, tt); same = record { at = at } }
  where
    at : (i : ℕ) → entry (times (pos 1) (a ∷ c ∷ [])) i ≡ entry (plus (plus (times a (pos 1 ∷ pos 5 ∷ [])) []) []) i
    at zero = omega (arith, ints)
    at (suc zero) = omega (arith, ints)
    at (suc (suc i)) = refl

five_out : (a c : ℤ) → InSet five (a ∷ c ∷ []) → c ≡ pos 5 *ℤ a
five_out a c h =
    let p = on_one (pos 5 ∷ negsuc 0 ∷ []) (pos 1 ∷ pos 5 ∷ []) (a ∷ c ∷ []) (omega (arith, ints)) h in
    let q = on_one (negsuc 4 ∷ pos 1 ∷ []) (pos 1 ∷ pos 5 ∷ []) (a ∷ c ∷ []) (omega (arith, ints)) h in
    omega (arith, ints)

high_in : (a b c : ℤ) → pos 0 ≤ℤ b → b ≤ℤ a → c ≡ pos 5 *ℤ a → InSet high_segment (a ∷ b ∷ c ∷ [])
high_in a b c h k e = in_two (pos 1 ∷ pos 0 ∷ pos 5 ∷ []) (pos 1 ∷ pos 1 ∷ pos 5 ∷ []) (a ∷ b ∷ c ∷ []) (pos 1) (a -ℤ b) b (omega (arith, ints)) (omega (arith, ints)) (omega (arith, ints)) (record { at = at })
  where
    at : (i : ℕ) → entry (times (pos 1) (a ∷ b ∷ c ∷ [])) i ≡ entry (plus (plus (times (a -ℤ b) (pos 1 ∷ pos 0 ∷ pos 5 ∷ [])) (plus (times b (pos 1 ∷ pos 1 ∷ pos 5 ∷ [])) [])) []) i
    at zero = omega (arith, ints)
    at (suc zero) = omega (arith, ints)
    at (suc (suc zero)) = omega (arith, ints)
    at (suc (suc (suc i))) = refl

-- what is not negative at both ends of the segment
high_up : (r a b c : ℤ) (s t : ℤ) → pos 0 ≤ℤ (r +ℤ pos 5 *ℤ t) → pos 0 ≤ℤ (r +ℤ s +ℤ pos 5 *ℤ t) → InSet high_segment (a ∷ b ∷ c ∷ []) → pos 0 ≤ℤ dot (r ∷ s ∷ t ∷ []) (a ∷ b ∷ c ∷ [])
high_up r a b c s t h k i = on_two (r ∷ s ∷ t ∷ []) (pos 1 ∷ pos 0 ∷ pos 5 ∷ []) (pos 1 ∷ pos 1 ∷ pos 5 ∷ []) (a ∷ b ∷ c ∷ []) (omega (arith, ints)) (omega (arith, ints)) i

high_out : (a b c : ℤ) → InSet high_segment (a ∷ b ∷ c ∷ []) → (pos 0 ≤ℤ b) × (b ≤ℤ a) × (c ≡ pos 5 *ℤ a)
high_out a b c h =
    let p = high_up (pos 0) a b c (pos 1) (pos 0) (omega (arith, ints)) (omega (arith, ints)) h in
    let q = high_up (pos 1) a b c (negsuc 0) (pos 0) (omega (arith, ints)) (omega (arith, ints)) h in
    let r = high_up (pos 5) a b c (pos 0) (negsuc 0) (omega (arith, ints)) (omega (arith, ints)) h in
    let s = high_up (negsuc 4) a b c (pos 0) (pos 1) (omega (arith, ints)) (omega (arith, ints)) h in
    (omega (arith, ints), omega (arith, ints), omega (arith, ints))

product_points : (x : Row) → length x ≡ 3 → InSet high_segment x ↔ InProduct unit_segment five x
product_points [] e = absurd (omega arith)
product_points (a ∷ []) e = absurd (omega arith)
product_points (a ∷ b ∷ []) e = absurd (omega arith)
product_points (a ∷ b ∷ c ∷ d ∷ x) e = absurd (omega arith)
product_points (a ∷ b ∷ c ∷ []) e = (
  λ h. let w = high_out a b c h in let p = w.0 in let q = w.1 in record { first = unit_in a b p q; second = five_in a c (omega (arith, ints)) w.2 },
  λ w. let p = unit_out a b w.first in high_in a b c p.1 p.2 (five_out a c w.second),
)

-- ---- the polar
polar_points : (y : Row) → length y ≡ 2 → InSet even_segment y ↔ InPolar even_segment y
polar_points [] e = absurd (omega arith)
polar_points (a ∷ []) e = absurd (omega arith)
polar_points (a ∷ b ∷ c ∷ y) e = absurd (omega arith)
polar_points (a ∷ b ∷ []) e = (
  λ h x lx up g. let w = even_out a b h in let p = w.0 in let q = w.1 in on_two (a ∷ b ∷ []) (pos 1 ∷ pos 1 ∷ []) (pos 1 ∷ negsuc 0 ∷ []) x (omega (arith, ints)) (omega (arith, ints)) g,
  λ f.
      let p = f (pos 1 ∷ pos 1 ∷ []) refl (omega (arith, ints)) (in_generator here) in
      let q = f (pos 1 ∷ negsuc 0 ∷ []) refl (omega (arith, ints)) (in_generator (there here)) in
      even_in a b (omega (arith, ints)) (omega (arith, ints)),
)

one_sided : ¬ (InPolar long_segment (pos 1 ∷ negsuc 0 ∷ []))
one_sided f = let p : pos 0 ≤ℤ negsuc 0 = f (pos 1 ∷ pos 2 ∷ []) refl (omega (arith, ints)) (in_generator (there here)) in omega (arith, ints)

-- ---- pyramids over segments
-- z less its last coordinate times the apex
over_segment : (G : List Row) (a b c : ℤ) → InPyramid (generated 2 G) (a ∷ b ∷ c ∷ []) → InCone G [] ((a -ℤ c) ∷ b ∷ []) × (pos 0 ≤ℤ c)
over_segment G a b c w = by w.x w.cols w.inside w.sum
  where
    by : (x : Row) → length x ≡ 2 → InCone G [] x → Same (a ∷ b ∷ c ∷ []) (plus (x ++ pos 0 ∷ []) (times w.k (apex_row 2))) → InCone G [] ((a -ℤ c) ∷ b ∷ []) × (pos 0 ≤ℤ c)
    by [] e h s = absurd (omega arith)
    by (d ∷ []) e h s = absurd (omega arith)
    by (d ∷ f ∷ g ∷ x) e h s = absurd (omega arith)
    by (d ∷ f ∷ []) e h s =
        let p : a ≡ d +ℤ w.k *ℤ pos 1 = s.at 0 in
        let q : b ≡ f +ℤ w.k *ℤ pos 0 = s.at 1 in
        let r : c ≡ pos 0 +ℤ w.k *ℤ pos 1 = s.at 2 in
        let n = w.not_negative in
        let first : d ≡ a -ℤ c = omega (arith, ints) in
        let second : f ≡ b = omega (arith, ints) in
        (subst (λ v. InCone G [] (v ∷ b ∷ [])) first (subst (λ v. InCone G [] (d ∷ v ∷ [])) second h), omega (arith, ints))

nothing_there : (i : ℕ) → entry (pos 0 ∷ pos 0 ∷ []) i ≡ pos 0
nothing_there zero = refl
nothing_there (suc zero) = refl
nothing_there (suc (suc i)) = refl

pub others : OthersAreRead
others = record {
  pair = record { first = in_generator (there here); second = in_generator (there here) };
  turned = λ w. let p = unit_out (pos 1) (negsuc 0) w.first in let q : pos 0 ≤ℤ negsuc 0 = p.1 in omega (arith, ints);
  product = record { of = refl; cols = refl; points = λ x e up. product_points x e };
  no_product = λ h. let w = (h.points (pos 1 ∷ pos 0 ∷ pos 5 ∷ []) refl (omega (arith, ints))).0 (in_generator here) in let p : pos 0 ≡ pos 5 *ℤ pos 1 = five_out (pos 1) (pos 0) w.first in omega (arith, ints);
  one_side = λ x e up g. on_two (pos 1 ∷ pos 1 ∷ []) (pos 1 ∷ negsuc 0 ∷ []) (pos 1 ∷ pos 2 ∷ []) x (omega (arith, ints)) (omega (arith, ints)) g;
  other_side = one_sided;
  polar = record { of = refl; cols = refl; points = λ y e up. polar_points y e };
  no_polar = λ h. one_sided ((h.points (pos 1 ∷ negsuc 0 ∷ []) refl (omega (arith, ints))).0 (in_generator (there here)));
  base = record { x = pos 1 ∷ pos 1 ∷ []; k = pos 0; cols = refl; inside = in_generator (there here); not_negative = omega (arith, ints); sum = record { at = λ i. refl } };
  apex = record { x = pos 0 ∷ pos 0 ∷ []; k = pos 1; cols = refl; inside = in_zero nothing_there; not_negative = omega (arith, ints); sum = record { at = λ i. refl } };
  beyond = λ w. let p = unit_out (pos 1 -ℤ pos 2) (pos 0) (over_segment _ (pos 1) (pos 0) (pos 2) w).0 in let q : pos 0 ≤ℤ negsuc 0 = p.0 in omega (arith, ints);
  under = λ w. let p : pos 0 ≤ℤ negsuc 0 = (over_segment _ (pos 1) (pos 0) (negsuc 0) w).1 in omega (arith, ints);
  pyramid = record { of = refl; cols = refl; cone = λ z e. let p = pyramid_above unit_segment (omega arith) (refl, (refl, tt)) tt z e in (p.1, p.0) };
  no_pyramid = λ h.
      let w = over_segment _ (pos 1) (pos 0) (pos 0) ((h.cone (pos 1 ∷ pos 0 ∷ pos 0 ∷ []) refl).0 (in_generator here)) in
      let p : pos 0 ≤ℤ negsuc 0 = on_two (negsuc 0 ∷ pos 1 ∷ []) (pos 1 ∷ pos 1 ∷ []) (pos 1 ∷ pos 2 ∷ []) (pos 1 ∷ pos 0 ∷ []) (omega (arith, ints)) (omega (arith, ints)) w.0 in omega (arith, ints);
}

five_at : (x : Row) → length x ≡ 2 → InSet five x → entry x 1 ≡ pos 5 *ℤ entry x 0
five_at [] e h = absurd (omega arith)
five_at (a ∷ []) e h = absurd (omega arith)
five_at (a ∷ b ∷ []) e h = five_out a b h
five_at (a ∷ b ∷ c ∷ x) e h = absurd (omega arith)

no_five : ¬ (IsSum five five five)
no_five h =
    let w = (h.points (pos 1 ∷ pos 5 ∷ []) refl (omega (arith, ints))).0 (in_generator here) in
    let a = five_at w.first w.first_cols w.of_first in
    let b = five_at w.second w.second_cols w.of_second in
    let c : entry w.first 0 ≡ w.factor *ℤ pos 1 = w.sum.first in
    let d : entry w.second 0 ≡ w.factor *ℤ pos 1 = w.sum.second in
    let e : w.factor *ℤ pos 5 ≡ entry w.first 1 +ℤ entry w.second 1 = w.sum.others 0 in
    let f = w.positive in
    omega (arith, ints)

pub minkowski_sums : MinkowskiSumsAreRead
minkowski_sums = record {
  square = record { of = refl; cols = refl; points = λ x e up. sums_are_read.of_edges.sum x e };
  no_point = no_five;
  no_column_more = λ h. let e : 3 ≡ 2 = h.cols in omega arith;
}
