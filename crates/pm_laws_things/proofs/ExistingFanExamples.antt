-- The examples of what fans there are.
use Rattle.pm_geom.proofs.Apart.{apart, order_of_apart, without}
use Rattle.pm_geom.proofs.ShortRows.{at_three, at_two, by_three, by_two}
use Rattle.pm_geom.proofs.SmallFans.{fans_are_read}
use Rattle.pm_geom.proofs.ValidRows.{Tables, facet_order}
use Rattle.pm_geom.specs.Cones.{CutOut, IsFacetRow, IsOrder, IsValid}
use Rattle.pm_geom.specs.Examples.{pair, square, triple}
use Rattle.pm_geom.specs.Things.{IsFanThing}
use Rattle.pm_laws_normal_fans.proofs.ExampleFaceFans.{face_fans_are_read}
use Rattle.pm_laws_normal_fans.proofs.ExampleVertices.{square_polytope, vertices_are_read}
use Rattle.pm_laws_normal_fans.specs.Examples.{even_corners, generated, minus}
use Rattle.pm_laws_normal_fans.specs.FaceFans.{InConeOver, IsFaceFan}
use Rattle.pm_laws_normal_fans.specs.Fans.{Fan, InPlace}
use Rattle.pm_laws_things.proofs.ExistenceExamples.{small_thing, square_thing, zero_objectives}
use Rattle.pm_laws_things.proofs.ExistingFans.{face_fans_exist, normal_fans_exist}
use Rattle.pm_laws_things.proofs.ExistingRefinements.{refinements_exist}
use Rattle.pm_laws_things.specs.Existence.{IsSomeFan, SomeThing}
use Rattle.pm_laws_things.specs.ExistenceExamples.{FanExistenceIsRead}
use Rattle.pm_laws_things.specs.FanExamples.{polytope, rays_of_line}
use Rattle.pm_laws_things.specs.FanLaws.{IsBounded, IsFaceFanOf, fan_of}
use Rattle.pm_object_type.specs.declared.object_type.ObjectType.TheVariants.{Fan as OfFan, Polytope}
use Rattle.pm_relations.proofs.Sites.{no_sites}
use Rattle.pm_types.specs.Right.{IsCentered}
use Rattle.pm_types.specs.Things.{IsOfType, IsThing, Thing}
use Rattle.pm_vector.proofs.ConeLaws.{in_generator, in_zero}
use Rattle.pm_vector.proofs.Lists.{Among, among_All, here, there}
use Rattle.pm_vector.proofs.Ring.{ring}
use Rattle.pm_vector.proofs.Signs.{mul_cancel}
use Rattle.pm_vector.specs.Cones.{InCone}
use Rattle.pm_vector.specs.Rows.{HasCols, IsZero, Row, dot, entry}
use Rattle.std.proofs.Common.{arith, refl, subst, sym}
use Rattle.std.proofs.lemmas.Int.{ints}
use Rattle.std.specs.Prelude.{List, [], length, suc, zero, ℕ, ◌∷◌, ◌≡◌, ◌≤◌}
use lib.IntN.{pos, ℤ, ◌*ℤ◌, ◌-ℤ◌}
use lib.Signed.{le_z_yes, lt_z_yes, ◌<ℤ◌}

-- ---- the segment from 0 to 1: its facets are its ends
abbrev ends : List Row
ends = pair 1 0 ∷ pair 1 1 ∷ []

abbrev bounds : List Row
bounds = pair 0 1 ∷ (pos 1 ∷ minus ∷ []) ∷ []

ends_cols : HasCols 2 ends
ends_cols = (refl, (refl, tt))

bounds_cols : HasCols 2 bounds
bounds_cols = (refl, (refl, tt))

between : (a b : ℤ) → CutOut bounds (a ∷ b ∷ []) → InCone ends [] (a ∷ b ∷ [])
between a b (p, (q, u)) =
    let low = simp ring at p in
    let high = simp ring at q in
    record {
      m = pos 1;
      c = (a -ℤ b) ∷ b ∷ [];
      d = [];
      positive = lt_z_yes tt;
      not_negative = (omega (arith, ints), (omega (arith, ints), tt));
      same = at_two _ _ _ _ (simp ring (omega (arith, ints))) (simp ring (omega (arith, ints)));
    }

bound_needed : (v : Row) (i : Among v bounds) → ¬ (InCone (without i) [] v)
unfolding without
bound_needed v here = apart _ [] (pos 0 ∷ minus ∷ []) _ tt tt tt
bound_needed v (there here) = apart _ [] (minus ∷ pos 0 ∷ []) _ tt tt tt
bound_needed v (there (there i)) = elim i [ ]

signs : Tables ends [] bounds []
signs = record { rows = tt; rows_lines = tt; lines = tt; lines_lines = tt }

bound_order : IsOrder 2 (IsValid 2 ends []) bounds
bound_order = facet_order 2 ends [] bounds [] ends_cols tt bounds_cols tt signs (λ x l c u. by_two (λ y. CutOut bounds y → InCone ends [] y) between x l c)
    (order_of_apart 2 bounds [] bounds_cols tt (pair 2 1) tt tt bound_needed)

bound : (a : Row) → Among a bounds → IsFacetRow 2 ends [] a
bound a i = among_All (λ a. IsFacetRow 2 ends [] a) i bound_order.each

-- the cone over the end 0 is {0}, and lies in that over the end 1
only_zero : (c : Row) → length c ≡ 1 → InConeOver 1 (generated ends) (pair 0 1) c → IsZero c
only_zero [] l s i = absurd (omega arith)
only_zero (a ∷ b ∷ c) l s i = absurd (omega arith)
only_zero (a ∷ []) l s zero = by_two (λ r. dot (pair 0 1) r ≡ pos 0 → s.factor *ℤ a ≡ entry r 1 → a ≡ pos 0) (λ p q e f. let z = simp ring at e in mul_cancel s.positive (simp ring (omega (arith, ints)))) s.row s.cols s.zero (s.same 0)
only_zero (a ∷ []) l s (suc i) = refl

at_end : InConeOver 1 (generated ends) (pos 1 ∷ minus ∷ []) (pos 1 ∷ [])
at_end = record { factor = pos 1; row = pair 1 1; positive = lt_z_yes tt; cols = refl; inside = in_generator (there here); zero = refl; same = same }
  where
    same : (i : ℕ) → pos 1 *ℤ entry (pos 1 ∷ []) i ≡ entry (pair 1 1) (suc i)
    same zero = refl
    same (suc i) = refl

no_face_fan : (f : Fan) → IsFanThing 1 f.cones f.lines → IsFaceFan 1 (generated ends) f → ⊥
no_face_fan f fan faces =
    let (k, lk, ck) = faces.all (pair 0 1) (bound (pair 0 1) here) in
    let (l, ll, cl) = faces.all (pos 1 ∷ minus ∷ []) (bound (pos 1 ∷ minus ∷ []) (there here)) in
    fan.apart k l lk ll
    (λ e. one_is_not (only_zero (pos 1 ∷ []) refl ((ck (pos 1 ∷ []) refl).0 (subst (λ z. InPlace f z (pos 1 ∷ [])) (sym e) ((cl (pos 1 ∷ []) refl).1 at_end)))))
    (λ x lx h. in_zero (only_zero x lx ((ck x lx).0 h)))
  where
    one_is_not : ¬ (IsZero (pos 1 ∷ []))
    one_is_not z = let e : pos 1 ≡ pos 0 = z 0 in omega (arith, ints)

fan_at : (u : Thing) → IsThing u → u.of ≡ OfFan → 1 ≡ u.cols → IsFanThing 1 u.cones u.lines
fan_at u h e c = subst (λ k. IsFanThing k u.cones u.lines) (sym c) (subst (λ k. IsOfType k u.cols u.generators u.lines u.cones) e h.kind).0

no_face : ¬ (SomeThing (IsFaceFanOf (polytope 2 ends)))
no_face s =
    let c : 2 ≡ suc s.thing.cols = s.holds.cols in
    let e : 1 ≡ s.thing.cols = omega arith in
    no_face_fan (fan_of s.thing) (fan_at s.thing s.is_thing s.holds.of e) (subst (λ k. IsFaceFan k (generated ends) (fan_of s.thing)) (sym e) s.holds.cones)

not_centered : ¬ (IsCentered (polytope 2 ends))
not_centered c =
    let p : pos 0 <ℤ pos 0 = c.positive (pair 0 1) (bound (pair 0 1) here).inside (λ v. let e : pos 1 ≡ pos 0 = v.holds (pair 1 1) refl (in_generator (there here)) in omega (arith, ints)) in
    omega (arith, ints)

-- ---- the square around 0
origin_inside : (a b c : ℤ) → a ≡ pos 1 → b ≡ pos 0 → c ≡ pos 0 → InCone even_corners [] (a ∷ b ∷ c ∷ [])
origin_inside a b c e f g = record {
  m = pos 2;
  c = a ∷ pos 0 ∷ pos 0 ∷ a ∷ [];
  d = [];
  positive = lt_z_yes tt;
  not_negative = (omega (arith, ints), (le_z_yes tt, (le_z_yes tt, (omega (arith, ints), tt))));
  same = at_three _ _ _ _ _ _ (simp ring (omega (arith, ints))) (simp ring (omega (arith, ints))) (simp ring (omega (arith, ints)));
}

around : IsCentered (polytope 3 even_corners)
around = record {
  inside = λ e le one zeros. by_three (λ e. entry e 0 ≡ pos 1 → ((i : ℕ) → entry e (suc i) ≡ pos 0) → InCone even_corners [] e) (λ a b c p q. origin_inside a b c p (q 0) (q 1)) e le one zeros;
  positive = λ a v n. face_fans_are_read.centered.positive a v n;
}

even_bounded : IsBounded (polytope 3 even_corners)
even_bounded = record { of = refl; bounded = record { thing = face_fans_are_read.centered.thing; bounded = face_fans_are_read.centered.bounded; some = (triple 1 1 1, refl, in_generator here, lt_z_yes tt) } }

-- ---- fans
rays_thing : IsSomeFan rays_of_line
rays_thing = record { thing = record { some_cols = omega arith; few_cols = omega arith; kind = (fans_are_read.rays, refl); programs = zero_objectives 1; sites = no_sites _ }; of = refl }

of_one : (n m : ℕ) → n ≡ suc m → 1 ≤ m → n ≤ 1 → ⊥
of_one n m e h l = omega arith

no_fan : Polytope ≡ OfFan → ⊥
no_fan e = cc

pub fan_existence_read : FanExistenceIsRead
fan_existence_read = record {
  normal = normal_fans_exist (polytope 3 square) square_thing.thing (record { of = refl; bounded = square_polytope }) (omega arith);
  no_normal = λ t l s. of_one t.cols s.thing.cols s.holds.cols s.is_thing.some_cols l;
  empty = λ b. vertices_are_read.empty b.bounded.some;
  unbounded = λ b. vertices_are_read.half b.bounded;
  face = face_fans_exist (polytope 3 even_corners) (small_thing 3 even_corners (omega arith) (omega arith) face_fans_are_read.centered.thing).thing even_bounded around (omega arith);
  no_face = no_face;
  not_centered = not_centered;
  no_face_of_one = λ t l s. of_one t.cols s.thing.cols s.holds.cols s.is_thing.some_cols l;
  refinement = refinements_exist rays_of_line rays_of_line rays_thing rays_thing refl;
  no_refinement = λ t s d h. d h.holds.second_cols;
  no_fan = λ f. no_fan f.of;
}
