-- The definitions read on two lines in the plane and on the two rays of the line.
use Rattle.pm_geom.proofs.SmallProducts.{four_stays}
use Rattle.pm_vector.proofs.Lists.{All_among, Among, Contains_among, among_Contains, here, there}
use Rattle.pm_vector.specs.Rows.{HasCols, Row, entry}
use Rattle.pm_geom.specs.ThingExamples.{left, right}
use Rattle.pm_geom.specs.declared.evidence.Evidence.TheVariants.{E4}
use Rattle.pm_laws_normal_fans.proofs.ExampleIntersections.{all_listed, kept}
use Rattle.pm_laws_normal_fans.proofs.ExampleKept.{kept_are_read}
use Rattle.pm_laws_normal_fans.specs.Examples.{all_four, both_rays, in_right, minus, rays_of_line}
use Rattle.pm_refine.proofs.RaysMade.{ray_set_found, ray_sets_found}
use Rattle.pm_refine.specs.CutRows.{IsSmallFan, fan_from}
use Rattle.pm_refine.specs.Examples.{FailsAreRead, RefinedAreRead, StepsAreRead}
use Rattle.pm_refine.specs.Fails.{IsRefineFail, IsShownBy}
use Rattle.pm_refine.specs.Refined.{AreRaySets, IsRaySet}
use Rattle.pm_refine.specs.declared.fails.RefineFail.TheVariants.{NotMade}
use Rattle.std.proofs.Common.{ap, arith, inl, inr, refl}
use Rattle.std.proofs.lemmas.Int.{ints}
use Rattle.std.specs.List.{Contains}
use Rattle.std.specs.Prelude.{List, [], length, ℕ, ◌<◌, ◌∷◌, ◌≡◌}
use lib.IntN.{pos}

pub steps_are_read : StepsAreRead
steps_are_read = record {
  within = refl;
  not_within = refl;
  off_line = refl;
  two_lines = refl;
  one_line = refl;
  let_go = refl;
  left_out = refl;
  first_of_equal = refl;
  not_second = λ e. absurd cc;
}

-- ---- the two rays of the line
only : {x y : Row} → Among x (y ∷ []) → x ≡ y
only here = refl
only (there i) = elim i [ ]

not_left_there : ¬ (Contains (right ∷ []) left)
not_left_there c =
    let e = only (among_Contains (right ∷ []) c) in
    let d : minus ≡ pos 1 = ap (λ (x : Row). entry x 0) e in
    omega (arith, ints)

not_left : ¬ (IsRaySet (left ∷ right ∷ []) in_right (0 ∷ []))
not_left s = not_left_there ((s.places 0 (omega arith)).0 (Contains_among (here {xs = []})))

not_both : ¬ (IsRaySet (left ∷ right ∷ []) in_right (0 ∷ 1 ∷ []))
not_both s = not_left_there ((s.places 0 (omega arith)).0 (Contains_among (here {xs = 1 ∷ []})))

one_column : (G : List Row) → Among G ((right ∷ []) ∷ (left ∷ []) ∷ []) → HasCols 1 G × (length G < 1073741824)
one_column G here = ((refl, tt), omega arith)
one_column G (there here) = ((refl, tt), omega arith)
one_column G (there (there i)) = elim i [ ]

small : IsSmallFan 1 (fan_from ((right ∷ []) ∷ (left ∷ []) ∷ []) [])
small = record {
  cones = All_among (HasCols 1) ((right ∷ []) ∷ (left ∷ []) ∷ []) (λ G i. (one_column G i).0);
  lines = tt;
  few_cones = omega arith;
  few_rays = All_among (λ (G : List Row). length G < 1073741824) ((right ∷ []) ∷ (left ∷ []) ∷ []) (λ G i. (one_column G i).1);
  few_lines = omega arith;
}

one_is_two : (m : ℕ) → m ≡ 1 → ¬ (m ≡ 2)
one_is_two m e d = omega arith

columns : ¬ (IsSmallFan 2 (fan_from ((right ∷ []) ∷ (left ∷ []) ∷ []) []))
columns s = one_is_two 1 refl (s.cones 0 [] (omega arith)).0

turned : ¬ (AreRaySets (left ∷ right ∷ []) both_rays ((0 ∷ []) ∷ (1 ∷ []) ∷ []))
turned s = not_left (s.each 0 in_right (omega arith))

one_set : ¬ (AreRaySets (left ∷ right ∷ []) both_rays ((1 ∷ []) ∷ []))
one_set s = one_is_two 1 refl s.as_many

pub refined_are_read : RefinedAreRead
refined_are_read = record {
  refined = record { listed = all_four; all = all_listed; maximal = kept; lines = λ e. refl; refined = kept_are_read.refined };
  not_all = λ a. kept_are_read.not_refined a.refined;
  small = small;
  columns = columns;
  joined = refl;
  places = refl;
  set = ray_set_found (left ∷ right ∷ []) in_right;
  not_left = not_left;
  not_both = not_both;
  sets = ray_sets_found (left ∷ right ∷ []) both_rays ((1 ∷ []) ∷ (0 ∷ []) ∷ []) refl;
  turned = turned;
  one_set = one_set;
}

-- ---- refusals
not_shown : (n : ℕ) (L G : List Row) → IsShownBy n L G (E4 (pos 2 ∷ []) (pos 2 ∷ [])) → ⊥
not_shown n L G h = elim h [
  | inl a ↦ elim a [ inl k ↦ k | inr k ↦ k.2 ]
  | inr a ↦ elim a [ inl k ↦ k | inr k ↦ k.2 ]
]

no_place : ¬ (IsRefineFail 1 rays_of_line rays_of_line (NotMade 0 2 (E4 (pos 2 ∷ []) (pos 2 ∷ []))))
no_place h = let l : 2 < 2 = h.1 in omega arith

not_small : ¬ (IsRefineFail 1 rays_of_line rays_of_line (NotMade 0 0 (E4 (pos 2 ∷ []) (pos 2 ∷ []))))
not_small h = elim h.2 [
  | inl s ↦ elim s [ inl a ↦ not_shown 1 [] (right ∷ []) a | inr a ↦ not_shown 1 [] (right ∷ []) a ]
  | inr s ↦ elim s [ inl m ↦ not_shown _ _ _ m.shown | inr w ↦ w.2 four_stays ]
]

pub fails_are_read : FailsAreRead
fails_are_read = record { memory = tt; no_place = no_place; not_small = not_small }
