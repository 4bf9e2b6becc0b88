-- The examples of what there is.
use Rattle.pm_geom.specs.Examples.{square, triple}
use Rattle.pm_geom.specs.Things.{IsPolytopeThing}
use Rattle.pm_laws_normal_fans.proofs.ExampleVertices.{square_polytope}
use Rattle.pm_laws_normal_fans.proofs.Places.{map_length, range_length}
use Rattle.pm_laws_things.proofs.ExistingShapes.{shapes_exist}
use Rattle.pm_laws_things.proofs.ExistingSums.{not_zero, sums_exist}
use Rattle.pm_laws_things.specs.Existence.{IsSomePolytope}
use Rattle.pm_laws_things.specs.FanExamples.{polytope, zero_objective}
use Rattle.pm_relations.proofs.Sites.{no_sites}
use Rattle.pm_vector.proofs.ConeLaws.{none_to_zero}
use Rattle.pm_vector.specs.Rows.{Row, entry, ratio_at}
use Rattle.std.specs.List.{range_with_len}
use lib.IntN.{pos, ℤ}
use lib.Signed.{lt_z_yes, ◌<ℤ◌, ◌≤ℤ◌}
use Rattle.std.proofs.lemmas.Int.{ints}
use Rattle.pm_laws_things.specs.ExistenceExamples.{ExistenceIsRead}
use Rattle.pm_object_type.specs.declared.object_type.ObjectType.TheVariants.{Cone, Polytope}
use Rattle.pm_types.specs.Things.{AreObjectives, IsThing, Thing}
use Rattle.std.proofs.Common.{arith, inl, refl, ◌∙◌}
use Rattle.std.specs.Prelude.{List, [], map, suc, zero, ℕ, ◌+◌, ◌-◌, ◌∷◌, ◌≤◌, ◌≡◌}
use Rattle.pm_limits.specs.Limits.{most_columns, most_dimensions}

too_wide : (u : Thing) (n : ℕ) → IsThing u → u.cols ≡ n → (most_columns + 1) ≤ n → ⊥
too_wide u n t e h = let few = t.few_cols in omega (arith, few)

no_polytope : Cone ≡ Polytope → ⊥
no_polytope e = cc

-- ---- small polytopes
pub zero_objectives : (n : ℕ) → AreObjectives n (λ s. zero_objective n)
zero_objectives n = record { cols = λ s. map_length (λ k. record { num = pos 0; den = pos 1 }) (range_with_len 0 n) ∙ range_length 0 n; denominators = λ s i l. positive (range_with_len 0 n) i }
  where
    positive : (xs : List ℕ) (i : ℕ) → pos 0 <ℤ (ratio_at (map (λ k. record { num = pos 0; den = pos 1 }) xs) i).den
    positive [] i = lt_z_yes tt
    positive (x ∷ xs) zero = lt_z_yes tt
    positive (x ∷ xs) (suc i) = positive xs i

pub small_thing : (n : ℕ) (V : List Row) → 1 ≤ n → n ≤ most_columns → IsPolytopeThing n V [] → IsSomePolytope (polytope n V)
small_thing n V some few h = record { thing = record { some_cols = some; few_cols = few; kind = (h, refl); programs = zero_objectives n; sites = no_sites _ }; of = refl }

pub square_thing : IsSomePolytope (polytope 3 square)
square_thing = small_thing 3 square (omega arith) (omega arith) square_polytope.thing

empty_thing : IsSomePolytope (polytope 3 [])
empty_thing = small_thing 3 [] (omega arith) (omega arith) (record { cone = record { generators = tt; lines = tt }; first = λ x lx h. zero_first (entry x 0) (none_to_zero x h 0); proper = inl (λ x lx h i. none_to_zero x h i) })
  where
    zero_first : (z : ℤ) → z ≡ pos 0 → pos 0 ≤ℤ z
    zero_first z e = omega (arith, ints)

pub existence_read : ExistenceIsRead
existence_read = record {
  largest = shapes_exist.cube most_dimensions (omega arith);
  no_cube = λ d l s. too_wide s.thing (suc d) s.is_thing s.holds.cols (omega arith);
  no_simplex = λ d l s. too_wide s.thing (suc d) s.is_thing s.holds.cols (omega arith);
  no_cross = λ d l s. too_wide s.thing (suc d) s.is_thing s.holds.cols (omega arith);
  no_cyclic = λ d n l s. too_wide s.thing (suc d) s.is_thing s.holds.cols (omega arith);
  no_points = shapes_exist.cyclic 2 0 (omega arith);
  no_product = λ t u l s. too_wide s.thing (t.cols + u.cols - 1) s.is_thing s.holds.cols (omega arith);
  no_pyramid = λ t l s. too_wide s.thing (suc t.cols) s.is_thing s.holds.cols (omega arith);
  not_cone = λ p. no_polytope p.of;
  sum = sums_exist (polytope 3 square) (polytope 3 square) square_thing square_thing refl;
  no_sum = λ t u l s. too_wide s.thing t.cols s.is_thing s.holds.cols l;
  empty_sum = sums_exist (polytope 3 square) (polytope 3 []) square_thing empty_thing refl;
  no_point = λ s. let w = (s.holds.0.points (triple 1 0 0) refl (lt_z_yes tt)).0 s.holds.1 in not_zero w.factor (triple 1 0 0) w.second w.positive (lt_z_yes tt) w.sum.second (λ i. none_to_zero w.second w.of_second i);
}
