-- The examples of redundant rows hold.
use Rattle.pm_vector.proofs.ConeLaws.{dot_in, in_generator, in_plus, in_through}
use Rattle.pm_vector.proofs.Lists.{AllPairs_cons, All_among, Among, Contains_among, among_Contains, here, there}
use Rattle.pm_vector.specs.Cones.{InCone}
use Rattle.pm_vector.specs.Rows.{Row, dot, opposite}
use Rattle.pm_vector.specs.Bases.{row_at}
use Rattle.pm_incidence.proofs.Described.{cone_apart}
use Rattle.pm_incidence.specs.Examples.{pair}
use Rattle.pm_incidence.specs.ThinExamples.{diagonal, x_axis, x_turned, y_axis}
use Rattle.pm_redund.specs.Examples.{ProgramsAreRead, RedundancyIsRead, RefusalsAreRead, bits, fan_of_three}
use Rattle.pm_redund.specs.Redundancy.{AreKeptPlaces, IsEnough, IsKeptRow, IsRedundant, IsThinnedTo, LeavesNoPoint}
use Rattle.pm_simplex.specs.Lineality.{MarkLines}
use Rattle.pm_object_type.specs.declared.object_type.ObjectType.TheVariants.{Polytope}
use Rattle.std.proofs.Common.{arith, refl}
use Rattle.std.proofs.lemmas.Int.{ints}
use Rattle.std.specs.List.{Contains}
use Rattle.std.specs.Prelude.{IsTrue, List, [], false, get_or, suc, true, zero, ℕ, ◌<◌, ◌↔◌, ◌∷◌, ◌≡◌}
use lib.IntN.{negsuc, pos}
use lib.Signed.{le_z_yes, lt_z_yes, ◌<ℤ◌, ◌≤ℤ◌}

pub programs_are_read : ProgramsAreRead
programs_are_read = record { rows = refl; itself = refl; tied_itself = refl; tied_opposed = refl; equations = refl; objective = refl }

never : {P : Type 0} → IsTrue false → P
never h = absurd (let e : false ≡ true = h in cc)

-- ---- a row that is not in a cone: some a has a negative product with it, and none with the generators
all_of : (P : Row → Type 0) (x : Row) → P x → (g : Row) → Among g (x ∷ []) → P g
all_of P x p g here = p
all_of P x p g (there i) = elim i [ ]

all_of_two : (P : Row → Type 0) (x y : Row) → P x → P y → (g : Row) → Among g (x ∷ y ∷ []) → P g
all_of_two P x y p q g here = p
all_of_two P x y p q g (there i) = all_of P y q g i

all_of_three : (P : Row → Type 0) (x y z : Row) → P x → P y → P z → (g : Row) → Among g (x ∷ y ∷ z ∷ []) → P g
all_of_three P x y z p q r g here = p
all_of_three P x y z p q r g (there i) = all_of_two P y z q r g i

Up : Row → Row → Type 0
Up a g = pos 0 ≤ℤ dot a g

apart : (a : Row) (G : List Row) (x : Row) → ((g : Row) → Among g G → Up a g) → dot a x <ℤ pos 0 → ¬ (InCone G [] x)
unfolding Up
apart a G x ups low h = let p = dot_in a G [] ups (λ l i. elim i [ ]) h in omega (arith, ints)

x_below : ¬ (InCone (diagonal ∷ y_axis ∷ []) [] x_axis)
unfolding Up
x_below = apart (pair (negsuc 0) (pos 1)) (diagonal ∷ y_axis ∷ []) x_axis (all_of_two (Up (pair (negsuc 0) (pos 1))) diagonal y_axis (le_z_yes tt) (le_z_yes tt)) (lt_z_yes tt)

x_alone : ¬ (InCone (y_axis ∷ []) [] x_axis)
unfolding Up
x_alone = apart (pair (negsuc 0) (pos 0)) (y_axis ∷ []) x_axis (all_of (Up (pair (negsuc 0) (pos 0))) y_axis (le_z_yes tt)) (lt_z_yes tt)

y_alone : ¬ (InCone (x_axis ∷ []) [] y_axis)
unfolding Up
y_alone = apart (pair (pos 0) (negsuc 0)) (x_axis ∷ []) y_axis (all_of (Up (pair (pos 0) (negsuc 0))) x_axis (le_z_yes tt)) (lt_z_yes tt)

both_axes : InCone (x_axis ∷ y_axis ∷ []) [] diagonal
both_axes = in_plus {x = x_axis} {y = y_axis} (in_generator here) (in_generator (there here))

-- ---- the lineality
y_only : ¬ (InCone (x_axis ∷ x_turned ∷ y_axis ∷ []) [] (opposite y_axis))
unfolding Up opposite
y_only = apart (pair (pos 0) (pos 1)) (x_axis ∷ x_turned ∷ y_axis ∷ []) (opposite y_axis) (all_of_three (Up (pair (pos 0) (pos 1))) x_axis x_turned y_axis (le_z_yes tt) (le_z_yes tt) (le_z_yes tt)) (lt_z_yes tt)

marked_example : MarkLines (x_axis ∷ x_turned ∷ y_axis ∷ []) [] (bits true true false)
unfolding opposite
marked_example = record { as_many = refl; each = each }
  where
    each : (i : ℕ) → i < 3 → IsTrue (get_or (bits true true false) i false) ↔ InCone (x_axis ∷ x_turned ∷ y_axis ∷ []) [] (opposite (row_at (x_axis ∷ x_turned ∷ y_axis ∷ []) i))
    each zero l = (λ t. in_generator (there here), λ h. refl)
    each (suc zero) l = (λ t. in_generator here, λ h. refl)
    each (suc (suc zero)) l = (never, λ h. absurd (y_only h))
    each (suc (suc (suc i))) l = absurd (omega arith)

too_many : ¬ (MarkLines (x_axis ∷ x_turned ∷ y_axis ∷ []) [] (bits true true true))
too_many h = y_only ((h.each 2 (omega arith)).0 refl)

-- ---- enough rows
enough_example : IsEnough fan_of_three [] (bits true false true)
enough_example = record { as_many = refl; all = λ x h. in_through (x_axis ∷ y_axis ∷ []) [] fan_of_three [] each (λ l i. elim i [ ]) h }
  where
    each : (g : Row) → Among g fan_of_three → InCone (x_axis ∷ y_axis ∷ []) [] g
    each g here = in_generator here
    each g (there here) = both_axes
    each g (there (there here)) = in_generator (there here)
    each g (there (there (there i))) = elim i [ ]

few : ¬ (IsEnough fan_of_three [] (bits true false false))
few h = y_alone (h.all y_axis (in_generator (there (there here))))

thinned_example : IsThinnedTo fan_of_three [] (bits false false false) 3 (bits true false true)
thinned_example = record { enough = enough_example; needed = needed }
  where
    needed : (k : ℕ) → k < 3 → IsKeptRow (bits false false false) (bits true false true) k → ¬ (IsRedundant fan_of_three [] (bits true false true) k)
    needed zero l h r = x_alone r
    needed (suc zero) l h r = never h.0
    needed (suc (suc zero)) l h r = y_alone r
    needed (suc (suc (suc k))) l h r = absurd (omega arith)

not_thinned : ¬ (IsThinnedTo fan_of_three [] (bits false false false) 3 (bits true true true))
not_thinned h = h.needed 1 (omega arith) (refl, never) both_axes

twice : ¬ (IsThinnedTo (x_axis ∷ x_axis ∷ []) [] (false ∷ false ∷ []) 2 (true ∷ true ∷ []))
twice h = h.needed 1 (omega arith) (refl, never) (in_generator here)

places_example : AreKeptPlaces fan_of_three (bits false false false) (bits true false true) (0 ∷ 2 ∷ [])
places_example = record {
  each = All_among (λ (i : ℕ). (i < 3) × IsKeptRow (bits false false false) (bits true false true) i) (0 ∷ 2 ∷ []) each;
  every = every;
  ascending = AllPairs_cons (λ (i j : ℕ). i < j) 0 (2 ∷ []) less (AllPairs_cons (λ (i j : ℕ). i < j) 2 [] (λ y i. elim i [ ]) (λ i j d l m. absurd (omega arith)));
}
  where
    each : (i : ℕ) → Among i (0 ∷ 2 ∷ []) → (i < 3) × IsKeptRow (bits false false false) (bits true false true) i
    each i here = (omega arith, (refl, never))
    each i (there here) = (omega arith, (refl, never))
    each i (there (there j)) = elim j [ ]

    every : (i : ℕ) → i < 3 → IsKeptRow (bits false false false) (bits true false true) i → Contains (0 ∷ 2 ∷ []) i
    every zero l h = Contains_among (here {xs = 2 ∷ []})
    every (suc zero) l h = never h.0
    every (suc (suc zero)) l h = Contains_among (there {y = 0} (here {xs = []}))
    every (suc (suc (suc i))) l h = absurd (omega arith)

    less : (j : ℕ) → Among j (2 ∷ []) → 0 < j
    less j here = omega arith
    less j (there i) = elim i [ ]

left_out : ¬ (AreKeptPlaces fan_of_three (bits false false false) (bits true false true) (0 ∷ []))
left_out h = other (among_Contains (0 ∷ []) (h.every 2 (omega arith) (refl, never)))
  where
    other : Among {X = ℕ} 2 (0 ∷ []) → ⊥
    other (there i) = elim i [ ]

pub redundancy_is_read : RedundancyIsRead
redundancy_is_read = record {
  marked = marked_example;
  too_many = too_many;
  group = refl;
  enough = enough_example;
  few = few;
  redundant = both_axes;
  needed = x_below;
  thinned = thinned_example;
  not_thinned = not_thinned;
  twice = twice;
  places = places_example;
  left_out = left_out;
}

-- ---- points and refusals
no_point_example : LeavesNoPoint Polytope 1 ((negsuc 0 ∷ []) ∷ []) []
unfolding opposite
no_point_example = (refl, in_generator here)

point_example : ¬ (LeavesNoPoint Polytope 1 [] [])
unfolding Up opposite
point_example h = apart (pos 1 ∷ []) ((pos 1 ∷ []) ∷ []) (opposite (pos 1 ∷ [])) (all_of (Up (pos 1 ∷ [])) (pos 1 ∷ []) (le_z_yes tt)) (lt_z_yes tt) h.1

pub refusals_are_read : RefusalsAreRead
refusals_are_read = record {
  no_point = no_point_example;
  point = point_example;
  cone = λ h. cone_apart h.0;
  memory = tt;
  product = λ h. h.shown.shown;
  many = λ h. h;
  few_rows = λ h. let m = h.many in absurd (omega arith);
}
