-- The least value as the opposite of the greatest one of the opposite objective.
use Rattle.pm_vector.specs.Numbers.{Ratio}
use Rattle.pm_vector.specs.Rows.{ratio_at}
use Rattle.pm_fraction.specs.Arithmetic.{opposite_of}
use Rattle.pm_simplex.specs.Senses.{objective_in, ratio_in, value_in}
use Rattle.pm_simplex.specs.declared.sense.Sense.TheVariants.{Maximal, Minimal}
use Rattle.pm_simplex.specs.declared.sense.Sense.{Sense}
use Rattle.pm_types.specs.Programs.{opposite_objective}
use Rattle.pm_types.specs.Values.{Extended, finite, minus_infinity, plus_infinity}
use Rattle.std.proofs.Common.{ap, arith, refl, suc, zero}
use Rattle.std.proofs.lemmas.Int.{ints}
use Rattle.std.proofs.lemmas.List.{length-map}
use Rattle.std.specs.Prelude.{List, [], length, map, ℕ, ◌<◌, ◌∷◌, ◌≡◌}
use lib.IntN.{neg_ℤ, ℤ}

neg_twice : (z : ℤ) → neg_ℤ (neg_ℤ z) ≡ z
neg_twice z = omega (arith, ints)

-- ---- values
opposite_twice : (v : Ratio) → opposite_of (opposite_of v) ≡ v
opposite_twice v = ap (λ z. record { num = z; den = v.den }) (neg_twice v.num)

pub value_twice : (sense : Sense) (x : Extended) → value_in sense (value_in sense x) ≡ x
value_twice Maximal x = refl
value_twice Minimal (finite v) = ap finite (opposite_twice v)
value_twice Minimal plus_infinity = refl
value_twice Minimal minus_infinity = refl

pub value_of_ratio : (sense : Sense) (v : Ratio) → value_in sense (finite v) ≡ finite (ratio_in sense v)
value_of_ratio Maximal v = refl
value_of_ratio Minimal v = refl

-- ---- objectives
pub opposite_at : (c : List Ratio) (i : ℕ) → i < length c → ratio_at (opposite_objective c) i ≡ opposite_of (ratio_at c i)
opposite_at [] i l = absurd (omega arith)
opposite_at (q ∷ c) zero l = refl
opposite_at (q ∷ c) (suc i) l = opposite_at c i (omega arith)

pub objective_length : (sense : Sense) (c : List Ratio) → length (objective_in sense c) ≡ length c
objective_length Maximal c = refl
objective_length Minimal c = length-map c opposite_of

pub turned_objective : (sense : Sense) (c : List Ratio) → map (ratio_in sense) c ≡ objective_in sense c
turned_objective Maximal c = map_same c
  where
    map_same : (c : List Ratio) → map (ratio_in Maximal) c ≡ c
    map_same [] = refl
    map_same (q ∷ c) = ap (λ (r : List Ratio). q ∷ r) (map_same c)
turned_objective Minimal c = map_opposite c
  where
    map_opposite : (c : List Ratio) → map (ratio_in Minimal) c ≡ opposite_objective c
    map_opposite [] = refl
    map_opposite (q ∷ c) = ap (λ (r : List Ratio). opposite_of q ∷ r) (map_opposite c)
