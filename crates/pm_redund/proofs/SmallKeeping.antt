-- Marks that grow, and functionals on small rows.
use Rattle.pm_vector.proofs.ConeLaws.{in_generator, in_plus}
use Rattle.pm_vector.proofs.Lists.{here, there}
use Rattle.pm_vector.specs.Cones.{InCone}
use Rattle.pm_incidence.specs.ThinExamples.{diagonal, x_axis, y_axis}
use Rattle.pm_redund.proofs.Alone.{alone_needed}
use Rattle.pm_redund.specs.Examples.{KeepingIsRead, bits, fan_of_three, triple}
use Rattle.pm_redund.specs.Keeping.{AreNeeded, IsAlone, IsMetAfter, IsMore, IsNeeded}
use Rattle.std.proofs.Common.{arith, inl, inr, refl}
use Rattle.std.proofs.lemmas.Int.{ints}
use Rattle.std.specs.Prelude.{IsTrue, [], false, get_or, suc, true, zero, ℕ, ◌<◌, ◌∷◌, ◌≡◌}
use lib.IntN.{negsuc, pos}
use lib.Signed.{lt_z_yes}

never_true : {P : Type 0} → IsTrue false → P
never_true h = absurd (let e : false ≡ true = h in cc)

more_example : IsMore (bits true false false) (bits true false true)
unfolding IsMore
more_example zero t = refl
more_example (suc zero) t = never_true t
more_example (suc (suc zero)) t = refl
more_example (suc (suc (suc i))) t = never_true t

not_more_example : ¬ (IsMore (bits true false true) (bits true false false))
unfolding IsMore
not_more_example h = never_true (h 2 refl)

alone_example : IsAlone (triple (negsuc 0) (pos 0) (pos 1)) (triple (pos 1) (pos 2) (pos 1)) 0
alone_example = record { high = lt_z_yes tt; first = first }
  where
    first : (j : ℕ) → j < 3 → ¬ (j ≡ 0) → IsMetAfter (triple (negsuc 0) (pos 0) (pos 1)) (triple (pos 1) (pos 2) (pos 1)) 0 j
    first zero l ne = absurd (ne refl)
    first (suc zero) l ne = inr (lt_z_yes tt)
    first (suc (suc zero)) l ne = inr (lt_z_yes tt)
    first (suc (suc (suc j))) l ne = absurd (omega arith)

turned_example : IsAlone (triple (pos 1) (pos 0) (negsuc 0)) (triple (pos 1) (pos 2) (pos 1)) 2
turned_example = record { high = lt_z_yes tt; first = first }
  where
    first : (j : ℕ) → j < 3 → ¬ (j ≡ 2) → IsMetAfter (triple (pos 1) (pos 0) (negsuc 0)) (triple (pos 1) (pos 2) (pos 1)) 2 j
    first zero l ne = inr (lt_z_yes tt)
    first (suc zero) l ne = inr (lt_z_yes tt)
    first (suc (suc zero)) l ne = absurd (ne refl)
    first (suc (suc (suc j))) l ne = absurd (omega arith)

needed_example : AreNeeded fan_of_three [] (bits true false true)
needed_example = record { as_many = refl; each = each }
  where
    each : (i : ℕ) → IsTrue (get_or (bits true false true) i false) → IsNeeded fan_of_three [] i
    each zero t = alone_needed fan_of_three [] (negsuc 0 ∷ pos 1 ∷ []) (pos 1 ∷ pos 1 ∷ []) 0 (omega arith) alone_example (λ l i. elim i [ ]) (λ l i. elim i [ ])
    each (suc zero) t = never_true t
    each (suc (suc zero)) t = alone_needed fan_of_three [] (pos 1 ∷ negsuc 0 ∷ []) (pos 1 ∷ pos 1 ∷ []) 2 (omega arith) turned_example (λ l i. elim i [ ]) (λ l i. elim i [ ])
    each (suc (suc (suc i))) t = never_true t

both_axes : InCone (x_axis ∷ y_axis ∷ []) [] diagonal
both_axes = in_plus {x = x_axis} {y = y_axis} (in_generator here) (in_generator (there here))

not_needed_example : ¬ (AreNeeded fan_of_three [] (bits false true false))
not_needed_example h = h.each 1 refl (bits true true true) both_axes

tied_example : ¬ (IsAlone (negsuc 0 ∷ negsuc 0 ∷ []) (pos 1 ∷ pos 1 ∷ []) 0)
tied_example h = elim (h.first 1 (omega arith) (λ e. omega arith)) [
  | inl z ↦ absurd (let e : negsuc 0 ≡ pos 0 = z.0 in omega (arith, ints))
  | inr m ↦ absurd (omega (arith, ints))
]

low_example : ¬ (IsAlone (negsuc 0 ∷ []) (pos 0 ∷ []) 0)
low_example h = let e = h.high in absurd (omega (arith, ints))

pub keeping_is_read : KeepingIsRead
keeping_is_read = record {
  more = more_example;
  not_more = not_more_example;
  needed = needed_example;
  not_needed = not_needed_example;
  levels = refl;
  alone = alone_example;
  never = inl (refl, refl);
  tied = tied_example;
  low = low_example;
}
