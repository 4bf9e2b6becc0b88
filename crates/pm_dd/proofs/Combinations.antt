-- The combination of two rays by factors.
use Rattle.pm_vector.specs.Divisors.{IsPrimitive, IsPrimitiveOf}
use Rattle.pm_vector.specs.Rows.{Row, IsZero, Same, difference, dot, entry, times}
use Rattle.pm_vector.proofs.Ring.{ring}
use Rattle.pm_vector.proofs.RowLaws.{entry-difference, entry-times, length-difference}
use Rattle.pm_vector.proofs.Signs.{mul_pos}
use Rattle.pm_dd.specs.Building.{IsCombination}
use Rattle.pm_dd.specs.Description.{combined}
use Rattle.pm_dd.specs.StepFails.{IfColumn, IsCombinationFail, IsWideFactors}
use Rattle.pm_dd.specs.declared.fails.CombinationFail.{CombinationFail}
use Rattle.pm_dd.specs.declared.fails.CombinationFail.TheVariants.{Column, First, NoMemory, Second}
use Rattle.pm_vector.specs.Steps.{IsFactors}
use Rattle.std.specs.Prelude.{ℕ, zero, suc, ◌≡◌, ◌⊎◌, length}
use Rattle.std.proofs.Common.{arith, inl, inr, refl, sym, ◌∙◌}
use Rattle.std.proofs.lemmas.Int.{ints}
use lib.IntN.{ℤ, pos, ◌-ℤ◌, ◌*ℤ◌}
use lib.Signed.{◌<ℤ◌}

-- the primitive row of a row is that of each positive multiple
pub primitive_scaled : (v x w : Row) (g : ℤ) → pos 0 <ℤ g → length v ≡ length x → Same v (times g x) → IsPrimitiveOf x w → IsPrimitiveOf v w
primitive_scaled v x w g up l s c = record { cols = c.cols ∙ sym l; divided = from c.divided }
  where
    from : (IsZero x × IsZero w) ⊎ ((m : ℤ) × (pos 0 <ℤ m) × Same x (times m w) × IsPrimitive w) → (IsZero v × IsZero w) ⊎ ((m : ℤ) × (pos 0 <ℤ m) × Same v (times m w) × IsPrimitive w)
    from (inl q) = inl ((λ i. let e = simp entry-times at (s.at i) in let z = q.0 i in e ∙ simp (z, ring)), q.1)
    from (inr q) = inr (g *ℤ q.0, mul_pos up q.1, record { at = λ i. let e = simp entry-times at (s.at i) in let u = simp entry-times at (q.2.at i) in simp (entry-times, e, u, ring) }, q.3)

factored : (a b g p q x y : ℤ) → p ≡ a *ℤ g → q ≡ b *ℤ g → p *ℤ x -ℤ q *ℤ y ≡ g *ℤ (a *ℤ x -ℤ b *ℤ y)
factored a b g p q x y e1 e2 = simp (e1, e2, ring) (omega (arith, ints))

g_positive : (a p : ℤ) (g : ℕ) → pos 0 <ℤ p → p ≡ a *ℤ pos g → pos 0 <ℤ pos g
g_positive a p zero h e = absurd (let z = simp ring at e in omega (arith, ints))
g_positive a p (suc g) h e = omega (arith, ints)

-- p s - q r has the primitive row that the least factors give
pub factors_primitive : (n : ℕ) (p q a b : ℤ) (r s w : Row) → length r ≡ n → length s ≡ n → IsFactors q p a b → IsPrimitiveOf (difference a s b r) w → IsPrimitiveOf (difference p s q r) w
factors_primitive n p q a b r s w lr ls h c =
    primitive_scaled (difference p s q r) (difference a s b r) w (pos h.g) (g_positive a p h.g h.positive h.first)
    (length-difference n p s q r ls lr ∙ sym (length-difference n a s b r ls lr))
    (record { at = λ i. entry-difference p s q r i ∙ (simp (entry-times, entry-difference) (factored a b (pos h.g) p q (entry s i) (entry r i) h.first h.second)) }) c

-- for the products with a it is the combination that vanishes on a
pub combined_is : (a r s : Row) → combined a r s ≡ difference (dot a r) s (dot a s) r
unfolding combined difference
combined_is a r s = refl

pub combination_is : (a r s w : Row) (p q : ℤ) → p ≡ dot a r → q ≡ dot a s → IsPrimitiveOf (difference p s q r) w → IsCombination a r s w
combination_is a r s w p q e1 e2 c = rw combined_is (rw (e1, e2) at c)

-- a column in which it leaves the range for these products is one for a
pub column_fail : (a r s : Row) (p q : ℤ) → p ≡ dot a r → q ≡ dot a s → length s ≡ length r → (f : CombinationFail) → IfColumn f (λ c. IsWideFactors r p s q c) → IsCombinationFail a r s f
column_fail a r s p q e1 e2 l First h = absurd h
column_fail a r s p q e1 e2 l Second h = absurd h
column_fail a r s p q e1 e2 l (Column c) h = record { p = h.a; q = h.b; factors = rw (e1, e2) at h.factors; within = let w = h.within in omega arith; wide = h.wide }
column_fail a r s p q e1 e2 l NoMemory h = tt
