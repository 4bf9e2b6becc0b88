-- A multiple of a row, and then a last entry, as a combination of two rows.
use Rattle.pm_vector.proofs.Ring.{ring}
use Rattle.pm_vector.specs.Rows.{Row, difference, plus, times}
use Rattle.std.proofs.Common.{ap, arith}
use Rattle.std.proofs.lemmas.Int.{ints}
use Rattle.std.specs.Prelude.{[], length, neg_ℤ, replicate, ◌++◌, ◌∷◌, ◌≡◌}
use lib.IntN.{pos, ℤ, ◌*ℤ◌, ◌+ℤ◌}

plus_last : (p k : ℤ) (row : Row) → plus (times p (row ++ pos 0 ∷ [])) (times k (replicate (length row) (pos 0) ++ pos 1 ∷ [])) ≡ times p row ++ k ∷ []
plus_last p k [] = let e : p *ℤ pos 0 +ℤ k *ℤ pos 1 ≡ k = simp ring (omega (arith, ints)) in ap (λ z. z ∷ []) e
plus_last p k (a ∷ row) = let e : p *ℤ a +ℤ k *ℤ pos 0 ≡ p *ℤ a = simp ring (omega (arith, ints)) in let rest = plus_last p k row in cc

-- by the numbers and the rows that calls gave
pub last_combined : (row longer up : Row) (p k l m : ℤ) → k ≡ p → longer ≡ row ++ pos 0 ∷ [] → m ≡ neg_ℤ l → up ≡ replicate (length row) (pos 0) ++ pos 1 ∷ [] → difference k longer m up ≡ times p row ++ l ∷ []
unfolding difference
last_combined row longer up p k l m ek el em eu = let e : neg_ℤ (neg_ℤ l) ≡ l = omega (arith, ints) in rw (ek, el, em, eu, e) (plus_last p l row)
