-- One elimination step: it is determined, and what it does to a row.
use Rattle.pm_vector.proofs.DivisorLaws.{primitive_row_unique}
use Rattle.pm_vector.proofs.Ring.{ring}
use Rattle.pm_vector.proofs.RowLaws.{entry-difference, entry-times, length-difference}
use Rattle.pm_vector.proofs.Signs.{mul_cancel, pos_cancel}
use Rattle.pm_vector.specs.Divisors.{IsPrimitiveOf}
use Rattle.pm_vector.specs.Rows.{Row, Same, difference, entry, times}
use Rattle.pm_vector.specs.Steps.{IsFactors, IsReducedOnce, IsStep, StepStays}
use Rattle.pm_vector.specs.Differences.{DifferenceStays}
use Rattle.std.proofs.Common.{ap, arith, inl, inr, refl, sym, ◌∙◌}
use Rattle.std.proofs.lemmas.Int.{ints}
use Rattle.std.proofs.lemmas.Nat.Gcd.{same_from_IsGcd}
use Rattle.std.specs.Prelude.{length, suc, unsigned_abs, zero, ℕ, ◌≡◌}
use lib.IntN.{pos, ℤ, ◌*ℤ◌, ◌-ℤ◌}
use lib.Signed.{lt_z_yes, ◌<ℤ◌}

-- ---- the factors
divisor_positive : (y p : ℤ) (g : ℕ) → y ≡ p *ℤ pos g → pos 0 <ℤ y → pos 0 <ℤ pos g
divisor_positive y p zero e h = let k = simp ring at e in omega (arith, ints)
divisor_positive y p (suc g) e h = omega (arith, ints)

module _ {x y p q : ℤ} (f : IsFactors x y p q) where
  pub g_positive : pos 0 <ℤ pos f.g
  g_positive = divisor_positive y p f.g f.first f.positive

  pub p_positive : pos 0 <ℤ p
  p_positive = let h : pos 0 <ℤ (pos f.g *ℤ p) = (let e = f.first in let k = f.positive in simp ring (omega (arith, ints))) in pos_cancel g_positive h

  -- the step leaves 0 in its column
  pub cancels : p *ℤ x -ℤ q *ℤ y ≡ pos 0
  cancels = let a = f.first in let b = f.second in rw (a, b) (simp ring (omega (arith, ints)))

cancel_right : (a b k m n : ℤ) → pos 0 <ℤ k → m ≡ a *ℤ k → n ≡ b *ℤ k → m ≡ n → a ≡ b
cancel_right a b k m n up e f s = mul_cancel up (omega (arith, ints))

pub factors_unique : {x y p q p' q' : ℤ} → IsFactors x y p q → IsFactors x y p' q' → (p ≡ p') × (q ≡ q')
factors_unique {x} {y} {p} {q} {p'} {q'} f f' =
    let same : f'.g ≡ f.g = same_from_IsGcd (unsigned_abs x) (unsigned_abs y) f'.g f.g f'.greatest f.greatest in (
      cancel_right p p' (pos f.g) y y (g_positive f) f.first (f'.first ∙ ap (λ k. p' *ℤ pos k) same) refl,
      cancel_right q q' (pos f.g) x x (g_positive f) f.second (f'.second ∙ ap (λ k. q' *ℤ pos k) same) refl,
    )

-- ---- the step
pub step_unique : {r b : Row} {c : ℕ} {m m' : Row} → IsStep r b c m → IsStep r b c m' → m ≡ m'
step_unique {r} {b} {c} {m} {m'} s s' =
    let (e, f) = factors_unique s.factors s'.factors in
    primitive_row_unique (difference s.p r s.q b) m m' s.result (rw (e, f) s'.result)

pub reduced_once_unique : {r b : Row} {c : ℕ} {m m' : Row} → IsReducedOnce r b c m → IsReducedOnce r b c m' → m ≡ m'
reduced_once_unique (inl h) (inl k) = h.1 ∙ sym k.1
reduced_once_unique (inl h) (inr s) = absurd (s.not_zero h.0)
reduced_once_unique (inr s) (inl k) = absurd (s.not_zero k.0)
reduced_once_unique (inr s) (inr t) = step_unique s t

-- the step stays in the range where the difference of the multiples does
pub step_stays : {r b : Row} {c : ℕ} {p q : ℤ} → IsFactors (entry r c) (entry b c) p q → DifferenceStays p r q b → StepStays r b c
step_stays {r} {b} {c} {p} {q} f d i w =
    let (e, g) = factors_unique w.factors f in
    w.wide (rw (e, g) (d.at_each i))

pub step_stays_zero : {r b : Row} {c : ℕ} → entry r c ≡ pos 0 → StepStays r b c
step_stays_zero z i w = w.not_zero z

-- a row is a positive multiple of the primitive row in its direction
pub record Multiple (v w : Row) : Type 0 where
  pub g : ℤ
  pub positive : pos 0 <ℤ g
  pub same : Same v (times g w)

pub primitive_multiple : {v w : Row} → IsPrimitiveOf v w → Multiple v w
primitive_multiple {v} {w} h = elim h.divided [
  | inl z ↦ record { g = pos 1; positive = lt_z_yes tt; same = record { at = λ i. let a = z.0 i in let b = z.1 i in rw (entry-times, a, b) (simp ring) } }
  | inr d ↦ record { g = d.0; positive = d.1; same = d.2 }
]

module _ {r b : Row} {c : ℕ} {m : Row} (s : IsStep r b c m) where
  -- g times the new row is the difference
  pub step_multiple : Multiple (difference s.p r s.q b) m
  step_multiple = primitive_multiple s.result

  pub step_entry : (i : ℕ) → step_multiple.g *ℤ entry m i ≡ s.p *ℤ entry r i -ℤ s.q *ℤ entry b i
  step_entry i = let e = simp (entry-times, entry-difference) at (step_multiple.same.at i) in sym e

  pub step_zero : entry m c ≡ pos 0
  step_zero = mul_cancel step_multiple.positive (let e = step_entry c in let k = cancels s.factors in simp ring (omega (arith, ints)))

  pub step_keeps_zero : (i : ℕ) → entry r i ≡ pos 0 → entry b i ≡ pos 0 → entry m i ≡ pos 0
  step_keeps_zero i h k = mul_cancel step_multiple.positive (step_entry i ∙ (simp (h, k, ring)))

  pub step_length : (n : ℕ) → length r ≡ n → length b ≡ n → length m ≡ n
  step_length n lr lb = s.result.cols ∙ length-difference n s.p r s.q b lr lb
