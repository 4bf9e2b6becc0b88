-- The pivot row: it is determined, and what it keeps of its row.
use Rattle.pm_vector.proofs.DivisorLaws.{primitive_row_unique}
use Rattle.pm_vector.proofs.Ring.{ring}
use Rattle.pm_vector.proofs.RowLaws.{entry-opposite, entry-times, length-opposite}
use Rattle.pm_vector.proofs.Signs.{mul_cancel, mul_pos, pos_cancel}
use Rattle.pm_vector.specs.Divisors.{IsPrimitive, IsPrimitiveOf}
use Rattle.pm_vector.specs.Rows.{Row, Same, entry, opposite, times}
use Rattle.pm_elim.proofs.StepLaws.{Multiple, primitive_multiple}
use Rattle.pm_vector.specs.Steps.{IsPivotRow}
use Rattle.std.proofs.Common.{Bool, IsTrue, T, arith, false, inl, inr, refl, subst, sym, true, ◌∙◌}
use Rattle.std.proofs.lemmas.Bool.{cases_lt}
use Rattle.std.proofs.lemmas.Int.{ints}
use Rattle.std.specs.Prelude.{length, ℕ, ◌<◌, ◌≡◌, ◌↔◌, ◌⊎◌}
use lib.IntN.{neg_ℤ, pos, ℤ}
use lib.Signed.{lt_z, lt_z_yes, ◌<ℤ◌}

-- ---- the entry at the pivot
same_sign : {v w : Row} → Multiple v w → (c : ℕ) → pos 0 <ℤ entry v c → pos 0 <ℤ entry w c
same_sign m c h = pos_cancel m.positive (let e = simp entry-times at (m.same.at c) in omega (arith, ints))

same_sign_back : {v w : Row} → Multiple v w → (c : ℕ) → pos 0 <ℤ entry w c → pos 0 <ℤ entry v c
same_sign_back m c h = let e = simp entry-times at (m.same.at c) in let k = mul_pos m.positive h in omega (arith, ints)

module _ (r : Row) (c : ℕ) (x : Row) (before : (d : ℕ) → d < c → entry r d ≡ pos 0) where
  pub pivot_of_positive : pos 0 <ℤ entry r c → IsPrimitiveOf r x → IsPivotRow r c x
  pivot_of_positive h p = record { not_zero = λ e. omega (arith, ints); before = before; positive = same_sign (primitive_multiple p) c h; primitive = inl p }

  pub pivot_of_negative : entry r c <ℤ pos 0 → IsPrimitiveOf (opposite r) x → IsPivotRow r c x
  pivot_of_negative h p = record {
    not_zero = λ e. omega (arith, ints);
    before = before;
    positive = same_sign (primitive_multiple p) c (rw entry-opposite (omega (arith, ints)));
    primitive = inr p;
  }

-- ---- it is determined
pub pivot_column_unique : {r : Row} {c c' : ℕ} {x x' : Row} → IsPivotRow r c x → IsPivotRow r c' x' → c ≡ c'
pivot_column_unique {r} {c} {c'} p q = elim (cases_lt c c') [
  | inl less ↦ absurd (p.not_zero (q.before c less))
  | inr more ↦ elim (cases_lt c' c) [ inl less ↦ absurd (q.not_zero (p.before c' less)) | inr same ↦ omega arith ]
]

both_signs : {r x x' : Row} (c : ℕ) → IsPrimitiveOf r x → IsPrimitiveOf (opposite r) x' → pos 0 <ℤ entry x c → pos 0 <ℤ entry x' c → ⊥
both_signs {r} {x} {x'} c p q h k =
    let a = same_sign_back (primitive_multiple p) c h in
    let b = rw entry-opposite at (same_sign_back (primitive_multiple q) c k) in
    omega (arith, ints)

pub pivot_row_unique : {r : Row} {c : ℕ} {x x' : Row} → IsPivotRow r c x → IsPivotRow r c x' → x ≡ x'
pivot_row_unique {r} {c} {x} {x'} p q = elim p.primitive [
  | inl a ↦ elim q.primitive [ inl b ↦ primitive_row_unique r x x' a b | inr b ↦ absurd (both_signs c a b p.positive q.positive) ]
  | inr a ↦ elim q.primitive [ inl b ↦ absurd (both_signs c b a q.positive p.positive) | inr b ↦ primitive_row_unique (opposite r) x x' a b ]
]

-- ---- what it keeps
-- r is a multiple of its pivot row
pub record Proportional (r x : Row) : Type 0 where
  pub k : ℤ
  pub not_zero : ¬ (k ≡ pos 0)
  pub same : Same r (times k x)

module _ {r : Row} {c : ℕ} {x : Row} (p : IsPivotRow r c x) where
  pub pivot_proportional : Proportional r x
  pivot_proportional = elim p.primitive [
    | inl a ↦ let m = primitive_multiple a in let s = m.positive in record { k = m.g; not_zero = λ e. omega (arith, ints); same = m.same }
    | inr a ↦ let m = primitive_multiple a in let s = m.positive in record {
      k = neg_ℤ m.g;
      not_zero = λ e. omega (arith, ints);
      same = record { at = λ i. let e = simp (entry-opposite, entry-times) at (m.same.at i) in simp (entry-times, ring) (omega (arith, ints)) };
    }
  ]

  -- where the row is 0, so is the pivot row
  pub pivot_keeps_zero : (i : ℕ) → entry r i ≡ pos 0 → entry x i ≡ pos 0
  pivot_keeps_zero i z = elim p.primitive [
    | inl a ↦ let m = primitive_multiple a in mul_cancel m.positive (let e = simp entry-times at (m.same.at i) in simp ring (omega (arith, ints)))
    | inr a ↦ let m = primitive_multiple a in mul_cancel m.positive (let e = simp (entry-times, entry-opposite, z) at (m.same.at i) in simp ring (omega (arith, ints)))
  ]

  pub pivot_length : length x ≡ length r
  pivot_length = elim p.primitive [ inl a ↦ a.cols | inr a ↦ a.cols ∙ length-opposite r ]

  pub pivot_primitive : IsPrimitive x
  pivot_primitive = elim p.primitive [ inl a ↦ of a.divided | inr a ↦ of a.divided ]
    where
      of : {v : Row} → ((((i : ℕ) → entry v i ≡ pos 0) × ((i : ℕ) → entry x i ≡ pos 0)) ⊎ ((g : ℤ) × (pos 0 <ℤ g) × Same v (times g x) × IsPrimitive x)) → IsPrimitive x
      of (inl z) = absurd (let h = p.positive in let e = z.1 c in omega (arith, ints))
      of (inr d) = d.3

-- a test of two numbers says which is less
holds : (b : Bool) → T b → b ≡ true
holds true h = refl
holds false h = absurd h

pub lt_z_reads : (a b : ℤ) → IsTrue (lt_z a b) ↔ (a <ℤ b)
lt_z_reads a b = (λ e. lt_z_yes (subst T (sym e) tt), λ l. holds (lt_z a b) l.lt)
