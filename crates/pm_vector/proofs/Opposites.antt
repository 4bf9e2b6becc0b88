-- The opposites so far.
use Rattle.pm_vector.proofs.RowLaws.{entry-opposite, length-opposite, row_equal}
use Rattle.pm_vector.specs.Numbers.{InRange}
use Rattle.pm_vector.specs.Rows.{Row, entry, opposite}
use Rattle.std.proofs.Common.{arith, inl, inr, length, refl, sym, ◌<◌, ◌≡◌, ◌≤◌, ◌∙◌, ℕ}
use Rattle.std.proofs.lemmas.Bool.{cases_lt}
use Rattle.std.proofs.lemmas.Int.{ints}
use Rattle.std.proofs.lemmas.List.{get_or_default, get_or_past}
use Rattle.std.specs.Prelude.{All, unsigned_abs}
use lib.IntN.{neg_ℤ, pos, ℤ}

-- the first n entries are opposite, and the others as they were
pub record PartlyOpposite (v : Row) (n : ℕ) (new : Row) : Type 0 where
  pub changed : (i : ℕ) → i < n → entry new i ≡ neg_ℤ (entry v i)
  pub left : (i : ℕ) → n ≤ i → entry new i ≡ entry v i

abs-opposite : (z : ℤ) → unsigned_abs (neg_ℤ z) ≡ unsigned_abs z
abs-opposite z = omega (arith, ints)

module _ (v : Row) (n : ℕ) (new : Row) (all_new : length new ≡ n) (all_v : length v ≡ n) (s : PartlyOpposite v n new) where
  pub opposite_all : new ≡ opposite v
  opposite_all =
      row_equal new (opposite v) (all_new ∙ sym (length-opposite v ∙ all_v))
      (record {
        at = λ i. elim (cases_lt i n) [
          | inl below ↦ s.changed i below ∙ sym (entry-opposite v i)
          | inr past ↦
              let none : entry v i ≡ pos 0 = get_or_past v i (pos 0) (omega arith) in
              let none' : entry new i ≡ pos 0 = get_or_past new i (pos 0) (omega arith) in
              none' ∙ sym (entry-opposite v i ∙ (rw none refl))
        ];
      })

  pub All-opposite : All InRange v → All InRange new
  All-opposite all k d within =
      let e = s.changed k (omega arith) in
      rw (get_or_default new k d (pos 0) within, e, abs-opposite) (all k (pos 0) (omega arith))
