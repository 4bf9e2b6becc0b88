-- The differences so far.
use Rattle.pm_vector.proofs.Ring.{ring}
use Rattle.pm_vector.proofs.RowLaws.{entry-difference, length-difference, row_equal}
use Rattle.pm_vector.specs.Numbers.{InRange}
use Rattle.pm_vector.specs.Rows.{Row, difference, entry}
use Rattle.pm_vector.specs.Differences.{DifferenceStays, EntryStays, IsSmall}
use Rattle.std.proofs.Common.{arith, below_more, inl, inr, length, set, sym, ◌+◌, ◌-◌, ◌*◌, ◌^◌, ◌<◌, ◌≡◌, ◌≢◌, ◌≤◌, ◌∙◌, ℕ, get_or-set_same, get_or-set_other}
use Rattle.std.proofs.lemmas.Bool.{cases_lt}
use Rattle.std.proofs.Math.Nat.{mul-le-mul}
use Rattle.std.proofs.lemmas.Int.{ints, unsigned_abs-mul}
use Rattle.std.proofs.lemmas.List.{get_or_default, get_or_past}
use Rattle.std.specs.Prelude.{All, unsigned_abs}
use lib.IntN.{pos, ℤ, ◌*ℤ◌, ◌-ℤ◌}

-- the first n entries stay in the range
pub record FirstStay (p : ℤ) (v : Row) (q : ℤ) (w : Row) (n : ℕ) : Type 0 where
  pub at_each : (i : ℕ) → i < n → EntryStays p (entry v i) q (entry w i)

-- the first n entries are differences, and the others as they were
pub record PartlyWritten (p : ℤ) (v : Row) (q : ℤ) (w : Row) (n : ℕ) (new : Row) : Type 0 where
  pub written : (i : ℕ) → i < n → entry new i ≡ p *ℤ entry v i -ℤ q *ℤ entry w i
  pub left : (i : ℕ) → n ≤ i → entry new i ≡ entry v i

module _ (p : ℤ) (v : Row) (q : ℤ) (w : Row) where
  zeros_stay : EntryStays p (pos 0) q (pos 0)
  zeros_stay = record {
    first = simp ring (omega (arith, ints));
    second = simp ring (omega (arith, ints));
    difference = simp ring (omega (arith, ints));
  }

  pub DifferenceStays-from_first : (n : ℕ) → length v ≡ n → length w ≡ n → FirstStay p v q w n → DifferenceStays p v q w
  DifferenceStays-from_first n all_v all_w s = record {
    at_each = λ i. elim (cases_lt i n) [
      | inl below ↦ s.at_each i below
      | inr past ↦
          let none_v : entry v i ≡ pos 0 = get_or_past v i (pos 0) (omega arith) in
          let none_w : entry w i ≡ pos 0 = get_or_past w i (pos 0) (omega arith) in
          rw (none_v, none_w) zeros_stay
    ];
  }

  pub FirstStay-none : FirstStay p v q w 0
  FirstStay-none = record { at_each = λ i below. absurd (omega arith) }

  pub FirstStay-more : (i : ℕ) → FirstStay p v q w i → EntryStays p (entry v i) q (entry w i) → FirstStay p v q w (i + 1)
  FirstStay-more i s here = record { at_each = below_more _ i s.at_each here }

  pub PartlyWritten-more : (i : ℕ) (new : Row) (z : ℤ) → i < length new → PartlyWritten p v q w i new → z ≡ p *ℤ entry new i -ℤ q *ℤ entry w i → PartlyWritten p v q w (i + 1) (set new i z)
  PartlyWritten-more i new z within s e =
      let here : z ≡ p *ℤ entry v i -ℤ q *ℤ entry w i = rw (← s.left i (omega arith)) e in
      record {
        written = below_more _ i
            (λ k below. let other : k ≢ i = omega arith in rw get_or-set_other (s.written k below))
            (rw get_or-set_same here);
        left = λ k above. let other : k ≢ i = omega arith in rw get_or-set_other (s.left k (omega arith));
      }

  pub written_all : (n : ℕ) (new : Row) → length new ≡ n → length v ≡ n → length w ≡ n → PartlyWritten p v q w n new → new ≡ difference p v q w
  written_all n new all_new all_v all_w s =
      row_equal new (difference p v q w) (all_new ∙ sym (length-difference n p v q w all_v all_w))
      (record {
        at = λ i. elim (cases_lt i n) [
          | inl below ↦ s.written i below ∙ sym (entry-difference p v q w i)
          | inr past ↦
              let none_v : entry v i ≡ pos 0 = get_or_past v i (pos 0) (omega arith) in
              let none_w : entry w i ≡ pos 0 = get_or_past w i (pos 0) (omega arith) in
              let none : entry new i ≡ pos 0 = get_or_past new i (pos 0) (omega arith) in
              simp (entry-difference, none, none_v, none_w, ring)
        ];
      })

  pub All-written : (n : ℕ) (new : Row) → length new ≡ n → PartlyWritten p v q w n new → DifferenceStays p v q w → All InRange new
  All-written n new all_new s stays k d below =
      let e = s.written k (omega arith) in
      rw (get_or_default new k d (pos 0) below, e) (stays.at_each k).difference

-- ---- small numbers
small_product : (a b : ℤ) → IsSmall a → IsSmall b → unsigned_abs (a *ℤ b) ≤ (2 ^ 63 - 1) * (2 ^ 63 - 1)
small_product a b small_a small_b = rw unsigned_abs-mul (mul-le-mul {n₁ = unsigned_abs a} {m₁ = unsigned_abs b} {n₂ = 2 ^ 63 - 1} {m₂ = 2 ^ 63 - 1} (omega arith) (omega arith))

pub small_in_range : (a b : ℤ) → IsSmall a → IsSmall b → InRange (a *ℤ b)
small_in_range a b small_a small_b = let e = small_product a b small_a small_b in omega (arith, ints)

small_entry : (p x q y : ℤ) → IsSmall p → IsSmall x → IsSmall q → IsSmall y → EntryStays p x q y
small_entry p x q y sp sx sq sy =
    let a = small_product p x sp sx in
    let b = small_product q y sq sy in
    record { first = omega (arith, ints); second = omega (arith, ints); difference = omega (arith, ints) }

small_at : (v : Row) → All IsSmall v → (i : ℕ) → IsSmall (entry v i)
small_at v all i = elim (cases_lt i (length v)) [
  | inl within ↦ all i (pos 0) within
  | inr past ↦ rw get_or_past (omega arith)
]

pub small_stays : (p : ℤ) (v : Row) (q : ℤ) (w : Row) → IsSmall p → IsSmall q → All IsSmall v → All IsSmall w → DifferenceStays p v q w
small_stays p v q w sp sq sv sw = record { at_each = λ i. small_entry p (entry v i) q (entry w i) sp (small_at v sv i) sq (small_at w sw i) }
