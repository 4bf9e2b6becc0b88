-- Quotients of a row by a divisor of its entries, as far as they are found.
use Rattle.pm_vector.proofs.DivisorLaws.{IsGcdOf-more, IsPrimitive-from_gcd, IsPrimitiveOf-quotients, IsZero-from_gcd, Same-quotients, dvd_entry, primitive_row_unique, quotients}
use Rattle.pm_vector.proofs.RowLaws.{entry-difference, entry-times, length-difference}
use Rattle.pm_vector.proofs.Signs.{mul_cancel}
use Rattle.pm_vector.specs.Divisors.{IsGcdOf, IsPrimitiveOf}
use Rattle.pm_vector.specs.Numbers.{InRange}
use Rattle.pm_vector.specs.Rows.{Row, Same, difference, entry, times}
use Rattle.pm_vector.specs.Multiples.{AreQuotients, HasQuotient, HaveQuotients}
use Rattle.std.proofs.Common.{[], ap, arith, below_more, inl, inr, length, refl, sym, take, ◌+◌, ◌++◌, ◌<◌, ◌∷◌, ◌≡◌, ◌≤◌, ◌∙◌, ◌⊎◌, ℕ}
use Rattle.std.proofs.Math.Nat.{one-dvd}
use Rattle.std.proofs.lemmas.Bool.{cases_lt}
use Rattle.std.proofs.lemmas.Int.{ints}
use Rattle.std.proofs.lemmas.List.{get_or_append_left, get_or_past, get_or_push, length_push, take_all, take_more}
use Rattle.std.proofs.lemmas.List.Elements.{All-push}
use Rattle.std.specs.Int.{IsGcd, ◌∣◌}
use Rattle.std.specs.Prelude.{All, SomeIff, Option, None, Some, unsigned_abs}
use lib.IntN.{pos, ℤ, ◌*ℤ◌, ◌-ℤ◌}
use lib.Signed.{◌<ℤ◌}

-- one entry more of p v - q w
pub difference_more : (p : ℤ) (v : Row) (q : ℤ) (w : Row) (i : ℕ) (old new : Row) (z : ℤ) → i < length v → length v ≡ length w → z ≡ p *ℤ entry v i -ℤ q *ℤ entry w i → new ≡ old ++ z ∷ [] → old ≡ take i (difference p v q w) → new ≡ take (i + 1) (difference p v q w)
difference_more p v q w i old new z l same e n h =
    let cols = length-difference (length v) p v q w refl (sym same) in
    n ∙ ap (λ r. r ++ z ∷ []) h ∙ ap (λ x. take i (difference p v q w) ++ x ∷ []) (e ∙ sym (entry-difference p v q w i)) ∙ sym (take_more (difference p v q w) i (pos 0) (omega (arith, cols)))

pub difference_whole : (p : ℤ) (v : Row) (q : ℤ) (w : Row) (i : ℕ) (made : Row) → length v ≤ i → length v ≡ length w → made ≡ take i (difference p v q w) → made ≡ difference p v q w
difference_whole p v q w i made l same h = h ∙ take_all i (difference p v q w) (omega (arith, length-difference (length v) p v q w refl (sym same)))

module _ (x : Row) where
  pub gcd_more : (i g h : ℕ) (z : ℤ) → i < length x → IsGcdOf (take i x) g → z ≡ entry x i → IsGcd g (unsigned_abs z) h → IsGcdOf (take (i + 1) x) h
  gcd_more i g h z within so_far e both = IsGcdOf-more x i g h within so_far (rw e at both)

  pub gcd_all : (i g : ℕ) → length x ≤ i → IsGcdOf (take i x) g → IsGcdOf x g
  gcd_all i g past h = rw (take_all i x past) at h

  pub divisor_divides : (g d : ℕ) → IsGcdOf x g → ((g ≡ 0) × (d ≡ 1)) ⊎ ((0 < g) × (d ≡ g)) → (i : ℕ) → d ∣ unsigned_abs (entry x i)
  divisor_divides g d h is i = elim is [
    | inl none ↦ rw none.1 (one-dvd (unsigned_abs (entry x i)))
    | inr some ↦ rw some.1 (dvd_entry x g h i)
  ]

  -- ---- all are found
  module _ (g d : ℕ) (h : IsGcdOf x g) (is : ((g ≡ 0) × (d ≡ 1)) ⊎ ((0 < g) × (d ≡ g))) where
    same_times : (new : Row) → AreQuotients x d new → Same x (times (pos d) new)
    same_times new q = record {
      at = λ i. rw entry-times (elim (cases_lt i (length x)) [
        | inl below ↦ q.times i below
        | inr past ↦
            let none : entry new i ≡ pos 0 = let c = q.cols in get_or_past new i (pos 0) (omega arith) in
            get_or_past x i (pos 0) past ∙ (rw none (omega (arith, ints)))
      ]);
    }

    pub primitive_written : (new : Row) → AreQuotients x d new → IsPrimitiveOf x new
    primitive_written new q =
        let same = same_times new q in
        elim is [
          | inl none ↦
              let zero_row = IsZero-from_gcd x (rw none.0 at h) in
              record { cols = q.cols; divided = inl (zero_row, λ i. zero_quotient none.1 (entry new i) (sym (zero_row i) ∙ same.at i ∙ entry-times (pos d) new i)) }
          | inr some ↦
              let positive : pos 0 <ℤ pos g = omega (arith, ints) in
              let same_g = rw some.1 at same in
              record { cols = q.cols; divided = inr (pos g, positive, same_g, IsPrimitive-from_gcd x new g some.0 h same_g) }
        ]
      where
        zero_quotient : d ≡ 1 → (z : ℤ) → pos 0 ≡ pos d *ℤ z → z ≡ pos 0
        zero_quotient one z e = let e1 = rw one at e in omega (arith, ints)

    -- ---- and where they cannot be, no row will do
    pub none_fits : (u : Row) → IsPrimitiveOf x u → All InRange u → HaveQuotients x d (length x)
    none_fits u prim all = elim is [
      | inl none ↦ λ i below.
          let zero_row = IsZero-from_gcd x (rw none.0 at h) in
          record { quotient = pos 0; in_range = omega arith; times = zero_row i ∙ (omega (arith, ints)) }
      | inr some ↦ λ i below.
          let e = primitive_row_unique x (quotients x g) u (IsPrimitiveOf-quotients x g some.0 h) prim in
          let at_i = rw (e, entry-times) at ((Same-quotients x g h).at i) in
          record {
            quotient = entry u i;
            in_range = all i (pos 0) (let l = prim.cols in omega arith);
            times = rw some.1 at_i;
          }
    ]

  -- ---- one quotient more
  -- the first quotients by d
  pub record FirstQuotients (d i : ℕ) (new : Row) : Type 0 where
    pub cols : length new ≡ i
    pub times : (k : ℕ) → k < i → entry x k ≡ pos d *ℤ entry new k
    pub in_range : All InRange new

  module _ (d : ℕ) where
    pub first_none : FirstQuotients d 0 []
    first_none = record { cols = refl; times = λ k l. absurd (omega arith); in_range = λ k e l. absurd (omega arith) }

    pub first_more : (i : ℕ) (old new : Row) (z : ℤ) → FirstQuotients d i old → entry x i ≡ pos d *ℤ z → InRange z → new ≡ old ++ z ∷ [] → FirstQuotients d (i + 1) new
    first_more i old new z f e r n = rw n record {
      cols = length_push old z ∙ ap (λ k. k + 1) f.cols;
      times = below_more _ i
          (λ k below. f.times k below ∙ ap (λ y. pos d *ℤ y) (sym (get_or_append_left old (z ∷ []) (pos 0) k (let c = f.cols in omega arith))))
          (e ∙ ap (λ y. pos d *ℤ y) (sym (get_or_push old z (pos 0) i f.cols)));
      in_range = All-push InRange old z f.in_range r;
    }

    pub first_all : (i : ℕ) (new : Row) → length x ≤ i → i ≤ length x → FirstQuotients d i new → AreQuotients x d new
    first_all i new past within f = record { cols = f.cols ∙ omega arith; times = λ k l. f.times k (omega arith) }

    -- the only quotient is known where one is found
    pub no_quotient : (i : ℕ) (y : ℤ) → i < length x → 0 < d → entry x i ≡ pos d *ℤ y → ¬ (InRange y) → ¬ (HaveQuotients x d (length x))
    no_quotient i y l some e h all =
        let w = all i l in
        let positive : pos 0 <ℤ pos d = omega (arith, ints) in
        let same : y ≡ w.quotient = mul_cancel positive (sym e ∙ w.times) in
        h (rw same w.in_range)
