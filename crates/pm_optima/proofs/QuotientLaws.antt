-- Quotients of numbers of the range, and the greatest one so far.
use Rattle.pm_vector.proofs.Ring.{ring}
use Rattle.pm_vector.proofs.Signs.{le_cancel, mul_le, weaken}
use Rattle.pm_vector.specs.Numbers.{Ratio}
use Rattle.pm_vector.specs.Rows.{Row, entry}
use Rattle.pm_vector.specs.Bases.{row_at}
use Rattle.pm_fraction.specs.Fractions.{IsLowestTermsOf, ratio_of}
use Rattle.pm_optima.specs.Quotients.{HasNone, IsBest, IsBestOf}
use Rattle.pm_optima.specs.declared.quotients.Best.{Best}
use Rattle.std.proofs.Common.{arith, below_more, refl}
use Rattle.std.proofs.lemmas.Int.{ints}
use Rattle.std.specs.Cmp.{int_ranked}
use Rattle.std.specs.Ordering.{MatchOrdering, int_cmp}
use Rattle.std.specs.declared.cmp.Ordering.TheVariants.{Equal, Greater, Less}
use Rattle.std.specs.declared.cmp.Ordering.{Ordering}
use Rattle.std.specs.Prelude.{List, None, Option, Some, ℕ, ◌*◌, ◌+◌, ◌<◌, ◌≡◌, ◌≤◌}
use lib.IntN.{pos, ℤ, ◌*ℤ◌}
use lib.Signed.{◌<ℤ◌, ◌≤ℤ◌}

-- ---- the order of quotients
-- n / d is at most p, and p at most q
pub at_most : (n d : ℤ) (p q : Ratio) → pos 0 <ℤ d → pos 0 <ℤ p.den → pos 0 <ℤ q.den → (n *ℤ p.den) ≤ℤ (p.num *ℤ d) → (p.num *ℤ q.den) ≤ℤ (q.num *ℤ p.den) → (n *ℤ q.den) ≤ℤ (q.num *ℤ d)
at_most n d p q hd hp hq e f =
    let a = simp ring at (mul_le (weaken hq) e) in
    let b = simp ring at (mul_le (weaken hd) f) in
    le_cancel hp (simp ring (omega (arith, ints)))

-- q is n / d
pub at_most_own : (n d : ℤ) (q : Ratio) → IsLowestTermsOf (ratio_of n d) q → (n *ℤ q.den) ≤ℤ (q.num *ℤ d)
at_most_own n d q h = let e = h.same in omega (arith, ints)

pub above_of : (x y : ℤ) (o : Ordering) → o ≡ int_cmp x y → y <ℤ x → o ≡ Greater
above_of x y o e up = by_rank o (int_ranked x y o e)
  where
    by_rank : (o : Ordering) → MatchOrdering o (x <ℤ y) (x ≡ y) (y <ℤ x) → o ≡ Greater
    by_rank Less h = absurd (omega (arith, ints))
    by_rank Equal h = absurd (omega (arith, ints))
    by_rank Greater h = refl

-- ---- one row more
module _ (numbers : Row) (V : List Row) (i : ℕ) where
  -- whose first entry is not positive
  pub left_out : (best : Option Best) → ¬ (pos 0 <ℤ entry (row_at V i) 0) → IsBestOf numbers V i best → IsBestOf numbers V (i + 1) best
  left_out None low none = below_more (λ j. ¬ (pos 0 <ℤ entry (row_at V j) 0)) i none low
  left_out (Some b) low h = record {
    within = let l = h.within in omega arith;
    first = h.first;
    quotient = h.quotient;
    greatest = below_more (λ j. pos 0 <ℤ entry (row_at V j) 0 → (entry numbers j *ℤ b.quotient.den) ≤ℤ (b.quotient.num *ℤ entry (row_at V j) 0)) i h.greatest (λ up. absurd (low up));
  }

  module _ (q : Ratio) (up : pos 0 <ℤ entry (row_at V i) 0) (lowest : IsLowestTermsOf (ratio_of (entry numbers i) (entry (row_at V i) 0)) q) where
    -- the first one that counts
    pub first_one : HasNone V i → IsBest numbers V (i + 1) (record { place = i; quotient = q })
    first_one none = record {
      within = omega arith;
      first = up;
      quotient = lowest;
      greatest = below_more (λ j. pos 0 <ℤ entry (row_at V j) 0 → (entry numbers j *ℤ q.den) ≤ℤ (q.num *ℤ entry (row_at V j) 0)) i (λ j l h. absurd (none j l h)) (λ h. at_most_own (entry numbers i) (entry (row_at V i) 0) q lowest);
    }

    module _ (b : Best) (best : IsBest numbers V i b) where
      -- a better one
      pub better_one : (b.quotient.num *ℤ q.den) <ℤ (q.num *ℤ b.quotient.den) → IsBest numbers V (i + 1) (record { place = i; quotient = q })
      better_one above = record {
        within = omega arith;
        first = up;
        quotient = lowest;
        greatest = below_more (λ j. pos 0 <ℤ entry (row_at V j) 0 → (entry numbers j *ℤ q.den) ≤ℤ (q.num *ℤ entry (row_at V j) 0)) i
            (λ j l h. at_most (entry numbers j) (entry (row_at V j) 0) b.quotient q h best.quotient.reduced.positive lowest.reduced.positive (best.greatest j l h) (weaken above)) (λ h. at_most_own (entry numbers i) (entry (row_at V i) 0) q lowest);
      }

      -- one that is not better
      pub same_one : (q.num *ℤ b.quotient.den) ≤ℤ (b.quotient.num *ℤ q.den) → IsBest numbers V (i + 1) b
      same_one below = record {
        within = let l = best.within in omega arith;
        first = best.first;
        quotient = best.quotient;
        greatest = below_more (λ j. pos 0 <ℤ entry (row_at V j) 0 → (entry numbers j *ℤ b.quotient.den) ≤ℤ (b.quotient.num *ℤ entry (row_at V j) 0)) i best.greatest
            (λ h. at_most (entry numbers i) (entry (row_at V i) 0) q b.quotient h lowest.reduced.positive best.quotient.reduced.positive (at_most_own (entry numbers i) (entry (row_at V i) 0) q lowest) below);
      }
