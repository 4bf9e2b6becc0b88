-- A primitive whole row is that of its fractions over 1.
use Rattle.pm_lift.proofs.SmallRows.{gcd_one}
use Rattle.pm_fraction.specs.FractionRows.{ArePrimitiveRowsOf, IsLeastDenominator, IsPrimitiveRowOf, numerators_over}
use Rattle.pm_types.proofs.WholeRows.{length_ratios, ratio_at_ratios}
use Rattle.pm_types.specs.Views.{ratios}
use Rattle.pm_vector.proofs.DivisorLaws.{IsPrimitive-from_one}
use Rattle.pm_vector.proofs.Ring.{ring}
use Rattle.pm_vector.proofs.RowLaws.{entry-times}
use Rattle.pm_vector.specs.Divisors.{IsPrimitive, IsPrimitiveOf}
use Rattle.pm_vector.specs.Numbers.{Ratio}
use Rattle.pm_vector.specs.Rows.{Row, Stands, entry, ratio_at}
use Rattle.std.proofs.Common.{ap, arith, inr, refl}
use Rattle.std.proofs.Math.Nat.{one-dvd}
use Rattle.std.specs.List.{slice_index_or}
use Rattle.std.specs.Prelude.{[], length, map, suc, unsigned_abs, zero, ℕ, ◌<◌, ◌∷◌, ◌≡◌}
use lib.IntN.{pos, ◌*ℤ◌}
use lib.Signed.{lt_z_yes}

-- ---- a row
module _ (x : Row) where
  denominator_one : (i : ℕ) → (ratio_at (ratios x) i).den ≡ pos 1
  denominator_one i = ap (λ (r : Ratio). r.den) (ratio_at_ratios x i)

  pub least_one : IsLeastDenominator (ratios x) (length (ratios x)) 1
  least_one = record {
    multiples = λ c. (
      λ d i l. rw denominator_one (one-dvd c),
      λ h. one-dvd c,
    );
  }

pub numerators_whole : (x : Row) → numerators_over 1 (ratios x) ≡ x
numerators_whole [] = refl
numerators_whole (k ∷ x) = let h = numerators_whole x in let e : k *ℤ pos 1 ≡ k = simp ring in cc

module _ (x : Row) (primitive : IsPrimitive x) where
  pub primitive_of_itself : IsPrimitiveOf x x
  primitive_of_itself = record {
    cols = refl;
    divided = inr (pos 1, lt_z_yes tt, record { at = λ i. simp (entry-times, ring) }, primitive);
  }

  pub primitive_whole : IsPrimitiveRowOf (ratios x) x
  primitive_whole = record { denominator = 1; least = least_one x; primitive = rw numerators_whole primitive_of_itself }

  pub stands_whole : Stands (ratios x) x
  stands_whole = record {
    p = pos 1;
    q = pos 1;
    p_positive = lt_z_yes tt;
    q_positive = lt_z_yes tt;
    cols = length_ratios x;
    denominators = λ i l. rw ratio_at_ratios (lt_z_yes tt);
    same = λ i l. rw ratio_at_ratios (simp ring);
  }

-- a row of which some entry is 1 or -1
pub by_one : (x : Row) (i : ℕ) → unsigned_abs (entry x i) ≡ 1 → IsPrimitive x
by_one x i e = IsPrimitive-from_one x (gcd_one x i e)

-- ---- a list of one row or of two
pub one_whole : (x : Row) → IsPrimitive x → ArePrimitiveRowsOf (map ratios (x ∷ [])) (x ∷ [])
one_whole x p = record { count = refl; each = each; multiple = multiple }
  where
    each : (i : ℕ) → i < 1 → IsPrimitiveRowOf (slice_index_or (map ratios (x ∷ [])) i []) (slice_index_or (x ∷ []) i [])
    each zero l = primitive_whole x p
    each (suc i) l = absurd (omega arith)

    multiple : (i : ℕ) → i < 1 → Stands (slice_index_or (map ratios (x ∷ [])) i []) (slice_index_or (x ∷ []) i [])
    multiple zero l = stands_whole x p
    multiple (suc i) l = absurd (omega arith)

pub two_whole : (x y : Row) → IsPrimitive x → IsPrimitive y → ArePrimitiveRowsOf (map ratios (x ∷ y ∷ [])) (x ∷ y ∷ [])
two_whole x y p q = record { count = refl; each = each; multiple = multiple }
  where
    each : (i : ℕ) → i < 2 → IsPrimitiveRowOf (slice_index_or (map ratios (x ∷ y ∷ [])) i []) (slice_index_or (x ∷ y ∷ []) i [])
    each zero l = primitive_whole x p
    each (suc zero) l = primitive_whole y q
    each (suc (suc i)) l = absurd (omega arith)

    multiple : (i : ℕ) → i < 2 → Stands (slice_index_or (map ratios (x ∷ y ∷ [])) i []) (slice_index_or (x ∷ y ∷ []) i [])
    multiple zero l = stands_whole x p
    multiple (suc zero) l = stands_whole y q
    multiple (suc (suc i)) l = absurd (omega arith)
