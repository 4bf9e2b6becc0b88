-- An objective as a whole row: the primitive row of it behind 1 begins with its least common denominator; and the
-- primitive row of its opposite.
use Rattle.pm_fraction.specs.Arithmetic.{opposite_of}
use Rattle.pm_fraction.specs.FractionRows.{IsLeastDenominator, numerator_over}
use Rattle.pm_fraction.specs.Fractions.{ratio_of}
use Rattle.pm_geom.specs.Programs.{IsTimes}
use Rattle.pm_simplex.specs.Senses.{objective_in}
use Rattle.pm_simplex.specs.declared.sense.Sense.{Sense}
use Rattle.pm_simplex.specs.declared.sense.Sense.TheVariants.{Maximal, Minimal}
use Rattle.pm_types.specs.Forms.{HasPrimitiveRow}
use Rattle.pm_types.specs.Programs.{opposite_objective}
use Rattle.pm_vector.proofs.Ring.{ring}
use Rattle.pm_vector.proofs.Signs.{mul_cancel, pos_cancel}
use Rattle.pm_vector.specs.Numbers.{InRange, Ratio}
use Rattle.pm_vector.specs.Rows.{Row, Stands, entry, ratio_at}
use Rattle.std.proofs.Common.{ap, arith, refl, subst, sym, ◌∙◌}
use Rattle.std.proofs.Math.Nat.{div-mul_cancel, one-dvd}
use Rattle.std.proofs.lemmas.Int.{ints}
use Rattle.std.specs.Int.{◌∣◌}
use Rattle.std.specs.Prelude.{List, [], length, suc, unsigned_abs, zero, ℕ, ◌/◌, ◌<◌, ◌∷◌, ◌≡◌, ◌≤◌}
use lib.IntN.{neg_ℤ, pos, ℤ, ◌*ℤ◌}
use lib.Signed.{◌<ℤ◌}

abbrev pub one : Ratio
one = ratio_of (pos 1) (pos 1)

-- ---- behind 1
shorter : (c : List Ratio) (k m : ℕ) → IsLeastDenominator (one ∷ c) (suc k) m → IsLeastDenominator c k m
shorter c k m h = record {
  multiples = λ d. (
    λ g i l. (h.multiples d).0 g (suc i) (omega arith),
    λ f. (h.multiples d).1 (by d f),
  );
}
  where
    by : (d : ℕ) → ((i : ℕ) → i < k → unsigned_abs (ratio_at c i).den ∣ d) → (i : ℕ) → i < suc k → unsigned_abs (ratio_at (one ∷ c) i).den ∣ d
    by d f zero l = one-dvd d
    by d f (suc i) l = f i (omega arith)

none_yet : (c : List Ratio) (m : ℕ) → IsLeastDenominator (one ∷ c) 0 m → IsLeastDenominator c 0 m
none_yet c m h = record { multiples = λ d. (λ g i l. absurd (omega arith), λ f. (h.multiples d).1 (λ i l. absurd (omega arith))) }

pub behind_one_stays : (c : List Ratio) → HasPrimitiveRow c → HasPrimitiveRow (one ∷ c)
behind_one_stays c h = record {
  denominators = record { stay = dens };
  numerators = λ m least. record { stay = nums m least };
}
  where
    dens : (i m : ℕ) → i ≤ suc (length c) → IsLeastDenominator (one ∷ c) i m → InRange (pos m)
    dens zero m l least = h.denominators.stay 0 m (omega arith) (none_yet c m least)
    dens (suc i) m l least = h.denominators.stay i m (omega arith) (shorter c i m least)

    nums : (m : ℕ) → IsLeastDenominator (one ∷ c) (suc (length c)) m → (i : ℕ) → i < suc (length c) → InRange (numerator_over m (ratio_at (one ∷ c) i))
    nums m least zero l = subst (λ z. InRange z) (sym (whole m)) (dens (suc (length c)) m (omega arith) least)
      where
        turn : (z : ℤ) → pos 1 *ℤ z ≡ z *ℤ pos 1
        turn z = simp ring

        whole : (m : ℕ) → pos 1 *ℤ pos (m / 1) ≡ pos m
        whole m = turn (pos (m / 1)) ∙ ap pos (div-mul_cancel 1 (one-dvd m))
    nums m least (suc i) l = (h.numerators m (shorter c (length c) m least)).stay i (omega arith)

pub parted_times : (c : List Ratio) (k : ℤ) (x : Row) → Stands (one ∷ c) (k ∷ x) → IsTimes k c x
parted_times c k x s = record {
  positive = pos_cancel s.p_positive (subst (λ z. pos 0 <ℤ z) (sym (level k (s.same 0 (omega arith)))) s.q_positive);
  cols = let e = s.cols in omega arith;
  denominators = λ i l. s.denominators (suc i) (omega arith);
  same = λ i l. mul_cancel s.p_positive (over k (entry x i) (ratio_at c i).den (ratio_at c i).num (level k (s.same 0 (omega arith))) (s.same (suc i) (omega arith)));
}
  where
    level : (k : ℤ) → s.p *ℤ (k *ℤ pos 1) ≡ s.q *ℤ pos 1 → s.p *ℤ k ≡ s.q
    level k e = let f = simp ring at e in simp ring (omega (arith, ints))

    over : (k u d n : ℤ) → s.p *ℤ k ≡ s.q → s.p *ℤ (u *ℤ d) ≡ s.q *ℤ n → s.p *ℤ (u *ℤ d) ≡ s.p *ℤ (k *ℤ n)
    over k u d n e f = f ∙ ap (λ z. z *ℤ n) (sym e) ∙ (simp ring)

-- ---- the opposite objective
ratio_opposite : (c : List Ratio) (i : ℕ) → ratio_at (opposite_objective c) i ≡ opposite_of (ratio_at c i)
ratio_opposite [] i = refl
ratio_opposite (f ∷ c) zero = refl
ratio_opposite (f ∷ c) (suc i) = ratio_opposite c i

opposite_length : (c : List Ratio) → length (opposite_objective c) ≡ length c
opposite_length [] = refl
opposite_length (f ∷ c) = ap suc (opposite_length c)

size_opposite : (c : List Ratio) (i : ℕ) → unsigned_abs (ratio_at (opposite_objective c) i).den ≡ unsigned_abs (ratio_at c i).den
size_opposite c i = ap (λ f. unsigned_abs f.den) (ratio_opposite c i)

least_back : (c : List Ratio) (k m : ℕ) → IsLeastDenominator (opposite_objective c) k m → IsLeastDenominator c k m
least_back c k m h = record {
  multiples = λ d. (
    λ g i l. subst (λ (s : ℕ). s ∣ d) (size_opposite c i) ((h.multiples d).0 g i l),
    λ f. (h.multiples d).1 (λ i l. subst (λ (s : ℕ). s ∣ d) (sym (size_opposite c i)) (f i l)),
  );
}

in_range_opposite : (n d : ℤ) → InRange (n *ℤ d) → InRange (neg_ℤ n *ℤ d)
in_range_opposite n d h = let e : neg_ℤ n *ℤ d ≡ neg_ℤ (n *ℤ d) = (simp ring) in rw e (by (n *ℤ d) h)
  where
    by : (z : ℤ) → InRange z → InRange (neg_ℤ z)
    by z h = omega (arith, ints)

opposite_stays : (c : List Ratio) → HasPrimitiveRow c → HasPrimitiveRow (opposite_objective c)
opposite_stays c h = record {
  denominators = record { stay = λ i m l least. h.denominators.stay i m (let e = opposite_length c in omega arith) (least_back c i m least) };
  numerators = λ m least. record {
    stay = λ i l.
        let n = (h.numerators m (subst (λ (k : ℕ). IsLeastDenominator c k m) (opposite_length c) (least_back c _ m least))).stay i (let e = opposite_length c in omega arith) in
        subst (λ (f : Ratio). InRange (numerator_over m f)) (sym (ratio_opposite c i)) (in_range_opposite (ratio_at c i).num (pos (m / unsigned_abs (ratio_at c i).den)) n);
  };
}

pub turned_stays : (sense : Sense) (c : List Ratio) → HasPrimitiveRow c → HasPrimitiveRow (objective_in sense c)
turned_stays Maximal c h = h
turned_stays Minimal c h = opposite_stays c h
