-- What is said of an objective and its products, of the opposite ones.
use Rattle.pm_vector.proofs.Ring.{neg_one_mul, ring}
use Rattle.pm_vector.proofs.RowLaws.{entry-opposite, length-opposite, times-dot}
use Rattle.pm_vector.specs.Numbers.{Ratio}
use Rattle.pm_vector.specs.Rows.{Row, dot, entry, opposite, ratio_at}
use Rattle.pm_fraction.specs.Arithmetic.{opposite_of}
use Rattle.pm_optima.specs.Objectives.{IsScaleOf}
use Rattle.pm_simplex.proofs.Senses.{opposite_at}
use Rattle.pm_simplex.specs.Senses.{objective_in, row_in}
use Rattle.pm_simplex.specs.declared.sense.Sense.TheVariants.{Maximal, Minimal}
use Rattle.pm_simplex.specs.declared.sense.Sense.{Sense}
use Rattle.pm_types.specs.Programs.{opposite_objective}
use Rattle.std.proofs.Common.{ap, ap₂, arith, refl, sym, ◌∙◌}
use Rattle.std.proofs.lemmas.List.{length-map}
use Rattle.std.specs.Prelude.{List, [], length, map, ℕ, ◌<◌, ◌∷◌, ◌≡◌}
use lib.IntN.{neg_ℤ, negsuc, ℤ, ◌*ℤ◌}

-- ---- objectives
pub turned_scale : (sense : Sense) (c : List Ratio) (w : Row) (s : Ratio) → IsScaleOf c w s → IsScaleOf (objective_in sense c) (row_in sense w) s
turned_scale Maximal c w s h = h
turned_scale Minimal c w s h = record {
  num = h.num;
  den = h.den;
  cols = length-opposite w ∙ h.cols ∙ sym (length-map c opposite_of);
  denominators = λ i l. let k = below i l in rw (opposite_at c i k) (h.denominators i k);
  same = λ i l. let k = below i l in rw (opposite_at c i k, entry-opposite w i) (turned s.num (entry w i) (ratio_at c i).den s.den (ratio_at c i).num (h.same i k));
}
  where
    below : (i : ℕ) → i < length (opposite_objective c) → i < length c
    below i l = let e = length-map c opposite_of in omega arith

    turned : (n e d m k : ℤ) → n *ℤ (e *ℤ d) ≡ m *ℤ k → n *ℤ (neg_ℤ e *ℤ d) ≡ m *ℤ neg_ℤ k
    turned n e d m k h = simp ring (ap neg_ℤ h)

-- ---- products
opposite_product : (w x : Row) → neg_ℤ (dot w x) ≡ dot (opposite w) x
unfolding opposite
opposite_product w x = sym (times-dot (negsuc 0) w x ∙ neg_one_mul (dot w x))

opposite_products : (w : Row) (X : List Row) → opposite (map (dot w) X) ≡ map (dot (opposite w)) X
unfolding opposite
opposite_products w [] = refl
opposite_products w (x ∷ X) = ap₂ (λ z (r : Row). z ∷ r) (neg_one_mul (dot w x) ∙ opposite_product w x) (opposite_products w X)

pub turned_products : (sense : Sense) (w : Row) (X : List Row) → row_in sense (map (dot w) X) ≡ map (dot (row_in sense w)) X
turned_products Maximal w X = refl
turned_products Minimal w X = opposite_products w X
