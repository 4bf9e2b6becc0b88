-- Rows with zeros among their entries: their primitive rows are made within the range where those of the rows are.
use Rattle.pm_vector.specs.Numbers.{InRange, Ratio}
use Rattle.pm_vector.specs.Rows.{ratio_at}
use Rattle.pm_build.proofs.PaddedRows.{zeros_at}
use Rattle.pm_build.specs.Objects.{padded, spread, zeros}
use Rattle.pm_fraction.specs.FractionRows.{IsLeastDenominator, numerator_over}
use Rattle.pm_fraction.specs.Matrices.{IsFraction}
use Rattle.pm_types.proofs.WholeRows.{ratios_fractions}
use Rattle.pm_types.specs.Forms.{HasPrimitiveRow}
use Rattle.pm_types.specs.Views.{over_one}
use Rattle.std.proofs.Common.{ap, arith, inl, inr, refl, subst, sym, ◌∙◌}
use Rattle.std.proofs.Math.Nat.{one-dvd}
use Rattle.std.proofs.lemmas.Bool.{cases_lt}
use Rattle.std.proofs.lemmas.List.{length-append, length-replicate}
use Rattle.std.proofs.lemmas.List.Elements.{All-append, All-cons, All-head, All-nil, All-replicate, All-tail}
use Rattle.std.specs.Int.{◌∣◌}
use Rattle.std.specs.List.{All}
use Rattle.std.specs.Prelude.{List, [], length, suc, unsigned_abs, zero, ℕ, ◌+◌, ◌++◌, ◌-◌, ◌/◌, ◌<◌, ◌≤◌, ◌∷◌, ◌≡◌, ◌^◌, ◌⊎◌}
use lib.IntN.{pos, zero-*ℤ}

-- ---- the first i entries of r are among the first j of s, and the others of these are 0
pub record AreAmong (r s : List Ratio) (i j : ℕ) : Type 0 where
  pub down : (a : ℕ) → a < i → (e : ℕ) × (e < j) × (ratio_at s e ≡ ratio_at r a)
  pub up : (e : ℕ) → e < j → ((a : ℕ) × (a < i) × (ratio_at s e ≡ ratio_at r a)) ⊎ (ratio_at s e ≡ over_one (pos 0))

pub record Extends (r s : List Ratio) : Type 0 where
  pub front : (j : ℕ) → j ≤ length s → (i : ℕ) × (i ≤ length r) × AreAmong r s i j
  pub whole : AreAmong r s (length r) (length s)

same_least : (r s : List Ratio) (i j m : ℕ) → AreAmong r s i j → IsLeastDenominator s j m → IsLeastDenominator r i m
same_least r s i j m w least = record {
  multiples = λ c. (
    λ h a l. let q = w.down a l in subst (λ (z : Ratio). unsigned_abs z.den ∣ c) q.2 ((least.multiples c).0 h q.0 q.1),
    λ f. (least.multiples c).1 (λ e l. elim (w.up e l) [
      | inl q ↦ subst (λ (z : Ratio). unsigned_abs z.den ∣ c) (sym q.2) (f q.0 q.1)
      | inr q ↦ subst (λ (z : Ratio). unsigned_abs z.den ∣ c) (sym q) (one-dvd c)
    ]),
  );
}

nought_in_range : (m : ℕ) → InRange (numerator_over m (over_one (pos 0)))
nought_in_range m = subst (λ z. InRange z) (sym (zero-*ℤ (pos (m / unsigned_abs (pos 1))))) small
  where
    small : unsigned_abs (pos 0) < 2 ^ 127
    small = omega arith

pub extended_primitive : (r s : List Ratio) → Extends r s → HasPrimitiveRow r → HasPrimitiveRow s
extended_primitive r s x h = record {
  denominators = record { stay = λ j m l least. let w = x.front j l in h.denominators.stay w.0 m w.1 (same_least r s w.0 j m w.2 least) };
  numerators = λ m least. record {
    stay = λ e l. elim (x.whole.up e l) [
      | inl q ↦ subst (λ z. InRange (numerator_over m z)) (sym q.2) ((h.numerators m (same_least r s (length r) (length s) m x.whole least)).stay q.0 q.1)
      | inr q ↦ subst (λ z. InRange (numerator_over m z)) (sym q) (nought_in_range m)
    ];
  };
}

-- ---- zeros behind
padded_low : (k : ℕ) (r : List Ratio) (i : ℕ) → i < length r → ratio_at (padded k r) i ≡ ratio_at r i
padded_low k [] i l = absurd (omega arith)
padded_low k (q ∷ r) zero l = refl
padded_low k (q ∷ r) (suc i) l = padded_low k r i (omega arith)

padded_high : (k : ℕ) (r : List Ratio) (i : ℕ) → length r ≤ i → ratio_at (padded k r) i ≡ over_one (pos 0)
padded_high k [] i l = zeros_at k i
padded_high k (q ∷ r) zero l = absurd (omega arith)
padded_high k (q ∷ r) (suc i) l = padded_high k r i (omega arith)

padded_among : (k : ℕ) (r : List Ratio) (i j : ℕ) → i ≤ j → i ≤ length r → (i ≡ j) ⊎ (i ≡ length r) → AreAmong r (padded k r) i j
padded_among k r i j l m e = record {
  down = λ a b. (a, omega arith, padded_low k r a (omega arith));
  up = λ a b. elim (cases_lt a i) [
    | inl c ↦ inl (a, c, padded_low k r a (omega arith))
    | inr c ↦ inr (elim e [ inl f ↦ absurd (omega arith) | inr f ↦ padded_high k r a (omega arith) ])
  ];
}

pub length_padded : (k : ℕ) (r : List Ratio) → length (padded k r) ≡ length r + k
length_padded k r = length-append r (zeros k) ∙ ap (λ n. length r + n) (length-replicate k (over_one (pos 0)))

padded_extends : (k : ℕ) (r : List Ratio) → Extends r (padded k r)
padded_extends k r = record {
  front = λ j l. elim (cases_lt j (length r)) [
    | inl c ↦ (j, omega arith, padded_among k r j j (omega arith) (omega arith) (inl refl))
    | inr c ↦ (length r, omega arith, padded_among k r (length r) j c (omega arith) (inr refl))
  ];
  whole = padded_among k r (length r) (length (padded k r)) (let e = length_padded k r in omega arith) (omega arith) (inr refl);
}

pub padded_primitive : (k : ℕ) (r : List Ratio) → HasPrimitiveRow r → HasPrimitiveRow (padded k r)
padded_primitive k r h = extended_primitive r (padded k r) (padded_extends k r) h

nought_fraction : IsFraction (over_one (pos 0))
nought_fraction = ratios_fractions (pos 0 ∷ []) (All-cons InRange (pos 0) [] (omega arith) (All-nil InRange)) 0 (over_one (pos 0)) (omega arith)

pub padded_fractions : (k : ℕ) (r : List Ratio) → All IsFraction r → All IsFraction (padded k r)
padded_fractions k r h = All-append IsFraction r (zeros k) h (All-replicate IsFraction k (over_one (pos 0)) nought_fraction)

-- ---- zeros behind the first entry
behind_low : (k : ℕ) (r : List Ratio) (e : ℕ) → e < k → ratio_at (zeros k ++ r) e ≡ over_one (pos 0)
behind_low zero r e l = absurd (omega arith)
behind_low (suc k) r zero l = refl
behind_low (suc k) r (suc e) l = behind_low k r e (omega arith)

behind_high : (k : ℕ) (r : List Ratio) (e a : ℕ) → e ≡ k + a → ratio_at (zeros k ++ r) e ≡ ratio_at r a
behind_high zero r e a h = let q : e ≡ a = omega arith in ap (ratio_at r) q
behind_high (suc k) r zero a h = absurd (omega arith)
behind_high (suc k) r (suc e) a h = behind_high k r e a (omega arith)

spread_among : (k : ℕ) (q : Ratio) (r : List Ratio) (i j : ℕ) → i ≡ j - k → AreAmong (q ∷ r) (spread k (q ∷ r)) (suc i) (suc j)
spread_among k q r i j h = record { down = down; up = up }
  where
    down : (a : ℕ) → a < suc i → (e : ℕ) × (e < suc j) × (ratio_at (spread k (q ∷ r)) e ≡ ratio_at (q ∷ r) a)
    down zero l = (0, omega arith, refl)
    down (suc a) l = (suc (k + a), omega arith, behind_high k r (k + a) a refl)

    up : (e : ℕ) → e < suc j → ((a : ℕ) × (a < suc i) × (ratio_at (spread k (q ∷ r)) e ≡ ratio_at (q ∷ r) a)) ⊎ (ratio_at (spread k (q ∷ r)) e ≡ over_one (pos 0))
    up zero l = inl (0, omega arith, refl)
    up (suc e) l = elim (cases_lt e k) [
      | inl c ↦ inr (behind_low k r e c)
      | inr c ↦ inl (suc (e - k), omega arith, behind_high k r e (e - k) (omega arith))
    ]

pub length_behind : (k : ℕ) (r : List Ratio) → length (zeros k ++ r) ≡ k + length r
length_behind k r = length-append (zeros k) r ∙ ap (λ n. n + length r) (length-replicate k (over_one (pos 0)))

none_among : (r s : List Ratio) → AreAmong r s 0 0
none_among r s = record { down = λ a l. absurd (omega arith); up = λ e l. absurd (omega arith) }

spread_extends : (k : ℕ) (q : Ratio) (r : List Ratio) → Extends (q ∷ r) (spread k (q ∷ r))
spread_extends k q r = record { front = front; whole = spread_among k q r (length r) (length (zeros k ++ r)) (let e = length_behind k r in omega arith) }
  where
    front : (j : ℕ) → j ≤ length (spread k (q ∷ r)) → (i : ℕ) × (i ≤ length (q ∷ r)) × AreAmong (q ∷ r) (spread k (q ∷ r)) i j
    front zero l = (0, omega arith, none_among (q ∷ r) (spread k (q ∷ r)))
    front (suc j) l = (suc (j - k), let e = length_behind k r in omega arith, spread_among k q r (j - k) j refl)

pub spread_primitive : (k : ℕ) (r : List Ratio) → HasPrimitiveRow r → HasPrimitiveRow (spread k r)
spread_primitive k [] h = h
spread_primitive k (q ∷ r) h = extended_primitive (q ∷ r) (spread k (q ∷ r)) (spread_extends k q r) h

pub spread_fractions : (k : ℕ) (r : List Ratio) → All IsFraction r → All IsFraction (spread k r)
spread_fractions k [] h = h
spread_fractions k (q ∷ r) h = All-cons IsFraction q (zeros k ++ r) (All-head IsFraction q r h) (All-append IsFraction (zeros k) r (All-replicate IsFraction k (over_one (pos 0)) nought_fraction) (All-tail IsFraction q r h))

pub length_spread : (k : ℕ) (r : List Ratio) → 0 < length r → length (spread k r) ≡ length r + k
length_spread k [] h = absurd (omega arith)
length_spread k (q ∷ r) h = let e = length_behind k r in omega arith
