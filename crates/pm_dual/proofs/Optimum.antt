-- Why the checks show the definitions.
use Rattle.pm_vector.proofs.Ring.{ring}
use Rattle.pm_vector.proofs.RowLaws.{entry-plus, entry-times, length-times}
use Rattle.pm_vector.proofs.Signs.{mul_cancel, mul_nonneg, mul_pos, nonneg_cancel}
use Rattle.pm_vector.specs.Cones.{combination}
use Rattle.pm_vector.specs.Numbers.{Ratio}
use Rattle.pm_vector.specs.Rows.{Row, Same, dot, entry, plus, ratio_at, times}
use Rattle.pm_dual.specs.Quotients.{AreQuotients}
use Rattle.pm_fraction.specs.Fractions.{IsLowestTermsOf, ratio_of}
use Rattle.pm_geom.specs.Programs.{IsInfeasible, IsOptimal, IsTimes, IsUnbounded, Solves}
use Rattle.std.proofs.Common.{ap, arith, sym, ◌∙◌}
use Rattle.std.proofs.lemmas.Int.{ints}
use Rattle.std.specs.Prelude.{List, [], length, ℕ, ◌+◌, ◌++◌, ◌<◌, ◌∷◌, ◌≡◌}
use lib.IntN.{pos, ℤ, ◌*ℤ◌, ◌+ℤ◌}
use lib.Signed.{◌<ℤ◌, ◌≤ℤ◌}

times_of : (x : Row) (d : ℤ) (v : List Ratio) → pos 0 <ℤ d → AreQuotients x d v → IsTimes d v x
times_of x d v hd q = record {
  positive = hd;
  cols = sym q.count;
  denominators = λ i l. (q.each i (let e = q.count in omega arith)).reduced.positive;
  same = λ i l. (let w = q.each i (let e = q.count in omega arith) in sym (w.same) ∙ swap (ratio_at v i).num);
}
  where
    swap : (n : ℤ) → n *ℤ d ≡ d *ℤ n
    swap n = simp ring

first_is_one : (x : Row) (d : ℤ) (v : List Ratio) → pos 0 <ℤ d → 0 < length x → entry x 0 ≡ d → AreQuotients x d v → (ratio_at v 0).num ≡ (ratio_at v 0).den
first_is_one x d v hd l e q = mul_cancel hd (one (ratio_at v 0).num (ratio_at v 0).den (entry x 0) (q.each 0 l).same e)
  where
    one : (n m u : ℤ) → n *ℤ d ≡ u *ℤ m → u ≡ d → d *ℤ n ≡ d *ℤ m
    one n m u h f = let g = ap (λ z. z *ℤ m) f in let s : d *ℤ n ≡ n *ℤ d = simp ring in omega (arith, ints)

first_is_none : (x : Row) (d : ℤ) (v : List Ratio) → pos 0 <ℤ d → 0 < length x → entry x 0 ≡ pos 0 → AreQuotients x d v → (ratio_at v 0).num ≡ pos 0
first_is_none x d v hd l e q = mul_cancel hd (none (ratio_at v 0).num (ratio_at v 0).den (entry x 0) (q.each 0 l).same e)
  where
    none : (n m u : ℤ) → n *ℤ d ≡ u *ℤ m → u ≡ pos 0 → d *ℤ n ≡ d *ℤ pos 0
    none n m u h f = let g = ap (λ z. z *ℤ m) f in let s : d *ℤ n ≡ n *ℤ d = simp ring in let z : pos 0 *ℤ m ≡ pos 0 = simp ring in let w : d *ℤ pos 0 ≡ pos 0 = simp ring in omega (arith, ints)

up_num : (x : Row) (d : ℤ) (v : List Ratio) → pos 0 <ℤ d → AreQuotients x d v → (i : ℕ) → i < length x → pos 0 ≤ℤ entry x i → pos 0 ≤ℤ (ratio_at v i).num
up_num x d v hd q i l h =
    let w = q.each i l in
    let m0 : pos 0 ≤ℤ (ratio_at v i).den = (let p = w.reduced.positive in omega (arith, ints)) in
    nonneg_cancel hd (up (ratio_at v i).num (ratio_at v i).den (entry x i) w.same (mul_nonneg h m0))
  where
    up : (n m u : ℤ) → n *ℤ d ≡ u *ℤ m → pos 0 ≤ℤ (u *ℤ m) → pos 0 ≤ℤ (d *ℤ n)
    up n m u e h = let s : d *ℤ n ≡ n *ℤ d = simp ring in omega (arith, ints)

-- ---- an optimum: the point over d, the multipliers and the value over d k
pub optimum_is : (A B : List Row) (c : List Ratio) (k : ℤ) (X U Y S : Row) (d : ℤ) (v : Ratio) (p y : List Ratio) → IsTimes k c X → length U ≡ length c → 0 < length c → entry U 0 ≡ d → pos 0 <ℤ d → Solves A B U
    → length Y ≡ length A + length B → ((i : ℕ) → i < length A → pos 0 ≤ℤ entry Y i) → Same S (times d X) → Same (dot X U ∷ []) (plus S (combination Y (A ++ B)))
    → IsLowestTermsOf (ratio_of (dot X U) (d *ℤ k)) v → AreQuotients U d p → AreQuotients Y (d *ℤ k) y → IsOptimal A B c v p y
optimum_is A B c k X U Y S d v p y tc nU some first hd sol nY up start sum lv lp ly = record {
  cols = lp.count ∙ nU;
  point = record { some = (let e = lp.count in omega arith); first = first_is_one U d p hd (omega arith) first lp; k = d; whole = U; times = times_of U d p hd lp; solves = sol };
  value = record { k = k; h = d; objective = X; point = U; objective_times = tc; point_times = times_of U d p hd lp; positive = lv.reduced.positive; value = sym lv.same ∙ (simp ring) };
  dual = record {
    multipliers = record { as_many = ly.count ∙ nY; not_negative = λ i l. up_num Y (d *ℤ k) y (mul_pos hd tc.positive) ly i (omega arith) (up i l) };
    k = d *ℤ k;
    objective = times d X;
    coefficients = Y;
    constant = dot X U;
    objective_times = record {
      positive = mul_pos hd tc.positive;
      cols = length-times d X ∙ tc.cols;
      denominators = tc.denominators;
      same = λ i l. ap (λ z. z *ℤ (ratio_at c i).den) (entry-times d X i) ∙ more (entry X i) (ratio_at c i).den (ratio_at c i).num (tc.same i l);
    };
    coefficients_times = times_of Y (d *ℤ k) y (mul_pos hd tc.positive) ly;
    positive = lv.reduced.positive;
    constant_times = sym lv.same ∙ (simp ring);
    sum = record { at = λ i. entry-plus (times d X) (combination Y (A ++ B)) i ∙ ap (λ z. z +ℤ entry (combination Y (A ++ B)) i) (sym (start.at i)) ∙ sym (entry-plus S (combination Y (A ++ B)) i) ∙ sym (sum.at i) };
  };
}
  where
    more : (x m n : ℤ) → x *ℤ m ≡ k *ℤ n → (d *ℤ x) *ℤ m ≡ (d *ℤ k) *ℤ n
    more x m n e = let f = simp ring at (ap (λ z. d *ℤ z) e) in simp ring (omega (arith, ints))

-- ---- no bound: a point over d, and a direction
pub unbounded_is : (A B : List Row) (c : List Ratio) (k : ℤ) (X U W : Row) (d : ℤ) (p w : List Ratio) → IsTimes k c X → length U ≡ length c → length W ≡ length c → 0 < length c → entry U 0 ≡ d → pos 0 <ℤ d → Solves A B U → entry W 0 ≡ pos 0 → Solves A B W → pos 0 <ℤ dot X W
    → AreQuotients U d p → AreQuotients W (pos 1) w → IsUnbounded A B c p w
unbounded_is A B c k X U W d p w tc nU nW some first hd sol level along up lp lw =
    let one : pos 0 <ℤ pos 1 = omega (arith, ints) in
    record {
      point_cols = lp.count ∙ nU;
      direction_cols = lw.count ∙ nW;
      point = record { some = (let e = lp.count in omega arith); first = first_is_one U d p hd (omega arith) first lp; k = d; whole = U; times = times_of U d p hd lp; solves = sol };
      direction = record { some = (let e = lw.count in omega arith); first = first_is_none W (pos 1) w one (omega arith) level lw; k = pos 1; whole = W; times = times_of W (pos 1) w one lw; solves = along };
      rate = ratio_of (dot X W) k;
      value = record { k = k; h = pos 1; objective = X; point = W; objective_times = tc; point_times = times_of W (pos 1) w one lw; positive = tc.positive; value = rate (dot X W) };
      improves = up;
    }
  where
    rate : (t : ℤ) → t *ℤ k ≡ (k *ℤ pos 1) *ℤ t
    rate t = simp ring

-- ---- no point: multipliers of a negative constant
pub infeasible_is : (A B : List Row) (Y S : Row) (v : ℤ) (y : List Ratio) → length Y ≡ length A + length B → ((i : ℕ) → i < length A → pos 0 ≤ℤ entry Y i) → ((i : ℕ) → entry S i ≡ pos 0) → Same (v ∷ []) (plus S (combination Y (A ++ B))) → v <ℤ pos 0
    → AreQuotients Y (pos 1) y → IsInfeasible A B y
infeasible_is A B Y S v y nY up zero sum down ly =
    let one : pos 0 <ℤ pos 1 = omega (arith, ints) in
    record {
      multipliers = record { as_many = ly.count ∙ nY; not_negative = λ i l. up_num Y (pos 1) y one ly i (omega arith) (up i l) };
      k = pos 1;
      coefficients = Y;
      constant = v;
      coefficients_times = times_of Y (pos 1) y one ly;
      negative = down;
      sum = record { at = λ i. none (entry S i) (entry (combination Y (A ++ B)) i) (zero i) ∙ sym (entry-plus S (combination Y (A ++ B)) i) ∙ sym (sum.at i) };
    }
  where
    none : (s u : ℤ) → s ≡ pos 0 → u ≡ s +ℤ u
    none s u e = omega (arith, ints)
