-- Least sums triangulate.
use Rattle.pm_vector.proofs.ConeLaws.{After, NonNeg, combination-plus, combination-times, combination_none, in_combination, in_combination_lines, in_generator, in_line, in_line_opposite, in_of, in_plus, in_same, in_times, in_to_after, lines_opposite}
use Rattle.pm_vector.proofs.Lists.{Among, among_All, among_Contains}
use Rattle.pm_vector.proofs.Ring.{add-mul, neg-mul, neg_one_mul, one_mul, ring}
use Rattle.pm_vector.proofs.RowLaws.{dot-difference, entry-difference, entry-opposite, entry-plus, entry-times, length-difference, length-plus, length-times}
use Rattle.pm_vector.proofs.Signs.{mul_cancel, mul_nonneg, mul_pos, nonneg_cancel, times_both, weaken}
use Rattle.pm_vector.specs.Cones.{InCone, combination}
use Rattle.pm_vector.specs.Rows.{HasCols, Row, Same, difference, dot, entry, opposite, plus, times}
use Rattle.pm_geom.proofs.AddGenerator.{Best, best}
use Rattle.pm_geom.proofs.Cuts.{CutBy}
use Rattle.pm_geom.proofs.Generated.{cut_in}
use Rattle.pm_geom.proofs.Polar.{cut_at, cut_from}
use Rattle.pm_laws_placing.specs.LeastSums.{at, has, Within, common, InCell, IsLexNegative, over, IsLeast, IsLeastCell, LeastCellsTriangulate}
use Rattle.std.specs.Prelude.{ℕ, zero, suc, ◌≡◌, ◌⊎◌, ◌&&◌, Bool, true, false, List, [], ◌∷◌, length, get_or}
use Rattle.std.specs.List.{AllByRecursion, Contains}
use Rattle.std.proofs.Common.{arith, refl, sym, ap, ◌∙◌, inl, inr}
use Rattle.std.proofs.lemmas.Int.{ints, by_lt_z}
use lib.IntN.{ℤ, pos, negsuc, ◌+ℤ◌, ◌-ℤ◌, ◌*ℤ◌, neg_ℤ}
use lib.Signed.{◌<ℤ◌, ◌≤ℤ◌, lt_z_yes}
use Rattle.std.proofs.lemmas.Bool.{cases_Bool}

pub neg_one : (m a : ℤ) → negsuc 0 *ℤ m *ℤ a ≡ neg_ℤ (m *ℤ a)
neg_one m a = ap (λ z. z *ℤ a) (neg-mul (pos 1) m ∙ ap neg_ℤ (one_mul m)) ∙ neg-mul m a

pub entry-over : (x : Row) (m : ℤ) (y : Row) (i : ℕ) → entry (over x m y) i ≡ entry x i -ℤ m *ℤ entry y i
entry-over x m y i = entry-plus x (times (negsuc 0 *ℤ m) y) i ∙ ap (λ z. entry x i +ℤ z) (entry-times (negsuc 0 *ℤ m) y i ∙ neg_one m (entry y i))

pub combination-over : (c' : List ℤ) (m : ℤ) (c : List ℤ) (W : List Row) (i : ℕ) → entry (combination (over c' m c) W) i ≡ entry (combination c' W) i -ℤ m *ℤ entry (combination c W) i
combination-over c' m c W i = combination-plus c' (times (negsuc 0 *ℤ m) c) W i ∙ ap (λ z. entry (combination c' W) i +ℤ z) (combination-times (negsuc 0 *ℤ m) c W i ∙ neg_one m (entry (combination c W) i))

pub length-over : (k : ℕ) (c' : List ℤ) (m : ℤ) (c : List ℤ) → length c' ≡ k → length c ≡ k → length (over c' m c) ≡ k
length-over k c' m c h g = length-plus k c' (times (negsuc 0 *ℤ m) c) h (length-times (negsuc 0 *ℤ m) c ∙ g)

-- ---- lists of numbers, place by place
pub nonneg_from : (d : List ℤ) → ((j : ℕ) → pos 0 ≤ℤ at d j) → AllByRecursion (λ k. pos 0 ≤ℤ k) d
nonneg_from [] f = tt
nonneg_from (a ∷ d) f = (f 0, nonneg_from d (λ j. f (suc j)))

pub nonneg_at : (d : List ℤ) → AllByRecursion (λ k. pos 0 ≤ℤ k) d → (j : ℕ) → pos 0 ≤ℤ at d j
nonneg_at [] h j = omega (arith, ints)
nonneg_at (a ∷ d) h zero = h.0
nonneg_at (a ∷ d) h (suc j) = nonneg_at d h.1 j

lex_same : (d e : List ℤ) → length d ≡ length e → ((j : ℕ) → at d j ≡ at e j) → IsLexNegative d → IsLexNegative e
lex_same [] e l f h = absurd h
lex_same (a ∷ d) [] l f h = absurd (omega arith)
lex_same (a ∷ d) (b ∷ e) l f (inl h) = let q : a ≡ b = f 0 in inl (omega (arith, ints))
lex_same (a ∷ d) (b ∷ e) l f (inr h) = let q : a ≡ b = f 0 in let z = h.0 in inr (omega (arith, ints), lex_same d e (omega arith) (λ j. f (suc j)) h.1)

unfoldable pub Zero : List ℤ → Type 0
Zero d = (j : ℕ) → at d j ≡ pos 0

zero_cons : (a : ℤ) (d : List ℤ) → a ≡ pos 0 → Zero d → Zero (a ∷ d)
unfolding Zero
zero_cons a d e z zero = e
zero_cons a d e z (suc j) = z j

-- negative, zero, or e, which is opposite to d, is negative
trichotomy : (d e : List ℤ) → length d ≡ length e → ((j : ℕ) → at d j ≡ neg_ℤ (at e j)) → IsLexNegative d ⊎ (Zero d ⊎ IsLexNegative e)
unfolding Zero
trichotomy [] e l f = inr (inl (λ j. refl))
trichotomy (a ∷ d) [] l f = absurd (omega arith)
trichotomy (a ∷ d) (b ∷ e) l f =
    let q : a ≡ neg_ℤ b = f 0 in
    by_lt_z a (pos 0)
    (λ h. inl (inl h))
    (λ h. by_lt_z b (pos 0)
    (λ g. inr (inr (inl g)))
    (λ g.
    let za : a ≡ pos 0 = omega (arith, ints) in
    let zb : b ≡ pos 0 = omega (arith, ints) in
    elim (trichotomy d e (omega arith) (λ j. f (suc j))) [
      | inl r ↦ inl (inr (za, r))
      | inr r ↦ elim r [ inl z ↦ inr (inl (zero_cons a d za z)) | inr s ↦ inr (inr (inr (zb, s))) ]
    ]))

-- a multiple of c exceeds -d, where c is 0 only where d is
record Exceeds (c d : List ℤ) : Type 0 where
  n : ℤ
  positive : pos 0 <ℤ n
  exceeds : (j : ℕ) → pos 0 ≤ℤ (at d j +ℤ n *ℤ at c j)

raise : (n k c d : ℤ) → pos 0 ≤ℤ k → pos 0 ≤ℤ c → pos 0 ≤ℤ (d +ℤ n *ℤ c) → pos 0 ≤ℤ (d +ℤ (n +ℤ k) *ℤ c)
raise n k c d hk hc h = let p = mul_nonneg hk hc in simp add-mul (omega (arith, ints))

reach_down : (n c d : ℤ) → pos 0 <ℤ n → pos 0 ≤ℤ c → d <ℤ pos 0 → (c ≡ pos 0 → d ≡ pos 0) → pos 0 ≤ℤ (d +ℤ (n -ℤ d) *ℤ c)
reach_down n c d hn hc hd f =
    by_lt_z (pos 0) c
    (λ up.
    let a : pos 0 ≤ℤ (c -ℤ pos 1) = omega (arith, ints) in
    let b : pos 0 ≤ℤ neg_ℤ d = omega (arith, ints) in
    let p = simp ring at (mul_nonneg b a) in
    let q = mul_nonneg (weaken hn) hc in
    simp ring (omega (arith, ints)))
    (λ none. let z : c ≡ pos 0 = omega (arith, ints) in let w = f z in absurd (omega (arith, ints)))

exceeds_cons : (a b : ℤ) (c d : List ℤ) (n : ℤ) → pos 0 <ℤ n → pos 0 ≤ℤ (b +ℤ n *ℤ a) → ((j : ℕ) → pos 0 ≤ℤ (at d j +ℤ n *ℤ at c j)) → Exceeds (a ∷ c) (b ∷ d)
exceeds_cons a b c d n hn h f = record { n = n; positive = hn; exceeds = go }
  where
    go : (j : ℕ) → pos 0 ≤ℤ (at (b ∷ d) j +ℤ n *ℤ at (a ∷ c) j)
    go zero = h
    go (suc j) = f j

exceeding : (c d : List ℤ) → length c ≡ length d → ((j : ℕ) → pos 0 ≤ℤ at c j) → ((j : ℕ) → at c j ≡ pos 0 → at d j ≡ pos 0) → Exceeds c d
exceeding [] [] l h f = record { n = pos 1; positive = lt_z_yes tt; exceeds = λ j. omega (arith, ints) }
exceeding [] (b ∷ d) l h f = absurd (omega arith)
exceeding (a ∷ c) [] l h f = absurd (omega arith)
exceeding (a ∷ c) (b ∷ d) l h f =
    let r = exceeding c d (omega arith) (λ j. h (suc j)) (λ j. f (suc j)) in
    let n0 = r.positive in
    let a0 : pos 0 ≤ℤ a = h 0 in
    by_lt_z b (pos 0)
    (λ neg. let k : pos 0 ≤ℤ neg_ℤ b = omega (arith, ints) in
    exceeds_cons a b c d (r.n -ℤ b) (omega (arith, ints)) (reach_down r.n a b r.positive a0 neg (f 0)) (λ j. raise r.n (neg_ℤ b) (at c j) (at d j) k (h (suc j)) (r.exceeds j)))
    (λ ok. let p = mul_nonneg (weaken r.positive) a0 in exceeds_cons a b c d r.n r.positive (omega (arith, ints)) r.exceeds)

-- ---- least sums
module _ (W L : List Row) where
  -- no way down from a least sum
  no_descent : (c : List ℤ) → IsLeast W L c → (d : List ℤ) → length d ≡ length W → (n : ℤ) → pos 0 <ℤ n → ((j : ℕ) → pos 0 ≤ℤ (at d j +ℤ n *ℤ at c j)) → InCone [] L (combination d W) → ¬ (IsLexNegative d)
  no_descent c lc d ld n hn ex flat neg =
      let e = plus d (times n c) in
      let le : length (plus d (times n c)) ≡ length W = length-plus (length W) d (times n c) ld (length-times n c ∙ lc.as_many) in
      lc.least n (plus d (times n c)) hn le
      (nonneg_from (plus d (times n c)) (λ j. simp (entry-plus, entry-times) (ex j)))
      (in_same (record { at = λ i. sym (entry-over (combination (plus d (times n c)) W) n (combination c W) i ∙ simp (combination-plus, combination-times) (omega (arith, ints))) }) flat)
      (lex_same d (over (plus d (times n c)) n c) (ld ∙ sym (length-over (length W) (plus d (times n c)) n c le lc.as_many)) (λ j. sym (entry-over (plus d (times n c)) n c j ∙ simp (entry-plus, entry-times) (omega (arith, ints)))) neg)

  -- a sum on the places of a least sum is least
  pub exchanged : (d : List ℤ) → IsLeast W L d → (c : List ℤ) → length c ≡ length W → AllByRecursion (λ k. pos 0 ≤ℤ k) c → ((j : ℕ) → at d j ≡ pos 0 → at c j ≡ pos 0) → IsLeast W L c
  exchanged d ld c lc nc f = record {
    as_many = lc;
    not_negative = nc;
    least = λ m e hm le ne flat neg.
        let x = exceeding d (times (neg_ℤ m) c) (ld.as_many ∙ sym (length-times (neg_ℤ m) c ∙ lc)) (nonneg_at d ld.not_negative) (λ j z. let w = f j z in simp (entry-times, w, ring)) in
        no_descent d ld (over e m c) (length-over (length W) e m c le lc) x.n x.positive
        (λ j. let g = simp (entry-times, neg-mul) at (x.exceeds j) in let k = nonneg_at e ne j in simp entry-over (omega (arith, ints)))
        (in_same (record { at = λ i. entry-over (combination e W) m (combination c W) i ∙ sym (combination-over e m c W i) }) flat)
        neg;
  }

  -- a sum that vanishes modulo the lines, on the places of a least sum, is zero
  pub independent : (c : List ℤ) → IsLeast W L c → (d : List ℤ) → length d ≡ length W → ((j : ℕ) → at c j ≡ pos 0 → at d j ≡ pos 0) → InCone [] L (combination d W) → Zero d
  unfolding Zero
  independent c lc d ld f flat =
      let o = times (negsuc 0) d in
      let lo : length (times (negsuc 0) d) ≡ length W = length-times (negsuc 0) d ∙ ld in
      let minus : (j : ℕ) → at (times (negsuc 0) d) j ≡ neg_ℤ (at d j) = λ j. entry-times (negsuc 0) d j ∙ neg_one_mul (at d j) in
      let down : (e : List ℤ) → length e ≡ length W → ((j : ℕ) → at c j ≡ pos 0 → at e j ≡ pos 0) → InCone [] L (combination e W) → ¬ (IsLexNegative e) = λ e le g h.
      let x = exceeding c e (lc.as_many ∙ sym le) (nonneg_at c lc.not_negative) g in no_descent c lc e le x.n x.positive x.exceeds h in
      elim (trichotomy d (times (negsuc 0) d) (ld ∙ sym lo) (λ j. let m = minus j in omega (arith, ints))) [
        | inl neg ↦ absurd (down d ld f flat neg)
        | inr r ↦ elim r [
          | inl z ↦ z
          | inr neg ↦ absurd (down (times (negsuc 0) d) lo (λ j z. let w = f j z in let m = minus j in omega (arith, ints))
              (in_same (record { at = λ i. entry-opposite (combination d W) i ∙ sym (combination-times (negsuc 0) d W i ∙ neg_one_mul (entry (combination d W) i)) }) (lines_opposite L (combination d W) flat)) neg)
        ]
      ]

  -- two least sums of one row are multiples of each other
  proportional : (c d : List ℤ) → IsLeast W L c → IsLeast W L d → (p q : ℤ) → pos 0 <ℤ p → pos 0 <ℤ q → InCone [] L (over (combination (times q d) W) p (combination c W)) → (j : ℕ) → q *ℤ at d j ≡ p *ℤ at c j
  unfolding Zero
  proportional c d lc ld p q hp hq flat j =
      let lqd : length (times q d) ≡ length W = length-times q d ∙ ld.as_many in
      let lpc : length (times p c) ≡ length W = length-times p c ∙ lc.as_many in
      let a = over (times q d) p c in
      let b = over (times p c) q d in
      let la = length-over (length W) (times q d) p c lqd lc.as_many in
      let lb = length-over (length W) (times p c) q d lpc ld.as_many in
      let ea : (i : ℕ) → at (over (times q d) p c) i ≡ q *ℤ at d i -ℤ p *ℤ at c i = λ i. entry-over (times q d) p c i ∙ ap (λ z. z -ℤ p *ℤ at c i) (entry-times q d i) in
      let eb : (i : ℕ) → at (over (times p c) q d) i ≡ p *ℤ at c i -ℤ q *ℤ at d i = λ i. entry-over (times p c) q d i ∙ ap (λ z. z -ℤ q *ℤ at d i) (entry-times p c i) in
      elim (trichotomy (over (times q d) p c) (over (times p c) q d) (la ∙ sym lb) (λ i. let x = ea i in let y = eb i in omega (arith, ints))) [
        | inl neg ↦ absurd (lc.least p (times q d) hp lqd (nonneg_times q d (weaken hq) ld.not_negative) flat neg)
        | inr r ↦ elim r [
          | inl z ↦ (let x = ea j in let y : at (over (times q d) p c) j ≡ pos 0 = z j in omega (arith, ints))
          | inr neg ↦ absurd (ld.least q (times p c) hq lpc (nonneg_times p c (weaken hp) lc.not_negative)
              (in_same (record { at = λ i. back i }) (lines_opposite L (over (combination (times q d) W) p (combination c W)) flat)) neg)
        ]
      ]
    where
      nonneg_times : (k : ℤ) (e : List ℤ) → pos 0 ≤ℤ k → AllByRecursion (λ k. pos 0 ≤ℤ k) e → AllByRecursion (λ k. pos 0 ≤ℤ k) (times k e)
      nonneg_times k [] hk h = tt
      nonneg_times k (x ∷ e) hk h = (mul_nonneg hk h.0, nonneg_times k e hk h.1)

      back : (i : ℕ) → entry (opposite (over (combination (times q d) W) p (combination c W))) i ≡ entry (over (combination (times p c) W) q (combination d W)) i
      back i =
          let x = entry-opposite (over (combination (times q d) W) p (combination c W)) i in
          let y = entry-over (combination (times q d) W) p (combination c W) i in
          let z = entry-over (combination (times p c) W) q (combination d W) i in
          let u = combination-times q d W i in
          let v = combination-times p c W i in
          omega (arith, ints)

-- ---- cells
and_false : (a b : Bool) → (a && b) ≡ false → (a ≡ false) ⊎ (b ≡ false)
and_false true b h = inr h
and_false false b h = inl refl

common_false : (s t : List Bool) (j : ℕ) → has (common s t) j ≡ false → (has s j ≡ false) ⊎ (has t j ≡ false)
common_false [] t j h = inl refl
common_false (a ∷ s) [] j h = inr refl
common_false (a ∷ s) (b ∷ t) zero h = and_false a b h
common_false (a ∷ s) (b ∷ t) (suc j) h = common_false s t j h

module _ (W L : List Row) (s : List Bool) (cell : IsLeastCell W L s) where
  on_cell : (c : List ℤ) → Within s c → (j : ℕ) → at cell.c j ≡ pos 0 → at c j ≡ pos 0
  on_cell c w j z = elim (cases_Bool (has s j)) [ inl h ↦ absurd (let p = cell.positive j h in omega (arith, ints)) | inr h ↦ w j h ]

  cell_least : {x : Row} → (i : InCell W L s x) → IsLeast W L i.c
  cell_least i = exchanged W L cell.c cell.is_least i.c i.as_many i.not_negative (on_cell i.c i.within)

module _ (W L : List Row) (x : Row) (s t : List Bool) (i : InCell W L s x) (k : InCell W L t x) (li : IsLeast W L i.c) (lk : IsLeast W L k.c) where
  cancelled : (m m' x c c' l l' : ℤ) → m *ℤ x ≡ c +ℤ l → m' *ℤ x ≡ c' +ℤ l' → m *ℤ c' -ℤ m' *ℤ c ≡ m' *ℤ l -ℤ m *ℤ l'
  cancelled m m' x c c' l l' e f =
      let p = simp ring at (times_both m' e) in
      let q = simp ring at (times_both m f) in
      omega (arith, ints)

  flat_between : InCone [] L (over (combination (times i.m k.c) W) k.m (combination i.c W))
  flat_between = record {
    m = pos 1;
    c = [];
    d = over (times k.m i.d) i.m k.d;
    positive = lt_z_yes tt;
    not_negative = tt;
    same = record {
      at = λ y.
          let e = cancelled i.m k.m (entry x y) (entry (combination i.c W) y) (entry (combination k.c W) y) (entry (combination i.d L) y) (entry (combination k.d L) y) (simp (entry-times, entry-plus) at (i.same.at y)) (simp (entry-times, entry-plus) at (k.same.at y)) in
          entry-times (pos 1) (over (combination (times i.m k.c) W) k.m (combination i.c W)) y ∙ one_mul (entry (over (combination (times i.m k.c) W) k.m (combination i.c W)) y) ∙ entry-over (combination (times i.m k.c) W) k.m (combination i.c W) y
          ∙ ap (λ z. z -ℤ k.m *ℤ entry (combination i.c W) y) (combination-times i.m k.c W y) ∙ e
          ∙ sym (combination-over (times k.m i.d) i.m k.d L y ∙ ap (λ z. z -ℤ i.m *ℤ entry (combination k.d L) y) (combination-times k.m i.d L y));
    };
  }

  in_common : InCell W L (common s t) x
  in_common = record {
    m = i.m;
    c = i.c;
    d = i.d;
    as_many = i.as_many;
    positive = i.positive;
    not_negative = i.not_negative;
    within = λ j h. elim (common_false s t j h) [
      | inl w ↦ i.within j w
      | inr w ↦ (let z = k.within j w in let e = proportional W L i.c k.c li lk k.m i.m k.positive i.positive flat_between j in mul_cancel k.positive (let e' = simp (z, ring) at e in simp ring (omega (arith, ints))))
    ];
    same = i.same;
  }

-- ---- a least sum exists
record Lowest (S : Row → Type 0) (v x : Row) : Type 0 where
  p : ℤ
  q : ℤ
  positive : pos 0 <ℤ p
  not_negative : pos 0 ≤ℤ q
  rest : S (difference p x q v)
  lowest : (p' q' : ℤ) → pos 0 <ℤ p' → pos 0 ≤ℤ q' → S (difference p' x q' v) → (q *ℤ p') ≤ℤ (q' *ℤ p)

-- for one row of the cut, with products s and t of v and x
lower_zero : (p q p' q' : ℤ) → p ≡ pos 1 → q ≡ pos 0 → pos 0 ≤ℤ q' → (q *ℤ p') ≤ℤ (q' *ℤ p)
lower_zero p q p' q' e f h = simp (e, f, ring) (omega (arith, ints))

lower_at : (p q p' q' s t : ℤ) → p ≡ neg_ℤ s → q ≡ neg_ℤ t → pos 0 ≤ℤ (p' *ℤ t -ℤ q' *ℤ s) → (q *ℤ p') ≤ℤ (q' *ℤ p)
lower_at p q p' q' s t e f h = simp (e, f, ring) (omega (arith, ints))

fits_all : (p q p0 q0 s t : ℤ) → pos 0 <ℤ p → pos 0 <ℤ p0 → (q *ℤ p0) ≤ℤ (q0 *ℤ p) → pos 0 ≤ℤ s → pos 0 ≤ℤ (p0 *ℤ t -ℤ q0 *ℤ s) → pos 0 ≤ℤ (p *ℤ t -ℤ q *ℤ s)
fits_all p q p0 q0 s t hp h0 l hs h =
    let d : pos 0 ≤ℤ (q0 *ℤ p -ℤ q *ℤ p0) = omega (arith, ints) in
    let a = simp ring at (mul_nonneg d hs) in
    let b = simp ring at (mul_nonneg (weaken hp) h) in
    nonneg_cancel h0 (simp ring (omega (arith, ints)))

module _ (n : ℕ) (S : Row → Type 0) (s : CutBy n S) (v x : Row) (lv : length v ≡ n) (lx : length x ≡ n) where
  cut_row : (p q : ℤ) → S (difference p x q v) → (b : Row) → Among b s.rows → pos 0 ≤ℤ (p *ℤ dot b x -ℤ q *ℤ dot b v)
  cut_row p q h b i = rw dot-difference at (cut_at (difference p x q v) i (s.valid (difference p x q v) (length-difference n p x q v lx lv) h))

  best_lowest : (r : Best v x s.rows) → (p' q' : ℤ) → pos 0 ≤ℤ q' → S (difference p' x q' v) → (r.q *ℤ p') ≤ℤ (q' *ℤ r.p)
  best_lowest r p' q' hq h = elim r.from [
    | inl e ↦ lower_zero r.p r.q p' q' e.0 e.1 hq
    | inr w ↦ lower_at r.p r.q p' q' (dot w.0 v) (dot w.0 x) w.3 w.4 (cut_row p' q' h w.0 w.1)
  ]

  find_lowest : After S v x → Lowest S v x
  find_lowest a =
      let r = best v x s.rows in
      let fits : (b : Row) → Among b s.rows → pos 0 ≤ℤ (r.p *ℤ dot b x -ℤ r.q *ℤ dot b v) = λ b i.
      by_lt_z (dot b v) (pos 0) (λ h. r.allows b i h) (λ h. fits_all r.p r.q a.p a.q (dot b v) (dot b x) r.positive a.positive (best_lowest r a.p a.q a.not_negative a.rest) h (cut_row a.p a.q a.rest b i)) in
      record {
        p = r.p;
        q = r.q;
        positive = r.positive;
        not_negative = r.not_negative;
        rest = s.enough (difference r.p x r.q v) (length-difference n r.p x r.q v lx lv) (cut_from s.rows (difference r.p x r.q v) (λ b i. rw dot-difference (fits b i)));
        lowest = λ p' q' hp hq h. best_lowest r p' q' hq h;
      }

record LeastOf (W L : List Row) (x : Row) : Type 0 where
  c : List ℤ
  m : ℤ
  d : List ℤ
  is_least : IsLeast W L c
  positive : pos 0 <ℤ m
  same : Same (times m x) (plus (combination c W) (combination d L))

rest_entry : (k mp mq e0 x v e c d : ℤ) → mp *ℤ x ≡ mq *ℤ v +ℤ c +ℤ d → neg_ℤ (e0 *ℤ v +ℤ e -ℤ k *ℤ (mq *ℤ v +ℤ c)) +ℤ e +ℤ k *ℤ d ≡ k *ℤ mp *ℤ x -ℤ e0 *ℤ v
rest_entry k mp mq e0 x v e c d f = let g = simp ring at (times_both k f) in simp ring (omega (arith, ints))

module _ (W L : List Row) (v x : Row) (low : Lowest (InCone W L) v x) (r : LeastOf W L (difference low.p x low.q v)) where
  head : ℤ
  head = r.m *ℤ low.q

  least_same : (i : ℕ) → entry (times (r.m *ℤ low.p) x) i ≡ entry (plus (plus (times (r.m *ℤ low.q) v) (combination r.c W)) (combination r.d L)) i
  least_same i = let g = simp (entry-times, entry-plus, entry-difference, ring) at (r.same.at i) in simp (entry-times, entry-plus, ring) (omega (arith, ints))

  -- where e0 v and the sum of e' give a multiple of the whole, the rest is in the cone
  rest_in : (k e0 : ℤ) (e' : List ℤ) → pos 0 <ℤ k → AllByRecursion (λ k. pos 0 ≤ℤ k) e' → InCone [] L (over (combination (e0 ∷ e') (v ∷ W)) k (combination ((r.m *ℤ low.q) ∷ r.c) (v ∷ W))) → InCone W L (difference (k *ℤ (r.m *ℤ low.p)) x e0 v)
  unfolding NonNeg
  rest_in k e0 e' hk ne flat =
      in_same (record { at = rest_same })
      (in_plus (in_plus (in_of W [] L (λ g j. elim j [ ]) (lines_opposite L (over (combination (e0 ∷ e') (v ∷ W)) k (combination ((r.m *ℤ low.q) ∷ r.c) (v ∷ W))) flat)) (in_combination W L e' W ne (λ g i. in_generator i)))
      (in_times (weaken hk) (in_combination_lines W L r.d L (λ g i. (in_line i, in_line_opposite i)))))
    where
      P : Row
      P = plus (times e0 v) (combination e' W)

      Q : Row
      Q = plus (times (r.m *ℤ low.q) v) (combination r.c W)

      rest_same : (i : ℕ) → entry (plus (plus (opposite (over P k Q)) (combination e' W)) (times k (combination r.d L))) i ≡ entry (difference (k *ℤ (r.m *ℤ low.p)) x e0 v) i
      rest_same i =
          let a = entry-plus (plus (opposite (over P k Q)) (combination e' W)) (times k (combination r.d L)) i in
          let b = entry-plus (opposite (over P k Q)) (combination e' W) i in
          let c = entry-opposite (over P k Q) i in
          let d = entry-over P k Q i in
          let e = entry-plus (times e0 v) (combination e' W) i in
          let f = entry-times e0 v i in
          let g = entry-plus (times (r.m *ℤ low.q) v) (combination r.c W) i ∙ ap (λ z. z +ℤ entry (combination r.c W) i) (entry-times (r.m *ℤ low.q) v i) in
          let h = entry-times k (combination r.d L) i in
          let m = sym (entry-times (r.m *ℤ low.p) x i) ∙ least_same i ∙ entry-plus (plus (times (r.m *ℤ low.q) v) (combination r.c W)) (combination r.d L) i ∙ ap (λ z. z +ℤ entry (combination r.d L) i) g in
          let n = rest_entry k (r.m *ℤ low.p) (r.m *ℤ low.q) e0 (entry x i) (entry v i) (entry (combination e' W) i) (entry (combination r.c W) i) (entry (combination r.d L) i) m in
          let q = times_both k g in
          a ∙ ap (λ z. z +ℤ entry (times k (combination r.d L)) i) (b ∙ ap (λ z. z +ℤ entry (combination e' W) i) (c ∙ ap neg_ℤ (d ∙ ap (λ z. z -ℤ k *ℤ entry Q i) (e ∙ ap (λ z. z +ℤ entry (combination e' W) i) f) ∙ ap (λ z. e0 *ℤ entry v i +ℤ entry (combination e' W) i -ℤ z) q))) ∙ ap (λ z. neg_ℤ (e0 *ℤ entry v i +ℤ entry (combination e' W) i -ℤ k *ℤ (r.m *ℤ low.q *ℤ entry v i +ℤ entry (combination r.c W) i)) +ℤ entry (combination e' W) i +ℤ z) h ∙ n ∙ sym (entry-difference (k *ℤ (r.m *ℤ low.p)) x e0 v i)

  tail_same : (k e0 : ℤ) (e' : List ℤ) → e0 ≡ k *ℤ (r.m *ℤ low.q) → (i : ℕ) → entry (over (combination (e0 ∷ e') (v ∷ W)) k (combination ((r.m *ℤ low.q) ∷ r.c) (v ∷ W))) i ≡ entry (over (combination e' W) k (combination r.c W)) i
  tail_same k e0 e' z i =
      let a = entry-over (plus (times e0 v) (combination e' W)) k (plus (times (r.m *ℤ low.q) v) (combination r.c W)) i in
      let b = entry-over (combination e' W) k (combination r.c W) i in
      let c = entry-plus (times e0 v) (combination e' W) i ∙ ap (λ t. t +ℤ entry (combination e' W) i) (entry-times e0 v i ∙ ap (λ t. t *ℤ entry v i) z) in
      let d = times_both k (entry-plus (times (r.m *ℤ low.q) v) (combination r.c W) i ∙ ap (λ t. t +ℤ entry (combination r.c W) i) (entry-times (r.m *ℤ low.q) v i)) in
      let f = tail_entry k (r.m *ℤ low.q) (entry v i) (entry (combination e' W) i) (entry (combination r.c W) i) in
      omega (arith, ints)
    where
      tail_entry : (k q v e c : ℤ) → (k *ℤ q *ℤ v +ℤ e) -ℤ k *ℤ (q *ℤ v +ℤ c) ≡ e -ℤ k *ℤ c
      tail_entry k q v e c = simp ring (omega (arith, ints))

  no_less : (k : ℤ) (e : List ℤ) → pos 0 <ℤ k → length e ≡ suc (length W) → AllByRecursion (λ k. pos 0 ≤ℤ k) e → InCone [] L (over (combination e (v ∷ W)) k (combination ((r.m *ℤ low.q) ∷ r.c) (v ∷ W))) → ¬ (IsLexNegative (over e k ((r.m *ℤ low.q) ∷ r.c)))
  no_less k [] hk le ne flat neg = absurd (omega arith)
  no_less k (e0 ∷ e') hk le ne flat (inl h) =
      let s = low.lowest (k *ℤ (r.m *ℤ low.p)) e0 (mul_pos hk (mul_pos r.positive low.positive)) ne.0 (rest_in k e0 e' hk ne.1 flat) in
      head_low k r.m low.p low.q e0 low.positive s (let g = neg_one k (r.m *ℤ low.q) in omega (arith, ints))
    where
      head_low : (k m p q e0 : ℤ) → pos 0 <ℤ p → (q *ℤ (k *ℤ (m *ℤ p))) ≤ℤ (e0 *ℤ p) → (e0 -ℤ k *ℤ (m *ℤ q)) <ℤ pos 0 → ⊥
      head_low k m p q e0 hp s h =
          let a : pos 0 <ℤ (k *ℤ (m *ℤ q) -ℤ e0) = omega (arith, ints) in
          let b = simp ring at (mul_pos hp a) in
          let c = simp ring at s in
          omega (arith, ints)
  no_less k (e0 ∷ e') hk le ne flat (inr h) =
      let z0 = h.0 in
      let g = neg_one k (r.m *ℤ low.q) in
      let z : e0 ≡ k *ℤ (r.m *ℤ low.q) = omega (arith, ints) in
      r.is_least.least k e' hk (omega arith) ne.1 (in_same (record { at = tail_same k e0 e' z }) flat) h.1

  least_more : LeastOf (v ∷ W) L x
  least_more = record {
    c = (r.m *ℤ low.q) ∷ r.c;
    m = r.m *ℤ low.p;
    d = r.d;
    is_least = record {
      as_many = ap suc r.is_least.as_many;
      not_negative = (mul_nonneg (weaken r.positive) low.not_negative, r.is_least.not_negative);
      least = λ k e hk le ne flat. no_less k e hk le ne flat;
    };
    positive = mul_pos r.positive low.positive;
    same = record { at = least_same };
  }

least_none : (L : List Row) (x : Row) → InCone [] L x → LeastOf [] L x
least_none L x h = record {
  c = [];
  m = h.m;
  d = h.d;
  is_least = record { as_many = refl; not_negative = tt; least = λ k e hk le ne flat neg. none k e le neg };
  positive = h.positive;
  same = record { at = λ i. let q = simp (entry-plus, combination_none) at (h.same.at i) in simp entry-plus (omega (arith, ints)) };
}
  where
    none : (k : ℤ) (e : List ℤ) → length e ≡ 0 → ¬ (IsLexNegative (over e k []))
    none k [] le neg = neg
    none k (a ∷ e) le neg = absurd (omega arith)

least_exists : (n : ℕ) (W L : List Row) → HasCols n W → HasCols n L → (x : Row) → length x ≡ n → InCone W L x → LeastOf W L x
least_exists n [] L hW hL x lx h = least_none L x h
least_exists n (v ∷ W) L hW hL x lx h =
    let low = find_lowest n (InCone W L) (cut_in n W L hW.1 hL) v x hW.0 lx (in_to_after W L v x h) in
    least_more W L v x low (least_exists n W L hW.1 hL (difference low.p x low.q v) (length-difference n low.p x low.q v lx hW.0) low.rest)

-- ---- the theorem
in_cell : (W L : List Row) (s : List Bool) (x : Row) → (r : LeastOf W L x) → Within s r.c → InCell W L s x
in_cell W L s x r w = record { m = r.m; c = r.c; d = r.d; as_many = r.is_least.as_many; positive = r.positive; not_negative = r.is_least.not_negative; within = w; same = r.same }

pub least_cells_triangulate : LeastCellsTriangulate
unfolding Zero
least_cells_triangulate n W L hW hL T cells all = record {
  independent = λ k d l. let cell = cells k d l in λ c lc w flat j. independent W L cell.c cell.is_least c lc (on_cell W L (get_or T k d) cell c w) flat j;
  covers = λ x lx h.
      let r = least_exists n W L hW hL x lx h in
      let w = all r.c r.is_least in
      (w.0, w.1, w.2, w.3, in_cell W L w.1 x r w.4);
  meets = λ s t cs ct x i k. in_common W L x s t i k (cell_least W L s (cell_at s cs) i) (cell_least W L t (cell_at t ct) k);
}
  where
    cell_at : (s : List Bool) → Contains T s → IsLeastCell W L s
    cell_at s c = among_All (λ s. IsLeastCell W L s) (among_Contains T c) cells
