-- The rows on which the equations and the inequalities of an extreme row vanish, with zeros in the pivot columns of the lineality's basis: they are multiples of one row, which is the extreme row up to scale and lineality.
use Rattle.pm_vector.proofs.ConeLaws.{in_divide, in_line, in_plus, in_same, in_zero}
use Rattle.pm_vector.proofs.DivisorLaws.{abs-zero}
use Rattle.pm_vector.proofs.Filters.{among_filter, among_map, filter_among, map_among}
use Rattle.pm_vector.proofs.Lists.{All_among, Among, Contains_among, all_append, all_at, all_from, among_All, among_append_left, among_append_right, among_Contains, append_all, here, there}
use Rattle.pm_vector.proofs.Ring.{ring}
use Rattle.pm_vector.proofs.RowLaws.{dot-difference, dot-plus, dot-same, dot-times, dot_comm, entry-difference, entry-opposite, entry-plus, entry-times, length-difference, length-opposite, length-plus, length-times}
use Rattle.pm_vector.proofs.Signs.{mul_cancel, mul_nonneg, mul_pos, nonneg_cancel, times_both, weaken}
use Rattle.pm_vector.specs.Cones.{InSpan}
use Rattle.pm_vector.specs.Divisors.{IsPrimitive}
use Rattle.pm_vector.specs.Rows.{IsZero, Row, difference, dot, entry, opposite, plus, times}
use Rattle.pm_vector.proofs.Columns.{row_cols, zero_at_columns}
use Rattle.pm_vector.proofs.Spans.{at_place, place_of, same_span, span_at, span_times}
use Rattle.pm_vector.proofs.Unique.{echelon_is_unique}
use Rattle.pm_vector.specs.Bases.{IsReducedBasis, column, row_at}
use Rattle.pm_dd.proofs.ZeroRows.{zero_of_span}
use Rattle.pm_dd.specs.Fronts.{HalfSpaces}
use Rattle.pm_vector.proofs.DotLaws.{dot-unit, dot_span_zero}
use Rattle.pm_elim.proofs.DualLaws.{pivot_contained}
use Rattle.pm_elim.proofs.InTurn.{pivot_below}
use Rattle.pm_vector.specs.Evidence.{unit}
use Rattle.pm_vector.specs.NullSpaces.{IsNull, IsNullBasis}
use Rattle.pm_geom.proofs.Facets.{dot-opposite}
use Rattle.pm_geom.proofs.Polar.{cols_at, cut_at, cut_from}
use Rattle.pm_geom.specs.Cones.{CutOut, InLineality, IsExtreme, IsOrder, SameModulo}
use Rattle.pm_geom.specs.Faces.{ray}
use Rattle.pm_geom.specs.Generators.{IsLinealityBasis, VanishAt}
use Rattle.pm_incidence.specs.FromSets.{AreCanonicalFor, determining, rows_at}
use Rattle.pm_incidence.specs.SetRows.{IsFound, IsTurned, first_product}
use Rattle.pm_types.specs.Right.{InOrder, IsIncidence}
use Rattle.std.proofs.Common.{ap, arith, inl, inr, refl, subst, sym, true, true≢false, ◌∙◌}
use Rattle.std.proofs.lemmas.Bool.{cases_Bool, eq-eqb, eqb-true}
use Rattle.std.proofs.lemmas.Int.{by_lt_z, ints}
use Rattle.std.proofs.lemmas.List.{get_or_default}
use Rattle.std.specs.List.{All, Contains}
use Rattle.std.specs.Prelude.{List, [], filter, length, map, nat_eq, nat_lt, suc, unsigned_abs, zero, ℕ, ◌++◌, ◌<◌, ◌≤◌, ◌∷◌, ◌≡◌, ◌↔◌}
use lib.IntN.{neg_ℤ, pos, ℤ, ◌*ℤ◌, ◌+ℤ◌, ◌-ℤ◌}
use lib.Signed.{lt_z_yes, ◌<ℤ◌, ◌≤ℤ◌}
use native.Mathlib.Decide.{ℕ_discrete}

-- ---- a row without its part in the span of the first rows of a basis
pub record Rest (n : ℕ) (K : List Row) (P : List ℕ) (x : Row) (j : ℕ) : Type 0 where
  pub p : ℤ
  pub y : Row
  pub cols : length y ≡ n
  pub positive : pos 0 <ℤ p
  pub inside : InSpan K (difference p x (pos 1) y)
  pub zero_at : (i : ℕ) → i < j → entry y (column P i) ≡ pos 0

module _ (n : ℕ) (K : List Row) (P : List ℕ) (e : IsReducedBasis n K P) where
  rest_next : (x : Row) (j : ℕ) → j < length K → Rest n K P x j → Rest n K P x (suc j)
  rest_next x j l r = record {
    p = entry (row_at K j) (column P j) *ℤ r.p;
    y = difference (entry (row_at K j) (column P j)) r.y (entry r.y (column P j)) (row_at K j);
    cols = length-difference n (entry (row_at K j) (column P j)) r.y (entry r.y (column P j)) (row_at K j) r.cols (row_cols n K P e j l);
    positive = mul_pos (e.positive j l) r.positive;
    inside = in_same (record { at = λ i. simp (entry-difference, entry-plus, entry-times, ring) (omega (arith, ints)) }) (in_plus (span_times (entry (row_at K j) (column P j)) r.inside) (span_times (entry r.y (column P j)) (span_at j l)));
    zero_at = at;
  }
    where
      at : (i : ℕ) → i < suc j → entry (difference (entry (row_at K j) (column P j)) r.y (entry r.y (column P j)) (row_at K j)) (column P i) ≡ pos 0
      at i li = elim (ℕ_discrete i j) [
        | yes q ↦ subst (λ m. entry (difference (entry (row_at K j) (column P j)) r.y (entry r.y (column P j)) (row_at K j)) (column P m) ≡ pos 0) (sym q) (simp (entry-difference, ring) (omega (arith, ints)))
        | no ne ↦
            let a = r.zero_at i (omega arith) in
            let b = e.reduced j i l (omega arith) (λ q. ne (sym q)) in
            simp (entry-difference, a, b, ring)
      ]

  pub rest_at : (x : Row) → length x ≡ n → (j : ℕ) → j ≤ length K → Rest n K P x j
  rest_at x lx zero l = record {
    p = pos 1;
    y = x;
    cols = lx;
    positive = lt_z_yes tt;
    inside = in_zero (λ i. simp (entry-difference, ring) (omega (arith, ints)));
    zero_at = λ i li. absurd (omega arith);
  }
  rest_at x lx (suc j) l = rest_next x j (omega arith) (rest_at x lx j (omega arith))

-- ---- the lineality
null_opposite : (a x : Row) → dot a x ≡ pos 0 → dot a (opposite x) ≡ pos 0
null_opposite a x z = dot-opposite a x ∙ omega (arith, ints)

module _ (n : ℕ) (E A : List Row) where
  line_null : (x : Row) → InLineality (HalfSpaces E A) x → IsNull (E ++ A) x
  line_null x h = all_append (λ (b : Row). dot b x ≡ pos 0) E A h.inside.0 (all_from (λ (b : Row). dot b x ≡ pos 0) A (λ b i.
      let p = cut_at x i h.inside.1 in
      let q = rw dot-opposite at (cut_at (opposite x) i h.opposed.1) in
      omega (arith, ints)))

  null_line : (x : Row) → IsNull (E ++ A) x → InLineality (HalfSpaces E A) x
  null_line x h =
      let (a, b) = append_all (λ (b : Row). dot b x ≡ pos 0) E A h in
      record {
        inside = (a, cut_from A x (λ r i. let z = all_at (λ (r : Row). dot r x ≡ pos 0) i b in omega (arith, ints)));
        opposed = (
          all_from (λ (r : Row). dot r (opposite x) ≡ pos 0) E (λ r i. null_opposite r x (all_at (λ (r : Row). dot r x ≡ pos 0) i a)),
          cut_from A (opposite x) (λ r i. let z = null_opposite r x (all_at (λ (r : Row). dot r x ≡ pos 0) i b) in omega (arith, ints)),
        );
      }

  pub lineality_basis : (K : List Row) (P : List ℕ) → IsNullBasis n (E ++ A) K P → IsLinealityBasis n (HalfSpaces E A) K P
  lineality_basis K P b = record { echelon = b.echelon; lines = λ x lx. (λ h. (b.null x lx).1 (line_null x h), λ h. null_line x ((b.null x lx).0 h)) }

pub one_lineality : (n : ℕ) (S : Row → Type 0) (K K' : List Row) (P P' : List ℕ) → IsLinealityBasis n S K P → IsLinealityBasis n S K' P' → P ≡ P'
one_lineality n S K K' P P' b b' =
    (echelon_is_unique n K K' P P' b.echelon b'.echelon (same_span K K'
    (λ r i. let l = cols_at i b.echelon.cols in (b'.lines r l).0 ((b.lines r l).1 (in_line i)))
    (λ r i. let l = cols_at i b'.echelon.cols in (b.lines r l).0 ((b'.lines r l).1 (in_line i))))).1

-- ---- a large multiple of v, and x, is not negative on the rows that vanish on x or are positive on v
lift_first : (m bv bx : ℤ) → pos 0 <ℤ m → pos 0 ≤ℤ bv → bx <ℤ pos 0 → (bv ≡ pos 0 → bx ≡ pos 0) → pos 0 ≤ℤ ((m +ℤ neg_ℤ bx) *ℤ bv +ℤ bx)
lift_first m bv bx hm hv hx f =
    by_lt_z (pos 0) bv
    (λ up.
    let d : pos 0 ≤ℤ (bv -ℤ pos 1) = omega (arith, ints) in
    let e : pos 0 ≤ℤ neg_ℤ bx = omega (arith, ints) in
    let p = simp ring at (mul_nonneg e d) in
    let q = mul_nonneg (weaken hm) hv in
    simp ring (omega (arith, ints)))
    (λ none. let z : bv ≡ pos 0 = omega (arith, ints) in let w = f z in absurd (omega (arith, ints)))

lift_more : (m d cv cx : ℤ) → pos 0 ≤ℤ d → pos 0 ≤ℤ cv → pos 0 ≤ℤ (m *ℤ cv +ℤ cx) → pos 0 ≤ℤ ((m +ℤ d) *ℤ cv +ℤ cx)
lift_more m d cv cx hd hv h = let p = mul_nonneg hd hv in simp ring (omega (arith, ints))

Lifted : List Row → Row → Row → Type 0
Lifted A v x = (m : ℤ) × (pos 0 <ℤ m) × CutOut A (plus (times m v) x)

lifted : (A : List Row) (v x : Row) → CutOut A v → ((a : Row) → Among a A → dot a v ≡ pos 0 → dot a x ≡ pos 0) → Lifted A v x
unfolding Lifted
lifted [] v x hv o = (pos 1, lt_z_yes tt, tt)
lifted (b ∷ A) v x hv o =
    let (m, up, cut) = lifted A v x hv.1 (λ c i. o c (there i)) in
    let hv0 = hv.0 in
    by_lt_z (dot b x) (pos 0)
    (λ below. (
      m +ℤ neg_ℤ (dot b x),
      omega (arith, ints),
      (
        rw (dot-plus, dot-times) (lift_first m (dot b v) (dot b x) up hv.0 below (o b here)),
        cut_from A (plus (times (m +ℤ neg_ℤ (dot b x)) v) x) (λ c i. rw (dot-plus, dot-times) (lift_more m (neg_ℤ (dot b x)) (dot c v) (dot c x) (omega (arith, ints)) (cut_at v i hv.1) (rw (dot-plus, dot-times) at (cut_at (plus (times m v) x) i cut)))),
      ),
    ))
    (λ above. (m, up, ((let p = mul_nonneg (weaken up) hv.0 in rw (dot-plus, dot-times) (omega (arith, ints))), cut)))

-- ---- the first product that is not 0
test_zero : (k : ℤ) → nat_eq (unsigned_abs k) 0 ≡ true → k ≡ pos 0
test_zero k e = abs-zero k (eqb-true (unsigned_abs k) 0 e)

pub first_not_negative : (x : Row) (A : List Row) → ((a : Row) → Among a A → pos 0 ≤ℤ dot x a) → pos 0 ≤ℤ first_product x A
first_not_negative x [] f = omega (arith, ints)
first_not_negative x (a ∷ A) f = elim (cases_Bool (nat_eq (unsigned_abs (dot x a)) 0)) [
  | inl t ↦ rw t (first_not_negative x A (λ b i. f b (there i)))
  | inr t ↦ rw t (f a here)
]

pub first_not_positive : (x : Row) (A : List Row) → ((a : Row) → Among a A → dot x a ≤ℤ pos 0) → first_product x A ≤ℤ pos 0
first_not_positive x [] f = omega (arith, ints)
first_not_positive x (a ∷ A) f = elim (cases_Bool (nat_eq (unsigned_abs (dot x a)) 0)) [
  | inl t ↦ rw t (first_not_positive x A (λ b i. f b (there i)))
  | inr t ↦ rw t (f a here)
]

each_zero : (x a : Row) (A : List Row) → dot x a ≡ pos 0 → ((b : Row) → Among b A → dot x b ≡ pos 0) → (b : Row) → Among b (a ∷ A) → dot x b ≡ pos 0
each_zero x a A z f b here = z
each_zero x a A z f b (there i) = f b i

pub first_zero : (x : Row) (A : List Row) → first_product x A ≡ pos 0 → (a : Row) → Among a A → dot x a ≡ pos 0
first_zero x [] e b i = elim i [ ]
first_zero x (a ∷ A) e b i = elim (cases_Bool (nat_eq (unsigned_abs (dot x a)) 0)) [
  | inl t ↦ each_zero x a A (test_zero (dot x a) t) (first_zero x A (rw t at e)) b i
  | inr t ↦ absurd (let z : dot x a ≡ pos 0 = rw t at e in true≢false (sym (eq-eqb (unsigned_abs (dot x a)) 0 (ap unsigned_abs z)) ∙ t))
]

abbrev Zero : Row → Row → Type 0
Zero x a = dot a x ≡ pos 0

-- ---- what sign a multiple has
clash : (p k x y q m w z : ℤ) → pos 0 <ℤ p → pos 0 <ℤ x → p *ℤ x ≡ k *ℤ y → q *ℤ pos 0 ≡ m *ℤ y → pos 0 <ℤ q → pos 0 <ℤ w → q *ℤ w ≡ m *ℤ z → ⊥
clash p k x y q m w z hp hx e f hq hw g =
    let a = mul_pos hp hx in
    let b = mul_pos hq hw in
    let zero_product : m *ℤ y ≡ pos 0 = (let g = simp ring at f in simp ring (omega (arith, ints))) in
    let both : y ≡ pos 0 → ⊥ = λ h. let u = simp (h, ring) at e in omega (arith, ints) in
    by_lt_z (pos 0) m
    (λ up. both (mul_cancel up (simp ring (omega (arith, ints)))))
    (λ low. by_lt_z m (pos 0)
    (λ down. let n : pos 0 <ℤ neg_ℤ m = omega (arith, ints) in both (mul_cancel n (simp ring (omega (arith, ints)))))
    (λ none. let h : m ≡ pos 0 = omega (arith, ints) in let u = simp (h, ring) at g in omega (arith, ints)))

below_test : (i m : ℕ) → i < m → nat_lt i m ≡ true
below_test i m l = grind arith

-- x is a multiple of y, up to a positive factor
pub record IsMultiple (y x : Row) : Type 0 where
  pub p : ℤ
  pub k : ℤ
  pub positive : pos 0 <ℤ p
  pub same : (i : ℕ) → p *ℤ entry x i ≡ k *ℤ entry y i

multiple_zero : (y x : Row) (m : IsMultiple y x) (c : ℕ) → entry y c ≡ pos 0 → entry x c ≡ pos 0
multiple_zero y x m c z = mul_cancel m.positive (let q = simp (z, ring) at (m.same c) in simp ring (omega (arith, ints)))

turned_zero : (A : List Row) (x u : Row) → IsTurned A x u → (c : ℕ) → entry x c ≡ pos 0 → entry u c ≡ pos 0
turned_zero A x u (inl t) c z = rw (t.1, entry-opposite) (omega (arith, ints))
turned_zero A x u (inr t) c z = rw t.1 z

turned_primitive : (A : List Row) (x u : Row) → IsPrimitive x → IsTurned A x u → IsPrimitive u
turned_primitive A x u p (inl t) = rw t.1 (record {
  whole = λ k y l up s. p.whole k (opposite y) (length-opposite y ∙ l ∙ length-opposite x) up (record { at = λ i. let e = simp (entry-opposite, entry-times) at (s.at i) in simp (entry-times, entry-opposite, ring) (omega (arith, ints)) });
})
turned_primitive A x u p (inr t) = rw t.1 p

moved : (P q m k v x y w : ℤ) → q *ℤ (m *ℤ v +ℤ x) ≡ k *ℤ v +ℤ w → (k -ℤ q *ℤ m) *ℤ (P *ℤ v -ℤ pos 1 *ℤ y) +ℤ P *ℤ w ≡ (P *ℤ q) *ℤ x -ℤ (k -ℤ q *ℤ m) *ℤ y
moved P q m k v x y w e = let f = simp ring at (times_both P e) in simp ring (omega (arith, ints))

module _ (n : ℕ) (E A : List Row) (K : List Row) (P : List ℕ) (b : IsNullBasis n (E ++ A) K P) where
  columns_zero : (y : Row) → ((i : ℕ) → i < length K → entry y (column P i) ≡ pos 0) → VanishAt P y
  columns_zero y z k d l = rw (get_or_default P k d 0 l) (z k (let a = b.echelon.as_many in omega arith))

  pub columns_below : All (λ c. c < n) P
  columns_below k d l = rw (get_or_default P k d 0 l) (pivot_below n K P b.echelon.basis k (let a = b.echelon.as_many in omega arith))

  -- products with a row of the span of K are 0
  span_null : (x : Row) → InSpan K x → (a : Row) → Among a (E ++ A) → dot a x ≡ pos 0
  span_null x h a i = dot_span_zero a K x (λ g j. all_at (λ (r : Row). dot r g ≡ pos 0) i ((b.null g (cols_at j b.echelon.cols)).0 (in_line j))) h

  in_span_line : (x : Row) → length x ≡ n → InSpan K x → InLineality (HalfSpaces E A) x
  in_span_line x lx h = ((lineality_basis n E A K P b).lines x lx).1 h

  line_in_span : (x : Row) → length x ≡ n → InLineality (HalfSpaces E A) x → InSpan K x
  line_in_span x lx h = ((lineality_basis n E A K P b).lines x lx).0 h

  module _ (v : Row) (e : IsExtreme n (HalfSpaces E A) v) (r : Rest n K P v (length K)) where
    rest_dot : (a : Row) → Among a (E ++ A) → dot a r.y ≡ r.p *ℤ dot a v
    rest_dot a i = let z = rw dot-difference at (span_null (difference r.p v (pos 1) r.y) r.inside a i) in omega (arith, ints)

    rest_not_zero : ¬ (IsZero r.y)
    rest_not_zero z =
        let s : InSpan K v = in_divide r.positive (in_same (record { at = λ i. let q = z i in simp (entry-difference, entry-times, q) (omega (arith, ints)) }) r.inside) in
        e.not_line (in_span_line v e.cols s).opposed

    -- a row that vanishes where v does, and at the columns, is a multiple of the rest
    module _ (x : Row) (lx : length x ≡ n) (zero_e : (a : Row) → Among a E → dot a x ≡ pos 0) (over : (a : Row) → Among a A → dot a v ≡ pos 0 → dot a x ≡ pos 0) (zero_p : (i : ℕ) → i < length K → entry x (column P i) ≡ pos 0) where
      sum_inside : (m : ℤ) (y : Row) → ((a : Row) → Among a E → dot a y ≡ pos 0) → CutOut A (plus (times m v) y) → HalfSpaces E A (plus (times m v) y)
      sum_inside m y z cut = (
        all_from (λ (a : Row). dot a (plus (times m v) y) ≡ pos 0) E (λ a i.
            let q = all_at (λ (a : Row). dot a v ≡ pos 0) i e.inside.0 in
            let w = z a i in
            simp (dot-plus, dot-times, q, w, ring)),
        cut,
      )

      multiple : IsMultiple r.y x
      unfolding Lifted
      multiple =
          let (m, m_up, m_cut) = lifted A v x e.inside.1 over in
          let (k, k_up, k_cut) = lifted A v (opposite x) e.inside.1 (λ a i z. null_opposite a x (over a i z)) in
          let t = (e.summands (m +ℤ k) (plus (times m v) x) (plus (times k v) (opposite x)) (omega (arith, ints))
          (length-plus n (times m v) x (length-times m v ∙ e.cols) lx) (length-plus n (times k v) (opposite x) (length-times k v ∙ e.cols) (length-opposite x ∙ lx))
          (sum_inside m x zero_e m_cut) (sum_inside k (opposite x) (λ a i. null_opposite a x (zero_e a i)) k_cut)
          (record { at = λ i. simp (entry-times, entry-plus, entry-opposite, ring) (omega (arith, ints)) })).0 in
          let inside : InSpan K (difference (r.p *ℤ t.p) x (t.k -ℤ t.p *ℤ m) r.y) =
          in_same (record { at = λ i. let q = simp (entry-times, entry-plus) at (t.same.at i) in simp (entry-plus, entry-times, entry-difference) (moved r.p t.p m t.k (entry v i) (entry x i) (entry r.y i) (entry t.w i) q) })
          (in_plus (span_times (t.k -ℤ t.p *ℤ m) r.inside) (span_times r.p (line_in_span t.w t.cols t.line))) in
          let zero = zero_at_columns n K P b.echelon.basis (difference (r.p *ℤ t.p) x (t.k -ℤ t.p *ℤ m) r.y) inside
          (λ j l. let p = zero_p j l in let q = r.zero_at j l in simp (entry-difference, p, q, ring)) in
          record {
            p = r.p *ℤ t.p;
            k = t.k -ℤ t.p *ℤ m;
            positive = mul_pos r.positive t.positive;
            same = λ i. let z = simp entry-difference at (zero i) in omega (arith, ints);
          }

    -- a positive multiple of the rest is v up to scale and lineality
    rest_alike : (u : Row) (p k : ℤ) → pos 0 <ℤ p → pos 0 <ℤ k → ((i : ℕ) → p *ℤ entry u i ≡ k *ℤ entry r.y i) → SameModulo n (HalfSpaces E A) v u
    rest_alike u p k hp hk s =
        let lw : length (times (neg_ℤ k) (difference r.p v (pos 1) r.y)) ≡ n = length-times (neg_ℤ k) (difference r.p v (pos 1) r.y) ∙ length-difference n r.p v (pos 1) r.y e.cols r.cols in
        record {
          p = p;
          k = k *ℤ r.p;
          w = times (neg_ℤ k) (difference r.p v (pos 1) r.y);
          cols = lw;
          p_positive = hp;
          k_positive = mul_pos hk r.positive;
          line = in_span_line (times (neg_ℤ k) (difference r.p v (pos 1) r.y)) lw (span_times (neg_ℤ k) r.inside);
          same = record { at = λ i. let q = s i in simp (entry-times, entry-plus, entry-difference, ring) (omega (arith, ints)) };
        }

    -- ---- the rows that determine the row of a set
    module _ (set : List ℕ) (places : (j : ℕ) → Contains set j ↔ ((j < length A) × (dot v (ray A j) ≡ pos 0))) where
      rest_null : IsNull (determining n E A set P) r.y
      rest_null = all_append (Zero r.y) (E ++ rows_at A set) (map (unit n) P) (all_append (Zero r.y) E (rows_at A set) (all_from (Zero r.y) E at_equation) (all_from (Zero r.y) (rows_at A set) at_row)) (all_from (Zero r.y) (map (unit n) P) at_unit)
        where
          at_equation : (a : Row) → Among a E → dot a r.y ≡ pos 0
          at_equation a i = let z = all_at (λ (a : Row). dot a v ≡ pos 0) i e.inside.0 in let q = rest_dot a (among_append_left A i) in simp (q, z, ring)

          at_row : (a : Row) → Among a (rows_at A set) → dot a r.y ≡ pos 0
          at_row a i =
              let (k, j, is) = map_among (row_at A) (filter (λ k. nat_lt k (length A)) set) i in
              let c = (places k).0 (Contains_among (filter_among (λ k. nat_lt k (length A)) set j).0) in
              let q = rest_dot (row_at A k) (among_append_right E (at_place A k c.0)) in
              let z : dot (row_at A k) v ≡ pos 0 = dot_comm (row_at A k) v ∙ c.1 in
              rw is (simp (q, z, ring))

          at_unit : (a : Row) → Among a (map (unit n) P) → dot a r.y ≡ pos 0
          at_unit a i =
              let (c, j, is) = map_among (unit n) P i in
              let l = among_All (λ c. c < n) j columns_below in
              rw is (dot_comm (unit n c) r.y ∙ dot-unit r.y n c l ∙ among_All (λ c. entry r.y c ≡ pos 0) j (columns_zero r.y r.zero_at))

      null_multiple : (x : Row) → length x ≡ n → IsNull (determining n E A set P) x → IsMultiple r.y x
      null_multiple x lx z =
          let (first, on_units) = append_all (Zero x) (E ++ rows_at A set) (map (unit n) P) z in
          let (on_e, on_rows) = append_all (Zero x) E (rows_at A set) first in
          multiple x lx (λ a i. all_at (Zero x) i on_e) (over on_rows) (at_column on_units)
        where
          over : IsNull (rows_at A set) x → (a : Row) → Among a A → dot a v ≡ pos 0 → dot a x ≡ pos 0
          over h a i q =
              let w = place_of i in
              let c : Contains set w.0 = (places w.0).1 (w.1, ap (dot v) w.2 ∙ dot_comm v a ∙ q) in
              let t : nat_lt w.0 (length A) ≡ true = below_test w.0 (length A) w.1 in
              let m = among_map (row_at A) (among_filter (λ k. nat_lt k (length A)) (among_Contains set c) t) in
              subst (λ (d : Row). dot d x ≡ pos 0) w.2 (all_at (λ (d : Row). dot d x ≡ pos 0) m h)

          at_column : IsNull (map (unit n) P) x → (i : ℕ) → i < length K → entry x (column P i) ≡ pos 0
          at_column h i l =
              let c : Contains P (column P i) = pivot_contained P (column P i) (i, (let a = b.echelon.as_many in omega arith), refl) in
              let u = all_at (λ (d : Row). dot d x ≡ pos 0) (among_map (unit n) (among_Contains P c)) h in
              sym (dot-unit x n (column P i) (pivot_below n K P b.echelon.basis i l)) ∙ dot_comm x (unit n (column P i)) ∙ u

      -- the null space is their multiples: it has one basis row
      alone : (N : List Row) (Q : List ℕ) → IsNullBasis n (determining n E A set P) N Q → (x : Row) × (N ≡ x ∷ [])
      alone [] Q f = absurd (rest_not_zero (zero_of_span r.y ((f.null r.y r.cols).1 rest_null)))
      alone (x ∷ []) Q f = (x, refl)
      alone (x ∷ w ∷ N) Q f =
          let lx = f.echelon.cols.0 in
          let lw = f.echelon.cols.1.0 in
          let s = null_multiple x lx ((f.null x lx).0 (in_line here)) in
          let t = null_multiple w lw ((f.null w lw).0 (in_line (there here))) in
          let z = f.echelon.reduced 1 0 (omega arith) (omega arith) (λ q. omega arith) in
          absurd (clash s.p s.k (entry x (column Q 0)) (entry r.y (column Q 0)) t.p t.k (entry w (column Q 1)) (entry r.y (column Q 1)) s.positive (f.echelon.positive 0 (omega arith)) (s.same (column Q 0)) (subst (λ c. t.p *ℤ c ≡ t.k *ℤ entry r.y (column Q 0)) z (t.same (column Q 0))) t.positive (f.echelon.positive 1 (omega arith)) (t.same (column Q 1)))

      -- ---- the sign
      dot_multiple : (x : Row) (m : IsMultiple r.y x) (a : Row) → Among a A → m.p *ℤ dot x a ≡ m.k *ℤ (r.p *ℤ dot a v)
      dot_multiple x m a i =
          let q = simp dot-times at (dot-same a (times m.p x) (times m.k r.y) (λ c. simp entry-times (m.same c))) in
          let t = rest_dot a (among_append_right E i) in
          rw (dot_comm x a, ← t) q

      inside_at : (a : Row) → Among a A → pos 0 ≤ℤ (r.p *ℤ dot a v)
      inside_at a i = mul_nonneg (weaken r.positive) (cut_at v i e.inside.1)

      products_up : (x : Row) (m : IsMultiple r.y x) → pos 0 ≤ℤ m.k → (a : Row) → Among a A → pos 0 ≤ℤ dot x a
      products_up x m h a i = let q = dot_multiple x m a i in let u = mul_nonneg h (inside_at a i) in nonneg_cancel m.positive (rw q u)

      products_down : (x : Row) (m : IsMultiple r.y x) → m.k ≤ℤ pos 0 → (a : Row) → Among a A → dot x a ≤ℤ pos 0
      products_down x m h a i =
          let q = dot_multiple x m a i in
          let g : pos 0 ≤ℤ neg_ℤ m.k = omega (arith, ints) in
          let u = simp ring at (mul_nonneg g (inside_at a i)) in
          let w : pos 0 ≤ℤ neg_ℤ (dot x a) = nonneg_cancel m.positive (simp ring (omega (arith, ints))) in
          omega (arith, ints)

      -- not all products are 0
      some_product : (x : Row) (m : IsMultiple r.y x) → m.k <ℤ pos 0 → ((a : Row) → Among a A → dot x a ≡ pos 0) → ⊥
      some_product x m h z =
          let flat : IsNull (E ++ A) v = all_append (λ (a : Row). dot a v ≡ pos 0) E A e.inside.0 (all_from (λ (a : Row). dot a v ≡ pos 0) A (λ a i.
          let q = dot_multiple x m a i in
          let w = z a i in
          let g : pos 0 <ℤ neg_ℤ m.k = omega (arith, ints) in
          let u : r.p *ℤ dot a v ≡ pos 0 = mul_cancel g (let q' = simp (w, ring) at q in simp ring (omega (arith, ints))) in
          mul_cancel r.positive (simp ring (omega (arith, ints))))) in
          e.not_line (null_line n E A v flat).opposed

      turned_alike : (x u : Row) → IsMultiple r.y x → (c : ℕ) → pos 0 <ℤ entry x c → IsTurned A x u → SameModulo n (HalfSpaces E A) v u
      turned_alike x u m c up (inl t) =
          by_lt_z m.k (pos 0)
          (λ down. rw t.1 (rest_alike (opposite x) m.p (neg_ℤ m.k) m.positive (omega (arith, ints)) (λ i. let q = m.same i in simp (entry-opposite, ring) (omega (arith, ints)))))
          (λ above. let f = first_not_negative x A (products_up x m above) in let g = t.0 in absurd (omega (arith, ints)))
      turned_alike x u m c up (inr t) =
          by_lt_z (pos 0) m.k
          (λ above. rw t.1 (rest_alike x m.p m.k m.positive above m.same))
          (λ low. absurd (by_lt_z m.k (pos 0)
          (λ down. some_product x m down (first_zero x A (let f = first_not_positive x A (products_down x m low) in let g = t.0 in omega (arith, ints))))
          (λ above. let z : m.k ≡ pos 0 = omega (arith, ints) in let s = simp (z, ring) at (m.same c) in let p = mul_pos m.positive up in omega (arith, ints))))

      found_row : (u : Row) → IsFound n E A P set u → SameModulo n (HalfSpaces E A) v u × IsPrimitive u × VanishAt P u
      found_row u f =
          let (x, is) = alone f.null f.columns f.basis in
          let g : IsNullBasis n (determining n E A set P) (x ∷ []) f.columns = subst (λ (N : List Row). IsNullBasis n (determining n E A set P) N f.columns) is f.basis in
          let m = null_multiple x g.echelon.cols.0 ((g.null x g.echelon.cols.0).0 (in_line here)) in
          let t = f.one x is in
          let h = turned_alike x u m (column f.columns 0) (g.echelon.positive 0 (omega arith)) t in
          (h, turned_primitive A x u (g.echelon.primitive 0 (omega arith)) t, columns_zero u (λ i l. turned_zero A x u t (column P i) (multiple_zero r.y x m (column P i) (r.zero_at i l))))

-- ---- the rows of all sets
abbrev pub AreFound : ℕ → List Row → List Row → List ℕ → List (List ℕ) → List Row → Type 0
AreFound n E A P [] [] = Unit {0}
AreFound n E A P [] (u ∷ U) = ⊥
AreFound n E A P (set ∷ sets) [] = ⊥
AreFound n E A P (set ∷ sets) (u ∷ U) = IsFound n E A P set u × AreFound n E A P sets U

pub found_more : (n : ℕ) (E A : List Row) (P : List ℕ) (sets : List (List ℕ)) (U : List Row) (set : List ℕ) (u : Row) → AreFound n E A P sets U → IsFound n E A P set u → AreFound n E A P (sets ++ set ∷ []) (U ++ u ∷ [])
found_more n E A P [] [] set u h f = (f, tt)
found_more n E A P [] (w ∷ U) set u h f = absurd h
found_more n E A P (s ∷ sets) [] set u h f = absurd h
found_more n E A P (s ∷ sets) (w ∷ U) set u h f = (h.0, found_more n E A P sets U set u h.1 f)

pub found_length : (n : ℕ) (E A : List Row) (P : List ℕ) (sets : List (List ℕ)) (U : List Row) → AreFound n E A P sets U → length U ≡ length sets
found_length n E A P [] [] h = refl
found_length n E A P [] (w ∷ U) h = absurd h
found_length n E A P (s ∷ sets) [] h = absurd h
found_length n E A P (s ∷ sets) (w ∷ U) h = ap suc (found_length n E A P sets U h.1)

module _ (n : ℕ) (E A : List Row) (K : List Row) (P : List ℕ) (b : IsNullBasis n (E ++ A) K P) where
  abbrev Fits : Row → Row → Type 0
  Fits v u = SameModulo n (HalfSpaces E A) v u × IsPrimitive u × VanishAt P u

  found_fits : (v : Row) → IsExtreme n (HalfSpaces E A) v → (set : List ℕ) → ((j : ℕ) → Contains set j ↔ ((j < length A) × (dot v (ray A j) ≡ pos 0))) → (u : Row) → IsFound n E A P set u → Fits v u
  found_fits v e set places u f = found_row n E A K P b v e (rest_at n K P b.echelon.basis v e.cols (length K) (omega arith)) set places u f

  first_or : {U : List Row} {u w : Row} → Among w (u ∷ U) → (Q : Row → Type 0) → Q u → ((w : Row) → Among w U → Q w) → Q w
  first_or here Q q f = q
  first_or (there i) Q q f = f _ i

  found_rows : (V : List Row) (sets : List (List ℕ)) (U : List Row) → ((v : Row) → Among v V → IsExtreme n (HalfSpaces E A) v) → IsIncidence V A sets → AreFound n E A P sets U
      → InOrder (SameModulo n (HalfSpaces E A)) V U × ((u : Row) → Among u U → IsPrimitive u × VanishAt P u)
  found_rows [] [] [] e i f = (tt, λ u j. elim j [ ])
  found_rows [] [] (u ∷ U) e i f = absurd f
  found_rows [] (set ∷ sets) U e i f = absurd i
  found_rows (v ∷ V) [] U e i f = absurd i
  found_rows (v ∷ V) (set ∷ sets) [] e i f = absurd f
  found_rows (v ∷ V) (set ∷ sets) (u ∷ U) e i f =
      let first = found_fits v (e v here) set i.0 u f.0 in
      let rest = found_rows V sets U (λ w j. e w (there j)) i.1 f.1 in
      ((first.0, rest.0), λ w j. first_or j (λ w. IsPrimitive w × VanishAt P w) (first.1, first.2) rest.1)

  pub found_canonical : (V : List Row) (sets : List (List ℕ)) (U : List Row) → IsOrder n (HalfSpaces E A) V → IsIncidence V A sets → AreFound n E A P sets U → AreCanonicalFor n (HalfSpaces E A) V U
  found_canonical V sets U o i f =
      let h = found_rows V sets U (λ v j. among_All (λ v. IsExtreme n (HalfSpaces E A) v) j o.each) i f in
      record {
        order = h.0;
        primitive = All_among IsPrimitive U (λ u j. (h.1 u j).0);
        reduced = λ K' P' b'.
            subst (λ (Q : List ℕ). All (VanishAt Q) U) (one_lineality n (HalfSpaces E A) K K' P P' (lineality_basis n E A K P b) b') (All_among (VanishAt P) U (λ u j. (h.1 u j).1));
      }
