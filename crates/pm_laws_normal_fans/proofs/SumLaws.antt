-- The cone of a sum of two bounded cones: its vertices, and the objectives that are least there.
use Rattle.pm_vector.proofs.Ring.{ring}
use Rattle.pm_vector.proofs.RowLaws.{dot-nil, entry-opposite, entry-plus, entry-times, length-opposite, length-times, length-zeros, zeros}
use Rattle.pm_vector.proofs.Signs.{mul_cancel, mul_pos, nonneg_cancel, weaken}
use Rattle.pm_vector.specs.Cones.{IsConeSet}
use Rattle.pm_vector.specs.Rows.{IsZero, Row, Same, SameDirection, entry, opposite, plus, times}
use Rattle.pm_geom.specs.Cones.{InLineality, IsExtreme, MultipleModulo}
use Rattle.pm_laws_normal_fans.proofs.Numbers.{factor, least_direction, least_first, least_sum, mixed_first, mixed_other, part_other, split_first, split_other}
use Rattle.pm_laws_normal_fans.proofs.PointSums.{first-joined, joined, length-joined, others-joined, value-joined, value-same, value-sum, value-times}
use Rattle.pm_laws_normal_fans.specs.Sums.{InMinkowskiSum, IsBounded, IsLeastAt, IsVertex, value}
use Rattle.std.proofs.Common.{arith, refl, sym, ◌∙◌}
use Rattle.std.proofs.lemmas.Int.{by_lt_z, ints}
use Rattle.std.specs.Prelude.{[], length, suc, zero, ℕ, ◌∷◌, ◌↔◌, ◌≡◌}
use lib.IntN.{*ℤ_comm, pos, ℤ, ◌*ℤ◌, ◌+ℤ◌}
use lib.Signed.{lt_z_yes, ◌<ℤ◌, ◌≤ℤ◌}

pub entry-zeros : (n i : ℕ) → entry (zeros n) i ≡ pos 0
unfolding zeros
entry-zeros zero i = refl
entry-zeros (suc n) zero = refl
entry-zeros (suc n) (suc i) = entry-zeros n i

-- c is least on S at v and least on T at w
pub record InBoth (n : ℕ) (S T : Row → Type 0) (v w c : Row) : Type 0 where
  pub in_first : IsLeastAt n S v c
  pub in_second : IsLeastAt n T w c

-- the intersection of the cones of the vertices v and w is included in no other such intersection, but in equal ones
pub record IsMaximalPair (n : ℕ) (S T : Row → Type 0) (v w : Row) : Type 0 where
  pub first : IsVertex n S v
  pub second : IsVertex n T w
  pub maximal : (v' w' : Row) → IsVertex n S v' → IsVertex n T w' → ((c : Row) → InBoth n S T v w c → InBoth n S T v' w' c) → (c : Row) → InBoth n S T v' w' c → InBoth n S T v w c

-- a positive multiple of u is a multiple of z
pub record IsMultiple (z u : Row) : Type 0 where
  pub p : ℤ
  pub k : ℤ
  pub positive : pos 0 <ℤ p
  pub not_negative : pos 0 ≤ℤ k
  pub same : Same (times p u) (times k z)

-- a set of rows in which no first entry is negative, and only that of zero is 0
pub record IsPointed (n : ℕ) (S : Row → Type 0) : Type 0 where
  pub first : (x : Row) → length x ≡ n → S x → pos 0 ≤ℤ entry x 0
  pub bounded : IsBounded n S

module _ (n : ℕ) (S : Row → Type 0) (ps : IsPointed n S) where
  pub line_zero : (w : Row) → length w ≡ n → InLineality S w → IsZero w
  line_zero w lw h =
      let a = ps.first w lw h.inside in
      let b = simp entry-opposite at (ps.first (opposite w) (length-opposite w ∙ lw) h.opposed) in
      ps.bounded.only_zero w lw h.inside (omega (arith, ints))

  pub multiple : (z u : Row) → MultipleModulo n S z u → IsMultiple z u
  multiple z u t = record {
    p = t.p;
    k = t.k;
    positive = t.positive;
    not_negative = t.not_negative;
    same = record { at = λ i. let e = t.same.at i in let o = line_zero t.w t.cols t.line i in let f = simp (entry-plus, o) at e in omega (arith, ints) };
  }

  pub value_zero : (c x : Row) → IsZero x → value c x ≡ pos 0
  value_zero c x o = value-same c x [] (λ i. o (suc i)) ∙ dot-nil (pos 0 ∷ c)

  -- least against each row, one with the first entry 0 too
  pub least_all : (v c : Row) → IsLeastAt n S v c → (x : Row) → length x ≡ n → S x → (entry x 0 *ℤ value c v) ≤ℤ (entry v 0 *ℤ value c x)
  least_all v c h x lx sx =
      by_lt_z (pos 0) (entry x 0)
      (λ up. h.least x lx sx up)
      (λ low. let a = ps.first x lx sx in
      let o : entry x 0 ≡ pos 0 = omega (arith, ints) in
      let z = value_zero c x (ps.bounded.only_zero x lx sx o) in
      simp (o, z, ring) (omega (arith, ints)))

  pub least_multiple : (z y c : Row) (p k : ℤ) → pos 0 ≤ℤ p → pos 0 <ℤ k → Same (times p z) (times k y) → IsLeastAt n S z c → IsLeastAt n S y c
  least_multiple z y c p k hp hk s h = record {
    cols = h.cols;
    least = λ x lx sx up.
        let e = simp entry-times at (s.at 0) in
        let f = sym (value-times c p z) ∙ value-same c (times p z) (times k y) (λ i. s.at (suc i)) ∙ value-times c k y in
        least_direction p k (entry z 0) (entry y 0) (value c z) (value c y) (entry x 0) (value c x) hp hk e f (h.least x lx sx up);
  }

pub record IsConeOfSum (n : ℕ) (S T R : Row → Type 0) : Type 0 where
  pub first : IsConeSet S
  pub second : IsConeSet T
  pub first_pointed : IsPointed n S
  pub second_pointed : IsPointed n T
  pub sum : (x : Row) → length x ≡ n → R x ↔ InMinkowskiSum n S T x

pub swap_sum : (n : ℕ) (S T : Row → Type 0) (x : Row) → InMinkowskiSum n S T x → InMinkowskiSum n T S x
swap_sum n S T x h = record {
  factor = h.factor;
  first = h.second;
  second = h.first;
  positive = h.positive;
  first_cols = h.second_cols;
  second_cols = h.first_cols;
  of_first = h.of_second;
  of_second = h.of_first;
  sum = record { first = h.sum.second; second = h.sum.first; others = λ i. let e = h.sum.others i in omega (arith, ints) };
}

pub swap_cone : (n : ℕ) (S T R : Row → Type 0) → IsConeOfSum n S T R → IsConeOfSum n T S R
swap_cone n S T R c = record {
  first = c.second;
  second = c.first;
  first_pointed = c.second_pointed;
  second_pointed = c.first_pointed;
  sum = λ x l. let s = c.sum x l in (λ r. swap_sum n S T x (s.0 r), λ h. s.1 (swap_sum n T S x h));
}

module _ (n : ℕ) (S T R : Row → Type 0) (cone : IsConeOfSum n S T R) where
  pub in_joined : (k : ℤ) (u : Row) (l : ℤ) (w : Row) → length u ≡ n → length w ≡ n → pos 0 ≤ℤ k → pos 0 ≤ℤ l → S u → T w → k *ℤ entry u 0 ≡ l *ℤ entry w 0 → InMinkowskiSum n S T (joined k u l w)
  in_joined k u l w hu hw hk hl su tw e = record {
    factor = pos 1;
    first = times k u;
    second = times l w;
    positive = lt_z_yes tt;
    first_cols = length-times k u ∙ hu;
    second_cols = length-times l w ∙ hw;
    of_first = cone.first.multiple hk su;
    of_second = cone.second.multiple hl tw;
    sum = record {
      first = let f = first-joined k u l w in simp (entry-times, f, ring);
      second = let f = first-joined k u l w in simp (entry-times, f, ring) (omega (arith, ints));
      others = λ i. let f = others-joined k u l w i in simp (entry-times, f, ring);
    };
  }

  pub joined_in : (k : ℤ) (u : Row) (l : ℤ) (w : Row) → length u ≡ n → length w ≡ n → pos 0 ≤ℤ k → pos 0 ≤ℤ l → S u → T w → k *ℤ entry u 0 ≡ l *ℤ entry w 0 → R (joined k u l w)
  joined_in k u l w hu hw hk hl su tw e = (cone.sum (joined k u l w) (length-joined n k u l w hu hw)).1 (in_joined k u l w hu hw hk hl su tw e)

  sum_first : (x : Row) → length x ≡ n → R x → pos 0 ≤ℤ entry x 0
  sum_first x lx rx =
      let h = (cone.sum x lx).0 rx in
      let a = cone.first_pointed.first h.first h.first_cols h.of_first in
      let e = simp entry-times at h.sum.first in
      nonneg_cancel h.positive (omega (arith, ints))

  sum_zero : (x : Row) (h : InMinkowskiSum n S T x) → entry x 0 ≡ pos 0 → IsZero x
  sum_zero x h o zero = o
  sum_zero x h o (suc i) =
      let e = simp (entry-times, o, ring) at h.sum.first in
      let f = simp (entry-times, o, ring) at h.sum.second in
      let u = cone.first_pointed.bounded.only_zero h.first h.first_cols h.of_first e (suc i) in
      let w = cone.second_pointed.bounded.only_zero h.second h.second_cols h.of_second f (suc i) in
      let g = simp entry-times at (h.sum.others i) in
      mul_cancel h.positive (simp ring (omega (arith, ints)))

  pub sum_pointed : IsPointed n R
  sum_pointed = record { first = sum_first; bounded = record { only_zero = λ x lx rx o. sum_zero x ((cone.sum x lx).0 rx) o } }

  -- ---- a row of the sum, as the sum of two points
  module _ (z : Row) (z_cols : length z ≡ n) (z_point : pos 0 <ℤ entry z 0) (h : InMinkowskiSum n S T z) where
    first_entry : h.factor *ℤ entry z 0 ≡ entry h.first 0
    first_entry = let e = simp entry-times at h.sum.first in omega (arith, ints)

    both_entries : entry h.second 0 ≡ entry h.first 0
    both_entries = h.sum.second ∙ sym h.sum.first

    other_entry : (i : ℕ) → h.factor *ℤ entry z (suc i) ≡ entry h.first (suc i) +ℤ entry h.second (suc i)
    other_entry i = sym (entry-times h.factor z (suc i)) ∙ h.sum.others i

    pub first_point : pos 0 <ℤ entry h.first 0
    first_point = let e = first_entry in let p = mul_pos h.positive z_point in omega (arith, ints)

    values : (c : Row) → h.factor *ℤ value c z ≡ value c h.first +ℤ value c h.second
    values c = sym (value-times c h.factor z) ∙ value-sum c h.first h.second (times h.factor z) h.sum

    -- a in place of the first summand
    abbrev beside : Row → Row
    beside a = joined (entry h.first 0) a (entry a 0) h.second

    beside_in : (a : Row) → length a ≡ n → S a → R (beside a)
    beside_in a la sa = joined_in (entry h.first 0) a (entry a 0) h.second la h.second_cols (weaken first_point) (cone.first_pointed.first a la sa) sa h.of_second (let e = both_entries in simp (e, ring))

    pub least_at_first : (c : Row) → IsLeastAt n R z c → IsLeastAt n S h.first c
    least_at_first c k = record {
      cols = k.cols;
      least = λ a la sa up.
          let f = first-joined (entry h.first 0) a (entry a 0) h.second in
          let v = value-joined c (entry h.first 0) a (entry a 0) h.second in
          let l = k.least (beside a) (length-joined n (entry h.first 0) a (entry a 0) h.second la h.second_cols) (beside_in a la sa) (rw f (mul_pos first_point up)) in
          least_first h.factor (entry z 0) (entry h.first 0) (entry a 0) (value c z) (value c h.first) (value c a) (value c h.second) h.positive first_point first_entry (values c) (simp (f, v) at l);
    }

    pub least_at_both : (c : Row) → IsLeastAt n S h.first c → IsLeastAt n T h.second c → IsLeastAt n R z c
    least_at_both c k m = record {
      cols = k.cols;
      least = λ x lx rx up.
          let g = (cone.sum x lx).0 rx in
          let e : g.factor *ℤ entry x 0 ≡ entry g.first 0 = (let e = simp entry-times at g.sum.first in omega (arith, ints)) in
          let b : entry g.second 0 ≡ entry g.first 0 = g.sum.second ∙ sym g.sum.first in
          let v : g.factor *ℤ value c x ≡ value c g.first +ℤ value c g.second = sym (value-times c g.factor x) ∙ value-sum c g.first g.second (times g.factor x) g.sum in
          let q = least_all n S cone.first_pointed h.first c k g.first g.first_cols g.of_first in
          let r = least_all n T cone.second_pointed h.second c m g.second g.second_cols g.of_second in
          let d = both_entries in
          least_sum h.factor (entry z 0) (entry h.first 0) (value c z) (value c h.first) (value c h.second) g.factor (entry x 0) (entry g.first 0) (value c x) (value c g.first) (value c g.second)
          h.positive g.positive first_entry (values c) e v q (simp (b, d) at r);
    }

    module _ (extreme : IsExtreme n R z) where
      split_same : (k : ℤ) (a b : Row) → Same (times k h.first) (plus a b) → Same (times (k *ℤ entry h.first 0 *ℤ h.factor) z) (plus (beside a) (beside b))
      split_same k a b s = record { at = go }
        where
          go : (i : ℕ) → entry (times (k *ℤ entry h.first 0 *ℤ h.factor) z) i ≡ entry (plus (beside a) (beside b)) i
          go zero =
              let e = simp (entry-times, entry-plus) at (s.at 0) in
              entry-times (k *ℤ entry h.first 0 *ℤ h.factor) z 0 ∙ split_first k h.factor (entry h.first 0) (entry z 0) (entry a 0) (entry b 0) first_entry e ∙ sym (let f = first-joined (entry h.first 0) a (entry a 0) h.second in let g = first-joined (entry h.first 0) b (entry b 0) h.second in simp (entry-plus, f, g))
          go (suc i) =
              let e = simp (entry-times, entry-plus) at (s.at 0) in
              let o = simp (entry-times, entry-plus) at (s.at (suc i)) in
              entry-times (k *ℤ entry h.first 0 *ℤ h.factor) z (suc i)
              ∙ split_other k h.factor (entry h.first 0) (entry a 0) (entry b 0) (entry z (suc i)) (entry h.first (suc i)) (entry h.second (suc i)) (entry a (suc i)) (entry b (suc i)) (other_entry i) e o
              ∙ sym (let f = others-joined (entry h.first 0) a (entry a 0) h.second i in let g = others-joined (entry h.first 0) b (entry b 0) h.second i in simp (entry-plus, f, g))

      part_same : (a : Row) → IsMultiple z (beside a) → Same (times (entry h.first 0) a) (plus (times (entry a 0) h.first) (zeros n))
      part_same a m = record { at = go }
        where
          go : (i : ℕ) → entry (times (entry h.first 0) a) i ≡ entry (plus (times (entry a 0) h.first) (zeros n)) i
          go zero = let o = entry-zeros n 0 in simp (entry-times, entry-plus, o, ring) (omega (arith, ints))
          go (suc i) =
              let o = entry-zeros n (suc i) in
              let f = first-joined (entry h.first 0) a (entry a 0) h.second in
              let g = others-joined (entry h.first 0) a (entry a 0) h.second i in
              let e = simp (entry-times, f) at (m.same.at 0) in
              let d = simp (entry-times, g) at (m.same.at (suc i)) in
              let k = factor h.factor m.p m.k (entry z 0) (entry h.first 0) (entry a 0) first_point first_entry e in
              let l = part_other h.factor m.p m.k (entry a 0) (entry h.first 0) (entry z (suc i)) (entry h.first (suc i)) (entry h.second (suc i)) (entry a (suc i)) m.positive (other_entry i) k d in
              simp (entry-times, entry-plus, o) (omega (arith, ints))

      part : (k : ℤ) (a b : Row) → pos 0 <ℤ k → length a ≡ n → length b ≡ n → S a → S b → Same (times k h.first) (plus a b) → MultipleModulo n S h.first a
      part k a b hk la lb sa sb s =
          let w = (extreme.summands (k *ℤ entry h.first 0 *ℤ h.factor) (beside a) (beside b) (mul_pos (mul_pos hk first_point) h.positive) (length-joined n (entry h.first 0) a (entry a 0) h.second la h.second_cols) (length-joined n (entry h.first 0) b (entry b 0) h.second lb h.second_cols) (beside_in a la sa) (beside_in b lb sb) (split_same k a b s)).0 in
          record {
            p = entry h.first 0;
            k = entry a 0;
            w = zeros n;
            cols = length-zeros n;
            positive = first_point;
            not_negative = cone.first_pointed.first a la sa;
            line = record {
              inside = cone.first.same (record { at = λ i. let o = entry-zeros n i in simp (entry-times, o, ring) }) (cone.first.multiple {k = pos 0} (omega (arith, ints)) sa);
              opposed = cone.first.same (record { at = λ i. let o = entry-zeros n i in simp (entry-times, entry-opposite, o, ring) (omega (arith, ints)) }) (cone.first.multiple {k = pos 0} (omega (arith, ints)) sa);
            };
            same = part_same a (multiple n R sum_pointed z (beside a) w);
          }

      plus_swap : (k : ℤ) (u a b : Row) → Same (times k u) (plus a b) → Same (times k u) (plus b a)
      plus_swap k u a b s = record { at = λ i. let e = simp entry-plus at (s.at i) in simp entry-plus (omega (arith, ints)) }

      pub first_vertex : IsVertex n S h.first
      first_vertex = record {
        extreme = record {
          cols = h.first_cols;
          inside = h.of_first;
          not_line = λ o. let a = simp entry-opposite at (cone.first_pointed.first (opposite h.first) (length-opposite h.first ∙ h.first_cols) o) in let b = first_point in omega (arith, ints);
          summands = λ k a b hk la lb sa sb s. (part k a b hk la lb sa sb s, part k b a hk lb la sb sa (plus_swap k h.first a b s));
        };
        point = first_point;
      }

      -- another way to the same sum has the same first summand
      module _ (g : InMinkowskiSum n S T z) where
        g_entry : g.factor *ℤ entry z 0 ≡ entry g.first 0
        g_entry = let e = simp entry-times at g.sum.first in omega (arith, ints)

        g_point : pos 0 <ℤ entry g.first 0
        g_point = let e = g_entry in let p = mul_pos g.positive z_point in omega (arith, ints)

        abbrev crossed : Row
        crossed = joined (entry g.first 0) h.first (entry h.first 0) g.second

        crossed_in : R crossed
        crossed_in = joined_in (entry g.first 0) h.first (entry h.first 0) g.second h.first_cols g.second_cols (weaken g_point) (weaken first_point) h.of_first g.of_second (let e : entry g.second 0 ≡ entry g.first 0 = g.sum.second ∙ sym g.sum.first in simp (e, ring))

        mixed_same : Same (times (entry g.first 0 *ℤ h.factor +ℤ entry h.first 0 *ℤ g.factor) z) (plus (beside g.first) crossed)
        mixed_same = record { at = go }
          where
            go : (i : ℕ) → entry (times (entry g.first 0 *ℤ h.factor +ℤ entry h.first 0 *ℤ g.factor) z) i ≡ entry (plus (beside g.first) crossed) i
            go zero =
                entry-times (entry g.first 0 *ℤ h.factor +ℤ entry h.first 0 *ℤ g.factor) z 0 ∙ mixed_first h.factor g.factor (entry z 0) (entry h.first 0) (entry g.first 0) first_entry g_entry
                ∙ sym (let f = first-joined (entry h.first 0) g.first (entry g.first 0) h.second in let d = first-joined (entry g.first 0) h.first (entry h.first 0) g.second in simp (entry-plus, f, d))
            go (suc i) =
                let o : g.factor *ℤ entry z (suc i) ≡ entry g.first (suc i) +ℤ entry g.second (suc i) = sym (entry-times g.factor z (suc i)) ∙ g.sum.others i in
                entry-times (entry g.first 0 *ℤ h.factor +ℤ entry h.first 0 *ℤ g.factor) z (suc i)
                ∙ mixed_other h.factor g.factor (entry z (suc i)) (entry h.first 0) (entry g.first 0) (entry h.first (suc i)) (entry h.second (suc i)) (entry g.first (suc i)) (entry g.second (suc i)) (other_entry i) o
                ∙ sym (let f = others-joined (entry h.first 0) g.first (entry g.first 0) h.second i in let d = others-joined (entry g.first 0) h.first (entry h.first 0) g.second i in simp (entry-plus, f, d))

        pub same_first : SameDirection h.first g.first
        same_first =
            let w = (extreme.summands (entry g.first 0 *ℤ h.factor +ℤ entry h.first 0 *ℤ g.factor) (beside g.first) crossed (let a = mul_pos g_point h.positive in let b = mul_pos first_point g.positive in omega (arith, ints)) (length-joined n (entry h.first 0) g.first (entry g.first 0) h.second g.first_cols h.second_cols) (length-joined n (entry g.first 0) h.first (entry h.first 0) g.second h.first_cols g.second_cols) (beside_in g.first g.first_cols g.of_first) crossed_in mixed_same).0 in
            let s = part_same g.first (multiple n R sum_pointed z (beside g.first) w) in
            record { p = entry g.first 0; q = entry h.first 0; p_positive = g_point; q_positive = first_point; same = record { at = λ i. let e = s.at i in let o = entry-zeros n i in let d = simp (entry-plus, o) at e in omega (arith, ints) } }

-- ---- both summands
module _ (n : ℕ) (S T R : Row → Type 0) (cone : IsConeOfSum n S T R) (z : Row) (h : InMinkowskiSum n S T z) where
  -- the objectives that are least at a sum are those that are least at both summands
  pub cone_at_sum : length z ≡ n → pos 0 <ℤ entry z 0 → (c : Row) → IsLeastAt n R z c ↔ InBoth n S T h.first h.second c
  unfolding swap_sum
  cone_at_sum l up c = (
    λ k. record { in_first = least_at_first n S T R cone z l up h c k; in_second = least_at_first n T S R (swap_cone n S T R cone) z l up (swap_sum n S T z h) c k },
    λ b. least_at_both n S T R cone z l up h c b.in_first b.in_second,
  )

  -- the summands of a vertex are vertices
  pub vertices_of_sum : IsVertex n R z → IsVertex n S h.first × IsVertex n T h.second
  unfolding swap_sum
  vertices_of_sum v = (first_vertex n S T R cone z v.extreme.cols v.point h v.extreme, first_vertex n T S R (swap_cone n S T R cone) z v.extreme.cols v.point (swap_sum n S T z h) v.extreme)

  -- a vertex of the sum is the sum of two points in one way
  pub summands_unique : IsVertex n R z → (g : InMinkowskiSum n S T z) → SameDirection h.first g.first × SameDirection h.second g.second
  unfolding swap_sum
  summands_unique v g = (same_first n S T R cone z v.extreme.cols v.point h v.extreme g, same_first n T S R (swap_cone n S T R cone) z v.extreme.cols v.point (swap_sum n S T z h) v.extreme (swap_sum n S T z g))

-- ---- two vertices beside each other
module _ (n : ℕ) (S T R : Row → Type 0) (cone : IsConeOfSum n S T R) (v w : Row) (vv : IsVertex n S v) (vw : IsVertex n T w) where
  abbrev pub together : Row
  together = joined (entry w 0) v (entry v 0) w

  pub together_cols : length together ≡ n
  together_cols = length-joined n (entry w 0) v (entry v 0) w vv.extreme.cols vw.extreme.cols

  pub together_point : pos 0 <ℤ entry together 0
  together_point = let f = first-joined (entry w 0) v (entry v 0) w in rw f (mul_pos vw.point vv.point)

  together_sum : InMinkowskiSum n S T together
  together_sum = in_joined n S T R cone (entry w 0) v (entry v 0) w vv.extreme.cols vw.extreme.cols (weaken vw.point) (weaken vv.point) vv.extreme.inside vw.extreme.inside (*ℤ_comm (entry w 0) (entry v 0))

  pub together_in : R together
  together_in = (cone.sum together together_cols).1 together_sum

  up_to : (k : ℤ) (x : Row) → Same (times (pos 1) (times k x)) (times k x)
  up_to k x = record { at = λ i. simp (entry-times, ring) }

  back_to : (k : ℤ) (x : Row) → Same (times k x) (times (pos 1) (times k x))
  back_to k x = record { at = λ i. simp (entry-times, ring) }

  pub cone_together : (c : Row) → IsLeastAt n R together c ↔ InBoth n S T v w c
  unfolding together_sum in_joined
  cone_together c = (
    λ k. let b = (cone_at_sum n S T R cone together together_sum together_cols together_point c).0 k in
        record {
          in_first = least_multiple n S cone.first_pointed (times (entry w 0) v) v c (pos 1) (entry w 0) (omega (arith, ints)) vw.point (up_to (entry w 0) v) b.in_first;
          in_second = least_multiple n T cone.second_pointed (times (entry v 0) w) w c (pos 1) (entry v 0) (omega (arith, ints)) vv.point (up_to (entry v 0) w) b.in_second;
        },
    λ b. (cone_at_sum n S T R cone together together_sum together_cols together_point c).1
        record {
          in_first = least_multiple n S cone.first_pointed v (times (entry w 0) v) c (entry w 0) (pos 1) (weaken vw.point) (lt_z_yes tt) (back_to (entry w 0) v) b.in_first;
          in_second = least_multiple n T cone.second_pointed w (times (entry v 0) w) c (entry v 0) (pos 1) (weaken vv.point) (lt_z_yes tt) (back_to (entry v 0) w) b.in_second;
        },
  )
