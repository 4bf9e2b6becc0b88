-- One more generator v: the rows x of which some p x - q v with p > 0 and q >= 0 is in a set that finitely many rows cut out are cut out by finitely many rows.
use Rattle.pm_vector.proofs.ConeLaws.{After}
use Rattle.pm_vector.proofs.Lists.{Among, all_at, all_from, here, there}
use Rattle.pm_vector.proofs.Ring.{ring}
use Rattle.pm_vector.proofs.RowLaws.{dot-difference, length-difference, length-plus, length-times, plus-dot, times-dot}
use Rattle.pm_vector.proofs.Signs.{mul_nonneg, nonneg_cancel}
use Rattle.pm_vector.specs.Rows.{Row, difference, dot, plus, times}
use Rattle.pm_geom.proofs.Cuts.{CutBy, cut_as, cut_both, cut_each, cut_if, cut_one}
use Rattle.pm_geom.specs.Cones.{CutOut}
use Rattle.std.proofs.Common.{arith, inl, inr, refl, ◌∙◌}
use Rattle.std.proofs.lemmas.Int.{by_lt_z, ints}
use Rattle.std.specs.List.{AllByRecursion}
use Rattle.std.specs.Prelude.{List, [], length, ℕ, ◌∷◌, ◌≡◌, ◌⊎◌}
use lib.IntN.{neg_ℤ, pos, ℤ, ◌*ℤ◌, ◌-ℤ◌}
use lib.Signed.{lt_z_yes, ◌<ℤ◌, ◌≤ℤ◌}

-- the greatest q/p at which some row that is negative on v still allows p x - q v, or 0
pub record Best (v x : Row) (B : List Row) : Type 0 where
  pub p : ℤ
  pub q : ℤ
  pub positive : pos 0 <ℤ p
  pub not_negative : pos 0 ≤ℤ q
  pub allows : (b : Row) → Among b B → dot b v <ℤ pos 0 → pos 0 ≤ℤ (p *ℤ dot b x -ℤ q *ℤ dot b v)
  pub from : (p ≡ pos 1) × (q ≡ pos 0) ⊎ ((b : Row) × Among b B × (dot b v <ℤ pos 0) × (p ≡ neg_ℤ (dot b v)) × (q ≡ neg_ℤ (dot b x)))

module _ (v x : Row) (b : Row) (B : List Row) (r : Best v x B) where
  kept : (dot b v <ℤ pos 0 → pos 0 ≤ℤ (r.p *ℤ dot b x -ℤ r.q *ℤ dot b v)) → Best v x (b ∷ B)
  kept h = record {
    p = r.p;
    q = r.q;
    positive = r.positive;
    not_negative = r.not_negative;
    allows = allowed;
    from = elim r.from [ inl e ↦ inl e | inr w ↦ inr (w.0, there w.1, w.2, w.3, w.4) ];
  }
    where
      allowed : (c : Row) → Among c (b ∷ B) → dot c v <ℤ pos 0 → pos 0 ≤ℤ (r.p *ℤ dot c x -ℤ r.q *ℤ dot c v)
      allowed c here = h
      allowed c (there i) = r.allows c i

  -- -t/-s is above q/p, so that what q/p allows, with a negative product u with v, it allows too
  raised : (p q s t u w : ℤ) → pos 0 <ℤ p → s <ℤ pos 0 → (p *ℤ t -ℤ q *ℤ s) <ℤ pos 0 → u <ℤ pos 0 → pos 0 ≤ℤ (p *ℤ w -ℤ q *ℤ u) → pos 0 ≤ℤ (neg_ℤ s *ℤ w -ℤ neg_ℤ t *ℤ u)
  raised p q s t u w hp hs ht hu hw =
      let a : pos 0 ≤ℤ neg_ℤ s = omega (arith, ints) in
      let b1 : pos 0 ≤ℤ neg_ℤ u = omega (arith, ints) in
      let c : pos 0 ≤ℤ neg_ℤ (p *ℤ t -ℤ q *ℤ s) = omega (arith, ints) in
      let d = simp ring at (mul_nonneg a hw) in
      let e = simp ring at (mul_nonneg b1 c) in
      nonneg_cancel hp (simp ring (omega (arith, ints)))

  fallen : (p q s t : ℤ) → pos 0 <ℤ p → pos 0 ≤ℤ q → s <ℤ pos 0 → (p *ℤ t -ℤ q *ℤ s) <ℤ pos 0 → pos 0 ≤ℤ neg_ℤ t
  fallen p q s t hp hq hs ht =
      let a : pos 0 ≤ℤ neg_ℤ s = omega (arith, ints) in
      let d = simp ring at (mul_nonneg hq a) in
      nonneg_cancel hp (simp ring (omega (arith, ints)))

  changed : dot b v <ℤ pos 0 → (r.p *ℤ dot b x -ℤ r.q *ℤ dot b v) <ℤ pos 0 → Best v x (b ∷ B)
  changed h k = record {
    p = neg_ℤ (dot b v);
    q = neg_ℤ (dot b x);
    positive = omega (arith, ints);
    not_negative = fallen r.p r.q (dot b v) (dot b x) r.positive r.not_negative h k;
    allows = allowed;
    from = inr (b, here, h, refl, refl);
  }
    where
      allowed : (c : Row) → Among c (b ∷ B) → dot c v <ℤ pos 0 → pos 0 ≤ℤ (neg_ℤ (dot b v) *ℤ dot c x -ℤ neg_ℤ (dot b x) *ℤ dot c v)
      allowed c here n = simp ring (omega (arith, ints))
      allowed c (there i) n = raised r.p r.q (dot b v) (dot b x) (dot c v) (dot c x) r.positive h k n (r.allows c i n)

pub best : (v x : Row) (B : List Row) → Best v x B
best v x [] = record {
  p = pos 1;
  q = pos 0;
  positive = lt_z_yes tt;
  not_negative = omega (arith, ints);
  allows = λ b i. elim i [ ];
  from = inl (refl, refl);
}
best v x (b ∷ B) =
    let r = best v x B in
    by_lt_z (dot b v) (pos 0)
    (λ h. by_lt_z (r.p *ℤ dot b x -ℤ r.q *ℤ dot b v) (pos 0) (λ k. changed v x b B r h k) (λ k. kept v x b B r (λ h2. k)))
    (λ h. kept v x b B r (λ h2. omega (arith, ints)))

-- the row of b and c that vanishes on v
cross : Row → Row → Row → Row
cross v b c = plus (times (dot b v) c) (times (neg_ℤ (dot c v)) b)

dot-cross : (v b c x : Row) → dot (cross v b c) x ≡ dot b v *ℤ dot c x -ℤ dot c v *ℤ dot b x
unfolding cross
dot-cross v b c x = simp (plus-dot, times-dot, ring)

length-cross : (n : ℕ) (v b c : Row) → length b ≡ n → length c ≡ n → length (cross v b c) ≡ n
unfolding cross
length-cross n v b c h k = length-plus n (times (dot b v) c) (times (neg_ℤ (dot c v)) b) (length-times (dot b v) c ∙ k) (length-times (neg_ℤ (dot c v)) b ∙ h)

KeptRow : Row → Row → Row → Type 0
KeptRow v b x = pos 0 ≤ℤ dot b v → pos 0 ≤ℤ dot b x

CrossRow : Row → Row → Row → Row → Type 0
CrossRow v b c x = (pos 0 <ℤ dot b v) × (dot c v <ℤ pos 0) → pos 0 ≤ℤ dot (cross v b c) x

decide_kept : (v b : Row) → (pos 0 ≤ℤ dot b v) ⊎ ¬ (pos 0 ≤ℤ dot b v)
decide_kept v b = by_lt_z (dot b v) (pos 0) (λ h. inr (λ k. omega (arith, ints))) (λ h. inl h)

decide_cross : (v b c : Row) → ((pos 0 <ℤ dot b v) × (dot c v <ℤ pos 0)) ⊎ ¬ ((pos 0 <ℤ dot b v) × (dot c v <ℤ pos 0))
decide_cross v b c = by_lt_z (pos 0) (dot b v) (λ h. by_lt_z (dot c v) (pos 0) (λ k. inl (h, k)) (λ k. inr (λ w. omega (arith, ints, w.1)))) (λ h. inr (λ w. omega (arith, ints, w.0)))

pub kept_holds : (p q bv bx : ℤ) → pos 0 <ℤ p → pos 0 ≤ℤ q → pos 0 ≤ℤ (p *ℤ bx -ℤ q *ℤ bv) → pos 0 ≤ℤ bv → pos 0 ≤ℤ bx
kept_holds p q bv bx hp hq h k = let a = mul_nonneg hq k in nonneg_cancel hp (omega (arith, ints))

cross_holds : (p q bv bx cv cx : ℤ) → pos 0 <ℤ p → pos 0 ≤ℤ q → pos 0 ≤ℤ (p *ℤ bx -ℤ q *ℤ bv) → pos 0 ≤ℤ (p *ℤ cx -ℤ q *ℤ cv) → pos 0 <ℤ bv → cv <ℤ pos 0 → pos 0 ≤ℤ (bv *ℤ cx -ℤ cv *ℤ bx)
cross_holds p q bv bx cv cx hp hq hb hc kb kc =
    let b0 : pos 0 ≤ℤ bv = omega (arith, ints) in
    let c0 : pos 0 ≤ℤ neg_ℤ cv = omega (arith, ints) in
    let d = simp ring at (mul_nonneg b0 hc) in
    let e = simp ring at (mul_nonneg c0 hb) in
    nonneg_cancel hp (simp ring (omega (arith, ints)))

fits_at_zero : (p q bv bx : ℤ) → p ≡ pos 1 → q ≡ pos 0 → pos 0 ≤ℤ bx → pos 0 ≤ℤ (p *ℤ bx -ℤ q *ℤ bv)
fits_at_zero p q bv bx ep eq h = simp (ep, eq, ring) (omega (arith, ints))

fits_at : (p q bv bx cv cx : ℤ) → p ≡ neg_ℤ cv → q ≡ neg_ℤ cx → cv <ℤ pos 0 → pos 0 ≤ℤ bv → pos 0 ≤ℤ bx → (pos 0 <ℤ bv → pos 0 ≤ℤ (bv *ℤ cx -ℤ cv *ℤ bx)) → pos 0 ≤ℤ (p *ℤ bx -ℤ q *ℤ bv)
fits_at p q bv bx cv cx ep eq hc hb hx hcross =
    by_lt_z (pos 0) bv
    (λ h. let c = simp ring at (hcross h) in simp (ep, eq, ring) (omega (arith, ints)))
    (λ h. let z : bv ≡ pos 0 = omega (arith, ints) in
    let n : pos 0 ≤ℤ neg_ℤ cv = omega (arith, ints) in
    let a = simp ring at (mul_nonneg n hx) in
    simp (ep, eq, z, ring) (omega (arith, ints)))

pub cut_after : {n : ℕ} {S : Row → Type 0} → CutBy n S → (v : Row) → length v ≡ n → CutBy n (After S v)
unfolding KeptRow CrossRow
cut_after {n} {S} s v lv =
    cut_as (After S v) to_parts from_parts
    (cut_both
    (cut_each (KeptRow v) B (λ b i. cut_if (pos 0 ≤ℤ dot b v) (decide_kept v b) (cut_one b (cols b i))))
    (cut_each (λ b x. AllByRecursion (λ c. CrossRow v b c x) B) B
    (λ b i. cut_each (CrossRow v b) B
    (λ c j. cut_if ((pos 0 <ℤ dot b v) × (dot c v <ℤ pos 0)) (decide_cross v b c) (cut_one (cross v b c) (length-cross n v b c (cols b i) (cols c j)))))))
  where
    B : List Row
    B = s.rows

    cols : (b : Row) → Among b B → length b ≡ n
    cols b i = all_at (λ (c : Row). length c ≡ n) i s.cols

    Parts : Row → Type 0
    Parts x = AllByRecursion (λ b. KeptRow v b x) B × AllByRecursion (λ b. AllByRecursion (λ c. CrossRow v b c x) B) B

    to_parts : (x : Row) → length x ≡ n → After S v x → Parts x
    to_parts x lx a =
        let h : CutOut B (difference a.p x a.q v) = s.valid (difference a.p x a.q v) (length-difference n a.p x a.q v lx lv) a.rest in
        let at : (b : Row) → Among b B → pos 0 ≤ℤ (a.p *ℤ dot b x -ℤ a.q *ℤ dot b v) = λ b i. rw dot-difference at (all_at (λ (c : Row). pos 0 ≤ℤ dot c (difference a.p x a.q v)) i h) in (
          all_from (λ b. KeptRow v b x) B (λ b i k. kept_holds a.p a.q (dot b v) (dot b x) a.positive a.not_negative (at b i) k),
          all_from (λ b. AllByRecursion (λ c. CrossRow v b c x) B) B (λ b i. all_from (λ c. CrossRow v b c x) B (λ c j w. rw dot-cross (cross_holds a.p a.q (dot b v) (dot b x) (dot c v) (dot c x) a.positive a.not_negative (at b i) (at c j) w.0 w.1))),
        )

    from_parts : (x : Row) → length x ≡ n → Parts x → After S v x
    from_parts x lx parts =
        let r = best v x B in
        let kept_at : (b : Row) → Among b B → KeptRow v b x = λ b i. all_at (λ c. KeptRow v c x) i parts.0 in
        let cross_at : (b : Row) → Among b B → (c : Row) → Among c B → CrossRow v b c x = λ b i c j. all_at (λ d. CrossRow v b d x) j (all_at (λ d. AllByRecursion (λ c. CrossRow v d c x) B) i parts.1) in
        let fits : (b : Row) → Among b B → pos 0 ≤ℤ (r.p *ℤ dot b x -ℤ r.q *ℤ dot b v) = λ b i.
        by_lt_z (dot b v) (pos 0) (λ h. r.allows b i h) (λ h. elim r.from [ inl e ↦ fits_at_zero r.p r.q (dot b v) (dot b x) e.0 e.1 (kept_at b i h) | inr w ↦ fits_at r.p r.q (dot b v) (dot b x) (dot w.0 v) (dot w.0 x) w.3 w.4 w.2 h (kept_at b i h) (λ k. rw dot-cross at (cross_at b i w.0 w.1 (k, w.2))) ]) in
        record {
          p = r.p;
          q = r.q;
          positive = r.positive;
          not_negative = r.not_negative;
          rest = s.enough (difference r.p x r.q v) (length-difference n r.p x r.q v lx lv) (all_from (λ c. pos 0 ≤ℤ dot c (difference r.p x r.q v)) B (λ b i. rw dot-difference (fits b i)));
        }
