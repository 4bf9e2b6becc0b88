-- Why one value of a point and of multipliers, over scales of their own, is an optimum.
use Rattle.pm_dual.proofs.Optimum.{optimum_is}
use Rattle.pm_dual.specs.Quotients.{AreQuotients}
use Rattle.pm_fraction.specs.Fractions.{IsLowestTermsOf, ratio_of}
use Rattle.pm_geom.specs.Programs.{IsOptimal, IsTimes, Solves}
use Rattle.pm_vector.proofs.ConeLaws.{combination-times}
use Rattle.pm_vector.proofs.Ring.{ring}
use Rattle.pm_vector.proofs.RowLaws.{dot-times, entry-plus, entry-times, length-times}
use Rattle.pm_vector.proofs.Signs.{mul_cancel, mul_nonneg, mul_pos, pos_cancel, weaken}
use Rattle.pm_vector.specs.Cones.{combination}
use Rattle.pm_vector.specs.Numbers.{Ratio}
use Rattle.pm_vector.specs.Rows.{Row, Same, dot, entry, plus, times}
use Rattle.pm_vector.specs.WideInts.{value_of}
use Rattle.pm_vector.specs.declared.wide_int.WideInt.{WideInt}
use Rattle.pm_wide_programs.proofs.ValueRows.{value_at}
use Rattle.pm_wide_programs.proofs.WholeQuotients.{lowest_times, quotients_times}
use Rattle.pm_wide_programs.specs.CommonValues.{IsCommonValue}
use Rattle.pm_wide_programs.specs.Values.{values}
use Rattle.std.proofs.Common.{ap, ap₂, get_or, refl, subst, sym, ◌∙◌}
use Rattle.std.proofs.lemmas.Bool.{and_parts}
use Rattle.std.proofs.lemmas.Bool.Decides.{Decides-int_eq}
use Rattle.std.specs.List.{AllByRecursion}
use Rattle.std.specs.Ordering.{int_eq}
use Rattle.std.specs.Prelude.{List, true, ◌&&◌, [], length, suc, zero, ℕ, ◌+◌, ◌++◌, ◌<◌, ◌∷◌, ◌≡◌}
use lib.IntN.{pos, ℤ, ◌*ℤ◌, ◌+ℤ◌}
use lib.Signed.{◌<ℤ◌, ◌≤ℤ◌}

-- ---- multiples of a point
ups : (t : ℤ) (A : List Row) (x : Row) → pos 0 ≤ℤ t → AllByRecursion (λ a. pos 0 ≤ℤ dot a x) A → AllByRecursion (λ a. pos 0 ≤ℤ dot a (times t x)) A
ups t [] x h k = tt
ups t (a ∷ A) x h k = (subst (λ z. pos 0 ≤ℤ z) (sym (dot-times a t x)) (mul_nonneg h k.0), ups t A x h k.1)

levels : (t : ℤ) (B : List Row) (x : Row) → AllByRecursion (λ b. dot b x ≡ pos 0) B → AllByRecursion (λ b. dot b (times t x) ≡ pos 0) B
levels t [] x k = tt
levels t (b ∷ B) x k = (dot-times b t x ∙ ap (λ z. t *ℤ z) k.0 ∙ none, levels t B x k.1)
  where
    none : t *ℤ pos 0 ≡ pos 0
    none = simp ring

solves_times : (t : ℤ) (A B : List Row) (x : Row) → pos 0 ≤ℤ t → Solves A B x → Solves A B (times t x)
solves_times t A B x h s = record { inequalities = ups t A x h s.inequalities; equations = levels t B x s.equations }

-- ---- over both scales
-- the constant over one scale is the value over the other
same_value : (u d k p q n m : ℤ) → pos 0 <ℤ q → pos 0 <ℤ k → p *ℤ (u *ℤ k) ≡ n *ℤ q → p *ℤ (d *ℤ k) ≡ m *ℤ q → u *ℤ m ≡ d *ℤ n
same_value u d k p q n m hq hk e f = mul_cancel hq (left ∙ ap (λ z. u *ℤ z) (sym f) ∙ middle ∙ ap (λ z. d *ℤ z) e ∙ right)
  where
    left : q *ℤ (u *ℤ m) ≡ u *ℤ (m *ℤ q)
    left = simp ring

    middle : u *ℤ (p *ℤ (d *ℤ k)) ≡ d *ℤ (p *ℤ (u *ℤ k))
    middle = simp ring

    right : d *ℤ (n *ℤ q) ≡ q *ℤ (d *ℤ n)
    right = simp ring

pub common_optimum : (A B : List Row) (c : List Ratio) (k : ℤ) (X U : Row) (d : ℤ) (Y : Row) (v : Ratio) (p y : List Ratio) → IsTimes k c X → length U ≡ length c → 0 < length c → Solves A B U
    → length Y ≡ length A + length B → ((i : ℕ) → i < length A → pos 0 ≤ℤ entry Y i) → IsCommonValue A B k X U d Y v → AreQuotients U (entry U 0) p → AreQuotients Y (d *ℤ k) y → IsOptimal A B c v p y
common_optimum A B c k X U d Y v p y tc nU some sol nY up shown lp ly =
    optimum_is A B c k X (times d U) (times u Y) (times (d *ℤ u) X) (d *ℤ u) v p y tc (length-times d U ∙ nU) some (entry-times d U 0) both_up (solves_times d A B U (weaken d_up) sol)
    (length-times u Y ∙ nY) (λ i l. subst (λ z. pos 0 ≤ℤ z) (sym (entry-times u Y i)) (mul_nonneg (weaken u_up) (up i l))) (record { at = λ i. refl })
    (record { at = sums })
    (subst (λ z. IsLowestTermsOf (ratio_of (dot X (times d U)) z) v) regroup_value (subst (λ z. IsLowestTermsOf (ratio_of z (d *ℤ (u *ℤ k))) v) (sym (dot-times X d U)) (lowest_times d (dot X U) (u *ℤ k) v (mul_pos d_up shown.first) shown.value)))
    (quotients_times d u U p both_up lp)
    (subst (λ z. AreQuotients (times u Y) z y) regroup (quotients_times u (d *ℤ k) Y y (mul_pos u_up shown.scale) ly))
  where
    u : ℤ
    u = entry U 0

    turn : (a b : ℤ) → a *ℤ b ≡ b *ℤ a
    turn a b = simp ring

    u_up : pos 0 <ℤ u
    u_up = pos_cancel tc.positive (subst (λ z. pos 0 <ℤ z) (turn u k) shown.first)

    d_up : pos 0 <ℤ d
    d_up = pos_cancel tc.positive (subst (λ z. pos 0 <ℤ z) (turn d k) shown.scale)

    both_up : pos 0 <ℤ (d *ℤ u)
    both_up = mul_pos d_up u_up

    regroup : u *ℤ (d *ℤ k) ≡ (d *ℤ u) *ℤ k
    regroup = simp ring

    regroup_value : d *ℤ (u *ℤ k) ≡ (d *ℤ u) *ℤ k
    regroup_value = simp ring

    at_start : u *ℤ shown.constant ≡ dot X (times d U)
    at_start = same_value u d k v.num v.den (dot X U) shown.constant shown.value.reduced.positive tc.positive shown.value.same shown.bound.same ∙ sym (dot-times X d U)

    scaled : (i : ℕ) → u *ℤ entry (shown.constant ∷ []) i ≡ entry (plus (times (d *ℤ u) X) (combination (times u Y) (A ++ B))) i
    scaled i =
        ap (λ z. u *ℤ z) (shown.sum.at i ∙ entry-plus (times d X) (combination Y (A ++ B)) i ∙ ap (λ z. z +ℤ entry (combination Y (A ++ B)) i) (entry-times d X i))
        ∙ spread (entry X i) (entry (combination Y (A ++ B)) i)
        ∙ sym (entry-plus (times (d *ℤ u) X) (combination (times u Y) (A ++ B)) i ∙ ap (λ z. z +ℤ entry (combination (times u Y) (A ++ B)) i) (entry-times (d *ℤ u) X i)
        ∙ ap (λ z. (d *ℤ u) *ℤ entry X i +ℤ z) (combination-times u Y (A ++ B) i))
      where
        spread : (x s : ℤ) → u *ℤ (d *ℤ x +ℤ s) ≡ (d *ℤ u) *ℤ x +ℤ u *ℤ s
        spread x s = simp ring

    sums : (i : ℕ) → entry (dot X (times d U) ∷ []) i ≡ entry (plus (times (d *ℤ u) X) (combination (times u Y) (A ++ B))) i
    sums zero = sym at_start ∙ scaled 0
    sums (suc i) = none ∙ scaled (suc i)
      where
        none : pos 0 ≡ u *ℤ pos 0
        none = simp ring

-- ---- as they are made
pub first_times : (x : List WideInt) (d : WideInt) (f t k : ℤ) → 0 < length x → f ≡ value_of (get_or x 0 d) *ℤ t → t ≡ k → f ≡ entry (values x) 0 *ℤ k
first_times x d f t k l e h = e ∙ ap (λ z. value_of (get_or x 0 d) *ℤ z) h ∙ ap (λ z. z *ℤ k) (sym (value_at x 0 d l))

pub common_is : (A B : List Row) (k : ℤ) (X U : Row) (d : ℤ) (Y : Row) (v w : Ratio) (s t f m : ℤ) → m ≡ d *ℤ k → f ≡ entry U 0 *ℤ k → t ≡ dot X U → v ≡ w → pos 0 <ℤ f → IsLowestTermsOf (ratio_of t f) v → pos 0 <ℤ m → IsLowestTermsOf (ratio_of s m) w
    → Same (s ∷ []) (plus (times d X) (combination Y (A ++ B))) → IsCommonValue A B k X U d Y v
common_is A B k X U d Y v w s t f m em ef et ev hf lv hm lw sum = record {
  first = subst (λ z. pos 0 <ℤ z) ef hf;
  value = subst (λ z. IsLowestTermsOf (ratio_of z (entry U 0 *ℤ k)) v) et (subst (λ z. IsLowestTermsOf (ratio_of t z) v) ef lv);
  scale = subst (λ z. pos 0 <ℤ z) em hm;
  constant = s;
  bound = subst (λ z. IsLowestTermsOf (ratio_of s z) v) em (subst (λ (r : Ratio). IsLowestTermsOf (ratio_of s m) r) (sym ev) lw);
  sum = sum;
}

pub none_times : (z : ℤ) (x : Row) → z ≡ pos 0 → (i : ℕ) → entry (times z x) i ≡ pos 0
none_times z x e i = entry-times z x i ∙ ap (λ y. y *ℤ entry x i) e ∙ none (entry x i)
  where
    none : (y : ℤ) → pos 0 *ℤ y ≡ pos 0
    none y = simp ring

-- fractions that are found equal
pub ratio_same : (a b : Ratio) → true ≡ int_eq a.num b.num && int_eq a.den b.den → a ≡ b
ratio_same a b h =
    let both = and_parts (int_eq a.num b.num) (int_eq a.den b.den) (sym h) in
    ap₂ ratio_of ((Decides-int_eq a.num b.num).0 both.0) ((Decides-int_eq a.den b.den).0 both.1)
