-- Lists of rows, place by place.
use Rattle.pm_vector.proofs.Ring.{ring}
use Rattle.pm_vector.proofs.RowLaws.{entry-difference, entry-plus, entry-times}
use Rattle.pm_vector.specs.Cones.{combination}
use Rattle.pm_vector.specs.Numbers.{Ratio}
use Rattle.pm_vector.specs.Rows.{Row, Same, difference, entry, plus, ratio_at, times}
use Rattle.pm_vector.specs.Bases.{row_at}
use Rattle.pm_fraction.specs.Fractions.{IsLowestTermsOf, ratio_of}
use Rattle.std.proofs.Common.{ap, arith, below_more, refl, subst, sym, take, drop, ◌∙◌}
use Rattle.std.proofs.lemmas.Int.{ints, to_z-of_z}
use Rattle.std.proofs.lemmas.List.{get_or_append_left, get_or_push}
use Rattle.std.specs.List.{AllByRecursion}
use Rattle.std.specs.Prelude.{List, [], length, suc, zero, ℕ, ◌+◌, ◌++◌, ◌<◌, ◌∷◌, ◌≡◌, ◌≤◌}
use lib.IntN.{neg_ℤ, pos, ℤ, ◌*ℤ◌, ◌+ℤ◌, ◌-ℤ◌}
use mir.Syntax.{w128}
use mir.Val.{SFits, of_z, to_z}

pub all_places : (P : Row → Type 0) (X : List Row) → ((i : ℕ) → i < length X → P (row_at X i)) → AllByRecursion P X
all_places P [] f = tt
all_places P (x ∷ X) f = (f 0 (omega arith), all_places P X (λ i l. f (suc i) (omega arith)))

-- ---- sums
pub row_added : (s s' a : Row) (t o : ℤ) → s' ≡ difference (pos 1) s o a → o ≡ neg_ℤ t → Same s' (plus s (times t a))
row_added s s' a t o e f = record { at = λ i. ap (λ x. entry x i) e ∙ entry-difference (pos 1) s o a i ∙ ap (λ z. pos 1 *ℤ entry s i -ℤ z *ℤ entry a i) f ∙ (simp (entry-plus, entry-times, ring) (omega (arith, ints))) }

-- a number that is read back is the same
pub opposite_read : (t o : ℤ) → SFits w128 t → SFits w128 (neg_ℤ (to_z w128 (of_z w128 t))) × (o ≡ neg_ℤ (to_z w128 (of_z w128 t))) → to_z w128 (of_z w128 o) ≡ neg_ℤ t
opposite_read t o f h = ap (λ z. to_z w128 (of_z w128 z)) h.1 ∙ to_z-of_z w128 (neg_ℤ (to_z w128 (of_z w128 t))) h.0 ∙ ap neg_ℤ (to_z-of_z w128 t f)

pub sum_step : (s s' a rest T : Row) (t : ℤ) → Same s' (plus s (times t a)) → Same (plus s (plus (times t a) rest)) T → Same (plus s' rest) T
sum_step s s' a rest T t h k = record { at = λ i. (let p = h.at i in let q = k.at i in simp (entry-plus, entry-times) (let p' = simp (entry-plus, entry-times) at p in let q' = simp (entry-plus, entry-times) at q in omega (arith, ints))) }

pub drop_row : (c : Row) (X : List Row) (i : ℕ) → i < length c → i < length X → combination (drop i c) (drop i X) ≡ plus (times (entry c i) (row_at X i)) (combination (drop (suc i) c) (drop (suc i) X))
drop_row [] X i l m = absurd (omega arith)
drop_row (k ∷ c) [] i l m = absurd (omega arith)
drop_row (k ∷ c) (x ∷ X) zero l m = refl
drop_row (k ∷ c) (x ∷ X) (suc i) l m = drop_row c X i (omega arith) (omega arith)

no_rows : (c : Row) → combination c [] ≡ []
no_rows [] = refl
no_rows (k ∷ c) = refl

pub drop_all : (c : Row) (X : List Row) (i : ℕ) → length c ≤ i → combination (drop i c) (drop i X) ≡ []
drop_all [] X zero l = refl
drop_all [] X (suc i) l = refl
drop_all (k ∷ c) X zero l = absurd (omega arith)
drop_all (k ∷ c) [] (suc i) l = no_rows (drop i c)
drop_all (k ∷ c) (x ∷ X) (suc i) l = drop_all c X i (omega arith)

pub end_sum : (s T c : Row) (X : List Row) (i : ℕ) → length c ≤ i → Same (plus s (combination (drop i c) (drop i X))) T → Same s T
end_sum s T c X i l h = record { at = λ v. sym (entry-plus s (combination (drop i c) (drop i X)) v ∙ ap (λ t. entry s v +ℤ t) (ap (λ r. entry r v) (drop_all c X i l)) ∙ none (entry s v)) ∙ h.at v }
  where
    none : (a : ℤ) → a +ℤ pos 0 ≡ a
    none a = omega (arith, ints)

pub next_sum : (s s' T c : Row) (X : List Row) (i : ℕ) → i < length c → i < length X → Same s' (plus s (times (entry c i) (row_at X i))) → Same (plus s (combination (drop i c) (drop i X))) T → Same (plus s' (combination (drop (i + 1) c) (drop (i + 1) X))) T
next_sum s s' T c X i l m h k =
    subst (λ n. Same (plus s' (combination (drop n c) (drop n X))) T) (let e : suc i ≡ i + 1 = omega arith in e)
    (sum_step s s' (row_at X i) (combination (drop (suc i) c) (drop (suc i) X)) T (entry c i) h (subst (λ r. Same (plus s r) T) (drop_row c X i l m) k))

-- the sum over two lists of rows
pub combination_append : (c : Row) (A B : List Row) (i : ℕ) → length A ≤ length c → entry (combination c (A ++ B)) i ≡ entry (combination (take (length A) c) A) i +ℤ entry (combination (drop (length A) c) B) i
combination_append c [] B i l = sym (zero_plus (entry (combination c B) i))
  where
    zero_plus : (a : ℤ) → pos 0 +ℤ a ≡ a
    zero_plus a = omega (arith, ints)
combination_append [] (a ∷ A) B i l = absurd (omega arith)
combination_append (k ∷ c) (a ∷ A) B i l =
    let r = combination_append c A B i (omega arith) in
    joined (entry (times k a) i) (entry (combination c (A ++ B)) i) _ _ (entry-plus (times k a) (combination c (A ++ B)) i) (entry-plus (times k a) (combination (take (length A) c) A) i) r
  where
    joined : (t u v w : ℤ) {s s' : ℤ} → s ≡ t +ℤ u → s' ≡ t +ℤ v → u ≡ v +ℤ w → s ≡ s' +ℤ w
    joined t u v w e f g = omega (arith, ints)

pub all_sum : (s r t c f g : Row) (A B : List Row) → f ≡ take (length A) c → g ≡ drop (length A) c → length A ≤ length c → Same r (plus s (combination f A)) → Same t (plus r (combination g B)) → Same t (plus s (combination c (A ++ B)))
all_sum s r t c f g A B ef eg l h k = record {
  at = λ i.
      let p = h.at i ∙ entry-plus s (combination f A) i ∙ ap (λ x. entry s i +ℤ entry (combination x A) i) ef in
      let q = k.at i ∙ entry-plus r (combination g B) i ∙ ap (λ x. entry r i +ℤ entry (combination x B) i) eg in
      q ∙ ap (λ z. z +ℤ entry (combination (drop (length A) c) B) i) p ∙ sum3 (entry s i) _ _ ∙ ap (λ z. entry s i +ℤ z) (sym (combination_append c A B i l)) ∙ sym (entry-plus s (combination c (A ++ B)) i);
}
  where
    sum3 : (a b d : ℤ) → (a +ℤ b) +ℤ d ≡ a +ℤ (b +ℤ d)
    sum3 a b d = omega (arith, ints)

-- ---- quotients
pub quotients_more : (x : Row) (d : ℤ) (v w : List Ratio) (r : Ratio) (n : ℕ) → length v ≡ n → ((k : ℕ) → k < n → IsLowestTermsOf (ratio_of (entry x k) d) (ratio_at v k)) → w ≡ v ++ r ∷ [] → IsLowestTermsOf (ratio_of (entry x n) d) r
    → (k : ℕ) → k < n + 1 → IsLowestTermsOf (ratio_of (entry x k) d) (ratio_at w k)
quotients_more x d v w r n l h e p =
    below_more (λ k. IsLowestTermsOf (ratio_of (entry x k) d) (ratio_at w k)) n
    (λ k lk. let in_v : k < length v = omega arith in moved k (subst (λ z. IsLowestTermsOf (ratio_of (entry x k) d) z) (sym (get_or_append_left v (r ∷ []) _ k in_v)) (h k lk)))
    (moved n (subst (λ z. IsLowestTermsOf (ratio_of (entry x n) d) z) (sym (get_or_push v r _ n l)) p))
  where
    moved : (k : ℕ) → IsLowestTermsOf (ratio_of (entry x k) d) (ratio_at (v ++ r ∷ []) k) → IsLowestTermsOf (ratio_of (entry x k) d) (ratio_at w k)
    moved k q = subst (λ zs. IsLowestTermsOf (ratio_of (entry x k) d) (ratio_at zs k)) (sym e) q

-- a row taken p times, by a difference
pub taken_times : (r m row : Row) (p q n : ℤ) → r ≡ difference p m q row → m ≡ row → q ≡ pos 0 → p ≡ n → Same r (times n row)
taken_times r m row p q n e f g h = record { at = λ i. ap (λ x. entry x i) e ∙ entry-difference p m q row i ∙ joined (entry m i) (entry row i) (ap (λ x. entry x i) f) ∙ sym (entry-times n row i) }
  where
    joined : (a b : ℤ) → a ≡ b → p *ℤ a -ℤ q *ℤ b ≡ n *ℤ b
    joined a b k = ap (λ z. p *ℤ z -ℤ q *ℤ b) k ∙ ap (λ z. z *ℤ b -ℤ q *ℤ b) h ∙ ap (λ z. n *ℤ b -ℤ z *ℤ b) g ∙ (simp ring (omega (arith, ints)))
