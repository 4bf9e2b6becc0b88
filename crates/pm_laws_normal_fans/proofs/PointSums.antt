-- Sums of rows by points.
use Rattle.pm_vector.proofs.Ring.{ring}
use Rattle.pm_vector.proofs.RowLaws.{dot-plus, dot-same, dot-nil, dot-times, entry-plus, entry-times, length-plus, length-times}
use Rattle.pm_vector.specs.Rows.{Row, dot, entry, plus, times}
use Rattle.pm_laws_normal_fans.specs.Sums.{IsPointSum, value}
use Rattle.std.proofs.Common.{arith, refl, sym, ap, ◌∙◌}
use Rattle.std.proofs.lemmas.Int.{ints}
use Rattle.std.specs.Prelude.{[], length, ℕ, suc, ◌∷◌, ◌≡◌}
use lib.IntN.{pos, ℤ, ◌*ℤ◌, ◌+ℤ◌}

-- the product with an objective sees what stands after the first entry
pub value-same : (c x y : Row) → ((i : ℕ) → entry x (suc i) ≡ entry y (suc i)) → value c x ≡ value c y
value-same c [] [] e = refl
value-same c [] (b ∷ y) e = let h = dot-same c [] y e in let k = dot-nil c in simp ring (omega (arith, ints))
value-same c (a ∷ x) [] e = let h = dot-same c x [] e in let k = dot-nil c in simp ring (omega (arith, ints))
value-same c (a ∷ x) (b ∷ y) e = let h = dot-same c x y e in simp ring (omega (arith, ints))

pub value-sum : (c u w x : Row) → IsPointSum u w x → value c x ≡ value c u +ℤ value c w
value-sum c u w x s = value-same c x (plus u w) (λ i. s.others i ∙ sym (entry-plus u w (suc i))) ∙ dot-plus (pos 0 ∷ c) u w

pub value-times : (c : Row) (k : ℤ) (x : Row) → value c (times k x) ≡ k *ℤ value c x
value-times c k x = dot-times (pos 0 ∷ c) k x

-- x with the first entry 0
abbrev pub headless : Row → Row
headless [] = []
headless (a ∷ x) = pos 0 ∷ x

entry-headless : (x : Row) (i : ℕ) → entry (headless x) (suc i) ≡ entry x (suc i)
entry-headless [] i = refl
entry-headless (a ∷ x) i = refl

first-headless : (x : Row) → entry (headless x) 0 ≡ pos 0
first-headless [] = refl
first-headless (a ∷ x) = refl

length-headless : (x : Row) → length (headless x) ≡ length x
length-headless [] = refl
length-headless (a ∷ x) = refl

-- the sum by points of k u and l w, where these have one first entry
unfoldable pub joined : ℤ → Row → ℤ → Row → Row
joined k u l w = plus (times k u) (headless (times l w))

pub length-joined : (n : ℕ) (k : ℤ) (u : Row) (l : ℤ) (w : Row) → length u ≡ n → length w ≡ n → length (joined k u l w) ≡ n
unfolding joined
length-joined n k u l w hu hw = length-plus n (times k u) (headless (times l w)) (length-times k u ∙ hu) (length-headless (times l w) ∙ length-times l w ∙ hw)

pub first-joined : (k : ℤ) (u : Row) (l : ℤ) (w : Row) → entry (joined k u l w) 0 ≡ k *ℤ entry u 0
unfolding joined
first-joined k u l w = entry-plus (times k u) (headless (times l w)) 0 ∙ ap (λ z. entry (times k u) 0 +ℤ z) (first-headless (times l w)) ∙ (let h = entry-times k u 0 in omega (arith, ints))

pub others-joined : (k : ℤ) (u : Row) (l : ℤ) (w : Row) (i : ℕ) → entry (joined k u l w) (suc i) ≡ k *ℤ entry u (suc i) +ℤ l *ℤ entry w (suc i)
unfolding joined
others-joined k u l w i = entry-plus (times k u) (headless (times l w)) (suc i) ∙ ap (λ z. entry (times k u) (suc i) +ℤ z) (entry-headless (times l w) i ∙ entry-times l w (suc i)) ∙ ap (λ z. z +ℤ l *ℤ entry w (suc i)) (entry-times k u (suc i))

pub value-joined : (c : Row) (k : ℤ) (u : Row) (l : ℤ) (w : Row) → value c (joined k u l w) ≡ k *ℤ value c u +ℤ l *ℤ value c w
value-joined c k u l w = value-same c (joined k u l w) (plus (times k u) (times l w)) (λ i. let h = others-joined k u l w i in simp (entry-plus, entry-times, h)) ∙ dot-plus (pos 0 ∷ c) (times k u) (times l w) ∙ ap (λ z. z +ℤ dot (pos 0 ∷ c) (times l w)) (value-times c k u) ∙ ap (λ z. k *ℤ value c u +ℤ z) (value-times c l w)
