-- Sums, multiples and products of rows. A missing entry is 0, so no law has a premise on lengths.
use Rattle.pm_vector.proofs.Ring.{neg_one_mul, ring}
use Rattle.pm_vector.specs.Rows.{Row, Same, difference, dot, entry, opposite, plus, times}
use Rattle.std.proofs.Common.{ap, arith, refl, replicate, sym, ◌∙◌}
use Rattle.std.proofs.lemmas.Int.{ints}
use Rattle.std.proofs.lemmas.List.{ext_get_or, length-replicate}
use Rattle.std.specs.Prelude.{[], length, suc, zero, ℕ, ◌∷◌, ◌≡◌}
use lib.IntN.{*ℤ-zero, *ℤ_comm, neg_ℤ, negsuc, pos, ℤ, ◌*ℤ◌, ◌+ℤ◌, ◌-ℤ◌}

pub dot_comm : (a x : Row) → dot a x ≡ dot x a
dot_comm [] [] = refl
dot_comm [] (b ∷ x) = refl
dot_comm (b ∷ x) [] = refl
dot_comm (a ∷ x) (b ∷ y) = let h = dot_comm x y in omega (arith, ints, *ℤ_comm a b)

pub dot-nil : (a : Row) → dot a [] ≡ pos 0
dot-nil [] = refl
dot-nil (a ∷ x) = refl

pub dot-plus : (a x y : Row) → dot a (plus x y) ≡ dot a x +ℤ dot a y
dot-plus [] x y = refl
dot-plus (a ∷ as') [] y = omega (arith, ints)
dot-plus (a ∷ as') (b ∷ x) [] = omega (arith, ints)
dot-plus (a ∷ as') (b ∷ x) (c ∷ y) = let h = dot-plus as' x y in simp (ring, h) (omega (arith, ints))

pub dot-times : (a : Row) (k : ℤ) (x : Row) → dot a (times k x) ≡ k *ℤ dot a x
dot-times [] k x = sym (*ℤ-zero k)
dot-times (a ∷ as') k [] = sym (*ℤ-zero k)
dot-times (a ∷ as') k (b ∷ x) = let h = dot-times as' k x in simp (ring, h) (omega (arith, ints))

pub plus-dot : (x y a : Row) → dot (plus x y) a ≡ dot x a +ℤ dot y a
plus-dot x y a = dot_comm (plus x y) a ∙ dot-plus a x y ∙ ap (λ z. z +ℤ dot a y) (dot_comm a x) ∙ ap (λ z. dot x a +ℤ z) (dot_comm a y)

pub times-dot : (k : ℤ) (x a : Row) → dot (times k x) a ≡ k *ℤ dot x a
times-dot k x a = dot_comm (times k x) a ∙ dot-times a k x ∙ ap (λ z. k *ℤ z) (dot_comm a x)

pub entry-plus : (x y : Row) (i : ℕ) → entry (plus x y) i ≡ entry x i +ℤ entry y i
entry-plus [] y i = omega (arith, ints)
entry-plus (a ∷ x) [] i = omega (arith, ints)
entry-plus (a ∷ x) (b ∷ y) zero = refl
entry-plus (a ∷ x) (b ∷ y) (suc i) = entry-plus x y i

pub entry-times : (k : ℤ) (x : Row) (i : ℕ) → entry (times k x) i ≡ k *ℤ entry x i
entry-times k [] i = sym (*ℤ-zero k)
entry-times k (a ∷ x) zero = refl
entry-times k (a ∷ x) (suc i) = entry-times k x i

pub dot-same : (a x y : Row) → ((i : ℕ) → entry x i ≡ entry y i) → dot a x ≡ dot a y
dot-same [] x y e = refl
dot-same (a ∷ as') [] [] e = refl
dot-same (a ∷ as') [] (c ∷ y) e =
    let h = dot-same as' [] y (λ i. e (suc i)) in
    let e0 : c ≡ pos 0 = sym (e zero) in
    let h0 : dot as' y ≡ pos 0 = sym h ∙ dot-nil as' in
    simp (e0, h0, ring)
dot-same (a ∷ as') (b ∷ x) [] e =
    let h = dot-same as' x [] (λ i. e (suc i)) in
    let e0 : b ≡ pos 0 = e zero in
    let h0 : dot as' x ≡ pos 0 = h ∙ dot-nil as' in
    simp (e0, h0, ring)
dot-same (a ∷ as') (b ∷ x) (c ∷ y) e =
    let h = dot-same as' x y (λ i. e (suc i)) in
    let e0 : b ≡ c = e zero in
    cc

pub dot-difference : (b : Row) (p : ℤ) (x : Row) (q : ℤ) (v : Row) → dot b (difference p x q v) ≡ p *ℤ dot b x -ℤ q *ℤ dot b v
unfolding difference
dot-difference b p x q v = simp (dot-plus, dot-times, ring)

pub entry-difference : (p : ℤ) (x : Row) (q : ℤ) (v : Row) (i : ℕ) → entry (difference p x q v) i ≡ p *ℤ entry x i -ℤ q *ℤ entry v i
unfolding difference
entry-difference p x q v i = simp (entry-plus, entry-times, ring)

pub length-times : (k : ℤ) (x : Row) → length (times k x) ≡ length x
length-times k [] = refl
length-times k (a ∷ x) = ap suc (length-times k x)

pub length-plus : (n : ℕ) (x y : Row) → length x ≡ n → length y ≡ n → length (plus x y) ≡ n
length-plus n [] y h k = k
length-plus n (a ∷ x) [] h k = h
length-plus n (a ∷ x) (b ∷ y) h k = ap suc (length-plus (length x) x y refl (omega arith)) ∙ h

pub length-difference : (n : ℕ) (p : ℤ) (x : Row) (q : ℤ) (v : Row) → length x ≡ n → length v ≡ n → length (difference p x q v) ≡ n
unfolding difference
length-difference n p x q v h k = length-plus n (times p x) (times (neg_ℤ q) v) (length-times p x ∙ h) (length-times (neg_ℤ q) v ∙ k)

-- ---- the zero row
unfoldable pub zeros : ℕ → Row
zeros n = replicate n (pos 0)

pub length-zeros : (n : ℕ) → length (zeros n) ≡ n
unfolding zeros
length-zeros n = length-replicate n (pos 0)

pub dot-zeros : (n : ℕ) (x : Row) → dot (zeros n) x ≡ pos 0
unfolding zeros
dot-zeros zero x = refl
dot-zeros (suc n) [] = refl
dot-zeros (suc n) (a ∷ x) = let h = dot-zeros n x in simp (ring, h)

pub entry-opposite : (l : Row) (i : ℕ) → entry (opposite l) i ≡ neg_ℤ (entry l i)
unfolding opposite
entry-opposite l i = entry-times (negsuc 0) l i ∙ neg_one_mul (entry l i)

pub length-opposite : (l : Row) → length (opposite l) ≡ length l
unfolding opposite
length-opposite l = length-times (negsuc 0) l

-- ---- the row alone
pub same_sym : {x y : Row} → Same x y → Same y x
same_sym s = record { at = λ i. sym (s.at i) }

pub row_equal : (x y : Row) → length x ≡ length y → Same x y → x ≡ y
row_equal x y l s = ext_get_or (pos 0) x y l (λ i li. s.at i)
