-- A strict lexicographic rise of bounded fractions is a rise of a bounded number.
use Rattle.pm_vector.proofs.Ring.{add-mul, mul-add, mul-neg, mul_one, ring}
use Rattle.pm_vector.proofs.Signs.{mul_nonneg}
use Rattle.pm_vector.specs.Numbers.{IsBelow, Ratio, SameRatio}
use Rattle.pm_vector.specs.Rows.{Row, entry, ratio_at}
use Rattle.pm_programs.specs.Lex.{IsBounded, IsLexBelow, IsLexPositive, Rises}
use Rattle.pm_programs.specs.LexLaws.{LexIsFinite}
use Rattle.std.proofs.Common.{ap, arith, inl, inr, ◌∙◌}
use Rattle.std.proofs.lemmas.Int.{ints}
use Rattle.std.specs.List.{AllByRecursion}
use Rattle.std.specs.Prelude.{List, [], length, suc, zero, ℕ, ◌*◌, ◌+◌, ◌/◌, ◌<◌, ◌∷◌, ◌≡◌, ◌≤◌, ◌↔◌}
use lib.IntN.{nat_abs, pos, ℤ, ◌*ℤ◌, ◌+ℤ◌, ◌-ℤ◌}
use lib.Signed.{◌<ℤ◌, ◌≤ℤ◌}
use native.Mathlib.Nat.{div-le_self, div-mul-le_self, le-div_iff_mul-le, le_of_mul-le-mul_right, mul-le-mul, mul-le-mul_left, mul-le-mul_right}

-- for naturals: a / q < b / r with q, r ≤ m makes the floor of m m a / q less than that of m m b / r
floor_rise : (m a q b r : ℕ) → 0 < q → 0 < r → q ≤ m → r ≤ m → a * r < b * q → m * m * a / q < m * m * b / r
floor_rise m a q b r hq hr kq kr h = (le-div_iff-mul-le' (m * m * a / q)).1 (le_of_mul-le-mul_right raised hq)
  where
    le-div_iff-mul-le' : (f : ℕ) → (suc f ≤ m * m * b / r) ↔ (suc f * r ≤ m * m * b)
    le-div_iff-mul-le' f = le-div_iff_mul-le hr

    raised : suc (m * m * a / q) * r * q ≤ m * m * b * q
    raised =
        let f = m * m * a / q in
        let x = mul-le-mul_right r (div-mul-le_self (m * m * a) q) in
        let y = mul-le-mul kr kq in
        let z = mul-le-mul_left (m * m) h in
        omega arith

-- the floor of c a / q does not exceed that of c b / r where a / q does not exceed b / r
floor_keep : (c a q b r : ℕ) → 0 < q → 0 < r → a * r ≤ b * q → c * a / q ≤ c * b / r
floor_keep c a q b r hq hr h = (le-div' (c * a / q)).1 (le_of_mul-le-mul_right raised hq)
  where
    le-div' : (f : ℕ) → (f ≤ c * b / r) ↔ (f * r ≤ c * b)
    le-div' f = le-div_iff_mul-le hr

    raised : c * a / q * r * q ≤ c * b * q
    raised =
        let x = mul-le-mul_right r (div-mul-le_self (c * a) q) in
        let z = mul-le-mul_left c h in
        omega arith

raw : ℕ → Ratio → ℕ
raw m v = nat_abs (v.num +ℤ pos m *ℤ v.den)

raw_is : (m : ℕ) (v : Ratio) → IsBounded m v → pos (raw m v) ≡ v.num +ℤ pos m *ℤ v.den
unfolding raw
raw_is m v h =
    let a = h.positive in
    let b = h.num_large in
    let d : pos 0 ≤ℤ (v.den -ℤ pos 1) = omega (arith, ints) in
    let m0 : pos 0 ≤ℤ pos m = omega (arith, ints) in
    let c = simp (mul-add, mul-neg, mul_one) at (mul_nonneg m0 d) in
    omega (arith, ints)

den_is : (v : Ratio) → pos 0 <ℤ v.den → pos (nat_abs v.den) ≡ v.den
den_is v h = omega (arith, ints)

rank_one : ℕ → Ratio → ℕ
rank_one m v = m * m * raw m v / nat_abs v.den

base : ℕ → ℕ
base m = m * m * (m + m * m) + 1

rank_one_small : (m : ℕ) (v : Ratio) → IsBounded m v → rank_one m v < base m
unfolding rank_one base
rank_one_small m v h =
    let r = raw_is m v h in
    let a = h.num_small in
    let b = h.den_small in
    let m0 : pos 0 ≤ℤ pos m = omega (arith, ints) in
    let e : pos 0 ≤ℤ (pos m -ℤ v.den) = omega (arith, ints) in
    let c = simp (mul-add, mul-neg) at (mul_nonneg m0 e) in
    let k : raw m v ≤ m + m * m = omega (arith, ints) in
    let l = mul-le-mul_left (m * m) k in
    let d = div-le_self (m * m * raw m v) (nat_abs v.den) in
    omega arith

crossed_less : (m a q b r : ℕ) (nv dv nw dw : ℤ) → pos a ≡ nv +ℤ pos m *ℤ dv → pos q ≡ dv → pos b ≡ nw +ℤ pos m *ℤ dw → pos r ≡ dw → (nv *ℤ dw) <ℤ (nw *ℤ dv) → a * r < b * q
crossed_less m a q b r nv dv nw dw ea eq eb er l =
    let x : pos a *ℤ pos r ≡ nv *ℤ dw +ℤ pos m *ℤ dv *ℤ dw = ap (λ z. z *ℤ pos r) ea ∙ ap (λ z. (nv +ℤ pos m *ℤ dv) *ℤ z) er ∙ add-mul nv (pos m *ℤ dv) dw in
    let y : pos b *ℤ pos q ≡ nw *ℤ dv +ℤ pos m *ℤ dw *ℤ dv = ap (λ z. z *ℤ pos q) eb ∙ ap (λ z. (nw +ℤ pos m *ℤ dw) *ℤ z) eq ∙ add-mul nw (pos m *ℤ dw) dv in
    let z : pos m *ℤ dv *ℤ dw ≡ pos m *ℤ dw *ℤ dv = simp ring in
    omega (arith, ints)

crossed_same : (m a q b r : ℕ) (nv dv nw dw : ℤ) → pos a ≡ nv +ℤ pos m *ℤ dv → pos q ≡ dv → pos b ≡ nw +ℤ pos m *ℤ dw → pos r ≡ dw → nv *ℤ dw ≡ nw *ℤ dv → a * r ≡ b * q
crossed_same m a q b r nv dv nw dw ea eq eb er l =
    let x : pos a *ℤ pos r ≡ nv *ℤ dw +ℤ pos m *ℤ dv *ℤ dw = ap (λ z. z *ℤ pos r) ea ∙ ap (λ z. (nv +ℤ pos m *ℤ dv) *ℤ z) er ∙ add-mul nv (pos m *ℤ dv) dw in
    let y : pos b *ℤ pos q ≡ nw *ℤ dv +ℤ pos m *ℤ dw *ℤ dv = ap (λ z. z *ℤ pos q) eb ∙ ap (λ z. (nw +ℤ pos m *ℤ dw) *ℤ z) eq ∙ add-mul nw (pos m *ℤ dw) dv in
    let z : pos m *ℤ dv *ℤ dw ≡ pos m *ℤ dw *ℤ dv = simp ring in
    omega (arith, ints)

rank_one_rise : (m : ℕ) (v w : Ratio) → IsBounded m v → IsBounded m w → IsBelow v w → rank_one m v < rank_one m w
unfolding rank_one
rank_one_rise m v w h k l =
    floor_rise m (raw m v) (nat_abs v.den) (raw m w) (nat_abs w.den)
    (let a = h.positive in omega (arith, ints)) (let a = k.positive in omega (arith, ints)) (let a = h.den_small in let b = h.positive in omega (arith, ints)) (let a = k.den_small in let b = k.positive in omega (arith, ints))
    (crossed_less m (raw m v) (nat_abs v.den) (raw m w) (nat_abs w.den) v.num v.den w.num w.den (raw_is m v h) (den_is v h.positive) (raw_is m w k) (den_is w k.positive) l)

rank_one_keep : (m : ℕ) (v w : Ratio) → IsBounded m v → IsBounded m w → SameRatio v w → rank_one m v ≡ rank_one m w
unfolding rank_one
rank_one_keep m v w h k l =
    let e = crossed_same m (raw m v) (nat_abs v.den) (raw m w) (nat_abs w.den) v.num v.den w.num w.den (raw_is m v h) (den_is v h.positive) (raw_is m w k) (den_is w k.positive) l in
    let hq : 0 < nat_abs v.den = (let a = h.positive in omega (arith, ints)) in
    let hr : 0 < nat_abs w.den = (let a = k.positive in omega (arith, ints)) in
    let x = floor_keep (m * m) (raw m v) (nat_abs v.den) (raw m w) (nat_abs w.den) hq hr (omega arith) in
    let y = floor_keep (m * m) (raw m w) (nat_abs w.den) (raw m v) (nat_abs v.den) hr hq (omega arith) in
    omega arith

pub top : ℕ → ℕ → ℕ
top m zero = 1
top m (suc k) = base m * top m k

pub rank : ℕ → List Ratio → ℕ
rank m [] = 0
rank m (v ∷ vs) = rank_one m v * top m (length vs) + rank m vs

pub rank_below : (m : ℕ) (vs : List Ratio) → AllByRecursion (IsBounded m) vs → rank m vs < top m (length vs)
unfolding rank top
rank_below m [] h = omega arith
rank_below m (v ∷ vs) h =
    let a = mul-le-mul_right (top m (length vs)) (rank_one_small m v h.0) in
    let b = rank_below m vs h.1 in
    omega arith

pub rank_rises : (m : ℕ) (vs ws : List Ratio) → length vs ≡ length ws → AllByRecursion (IsBounded m) vs → AllByRecursion (IsBounded m) ws → IsLexBelow vs ws → rank m vs < rank m ws
unfolding rank
rank_rises m [] ws l h k less = absurd less
rank_rises m (v ∷ vs) [] l h k less = absurd less
rank_rises m (v ∷ vs) (w ∷ ws) l h k (inl less) =
    let a = mul-le-mul_right (top m (length vs)) (rank_one_rise m v w h.0 k.0 less) in
    let b = rank_below m vs h.1 in
    let c : top m (length vs) ≡ top m (length ws) = ap (top m) (omega arith) in
    let d = ap (λ t. rank_one m w * t) c in
    omega arith
rank_rises m (v ∷ vs) (w ∷ ws) l h k (inr same) =
    let r = rank_rises m vs ws (omega arith) h.1 k.1 same.1 in
    let c : top m (length vs) ≡ top m (length ws) = ap (top m) (omega arith) in
    let d : rank_one m v * top m (length vs) ≡ rank_one m w * top m (length ws) = ap (λ x. x * top m (length vs)) (rank_one_keep m v w h.0 k.0 same.0) ∙ ap (λ t. rank_one m w * t) c in
    omega arith

pub lex_is_finite : LexIsFinite
lex_is_finite m = (rank m, top m, rank_below m, rank_rises m)

-- a list that gains a lexicographically positive one rises
pub lex_rise : (u : Row) (v w : List Ratio) → length u ≡ length v → length v ≡ length w → ((i : ℕ) → i < length u → Rises (ratio_at v i) (ratio_at w i) (entry u i)) → IsLexPositive u → IsLexBelow v w
lex_rise [] v w l k r h = absurd h
lex_rise (a ∷ u) [] w l k r h = absurd (omega arith)
lex_rise (a ∷ u) (b ∷ v) [] l k r h = absurd (omega arith)
lex_rise (a ∷ u) (b ∷ v) (c ∷ w) l k r (inl p) = inl ((r 0 (omega arith)).above p)
lex_rise (a ∷ u) (b ∷ v) (c ∷ w) l k r (inr t) = inr ((r 0 (omega arith)).level t.0, lex_rise u v w (omega arith) (omega arith) (λ i li. r (suc i) (omega arith)) t.1)
