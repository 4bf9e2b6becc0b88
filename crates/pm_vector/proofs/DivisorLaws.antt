-- The greatest common divisor of a row, and the primitive row in its direction.
use Rattle.pm_vector.proofs.PrimitiveLaws.{primitive_unique}
use Rattle.pm_vector.proofs.Ring.{mul_assoc as mul_assoc-int, one_mul, ring}
use Rattle.pm_vector.proofs.RowLaws.{entry-times, length-times, row_equal}
use Rattle.pm_vector.proofs.Signs.{mul_cancel, mul_pos}
use Rattle.pm_vector.specs.Divisors.{IsGcdOf, IsPrimitive, IsPrimitiveOf}
use Rattle.pm_vector.specs.Rows.{IsZero, Row, Same, SameDirection, entry, times}
use Rattle.std.proofs.Common.{add-one, ap, arith, inl, inr, length, refl, suc, sym, take, zero, ◌%◌, ◌*◌, ◌+◌, ◌/◌, ◌<◌, ◌≡◌, ◌≤◌, ◌∙◌, ◌⊎◌, ℕ}
use Rattle.std.proofs.Math.Nat.{div-mul_cancel, dvd-mul_right, dvd_of_mul-dvd-mul_left, mod-lt, mul-one, mul_assoc, zero-div}
use Rattle.std.proofs.lemmas.Bool.{cases_lt}
use Rattle.std.proofs.lemmas.Int.{ints, unsigned_abs-mul}
use Rattle.std.proofs.lemmas.List.{get_or-map, get_or-take, get_or_past, length-map, length-take-le, take_all}
use Rattle.std.proofs.lemmas.Nat.Gcd.{IsGcd-from_mod, IsGcd-from_zero, dvd-zero, dvd_antisymm, dvd_refl, dvd_trans, le_of_dvd}
use Rattle.std.specs.Int.{IsGcd, ◌∣◌}
use Rattle.std.specs.Prelude.{[], int_div, map, unsigned_abs, ◌∷◌}
use lib.IntN.{neg_ℤ, negsuc, pos, ℤ, ◌*ℤ◌}
use lib.Signed.{lt_z_yes, ◌<ℤ◌}

-- ---- absolute values
pub abs-zero : (z : ℤ) → unsigned_abs z ≡ 0 → z ≡ pos 0
abs-zero z h = omega (arith, ints)

zero_from_zero-dvd : (n : ℕ) → 0 ∣ n → n ≡ 0
zero_from_zero-dvd n h = sym (dvd_antisymm h (dvd-zero n))

opposite_product : (m g n : ℕ) → m * g ≡ suc n → negsuc n ≡ pos g *ℤ neg_ℤ (pos m)
opposite_product zero g n e = absurd (omega arith)
opposite_product (suc m) g n e = omega (arith, ints)

-- the exact quotient
pub quotient_is : (z : ℤ) (g : ℕ) → g ∣ unsigned_abs z → z ≡ pos g *ℤ int_div z (pos g)
quotient_is (pos n) g h = let e = div-mul_cancel g h in omega (arith, ints)
quotient_is (negsuc n) g h = opposite_product (suc n / g) g n (div-mul_cancel g h)

-- ---- what holds of each entry of the first i + 1
module _ (x : Row) (i : ℕ) (within : i < length x) (P : ℤ → Type 0) where
  past_more : (k : ℕ) → i < k → entry (take (i + 1) x) k ≡ pos 0
  past_more k above = get_or_past (take (i + 1) x) k (pos 0) (let l = length-take-le (i + 1) x (omega arith) in omega arith)

  past_take : (k : ℕ) → i ≤ k → entry (take i x) k ≡ pos 0
  past_take k above = get_or_past (take i x) k (pos 0) (let l = length-take-le i x (omega arith) in omega arith)

  each_more : ((k : ℕ) → P (entry (take i x) k)) → P (entry x i) → (k : ℕ) → P (entry (take (i + 1) x) k)
  each_more f p k = elim (cases_lt k i) [
    | inl below ↦ rw (get_or-take (i + 1) x k (pos 0) (omega arith), ← get_or-take i x k (pos 0) below) (f k)
    | inr above ↦ elim (cases_lt i k) [
      | inl past ↦ rw (past_more k past, ← past_take k above) (f k)
      | inr same ↦ let e : k ≡ i = omega arith in rw (e, get_or-take (i + 1) x i (pos 0) (omega arith)) p
    ]
  ]

  each_less : ((k : ℕ) → P (entry (take (i + 1) x) k)) → (k : ℕ) → P (entry (take i x) k)
  each_less f k = elim (cases_lt k i) [
    | inl below ↦ rw (get_or-take i x k (pos 0) below, ← get_or-take (i + 1) x k (pos 0) (omega arith)) (f k)
    | inr above ↦ rw (past_take k above, ← past_more (k + 1) (omega arith)) (f (k + 1))
  ]

  each_last : ((k : ℕ) → P (entry (take (i + 1) x) k)) → P (entry x i)
  each_last f = rw (← get_or-take (i + 1) x i (pos 0) (omega arith)) (f i)

-- ---- one divisor for a row
pub IsGcdOf-none : (x : Row) → IsGcdOf (take 0 x) 0
IsGcdOf-none x = record { divides = λ d. (λ h i. dvd-zero d, λ h. dvd-zero d) }

pub IsGcdOf-more : (x : Row) (i g h : ℕ) → i < length x → IsGcdOf (take i x) g → IsGcd g (unsigned_abs (entry x i)) h → IsGcdOf (take (i + 1) x) h
IsGcdOf-more x i g h within so_far both = record {
  divides = λ d. (
    λ dh. each_more x i within (λ z. d ∣ unsigned_abs z) ((so_far.divides d).0 (dvd_trans d dh both.0)) (dvd_trans d dh both.1),
    λ f. both.2 d ((so_far.divides d).1 (each_less x i within (λ z. d ∣ unsigned_abs z) f)) (each_last x i within (λ z. d ∣ unsigned_abs z) f),
  );
}

pub gcd_unique : (x : Row) (g h : ℕ) → IsGcdOf x g → IsGcdOf x h → g ≡ h
gcd_unique x g h p q = dvd_antisymm ((q.divides g).1 ((p.divides g).0 (dvd_refl g))) ((p.divides h).1 ((q.divides h).0 (dvd_refl h)))

pub IsZero-from_gcd : (x : Row) → IsGcdOf x 0 → IsZero x
IsZero-from_gcd x h i = abs-zero (entry x i) (zero_from_zero-dvd _ ((h.divides 0).0 (dvd_refl 0) i))

pub gcd_of_zero : (x : Row) (g : ℕ) → IsGcdOf x g → IsZero x → g ≡ 0
gcd_of_zero x g h z = zero_from_zero-dvd g ((h.divides 0).1 (λ i. rw z (dvd_refl 0)))

pub dvd_entry : (x : Row) (g : ℕ) → IsGcdOf x g → (i : ℕ) → g ∣ unsigned_abs (entry x i)
dvd_entry x g h i = (h.divides g).0 (dvd_refl g) i

-- ---- two numbers have a greatest common divisor, and so has a row
gcd_below : (f a b : ℕ) → b ≤ f → (g : ℕ) × IsGcd a b g
gcd_below zero a b h = (a, IsGcd-from_zero a b (omega arith))
gcd_below (suc f) a b h = elim (cases_lt 0 b) [
  | inl some ↦ let r = mod-lt a some in let w = gcd_below f b (a % b) (omega arith) in (w.0, IsGcd-from_mod a b w.0 w.1)
  | inr none ↦ (a, IsGcd-from_zero a b (omega arith))
]

pub common_divisor : (a b : ℕ) → (g : ℕ) × IsGcd a b g
common_divisor a b = gcd_below b a b (omega arith)

first_gcd : (x : Row) (i : ℕ) → i ≤ length x → (g : ℕ) × IsGcdOf (take i x) g
first_gcd x zero h = (0, IsGcdOf-none x)
first_gcd x (suc i) h =
    let w = first_gcd x i (omega arith) in
    let v = common_divisor w.0 (unsigned_abs (entry x i)) in
    (v.0, rw (← add-one i) (IsGcdOf-more x i w.0 v.0 (omega arith) w.1 v.1))

pub gcd_of : (x : Row) → (g : ℕ) × IsGcdOf x g
gcd_of x = let w = first_gcd x (length x) (omega arith) in (w.0, rw (take_all (length x) x (omega arith)) at w.1)

-- ---- how large the divisor is
zero_or_entry : (x : Row) → IsZero x ⊎ ((i : ℕ) × (0 < unsigned_abs (entry x i)))
zero_or_entry [] = inl (λ i. refl)
zero_or_entry (a ∷ x) = elim (cases_lt 0 (unsigned_abs a)) [
  | inl some ↦ inr (0, some)
  | inr none ↦ elim (zero_or_entry x) [
    | inl z ↦ inl (zero_front a x (abs-zero a (omega arith)) z)
    | inr w ↦ inr (suc w.0, w.1)
  ]
]
  where
    zero_front : (a : ℤ) (x : Row) → a ≡ pos 0 → IsZero x → IsZero (a ∷ x)
    zero_front a x e z zero = e
    zero_front a x e z (suc i) = z i

pub gcd_below_bound : (x : Row) (g b : ℕ) → IsGcdOf x g → 0 < b → ((i : ℕ) → unsigned_abs (entry x i) < b) → g < b
gcd_below_bound x g b h some below = elim (zero_or_entry x) [
  | inl z ↦ let e = gcd_of_zero x g h z in omega arith
  | inr w ↦ let l = le_of_dvd w.1 (dvd_entry x g h w.0) in let k = below w.0 in omega arith
]

-- ---- the row divided by its greatest common divisor
abbrev pub quotients : Row → ℕ → Row
quotients x g = map (λ z. int_div z (pos g)) x

pub length-quotients : (x : Row) (g : ℕ) → length (quotients x g) ≡ length x
length-quotients x g = length-map x (λ z. int_div z (pos g))

quotient_at : (x : Row) (g i : ℕ) → entry (quotients x g) i ≡ int_div (entry x i) (pos g)
quotient_at x g i = elim (cases_lt i (length x)) [
  | inl within ↦ get_or-map (λ z. int_div z (pos g)) x i (pos 0) (pos 0) within
  | inr past ↦
      let none : entry x i ≡ pos 0 = get_or_past x i (pos 0) past in
      let none' : entry (map (λ z. int_div z (pos g)) x) i ≡ pos 0 = get_or_past _ i (pos 0) (rw (length-map x (λ z. int_div z (pos g))) past) in
      none' ∙ (rw none (ap pos (sym (zero-div g))))
]

pub Same-quotients : (x : Row) (g : ℕ) → IsGcdOf x g → Same x (times (pos g) (quotients x g))
Same-quotients x g h = record { at = λ i. rw (entry-times, quotient_at) (quotient_is (entry x i) g (dvd_entry x g h i)) }

-- what is left when the greatest common divisor is taken out
pub IsPrimitive-from_gcd : (x y : Row) (g : ℕ) → 0 < g → IsGcdOf x g → Same x (times (pos g) y) → IsPrimitive y
IsPrimitive-from_gcd x y g some h same = record { whole = λ k z l positive e. only_one k positive (λ i. rw (product i k z e, ← mul_assoc) (dvd-mul_right (g * unsigned_abs k) (unsigned_abs (entry z i)))) }
  where
    product : (i : ℕ) (k : ℤ) (z : Row) → Same y (times k z) → unsigned_abs (entry x i) ≡ g * (unsigned_abs k * unsigned_abs (entry z i))
    product i k z e = rw (same.at i, entry-times, unsigned_abs-mul, e.at i, entry-times, unsigned_abs-mul) refl

    one_from_abs : (k : ℤ) → pos 0 <ℤ k → unsigned_abs k ≤ 1 → k ≡ pos 1
    one_from_abs k positive small = omega (arith, ints)

    only_one : (k : ℤ) → pos 0 <ℤ k → ((i : ℕ) → g * unsigned_abs k ∣ unsigned_abs (entry x i)) → k ≡ pos 1
    only_one k positive f =
        let whole : g * unsigned_abs k ∣ g * 1 = rw mul-one ((h.divides (g * unsigned_abs k)).1 f) in
        one_from_abs k positive (le_of_dvd (omega arith) (dvd_of_mul-dvd-mul_left (unsigned_abs k) some whole))

-- ---- the primitive row in a direction
pub IsPrimitiveOf-quotients : (x : Row) (g : ℕ) → 0 < g → IsGcdOf x g → IsPrimitiveOf x (quotients x g)
IsPrimitiveOf-quotients x g some h =
    let positive : pos 0 <ℤ pos g = omega (arith, ints) in
    record {
      cols = length-quotients x g;
      divided = inr (pos g, positive, Same-quotients x g h, IsPrimitive-from_gcd x (quotients x g) g some h (Same-quotients x g h));
    }

pub times-quotients : (x : Row) (g : ℕ) → IsGcdOf x g → x ≡ times (pos g) (quotients x g)
times-quotients x g h = row_equal x (times (pos g) (quotients x g)) (sym (length-times (pos g) (quotients x g) ∙ length-quotients x g)) (Same-quotients x g h)

pub IsPrimitiveOf-zero : (x : Row) → IsZero x → IsPrimitiveOf x x
IsPrimitiveOf-zero x z = record { cols = refl; divided = inl (z, z) }

-- no multiple of a primitive row is zero
pub not_zero : (w : Row) → IsPrimitive w → IsZero w → ⊥
not_zero w p z =
    let two = p.whole (pos 2) w refl (lt_z_yes tt) (record { at = λ i. rw (entry-times, z i) refl }) in
    clash two
  where
    clash : pos 2 ≡ pos 1 → ⊥
    clash e = omega (arith, ints)

pub IsPrimitive-from_one : (x : Row) → IsGcdOf x 1 → IsPrimitive x
IsPrimitive-from_one x h = IsPrimitive-from_gcd x x 1 (omega arith) h (record { at = λ i. rw (entry-times, one_mul) refl })

pub IsPrimitiveOf-from_one : (x : Row) → IsGcdOf x 1 → IsPrimitiveOf x x
IsPrimitiveOf-from_one x h = record {
  cols = refl;
  divided = inr (pos 1, lt_z_yes tt, record { at = λ i. rw (entry-times, one_mul) refl }, IsPrimitive-from_one x h);
}

pub one-from_primitive : (x : Row) → IsPrimitive x → IsGcdOf x 1
one-from_primitive x p = by_gcd (gcd_of x)
  where
    by_gcd : (w : (g : ℕ) × IsGcdOf x g) → IsGcdOf x 1
    by_gcd (zero, h) = absurd (not_zero x p (IsZero-from_gcd x h))
    by_gcd (suc g, h) =
        let positive : pos 0 <ℤ pos (suc g) = omega (arith, ints) in
        let e : pos (suc g) ≡ pos 1 = p.whole (pos (suc g)) (quotients x (suc g)) (length-quotients x (suc g)) positive (Same-quotients x (suc g) h) in
        let one : suc g ≡ 1 = omega (arith, ints) in
        rw one at h

-- a row with a primitive row in its direction is not zero
multiple_not_zero : (v w : Row) (g : ℤ) → pos 0 <ℤ g → Same v (times g w) → IsPrimitive w → IsZero v → ⊥
multiple_not_zero v w g positive same p z = not_zero w p (λ i. let e = simp (entry-times, z) at (same.at i) in mul_cancel positive (simp ring (sym e)))

-- rows of one direction have one primitive row
module _ (v v' w w' : Row) (d : SameDirection v v') where
  balanced : (i : ℕ) → d.p *ℤ entry v i ≡ d.q *ℤ entry v' i
  balanced i = simp entry-times at (d.same.at i)

  zero_forth : IsZero v → IsZero v'
  zero_forth z i = let e = balanced i in mul_cancel d.q_positive (sym e ∙ (simp (z, ring)))

  zero_back : IsZero v' → IsZero v
  zero_back z i = let e = balanced i in mul_cancel d.p_positive (e ∙ (simp (z, ring)))

  balanced_parts : (g h : ℤ) → Same v (times g w) → Same v' (times h w') → (i : ℕ) → (d.p *ℤ g) *ℤ entry w i ≡ (d.q *ℤ h) *ℤ entry w' i
  balanced_parts g h s t i =
      let a = simp entry-times at (s.at i) in
      let b = simp entry-times at (t.at i) in
      let e = rw (a, b) at (balanced i) in
      mul_assoc-int d.p g (entry w i) ∙ e ∙ sym (mul_assoc-int d.q h (entry w' i))

  pub direction_primitive : length v ≡ length v' → IsPrimitiveOf v w → IsPrimitiveOf v' w' → w ≡ w'
  direction_primitive l a b =
      row_equal w w' (a.cols ∙ l ∙ sym b.cols) (elim a.divided [
        | inl z ↦ elim b.divided [
          | inl z' ↦ record { at = λ i. z.1 i ∙ sym (z'.1 i) }
          | inr g ↦ absurd (multiple_not_zero v' w' g.0 g.1 g.2 g.3 (zero_forth z.0))
        ]
        | inr g ↦ elim b.divided [
          | inl z' ↦ absurd (multiple_not_zero v w g.0 g.1 g.2 g.3 (zero_back z'.0))
          | inr h ↦ primitive_unique (length w) (d.p *ℤ g.0) (d.q *ℤ h.0) w w' refl (b.cols ∙ sym l ∙ sym a.cols) (mul_pos d.p_positive g.1) (mul_pos d.q_positive h.1) g.3 h.3 (balanced_parts g.0 h.0 g.2 h.2)
        ]
      ])

pub primitive_row_unique : (v w u : Row) → IsPrimitiveOf v w → IsPrimitiveOf v u → w ≡ u
primitive_row_unique v w u a b =
    direction_primitive v v w u (record { p = pos 1; q = pos 1; p_positive = lt_z_yes tt; q_positive = lt_z_yes tt; same = record { at = λ i. refl } }) refl a b
