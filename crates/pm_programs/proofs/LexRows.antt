-- Numbers in columns that are lexicographically positive: sums and multiples, and the order in which a ratio test compares rows.
use Rattle.pm_vector.proofs.Lists.{Among, here, there}
use Rattle.pm_vector.proofs.Ring.{ring}
use Rattle.pm_vector.proofs.Signs.{mul_pos, pos_cancel}
use Rattle.pm_vector.specs.Numbers.{IsBelow, Ratio, SameRatio}
use Rattle.pm_programs.specs.Lex.{IsLexNonNeg, IsLexPositive, Rises}
use Rattle.std.proofs.Common.{ap, arith, inl, inr, refl, sym, ◌∙◌}
use Rattle.std.proofs.lemmas.Int.{by_lt_z, ints}
use Rattle.std.specs.Prelude.{List, [], map, ℕ, ◌∷◌, ◌≡◌, ◌⊎◌}
use lib.IntN.{neg_ℤ, pos, ℤ, ◌*ℤ◌, ◌+ℤ◌, ◌-ℤ◌}
use lib.Signed.{◌<ℤ◌, ◌≤ℤ◌}

times_pos : (p a b : ℤ) → pos 0 <ℤ p → b ≡ p *ℤ a → pos 0 <ℤ a → pos 0 <ℤ b
times_pos p a b hp e h = let m = mul_pos hp h in omega (arith, ints)

pub times_zero : (p a b : ℤ) → b ≡ p *ℤ a → a ≡ pos 0 → b ≡ pos 0
times_zero p a b e h = let f = ap (λ t. p *ℤ t) h in e ∙ f ∙ (simp ring)

pub none_times : (q a b : ℤ) → b ≡ q *ℤ a → q ≡ pos 0 → b ≡ pos 0
none_times q a b e h = let f = ap (λ t. t *ℤ a) h in e ∙ f ∙ (simp ring)

pub part_pos : (k w a b : ℤ) → pos 0 <ℤ k → k *ℤ w ≡ a +ℤ b → pos 0 <ℤ (a +ℤ b) → pos 0 <ℤ w
part_pos k w a b hk e h = pos_cancel hk (let f = e in omega (arith, ints))

pub part_zero : (k w a b : ℤ) → pos 0 <ℤ k → k *ℤ w ≡ a +ℤ b → a ≡ pos 0 → b ≡ pos 0 → w ≡ pos 0
part_zero k w a b hk e ha hb =
    by_lt_z w (pos 0)
    (λ l. absurd (let n : pos 0 <ℤ neg_ℤ w = omega (arith, ints) in let m = simp ring at (mul_pos hk n) in omega (arith, ints)))
    (λ g. by_lt_z (pos 0) w (λ l. absurd (let m = mul_pos hk l in omega (arith, ints))) (λ l. omega (arith, ints)))

pub lex_times : (K : List ℕ) (f g : ℕ → ℤ) (p : ℤ) → pos 0 <ℤ p → ((c : ℕ) → g c ≡ p *ℤ f c) → IsLexPositive (map f K) → IsLexPositive (map g K)
lex_times [] f g p hp e h = h
lex_times (c ∷ K) f g p hp e (inl h) = inl (times_pos p (f c) (g c) hp (e c) h)
lex_times (c ∷ K) f g p hp e (inr h) = inr (times_zero p (f c) (g c) (e c) h.0, lex_times K f g p hp e h.1)

lex_none : (K : List ℕ) (g : ℕ → ℤ) → ((c : ℕ) → g c ≡ pos 0) → IsLexNonNeg (map g K)
lex_none [] g e = tt
lex_none (c ∷ K) g e = inr (e c, lex_none K g e)

pub lex_weaken : (K : List ℕ) (f : ℕ → ℤ) → IsLexPositive (map f K) → IsLexNonNeg (map f K)
lex_weaken [] f h = tt
lex_weaken (c ∷ K) f (inl h) = inl h
lex_weaken (c ∷ K) f (inr h) = inr (h.0, lex_weaken K f h.1)

pub lex_multiple : (K : List ℕ) (f g : ℕ → ℤ) (q : ℤ) → pos 0 ≤ℤ q → ((c : ℕ) → g c ≡ q *ℤ f c) → IsLexPositive (map f K) → IsLexNonNeg (map g K)
lex_multiple K f g q hq e h =
    by_lt_z (pos 0) q
    (λ p. lex_weaken K g (lex_times K f g q p e h))
    (λ n. lex_none K g (λ c. none_times q (f c) (g c) (e c) (omega (arith, ints))))

pub lex_add : (K : List ℕ) (f g w : ℕ → ℤ) (k : ℤ) → pos 0 <ℤ k → ((c : ℕ) → k *ℤ w c ≡ f c +ℤ g c) → IsLexPositive (map f K) → IsLexNonNeg (map g K) → IsLexPositive (map w K)
lex_add [] f g w k hk e h n = h
lex_add (c ∷ K) f g w k hk e (inl h) (inl n) = inl (part_pos k (w c) (f c) (g c) hk (e c) (omega (arith, ints)))
lex_add (c ∷ K) f g w k hk e (inl h) (inr n) = inl (part_pos k (w c) (f c) (g c) hk (e c) (let z = n.0 in omega (arith, ints)))
lex_add (c ∷ K) f g w k hk e (inr h) (inl n) = inl (part_pos k (w c) (f c) (g c) hk (e c) (let z = h.0 in omega (arith, ints)))
lex_add (c ∷ K) f g w k hk e (inr h) (inr n) = inr (part_zero k (w c) (f c) (g c) hk (e c) h.0 n.0, lex_add K f g w k hk e h.1 n.1)

-- k w = p f + q g
pub lex_sum : (K : List ℕ) (f g w : ℕ → ℤ) (k p q : ℤ) → pos 0 <ℤ k → pos 0 <ℤ p → pos 0 ≤ℤ q → ((c : ℕ) → k *ℤ w c ≡ p *ℤ f c +ℤ q *ℤ g c)
    → IsLexPositive (map f K) → IsLexPositive (map g K) → IsLexPositive (map w K)
lex_sum K f g w k p q hk hp hq e h n =
    lex_add K (λ c. p *ℤ f c) (λ c. q *ℤ g c) w k hk e (lex_times K f (λ c. p *ℤ f c) p hp (λ c. refl) h) (lex_multiple K g (λ c. q *ℤ g c) q hq (λ c. refl) n)

-- ---- the order of a ratio test: the row x, in the proportion b to the column that enters, is above y, in the proportion a

-- a y - b x and b z - c y positive make a z - c x positive, for b, a, c > 0
pub ratio_trans : (K : List ℕ) (x y z f g w : ℕ → ℤ) (a b c : ℤ) → pos 0 <ℤ a → pos 0 <ℤ b → pos 0 <ℤ c
    → ((i : ℕ) → f i ≡ a *ℤ y i -ℤ b *ℤ x i) → ((i : ℕ) → g i ≡ b *ℤ z i -ℤ c *ℤ y i) → ((i : ℕ) → w i ≡ a *ℤ z i -ℤ c *ℤ x i)
    → IsLexPositive (map f K) → IsLexPositive (map g K) → IsLexPositive (map w K)
ratio_trans K x y z f g w a b c ha hb hc ef eg ew h k =
    lex_sum K f g w b c a hb hc (let p = ha in omega (arith, ints)) (λ i. joined (x i) (y i) (z i) (f i) (g i) (w i) (ef i) (eg i) (ew i)) h k
  where
    joined : (x y z f g w : ℤ) → f ≡ a *ℤ y -ℤ b *ℤ x → g ≡ b *ℤ z -ℤ c *ℤ y → w ≡ a *ℤ z -ℤ c *ℤ x → b *ℤ w ≡ c *ℤ f +ℤ a *ℤ g
    joined x y z f g w ef eg ew =
        let p = simp ring at (ap (λ t. c *ℤ t) ef) in
        let q = simp ring at (ap (λ t. a *ℤ t) eg) in
        let r = simp ring at (ap (λ t. b *ℤ t) ew) in
        omega (arith, ints)

-- what stands opposite is never positive together, and one of the two is positive where some number is not 0
pub lex_either : (K : List ℕ) (f g : ℕ → ℤ) → ((c : ℕ) → g c ≡ neg_ℤ (f c)) → IsLexPositive (map f K) ⊎ (IsLexPositive (map g K) ⊎ ((c : ℕ) → Among c K → f c ≡ pos 0))
lex_either [] f g e = inr (inr (λ c i. elim i [ ]))
lex_either (c ∷ K) f g e =
    by_lt_z (pos 0) (f c)
    (λ p. inl (inl p))
    (λ n. by_lt_z (f c) (pos 0)
    (λ p. inr (inl (inl (let k = e c in omega (arith, ints)))))
    (λ m.
    let z : f c ≡ pos 0 = omega (arith, ints) in
    let y : g c ≡ pos 0 = (let k = e c in omega (arith, ints)) in
    elim (lex_either K f g e) [
      | inl p ↦ inl (inr (z, p))
      | inr (inl p) ↦ inr (inl (inr (y, p)))
      | inr (inr a) ↦ inr (inr (λ d i. by_place z a d i))
    ]))
  where
    by_place : f c ≡ pos 0 → ((d : ℕ) → Among d K → f d ≡ pos 0) → (d : ℕ) → Among d (c ∷ K) → f d ≡ pos 0
    by_place z a d here = z
    by_place z a d (there i) = a d i

-- ---- a value rises by a positive multiple: v = n / d, and w = (k n + h u) / (k d)
pub value_rises : (v w : Ratio) (n d k h u n' d' : ℤ) → pos 0 <ℤ d → pos 0 <ℤ k → pos 0 <ℤ h → pos 0 <ℤ v.den → pos 0 <ℤ w.den
    → v.num *ℤ d ≡ n *ℤ v.den → w.num *ℤ d' ≡ n' *ℤ w.den → n' ≡ k *ℤ n +ℤ h *ℤ u → d' ≡ k *ℤ d → Rises v w u
value_rises v w n d k h u n' d' hd hk hh hv hw ev ew en ed = record {
  above = λ p. above_of (gap v.num v.den w.num w.den n' d' ev ew en ed) (mul_pos (mul_pos hh p) (mul_pos hv hw));
  level = λ z. level_of (gap v.num v.den w.num w.den n' d' ev ew en ed) z;
}
  where
    kd : pos 0 <ℤ (k *ℤ d)
    kd = mul_pos hk hd

    gap : (vn vd wn wd n' d' : ℤ) → vn *ℤ d ≡ n *ℤ vd → wn *ℤ d' ≡ n' *ℤ wd → n' ≡ k *ℤ n +ℤ h *ℤ u → d' ≡ k *ℤ d
        → (k *ℤ d) *ℤ (wn *ℤ vd -ℤ vn *ℤ wd) ≡ (h *ℤ u) *ℤ (vd *ℤ wd)
    gap vn vd wn wd n' d' ev ew en ed =
        let a = simp ring at (ap (λ t. (k *ℤ wd) *ℤ t) ev) in
        let b = simp ring at (ap (λ t. vd *ℤ t) (sym (ap (λ t. wn *ℤ t) ed) ∙ ew ∙ ap (λ t. t *ℤ wd) en)) in
        simp ring (omega (arith, ints))

    above_of : (k *ℤ d) *ℤ (w.num *ℤ v.den -ℤ v.num *ℤ w.den) ≡ (h *ℤ u) *ℤ (v.den *ℤ w.den) → pos 0 <ℤ ((h *ℤ u) *ℤ (v.den *ℤ w.den)) → IsBelow v w
    above_of g p = let q : pos 0 <ℤ (w.num *ℤ v.den -ℤ v.num *ℤ w.den) = pos_cancel kd (omega (arith, ints)) in omega (arith, ints)

    level_of : (k *ℤ d) *ℤ (w.num *ℤ v.den -ℤ v.num *ℤ w.den) ≡ (h *ℤ u) *ℤ (v.den *ℤ w.den) → u ≡ pos 0 → SameRatio v w
    level_of g z =
        let y : (h *ℤ u) *ℤ (v.den *ℤ w.den) ≡ pos 0 = none_times (h *ℤ u) (v.den *ℤ w.den) ((h *ℤ u) *ℤ (v.den *ℤ w.den)) refl (times_zero h u (h *ℤ u) refl z) in
        let q = part_zero (k *ℤ d) (w.num *ℤ v.den -ℤ v.num *ℤ w.den) (pos 0) (pos 0) kd (omega (arith, ints)) refl refl in
        omega (arith, ints)
