-- The order of the rows in a ratio test, in whole numbers.
use Rattle.pm_vector.proofs.Ring.{ring}
use Rattle.pm_vector.proofs.Signs.{mul_pos, pos_cancel}
use Rattle.pm_vector.specs.Numbers.{Ratio}
use Rattle.pm_vector.specs.Bases.{column}
use Rattle.pm_programs.specs.Lex.{IsLexPositive}
use Rattle.pm_simplex.specs.Sizes.{IsQuotientBelow}
use Rattle.pm_programs.specs.Tableaux.{IsSign}
use Rattle.std.proofs.Common.{ap, arith, inl, inr, subst, sym, ◌∙◌}
use Rattle.std.proofs.lemmas.Int.{ints}
use Rattle.std.specs.Prelude.{List, [], length, map, suc, unsigned_abs, zero, ℕ, ◌<◌, ◌∷◌, ◌≡◌, ◌↔◌}
use lib.IntN.{neg_ℤ, negsuc, pos, ℤ, ◌*ℤ◌, ◌-ℤ◌}
use lib.Signed.{◌<ℤ◌}

-- the size of a fraction n / m that is -F / d, where s F is positive
size_by_sign : (s n m F d : ℤ) → IsSign s → pos 0 <ℤ m → pos 0 <ℤ d → n *ℤ d ≡ neg_ℤ F *ℤ m → pos 0 <ℤ (s *ℤ F) → pos (unsigned_abs n) *ℤ d ≡ (s *ℤ F) *ℤ m
size_by_sign s n m F d (inl e) hm hd q h =
    let h1 : pos 0 <ℤ F = (let f = simp (e, ring) at h in f) in
    let p = mul_pos h1 hm in
    let w = simp ring at q in
    let neg : pos 0 <ℤ neg_ℤ n = pos_cancel hd (simp ring (omega (arith, ints))) in
    let a : pos (unsigned_abs n) ≡ neg_ℤ n = omega (arith, ints) in
    ap (λ z. z *ℤ d) a ∙ (simp (e, ring) (omega (arith, ints)))
size_by_sign s n m F d (inr e) hm hd q h =
    let e' : s ≡ neg_ℤ (pos 1) = e in
    let h1 : pos 0 <ℤ neg_ℤ F = (let f = simp (e, ring) at h in omega (arith, ints)) in
    let p = mul_pos h1 hm in
    let up : pos 0 <ℤ n = pos_cancel hd (let w = simp ring at q in let p' = simp ring at p in simp ring (omega (arith, ints))) in
    let a : pos (unsigned_abs n) ≡ n = omega (arith, ints) in
    ap (λ z. z *ℤ d) a ∙ q ∙ ap (λ z. z *ℤ m) (minus_one F ∙ ap (λ z. z *ℤ F) (sym e))
  where
    minus_one : (F : ℤ) → neg_ℤ F ≡ negsuc 0 *ℤ F
    minus_one F = omega (arith, ints)

-- a = A / c and b = B / d
cross_gap : (gn an fd bd fn bn gd ad c d A B F G : ℤ) → an *ℤ c ≡ A *ℤ ad → bn *ℤ d ≡ B *ℤ bd → fn *ℤ c ≡ F *ℤ fd → gn *ℤ d ≡ G *ℤ gd
    → (c *ℤ d) *ℤ (fn *ℤ bn *ℤ gd *ℤ ad -ℤ gn *ℤ an *ℤ fd *ℤ bd) ≡ (gd *ℤ ad *ℤ (fd *ℤ bd)) *ℤ (F *ℤ B -ℤ G *ℤ A)
cross_gap gn an fd bd fn bn gd ad c d A B F G ea eb ef eg =
    let a = simp ring at (ap (λ z. (gn *ℤ d *ℤ (fd *ℤ bd)) *ℤ z) ea) in
    let g = simp ring at (ap (λ z. (A *ℤ ad *ℤ (fd *ℤ bd)) *ℤ z) eg) in
    let b = simp ring at (ap (λ z. (fn *ℤ c *ℤ (gd *ℤ ad)) *ℤ z) eb) in
    let f = simp ring at (ap (λ z. (B *ℤ bd *ℤ (gd *ℤ ad)) *ℤ z) ef) in
    simp ring (omega (arith, ints))

pub below_whole : (a f b g : Ratio) (c d A B F G s : ℤ) → IsSign s → pos 0 <ℤ c → pos 0 <ℤ d → pos 0 <ℤ a.den → pos 0 <ℤ f.den → pos 0 <ℤ b.den → pos 0 <ℤ g.den
    → a.num *ℤ c ≡ A *ℤ a.den → b.num *ℤ d ≡ B *ℤ b.den → f.num *ℤ c ≡ neg_ℤ F *ℤ f.den → g.num *ℤ d ≡ neg_ℤ G *ℤ g.den → pos 0 <ℤ (s *ℤ F) → pos 0 <ℤ (s *ℤ G)
    → IsQuotientBelow a f b g ↔ (pos 0 <ℤ ((s *ℤ F) *ℤ B -ℤ (s *ℤ G) *ℤ A))
below_whole a f b g c d A B F G s sg hc hd ha hf hb hg ea eb ef eg pf pg =
    let gap = cross_gap (pos (unsigned_abs g.num)) a.num f.den b.den (pos (unsigned_abs f.num)) b.num g.den a.den c d A B (s *ℤ F) (s *ℤ G) ea eb
    (size_by_sign s f.num f.den F c sg hf hc ef pf) (size_by_sign s g.num g.den G d sg hg hd eg pg) in
    let cd = mul_pos hc hd in
    let dens = mul_pos (mul_pos hg ha) (mul_pos hf hb) in (
      λ h. pos_cancel dens (subst (λ z. pos 0 <ℤ z) gap (mul_pos cd (over _ _ h.below))),
      λ h. record { below = under _ _ (pos_cancel cd (subst (λ z. pos 0 <ℤ z) (sym gap) (mul_pos dens h))) },
    )
  where
    over : (x y : ℤ) → x <ℤ y → pos 0 <ℤ (y -ℤ x)
    over x y h = omega (arith, ints)

    under : (x y : ℤ) → pos 0 <ℤ (y -ℤ x) → x <ℤ y
    under x y h = omega (arith, ints)

-- the first number that is not 0 is positive
pub lex_at : (K : List ℕ) (f : ℕ → ℤ) (n : ℕ) → n < length K → ((k : ℕ) → k < n → f (column K k) ≡ pos 0) → pos 0 <ℤ f (column K n) → IsLexPositive (map f K)
lex_at [] f n l h p = absurd (omega arith)
lex_at (c ∷ K) f zero l h p = inl p
lex_at (c ∷ K) f (suc n) l h p = inr (h 0 (omega arith), lex_at K f n (omega arith) (λ k lk. h (suc k) (omega arith)) p)
