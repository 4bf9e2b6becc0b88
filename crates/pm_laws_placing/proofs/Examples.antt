-- The unit square and its triangles.
use Rattle.pm_vector.proofs.ConeLaws.{dot_in, in_generator, in_of, in_zero, none_to_zero}
use Rattle.pm_vector.proofs.Lists.{All_among, Among, Any_among, Contains_among, among_All, among_Any, among_Contains, here, there}
use Rattle.pm_vector.proofs.Ring.{ring}
use Rattle.pm_vector.specs.Cones.{InCone, combination}
use Rattle.pm_vector.specs.Rows.{IsZero, Row, dot, entry}
use Rattle.pm_laws_placing.specs.Examples.{SquareIsTriangulated, lower, upper}
use Rattle.pm_geom.specs.Triangulations.{IsIndependentModulo, IsTriangulation, rows_at, shared}
use Rattle.pm_geom.proofs.Apart.{not_below, not_below_at, products}
use Rattle.pm_geom.proofs.ShortRows.{at_three, by_three}
use Rattle.pm_geom.specs.Examples.{square, triple}
use Rattle.std.specs.Prelude.{ℕ, zero, suc, ◌<◌, ◌≡◌, ◌↔◌, ◌⊎◌, List, [], ◌∷◌, length}
use Rattle.std.proofs.Common.{T, arith, refl, sym, ◌∙◌, inl, inr}
use Rattle.std.proofs.lemmas.Int.{ints, by_lt_z}
use lib.IntN.{ℤ, pos, negsuc, ◌*ℤ◌, ◌+ℤ◌, ◌-ℤ◌}
use lib.Signed.{◌≤ℤ◌, lt_z_yes}

-- a row that is not negative on the rows is not negative on their cone
side : (a : Row) (X : List Row) → T (products not_below a X) → {x : Row} → InCone X [] x → pos 0 ≤ℤ dot a x
side a X t h = dot_in a X [] (λ g i. not_below_at a i t) (λ l i. elim i [ ]) h

-- ---- points of the triangles
in_lower : (a b c : ℤ) → pos 0 ≤ℤ b → pos 0 ≤ℤ c → (b +ℤ c) ≤ℤ a → InCone (rows_at square lower) [] (a ∷ b ∷ c ∷ [])
in_lower a b c hb hc h = record {
  m = pos 1;
  c = (a -ℤ b -ℤ c) ∷ c ∷ b ∷ [];
  d = [];
  positive = lt_z_yes tt;
  not_negative = (omega (arith, ints), (hc, (hb, tt)));
  same = at_three (pos 1 *ℤ a) (pos 1 *ℤ b) (pos 1 *ℤ c) _ _ _ (simp ring (omega (arith, ints))) (simp ring (omega (arith, ints))) (simp ring (omega (arith, ints)));
}

in_upper : (a b c : ℤ) → b ≤ℤ a → c ≤ℤ a → a ≤ℤ (b +ℤ c) → InCone (rows_at square upper) [] (a ∷ b ∷ c ∷ [])
in_upper a b c hb hc h = record {
  m = pos 1;
  c = (a -ℤ b) ∷ (a -ℤ c) ∷ (b +ℤ c -ℤ a) ∷ [];
  d = [];
  positive = lt_z_yes tt;
  not_negative = (omega (arith, ints), (omega (arith, ints), (omega (arith, ints), tt)));
  same = at_three (pos 1 *ℤ a) (pos 1 *ℤ b) (pos 1 *ℤ c) _ _ _ (simp ring (omega (arith, ints))) (simp ring (omega (arith, ints))) (simp ring (omega (arith, ints)));
}

in_diagonal : (a b c : ℤ) → pos 0 ≤ℤ b → pos 0 ≤ℤ c → a ≡ b +ℤ c → InCone (rows_at square (1 ∷ 2 ∷ [])) [] (a ∷ b ∷ c ∷ [])
in_diagonal a b c hb hc h = record {
  m = pos 1;
  c = c ∷ b ∷ [];
  d = [];
  positive = lt_z_yes tt;
  not_negative = (hc, (hb, tt));
  same = at_three (pos 1 *ℤ a) (pos 1 *ℤ b) (pos 1 *ℤ c) _ _ _ (simp (h, ring) (omega (arith, ints))) (simp ring (omega (arith, ints))) (simp ring (omega (arith, ints)));
}

-- ---- independent rows
first_three : (k0 k1 k2 : ℤ) (c : List ℤ) (i : ℕ) → i < 3 → entry (k0 ∷ k1 ∷ k2 ∷ []) i ≡ pos 0 → entry (k0 ∷ k1 ∷ k2 ∷ c) i ≡ pos 0
first_three k0 k1 k2 c zero l e = e
first_three k0 k1 k2 c (suc zero) l e = e
first_three k0 k1 k2 c (suc (suc zero)) l e = e
first_three k0 k1 k2 c (suc (suc (suc i))) l e = absurd (omega arith)

lower_three : (k0 k1 k2 : ℤ) → IsZero (combination (k0 ∷ k1 ∷ k2 ∷ []) (rows_at square lower)) → (i : ℕ) → i < 3 → entry (k0 ∷ k1 ∷ k2 ∷ []) i ≡ pos 0
lower_three k0 k1 k2 z zero l = let a = simp ring at (z 0) in let b = simp ring at (z 1) in let d = simp ring at (z 2) in omega (arith, ints)
lower_three k0 k1 k2 z (suc zero) l = let d = simp ring at (z 2) in omega (arith, ints)
lower_three k0 k1 k2 z (suc (suc zero)) l = let d = simp ring at (z 1) in omega (arith, ints)
lower_three k0 k1 k2 z (suc (suc (suc i))) l = refl

same_lower : (k0 k1 k2 : ℤ) (c : List ℤ) (i : ℕ) → entry (combination (k0 ∷ k1 ∷ k2 ∷ c) (rows_at square lower)) i ≡ entry (combination (k0 ∷ k1 ∷ k2 ∷ []) (rows_at square lower)) i
same_lower k0 k1 k2 [] i = refl
same_lower k0 k1 k2 (k ∷ c) i = refl

upper_three : (k0 k1 k2 : ℤ) → IsZero (combination (k0 ∷ k1 ∷ k2 ∷ []) (rows_at square upper)) → (i : ℕ) → i < 3 → entry (k0 ∷ k1 ∷ k2 ∷ []) i ≡ pos 0
upper_three k0 k1 k2 z zero l = let a = simp ring at (z 0) in let b = simp ring at (z 1) in let d = simp ring at (z 2) in omega (arith, ints)
upper_three k0 k1 k2 z (suc zero) l = let a = simp ring at (z 0) in let b = simp ring at (z 1) in let d = simp ring at (z 2) in omega (arith, ints)
upper_three k0 k1 k2 z (suc (suc zero)) l = let a = simp ring at (z 0) in let b = simp ring at (z 1) in let d = simp ring at (z 2) in omega (arith, ints)
upper_three k0 k1 k2 z (suc (suc (suc i))) l = refl

same_upper : (k0 k1 k2 : ℤ) (c : List ℤ) (i : ℕ) → entry (combination (k0 ∷ k1 ∷ k2 ∷ c) (rows_at square upper)) i ≡ entry (combination (k0 ∷ k1 ∷ k2 ∷ []) (rows_at square upper)) i
same_upper k0 k1 k2 [] i = refl
same_upper k0 k1 k2 (k ∷ c) i = refl

lower_zero : (c : List ℤ) → IsZero (combination c (rows_at square lower)) → (i : ℕ) → i < 3 → entry c i ≡ pos 0
lower_zero [] z i l = refl
lower_zero (k0 ∷ []) z zero l = let a = simp ring at (z 0) in omega (arith, ints)
lower_zero (k0 ∷ []) z (suc i) l = refl
lower_zero (k0 ∷ k1 ∷ []) z zero l = let a = simp ring at (z 0) in let b = simp ring at (z 2) in omega (arith, ints)
lower_zero (k0 ∷ k1 ∷ []) z (suc zero) l = let a = simp ring at (z 2) in omega (arith, ints)
lower_zero (k0 ∷ k1 ∷ []) z (suc (suc i)) l = refl
lower_zero (k0 ∷ k1 ∷ k2 ∷ c) z i l = first_three k0 k1 k2 c i l (lower_three k0 k1 k2 (λ j. sym (same_lower k0 k1 k2 c j) ∙ z j) i l)

upper_zero : (c : List ℤ) → IsZero (combination c (rows_at square upper)) → (i : ℕ) → i < 3 → entry c i ≡ pos 0
upper_zero [] z i l = refl
upper_zero (k0 ∷ []) z zero l = let a = simp ring at (z 0) in omega (arith, ints)
upper_zero (k0 ∷ []) z (suc i) l = refl
upper_zero (k0 ∷ k1 ∷ []) z zero l = let a = simp ring at (z 2) in omega (arith, ints)
upper_zero (k0 ∷ k1 ∷ []) z (suc zero) l = let a = simp ring at (z 1) in omega (arith, ints)
upper_zero (k0 ∷ k1 ∷ []) z (suc (suc i)) l = refl
upper_zero (k0 ∷ k1 ∷ k2 ∷ c) z i l = first_three k0 k1 k2 c i l (upper_three k0 k1 k2 (λ j. sym (same_upper k0 k1 k2 c j) ∙ z j) i l)

-- ---- the two triangles
covered : (x : Row) → length x ≡ 3 → InCone square [] x → InCone (rows_at square lower) [] x ⊎ InCone (rows_at square upper) [] x
covered x l = by_three (λ x. InCone square [] x → InCone (rows_at square lower) [] x ⊎ InCone (rows_at square upper) [] x) go x l
  where
    go : (a b c : ℤ) → InCone square [] (a ∷ b ∷ c ∷ []) → InCone (rows_at square lower) [] (a ∷ b ∷ c ∷ []) ⊎ InCone (rows_at square upper) [] (a ∷ b ∷ c ∷ [])
    go a b c h =
        let p = simp ring at (side (triple 0 1 0) square tt h) in
        let q = simp ring at (side (triple 0 0 1) square tt h) in
        let r = simp ring at (side (pos 1 ∷ pos 0 ∷ negsuc 0 ∷ []) square tt h) in
        let s = simp ring at (side (pos 1 ∷ negsuc 0 ∷ pos 0 ∷ []) square tt h) in
        by_lt_z a (b +ℤ c)
        (λ low. inr (in_upper a b c (omega (arith, ints)) (omega (arith, ints)) (omega (arith, ints))))
        (λ high. inl (in_lower a b c (omega (arith, ints)) (omega (arith, ints)) (omega (arith, ints))))

in_both : (x : Row) → length x ≡ 3 → InCone (rows_at square lower) [] x → InCone (rows_at square upper) [] x → InCone (rows_at square (1 ∷ 2 ∷ [])) [] x
in_both x l = by_three (λ x. InCone (rows_at square lower) [] x → InCone (rows_at square upper) [] x → InCone (rows_at square (1 ∷ 2 ∷ [])) [] x) go x l
  where
    go : (a b c : ℤ) → InCone (rows_at square lower) [] (a ∷ b ∷ c ∷ []) → InCone (rows_at square upper) [] (a ∷ b ∷ c ∷ []) → InCone (rows_at square (1 ∷ 2 ∷ [])) [] (a ∷ b ∷ c ∷ [])
    go a b c h k =
        let p = simp ring at (side (triple 0 1 0) (rows_at square lower) tt h) in
        let q = simp ring at (side (triple 0 0 1) (rows_at square lower) tt h) in
        let r = simp ring at (side (pos 1 ∷ negsuc 0 ∷ negsuc 0 ∷ []) (rows_at square lower) tt h) in
        let s = simp ring at (side (negsuc 0 ∷ pos 1 ∷ pos 1 ∷ []) (rows_at square upper) tt k) in
        in_diagonal a b c (omega (arith, ints)) (omega (arith, ints)) (omega (arith, ints))

narrow_lower : (x : Row) → InCone (rows_at square (1 ∷ 2 ∷ [])) [] x → InCone (rows_at square lower) [] x
narrow_lower x h = in_of (rows_at square lower) (rows_at square (1 ∷ 2 ∷ [])) [] each h
  where
    each : (g : Row) → Among g (rows_at square (1 ∷ 2 ∷ [])) → Among g (rows_at square lower)
    each g here = there here
    each g (there here) = there (there here)
    each g (there (there i)) = elim i [ ]

narrow_upper : (x : Row) → InCone (rows_at square (1 ∷ 2 ∷ [])) [] x → InCone (rows_at square upper) [] x
narrow_upper x h = in_of (rows_at square upper) (rows_at square (1 ∷ 2 ∷ [])) [] each h
  where
    each : (g : Row) → Among g (rows_at square (1 ∷ 2 ∷ [])) → Among g (rows_at square upper)
    each g here = here
    each g (there here) = there here
    each g (there (there i)) = elim i [ ]

two : IsTriangulation 3 square [] (lower ∷ upper ∷ [])
two = record {
  independent = All_among (λ s. IsIndependentModulo [] (rows_at square s)) (lower ∷ upper ∷ []) free;
  covers = λ x l h. elim (covered x l h) [ inl k ↦ Any_among (λ s. InCone (rows_at square s) [] x) (here {xs = upper ∷ []}) k | inr k ↦ Any_among (λ s. InCone (rows_at square s) [] x) (there (here {xs = []})) k ];
  meets = λ s t cs ct x l. meet s t (among_Contains (lower ∷ upper ∷ []) cs) (among_Contains (lower ∷ upper ∷ []) ct) x l;
}
  where
    free : (s : List ℕ) → Among s (lower ∷ upper ∷ []) → IsIndependentModulo [] (rows_at square s)
    free s here = λ c h i l. lower_zero c (none_to_zero (combination c (rows_at square lower)) h) i l
    free s (there here) = λ c h i l. upper_zero c (none_to_zero (combination c (rows_at square upper)) h) i l
    free s (there (there i)) = elim i [ ]

    meet : (s t : List ℕ) → Among s (lower ∷ upper ∷ []) → Among t (lower ∷ upper ∷ []) → (x : Row) → length x ≡ 3 → (InCone (rows_at square s) [] x × InCone (rows_at square t) [] x) ↔ InCone (rows_at square (shared s t)) [] x
    meet s t here here x l = (λ h. h.0, λ h. (h, h))
    meet s t here (there here) x l = (λ h. in_both x l h.0 h.1, λ h. (narrow_lower x h, narrow_upper x h))
    meet s t (there here) here x l = (λ h. in_both x l h.1 h.0, λ h. (narrow_upper x h, narrow_lower x h))
    meet s t (there here) (there here) x l = (λ h. h.0, λ h. (h, h))
    meet s t here (there (there i)) x l = elim i [ ]
    meet s t (there here) (there (there i)) x l = elim i [ ]
    meet s t (there (there i)) k x l = elim i [ ]

-- ---- what is none
pub one : ¬ (IsTriangulation 3 square [] (lower ∷ []))
one t =
    let w = among_Any (λ s. InCone (rows_at square s) [] (triple 1 1 1)) (lower ∷ []) (t.covers (triple 1 1 1) refl (in_generator (there (there (there here))))) in
    outside w.0 w.1 w.2
  where
    outside : (s : List ℕ) → Among s (lower ∷ []) → InCone (rows_at square s) [] (triple 1 1 1) → ⊥
    outside s here h = absurd (side (pos 1 ∷ negsuc 0 ∷ negsuc 0 ∷ []) (rows_at square lower) tt h).le
    outside s (there i) h = elim i [ ]

overlapping : ¬ (IsTriangulation 3 square [] (lower ∷ (0 ∷ 1 ∷ 3 ∷ []) ∷ upper ∷ []))
overlapping t =
    let h = (t.meets lower (0 ∷ 1 ∷ 3 ∷ []) (Contains_among (here {xs = (0 ∷ 1 ∷ 3 ∷ []) ∷ upper ∷ []})) (Contains_among (there (here {xs = upper ∷ []}))) (triple 3 1 1) refl).0 (in_lower (pos 3) (pos 1) (pos 1) (omega (arith, ints)) (omega (arith, ints)) (omega (arith, ints)), in_crossing) in
    absurd (side (pos 0 ∷ negsuc 0 ∷ pos 0 ∷ []) (rows_at square (0 ∷ 1 ∷ [])) tt h).le
  where
    in_crossing : InCone (rows_at square (0 ∷ 1 ∷ 3 ∷ [])) [] (triple 3 1 1)
    in_crossing = record {
      m = pos 1;
      c = pos 2 ∷ pos 0 ∷ pos 1 ∷ [];
      d = [];
      positive = lt_z_yes tt;
      not_negative = (omega (arith, ints), (omega (arith, ints), (omega (arith, ints), tt)));
      same = record { at = λ i. refl };
    }

quadrangle : ¬ (IsTriangulation 3 square [] ((0 ∷ 1 ∷ 2 ∷ 3 ∷ []) ∷ []))
quadrangle t =
    let e = among_All (λ s. IsIndependentModulo [] (rows_at square s)) (here {xs = []}) t.independent (pos 1 ∷ negsuc 0 ∷ negsuc 0 ∷ pos 1 ∷ []) (in_zero zero_at) 0 (omega arith) in
    omega (arith, ints)
  where
    zero_at : (i : ℕ) → entry (combination (pos 1 ∷ negsuc 0 ∷ negsuc 0 ∷ pos 1 ∷ []) (rows_at square (0 ∷ 1 ∷ 2 ∷ 3 ∷ []))) i ≡ pos 0
    zero_at zero = refl
    zero_at (suc zero) = refl
    zero_at (suc (suc zero)) = refl
    zero_at (suc (suc (suc i))) = refl

pub square_is_triangulated : SquareIsTriangulated
square_is_triangulated = record { two = two; one = one; overlapping = overlapping; quadrangle = quadrangle }
