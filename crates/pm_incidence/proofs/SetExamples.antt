-- The examples of rows from sets hold.
use Rattle.pm_vector.proofs.ConeLaws.{dot_in, in_line, in_of, in_zero, lines_opposite, none_from_zero, none_to_zero}
use Rattle.pm_vector.proofs.Lists.{All_among, Among, Contains_among, all_at, among_Contains, here, there}
use Rattle.pm_vector.proofs.Ring.{ring}
use Rattle.pm_vector.proofs.RowLaws.{entry-plus, entry-times}
use Rattle.pm_vector.specs.Cones.{InCone, InSpan, combination}
use Rattle.pm_vector.specs.Divisors.{IsPrimitive}
use Rattle.pm_vector.specs.Rows.{IsZero, Row, dot, entry, opposite, plus, times}
use Rattle.pm_vector.proofs.BasisExamples.{primitive_by_one}
use Rattle.pm_vector.specs.Bases.{IsEchelonBasis, row_at}
use Rattle.pm_elim.proofs.DualLaws.{null_basis_unique}
use Rattle.pm_vector.specs.NullSpaces.{IsNull, IsNullBasis}
use Rattle.pm_geom.proofs.Apart.{lineality_spanned}
use Rattle.pm_geom.proofs.ShortRows.{by_two}
use Rattle.pm_geom.specs.Cones.{InLineality, SameModulo}
use Rattle.pm_geom.specs.Generators.{IsLinealityBasis, VanishAt}
use Rattle.pm_incidence.proofs.Determined.{one_lineality}
use Rattle.pm_incidence.proofs.Products.{itself}
use Rattle.pm_incidence.proofs.ThinExamples.{one_echelon, y_echelon}
use Rattle.pm_incidence.specs.Examples.{pair}
use Rattle.pm_incidence.specs.FromSets.{AreCanonicalFor, AreDetermined, IsDetermining, IsWideSign, determining}
use Rattle.pm_incidence.specs.ThinExamples.{RowsFromSetsAreRead, diagonal, large, larger, steep, x_axis, y_axis}
use Rattle.std.proofs.Common.{ap, arith, inl, inr, refl, subst, sym}
use Rattle.std.proofs.lemmas.Int.{ints}
use Rattle.std.specs.List.{slice_index_or}
use Rattle.std.specs.Prelude.{◌^◌, List, [], length, suc, zero, ℕ, ◌∷◌, ◌≡◌, ◌<◌, ◌↔◌, ◌⊎◌}
use lib.IntN.{negsuc, pos, ℤ, ◌*ℤ◌}
use lib.Signed.{lt_z_yes, ◌≤ℤ◌}

abbrev quadrant : List Row
quadrant = y_axis ∷ x_axis ∷ []

-- ---- the quadrant has no lineality
none_echelon : IsEchelonBasis 2 [] []
none_echelon = record {
  basis = record { cols = tt; as_many = refl; positive = λ i l. absurd (omega arith); reduced = λ i j l m ne. absurd (omega arith); primitive = λ i l. absurd (omega arith) };
  ascending = λ i j l m. absurd (omega arith);
  before = λ i c l m. absurd (omega arith);
}

zero_at : (a b : ℤ) → a ≡ pos 0 → b ≡ pos 0 → IsZero (a ∷ b ∷ [])
zero_at a b e f zero = e
zero_at a b e f (suc zero) = f
zero_at a b e f (suc (suc i)) = refl

no_null : IsNullBasis 2 (x_axis ∷ y_axis ∷ []) [] []
no_null = record { echelon = none_echelon; null = λ x l. (λ h. null x (none_to_zero x h) l, λ h. by_two (λ x. IsNull (x_axis ∷ y_axis ∷ []) x → InSpan [] x) spanned x l h) }
  where
    null : (x : Row) → IsZero x → length x ≡ 2 → IsNull (x_axis ∷ y_axis ∷ []) x
    null [] z l = absurd (omega arith)
    null (a ∷ []) z l = absurd (omega arith)
    null (a ∷ b ∷ []) z l =
        let e : a ≡ pos 0 = z 0 in
        let f : b ≡ pos 0 = z 1 in
        (simp (e, f, ring), (simp (e, f, ring), tt))
    null (a ∷ b ∷ c ∷ x) z l = absurd (omega arith)

    spanned : (a b : ℤ) → IsNull (x_axis ∷ y_axis ∷ []) (a ∷ b ∷ []) → InSpan [] (a ∷ b ∷ [])
    spanned a b h =
        let e = simp ring at h.0 in
        let f = simp ring at h.1.0 in
        none_from_zero (a ∷ b ∷ []) (zero_at a b (omega (arith, ints)) (omega (arith, ints)))

determines : IsDetermining 2 [] (x_axis ∷ y_axis ∷ []) ((1 ∷ []) ∷ []) (y_axis ∷ [])
determines = record { lines = []; pivots = []; lineality = no_null; set = 1 ∷ []; listed = itself (1 ∷ []); rows = refl }

other_row : ¬ (IsDetermining 2 [] (x_axis ∷ y_axis ∷ []) ((1 ∷ []) ∷ []) (x_axis ∷ []))
other_row d =
    let p : d.pivots ≡ [] = (null_basis_unique 2 (x_axis ∷ y_axis ∷ []) d.lines [] d.pivots [] d.lineality no_null).1 in
    let s : d.set ≡ 1 ∷ [] = all_at (λ (z : List ℕ). z ≡ 1 ∷ []) (among_Contains ((1 ∷ []) ∷ []) d.listed) (refl, tt) in
    let e : x_axis ∷ [] ≡ y_axis ∷ [] = rw (p, s) at d.rows in
    let f = ap (λ (X : List Row). entry (row_at X 0) 0) e in
    omega (arith, ints)

-- ---- where a product is 0
across : (y : Row) (l : Row) → dot y l ≡ pos 0 → (x : Row) → InSpan (l ∷ []) x → pos 0 ≤ℤ dot y x
across y l e x h = dot_in y [] (l ∷ []) (λ g i. elim i [ ]) (λ z i. all_at (λ (z : Row). dot y z ≡ pos 0) i (e, tt)) h

on_x_axis : (x : Row) → length x ≡ 2 → InSpan (x_axis ∷ []) x ↔ IsNull (y_axis ∷ []) x
on_x_axis [] l = absurd (omega arith)
on_x_axis (a ∷ []) l = absurd (omega arith)
on_x_axis (a ∷ b ∷ []) l = (
  λ h.
      let up = simp ring at (across y_axis x_axis refl (a ∷ b ∷ []) h) in
      let down = simp ring at (across (pair (pos 0) (negsuc 0)) x_axis refl (a ∷ b ∷ []) h) in
      let e : b ≡ pos 0 = omega (arith, ints) in
      (simp (e, ring), tt),
  λ h.
      let e = simp ring at h.0 in
      let f : b ≡ pos 0 = omega (arith, ints) in
      record { m = pos 1; c = []; d = a ∷ []; positive = lt_z_yes tt; not_negative = tt; same = record { at = at a b f } },
)
  where
    at : (a b : ℤ) → b ≡ pos 0 → (i : ℕ) → entry (times (pos 1) (a ∷ b ∷ [])) i ≡ entry (plus (combination [] []) (combination (a ∷ []) (x_axis ∷ []))) i
    at a b f zero = simp ring
    at a b f (suc zero) = simp (f, ring)
    at a b f (suc (suc i)) = refl
on_x_axis (a ∷ b ∷ c ∷ x) l = absurd (omega arith)

on_y_axis : (x : Row) → length x ≡ 2 → InSpan (y_axis ∷ []) x ↔ IsNull (x_axis ∷ []) x
on_y_axis [] l = absurd (omega arith)
on_y_axis (a ∷ []) l = absurd (omega arith)
on_y_axis (a ∷ b ∷ []) l = (
  λ h.
      let up = simp ring at (across x_axis y_axis refl (a ∷ b ∷ []) h) in
      let down = simp ring at (across (pair (negsuc 0) (pos 0)) y_axis refl (a ∷ b ∷ []) h) in
      let e : a ≡ pos 0 = omega (arith, ints) in
      (simp (e, ring), tt),
  λ h.
      let e = simp ring at h.0 in
      let f : a ≡ pos 0 = omega (arith, ints) in
      record { m = pos 1; c = []; d = b ∷ []; positive = lt_z_yes tt; not_negative = tt; same = record { at = at a b f } },
)
  where
    at : (a b : ℤ) → a ≡ pos 0 → (i : ℕ) → entry (times (pos 1) (a ∷ b ∷ [])) i ≡ entry (plus (combination [] []) (combination (b ∷ []) (y_axis ∷ []))) i
    at a b f zero = simp (f, ring)
    at a b f (suc zero) = simp ring
    at a b f (suc (suc i)) = refl
on_y_axis (a ∷ b ∷ c ∷ x) l = absurd (omega arith)

-- the lineality of the half plane x >= 0
half_null : IsNullBasis 2 (x_axis ∷ []) (y_axis ∷ []) (1 ∷ [])
half_null = record { echelon = y_echelon; null = on_y_axis }

determines_by_pivot : IsDetermining 2 [] (x_axis ∷ []) ([] ∷ []) (y_axis ∷ [])
determines_by_pivot = record { lines = y_axis ∷ []; pivots = 1 ∷ []; lineality = half_null; set = []; listed = itself []; rows = refl }

pivot_left_out : ¬ (IsDetermining 2 [] (x_axis ∷ []) ([] ∷ []) [])
pivot_left_out d =
    let p : d.pivots ≡ 1 ∷ [] = (null_basis_unique 2 (x_axis ∷ []) d.lines (y_axis ∷ []) d.pivots (1 ∷ []) d.lineality half_null).1 in
    let s : d.set ≡ [] = all_at (λ (z : List ℕ). z ≡ []) (among_Contains ([] ∷ []) d.listed) (refl, tt) in
    let e : [] ≡ y_axis ∷ [] = rw (p, s) at d.rows in
    let f = ap (λ (X : List Row). length X) e in
    omega arith

determined : AreDetermined 2 [] (x_axis ∷ y_axis ∷ []) ((1 ∷ []) ∷ []) (x_axis ∷ [])
determined = record { each = each }
  where
    each : (lines : List Row) (P : List ℕ) → IsNullBasis 2 (x_axis ∷ y_axis ∷ []) lines P → (j : ℕ) → j < 1 → IsZero (row_at (x_axis ∷ []) j) ⊎ ((x : Row) → length x ≡ 2 → InSpan (row_at (x_axis ∷ []) j ∷ []) x ↔ IsNull (determining 2 [] (x_axis ∷ y_axis ∷ []) (slice_index_or ((1 ∷ []) ∷ []) j []) P) x)
    each lines P b zero l =
        let e : P ≡ [] = (null_basis_unique 2 (x_axis ∷ y_axis ∷ []) lines [] P [] b no_null).1 in
        inr (λ x lx. subst (λ Q. InSpan (x_axis ∷ []) x ↔ IsNull (determining 2 [] (x_axis ∷ y_axis ∷ []) (1 ∷ []) Q) x) (sym e) (on_x_axis x lx))
    each lines P b (suc j) l = absurd (omega arith)

undetermined : AreDetermined 2 [] (x_axis ∷ y_axis ∷ []) ((1 ∷ []) ∷ []) (pair (pos 0) (pos 0) ∷ [])
undetermined = record { each = each }
  where
    each : (lines : List Row) (P : List ℕ) → IsNullBasis 2 (x_axis ∷ y_axis ∷ []) lines P → (j : ℕ) → j < 1 → IsZero (row_at (pair (pos 0) (pos 0) ∷ []) j) ⊎ ((x : Row) → length x ≡ 2 → InSpan (row_at (pair (pos 0) (pos 0) ∷ []) j ∷ []) x ↔ IsNull (determining 2 [] (x_axis ∷ y_axis ∷ []) (slice_index_or ((1 ∷ []) ∷ []) j []) P) x)
    each lines P b zero l = inl (zero_at (pos 0) (pos 0) refl refl)
    each lines P b (suc j) l = absurd (omega arith)

not_determined : ¬ (AreDetermined 2 [] (x_axis ∷ y_axis ∷ []) ((1 ∷ []) ∷ []) (y_axis ∷ []))
not_determined d =
    elim (d.each [] [] no_null 0 (omega arith)) [
      | inl z ↦ let e = z 1 in omega (arith, ints)
      | inr same ↦ let up = across (pair (negsuc 0) (pos 0)) y_axis refl x_axis ((same x_axis refl).1 (refl, tt)) in omega (arith, ints)
    ]

-- ---- rows in canonical form
no_lineality : IsLinealityBasis 2 (InCone quadrant []) [] []
no_lineality = record { echelon = none_echelon; lines = λ x l. (λ h. lineality_spanned 2 quadrant [] (refl, (refl, tt)) tt diagonal tt tt x l h, λ h. record { inside = in_of quadrant [] [] (λ g i. elim i [ ]) h; opposed = in_of quadrant [] [] (λ g i. elim i [ ]) (lines_opposite [] x h) }) }

y_lineality : IsLinealityBasis 2 (InCone (x_axis ∷ []) (y_axis ∷ [])) (y_axis ∷ []) (1 ∷ [])
y_lineality = record { echelon = y_echelon; lines = λ x l. (λ h. lineality_spanned 2 (x_axis ∷ []) (y_axis ∷ []) (refl, tt) (refl, tt) x_axis tt tt x l h, λ h. record { inside = in_of (x_axis ∷ []) [] (y_axis ∷ []) (λ g i. elim i [ ]) h; opposed = in_of (x_axis ∷ []) [] (y_axis ∷ []) (λ g i. elim i [ ]) (lines_opposite (y_axis ∷ []) x h) }) }

zero_line : (G L : List Row) → InLineality (InCone G L) (pair (pos 0) (pos 0))
unfolding opposite
zero_line G L = record { inside = in_zero zeros; opposed = in_zero zeros }
  where
    zeros : (i : ℕ) → entry (pair (pos 0) (pos 0)) i ≡ pos 0
    zeros zero = refl
    zeros (suc zero) = refl
    zeros (suc (suc i)) = refl

halved : (G L : List Row) → SameModulo 2 (InCone G L) (pair (pos 0) (pos 2)) y_axis
halved G L = record { p = pos 2; k = pos 1; w = pair (pos 0) (pos 0); cols = refl; p_positive = lt_z_yes tt; k_positive = lt_z_yes tt; line = zero_line G L; same = record { at = at } }
  where
    at : (i : ℕ) → entry (times (pos 2) y_axis) i ≡ entry (plus (times (pos 1) (pair (pos 0) (pos 2))) (pair (pos 0) (pos 0))) i
    at zero = refl
    at (suc zero) = refl
    at (suc (suc i)) = refl

x_itself : (G L : List Row) → SameModulo 2 (InCone G L) x_axis x_axis
x_itself G L = record { p = pos 1; k = pos 1; w = pair (pos 0) (pos 0); cols = refl; p_positive = lt_z_yes tt; k_positive = lt_z_yes tt; line = zero_line G L; same = record { at = at } }
  where
    at : (i : ℕ) → entry (times (pos 1) x_axis) i ≡ entry (plus (times (pos 1) x_axis) (pair (pos 0) (pos 0))) i
    at zero = refl
    at (suc zero) = refl
    at (suc (suc i)) = refl

no_columns : (x : Row) (P : List ℕ) → P ≡ [] → VanishAt P x
no_columns x P e = subst (λ Q. VanishAt Q x) (sym e) (λ k d l. absurd (omega arith))

canonical : AreCanonicalFor 2 (InCone quadrant []) (pair (pos 0) (pos 2) ∷ x_axis ∷ []) quadrant
canonical = record {
  order = (halved quadrant [], (x_itself quadrant [], tt));
  primitive = All_among IsPrimitive quadrant primitive;
  reduced = λ K P b. All_among (VanishAt P) quadrant (λ x i. no_columns x P (one_lineality 2 (InCone quadrant []) K [] P [] b no_lineality));
}
  where
    primitive : (x : Row) → Among x quadrant → IsPrimitive x
    primitive x here = primitive_by_one y_axis 1 refl
    primitive x (there here) = primitive_by_one x_axis 0 refl
    primitive x (there (there i)) = elim i [ ]

not_primitive : ¬ (AreCanonicalFor 2 (InCone quadrant []) quadrant (pair (pos 0) (pos 2) ∷ x_axis ∷ []))
not_primitive c = let e = (c.primitive 0 [] (omega arith)).whole (pos 2) y_axis refl (lt_z_yes tt) (record { at = at }) in omega (arith, ints)
  where
    at : (i : ℕ) → entry (pair (pos 0) (pos 2)) i ≡ entry (times (pos 2) y_axis) i
    at zero = refl
    at (suc zero) = refl
    at (suc (suc i)) = refl

other_order : ¬ (AreCanonicalFor 2 (InCone quadrant []) quadrant (x_axis ∷ y_axis ∷ []))
other_order c =
    let s = c.order.0 in
    let z = none_to_zero s.w ((no_lineality.lines s.w s.cols).0 s.line) 0 in
    let e = simp (entry-times, entry-plus, z, ring) at (s.same.at 0) in
    let p = s.p_positive in
    omega (arith, ints)

reduced : AreCanonicalFor 2 (InCone (x_axis ∷ []) (y_axis ∷ [])) (diagonal ∷ []) (x_axis ∷ [])
unfolding opposite
reduced = record {
  order = (record { p = pos 1; k = pos 1; w = opposite y_axis; cols = refl; p_positive = lt_z_yes tt; k_positive = lt_z_yes tt; line = line; same = record { at = at } }, tt);
  primitive = All_among IsPrimitive (x_axis ∷ []) primitive;
  reduced = λ K P b. All_among (VanishAt P) (x_axis ∷ []) (zero_there P (one_lineality 2 (InCone (x_axis ∷ []) (y_axis ∷ [])) K (y_axis ∷ []) P (1 ∷ []) b y_lineality));
}
  where
    line : InLineality (InCone (x_axis ∷ []) (y_axis ∷ [])) (opposite y_axis)
    line = (y_lineality.lines (opposite y_axis) refl).1 (lines_opposite (y_axis ∷ []) y_axis (in_line here))

    at : (i : ℕ) → entry (times (pos 1) x_axis) i ≡ entry (plus (times (pos 1) diagonal) (opposite y_axis)) i
    at zero = refl
    at (suc zero) = refl
    at (suc (suc i)) = refl

    primitive : (x : Row) → Among x (x_axis ∷ []) → IsPrimitive x
    primitive x here = primitive_by_one x_axis 0 refl
    primitive x (there i) = elim i [ ]

    at_one : (c : ℕ) → Among c (1 ∷ []) → entry x_axis c ≡ pos 0
    at_one c i = all_at (λ (c : ℕ). entry x_axis c ≡ pos 0) i (refl, tt)

    zero_there : (P : List ℕ) → P ≡ 1 ∷ [] → (x : Row) → Among x (x_axis ∷ []) → VanishAt P x
    zero_there P e x here = subst (λ Q. VanishAt Q x_axis) (sym e) (All_among (λ c. entry x_axis c ≡ pos 0) (1 ∷ []) at_one)
    zero_there P e x (there i) = elim i [ ]

not_reduced : ¬ (AreCanonicalFor 2 (InCone (x_axis ∷ []) (y_axis ∷ [])) (diagonal ∷ []) (diagonal ∷ []))
not_reduced c = let e = c.reduced (y_axis ∷ []) (1 ∷ []) y_lineality 0 [] (omega arith) 0 0 (omega arith) in omega (arith, ints)

-- ---- the product of a determined row
on_larger : (x : Row) → length x ≡ 2 → InSpan (larger ∷ []) x ↔ IsNull (steep ∷ []) x
on_larger [] l = absurd (omega arith)
on_larger (a ∷ []) l = absurd (omega arith)
on_larger (a ∷ b ∷ []) l = (
  λ h.
      let up = simp ring at (across steep larger refl (a ∷ b ∷ []) h) in
      let down = simp ring at (across (pair (negsuc 0) (pos (2 ^ 64))) larger refl (a ∷ b ∷ []) h) in
      (simp ring (omega (arith, ints)), tt),
  λ h.
      let e = simp ring at h.0 in
      let f : a ≡ b *ℤ pos (2 ^ 64) = omega (arith, ints) in
      record { m = pos 1; c = []; d = b ∷ []; positive = lt_z_yes tt; not_negative = tt; same = record { at = at a b f } },
)
  where
    at : (a b : ℤ) → a ≡ b *ℤ pos (2 ^ 64) → (i : ℕ) → entry (times (pos 1) (a ∷ b ∷ [])) i ≡ entry (plus (combination [] []) (combination (b ∷ []) (larger ∷ []))) i
    at a b f zero = simp (f, ring)
    at a b f (suc zero) = simp ring
    at a b f (suc (suc i)) = refl
on_larger (a ∷ b ∷ c ∷ x) l = absurd (omega arith)

larger_echelon : IsEchelonBasis 2 (larger ∷ []) (0 ∷ [])
larger_echelon = one_echelon 2 larger 0 refl (lt_z_yes tt) (λ d l. absurd (omega arith)) (primitive_by_one larger 1 refl)

steep_null : IsNullBasis 2 (steep ∷ large ∷ []) [] []
steep_null = record { echelon = none_echelon; null = λ x l. (λ h. null x (none_to_zero x h) l, λ h. by_two (λ x. IsNull (steep ∷ large ∷ []) x → InSpan [] x) spanned x l h) }
  where
    null : (x : Row) → IsZero x → length x ≡ 2 → IsNull (steep ∷ large ∷ []) x
    null [] z l = absurd (omega arith)
    null (a ∷ []) z l = absurd (omega arith)
    null (a ∷ b ∷ []) z l =
        let e : a ≡ pos 0 = z 0 in
        let f : b ≡ pos 0 = z 1 in
        (simp (e, f, ring), (simp (e, f, ring), tt))
    null (a ∷ b ∷ c ∷ x) z l = absurd (omega arith)

    spanned : (a b : ℤ) → IsNull (steep ∷ large ∷ []) (a ∷ b ∷ []) → InSpan [] (a ∷ b ∷ [])
    spanned a b h =
        let e = simp ring at h.0 in
        let f = simp ring at h.1.0 in
        none_from_zero (a ∷ b ∷ []) (zero_at a b (omega (arith, ints)) (omega (arith, ints)))

sign : IsWideSign 2 [] (steep ∷ large ∷ []) ((0 ∷ []) ∷ []) larger large
sign = record {
  rows = steep ∷ [];
  determining = record { lines = []; pivots = []; lineality = steep_null; set = 0 ∷ []; listed = itself (0 ∷ []); rows = refl };
  column = 0 ∷ [];
  found_alone = record { echelon = larger_echelon; null = on_larger };
  listed = Contains_among {x = large} {xs = steep ∷ large ∷ []} (there here);
  wide = λ s. let h = s.products 0 in absurd (omega arith);
}

sign_turned : ¬ (IsWideSign 2 [] (steep ∷ large ∷ []) ((0 ∷ []) ∷ []) large larger)
sign_turned h = all_at (λ (z : Row). z ≡ larger → ⊥) (among_Contains (steep ∷ large ∷ []) h.listed) (λ e. apart e, (λ e. apart' e, tt)) refl
  where
    apart : steep ≡ larger → ⊥
    apart e = let f = ap (λ (x : Row). entry x 1) e in omega (arith, ints)

    apart' : large ≡ larger → ⊥
    apart' e = let f = ap (λ (x : Row). entry x 1) e in omega (arith, ints)

sign_of_another : ¬ (IsWideSign 2 [] (steep ∷ large ∷ []) ((0 ∷ []) ∷ []) large large)
sign_of_another h =
    let d = h.determining in
    let p : d.pivots ≡ [] = (null_basis_unique 2 (steep ∷ large ∷ []) d.lines [] d.pivots [] d.lineality steep_null).1 in
    let s : d.set ≡ 0 ∷ [] = all_at (λ (z : List ℕ). z ≡ 0 ∷ []) (among_Contains ((0 ∷ []) ∷ []) d.listed) (refl, tt) in
    let e : h.rows ≡ steep ∷ [] = rw (p, s) at d.rows in
    let n : IsNull (steep ∷ []) large = subst (λ (X : List Row). IsNull X large) e ((h.found_alone.null large refl).0 (in_line here)) in
    let z = n.0 in
    omega (arith, ints)

pub rows_from_sets_are_read : RowsFromSetsAreRead
rows_from_sets_are_read = record {
  holders = refl;
  turned = refl;
  rows = refl;
  determining = refl;
  determines = determines;
  other_row = other_row;
  determines_by_pivot = determines_by_pivot;
  pivot_left_out = pivot_left_out;
  determined = determined;
  undetermined = undetermined;
  not_determined = not_determined;
  canonical = canonical;
  not_primitive = not_primitive;
  other_order = other_order;
  reduced = reduced;
  not_reduced = not_reduced;
  sign = sign;
  sign_turned = sign_turned;
  turned_sign = sign;
  turned_sign_turned = sign_turned;
  sign_of_another = sign_of_another;
  memory = tt;
  turned_memory = tt;
}
