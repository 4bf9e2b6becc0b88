-- Which thinnings by wide numbers are given up, and which rows from sets.
use Rattle.pm_vector.proofs.BasisExamples.{primitive_by_one}
use Rattle.pm_vector.proofs.ConeLaws.{none_from_zero, none_to_zero}
use Rattle.pm_vector.proofs.DivisorLaws.{IsPrimitive-from_one}
use Rattle.pm_vector.proofs.Lists.{Contains_among, among_Contains, here, there}
use Rattle.pm_vector.proofs.Ring.{ring}
use Rattle.pm_vector.proofs.Spans.{same_span_refl}
use Rattle.pm_vector.specs.Cones.{InSpan}
use Rattle.pm_vector.specs.Divisors.{IsGcdOf}
use Rattle.pm_vector.specs.Rows.{IsZero, Row, entry}
use Rattle.pm_dd.proofs.ZeroRows.{no_basis}
use Rattle.pm_elim.proofs.BasisLaws.{basis_unique}
use Rattle.pm_elim.proofs.DualLaws.{null_basis_unique}
use Rattle.pm_elim.proofs.LostExamples.{lost_eliminations_are_read, lost_steps_are_read}
use Rattle.pm_vector.specs.Evidence.{IsBasisOf}
use Rattle.pm_elim.specs.Lost.{IsLostOnExtended, IsLostOnNext}
use Rattle.pm_elim.specs.LostExamples.{even_next, even_row, odd_next, odd_row, one_entry, two_rows}
use Rattle.pm_vector.specs.NullSpaces.{IsNull, IsNullBasis}
use Rattle.pm_geom.proofs.ShortRows.{by_two}
use Rattle.pm_incidence.proofs.Products.{itself, only_one}
use Rattle.pm_incidence.proofs.ThinExamples.{one_echelon}
use Rattle.pm_incidence.specs.FromSets.{IsDetermining}
use Rattle.pm_incidence.specs.Lost.{IsLostOnRowOf, IsLostReduction, IsLostSet, SetsAreLost, ThinningIsLost}
use Rattle.pm_incidence.specs.LostExamples.{LostSetsAreRead, LostThinningIsRead, first_unit}
use Rattle.std.proofs.Common.{arith, inl, inr, refl, subst}
use Rattle.std.proofs.lemmas.Int.{ints}
use Rattle.std.proofs.lemmas.Nat.Gcd.{dvd_trans}
use Rattle.std.proofs.Math.Nat.{one-dvd}
use Rattle.std.specs.List.{Contains}
use Rattle.std.specs.Prelude.{[], length, suc, unsigned_abs, zero, ◌∷◌, ◌≡◌}
use lib.IntN.{pos, ℤ}
use lib.Signed.{lt_z_yes}

-- ---- rows
odd_basis : IsBasisOf 3 (odd_row ∷ []) (odd_row ∷ []) (0 ∷ [])
odd_basis = record { echelon = one_echelon 3 odd_row 0 refl (lt_z_yes tt) (λ d l. absurd (omega arith)) (primitive_by_one odd_row 1 refl); span = same_span_refl (odd_row ∷ []) }

even_gcd : IsGcdOf even_row 1
even_gcd = record { divides = λ d. (λ h j. dvd_trans d h (one-dvd (unsigned_abs (entry even_row j))), λ f. f 2) }

even_basis : IsBasisOf 3 (even_row ∷ []) (even_row ∷ []) (0 ∷ [])
even_basis = record { echelon = one_echelon 3 even_row 0 refl (lt_z_yes tt) (λ d l. absurd (omega arith)) (IsPrimitive-from_one even_row even_gcd); span = same_span_refl (even_row ∷ []) }

not_row : IsLostOnRowOf (even_row ∷ []) (0 ∷ []) (even_next ∷ []) → ⊥
not_row h = lost_steps_are_read.not_next (subst (λ (r : Row). IsLostOnNext (even_row ∷ []) (0 ∷ []) r) (only_one h.listed) h.lost)

reduction : IsLostReduction 3 (odd_next ∷ []) (odd_row ∷ []) (first_unit ∷ [])
reduction = record {
  basis = odd_row ∷ [];
  pivots = 0 ∷ [];
  is_basis = odd_basis;
  lost = record { row = odd_next; listed = itself odd_next; lost = lost_steps_are_read.next };
}

not_reduction : IsLostReduction 3 (even_next ∷ []) (even_row ∷ []) (first_unit ∷ []) → ⊥
not_reduction h =
    let (rows, columns) = basis_unique 3 (even_row ∷ []) h.basis (even_row ∷ []) h.pivots (0 ∷ []) h.is_basis even_basis in
    not_row (rw (rows, columns) at h.lost)

not_thinning : ThinningIsLost 3 (even_next ∷ []) (even_row ∷ []) (first_unit ∷ []) → ⊥
not_thinning (inl h) = lost_eliminations_are_read.not_one 3 even_row h
not_thinning (inr h) = not_reduction h

no_row : (x : Row) → Contains [] x → ⊥
no_row x c = elim (among_Contains [] c) [ ]

not_lines : ThinningIsLost 3 [] (odd_row ∷ []) (first_unit ∷ []) → ⊥
not_lines (inl h) = lost_eliminations_are_read.not_one 3 odd_row h
not_lines (inr h) = no_row h.lost.row h.lost.listed

pub lost_thinning_is_read : LostThinningIsRead
lost_thinning_is_read = record {
  row = record { row = odd_next; listed = Contains_among {x = odd_next} {xs = even_next ∷ odd_next ∷ []} (there here); lost = lost_steps_are_read.next };
  not_row = not_row;
  reduction = reduction;
  not_reduction = not_reduction;
  by_group = inl lost_eliminations_are_read.lost;
  by_reduction = inr reduction;
  not_lost = not_thinning;
  not_lines = not_lines;
  memory = tt;
  many = tt;
  not_wide = λ h. h;
}

-- ---- rows from sets
zero_at : (a b : ℤ) → a ≡ pos 0 → b ≡ pos 0 → IsZero (a ∷ b ∷ [])
zero_at a b e f zero = e
zero_at a b e f (suc zero) = f
zero_at a b e f (suc (suc i)) = refl

-- two independent rows of two entries, and the row (1), vanish on 0 alone
two_null : IsNullBasis 2 two_rows [] []
two_null = record { echelon = no_basis 2; null = λ x l. (λ h. by_two (λ x. IsZero x → IsNull two_rows x) null x l (none_to_zero x h), λ h. by_two (λ x. IsNull two_rows x → InSpan [] x) spanned x l h) }
  where
    null : (a b : ℤ) → IsZero (a ∷ b ∷ []) → IsNull two_rows (a ∷ b ∷ [])
    null a b z =
        let e : a ≡ pos 0 = z 0 in
        let f : b ≡ pos 0 = z 1 in
        (simp (e, f, ring), (simp (e, f, ring), tt))

    spanned : (a b : ℤ) → IsNull two_rows (a ∷ b ∷ []) → InSpan [] (a ∷ b ∷ [])
    spanned a b h =
        let e = simp ring at h.0 in
        let f = simp ring at h.1.0 in
        none_from_zero (a ∷ b ∷ []) (zero_at a b (omega (arith, ints)) (omega (arith, ints)))

one_null : IsNullBasis 1 one_entry [] []
one_null = record { echelon = no_basis 1; null = λ x l. (λ h. null x l (none_to_zero x h), λ h. spanned x l h) }
  where
    null : (x : Row) → length x ≡ 1 → IsZero x → IsNull one_entry x
    null [] l z = absurd (omega arith)
    null (a ∷ []) l z = let e : a ≡ pos 0 = z 0 in (simp (e, ring), tt)
    null (a ∷ b ∷ x) l z = absurd (omega arith)

    at : (a : ℤ) → a ≡ pos 0 → IsZero (a ∷ [])
    at a e zero = e
    at a e (suc i) = refl

    spanned : (x : Row) → length x ≡ 1 → IsNull one_entry x → InSpan [] x
    spanned [] l h = absurd (omega arith)
    spanned (a ∷ []) l h = let e = simp ring at h.0 in none_from_zero (a ∷ []) (at a (omega (arith, ints)))
    spanned (a ∷ b ∷ x) l h = absurd (omega arith)

both : IsDetermining 2 [] two_rows ((0 ∷ 1 ∷ []) ∷ []) two_rows
both = record { lines = []; pivots = []; lineality = two_null; set = 0 ∷ 1 ∷ []; listed = itself (0 ∷ 1 ∷ []); rows = refl }

lost_set : IsLostSet 2 [] two_rows ((0 ∷ 1 ∷ []) ∷ [])
lost_set = record { rows = two_rows; determining = both; lost = lost_eliminations_are_read.extended }

not_set : IsLostSet 1 [] one_entry ((0 ∷ []) ∷ []) → ⊥
not_set h =
    let d = h.determining in
    let p : d.pivots ≡ [] = (null_basis_unique 1 one_entry d.lines [] d.pivots [] d.lineality one_null).1 in
    let s : d.set ≡ 0 ∷ [] = only_one d.listed in
    let e : h.rows ≡ one_entry = rw (p, s) at d.rows in
    lost_eliminations_are_read.not_extended (subst (IsLostOnExtended 1) e h.lost)

no_set : IsLostSet 2 [] two_rows [] → ⊥
no_set h = elim (among_Contains [] h.determining.listed) [ ]

not_sets : SetsAreLost 1 [] one_entry ((0 ∷ []) ∷ []) → ⊥
not_sets (inl h) = lost_eliminations_are_read.not_extended h
not_sets (inr h) = not_set h

pub lost_sets_are_read : LostSetsAreRead
lost_sets_are_read = record {
  set = lost_set;
  not_set = not_set;
  no_set = no_set;
  all = inl lost_eliminations_are_read.extended;
  by_set = inr lost_set;
  not_lost = not_sets;
}
