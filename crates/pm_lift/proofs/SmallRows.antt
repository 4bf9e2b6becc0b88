-- The lifted rows of one point, the places of three rows, and the refusals of one far point.
use Rattle.pm_geom.proofs.SmallProducts.{four_stays}
use Rattle.pm_vector.proofs.DivisorLaws.{IsPrimitive-from_one, IsPrimitiveOf-from_one}
use Rattle.pm_vector.proofs.Ring.{ring}
use Rattle.pm_vector.specs.Divisors.{IsGcdOf, IsPrimitiveOf}
use Rattle.pm_vector.specs.Numbers.{Ratio}
use Rattle.pm_vector.specs.Rows.{Row, SameDirection, entry, ratio_at, times}
use Rattle.pm_geom.specs.Evidence.{IsWideProduct}
use Rattle.pm_geom.specs.Faces.{ray}
use Rattle.pm_geom.specs.declared.evidence.Evidence.TheVariants.{E4}
use Rattle.pm_lift.specs.Examples.{PlacesAreRead, RefusalsAreRead, RowsAreRead, far, greatest, half, one_half, pair, ratio_of, whole}
use Rattle.pm_lift.specs.Lifting.{AreLifted, AreLiftedRows, AreRaisedRows, IsLiftedRow, IsRaisedRow, lifted, raised}
use Rattle.pm_lift.specs.Refusals.{IsLiftFail, IsPairOfSites, IsRaiseFail}
use Rattle.pm_lift.specs.declared.fails.LiftFail.TheVariants.{Many, Wide}
use Rattle.std.proofs.Common.{ap, arith, inl, inr, refl, suc, zero, ◌⊎◌}
use Rattle.std.proofs.Math.Nat.{one-dvd}
use Rattle.std.proofs.lemmas.Int.{ints}
use Rattle.std.proofs.lemmas.Nat.Gcd.{dvd_trans}
use Rattle.std.specs.Prelude.{[], length, unsigned_abs, ℕ, ◌<◌, ◌∷◌, ◌≡◌}
use lib.IntN.{negsuc, pos, ℤ}
use lib.Signed.{lt_z_yes, ◌<ℤ◌}

-- ---- primitive rows
-- what holds at the one place below 1
pub at_one : (P : ℕ → Type 0) → P 0 → (j : ℕ) → j < 1 → P j
at_one P a zero l = a
at_one P a (suc k) l = absurd (omega arith)

-- a row of which some entry is 1 or -1 has the greatest common divisor 1
pub gcd_one : (x : Row) (i : ℕ) → unsigned_abs (entry x i) ≡ 1 → IsGcdOf x 1
gcd_one x i e = record { divides = λ d. (λ h j. dvd_trans d h (one-dvd (unsigned_abs (entry x j))), λ f. rw e at (f i)) }

-- twice a row with such an entry is not primitive, nor is a greater multiple
multiple_is_none : (v x w : Row) (k : ℤ) → pos 1 <ℤ k → length w ≡ length x → x ≡ times k w → ¬ (entry x 0 ≡ pos 0) → IsPrimitiveOf v x → ⊥
multiple_is_none v x w k h l e some p = elim p.divided [
  | inl none ↦ some (none.1 0)
  | inr divided ↦
      let one = divided.3.whole k w l (omega (arith, ints)) (record { at = λ i. ap (λ r. entry r i) e }) in
      omega (arith, ints)
]

half_of : IsPrimitiveOf (pair (pos 4) (pos 2)) (pair (pos 2) (pos 1))
half_of = record { cols = refl; divided = inr (pos 2, lt_z_yes tt, record { at = λ i. refl }, IsPrimitive-from_one (pair (pos 2) (pos 1)) (gcd_one (pair (pos 2) (pos 1)) 1 refl)) }

-- ---- lifted rows
multiple : AreLifted 2 half one_half ((pos 2 ∷ pos 1 ∷ pos 1 ∷ []) ∷ [])
multiple = record {
  count = refl;
  cols = (refl, tt);
  same = at_one (λ j. SameDirection (ray ((pos 2 ∷ pos 1 ∷ pos 1 ∷ []) ∷ []) j) (lifted (ray half j) (ratio_at one_half j))) (record { p = pos 2; q = pos 1; p_positive = lt_z_yes tt; q_positive = lt_z_yes tt; same = record { at = λ i. refl } });
}

not_higher : AreLifted 2 half one_half ((pos 2 ∷ pos 1 ∷ pos 2 ∷ []) ∷ []) → ⊥
not_higher a =
    let s = a.same 0 (omega arith) in
    let up = s.q_positive in
    let x = simp ring at (s.same.at 0) in
    let y = simp ring at (s.same.at 2) in
    omega (arith, ints)

not_opposite : AreLifted 2 half one_half ((negsuc 1 ∷ negsuc 0 ∷ negsuc 0 ∷ []) ∷ []) → ⊥
not_opposite a =
    let s = a.same 0 (omega arith) in
    let p = s.p_positive in
    let q = s.q_positive in
    let x = simp ring at (s.same.at 0) in
    omega (arith, ints)

primitive : AreLiftedRows (pair (pos 4) (pos 2) ∷ []) one_half ((pos 2 ∷ pos 1 ∷ pos 1 ∷ []) ∷ [])
primitive = record { count = refl; each = at_one (λ j. IsLiftedRow (ray (pair (pos 4) (pos 2) ∷ []) j) (ratio_at one_half j) (ray ((pos 2 ∷ pos 1 ∷ pos 1 ∷ []) ∷ []) j)) one }
  where
    one : IsLiftedRow (pair (pos 4) (pos 2)) (ratio_of (pos 1) (pos 2)) (pos 2 ∷ pos 1 ∷ pos 1 ∷ [])
    one = record {
      row = pair (pos 2) (pos 1);
      primitive = half_of;
      lifted = record { cols = refl; divided = inr (pos 2, lt_z_yes tt, record { at = λ i. refl }, IsPrimitive-from_one (pos 2 ∷ pos 1 ∷ pos 1 ∷ []) (gcd_one (pos 2 ∷ pos 1 ∷ pos 1 ∷ []) 1 refl)) };
    }

on_paraboloid : AreRaisedRows (pair (pos 4) (pos 2) ∷ []) ((pos 4 ∷ pos 2 ∷ pos 1 ∷ []) ∷ [])
on_paraboloid = record { count = refl; each = at_one (λ j. IsRaisedRow (ray (pair (pos 4) (pos 2) ∷ []) j) (ray ((pos 4 ∷ pos 2 ∷ pos 1 ∷ []) ∷ []) j)) one }
  where
    one : IsRaisedRow (pair (pos 4) (pos 2)) (pos 4 ∷ pos 2 ∷ pos 1 ∷ [])
    one = record { row = pair (pos 2) (pos 1); primitive = half_of; raised = IsPrimitiveOf-from_one (pos 4 ∷ pos 2 ∷ pos 1 ∷ []) (gcd_one (pos 4 ∷ pos 2 ∷ pos 1 ∷ []) 2 refl) }

pub rows_are_read : RowsAreRead
rows_are_read = record {
  lifted = refl;
  raised = refl;
  upwards = refl;
  multiple = multiple;
  not_higher = not_higher;
  not_opposite = not_opposite;
  not_none = λ a. let e = a.count in omega arith;
  primitive = primitive;
  not_doubled = λ a. let s = a.each 0 (omega arith) in multiple_is_none (lifted s.row (ratio_of (pos 1) (pos 2))) (pos 4 ∷ pos 2 ∷ pos 2 ∷ []) (pos 2 ∷ pos 1 ∷ pos 1 ∷ []) (pos 2) (lt_z_yes tt) refl refl (λ e. omega (arith, ints)) s.lifted;
  not_fewer = λ a. let e = a.count in omega arith;
  on_paraboloid = on_paraboloid;
  not_tripled = λ a. let s = a.each 0 (omega arith) in multiple_is_none (raised s.row) (pos 12 ∷ pos 6 ∷ pos 3 ∷ []) (pos 4 ∷ pos 2 ∷ pos 1 ∷ []) (pos 3) (lt_z_yes tt) refl refl (λ e. omega (arith, ints)) s.raised;
  not_without_row = λ a. let e = a.count in omega arith;
}

-- ---- places
pub places_are_read : PlacesAreRead
places_are_read = record {
  counted_from_0 = refl;
  counted_from_3 = refl;
  sets = refl;
  not_falling = λ a. let e = a.ordered 0 1 [] (omega arith) (omega arith) in absurd cc;
}

-- ---- refusals
greatest_is_primitive : IsPrimitiveOf (pair (pos 1) greatest) (pair (pos 1) greatest)
greatest_is_primitive = IsPrimitiveOf-from_one (pair (pos 1) greatest) (gcd_one (pair (pos 1) greatest) 0 refl)

wide_twice : IsWideProduct (greatest ∷ []) (pos 2 ∷ [])
wide_twice s = let r = s.products 0 in omega (arith, ints)

wide_square : IsWideProduct (greatest ∷ []) (greatest ∷ [])
wide_square s = let r = s.products 0 in omega (arith, ints)

not_small : IsLiftFail 2 far one_half (Wide (E4 (pos 2 ∷ []) (pos 2 ∷ []))) → ⊥
not_small f = elim f [
  | inl w ↦ w.1 four_stays
  | inr x ↦ x.2.2 four_stays
]

not_four : IsRaiseFail 2 far (Wide (E4 (pos 2 ∷ []) (pos 2 ∷ []))) → ⊥
not_four f = elim f [
  | inl w ↦ w.1 four_stays
  | inr x ↦ x.2.2 four_stays
]

-- at the height 1 the second number is 1
not_two : (height : Ratio) → height ≡ ratio_of (pos 1) (pos 1) → (pos 2 ∷ [] ≡ height.den ∷ []) ⊎ (pos 2 ∷ [] ≡ height.num ∷ []) → ⊥
not_two height h e = elim e [
  | inl d ↦ let z = ap (λ r. entry r 0) (rw h at d) in omega (arith, ints)
  | inr n ↦ let z = ap (λ r. entry r 0) (rw h at n) in omega (arith, ints)
]

not_twice : IsLiftFail 2 far (whole 1 ∷ []) (Wide (E4 (greatest ∷ []) (pos 2 ∷ []))) → ⊥
not_twice f = elim f [
  | inl w ↦ not_two (ratio_at (whole 1 ∷ []) w.0.place) (at_one (λ j. ratio_at (whole 1 ∷ []) j ≡ ratio_of (pos 1) (pos 1)) refl w.0.place w.0.within) (second w.0)
  | inr x ↦ let e = x.2.0.extreme.cols in omega arith
]
  where
    second : (p : IsPairOfSites far (whole 1 ∷ []) (greatest ∷ []) (pos 2 ∷ [])) → (pos 2 ∷ [] ≡ (ratio_at (whole 1 ∷ []) p.place).den ∷ []) ⊎ (pos 2 ∷ [] ≡ (ratio_at (whole 1 ∷ []) p.place).num ∷ [])
    second p = elim p.pair.pair [
      | inl d ↦ inl d.3
      | inr n ↦ inr n.1
    ]

not_many : IsLiftFail 2 far one_half (Many (E4 (greatest ∷ []) (pos 2 ∷ []))) → ⊥
not_many f = elim f [
  | inl w ↦ w
  | inr x ↦ elim x.2 [
    | inl e ↦ e
    | inr d ↦ d.2
  ]
]

pub refusals_are_read : RefusalsAreRead
refusals_are_read = record {
  wide = inl (record { place = 0; within = omega arith; pair = record { row = pair (pos 1) greatest; primitive = greatest_is_primitive; pair = inl (1, omega arith, refl, refl) } }, wide_twice);
  not_small = not_small;
  not_twice = not_twice;
  square = inl (record { place = 0; within = omega arith; pair = record { row = pair (pos 1) greatest; primitive = greatest_is_primitive; pair = inr (refl, refl) } }, wide_square);
  not_four = not_four;
  memory = inl tt;
  not_many = not_many;
}
