-- The definitions read on rows of one and two entries.
use Rattle.pm_vector.proofs.ConeLaws.{in_line, in_zero}
use Rattle.pm_vector.proofs.Lists.{Among, here, there}
use Rattle.pm_vector.proofs.Ring.{ring}
use Rattle.pm_vector.proofs.RowLaws.{entry-times}
use Rattle.pm_vector.proofs.Signs.{mul_le, pos_cancel, weaken}
use Rattle.pm_vector.specs.Cones.{InSpan}
use Rattle.pm_vector.specs.Divisors.{IsPrimitive}
use Rattle.pm_vector.specs.Rows.{Row, Same, entry}
use Rattle.pm_vector.proofs.Rank.{basis_gives_rank, rank_is_determined}
use Rattle.pm_vector.proofs.Spans.{same_span, same_span_refl, same_span_sym, span_times}
use Rattle.pm_vector.specs.Bases.{IsEchelonBasis, IsRank, IsReducedBasis, SameSpan, column, row_at}
use Rattle.pm_vector.specs.BasisExamples.{BasesAreRead, pair, single}
use Rattle.std.proofs.Common.{arith, refl}
use Rattle.std.proofs.lemmas.Int.{ints}
use Rattle.std.specs.Prelude.{List, [], length, suc, zero, ℕ, ◌<◌, ◌∷◌, ◌≡◌}
use lib.IntN.{negsuc, pos, ℤ, ◌*ℤ◌}
use lib.Signed.{lt_z_yes, ◌<ℤ◌, ◌≤ℤ◌}

-- ---- a row with an entry 1 is primitive
unit_factor : (k z : ℤ) → pos 0 <ℤ k → pos 1 ≡ k *ℤ z → k ≡ pos 1
unit_factor k z h e =
    let up : pos 0 <ℤ z = pos_cancel h (omega (arith, ints)) in
    let one : pos 1 ≤ℤ z = omega (arith, ints) in
    let g = simp ring at (mul_le (weaken h) one) in
    omega (arith, ints)

pub primitive_by_one : (x : Row) (i : ℕ) → entry x i ≡ pos 1 → IsPrimitive x
primitive_by_one x i one = record { whole = λ k y l h s. let g = simp (entry-times, one) at (s.at i) in unit_factor k (entry y i) h g }

at_two : (a b a' b' : ℤ) → a ≡ a' → b ≡ b' → Same (a ∷ b ∷ []) (a' ∷ b' ∷ [])
at_two a b a' b' e f = record { at = go }
  where
    go : (i : ℕ) → entry (a ∷ b ∷ []) i ≡ entry (a' ∷ b' ∷ []) i
    go zero = e
    go (suc zero) = f
    go (suc (suc i)) = refl

-- ---- bases of two rows
abbrev units : List Row
units = pair 1 0 ∷ pair 0 1 ∷ []

abbrev turned : List Row
turned = pair 0 1 ∷ pair 1 0 ∷ []

units_basis : IsReducedBasis 2 units (0 ∷ 1 ∷ [])
units_basis = record { cols = (refl, (refl, tt)); as_many = refl; positive = positive; reduced = reduced; primitive = primitive }
  where
    positive : (i : ℕ) → i < 2 → pos 0 <ℤ entry (row_at units i) (column (0 ∷ 1 ∷ []) i)
    positive zero l = lt_z_yes tt
    positive (suc zero) l = lt_z_yes tt
    positive (suc (suc i)) l = absurd (omega arith)

    reduced : (i j : ℕ) → i < 2 → j < 2 → ¬ (i ≡ j) → entry (row_at units i) (column (0 ∷ 1 ∷ []) j) ≡ pos 0
    reduced zero zero l m ne = absurd (ne refl)
    reduced zero (suc zero) l m ne = refl
    reduced zero (suc (suc j)) l m ne = absurd (omega arith)
    reduced (suc zero) zero l m ne = refl
    reduced (suc zero) (suc zero) l m ne = absurd (ne refl)
    reduced (suc zero) (suc (suc j)) l m ne = absurd (omega arith)
    reduced (suc (suc i)) j l m ne = absurd (omega arith)

    primitive : (i : ℕ) → i < 2 → IsPrimitive (row_at units i)
    primitive zero l = primitive_by_one (pair 1 0) 0 refl
    primitive (suc zero) l = primitive_by_one (pair 0 1) 1 refl
    primitive (suc (suc i)) l = absurd (omega arith)

turned_basis : IsReducedBasis 2 turned (1 ∷ 0 ∷ [])
turned_basis = record { cols = (refl, (refl, tt)); as_many = refl; positive = positive; reduced = reduced; primitive = primitive }
  where
    positive : (i : ℕ) → i < 2 → pos 0 <ℤ entry (row_at turned i) (column (1 ∷ 0 ∷ []) i)
    positive zero l = lt_z_yes tt
    positive (suc zero) l = lt_z_yes tt
    positive (suc (suc i)) l = absurd (omega arith)

    reduced : (i j : ℕ) → i < 2 → j < 2 → ¬ (i ≡ j) → entry (row_at turned i) (column (1 ∷ 0 ∷ []) j) ≡ pos 0
    reduced zero zero l m ne = absurd (ne refl)
    reduced zero (suc zero) l m ne = refl
    reduced zero (suc (suc j)) l m ne = absurd (omega arith)
    reduced (suc zero) zero l m ne = refl
    reduced (suc zero) (suc zero) l m ne = absurd (ne refl)
    reduced (suc zero) (suc (suc j)) l m ne = absurd (omega arith)
    reduced (suc (suc i)) j l m ne = absurd (omega arith)

    primitive : (i : ℕ) → i < 2 → IsPrimitive (row_at turned i)
    primitive zero l = primitive_by_one (pair 0 1) 1 refl
    primitive (suc zero) l = primitive_by_one (pair 1 0) 0 refl
    primitive (suc (suc i)) l = absurd (omega arith)

plane : IsEchelonBasis 2 units (0 ∷ 1 ∷ [])
plane = record { basis = units_basis; ascending = ascending; before = before }
  where
    ascending : (i j : ℕ) → i < j → j < 2 → column (0 ∷ 1 ∷ []) i < column (0 ∷ 1 ∷ []) j
    ascending zero zero l m = absurd (omega arith)
    ascending zero (suc zero) l m = omega arith
    ascending zero (suc (suc j)) l m = absurd (omega arith)
    ascending (suc i) zero l m = absurd (omega arith)
    ascending (suc i) (suc zero) l m = absurd (omega arith)
    ascending (suc i) (suc (suc j)) l m = absurd (omega arith)

    before : (i c : ℕ) → i < 2 → c < column (0 ∷ 1 ∷ []) i → entry (row_at units i) c ≡ pos 0
    before zero c l m = absurd (omega arith)
    before (suc zero) zero l m = refl
    before (suc zero) (suc c) l m = absurd (omega arith)
    before (suc (suc i)) c l m = absurd (omega arith)

-- ---- bases of one row and of none
alone_basis : (n : ℕ) (x : Row) (c : ℕ) → length x ≡ n → entry x c ≡ pos 1 → IsReducedBasis n (x ∷ []) (c ∷ [])
alone_basis n x c l one = record { cols = (l, tt); as_many = refl; positive = positive; reduced = reduced; primitive = primitive }
  where
    positive : (i : ℕ) → i < 1 → pos 0 <ℤ entry (row_at (x ∷ []) i) (column (c ∷ []) i)
    positive zero m = rw one (lt_z_yes tt)
    positive (suc i) m = absurd (omega arith)

    reduced : (i j : ℕ) → i < 1 → j < 1 → ¬ (i ≡ j) → entry (row_at (x ∷ []) i) (column (c ∷ []) j) ≡ pos 0
    reduced i j m k ne = absurd (ne (omega arith))

    primitive : (i : ℕ) → i < 1 → IsPrimitive (row_at (x ∷ []) i)
    primitive zero m = primitive_by_one x c one
    primitive (suc i) m = absurd (omega arith)

none : IsEchelonBasis 2 [] []
none = record {
  basis = record { cols = tt; as_many = refl; positive = λ i l. absurd (omega arith); reduced = λ i j l m ne. absurd (omega arith); primitive = λ i l. absurd (omega arith) };
  ascending = λ i j l m. absurd (omega arith);
  before = λ i c l m. absurd (omega arith);
}

null : SameSpan (pair 0 0 ∷ []) []
null = same_span (pair 0 0 ∷ []) [] of_zero (λ r i. elim i [ ])
  where
    at_null : (i : ℕ) → entry (pair 0 0) i ≡ pos 0
    at_null zero = refl
    at_null (suc zero) = refl
    at_null (suc (suc i)) = refl

    of_zero : (r : Row) → Among r (pair 0 0 ∷ []) → InSpan [] r
    of_zero r here = in_zero at_null
    of_zero r (there i) = elim i [ ]

-- ---- spans
two_by : (G : List Row) (a b : Row) → InSpan G a → InSpan G b → (r : Row) → Among r (a ∷ b ∷ []) → InSpan G r
two_by G a b h k r here = h
two_by G a b h k r (there here) = k
two_by G a b h k r (there (there i)) = elim i [ ]

abbrev given : List Row
given = pair 2 4 ∷ pair 1 3 ∷ []

in_units : (a b : ℤ) → InSpan units (a ∷ b ∷ [])
in_units a b = record { m = pos 1; c = []; d = a ∷ b ∷ []; positive = lt_z_yes tt; not_negative = tt; same = at_two _ _ _ _ (simp ring (omega (arith, ints))) (simp ring (omega (arith, ints))) }

span : SameSpan given units
span = same_span given units
    (two_by units (pair 2 4) (pair 1 3) (in_units (pos 2) (pos 4)) (in_units (pos 1) (pos 3)))
    (two_by given (pair 1 0) (pair 0 1)
    (record { m = pos 2; c = []; d = pos 3 ∷ negsuc 3 ∷ []; positive = lt_z_yes tt; not_negative = tt; same = at_two _ _ _ _ refl refl })
    (record { m = pos 2; c = []; d = negsuc 0 ∷ pos 2 ∷ []; positive = lt_z_yes tt; not_negative = tt; same = at_two _ _ _ _ refl refl }))

parallel_span : SameSpan (pair 1 0 ∷ []) (pair 1 0 ∷ pair 2 0 ∷ [])
parallel_span = same_span (pair 1 0 ∷ []) (pair 1 0 ∷ pair 2 0 ∷ []) one
    (two_by (pair 1 0 ∷ []) (pair 1 0) (pair 2 0) (in_line here) (span_times (pos 2) (in_line here)))
  where
    one : (r : Row) → Among r (pair 1 0 ∷ []) → InSpan (pair 1 0 ∷ pair 2 0 ∷ []) r
    one r here = in_line here
    one r (there i) = elim i [ ]

-- ---- what is refused
twice : ¬ (IsReducedBasis 1 (single (pos 2) ∷ []) (0 ∷ []))
twice e = let k : pos 2 ≡ pos 1 = (e.primitive 0 (omega arith)).whole (pos 2) (single (pos 1)) refl (lt_z_yes tt) (record { at = λ i. refl }) in omega (arith, ints)

negative : ¬ (IsReducedBasis 1 (single (negsuc 0) ∷ []) (0 ∷ []))
negative e = absurd (e.positive 0 (omega arith)).lt

slanted : ¬ (IsReducedBasis 2 (pair 1 1 ∷ pair 0 1 ∷ []) (0 ∷ 1 ∷ []))
slanted e = let k : pos 1 ≡ pos 0 = e.reduced 0 1 (omega arith) (omega arith) (λ t. omega arith) in omega (arith, ints)

not_ascending : ¬ (IsEchelonBasis 2 turned (1 ∷ 0 ∷ []))
not_ascending e = let l : 1 < 0 = e.ascending 0 1 (omega arith) (omega arith) in omega arith

not_before : ¬ (IsEchelonBasis 2 (pair 1 1 ∷ []) (1 ∷ []))
not_before e = let k : pos 1 ≡ pos 0 = e.before 0 0 (omega arith) (omega arith) in omega (arith, ints)

not_both : (k : ℕ) → k ≡ 1 → ¬ (k ≡ 2)
not_both k e f = omega arith

parallel : ¬ (IsRank (pair 1 0 ∷ pair 2 0 ∷ []) 2)
parallel r = not_both 2 (rank_is_determined (pair 1 0 ∷ pair 2 0 ∷ []) 2 1 r (basis_gives_rank 2 (pair 1 0 ∷ []) (0 ∷ []) (pair 1 0 ∷ pair 2 0 ∷ []) (alone_basis 2 (pair 1 0) 0 refl refl) parallel_span)) refl

more : ¬ (IsRank units 1)
more r = not_both 1 refl (rank_is_determined units 1 2 r (basis_gives_rank 2 units (0 ∷ 1 ∷ []) units units_basis (same_span_refl units)))

pub bases_are_read : BasesAreRead
bases_are_read = record {
  plane = plane;
  span = span;
  rank = basis_gives_rank 2 units (0 ∷ 1 ∷ []) given units_basis (same_span_sym span);
  none = none;
  null = null;
  twice = twice;
  negative = negative;
  slanted = slanted;
  backward = turned_basis;
  not_ascending = not_ascending;
  late = alone_basis 2 (pair 1 1) 1 refl refl;
  not_before = not_before;
  parallel = parallel;
  more = more;
}
