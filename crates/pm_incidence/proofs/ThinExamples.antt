-- The examples of thinning and of rows from sets hold.
use Rattle.pm_vector.proofs.Lists.{AllPairs_cons, All_among, Among, Any_among, Contains_among, all_at, among_All, among_Any, among_Contains, here, there}
use Rattle.pm_vector.proofs.RowLaws.{entry-times}
use Rattle.pm_vector.specs.Cones.{InSpan, combination}
use Rattle.pm_vector.specs.Divisors.{IsPrimitive}
use Rattle.pm_vector.specs.Numbers.{InRange}
use Rattle.pm_vector.specs.Rows.{Row, difference, dot, entry, plus, times}
use Rattle.pm_vector.proofs.BasisExamples.{primitive_by_one}
use Rattle.pm_vector.proofs.Spans.{same_span_refl}
use Rattle.pm_vector.proofs.Unique.{echelon_is_unique}
use Rattle.pm_bits.specs.Sets.{IsSubset, has}
use Rattle.pm_vector.specs.Bases.{IsEchelonBasis, column, row_at}
use Rattle.pm_dd.specs.Tables.{IsZeroSet, zero_set}
use Rattle.pm_incidence.proofs.Described.{cone_apart}
use Rattle.pm_incidence.proofs.Products.{itself, unit_stays}
use Rattle.pm_incidence.specs.Examples.{pair}
use Rattle.pm_incidence.specs.ThinExamples.{KeptAreRead, ThinningIsRead, antidiagonal, bits, diagonal, large, larger, marks, sets, x_axis, x_turned, y_axis}
use Rattle.pm_incidence.specs.Thinning.{AreKept, AreZeroSets, HasPointAmong, IsBasisAndRow, IsFull, IsKeptSet, IsThinned, IsWideIncidence, MarkFull}
use Rattle.pm_object_type.specs.declared.object_type.ObjectType.TheVariants.{Polytope}
use Rattle.std.proofs.Common.{ap, arith, inl, inr, refl, sym, true≢false}
use Rattle.std.proofs.lemmas.Int.{ints}
use Rattle.std.specs.List.{All, Contains}
use Rattle.std.specs.Prelude.{IsTrue, List, [], false, get_or, length, suc, true, zero, ℕ, ◌∷◌, ◌≡◌, ◌<◌, ◌≤◌, ◌↔◌}
use lib.IntN.{pos, ℤ}
use lib.Signed.{lt_z_yes, ◌<ℤ◌}

-- ---- evidence
only : (x y : Row) → Contains (y ∷ []) x → x ≡ y
only x y h = all_at (λ (z : Row). z ≡ y) (among_Contains (y ∷ []) h) (refl, tt)

wide_example : IsWideIncidence (large ∷ []) (larger ∷ []) large larger
wide_example = record { generator = itself large; inequality = itself larger; wide = λ s. let h = s.products 0 in absurd (omega arith) }

second_entry : large ≡ larger → ⊥
second_entry e = let h = ap (λ (x : Row). entry x 1) e in omega (arith, ints)

wide_turned : ¬ (IsWideIncidence (large ∷ []) (larger ∷ []) larger large)
wide_turned h = second_entry (sym (only larger large h.generator))

larger_ranged : All InRange larger
larger_ranged = All_among InRange larger go
  where
    go : (z : ℤ) → Among z larger → InRange z
    go z here = omega arith
    go z (there here) = omega arith
    go z (there (there i)) = elim i [ ]

-- ---- first entries
no_point : ¬ (HasPointAmong Polytope (y_axis ∷ x_turned ∷ []))
no_point h = let w = among_Any (λ v. pos 0 <ℤ entry v 0) (y_axis ∷ x_turned ∷ []) h in go w.0 w.1 w.2
  where
    go : (v : Row) → Among v (y_axis ∷ x_turned ∷ []) → pos 0 <ℤ entry v 0 → ⊥
    go v here l = omega (arith, ints)
    go v (there here) l = omega (arith, ints)
    go v (there (there i)) l = elim i [ ]

-- ---- (2, 4) reduced by (0, 1)
abbrev reduced_row : Row
reduced_row = pair (pos 2) (pos 0)

thinned_example : IsThinned (y_axis ∷ []) (1 ∷ []) (pair (pos 2) (pos 4)) x_axis
unfolding difference
thinned_example = record {
  reduced = reduced_row;
  cols = refl;
  direction = record { p = pos 1; g = pos 1; p_positive = lt_z_yes tt; g_positive = lt_z_yes tt; inside = on_axis };
  zeros = All_among (λ c. entry reduced_row c ≡ pos 0) (1 ∷ []) vanishes;
  primitive = record { cols = refl; divided = inr (pos 2, lt_z_yes tt, record { at = halves }, primitive_by_one x_axis 0 refl) };
}
  where
    on_axis : InSpan (y_axis ∷ []) (difference (pos 1) (pair (pos 2) (pos 4)) (pos 1) reduced_row)
    on_axis = record { m = pos 1; c = []; d = pos 4 ∷ []; positive = lt_z_yes tt; not_negative = tt; same = record { at = at } }
      where
        at : (i : ℕ) → entry (times (pos 1) (difference (pos 1) (pair (pos 2) (pos 4)) (pos 1) reduced_row)) i ≡ entry (plus (combination [] []) (combination (pos 4 ∷ []) (y_axis ∷ []))) i
        at zero = refl
        at (suc zero) = refl
        at (suc (suc i)) = refl

    vanishes : (c : ℕ) → Among c (1 ∷ []) → entry reduced_row c ≡ pos 0
    vanishes c here = refl
    vanishes c (there i) = elim i [ ]

    halves : (i : ℕ) → entry reduced_row i ≡ entry (times (pos 2) x_axis) i
    halves zero = refl
    halves (suc zero) = refl
    halves (suc (suc i)) = refl

not_reduced : ¬ (IsThinned (y_axis ∷ []) (1 ∷ []) (pair (pos 2) (pos 4)) diagonal)
not_reduced h =
    let z = among_All (λ c. entry h.reduced c ≡ pos 0) {x = 1} {xs = 1 ∷ []} here h.zeros in
    elim h.primitive.divided [
      | inl none ↦ let e = none.1 0 in omega (arith, ints)
      | inr some ↦ let e = simp entry-times at (some.2.at 1) in let p = some.1 in omega (arith, ints)
    ]

not_primitive : ¬ (IsThinned (y_axis ∷ []) (1 ∷ []) (pair (pos 2) (pos 4)) (pair (pos 2) (pos 0)))
not_primitive h =
    elim h.primitive.divided [
      | inl none ↦ let e = none.1 0 in omega (arith, ints)
      | inr some ↦ let e = some.3.whole (pos 2) x_axis refl (lt_z_yes tt) (record { at = halves }) in omega (arith, ints)
    ]
  where
    halves : (i : ℕ) → entry (pair (pos 2) (pos 0)) i ≡ entry (times (pos 2) x_axis) i
    halves zero = refl
    halves (suc zero) = refl
    halves (suc (suc i)) = refl

-- ---- a basis and a row behind it
-- a primitive row whose first entry that is not 0 is positive is a basis by itself
pub one_echelon : (n : ℕ) (b : Row) (c : ℕ) → length b ≡ n → pos 0 <ℤ entry b c → ((d : ℕ) → d < c → entry b d ≡ pos 0) → IsPrimitive b → IsEchelonBasis n (b ∷ []) (c ∷ [])
one_echelon n b c cols up zeros prime = record {
  basis = record { cols = (cols, tt); as_many = refl; positive = positive; reduced = λ i j l m ne. absurd (ne (omega arith)); primitive = primitive };
  ascending = λ i j l m. absurd (omega arith);
  before = before;
}
  where
    positive : (i : ℕ) → i < 1 → pos 0 <ℤ entry (row_at (b ∷ []) i) (column (c ∷ []) i)
    positive zero l = up
    positive (suc i) l = absurd (omega arith)

    primitive : (i : ℕ) → i < 1 → IsPrimitive (row_at (b ∷ []) i)
    primitive zero l = prime
    primitive (suc i) l = absurd (omega arith)

    before : (i d : ℕ) → i < 1 → d < column (c ∷ []) i → entry (row_at (b ∷ []) i) d ≡ pos 0
    before zero d l m = zeros d m
    before (suc i) d l m = absurd (omega arith)

pub y_echelon : IsEchelonBasis 2 (y_axis ∷ []) (1 ∷ [])
y_echelon = one_echelon 2 y_axis 1 refl (lt_z_yes tt) before (primitive_by_one y_axis 1 refl)
  where
    before : (d : ℕ) → d < 1 → entry y_axis d ≡ pos 0
    before zero l = refl
    before (suc d) l = absurd (omega arith)

basis_and_row : IsBasisAndRow 2 (diagonal ∷ y_axis ∷ []) [] (x_axis ∷ []) (y_axis ∷ diagonal ∷ [])
basis_and_row = record {
  basis = y_axis ∷ [];
  pivots = 1 ∷ [];
  is_basis = record { echelon = y_echelon; span = same_span_refl (y_axis ∷ []) };
  row = diagonal;
  listed = Contains_among {x = diagonal} {xs = diagonal ∷ y_axis ∷ []} here;
  rows = refl;
}

row_and_basis : ¬ (IsBasisAndRow 2 (diagonal ∷ y_axis ∷ []) [] (x_axis ∷ []) (diagonal ∷ y_axis ∷ []))
row_and_basis h =
    let b : h.basis ≡ y_axis ∷ [] = (echelon_is_unique 2 h.basis (y_axis ∷ []) h.pivots (1 ∷ []) h.is_basis.echelon y_echelon h.is_basis.span).0 in
    let e : diagonal ∷ y_axis ∷ [] ≡ y_axis ∷ h.row ∷ [] = rw b at h.rows in
    let f = ap (λ (X : List Row). entry (row_at X 0) 0) e in
    omega (arith, ints)

pub thinning_is_read : ThinningIsRead
thinning_is_read = record {
  flat = refl;
  not_flat = refl;
  group = refl;
  basis_and_row = basis_and_row;
  row_and_basis = row_and_basis;
  polytope = refl;
  cone = refl;
  fan = refl;
  point = Any_among (λ v. pos 0 <ℤ entry v 0) {x = x_axis} {xs = y_axis ∷ x_axis ∷ []} (there here) (lt_z_yes tt);
  no_point = no_point;
  cone_point = tt;
  behind = (refl, lt_z_yes tt);
  far = λ h. let l = h.1 in omega (arith, ints);
  cone_behind = λ h. cone_apart h.0;
  wide = wide_example;
  wide_turned = wide_turned;
  in_range = λ h. h.wide (unit_stays 2 larger larger_ranged);
  fail = wide_example;
  fail_turned = wide_turned;
  memory = tt;
  facets_fail = record { generator = itself larger; inequality = itself large; wide = λ s. let h = s.products 0 in absurd (omega arith) };
  equation_fail = record { generator = itself larger; inequality = itself large; wide = λ s. let h = s.products 0 in absurd (omega arith) };
  facets_turned = λ h. second_entry (only large larger h.generator);
  facets_memory = tt;
  thinned = thinned_example;
  not_reduced = not_reduced;
  not_primitive = not_primitive;
}

-- ---- sets
zeros_example : AreZeroSets (y_axis ∷ antidiagonal ∷ []) (x_axis ∷ diagonal ∷ []) ((true ∷ false ∷ []) ∷ (false ∷ true ∷ []) ∷ [])
zeros_example = record { as_many = refl; each = each }
  where
    first_set : (p : ℕ) → IsTrue (has (true ∷ false ∷ []) p) ↔ ((p < 2) × (dot (row_at (y_axis ∷ antidiagonal ∷ []) p) x_axis ≡ pos 0))
    first_set zero = (λ h. (omega arith, refl), λ h. refl)
    first_set (suc zero) = (λ h. absurd (true≢false (sym h)), λ h. let e = h.1 in absurd (omega (arith, ints)))
    first_set (suc (suc p)) = (λ h. absurd (true≢false (sym h)), λ h. let l = h.0 in absurd (omega arith))

    second_set : (p : ℕ) → IsTrue (has (false ∷ true ∷ []) p) ↔ ((p < 2) × (dot (row_at (y_axis ∷ antidiagonal ∷ []) p) diagonal ≡ pos 0))
    second_set zero = (λ h. absurd (true≢false (sym h)), λ h. let e = h.1 in absurd (omega (arith, ints)))
    second_set (suc zero) = (λ h. (omega arith, refl), λ h. refl)
    second_set (suc (suc p)) = (λ h. absurd (true≢false (sym h)), λ h. let l = h.0 in absurd (omega arith))

    each : (k : ℕ) → k < 2 → IsZeroSet (y_axis ∷ antidiagonal ∷ []) 2 (row_at (x_axis ∷ diagonal ∷ []) k) (zero_set ((true ∷ false ∷ []) ∷ (false ∷ true ∷ []) ∷ []) k)
    each zero l = record { as_many = refl; exact = first_set }
    each (suc zero) l = record { as_many = refl; exact = second_set }
    each (suc (suc k)) l = absurd (omega arith)

not_true : {P : Type 0} → IsTrue false → P
not_true h = absurd (true≢false (sym h))

marked_example : MarkFull sets marks
marked_example = record { as_many = refl; full = full; not_full = not_full }
  where
    all_three : (p : ℕ) → p < 3 → IsTrue (has (bits true true true) p)
    all_three zero l = refl
    all_three (suc zero) l = refl
    all_three (suc (suc zero)) l = refl
    all_three (suc (suc (suc p))) l = absurd (omega arith)

    full : (k : ℕ) → k < 5 → IsTrue (get_or marks k false) → IsFull (zero_set sets k)
    full zero l h = not_true h
    full (suc zero) l h = all_three
    full (suc (suc zero)) l h = not_true h
    full (suc (suc (suc zero))) l h = not_true h
    full (suc (suc (suc (suc zero)))) l h = not_true h
    full (suc (suc (suc (suc (suc k))))) l h = absurd (omega arith)

    not_full : (k : ℕ) → k < 5 → IsFull (zero_set sets k) → IsTrue (get_or marks k false)
    not_full zero l h = not_true (h 2 (omega arith))
    not_full (suc zero) l h = refl
    not_full (suc (suc zero)) l h = not_true (h 2 (omega arith))
    not_full (suc (suc (suc zero))) l h = not_true (h 0 (omega arith))
    not_full (suc (suc (suc (suc zero)))) l h = not_true (h 1 (omega arith))
    not_full (suc (suc (suc (suc (suc k))))) l h = absurd (omega arith)

first_kept : IsKeptSet sets marks 0
first_kept = record { unmarked = λ h. not_true h; greatest = greatest }
  where
    greatest : (j : ℕ) → j < 5 → ¬ (IsTrue (get_or marks j false)) → IsSubset (zero_set sets 0) (zero_set sets j) → (0 ≤ j) × IsSubset (zero_set sets j) (zero_set sets 0)
    greatest zero l u s = (omega arith, λ i h. h)
    greatest (suc zero) l u s = absurd (u refl)
    greatest (suc (suc zero)) l u s = (omega arith, λ i h. h)
    greatest (suc (suc (suc zero))) l u s = not_true (s 0 refl)
    greatest (suc (suc (suc (suc zero)))) l u s = not_true (s 1 refl)
    greatest (suc (suc (suc (suc (suc j))))) l u s = absurd (omega arith)

small_kept : IsKeptSet sets marks 3
small_kept = record { unmarked = λ h. not_true h; greatest = greatest }
  where
    greatest : (j : ℕ) → j < 5 → ¬ (IsTrue (get_or marks j false)) → IsSubset (zero_set sets 3) (zero_set sets j) → (3 ≤ j) × IsSubset (zero_set sets j) (zero_set sets 3)
    greatest zero l u s = not_true (s 2 refl)
    greatest (suc zero) l u s = absurd (u refl)
    greatest (suc (suc zero)) l u s = not_true (s 2 refl)
    greatest (suc (suc (suc zero))) l u s = (omega arith, λ i h. h)
    greatest (suc (suc (suc (suc zero)))) l u s = not_true (s 2 refl)
    greatest (suc (suc (suc (suc (suc j))))) l u s = absurd (omega arith)

second_not_kept : ¬ (IsKeptSet sets marks 2)
second_not_kept k = let w = (k.greatest 0 (omega arith) (λ h. not_true h) (λ i h. h)).0 in omega arith

full_not_kept : ¬ (IsKeptSet sets marks 1)
full_not_kept k = k.unmarked refl

less_not_kept : ¬ (IsKeptSet sets marks 4)
less_not_kept k = not_true ((k.greatest 0 (omega arith) (λ h. not_true h) part).1 1 refl)
  where
    part : IsSubset (zero_set sets 4) (zero_set sets 0)
    part zero h = refl
    part (suc i) h = absurd (none i h)
      where
        none : (i : ℕ) → IsTrue (has (bits true false false) (suc i)) → ⊥
        none zero h = not_true h
        none (suc zero) h = not_true h
        none (suc (suc i)) h = not_true h

kept_example : AreKept sets marks (0 ∷ 3 ∷ [])
kept_example = record { each = All_among (λ i. (i < 5) × IsKeptSet sets marks i) (0 ∷ 3 ∷ []) each; every = every; ascending = AllPairs_cons (λ (i j : ℕ). i < j) 0 (3 ∷ []) rising (λ i j d l m. absurd (omega arith)) }
  where
    each : (i : ℕ) → Among i (0 ∷ 3 ∷ []) → (i < 5) × IsKeptSet sets marks i
    each i here = (omega arith, first_kept)
    each i (there here) = (omega arith, small_kept)
    each i (there (there j)) = elim j [ ]

    every : (i : ℕ) → i < 5 → IsKeptSet sets marks i → Contains (0 ∷ 3 ∷ []) i
    every zero l k = Contains_among {x = 0} {xs = 0 ∷ 3 ∷ []} here
    every (suc zero) l k = absurd (full_not_kept k)
    every (suc (suc zero)) l k = absurd (second_not_kept k)
    every (suc (suc (suc zero))) l k = Contains_among {x = 3} {xs = 0 ∷ 3 ∷ []} (there here)
    every (suc (suc (suc (suc zero)))) l k = absurd (less_not_kept k)
    every (suc (suc (suc (suc (suc i))))) l k = absurd (omega arith)

    rising : (j : ℕ) → Among j (3 ∷ []) → 0 < j
    rising j here = omega arith
    rising j (there i) = elim i [ ]

pub kept_are_read : KeptAreRead
kept_are_read = record {
  zeros = zeros_example;
  zeros_turned = λ z. let h = (((z.each 0 (omega arith)).exact 1).0 refl).1 in omega (arith, ints);
  marked = marked_example;
  none_marked = λ m. not_true (m.not_full 1 (omega arith) (marked_example.full 1 (omega arith) refl));
  too_many = λ m. not_true (m.full 0 (omega arith) refl 2 (omega arith));
  first = first_kept;
  second = second_not_kept;
  full = full_not_kept;
  greater = less_not_kept;
  small = small_kept;
  kept = kept_example;
  descending = λ k. let h = k.ascending 0 1 0 (omega arith) (omega arith) in omega arith;
  left_out = λ k. missing (among_Contains (0 ∷ []) (k.every 3 (omega arith) small_kept)) refl;
  doubled = λ k. second_not_kept (k.each 1 0 (omega arith)).1;
}
  where
    missing : {i : ℕ} → Among i (0 ∷ []) → ¬ (i ≡ 3)
    missing i e = all_at (λ (j : ℕ). ¬ (j ≡ 3)) i ((λ e. omega (arith, e)), tt) e
