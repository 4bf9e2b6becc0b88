-- The definitions of linear programs on small programs.
use Rattle.pm_vector.proofs.Ring.{ring}
use Rattle.pm_vector.proofs.Signs.{mul_pos}
use Rattle.pm_vector.specs.Rows.{Row, dot, entry, ratio_at}
use Rattle.pm_geom.proofs.Duality.{direction_is_without_bound, infeasible_excludes, infeasible_has_no_point, optimum_is_maximum, weak_duality}
use Rattle.pm_geom.specs.ProgramExamples.{ProgramsAreRead, nothing, positive_line, ratio, row, segment, wholes}
use Rattle.pm_geom.specs.Programs.{HasValue, IsAttained, IsDual, IsInfeasible, IsOptimal, IsPoint, IsTimes, IsUnbounded, Solves}
use Rattle.std.proofs.Common.{arith, refl}
use Rattle.std.proofs.lemmas.Int.{ints}
use Rattle.std.specs.Prelude.{[], length, suc, zero, ℕ, ◌<◌, ◌∷◌, ◌≡◌}
use lib.IntN.{neg_ℤ, negsuc, pos, ℤ, ◌*ℤ◌}
use lib.Signed.{◌<ℤ◌, ◌≤ℤ◌}

whole_den : (x : Row) (i : ℕ) → i < length x → (ratio_at (wholes x) i).den ≡ pos 1
whole_den [] i l = absurd (omega arith)
whole_den (a ∷ x) zero l = refl
whole_den (a ∷ x) (suc i) l = whole_den x i (omega arith)

whole_num : (x : Row) (i : ℕ) → i < length x → (ratio_at (wholes x) i).num ≡ entry x i
whole_num [] i l = absurd (omega arith)
whole_num (a ∷ x) zero l = refl
whole_num (a ∷ x) (suc i) l = whole_num x i (omega arith)

whole_length : (x : Row) → length x ≡ length (wholes x)
whole_length [] = refl
whole_length (a ∷ x) = let e = whole_length x in omega arith

whole_times : (x : Row) → IsTimes (pos 1) (wholes x) x
whole_times x = record {
  positive = omega (arith, ints);
  cols = whole_length x;
  denominators = λ i l. rw (whole_den x i (let e = whole_length x in omega arith)) (omega (arith, ints));
  same = λ i l. let e = whole_length x in rw (whole_den x i (omega arith), whole_num x i (omega arith)) (simp ring);
}

up_two : (a b : ℤ) → pos 0 ≤ℤ a → pos 0 ≤ℤ b → (i : ℕ) → i < 2 → pos 0 ≤ℤ (ratio_at (wholes (row a b)) i).num
up_two a b h k zero l = h
up_two a b h k (suc zero) l = k
up_two a b h k (suc (suc i)) l = absurd (omega arith)

one_value : HasValue (wholes (row (pos 0) (pos 1))) (wholes (row (pos 1) (pos 1))) (ratio (pos 1) (pos 1))
one_value = record { k = pos 1; h = pos 1; objective = row (pos 0) (pos 1); point = row (pos 1) (pos 1); objective_times = whole_times (row (pos 0) (pos 1)); point_times = whole_times (row (pos 1) (pos 1)); positive = omega (arith, ints); value = refl }

one_point : IsPoint segment [] (wholes (row (pos 1) (pos 1)))
one_point = record { some = omega arith; first = refl; k = pos 1; whole = row (pos 1) (pos 1); times = whole_times (row (pos 1) (pos 1)); solves = record { inequalities = (omega (arith, ints), (omega (arith, ints), tt)); equations = tt } }

one_dual : IsDual segment [] (wholes (row (pos 0) (pos 1))) (ratio (pos 1) (pos 1)) (wholes (row (pos 0) (pos 1)))
one_dual = record {
  multipliers = record { as_many = refl; not_negative = up_two (pos 0) (pos 1) (omega (arith, ints)) (omega (arith, ints)) };
  k = pos 1;
  objective = row (pos 0) (pos 1);
  coefficients = row (pos 0) (pos 1);
  constant = pos 1;
  objective_times = whole_times (row (pos 0) (pos 1));
  coefficients_times = whole_times (row (pos 0) (pos 1));
  positive = omega (arith, ints);
  constant_times = refl;
  sum = record { at = sums };
}
  where
    sums : (i : ℕ) → entry (pos 1 ∷ pos 0 ∷ []) i ≡ entry (pos 1 ∷ []) i
    sums zero = refl
    sums (suc zero) = refl
    sums (suc (suc i)) = refl

no_infeasible : IsInfeasible nothing [] (wholes (row (pos 1) (pos 1)))
no_infeasible = record {
  multipliers = record { as_many = refl; not_negative = up_two (pos 1) (pos 1) (omega (arith, ints)) (omega (arith, ints)) };
  k = pos 1;
  coefficients = row (pos 1) (pos 1);
  constant = negsuc 0;
  coefficients_times = whole_times (row (pos 1) (pos 1));
  negative = omega (arith, ints);
  sum = record { at = sums };
}
  where
    sums : (i : ℕ) → entry (negsuc 0 ∷ pos 0 ∷ []) i ≡ entry (negsuc 0 ∷ []) i
    sums zero = refl
    sums (suc zero) = refl
    sums (suc (suc i)) = refl

one_optimum : IsOptimal segment [] (wholes (row (pos 0) (pos 1))) (ratio (pos 1) (pos 1)) (wholes (row (pos 1) (pos 1))) (wholes (row (pos 0) (pos 1)))
one_optimum = record { cols = refl; point = one_point; value = one_value; dual = one_dual }

one_direction : IsUnbounded positive_line [] (wholes (row (pos 0) (pos 1))) (wholes (row (pos 1) (pos 0))) (wholes (row (pos 0) (pos 1)))
one_direction = record {
  point_cols = refl;
  direction_cols = refl;
  point = record { some = omega arith; first = refl; k = pos 1; whole = row (pos 1) (pos 0); times = whole_times (row (pos 1) (pos 0)); solves = record { inequalities = (omega (arith, ints), tt); equations = tt } };
  direction = record { some = omega arith; first = refl; k = pos 1; whole = row (pos 0) (pos 1); times = whole_times (row (pos 0) (pos 1)); solves = record { inequalities = (omega (arith, ints), tt); equations = tt } };
  rate = ratio (pos 1) (pos 1);
  value = record { k = pos 1; h = pos 1; objective = row (pos 0) (pos 1); point = row (pos 0) (pos 1); objective_times = whole_times (row (pos 0) (pos 1)); point_times = whole_times (row (pos 0) (pos 1)); positive = omega (arith, ints); value = refl };
  improves = omega (arith, ints);
}

-- 2 is not attained, since no x exceeds 1
two_is_less : IsAttained (Solves segment []) (wholes (row (pos 0) (pos 1))) (ratio (pos 2) (pos 1)) → ⊥
two_is_less a =
    let b = (optimum_is_maximum segment [] (wholes (row (pos 0) (pos 1))) (ratio (pos 1) (pos 1)) (wholes (row (pos 1) (pos 1))) (wholes (row (pos 0) (pos 1))) one_optimum).greatest.holds a.k a.objective a.whole a.times a.inside a.first in
    clash a.k (entry a.whole 0) (dot a.objective a.whole) a.times.positive a.first a.value b
  where
    clash : (k x t : ℤ) → pos 0 <ℤ k → pos 0 <ℤ x → t *ℤ pos 1 ≡ (k *ℤ x) *ℤ pos 2 → (t *ℤ pos 1) ≤ℤ ((k *ℤ x) *ℤ pos 1) → ⊥
    clash k x t hk hx e l = let m = mul_pos hk hx in omega (arith, ints)

pub programs_are_read : ProgramsAreRead
unfolding one_point
programs_are_read = record {
  greatest = one_optimum;
  not_less = λ p y h. (let w = weak_duality segment [] (wholes (row (pos 0) (pos 1))) (ratio (pos 0) (pos 1)) y h.dual (wholes (row (pos 1) (pos 1))) (ratio (pos 1) (pos 1)) one_point one_value in omega (arith, ints));
  not_more = λ p y h. (let w = weak_duality segment [] (wholes (row (pos 0) (pos 1))) (ratio (pos 1) (pos 1)) (wholes (row (pos 0) (pos 1))) one_dual p (ratio (pos 2) (pos 1)) h.point h.value in omega (arith, ints));
  unbounded = one_direction;
  infeasible = no_infeasible;
  no_point = λ p q. infeasible_excludes nothing [] (wholes (row (pos 1) (pos 1))) p no_infeasible q;
  not_negative = λ v d. (let n = d.multipliers.not_negative 0 (omega arith) in omega (arith, ints));
  maximum = optimum_is_maximum segment [] (wholes (row (pos 0) (pos 1))) (ratio (pos 1) (pos 1)) (wholes (row (pos 1) (pos 1))) (wholes (row (pos 0) (pos 1))) one_optimum;
  not_maximum = λ m. two_is_less m.attained;
  no_bound = direction_is_without_bound positive_line [] (wholes (row (pos 0) (pos 1))) (wholes (row (pos 1) (pos 0))) (wholes (row (pos 0) (pos 1))) one_direction;
  empty = infeasible_has_no_point nothing [] (wholes (row (pos 1) (pos 1))) no_infeasible;
  not_empty = λ h. h (row (pos 1) (pos 1)) (one_point.solves) (omega (arith, ints));
  outside = λ q. outside_of q;
  not_along = λ q. not_along_of q.k q.whole q.times q.solves;
}
  where
    not_along_of : (k : ℤ) (x : Row) → IsTimes k (wholes (row (pos 0) (negsuc 0))) x → Solves positive_line [] x → ⊥
    not_along_of k [] t v = absurd (let a = t.cols in omega arith)
    not_along_of k (a ∷ []) t v = absurd (let b = t.cols in omega arith)
    not_along_of k (a ∷ b ∷ x) t v =
        let p = t.positive in
        let e : b *ℤ pos 1 ≡ k *ℤ negsuc 0 = t.same 1 (omega arith) in
        let u = v.inequalities.0 in
        let f = simp ring at e in
        let m : k *ℤ negsuc 0 ≡ neg_ℤ k = omega (arith, ints) in
        omega (arith, ints)

    outside_of : IsPoint segment [] (wholes (row (pos 1) (pos 2))) → ⊥
    outside_of q = (let w = weak_duality segment [] (wholes (row (pos 0) (pos 1))) (ratio (pos 1) (pos 1)) (wholes (row (pos 0) (pos 1))) one_dual (wholes (row (pos 1) (pos 2))) (ratio (pos 2) (pos 1)) q two in omega (arith, ints))
      where
        two : HasValue (wholes (row (pos 0) (pos 1))) (wholes (row (pos 1) (pos 2))) (ratio (pos 2) (pos 1))
        two = record { k = pos 1; h = pos 1; objective = row (pos 0) (pos 1); point = row (pos 1) (pos 2); objective_times = whole_times (row (pos 0) (pos 1)); point_times = whole_times (row (pos 1) (pos 2)); positive = omega (arith, ints); value = refl }
