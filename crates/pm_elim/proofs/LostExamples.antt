-- Which steps of an elimination by wide numbers are lost, and which eliminations.
use Rattle.pm_vector.proofs.DivisorLaws.{IsPrimitive-from_one, IsPrimitiveOf-from_one, primitive_row_unique}
use Rattle.pm_vector.proofs.ConeLaws.{combination_none}
use Rattle.pm_vector.proofs.Ring.{ring}
use Rattle.pm_vector.proofs.RowLaws.{entry-plus, entry-times}
use Rattle.pm_vector.proofs.Spans.{same_span_refl}
use Rattle.pm_vector.specs.Bases.{column, row_at}
use Rattle.pm_vector.specs.Cones.{IsIndependent, combination}
use Rattle.pm_vector.specs.Divisors.{IsGcdOf, IsPrimitive, IsPrimitiveOf}
use Rattle.pm_vector.specs.Numbers.{InRange}
use Rattle.pm_vector.specs.Rows.{Row, difference, entry, times}
use Rattle.pm_elim.proofs.BasisLaws.{basis_unique}
use Rattle.pm_elim.proofs.ExtendedLaws.{extended_unique}
use Rattle.pm_elim.proofs.LostLaws.{step_lost}
use Rattle.pm_elim.proofs.PivotLaws.{pivot_column_unique, pivot_row_unique}
use Rattle.pm_elim.proofs.ReductionLaws.{reduced_unique}
use Rattle.pm_elim.proofs.SoFar.{basis_none}
use Rattle.pm_vector.specs.Evidence.{IsBasisOf, IsExtended, column_of, unit}
use Rattle.pm_elim.specs.Lost.{HasNoWideDuals, IsLost, IsLostOnExtended, IsLostOnNext, IsLostOnOlder, IsLostOnSome, IsLostRound, IsLostWithoutOne, PrimitiveIsLost, StepIsLost}
use Rattle.pm_elim.specs.LostExamples.{LostEliminationsAreRead, LostStepsAreRead, even_next, even_row, last_unit, late_row, odd_next, odd_row, one_entry, triple, two_rows}
use Rattle.pm_vector.specs.Steps.{IsFactors, IsPivotRow, IsReducedOnce, ReducedBy}
use Rattle.std.proofs.Common.{arith, inl, inr, refl, subst, sym, ◌∙◌}
use Rattle.std.proofs.lemmas.Int.{ints}
use Rattle.std.proofs.lemmas.Nat.Gcd.{dvd_trans}
use Rattle.std.proofs.Math.Nat.{one-dvd}
use Rattle.std.specs.Int.{IsGcd}
use Rattle.std.specs.Prelude.{All, List, [], length, remove, suc, take, unsigned_abs, zero, ℕ, ◌++◌, ◌+◌, ◌<◌, ◌∷◌, ◌≡◌, ◌^◌}
use lib.IntN.{negsuc, pos, ℤ, ◌*ℤ◌, ◌+ℤ◌}
use lib.Signed.{lt_z_yes, ◌<ℤ◌}

-- ---- rows with an entry 1 or -1 are primitive
gcd_one : (x : Row) (i : ℕ) → unsigned_abs (entry x i) ≡ 1 → IsGcdOf x 1
gcd_one x i e = record { divides = λ d. (λ h j. dvd_trans d h (one-dvd (unsigned_abs (entry x j))), λ f. rw e at (f i)) }

itself : (x : Row) (i : ℕ) → unsigned_abs (entry x i) ≡ 1 → IsPrimitiveOf x x
itself x i e = IsPrimitiveOf-from_one x (gcd_one x i e)

-- such a row with an entry out of the range
out_of_range : (x : Row) (i j : ℕ) → unsigned_abs (entry x i) ≡ 1 → j < length x → ¬ (InRange (entry x j)) → PrimitiveIsLost x
out_of_range x i j e within wide u p all =
    let same = primitive_row_unique x x u (itself x i e) p in
    wide (rw same (all j (pos 0) (rw p.cols within)))

-- a row and the primitive row of which it is k times as much
along : (v w : Row) (k : ℤ) (i : ℕ) → pos 0 <ℤ k → length w ≡ length v → unsigned_abs (entry w i) ≡ 1
    → ((j : ℕ) → entry v j ≡ entry (times k w) j) → IsPrimitiveOf v w
along v w k i up cols one same =
    record { cols = cols; divided = inr (k, up, record { at = same }, IsPrimitive-from_one w (gcd_one w i one)) }

in_range : (a b c : ℤ) → InRange a → InRange b → InRange c → All InRange (triple a b c)
in_range a b c ra rb rc zero d l = ra
in_range a b c ra rb rc (suc zero) d l = rb
in_range a b c ra rb rc (suc (suc zero)) d l = rc
in_range a b c ra rb rc (suc (suc (suc i))) d l = absurd (omega arith)

unit_in_range : All InRange last_unit
unit_in_range = in_range (pos 0) (pos 0) (pos 1) (omega (arith, ints)) (omega (arith, ints)) (omega (arith, ints))

-- ---- factors
-- where one of two numbers is 1, nothing else divides both
coprime : (a b : ℕ) → a ≡ 1 → IsGcd a b 1
coprime a b e = (one-dvd a, one-dvd b, λ d h k. rw e at h)

factors : (x y : ℤ) → unsigned_abs x ≡ 1 → pos 0 <ℤ y → IsFactors x y y x
factors x y e up = record {
  g = 1;
  greatest = coprime (unsigned_abs x) (unsigned_abs y) e;
  first = simp ring;
  second = simp ring;
  positive = up;
}

-- ---- steps
along_unit : (k : ℤ) → pos 0 <ℤ k → IsPrimitiveOf (triple (pos 0) (pos 0) k) last_unit
along_unit k up = along (triple (pos 0) (pos 0) k) last_unit k 2 up refl refl same
  where
    same : (i : ℕ) → entry (triple (pos 0) (pos 0) k) i ≡ entry (times k last_unit) i
    same zero = simp ring
    same (suc zero) = simp ring
    same (suc (suc zero)) = simp ring
    same (suc (suc (suc i))) = refl

odd_difference : PrimitiveIsLost (difference (pos 2) odd_next (pos 1) odd_row)
unfolding difference
odd_difference = out_of_range (difference (pos 2) odd_next (pos 1) odd_row) 1 2 refl (omega arith) (λ r. omega (arith, ints))

odd_step : StepIsLost odd_next odd_row 0
odd_step = step_lost {r = odd_next} {b = odd_row} {c = 0} (factors (pos 1) (pos 2) refl (lt_z_yes tt)) (λ e. omega (arith, ints)) odd_difference

even_difference : IsPrimitiveOf (difference (pos 2) even_next (pos 1) even_row) last_unit
unfolding difference
even_difference = along_unit (pos (2 ^ 127 + 1)) (lt_z_yes tt)

even_once : IsReducedOnce even_next even_row 0 last_unit
even_once = inr (record {
  p = pos 2;
  q = pos 1;
  not_zero = λ e. omega (arith, ints);
  factors = factors (pos 1) (pos 2) refl (lt_z_yes tt);
  result = even_difference;
})

even_step : ¬ (StepIsLost even_next even_row 0)
even_step lost = lost last_unit even_once unit_in_range

late_difference : PrimitiveIsLost (difference (pos 1) odd_next (pos 1) late_row)
unfolding difference
late_difference = out_of_range (difference (pos 1) odd_next (pos 1) late_row) 0 2 refl (omega arith) (λ r. omega (arith, ints))

late_step : StepIsLost odd_next late_row 1
late_step = step_lost {r = odd_next} {b = late_row} {c = 1} (factors (pos 1) (pos 1) refl (lt_z_yes tt)) (λ e. omega (arith, ints)) late_difference

-- (2, 0, -1) by the last unit row is (2, 0, 0)
first_unit : Row
first_unit = triple (pos 1) (pos 0) (pos 0)

older_difference : IsPrimitiveOf (difference (pos 1) even_row (negsuc 0) last_unit) first_unit
unfolding difference first_unit
older_difference = along (difference (pos 1) even_row (negsuc 0) last_unit) first_unit (pos 2) 0 (lt_z_yes tt) refl refl same
  where
    same : (i : ℕ) → entry (difference (pos 1) even_row (negsuc 0) last_unit) i ≡ entry (times (pos 2) first_unit) i
    same zero = refl
    same (suc zero) = refl
    same (suc (suc zero)) = refl
    same (suc (suc (suc i))) = refl

first_in_range : All InRange first_unit
unfolding first_unit
first_in_range = in_range (pos 1) (pos 0) (pos 0) (omega (arith, ints)) (omega (arith, ints)) (omega (arith, ints))

older_step : ¬ (StepIsLost even_row last_unit 2)
older_step lost = lost first_unit (inr (record {
  p = pos 1;
  q = negsuc 0;
  not_zero = λ e. omega (arith, ints);
  factors = factors (negsuc 0) (pos 1) refl (lt_z_yes tt);
  result = older_difference;
})) first_in_range

-- ---- rounds
odd_round : IsLostOnNext (odd_row ∷ []) (0 ∷ []) odd_next
odd_round = record { by = 0; part = odd_next; within = omega arith; reduced = refl; lost = odd_step }

not_next : IsLostOnNext (even_row ∷ []) (0 ∷ []) even_next → ⊥
not_next h = go h.by h.part h.within h.reduced h.lost
  where
    go : (by : ℕ) (part : Row) → by < 1 → ReducedBy (take by (even_row ∷ [])) (take by (0 ∷ [])) even_next part
        → StepIsLost part (row_at (even_row ∷ []) by) (column (0 ∷ []) by) → ⊥
    go zero part l e lost = even_step (subst (λ (r : Row). StepIsLost r even_row 0) e lost)
    go (suc by) part l e lost = absurd (omega arith)

late_some : IsLostOnSome (odd_next ∷ []) late_row 1
late_some = record { place = 0; within = omega arith; lost = late_step }

not_some : IsLostOnSome (even_row ∷ []) last_unit 2 → ⊥
not_some h = go h.place h.within h.lost
  where
    go : (place : ℕ) → place < 1 → StepIsLost (row_at (even_row ∷ []) place) last_unit 2 → ⊥
    go zero l lost = older_step lost
    go (suc place) l lost = absurd (omega arith)

late_pivot : IsPivotRow late_row 1 late_row
late_pivot = record { not_zero = λ e. omega (arith, ints); before = before; positive = lt_z_yes tt; primitive = inl (itself late_row 1 refl) }
  where
    before : (d : ℕ) → d < 1 → entry late_row d ≡ pos 0
    before zero l = refl
    before (suc d) l = absurd (omega arith)

late_round : IsLostOnOlder (odd_next ∷ []) (0 ∷ []) late_row
late_round = record {
  rest = late_row;
  new_column = 1;
  new = late_row;
  reduced = (late_row, inl (refl, refl), refl);
  pivot = late_pivot;
  lost = late_some;
}

unit_pivot : IsPivotRow last_unit 2 last_unit
unit_pivot = record { not_zero = λ e. omega (arith, ints); before = before; positive = lt_z_yes tt; primitive = inl (itself last_unit 2 refl) }
  where
    before : (d : ℕ) → d < 2 → entry last_unit d ≡ pos 0
    before zero l = refl
    before (suc zero) l = refl
    before (suc (suc d)) l = absurd (omega arith)

not_older : IsLostOnOlder (even_row ∷ []) (0 ∷ []) even_next → ⊥
not_older h =
    let rest : h.rest ≡ last_unit = reduced_unique (even_row ∷ []) (0 ∷ []) even_next h.rest last_unit h.reduced (last_unit, even_once, refl) in
    let pivot : IsPivotRow last_unit h.new_column h.new = subst (λ (r : Row). IsPivotRow r h.new_column h.new) rest h.pivot in
    let col : h.new_column ≡ 2 = pivot_column_unique pivot unit_pivot in
    let pivot' : IsPivotRow last_unit 2 h.new = subst (λ (c : ℕ). IsPivotRow last_unit c h.new) col pivot in
    let new : h.new ≡ last_unit = pivot_row_unique pivot' unit_pivot in
    let lost : IsLostOnSome (even_row ∷ []) h.new 2 = subst (λ (c : ℕ). IsLostOnSome (even_row ∷ []) h.new c) col h.lost in
    not_some (subst (λ (x : Row). IsLostOnSome (even_row ∷ []) x 2) new lost)

not_round : IsLostRound (even_row ∷ []) (0 ∷ []) even_next → ⊥
not_round (inl h) = not_next h
not_round (inr h) = not_older h

pub lost_steps_are_read : LostStepsAreRead
lost_steps_are_read = record {
  primitive = out_of_range (triple (pos 0) (pos 1) (pos (2 ^ 127 + 1))) 1 2 refl (omega arith) (λ r. omega (arith, ints));
  not_primitive = λ lost. lost last_unit (along_unit (pos (2 ^ 127 + 1)) (lt_z_yes tt)) unit_in_range;
  step = odd_step;
  not_step = even_step;
  next = odd_round;
  not_next = not_next;
  some = late_some;
  not_some = not_some;
  older = late_round;
  not_older = not_older;
  round = inl odd_round;
  later_round = inr late_round;
  not_round = not_round;
}

-- ---- a basis of one row, and of none
one_basis : (n : ℕ) (b : Row) → length b ≡ n → pos 0 <ℤ entry b 0 → IsPrimitive b → IsBasisOf n (b ∷ []) (b ∷ []) (0 ∷ [])
one_basis n b cols up prime = record {
  echelon = record {
    basis = record { cols = (cols, tt); as_many = refl; positive = positive; reduced = reduced; primitive = primitive };
    ascending = λ i j l lj. absurd (omega arith);
    before = before;
  };
  span = same_span_refl (b ∷ []);
}
  where
    positive : (i : ℕ) → i < 1 → pos 0 <ℤ entry (row_at (b ∷ []) i) (column (0 ∷ []) i)
    positive zero l = up
    positive (suc i) l = absurd (omega arith)

    reduced : (i j : ℕ) → i < 1 → j < 1 → ¬ (i ≡ j) → entry (row_at (b ∷ []) i) (column (0 ∷ []) j) ≡ pos 0
    reduced i j l lj ne = absurd (ne (omega arith))

    primitive : (i : ℕ) → i < 1 → IsPrimitive (row_at (b ∷ []) i)
    primitive zero l = prime
    primitive (suc i) l = absurd (omega arith)

    before : (i c : ℕ) → i < 1 → c < column (0 ∷ []) i → entry (row_at (b ∷ []) i) c ≡ pos 0
    before zero c l lc = absurd (omega arith)
    before (suc i) c l lc = absurd (omega arith)

no_step : (P : List ℕ) (next : Row) → IsLostRound [] P next → ⊥
no_step P next (inl h) = let l = h.within in omega arith
no_step P next (inr h) = let l = h.lost.within in omega arith

-- the first row needs no step
first_stays : (n : ℕ) (X B : List Row) (P : List ℕ) (next : Row) → IsBasisOf n (take 0 X) B P → IsLostRound B P next → ⊥
first_stays n X B P next b s =
    let none : B ≡ [] = (basis_unique n (take 0 X) B [] P [] b (basis_none n X [] [] refl refl)).0 in
    no_step P next (subst (λ (R : List Row). IsLostRound R P next) none s)

not_one : (n : ℕ) (r : Row) → IsLost n (r ∷ []) → ⊥
not_one n r h = go h.front h.within h.is_basis h.step
  where
    go : (front : ℕ) → front < 1 → IsBasisOf n (take front (r ∷ [])) h.basis h.pivots
        → IsLostRound h.basis h.pivots (row_at (r ∷ []) front) → ⊥
    go zero l b s = first_stays n (r ∷ []) h.basis h.pivots r b s
    go (suc front) l b s = absurd (omega arith)

even_basis : IsBasisOf 3 (even_row ∷ []) (even_row ∷ []) (0 ∷ [])
even_basis = one_basis 3 even_row refl (lt_z_yes tt) (IsPrimitive-from_one even_row (gcd_one even_row 2 refl))

not_lost : IsLost 3 (even_row ∷ even_next ∷ []) → ⊥
not_lost h = go h.front h.within h.is_basis h.step
  where
    go : (front : ℕ) → front < 2 → IsBasisOf 3 (take front (even_row ∷ even_next ∷ [])) h.basis h.pivots
        → IsLostRound h.basis h.pivots (row_at (even_row ∷ even_next ∷ []) front) → ⊥
    go zero l b s = first_stays 3 (even_row ∷ even_next ∷ []) h.basis h.pivots even_row b s
    go (suc zero) l b s =
        let (rows, columns) = basis_unique 3 (even_row ∷ []) h.basis (even_row ∷ []) h.pivots (0 ∷ []) b even_basis in
        not_round (rw (rows, columns) at s)
    go (suc (suc front)) l b s = absurd (omega arith)

-- ---- extended lists
extended_row : Row
extended_row = pos 2 ∷ negsuc 0 ∷ pos 1 ∷ pos 0 ∷ []

extended_next : Row
extended_next = pos 1 ∷ pos (2 ^ 126) ∷ pos 0 ∷ pos 1 ∷ []

extended_difference : PrimitiveIsLost (difference (pos 2) extended_next (pos 1) extended_row)
unfolding difference extended_row extended_next
extended_difference = out_of_range (difference (pos 2) extended_next (pos 1) extended_row) 2 1 refl (omega arith) (λ r. omega (arith, ints))

extended_step : StepIsLost extended_next extended_row 0
unfolding extended_row extended_next
extended_step = step_lost {r = extended_next} {b = extended_row} {c = 0} (factors (pos 1) (pos 2) refl (lt_z_yes tt)) (λ e. omega (arith, ints)) extended_difference

extended_basis : IsBasisOf 4 (extended_row ∷ []) (extended_row ∷ []) (0 ∷ [])
unfolding extended_row
extended_basis = one_basis 4 extended_row refl (lt_z_yes tt) (IsPrimitive-from_one extended_row (gcd_one extended_row 1 refl))

two_extended : IsExtended 2 two_rows (extended_row ∷ extended_next ∷ [])
unfolding extended_row extended_next
two_extended = record { as_many = refl; rows = rows }
  where
    rows : (i : ℕ) → i < 2 → row_at (extended_row ∷ extended_next ∷ []) i ≡ column_of two_rows i ++ unit 2 i
    rows zero l = refl
    rows (suc zero) l = refl
    rows (suc (suc i)) l = absurd (omega arith)

extended_lost : IsLostOnExtended 2 two_rows
extended_lost = record {
  listed = extended_row ∷ extended_next ∷ [];
  extended = two_extended;
  lost = record {
    front = 1;
    basis = extended_row ∷ [];
    pivots = 0 ∷ [];
    within = omega arith;
    is_basis = extended_basis;
    step = inl (record { by = 0; part = extended_next; within = omega arith; reduced = refl; lost = extended_step });
  };
}

-- one column alone has an extended list of one row
one_extended : IsExtended 1 one_entry ((pos 1 ∷ pos 1 ∷ []) ∷ [])
one_extended = record { as_many = refl; rows = rows }
  where
    rows : (i : ℕ) → i < 1 → row_at ((pos 1 ∷ pos 1 ∷ []) ∷ []) i ≡ column_of one_entry i ++ unit 1 i
    rows zero l = refl
    rows (suc i) l = absurd (omega arith)

none_extended : IsExtended 1 [] ((pos 1 ∷ []) ∷ [])
none_extended = record { as_many = refl; rows = rows }
  where
    rows : (i : ℕ) → i < 1 → row_at ((pos 1 ∷ []) ∷ []) i ≡ column_of [] i ++ unit 1 i
    rows zero l = refl
    rows (suc i) l = absurd (omega arith)

not_on_extended : (X : List Row) (r : Row) → IsExtended 1 X (r ∷ []) → IsLostOnExtended 1 X → ⊥
not_on_extended X r x h =
    let same = extended_unique 1 X h.listed (r ∷ []) h.extended x in
    not_one (length X + 1) r (subst (λ (L : List Row). IsLost (length X + 1) L) same h.lost)

not_without : IsLostWithoutOne 1 one_entry → ⊥
not_without h = go h.place h.within h.lost
  where
    go : (place : ℕ) → place < 1 → IsLostOnExtended 1 (remove one_entry place) → ⊥
    go zero l lost = not_on_extended [] (pos 1 ∷ []) none_extended lost
    go (suc place) l lost = absurd (omega arith)

-- ---- one row
zero_is_dependent : ¬ (IsIndependent ((pos 0 ∷ []) ∷ []))
zero_is_dependent free =
    let e : pos 1 ≡ pos 0 = free (pos 1 ∷ []) zeros 0 (omega arith) in
    omega (arith, ints)
  where
    zeros : (i : ℕ) → entry (combination (pos 1 ∷ []) ((pos 0 ∷ []) ∷ [])) i ≡ pos 0
    zeros zero = refl
    zeros (suc i) = refl

no_multiple : (k a b : ℤ) → a ≡ k *ℤ pos 1 → b ≡ pos 0 → a +ℤ b ≡ pos 0 → k ≡ pos 0
no_multiple k a b e f g = let h = simp ring at e in omega (arith, ints)

one_is_independent : IsIndependent one_entry
one_is_independent [] z i l = refl
one_is_independent (k ∷ c) z zero l =
    no_multiple k (entry (times k (pos 1 ∷ [])) 0) (entry (combination c []) 0) (entry-times k (pos 1 ∷ []) 0)
    (combination_none c 0) (sym (entry-plus (times k (pos 1 ∷ [])) (combination c []) 0) ∙ z 0)
one_is_independent (k ∷ c) z (suc i) l = absurd (omega arith)

not_duals : HasNoWideDuals 1 one_entry → ⊥
not_duals (inl dependent) = dependent one_is_independent
not_duals (inr (inl h)) = not_on_extended one_entry (pos 1 ∷ pos 1 ∷ []) one_extended h
not_duals (inr (inr h)) = not_without h

pub lost_eliminations_are_read : LostEliminationsAreRead
lost_eliminations_are_read = record {
  lost = record {
    front = 1;
    basis = odd_row ∷ [];
    pivots = 0 ∷ [];
    within = omega arith;
    is_basis = one_basis 3 odd_row refl (lt_z_yes tt) (IsPrimitive-from_one odd_row (gcd_one odd_row 1 refl));
    step = inl odd_round;
  };
  not_lost = not_lost;
  not_one = not_one;
  extended = extended_lost;
  not_extended = not_on_extended one_entry (pos 1 ∷ pos 1 ∷ []) one_extended;
  without = record { place = 0; within = omega arith; lost = extended_lost };
  not_without = not_without;
  duals = inr (inl extended_lost);
  dependent = inl zero_is_dependent;
  not_duals = not_duals;
  memory = tt;
  not_lost_row = λ h. h;
}
