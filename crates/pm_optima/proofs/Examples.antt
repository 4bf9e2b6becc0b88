-- The examples of optima hold.
use Rattle.pm_vector.proofs.Lists.{All_among, Among, here, there}
use Rattle.pm_vector.proofs.ConeLaws.{in_generator}
use Rattle.pm_vector.proofs.Ring.{ring}
use Rattle.pm_vector.proofs.RowLaws.{entry-times}
use Rattle.pm_vector.proofs.Signs.{mul_le}
use Rattle.pm_vector.specs.Cones.{InCone}
use Rattle.pm_vector.specs.Numbers.{Ratio}
use Rattle.pm_vector.specs.Rows.{HasCols, Row, Same, Stands, dot, entry, opposite, ratio_at, times}
use Rattle.pm_vector.specs.Bases.{row_at}
use Rattle.pm_fraction.proofs.Quotients.{whole_reduced}
use Rattle.pm_fraction.specs.Arithmetic.{opposite_of}
use Rattle.pm_fraction.specs.Fractions.{IsLowestTermsOf, ratio_of}
use Rattle.pm_geom.specs.Faces.{ray}
use Rattle.pm_geom.specs.ProgramExamples.{ratio, row, wholes}
use Rattle.pm_geom.specs.Programs.{IsTimes}
use Rattle.pm_fraction.specs.FractionRows.{IsLeastDenominator, IsPrimitiveRowOf}
use Rattle.pm_optima.proofs.Optima.{finite_optimum, none_optimum}
use Rattle.pm_optima.specs.Examples.{EvidenceIsRead, ObjectivesAreRead, QuotientsAreRead, SensesAreRead, along, best_at, ends, x_alone}
use Rattle.pm_optima.specs.Objectives.{AreZeroPlaces, IsPrimitiveLevel, IsScaleOf}
use Rattle.pm_simplex.specs.OptimumEvidence.{IsLevelRow}
use Rattle.pm_optima.specs.Quotients.{Grows, HasNone, IsBest, Rises, Turns}
use Rattle.pm_simplex.specs.Senses.{IsOptimum}
use Rattle.pm_simplex.specs.declared.sense.Sense.TheVariants.{Maximal, Minimal}
use Rattle.pm_types.specs.Values.{finite, minus_infinity, plus_infinity}
use Rattle.std.proofs.Common.{ap, arith, inl, inr, refl, suc, sym, zero, ◌∙◌}
use Rattle.std.proofs.lemmas.Int.{ints}
use Rattle.std.proofs.Math.Nat.{one-dvd}
use Rattle.std.specs.Int.{◌∣◌}
use Rattle.std.specs.List.{All, Contains}
use Rattle.std.specs.Prelude.{List, [], length, map, unsigned_abs, ℕ, ◌<◌, ◌∷◌, ◌≡◌, ◌↔◌, ◌^◌}
use lib.IntN.{negsuc, pos, ℤ, ◌*ℤ◌}
use lib.Signed.{◌<ℤ◌, ◌≤ℤ◌}

no_one : ¬ (pos 1 ≡ pos 0)
no_one e = absurd (omega (arith, ints))

lowest : (n : ℤ) → IsLowestTermsOf (ratio_of n (pos 1)) (ratio n (pos 1))
lowest n = record { divisible = no_one; reduced = whole_reduced n; same = refl }

-- ---- quotients
second_best : IsBest (row (pos 0) (pos 1)) ends 2 (best_at 1 1)
second_best = record { within = omega arith; first = omega (arith, ints); quotient = lowest (pos 1); greatest = greatest }
  where
    greatest : (j : ℕ) → j < 2 → pos 0 <ℤ entry (row_at ends j) 0 → (entry (row (pos 0) (pos 1)) j *ℤ pos 1) ≤ℤ (pos 1 *ℤ entry (row_at ends j) 0)
    greatest zero l h = omega (arith, ints)
    greatest (suc zero) l h = omega (arith, ints)
    greatest (suc (suc j)) l h = absurd (omega arith)

-- the least x, by the opposite numbers
first_best : IsBest (row (pos 0) (negsuc 0)) ends 2 (best_at 0 0)
first_best = record { within = omega arith; first = omega (arith, ints); quotient = lowest (pos 0); greatest = greatest }
  where
    greatest : (j : ℕ) → j < 2 → pos 0 <ℤ entry (row_at ends j) 0 → (entry (row (pos 0) (negsuc 0)) j *ℤ pos 1) ≤ℤ (pos 0 *ℤ entry (row_at ends j) 0)
    greatest zero l h = omega (arith, ints)
    greatest (suc zero) l h = omega (arith, ints)
    greatest (suc (suc j)) l h = absurd (omega arith)

alone : IsBest (row (pos 0) (pos 1)) ends 1 (best_at 0 0)
alone = record { within = omega arith; first = omega (arith, ints); quotient = lowest (pos 0); greatest = greatest }
  where
    greatest : (j : ℕ) → j < 1 → pos 0 <ℤ entry (row_at ends j) 0 → (entry (row (pos 0) (pos 1)) j *ℤ pos 1) ≤ℤ (pos 0 *ℤ entry (row_at ends j) 0)
    greatest zero l h = omega (arith, ints)
    greatest (suc j) l h = absurd (omega arith)

not_first : ¬ (IsBest (row (pos 0) (pos 1)) ends 2 (best_at 0 0))
not_first h = let p : (pos 1 *ℤ pos 1) ≤ℤ (pos 0 *ℤ pos 1) = h.greatest 1 (omega arith) (omega (arith, ints)) in absurd (omega (arith, ints))

other_quotient : ¬ (IsBest (row (pos 0) (pos 1)) ends 2 (best_at 1 2))
other_quotient h = let e : pos 2 ≡ pos 1 = h.quotient.same in absurd (omega (arith, ints))

later : ¬ (IsBest (row (pos 0) (pos 1)) ends 1 (best_at 1 1))
later h = let l : 1 < 1 = h.within in absurd (omega arith)

no_quotient : ¬ (IsBest (pos 0 ∷ []) along 1 (best_at 0 0))
no_quotient h = let p : pos 0 <ℤ pos 0 = h.first in absurd (omega (arith, ints))

some_ahead : ¬ (HasNone ends 2)
some_ahead h = h 0 (omega arith) (omega (arith, ints))

none_ahead : HasNone along 1
none_ahead zero l h = let p : pos 0 <ℤ pos 0 = h in absurd (omega (arith, ints))
none_ahead (suc j) l h = absurd (omega arith)

rises : Rises (pos 1 ∷ []) along 0
rises = record { within = omega arith; level = refl; positive = omega (arith, ints) }

level_ray : (j : ℕ) → ¬ (Rises (pos 0 ∷ []) along j)
level_ray zero h = let p : pos 0 <ℤ pos 0 = h.positive in absurd (omega (arith, ints))
level_ray (suc j) h = let l : suc j < 1 = h.within in absurd (omega arith)

turns : (n : ℕ) → Turns (row (pos 0) (negsuc n)) 1
turns n = record { within = omega arith; some = λ e. absurd (let f : negsuc n ≡ pos 0 = e in omega (arith, ints)) }

turning : Turns (negsuc 0 ∷ []) 0
turning = record { within = omega arith; some = λ e. absurd (let f : negsuc 0 ≡ pos 0 = e in omega (arith, ints)) }

still_line : (j : ℕ) → ¬ (Turns (pos 0 ∷ []) j)
still_line zero h = h.some refl
still_line (suc j) h = let l : suc j < 1 = h.within in absurd (omega arith)

bounded : ¬ (Grows (pos 0 ∷ []) along (pos 0 ∷ []))
bounded (inl (j, r)) = level_ray j r
bounded (inr (j, t)) = still_line j t

pub quotients_are_read : QuotientsAreRead
quotients_are_read = record {
  second = second_best;
  not_first = not_first;
  other_quotient = other_quotient;
  later = later;
  no_quotient = no_quotient;
  first = alone;
  not_none = some_ahead;
  none = none_ahead;
  some = some_ahead;
  rises = rises;
  level = level_ray 0;
  vertex = λ h. no_one h.level;
  no_ray = λ h. let l : 1 < 1 = h.within in absurd (omega arith);
  turns = turns 0;
  still = λ h. h.some refl;
  beyond = λ h. let l : 2 < 2 = h.within in absurd (omega arith);
  grows = inl (0, rises);
  grows_by_line = inr (0, turning);
  ends_there = bounded;
}

-- ---- objectives
x_scale : IsScaleOf x_alone (row (pos 0) (pos 1)) (ratio (pos 1) (pos 1))
x_scale = record { num = omega (arith, ints); den = omega (arith, ints); cols = refl; denominators = denominators; same = same }
  where
    denominators : (i : ℕ) → i < 2 → pos 0 <ℤ (ratio_at x_alone i).den
    denominators zero l = omega (arith, ints)
    denominators (suc zero) l = omega (arith, ints)
    denominators (suc (suc i)) l = absurd (omega arith)

    same : (i : ℕ) → i < 2 → pos 1 *ℤ (entry (row (pos 0) (pos 1)) i *ℤ (ratio_at x_alone i).den) ≡ pos 1 *ℤ (ratio_at x_alone i).num
    same zero l = refl
    same (suc zero) l = refl
    same (suc (suc i)) l = absurd (omega arith)

half_x : List Ratio
half_x = ratio (pos 0) (pos 1) ∷ ratio (pos 1) (pos 2) ∷ []

half : IsScaleOf half_x (row (pos 0) (pos 1)) (ratio (pos 1) (pos 2))
unfolding half_x
half = record { num = omega (arith, ints); den = omega (arith, ints); cols = refl; denominators = denominators; same = same }
  where
    denominators : (i : ℕ) → i < 2 → pos 0 <ℤ (ratio_at half_x i).den
    denominators zero l = omega (arith, ints)
    denominators (suc zero) l = omega (arith, ints)
    denominators (suc (suc i)) l = absurd (omega arith)

    same : (i : ℕ) → i < 2 → pos 1 *ℤ (entry (row (pos 0) (pos 1)) i *ℤ (ratio_at half_x i).den) ≡ pos 2 *ℤ (ratio_at half_x i).num
    same zero l = refl
    same (suc zero) l = refl
    same (suc (suc i)) l = absurd (omega arith)

twice : ¬ (IsScaleOf half_x (row (pos 0) (pos 1)) (ratio (pos 2) (pos 1)))
unfolding half_x
twice h = let e : pos 4 ≡ pos 1 = h.same 1 (omega arith) in absurd (omega (arith, ints))

opposed : ¬ (IsScaleOf x_alone (row (pos 0) (negsuc 0)) (ratio (negsuc 0) (pos 1)))
opposed h = let p : pos 0 <ℤ negsuc 0 = h.num in absurd (omega (arith, ints))

no_divisor : ¬ (IsScaleOf x_alone (row (pos 0) (pos 1)) (ratio (pos 1) (pos 0)))
no_divisor h = let p : pos 0 <ℤ pos 0 = h.den in absurd (omega (arith, ints))

shorter : ¬ (IsScaleOf x_alone (pos 0 ∷ []) (ratio (pos 1) (pos 1)))
shorter h = let e = h.cols in absurd (omega arith)

no_fraction : ¬ (IsScaleOf (ratio (pos 1) (pos 0) ∷ []) (pos 1 ∷ []) (ratio (pos 1) (pos 1)))
no_fraction h = let p : pos 0 <ℤ pos 0 = h.denominators 0 (omega arith) in absurd (omega (arith, ints))

other_value : ¬ (IsLevelRow x_alone (ratio (pos 1) (pos 1)) (wholes (row (pos 2) (negsuc 0))))
other_value h = let e : pos 2 ≡ pos 1 = h.first.same in absurd (omega (arith, ints))

longer : ¬ (IsLevelRow x_alone (ratio (pos 1) (pos 1)) (wholes (pos 1 ∷ negsuc 0 ∷ pos 0 ∷ [])))
longer h = let e = h.cols in absurd (omega arith)

x_level : IsLevelRow x_alone (ratio (pos 1) (pos 1)) (wholes (row (pos 1) (negsuc 0)))
x_level = record { cols = refl; first = lowest (pos 1); others = others }
  where
    others : (i : ℕ) → suc i < 2 → ratio_at (wholes (row (pos 1) (negsuc 0))) (suc i) ≡ opposite_of (ratio_at x_alone (suc i))
    others zero l = refl
    others (suc i) l = absurd (omega arith)

not_level : ¬ (IsLevelRow x_alone (ratio (pos 1) (pos 1)) (wholes (row (pos 1) (pos 1))))
not_level h = let e : pos 1 ≡ negsuc 0 = ap (λ (q : Ratio). q.num) (h.others 0 (omega arith)) in absurd (omega (arith, ints))

factor_one : (k z : ℤ) → pos 0 <ℤ k → pos 1 ≡ k *ℤ z → k ≡ pos 1
factor_one (pos zero) z up e = absurd (omega (arith, ints))
factor_one (pos (suc zero)) z up e = refl
factor_one (pos (suc (suc k))) (pos zero) up e = absurd (no_one (e ∙ (simp ring)))
factor_one (pos (suc (suc k))) (pos (suc n)) up e = absurd (let f = mul_le {a = pos (suc (suc k))} {b = pos 1} {c = pos (suc n)} (omega (arith, ints)) (omega (arith, ints)) in omega (arith, ints))
factor_one (pos (suc (suc k))) (negsuc n) up e = absurd (let f = mul_le {a = pos (suc (suc k))} {b = negsuc n} {c = pos 0} (omega (arith, ints)) (omega (arith, ints)) in let g : pos (suc (suc k)) *ℤ pos 0 ≡ pos 0 = simp ring in omega (arith, ints))
factor_one (negsuc k) z up e = absurd (omega (arith, ints))

not_listed : (j : ℕ) → ¬ (j ≡ 1) → ¬ (Contains (1 ∷ []) j)
not_listed j other (zero, l, e) = other (sym e)
not_listed j other (suc i, l, e) = absurd (omega arith)

x_least : IsLeastDenominator (wholes (row (pos 1) (negsuc 0))) 2 1
x_least = record { multiples = λ c. (λ d. each c, λ h. h 0 (omega arith)) }
  where
    each : (c i : ℕ) → i < 2 → unsigned_abs (ratio_at (wholes (row (pos 1) (negsuc 0))) i).den ∣ c
    each c zero l = one-dvd c
    each c (suc zero) l = one-dvd c
    each c (suc (suc i)) l = absurd (omega arith)

x_primitive : IsPrimitiveRowOf (wholes (row (pos 1) (negsuc 0))) (row (pos 1) (negsuc 0))
x_primitive = record { denominator = 1; least = x_least; primitive = record { cols = refl; divided = inr (pos 1, omega (arith, ints), record { at = at }, record { whole = whole }) } }
  where
    at : (i : ℕ) → entry (row (pos 1) (negsuc 0)) i ≡ entry (times (pos 1) (row (pos 1) (negsuc 0))) i
    at i = (simp ring) ∙ sym (entry-times (pos 1) (row (pos 1) (negsuc 0)) i)

    whole : (k : ℤ) (y : Row) → length y ≡ 2 → pos 0 <ℤ k → Same (row (pos 1) (negsuc 0)) (times k y) → k ≡ pos 1
    whole k y l up h = let e : pos 1 ≡ k *ℤ entry y 0 = h.at 0 ∙ entry-times k y 0 in factor_one k (entry y 0) up e

x_stands : Stands (wholes (row (pos 1) (negsuc 0))) (row (pos 1) (negsuc 0))
x_stands = record { p = pos 1; q = pos 1; p_positive = omega (arith, ints); q_positive = omega (arith, ints); cols = refl; denominators = denominators; same = same }
  where
    denominators : (i : ℕ) → i < 2 → pos 0 <ℤ (ratio_at (wholes (row (pos 1) (negsuc 0))) i).den
    denominators zero l = omega (arith, ints)
    denominators (suc zero) l = omega (arith, ints)
    denominators (suc (suc i)) l = absurd (omega arith)

    same : (i : ℕ) → i < 2 → pos 1 *ℤ (entry (row (pos 1) (negsuc 0)) i *ℤ (ratio_at (wholes (row (pos 1) (negsuc 0))) i).den) ≡ pos 1 *ℤ (ratio_at (wholes (row (pos 1) (negsuc 0))) i).num
    same zero l = refl
    same (suc zero) l = refl
    same (suc (suc i)) l = absurd (omega arith)

not_primitive : ¬ (IsPrimitiveLevel x_alone (ratio (pos 1) (pos 1)) (row (pos 1) (pos 1)))
not_primitive h =
    let st = h.stands in
    let e : st.p *ℤ (pos 1 *ℤ pos 1) ≡ st.q *ℤ negsuc 0 = rw (h.level.others 0 (omega arith)) at (st.same 1 (let k = h.level.cols in omega arith)) in
    let p = st.p_positive in
    let q = st.q_positive in
    absurd (omega (arith, ints))

second_place : AreZeroPlaces (row (pos 1) (negsuc 0)) ends 2 (pos 1 ∷ [])
second_place = record { js = 1 ∷ []; places = refl; ascending = λ i j d l m. absurd (omega arith); each = each }
  where
    each : (j : ℕ) → Contains (1 ∷ []) j ↔ ((j < 2) × (dot (row (pos 1) (negsuc 0)) (ray ends j) ≡ pos 0))
    each zero = (λ i. absurd (not_listed 0 (omega arith) i), λ h. absurd (no_one h.1))
    each (suc zero) = (λ i. (omega arith, refl), λ h. (0, omega arith, refl))
    each (suc (suc j)) = (λ i. absurd (not_listed (suc (suc j)) (omega arith) i), λ h. absurd (let l = h.0 in omega arith))

left_out : ¬ (AreZeroPlaces (row (pos 1) (negsuc 0)) ends 2 [])
left_out h = empty h.js h.places ((h.each 1).1 (omega arith, refl))
  where
    empty : (js : List ℕ) → [] ≡ map pos js → ¬ (Contains js 1)
    empty [] e i = absurd (let l = i.1 in omega arith)
    empty (j ∷ js) e i = absurd (let k : 0 ≡ suc (length (map pos js)) = ap length e in omega arith)

not_there : ¬ (AreZeroPlaces (row (pos 1) (negsuc 0)) ends 2 (negsuc 0 ∷ []))
not_there h = below h.js h.places
  where
    below : (js : List ℕ) → ¬ (negsuc 0 ∷ [] ≡ map pos js)
    below [] e = absurd (let k : 1 ≡ 0 = ap length e in omega arith)
    below (j ∷ js) e = absurd (let k : negsuc 0 ≡ pos j = ap (λ z. entry z 0) e in omega (arith, ints))

pub objectives_are_read : ObjectivesAreRead
unfolding half_x
objectives_are_read = record {
  half = half;
  twice = twice;
  opposed = opposed;
  no_divisor = no_divisor;
  shorter = shorter;
  no_fraction = no_fraction;
  level = x_level;
  not_level = not_level;
  other_value = other_value;
  longer = longer;
  primitive = record { fractions = wholes (row (pos 1) (negsuc 0)); level = x_level; primitive = x_primitive; stands = x_stands };
  not_primitive = not_primitive;
  places = second_place;
  left_out = left_out;
  not_there = not_there;
}

-- ---- senses
ends_cols : HasCols 2 ends
ends_cols = (refl, (refl, tt))

ends_ahead : All (λ x. pos 0 ≤ℤ entry x 0) ends
ends_ahead = All_among (λ x. pos 0 ≤ℤ entry x 0) ends each
  where
    each : (g : Row) → Among g ends → pos 0 ≤ℤ entry g 0
    each g here = omega (arith, ints)
    each g (there here) = omega (arith, ints)
    each g (there (there i)) = elim i [ ]

along_ahead : All (λ x. pos 0 ≤ℤ entry x 0) along
along_ahead = All_among (λ x. pos 0 ≤ℤ entry x 0) along each
  where
    each : (g : Row) → Among g along → pos 0 ≤ℤ entry g 0
    each g here = omega (arith, ints)
    each g (there i) = elim i [ ]

no_lines : All (λ x. entry x 0 ≡ pos 0) []
no_lines = All_among (λ x. entry x 0 ≡ pos 0) [] (λ g i. elim i [ ])

never_grows : (m : ℤ) → ¬ (Grows (row (pos 0) m) ends [])
never_grows m (inl (zero, r)) = no_one r.level
never_grows m (inl (suc zero, r)) = no_one r.level
never_grows m (inl (suc (suc j), r)) = let l : suc (suc j) < 2 = r.within in absurd (omega arith)
never_grows m (inr (j, t)) = let l : j < 0 = t.within in absurd (omega arith)

product : (n : ℤ) → IsLowestTermsOf (record { num = n *ℤ pos 1; den = pos 1 *ℤ pos 1 }) (ratio n (pos 1))
product n = record { divisible = no_one; reduced = whole_reduced n; same = simp ring }

greatest_x : IsOptimum Maximal (InCone ends []) x_alone (finite (ratio (pos 1) (pos 1)))
greatest_x = finite_optimum Maximal x_alone (row (pos 0) (pos 1)) (ratio (pos 1) (pos 1)) x_scale ends [] ends_cols tt ends_ahead no_lines (best_at 1 1) second_best (never_grows (pos 1)) (ratio (pos 1) (pos 1)) (product (pos 1)) (finite (ratio (pos 1) (pos 1))) refl

least_x : IsOptimum Minimal (InCone ends []) x_alone (finite (ratio (pos 0) (pos 1)))
unfolding opposite
least_x = finite_optimum Minimal x_alone (row (pos 0) (pos 1)) (ratio (pos 1) (pos 1)) x_scale ends [] ends_cols tt ends_ahead no_lines (best_at 0 0) first_best (never_grows (negsuc 0)) (ratio (pos 0) (pos 1)) (product (pos 0)) (finite (ratio (pos 0) (pos 1))) refl

opposite_times : IsTimes (pos 1) (wholes (row (pos 0) (negsuc 0))) (row (pos 0) (negsuc 0))
opposite_times = record { positive = omega (arith, ints); cols = refl; denominators = denominators; same = same }
  where
    denominators : (i : ℕ) → i < 2 → pos 0 <ℤ (ratio_at (wholes (row (pos 0) (negsuc 0))) i).den
    denominators zero l = omega (arith, ints)
    denominators (suc zero) l = omega (arith, ints)
    denominators (suc (suc i)) l = absurd (omega arith)

    same : (i : ℕ) → i < 2 → entry (row (pos 0) (negsuc 0)) i *ℤ (ratio_at (wholes (row (pos 0) (negsuc 0))) i).den ≡ pos 1 *ℤ (ratio_at (wholes (row (pos 0) (negsuc 0))) i).num
    same zero l = refl
    same (suc zero) l = refl
    same (suc (suc i)) l = absurd (omega arith)

not_least : ¬ (IsOptimum Minimal (InCone ends []) x_alone (finite (ratio (pos 1) (pos 1))))
not_least h =
    let p : pos 0 ≤ℤ negsuc 0 = h.greatest.holds (pos 1) (row (pos 0) (negsuc 0)) (row (pos 1) (pos 0)) opposite_times (in_generator here) (omega (arith, ints)) in
    absurd (omega (arith, ints))

no_point : IsOptimum Maximal (InCone along []) x_alone minus_infinity
no_point = none_optimum Maximal x_alone (row (pos 0) (pos 1)) (ratio (pos 1) (pos 1)) x_scale along [] (refl, tt) tt along_ahead no_lines minus_infinity refl none_ahead

no_point_least : IsOptimum Minimal (InCone along []) x_alone plus_infinity
no_point_least = none_optimum Minimal x_alone (row (pos 0) (pos 1)) (ratio (pos 1) (pos 1)) x_scale along [] (refl, tt) tt along_ahead no_lines plus_infinity refl none_ahead

pub senses_are_read : SensesAreRead
unfolding opposite
senses_are_read = record {
  same_objective = refl;
  opposite_objective = refl;
  other_objective = λ e. let f : negsuc 0 ≡ pos 1 = ap (λ c. (ratio_at c 1).num) e in absurd (omega (arith, ints));
  same_value = refl;
  opposite_value = refl;
  opposite_half = refl;
  same_ratio = refl;
  opposite_ratio = refl;
  same_row = refl;
  opposite_row = refl;
  greatest = greatest_x;
  least = least_x;
  not_least = not_least;
  no_point = no_point;
  no_point_least = no_point_least;
  some_point = λ h. h (row (pos 1) (pos 0)) (in_generator here) (omega (arith, ints));
}

-- ---- evidence
pub evidence_is_read : EvidenceIsRead
evidence_is_read = record {
  product = (refl, (0, omega arith, refl), λ s. let h = s.products 0 in absurd (omega arith));
  other_row = λ h. absurd (let e : pos (2 ^ 64) ≡ pos 1 = ap (λ x. entry x 0) h.0 in omega (arith, ints));
  not_listed = λ h. absurd (let l = h.1.1 in omega arith);
  other_evidence = λ h. h;
  other_unit = λ h. absurd (let e : pos 0 ≡ pos 1 = ap (λ x. entry x 0) h.1 in omega (arith, ints));
  no_point = λ h. absurd (let p : pos 0 <ℤ pos 0 = h.1.first in omega (arith, ints));
}
