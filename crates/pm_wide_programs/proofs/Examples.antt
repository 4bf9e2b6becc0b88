-- The examples of wide programs hold.
use Rattle.pm_fraction.proofs.Reduced.{reduced_from}
use Rattle.pm_fraction.specs.Fractions.{IsLowestTermsOf, ratio_of}
use Rattle.pm_geom.specs.ProgramExamples.{row, segment}
use Rattle.pm_geom.specs.Programs.{Solves}
use Rattle.pm_vector.specs.Bases.{row_at}
use Rattle.pm_vector.specs.Cones.{combination}
use Rattle.pm_vector.specs.Numbers.{IsReduced, Ratio}
use Rattle.pm_vector.specs.Rows.{Row, Same, entry, plus, times}
use Rattle.pm_wide_programs.specs.Examples.{CommonValuesAreRead, DirectionsAreRead, IsCommon, ShownAreRead, SlacksAreRead, ends, far_alone, half, twice}
use Rattle.pm_wide_programs.specs.Slacks.{AreLevelPlaces, IsGreatestAt, StandsAt, slack_of}
use Rattle.std.proofs.Common.{ap, arith, refl, suc, sym, zero, ◌∙◌}
use Rattle.std.proofs.lemmas.Int.{ints}
use Rattle.std.proofs.Math.Nat.{dvd-mul_right}
use Rattle.std.proofs.lemmas.Nat.Gcd.{dvd_refl, le_of_dvd}
use Rattle.std.specs.List.{Contains}
use Rattle.std.specs.Prelude.{List, [], length, map, ℕ, ◌++◌, ◌<◌, ◌∷◌, ◌≡◌, ◌↔◌}
use lib.IntN.{negsuc, pos, ℤ, ◌*ℤ◌}
use lib.Signed.{◌<ℤ◌, ◌≤ℤ◌}

-- ---- common values
half_reduced : IsReduced half
half_reduced = reduced_from (pos 1) (pos 2) (omega (arith, ints)) (record { x = pos 1; y = pos 0; sum = refl })

lowest : (n d : ℤ) → ¬ (d ≡ pos 0) → pos 1 *ℤ d ≡ n *ℤ pos 2 → IsLowestTermsOf (ratio_of n d) half
lowest n d some e = record { divisible = some; reduced = half_reduced; same = e }

three : Same (pos 3 ∷ []) (plus (times (pos 3) twice) (combination (row (pos 0) (pos 3)) (segment ++ [])))
three = record { at = each }
  where
    each : (i : ℕ) → entry (pos 3 ∷ []) i ≡ entry (plus (times (pos 3) twice) (combination (row (pos 0) (pos 3)) (segment ++ []))) i
    each zero = refl
    each (suc zero) = refl
    each (suc (suc i)) = refl

common : IsCommon (row (pos 2) (pos 2)) (pos 3) (row (pos 0) (pos 3)) half
common = record {
  first = omega (arith, ints);
  value = lowest (pos 2) (pos 4) (λ e. omega (arith, ints)) refl;
  scale = omega (arith, ints);
  constant = pos 3;
  bound = lowest (pos 3) (pos 6) (λ e. omega (arith, ints)) refl;
  sum = three;
}

other_value : ¬ (IsCommon (row (pos 2) (pos 2)) (pos 3) (row (pos 0) (pos 3)) (record { num = pos 1; den = pos 1 }))
other_value h = let e : pos 4 ≡ pos 2 = h.value.same in omega (arith, ints)

other_terms : ¬ (IsCommon (row (pos 2) (pos 2)) (pos 3) (row (pos 0) (pos 3)) (record { num = pos 2; den = pos 4 }))
other_terms h = let l = h.value.reduced.coprime.2 2 (dvd_refl 2) (dvd-mul_right 2 2) in absurd (let k = le_of_dvd (omega arith) l in omega arith)

-- at the point 0 the value is 0, and the bound is one half
other_point : (v : Ratio) → ¬ (IsCommon (row (pos 2) (pos 0)) (pos 3) (row (pos 0) (pos 3)) v)
other_point v h =
    let c : h.constant ≡ pos 3 = h.sum.at 0 in
    let e : v.num *ℤ pos 4 ≡ pos 0 *ℤ v.den = h.value.same in
    let f : v.num *ℤ pos 6 ≡ h.constant *ℤ v.den = h.bound.same in
    let g : v.num *ℤ pos 6 ≡ pos 3 *ℤ v.den = f ∙ ap (λ z. z *ℤ v.den) c in
    let p = h.value.reduced.positive in
    absurd (clash v.num v.den p e g)
  where
    clash : (n d : ℤ) → pos 0 <ℤ d → n *ℤ pos 4 ≡ pos 0 *ℤ d → n *ℤ pos 6 ≡ pos 3 *ℤ d → ⊥
    clash n d p e g = omega (arith, ints)

direction : (v : Ratio) → ¬ (IsCommon (row (pos 0) (pos 1)) (pos 3) (row (pos 0) (pos 3)) v)
direction v h = let p : pos 0 <ℤ pos 0 = h.first in absurd (omega (arith, ints))

turned : ¬ (IsCommon (row (pos 2) (pos 2)) (negsuc 2) (row (pos 0) (negsuc 2)) half)
turned h = let p : pos 0 <ℤ negsuc 5 = h.scale in absurd (omega (arith, ints))

no_constant : (v : Ratio) → ¬ (IsCommon (row (pos 2) (pos 2)) (pos 3) (row (pos 0) (pos 2)) v)
no_constant v h = let e : pos 0 ≡ pos 1 = h.sum.at 1 in absurd (omega (arith, ints))

pub common_values_are_read : CommonValuesAreRead
common_values_are_read = record {
  common = common;
  other_value = λ h. absurd (other_value h);
  other_terms = other_terms;
  other_point = other_point;
  direction = direction;
  turned = turned;
  no_constant = no_constant;
}

-- ---- slacks
there : StandsAt (pos 2) twice (row (pos 1) (pos 1)) half
there = record { first = omega (arith, ints); positive = omega (arith, ints); level = refl }

not_there : ¬ (StandsAt (pos 2) twice (row (pos 1) (pos 0)) half)
not_there h = let e : pos 2 ≡ pos 0 = h.level in absurd (omega (arith, ints))

greatest : IsGreatestAt (pos 2) twice ends half
greatest = record { place = 1; within = omega arith; stands = there; greatest = (omega (arith, ints), (omega (arith, ints), tt)) }

exceeded : ¬ (IsGreatestAt (pos 2) twice ends (record { num = pos 0; den = pos 1 }))
exceeded h = let p : pos 0 ≤ℤ negsuc 0 = h.greatest.1.0 in absurd (omega (arith, ints))

-- 1 is above x/2 at each vertex
nowhere : ¬ (IsGreatestAt (pos 2) twice ends (record { num = pos 1; den = pos 1 }))
nowhere h = at h.place h.within h.stands
  where
    at : (j : ℕ) → j < 2 → StandsAt (pos 2) twice (row_at ends j) (record { num = pos 1; den = pos 1 }) → ⊥
    at zero l s = absurd (let e : pos 2 ≡ pos 0 = s.level in omega (arith, ints))
    at (suc zero) l s = absurd (let e : pos 1 ≡ pos 0 = s.level in omega (arith, ints))
    at (suc (suc j)) l s = absurd (omega arith)

not_listed : (j : ℕ) → ¬ (j ≡ 1) → ¬ (Contains (1 ∷ []) j)
not_listed j other (zero, l, e) = other (sym e)
not_listed j other (suc i, l, e) = absurd (omega arith)

second_place : AreLevelPlaces (pos 2) twice half ends 2 (pos 1 ∷ [])
second_place = record { js = 1 ∷ []; places = refl; ascending = λ i j d l m. absurd (omega arith); each = each }
  where
    each : (j : ℕ) → Contains (1 ∷ []) j ↔ ((j < 2) × (slack_of (pos 2) twice half (row_at ends j) ≡ pos 0))
    each zero = (λ i. absurd (not_listed 0 (omega arith) i), λ h. absurd (let e : pos 2 ≡ pos 0 = h.1 in omega (arith, ints)))
    each (suc zero) = (λ i. (omega arith, refl), λ h. (0, omega arith, refl))
    each (suc (suc j)) = (λ i. absurd (not_listed (suc (suc j)) (omega arith) i), λ h. absurd (let l = h.0 in omega arith))

left_out : ¬ (AreLevelPlaces (pos 2) twice half ends 2 [])
left_out h = empty h.js h.places ((h.each 1).1 (omega arith, refl))
  where
    empty : (js : List ℕ) → [] ≡ map pos js → ¬ (Contains js 1)
    empty [] e i = absurd (let l = i.1 in omega arith)
    empty (j ∷ js) e i = absurd (let k : 0 ≡ suc (length (map pos js)) = ap length e in omega arith)

-- the first vertex is no such place
other_place : ¬ (AreLevelPlaces (pos 2) twice half ends 2 (pos 0 ∷ pos 1 ∷ []))
other_place h = listed h.js h.places (λ i. let e : pos 2 ≡ pos 0 = ((h.each 0).0 i).1 in absurd (omega (arith, ints)))
  where
    listed : (js : List ℕ) → pos 0 ∷ pos 1 ∷ [] ≡ map pos js → ¬ (¬ (Contains js 0))
    listed [] e none = absurd (let k : 2 ≡ 0 = ap length e in omega arith)
    listed (zero ∷ js) e none = none (0, omega arith, refl)
    listed (suc j ∷ js) e none = absurd (let k : pos 0 ≡ pos (suc j) = ap (λ z. entry z 0) e in omega (arith, ints))

pub slacks_are_read : SlacksAreRead
slacks_are_read = record {
  below = refl;
  there = there;
  above = refl;
  not_there = not_there;
  no_point = λ h. absurd (let p : pos 0 <ℤ pos 0 = h.first in omega (arith, ints));
  turned = λ h. absurd (let p : pos 0 <ℤ negsuc 1 = h.positive in omega (arith, ints));
  greatest = greatest;
  exceeded = exceeded;
  nowhere = nowhere;
  places = second_place;
  left_out = left_out;
  other_place = other_place;
}

-- ---- directions
pub directions_are_read : DirectionsAreRead
directions_are_read = record {
  ahead = record { within = omega arith; first = omega (arith, ints) };
  not_ahead = λ h. absurd (let p : pos 0 <ℤ pos 0 = h.first in omega (arith, ints));
  no_ray = λ h. absurd (let l : 2 < 2 = h.within in omega arith);
  rises = record { within = omega arith; level = refl; positive = omega (arith, ints) };
  falls = λ h. absurd (let p : pos 0 <ℤ negsuc 0 = h.positive in omega (arith, ints));
  vertex = λ h. absurd (let e : pos 1 ≡ pos 0 = h.level in omega (arith, ints));
  no_second = λ h. absurd (let l : 1 < 1 = h.within in omega arith);
  turns = record { within = omega arith; changes = λ e. absurd (let f : negsuc 0 ≡ pos 0 = e in omega (arith, ints)) };
  still = λ h. h.changes refl;
  no_line = λ h. absurd (let l : 1 < 1 = h.within in omega arith);
}

-- ---- what is shown
pub shown_are_read : ShownAreRead
shown_are_read = record {
  value = record { solves = record { inequalities = (omega (arith, ints), (omega (arith, ints), tt)); equations = tt }; up = up; common = common };
  not_outside = λ v h. let l : pos 0 ≤ℤ negsuc 0 = h.solves.inequalities.1.0 in absurd (omega (arith, ints));
  not_down = λ d v h. let l : pos 0 ≤ℤ negsuc 0 = h.up 1 (omega arith) in absurd (omega (arith, ints));
  not_other = λ h. absurd (other_value h.common);
  grows = record { first = omega (arith, ints); point = nothing; level = refl; direction = nothing; improves = omega (arith, ints) };
  not_from_a_direction = λ h. let l : pos 0 <ℤ pos 0 = h.first in absurd (omega (arith, ints));
  not_to_a_point = λ h. let e : pos 1 ≡ pos 0 = h.level in absurd (omega (arith, ints));
  not_back = λ h. let l : pos 0 <ℤ negsuc 0 = h.improves in absurd (omega (arith, ints));
  not_out = λ h. let l : pos 0 ≤ℤ negsuc 0 = h.direction.inequalities.1.0 in absurd (omega (arith, ints));
  not_from_outside = λ h. let l : pos 0 ≤ℤ negsuc 0 = h.point.inequalities.1.0 in absurd (omega (arith, ints));
  none = record { up = λ i l. absurd (omega arith); constant = negsuc 0; negative = omega (arith, ints); sum = record { at = below } };
  not_up = λ h. let e : h.constant ≡ pos 1 = h.sum.at 0 in let l = h.negative in absurd (omega (arith, ints));
  not_of_an_inequality = λ h. let l : pos 0 ≤ℤ negsuc 0 = h.up 0 (omega arith) in absurd (omega (arith, ints));
  not_constant = λ h. let e : pos 0 ≡ negsuc 0 = h.sum.at 1 in absurd (omega (arith, ints));
}
  where
    nothing : {x : Row} → Solves [] [] x
    nothing = record { inequalities = tt; equations = tt }

    up : (i : ℕ) → i < length segment → pos 0 ≤ℤ entry (row (pos 0) (pos 3)) i
    up zero l = omega (arith, ints)
    up (suc zero) l = omega (arith, ints)
    up (suc (suc i)) l = absurd (omega arith)

    below : (i : ℕ) → entry (negsuc 0 ∷ []) i ≡ entry (combination (negsuc 0 ∷ []) far_alone) i
    below zero = refl
    below (suc zero) = refl
    below (suc (suc i)) = refl
