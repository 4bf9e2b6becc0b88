-- Values, faces and dual rows of programs that fall without end, of one on a line, and of one whose rows are scaled.
use Rattle.pm_vector.proofs.ConeLaws.{in_generator}
use Rattle.pm_vector.proofs.Lists.{All_among, Among, here, there}
use Rattle.pm_vector.proofs.Ring.{ring}
use Rattle.pm_vector.proofs.RowLaws.{dot-zeros, length-zeros, zeros}
use Rattle.pm_vector.proofs.Signs.{mul_le}
use Rattle.pm_vector.specs.Cones.{InCone, InSpan}
use Rattle.pm_vector.specs.Divisors.{IsPrimitive}
use Rattle.pm_vector.specs.Numbers.{Ratio}
use Rattle.pm_vector.specs.Rows.{Row, Stands, dot, entry, plus, ratio_at, times}
use Rattle.pm_geom.proofs.ShortRows.{at_three}
use Rattle.pm_geom.proofs.SmallThings.{line_is_read}
use Rattle.pm_geom.specs.Cones.{IsFacetRow}
use Rattle.pm_geom.specs.Examples.{half_line, pair, triple}
use Rattle.pm_geom.specs.Faces.{ray}
use Rattle.pm_geom.specs.Programs.{IsMaximum, IsTimes}
use Rattle.pm_examples_objects.proofs.Objectives.{IsBound, at_least, at_most, attained, bound, bound_on, first_of, gap, not_exceeded, not_without_bound, times_is, whole_times}
use Rattle.pm_examples_objects.proofs.ProgramValues.{along, along_facet, alone, at_ray, least_at_vertex, least_bound, no_entries, no_places, without_end}
use Rattle.pm_examples_objects.specs.EndlessExamples.{EndlessProgramsAreRead, LineProgramsAreRead, ScaledDualsAreRead, across, backwards, line_program, twice_along}
use Rattle.pm_examples_objects.specs.ProgramExamples.{program_on, segment}
use Rattle.pm_types.specs.Programs.{ArePlacesOfValue, HasExtendedAt, IsGreatest}
use Rattle.pm_types.specs.Right.{AreDualRows, AreFacetDirections, IsBoundBy, total}
use Rattle.pm_types.specs.Values.{Extended, finite, minus_infinity, plus_infinity}
use Rattle.pm_types.specs.Views.{over_one, ratios}
use Rattle.std.proofs.Common.{ap, arith, refl, subst}
use Rattle.std.proofs.lemmas.Int.{ints}
use Rattle.std.specs.List.{Contains, slice_index_or}
use Rattle.std.specs.Prelude.{List, [], length, map, suc, zero, ℕ, ◌<◌, ◌∷◌, ◌≡◌, ◌↔◌}
use lib.IntN.{negsuc, pos, ℤ, ◌*ℤ◌, ◌+ℤ◌}
use lib.Signed.{lt_z_yes, ◌<ℤ◌, ◌≤ℤ◌}

-- ---- x1 has no greatest value on the half line
-- at the point k it has the value k
at_point : (v : Ratio) (k : ℕ) → IsMaximum (InCone half_line []) (ratios along) v → (pos k *ℤ v.den) ≤ℤ (pos 1 *ℤ v.num)
at_point v k m = subst (λ z. (z *ℤ v.den) ≤ℤ (pos 1 *ℤ v.num)) (value k) (at_least (InCone half_line []) along v (pair 1 k) m.greatest (at_ray k) (lt_z_yes tt))
  where
    value : (k : ℕ) → dot along (pair 1 k) ≡ pos k
    value k = omega (arith, ints)

above : (n : ℕ) (d : ℤ) → pos 0 <ℤ d → (pos (suc n) *ℤ d) ≤ℤ (pos 1 *ℤ pos n) → ⊥
above n d h l =
    let u : (pos (suc n) *ℤ pos 1) ≤ℤ (pos (suc n) *ℤ d) = mul_le {a = pos (suc n)} {b = pos 1} {c = d} (omega (arith, ints)) (omega (arith, ints)) in
    let u' : pos (suc n) ≤ℤ (d *ℤ pos (suc n)) = simp ring at u in
    let l' : (d *ℤ pos (suc n)) ≤ℤ pos n = simp ring at l in
    omega (arith, ints)

no_maximum : (v : Ratio) → IsMaximum (InCone half_line []) (ratios along) v → ⊥
no_maximum v m = by v.num refl
  where
    by : (n : ℤ) → v.num ≡ n → ⊥
    by (pos n) e = above n v.den m.attained.positive (subst (λ z. (pos (suc n) *ℤ v.den) ≤ℤ (pos 1 *ℤ z)) e (at_point v (suc n) m))
    by (negsuc n) e =
        let l = simp ring at (subst (λ z. (pos 0 *ℤ v.den) ≤ℤ (pos 1 *ℤ z)) e (at_point v 0 m)) in
        omega (arith, ints)

-- so what is so of its greatest value is so of inf
endless : (P : Extended → Type 0) → ¬ (P plus_infinity) → (x : Extended) → IsGreatest (InCone half_line []) (ratios along) x → P x → ⊥
endless P f (finite v) m p = no_maximum v m
endless P f plus_infinity m p = f p
endless P f minus_infinity m p = m (pair 1 0) (in_generator (there here)) (lt_z_yes tt)

-- inf has no place
no_place_at_infinity : ArePlacesOfValue (ratios along) plus_infinity half_line (pos 1 ∷ []) → ⊥
no_place_at_infinity p = at p.js p.places p.each
  where
    at : (js : List ℕ) → pos 1 ∷ [] ≡ map pos js → ((j : ℕ) → Contains js j ↔ ((j < length half_line) × HasExtendedAt (ratios along) plus_infinity (ray half_line j))) → ⊥
    at [] e f = let l = ap length e in omega arith
    at (j ∷ js) e f = ((f j).0 (first_of j js)).1

segment_bound : IsBound (InCone segment []) along (over_one (pos 1))
segment_bound = bound segment along (over_one (pos 1)) tt

segment_fall : IsBound (InCone segment []) backwards (over_one (pos 0))
segment_fall = bound segment backwards (over_one (pos 0)) tt

pub endless_programs_are_read : EndlessProgramsAreRead
endless_programs_are_read = record {
  least = without_end;
  not_infinity = λ h. h (pair 1 0) (in_generator (there here)) (lt_z_yes tt);
  not_finite = λ m. no_maximum _ m;
  no_face = record { value = plus_infinity; greatest = without_end; holds = no_places (ratios along) plus_infinity half_line (λ j l h. h) };
  not_the_vertex = λ h. endless (λ x. ArePlacesOfValue (ratios along) x half_line (pos 1 ∷ [])) no_place_at_infinity h.value h.greatest h.holds;
  no_rows = record { value = plus_infinity; greatest = without_end; holds = refl };
  not_a_row = λ h. endless (AreDualRows (program_on 2 half_line (ratios backwards)) (ratios along) (ratios (pair 0 1) ∷ [])) (λ d. let l = ap length d in omega arith) h.value h.greatest h.holds;
  greatest = least_at_vertex;
  no_end = not_without_bound (InCone half_line []) backwards (over_one (pos 0)) (lt_z_yes tt) least_bound;
  bounded = record {
    attained = attained (InCone segment []) along (over_one (pos 1)) (pair 1 1) refl (in_generator (there here)) (lt_z_yes tt) (lt_z_yes tt) refl;
    greatest = not_exceeded (InCone segment []) along (over_one (pos 1)) segment_bound;
  };
  no_direction = not_without_bound (InCone segment []) along (over_one (pos 1)) (lt_z_yes tt) segment_bound;
  no_fall = not_without_bound (InCone segment []) backwards (over_one (pos 0)) (lt_z_yes tt) segment_fall;
}

-- ---- the line
abbrev points : List Row
points = triple 1 0 0 ∷ []

abbrev lines : List Row
lines = triple 0 1 0 ∷ []

-- -x2
abbrev opposite_across : Row
opposite_across = pos 0 ∷ pos 0 ∷ negsuc 0 ∷ []

opposed : InSpan (across ∷ []) opposite_across
opposed = record { m = pos 1; c = []; d = negsuc 0 ∷ []; positive = lt_z_yes tt; not_negative = tt; same = at_three _ _ _ _ _ _ refl refl refl }

line_bound : IsBound (InCone points lines) across (over_one (pos 0))
line_bound = bound_on points lines across (over_one (pos 0)) tt flat
  where
    flat : (l : Row) → Among l lines → dot (gap across (over_one (pos 0))) l ≡ pos 0
    flat l here = refl
    flat l (there i) = elim i [ ]

pub line_programs_are_read : LineProgramsAreRead
line_programs_are_read = record {
  greatest = level;
  not_one = λ m. (let e : pos 1 ≤ℤ pos 0 = at_most (InCone points lines) across (over_one (pos 1)) (over_one (pos 0)) m.attained line_bound in omega (arith, ints));
  no_rows = record { value = finite (over_one (pos 0)); greatest = level; holds = (no_directions, by_no_rows) };
}
  where
    level : IsMaximum (InCone points lines) (ratios across) (over_one (pos 0))
    level = record {
      attained = attained (InCone points lines) across (over_one (pos 0)) (triple 1 0 0) refl (in_generator here) (lt_z_yes tt) (lt_z_yes tt) refl;
      greatest = not_exceeded (InCone points lines) across (over_one (pos 0)) line_bound;
    }

    no_directions : AreFacetDirections line_program []
    no_directions = record {
      xs = [];
      stand = tt;
      facets = All_among (IsFacetRow 3 points lines) [] (λ x i. elim i [ ]);
      primitive = All_among IsPrimitive [] (λ x i. elim i [ ]);
      ascending = λ i j d l m. absurd (omega arith);
    }

    sums : (i : ℕ) → entry (plus across (plus (total []) opposite_across)) i ≡ entry (pos 0 ∷ []) i
    sums zero = refl
    sums (suc zero) = refl
    sums (suc (suc zero)) = refl
    sums (suc (suc (suc i))) = refl

    by_no_rows : IsBoundBy line_program (ratios across) (over_one (pos 0)) []
    by_no_rows = record {
      k = pos 1;
      objective = across;
      xs = [];
      rest = opposite_across;
      constant = pos 0;
      objective_times = whole_times across;
      as_many = refl;
      times = λ i l. absurd (omega arith);
      vanishes = (line_is_read.vanish opposite_across refl).1 opposed;
      constant_times = refl;
      sum = record { at = sums };
    }

-- ---- rows with their multipliers
-- -2 x1
abbrev twice_against : Row
twice_against = pos 0 ∷ negsuc 1 ∷ []

twice_bound : IsBound (InCone half_line []) twice_against (over_one (pos 0))
twice_bound = bound half_line twice_against (over_one (pos 0)) tt

twice_at_vertex : IsMaximum (InCone half_line []) (ratios twice_against) (over_one (pos 0))
twice_at_vertex = record {
  attained = attained (InCone half_line []) twice_against (over_one (pos 0)) (pair 1 0) refl (in_generator (there here)) (lt_z_yes tt) (lt_z_yes tt) refl;
  greatest = not_exceeded (InCone half_line []) twice_against (over_one (pos 0)) twice_bound;
}

-- (0,2) has the direction of (0,1)
doubled : Stands (ratios (pair 0 2)) (pair 0 1)
doubled = record {
  p = pos 2;
  q = pos 1;
  p_positive = lt_z_yes tt;
  q_positive = lt_z_yes tt;
  cols = refl;
  denominators = positive;
  same = same;
}
  where
    positive : (i : ℕ) → i < 2 → pos 0 <ℤ (ratio_at (ratios (pair 0 2)) i).den
    positive zero l = lt_z_yes tt
    positive (suc zero) l = lt_z_yes tt
    positive (suc (suc i)) l = absurd (omega arith)

    same : (i : ℕ) → i < 2 → pos 2 *ℤ (entry (pair 0 1) i *ℤ (ratio_at (ratios (pair 0 2)) i).den) ≡ pos 1 *ℤ (ratio_at (ratios (pair 0 2)) i).num
    same zero l = refl
    same (suc zero) l = refl
    same (suc (suc i)) l = absurd (omega arith)

-- 2 x1 and the primitive row would leave x1
with_primitive : (c : List Ratio) (v : Ratio) → IsBoundBy (program_on 2 half_line c) (ratios twice_against) v (ratios (pair 0 1) ∷ []) → ⊥
with_primitive c v b = at b.xs b.as_many (b.times 0 (omega arith)) sum
  where
    sum : entry (plus (times b.k twice_against) (plus (total b.xs) (pair 0 0))) 1 ≡ pos 0
    sum =
        subst (λ o. entry (plus o (plus (total b.xs) (pair 0 0))) 1 ≡ pos 0) (times_is b.k twice_against b.objective b.objective_times)
        (subst (λ r. entry (plus b.objective (plus (total b.xs) r)) 1 ≡ pos 0) (no_entries b.rest b.vanishes) (b.sum.at 1))

    at : (xs : List Row) → length xs ≡ 1 → IsTimes b.k (ratios (pair 0 1)) (slice_index_or xs 0 []) → entry (plus (times b.k twice_against) (plus (total xs) (pair 0 0))) 1 ≡ pos 0 → ⊥
    at [] l t e = omega arith
    at (x ∷ y ∷ xs) l t e = omega arith
    at (x ∷ []) l t e =
        let h : (b.k *ℤ negsuc 1) +ℤ ((b.k *ℤ pos 1) +ℤ pos 0) ≡ pos 0 = subst (λ z. entry (plus (times b.k twice_against) (plus (plus z []) (pair 0 0))) 1 ≡ pos 0) (times_is b.k (pair 0 1) x t) e in
        let k = b.objective_times.positive in
        omega (arith, ints)

not_primitive : (v : Extended) → IsGreatest (InCone half_line []) (ratios twice_against) v → AreDualRows (program_on 2 half_line (ratios twice_along)) (ratios twice_against) (ratios (pair 0 1) ∷ []) v → ⊥
not_primitive (finite v) m d = with_primitive (ratios twice_along) v d.1
not_primitive plus_infinity m d = let l = ap length d in omega arith
not_primitive minus_infinity m d = let l = ap length d in omega arith

pub scaled_duals_are_read : ScaledDualsAreRead
unfolding zeros
scaled_duals_are_read = record {
  scaled = record { value = finite (over_one (pos 0)); greatest = twice_at_vertex; holds = (directions, by_row) };
  not_primitive = λ h. not_primitive h.value h.greatest h.holds;
}
  where
    directions : AreFacetDirections (program_on 2 half_line (ratios twice_along)) (ratios (pair 0 2) ∷ [])
    directions = record {
      xs = along ∷ [];
      stand = (doubled, tt);
      facets = All_among (IsFacetRow 2 half_line []) (along ∷ []) (λ x i. (along_facet x i).0);
      primitive = All_among IsPrimitive (along ∷ []) (λ x i. (along_facet x i).1);
      ascending = alone along;
    }

    sums : (i : ℕ) → entry (plus twice_against (plus (total (pair 0 2 ∷ [])) (pair 0 0))) i ≡ entry (pos 0 ∷ []) i
    sums zero = refl
    sums (suc zero) = refl
    sums (suc (suc i)) = refl

    times_one : (i : ℕ) → i < 1 → IsTimes (pos 1) (slice_index_or (ratios (pair 0 2) ∷ []) i []) (slice_index_or (pair 0 2 ∷ []) i [])
    times_one zero l = whole_times (pair 0 2)
    times_one (suc i) l = absurd (omega arith)

    by_row : IsBoundBy (program_on 2 half_line (ratios twice_along)) (ratios twice_against) (over_one (pos 0)) (ratios (pair 0 2) ∷ [])
    by_row = record {
      k = pos 1;
      objective = twice_against;
      xs = pair 0 2 ∷ [];
      rest = zeros 2;
      constant = pos 0;
      objective_times = whole_times twice_against;
      as_many = refl;
      times = times_one;
      vanishes = record { cols = length-zeros 2; holds = λ x l h. dot-zeros 2 x };
      constant_times = refl;
      sum = record { at = sums };
    }
