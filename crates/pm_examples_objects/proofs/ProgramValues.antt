-- Values, faces and dual rows of programs on the empty polytope, the half line, the unit square and a segment.
use Rattle.pm_vector.proofs.ConeLaws.{in_generator, none_to_zero}
use Rattle.pm_vector.proofs.Lists.{All_among, AllPairs_cons, Among, among_All, among_Contains, here, there}
use Rattle.pm_vector.proofs.Ring.{ring}
use Rattle.pm_vector.proofs.RowLaws.{dot-zeros, length-zeros, row_equal, times-dot, zeros}
use Rattle.pm_vector.proofs.Signs.{mul_cancel, mul_le, mul_pos, weaken}
use Rattle.pm_vector.specs.Cones.{InCone}
use Rattle.pm_vector.specs.Divisors.{IsPrimitive}
use Rattle.pm_vector.specs.Numbers.{IsReduced, Ratio}
use Rattle.pm_vector.specs.Rows.{Row, dot, entry, plus, ratio_at, times}
use Rattle.pm_vector.proofs.BasisExamples.{primitive_by_one}
use Rattle.pm_fraction.proofs.Quotients.{whole_reduced}
use Rattle.pm_geom.proofs.ShortRows.{at_two, by_two}
use Rattle.pm_geom.proofs.SmallThings.{half_line_is_read}
use Rattle.pm_geom.proofs.Square.{square_is_read}
use Rattle.pm_geom.specs.Cones.{IsFacetRow, Vanishes}
use Rattle.pm_geom.specs.Examples.{edges, half_line, pair, square, triple}
use Rattle.pm_geom.specs.Faces.{ray}
use Rattle.pm_geom.specs.Generators.{IsBefore}
use Rattle.pm_geom.specs.Programs.{HasNoPoint, IsMaximum, IsTimes, IsWithoutBound}
use Rattle.pm_examples_objects.proofs.Objectives.{IsBound, at_least, at_most, attained, bound, first_of, not_exceeded, not_without_bound, only_place, primitive_is, times_is, value_is, value_there, whole_times}
use Rattle.pm_examples_objects.specs.ProgramExamples.{ConstantProgramsAreRead, EmptyProgramsAreRead, FormsAreRead, FractionalProgramsAreRead, HalfLineProgramsAreRead, SquareDualsAreRead, SquareProgramsAreRead, half, program_on, right_edge, segment, sum_objective, upper_edge}
use Rattle.pm_relations.proofs.Standing.{stand_for_ratios}
use Rattle.pm_types.specs.Programs.{ArePlacesOfValue, HasExtendedAt, HasValueAt, IsGreatest, opposite_objective}
use Rattle.pm_types.specs.Right.{AreDualRows, AreFacetDirections, IsBoundBy, StandFor, total}
use Rattle.pm_types.specs.Values.{Extended, finite, minus_infinity, plus_infinity}
use Rattle.pm_types.specs.Views.{over_one, ratios}
use Rattle.std.proofs.Common.{ap, arith, refl, subst, sym, ◌∙◌}
use Rattle.pm_fraction.specs.Matrices.{IsFraction}
use Rattle.std.proofs.lemmas.Int.{ints}
use Rattle.std.proofs.lemmas.List.Elements.{All-nil}
use Rattle.std.proofs.lemmas.Nat.Gcd.{dvd_refl, le_of_dvd}
use Rattle.std.specs.List.{All, AllPairs, Contains, slice_index_or}
use Rattle.std.specs.Prelude.{List, [], length, map, suc, zero, ℕ, ◌<◌, ◌∷◌, ◌≡◌, ◌↔◌}
use lib.IntN.{negsuc, pos, ℤ, ◌*ℤ◌, ◌+ℤ◌}
use lib.Signed.{lt_z_yes, ◌<ℤ◌, ◌≤ℤ◌}

-- ---- no place, and none where there is no greatest value
pub no_places : (c : List Ratio) (x : Extended) (V : List Row) → ((j : ℕ) → j < length V → ¬ (HasExtendedAt c x (ray V j))) → ArePlacesOfValue c x V []
no_places c x V f = record {
  js = [];
  places = refl;
  ascending = λ i j d l m. absurd (omega arith);
  each = λ j. (λ k. elim (among_Contains [] k) [ ], λ h. absurd (f j h.0 h.1));
}

-- ---- the empty polytope
no_point : HasNoPoint (InCone [] [])
no_point x h first = let e = none_to_zero x h 0 in omega (arith, ints)

pub empty_programs_are_read : EmptyProgramsAreRead
empty_programs_are_read = record {
  greatest = no_point;
  not_infinity = λ w. no_point w.point w.point_inside w.first;
  not_finite = λ m. no_point m.attained.whole m.attained.inside m.attained.first;
  least = no_point;
  not_below_all = λ w. no_point w.point w.point_inside w.first;
  no_face = record { value = minus_infinity; greatest = no_point; holds = no_places (ratios (pair 0 1)) minus_infinity [] (λ j l h. h) };
  no_least_face = record { value = minus_infinity; greatest = no_point; holds = no_places (ratios (pos 0 ∷ negsuc 0 ∷ [])) minus_infinity [] (λ j l h. h) };
  no_rows = record { value = minus_infinity; greatest = no_point; holds = refl };
  no_least_rows = record { value = minus_infinity; greatest = no_point; holds = refl };
  not_a_row = λ h. by_value h.value h.greatest h.holds;
}
  where
    by_value : (x : Extended) → IsGreatest (InCone [] []) (ratios (pair 0 1)) x → AreDualRows (program_on 2 [] (ratios (pair 0 1))) (ratios (pair 0 1)) (ratios (pair 0 1) ∷ []) x → ⊥
    by_value (finite v) m d = no_point m.attained.whole m.attained.inside m.attained.first
    by_value plus_infinity m d = let l = ap length d in omega arith
    by_value minus_infinity m d = let l = ap length d in omega arith

-- ---- dual rows of whole numbers
times_each : (xs : List Row) (i : ℕ) → i < length (map ratios xs) → IsTimes (pos 1) (slice_index_or (map ratios xs) i []) (slice_index_or xs i [])
times_each [] i l = absurd (omega arith)
times_each (x ∷ xs) zero l = whole_times x
times_each (x ∷ xs) (suc i) l = times_each xs i (omega arith)

as_many : (xs : List Row) → length xs ≡ length (map ratios xs)
as_many [] = refl
as_many (x ∷ xs) = ap suc (as_many xs)

bounded_by : (n : ℕ) (G : List Row) (d : List Ratio) (c : Row) (m : ℤ) (xs : List Row) → ((i : ℕ) → entry (plus c (plus (total xs) (zeros n))) i ≡ entry (m ∷ []) i) → IsBoundBy (program_on n G d) (ratios c) (over_one m) (map ratios xs)
bounded_by n G d c m xs sums = record {
  k = pos 1;
  objective = c;
  xs = xs;
  rest = zeros n;
  constant = m;
  objective_times = whole_times c;
  as_many = as_many xs;
  times = times_each xs;
  vanishes = record { cols = length-zeros n; holds = λ x l h. dot-zeros n x };
  constant_times = omega (arith, ints);
  sum = record { at = sums };
}

directions : (n : ℕ) (G : List Row) (d : List Ratio) (xs : List Row) → ((x : Row) → Among x xs → IsFacetRow n G [] x × IsPrimitive x) → AllPairs IsBefore xs → AreFacetDirections (program_on n G d) (map ratios xs)
directions n G d xs f ascending = record {
  xs = xs;
  stand = stand_for_ratios xs;
  facets = All_among (IsFacetRow n G []) xs (λ x i. (f x i).0);
  primitive = All_among IsPrimitive xs (λ x i. (f x i).1);
  ascending = ascending;
}

pub alone : (x : Row) → AllPairs IsBefore (x ∷ [])
alone x i j d l m = absurd (omega arith)

pair_before : (x y : Row) → IsBefore x y → AllPairs IsBefore (x ∷ y ∷ [])
pair_before x y h = AllPairs_cons IsBefore x (y ∷ []) only (alone y)
  where
    only : (z : Row) → Among z (y ∷ []) → IsBefore x z
    only z here = h
    only z (there i) = elim i [ ]

-- ---- the half line
abbrev pub along : Row
along = pair 0 1

abbrev against : Row
against = pos 0 ∷ negsuc 0 ∷ []

pub without_end : IsWithoutBound (InCone half_line []) (ratios along)
without_end = record {
  k = pos 1;
  objective = along;
  point = pair 1 0;
  direction = along;
  times = whole_times along;
  point_cols = refl;
  direction_cols = refl;
  point_inside = in_generator (there here);
  direction_inside = in_generator here;
  first = lt_z_yes tt;
  level = refl;
  improves = lt_z_yes tt;
}

pub least_bound : IsBound (InCone half_line []) against (over_one (pos 0))
least_bound = bound half_line against (over_one (pos 0)) tt

pub least_at_vertex : IsMaximum (InCone half_line []) (ratios against) (over_one (pos 0))
least_at_vertex = record {
  attained = attained (InCone half_line []) against (over_one (pos 0)) (pair 1 0) refl (in_generator (there here)) (lt_z_yes tt) (lt_z_yes tt) refl;
  greatest = not_exceeded (InCone half_line []) against (over_one (pos 0)) least_bound;
}

-- the point k
pub at_ray : (k : ℕ) → InCone half_line [] (pair 1 k)
at_ray k = (half_line_is_read.cut (pair 1 k) refl).1 (omega (arith, ints), (omega (arith, ints), tt))

half_line_vertex : ArePlacesOfValue (ratios against) (finite (over_one (pos 0))) half_line (pos 1 ∷ [])
half_line_vertex = record {
  js = 1 ∷ [];
  places = refl;
  ascending = λ i j d l m. absurd (omega arith);
  each = only_place 1 (λ j. (j < length half_line) × HasValueAt (ratios against) (over_one (pos 0)) (ray half_line j)) (omega arith, value_there against (over_one (pos 0)) (pair 1 0) refl) only;
}
  where
    only : (j : ℕ) → (j < length half_line) × HasValueAt (ratios against) (over_one (pos 0)) (ray half_line j) → j ≡ 1
    only zero h = absurd (let e : negsuc 0 ≡ pos 0 = value_is against (over_one (pos 0)) along h.1 in omega (arith, ints))
    only (suc zero) h = refl
    only (suc (suc j)) h = absurd (let l = h.0 in omega arith)

pub along_facet : (x : Row) → Among x (along ∷ []) → IsFacetRow 2 half_line [] x × IsPrimitive x
along_facet x here = (among_All (λ a. IsFacetRow 2 half_line [] a) (here {xs = pair 1 0 ∷ []}) half_line_is_read.facets.each, primitive_by_one along 1 refl)
along_facet x (there i) = elim i [ ]

half_line_row : AreDualRows (program_on 2 half_line (ratios along)) (ratios against) (ratios along ∷ []) (finite (over_one (pos 0)))
unfolding zeros
half_line_row = (directions 2 half_line (ratios along) (along ∷ []) along_facet (alone along), bounded_by 2 half_line (ratios along) against (pos 0) (along ∷ []) sums)
  where
    sums : (i : ℕ) → entry (pos 0 ∷ pos 0 ∷ []) i ≡ entry (pos 0 ∷ []) i
    sums zero = refl
    sums (suc zero) = refl
    sums (suc (suc i)) = refl

-- a greatest value of -x1 is finite, and not above 0
finite_there : (P : Extended → Type 0) → ((v : Ratio) → v.num ≤ℤ pos 0 → pos 0 <ℤ v.den → P (finite v) → ⊥) → (x : Extended) → IsGreatest (InCone half_line []) (ratios against) x → P x → ⊥
finite_there P f plus_infinity m p = not_without_bound (InCone half_line []) against (over_one (pos 0)) (lt_z_yes tt) least_bound m
finite_there P f minus_infinity m p = m (pair 1 0) (in_generator (there here)) (lt_z_yes tt)
finite_there P f (finite v) m p =
    let e : (v.num *ℤ pos 1) ≤ℤ (pos 0 *ℤ v.den) = at_most (InCone half_line []) against v (over_one (pos 0)) m.attained least_bound in
    let l : v.num ≤ℤ pos 0 = simp ring at e in
    f v l m.attained.positive p

-- a row that vanishes on the half line is zero
pub no_entries : (r : Row) → Vanishes 2 half_line [] r → r ≡ pair 0 0
no_entries r h = by_two (λ y. dot y along ≡ pos 0 → dot y (pair 1 0) ≡ pos 0 → y ≡ pair 0 0) at r h.cols (h.holds along refl (in_generator here)) (h.holds (pair 1 0) refl (in_generator (there here)))
  where
    at : (a b : ℤ) → dot (a ∷ b ∷ []) along ≡ pos 0 → dot (a ∷ b ∷ []) (pair 1 0) ≡ pos 0 → a ∷ b ∷ [] ≡ pair 0 0
    at a b e f =
        let e' = simp ring at e in
        let f' = simp ring at f in
        let p : a ≡ pos 0 = omega (arith, ints) in
        let q : b ≡ pos 0 = omega (arith, ints) in
        ap (λ z. z ∷ b ∷ []) p ∙ ap (λ z. pos 0 ∷ z ∷ []) q

-- the sum of -x1 and of whole multiples is a constant
sums_of : (v : Ratio) (X : List Row) (b : IsBoundBy (program_on 2 half_line (ratios along)) (ratios against) v (map ratios X)) (i : ℕ) → entry (plus (times b.k against) (plus (total b.xs) (pair 0 0))) i ≡ entry (b.constant ∷ []) i
sums_of v X b i =
    subst (λ o. entry (plus o (plus (total b.xs) (pair 0 0))) i ≡ entry (b.constant ∷ []) i) (times_is b.k against b.objective b.objective_times)
    (subst (λ r. entry (plus b.objective (plus (total b.xs) r)) i ≡ entry (b.constant ∷ []) i) (no_entries b.rest b.vanishes) (b.sum.at i))

-- without rows -x1 would be a constant, with the double of (0,1) too
without_rows : (v : Ratio) → IsBoundBy (program_on 2 half_line (ratios along)) (ratios against) v [] → ⊥
without_rows v b = at b.xs b.as_many (sums_of v [] b 1)
  where
    at : (xs : List Row) → length xs ≡ 0 → entry (plus (times b.k against) (plus (total xs) (pair 0 0))) 1 ≡ pos 0 → ⊥
    at [] l e = let h : (b.k *ℤ negsuc 0) +ℤ pos 0 ≡ pos 0 = e in let k = b.objective_times.positive in omega (arith, ints)
    at (x ∷ xs) l e = omega arith

with_double : (v : Ratio) → IsBoundBy (program_on 2 half_line (ratios along)) (ratios against) v (ratios (pair 0 2) ∷ []) → ⊥
with_double v b = at b.xs b.as_many (b.times 0 (omega arith)) (sums_of v (pair 0 2 ∷ []) b 1)
  where
    at : (xs : List Row) → length xs ≡ 1 → IsTimes b.k (ratios (pair 0 2)) (slice_index_or xs 0 []) → entry (plus (times b.k against) (plus (total xs) (pair 0 0))) 1 ≡ pos 0 → ⊥
    at [] l t e = omega arith
    at (x ∷ y ∷ xs) l t e = omega arith
    at (x ∷ []) l t e =
        let h : (b.k *ℤ negsuc 0) +ℤ ((b.k *ℤ pos 2) +ℤ pos 0) ≡ pos 0 = subst (λ z. entry (plus (times b.k against) (plus (plus z []) (pair 0 0))) 1 ≡ pos 0) (times_is b.k (pair 0 2) x t) e in
        let k = b.objective_times.positive in
        omega (arith, ints)

-- with the far face the constant is that of a lesser bound
with_far : (v : Ratio) → v.num ≤ℤ pos 0 → pos 0 <ℤ v.den → IsBoundBy (program_on 2 half_line (ratios along)) (ratios against) v (ratios (pair 0 1) ∷ ratios (pair 1 0) ∷ []) → ⊥
with_far v up positive b = at b.xs b.as_many (b.times 0 (omega arith)) (b.times 1 (omega arith)) (sums_of v (pair 0 1 ∷ pair 1 0 ∷ []) b 0)
  where
    clash : (k c n d : ℤ) → pos 0 <ℤ k → n ≤ℤ pos 0 → pos 0 <ℤ d → k ≡ c → c *ℤ d ≡ k *ℤ n → ⊥
    clash k c n d hk hn hd is e =
        let f : k *ℤ d ≡ k *ℤ n = ap (λ z. z *ℤ d) is ∙ e in
        let g : d ≡ n = mul_cancel hk f in
        omega (arith, ints)

    at : (xs : List Row) → length xs ≡ 2 → IsTimes b.k (ratios (pair 0 1)) (slice_index_or xs 0 []) → IsTimes b.k (ratios (pair 1 0)) (slice_index_or xs 1 []) → entry (plus (times b.k against) (plus (total xs) (pair 0 0))) 0 ≡ b.constant → ⊥
    at [] l t u e = omega arith
    at (x ∷ []) l t u e = omega arith
    at (x ∷ y ∷ z ∷ xs) l t u e = omega arith
    at (x ∷ y ∷ []) l t u e =
        let h : (b.k *ℤ pos 0) +ℤ (((b.k *ℤ pos 0) +ℤ (b.k *ℤ pos 1)) +ℤ pos 0) ≡ b.constant =
        subst (λ z. entry (plus (times b.k against) (plus (plus z (plus (times b.k (pair 1 0)) [])) (pair 0 0))) 0 ≡ b.constant) (times_is b.k (pair 0 1) x t)
        (subst (λ z. entry (plus (times b.k against) (plus (plus x (plus z [])) (pair 0 0))) 0 ≡ b.constant) (times_is b.k (pair 1 0) y u) e) in
        let i : b.k ≡ b.constant = omega (arith, ints) in
        clash b.k b.constant v.num v.den b.objective_times.positive up positive i b.constant_times

pub half_line_programs_are_read : HalfLineProgramsAreRead
half_line_programs_are_read = record {
  greatest = without_end;
  not_below_all = λ h. h (pair 1 0) (in_generator (there here)) (lt_z_yes tt);
  not_finite = λ m. (let e : pos 6 ≤ℤ pos 5 = at_least (InCone half_line []) along (over_one (pos 5)) (pair 1 6) m.greatest (at_ray 6) (lt_z_yes tt) in omega (arith, ints));
  least = least_at_vertex;
  not_attained = λ m. (let e : pos 1 ≤ℤ pos 0 = at_most (InCone half_line []) against (over_one (pos 1)) (over_one (pos 0)) m.attained least_bound in omega (arith, ints));
  not_the_least = λ m. (let e : pos 0 ≤ℤ negsuc 0 = at_least (InCone half_line []) against (over_one (negsuc 0)) (pair 1 0) m.greatest (in_generator (there here)) (lt_z_yes tt) in omega (arith, ints));
  no_face = record { value = plus_infinity; greatest = without_end; holds = no_places (ratios along) plus_infinity half_line (λ j l h. h) };
  vertex = record { value = finite (over_one (pos 0)); greatest = least_at_vertex; holds = half_line_vertex };
  not_both = λ h. not_both h.value h.greatest h.holds;
  no_rows = record { value = plus_infinity; greatest = without_end; holds = refl };
  row = record { value = finite (over_one (pos 0)); greatest = least_at_vertex; holds = half_line_row };
  not_no_rows = λ h. finite_there (AreDualRows (program_on 2 half_line (ratios along)) (ratios against) []) (λ v u p d. without_rows v d.1) h.value h.greatest h.holds;
  not_double = λ h. finite_there (AreDualRows (program_on 2 half_line (ratios along)) (ratios against) (ratios (pair 0 2) ∷ [])) (λ v u p d. with_double v d.1) h.value h.greatest h.holds;
  not_lower = λ h. finite_there (AreDualRows (program_on 2 half_line (ratios along)) (ratios against) (ratios (pair 0 1) ∷ ratios (pair 1 0) ∷ [])) (λ v u p d. with_far v u p d.1) h.value h.greatest h.holds;
}
  where
    not_both : (x : Extended) → IsGreatest (InCone half_line []) (ratios against) x → ArePlacesOfValue (ratios against) x half_line (pos 0 ∷ pos 1 ∷ []) → ⊥
    not_both (finite v) m p = both p.js p.places p.each
      where
        up : (pos 0 *ℤ v.den) ≤ℤ (pos 1 *ℤ v.num)
        up = at_least (InCone half_line []) against v (pair 1 0) m.greatest (in_generator (there here)) (lt_z_yes tt)

        both : (js : List ℕ) → pos 0 ∷ pos 1 ∷ [] ≡ map pos js → ((j : ℕ) → Contains js j ↔ ((j < length half_line) × HasValueAt (ratios against) v (ray half_line j))) → ⊥
        both [] e f = let l = ap length e in omega arith
        both (j ∷ js) e f =
            let z : j ≡ 0 = cc in
            let h = ((f 0).0 (subst (λ i. Contains (i ∷ js) 0) (sym z) (first_of 0 js))).1 in
            let g : negsuc 0 *ℤ v.den ≡ pos 0 *ℤ v.num = value_is against v along h in
            let d = m.attained.positive in
            let r = simp ring at g in
            omega (arith, ints)
    not_both plus_infinity m p = not_without_bound (InCone half_line []) against (over_one (pos 0)) (lt_z_yes tt) least_bound m
    not_both minus_infinity m p = m (pair 1 0) (in_generator (there here)) (lt_z_yes tt)

-- ---- the square
abbrev sum : Row
sum = triple 0 1 1

abbrev less : Row
less = pos 0 ∷ negsuc 0 ∷ negsuc 0 ∷ []

greatest_bound : IsBound (InCone square []) sum (over_one (pos 2))
greatest_bound = bound square sum (over_one (pos 2)) tt

at_last : IsMaximum (InCone square []) (ratios sum) (over_one (pos 2))
at_last = record {
  attained = attained (InCone square []) sum (over_one (pos 2)) (triple 1 1 1) refl (in_generator (there (there (there here)))) (lt_z_yes tt) (lt_z_yes tt) refl;
  greatest = not_exceeded (InCone square []) sum (over_one (pos 2)) greatest_bound;
}

at_first : IsMaximum (InCone square []) (ratios less) (over_one (pos 0))
at_first = record {
  attained = attained (InCone square []) less (over_one (pos 0)) (triple 1 0 0) refl (in_generator here) (lt_z_yes tt) (lt_z_yes tt) refl;
  greatest = not_exceeded (InCone square []) less (over_one (pos 0)) (bound square less (over_one (pos 0)) tt);
}

last_place : ArePlacesOfValue (ratios sum) (finite (over_one (pos 2))) square (pos 3 ∷ [])
last_place = record {
  js = 3 ∷ [];
  places = refl;
  ascending = λ i j d l m. absurd (omega arith);
  each = only_place 3 (λ j. (j < length square) × HasValueAt (ratios sum) (over_one (pos 2)) (ray square j)) (omega arith, value_there sum (over_one (pos 2)) (triple 1 1 1) refl) only;
}
  where
    only : (j : ℕ) → (j < length square) × HasValueAt (ratios sum) (over_one (pos 2)) (ray square j) → j ≡ 3
    only zero h = absurd (let e : pos 0 ≡ pos 2 = value_is sum (over_one (pos 2)) (triple 1 0 0) h.1 in omega (arith, ints))
    only (suc zero) h = absurd (let e : pos 1 ≡ pos 2 = value_is sum (over_one (pos 2)) (triple 1 0 1) h.1 in omega (arith, ints))
    only (suc (suc zero)) h = absurd (let e : pos 1 ≡ pos 2 = value_is sum (over_one (pos 2)) (triple 1 1 0) h.1 in omega (arith, ints))
    only (suc (suc (suc zero))) h = refl
    only (suc (suc (suc (suc j)))) h = absurd (let l = h.0 in omega arith)

first_place : ArePlacesOfValue (ratios less) (finite (over_one (pos 0))) square (pos 0 ∷ [])
first_place = record {
  js = 0 ∷ [];
  places = refl;
  ascending = λ i j d l m. absurd (omega arith);
  each = only_place 0 (λ j. (j < length square) × HasValueAt (ratios less) (over_one (pos 0)) (ray square j)) (omega arith, value_there less (over_one (pos 0)) (triple 1 0 0) refl) only;
}
  where
    only : (j : ℕ) → (j < length square) × HasValueAt (ratios less) (over_one (pos 0)) (ray square j) → j ≡ 0
    only zero h = refl
    only (suc zero) h = absurd (let e : negsuc 0 ≡ pos 0 = value_is less (over_one (pos 0)) (triple 1 0 1) h.1 in omega (arith, ints))
    only (suc (suc zero)) h = absurd (let e : negsuc 0 ≡ pos 0 = value_is less (over_one (pos 0)) (triple 1 1 0) h.1 in omega (arith, ints))
    only (suc (suc (suc zero))) h = absurd (let e : negsuc 1 ≡ pos 0 = value_is less (over_one (pos 0)) (triple 1 1 1) h.1 in omega (arith, ints))
    only (suc (suc (suc (suc j)))) h = absurd (let l = h.0 in omega arith)

-- the third vertex has a lesser value than the last
not_third : (x : Extended) → IsGreatest (InCone square []) (ratios sum) x → ArePlacesOfValue (ratios sum) x square (pos 2 ∷ []) → ⊥
not_third plus_infinity m p = not_without_bound (InCone square []) sum (over_one (pos 2)) (lt_z_yes tt) greatest_bound m
not_third minus_infinity m p = m (triple 1 0 0) (in_generator here) (lt_z_yes tt)
not_third (finite v) m p = third p.js p.places p.each
  where
    up : (pos 2 *ℤ v.den) ≤ℤ (pos 1 *ℤ v.num)
    up = at_least (InCone square []) sum v (triple 1 1 1) m.greatest (in_generator (there (there (there here)))) (lt_z_yes tt)

    third : (js : List ℕ) → pos 2 ∷ [] ≡ map pos js → ((j : ℕ) → Contains js j ↔ ((j < length square) × HasValueAt (ratios sum) v (ray square j))) → ⊥
    third [] e f = let l = ap length e in omega arith
    third (j ∷ js) e f =
        let z : j ≡ 2 = cc in
        let h = ((f 2).0 (subst (λ i. Contains (i ∷ js) 2) (sym z) (first_of 2 js))).1 in
        let g : pos 1 *ℤ v.den ≡ pos 1 *ℤ v.num = value_is sum v (triple 1 1 0) h in
        let d = m.attained.positive in
        let r = simp ring at g in
        let u : (pos 2 *ℤ v.den) ≤ℤ v.num = simp ring at up in
        omega (arith, ints)

-- no place stands twice
twice : (js : List ℕ) → pos 3 ∷ pos 3 ∷ [] ≡ map pos js → AllPairs (λ i j. i < j) js → ⊥
twice [] e a = let l = ap length e in omega arith
twice (i ∷ []) e a = let l = ap length e in omega arith
twice (i ∷ j ∷ js) e a =
    let l : i < j = a 0 1 0 (omega arith) (omega arith) in
    let p : i ≡ 3 = cc in
    let q : j ≡ 3 = cc in
    omega arith

pub square_programs_are_read : SquareProgramsAreRead
square_programs_are_read = record {
  objective = refl;
  not_another = λ e. (let f : pos 2 ≡ pos 1 = ap second_entry e in omega (arith, ints));
  not_twice = λ e. (let l = ap length e in omega arith);
  greatest = at_last;
  not_attained = λ m. (let e : pos 3 ≤ℤ pos 2 = at_most (InCone square []) sum (over_one (pos 3)) (over_one (pos 2)) m.attained greatest_bound in omega (arith, ints));
  not_the_greatest = λ m. (let e : pos 2 ≤ℤ pos 1 = at_least (InCone square []) sum (over_one (pos 1)) (triple 1 1 1) m.greatest (in_generator (there (there (there here)))) (lt_z_yes tt) in omega (arith, ints));
  least = at_first;
  not_the_least = λ m. (let e : pos 0 ≤ℤ negsuc 1 = at_least (InCone square []) less (over_one (negsuc 1)) (triple 1 0 0) m.greatest (in_generator here) (lt_z_yes tt) in omega (arith, ints));
  last_vertex = record { value = finite (over_one (pos 2)); greatest = at_last; holds = last_place };
  not_another_vertex = λ h. not_third h.value h.greatest h.holds;
  not_twice_a_vertex = λ h. let p = h.holds in twice p.js p.places p.ascending;
  first_vertex = record { value = finite (over_one (pos 0)); greatest = at_first; holds = first_place };
}
  where
    second_entry : List (List Ratio) → ℤ
    second_entry ((p ∷ q ∷ r) ∷ rows) = q.num
    second_entry rows = pos 0

-- ---- dual rows of the square
edge : {x : Row} → Among x edges → IsFacetRow 3 square [] x
edge i = among_All (λ a. IsFacetRow 3 square [] a) i square_is_read.facets.each

zero_from_three : (m : ℤ) (i : ℕ) → entry (m ∷ pos 0 ∷ pos 0 ∷ []) i ≡ entry (m ∷ []) i
zero_from_three m zero = refl
zero_from_three m (suc zero) = refl
zero_from_three m (suc (suc zero)) = refl
zero_from_three m (suc (suc (suc i))) = refl

below_two : (i : ℕ) → i < 1 → (x y : Row) → entry x 0 ≡ entry y 0 → entry x i ≡ entry y i
below_two zero l x y e = e
below_two (suc i) l x y e = absurd (omega arith)

at_second : (x y : Row) → 1 < length x → entry x 0 ≡ entry y 0 → entry x 1 <ℤ entry y 1 → IsBefore x y
at_second x y l e f = record { place = 1; within = l; same = λ i m. below_two i m x y e; below = f }

last_rows : (x : Row) → Among x (right_edge ∷ upper_edge ∷ []) → IsFacetRow 3 square [] x × IsPrimitive x
last_rows x here = (edge (there (there (there here))), primitive_by_one right_edge 0 refl)
last_rows x (there here) = (edge (there (there here)), primitive_by_one upper_edge 0 refl)
last_rows x (there (there i)) = elim i [ ]

first_rows : (x : Row) → Among x (triple 0 0 1 ∷ triple 0 1 0 ∷ []) → IsFacetRow 3 square [] x × IsPrimitive x
first_rows x here = (edge (there here), primitive_by_one (triple 0 0 1) 2 refl)
first_rows x (there here) = (edge here, primitive_by_one (triple 0 1 0) 1 refl)
first_rows x (there (there i)) = elim i [ ]

not_before : IsBefore (triple 0 1 0) (triple 0 0 1) → ⊥
not_before b = at b.place b.within b.same b.below
  where
    at : (k : ℕ) → k < 3 → ((i : ℕ) → i < k → entry (triple 0 1 0) i ≡ entry (triple 0 0 1) i) → entry (triple 0 1 0) k <ℤ entry (triple 0 0 1) k → ⊥
    at zero l f h = omega (arith, ints)
    at (suc zero) l f h = omega (arith, ints)
    at (suc (suc zero)) l f h = let e : pos 1 ≡ pos 0 = f 1 (omega arith) in omega (arith, ints)
    at (suc (suc (suc k))) l f h = omega arith

descending : (xs : List Row) → StandFor (ratios (triple 0 1 0) ∷ ratios (triple 0 0 1) ∷ []) xs → All IsPrimitive xs → AllPairs IsBefore xs → ⊥
descending [] s p a = s
descending (x ∷ []) s p a = s.1
descending (x ∷ y ∷ z ∷ xs) s p a = s.1.1
descending (x ∷ y ∷ []) s p a =
    let e = primitive_is (triple 0 1 0) x 1 refl (omega arith) (among_All IsPrimitive (here {xs = y ∷ []}) p) s.0 in
    let f = primitive_is (triple 0 0 1) y 2 refl (omega arith) (among_All IsPrimitive (there (here {xs = []})) p) s.1.0 in
    let b : IsBefore x y = a 0 1 x (omega arith) (omega arith) in
    not_before (subst (λ z. IsBefore z (triple 0 0 1)) e (subst (λ z. IsBefore x z) f b))

not_descending : (v : Extended) → AreDualRows (program_on 3 square sum_objective) (ratios less) (ratios (triple 0 1 0) ∷ ratios (triple 0 0 1) ∷ []) v → ⊥
not_descending (finite v) d = let f = d.0 in descending f.xs f.stand f.primitive f.ascending
not_descending plus_infinity d = let l = ap length d in omega arith
not_descending minus_infinity d = let l = ap length d in omega arith

no_facet : (xs : List Row) → StandFor (ratios (triple 0 1 1) ∷ []) xs → All IsPrimitive xs → All (IsFacetRow 3 square []) xs → ⊥
no_facet [] s p f = s
no_facet (x ∷ y ∷ xs) s p f = s.1
no_facet (x ∷ []) s p f =
    let e = primitive_is (triple 0 1 1) x 1 refl (omega arith) (among_All IsPrimitive (here {xs = []}) p) s.0 in
    square_is_read.corner (subst (IsFacetRow 3 square []) e (among_All (IsFacetRow 3 square []) (here {xs = []}) f))

not_a_facet : (v : Extended) → AreDualRows (program_on 3 square sum_objective) (ratios less) (ratios (triple 0 1 1) ∷ []) v → ⊥
not_a_facet (finite v) d = let f = d.0 in no_facet f.xs f.stand f.primitive f.facets
not_a_facet plus_infinity d = let l = ap length d in omega arith
not_a_facet minus_infinity d = let l = ap length d in omega arith

not_before_itself : IsBefore (triple 0 1 0) (triple 0 1 0) → ⊥
not_before_itself b = let l = b.below in omega (arith, ints)

of_one_direction : (xs : List Row) → StandFor (ratios (triple 0 1 0) ∷ ratios (triple 0 1 0) ∷ []) xs → All IsPrimitive xs → AllPairs IsBefore xs → ⊥
of_one_direction [] s p a = s
of_one_direction (x ∷ []) s p a = s.1
of_one_direction (x ∷ y ∷ z ∷ xs) s p a = s.1.1
of_one_direction (x ∷ y ∷ []) s p a =
    let e = primitive_is (triple 0 1 0) x 1 refl (omega arith) (among_All IsPrimitive (here {xs = y ∷ []}) p) s.0 in
    let f = primitive_is (triple 0 1 0) y 1 refl (omega arith) (among_All IsPrimitive (there (here {xs = []})) p) s.1.0 in
    let b : IsBefore x y = a 0 1 x (omega arith) (omega arith) in
    not_before_itself (subst (λ z. IsBefore z (triple 0 1 0)) e (subst (λ z. IsBefore x z) f b))

not_of_one_direction : (c : List Ratio) (v : Extended) → AreDualRows (program_on 3 square (ratios (triple 0 2 0))) c (ratios (triple 0 1 0) ∷ ratios (triple 0 1 0) ∷ []) v → ⊥
not_of_one_direction c (finite v) d = let f = d.0 in of_one_direction f.xs f.stand f.primitive f.ascending
not_of_one_direction c plus_infinity d = let l = ap length d in omega arith
not_of_one_direction c minus_infinity d = let l = ap length d in omega arith

pub square_duals_are_read : SquareDualsAreRead
unfolding zeros
square_duals_are_read = record {
  rows = record {
    value = finite (over_one (pos 2));
    greatest = at_last;
    holds = (
      directions 3 square sum_objective (right_edge ∷ upper_edge ∷ []) last_rows (pair_before right_edge upper_edge (at_second right_edge upper_edge (omega arith) refl (lt_z_yes tt))),
      bounded_by 3 square sum_objective sum (pos 2) (right_edge ∷ upper_edge ∷ []) (zero_from_three (pos 2)),
    );
  };
  least_rows = record {
    value = finite (over_one (pos 0));
    greatest = at_first;
    holds = (
      directions 3 square sum_objective (triple 0 0 1 ∷ triple 0 1 0 ∷ []) first_rows (pair_before (triple 0 0 1) (triple 0 1 0) (at_second (triple 0 0 1) (triple 0 1 0) (omega arith) refl (lt_z_yes tt))),
      bounded_by 3 square sum_objective less (pos 0) (triple 0 0 1 ∷ triple 0 1 0 ∷ []) (zero_from_three (pos 0)),
    );
  };
  not_descending = λ h. not_descending h.value h.holds;
  not_a_facet = λ h. not_a_facet h.value h.holds;
  not_twice = λ h. not_of_one_direction (opposite_objective (ratios (triple 0 2 0))) h.value h.holds;
}

-- ---- an objective that is 0
constant : IsMaximum (InCone square []) (ratios (triple 0 0 0)) (over_one (pos 0))
constant = record {
  attained = attained (InCone square []) (triple 0 0 0) (over_one (pos 0)) (triple 1 0 0) refl (in_generator here) (lt_z_yes tt) (lt_z_yes tt) refl;
  greatest = not_exceeded (InCone square []) (triple 0 0 0) (over_one (pos 0)) (bound square (triple 0 0 0) (over_one (pos 0)) tt);
}

no_rows : AreFacetDirections (program_on 3 square (ratios (triple 0 0 0))) []
no_rows = directions 3 square (ratios (triple 0 0 0)) [] (λ x i. elim i [ ]) (λ i j d l m. absurd (omega arith))

pub constant_programs_are_read : ConstantProgramsAreRead
unfolding zeros
constant_programs_are_read = record {
  greatest = constant;
  least = constant;
  no_rows = record { value = finite (over_one (pos 0)); greatest = constant; holds = (no_rows, bounded_by 3 square (ratios (triple 0 0 0)) (triple 0 0 0) (pos 0) [] (zero_from_three (pos 0))) };
}

-- ---- an objective with a denominator
half_times : IsTimes (pos 2) half along
half_times = record { positive = lt_z_yes tt; cols = refl; denominators = positive; same = same }
  where
    positive : (i : ℕ) → i < 2 → pos 0 <ℤ (ratio_at half i).den
    positive zero l = lt_z_yes tt
    positive (suc zero) l = lt_z_yes tt
    positive (suc (suc i)) l = absurd (omega arith)

    same : (i : ℕ) → i < 2 → entry along i *ℤ (ratio_at half i).den ≡ pos 2 *ℤ (ratio_at half i).num
    same zero l = refl
    same (suc zero) l = refl
    same (suc (suc i)) l = absurd (omega arith)

half_twice : (k : ℤ) (o : Row) → IsTimes k half o → times (pos 2) o ≡ times k along
half_twice k [] t = absurd (let l = t.cols in omega arith)
half_twice k (a ∷ []) t = absurd (let l = t.cols in omega arith)
half_twice k (a ∷ b ∷ c ∷ o) t = absurd (let l = t.cols in omega arith)
half_twice k (a ∷ b ∷ []) t =
    let e : a *ℤ pos 1 ≡ k *ℤ pos 0 = t.same 0 (omega arith) in
    let f : b *ℤ pos 2 ≡ k *ℤ pos 1 = t.same 1 (omega arith) in
    row_equal (times (pos 2) (a ∷ b ∷ [])) (times k along) refl (at_two _ _ _ _ (omega (arith, ints)) (omega (arith, ints)))

half_bound : (k : ℤ) (o x : Row) → IsTimes k half o → InCone segment [] x → (dot o x *ℤ pos 2) ≤ℤ ((k *ℤ entry x 0) *ℤ pos 1)
half_bound k o x t h =
    let e : pos 2 *ℤ dot o x ≡ k *ℤ dot along x = sym (times-dot (pos 2) o x) ∙ ap (λ r. dot r x) (half_twice k o t) ∙ times-dot k along x in
    let g = mul_le (weaken t.positive) (bound segment along (over_one (pos 1)) tt x h) in
    let l : (k *ℤ dot along x) ≤ℤ (k *ℤ entry x 0) = simp ring at g in
    omega (arith, ints)

pub fractional_programs_are_read : FractionalProgramsAreRead
fractional_programs_are_read = record {
  greatest = record {
    attained = record { k = pos 2; objective = along; whole = pair 1 1; times = half_times; cols = refl; inside = in_generator (there here); first = lt_z_yes tt; positive = lt_z_yes tt; value = refl };
    greatest = record { holds = λ k o x t h first. half_bound k o x t h };
  };
  not_one = λ m. (let a = m.attained in clash (a.k *ℤ entry a.whole 0) (dot a.objective a.whole) (mul_pos a.times.positive a.first) a.value (half_bound a.k a.objective a.whole a.times a.inside));
}
  where
    clash : (n t : ℤ) → pos 0 <ℤ n → t *ℤ pos 1 ≡ n *ℤ pos 1 → (t *ℤ pos 2) ≤ℤ (n *ℤ pos 1) → ⊥
    clash n t h e l = omega (arith, ints)

-- ---- forms
not_reduced : IsReduced (record { num = pos 2; den = pos 2 }) → ⊥
not_reduced r = let h = (r.coprime.2 2 (dvd_refl 2) (dvd_refl 2)) in absurd (let l = le_of_dvd (omega arith) h in omega arith)

pub forms_are_read : FormsAreRead
forms_are_read = record {
  one_row = refl;
  not_two_rows = refl;
  not_no_rows = refl;
  dual_rows = refl;
  no_columns = refl;
  no_more_columns = refl;
  not_ragged = refl;
  points_have_columns = refl;
  finite_value = refl;
  not_a_whole_number = refl;
  not_a_value = refl;
  lowest_terms = record { reduced = whole_reduced (pos 2); in_range = (omega arith, omega arith) };
  infinities = (All-nil (All IsFraction), All-nil (All IsFraction));
  not_in_lowest_terms = λ f. not_reduced f.reduced;
}
