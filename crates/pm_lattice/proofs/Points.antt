-- A point, and no sets at all, read.
use Rattle.pm_vector.proofs.Lists.{AllPairs_cons, All_among, Among, Contains_among, among_Contains, here, there}
use Rattle.pm_geom.specs.FaceCounts.{IsLexBefore, at_rank}
use Rattle.pm_geom.specs.Faces.{IsStrictlyIn}
use Rattle.pm_geom.specs.Graphs.{IsAscending, holds, sets_of}
use Rattle.pm_geom.specs.Meets.{HasMeetRank, IsMeet}
use Rattle.pm_lattice.proofs.Ends.{chain_size}
use Rattle.pm_lattice.proofs.SmallMeets.{all_places, below, lacks_by, meet_with, one_row, ranked}
use Rattle.pm_lattice.specs.Examples.{NoSetsAreRead, PointIsRead}
use Rattle.pm_lattice.specs.Lattices.{IsFaceLattice}
use Rattle.pm_lattice.specs.Parts.{both}
use Rattle.std.proofs.Common.{arith, inl, inr, refl, sym, ◌∙◌}
use Rattle.std.specs.List.{AllPairs, Contains}
use Rattle.std.specs.Prelude.{Bool, IsTrue, List, [], length, suc, true, zero, ℕ, ◌<◌, ◌∷◌, ◌≡◌}
use Rattle.std.proofs.lemmas.Bool.{cases_Bool}

below_one : (P : ℕ → Type 0) → P 0 → (j : ℕ) → j < 1 → P j
below_one P a = below 0 P (λ j l. absurd (omega arith)) a

below_two : (P : ℕ → Type 0) → P 0 → P 1 → (j : ℕ) → j < 2 → P j
below_two P a b = below 1 P (below_one P a) b

-- lists of at most one face are in order
one_ordered : (faces : List (List ℕ)) → length faces < 2 → AllPairs IsLexBefore faces
one_ordered faces h i j d a b = absurd (omega arith)

none_rises : (m : ℕ) → IsAscending m []
none_rises m = ((λ i d l. absurd (omega arith)), (λ i j d a b. absurd (omega arith)))

zero_rises : (m : ℕ) → 0 < m → IsAscending m (0 ∷ [])
zero_rises m h = (All_among (λ j. j < m) (0 ∷ []) only, (λ i j d a b. absurd (omega arith)))
  where
    only : (j : ℕ) → Among j (0 ∷ []) → j < m
    only j here = h
    only j (there i) = elim i [ ]

-- ---- the point
abbrev point_sets : List (List ℕ)
point_sets = [] ∷ []

least : IsMeet 1 (sets_of point_sets) (holds [])
least = meet_with 1 (sets_of point_sets) (both (λ j. true) (holds [])) (holds []) (one_row 1 point_sets [] here) (below_one (λ j. holds [] j ≡ both (λ j. true) (holds []) j) refl)

point : IsMeet 1 (sets_of point_sets) (holds (0 ∷ []))
point = meet_with 1 (sets_of point_sets) (λ j. true) (holds (0 ∷ [])) (all_places 1 point_sets) (below_one (λ j. holds (0 ∷ []) j ≡ true) refl)

least_below : IsStrictlyIn 1 (holds []) (holds (0 ∷ []))
least_below = record { included = below_one (λ j. IsTrue (holds [] j) → IsTrue (holds (0 ∷ []) j)) (λ t. refl); j = 0; below = omega arith; has = refl; lacks = lacks_by (holds [] 0) refl }

least_rank : HasMeetRank 1 (sets_of point_sets) (holds []) 0
least_rank = ranked 1 (sets_of point_sets) (holds []) 0 0 least tt (λ y. chain_size 1 (sets_of point_sets) 1 (holds []) y) (omega arith)

point_rank : HasMeetRank 1 (sets_of point_sets) (holds (0 ∷ [])) 1
point_rank = ranked 1 (sets_of point_sets) (holds (0 ∷ [])) 1 1 point (holds [], least, least_below, tt) (λ y. chain_size 1 (sets_of point_sets) 2 (holds (0 ∷ [])) y) (omega arith)

abbrev point_faces : List (List (List ℕ))
point_faces = ([] ∷ []) ∷ ((0 ∷ []) ∷ []) ∷ []

point_each : (k : ℕ) (xs : List ℕ) → Among xs (at_rank point_faces k) → IsAscending 1 xs × HasMeetRank 1 (sets_of point_sets) (holds xs) k
point_each zero xs here = (none_rises 1, least_rank)
point_each zero xs (there i) = elim i [ ]
point_each (suc zero) xs here = (zero_rises 1 (omega arith), point_rank)
point_each (suc zero) xs (there i) = elim i [ ]
point_each (suc (suc k)) xs i = elim i [ ]

point_order : (k : ℕ) → AllPairs IsLexBefore (at_rank point_faces k)
point_order zero = one_ordered ([] ∷ []) (omega arith)
point_order (suc zero) = one_ordered ((0 ∷ []) ∷ []) (omega arith)
point_order (suc (suc k)) = one_ordered [] (omega arith)

point_full : (faces : List (List ℕ)) → Among faces point_faces → ¬ (faces ≡ [])
point_full faces here e = cc
point_full faces (there here) e = cc
point_full faces (there (there i)) e = elim i [ ]

there_least : Contains (at_rank point_faces 0) []
there_least = let i : Among [] (at_rank point_faces 0) = here in Contains_among i

there_point : Contains (at_rank point_faces 1) (0 ∷ [])
there_point = let i : Among (0 ∷ []) (at_rank point_faces 1) = here in Contains_among i

point_lattice : IsFaceLattice (record { rows = point_sets; cols = 1 }) point_faces
point_lattice = record {
  each = λ k xs c. point_each k xs (among_Contains (at_rank point_faces k) c);
  all = λ g w. elim (cases_Bool (g 0)) [
    | inl e ↦ (1, 0 ∷ [], there_point, below_one (λ j. g j ≡ holds (0 ∷ []) j) e)
    | inr e ↦ (0, [], there_least, below_one (λ j. g j ≡ holds [] j) e)
  ];
  ordered = point_order;
  full = All_among (λ faces. ¬ (faces ≡ [])) point_faces point_full;
}

-- the point is not of rank 0, since the empty face is below it
not_least : (more : List (List (List ℕ))) → ¬ (IsFaceLattice (record { rows = point_sets; cols = 1 }) (((0 ∷ []) ∷ []) ∷ more))
not_least more l = (l.each 0 (0 ∷ []) (let i : Among (0 ∷ []) ((0 ∷ []) ∷ []) = here in Contains_among i)).1.greatest (holds [], least, least_below, tt)

not_whole : ¬ (IsFaceLattice (record { rows = point_sets; cols = 1 }) (([] ∷ []) ∷ []))
not_whole l = let w = l.all (λ j. true) (all_places 1 point_sets) in go w.0 w.1 (among_Contains (at_rank (([] ∷ []) ∷ []) w.0) w.2) (w.3 0 (omega arith))
  where
    go : (k : ℕ) (xs : List ℕ) → Among xs (at_rank (([] ∷ []) ∷ []) k) → true ≡ holds xs 0 → ⊥
    go zero xs here e = cc
    go zero xs (there i) e = elim i [ ]
    go (suc k) xs i e = elim i [ ]

pub point_is_read : PointIsRead
point_is_read = record { lattice = point_lattice; without_least = not_least []; without_whole = not_whole; turned = not_least (([] ∷ []) ∷ []) }

-- ---- no sets
-- each meet of no sets is the set of all places
all_of_none : (m : ℕ) (g : ℕ → Bool) → IsMeet m [] g → (j : ℕ) → j < m → IsTrue (g j)
all_of_none m g w j l = (w.places j l).1 (All_among (λ r. IsTrue (r j)) w.some (λ r i. elim (among_Contains [] (w.among r (Contains_among i))) [ ]))

-- and has rank 0
rank_of_none : (m : ℕ) (g : ℕ → Bool) → IsMeet m [] g → HasMeetRank m [] g 0
rank_of_none m g w = record { meet = w; chain = tt; greatest = λ y. y.2.lacks (all_of_none m y.0 y.1 y.2.j y.2.below) }

module _ (m : ℕ) (xs : List ℕ) (rises : IsAscending m xs) (whole : IsMeet m [] (holds xs)) where
  one_each : (k : ℕ) (ys : List ℕ) → Among ys (at_rank ((xs ∷ []) ∷ []) k) → IsAscending m ys × HasMeetRank m [] (holds ys) k
  one_each zero ys here = (rises, rank_of_none m (holds xs) whole)
  one_each zero ys (there i) = elim i [ ]
  one_each (suc k) ys i = elim i [ ]

  one_order : (k : ℕ) → AllPairs IsLexBefore (at_rank ((xs ∷ []) ∷ []) k)
  one_order zero = one_ordered (xs ∷ []) (omega arith)
  one_order (suc k) = one_ordered [] (omega arith)

  one_full : (faces : List (List ℕ)) → Among faces ((xs ∷ []) ∷ []) → ¬ (faces ≡ [])
  one_full faces here e = cc
  one_full faces (there i) e = elim i [ ]

  one_lattice : IsFaceLattice (record { rows = []; cols = m }) ((xs ∷ []) ∷ [])
  one_lattice = record {
    each = λ k ys c. one_each k ys (among_Contains (at_rank ((xs ∷ []) ∷ []) k) c);
    all = λ g w. (0, xs, (let i : Among xs (xs ∷ []) = here in Contains_among i), λ j l. all_of_none m g w j l ∙ sym (all_of_none m (holds xs) whole j l));
    ordered = one_order;
    full = All_among (λ faces. ¬ (faces ≡ [])) ((xs ∷ []) ∷ []) one_full;
  }

two_rise : IsAscending 2 (0 ∷ 1 ∷ [])
two_rise = (All_among (λ j. j < 2) (0 ∷ 1 ∷ []) each, AllPairs_cons (λ i j. i < j) 0 (1 ∷ []) after (λ i j d a b. absurd (omega arith)))
  where
    each : (j : ℕ) → Among j (0 ∷ 1 ∷ []) → j < 2
    each j here = omega arith
    each j (there here) = omega arith
    each j (there (there i)) = elim i [ ]

    after : (j : ℕ) → Among j (1 ∷ []) → 0 < j
    after j here = omega arith
    after j (there i) = elim i [ ]

not_none : ¬ (IsFaceLattice (record { rows = []; cols = 0 }) [])
not_none l = let w = l.all (λ j. true) (all_places 0 []) in elim (among_Contains (at_rank [] w.0) w.2) [ ]

-- of no sets the empty set is no meet, where there are places
not_empty : (more : List (List (List ℕ))) → ¬ (IsFaceLattice (record { rows = []; cols = 2 }) (([] ∷ []) ∷ more))
not_empty more l = let t = all_of_none 2 (holds []) (l.each 0 [] (let i : Among [] ([] ∷ []) = here in Contains_among i)).1.meet 0 (omega arith) in cc

pub no_sets_are_read : NoSetsAreRead
no_sets_are_read = record {
  no_places = one_lattice 0 [] (none_rises 0) (meet_with 0 [] (λ j. true) (holds []) (all_places 0 []) (λ j l. absurd (omega arith)));
  some_face = not_none;
  two_places = one_lattice 2 (0 ∷ 1 ∷ []) two_rise (meet_with 2 [] (λ j. true) (holds (0 ∷ 1 ∷ [])) (all_places 2 []) (below_two (λ j. holds (0 ∷ 1 ∷ []) j ≡ true) refl refl));
  no_least = not_empty (((0 ∷ 1 ∷ []) ∷ []) ∷ []);
}
