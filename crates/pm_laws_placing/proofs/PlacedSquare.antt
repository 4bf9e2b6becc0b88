-- The vertices of the unit square, placed one by one.
use Rattle.pm_vector.proofs.ConeLaws.{none_to_zero}
use Rattle.pm_vector.proofs.Lists.{AllPairs_cons, All_among, Among, Contains_among, among_Contains, here, there}
use Rattle.pm_vector.proofs.Ring.{ring}
use Rattle.pm_vector.specs.Cones.{InCone, InSpan}
use Rattle.pm_vector.specs.Rows.{HasCols, Row, dot}
use Rattle.pm_vector.specs.Bases.{row_at}
use Rattle.pm_laws_placing.proofs.Examples.{one}
use Rattle.pm_laws_placing.proofs.Triangulates.{placing_triangulates}
use Rattle.pm_laws_placing.specs.Examples.{SquareIsPlaced, lower, upper}
use Rattle.pm_laws_placing.specs.Placing.{IsCellStep, IsExchange, IsFirstCell, IsNextCells, IsOnlyOff, IsPlacing}
use Rattle.pm_vector.specs.Enlarging.{MarkEnlarging}
use Rattle.pm_geom.proofs.Apart.{apart, order_of_apart, without}
use Rattle.pm_geom.proofs.ShortRows.{at_three, by_three}
use Rattle.pm_geom.proofs.ValidRows.{facet_order, null_in}
use Rattle.pm_geom.specs.Cones.{CutOut, IsOrder, IsValid}
use Rattle.pm_geom.specs.Examples.{square, triple}
use Rattle.pm_geom.specs.Faces.{ray}
use Rattle.pm_geom.specs.Graphs.{IsAscending}
use Rattle.std.specs.Prelude.{ℕ, zero, suc, ◌+◌, ◌<◌, ◌≤◌, ◌≡◌, ◌↔◌, ◌⊎◌, Bool, IsTrue, true, false, List, [], ◌∷◌, take}
use Rattle.std.specs.List.{All, Contains, slice_index_or}
use Rattle.std.proofs.Common.{arith, refl, sym, subst, inl, inr}
use Rattle.std.proofs.lemmas.Int.{ints}
use lib.IntN.{ℤ, pos, negsuc, ◌*ℤ◌, ◌-ℤ◌}
use lib.Signed.{lt_z_yes, ◌<ℤ◌}

triangle : List Row
triangle = triple 1 0 0 ∷ triple 1 0 1 ∷ triple 1 1 0 ∷ []

-- x1 >= 0, x2 >= 0, x1 + x2 <= 1
sides : List Row
sides = triple 0 1 0 ∷ triple 0 0 1 ∷ (pos 1 ∷ negsuc 0 ∷ negsuc 0 ∷ []) ∷ []

triangle_cols : HasCols 3 triangle
unfolding triangle
triangle_cols = (refl, (refl, (refl, tt)))

sides_cols : HasCols 3 sides
unfolding sides
sides_cols = (refl, (refl, (refl, tt)))

side_needed : (f : Row) (i : Among f sides) → ¬ (InCone (without i) [] f)
unfolding sides without
side_needed f here = apart _ [] (pos 1 ∷ negsuc 0 ∷ pos 0 ∷ []) _ tt tt tt
side_needed f (there here) = apart _ [] (pos 1 ∷ pos 0 ∷ negsuc 0 ∷ []) _ tt tt tt
side_needed f (there (there here)) = apart _ [] (pos 0 ∷ pos 1 ∷ pos 1 ∷ []) _ tt tt tt
side_needed f (there (there (there i))) = elim i [ ]

within : (a b c : ℤ) → CutOut sides (a ∷ b ∷ c ∷ []) → InCone triangle [] (a ∷ b ∷ c ∷ [])
unfolding triangle sides
within a b c (p, (q, (r, s))) =
    let left = simp ring at p in
    let low = simp ring at q in
    let high = simp ring at r in
    record {
      m = pos 1;
      c = (a -ℤ b -ℤ c) ∷ c ∷ b ∷ [];
      d = [];
      positive = lt_z_yes tt;
      not_negative = (omega (arith, ints), (omega (arith, ints), (omega (arith, ints), tt)));
      same = at_three (pos 1 *ℤ a) (pos 1 *ℤ b) (pos 1 *ℤ c) _ _ _ (simp ring (omega (arith, ints))) (simp ring (omega (arith, ints))) (simp ring (omega (arith, ints)));
    }

side_order : IsOrder 3 (IsValid 3 triangle []) sides
unfolding triangle sides
side_order = facet_order 3 triangle [] sides [] triangle_cols tt sides_cols tt (record { rows = tt; rows_lines = tt; lines = tt; lines_lines = tt }) (λ x l c u. by_three (λ y. CutOut sides y → InCone triangle [] y) within x l c) (order_of_apart 3 sides [] sides_cols tt (triple 3 1 1) tt tt side_needed)

-- ---- the marks
no_span : (a x : Row) (X : List Row) → ((l : Row) → Among l X → dot a l ≡ pos 0) → ¬ (dot a x ≡ pos 0) → ¬ (InSpan X x)
no_span a x X f n h = n (null_in a [] X (λ g i. elim i [ ]) f h)

abbrev marks : List Bool
marks = true ∷ true ∷ true ∷ false ∷ []

last_in : InSpan (triple 1 0 0 ∷ triple 1 0 1 ∷ triple 1 1 0 ∷ []) (triple 1 1 1)
last_in = record {
  m = pos 1;
  c = [];
  d = negsuc 0 ∷ pos 1 ∷ pos 1 ∷ [];
  positive = lt_z_yes tt;
  not_negative = tt;
  same = record { at = λ i. refl };
}

marked : MarkEnlarging square marks
marked = record { as_many = refl; exact = exact }
  where
    first_flat : (l : Row) → Among l (triple 1 0 0 ∷ []) → dot (triple 0 0 1) l ≡ pos 0
    first_flat l here = refl
    first_flat l (there i) = elim i [ ]

    second_flat : (l : Row) → Among l (triple 1 0 0 ∷ triple 1 0 1 ∷ []) → dot (triple 0 1 0) l ≡ pos 0
    second_flat l here = refl
    second_flat l (there here) = refl
    second_flat l (there (there i)) = elim i [ ]

    exact : (i : ℕ) → i < 4 → IsTrue (slice_index_or marks i false) ↔ ¬ (InSpan (take i square) (row_at square i))
    exact zero l = (λ h k. let z = none_to_zero (triple 1 0 0) k 0 in omega (arith, ints), λ h. refl)
    exact (suc zero) l = (λ h. no_span (triple 0 0 1) (triple 1 0 1) (triple 1 0 0 ∷ []) first_flat (λ z. omega (arith, ints)), λ h. refl)
    exact (suc (suc zero)) l = (λ h. no_span (triple 0 1 0) (triple 1 1 0) (triple 1 0 0 ∷ triple 1 0 1 ∷ []) second_flat (λ z. omega (arith, ints)), λ h. refl)
    exact (suc (suc (suc zero))) l = (λ h. absurd (cc), λ out. absurd (out last_in))
    exact (suc (suc (suc (suc i)))) l = absurd (omega arith)

-- ---- the step
in_lower : (k : ℕ) → Among k lower → (k ≡ 0) ⊎ ((k ≡ 1) ⊎ (k ≡ 2))
in_lower k here = inl refl
in_lower k (there here) = inr (inl refl)
in_lower k (there (there here)) = inr (inr refl)
in_lower k (there (there (there i))) = elim i [ ]

only_zero : IsOnlyOff square (pos 1 ∷ negsuc 0 ∷ negsuc 0 ∷ []) lower 0
only_zero = record {
  member = Contains_among (here {xs = 1 ∷ 2 ∷ []});
  off = λ e. omega (arith, ints);
  others = λ k c ne. elim (in_lower k (among_Contains lower c)) [
    | inl e ↦ absurd (ne e)
    | inr w ↦ elim w [ inl e ↦ at_place k 1 e refl | inr e ↦ at_place k 2 e refl ]
  ];
}
  where
    at_place : (k p : ℕ) → k ≡ p → dot (pos 1 ∷ negsuc 0 ∷ negsuc 0 ∷ []) (ray square p) ≡ pos 0 → dot (pos 1 ∷ negsuc 0 ∷ negsuc 0 ∷ []) (ray square k) ≡ pos 0
    at_place k p e z = subst (λ (q : ℕ). dot (pos 1 ∷ negsuc 0 ∷ negsuc 0 ∷ []) (ray square q) ≡ pos 0) (sym e) z

exchange : IsExchange lower 0 3 upper
exchange = record { same = λ k. (λ c. to k (among_Contains upper c), from k) }
  where
    to : (k : ℕ) → Among k upper → (Contains lower k × ¬ (k ≡ 0)) ⊎ (k ≡ 3)
    to k here = inl (Contains_among (there (here {xs = 2 ∷ []})), λ e. omega arith)
    to k (there here) = inl (Contains_among (there (there (here {xs = []}))), λ e. omega arith)
    to k (there (there here)) = inr refl
    to k (there (there (there i))) = elim i [ ]

    moved : (k p : ℕ) → k ≡ p → Among p upper → Contains upper k
    moved k p e i = Contains_among (subst (λ (q : ℕ). Among q upper) (sym e) i)

    from : (k : ℕ) → ((Contains lower k × ¬ (k ≡ 0)) ⊎ (k ≡ 3)) → Contains upper k
    from k (inr e) = moved k 3 e (there (there here))
    from k (inl w) = elim (in_lower k (among_Contains lower w.0)) [
      | inl e ↦ absurd (w.1 e)
      | inr v ↦ elim v [ inl e ↦ moved k 1 e here | inr e ↦ moved k 2 e (there here) ]
    ]

next : IsNextCells square sides 3 (lower ∷ []) (lower ∷ upper ∷ [])
unfolding sides
next = record {
  each = λ u c. each u (among_Contains (lower ∷ upper ∷ []) c);
  kept = λ s c. kept s (among_Contains (lower ∷ []) c);
  joined = λ a s i ca below cs off. joined a s i (among_Contains sides ca) below (among_Contains (lower ∷ []) cs) off;
}
  where
    each : (u : List ℕ) → Among u (lower ∷ upper ∷ []) → Contains (lower ∷ []) u ⊎ ((a : Row) × (s : List ℕ) × (i : ℕ) × Contains sides a × (dot a (ray square 3) <ℤ pos 0) × Contains (lower ∷ []) s × IsOnlyOff square a s i × IsExchange s i 3 u)
    each u here = inl (Contains_among (here {xs = []}))
    each u (there here) = inr (pos 1 ∷ negsuc 0 ∷ negsuc 0 ∷ [], lower, 0, Contains_among (there (there (here {xs = []}))), lt_z_yes tt, Contains_among (here {xs = []}), only_zero, exchange)
    each u (there (there i)) = elim i [ ]

    kept : (s : List ℕ) → Among s (lower ∷ []) → Contains (lower ∷ upper ∷ []) s
    kept s here = Contains_among (here {xs = upper ∷ []})
    kept s (there i) = elim i [ ]

    made : (s : List ℕ) (i : ℕ) → Among s (lower ∷ []) → IsOnlyOff square (pos 1 ∷ negsuc 0 ∷ negsuc 0 ∷ []) s i → (u : List ℕ) × Contains (lower ∷ upper ∷ []) u × IsExchange s i 3 u
    made s i here off = elim (in_lower i (among_Contains lower off.member)) [
      | inl e ↦ (upper, Contains_among (there (here {xs = []})), subst (λ (q : ℕ). IsExchange lower q 3 upper) (sym e) exchange)
      | inr w ↦ absurd (off.off (elim w [ inl e ↦ subst (λ (q : ℕ). dot (pos 1 ∷ negsuc 0 ∷ negsuc 0 ∷ []) (ray square q) ≡ pos 0) (sym e) refl | inr e ↦ subst (λ (q : ℕ). dot (pos 1 ∷ negsuc 0 ∷ negsuc 0 ∷ []) (ray square q) ≡ pos 0) (sym e) refl ]))
    ]
    made s i (there k) off = elim k [ ]

    joined : (a : Row) (s : List ℕ) (i : ℕ) → Among a sides → dot a (ray square 3) <ℤ pos 0 → Among s (lower ∷ []) → IsOnlyOff square a s i → (u : List ℕ) × Contains (lower ∷ upper ∷ []) u × IsExchange s i 3 u
    joined a s i here below is off = absurd below.lt
    joined a s i (there here) below is off = absurd below.lt
    joined a s i (there (there here)) below is off = made s i is off
    joined a s i (there (there (there k))) below is off = elim k [ ]

-- ---- the cells of all fronts
cells : ℕ → List (List ℕ)
cells zero = lower ∷ []
cells (suc zero) = lower ∷ []
cells (suc (suc zero)) = lower ∷ []
cells (suc (suc (suc zero))) = lower ∷ []
cells (suc (suc (suc (suc k)))) = lower ∷ upper ∷ []

rising_three : (a b c n : ℕ) → a < b → b < c → c < n → IsAscending n (a ∷ b ∷ c ∷ [])
rising_three a b c n h k l = (
  All_among (λ j. j < n) (a ∷ b ∷ c ∷ []) below,
  AllPairs_cons (λ i j. i < j) a (b ∷ c ∷ []) first (AllPairs_cons (λ i j. i < j) b (c ∷ []) second (AllPairs_cons (λ i j. i < j) c [] (λ y i. elim i [ ]) (λ i j d m r. absurd (omega arith)))),
)
  where
    below : (j : ℕ) → Among j (a ∷ b ∷ c ∷ []) → j < n
    below j here = omega arith
    below j (there here) = omega arith
    below j (there (there here)) = l
    below j (there (there (there i))) = elim i [ ]

    first : (y : ℕ) → Among y (b ∷ c ∷ []) → a < y
    first y here = h
    first y (there here) = omega arith
    first y (there (there i)) = elim i [ ]

    second : (y : ℕ) → Among y (c ∷ []) → b < y
    second y here = k
    second y (there i) = elim i [ ]

ascending_one : All (IsAscending 4) (lower ∷ [])
ascending_one = All_among (IsAscending 4) (lower ∷ []) each
  where
    each : (s : List ℕ) → Among s (lower ∷ []) → IsAscending 4 s
    each s here = rising_three 0 1 2 4 (omega arith) (omega arith) (omega arith)
    each s (there i) = elim i [ ]

ascending_two : All (IsAscending 4) (lower ∷ upper ∷ [])
ascending_two = All_among (IsAscending 4) (lower ∷ upper ∷ []) each
  where
    each : (s : List ℕ) → Among s (lower ∷ upper ∷ []) → IsAscending 4 s
    each s here = rising_three 0 1 2 4 (omega arith) (omega arith) (omega arith)
    each s (there here) = rising_three 1 2 3 4 (omega arith) (omega arith) (omega arith)
    each s (there (there i)) = elim i [ ]

ascending : (k : ℕ) → All (IsAscending 4) (cells k)
unfolding cells
ascending zero = ascending_one
ascending (suc zero) = ascending_one
ascending (suc (suc zero)) = ascending_one
ascending (suc (suc (suc zero))) = ascending_one
ascending (suc (suc (suc (suc k)))) = ascending_two

is_first : IsFirstCell 0 (0 ∷ 1 ∷ 2 ∷ []) lower
is_first = record { same = λ j. let e : 0 + j ≡ j = omega arith in (λ c. subst (λ (k : ℕ). Contains (0 ∷ 1 ∷ 2 ∷ []) k) (sym e) c, λ c. subst (λ (k : ℕ). Contains (0 ∷ 1 ∷ 2 ∷ []) k) e c) }

step : (k : ℕ) → 3 ≤ k → k < 4 → IsCellStep 3 0 square square (take k (0 ∷ 1 ∷ 2 ∷ 3 ∷ [])) (slice_index_or (0 ∷ 1 ∷ 2 ∷ 3 ∷ []) k 0) (cells k) (cells (suc k))
unfolding cells triangle
step zero m l = absurd (omega arith)
step (suc zero) m l = absurd (omega arith)
step (suc (suc zero)) m l = absurd (omega arith)
step (suc (suc (suc zero))) m l = record {
  facets = sides;
  order = side_order;
  line = λ p. absurd (omega arith);
  ray_placed = λ j e. let q : 3 ≡ j = omega arith in subst (λ (i : ℕ). IsNextCells square sides i (lower ∷ []) (lower ∷ upper ∷ [])) q next;
}
step (suc (suc (suc (suc k)))) m l = absurd (omega arith)

placed_three : IsPlacing 3 [] square 3 (lower ∷ [])
unfolding cells
placed_three = record {
  marks = marks;
  enlarging = marked;
  cells = cells;
  first = lower;
  is_first = is_first;
  start = refl;
  step = λ k m l. step k m (omega arith);
  enough = omega arith;
  within = omega arith;
  ascending = λ k m l. ascending k;
  last = refl;
}

placed_all : IsPlacing 3 [] square 4 (lower ∷ upper ∷ [])
unfolding cells
placed_all = record {
  marks = marks;
  enlarging = marked;
  cells = cells;
  first = lower;
  is_first = is_first;
  start = refl;
  step = step;
  enough = omega arith;
  within = omega arith;
  ascending = λ k m l. ascending k;
  last = refl;
}

pub square_is_placed : SquareIsPlaced
square_is_placed = record {
  first = placed_three;
  all = placed_all;
  fewer = λ p. one (placing_triangulates 3 [] square [] tt (refl, (refl, (refl, (refl, tt)))) tt (λ x l. (λ h. h, λ h. h)) (lower ∷ []) p);
}
