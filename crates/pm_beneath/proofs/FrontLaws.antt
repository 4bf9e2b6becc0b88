-- What a turn of the loop over the fronts needs.
use Rattle.pm_vector.proofs.Filters.{among_map}
use Rattle.pm_vector.proofs.Lists.{AllPairs_cons, All_among, Among, Contains_among, among_All, among_Contains, among_append, among_append_left, among_append_right, here, there}
use Rattle.pm_vector.specs.Rows.{Row}
use Rattle.pm_laws_placing.proofs.Places.{Rising, stated_below}
use Rattle.pm_beneath.specs.CellLists.{AreNextCells}
use Rattle.pm_laws_placing.specs.Placing.{places_marked, stated_places}
use Rattle.pm_beneath.specs.Runs.{IsRunTo, below}
use Rattle.pm_laws_placing.specs.PlacedCells.{HaveSameSets}
use Rattle.pm_dd.proofs.Marks.{beq_turned}
use Rattle.pm_dd.specs.Fronts.{HalfSpaces}
use Rattle.pm_geom.specs.Cones.{IsOrder}
use Rattle.pm_geom.specs.Graphs.{IsAscending}
use Rattle.std.specs.Prelude.{ℕ, zero, suc, ◌+◌, ◌<◌, ◌≤◌, ◌≡◌, Bool, true, false, cond, List, [], ◌∷◌, ◌++◌, drop, length, map, take}
use Rattle.std.specs.Bool.{beq}
use Rattle.std.specs.List.{All, AllPairs, slice_index_or}
use Rattle.std.proofs.Common.{arith, ap, refl, subst, sym, ◌∙◌, inl, inr}
use Rattle.std.proofs.lemmas.Bool.{cases_lt}
use Rattle.std.proofs.lemmas.List.{append_assoc, drop_more}
use Rattle.pm_limits.specs.Limits.{most_rows}

pub all_within : {V : Type 0} (f : V → List ℕ) (C : List V) (m w : ℕ) → m ≤ w → All (IsAscending m) (map f C) → All (λ s. All (λ k. k < w) (f s)) C
all_within f C m w le h = All_among (λ s. All (λ k. k < w) (f s)) C (λ s i. let a = among_All (IsAscending m) (among_map f i) h in All_among (λ k. k < w) (f s) (λ k j. let l = among_All (λ k. k < m) j a.0 in omega arith))

pub run_start : (n : ℕ) (E J : List Row) (start : ℕ) (T : List (List ℕ)) → T ≡ below start ∷ [] → IsRunTo n E J start start T
run_start n E J start T e = (0, omega arith, e)

pub run_more : (n : ℕ) (E J : List Row) (start f : ℕ) (V : List Row) (T U : List (List ℕ)) → IsRunTo n E J start f T → IsOrder n (HalfSpaces E (take f J)) V → AreNextCells J V f T U → IsRunTo n E J start (f + 1) U
run_more n E J start f V T U r o c = (suc r.0, (let e = r.1 in omega arith), (T, r.2, (V, subst (λ (k : ℕ). IsOrder n (HalfSpaces E (take k J)) V) r.1 o, subst (λ (k : ℕ). AreNextCells J V k T U) r.1 c)))

pub below_more : (k : ℕ) → below (k + 1) ≡ below k ++ k ∷ []
below_more k = let e : k + 1 ≡ suc k = omega arith in ap below e

at_last : (k p : ℕ) → Among p (k ∷ []) → p < suc k
at_last k p here = omega arith
at_last k p (there j) = elim j [ ]

pub below_among : (k p : ℕ) → Among p (below k) → p < k
below_among zero p i = elim i [ ]
below_among (suc k) p i = elim (among_append (below k) (k ∷ []) i) [ inl j ↦ (let l = below_among k p j in omega arith) | inr j ↦ at_last k p j ]

pub among_below : (k p : ℕ) → p < k → Among p (below k)
among_below zero p l = absurd (omega arith)
among_below (suc k) p l = elim (cases_lt p k) [ inl m ↦ among_append_left (k ∷ []) (among_below k p m) | inr m ↦ let e : k ≡ p = omega arith in subst (λ (q : ℕ). Among q (below k ++ k ∷ [])) e (among_append_right (below k) here) ]

-- ---- pairs of a list with one element more
rising_more : (s : List ℕ) (f : ℕ) → ((k : ℕ) → Among k s → k < f) → Rising s → Rising (s ++ f ∷ [])
unfolding Rising
rising_more [] f b r = (λ y i. elim i [ ], tt)
rising_more (x ∷ s) f b r = (λ y i. elim (among_append s (f ∷ []) i) [ inl j ↦ r.0 y j | inr j ↦ last_up y j ], rising_more s f (λ k i. b k (there i)) r.1)
  where
    last_up : (y : ℕ) → Among y (f ∷ []) → x < y
    last_up y here = b x here
    last_up y (there j) = elim j [ ]

pub rising_below : (k : ℕ) → Rising (below k)
unfolding Rising
rising_below zero = tt
rising_below (suc k) = rising_more (below k) k (below_among k) (rising_below k)

pub rising_pairs : (s : List ℕ) → Rising s → AllPairs (λ i j. i < j) s
unfolding Rising
rising_pairs [] r = λ i j d l m. absurd (omega arith)
rising_pairs (x ∷ s) r = AllPairs_cons (λ i j. i < j) x s r.0 (rising_pairs s r.1)

pub below_ascending : (k : ℕ) → IsAscending k (below k)
below_ascending k = (All_among (λ j. j < k) (below k) (below_among k), rising_pairs (below k) (rising_below k))

pub first_ascending : (k : ℕ) (T : List (List ℕ)) → T ≡ below k ∷ [] → All (IsAscending k) T
first_ascending k T e = subst (λ (U : List (List ℕ)). All (IsAscending k) U) (sym e) (All_among (IsAscending k) (below k ∷ []) each)
  where
    each : (s : List ℕ) → Among s (below k ∷ []) → IsAscending k s
    each s here = below_ascending k
    each s (there i) = elim i [ ]

pub few_first : {V : Type 0} (f : V → List ℕ) (C : List V) (s : List ℕ) → map f C ≡ s ∷ [] → length C ≤ most_rows
few_first f [] s e = omega arith
few_first f (c ∷ []) s e = omega arith
few_first f (c ∷ d ∷ C) s e = absurd (let l = ap length e in omega arith)

-- ---- one mark more
marks_at : (b : Bool) (marks : List Bool) (i : ℕ) → i < length marks → places_marked b (drop i marks) i ≡ cond (beq b (slice_index_or marks i false)) (i ∷ places_marked b (drop (i + 1) marks) (i + 1)) (places_marked b (drop (i + 1) marks) (i + 1))
marks_at b marks i l =
    let e : suc i ≡ i + 1 = omega arith in
    ap (λ (Z : List Bool). places_marked b Z i) (drop_more marks i false l) ∙ ap (λ (k : ℕ). cond (beq b (slice_index_or marks i false)) (i ∷ places_marked b (drop (i + 1) marks) k) (places_marked b (drop (i + 1) marks) k)) e

pub marked_then : (b : Bool) (marks : List Bool) (i : ℕ) (made more all : List ℕ) → i < length marks → beq (slice_index_or marks i false) b ≡ true → made ++ places_marked b (drop i marks) i ≡ all → more ≡ made ++ i ∷ [] → more ++ places_marked b (drop (i + 1) marks) (i + 1) ≡ all
marked_then b marks i made more all l t h m =
    ap (λ (Z : List ℕ). Z ++ places_marked b (drop (i + 1) marks) (i + 1)) m ∙ append_assoc made (i ∷ []) (places_marked b (drop (i + 1) marks) (i + 1))
    ∙ ap (λ (Z : List ℕ). made ++ Z) (sym (marks_at b marks i l ∙ rw (beq_turned b (slice_index_or marks i false), t) refl)) ∙ h

pub marked_else : (b : Bool) (marks : List Bool) (i : ℕ) (made more all : List ℕ) → i < length marks → beq (slice_index_or marks i false) b ≡ false → made ++ places_marked b (drop i marks) i ≡ all → more ≡ made → more ++ places_marked b (drop (i + 1) marks) (i + 1) ≡ all
marked_else b marks i made more all l t h m =
    ap (λ (Z : List ℕ). Z ++ places_marked b (drop (i + 1) marks) (i + 1)) m
    ∙ ap (λ (Z : List ℕ). made ++ Z) (sym (marks_at b marks i l ∙ rw (beq_turned b (slice_index_or marks i false), t) refl)) ∙ h

-- ---- the same cells in another order
pub next_same : (J V : List Row) (f : ℕ) (T U W : List (List ℕ)) → HaveSameSets W U → AreNextCells J V f T U → AreNextCells J V f T W
next_same J V f T U W same c = record {
  next = record {
    each = λ u k. c.next.each u ((same u).0 k);
    kept = λ s k. (same s).1 (c.next.kept s k);
    joined = λ a s i fa down k off. let w = c.next.joined a s i fa down k off in (w.0, (same w.0).1 w.1, w.2);
  };
  ascending = All_among (IsAscending (f + 1)) W (λ s i. among_All (IsAscending (f + 1)) (among_Contains U ((same s).0 (Contains_among i))) c.ascending);
}

pub same_itself : (T : List (List ℕ)) → HaveSameSets T T
same_itself T s = (λ k. k, λ k. k)

-- ---- the places of the stated order are places of the list
pub stated_within : (marks : List Bool) (w : ℕ) → length marks ≡ w → All (λ k. k < w) (stated_places marks)
stated_within marks w e = All_among (λ k. k < w) (stated_places marks) (λ k i. let l = stated_below marks k i in omega arith)
