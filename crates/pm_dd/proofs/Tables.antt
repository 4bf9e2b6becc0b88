-- The rays of a front with their zero sets: the scan decides adjacency, the filters drop only what the scan drops, and zero sets grow with the front.
use Rattle.std.specs.Prelude.{ℕ, zero, suc, ◌+◌, ◌≡◌, ◌<◌, ◌≤◌, Bool, true, false, IsTrue, List, [], ◌∷◌, ◌++◌, length, take, map}
use Rattle.std.specs.List.{Contains, filter, range_with_len}
use Rattle.std.proofs.Common.{arith, refl, sym, subst, ◌∙◌, inl, inr}
use Rattle.std.proofs.lemmas.Bool.{and_parts, and_from, cases_lt}
use Rattle.std.proofs.lemmas.List.{get_or-take, get_or_past, length-append, length-take-le, length-map}
use Rattle.std.proofs.lemmas.List.Sums.{length-filter}
use Rattle.pm_vector.specs.Rows.{Row, dot, HasCols}
use Rattle.pm_vector.specs.Cones.{InSpan}
use Rattle.pm_vector.proofs.Ring.{ring}
use Rattle.pm_vector.proofs.Lists.{Among, here, there, all_append, all_from, among_append, among_append_left, among_append_right, among_Contains, Contains_among}
use Rattle.pm_vector.proofs.ConeLaws.{in_line, in_line_opposite}
use Rattle.pm_vector.specs.Bases.{IsRank, SameSpan, row_at}
use Rattle.pm_vector.proofs.Spans.{same_span, same_span_trans}
use Rattle.pm_bits.specs.Sets.{has, IsIntersection, IsSubset, member_count}
use Rattle.pm_bits.specs.Table.{Table, OtherContains}
use Rattle.pm_geom.specs.Cones.{CutOut, IsOrder}
use Rattle.pm_geom.specs.Faces.{ray}
use Rattle.pm_geom.proofs.Polar.{cols_at, cut_at}
use Rattle.pm_geom.proofs.Facets.{order_as}
use Rattle.pm_geom.proofs.Dimension.{rank_exists}
use Rattle.pm_dd.specs.Description.{Adjacent}
use Rattle.pm_dd.specs.Filters.{CommonSpan}
use Rattle.pm_dd.specs.Fronts.{both_signs, HalfSpaces}
use Rattle.pm_dd.specs.Tables.{zero_set, IsRayTable, ScanIsRight, CountFilter, NearFilter, ZeroSetsGrow, ZeroSetOfPair}
use Rattle.pm_dd.proofs.StepLaws.{place_of, at_place, dot-combined, part_zero}
use Rattle.pm_dd.proofs.Fronts.{signs_cut_out, signs_cols, signs_have, take_cols}
use Rattle.pm_dd.proofs.Count.{adjacent_need_rank, adjacent_or_third, rank_few}
use native.Mathlib.Decide.{ℕ_discrete}
use lib.IntN.{pos}

-- ---- rows of the list at the members of a row of bits
among_map : {X Y : Type 0} (g : X → Y) {x : X} {xs : List X} → Among x xs → Among (g x) (map g xs)
among_map g here = here
among_map g (there i) = there (among_map g i)

pub among_of_map : {X Y : Type 0} (g : X → Y) (xs : List X) {y : Y} → Among y (map g xs) → (x : X) × Among x xs × (g x ≡ y)
among_of_map g [] i = elim i [ ]
among_of_map g (x ∷ xs) here = (x, here, refl)
among_of_map g (x ∷ xs) (there i) = let w = among_of_map g xs i in (w.0, there w.1, w.2)

kept_first : {X : Type 0} (p : X → Bool) (x : X) (xs : List X) → p x ≡ true → Among x (filter p (x ∷ xs))
kept_first p x xs e = rw e here

kept_later : {X : Type 0} (p : X → Bool) (y : X) (xs : List X) {x : X} → Among x (filter p xs) → Among x (filter p (y ∷ xs))
kept_later p y xs {x} i = go (p y) refl
  where
    go : (b : Bool) → p y ≡ b → Among x (filter p (y ∷ xs))
    go true e = rw e (there i)
    go false e = rw e i

among_filter : {X : Type 0} (p : X → Bool) {x : X} {xs : List X} → Among x xs → p x ≡ true → Among x (filter p xs)
among_filter p (here {xs}) e = kept_first p _ xs e
among_filter p (there {y} {xs} i) e = kept_later p y xs (among_filter p i e)

filter_step : {X : Type 0} → (p : X → Bool) (y : X) (xs : List X) → ((x : X) → Among x (filter p xs) → p x ≡ true) → (b : Bool) → p y ≡ b → (x : X) → Among x (filter p (y ∷ xs)) → p x ≡ true
filter_step {X} p y xs f true e x i = first x (rw e at i)
  where
    first : (z : X) → Among z (y ∷ filter p xs) → p z ≡ true
    first z here = e
    first z (there j) = f z j
filter_step p y xs f false e x i = f x (rw e at i)

of_filter : {X : Type 0} (p : X → Bool) (xs : List X) {x : X} → Among x (filter p xs) → p x ≡ true
of_filter p [] i = elim i [ ]
of_filter p (y ∷ xs) {x} i = filter_step p y xs (λ z j. of_filter p xs j) (p y) refl x i

among_range : (s n k : ℕ) → s ≤ k → k < s + n → Among k (range_with_len s n)
among_range s zero k l m = absurd (omega arith)
among_range s (suc n) k l m = elim (ℕ_discrete s k) [ yes e ↦ subst (λ (q : ℕ). Among q (range_with_len s (suc n))) e here | no ne ↦ there (among_range (s + 1) n k (omega arith) (omega arith)) ]

pub marked : List Bool → List Row → List Row
marked m J = map (row_at J) (filter (has m) (range_with_len 0 (length m)))

has_within : (m : List Bool) (p : ℕ) → IsTrue (has m p) → p < length m
has_within m p h = elim (cases_lt p (length m)) [ inl l ↦ l | inr l ↦ absurd (let e = sym h ∙ get_or_past m p false l in cc) ]

length-marked : (m : List Bool) (J : List Row) → length (marked m J) ≡ member_count m
unfolding marked
length-marked m J = length-map (filter (has m) (range_with_len 0 (length m))) (row_at J) ∙ length-filter (has m) (range_with_len 0 (length m))

at_marked : (m : List Bool) (J : List Row) (p : ℕ) → IsTrue (has m p) → Among (row_at J p) (marked m J)
unfolding marked
at_marked m J p h = among_map (row_at J) (among_filter (has m) (among_range 0 (length m) p (omega arith) (let l = has_within m p h in omega arith)) h)

marked_cols : (n : ℕ) (m : List Bool) (J : List Row) → HasCols n J → length m ≡ length J → HasCols n (marked m J)
unfolding marked
marked_cols n m J hJ e = all_from (λ (x : Row). length x ≡ n) (map (row_at J) (filter (has m) (range_with_len 0 (length m)))) (λ x i.
    let w = among_of_map (row_at J) (filter (has m) (range_with_len 0 (length m))) i in
    let l = has_within m w.0 (of_filter (has m) (range_with_len 0 (length m)) w.1) in
    subst (λ (r : Row). length r ≡ n) w.2 (cols_at (at_place J w.0 (omega arith)) hJ))

-- ---- the rows of a front, by places
front_row : (f : ℕ) (J : List Row) → f ≤ length J → {b : Row} → Among b (take f J) → (p : ℕ) × (p < f) × (row_at J p ≡ b)
front_row f J l i = let w = place_of i in let t = length-take-le f J l in let small : w.0 < f = (let q = w.1 in omega arith) in (w.0, small, sym (get_or-take f J w.0 [] small) ∙ w.2)

row_front : (f : ℕ) (J : List Row) → f ≤ length J → (p : ℕ) → p < f → Among (row_at J p) (take f J)
row_front f J l p h = let t = length-take-le f J l in subst (λ (b : Row). Among b (take f J)) (get_or-take f J p [] h) (at_place (take f J) p (omega arith))

signs_span : (E : List Row) {b : Row} {L : List Row} → Among b (both_signs E) → ((l : Row) → Among l E → Among l L) → InSpan L b
signs_span [] i g = elim i [ ]
signs_span (l ∷ E) here g = in_line (g l here)
signs_span (l ∷ E) (there here) g = in_line_opposite (g l here)
signs_span (l ∷ E) (there (there i)) g = signs_span E i (λ k j. g k (there j))

pub same_span_signs : (E J : List Row) → SameSpan (E ++ J) (both_signs E ++ J)
same_span_signs E J = same_span (E ++ J) (both_signs E ++ J)
    (λ r i. elim (among_append E J i) [ inl j ↦ in_line (among_append_left J (signs_have E j)) | inr j ↦ in_line (among_append_right (both_signs E) j) ])
    (λ r i. elim (among_append (both_signs E) J i) [ inl j ↦ signs_span E j (λ l k. among_append_left J k) | inr j ↦ in_line (among_append_right E j) ])

module _ (n : ℕ) (E J : List Row) (f : ℕ) (V : List Row) (Z : List (List Bool)) (t : IsRayTable n E J f V Z) where
  -- ---- the scan
  row_zero : (k : ℕ) → k < length V → (p : ℕ) → IsTrue (has (zero_set Z k) p) → (p < f) × (dot (row_at J p) (ray V k) ≡ pos 0)
  row_zero k l p h = ((t.zeros k l).exact p).0 h

  zero_row : (k : ℕ) → k < length V → (p : ℕ) → p < f → dot (row_at J p) (ray V k) ≡ pos 0 → IsTrue (has (zero_set Z k) p)
  zero_row k l p h e = ((t.zeros k l).exact p).1 (h, e)

  module _ (i j : ℕ) (li : i < length V) (lj : j < length V) where
    -- k vanishes where both do exactly where its zero set has what both have
    over_to : (k : ℕ) → k < length V → ((b : Row) → Contains (take f J) b → dot b (ray V i) ≡ pos 0 → dot b (ray V j) ≡ pos 0 → dot b (ray V k) ≡ pos 0) → (p : ℕ) → IsTrue (has (zero_set Z i) p) → IsTrue (has (zero_set Z j) p) → IsTrue (has (zero_set Z k) p)
    over_to k lk o p hi hj =
        let a = row_zero i li p hi in
        let b = row_zero j lj p hj in
        zero_row k lk p a.0 (o (row_at J p) (Contains_among (row_front f J t.within p a.0)) a.1 b.1)

    over_from : (k : ℕ) → k < length V → ((p : ℕ) → IsTrue (has (zero_set Z i) p) → IsTrue (has (zero_set Z j) p) → IsTrue (has (zero_set Z k) p)) → (b : Row) → Contains (take f J) b → dot b (ray V i) ≡ pos 0 → dot b (ray V j) ≡ pos 0 → dot b (ray V k) ≡ pos 0
    over_from k lk s b c zi zj =
        let w = front_row f J t.within (among_Contains (take f J) c) in
        let e = w.2 in
        let q = row_zero k lk w.0 (s w.0 (zero_row i li w.0 w.1 (rw e zi)) (zero_row j lj w.0 w.1 (rw e zj))) in
        subst (λ (r : Row). dot r (ray V k) ≡ pos 0) w.2 q.1

    pub scan_to : (both : List Bool) → IsIntersection both (zero_set Z i) (zero_set Z j) → (table : Table) → table.rows ≡ Z → Adjacent (take f J) V i j → ¬ (OtherContains table both i j)
    scan_to both m table e adj o =
        let (k, lk, ni, nj, s) = subst (λ (rows : List (List Bool)). (k : ℕ) × (k < length rows) × ¬ (k ≡ i) × ¬ (k ≡ j) × IsSubset both (zero_set rows k)) e o in
        let lv : k < length V = (let q = t.as_many in omega arith) in
        elim (adj.third k lv (over_from k lv (λ p hi hj. s p (m p ∙ and_from (has (zero_set Z i) p) (has (zero_set Z j) p) hi hj)))) [ inl q ↦ ni q | inr q ↦ nj q ]

    pub scan_from : (both : List Bool) → IsIntersection both (zero_set Z i) (zero_set Z j) → (table : Table) → table.rows ≡ Z → ¬ (OtherContains table both i j) → Adjacent (take f J) V i j
    scan_from both m table e no_other = elim (adjacent_or_third (take f J) V i j) [
      | inr adj ↦ adj
      | inl w ↦ absurd (no_other (subst (λ (rows : List (List Bool)). (k : ℕ) × (k < length rows) × ¬ (k ≡ i) × ¬ (k ≡ j) × IsSubset both (zero_set rows k)) (sym e)
          (w.0, (let q = t.as_many in let l = w.1.within in omega arith), w.1.not_first, w.1.not_second, (λ p h. let a = and_parts (has (zero_set Z i) p) (has (zero_set Z j) p) (sym (m p) ∙ h) in over_to w.0 w.1.within w.1.over p a.0 a.1))))
    ]

    -- ---- the filters: m has what both zero sets have
    module _ (hE : HasCols n E) (hJ : HasCols n J) (d : ℕ) (rd : IsRank (E ++ take f J) d) (m : List Bool) (lm : length m ≡ length J) (sub : (p : ℕ) → IsTrue (has (zero_set Z i) p) → IsTrue (has (zero_set Z j) p) → IsTrue (has m p)) where
      order_signs : IsOrder n (CutOut (both_signs E ++ take f J)) V
      order_signs = order_as n (HalfSpaces E (take f J)) (CutOut (both_signs E ++ take f J)) (λ x lx. (signs_cut_out E (take f J) x).1) (λ x lx. (signs_cut_out E (take f J) x).0) t.order

      cols : HasCols n (both_signs E ++ take f J)
      cols = all_append (λ (x : Row). length x ≡ n) (both_signs E) (take f J) (signs_cols n E hE) (take_cols n f J hJ)

      rank : IsRank (both_signs E ++ take f J) d
      rank = record { basis = rd.basis; independent = rd.independent; span = same_span_trans rd.span (same_span_signs E (take f J)); as_many = rd.as_many }

      marks_cols : HasCols n (E ++ marked m J)
      marks_cols = all_append (λ (x : Row). length x ≡ n) E (marked m J) hE (marked_cols n m J hJ lm)

      common : CommonSpan (both_signs E ++ take f J) V i j (E ++ marked m J)
      common = record {
        common = λ b c zi zj. elim (among_append (both_signs E) (take f J) (among_Contains (both_signs E ++ take f J) c)) [
          | inl k ↦ signs_span E k (λ l q. among_append_left (marked m J) q)
          | inr k ↦ let w = front_row f J t.within k in
              let e = w.2 in
              in_line (among_append_right E (subst (λ (r : Row). Among r (marked m J)) w.2 (at_marked m J w.0 (sub w.0 (zero_row i li w.0 w.1 (rw e zi)) (zero_row j lj w.0 w.1 (rw e zj))))))
        ];
      }

      adjacent_signs : Adjacent (take f J) V i j → Adjacent (both_signs E ++ take f J) V i j
      adjacent_signs adj = record { third = λ k lk o. adj.third k lk (λ b c zi zj. o b (Contains_among (among_append_right (both_signs E) (among_Contains (take f J) c))) zi zj) }

      pub few_members : member_count m + length E + 2 < d → ¬ (Adjacent (take f J) V i j)
      few_members few adj =
          let (k, rk) = rank_exists n (E ++ marked m J) marks_cols in
          let p = adjacent_need_rank n (both_signs E ++ take f J) cols V order_signs d rank i j li lj (adjacent_signs adj) (E ++ marked m J) marks_cols common k rk in
          let q = rank_few (E ++ marked m J) k rk in
          let l = length-append E (marked m J) in
          let c = length-marked m J in
          omega arith

pub scan_is_right : ScanIsRight
scan_is_right n E J f V Z t i j li lj both m table e = (scan_to n E J f V Z t i j li lj both m table e, scan_from n E J f V Z t i j li lj both m table e)

pub count_filter : CountFilter
count_filter n E J f V Z hE hJ t d rd i j li lj both lb m few =
    few_members n E J f V Z t i j li lj hE hJ d rd both lb (λ p hi hj. m p ∙ and_from (has (zero_set Z i) p) (has (zero_set Z j) p) hi hj) few

pub near_filter : NearFilter
near_filter n E J f V Z hE hJ t d rd i j li lj u near sub ln m few =
    few_members n E J f V Z t i j li lj hE hJ d rd near ln (λ p hi hj. m p ∙ and_from (has (zero_set Z i) p) (has u p) hi (sub p hj)) few

-- ---- zero sets and the next row
pub zero_sets_grow : (J : List Row) (f : ℕ) → ZeroSetsGrow J f
zero_sets_grow J f = record {
  away = λ r z l s nz. record { as_many = s.as_many; exact = λ p. (λ h. let w = (s.exact p).0 h in ((let q = w.0 in omega arith), w.1), λ w. (s.exact p).1 (below r nz p w.0 w.1, w.1)) };
  on = λ r z w l s e lw at others. record {
    as_many = lw ∙ s.as_many;
    exact = λ p. elim (ℕ_discrete p f) [
      | yes q ↦ (λ h. ((omega arith), subst (λ (k : ℕ). dot (row_at J k) r ≡ pos 0) (sym q) e), λ h. subst (λ (k : ℕ). IsTrue (has w k)) (sym q) at)
      | no nq ↦ (λ h. let g = (s.exact p).0 (sym (others p nq) ∙ h) in ((let k = g.0 in omega arith), g.1), λ h. others p nq ∙ (s.exact p).1 ((let k = h.0 in omega arith), h.1))
    ];
  };
}
  where
    below : (r : Row) → ¬ (dot (row_at J f) r ≡ pos 0) → (p : ℕ) → p < suc f → dot (row_at J p) r ≡ pos 0 → p < f
    below r nz p l e = elim (ℕ_discrete p f) [ yes q ↦ absurd (nz (subst (λ (k : ℕ). dot (row_at J k) r ≡ pos 0) q e)) | no nq ↦ omega arith ]

pub zero_set_of_pair : ZeroSetOfPair
zero_set_of_pair E J f lf r s hr hs up down z w both sz sw lb m = record {
  as_many = lb;
  exact = λ p. (
    λ h. let a = and_parts (has z p) (has w p) (sym (m p) ∙ h) in
        let zr = (sz.exact p).0 a.0 in
        let zs = (sw.exact p).0 a.1 in
        let e = zr.1 in
        let g = zs.1 in
        (zr.0, rw dot-combined (simp (e, g, ring))),
    λ h. let i = row_front f J (omega arith) p h.0 in
        let c = part_zero (dot (row_at J f) r) (dot (row_at J f) s) (dot (row_at J p) r) (dot (row_at J p) s) up down (cut_at r i hr.1) (cut_at s i hs.1) (rw dot-combined at h.1) in
        m p ∙ and_from (has z p) (has w p) ((sz.exact p).1 (h.0, c.0)) ((sw.exact p).1 (h.0, c.1)),
  );
}
