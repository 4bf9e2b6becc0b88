-- The rows of an echelon basis with pivots from a column on, without their entries before it.
use Rattle.pm_vector.proofs.ConeLaws.{combination_none}
use Rattle.pm_vector.proofs.Lists.{all_from}
use Rattle.pm_vector.proofs.Ring.{ring}
use Rattle.pm_vector.proofs.RowLaws.{entry-plus, entry-times}
use Rattle.pm_vector.specs.Cones.{combination}
use Rattle.pm_vector.specs.Divisors.{IsPrimitive}
use Rattle.pm_vector.specs.Rows.{Row, entry}
use Rattle.pm_vector.proofs.Columns.{coefficient, row_cols}
use Rattle.pm_vector.proofs.Spans.{place_of}
use Rattle.pm_vector.specs.Bases.{IsEchelonBasis, column, row_at}
use Rattle.pm_elim.specs.ExtendedLists.{tail_columns, tails}
use Rattle.std.proofs.Common.{ap, arith, inl, inr, refl, replicate, subst, sym, ◌∙◌}
use Rattle.std.proofs.lemmas.Bool.{cases_lt}
use Rattle.std.proofs.lemmas.Int.{ints}
use Rattle.std.proofs.lemmas.List.{get_or-append_right, get_or-drop, get_or-map, get_or-replicate, get_or_append_left, length-append, length-drop, length-map, length-replicate}
use Rattle.std.specs.Prelude.{List, [], drop, length, map, suc, zero, ℕ, ◌++◌, ◌+◌, ◌-◌, ◌<◌, ◌∷◌, ◌≡◌, ◌≤◌}
use lib.IntN.{pos, ℤ, ◌*ℤ◌}

-- ---- a row with zeros in front
pub padded : ℕ → Row → Row
padded k y = replicate k (pos 0) ++ y

pub padded_length : (k : ℕ) (y : Row) → length (padded k y) ≡ k + length y
unfolding padded
padded_length k y = simp (length-append, length-replicate)

pub padded_first : (k : ℕ) (y : Row) (j : ℕ) → j < k → entry (padded k y) j ≡ pos 0
unfolding padded
padded_first k y j l = get_or_append_left (replicate k (pos 0)) y (pos 0) j (rw length-replicate l) ∙ get_or-replicate k j (pos 0) (pos 0) l

pub padded_last : (k : ℕ) (y : Row) (j : ℕ) → entry (padded k y) (k + j) ≡ entry y j
unfolding padded
padded_last k y j = get_or-append_right (replicate k (pos 0)) y k (k + j) (pos 0) (length-replicate k (pos 0)) (omega arith) ∙ ap (entry y) (let e : k + j - k ≡ j = omega arith in e)

pub drop-padded : (k : ℕ) (y : Row) (i : ℕ) → entry (drop k (padded k y)) i ≡ entry y i
drop-padded k y i = get_or-drop k (padded k y) i (pos 0) ∙ padded_last k y i

-- ---- combinations of the tails
pub combination_drop : (h : ℕ) (d : List ℤ) (E : List Row) (c : ℕ) → ((j : ℕ) → j < h → coefficient d j ≡ pos 0) → entry (combination d E) c ≡ entry (combination (drop h d) (drop h E)) c
unfolding coefficient
combination_drop zero d E c z = refl
combination_drop (suc h) [] E c z = refl
combination_drop (suc h) (a ∷ d) [] c z = sym (combination_none (drop h d) c)
combination_drop (suc h) (a ∷ d) (e ∷ E) c z =
    let first : a ≡ pos 0 = z 0 (omega arith) in
    let rest = combination_drop h d E c (λ j l. z (suc j) (omega arith)) in
    simp (entry-plus, entry-times, first, rest, ring) (omega (arith, ints))

pub combination_tails : (k : ℕ) (d : List ℤ) (E : List Row) (c : ℕ) → entry (combination d E) (k + c) ≡ entry (combination d (map (drop k) E)) c
combination_tails k [] E c = refl
combination_tails k (a ∷ d) [] c = refl
combination_tails k (a ∷ d) (e ∷ E) c = let rest = combination_tails k d E c in simp (entry-plus, entry-times, get_or-drop, rest)

-- ---- the rows
module _ (k n h : ℕ) (E : List Row) (Q : List ℕ) (e : IsEchelonBasis (k + n) E Q) (hl : h ≤ length E) (lower : (i : ℕ) → i < h → column Q i < k) (upper : h < length Q → k ≤ column Q h) where
  tail_count : length (tails k h E) ≡ length E - h
  tail_count = simp (length-map, length-drop)

  in_basis : (i : ℕ) → i < length (tails k h E) → h + i < length E
  in_basis i l = let c = tail_count in omega arith

  pub tail_row : (i : ℕ) → i < length (tails k h E) → row_at (tails k h E) i ≡ drop k (row_at E (h + i))
  tail_row i l = get_or-map (drop k) (drop h E) i [] [] (rw length-map at l) ∙ ap (drop k) (get_or-drop h E i [])

  pub tail_column : (i : ℕ) → i < length (tails k h E) → column (tail_columns k h Q) i ≡ column Q (h + i) - k
  tail_column i l =
      get_or-map (λ q. q - k) (drop h Q) i 0 0 (let c = tail_count in let a = e.as_many in let d = length-drop h Q in omega arith)
      ∙ ap (λ q. q - k) (get_or-drop h Q i 0)

  pub late : (i : ℕ) → h ≤ i → i < length E → k ≤ column Q i
  late i hi l =
      let a = e.as_many in
      let u = upper (omega arith) in
      elim (cases_lt h i) [
        | inl less ↦ (let s = e.ascending h i less l in omega arith)
        | inr more ↦ (let same : h ≡ i = omega arith in rw (← same) u)
      ]

  -- the entries of a tail
  tail_entry : (i c : ℕ) → i < length (tails k h E) → entry (row_at (tails k h E) i) c ≡ entry (row_at E (h + i)) (k + c)
  tail_entry i c l = rw (tail_row i l) (get_or-drop k (row_at E (h + i)) c (pos 0))

  tail_at : (i j : ℕ) → i < length (tails k h E) → j < length (tails k h E) → entry (row_at (tails k h E) i) (column (tail_columns k h Q) j) ≡ entry (row_at E (h + i)) (column Q (h + j))
  tail_at i j li lj =
      let u = late (h + j) (omega arith) (in_basis j lj) in
      let c : k + (column Q (h + j) - k) ≡ column Q (h + j) = omega arith in
      ap (entry (row_at (tails k h E) i)) (tail_column j lj) ∙ tail_entry i (column Q (h + j) - k) li ∙ ap (entry (row_at E (h + i))) c

  front_zero : (i c : ℕ) → i < length (tails k h E) → c < k → entry (row_at E (h + i)) c ≡ pos 0
  front_zero i c l lc = e.before (h + i) c (in_basis i l) (let u = late (h + i) (omega arith) (in_basis i l) in omega arith)

  tail_primitive : (i : ℕ) → i < length (tails k h E) → IsPrimitive (row_at (tails k h E) i)
  tail_primitive i l = record {
    whole = λ m y ly up s.
        let cols = row_cols (k + n) E Q e.basis (h + i) (in_basis i l) in
        let tail_length = ap length (tail_row i l) ∙ length-drop k (row_at E (h + i)) in
        (e.primitive (h + i) (in_basis i l)).whole m (padded k y) (let p = padded_length k y in omega arith) up (record {
          at = λ c. elim (cases_lt c k) [
            | inl first ↦ front_zero i c l first ∙ sym (entry-times m (padded k y) c ∙ ap (λ (z : ℤ). m *ℤ z) (padded_first k y c first) ∙ (simp ring))
            | inr last ↦
                let c' : k + (c - k) ≡ c = omega arith in
                ap (entry (row_at E (h + i))) (sym c') ∙ sym (tail_entry i (c - k) l) ∙ s.at (c - k) ∙ entry-times m y (c - k) ∙ sym (entry-times m (padded k y) c ∙ ap (λ (z : ℤ). m *ℤ z) (ap (entry (padded k y)) (sym c') ∙ padded_last k y (c - k)))
          ];
        });
  }

  pub tail_basis : IsEchelonBasis n (tails k h E) (tail_columns k h Q)
  tail_basis = record {
    basis = record {
      cols = all_from (λ (r : Row). length r ≡ n) (tails k h E) (λ r i. let p = place_of i in subst (λ (z : Row). length z ≡ n) p.2 (let cols = row_cols (k + n) E Q e.basis (h + p.0) (in_basis p.0 p.1) in ap length (tail_row p.0 p.1) ∙ length-drop k (row_at E (h + p.0)) ∙ (let c : length (row_at E (h + p.0)) - k ≡ n = omega arith in c)));
      as_many = (let a = e.as_many in simp (length-map, length-drop) (omega arith));
      positive = λ i l. rw (tail_at i i l l) (e.positive (h + i) (in_basis i l));
      reduced = λ i j li lj ne. rw (tail_at i j li lj) (e.reduced (h + i) (h + j) (in_basis i li) (in_basis j lj) (λ s. ne (omega arith)));
      primitive = tail_primitive;
    };
    ascending = λ i j l lj.
        let a = e.ascending (h + i) (h + j) (omega arith) (in_basis j lj) in
        let u = late (h + i) (omega arith) (in_basis i (omega arith)) in
        rw (tail_column i (omega arith), tail_column j lj) (omega arith);
    before = λ i c l lc.
        let lc' = rw (tail_column i l) at lc in
        rw (tail_entry i c l) (e.before (h + i) (k + c) (in_basis i l) (omega arith));
  }
