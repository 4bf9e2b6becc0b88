-- The places of the negative values, found one by one, and the pairs made at them.
use Rattle.std.specs.Prelude.{ℕ, ◌+◌, ◌≡◌, ◌<◌, ◌≤◌, Bool, List, [], ◌∷◌, ◌++◌, length, get_or, take, drop}
use Rattle.std.proofs.Common.{arith, sym, subst, ap, ◌∙◌, inl, inr}
use Rattle.std.proofs.lemmas.Bool.{cases_lt}
use Rattle.std.proofs.lemmas.List.{drop_all, drop_more}
use Rattle.pm_vector.specs.Rows.{Row, entry}
use Rattle.pm_vector.specs.Bases.{row_at}
use Rattle.pm_dd.specs.Description.{Source, kept, pair, IsSource}
use Rattle.pm_dd.specs.Building.{AreNegativesLeft, IsBuilt, IsMade, IsNextNegative, SeenPairs, StandFor}
use Rattle.pm_dd.proofs.Building.{built_same, pairs_more, pairs_row, pairs_skip}
use native.Mathlib.Decide.{ℕ_discrete}
use lib.IntN.{ℤ, pos}
use lib.Signed.{◌<ℤ◌}

-- ---- one value more
-- the next negative place stays so before a later end
next_longer : (passed : ℕ → Type 0) (v : List ℤ) (start n j : ℕ) → IsNextNegative passed v start n j → IsNextNegative passed v start (n + 1) j
next_longer passed v start n j h = record { from = h.from; within = let l = h.within in omega arith; negative = h.negative; before = h.before }

-- a place that is passed over adds none
pub places_skip : (passed : ℕ → Type 0) (v : List ℤ) (start n : ℕ) (js : List ℕ) → AreNegativesLeft passed v start n js → passed n → AreNegativesLeft passed v start (n + 1) js
places_skip passed v start n [] h skip = λ l from within. elim (ℕ_discrete l n) [
  | yes e ↦ subst passed (sym e) skip
  | no ne ↦ h l from (omega arith)
]
places_skip passed v start n (j ∷ js) h skip = (next_longer passed v start n j h.0, places_skip passed v (j + 1) n js h.1 skip)

-- the place of a negative value is added at the end
pub places_add : (passed : ℕ → Type 0) (v : List ℤ) (start n : ℕ) (js : List ℕ) → start ≤ n → AreNegativesLeft passed v start n js → entry v n <ℤ pos 0 → AreNegativesLeft passed v start (n + 1) (js ++ n ∷ [])
places_add passed v start n [] le h down = (record { from = le; within = omega arith; negative = down; before = h }, λ l from within. absurd (omega arith))
places_add passed v start n (j ∷ js) le h down = (next_longer passed v start n j h.0, places_add passed v (j + 1) n js (let l = h.0.within in omega arith) h.1 down)

-- what is passed over for one reason may be for another
places_as : (passed passed' : ℕ → Type 0) → ((l : ℕ) → passed l → passed' l) → (v : List ℤ) (start n : ℕ) (js : List ℕ) → AreNegativesLeft passed v start n js → AreNegativesLeft passed' v start n js
places_as passed passed' to v start n [] h = λ l from within. to l (h l from within)
places_as passed passed' to v start n (j ∷ js) h = (record { from = h.0.from; within = h.0.within; negative = h.0.negative; before = λ l from before. to l (h.0.before l from before) }, places_as passed passed' to v (j + 1) n js h.1)

-- ---- the pairs of one positive ray
-- no pair with the ray at l behind is a source
abbrev pub IsFar : List Row → ℕ → List Row → ℕ → Type 0
IsFar J f V l = (i : ℕ) → ¬ (IsSource (take f J) (row_at J f) V (pair i l))

-- the pairs of ray i before a place are made, and js are the negative places that are left from there on
pub record IsRowBuilt (n : ℕ) (E J : List Row) (f : ℕ) (V : List Row) (v : List ℤ) (i : ℕ) (js : List ℕ) (W : List Row) (Y : List (List Bool)) : Type 0 where
  pub start : ℕ
  pub within : start ≤ length V
  pub left : AreNegativesLeft (IsFar J f V) v start (length V) js
  pub built : IsBuilt n E J f V (SeenPairs i start) W Y

-- the place that comes next, and those after it
pub row_next : (n : ℕ) (E J : List Row) (f : ℕ) (V : List Row) (v : List ℤ) (i : ℕ) (js : List ℕ) (W : List Row) (Y : List (List Bool)) → (k j : ℕ) → k < length js → get_or js k 0 ≡ j → IsRowBuilt n E J f V v i (drop k js) W Y → IsRowBuilt n E J f V v i (j ∷ drop (k + 1) js) W Y
row_next n E J f V v i js W Y k j l e b = subst (λ (ks : List ℕ). IsRowBuilt n E J f V v i ks W Y) (drop_more js k 0 l ∙ ap (λ (m : ℕ). m ∷ drop (k + 1) js) e) b

module _ (n : ℕ) (E J : List Row) (f : ℕ) (V : List Row) (v : List ℤ) (stand : StandFor (row_at J f) V v) (i : ℕ) where
  -- pairs that are no sources are passed over
  pairs_pass : (start end : ℕ) (W : List Row) (Y : List (List Bool)) → start ≤ end → ((l : ℕ) → start ≤ l → l < end → IsFar J f V l) → IsBuilt n E J f V (SeenPairs i start) W Y → IsBuilt n E J f V (SeenPairs i end) W Y
  pairs_pass start end W Y le far b = built_same n E J f V (SeenPairs i start) (SeenPairs i end) W Y to back b
    where
      to : (r : Source) → SeenPairs i start r → SeenPairs i end r
      to (kept k) h = h
      to (pair k l) (inl h) = inl h
      to (pair k l) (inr h) = inr (h.0, (let q = h.1 in omega arith))

      back : (r : Source) → IsSource (take f J) (row_at J f) V r → SeenPairs i end r → SeenPairs i start r
      back (kept k) p h = h
      back (pair k l) p (inl h) = inl h
      back (pair k l) p (inr h) = elim (cases_lt l start) [
        | inl before ↦ inr (h.0, before)
        | inr from ↦ absurd (far l from h.1 k p)
      ]

  -- the pairs up to the next negative place
  pub row_before : (j : ℕ) (js : List ℕ) (W : List Row) (Y : List (List Bool)) → IsRowBuilt n E J f V v i (j ∷ js) W Y → IsBuilt n E J f V (SeenPairs i j) W Y
  row_before j js W Y b = pairs_pass b.start j W Y b.left.0.from b.left.0.before b.built

  -- before the first pair
  pub row_start : (passed : ℕ → Type 0) → ((l : ℕ) → passed l → IsFar J f V l) → (js : List ℕ) (W : List Row) (Y : List (List Bool)) → AreNegativesLeft passed v 0 (length v) js → IsBuilt n E J f V (SeenPairs i 0) W Y → IsRowBuilt n E J f V v i js W Y
  row_start passed far js W Y h b = record { start = 0; within = omega arith; left = places_as passed (IsFar J f V) far v 0 (length V) js (subst (λ (k : ℕ). AreNegativesLeft passed v 0 k js) stand.as_many h); built = b }

  -- the next pair is no source
  pub row_skip : (j : ℕ) (js : List ℕ) (W : List Row) (Y : List (List Bool)) → IsRowBuilt n E J f V v i (j ∷ js) W Y → ¬ (IsSource (take f J) (row_at J f) V (pair i j)) → IsRowBuilt n E J f V v i js W Y
  row_skip j js W Y b never = record {
    start = j + 1;
    within = let l = b.left.0.within in omega arith;
    left = b.left.1;
    built = pairs_skip n E J f V i j W Y (row_before j js W Y b) never;
  }

  -- the next pair is made
  pub row_more : (j : ℕ) (js : List ℕ) (W : List Row) (Y : List (List Bool)) → IsRowBuilt n E J f V v i (j ∷ js) W Y → (w : Row) (y : List Bool) → IsMade n E J f V (pair i j) w y → IsRowBuilt n E J f V v i js (W ++ w ∷ []) (Y ++ y ∷ [])
  row_more j js W Y b w y m = record {
    start = j + 1;
    within = let l = b.left.0.within in omega arith;
    left = b.left.1;
    built = pairs_more n E J f V i j W Y (row_before j js W Y b) w y m;
  }

  -- no negative place is left
  pub row_end : (js : List ℕ) (k : ℕ) (W : List Row) (Y : List (List Bool)) → length js ≤ k → IsRowBuilt n E J f V v i (drop k js) W Y → IsBuilt n E J f V (SeenPairs (i + 1) 0) W Y
  row_end js k W Y le b = pairs_row n E J f V i W Y (pairs_pass b.start (length V) W Y b.within (subst (λ (ks : List ℕ). AreNegativesLeft (IsFar J f V) v b.start (length V) ks) (drop_all k js le) b.left) b.built)
