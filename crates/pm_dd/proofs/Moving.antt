-- The kept rays of a table, moved to its front or listed, and combinations after them.
use Rattle.std.specs.Prelude.{ℕ, suc, ◌+◌, ◌≡◌, ◌≢◌, ◌<◌, ◌≤◌, ◌⊎◌, Bool, true, false, List, [], ◌∷◌, ◌++◌, get_or, int_le, length, set, take}
use Rattle.std.specs.List.{swap}
use Rattle.std.proofs.Common.{arith, refl, sym, subst, ap, ◌∙◌, inl, inr, get_or-set_same, get_or-set_other}
use Rattle.std.proofs.lemmas.Int.{ints}
use Rattle.std.proofs.lemmas.List.{ext_get_or, get_or-take, length-set, length-take-le, take-set-le, take_all, take_more}
use Rattle.std.proofs.lemmas.List.Sums.{count_by-le-length, count_by_more_no, count_by_more_yes}
use Rattle.std.proofs.lemmas.List.Edits.{length-swap, swap_is, swapped_from_swap}
use Rattle.pm_vector.specs.Cones.{InSpan}
use Rattle.pm_vector.specs.Rows.{Row, dot, entry, HasCols}
use Rattle.pm_vector.specs.Bases.{row_at}
use Rattle.pm_geom.proofs.Independent.{decide_zero}
use Rattle.pm_geom.specs.Faces.{ray}
use Rattle.pm_limits.specs.Limits.{most_rows}
use Rattle.pm_dd.specs.Description.{kept}
use Rattle.pm_dd.specs.Building.{IsBuilt, IsListed, IsMade, IsPair, NextZeros, SeenKept, SeenPairs, kept_count}
use Rattle.pm_dd.specs.Form.{KeepForm}
use Rattle.pm_dd.specs.Fronts.{HalfSpaces}
use Rattle.pm_dd.specs.StepFails.{AreTooMany}
use Rattle.pm_dd.specs.Tables.{IsRayTable, zero_set}
use Rattle.pm_dd.proofs.Building.{built_both, built_form, built_many, built_none, built_table, kept_first, kept_more, kept_no_pair, kept_or_pair, kept_skip, kept_unpaired, made_kept}
use lib.IntN.{ℤ, pos}
use lib.Signed.{◌<ℤ◌, ◌≤ℤ◌}

-- ---- one element is put behind those at the front
take_swap : {X : Type 0} (xs : List X) (w i : ℕ) (d : X) → w ≤ i → i < length xs → take (w + 1) (swap xs w i) ≡ take w xs ++ get_or xs i d ∷ []
take_swap xs w i d le l =
    let lw : w < length xs = omega arith in
    let moved = swapped_from_swap xs (swap xs w i) w i d lw l refl in
    let front : take w (swap xs w i) ≡ take w xs =
    ap (take w) (sym (swap_is xs w i d lw l)) ∙ take-set-le w (set xs w (get_or xs i d)) i (get_or xs w d) le ∙ take-set-le w xs w (get_or xs i d) (omega arith) in
    take_more (swap xs w i) w d (let e = length-swap xs w i in omega arith) ∙ rw (front, moved.0) refl

-- those behind it stay
after_swap : {X : Type 0} (xs : List X) (w i : ℕ) (d : X) → w ≤ i → i < length xs → (k : ℕ) → i + 1 ≤ k → get_or (swap xs w i) k d ≡ get_or xs k d
after_swap xs w i d le l k past =
    let lw : w < length xs = omega arith in
    let moved = swapped_from_swap xs (swap xs w i) w i d lw l refl in
    moved.2 k (λ e. omega arith) (λ e. omega arith)

-- the first elements are the same where only a later one changes
take_same : {X : Type 0} (xs ys : List X) (w i : ℕ) (d : X) → w ≤ i → i < length xs → length ys ≡ length xs → ((k : ℕ) → k ≢ i → get_or ys k d ≡ get_or xs k d) → take w ys ≡ take w xs
take_same xs ys w i d le l len same =
    let a = length-take-le w ys (omega arith) in
    let b = length-take-le w xs (omega arith) in
    ext_get_or d (take w ys) (take w xs) (a ∙ sym b) (λ k lk.
    let before : k < w = omega arith in
    get_or-take w ys k d before ∙ same k (λ e. omega arith) ∙ sym (get_or-take w xs k d before))

-- ---- how many are kept
pub kept_yes : (v : List ℤ) (i : ℕ) → i < length v → pos 0 ≤ℤ entry v i → kept_count (take (i + 1) v) ≡ kept_count (take i v) + 1
kept_yes v i l up = count_by_more_yes (int_le (pos 0)) v i (pos 0) l (grind (arith, ints))

pub kept_no : (v : List ℤ) (i : ℕ) → i < length v → entry v i <ℤ pos 0 → kept_count (take (i + 1) v) ≡ kept_count (take i v)
kept_no v i l down = count_by_more_no (int_le (pos 0)) v i (pos 0) l (grind (arith, ints))

pub kept_end : (v : List ℤ) (i : ℕ) → length v ≤ i → kept_count (take i v) ≡ kept_count v
kept_end v i le = ap kept_count (take_all i v le)

pub kept_few : (v : List ℤ) → kept_count v ≤ length v
kept_few v = count_by-le-length (int_le (pos 0)) v

-- ---- the kept rays
-- a zero set for the next front is there
next_zeros : (z : List Bool) (f : ℕ) (v : ℤ) → f < length z → (y : List Bool) × NextZeros z f v y
next_zeros z f v l = elim (decide_zero v) [
  | inl e ↦ (
    set z f true,
    record {
      as_many = length-set z f true;
      on = λ q. get_or-set_same z f true false l;
      others = λ p np. get_or-set_other z f p true false (λ q. np q e);
    },
  )
  | inr ne ↦ (z, record { as_many = refl; on = λ e. absurd (ne e); others = λ p np. refl })
]

-- of the rays before i those that are kept stand before w, with their zero sets for the next front; those from i on
-- stand where they stood
pub record AreMoved (n : ℕ) (E J : List Row) (f : ℕ) (V : List Row) (Z : List (List Bool)) (i w : ℕ) (M : List Row) (N : List (List Bool)) : Type 0 where
  pub before : w ≤ i
  pub rows_many : length M ≡ length V
  pub zeros_many : length N ≡ length V
  pub rows_left : (k : ℕ) → i ≤ k → ray M k ≡ ray V k
  pub zeros_left : (k : ℕ) → i ≤ k → zero_set N k ≡ zero_set Z k
  pub built : IsBuilt n E J f V (SeenKept i) (take w M) (take w N)

module _ (n : ℕ) (E J : List Row) (f : ℕ) (lf : f < length J) (V : List Row) (Z : List (List Bool)) (t : IsRayTable n E J f V Z) where
  pub moved_first : AreMoved n E J f V Z 0 0 V Z
  moved_first = record {
    before = omega arith;
    rows_many = refl;
    zeros_many = t.as_many;
    rows_left = λ k l. refl;
    zeros_left = λ k l. refl;
    built = built_none n E J f V (SeenKept 0) (kept_first n E J f V);
  }

  module _ (i w : ℕ) (li : i < length V) (M : List Row) (N : List (List Bool)) (m : AreMoved n E J f V Z i w M N) where
    pub moved_skip : dot (row_at J f) (ray V i) <ℤ pos 0 → AreMoved n E J f V Z (i + 1) w M N
    moved_skip down = record {
      before = let l = m.before in omega arith;
      rows_many = m.rows_many;
      zeros_many = m.zeros_many;
      rows_left = λ k l. m.rows_left k (omega arith);
      zeros_left = λ k l. m.zeros_left k (omega arith);
      built = kept_skip n E J f V i (take w M) (take w N) m.built down;
    }

    pub moved_more : pos 0 ≤ℤ dot (row_at J f) (ray V i) → (N' : List (List Bool)) → length N' ≡ length N → NextZeros (zero_set N i) f (dot (row_at J f) (ray V i)) (zero_set N' i) → ((k : ℕ) → k ≢ i → zero_set N' k ≡ zero_set N k) →
        AreMoved n E J f V Z (i + 1) (w + 1) (swap M w i) (swap N' w i)
    moved_more up N' len nz same =
        let le = m.before in
        let a = m.rows_many in
        let b = m.zeros_many in
        let lm : i < length M = omega arith in
        let ln : i < length N = omega arith in
        let ln' : i < length N' = omega arith in
        let zeros : NextZeros (zero_set Z i) f (dot (row_at J f) (ray V i)) (zero_set N' i) = rw (m.zeros_left i (omega arith)) at nz in
        let made : IsMade n E J f V (kept i) (ray M i) (zero_set N' i) = rw (m.rows_left i (omega arith)) (made_kept n E J f lf V Z t i li up (zero_set N' i) zeros) in
        record {
          before = omega arith;
          rows_many = length-swap M w i ∙ m.rows_many;
          zeros_many = length-swap N' w i ∙ len ∙ m.zeros_many;
          rows_left = λ k l. after_swap M w i [] le lm k l ∙ m.rows_left k (omega arith);
          zeros_left = λ k l. after_swap N' w i [] le ln' k l ∙ same k (λ e. omega arith) ∙ m.zeros_left k (omega arith);
          built = rw (take_swap M w i [] le lm, take_swap N' w i [] le ln', take_same N N' w i [] le ln len same) (kept_more n E J f V i (take w M) (take w N) m.built (ray M i) (zero_set N' i) made);
        }

  pub moved_last : (i w : ℕ) (M : List Row) (N : List (List Bool)) → i ≡ length V → AreMoved n E J f V Z i w M N → IsBuilt n E J f V (SeenKept (length V)) (take w M) (take w N)
  moved_last i w M N e m = subst (λ (k : ℕ). IsBuilt n E J f V (SeenKept k) (take w M) (take w N)) e m.built

  pub moved_length : (i w : ℕ) (M : List Row) (N : List (List Bool)) → i ≤ length V → AreMoved n E J f V Z i w M N → length (take w M) ≡ w
  moved_length i w M N le m = let b = m.before in let a = m.rows_many in length-take-le w M (omega arith)

  -- ---- the same as a list of their own
  pub listed_first : IsListed n E J f V (SeenKept 0) []
  listed_first = ([], built_none n E J f V (SeenKept 0) (kept_first n E J f V))

  pub listed_skip : (i : ℕ) (W : List Row) → IsListed n E J f V (SeenKept i) W → dot (row_at J f) (ray V i) <ℤ pos 0 → IsListed n E J f V (SeenKept (i + 1)) W
  listed_skip i W b down = (b.0, kept_skip n E J f V i W b.0 b.1 down)

  pub listed_more : (i : ℕ) (W : List Row) → IsListed n E J f V (SeenKept i) W → i < length V → pos 0 ≤ℤ dot (row_at J f) (ray V i) → IsListed n E J f V (SeenKept (i + 1)) (W ++ ray V i ∷ [])
  listed_more i W b li up =
      let z = t.zeros i li in
      let e = z.as_many in
      let y = next_zeros (zero_set Z i) f (dot (row_at J f) (ray V i)) (omega arith) in
      (b.0 ++ y.0 ∷ [], kept_more n E J f V i W b.0 b.1 (ray V i) y.0 (made_kept n E J f lf V Z t i li up y.0 y.1))

  -- ---- combinations after them
  module _ (hE : HasCols n E) (hJ : HasCols n J) (s : InSpan (E ++ take f J) (row_at J f)) where
    pub both_many : (W W' : List Row) (i j : ℕ) → IsListed n E J f V (SeenKept (length V)) W → IsListed n E J f V (SeenPairs i j) W' → most_rows < length (W ++ W') → AreTooMany n (HalfSpaces E (take (suc f) J)) (W ++ W')
    both_many W W' i j b c many = built_many n E J f lf V Z t hE hJ s (λ q. SeenKept (length V) q ⊎ SeenPairs i j q) (W ++ W') (b.0 ++ c.0)
        (built_both n E J f V (SeenKept (length V)) (SeenPairs i j) (kept_unpaired n E J f V (length V) i j) W W' b.0 c.0 b.1 c.1) many

    pub both_table : (W W' : List Row) (Y Y' : List (List Bool)) → IsBuilt n E J f V (SeenKept (length V)) W Y → IsBuilt n E J f V IsPair W' Y' → IsRayTable n E J (f + 1) (W ++ W') (Y ++ Y')
    both_table W W' Y Y' b c = built_table n E J f lf V Z t hE hJ s (λ q. SeenKept (length V) q ⊎ IsPair q) (W ++ W') (Y ++ Y') (kept_or_pair n E J f V)
        (built_both n E J f V (SeenKept (length V)) IsPair (kept_no_pair n E J f V (length V)) W W' Y Y' b c)

pub both_form : (n : ℕ) (E J : List Row) (f : ℕ) (V W W' : List Row) (Y Y' : List (List Bool)) → IsBuilt n E J f V (SeenKept (length V)) W Y → IsBuilt n E J f V IsPair W' Y' → KeepForm V (W ++ W')
both_form n E J f V W W' Y Y' b c = built_form n E J f V (λ q. SeenKept (length V) q ⊎ IsPair q) (W ++ W') (Y ++ Y') (built_both n E J f V (SeenKept (length V)) IsPair (kept_no_pair n E J f V (length V)) W W' Y Y' b c)
