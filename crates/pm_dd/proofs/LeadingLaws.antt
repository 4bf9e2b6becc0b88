-- Equations that lead a list.
use Rattle.std.specs.Prelude.{ℕ, ◌+◌, ◌-◌, ◌*◌, ◌≡◌, ◌<◌, ◌≤◌, Bool, true, false, List, [], ◌∷◌, ◌++◌, drop, length, map, take, get_or}
use Rattle.std.proofs.Common.{ap, arith, refl, sym, ◌∙◌}
use Rattle.std.proofs.Math.Seq.{take-append_seam, take-length}
use Rattle.std.proofs.lemmas.List.{drop_more, length-drop, length_push}
use Rattle.pm_vector.specs.Rows.{Row, opposite}
use Rattle.pm_vector.specs.Bases.{row_at}
use Rattle.pm_vector.specs.Enlarging.{MarkEnlarging}
use Rattle.pm_geom.specs.StatedOrder.{rows_marked}
use Rattle.pm_dd.specs.Arrangement.{IsArrangement, Leads, alternating}
use Rattle.pm_dd.specs.Fronts.{both_signs}

pub leads_none : (X : List Row) (marks : List Bool) → Leads X marks []
leads_none X marks = record { within = omega arith; rows = refl; marked = refl }

signs_push : (E : List Row) (l : Row) (Z : List Row) → both_signs (E ++ l ∷ []) ++ Z ≡ both_signs E ++ l ∷ opposite l ∷ Z
signs_push [] l Z = refl
signs_push (e ∷ E) l Z = ap (λ (W : List Row). e ∷ opposite e ∷ W) (signs_push E l Z)

marks_push : (E : List Row) (l : Row) (Z : List Bool) → alternating (E ++ l ∷ []) ++ Z ≡ alternating E ++ true ∷ false ∷ Z
marks_push [] l Z = refl
marks_push (e ∷ E) l Z = ap (λ (W : List Bool). true ∷ false ∷ W) (marks_push E l Z)

two_more : {X : Type 0} (xs : List X) (k : ℕ) (d : X) → 2 * k + 1 < length xs → drop (2 * k) xs ≡ get_or xs (2 * k) d ∷ get_or xs (2 * k + 1) d ∷ drop (2 * (k + 1)) xs
two_more {X} xs k d l =
    let e : 2 * k + 1 + 1 ≡ 2 * (k + 1) = omega arith in
    drop_more xs (2 * k) d (omega arith) ∙ ap (λ (Z : List X). get_or xs (2 * k) d ∷ Z) (drop_more xs (2 * k + 1) d l ∙ ap (λ (j : ℕ). get_or xs (2 * k + 1) d ∷ drop j xs) e)

pub leads_more : (X : List Row) (marks : List Bool) (E : List Row) (i : ℕ) → length E ≡ i → Leads X marks E → 2 * i + 1 < length X → length marks ≡ length X → get_or marks (2 * i) false ≡ true → get_or marks (2 * i + 1) false ≡ false → row_at X (2 * i + 1) ≡ opposite (row_at X (2 * i)) → Leads X marks (E ++ row_at X (2 * i) ∷ [])
leads_more X marks E i li s l lm t f o = record {
  within = let n = length_push E (row_at X (2 * i)) in omega arith;
  rows = sym (signs_push E (row_at X (2 * i)) (drop (2 * length (E ++ row_at X (2 * i) ∷ [])) X) ∙ ap (λ (Z : List Row). both_signs E ++ Z) (sym rest) ∙ sym s.rows);
  marked = sym (marks_push E (row_at X (2 * i)) (drop (2 * length (E ++ row_at X (2 * i) ∷ [])) marks) ∙ ap (λ (Z : List Bool). alternating E ++ Z) (sym rest_marks) ∙ sym s.marked);
}
  where
    long : length (E ++ row_at X (2 * i) ∷ []) ≡ i + 1
    long = length_push E (row_at X (2 * i)) ∙ ap (λ (k : ℕ). k + 1) li

    rest : drop (2 * length E) X ≡ row_at X (2 * i) ∷ opposite (row_at X (2 * i)) ∷ drop (2 * length (E ++ row_at X (2 * i) ∷ [])) X
    rest = ap (λ (k : ℕ). drop (2 * k) X) li ∙ two_more X i [] l ∙ ap (λ (z : Row). row_at X (2 * i) ∷ z ∷ drop (2 * (i + 1)) X) o ∙ ap (λ (k : ℕ). row_at X (2 * i) ∷ opposite (row_at X (2 * i)) ∷ drop (2 * k) X) (sym long)

    rest_marks : drop (2 * length E) marks ≡ true ∷ false ∷ drop (2 * length (E ++ row_at X (2 * i) ∷ [])) marks
    rest_marks = ap (λ (k : ℕ). drop (2 * k) marks) li ∙ two_more marks i false (omega arith) ∙ ap (λ (b : Bool). b ∷ get_or marks (2 * i + 1) false ∷ drop (2 * (i + 1)) marks) t ∙ ap (λ (b : Bool). true ∷ b ∷ drop (2 * (i + 1)) marks) f ∙ ap (λ (k : ℕ). true ∷ false ∷ drop (2 * k) marks) (sym long)

-- ---- the rows with each mark
marked_first : (E : List Row) (m : List Bool) (X : List Row) → rows_marked true (alternating E ++ m) (both_signs E ++ X) ≡ E ++ rows_marked true m X
marked_first [] m X = refl
marked_first (e ∷ E) m X = ap (λ (Z : List Row). e ∷ Z) (marked_first E m X)

marked_others : (E : List Row) (m : List Bool) (X : List Row) → rows_marked false (alternating E ++ m) (both_signs E ++ X) ≡ map opposite E ++ rows_marked false m X
marked_others [] m X = refl
marked_others (e ∷ E) m X = ap (λ (Z : List Row). opposite e ∷ Z) (marked_others E m X)

drop_seam : (A B : List Row) → drop (length A) (A ++ B) ≡ B
drop_seam [] B = refl
drop_seam (a ∷ A) B = drop_seam A B

seam_within : (A B : List Row) → length A ≤ length (A ++ B)
seam_within [] B = omega arith
seam_within (a ∷ A) B = let h = seam_within A B in omega arith

pub arrangement : (X : List Row) (marks : List Bool) (E : List Row) → MarkEnlarging X marks → Leads X marks E → IsArrangement X E (rows_marked true (drop (2 * length E) marks) (drop (2 * length E) X) ++ rows_marked false (drop (2 * length E) marks) (drop (2 * length E) X)) (length (rows_marked true (drop (2 * length E) marks) (drop (2 * length E) X)))
arrangement X marks E m s = record {
  marks = marks;
  enlarging = m;
  within = seam_within (rows_marked true (drop (2 * length E) marks) (drop (2 * length E) X)) (rows_marked false (drop (2 * length E) marks) (drop (2 * length E) X));
  first = ap (λ (Z : List Bool). rows_marked true Z X) s.marked ∙ ap (λ (Z : List Row). rows_marked true (alternating E ++ drop (2 * length E) marks) Z) s.rows ∙ marked_first E (drop (2 * length E) marks) (drop (2 * length E) X)
      ∙ ap (λ (Z : List Row). E ++ Z) (sym (take-append_seam (rows_marked true (drop (2 * length E) marks) (drop (2 * length E) X)) (rows_marked false (drop (2 * length E) marks) (drop (2 * length E) X))));
  others = ap (λ (Z : List Bool). rows_marked false Z X) s.marked ∙ ap (λ (Z : List Row). rows_marked false (alternating E ++ drop (2 * length E) marks) Z) s.rows ∙ marked_others E (drop (2 * length E) marks) (drop (2 * length E) X)
      ∙ ap (λ (Z : List Row). map opposite E ++ Z) (sym (drop_seam (rows_marked true (drop (2 * length E) marks) (drop (2 * length E) X)) (rows_marked false (drop (2 * length E) marks) (drop (2 * length E) X))));
}

-- a slice to the end of a list
pub rest_of : {X : Type 0} (xs : List X) (i : ℕ) → take (length xs - i) (drop i xs) ≡ drop i xs
rest_of {X} xs i = ap (λ (k : ℕ). take k (drop i xs)) (sym (length-drop i xs)) ∙ take-length (drop i xs)
