-- The first fault of a matrix, whose column count may be stated behind its rows.
use Rattle.pm_json.proofs.Parts.{and_then-ok, same_Ok}
use Rattle.pm_json.specs.Readings.{Read, and_then, before, cols_member, first_row_of, items_of, later_rows_from, matrix_from, matrix_of, matrix_reading, matrix_with, object_behind, one_row_of, only_cols, or_fault, rows_before, rows_from, whole_number_of, with_cols}
use Rattle.pm_json.specs.declared.fail.ValueFail.{ValueFail}
use Rattle.pm_json.specs.declared.fail.ValueFail.TheVariants.{Limit, Shape}
use Rattle.pm_laws_texts.proofs.FirstOfValue.{array_tells, made_tells, same_tells, then_tells}
use Rattle.pm_laws_texts.proofs.Rows.{before_end, first_row_tells, first_width, rows_tell, then_then}
use Rattle.pm_laws_texts.specs.ValueFaults.{IsCols, IsNoWidth, IsWhole, NoCols, NoNumberIn, NotWhole, NumberIn, OfBehind, OfFirstRow, OfMatrix, OfMatrixOf, OfRow, OfRows, first_count}
use Rattle.pm_laws_texts.specs.Places.{OfArray, Tells, count, order}
use Rattle.pm_limits.specs.Limits.{most_columns, most_rows, most_site_columns}
use Rattle.pm_fraction.specs.Matrices.{FractionMatrix}
use Rattle.pm_props.specs.declared.property.PropId.{PropId}
use Rattle.pm_props.specs.declared.property.PropId.TheVariants.{F2Vector, LinearObjective, SiteHeights, Sites}
use Rattle.pm_types.specs.Forms.{is_number}
use Rattle.pm_types.specs.Values.{matrix}
use Rattle.pm_vector.specs.Numbers.{Ratio}
use Rattle.serde_json.specs.Data.{Data, Items, array, boolean, float, item, member, negative, no_items, no_members, null, number, object, string, unsigned}
use Rattle.serde_json.specs.Find.{get_member}
use Rattle.std.proofs.Common.{ap, arith, false, inl, inr, refl, subst, sym, true, true≢false, ◌∙◌}
use Rattle.std.proofs.lemmas.Bool.{and_parts, eq-eqb, eqb-false, eqb-true, leb-false, leb-true}
use Rattle.std.specs.Prelude.{Bool, Err, List, None, Ok, Option, Some, [], codes, if◌then◌else◌, length, nat_eq, nat_le, ℕ, ◌&&◌, ◌<◌, ◌==◌, ◌≡◌, ◌≤◌, ◌⊎◌, ◌∷◌}
use lib.IntN.{ℤ, negsuc, pos}

same_pos : (a b : ℕ) → pos a ≡ pos b → a ≡ b
same_pos a b h = cc

-- ---- one place
abbrev pub AtPlace : List ℕ → (ValueFail → Type 0) → List ℕ → ValueFail → Type 0
AtPlace p Is r f = (r ≡ p) × Is f

-- what is read finds no such fault, or the least
abbrev pub FindsLeast : {A : Type 0} → (ValueFail → Type 0) → Read A → Type 0
FindsLeast Is (Ok a) = (g : ValueFail) → ¬ (Is g)
FindsLeast Is (Err f) = Is f × ((g : ValueFail) → Is g → order f ≤ order g)

pub place_tells : {A : Type 0} (p : List ℕ) (Is : ValueFail → Type 0) (read : Read A) → FindsLeast Is read → Tells (AtPlace p Is) read
place_tells p Is (Ok a) none = λ r f h. none f h.1
place_tells p Is (Err f) (is, least) = (p, record { stands = (refl, is); first = λ s g h. inr (sym h.0, least g h.1) })

pub same_order : (f g : ValueFail) → g ≡ f → order f ≤ order g
same_order f g e = subst (λ z. order f ≤ order z) (sym e) (omega arith)

-- ---- a whole number
-- what is read is the number, or why it is none
abbrev pub Judges : (ℤ → Type 0) → (ValueFail → Type 0) → Read ℤ → Type 0
Judges Is Not (Ok z) = Is z × ((y : ℤ) → Is y → y ≡ z) × ((g : ValueFail) → ¬ (Not g))
Judges Is Not (Err f) = Not f × ((g : ValueFail) → Not g → g ≡ f) × ((y : ℤ) → ¬ (Is y))

some_is : {X : Type 0} {x y : X} → Some x ≡ Some y → x ≡ y
some_is h = cc

no_whole : (d : Data) → (Not : ValueFail → Type 0) → Not Shape → ((g : ValueFail) → Not g → g ≡ Shape) → Judges (λ z. ⊥) Not (Err Shape)
no_whole d Not is only = (is, only, λ y h. h)

pub whole_judges : (d : Data) → Judges (IsWhole d) (NotWhole d) (whole_number_of d)
whole_judges null = (refl, λ g h. h, λ y h. h)
whole_judges (boolean b) = (refl, λ g h. h, λ y h. h)
whole_judges (string s) = (refl, λ g h. h, λ y h. h)
whole_judges (array ds) = (refl, λ g h. h, λ y h. h)
whole_judges (object ms) = (refl, λ g h. h, λ y h. h)
whole_judges (number (unsigned n)) = (refl, λ y h. sym (some_is h), λ g h. (let e = h.1 in cc))
whole_judges (number (negative z)) = (refl, λ y h. sym (some_is h), λ g h. (let e = h.1 in cc))
whole_judges (number (float x)) = ((refl, refl), λ g h. h.0, λ y h. cc)

-- ---- {"cols":n}
cols_in : (o : Option Data) → Judges (NumberIn o) (NoNumberIn o) (and_then (or_fault Shape o) whole_number_of)
cols_in None = (refl, λ g h. h, λ y h. h)
cols_in (Some d) = whole_judges d

pub cols_judges : (d : Data) → Judges (IsCols d) (NoCols d) (and_then (cols_member d) whole_number_of)
cols_judges null = (refl, λ g h. h, λ y h. h)
cols_judges (boolean b) = (refl, λ g h. h, λ y h. h)
cols_judges (number n) = (refl, λ g h. h, λ y h. h)
cols_judges (string s) = (refl, λ g h. h, λ y h. h)
cols_judges (array ds) = (refl, λ g h. h, λ y h. h)
cols_judges (object no_members) = (refl, λ g h. h, λ y h. h)
cols_judges (object (member key d (member other e ms))) = (refl, λ g h. h, λ y h. h)
cols_judges (object (member key d no_members)) = cols_in (get_member (codes "cols") (member key d no_members))

-- ---- the column count behind rows
-- what is read of the rows
rows_are : (least most : ℕ) (rows : Items) (m : FractionMatrix) → rows_from least most rows ≡ Ok m → (rows ≡ no_items × (length m.rows ≡ 0)) ⊎ ((0 < length m.rows) × (m.cols ≡ first_count rows) × ((d : Data) × (ds : Items) × (rows ≡ item d ds)))
rows_are least most no_items m e = inl (refl, subst (λ (w : FractionMatrix). length w.rows ≡ 0) (same_Ok _ m e) refl)
rows_are least most (item d ds) m e =
    let e' = sym (then_then (items_of d) (first_row_of least most) (λ r. and_then (before r (later_rows_from (length r) 1 ds)) (λ rows. Ok (record { cols = length r; rows = rows })))) ∙ e in
    and_then-ok (and_then (items_of d) (first_row_of least most)) (λ r. and_then (before r (later_rows_from (length r) 1 ds)) (λ rows. Ok (record { cols = length r; rows = rows }))) m e'
    (λ r is f. and_then-ok (before r (later_rows_from (length r) 1 ds)) (λ rows. Ok (record { cols = length r; rows = rows })) m f
    (λ rows made g. and_then-ok (later_rows_from (length r) 1 ds) (λ others. Ok (r ∷ others)) rows made
    (λ others left k.
    let some : 0 < length rows = subst (λ (w : List (List Ratio)). 0 < length w) (same_Ok (r ∷ others) rows k) (omega arith) in
    let same = same_Ok (record { cols = length r; rows = rows }) m g in
    inr (subst (λ (w : FractionMatrix). 0 < length w.rows) same some, subst (λ (w : FractionMatrix). w.cols ≡ first_count (item d ds)) same (first_width least most d ds r is), (d, ds, refl)))))

-- the count, held against the rows
width_finds : (least most : ℕ) (rows : Items) (m : FractionMatrix) (z : ℤ) → rows_from least most rows ≡ Ok m → FindsLeast (IsNoWidth least most rows z) (with_cols least most m z)
width_finds least most rows m z e = elim (rows_are least most rows m e) [
  | inl none ↦ subst (λ w. FindsLeast (IsNoWidth least most w z) (with_cols least most m z)) (sym none.0) (subst (λ b. FindsLeast (IsNoWidth least most no_items z) (if b then only_cols least most z else if is_number z m.cols then Ok m else Err Shape)) (sym (eq-eqb (length m.rows) 0 none.1)) (beyond z))
  | inr some ↦
      let (d, ds, is) = some.2 in
      subst (λ w. FindsLeast (IsNoWidth least most w z) (with_cols least most m z)) (sym is)
      (subst (λ b. FindsLeast (IsNoWidth least most (item d ds) z) (if b then only_cols least most z else if is_number z m.cols then Ok m else Err Shape)) (sym (not_none (length m.rows) some.0))
      (subst (λ k. FindsLeast (IsNoWidth least most (item d ds) z) (if is_number z k then Ok m else Err Shape)) (sym (some.1 ∙ ap first_count is)) (other d ds z)))
]
  where
    not_none : (n : ℕ) → 0 < n → (n == 0) ≡ false
    not_none n l = grind arith

    beyond : (z : ℤ) → FindsLeast (IsNoWidth least most no_items z) (only_cols least most z)
    beyond (negsuc n) = ((refl, tt), λ g h. same_order Limit g h.0)
    beyond (pos n) = by (nat_le least n && nat_le n most) refl
      where
        by : (b : Bool) → (nat_le least n && nat_le n most) ≡ b → FindsLeast {A = FractionMatrix} (IsNoWidth least most no_items (pos n)) (if b then Ok (record { cols = n; rows = [] }) else Err Limit)
        by true t = λ g h. (let p = and_parts (nat_le least n) (nat_le n most) t in let low = leb-true least n p.0 in let high = leb-true n most p.1 in elim h.1 [
          | inl x ↦ omega arith
          | inr y ↦ omega arith
        ])
        by false t = ((refl, out (nat_le least n) (nat_le n most) refl refl t), λ g h. same_order Limit g h.0)
          where
            out : (a b : Bool) → nat_le least n ≡ a → nat_le n most ≡ b → (a && b) ≡ false → (n < least) ⊎ (most < n)
            out false b p q t = inl (let l = leb-false least n p in omega arith)
            out true false p q t = inr (let l = leb-false n most q in omega arith)
            out true true p q t = absurd (true≢false t)

    other : (d : Data) (ds : Items) (z : ℤ) → FindsLeast (IsNoWidth least most (item d ds) z) (if is_number z (first_count (item d ds)) then Ok m else Err Shape)
    other d ds (negsuc n) = ((refl, λ h. cc), λ g h. same_order Shape g h.0)
    other d ds (pos n) = by (nat_eq n (first_count (item d ds))) refl
      where
        by : (b : Bool) → nat_eq n (first_count (item d ds)) ≡ b → FindsLeast (IsNoWidth least most (item d ds) (pos n)) (if b then Ok m else Err Shape)
        by true t = λ g h. h.1 (ap pos (eqb-true n (first_count (item d ds)) t))
        by false t = ((refl, λ h. (let e = same_pos n (first_count (item d ds)) h in eqb-false n (first_count (item d ds)) t e)), λ g h. same_order Shape g h.0)

-- all that may be wrong there
behind_finds : (least most : ℕ) (rows : Items) (d : Data) (m : FractionMatrix) → rows_from least most rows ≡ Ok m
    → FindsLeast (λ f. NoCols d f ⊎ ((z : ℤ) × IsCols d z × IsNoWidth least most rows z f)) (and_then (and_then (cols_member d) whole_number_of) (with_cols least most m))
behind_finds least most rows d m e = by (and_then (cols_member d) whole_number_of) (cols_judges d)
  where
    by : (read : Read ℤ) → Judges (IsCols d) (NoCols d) read → FindsLeast (λ f. NoCols d f ⊎ ((z : ℤ) × IsCols d z × IsNoWidth least most rows z f)) (and_then read (with_cols least most m))
    by (Err f) (is, only, none) = (
      inl is,
      λ g h. elim h [
        | inl x ↦ same_order f g (only g x)
        | inr y ↦ absurd (none y.0 y.1)
      ],
    )
    by (Ok z) (is, only, none) = at (with_cols least most m z) (width_finds least most rows m z e)
      where
        at : (read : Read FractionMatrix) → FindsLeast (IsNoWidth least most rows z) read → FindsLeast (λ f. NoCols d f ⊎ ((y : ℤ) × IsCols d y × IsNoWidth least most rows y f)) read
        at (Ok made) right = λ g h. elim h [
          | inl x ↦ none g x
          | inr y ↦ right g (subst (λ w. IsNoWidth least most rows w g) (only y.0 y.1) y.2)
        ]
        at (Err f) (wrong, first) = (
          inr (z, is, wrong),
          λ g h. elim h [
            | inl x ↦ absurd (none g x)
            | inr y ↦ first g (subst (λ w. IsNoWidth least most rows w g) (only y.0 y.1) y.2)
          ],
        )

-- ---- matrices
with_behind : (least most : ℕ) (rows : Items) (behind : Option Data) → Tells (λ r f. OfRows least most rows r f ⊎ OfBehind least most rows behind r f) (matrix_with least most rows behind)
with_behind least most rows None =
    same_tells (OfRows least most rows) (λ r f. OfRows least most rows r f ⊎ OfBehind least most rows None r f) (rows_from least most rows) (λ r f h. inl h) (λ r f h. elim h [
      | inl x ↦ x
      | inr y ↦ absurd y
    ]) (rows_tell least most rows)
with_behind least most rows (Some d) =
    then_tells (OfRows least most rows) (OfBehind least most rows (Some d)) (λ r f. OfRows least most rows r f ⊎ OfBehind least most rows (Some d) r f)
    (rows_from least most rows) (λ m. and_then (and_then (cols_member d) whole_number_of) (with_cols least most m))
    (record { split = λ r f h. h; first = λ r f h. inl h; rest = λ r f h. inr h; before = λ r f s g h k. before_end (OfRow least most (first_count rows)) rows r f s g h k.0 })
    (rows_tell least most rows)
    (λ m is. place_tells (count rows ∷ []) (λ f. NoCols d f ⊎ ((z : ℤ) × IsCols d z × IsNoWidth least most rows z f)) (and_then (and_then (cols_member d) whole_number_of) (with_cols least most m)) (behind_finds least most rows d m is))

matrix_tells : (least most : ℕ) (d : Data) → Tells (OfMatrix least most d) (matrix_of least most d)
matrix_tells least most d =
    array_tells (λ ds s g. OfRows least most (rows_before ds) s g ⊎ OfBehind least most (rows_before ds) (object_behind ds) s g) d (λ ds. and_then (matrix_from least most ds) (λ m. Ok (matrix m.cols m.rows)))
    (λ ds is. made_tells (λ s g. OfRows least most (rows_before ds) s g ⊎ OfBehind least most (rows_before ds) (object_behind ds) s g) (matrix_from least most ds) (λ m. matrix m.cols m.rows) (with_behind least most (rows_before ds) (object_behind ds)))

one_row_tells : (least most : ℕ) (d : Data) → Tells (OfArray (OfFirstRow least most) d) (one_row_of least most d)
one_row_tells least most d =
    array_tells (OfFirstRow least most) d (λ ds. and_then (first_row_of least most ds) (λ r. Ok (matrix (length r) (r ∷ []))))
    (λ ds is. made_tells (OfFirstRow least most ds) (first_row_of least most ds) (λ r. matrix (length r) (r ∷ [])) (first_row_tells least most ds))

pub matrices_tell : (p : PropId) (d : Data) → Tells (OfMatrixOf p d) (matrix_reading p d)
matrices_tell LinearObjective d = one_row_tells 1 most_columns d
matrices_tell SiteHeights d = one_row_tells 0 most_rows d
matrices_tell F2Vector d = matrix_tells 0 most_columns d
matrices_tell Sites d = matrix_tells 1 most_site_columns d
matrices_tell p d = matrix_tells 1 most_columns d
