-- A last object behind the rows.
use Rattle.std.proofs.Common.{ap, refl, sym, ◌∙◌, ◌≡◌, ◌++◌, ◌∷◌, ℕ, List, [], Some, None, true, false}
use Rattle.std.specs.Prelude.{is_some}
use Rattle.serde_json.specs.Data.{item}
use Rattle.serde_json.specs.Find.{as_object}
use Rattle.serde_json.specs.View.{items_view, view}
use Rattle.serde_json.specs.declared.value.Value.{Value}
use Rattle.pm_json.specs.Readings.{matrix_from, matrix_with, object_behind, rows_before, rows_from}

pub rows_before_object : (rows : List Value) (v : Value) → is_some (as_object (view v)) ≡ true → rows_before (items_view (rows ++ v ∷ [])) ≡ items_view rows
rows_before_object [] v h = rw h refl
rows_before_object (r ∷ []) v h = ap (λ ds. item (view r) ds) (rows_before_object [] v h)
rows_before_object (r ∷ s ∷ rows) v h = ap (λ ds. item (view r) ds) (rows_before_object (s ∷ rows) v h)

pub object_is_behind : (rows : List Value) (v : Value) → is_some (as_object (view v)) ≡ true → object_behind (items_view (rows ++ v ∷ [])) ≡ Some (view v)
object_is_behind [] v h = rw h refl
object_is_behind (r ∷ []) v h = object_is_behind [] v h
object_is_behind (r ∷ s ∷ rows) v h = object_is_behind (s ∷ rows) v h

pub rows_alone : (rows : List Value) (v : Value) → is_some (as_object (view v)) ≡ false → rows_before (items_view (rows ++ v ∷ [])) ≡ items_view (rows ++ v ∷ [])
rows_alone [] v h = rw h refl
rows_alone (r ∷ []) v h = ap (λ ds. item (view r) ds) (rows_alone [] v h)
rows_alone (r ∷ s ∷ rows) v h = ap (λ ds. item (view r) ds) (rows_alone (s ∷ rows) v h)

pub nothing_behind : (rows : List Value) (v : Value) → is_some (as_object (view v)) ≡ false → object_behind (items_view (rows ++ v ∷ [])) ≡ None
nothing_behind [] v h = rw h refl
nothing_behind (r ∷ []) v h = nothing_behind [] v h
nothing_behind (r ∷ s ∷ rows) v h = nothing_behind (s ∷ rows) v h

-- ---- matrices
pub from_stated : (least most : ℕ) (vs rows : List Value) (v : Value) → vs ≡ rows ++ v ∷ [] → is_some (as_object (view v)) ≡ true → matrix_from least most (items_view vs) ≡ matrix_with least most (items_view rows) (Some (view v))
from_stated least most vs rows v e h = ap (λ ws. matrix_from least most (items_view ws)) e ∙ ap (λ ds. matrix_with least most ds (object_behind (items_view (rows ++ v ∷ [])))) (rows_before_object rows v h) ∙ ap (matrix_with least most (items_view rows)) (object_is_behind rows v h)

pub from_rows : (least most : ℕ) (vs rows : List Value) (v : Value) → vs ≡ rows ++ v ∷ [] → is_some (as_object (view v)) ≡ false → matrix_from least most (items_view vs) ≡ rows_from least most (items_view vs)
from_rows least most vs rows v e h = ap (λ ws. matrix_from least most (items_view ws)) e ∙ ap (λ ds. matrix_with least most ds (object_behind (items_view (rows ++ v ∷ [])))) (rows_alone rows v h) ∙ ap (matrix_with least most (items_view (rows ++ v ∷ []))) (nothing_behind rows v h) ∙ ap (λ ws. rows_from least most (items_view ws)) (sym e)
