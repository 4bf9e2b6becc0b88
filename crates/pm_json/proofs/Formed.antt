-- What is read has the form of its property.
use Rattle.std.proofs.Common.{ap, subst, ◌∙◌, ◌≡◌, ◌≤◌, true, Ok, ℕ, List, length, [], ◌∷◌, ◌&&◌}
use Rattle.pm_vector.specs.Numbers.{Ratio}
use Rattle.serde_json.specs.Data.{Data}
use Rattle.pm_types.specs.Forms.{is_formed, is_matrix_form, is_sets_form}
use Rattle.pm_props.specs.Properties.{is_of_matrices, is_of_sets, value_kind}
use Rattle.pm_props.specs.declared.property.ValueKind.TheVariants as kind
use Rattle.pm_fraction.specs.Matrices.{FractionMatrix}
use Rattle.pm_types.specs.Values.{PropertyValue, matrix}
use Rattle.pm_props.specs.declared.property.PropId.{PropId}
use Rattle.pm_props.specs.declared.property.PropId.TheVariants.{F2Vector, LinearObjective, SiteHeights, Sites}
use Rattle.pm_json.proofs.Parts.{and_then-ok, same_Ok}
use Rattle.pm_json.proofs.MatrixLimits.{KeepsLimits, elements_keep_limits, first_row, list_form, matrix_form, objective_form, sites_form, table_form}
use Rattle.pm_json.proofs.SetLimits.{sets_keep_limits}
use Rattle.pm_json.specs.Readings.{and_then, first_row_of, items_of, matrix_from, matrix_of, matrix_reading, one_row_of, sets_from, sets_with, sets_of}
use Rattle.pm_limits.specs.Limits.{most_columns, most_rows, most_site_columns}

matrix_keeps : {P : Type 0} (least most : ℕ) (d : Data) (v : PropertyValue) → matrix_of least most d ≡ Ok v → ((m : FractionMatrix) → KeepsLimits least most m → matrix m.cols m.rows ≡ v → P) → P
matrix_keeps least most d v e k =
    and_then-ok (items_of d) (λ ds. and_then (matrix_from least most ds) (λ m. Ok (matrix m.cols m.rows))) v e
    (λ ds _ f. and_then-ok (matrix_from least most ds) (λ m. Ok (matrix m.cols m.rows)) v f
    (λ m is g. k m (elements_keep_limits least most ds m is) (same_Ok (matrix m.cols m.rows) v g)))

row_keeps : {P : Type 0} (least most : ℕ) (d : Data) (v : PropertyValue) → one_row_of least most d ≡ Ok v → ((r : List Ratio) → (least ≤ length r) × (length r ≤ most) → matrix (length r) (r ∷ []) ≡ v → P) → P
row_keeps least most d v e k =
    and_then-ok (items_of d) (λ ds. and_then (first_row_of least most ds) (λ r. Ok (matrix (length r) (r ∷ [])))) v e
    (λ ds _ f. and_then-ok (first_row_of least most ds) (λ r. Ok (matrix (length r) (r ∷ []))) v f
    (λ r is g. k r (first_row least most ds r is) (same_Ok (matrix (length r) (r ∷ [])) v g)))

pub matrix_formed : (p : PropId) → value_kind p ≡ kind.Mat → (d : Data) (v : PropertyValue) → matrix_reading p d ≡ Ok v → is_formed p v ≡ true
matrix_formed LinearObjective is d v e = row_keeps 1 most_columns d v e (λ r sizes same. subst (λ w. is_formed LinearObjective w ≡ true) same (objective_form r sizes.0 sizes.1))
matrix_formed SiteHeights is d v e = row_keeps 0 most_rows d v e (λ r sizes same. subst (λ w. is_formed SiteHeights w ≡ true) same (list_form r sizes.1))
matrix_formed F2Vector is d v e = matrix_keeps 0 most_columns d v e (λ m kept same. subst (λ w. is_formed F2Vector w ≡ true) same (table_form m kept))
matrix_formed Sites is d v e = matrix_keeps 1 most_site_columns d v e (λ m kept same. subst (λ w. is_formed Sites w ≡ true) same (sites_form m kept))
matrix_formed p is d v e =
    matrix_keeps 1 most_columns d v e (λ m kept same. subst (λ w. is_formed p w ≡ true) same (ap (λ k. is_of_matrices k && is_matrix_form m.cols m.rows) is ∙ matrix_form m kept))

pub sets_formed : (p : PropId) → value_kind p ≡ kind.Sets → (d : Data) (v : PropertyValue) → sets_of d ≡ Ok v → is_formed p v ≡ true
sets_formed p is d v e =
    and_then-ok (items_of d) (λ ds. and_then (sets_from 0 ds) (λ s. sets_with s.rows s.stated)) v e
    (λ ds _ f. and_then-ok (sets_from 0 ds) (λ s. sets_with s.rows s.stated) v f
    (λ s which g. let k = sets_keep_limits ds s v which g in rw k.2 (ap (λ z. is_of_sets z && is_sets_form k.0 k.1) is ∙ k.3)))
