-- The JSON of evidence nests three levels at most, and has no float.
use Rattle.std.proofs.Common.{refl, ◌≡◌, ◌≤◌, List, None, Option, Some, arith, false, ℕ}
use Rattle.pm_vector.specs.declared.evidence.ElimList.{ElimList}
use Rattle.pm_vector.specs.declared.evidence.ElimList.TheVariants.{Rows, Extended, Without, ExtendedWithout}
use Rattle.pm_files.proofs.Plain.{each_depth, each_whole, edges_depth, edges_whole, set_depth, set_whole}
use Rattle.pm_files.specs.EvidenceJson.{column_json, entry_json, evidence_json, list_json, whole_row_json, whole_rows_json}
use Rattle.pm_geom.specs.declared.evidence.Evidence.{Evidence}
use Rattle.pm_geom.specs.declared.evidence.Evidence.TheVariants.{E1, E2, E3, E4, E5Rays, E5Rows, E5Faces, E5Cells}
use Rattle.pm_vector.specs.Rows.{Row}
use Rattle.serde_json.specs.Data.{depth}
use Rattle.serde_json.specs.Written.{has_float}

-- ---- nesting
whole_row_depth : (row : Row) → depth (whole_row_json row) ≤ 1
whole_row_depth row = let e = each_depth entry_json 0 (λ n. omega arith) row in omega arith

whole_rows_depth : (rows : List Row) → depth (whole_rows_json rows) ≤ 2
whole_rows_depth rows = let e = each_depth whole_row_json 1 whole_row_depth rows in omega arith

list_depth : (list : ElimList) → depth (list_json list) ≤ 1
list_depth Rows = omega arith
list_depth Extended = omega arith
list_depth (Without j) = omega arith
list_depth (ExtendedWithout j) = omega arith

column_depth : (column : Option ℕ) → depth (column_json column) ≤ 0
column_depth None = omega arith
column_depth (Some j) = omega arith

pub evidence_depth : (e : Evidence) → depth (evidence_json e) ≤ 3
evidence_depth (E1 step) = let b = whole_rows_depth step.basis in let l = list_depth step.list in let p = whole_row_depth step.part in omega arith
evidence_depth (E2 front first second column) = let c = column_depth column in let f = whole_row_depth first in let s = whole_row_depth second in omega arith
evidence_depth (E3 basis enter leave row column) = let b = set_depth basis in omega arith
evidence_depth (E4 first second) = let f = whole_row_depth first in let s = whole_row_depth second in omega arith
evidence_depth (E5Rays front rays) = let r = whole_rows_depth rays in omega arith
evidence_depth (E5Rows rows) = let r = set_depth rows in omega arith
evidence_depth (E5Faces faces) = let f = edges_depth faces in omega arith
evidence_depth (E5Cells front cells) = let f = edges_depth cells in omega arith

-- ---- floats
whole_row_whole : (row : Row) → has_float (whole_row_json row) ≡ false
whole_row_whole row = each_whole entry_json (λ n. refl) row

whole_rows_whole : (rows : List Row) → has_float (whole_rows_json rows) ≡ false
whole_rows_whole rows = each_whole whole_row_json whole_row_whole rows

list_whole : (list : ElimList) → has_float (list_json list) ≡ false
list_whole Rows = refl
list_whole Extended = refl
list_whole (Without j) = refl
list_whole (ExtendedWithout j) = refl

column_whole : (column : Option ℕ) → has_float (column_json column) ≡ false
column_whole None = refl
column_whole (Some j) = refl

pub evidence_whole : (e : Evidence) → has_float (evidence_json e) ≡ false
evidence_whole (E1 step) = rw (whole_rows_whole step.basis, list_whole step.list, whole_row_whole step.part) refl
evidence_whole (E2 front first second column) = rw (column_whole column, whole_row_whole first, whole_row_whole second) refl
evidence_whole (E3 basis enter leave row column) = rw (set_whole basis) refl
evidence_whole (E4 first second) = rw (whole_row_whole first, whole_row_whole second) refl
evidence_whole (E5Rays front rays) = rw (whole_rows_whole rays) refl
evidence_whole (E5Rows rows) = rw (set_whole rows) refl
evidence_whole (E5Faces faces) = rw (edges_whole faces) refl
evidence_whole (E5Cells front cells) = rw (edges_whole cells) refl
