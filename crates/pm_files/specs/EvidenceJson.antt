-- Evidence as JSON: an object of plain keys, in the order of the alphabet. Whole numbers of rows are texts, as those
-- of data files are; places, columns and counts are numbers, and count from 0.
use Rattle.std.specs.Fmt.{signed_decimal}
use Rattle.pm_vector.specs.declared.evidence.ElimList.{ElimList}
use Rattle.pm_vector.specs.declared.evidence.ElimList.TheVariants.{Rows, Extended, Without, ExtendedWithout}
use Rattle.pm_files.specs.ValueJson.{array_of, edges_json, index_json, set_json}
use Rattle.pm_geom.specs.declared.evidence.Evidence.{Evidence}
use Rattle.pm_geom.specs.declared.evidence.Evidence.TheVariants.{E1, E2, E3, E4, E5Rays, E5Rows, E5Faces, E5Cells}
use Rattle.pm_vector.specs.Rows.{Row}
use Rattle.serde_json.specs.Data.{Data, member, no_members, null, object, string}
use Rattle.serde_json.specs.Written.{compact_text}
use Rattle.std.specs.Prelude.{List, None, Option, Some, codes, map, ℕ}
use lib.IntN.{ℤ}

abbrev pub entry_json : ℤ → Data
entry_json n = string (signed_decimal n)

abbrev pub whole_row_json : Row → Data
whole_row_json row = array_of (map entry_json row)

abbrev pub whole_rows_json : List Row → Data
whole_rows_json rows = array_of (map whole_row_json rows)

-- which list was eliminated
abbrev pub list_json : ElimList → Data
list_json Rows = string (codes "rows")
list_json Extended = string (codes "extended")
list_json (Without j) = object (member (codes "without") (index_json j) no_members)
list_json (ExtendedWithout j) = object (member (codes "extended_without") (index_json j) no_members)

abbrev pub column_json : Option ℕ → Data
column_json None = null
column_json (Some j) = index_json j

-- the members of each kind
abbrev pub evidence_json : Evidence → Data
evidence_json (E1 step) =
    object (member (codes "basis") (whole_rows_json step.basis)
    (member (codes "by") (index_json step.by) (member (codes "column") (index_json step.column)
    (member (codes "front") (index_json step.front)
    (member (codes "list") (list_json step.list)
    (member (codes "part") (whole_row_json step.part) no_members))))))
evidence_json (E2 front first second column) =
    object (member (codes "column") (column_json column) (member (codes "first") (whole_row_json first)
    (member (codes "front") (index_json front)
    (member (codes "second") (whole_row_json second) no_members))))
evidence_json (E3 basis enter leave row column) =
    object (member (codes "basis") (set_json basis)
    (member (codes "column") (index_json column) (member (codes "enter") (index_json enter)
    (member (codes "leave") (index_json leave) (member (codes "row") (index_json row) no_members)))))
evidence_json (E4 first second) =
    object (member (codes "first") (whole_row_json first)
    (member (codes "second") (whole_row_json second) no_members))
evidence_json (E5Rays front rays) =
    object (member (codes "front") (index_json front)
    (member (codes "rays") (whole_rows_json rays) no_members))
evidence_json (E5Rows rows) = object (member (codes "places") (set_json rows) no_members)
evidence_json (E5Faces faces) = object (member (codes "faces") (edges_json faces) no_members)
evidence_json (E5Cells front cells) =
    object (member (codes "cells") (edges_json cells) (member (codes "front") (index_json front) no_members))

-- its text, without spaces
abbrev pub evidence_text : Evidence → List ℕ
evidence_text e = compact_text (evidence_json e)
