-- The rows, and the column count where it is not told by them.
use Rattle.std.proofs.Common.{[], ap, ap₂, arith, length, map, sym, ◌++◌, ◌∙◌, ◌∷◌, ◌≡◌, ◌≢◌}
use Rattle.std.proofs.lemmas.List.{map-append}
use Rattle.serde_json.specs.View.{view}
use Rattle.pm_files.proofs.Lists.{array_is, matrix_stated, matrix_told}
use Rattle.pm_files.specs.ValueJson.{cols_json, row_json}
use Rattle.pm_files.proofs.value.matrix_json.Goals as goal
use Rattle.pm_files.proofs.value.matrix_json.Goals.{then-rows-eq0+then-cols-ne0+in_ok-cols_json+in_ok-push, else-rows-eq0, else-rows-eq0-via-then-rows-eq0+else-cols-ne0, else-rows-eq0-via-else-rows-eq0}

pub returns : goal.returns
returns c =
    let n = c.args.m.now.cols in
    let rows = c.args.m.now.rows in
    elim c.if-rows-eq0.branch [
      | then-rows-eq0+then-cols-ne0+in_ok-cols_json+in_ok-push w ↦
          let empty : length rows ≡ 0 = omega (arith, c.rows.ensures.value, w.if-rows-eq0.true) in
          let some : n ≢ 0 = rw (w.cols.ensures.value) at w.if-cols-ne0.true in
          array_is c.if-rows-eq0.rows (map row_json rows ++ cols_json n ∷ [])
          (ap (λ v. map view v.items) w.rows-is
          ∙ ap (map view) w.in_ok-push.ensures.items
          ∙ map-append view c.in_ok-rows.rows.items (w.in_ok-cols_json.field-0 ∷ [])
          ∙ ap₂ (λ ds d. ds ++ d ∷ []) c.in_ok-rows.ensures (w.in_ok-cols_json.ensures ∙ ap cols_json w.cols-then-cols-ne0.ensures.value))
          ∙ sym (matrix_stated n rows empty some)
      | else-rows-eq0 w ↦
          let told : length rows ≡ 0 → n ≡ 0 = elim w.else-rows-eq0.branch [
            | else-rows-eq0-via-then-rows-eq0+else-cols-ne0 v ↦ λ e. omega (arith, v.cols.ensures.value, v.if-cols-ne0.false)
            | else-rows-eq0-via-else-rows-eq0 v ↦ λ e. absurd (omega (arith, c.rows.ensures.value, v.if-rows-eq0.false))
          ] in
          array_is c.if-rows-eq0.rows (map row_json rows) (ap (λ v. map view v.items) w.rows-is ∙ c.in_ok-rows.ensures)
          ∙ sym (matrix_told n rows told)
    ]
