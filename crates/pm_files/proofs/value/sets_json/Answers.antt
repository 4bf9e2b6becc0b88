-- The sets, and their column count behind them.
use Rattle.std.proofs.Common.{[], ap, ap₂, map, ◌++◌, ◌∙◌, ◌∷◌}
use Rattle.std.proofs.lemmas.List.{map-append}
use Rattle.serde_json.specs.View.{view}
use Rattle.pm_files.proofs.Lists.{array_is}
use Rattle.pm_files.specs.ValueJson.{cols_json, set_json}
use Rattle.pm_files.proofs.value.sets_json.Goals as goal

pub returns : goal.returns
returns c =
    array_is c.push.new.self (map set_json c.args.sets.now.rows ++ cols_json c.args.sets.now.cols ∷ [])
    (ap (map view) c.in_ok-push.ensures.items
    ∙ map-append view c.in_ok-rows.rows.items (c.in_ok-cols_json.field-0 ∷ [])
    ∙ ap₂ (λ ds d. ds ++ d ∷ []) (c.in_ok-rows.ensures ∙ ap (map set_json) c.rows.ensures) (c.in_ok-cols_json.ensures ∙ ap cols_json c.cols.ensures))
