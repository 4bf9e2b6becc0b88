-- The JSON of a value has no float, so its text is the compact one, and it is shallow enough to be read again.
use Rattle.pm_files.proofs.Plain.{value_depth, value_whole}
use Rattle.pm_files.proofs.text.json_text.Goals as goal
use Rattle.pm_types.specs.Views.{view_of}
use Rattle.serde_json.specs.Data.{depth}
use Rattle.serde_json.specs.Read.{max_depth}
use Rattle.serde_json.specs.View.{view}
use Rattle.serde_json.specs.Written.{compact_text, has_float}
use Rattle.std.proofs.Common.{Some, ap, arith, false, ◌∙◌, ◌≡◌, ◌≤◌}

pub returns-clause-text : goal.returns-clause-text
returns-clause-text c =
    let whole : has_float (view c.in_ok-json.json) ≡ false = ap has_float c.in_ok-json.ensures ∙ value_whole c.args.p (view_of c.args.v.now) in
    c.in_ok-text.ensures.text whole ∙ ap compact_text c.in_ok-json.ensures

pub returns-clause-reads_back : goal.returns-clause-reads_back
returns-clause-reads_back c =
    let few = value_depth c.args.p (view_of c.args.v.now) in
    let same = ap depth c.in_ok-json.ensures in
    let shallow : depth (view c.in_ok-json.json) ≤ max_depth = omega arith in
    c.in_ok-text.ensures.reads_back shallow ∙ ap (λ d. Some d) c.in_ok-json.ensures
