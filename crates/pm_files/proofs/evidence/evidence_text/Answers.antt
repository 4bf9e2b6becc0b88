-- The JSON of evidence has no float, so its text is the compact one, and it is shallow enough to be read again.
use Rattle.pm_files.proofs.PlainEvidence.{evidence_depth, evidence_whole}
use Rattle.pm_files.proofs.evidence.evidence_text.Goals as goal
use Rattle.serde_json.specs.Data.{depth}
use Rattle.serde_json.specs.Read.{max_depth}
use Rattle.serde_json.specs.View.{view}
use Rattle.serde_json.specs.Written.{compact_text, has_float}
use Rattle.std.proofs.Common.{Some, ap, arith, false, ◌∙◌, ◌≡◌, ◌≤◌}

pub returns-clause-text : goal.returns-clause-text
returns-clause-text c =
    let whole : has_float (view c.in_ok-json.json) ≡ false = ap has_float c.in_ok-json.ensures ∙ evidence_whole c.args.e.now in
    c.in_ok-text.ensures.text whole ∙ ap compact_text c.in_ok-json.ensures

pub returns-clause-reads_back : goal.returns-clause-reads_back
returns-clause-reads_back c =
    let few = evidence_depth c.args.e.now in
    let same = ap depth c.in_ok-json.ensures in
    let shallow : depth (view c.in_ok-json.json) ≤ max_depth = omega arith in
    c.in_ok-text.ensures.reads_back shallow ∙ ap (λ d. Some d) c.in_ok-json.ensures
