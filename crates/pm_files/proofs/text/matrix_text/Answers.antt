-- The text is read as the JSON.
use Rattle.std.proofs.Common.{ap, rules, string_bytes, ◌∙◌, ◌≡◌}
use Rattle.serde_json.specs.Read.{read}
use Rattle.serde_json.specs.Written.{compact_text}
use Rattle.pm_files.proofs.Compact.{matrix_is_read}
use Rattle.pm_files.specs.ValueJson.{matrix_json}
use Rattle.pm_files.proofs.text.matrix_text.Goals as goal

pub returns-clause-reads_back : goal.returns-clause-reads_back
returns-clause-reads_back c =
    let same : string_bytes c.push_matrix.new.text ≡ compact_text (matrix_json c.args.m.now.cols c.args.m.now.rows) = search rules in
    ap read same ∙ matrix_is_read c.args.m.now.cols c.args.m.now.rows c.requires
