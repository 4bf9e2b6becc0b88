-- Nothing of the fraction is escaped.
use Rattle.std.proofs.Common.{rules, string_bytes}
use Rattle.pm_vector.specs.Numbers.{InRangeRatio}
use Rattle.pm_fraction.specs.Text.{text_of}
use Rattle.pm_files.proofs.Compact.{plain_ratio, quoted_behind}
use Rattle.pm_files.proofs.text.push_entry.Goals as goal

pub returns : goal.returns
returns c =
    let range : InRangeRatio c.args.q = search rules in
    rw (plain_ratio c.args.q range) (quoted_behind c.push_str-2.result (string_bytes c.args.text.now) (string_bytes c.push_str.new.self) (string_bytes c.push_ratio.new.text) (string_bytes c.push_str-2.new.self) (text_of c.args.q) (search rules) c.in_ok-push_ratio.ensures c.push_str-2.ensures.bytes)
