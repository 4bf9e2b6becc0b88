use Rattle.std.proofs.Common.{◌∙◌, ap, map, string_bytes, sym}
use Rattle.std.specs.Option.{option_map}
use Rattle.pm_check.proofs.Cuts.{asked_some}
use Rattle.pm_check.specs.Words.{with_asked}
use Rattle.pm_check.proofs.words.with_asked.Goals as goal

-- what is said with these names
pub returns : goal.returns
returns c =
    let book = option_map (λ name. name.now) c.args.book in
    let held = map string_bytes c.args.held.now in
    asked_some string_bytes c.args.program book c.args.of held c.asked_and_barred.result.0.now (map string_bytes c.asked_and_barred.result.1.now) (sym c.is_empty.ensures ∙ c.if-is_empty.false)
    ∙ ap (with_asked c.args.program book c.args.of held) c.asked_and_barred.ensures
