-- Digits that are few are read as the number that they write.
use Rattle.std.proofs.Common.{None, Ok, Some, ap, arith, sym, ◌∙◌, ◌≡◌}
use Rattle.std.proofs.lemmas.Bool.{cond-true}
use Rattle.std.proofs.lemmas.Fmt.{parse-decimal}
use Rattle.std.specs.Result.{result_ok}
use Rattle.std.specs.Str.Parse.{digits_value}
use Rattle.pm_command.proofs.Numbers.{number_below, number_word, number_written}
use Rattle.pm_command.specs.Words.{is_number_word}
use Rattle.pm_command.proofs.building.read_number.Goals as goal

pub returns-then-is_number_word : goal.returns-then-is_number_word
returns-then-is_number_word c =
    let is = sym c.is_number_word.ensures ∙ c.if-is_number_word.true in
    let w = number_word c.args.word.now is in
    let below = number_below c.args.word.now w in
    let read : c.parse.result ≡ Ok (digits_value 10 c.args.word.now) =
    parse-decimal 32 (digits_value 10 c.args.word.now) c.args.word.now c.parse.result (omega arith) (omega arith) (sym (number_written c.args.word.now w)) c.parse.ensures.value.0 in
    c.ok.ensures.value ∙ ap result_ok read ∙ sym (cond-true (is_number_word c.args.word.now) (Some (digits_value 10 c.args.word.now)) None is)
