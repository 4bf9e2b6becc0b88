use Rattle.std.proofs.Common.{sym, ◌∙◌, ◌≡◌, string_bytes, Some}
use Rattle.std.proofs.lemmas.Result.{err_from_is_err_and}
use Rattle.pm_command.specs.Commands.{ref_of, property_of, json_of, seen_ref}
use Rattle.pm_command.specs.Words.{first_word, rest}
use Rattle.pm_command.proofs.Commands.{of_three-some, of_three-no_property, of_three-no_json}
use Rattle.pm_command.proofs.command.read_take.Goals as goal

pub returns-in_err-prop-clause-refused : goal.returns-in_err-prop-clause-refused
returns-in_err-prop-clause-refused c =
    let p = err_from_is_err_and c.from_residual-in_err-prop.result c.from_residual-in_err-prop.ensures.1 in
    rw p.1 (λ e. of_three-no_property (ref_of (first_word c.args.words.now)) (property_of (first_word (rest c.args.words.now))) (json_of (rest (rest c.args.words.now)))
    (rw (c.split_word-2.ensures.word, c.split_word.ensures.rest) at (c.in_err-prop.ensures.refused (sym p.2 ∙ e))))

pub returns-in_err-json-clause-refused : goal.returns-in_err-json-clause-refused
returns-in_err-json-clause-refused c =
    let p = err_from_is_err_and c.from_residual-in_err-json.result c.from_residual-in_err-json.ensures.1 in
    rw p.1 (λ e. of_three-no_json (ref_of (first_word c.args.words.now)) (property_of (first_word (rest c.args.words.now))) (json_of (rest (rest c.args.words.now)))
    (rw (c.split_word-2.ensures.rest, c.split_word.ensures.rest) at (c.in_err-json.ensures.refused (sym p.2 ∙ e))))

pub returns-clause-ok : goal.returns-clause-ok
returns-clause-ok c =
    let obj : ref_of (first_word c.args.words.now) ≡ Some (seen_ref c.in_ok-obj.obj) = rw c.split_word.ensures.word at c.in_ok-obj.ensures.ok in
    let prop : property_of (first_word (rest c.args.words.now)) ≡ Some (string_bytes c.in_ok-prop.prop) = rw (c.split_word-2.ensures.word, c.split_word.ensures.rest) at c.in_ok-prop.ensures.ok in
    let json : json_of (rest (rest c.args.words.now)) ≡ Some (string_bytes c.in_ok-json.json) = rw (c.split_word-2.ensures.rest, c.split_word.ensures.rest) at c.in_ok-json.ensures.ok in
    of_three-some (seen_ref c.in_ok-obj.obj) (string_bytes c.in_ok-prop.prop) (string_bytes c.in_ok-json.json) (ref_of (first_word c.args.words.now)) (property_of (first_word (rest c.args.words.now))) (json_of (rest (rest c.args.words.now))) obj prop json
