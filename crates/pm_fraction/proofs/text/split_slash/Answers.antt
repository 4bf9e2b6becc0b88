use Rattle.std.proofs.Common.{arith, refl}
use Rattle.std.proofs.lemmas.Str.Pattern.{split_once_first}
use Rattle.pm_fraction.proofs.Digits.{no_slash, some_slash}
use Rattle.pm_fraction.proofs.text.split_slash.Goals as goal

pub returns-in-Some-clause-behind : goal.returns-in-Some-clause-behind
returns-in-Some-clause-behind c =
    let h = split_once_first 47 c.args.text.now c.split_once.result c.split_once.ensures.cases (omega arith) in
    let parts = rw c.in-Some.is at h in
    rw (some_slash c.args.text.now parts.0) parts.2

pub returns-in-None-clause-behind : goal.returns-in-None-clause-behind
returns-in-None-clause-behind c =
    let h = split_once_first 47 c.args.text.now c.split_once.result c.split_once.ensures.cases (omega arith) in
    let none = rw c.in-None.is at h in
    rw (no_slash c.args.text.now none) refl
