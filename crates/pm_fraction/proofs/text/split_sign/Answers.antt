use Rattle.std.proofs.Common.{arith, refl, sym}
use Rattle.std.proofs.lemmas.Str.Pattern.{strip_prefix_char}
use Rattle.std.specs.Prelude.{false, ◌≡◌}
use Rattle.std.specs.Str.Parse.{starts_with_minus}
use Rattle.pm_fraction.proofs.Digits.{no_minus}
use Rattle.pm_fraction.proofs.text.split_sign.Goals as goal
use Rattle.pm_fraction.proofs.text.split_sign.Goals.{In-None}

plain : (c : In-None) → starts_with_minus c.args.text.now ≡ false
plain c =
    let h = strip_prefix_char 45 c.args.text.now c.strip_prefix.result c.strip_prefix.ensures.cases (omega arith) in
    no_minus c.args.text.now (rw c.in-None.is at h)

pub returns-in-None-clause-sign : goal.returns-in-None-clause-sign
returns-in-None-clause-sign c = sym (plain (goal.at.returns-in-None-clause-sign c).In-None)

pub returns-in-None-clause-rest : goal.returns-in-None-clause-rest
returns-in-None-clause-rest c = let e = plain (goal.at.returns-in-None-clause-rest c).In-None in rw e refl
