use Rattle.std.proofs.Common.{◌≡◌, ℕ, true, false, rules, tests}
use Rattle.std.specs.Prelude.{◌==◌}
use Rattle.std.proofs.lemmas.Iterator.{YieldsList-from_slice, cases_from_any}
use Rattle.pm_json.proofs.SetTurns.{any_from_cases}
use Rattle.pm_json.proofs.sets.has_index.Goals as goal

pub returns : goal.returns
returns c =
    let same = λ (k : ℕ). k == c.args.j in
    any_from_cases same c.args.set.now c.any.result
    (cases_from_any _ _ _ (λ k. same k ≡ true) (λ k. same k ≡ false) c.any.ensures.ran (YieldsList-from_slice c.args.set.now c.iter.ensures.rest)
    (λ x q k. search (rules, tests)) (λ x q k. search (rules, tests)))
