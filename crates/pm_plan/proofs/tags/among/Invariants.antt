use Rattle.std.proofs.Common.{◌≡◌, drop, fold, filter}
use Rattle.pm_props.specs.Sets.{only, union, set_of}
use Rattle.pm_rules.specs.Steps.{tag_test}
use Rattle.pm_plan.proofs.tags.among.Given as goal

-- with what the rest of the list adds to it, the set is that of the whole list
abbrev pub invariant-loop-p : goal.invariant-loop-p
invariant-loop-p l =
    let test = tag_test l.tag in
    fold (λ s p. union s (only p)) l.set (filter test (drop l.p-index l.list)) ≡ set_of (filter test l.list)
