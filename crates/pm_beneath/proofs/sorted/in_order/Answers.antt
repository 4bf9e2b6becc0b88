use Rattle.pm_beneath.proofs.SortedLaws.{as_many, ordered_once, same_once}
use Rattle.pm_beneath.proofs.sorted.in_order.Goals as goal
use Rattle.std.proofs.Common.{arith}
use Rattle.std.proofs.lemmas.List.Filters.{dedup_is}
use Rattle.std.proofs.lemmas.List.Sorted.{length_permutation}

pub returns-clause-same : goal.returns-clause-same
returns-clause-same c = rw (dedup_is _ _ _ c.dedup.ensures.filtered) (same_once (λ s. s.items) c.args.sets.items c.sort.new.self.items c.in_ok-sort.ensures.permutation)

pub returns-clause-ordered : goal.returns-clause-ordered
returns-clause-ordered c = rw (dedup_is _ _ _ c.dedup.ensures.filtered) (ordered_once (λ s. s.items) c.sort.new.self.items c.in_ok-sort.ensures.sorted)

pub returns-clause-few : goal.returns-clause-few
returns-clause-few c =
    let e = length_permutation c.args.sets.items c.sort.new.self.items c.in_ok-sort.ensures.permutation in
    let b = c.dedup.ensures.bound in
    let o = c.sort.new.self.ok.0 in
    let n = c.dedup.new.self.ok.0 in
    omega arith

pub returns-clause-as_many : goal.returns-clause-as_many
returns-clause-as_many c = λ h. rw (dedup_is _ _ _ c.dedup.ensures.filtered) (as_many (λ s. s.items) c.args.sets.items c.sort.new.self.items c.in_ok-sort.ensures.permutation h)
