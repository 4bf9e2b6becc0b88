use Rattle.pm_vector.specs.Rows.{Row}
use Rattle.pm_dd.proofs.LeadingLaws.{rest_of}
use Rattle.pm_dd.proofs.MixedLaws.{same_joined, same_permuted}
use Rattle.pm_dd.proofs.Outcomes.{ok_weaker}
use Rattle.pm_dd.proofs.mixed.ordered.Goals as goal
use Rattle.pm_dd.specs.Mixed.{HaveSameRows}
use Rattle.std.proofs.Common.{drop, subst, take, ◌*◌, ◌++◌, ◌≡◌, ◌∙◌, List}
use Rattle.std.proofs.lemmas.List.{take-append-drop}
use Rattle.std.specs.List.Sorted.{IsPermutation}

pub returns-clause-same : goal.returns-clause-same
returns-clause-same c =
    let sorted : c.in_ok-sorted.sorted.items ≡ drop (2 * c.in_ok-lead.field-0) c.args.rows.now = c.in_ok-sorted.ensures ∙ rest_of c.args.rows.now (2 * c.in_ok-lead.field-0) in
    let moved : IsPermutation (drop (2 * c.in_ok-lead.field-0) c.args.rows.now) c.sort.new.self.items = rw sorted at c.in_ok-sort.ensures.permutation in
    let ends : HaveSameRows c.sort.new.self.items c.in_ok-mixed.mixed.items = c.in_ok-mixed.ensures.same in
    let rest = same_permuted (drop (2 * c.in_ok-lead.field-0) c.args.rows.now) c.sort.new.self.items c.in_ok-mixed.mixed.items moved ends in
    let all : HaveSameRows c.args.rows.now (take (2 * c.in_ok-lead.field-0) c.args.rows.now ++ c.in_ok-mixed.mixed.items) = subst (λ (Z : List Row). HaveSameRows Z (take (2 * c.in_ok-lead.field-0) c.args.rows.now ++ c.in_ok-mixed.mixed.items)) (take-append-drop (2 * c.in_ok-lead.field-0) c.args.rows.now) (same_joined (take (2 * c.in_ok-lead.field-0) c.args.rows.now) (drop (2 * c.in_ok-lead.field-0) c.args.rows.now) c.in_ok-mixed.mixed.items rest) in
    let joined = rw (c.deref.ensures.value, c.in_ok-head.ensures) at c.add_copies.ensures in
    ok_weaker c.add_copies.result _ _ (λ v h. rw h all) joined
