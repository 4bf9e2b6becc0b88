use Rattle.std.proofs.Common.{arith, inl, inr, length, refl, subst, sym, true≢false, ◌≤◌, ◌<◌, ◌/◌}
use Rattle.std.specs.Prelude.{AllPairs}
use Rattle.pm_rules.specs.Certificates.{HasRow, IsTableRowBefore}
use Rattle.pm_weights.specs.Weights.{plus}
use Rattle.pm_cert.proofs.Ordered.{front_in_order, none_outside, not_zero, row_of_a_part, row_of_front}
use Rattle.pm_cert.proofs.halving.+has_row_in_order.Goals as goal

pub returns-then-is_outside : goal.returns-then-is_outside
returns-then-is_outside t c = ((λ x. absurd (true≢false (sym x))), (λ h. absurd (none_outside c.args.rows.now c.index-rows-0.result c.index-rows-rows.result c.args.set (plus c.args.cost c.args.weight) c.requires c.index-rows-0.is c.index-rows-rows.is (c.if-is_outside.ensures.0 refl) h)))

pub has_row_in_order-requires-else-has_row_in_order : goal.has_row_in_order-requires-else-has_row_in_order
has_row_in_order-requires-else-has_row_in_order t c =
    let some : 0 < length c.args.rows.now = not_zero (length c.args.rows.now) c.if-is_empty.ensures in
    let shorter : length c.split_at.result.0.now < t = omega (arith, c.split_at.ensures.front_len, c.decreases) in
    (shorter, subst (λ rows. AllPairs IsTableRowBefore rows) (sym c.split_at.ensures.front) (front_in_order c.args.rows.now (length c.args.rows.now / 2) (omega arith) c.requires))

pub returns-else-has_row_in_order : goal.returns-else-has_row_in_order
returns-else-has_row_in_order t c =
    let rows = c.args.rows.now in
    let half = length rows / 2 in
    let low : half ≤ length rows = omega arith in
    let cost = plus c.args.cost c.args.weight in (
      (λ h. row_of_front rows half low c.args.set cost (subst (λ rs. HasRow rs c.args.set cost) c.split_at.ensures.front (c.has_row_in_order-else-has_row_in_order.ensures.0 h))),
      (λ h. elim (row_of_a_part rows half low c.args.set cost h) [
        | inl k ↦ c.has_row_in_order-else-has_row_in_order.ensures.1 (subst (λ rs. HasRow rs c.args.set cost) (sym c.split_at.ensures.front) k)
        | inr k ↦ absurd (true≢false (sym (c.if-has_row_in_order.ensures.1 (subst (λ rs. HasRow rs c.args.set cost) (sym c.split_at.ensures.back) k))))
      ]),
    )
