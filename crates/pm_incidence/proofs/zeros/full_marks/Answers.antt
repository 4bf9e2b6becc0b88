use Rattle.pm_dd.specs.Tables.{zero_set}
use Rattle.pm_incidence.proofs.Appended.{appended, length_more}
use Rattle.pm_incidence.proofs.Thinning.{full_from_subset, subset_from_full}
use Rattle.pm_incidence.proofs.zeros.full_marks.Goals as goal
use Rattle.pm_incidence.specs.Thinning.{IsFull}
use Rattle.std.proofs.Common.{Bool, IsTrue, arith, false, length, sym, ℕ, ◌∙◌, ◌≡◌}

pub loop-k-preserved : goal.loop-k-preserved
loop-k-preserved c =
    let full = c.in_ok-full.ensures in
    let z = c.row.ensures in
    let b = c.contains.ensures in
    let P : ℕ → Bool → Type 0 = λ i t. (IsTrue t → IsFull (zero_set c.args.zeros.now.rows i)) × (IsFull (zero_set c.args.zeros.now.rows i) → IsTrue t) in
    let zero = zero_set c.args.zeros.now.rows c.loop-k.k in
    let whole : length zero ≡ c.row_len.result = rw z.value at z.len ∙ sym c.row_len.ensures in
    let here : P c.loop-k.k c.contains.result = (
      λ t. full_from_subset c.in_ok-full.full zero (λ i l. full.full i (let e = whole in omega arith)) (rw z.value at (b.0 t)),
      λ f. b.1 (rw z.value (subset_from_full c.in_ok-full.full zero (full.len ∙ sym whole) f)),
    ) in
    let all = appended P false c.loop-k.marks.items c.push.new.self.items c.contains.result c.loop-k.k c.loop-k.invariant.many c.in_ok-push.ensures.items (λ i l. (c.loop-k.invariant.full i l, c.loop-k.invariant.marked i l)) here in
    record {
      many = length_more c.loop-k.marks.items c.push.new.self.items c.contains.result c.loop-k.k c.loop-k.invariant.many c.in_ok-push.ensures.items;
      full = λ p l. (all p l).0;
      marked = λ p l. (all p l).1;
    }
