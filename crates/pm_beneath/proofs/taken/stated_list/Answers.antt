use Rattle.pm_beneath.proofs.LeadLaws.{signs_long}
use Rattle.pm_beneath.proofs.PlaceLost.{elimination_weaker}
use Rattle.pm_beneath.proofs.PlaceOutcomes.{marks_many, stated_made}
use Rattle.pm_beneath.proofs.taken.stated_list.Goals as goal
use Rattle.pm_dd.proofs.LeadingLaws.{rest_of}
use Rattle.pm_dd.specs.Fronts.{both_signs}
use Rattle.pm_vector.specs.Enlarging.{MarkEnlarging}
use Rattle.pm_dd.proofs.HullLaws.{double_list_made, list_cols, list_length}
use Rattle.std.proofs.Common.{ap, arith, inl, inr, length, ◌*◌, ◌++◌, ◌≡◌, ◌≤◌, ◌∙◌}
use Rattle.std.proofs.lemmas.Result.{err_from_is_err_and}

pub enlarging_by-requires-clause-columns : goal.enlarging_by-requires-clause-columns
enlarging_by-requires-clause-columns c =
    let list : c.in_ok-list.list.items ≡ both_signs c.in_ok-basis.basis.items ++ c.args.rays.now = rw (c.in_ok-signs.ensures, c.deref.ensures.value) at c.in_ok-list.ensures in
    let double = double_list_made c.args.cols c.args.lineality.now c.args.rays.now c.in_ok-basis.basis.items c.in_ok-list.list.items c.in_ok-basis.ensures.basis.0 c.in_ok-basis.ensures.basis.1 list in
    rw c.deref-2.ensures.value (list_cols c.args.cols c.args.lineality.now c.args.rays.now c.in_ok-list.list.items double c.requires.ray_cols)

pub enlarging_by-requires-clause-few_rows : goal.enlarging_by-requires-clause-few_rows
enlarging_by-requires-clause-few_rows c =
    let list : c.in_ok-list.list.items ≡ both_signs c.in_ok-basis.basis.items ++ c.args.rays.now = rw (c.in_ok-signs.ensures, c.deref.ensures.value) at c.in_ok-list.ensures in
    let double = double_list_made c.args.cols c.args.lineality.now c.args.rays.now c.in_ok-basis.basis.items c.in_ok-list.list.items c.in_ok-basis.ensures.basis.0 c.in_ok-basis.ensures.basis.1 list in
    let l = list_length c.args.cols c.args.lineality.now c.args.rays.now c.in_ok-list.list.items double in
    rw c.deref-2.ensures.value (omega arith)

pub slice_bounds-in_stated_order-count : goal.slice_bounds-in_stated_order-count
slice_bounds-in_stated_order-count c =
    let list : c.in_ok-list.list.items ≡ both_signs c.in_ok-basis.basis.items ++ c.args.rays.now = rw (c.in_ok-signs.ensures, c.deref.ensures.value) at c.in_ok-list.ensures in
    let marks : MarkEnlarging c.in_ok-list.list.items c.in_ok-marks.marks.items = rw c.deref-2.ensures.value at c.in_ok-marks.ensures.marks in
    let a = marks.as_many in
    let b = ap length list ∙ signs_long c.in_ok-basis.basis.items c.args.rays.now in
    let n = c.len-lead.ensures in
    let o = c.in_ok-basis.basis.ok.0 in
    rw c.deref-3.ensures.value (omega arith)

pub slice_bounds-in_stated_order-start : goal.slice_bounds-in_stated_order-start
slice_bounds-in_stated_order-start c =
    let list : c.in_ok-list.list.items ≡ both_signs c.in_ok-basis.basis.items ++ c.args.rays.now = rw (c.in_ok-signs.ensures, c.deref.ensures.value) at c.in_ok-list.ensures in
    let marks : MarkEnlarging c.in_ok-list.list.items c.in_ok-marks.marks.items = rw c.deref-2.ensures.value at c.in_ok-marks.ensures.marks in
    let a = marks.as_many in
    let b = ap length list ∙ signs_long c.in_ok-basis.basis.items c.args.rays.now in
    let n = c.len-lead.ensures in
    let o = c.in_ok-basis.basis.ok.0 in
    let h : 2 * c.len-lead.result ≤ length c.deref-3.result.now = rw c.deref-3.ensures.value (omega arith) in
    h

pub in_stated_order-requires-clause-as_many : goal.in_stated_order-requires-clause-as_many
in_stated_order-requires-clause-as_many c =
    let list : c.in_ok-list.list.items ≡ both_signs c.in_ok-basis.basis.items ++ c.args.rays.now = rw (c.in_ok-signs.ensures, c.deref.ensures.value) at c.in_ok-list.ensures in
    let marks : MarkEnlarging c.in_ok-list.list.items c.in_ok-marks.marks.items = rw c.deref-2.ensures.value at c.in_ok-marks.ensures.marks in
    let lead : c.len-lead.result ≡ length c.in_ok-basis.basis.items = c.len-lead.ensures ∙ c.in_ok-basis.basis.ok.0 in
    rw (c.deref-3.ensures.value, lead, rest_of c.in_ok-marks.marks.items (2 * length c.in_ok-basis.basis.items)) (marks_many c.in_ok-basis.basis.items c.args.rays.now c.in_ok-list.list.items c.in_ok-marks.marks.items list marks.as_many)

pub returns-clause-stated : goal.returns-clause-stated
returns-clause-stated c =
    let list : c.in_ok-list.list.items ≡ both_signs c.in_ok-basis.basis.items ++ c.args.rays.now = rw (c.in_ok-signs.ensures, c.deref.ensures.value) at c.in_ok-list.ensures in
    let marks : MarkEnlarging c.in_ok-list.list.items c.in_ok-marks.marks.items = rw c.deref-2.ensures.value at c.in_ok-marks.ensures.marks in
    let lead : c.len-lead.result ≡ length c.in_ok-basis.basis.items = c.len-lead.ensures ∙ c.in_ok-basis.basis.ok.0 in
    stated_made c.args.cols c.args.lineality.now c.args.rays.now c.in_ok-basis.basis.items c.in_ok-list.list.items c.in_ok-taken.taken.rows.items c.in_ok-basis.ensures.basis.0 c.in_ok-marks.marks.items c.in_ok-taken.taken.places.items c.in_ok-taken.taken.start c.in_ok-basis.ensures.basis.1 list marks
    (rw (c.deref-3.ensures.value, lead, rest_of c.in_ok-marks.marks.items (2 * length c.in_ok-basis.basis.items)) at c.in_ok-taken.ensures.places)
    (rw (c.deref-3.ensures.value, lead, rest_of c.in_ok-marks.marks.items (2 * length c.in_ok-basis.basis.items)) at c.in_ok-taken.ensures.rows)
    (rw (c.deref-3.ensures.value, lead, rest_of c.in_ok-marks.marks.items (2 * length c.in_ok-basis.basis.items)) at c.in_ok-taken.ensures.start)

pub returns-in_err-marks-clause-lost : goal.returns-in_err-marks-clause-lost
returns-in_err-marks-clause-lost c = λ e.
    let p = err_from_is_err_and c.from_residual-in_err-marks.result c.from_residual-in_err-marks.ensures.1 in
    let list : c.in_ok-list.list.items ≡ both_signs c.in_ok-basis.basis.items ++ c.args.rays.now = rw (c.in_ok-signs.ensures, c.deref.ensures.value) at c.in_ok-list.ensures in
    let double = double_list_made c.args.cols c.args.lineality.now c.args.rays.now c.in_ok-basis.basis.items c.in_ok-list.list.items c.in_ok-basis.ensures.basis.0 c.in_ok-basis.ensures.basis.1 list in
    let lost = rw c.deref-2.ensures.value at (c.in_err-marks.ensures.lost e) in
    rw (p.1, p.2) (elimination_weaker c.in_err-marks.field-0.0 _ _ (λ h. inr (c.in_ok-list.list.items, double, inl h)) lost)
