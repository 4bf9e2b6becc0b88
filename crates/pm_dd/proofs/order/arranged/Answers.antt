use Rattle.pm_dd.proofs.LeadingLaws.{arrangement, rest_of}
use Rattle.pm_dd.proofs.Marks.{marked_lengths}
use Rattle.pm_dd.proofs.order.arranged.Goals as goal
use Rattle.pm_dd.specs.Arrangement.{Leads}
use Rattle.pm_geom.specs.StatedOrder.{rows_marked}
use Rattle.std.proofs.Common.{ap, arith, drop, false, length, true, ◌*◌, ◌++◌, ◌≡◌, ◌∙◌}
use Rattle.std.proofs.lemmas.List.{length-append, length-drop}

pub returns-clause-arranged : goal.returns-clause-arranged
returns-clause-arranged c =
    let whole = c.in_ok-equations.equations.ok.0 in
    let counted = c.len-lead.ensures in
    let lead : c.len-lead.result ≡ length c.in_ok-equations.equations.items = omega arith in
    let one : c.in_ok-first.first.items ≡ rows_marked true (drop (2 * length c.in_ok-equations.equations.items) c.in_ok-marks.marks.items) (drop (2 * length c.in_ok-equations.equations.items) c.args.rows.now) =
    rw (c.deref-2.ensures.value, c.new.ensures.items, lead, rest_of c.in_ok-marks.marks.items (2 * length c.in_ok-equations.equations.items), rest_of c.args.rows.now (2 * length c.in_ok-equations.equations.items)) at c.in_ok-first.ensures in
    let two : c.in_ok-ordered.ordered.items ≡ rows_marked true (drop (2 * length c.in_ok-equations.equations.items) c.in_ok-marks.marks.items) (drop (2 * length c.in_ok-equations.equations.items) c.args.rows.now) ++ rows_marked false (drop (2 * length c.in_ok-equations.equations.items) c.in_ok-marks.marks.items) (drop (2 * length c.in_ok-equations.equations.items) c.args.rows.now) =
    rw (c.deref-3.ensures.value, one, lead, rest_of c.in_ok-marks.marks.items (2 * length c.in_ok-equations.equations.items), rest_of c.args.rows.now (2 * length c.in_ok-equations.equations.items)) at c.in_ok-ordered.ensures in
    let many : c.len-start.result ≡ length (rows_marked true (drop (2 * length c.in_ok-equations.equations.items) c.in_ok-marks.marks.items) (drop (2 * length c.in_ok-equations.equations.items) c.args.rows.now)) = (let w = c.in_ok-first.first.ok.0 in let n = c.len-start.ensures in let k = ap length one in omega arith) in
    let leads : Leads c.args.rows.now c.in_ok-marks.marks.items c.in_ok-equations.equations.items = rw c.deref.ensures.value at c.in_ok-equations.ensures in
    rw (two, many) (arrangement c.args.rows.now c.in_ok-marks.marks.items c.in_ok-equations.equations.items c.in_ok-marks.ensures.marks leads)

pub returns-clause-few_rows : goal.returns-clause-few_rows
returns-clause-few_rows c =
    let whole = c.in_ok-equations.equations.ok.0 in
    let counted = c.len-lead.ensures in
    let lead : c.len-lead.result ≡ length c.in_ok-equations.equations.items = omega arith in
    let one : c.in_ok-first.first.items ≡ rows_marked true (drop (2 * length c.in_ok-equations.equations.items) c.in_ok-marks.marks.items) (drop (2 * length c.in_ok-equations.equations.items) c.args.rows.now) =
    rw (c.deref-2.ensures.value, c.new.ensures.items, lead, rest_of c.in_ok-marks.marks.items (2 * length c.in_ok-equations.equations.items), rest_of c.args.rows.now (2 * length c.in_ok-equations.equations.items)) at c.in_ok-first.ensures in
    let two : c.in_ok-ordered.ordered.items ≡ rows_marked true (drop (2 * length c.in_ok-equations.equations.items) c.in_ok-marks.marks.items) (drop (2 * length c.in_ok-equations.equations.items) c.args.rows.now) ++ rows_marked false (drop (2 * length c.in_ok-equations.equations.items) c.in_ok-marks.marks.items) (drop (2 * length c.in_ok-equations.equations.items) c.args.rows.now) =
    rw (c.deref-3.ensures.value, one, lead, rest_of c.in_ok-marks.marks.items (2 * length c.in_ok-equations.equations.items), rest_of c.args.rows.now (2 * length c.in_ok-equations.equations.items)) at c.in_ok-ordered.ensures in
    let leads : Leads c.args.rows.now c.in_ok-marks.marks.items c.in_ok-equations.equations.items = rw c.deref.ensures.value at c.in_ok-equations.ensures in
    let within = leads.within in
    let n = c.in_ok-marks.ensures.marks.as_many in
    let dm = length-drop (2 * length c.in_ok-equations.equations.items) c.in_ok-marks.marks.items in
    let dr = length-drop (2 * length c.in_ok-equations.equations.items) c.args.rows.now in
    let m = marked_lengths (drop (2 * length c.in_ok-equations.equations.items) c.in_ok-marks.marks.items) (drop (2 * length c.in_ok-equations.equations.items) c.args.rows.now) (omega arith) in
    let l = ap length two ∙ length-append (rows_marked true (drop (2 * length c.in_ok-equations.equations.items) c.in_ok-marks.marks.items) (drop (2 * length c.in_ok-equations.equations.items) c.args.rows.now)) (rows_marked false (drop (2 * length c.in_ok-equations.equations.items) c.in_ok-marks.marks.items) (drop (2 * length c.in_ok-equations.equations.items) c.args.rows.now)) in
    omega arith
