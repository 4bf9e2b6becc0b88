use Rattle.pm_vector.specs.Bases.{row_at}
use Rattle.pm_dd.proofs.LeadingLaws.{leads_more}
use Rattle.pm_dd.proofs.leading.leading_equations.Goals as goal
use Rattle.std.proofs.Common.{ap, arith, length, [], ◌*◌, ◌+◌, ◌<◌, ◌≡◌, ◌∙◌, ℕ}
use Rattle.std.proofs.lemmas.List.{get_or_read, length_push}

pub loop-i-preserved : goal.loop-i-preserved
loop-i-preserved c =
    let within : 2 * c.loop-i.i + 1 < length c.args.rows.now = omega arith in
    let first : 2 * c.loop-i.i < length c.args.rows.now = omega arith in
    let here : c.in_ok-copy.field-0 ≡ row_at c.args.rows.now (2 * c.loop-i.i) = c.in_ok-copy.ensures ∙ get_or_read c.args.rows.now (2 * c.loop-i.i) c.index-rows-i.result first c.index-rows-i.is [] in
    rw (c.in_ok-push.ensures.items, here) (record {
      count = length_push c.loop-i.made.items (row_at c.args.rows.now (2 * c.loop-i.i)) ∙ ap (λ (k : ℕ). k + 1) c.loop-i.invariant.count;
      leads = leads_more c.args.rows.now c.args.marks.now c.loop-i.made.items c.loop-i.i c.loop-i.invariant.count c.loop-i.invariant.leads within c.requires.as_many c.if-not-marks-i.false c.if-marks-i.false (c.requires.opposites c.loop-i.i (omega arith));
    })
