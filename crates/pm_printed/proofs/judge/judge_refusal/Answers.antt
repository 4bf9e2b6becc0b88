use Rattle.std.proofs.Common.{◌+◌, ◌∙◌, ap, map, sym}
use Rattle.std.proofs.lemmas.List.{length-map}
use Rattle.pm_rules.specs.declared.table.Claim.TheVariants.{NoChain}
use Rattle.pm_printed.specs.Judging.{FallsAt, all_barred}
use Rattle.pm_printed.specs.Judging.IsFaultOfRefusal.{row}
use Rattle.pm_printed.specs.Readings.{seen}
use Rattle.pm_printed.proofs.Verdicts.{none_where_row_falls, certificate_where_all_stand}
use Rattle.pm_printed.proofs.judge.judge_refusal.Goals as goal

pub returns-then-standing-rows : goal.returns-then-standing-rows
returns-then-standing-rows c =
    let q = c.args.q.now in
    let barred = all_barred q (map seen c.args.told.now) in
    let k = c.standing_rows-standing.result in
    let is = c.deref.ensures.value ∙ c.in_ok-barred.ensures in
    let table = rw is at c.standing_rows-standing.ensures in
    let falls : FallsAt c.args.rules.now q barred NoChain c.args.rows.now k = record { within = c.if-standing-rows.true; before = table.stand; next = table.first } in
    (row k (ap (λ m. 2 + m + k) (sym (length-map c.args.told.now seen))) (c.has_start.ensures.0 c.if-not-has_start.false tt) falls, none_where_row_falls c.args.rules.now q barred NoChain c.args.rows.now k falls)

pub returns : goal.returns
returns c =
    let q = c.args.q.now in
    let barred = all_barred q (map seen c.args.told.now) in
    let is = c.deref.ensures.value ∙ c.in_ok-barred.ensures in
    let table = rw is at c.standing_rows-standing.ensures in
    certificate_where_all_stand c.args.rules.now q barred NoChain c.args.rows.now c.standing_rows-standing.result (c.has_start.ensures.0 c.if-not-has_start.false) c.if-standing-rows.false table.stand
