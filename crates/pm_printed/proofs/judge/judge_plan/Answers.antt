use Rattle.std.proofs.Common.{refl}
use Rattle.pm_rules.specs.declared.table.Claim.TheVariants.{Least}
use Rattle.pm_printed.specs.Judging.{FallsAt, StopsAt}
use Rattle.pm_printed.specs.Judging.IsFaultOfPlan.{rule, row}
use Rattle.pm_printed.proofs.Chains.{whole_chain}
use Rattle.pm_printed.proofs.Verdicts.{none_where_chain_stops, none_where_row_falls, proves_where_all_stand}
use Rattle.pm_printed.proofs.judge.judge_plan.Goals as goal

pub returns-then-enabled-chain : goal.returns-then-enabled-chain
returns-then-enabled-chain c =
    let k = c.followed-enabled.result in
    let part = rw c.deref.ensures.value at c.followed-enabled.ensures in
    let stands = c.head_stands.ensures.0 c.if-not-head_stands.false in
    let stops : StopsAt c.args.rules.now c.args.q.now c.args.chain.now k = record { within = c.if-enabled-chain.true; before = part.before; next = part.next c.if-enabled-chain.true } in
    (rule k refl stands stops, none_where_chain_stops c.args.rules.now c.args.q.now c.args.weight c.args.chain.now c.args.rows.now k stops)

pub returns-then-standing-rows : goal.returns-then-standing-rows
returns-then-standing-rows c =
    let q = c.args.q.now in
    let k = c.standing_rows-standing.result in
    let part = rw c.deref.ensures.value at c.followed-enabled.ensures in
    let table = rw c.deref-2.ensures.value at c.standing_rows-standing.ensures in
    let stands = c.head_stands.ensures.0 c.if-not-head_stands.false in
    let follows = whole_chain c.args.rules.now q.names q.barred.items q.held c.followed-enabled.result c.args.chain.now c.if-enabled-chain.false part.before in
    let falls : FallsAt c.args.rules.now q q.barred.items (Least c.args.weight) c.args.rows.now k = record { within = c.if-standing-rows.true; before = table.stand; next = table.first } in
    (row k refl stands follows falls, λ h. none_where_row_falls c.args.rules.now q q.barred.items (Least c.args.weight) c.args.rows.now k falls h.certificate)

pub returns : goal.returns
returns c =
    let q = c.args.q.now in
    let part = rw c.deref.ensures.value at c.followed-enabled.ensures in
    let table = rw c.deref-2.ensures.value at c.standing_rows-standing.ensures in
    let stands = c.head_stands.ensures.0 c.if-not-head_stands.false in
    let follows = whole_chain c.args.rules.now q.names q.barred.items q.held c.followed-enabled.result c.args.chain.now c.if-enabled-chain.false part.before in
    (refl, proves_where_all_stand c.args.rules.now q c.args.weight c.args.chain.now c.args.rows.now c.standing_rows-standing.result stands follows c.if-standing-rows.false table.stand)
