use Rattle.pm_plan.proofs.Planning.{moves_weighed, plan_right, no_plan_right, goal_goes_back}
use Rattle.pm_plan.proofs.Crowding.{crowded_right}
use Rattle.pm_plan.proofs.planner.plan_by_rules.Goals as goal

pub explore-requires : goal.explore-requires
explore-requires c =
    rw c.as_slice.ensures.value (moves_weighed c.args.rules.now c.args.names c.args.barred.now c.args.asked c.in_ok-moves.moves.items c.in_ok-moves.ensures c.requires.weights)

pub returns-then-not-whole-clause-why : goal.returns-then-not-whole-clause-why
returns-then-not-whole-clause-why c =
    let moves = c.in_ok-moves.moves.items in
    let weights = moves_weighed c.args.rules.now c.args.names c.args.barred.now c.args.asked moves c.in_ok-moves.ensures c.requires.weights in
    crowded_right c.args.rules.now c.args.names c.args.barred.now c.args.held c.args.asked moves c.in_ok-moves.ensures weights c.in_ok-search.search
    (rw c.as_slice.ensures.value at c.in_ok-search.ensures.explored) (c.in_ok-search.ensures.full c.if-not-whole.true)

pub returns-in-None-clause-why : goal.returns-in-None-clause-why
returns-in-None-clause-why c =
    let moves = c.in_ok-moves.moves.items in
    let weights = moves_weighed c.args.rules.now c.args.names c.args.barred.now c.args.asked moves c.in_ok-moves.ensures c.requires.weights in
    no_plan_right c.args.rules.now c.args.names c.args.barred.now c.args.held c.args.asked moves c.in_ok-moves.ensures weights c.in_ok-search.search
    (rw c.as_slice.ensures.value at c.in_ok-search.ensures.explored) (c.in_ok-search.ensures.done c.if-not-whole.false) c.in-None.is

pub chain_to-requires : goal.chain_to-requires
chain_to-requires c =
    let moves = c.in_ok-moves.moves.items in
    let weights = moves_weighed c.args.rules.now c.args.names c.args.barred.now c.args.asked moves c.in_ok-moves.ensures c.requires.weights in
    rw c.as_slice-in-Some.ensures.value
    (goal_goes_back c.args.rules.now c.args.names c.args.barred.now c.args.held c.args.asked moves c.in_ok-moves.ensures weights c.in_ok-search.search
    (rw c.as_slice.ensures.value at c.in_ok-search.ensures.explored) c.in-Some.goal c.in-Some.is)

pub returns-clause-plan : goal.returns-clause-plan
returns-clause-plan c =
    let moves = c.in_ok-moves.moves.items in
    let weights = moves_weighed c.args.rules.now c.args.names c.args.barred.now c.args.asked moves c.in_ok-moves.ensures c.requires.weights in
    plan_right c.args.rules.now c.args.names c.args.barred.now c.args.held c.args.asked moves c.in_ok-moves.ensures weights c.in_ok-search.search
    (rw c.as_slice.ensures.value at c.in_ok-search.ensures.explored) c.in-Some.goal c.in_ok-chain_to-in-Some.field-0.items (c.in_ok-search.ensures.done c.if-not-whole.false) c.in-Some.is
    (rw c.as_slice-in-Some.ensures.value at c.in_ok-chain_to-in-Some.ensures)
