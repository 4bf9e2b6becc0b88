use Rattle.std.proofs.Common.{◌≡◌, ◌<◌, Some, length, refl, arith}
use Rattle.std.specs.Prelude.{slice_get}
use Rattle.std.proofs.lemmas.Option.{slice_get_read, slice_get_within}
use Rattle.std.proofs.lemmas.Bool.{iff_false}
use Rattle.std.proofs.lemmas.List.Elements.{All-push, All-nil}
use Rattle.pm_plan.specs.Moves.{IsMove, move_of}
use Rattle.pm_plan.proofs.Collected.{is_move, first_push, first_same}
use Rattle.pm_plan.proofs.moves.moves.Goals as goal
use Rattle.pm_plan.proofs.moves.moves.Goals.{then-finds_one+in_ok-push, else-finds_one}

pub loop-i-init : goal.loop-i-init
loop-i-init c = rw c.new-moves.ensures.items (record {
  each = All-nil (IsMove c.args.rules.now c.args.names c.args.barred.now c.args.asked);
  whole = λ id rule low e useful. absurd (omega arith);
})

pub loop-i-preserved : goal.loop-i-preserved
loop-i-preserved c =
    let rules = c.args.rules.now in
    let item = c.index-rules-i.result in
    let moves = c.loop-i.moves.items in
    let there : slice_get rules c.loop-i.i ≡ Some item = slice_get_read rules (length rules) c.loop-i.i item refl (omega arith) c.index-rules-i.is in
    elim c.if-finds_one.branch [
      | then-finds_one+in_ok-push w ↦ rw (w.moves-is, w.in_ok-push.ensures.items, w.step.ensures) (record {
        each = All-push (IsMove rules c.args.names c.args.barred.now c.args.asked) moves (move_of (record { 0 = c.loop-i.i }) item) c.loop-i.invariant.each
            (is_move rules c.args.names c.args.barred.now c.args.asked c.needed-needed.result c.needed-needed.ensures c.loop-i.i item there (c.finds_one.ensures.0 w.if-finds_one.true));
        whole = first_push rules c.args.names c.args.barred.now c.args.asked c.needed-needed.result c.needed-needed.ensures c.loop-i.i item moves there c.loop-i.invariant.whole;
      })
      | else-finds_one w ↦ rw w.moves-is (record {
        each = c.loop-i.invariant.each;
        whole = first_same rules c.args.names c.args.barred.now c.args.asked c.needed-needed.result c.needed-needed.ensures c.loop-i.i item moves there
            (iff_false c.finds_one.ensures w.if-finds_one.false) c.loop-i.invariant.whole;
      })
    ]

pub returns : goal.returns
returns c = record {
  each = c.loop-i.invariant.each;
  whole = λ id rule e useful. c.loop-i.invariant.whole id rule (let within : id.0 < length c.args.rules.now = slice_get_within c.args.rules.now id.0 rule e in omega arith) e useful;
}
