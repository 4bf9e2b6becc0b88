use Rattle.std.proofs.Common.{◌≡◌, ◌<◌, Some, length, refl, arith}
use Rattle.std.specs.Prelude.{slice_get}
use Rattle.std.proofs.lemmas.Option.{slice_get_read, slice_get_within}
use Rattle.pm_rules.specs.Rules.{inputs}
use Rattle.pm_rules.proofs.NeededNames.{read_more, read_same, needed_more, number_more}
use Rattle.pm_rules.proofs.Followed.{in_union_left}
use Rattle.pm_rules.proofs.useful.with_read.Goals as goal
use Rattle.pm_rules.proofs.useful.with_read.Goals.{then-reads_more, else-reads_more}

pub loop-i-preserved : goal.loop-i-preserved
loop-i-preserved c =
    let rules = c.args.rules.now in
    let item = c.index-rules-i.result in
    let more = c.loop-i.more in
    let there : slice_get rules c.loop-i.i ≡ Some item = slice_get_read rules (length rules) c.loop-i.i item refl (omega arith) c.index-rules-i.is in
    elim c.if-reads_more.branch [
      | then-reads_more w ↦
          let finds = c.reads_more.ensures.finds w.if-reads_more.true in
          let read = inputs item in
          rw (w.more-is, w.union-more.ensures.value, w.inputs.ensures) (record {
            number = number_more c.args.set more read c.loop-i.invariant.number;
            grows = λ p h. in_union_left more read p (c.loop-i.invariant.grows p h);
            sound = λ asked h. needed_more rules c.args.names c.args.barred.now c.args.set c.loop-i.i item more asked there finds h (c.loop-i.invariant.sound asked h);
            closed = read_more rules c.args.names c.args.barred.now c.args.set c.loop-i.i item more there c.loop-i.invariant.closed;
          })
      | else-reads_more w ↦ rw w.more-is (record {
        number = c.loop-i.invariant.number;
        grows = c.loop-i.invariant.grows;
        sound = c.loop-i.invariant.sound;
        closed = read_same rules c.args.names c.args.barred.now c.args.set c.loop-i.i item more there (c.reads_more.ensures.read w.if-reads_more.false) c.loop-i.invariant.closed;
      })
    ]

pub returns-clause-closed : goal.returns-clause-closed
returns-clause-closed c = λ id rule e. c.loop-i.invariant.closed id rule (let within : id.0 < length c.args.rules.now = slice_get_within c.args.rules.now id.0 rule e in omega arith) e
