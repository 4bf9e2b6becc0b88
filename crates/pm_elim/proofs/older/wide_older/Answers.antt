use Rattle.pm_vector.specs.Bases.{row_at}
use Rattle.pm_elim.proofs.older.wide_older.Goals as goal
use Rattle.pm_vector.specs.Steps.{StepStays}
use Rattle.std.proofs.Common.{arith, below_more, length, ◌<◌, ◌≡◌, ℕ}
use Rattle.std.proofs.lemmas.List.{get_or_read}

pub loop-i-preserved : goal.loop-i-preserved
loop-i-preserved c =
    let within : c.loop-i.i < length c.args.rows.now = omega arith in
    let here : c.index-rows-i.result ≡ row_at c.args.rows.now c.loop-i.i = get_or_read c.args.rows.now c.loop-i.i c.index-rows-i.result within c.index-rows-i.is _ in
    let stays = rw here at c.in_default.ensures.stays in
    below_more (λ (k : ℕ). StepStays (row_at c.args.rows.now k) c.args.new.now c.args.pivot) c.loop-i.i c.loop-i.invariant stays

pub returns-clause-stays : goal.returns-clause-stays
returns-clause-stays c = λ i l. c.loop-i.invariant i (omega arith)
