use Rattle.pm_vector.specs.Bases.{row_at}
use Rattle.pm_elim.proofs.BasisLaws.{row_length}
use Rattle.pm_elim.proofs.LostLaws.{lost_weaker, some_lost}
use Rattle.pm_elim.proofs.SoFar.{OlderSoFar-all, OlderSoFar-more}
use Rattle.pm_elim.proofs.wide_rounds.reduced_older.Goals as goal
use Rattle.pm_elim.proofs.wide_rounds.reduced_older.Goals.{After-index-rows-i}
use Rattle.std.proofs.Common.{ap, arith, length, ◌<◌, ◌∙◌, ◌≡◌}
use Rattle.std.proofs.lemmas.List.{get_or_read}
use Rattle.std.proofs.lemmas.Result.{err_from_is_err_and}

-- the row at the place
here : (c : After-index-rows-i) → c.index-rows-i.result ≡ row_at c.args.rows.now c.loop-i.i
here c =
    let within : c.loop-i.i < length c.args.rows.now = omega arith in
    get_or_read c.args.rows.now c.loop-i.i c.index-rows-i.result within c.index-rows-i.is _

pub reduced_once-requires-clause-same_length : goal.reduced_once-requires-clause-same_length
reduced_once-requires-clause-same_length c =
    let within : c.loop-i.i < length c.args.rows.now = omega arith in
    ap length (here (goal.at.reduced_once-requires-clause-same_length c).After-index-rows-i) ∙ row_length (length c.args.new.now) c.args.rows.now c.loop-i.i c.requires.cols within

pub loop-i-preserved : goal.loop-i-preserved
loop-i-preserved c =
    let is = here (goal.at.loop-i-preserved c).After-index-rows-i in
    rw c.in_ok-push.ensures.items (OlderSoFar-more c.args.rows.now c.args.new.now c.args.pivot c.loop-i.i c.loop-i.made.items c.in_ok-row.row c.loop-i.invariant (rw is at c.in_ok-row.ensures.reduced))

pub returns-clause-reduced : goal.returns-clause-reduced
returns-clause-reduced c =
    let all : c.loop-i.i ≡ length c.args.rows.now = omega arith in
    OlderSoFar-all c.args.rows.now c.args.new.now c.args.pivot c.loop-i.i c.loop-i.made.items all c.loop-i.invariant

pub returns-in_err-row-clause-lost : goal.returns-in_err-row-clause-lost
returns-in_err-row-clause-lost c =
    let within : c.loop-i.i < length c.args.rows.now = omega arith in
    let is = here (goal.at.returns-in_err-row-clause-lost c).After-index-rows-i in
    let p = err_from_is_err_and c.from_residual.result c.from_residual.ensures.1 in
    rw (p.1, p.2)
    (lost_weaker c.in_err-row.field-0.0 _ _
    (some_lost c.args.rows.now c.args.new.now c.args.pivot c.loop-i.i within)
    (rw is at c.in_err-row.ensures.lost))
