use Rattle.pm_simplex.proofs.Beginning.{arranged, begin_is_shown, begun_arranged, begun_state, down_num, least_state, none_state, up_num}
use Rattle.pm_simplex.proofs.EvidenceLaws.{wide_as}
use Rattle.pm_simplex.proofs.begin.begin.Goals as goal
use Rattle.pm_simplex.specs.Evidence.{IsShownBy, IsWidePivot}
use Rattle.std.proofs.lemmas.Result.{err_from_is_err_and}

pub returns-in-None-clause-state : goal.returns-in-None-clause-state
returns-in-None-clause-state g c = none_state c.args.y g.system c.args.d.now c.requires c.in-None.ensures.none

pub returns-in-None-clause-arranged : goal.returns-in-None-clause-arranged
returns-in-None-clause-arranged g c = arranged c.args.y g.system c.args.d.now c.requires

pub returns-then-not-is_negative-clause-state : goal.returns-then-not-is_negative-clause-state
returns-then-not-is_negative-clause-state g c = least_state c.args.y g.system c.args.d.now c.requires c.in-Some.least c.in-Some.ensures.least (up_num c.is_negative.result c.entry.result _ c.if-not-is_negative.true c.is_negative.ensures c.entry.ensures.value)

pub returns-then-not-is_negative-clause-arranged : goal.returns-then-not-is_negative-clause-arranged
returns-then-not-is_negative-clause-arranged g c = arranged c.args.y g.system c.args.d.now c.requires

pub returns-in_err-pivot_or_evidence-in-Some-clause-wide : goal.returns-in_err-pivot_or_evidence-in-Some-clause-wide
returns-in_err-pivot_or_evidence-in-Some-clause-wide g c =
    let p = err_from_is_err_and c.from_residual.result c.from_residual.ensures.1 in
    rw (p.1, p.2)
    (wide_as c.in_err-pivot_or_evidence-in-Some.field-0.0 (IsWidePivot c.args.d.now c.in-Some.least c.args.y.cols) (IsShownBy c.args.y g.system)
    (begin_is_shown c.args.y g.system c.args.d.now c.requires c.pivot_or_evidence.new.self c.in-Some.least c.in-Some.ensures.least (down_num c.is_negative.result c.entry.result _ c.if-not-is_negative.false c.is_negative.ensures c.entry.ensures.value))
    c.in_err-pivot_or_evidence-in-Some.ensures.wide)

pub returns-in_ok-pivot_or_evidence-in-Some-clause-state : goal.returns-in_ok-pivot_or_evidence-in-Some-clause-state
returns-in_ok-pivot_or_evidence-in-Some-clause-state g c = begun_state c.args.y g.system c.args.d.now c.requires c.pivot_or_evidence.new.self c.in-Some.least c.in-Some.ensures.least (down_num c.is_negative.result c.entry.result _ c.if-not-is_negative.false c.is_negative.ensures c.entry.ensures.value) c.in_ok-pivot_or_evidence-in-Some.ensures.pivoted

pub returns-in_ok-pivot_or_evidence-in-Some-clause-arranged : goal.returns-in_ok-pivot_or_evidence-in-Some-clause-arranged
returns-in_ok-pivot_or_evidence-in-Some-clause-arranged g c = begun_arranged c.args.y g.system c.args.d.now c.requires c.pivot_or_evidence.new.self c.in-Some.least c.in-Some.ensures.least (down_num c.is_negative.result c.entry.result _ c.if-not-is_negative.false c.is_negative.ensures c.entry.ensures.value) c.in_ok-pivot_or_evidence-in-Some.ensures.pivoted
