use Rattle.pm_simplex.proofs.Arranged.{arranged_next, enters_no_help, enters_no_residual, without_next}
use Rattle.pm_simplex.proofs.EvidenceLaws.{arranged_objectives, entering_inside, laid_out, lawful_is_shown, step_is_lawful, wide_as}
use Rattle.pm_simplex.proofs.Least.{not_zero_num}
use Rattle.pm_simplex.proofs.Steps.{later_column, raised_next, signed_inside, state_next}
use Rattle.pm_simplex.proofs.simplex.make_step.Goals as goal
use Rattle.pm_simplex.specs.Evidence.{IsShownBy, IsWidePivot}
use Rattle.std.proofs.lemmas.Result.{err_from_is_err_and}

pub returns-in_err-pivot_or_evidence-clause-wide : goal.returns-in_err-pivot_or_evidence-clause-wide
returns-in_err-pivot_or_evidence-clause-wide g c =
    let p = err_from_is_err_and c.from_residual.result c.from_residual.ensures.1 in
    let en = c.in-Some.ensures.some in
    rw (p.1, p.2)
    (wide_as c.in_err-pivot_or_evidence.field-0.0 (IsWidePivot c.args.d.now c.in-Some-leaving.leaves c.in-Some.enters.place) (IsShownBy c.args.y g.system)
    (λ e w. lawful_is_shown c.args.y g.system c.args.d.now c.in-Some-leaving.leaves c.in-Some.enters.place e (laid_out c.args.y g.system c.args.d.now c.args.z c.requires.0) c.in-Some-leaving.ensures.least.within en.within
    (entering_inside c.args.y _ c.in-Some.enters.up en.may_enter) (signed_inside c.args.y _ c.in-Some-leaving.ensures.least.hinders.signed) (arranged_objectives c.args.y c.args.d.now c.requires.1)
    (step_is_lawful c.args.y g.system c.args.d.now c.args.z c.in-Some-leaving.leaves c.in-Some.enters c.requires.0 en c.in-Some-leaving.ensures.least) w)
    c.in_err-pivot_or_evidence.ensures.wide)

pub returns-clause-state : goal.returns-clause-state
returns-clause-state g c = state_next c.args.y g.system c.args.d.now c.pivot_or_evidence.new.self c.args.z c.requires.0 c.in-Some.enters c.in-Some.ensures.some c.in-Some-leaving.leaves c.in-Some-leaving.ensures.least c.in_ok-pivot_or_evidence.ensures.pivoted

pub returns-clause-arranged : goal.returns-clause-arranged
returns-clause-arranged g c =
    let en = c.in-Some.ensures.some in
    arranged_next c.args.y g.system c.args.d.now c.pivot_or_evidence.new.self c.in-Some-leaving.leaves c.in-Some.enters.place (laid_out c.args.y g.system c.args.d.now c.args.z c.requires.0) c.in-Some-leaving.ensures.least.within en.within
    (not_zero_num c.args.y c.args.d.now c.in-Some.enters.place c.in-Some.enters.up c.in-Some-leaving.leaves c.in-Some-leaving.ensures.least.hinders) (later_column c.args.y _ c.in-Some.enters.up en.may_enter) c.in_ok-pivot_or_evidence.ensures.pivoted
    c.in-Some-leaving.ensures.least.hinders.signed (enters_no_residual c.args.y _ c.in-Some.enters.up en.may_enter) c.requires.1

pub returns-clause-without : goal.returns-clause-without
returns-clause-without g c =
    let en = c.in-Some.ensures.some in
    without_next c.args.y g.system c.args.d.now c.pivot_or_evidence.new.self c.in-Some-leaving.leaves c.in-Some.enters.place (laid_out c.args.y g.system c.args.d.now c.args.z c.requires.0) c.in-Some-leaving.ensures.least.within en.within
    (not_zero_num c.args.y c.args.d.now c.in-Some.enters.place c.in-Some.enters.up c.in-Some-leaving.leaves c.in-Some-leaving.ensures.least.hinders) (later_column c.args.y _ c.in-Some.enters.up en.may_enter) c.in_ok-pivot_or_evidence.ensures.pivoted
    (enters_no_help c.args.y _ c.in-Some.enters.up en.may_enter)

pub returns-clause-better : goal.returns-clause-better
returns-clause-better g c = raised_next c.args.y g.system c.args.d.now c.pivot_or_evidence.new.self c.args.z c.requires.0 c.in-Some.enters c.in-Some.ensures.some c.in-Some-leaving.leaves c.in-Some-leaving.ensures.least c.in_ok-pivot_or_evidence.ensures.pivoted
