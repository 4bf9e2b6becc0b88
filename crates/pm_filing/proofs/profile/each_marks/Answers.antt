-- Each turn puts the marks of the next program behind the others, or ends at the first fault.
use Rattle.std.proofs.Common.{ap, drop, [], ◌++◌, ◌+◌, ◌∙◌, ◌∷◌, ◌≡◌}
use Rattle.std.proofs.lemmas.List.{drop_all, map-append}
use Rattle.std.proofs.lemmas.Result.{err_from_is_err_and}
use Rattle.serde_json.specs.View.{items_view, view}
use Rattle.pm_filing.proofs.ItemTurns.{each-end, each-item, each-none, each_behind, next_item}
use Rattle.pm_filing.specs.Profiles.{marks_in}
use Rattle.pm_filing.specs.ReadingViews.{all_marks_seen, marks_seen}
use Rattle.pm_filing.proofs.profile.each_marks.Goals as goal

pub loop-program-preserved : goal.loop-program-preserved
loop-program-preserved c =
    let all = all_marks_seen c.loop-program.all.items in
    let vs = c.args.list.now in
    let i = c.loop-program.program-index in
    let marks = marks_seen c.in_ok-marks.marks.items in
    let new : all_marks_seen c.push.new.self.items ≡ all ++ marks ∷ [] =
    ap all_marks_seen c.in_ok-push.ensures.items ∙ map-append (λ v. marks_seen v.items) c.loop-program.all.items (c.in_ok-marks.marks ∷ []) in
    rw new (c.loop-program.invariant
    ∙ ap (each_behind marks_in all) (next_item vs i c.program-item.result c.loop-program-test.true c.program-item.is)
    ∙ each-item marks_in (view c.program-item.result) all marks (items_view (drop (i + 1) vs)) c.in_ok-marks.ensures.ok)

pub returns-in_err-marks-clause-fault : goal.returns-in_err-marks-clause-fault
returns-in_err-marks-clause-fault c =
    let all = all_marks_seen c.loop-program.all.items in
    let vs = c.args.list.now in
    let i = c.loop-program.program-index in
    let p = err_from_is_err_and c.from_residual.result c.from_residual.ensures.1 in
    rw (p.1, p.2) (λ other. let f = c.in_err-marks.ensures.fault other in (
      f.0,
      c.loop-program.invariant
          ∙ ap (each_behind marks_in all) (next_item vs i c.program-item.result c.loop-program-test.true c.program-item.is)
          ∙ each-none marks_in (view c.program-item.result) all (items_view (drop (i + 1) vs)) f.1,
    ))

pub returns-clause-ok : goal.returns-clause-ok
returns-clause-ok c =
    let all = all_marks_seen c.loop-program.all.items in
    c.loop-program.invariant
    ∙ ap (λ ws. each_behind marks_in all (items_view ws)) (drop_all c.loop-program.program-index c.args.list.now c.loop-program-test.false)
    ∙ each-end marks_in all
