-- Each turn puts the next objective behind the others, or ends at the first fault.
use Rattle.std.proofs.Common.{ap, arith, drop, false, length, option_map, refl, sym, true, ◌+◌, ◌++◌, ◌∙◌, ◌∷◌, ◌<◌, ◌≡◌, ◌≤◌, []}
use Rattle.std.proofs.lemmas.Bool.{and_from}
use Rattle.std.proofs.lemmas.List.{drop_all, length-map, map-append}
use Rattle.std.proofs.lemmas.Result.{err_from_is_err_and}
use Rattle.std.specs.Option.{is_some}
use Rattle.serde_json.specs.Find.{as_object}
use Rattle.serde_json.specs.View.{items_view, view}
use Rattle.pm_json.specs.Readings.{with_front}
use Rattle.pm_types.specs.Views.{view_of}
use Rattle.pm_filing.proofs.ItemTurns.{next_item}
use Rattle.pm_filing.proofs.PartTurns.{all-append, objectives-end, objectives-fault, objectives-item, objectives-long, objectives-no_object}
use Rattle.pm_filing.specs.FileParts.{objectives_from}
use Rattle.pm_filing.specs.ReadingViews.{is_formed_objective, objectives_seen}
use Rattle.pm_filing.proofs.parts.read_objectives.Goals as goal

pub loop-program-preserved : goal.loop-program-preserved
loop-program-preserved c =
    let front = objectives_seen c.loop-program.objectives.items in
    let vs = c.args.list.now in
    let i = c.loop-program.program-index in
    let ds = items_view (drop (i + 1) vs) in
    let long = length-map c.loop-program.objectives.items (λ v. option_map view_of v) in
    let v = option_map view_of c.in_ok-objective.objective in
    let listed : is_some (as_object (view c.program-item.result)) ≡ true = sym c.is_object.ensures ∙ c.if-not-is_object.false in
    let room : length front < 4 = omega (arith, c.len.ensures, c.loop-program.objectives.ok, long, c.if-len-ge-MOST_PROGRAMS.false) in
    let new : objectives_seen c.push.new.self.items ≡ front ++ v ∷ [] =
    ap objectives_seen c.in_ok-push.ensures.items ∙ map-append (λ v. option_map view_of v) c.loop-program.objectives.items (c.in_ok-objective.objective ∷ []) in
    rw new (
      c.loop-program.invariant.0
          ∙ ap (λ w. with_front front (objectives_from (length front) w)) (next_item vs i c.program-item.result c.loop-program-test.true c.program-item.is)
          ∙ objectives-item front v (view c.program-item.result) ds listed room c.in_ok-objective.ensures.ok,
      all-append is_formed_objective front (v ∷ []) c.loop-program.invariant.1 (and_from (is_formed_objective v) true c.in_ok-objective.ensures.formed refl),
    )

pub returns-then-not-is_object-clause-fault : goal.returns-then-not-is_object-clause-fault
returns-then-not-is_object-clause-fault c memory =
    let front = objectives_seen c.loop-program.objectives.items in
    let vs = c.args.list.now in
    let i = c.loop-program.program-index in
    let other : is_some (as_object (view c.program-item.result)) ≡ false = sym c.is_object.ensures ∙ c.if-not-is_object.true in
    c.loop-program.invariant.0
    ∙ ap (λ w. with_front front (objectives_from (length front) w)) (next_item vs i c.program-item.result c.loop-program-test.true c.program-item.is)
    ∙ objectives-no_object front (length front) (view c.program-item.result) (items_view (drop (i + 1) vs)) other

pub returns-then-len-ge-MOST_PROGRAMS-clause-fault : goal.returns-then-len-ge-MOST_PROGRAMS-clause-fault
returns-then-len-ge-MOST_PROGRAMS-clause-fault c memory =
    let front = objectives_seen c.loop-program.objectives.items in
    let vs = c.args.list.now in
    let i = c.loop-program.program-index in
    let ds = items_view (drop (i + 1) vs) in
    let long = length-map c.loop-program.objectives.items (λ v. option_map view_of v) in
    let listed : is_some (as_object (view c.program-item.result)) ≡ true = sym c.is_object.ensures ∙ c.if-not-is_object.false in
    let full : 4 ≤ length front = omega (arith, c.len.ensures, c.loop-program.objectives.ok, long, c.if-len-ge-MOST_PROGRAMS.true) in
    c.loop-program.invariant.0
    ∙ ap (λ w. with_front front (objectives_from (length front) w)) (next_item vs i c.program-item.result c.loop-program-test.true c.program-item.is)
    ∙ objectives-long front (view c.program-item.result) ds listed full

pub returns-in_err-objective-clause-fault : goal.returns-in_err-objective-clause-fault
returns-in_err-objective-clause-fault c =
    let front = objectives_seen c.loop-program.objectives.items in
    let vs = c.args.list.now in
    let i = c.loop-program.program-index in
    let ds = items_view (drop (i + 1) vs) in
    let long = length-map c.loop-program.objectives.items (λ v. option_map view_of v) in
    let listed : is_some (as_object (view c.program-item.result)) ≡ true = sym c.is_object.ensures ∙ c.if-not-is_object.false in
    let room : length front < 4 = omega (arith, c.len.ensures, c.loop-program.objectives.ok, long, c.if-len-ge-MOST_PROGRAMS.false) in
    let p = err_from_is_err_and c.from_residual.result c.from_residual.ensures.1 in
    rw (p.1, p.2) (λ memory. c.loop-program.invariant.0
    ∙ ap (λ w. with_front front (objectives_from (length front) w)) (next_item vs i c.program-item.result c.loop-program-test.true c.program-item.is)
    ∙ objectives-fault front (view c.program-item.result) ds c.in_err-objective.field-0.0 listed room (c.in_err-objective.ensures.fault memory))

pub returns-in_err-push-clause-fault : goal.returns-in_err-push-clause-fault
returns-in_err-push-clause-fault c =
    let p = err_from_is_err_and c.from_residual-in_err-push.result c.from_residual-in_err-push.ensures.1 in
    rw p.1 (λ other. absurd (other p.2))

pub returns-clause-ok : goal.returns-clause-ok
returns-clause-ok c =
    let front = objectives_seen c.loop-program.objectives.items in
    c.loop-program.invariant.0
    ∙ ap (λ vs. with_front front (objectives_from (length front) (items_view vs))) (drop_all c.loop-program.program-index c.args.list.now c.loop-program-test.false)
    ∙ objectives-end front

pub returns-clause-formed : goal.returns-clause-formed
returns-clause-formed c = c.loop-program.invariant.1
