use Rattle.pm_vector.specs.Bases.{row_at}
use Rattle.pm_vector.specs.WideInts.{value_of}
use Rattle.pm_wide_programs.proofs.Places.{one_left, one_more, places_form}
use Rattle.pm_wide_programs.proofs.face.level_places.Goals as goal
use Rattle.pm_wide_programs.proofs.face.level_places.Goals.{else-is_zero, then-is_zero+in_ok-push}
use Rattle.pm_wide_programs.specs.Slacks.{slack_of}
use Rattle.std.proofs.Common.{[], ap, arith, sym, true≢false, ◌∙◌, ◌≡◌}
use Rattle.std.proofs.lemmas.List.{get_or_read}

pub loop-i-preserved : goal.loop-i-preserved
loop-i-preserved c =
    let row : c.index-rays-i.result ≡ row_at c.args.rays.now c.loop-i.i = get_or_read c.args.rays.now c.loop-i.i c.index-rays-i.result c.loop-i-test.true c.index-rays-i.is [] in
    let made : value_of c.slack-made.result ≡ slack_of c.args.objective.now.times c.args.objective.now.row c.args.value (row_at c.args.rays.now c.loop-i.i) =
    c.slack-made.ensures ∙ ap (slack_of c.args.objective.now.times c.args.objective.now.row c.args.value) row in
    let few = c.requires.few in
    elim c.if-is_zero.branch [
      | then-is_zero+in_ok-push w ↦
          one_more c.args.objective.now.times c.args.objective.now.row c.args.value c.args.rays.now c.loop-i.i c.loop-i.places.items c.loop-i.invariant c.if-is_zero.places.items (sym made ∙ c.is_zero.ensures.0 w.if-is_zero.true) (let l = c.loop-i-test.true in omega arith)
          (ap (λ v. v.items) w.places-is ∙ w.in_ok-push.ensures.items)
      | else-is_zero w ↦
          rw w.places-is
          (one_left c.args.objective.now.times c.args.objective.now.row c.args.value c.args.rays.now c.loop-i.i c.loop-i.places.items c.loop-i.invariant (λ z. true≢false (sym (c.is_zero.ensures.1 (made ∙ z)) ∙ w.if-is_zero.false)))
    ]

pub returns-clause-form : goal.returns-clause-form
returns-clause-form c =
    let few = c.requires.few in
    places_form c.args.objective.now.times c.args.objective.now.row c.args.value c.args.rays.now c.loop-i.i c.loop-i.places.items c.loop-i.invariant (omega arith)
