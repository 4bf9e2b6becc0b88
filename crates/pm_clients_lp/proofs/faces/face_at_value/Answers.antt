use Rattle.pm_client.specs.Sound.{FailsRightly, IsWideFace}
use Rattle.pm_clients_lp.proofs.Facts.{program_view}
use Rattle.pm_clients_lp.proofs.Failing.{face_holds, fails_rightly}
use Rattle.pm_clients_lp.proofs.Found.{places_sound}
use Rattle.pm_clients_lp.proofs.StandardKinds.{face_found, face_read, has_face, has_objective, has_value}
use Rattle.pm_clients_lp.proofs.faces.face_at_value.Goals as goal
use Rattle.pm_clients_lp.specs.Clients.{FailsBy}
use Rattle.pm_object_type.specs.declared.object_type.ObjectType.TheVariants.{Polytope}
use Rattle.pm_types.specs.Views.{extended_of}
use Rattle.std.proofs.Common.{ap, rules, subst, sym, ◌∙◌, ◌≡◌}
use Rattle.std.proofs.lemmas.Result.{err_from_is_err_and}

pub prove-unreachable-requires : goal.prove-unreachable-requires
prove-unreachable-requires c =
    let v = c.args.view.now in
    let other : ¬ (c.of.result ≡ Polytope) = search rules in
    other (c.of.ensures.value ∙ program_view v c.of.ensures.view (has_objective _ c.args.sense (face_read v.kind c.args.sense c.args.wide c.requires.kind)))

pub number_of-number-requires-clause-source : goal.number_of-number-requires-clause-source
number_of-number-requires-clause-source c = rw c.value_in.ensures (has_value _ c.args.sense (face_read c.args.view.now.kind c.args.sense c.args.wide c.requires.kind))

pub put_value-requires-clause-target : goal.put_value-requires-clause-target
put_value-requires-clause-target c = rw c.face_in.ensures (has_face _ c.args.sense (ap (λ d. d.kind.targets) c.requires.empty ∙ face_found c.args.view.now.kind c.args.sense c.args.wide c.requires.kind))

pub returns-clause-sound : goal.returns-clause-sound
returns-clause-sound c =
    let v = c.args.view.now in
    places_sound v c.of.ensures.view c.args.sense (extended_of c.number_of-number.result) (rw c.value_in.ensures at c.number_of-number.ensures.value) c.in_ok-places.places.items c.in_ok-places.ensures.places c.in_ok-places.ensures.form
    c.args.draft.now c.put_value.new.draft (record { targets = face_found v.kind c.args.sense c.args.wide c.requires.kind; empty = c.requires.empty; put = rw (c.face_in.ensures, c.from_vec.ensures) at c.in_ok-put_value.ensures.ok })

pub returns-in_err-places-clause-fails : goal.returns-in_err-places-clause-fails
returns-in_err-places-clause-fails c =
    let v = c.args.view.now in
    let w = err_from_is_err_and c.from_residual.result c.from_residual.ensures.1 in
    rw w.1 (subst (FailsBy (IsWideFace v)) (sym w.2) c.in_err-places.ensures.fails)

pub returns-in_err-places-clause-failed : goal.returns-in_err-places-clause-failed
returns-in_err-places-clause-failed c =
    let v = c.args.view.now in
    let w = err_from_is_err_and c.from_residual.result c.from_residual.ensures.1 in
    rw w.1 (subst (FailsRightly v) (sym w.2) (fails_rightly v (IsWideFace v) (face_holds v) c.in_err-places.field-0.0 c.in_err-places.ensures.fails))
