-- What stands at the place of the property is taken; where there is no place there is no value.
use Rattle.std.proofs.Common.{rules, None, Some, sym, ◌≡◌}
use Rattle.std.specs.Prelude.{map}
use Rattle.pm_object.proofs.Drafts.{nothing_out, not_placed, out}
use Rattle.pm_object.specs.Reading.{place_in}
use Rattle.pm_object.specs.Views.{put_seen}
use Rattle.pm_object.proofs.draft.take_put.Goals as goal

pub returns-in_err-place-clause-value : goal.returns-in_err-place-clause-value
returns-in_err-place-clause-value c =
    let none : place_in c.args.p 0 (map put_seen c.args.values.now.items) ≡ None = search rules in
    let is_none : c.from_residual.result ≡ None = search rules in
    rw is_none (sym (not_placed c.args.p (map put_seen c.args.values.now.items) 0 none))

pub returns-in_err-place-clause-rest : goal.returns-in_err-place-clause-rest
returns-in_err-place-clause-rest c =
    let none : place_in c.args.p 0 (map put_seen c.args.values.now.items) ≡ None = search rules in
    sym (nothing_out c.args.p (map put_seen c.args.values.now.items) 0 none)

pub returns-clause-value : goal.returns-clause-value
returns-clause-value c =
    let some : place_in c.args.p 0 (map put_seen c.args.values.now.items) ≡ Some c.in_ok-place.place = search rules in
    (out put_seen c.args.p c.args.values.now.items c.in_ok-place.place c.remove.result some c.remove.ensures.value).0

pub returns-clause-rest : goal.returns-clause-rest
returns-clause-rest c =
    let some : place_in c.args.p 0 (map put_seen c.args.values.now.items) ≡ Some c.in_ok-place.place = search rules in
    rw c.remove.ensures.items (out put_seen c.args.p c.args.values.now.items c.in_ok-place.place c.remove.result some c.remove.ensures.value).1
