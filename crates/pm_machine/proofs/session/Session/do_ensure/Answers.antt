-- The object of the name is written through its reference; the others stay.
use Rattle.std.proofs.Common.{Some, ap, refl, sym, ◌∙◌, ◌≡◌}
use Rattle.std.specs.Option.{option_map}
use Rattle.std.specs.Prelude.{None, [], map, string_bytes}
use Rattle.pm_machine.proofs.Names.{ensure_step, ensure_unknown, ensured_partly, named_of, no_part, stays_with, written}
use Rattle.pm_machine.specs.Steps.{asked_in, no_such_name, part_named, is_refused}
use Rattle.pm_script.specs.Replies.{seen}
use Rattle.pm_machine.proofs.session.Session.do_ensure.Goals as goal

pub returns-in_default-asked_in-clause-step : goal.returns-in_default-asked_in-clause-step
returns-in_default-asked_in-clause-step g c =
    let name = string_bytes c.args.obj.now.name in
    let o = c.in-Some.object.now in
    let w = written c.args.self.now.objects (c.get_mut.follows.lender o) _ name o o c.as_str.ensures.value c.in-Some.ensures.value (c.get_mut.follows.holds o).1 (c.get_mut.follows.holds o).3 in
    let found : part_named o.state (option_map string_bytes c.args.obj.now.sub) ≡ Some (named_of o.state c.in-Some-place_in.sub) = sym c.place_in.ensures.named ∙ ap (option_map (named_of o.state)) c.in-Some-place_in.is in
    let none : asked_in o.state.of c.in-Some-place_in.sub (map string_bytes c.args.props.now) ≡ None = ap (λ t. asked_in t c.in-Some-place_in.sub (map string_bytes c.args.props.now)) (sym c.of.ensures.value) ∙ sym c.asked_in.ensures ∙ c.in_default-asked_in.is in
    rw c.refused-in_default-asked_in.ensures (ensure_unknown w (option_map string_bytes c.args.obj.now.sub) c.in-Some-place_in.sub found (map string_bytes c.args.props.now) c.args.self.now.book _ none refl)

pub returns-clause-step : goal.returns-clause-step
returns-clause-step g c =
    let name = string_bytes c.args.obj.now.name in
    let o = c.in-Some.object.now in
    let o' = c.ensure_values.new.object in
    let w = written c.args.self.now.objects (c.get_mut.follows.lender o') _ name o o' c.as_str.ensures.value c.in-Some.ensures.value (c.get_mut.follows.holds o').1 (c.get_mut.follows.holds o').3 in
    let found : part_named o.state (option_map string_bytes c.args.obj.now.sub) ≡ Some (named_of o.state c.in-Some-place_in.sub) = sym c.place_in.ensures.named ∙ ap (option_map (named_of o.state)) c.in-Some-place_in.is in
    let named : asked_in o.state.of c.in-Some-place_in.sub (map string_bytes c.args.props.now) ≡ Some c.in-Some-asked_in.asked = ap (λ t. asked_in t c.in-Some-place_in.sub (map string_bytes c.args.props.now)) (sym c.of.ensures.value) ∙ sym c.asked_in.ensures ∙ c.in-Some-asked_in.is in
    ensure_step w (option_map string_bytes c.args.obj.now.sub) c.in-Some-place_in.sub found (map string_bytes c.args.props.now) _ seen c.ensure_values.result c.args.self.now.book _ _ c.in-Some-asked_in.asked named c.ensure_values.ensures.made

pub returns-clause-part : goal.returns-clause-part
returns-clause-part g c =
    let name = string_bytes c.args.obj.now.name in
    let o = c.in-Some.object.now in
    let o' = c.ensure_values.new.object in
    let w = written c.args.self.now.objects (c.get_mut.follows.lender o') _ name o o' c.as_str.ensures.value c.in-Some.ensures.value (c.get_mut.follows.holds o').1 (c.get_mut.follows.holds o').3 in
    let found : part_named o.state (option_map string_bytes c.args.obj.now.sub) ≡ Some (named_of o.state c.in-Some-place_in.sub) = sym c.place_in.ensures.named ∙ ap (option_map (named_of o.state)) c.in-Some-place_in.is in
    let named : asked_in o.state.of c.in-Some-place_in.sub (map string_bytes c.args.props.now) ≡ Some c.in-Some-asked_in.asked = ap (λ t. asked_in t c.in-Some-place_in.sub (map string_bytes c.args.props.now)) (sym c.of.ensures.value) ∙ sym c.asked_in.ensures ∙ c.in-Some-asked_in.is in
    ensured_partly w (option_map string_bytes c.args.obj.now.sub) c.in-Some-place_in.sub found (map string_bytes c.args.props.now) _ c.ensure_values.result c.args.self.now.book _ _ c.in-Some-asked_in.asked named c.ensure_values.ensures.err

pub returns-in_default-place_in-clause-step : goal.returns-in_default-place_in-clause-step
returns-in_default-place_in-clause-step g c =
    let name = string_bytes c.args.obj.now.name in
    let o = c.in-Some.object.now in
    let w = written c.args.self.now.objects (c.get_mut.follows.lender o) _ name o o c.as_str.ensures.value c.in-Some.ensures.value (c.get_mut.follows.holds o).1 (c.get_mut.follows.holds o).3 in
    let missing : part_named o.state (option_map string_bytes c.args.obj.now.sub) ≡ None = sym c.place_in.ensures.named ∙ ap (option_map (named_of o.state)) c.in_default-place_in.is in
    rw c.refused-in_default-place_in.ensures (is_refused (no_such_name (no_part w (option_map string_bytes c.args.obj.now.sub) [] missing)) (stays_with w _ refl))
