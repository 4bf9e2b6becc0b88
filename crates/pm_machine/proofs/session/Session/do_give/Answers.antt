-- The object of the name is written through its reference; the others stay.
use Rattle.std.proofs.Common.{Some, ap, inl, refl, sym, ◌∙◌, ◌≡◌}
use Rattle.std.specs.Option.{option_map}
use Rattle.std.specs.Prelude.{None, [], string_bytes}
use Rattle.pm_machine.proofs.Names.{gave_in_part, give_step, give_unknown, named_of, no_part, stays_with, written}
use Rattle.pm_rounds.proofs.Rounds.{on_err_of}
use Rattle.pm_machine.specs.Steps.{no_such_name, part_named, property_named, is_refused}
use Rattle.pm_script.specs.Replies.{seen}
use Rattle.pm_machine.proofs.session.Session.do_give.Goals as goal

pub returns-in_default-property_named-clause-step : goal.returns-in_default-property_named-clause-step
returns-in_default-property_named-clause-step g c =
    let name = string_bytes c.args.obj.now.name in
    let o = c.in-Some.object.now in
    let w = written c.args.self.now.objects (c.get_mut.follows.lender o) _ name o o c.as_str.ensures.value c.in-Some.ensures.value (c.get_mut.follows.holds o).1 (c.get_mut.follows.holds o).3 in
    let found : part_named o.state (option_map string_bytes c.args.obj.now.sub) ≡ Some (named_of o.state c.in-Some-place_in.sub) = sym c.place_in.ensures.named ∙ ap (option_map (named_of o.state)) c.in-Some-place_in.is in
    let none : property_named o.state.of c.in-Some-place_in.sub c.args.prop.now ≡ None = ap (λ t. property_named t c.in-Some-place_in.sub c.args.prop.now) (sym c.of.ensures.value) ∙ sym c.property_named.ensures ∙ c.in_default-property_named.is in
    rw c.refused-in_default-property_named.ensures (give_unknown w (option_map string_bytes c.args.obj.now.sub) c.in-Some-place_in.sub found c.args.prop.now c.args.self.now.book _ none refl)

pub returns-clause-step : goal.returns-clause-step
returns-clause-step g c =
    let name = string_bytes c.args.obj.now.name in
    let o = c.in-Some.object.now in
    let o' = c.give_value.new.object in
    let w = written c.args.self.now.objects (c.get_mut.follows.lender o') _ name o o' c.as_str.ensures.value c.in-Some.ensures.value (c.get_mut.follows.holds o').1 (c.get_mut.follows.holds o').3 in
    let found : part_named o.state (option_map string_bytes c.args.obj.now.sub) ≡ Some (named_of o.state c.in-Some-place_in.sub) = sym c.place_in.ensures.named ∙ ap (option_map (named_of o.state)) c.in-Some-place_in.is in
    let named : property_named o.state.of c.in-Some-place_in.sub c.args.prop.now ≡ Some c.in-Some-property_named.p = ap (λ t. property_named t c.in-Some-place_in.sub c.args.prop.now) (sym c.of.ensures.value) ∙ sym c.property_named.ensures ∙ c.in-Some-property_named.is in
    give_step w (option_map string_bytes c.args.obj.now.sub) c.in-Some-place_in.sub found c.args.prop.now _ seen c.give_value.result c.args.self.now.book _ _ c.in-Some-property_named.p _ named c.in_ok-name.ensures c.give_value.ensures.gives

pub returns-clause-part : goal.returns-clause-part
returns-clause-part g c =
    let name = string_bytes c.args.obj.now.name in
    let o = c.in-Some.object.now in
    let o' = c.give_value.new.object in
    let w = written c.args.self.now.objects (c.get_mut.follows.lender o') _ name o o' c.as_str.ensures.value c.in-Some.ensures.value (c.get_mut.follows.holds o').1 (c.get_mut.follows.holds o').3 in
    let found : part_named o.state (option_map string_bytes c.args.obj.now.sub) ≡ Some (named_of o.state c.in-Some-place_in.sub) = sym c.place_in.ensures.named ∙ ap (option_map (named_of o.state)) c.in-Some-place_in.is in
    let named : property_named o.state.of c.in-Some-place_in.sub c.args.prop.now ≡ Some c.in-Some-property_named.p = ap (λ t. property_named t c.in-Some-place_in.sub c.args.prop.now) (sym c.of.ensures.value) ∙ sym c.property_named.ensures ∙ c.in-Some-property_named.is in
    gave_in_part w (option_map string_bytes c.args.obj.now.sub) c.in-Some-place_in.sub found c.args.prop.now _ c.give_value.result c.args.self.now.book _ _ c.in-Some-property_named.p named c.give_value.ensures.err

pub returns-in_default-place_in-clause-step : goal.returns-in_default-place_in-clause-step
returns-in_default-place_in-clause-step g c =
    let name = string_bytes c.args.obj.now.name in
    let o = c.in-Some.object.now in
    let w = written c.args.self.now.objects (c.get_mut.follows.lender o) _ name o o c.as_str.ensures.value c.in-Some.ensures.value (c.get_mut.follows.holds o).1 (c.get_mut.follows.holds o).3 in
    let missing : part_named o.state (option_map string_bytes c.args.obj.now.sub) ≡ None = sym c.place_in.ensures.named ∙ ap (option_map (named_of o.state)) c.in_default-place_in.is in
    rw c.refused-in_default-place_in.ensures (is_refused (no_such_name (no_part w (option_map string_bytes c.args.obj.now.sub) [] missing)) (stays_with w _ refl))

pub returns-in_err-name-clause-part : goal.returns-in_err-name-clause-part
returns-in_err-name-clause-part g c =
    let name = string_bytes c.args.obj.now.name in
    let o = c.in-Some.object.now in
    let w = written c.args.self.now.objects (c.get_mut.follows.lender o) _ name o o c.as_str.ensures.value c.in-Some.ensures.value (c.get_mut.follows.holds o).1 (c.get_mut.follows.holds o).3 in
    on_err_of _ (inl (stays_with w _ refl))
