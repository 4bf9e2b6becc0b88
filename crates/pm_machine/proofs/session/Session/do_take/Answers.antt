-- The object of the name is written through its reference; the others stay.
use Rattle.std.proofs.Common.{Some, ap, refl, sym, ◌∙◌, ◌≡◌}
use Rattle.std.specs.Option.{option_map}
use Rattle.std.specs.Prelude.{None, [], string_bytes}
use Rattle.pm_machine.proofs.Names.{named_of, no_part, stays_with, take_done, take_refused, take_unknown, written}
use Rattle.pm_json.specs.Texts.{given_by}
use Rattle.pm_machine.specs.Steps.{Taken, no_such_name, part_named, property_named, is_refused, no_property}
use Rattle.pm_machine.proofs.session.Session.do_take.Goals as goal

pub returns-in_default-property_named-clause-step : goal.returns-in_default-property_named-clause-step
returns-in_default-property_named-clause-step g c =
    let name = string_bytes c.args.obj.now.name in
    let o = c.in-Some.object.now in
    let w = written c.args.self.now.objects (c.get_mut.follows.lender o) _ name o o c.as_str.ensures.value c.in-Some.ensures.value (c.get_mut.follows.holds o).1 (c.get_mut.follows.holds o).3 in
    let found : part_named o.state (option_map string_bytes c.args.obj.now.sub) ≡ Some (named_of o.state c.in-Some-place_in.sub) = sym c.place_in.ensures.named ∙ ap (option_map (named_of o.state)) c.in-Some-place_in.is in
    let none : property_named o.state.of c.in-Some-place_in.sub c.args.prop.now ≡ None = ap (λ t. property_named t c.in-Some-place_in.sub c.args.prop.now) (sym c.of.ensures.value) ∙ sym c.property_named.ensures ∙ c.in_default-property_named.is in
    rw c.refused-in_default-property_named.ensures (take_unknown w (option_map string_bytes c.args.obj.now.sub) c.in-Some-place_in.sub found c.args.prop.now _ c.args.json.now none refl)

pub returns-in-Err-clause-err : goal.returns-in-Err-clause-err
returns-in-Err-clause-err g c =
    let name = string_bytes c.args.obj.now.name in
    let o = c.in-Some.object.now in
    let o' = c.take_text.new.object in
    let w = written c.args.self.now.objects (c.get_mut.follows.lender o') _ name o o' c.as_str.ensures.value c.in-Some.ensures.value (c.get_mut.follows.holds o').1 (c.get_mut.follows.holds o').3 in
    stays_with w _ c.in-Err.ensures.err

pub returns-in-Ok-Some-clause-step : goal.returns-in-Ok-Some-clause-step
returns-in-Ok-Some-clause-step g c =
    let name = string_bytes c.args.obj.now.name in
    let o = c.in-Some.object.now in
    let o' = c.take_text.new.object in
    let w = written c.args.self.now.objects (c.get_mut.follows.lender o') _ name o o' c.as_str.ensures.value c.in-Some.ensures.value (c.get_mut.follows.holds o').1 (c.get_mut.follows.holds o').3 in
    let found : part_named o.state (option_map string_bytes c.args.obj.now.sub) ≡ Some (named_of o.state c.in-Some-place_in.sub) = sym c.place_in.ensures.named ∙ ap (option_map (named_of o.state)) c.in-Some-place_in.is in
    let named : property_named o.state.of c.in-Some-place_in.sub c.args.prop.now ≡ Some c.in-Some-property_named.p = ap (λ t. property_named t c.in-Some-place_in.sub c.args.prop.now) (sym c.of.ensures.value) ∙ sym c.property_named.ensures ∙ c.in-Some-property_named.is in
    let taken : Taken o.state c.in-Some-place_in.sub c.in-Some-property_named.p (given_by c.in-Some-property_named.p c.args.json.now) (Some c.in-Ok-Some.why) o'.state = rw c.in-Ok-Some.field-0-is at c.in-Ok-Some.ensures.ok in
    rw c.refused-in-Ok-Some.ensures (take_refused w (option_map string_bytes c.args.obj.now.sub) c.in-Some-place_in.sub found c.args.prop.now _ c.args.json.now c.in-Some-property_named.p c.in-Ok-Some.why named taken)

pub returns-in-Ok-None-clause-step : goal.returns-in-Ok-None-clause-step
returns-in-Ok-None-clause-step g c =
    let name = string_bytes c.args.obj.now.name in
    let o = c.in-Some.object.now in
    let o' = c.take_text.new.object in
    let w = written c.args.self.now.objects (c.get_mut.follows.lender o') _ name o o' c.as_str.ensures.value c.in-Some.ensures.value (c.get_mut.follows.holds o').1 (c.get_mut.follows.holds o').3 in
    let found : part_named o.state (option_map string_bytes c.args.obj.now.sub) ≡ Some (named_of o.state c.in-Some-place_in.sub) = sym c.place_in.ensures.named ∙ ap (option_map (named_of o.state)) c.in-Some-place_in.is in
    let named : property_named o.state.of c.in-Some-place_in.sub c.args.prop.now ≡ Some c.in-Some-property_named.p = ap (λ t. property_named t c.in-Some-place_in.sub c.args.prop.now) (sym c.of.ensures.value) ∙ sym c.property_named.ensures ∙ c.in-Some-property_named.is in
    let taken : Taken o.state c.in-Some-place_in.sub c.in-Some-property_named.p (given_by c.in-Some-property_named.p c.args.json.now) None o'.state = rw c.in-Ok-None.field-0-is at c.in-Ok-None.ensures.ok in
    rw c.done.ensures (take_done w (option_map string_bytes c.args.obj.now.sub) c.in-Some-place_in.sub found c.args.prop.now _ c.args.json.now c.in-Some-property_named.p named taken)

pub returns-in_default-place_in-clause-step : goal.returns-in_default-place_in-clause-step
returns-in_default-place_in-clause-step g c =
    let name = string_bytes c.args.obj.now.name in
    let o = c.in-Some.object.now in
    let w = written c.args.self.now.objects (c.get_mut.follows.lender o) _ name o o c.as_str.ensures.value c.in-Some.ensures.value (c.get_mut.follows.holds o).1 (c.get_mut.follows.holds o).3 in
    let missing : part_named o.state (option_map string_bytes c.args.obj.now.sub) ≡ None = sym c.place_in.ensures.named ∙ ap (option_map (named_of o.state)) c.in_default-place_in.is in
    rw c.refused-in_default-place_in.ensures (is_refused (no_property (no_such_name (no_part w (option_map string_bytes c.args.obj.now.sub) [] missing))) (stays_with w _ refl))
