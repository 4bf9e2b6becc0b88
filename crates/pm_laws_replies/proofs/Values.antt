-- The name of a property tells it, and the text of a value tells that, where it is read back.
use Rattle.std.proofs.Common.{ap, eqb, refl, subst, sym, ℕ, List, Bool, true, ◌≡◌, ◌∙◌, ◌||◌, Option, Some, None}
use Rattle.std.specs.Prelude.{Ok, find, slice_get}
use Rattle.std.specs.Str.{bytes_eq}
use Rattle.std.proofs.lemmas.Bool.{eqb-true}
use Rattle.pm_files.specs.ValueJson.{json_of, value_text}
use Rattle.pm_json.specs.Readings.{Read, reading}
use Rattle.pm_object_type.specs.declared.object_type.ObjectType.{ObjectType}
use Rattle.pm_object_type.specs.declared.object_type.ObjectType.TheVariants.{Cone, Fan, Polytope}
use Rattle.pm_props.proofs.Every.{all_properties}
use Rattle.pm_props.proofs.Numbers.{property_at-number}
use Rattle.pm_props.specs.Properties.{every_property, number}
use Rattle.pm_props.specs.declared.property.PropId.{PropId}
use Rattle.pm_script.specs.Replies.{name_shown}
use Rattle.pm_types.specs.Values.{PropertyValue}
use Rattle.serde_json.specs.Data.{Data}
use Rattle.serde_json.specs.Read.{read}
use Rattle.pm_laws_replies.specs.Told.{IsReadBack, ShownTextsTellValues}

-- the property is shown by this name in some table
abbrev is_shown_so : List ℕ → PropId → Bool
is_shown_so name p = bytes_eq name (name_shown Polytope p) || (bytes_eq name (name_shown Cone p) || bytes_eq name (name_shown Fan p))

abbrev number_in : Option PropId → ℕ
number_in None = 99
number_in (Some p) = number p

abbrev is_found : ObjectType → PropId → Bool
is_found of p = eqb (number_in (find (is_shown_so (name_shown of p)) every_property)) (number p)

found : (of : ObjectType) (p : PropId) → is_found of p ≡ true
found Polytope p = all_properties (is_found Polytope) refl p
found Cone p = all_properties (is_found Cone) refl p
found Fan p = all_properties (is_found Fan) refl p

found_number : (of : ObjectType) (p : PropId) → number_in (find (is_shown_so (name_shown of p)) every_property) ≡ number p
found_number of p = eqb-true (number_in (find (is_shown_so (name_shown of p)) every_property)) (number p) (found of p)

same_number : (p q : PropId) → number p ≡ number q → p ≡ q
same_number p q e = some_same (sym (property_at-number p) ∙ ap (λ k. slice_get every_property k) e ∙ property_at-number q)
  where
    some_same : {X : Type 0} {a b : X} → Some a ≡ Some b → a ≡ b
    some_same e = cc

same_property_shown : (of og : ObjectType) (p q : PropId) → name_shown of p ≡ name_shown og q → p ≡ q
same_property_shown of og p q e = same_number p q (sym (found_number of p) ∙ ap (λ z. number_in (find (is_shown_so z) every_property)) e ∙ found_number og q)

some_data : (d e : Data) → Some d ≡ Some e → d ≡ e
some_data d e h = cc

abbrev read_ok : PropertyValue → Read PropertyValue
read_ok v = Ok v

ok_value : (v w : PropertyValue) → read_ok v ≡ read_ok w → v ≡ w
ok_value v w h = cc

values_same : (p : PropId) (v w : PropertyValue) → value_text p v ≡ value_text p w → IsReadBack p v → IsReadBack p w → v ≡ w
values_same p v w e x y =
    let json = some_data (json_of p v) (json_of p w) (sym x.text ∙ ap read e ∙ y.text) in
    ok_value v w (sym x.value ∙ ap (reading p) json ∙ y.value)

pub same_value_told : ShownTextsTellValues
same_value_told of og p q v w names texts =
    let same = same_property_shown of og p q names in (
      same,
      λ x y. values_same p v w (texts ∙ ap (λ z. value_text z w) (sym same)) x (subst (λ z. IsReadBack z w) (sym same) y),
    )
