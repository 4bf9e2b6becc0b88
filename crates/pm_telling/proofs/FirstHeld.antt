-- How a value came to be held, from the code's values.
use Rattle.pm_telling.specs.Telling.{origin_of}
use Rattle.pm_object.proofs.Find.{is_other, is_property}
use Rattle.pm_object.specs.State.{HeldValue, read_at, value_of}
use Rattle.pm_object.specs.Views.{held_seen}
use Rattle.pm_object.specs.declared.held.Held.{Held}
use Rattle.pm_object.specs.declared.held.Origin.{Origin}
use Rattle.pm_props.proofs.Places.{same_property_is, same_property_refl}
use Rattle.pm_props.specs.Places.{place_of, same_place, same_property}
use Rattle.pm_props.specs.declared.property.PropId.{PropId}
use Rattle.pm_props.specs.contracts.property.PropId.{the_type}
use Rattle.std.proofs.lemmas.Bool.{cases_Bool}
use Rattle.std.proofs.Common.{ap, inl, inr, refl, subst, sym, true≢false, ◌∙◌, ◌≢◌}
use Rattle.std.specs.Option.{is_some, option_map}
use Rattle.std.specs.Prelude.{Bool, IfNone, List, None, Option, Some, [], false, find, if◌then◌else◌, map, true, ℕ, ◌&&◌, ◌∷◌, ◌≡◌}
use denote.Enum.Bare.{sameb}

differs : (p q : PropId) → q ≢ p → (b : Bool) → same_property p q ≡ b → same_property p q ≡ false
differs p q other true e = absurd (other (sym (same_property_is p q e)))
differs p q other false e = e

-- the answer of `==` on two properties
pub same_test : (p q : PropId) → sameb the_type q p ≡ same_property p q
same_test p q = elim (cases_Bool (sameb the_type q p)) [
  | inl e ↦ e ∙ sym (subst (λ z. same_property p z ≡ true) (sym (is_property q p e)) (same_property_refl p))
  | inr e ↦ e ∙ sym (differs p q (is_other q p e) (same_property p q) refl)
]

-- the value is one of the property, and is read there
abbrev is_read_as : Option ℕ → PropId → Held → Bool
is_read_as sub p h = same_place h.place (place_of sub h.id) && same_property p h.id

pub origin_is : (sub : Option ℕ) (p : PropId) (xs : List Held) → origin_of p (read_at sub (map held_seen xs)) ≡ option_map (λ h. h.origin) (find (is_read_as sub p) xs)
origin_is sub p [] = refl
origin_is sub p (h ∷ xs) = elim (cases_Bool (same_place h.place (place_of sub h.id))) [
  | inl here' ↦ elim (cases_Bool (same_property p h.id)) [
    | inl same ↦ rw (here', same) refl
    | inr other ↦ rw (here', other) (origin_is sub p xs)
  ]
  | inr away ↦ rw away (origin_is sub p xs)
]

value_is : (p : PropId) (held : List HeldValue) → value_of p held ≡ option_map (λ h. h.value) (find (λ (h : HeldValue). same_property p h.property) held)
value_is p [] = refl
value_is p (h ∷ held) = by (same_property p h.property) (value_is p held)
  where
    by : (b : Bool) → value_of p held ≡ option_map (λ h. h.value) (find (λ (h : HeldValue). same_property p h.property) held)
        → (if b then Some h.value else value_of p held) ≡ option_map (λ h. h.value) (if b then Some h else find (λ (h : HeldValue). same_property p h.property) held)
    by true e = refl
    by false e = e

-- where no origin is told, nothing is held
not_mapped : {A B : Type 0} (f : A → B) (x : Option A) → option_map f x ≡ None → x ≡ None
not_mapped f None e = refl
not_mapped f (Some a) e = absurd (true≢false (ap is_some e))

no_origin : (p : PropId) (held : List HeldValue) → origin_of p held ≡ None → value_of p held ≡ None
no_origin p held none = value_is p held ∙ ap (option_map (λ (h : HeldValue). h.value)) (not_mapped (λ (h : HeldValue). h.origin) (find (λ (h : HeldValue). same_property p h.property) held) none)

pub none_where_no_origin : (p : PropId) (held : List HeldValue) (r : Option Origin) → r ≡ origin_of p held → IfNone r (value_of p held ≡ None)
none_where_no_origin p held None e = no_origin p held (sym e)
none_where_no_origin p held (Some g) e = tt
