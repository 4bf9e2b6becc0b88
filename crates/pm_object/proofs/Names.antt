-- Which names are held.
use Rattle.pm_object.specs.State.{HeldValue, is_held, names_of, value_of}
use Rattle.pm_props.proofs.Members.{has-empty, has-only, has-union}
use Rattle.pm_props.specs.Properties.{number}
use Rattle.pm_props.specs.Places.{same_property}
use Rattle.pm_props.specs.Sets.{has, only, union}
use Rattle.pm_props.specs.declared.property.PropId.{PropId}
use Rattle.pm_props.specs.declared.set.PropSet.{PropSet}
use Rattle.std.proofs.Common.{ap, arith, eqb, false, refl, true, ◌∙◌}
use Rattle.std.specs.Option.{is_some}
use Rattle.std.specs.Prelude.{Bool, List, Some, [], fold, if◌then◌else◌, map, nat_eq, ℕ, ◌∷◌, ◌||◌, ◌≡◌}

or_assoc : (a b c : Bool) → ((a || b) || c) ≡ (a || (b || c))
or_assoc true b c = refl
or_assoc false b c = refl

either : (p : PropId) (h : HeldValue) (held : List HeldValue) → (same_property p h.property || is_held p held) ≡ is_held p (h ∷ held)
either p h held = by (same_property p h.property)
  where
    by : (t : Bool) → (t || is_held p held) ≡ is_some (if t then Some h.value else value_of p held)
    by true = refl
    by false = refl

turned : (p q : PropId) → has (only q) p ≡ same_property p q
turned p q = has-only q p ∙ swap (number q) (number p)
  where
    swap : (a b : ℕ) → eqb a b ≡ nat_eq b a
    swap a b = grind arith

pub has_names : (s : PropSet) (held : List HeldValue) (p : PropId) → has (fold (λ s q. union s (only q)) s (map (λ h. h.property) held)) p ≡ (has s p || is_held p held)
has_names s [] p = by (has s p)
  where
    by : (t : Bool) → t ≡ (t || false)
    by true = refl
    by false = refl
has_names s (h ∷ held) p =
    has_names (union s (only h.property)) held p
    ∙ ap (λ t. t || is_held p held) (has-union s (only h.property) p)
    ∙ or_assoc (has s p) (has (only h.property) p) (is_held p held)
    ∙ ap (λ t. has s p || (t || is_held p held)) (turned p h.property)
    ∙ ap (λ t. has s p || t) (either p h held)

pub names_held : (held : List HeldValue) (p : PropId) → has (names_of held) p ≡ is_held p held
names_held held p = has_names 0 held p ∙ ap (λ t. t || is_held p held) (has-empty p)
