-- When an object is honest.
use Rattle.std.specs.Prelude.{◌≡◌, Bool, true, false, List, [], filter, map}
use Rattle.std.specs.List.{Contains, list_any}
use Rattle.pm_types.specs.Things.{Thing}
use Rattle.pm_geom.specs.Things.{Orders}
use Rattle.pm_props.specs.Properties.{rays_tag, facets_tag}
use Rattle.pm_types.specs.Right.{RightAll}
use Rattle.pm_types.specs.Values.{Fact}
use Rattle.pm_props.specs.declared.property.PropId.{PropId}
use Rattle.pm_object.specs.State.{HeldValue, State}
use Rattle.pm_object.specs.declared.held.Origin.{Origin}
use Rattle.pm_object.specs.declared.held.Origin.TheVariants.{Given, Stored, Computed}

-- the held values as facts at their places
abbrev pub facts : List HeldValue → List Fact
facts held = map (λ h. record { place = h.place; property = h.property; value = h.value }) held

abbrev pub is_based : Origin → Bool
is_based Given = true
is_based Stored = true
is_based Computed = false

-- the values that honesty starts from: those that were given or stored
abbrev pub based : List HeldValue → List HeldValue
based held = filter (λ h. is_based h.origin) held

-- some property has the tag
abbrev pub has_tag : (PropId → Bool) → List HeldValue → Bool
has_tag tag held = list_any (λ h. tag h.property) held

pub record HonestAnswer (held : List HeldValue) (t : Thing) (o : Orders) : Type 0 where
  pub orders : Orders
  pub right : RightAll (facts held) t orders
  pub rays : has_tag rays_tag (based held) ≡ true → orders.rays ≡ o.rays
  pub facets : has_tag facets_tag (based held) ≡ true → orders.facets ≡ o.facets
  pub cones : has_tag facets_tag (based held) ≡ true → orders.cones ≡ o.cones

-- for every thing of the object's type, and all orders, for which the given and stored values are right, there are
-- orders for which all held values are right; an order of which a given or stored value speaks stays
pub record IsHonest (o : State) : Type 0 where
  pub answer : (t : Thing) (p : Orders) → t.of ≡ o.of → RightAll (facts (based o.held)) t p
      → HonestAnswer o.held t p

-- the object is honest, and while it has no round each of its values was given or stored
pub record IsKept (o : State) : Type 0 where
  pub honest : IsHonest o
  pub based : o.rounds ≡ [] → (h : HeldValue) → Contains o.held h → is_based h.origin ≡ true
