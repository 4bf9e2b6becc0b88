-- A value is right in other orders too, where these agree in what its property speaks of: it is shown no other.
use Rattle.pm_vector.specs.Numbers.{Ratio}
use Rattle.pm_geom.specs.Things.{Orders}
use Rattle.pm_types.specs.Things.{Thing}
use Rattle.pm_props.specs.Properties.{facets_tag, rays_tag}
use Rattle.pm_types.specs.Right.{Means, Right, order_if, shown_to}
use Rattle.pm_types.specs.Values.{PropertyValue}
use Rattle.pm_props.specs.declared.property.PropId.{PropId}
use Rattle.std.proofs.Common.{ap, false, inl, inr, refl, subst, sym, ◌∙◌}
use Rattle.std.specs.Prelude.{Bool, List, ◌≡◌, ◌⊎◌}

-- the orders agree in what the property speaks of
pub record Agrees (p : PropId) (o o' : Orders) : Type 0 where
  pub rays : (rays_tag p ≡ false) ⊎ (o'.rays ≡ o.rays)
  pub facets : (facets_tag p ≡ false) ⊎ (o'.facets ≡ o.facets)
  pub cones : (facets_tag p ≡ false) ⊎ (o'.cones ≡ o.cones)

same_shown : {A : Type 0} (b : Bool) (x y : List A) → (b ≡ false) ⊎ (y ≡ x) → order_if b x ≡ order_if b y
same_shown b x y (inl e) = ap (λ c. order_if c x) e ∙ sym (ap (λ c. order_if c y) e)
same_shown b x y (inr e) = ap (order_if b) (sym e)

pub right_in_orders : (p : PropId) (v : PropertyValue) (t : Thing) (o o' : Orders) (c : List Ratio) → Agrees p o o' → Right p v t o c → Right p v t o' c
right_in_orders p v t o o' c a h =
    subst (λ K. Means p v t (record (shown_to p o') { cones = K }) c) (same_shown (facets_tag p) o.cones o'.cones a.cones)
    (subst (λ F. Means p v t (record (shown_to p o) { rays = order_if (rays_tag p) o'.rays; facets = F }) c) (same_shown (facets_tag p) o.facets o'.facets a.facets)
    (subst (λ V. Means p v t (record (shown_to p o) { rays = V }) c) (same_shown (rays_tag p) o.rays o'.rays a.rays) h))
