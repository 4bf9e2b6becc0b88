-- A client whose kind is fresh in an order may choose it: what it reads does not speak of that order, and stays right.
use Rattle.pm_client.proofs.Puts.{IsRightPut, RightIn}
use Rattle.pm_types.specs.Things.{AreOrders, Thing}
use Rattle.pm_geom.specs.Things.{Orders}
use Rattle.pm_object.specs.Reading.{Put, ViewSeen}
use Rattle.pm_types.proofs.Frame.{Agrees, right_in_orders}
use Rattle.pm_props.specs.Kinds.{IsFresh}
use Rattle.pm_props.specs.Properties.{facets_tag, rays_tag}
use Rattle.pm_types.specs.Right.{RightAll, objective_of}
use Rattle.pm_props.specs.Sets.{has}
use Rattle.pm_types.specs.Values.{Fact}
use Rattle.pm_props.specs.declared.kind.Kind.{Kind}
use Rattle.pm_client.proofs.ViewLaws.{has_listed}
use Rattle.pm_props.proofs.Numbers.{number_is}
use Rattle.pm_props.specs.Properties.{number}
use Rattle.pm_props.specs.Sets.{set_of}
use Rattle.pm_props.specs.declared.property.PropId.{PropId}
use Rattle.std.proofs.Common.{eqb, false, inl, inr, subst, sym, true, true≢false, ◌∙◌}
use Rattle.std.proofs.lemmas.Bool.{and_parts, eqb-true, not-true, or_cases}
use Rattle.std.specs.List.{AllByRecursion, Contains, list_all, list_any}
use Rattle.std.specs.Prelude.{Bool, IsTrue, List, [], not, ◌∷◌, ◌≡◌}

-- what was read stays right in orders that agree in all that it speaks of
pub read_in_orders : (read : List Fact) (t : Thing) (o o' : Orders) → AreOrders t o' → ((f : Fact) → Contains read f → Agrees f.property o o') → RightAll read t o → RightAll read t o'
read_in_orders read t o o' orders agrees right = record {
  thing = right.thing;
  orders = orders;
  each = λ f c. right_in_orders f.property f.value t o o' (objective_of t f.place) (agrees f c) (right.each f c);
  together = right.together;
}

-- each fact is one of a source
abbrev pub AreSources : Kind → List Fact → Type 0
AreSources kind read = (f : Fact) → Contains read f → IsTrue (has kind.sources f.property)

-- a kind that is fresh in the order of the rays, and a kind that is fresh in that of the facets
module _ (v : ViewSeen) (puts : List Put) (t : Thing) (o o' : Orders) (sources : AreSources v.kind v.facts) (orders : AreOrders t o') (read : RightAll v.facts t o) (each : AllByRecursion (IsRightPut v t o') puts) where
  pub fresh_rays : IsFresh rays_tag v.kind → o'.facets ≡ o.facets → o'.cones ≡ o.cones → RightIn v puts t o
  fresh_rays fresh facets cones = record {
    orders = o';
    keeps = record { rays = λ n. absurd (n fresh); facets = λ n. facets; cones = λ n. cones };
    read = read_in_orders v.facts t o o' orders (λ f c. record { rays = inl (fresh.sources f.property (sources f c)); facets = inr facets; cones = inr cones }) read;
    each = each;
  }

  pub fresh_facets : IsFresh facets_tag v.kind → o'.rays ≡ o.rays → RightIn v puts t o
  fresh_facets fresh rays = record {
    orders = o';
    keeps = record { rays = λ n. rays; facets = λ n. absurd (n fresh); cones = λ n. absurd (n fresh) };
    read = read_in_orders v.facts t o o' orders (λ f c. record { rays = inr rays; facets = inl (fresh.sources f.property (sources f c)); cones = inl (fresh.sources f.property (sources f c)) }) read;
    each = each;
  }

-- ---- fresh kinds
none_tagged : (tag : PropId → Bool) (ps : List PropId) (p : PropId) → list_any (λ q. eqb (number q) (number p)) ps ≡ true → list_all (λ q. not (tag q)) ps ≡ true → tag p ≡ false
none_tagged tag [] p i h = absurd (true≢false (sym i))
none_tagged tag (q ∷ ps) p i h =
    let both = and_parts (not (tag q)) (list_all (λ r. not (tag r)) ps) h in
    elim (or_cases (eqb (number q) (number p)) (list_any (λ r. eqb (number r) (number p)) ps) i) [
      | inl e ↦ subst (λ r. tag r ≡ false) (number_is q p (eqb-true (number q) (number p) e)) (not-true (tag q) both.0)
      | inr e ↦ none_tagged tag ps p e both.1
    ]

-- a kind with a target p of the tag, and these sources, of which none has it
pub fresh_kind : (tag : PropId → Bool) (kind : Kind) (targets sources : List PropId) (p : PropId) → kind.targets ≡ set_of targets → kind.sources ≡ set_of sources
    → list_any (λ q. eqb (number q) (number p)) targets ≡ true → tag p ≡ true → list_all (λ q. not (tag q)) sources ≡ true → IsFresh tag kind
fresh_kind tag kind targets sources p has_targets has_sources target tagged none = record {
  target = (p, has_listed kind.targets targets p has_targets ∙ target, tagged);
  sources = λ q h. none_tagged tag sources q (sym (has_listed kind.sources sources q has_sources) ∙ h) none;
}
