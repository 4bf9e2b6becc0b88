-- The kinds of the clients of linear programs in each sense: their names, sources and targets.
use Rattle.pm_client.proofs.ViewLaws.{has_listed}
use Rattle.pm_standard.specs.Ways as way
use Rattle.pm_client.specs.Sound.{finds_optimum, optimum, has_way, sought}
use Rattle.pm_clients_lp.specs.Clients.{at_face, at_rays, dual, face, over_facets, over_rows}
use Rattle.pm_object.specs.Reading.{drafted}
use Rattle.pm_standard.specs.Table.{standard_kind}
use Rattle.pm_props.specs.Sets.{has, set_of}
use Rattle.pm_props.specs.declared.kind.Kind.{Kind}
use Rattle.pm_props.specs.declared.property.PropId.TheVariants.{AffineHull, Equations, Facets, Inequalities, LinealitySpace, LinearObjective, MaximalDual, MaximalFace, MaximalValue, MinimalDual, MinimalFace, MinimalValue, Vertices}
use Rattle.pm_props.specs.declared.property.PropId.{PropId}
use Rattle.pm_simplex.specs.declared.sense.Sense.TheVariants.{Maximal, Minimal}
use Rattle.pm_simplex.specs.declared.sense.Sense.{Sense}
use Rattle.std.proofs.Common.{ap, refl, subst, sym, true, ◌∙◌}
use Rattle.pm_types.specs.Values.{PropertyValue}
use Rattle.std.specs.Prelude.{Bool, List, None, false, [], ℕ, ◌∷◌, ◌≡◌}

abbrev pub ray_sources : List PropId
ray_sources = Vertices ∷ LinealitySpace ∷ LinearObjective ∷ []

abbrev pub row_sources : List PropId
row_sources = Inequalities ∷ Equations ∷ LinearObjective ∷ []

abbrev pub facet_sources : List PropId
facet_sources = Facets ∷ AffineHull ∷ LinearObjective ∷ []

abbrev pub face_sources : Sense → List PropId
face_sources sense = Vertices ∷ optimum sense ∷ LinearObjective ∷ []

-- ---- at rays
module _ (k : Kind) (sense : Sense) (wide : Bool) (is : k ≡ standard_kind (at_rays sense wide)) where
  pub rays_read : k.sources ≡ set_of ray_sources
  rays_read = ap (λ z. z.sources) is ∙ by sense wide
    where
      by : (s : Sense) (w : Bool) → (standard_kind (at_rays s w)).sources ≡ set_of ray_sources
      by Maximal false = refl
      by Minimal false = refl
      by Maximal true = refl
      by Minimal true = refl

  pub rays_found : k.targets ≡ set_of (optimum sense ∷ [])
  rays_found = ap (λ z. z.targets) is ∙ by sense wide
    where
      by : (s : Sense) (w : Bool) → (standard_kind (at_rays s w)).targets ≡ set_of (optimum s ∷ [])
      by Maximal false = refl
      by Minimal false = refl
      by Maximal true = refl
      by Minimal true = refl

  pub rays_named : has_way k (way.at_rays (sought sense)) ≡ true
  rays_named = subst (λ (z : Kind). has_way z (way.at_rays (sought sense)) ≡ true) (sym is) (by sense wide)
    where
      by : (s : Sense) (w : Bool) → has_way (standard_kind (at_rays s w)) (way.at_rays (sought s)) ≡ true
      by Maximal false = refl
      by Minimal false = refl
      by Maximal true = refl
      by Minimal true = refl

-- ---- over INEQUALITIES
module _ (k : Kind) (sense : Sense) (wide : Bool) (is : k ≡ standard_kind (over_rows sense wide)) where
  pub rows_read : k.sources ≡ set_of row_sources
  rows_read = ap (λ z. z.sources) is ∙ by sense wide
    where
      by : (s : Sense) (w : Bool) → (standard_kind (over_rows s w)).sources ≡ set_of row_sources
      by Maximal false = refl
      by Minimal false = refl
      by Maximal true = refl
      by Minimal true = refl

  pub rows_found : k.targets ≡ set_of (optimum sense ∷ [])
  rows_found = ap (λ z. z.targets) is ∙ by sense wide
    where
      by : (s : Sense) (w : Bool) → (standard_kind (over_rows s w)).targets ≡ set_of (optimum s ∷ [])
      by Maximal false = refl
      by Minimal false = refl
      by Maximal true = refl
      by Minimal true = refl

  pub rows_named : finds_optimum k sense Inequalities ≡ true
  rows_named = subst (λ (z : Kind). finds_optimum z sense Inequalities ≡ true) (sym is) (by sense wide)
    where
      by : (s : Sense) (w : Bool) → finds_optimum (standard_kind (over_rows s w)) s Inequalities ≡ true
      by Maximal false = refl
      by Minimal false = refl
      by Maximal true = refl
      by Minimal true = refl

-- ---- over FACETS
module _ (k : Kind) (sense : Sense) (wide : Bool) (is : k ≡ standard_kind (over_facets sense wide)) where
  pub facets_read : k.sources ≡ set_of facet_sources
  facets_read = ap (λ z. z.sources) is ∙ by sense wide
    where
      by : (s : Sense) (w : Bool) → (standard_kind (over_facets s w)).sources ≡ set_of facet_sources
      by Maximal false = refl
      by Minimal false = refl
      by Maximal true = refl
      by Minimal true = refl

  pub facets_found : k.targets ≡ set_of (optimum sense ∷ dual sense ∷ [])
  facets_found = ap (λ z. z.targets) is ∙ by sense wide
    where
      by : (s : Sense) (w : Bool) → (standard_kind (over_facets s w)).targets ≡ set_of (optimum s ∷ dual s ∷ [])
      by Maximal false = refl
      by Minimal false = refl
      by Maximal true = refl
      by Minimal true = refl

  pub facets_named : finds_optimum k sense Facets ≡ true
  facets_named = subst (λ (z : Kind). finds_optimum z sense Facets ≡ true) (sym is) (by sense wide)
    where
      by : (s : Sense) (w : Bool) → finds_optimum (standard_kind (over_facets s w)) s Facets ≡ true
      by Maximal false = refl
      by Minimal false = refl
      by Maximal true = refl
      by Minimal true = refl

  pub dual_named : has_way k (way.dual (sought sense)) ≡ true
  dual_named = subst (λ (z : Kind). has_way z (way.dual (sought sense)) ≡ true) (sym is) (by sense wide)
    where
      by : (s : Sense) (w : Bool) → has_way (standard_kind (over_facets s w)) (way.dual (sought s)) ≡ true
      by Maximal false = refl
      by Minimal false = refl
      by Maximal true = refl
      by Minimal true = refl

-- ---- the rays at an optimum
module _ (k : Kind) (sense : Sense) (wide : Bool) (is : k ≡ standard_kind (at_face sense wide)) where
  pub face_read : k.sources ≡ set_of (face_sources sense)
  face_read = ap (λ z. z.sources) is ∙ by sense wide
    where
      by : (s : Sense) (w : Bool) → (standard_kind (at_face s w)).sources ≡ set_of (face_sources s)
      by Maximal false = refl
      by Minimal false = refl
      by Maximal true = refl
      by Minimal true = refl

  pub face_found : k.targets ≡ set_of (face sense ∷ [])
  face_found = ap (λ z. z.targets) is ∙ by sense wide
    where
      by : (s : Sense) (w : Bool) → (standard_kind (at_face s w)).targets ≡ set_of (face s ∷ [])
      by Maximal false = refl
      by Minimal false = refl
      by Maximal true = refl
      by Minimal true = refl

  pub face_named : has_way k (way.at_face (sought sense)) ≡ true
  face_named = subst (λ (z : Kind). has_way z (way.at_face (sought sense)) ≡ true) (sym is) (by sense wide)
    where
      by : (s : Sense) (w : Bool) → has_way (standard_kind (at_face s w)) (way.at_face (sought s)) ≡ true
      by Maximal false = refl
      by Minimal false = refl
      by Maximal true = refl
      by Minimal true = refl

-- ---- what is listed is had
pub has_optimum : (set : ℕ) (sense : Sense) (more : List PropId) → set ≡ set_of (optimum sense ∷ more) → has set (optimum sense) ≡ true
has_optimum set Maximal more e = has_listed set (MaximalValue ∷ more) MaximalValue e
has_optimum set Minimal more e = has_listed set (MinimalValue ∷ more) MinimalValue e

pub has_face : (set : ℕ) (sense : Sense) → set ≡ set_of (face sense ∷ []) → has set (face sense) ≡ true
has_face set Maximal e = has_listed set (MaximalFace ∷ []) MaximalFace e
has_face set Minimal e = has_listed set (MinimalFace ∷ []) MinimalFace e

pub has_dual : (set : ℕ) (sense : Sense) → set ≡ set_of (optimum sense ∷ dual sense ∷ []) → has set (dual sense) ≡ true
has_dual set Maximal e = has_listed set (MaximalValue ∷ MaximalDual ∷ []) MaximalDual e
has_dual set Minimal e = has_listed set (MinimalValue ∷ MinimalDual ∷ []) MinimalDual e

pub has_value : (set : ℕ) (sense : Sense) → set ≡ set_of (face_sources sense) → has set (optimum sense) ≡ true
has_value set Maximal e = has_listed set (face_sources Maximal) MaximalValue e
has_value set Minimal e = has_listed set (face_sources Minimal) MinimalValue e

-- and so are the others that the face is found from
pub has_rays : (set : ℕ) (sense : Sense) → set ≡ set_of (face_sources sense) → has set Vertices ≡ true
has_rays set Maximal e = has_listed set (face_sources Maximal) Vertices e
has_rays set Minimal e = has_listed set (face_sources Minimal) Vertices e

pub has_objective : (set : ℕ) (sense : Sense) → set ≡ set_of (face_sources sense) → has set LinearObjective ≡ true
has_objective set Maximal e = has_listed set (face_sources Maximal) LinearObjective e
has_objective set Minimal e = has_listed set (face_sources Minimal) LinearObjective e

pub dual_missing : (sense : Sense) (x : PropertyValue) → drafted (dual sense) (record { property = optimum sense; value = x } ∷ []) ≡ None
dual_missing Maximal x = refl
dual_missing Minimal x = refl
