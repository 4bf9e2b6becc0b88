-- The facet rows of the cones of a fan that is given by lists.
use Rattle.pm_vector.specs.Rows.{HasCols, Row}
use Rattle.pm_dd.specs.declared.fails.DdFail.{DdFail}
use Rattle.pm_dd.specs.declared.fails.DdFail.TheVariants as hull
use Rattle.pm_dd.specs.HullRefusals.{IsShownOnParts}
use Rattle.pm_dd.specs.Hulls.{AreFacets}
use Rattle.pm_laws_normal_fans.proofs.Places.{map_length}
use Rattle.pm_refine.proofs.Cuts.{AreFacetsSoFar, cone_small, facets_more}
use Rattle.pm_refine.proofs.Indexed.{mapped_at}
use Rattle.pm_refine.specs.CutRows.{CutRows, IsSmallFan, fan_from}
use Rattle.pm_refine.specs.Fails.{IsConeFail, IsShownBy, not_made_of}
use Rattle.std.proofs.Common.{arith, inl, inr, refl, subst, sym}
use Rattle.std.specs.List.{slice_index_or}
use Rattle.std.specs.Prelude.{List, [], get_or, length, map, ℕ, ◌+◌, ◌++◌, ◌<◌, ◌^◌, ◌∷◌, ◌≡◌, ◌≤◌}
use Rattle.pm_limits.specs.Limits.{most_rows}

module _ {A : Type 0} (items : A → List Row) (n : ℕ) (cones : List A) (lines : List Row) (i : ℕ) (x : A) (l : i < length cones) (is : x ≡ get_or cones i x) where
  same : items x ≡ slice_index_or (map items cones) i []
  same = sym (mapped_at items cones i x [] l is)

  within : i < length (map items cones)
  within = let e = map_length items cones in omega arith

  pub cone_item : IsSmallFan n (fan_from (map items cones) lines) → HasCols n (items x) × (length (items x) < 2 ^ 30)
  cone_item s = cone_small n (fan_from (map items cones) lines) s i (items x) within same

  pub cone_more : (C all : List CutRows) (F H : List Row) → AreFacetsSoFar n (fan_from (map items cones) lines) i C → AreFacets n (items x) lines F H → length F ≤ most_rows → all ≡ C ++ record { facets = F; hull = H } ∷ [] → AreFacetsSoFar n (fan_from (map items cones) lines) (i + 1) all
  cone_more C all F H so are few e = subst (AreFacetsSoFar n (fan_from (map items cones) lines) (i + 1)) (sym e) (facets_more n (fan_from (map items cones) lines) i C F H so (subst (λ G. AreFacets n G lines F H) same are) few)

  pub cone_fail : (f : DdFail) → IsShownOnParts n lines (items x) f → IsConeFail n (fan_from (map items cones) lines) (not_made_of i 0 f)
  cone_fail (hull.Wide e) h = (within, refl, subst (λ G. IsShownBy n lines G e) same (inl h))
  cone_fail (hull.Many e) h = (within, refl, subst (λ G. IsShownBy n lines G e) same (inr h))
  cone_fail hull.Memory h = tt
