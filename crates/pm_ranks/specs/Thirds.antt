-- Two rays, or two facets, that share what no third one shares.
use Rattle.pm_vector.specs.Rows.{Row, dot}
use Rattle.pm_geom.specs.Faces.{ray}
use Rattle.std.specs.Prelude.{ℕ, ◌≡◌, ◌<◌, List, length}
use lib.IntN.{pos}

-- no third ray of V lies in each facet of F in which the rays at i and j both lie
abbrev pub NoThirdRay : List Row → List Row → ℕ → ℕ → Type 0
NoThirdRay V F i j = (l : ℕ) → l < length V → ¬ (l ≡ i) → ¬ (l ≡ j) →
    ¬ ((k : ℕ) → k < length F → dot (ray F k) (ray V i) ≡ pos 0 → dot (ray F k) (ray V j) ≡ pos 0
    → dot (ray F k) (ray V l) ≡ pos 0)

-- no third facet of F holds all rays of V that the facets at i and k share
abbrev pub NoThirdFacet : List Row → List Row → ℕ → ℕ → Type 0
NoThirdFacet V F i k = (l : ℕ) → l < length F → ¬ (l ≡ i) → ¬ (l ≡ k) →
    ¬ ((j : ℕ) → j < length V → dot (ray F i) (ray V j) ≡ pos 0 → dot (ray F k) (ray V j) ≡ pos 0
    → dot (ray F l) (ray V j) ≡ pos 0)
