-- Which rows of V lie on which rows of F.
use Rattle.std.specs.Prelude.{ℕ, suc, ◌==◌, List, [], ◌∷◌, map, if◌then◌else◌, unsigned_abs}
use Rattle.std.specs.List.{Contains}
use Rattle.pm_vector.specs.Rows.{Row, dot}
use Rattle.pm_geom.specs.Evidence.{IsWideProduct}
use Rattle.pm_geom.specs.declared.evidence.Evidence.TheVariants.{E4}
use Rattle.pm_incidence.specs.declared.fails.IncFail.{IncFail}
use Rattle.pm_incidence.specs.declared.fails.IncFail.TheVariants.{Memory, Wide}
use Rattle.pm_vector.specs.Products.{ProductsStay}

-- the places, counted from j, of the rows of V with which the product of f is 0
abbrev pub places_from : ℕ → Row → List Row → List ℕ
places_from j f [] = []
places_from j f (v ∷ V) = if unsigned_abs (dot f v) == 0 then j ∷ places_from (suc j) f V
    else places_from (suc j) f V

-- for each row of F these places, counted from 0
abbrev pub incidence : List Row → List Row → List (List ℕ)
incidence F V = map (λ f. places_from 0 f V) F

-- each product of a row of F with a row of V stays in the range
pub record AllStay (F V : List Row) : Type 0 where
  pub stay : (f v : Row) → Contains F f → Contains V v → ProductsStay f v

-- an error's evidence names a row of V and a row of F whose product leaves the range
abbrev pub IsWideFor : List Row → List Row → IncFail → Type 0
IsWideFor F V Memory = Unit {0}
IsWideFor F V (Wide (E4 first second)) = Contains V first × Contains F second × IsWideProduct first second
IsWideFor F V (Wide e) = ⊥
