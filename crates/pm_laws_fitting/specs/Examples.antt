-- Which views fit by their size: what holds, and what does not.
use Rattle.pm_clients_geom.specs.LostListExamples.{with_rays}
use Rattle.pm_elim.specs.LostExamples.{odd_next, odd_row}
use Rattle.pm_laws_fitting.specs.Sizes.{FitsBySize, FitsDoubled, IsSizeFor}
use Rattle.pm_props.specs.declared.property.PropId.TheVariants.{LinealitySpace, Vertices}
use Rattle.std.specs.Prelude.{[], ◌∷◌}

pub record SizesAreRead : Type 0 where
  -- of 4 columns entries below 10^9 are small, of 10 entries of at most 2000, and of 33 entries of at most 2
  pub four : IsSizeFor 4 999999999
  pub ten : IsSizeFor 10 2000
  pub most : IsSizeFor 33 2
  -- but entries of at most 3 are not, of 33 columns
  pub too_many : ¬ (IsSizeFor 33 3)
  -- the ray (2, 1, -1) fits, also as further row beside no line
  pub fits : FitsBySize LinealitySpace Vertices (with_rays 3 (odd_row ∷ []))
  pub doubled : FitsDoubled LinealitySpace Vertices (with_rays 3 (odd_row ∷ []))
  -- the rays (2, 1, -1) and (1, 1, 2^126) do not
  pub not_fits : ¬ (FitsBySize LinealitySpace Vertices (with_rays 3 (odd_row ∷ odd_next ∷ [])))
