-- Sites with heights beside a half line: which values are right for it.
use Rattle.std.specs.Prelude.{ℕ, List, [], ◌∷◌, map}
use Rattle.pm_examples_values.specs.RayExamples.{half_line_thing}
use Rattle.pm_geom.specs.Things.{Orders}
use Rattle.pm_lift.specs.Examples.{flat, pair, peak, point, three_sites, uneven}
use Rattle.pm_props.specs.declared.property.PropId.{PropId}
use Rattle.pm_props.specs.declared.property.PropId.TheVariants.{DelaunayCells, RegularCells, SiteHeights, Sites}
use Rattle.pm_types.specs.Forms.{is_formed, is_row}
use Rattle.pm_object_type.specs.declared.object_type.ObjectType.TheVariants.{Polytope}
use Rattle.pm_types.specs.Right.{Right}
use Rattle.pm_types.specs.Things.{IsThing, Thing}
use Rattle.pm_types.specs.Values.{PropertyValue, matrix, sets}
use Rattle.pm_types.specs.Views.{over_one, ratios}
use Rattle.std.specs.Prelude.{replicate, false, true, ◌≡◌}
use lib.IntN.{pos}

-- the sites 0, 1 and 2 on a line, the middle one above the segment between the others
abbrev pub sited : Thing
sited = record half_line_thing { sites = three_sites; heights = peak }

-- the sites 0, 1 and 3
abbrev pub unevenly_sited : Thing
unevenly_sited = record half_line_thing { sites = uneven; heights = flat }

abbrev pub no_orders : Orders
no_orders = record { rays = []; facets = []; cones = [] }

-- the value is right for a thing, in no orders
abbrev pub Has : Thing → PropId → PropertyValue → Type 0
Has t p v = Right p v t no_orders []

pub record SitesAreRight : Type 0 where
  pub thing : IsThing sited
  -- a thing has a height for each site, and a site has a positive first entry
  pub no_heights : ¬ (IsThing (record half_line_thing { sites = three_sites }))
  pub direction
      : ¬ (IsThing (record half_line_thing {
        sites = pair (pos 0) (pos 1) ∷ [];
        heights = over_one (pos 0) ∷ [];
      }))
  -- sites up to positive scale, in their order
  pub sites : Has sited Sites (matrix 2 (map ratios three_sites))
  pub scaled : Has (record half_line_thing { sites = point 1 ∷ []; heights = over_one (pos 0) ∷ [] }) Sites
      (matrix 2 (ratios (pair (pos 2) (pos 2)) ∷ []))
  pub turned : ¬ (Has sited Sites (matrix 2 (map ratios (point 2 ∷ point 1 ∷ point 0 ∷ []))))
  pub fewer : ¬ (Has sited Sites (matrix 2 (map ratios (point 0 ∷ point 1 ∷ []))))
  pub heights : Has sited SiteHeights (matrix 3 (peak ∷ []))
  pub other_heights : ¬ (Has sited SiteHeights (matrix 3 (flat ∷ [])))
  -- the segment below the peak is the one cell
  pub cells : Has sited RegularCells (sets ((0 ∷ 2 ∷ []) ∷ []) 3)
  pub with_peak : ¬ (Has sited RegularCells (sets ((0 ∷ 1 ∷ 2 ∷ []) ∷ []) 3))
  pub no_cell : ¬ (Has sited RegularCells (sets [] 3))
  pub other_count : ¬ (Has sited RegularCells (sets ((0 ∷ 2 ∷ []) ∷ []) 1))
  -- neighbours are the Delaunay cells, whatever the heights are
  pub delaunay : Has unevenly_sited DelaunayCells (sets ((0 ∷ 1 ∷ []) ∷ (1 ∷ 2 ∷ []) ∷ []) 3)
  pub not_turned : ¬ (Has unevenly_sited DelaunayCells (sets ((1 ∷ 2 ∷ []) ∷ (0 ∷ 1 ∷ []) ∷ []) 3))
  -- forms: sites have at most 32 columns, and heights are one row of at most most_rows entries, or of none
  pub widest : is_formed Sites (matrix 32 []) ≡ true
  pub wider : is_formed Sites (matrix 33 []) ≡ false
  pub no_height : is_formed SiteHeights (matrix 0 ([] ∷ [])) ≡ true
  pub many_heights : is_formed SiteHeights (matrix 40 (replicate 40 (over_one (pos 1)) ∷ [])) ≡ true
  pub two_rows : is_formed SiteHeights (matrix 1 ((over_one (pos 1) ∷ []) ∷ (over_one (pos 1) ∷ []) ∷ []))
      ≡ false
  pub no_row : is_formed SiteHeights (matrix 0 []) ≡ false
  pub behind : is_row Polytope Sites (ratios (pair (pos 0) (pos 1))) ≡ false
  pub before : is_row Polytope Sites (ratios (pair (pos 1) (pos 0))) ≡ true
