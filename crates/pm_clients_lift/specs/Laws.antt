-- What right values of cells tell (Edelsbrunner, Algorithms in Combinatorial Geometry, chapter 13).
use Rattle.pm_geom.specs.Graphs.{holds}
use Rattle.pm_geom.specs.Things.{Orders}
use Rattle.pm_lift.specs.Spheres.{HasAffineFunction, HasEmptySphere}
use Rattle.pm_props.specs.declared.property.PropId.TheVariants.{DelaunayCells}
use Rattle.pm_types.specs.Right.{Right}
use Rattle.pm_types.specs.Things.{IsThing, Thing}
use Rattle.pm_types.specs.Values.{sets}
use Rattle.pm_vector.specs.Numbers.{Ratio}
use Rattle.std.specs.List.{All}
use Rattle.std.specs.Prelude.{List, ℕ}

-- the sites of each cell of right DELAUNAY_CELLS lie on a sphere, and all others outside of it; and some affine
-- function is equal to the squares of the distances from the origin exactly at these sites, and less at all others
abbrev pub DelaunaySpheresAreEmpty : Type 0
DelaunaySpheresAreEmpty = (t : Thing) (o : Orders) (c : List Ratio) → IsThing t
    → (rows : List (List ℕ)) (n : ℕ) → Right DelaunayCells (sets rows n) t o c →
    All (λ cell. HasAffineFunction t.cols t.sites (holds cell)
    × HasEmptySphere t.cols t.sites (holds cell)) rows
