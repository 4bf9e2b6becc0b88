-- The laws of the stated order, and of adjacency without a list of rays.
use Rattle.std.specs.Prelude.{ℕ, ◌<◌, None, Some, List, length, take}
use Rattle.pm_vector.specs.Rows.{Row, HasCols}
use Rattle.pm_vector.specs.Cones.{IsIndependent}
use Rattle.pm_vector.specs.Bases.{IsRank, SameSpan, row_at}
use Rattle.pm_geom.specs.Cones.{CutOut, IsOrder}
use Rattle.pm_geom.specs.Faces.{ray}
use Rattle.pm_dd.specs.Description.{Adjacent}
use Rattle.pm_geom.specs.RayEvidence.{AreAdjacentRays, IsWidePair}
use Rattle.pm_geom.specs.StatedOrder.{IsStatedFront, IsStatedOrder}
use Rattle.pm_geom.specs.Generators.{IsCanonicalRay}
use Rattle.pm_dd.specs.StepFails.{IsWideSource}
use Rattle.pm_vector.specs.Products.{ProductsStay}

-- the stated order begins with as many independent rows as the rank says, and has the span of the list
abbrev pub StatedOrderSpans : Type 0
StatedOrderSpans = (n : ℕ) (X Y : List Row) → HasCols n X → IsStatedOrder X Y → (d : ℕ) → IsRank X d
    → HasCols n Y × SameSpan Y X × IsRank Y d × IsIndependent (take d Y)

-- a pair that is adjacent in an order of the extreme rays has no third extreme ray at all
abbrev pub AdjacentInAll : Type 0
AdjacentInAll = (n : ℕ) (A V : List Row) → IsOrder n (CutOut A) V → (i j : ℕ) → i < length V → j < length V
    → Adjacent A V i j → AreAdjacentRays n A (ray V i) (ray V j)

-- the refusal of a step at a front of the stated order, whose rays are canonical, is evidence on the list
abbrev pub StepFailShows : Type 0
StepFailShows = (n : ℕ) (X Y : List Row) (f : ℕ) → IsStatedFront X Y f → f < length Y → (V : List Row)
    → IsOrder n (CutOut (take f Y)) V
    → ((k : ℕ) → k < length V → IsCanonicalRay n (CutOut (take f Y)) (ray V k)) →
    ((k : ℕ) → k < length V → ¬ (ProductsStay (row_at Y f) (ray V k))
    → IsWidePair n X f (ray V k) (ray V k) None) × ((i j c : ℕ) → IsWideSource Y f V i j c
    → IsWidePair n X f (ray V i) (ray V j) (Some c))
