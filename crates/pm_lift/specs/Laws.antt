-- What is known of cells, of lifted rows and of empty spheres.
use Rattle.std.specs.Prelude.{ℕ, suc, ◌≡◌, ◌<◌, ◌↔◌, Bool, IsTrue, List, [], ◌∷◌, ◌++◌, length}
use Rattle.std.specs.List.{Contains}
use Rattle.pm_vector.specs.Numbers.{Ratio, SameRatio}
use Rattle.pm_vector.specs.Rows.{HasCols, Row, SameDirection, dot, entry, ratio_at}
use Rattle.pm_geom.specs.Cones.{IsOrder, IsValid, SameModulo}
use Rattle.pm_geom.specs.Faces.{ray}
use Rattle.pm_geom.specs.Cells.{AreCells, AreSites, IsCell, square_of, squares}
use Rattle.pm_lift.specs.Lifting.{AreLifted, AreLiftedRows, AreRaisedRows, upwards}
use Rattle.pm_lift.specs.Spheres.{HasAffineFunction, HasEmptySphere}
use lib.IntN.{pos}
use lib.Signed.{◌<ℤ◌}

-- the cells are exactly the sets of sites on which a facet row with a positive last entry of the cone of the lifted
-- rows and the row upwards vanishes; two such facet rows, of which one vanishes where the other does, are the same
-- (Ziegler, Lectures on Polytopes, section 5.1)
abbrev pub CellsAreFacets : Type 0
CellsAreFacets = (n : ℕ) (Q : List Row) (W : List Ratio) (X F : List Row) → AreSites n Q W
    → AreLifted n Q W X → IsOrder (suc n) (IsValid (suc n) (X ++ upwards n ∷ []) []) F →
    ((f : ℕ → Bool)
    → IsCell n Q W f
    ↔ ((a : Row) × Contains F a × (pos 0 <ℤ entry a n)
    × ((j : ℕ) → j < length Q → IsTrue (f j) ↔ (dot a (ray X j) ≡ pos 0))))
    × ((a b : Row) → Contains F a → Contains F b → pos 0 <ℤ entry a n → pos 0 <ℤ entry b n
    → ((j : ℕ) → j < length Q → dot a (ray X j) ≡ pos 0 → dot b (ray X j) ≡ pos 0)
    → SameModulo (suc n) (IsValid (suc n) (X ++ upwards n ∷ []) []) a b)

-- the rows that are made of sites and heights are positive multiples of the lifted rows
abbrev pub RowsAreLifted : Type 0
RowsAreLifted = (n : ℕ) (Q : List Row) (W : List Ratio) (X : List Row) → AreSites n Q W → AreLiftedRows Q W X
    → AreLifted n Q W X

-- so are the rows that are raised to the paraboloid, with the squares of the distances from the origin as heights
abbrev pub RaisedAreLifted : Type 0
RaisedAreLifted = (n : ℕ) (Q X : List Row) → HasCols n Q
    → ((j : ℕ) → j < length Q → pos 0 <ℤ entry (ray Q j) 0) → AreRaisedRows Q X
    → AreSites n Q (squares Q) × AreLifted n Q (squares Q) X

-- a Delaunay cell has an affine function as Delaunay's condition asks, and an empty sphere (Edelsbrunner, chapter 13)
abbrev pub CellsHaveSpheres : Type 0
CellsHaveSpheres = (n : ℕ) (Q : List Row) (f : ℕ → Bool) → 0 < n → AreSites n Q (squares Q)
    → IsCell n Q (squares Q) f → HasAffineFunction n Q f × HasEmptySphere n Q f

-- cells depend on the directions of the sites and on the numbers that are the heights alone
abbrev pub CellsOfSameSites : Type 0
CellsOfSameSites = (n : ℕ) (Q R : List Row) (W V : List Ratio) (cells : List (List ℕ)) → length R ≡ length Q
    → ((j : ℕ) → j < length Q → SameDirection (ray Q j) (ray R j))
    → ((j : ℕ) → j < length Q → SameRatio (ratio_at W j) (ratio_at V j)) →
    AreSites n Q W → AreSites n R V → AreCells n Q W cells → AreCells n R V cells

-- the square of the distance from the origin is that of each row of the same direction
abbrev pub SquaresOfSameSites : Type 0
SquaresOfSameSites = (q r : Row) → SameDirection q r → SameRatio (square_of q) (square_of r)
