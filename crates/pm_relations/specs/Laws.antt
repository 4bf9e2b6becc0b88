-- Laws of dimensions: what determines them, and how they are found from other values that are right.
use Rattle.std.specs.Prelude.{ℕ, ◌≡◌, ◌↔◌, IsTrue, Bool, List, ◌++◌, length, map}
use Rattle.pm_vector.specs.Numbers.{Ratio}
use Rattle.pm_vector.specs.Rows.{Row}
use Rattle.pm_vector.specs.Bases.{IsRank, SameSpan}
use Rattle.pm_vector.specs.NullSpaces.{IsNullBasis}
use Rattle.pm_types.specs.Things.{Thing, IsThing, AreOrders}
use Rattle.pm_geom.specs.Things.{Orders}
use Rattle.pm_geom.specs.Triangulations.{IsTriangulation}
use Rattle.std.specs.List.{AllPairs}
use Rattle.pm_object_type.specs.declared.object_type.ObjectType.TheVariants.{Fan}
use Rattle.pm_types.specs.Canonical.{IsCanonical, IsEchelonBasisOf, Vanishing}
use Rattle.pm_types.specs.Right.{InLines, PairCutsOut, PairGenerates, Right, StandFor}
use Rattle.pm_types.specs.Values.{PropertyValue, matrix, sets, truth, whole}
use Rattle.pm_types.specs.Views.{ratios}
use Rattle.pm_props.specs.declared.kind.Kind.{Kind}
use Rattle.pm_props.specs.declared.property.PropId.{PropId}
use Rattle.pm_props.specs.declared.property.PropId.TheVariants.{Points, InputLineality, Inequalities, Equations, Vertices, LinealitySpace, Facets, AffineHull, ConeDim, LinealityDim, CombinatorialDim, Feasible, Pointed, FullDim, PlacingTriangulation}
use lib.IntN.{ℤ, pos, ◌-ℤ◌}

-- two right values of the property are equal
abbrev pub OneValue : PropId → Thing → Type 0
OneValue p t = (v w : PropertyValue) (o r : Orders) (c d : List Ratio) → Right p v t o c → Right p w t r d
    → v ≡ w

abbrev pub DimensionsAreDetermined : Type 0
DimensionsAreDetermined = (t : Thing) → OneValue ConeDim t × OneValue LinealityDim t
    × OneValue CombinatorialDim t × OneValue FullDim t

-- there are right values of CONE_DIM and of LINEALITY_DIM
abbrev pub DimensionsExist : Type 0
DimensionsExist = (t : Thing) (o : Orders) (c d : List Ratio) → IsThing t
    → (i : ℕ) × (j : ℕ) × Right ConeDim (whole (pos i)) t o c × Right LinealityDim (whole (pos j)) t o d

-- whole rows for right VERTICES and LINEALITY_SPACE of a cone or polytope span what its generators and lines span
abbrev pub VerticesSpan : Type 0
VerticesSpan = (t : Thing) (o : Orders) → IsThing t → AreOrders t o → ¬ (t.of ≡ Fan)
    → (n m : ℕ) (rays lines : List (List Ratio)) (c d : List Ratio) → Right Vertices (matrix n rays) t o c
    → Right LinealitySpace (matrix m lines) t o d →
    (xs ls : List Row) → StandFor rays xs → StandFor lines ls → SameSpan (xs ++ ls) (t.generators ++ t.lines)

-- so do whole rows for POINTS and INPUT_LINEALITY that are right, also together
abbrev pub PairSpans : Type 0
PairSpans = (t : Thing) (o : Orders) → IsThing t
    → (n m : ℕ) (points lines : List (List Ratio)) (c d : List Ratio) → Right Points (matrix n points) t o c
    → Right InputLineality (matrix m lines) t o d → PairGenerates t points lines →
    (xs ls : List Row) → StandFor points xs → StandFor lines ls
    → SameSpan (xs ++ ls) (t.generators ++ t.lines)

-- the rank of rows with the span of the thing is CONE_DIM
abbrev pub ConeDimIsFound : Type 0
ConeDimIsFound = (t : Thing) (o : Orders) (c : List Ratio) (X : List Row)
    → SameSpan X (t.generators ++ t.lines) → (d : ℕ) → IsRank X d → Right ConeDim (whole (pos d)) t o c

-- n less the number of rows of a right AFFINE_HULL is CONE_DIM
abbrev pub ConeDimIsLeft : Type 0
ConeDimIsLeft = (t : Thing) (o : Orders) → IsThing t → (n : ℕ) (rows : List (List Ratio)) (c d : List Ratio)
    → Right AffineHull (matrix n rows) t o c → Right ConeDim (whole (pos t.cols -ℤ pos (length rows))) t o d

abbrev pub LinealityDimIsFound : Type 0
LinealityDimIsFound = (t : Thing) (o : Orders) (n : ℕ) (rows : List (List Ratio)) (c d : List Ratio)
    → Right LinealitySpace (matrix n rows) t o c → Right LinealityDim (whole (pos (length rows))) t o d

abbrev pub CombinatorialDimIsFound : Type 0
CombinatorialDimIsFound = (t : Thing) (o : Orders) (i j : ℤ) (c d e : List Ratio)
    → Right ConeDim (whole i) t o c → Right LinealityDim (whole j) t o d
    → Right CombinatorialDim (whole (i -ℤ j -ℤ pos 1)) t o e

abbrev pub FeasibleIsFound : Type 0
FeasibleIsFound = (t : Thing) (o : Orders) → IsThing t → (k : ℤ) (b : Bool) (c d : List Ratio)
    → Right ConeDim (whole k) t o c → (IsTrue b ↔ ¬ (k ≡ pos 0)) → Right Feasible (truth b) t o d

abbrev pub PointedIsFound : Type 0
PointedIsFound = (t : Thing) (o : Orders) (k : ℤ) (b : Bool) (c d : List Ratio)
    → Right LinealityDim (whole k) t o c → (IsTrue b ↔ (k ≡ pos 0)) → Right Pointed (truth b) t o d

abbrev pub FullDimIsFound : Type 0
FullDimIsFound = (t : Thing) (o : Orders) (k : ℤ) (b : Bool) (c d : List Ratio)
    → Right ConeDim (whole k) t o c → (IsTrue b ↔ (k ≡ pos t.cols)) → Right FullDim (truth b) t o d

-- the null space of rows with the span of the thing is the rows that vanish
abbrev pub HullIsFound : Type 0
HullIsFound = (t : Thing) → IsThing t → (X N : List Row) (P : List ℕ) → SameSpan X (t.generators ++ t.lines)
    → IsNullBasis t.cols X N P → IsEchelonBasisOf t.cols (Vanishing t) N P

-- the null space of whole rows for right FACETS and AFFINE_HULL of a cone or polytope is its lineality
abbrev pub LinealityIsFound : Type 0
LinealityIsFound = (t : Thing) (o : Orders) → IsThing t → AreOrders t o → ¬ (t.of ≡ Fan)
    → (n m : ℕ) (facets hull : List (List Ratio)) (c d : List Ratio) → Right Facets (matrix n facets) t o c
    → Right AffineHull (matrix m hull) t o d →
    (xs es N : List Row) (P : List ℕ) → StandFor facets xs → StandFor hull es
    → IsNullBasis t.cols (xs ++ es) N P → IsEchelonBasisOf t.cols (InLines t) N P

-- an echelon basis of the rows that vanish, or of the lineality, is right and canonical as the value of AFFINE_HULL,
-- or of LINEALITY_SPACE
abbrev pub EchelonIsRight : Type 0
EchelonIsRight = (t : Thing) (o : Orders) (kind : Kind) (n : ℕ) (c : List Ratio) (N : List Row)
    (P : List ℕ) →
    (IsEchelonBasisOf t.cols (Vanishing t) N P
    → Right AffineHull (matrix n (map ratios N)) t o c
    × IsCanonical kind AffineHull (matrix n (map ratios N)) t) ×
    (IsEchelonBasisOf t.cols (InLines t) N P → Right LinealitySpace (matrix n (map ratios N)) t o c
    × IsCanonical kind LinealitySpace (matrix n (map ratios N)) t)

-- right VERTICES and LINEALITY_SPACE of a cone or polytope are right POINTS and INPUT_LINEALITY, each alone and both
-- together
abbrev pub VerticesGenerate : Type 0
VerticesGenerate = (t : Thing) (o : Orders) → IsThing t → AreOrders t o → ¬ (t.of ≡ Fan)
    → (n m : ℕ) (rays lines : List (List Ratio)) (c d : List Ratio) → Right Vertices (matrix n rays) t o c
    → Right LinealitySpace (matrix m lines) t o d →
    Right Points (matrix n rays) t o c × Right InputLineality (matrix m lines) t o d
    × PairGenerates t rays lines

-- right FACETS and AFFINE_HULL of a cone or polytope are right INEQUALITIES and EQUATIONS, each alone and both
-- together
abbrev pub FacetsCutOut : Type 0
FacetsCutOut = (t : Thing) (o : Orders) → IsThing t → AreOrders t o → ¬ (t.of ≡ Fan)
    → (n m : ℕ) (facets hull : List (List Ratio)) (c d : List Ratio) → Right Facets (matrix n facets) t o c
    → Right AffineHull (matrix m hull) t o d →
    Right Inequalities (matrix n facets) t o c × Right Equations (matrix m hull) t o d
    × PairCutsOut t facets hull

-- any two orders of a thing have as many rays, and as many facets
abbrev pub OrdersAreAsLong : Type 0
OrdersAreAsLong = (t : Thing) (o p : Orders) → AreOrders t o → AreOrders t p
    → (length o.rays ≡ length p.rays) × (length o.facets ≡ length p.facets)

-- a triangulation over whole rows that stand for right VERTICES, with those for LINEALITY_SPACE as lines, is right
-- for PLACING_TRIANGULATION
abbrev pub PlacingIsFound : Type 0
PlacingIsFound = (t : Thing) (o : Orders) → IsThing t → AreOrders t o → ¬ (t.of ≡ Fan)
    → (n m : ℕ) (rays lines : List (List Ratio)) (c d e : List Ratio) → Right Vertices (matrix n rays) t o c
    → Right LinealitySpace (matrix m lines) t o d →
    (xs ls : List Row) → StandFor rays xs → StandFor lines ls → (T : List (List ℕ))
    → AllPairs (λ r s. ¬ (r ≡ s)) T → IsTriangulation t.cols xs ls T
    → Right PlacingTriangulation (sets T (length rays)) t o e
