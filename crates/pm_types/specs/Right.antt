-- When a value of a property is right for a thing t with orders o. Each property has one line of `Means`; c is the
-- objective of the program that a value belongs to.
-- A half alone is right where the pair's line would make it so: what generates lies inside, what cuts out is valid.
use Rattle.std.specs.Prelude.{Bool, ℕ, zero, suc, ◌+◌, ◌≡◌, ◌<◌, ◌≤◌, ◌↔◌, IsTrue, true, false, Option, None, Some, List, [], ◌∷◌, ◌++◌, if◌then◌else◌, length, map}
use Rattle.std.specs.List.{All, AllPairs, Any, Contains, list_all, slice_index_or}
use Rattle.pm_vector.specs.Numbers.{Ratio}
use Rattle.pm_vector.specs.Divisors.{IsPrimitive}
use Rattle.pm_vector.specs.Rows.{Row, entry, dot, plus, HasCols, IsZero, Same, SameDirection, Stands}
use Rattle.pm_vector.specs.Cones.{InCone, InSpan, IsIndependent}
use Rattle.pm_vector.specs.Bases.{IsRank}
use Rattle.pm_geom.specs.Cells.{AreCells, squares}
use Rattle.pm_geom.specs.Cones.{CutOut, IsExtremeRay, IsFacetRow, IsOrder, IsValid, Vanishes, InLineality, SameModulo}
use Rattle.pm_geom.specs.FaceCounts.{IsHasseDiagram, f2_of, f_of, h_of}
use Rattle.pm_geom.specs.Faces.{ray}
use Rattle.pm_geom.specs.Generators.{IsBefore}
use Rattle.pm_geom.specs.Graphs.{IsDiameter, IsEdge, IsGraph, IsRidge, edge_count}
use Rattle.pm_geom.specs.Programs.{IsTimes}
use Rattle.pm_geom.specs.Triangulations.{IsTriangulation}
use Rattle.pm_types.specs.Things.{Thing, IsThing, AreOrders}
use Rattle.pm_geom.specs.Things.{Orders}
use Rattle.pm_object_type.specs.declared.object_type.ObjectType.{ObjectType}
use Rattle.pm_object_type.specs.declared.object_type.ObjectType.TheVariants.{Polytope, Cone, Fan}
use Rattle.pm_types.specs.Forms.{has_64_bits}
use Rattle.pm_types.specs.Programs.{IsGreatest, IsGreatestFace, OfGreatest, opposite_extended, opposite_objective}
use Rattle.pm_types.specs.Values.{PropertyValue, matrix, sets, whole, truth, counts, edges, lattice, extended, Extended, finite, Fact}
use Rattle.pm_types.specs.Views.{over_one}
use Rattle.pm_props.specs.declared.property.PropId.{PropId}
use Rattle.pm_props.specs.declared.property.PropId.TheVariants.{ConeAmbientDim, Points, InputLineality, Inequalities, Equations, Vertices, LinealitySpace, Facets, AffineHull, VerticesInFacets, ConeDim, LinealityDim, CombinatorialDim, NVertices, NFacets, Feasible, Bounded, Pointed, FullDim, Centered, Simple, Simplicial, VertexSizes, FacetSizes, FarFace, HasseDiagram, FVector, F2Vector, HVector, Graph, DualGraph, Diameter, DualDiameter, NEdges, NRidges, VertexDegrees, MaximalCones, NMaximalCones, MaximalConesDims, FanDim, Pure, LinearObjective, MaximalValue, MinimalValue, MaximalFace, MinimalFace, MaximalDual, MinimalDual, PlacingTriangulation, Sites, SiteHeights, RegularCells, DelaunayCells}
use Rattle.pm_props.specs.Properties.{facets_tag, rays_tag}
use lib.IntN.{ℤ, pos, negsuc, ◌-ℤ◌, ◌*ℤ◌}
use lib.Signed.{◌<ℤ◌, ◌≤ℤ◌}

-- x is in the cone of a cone or polytope
abbrev pub InSet : Thing → Row → Type 0
InSet t x = InCone t.generators t.lines x

abbrev pub InLinesOf : ObjectType → List Row → List Row → Row → Type 0
InLinesOf Polytope G L x = InLineality (InCone G L) x
InLinesOf Cone G L x = InLineality (InCone G L) x
InLinesOf Fan G L x = InSpan L x

-- x is in the thing's lineality, for a fan the one of all its cones
abbrev pub InLines : Thing → Row → Type 0
InLines t x = InLinesOf t.of t.generators t.lines x

abbrev pub SameRayOf : ObjectType → ℕ → List Row → List Row → Row → Row → Type 0
SameRayOf Polytope n G L v x = SameModulo n (InCone G L) v x
SameRayOf Cone n G L v x = SameModulo n (InCone G L) v x
SameRayOf Fan n G L v x = SameModulo n (InSpan L) v x

-- rows alike up to positive scale and lineality
abbrev pub SameRay : Thing → Row → Row → Type 0
SameRay t v x = SameRayOf t.of t.cols t.generators t.lines v x

-- rows alike up to positive scale and rows that vanish
abbrev pub SameFacet : Thing → Row → Row → Type 0
SameFacet t a b = SameModulo t.cols (IsValid t.cols t.generators t.lines) a b

-- each whole row of xs is a positive multiple of the row of fractions at its place
abbrev pub StandFor : List (List Ratio) → List Row → Type 0
StandFor [] [] = Unit {0}
StandFor [] (x ∷ xs) = ⊥
StandFor (r ∷ rows) [] = ⊥
StandFor (r ∷ rows) (x ∷ xs) = Stands r x × StandFor rows xs

-- as many, and R holds at each place
abbrev pub InOrder : (Row → Row → Type 0) → List Row → List Row → Type 0
InOrder R [] [] = Unit {0}
InOrder R [] (x ∷ xs) = ⊥
InOrder R (v ∷ vs) [] = ⊥
InOrder R (v ∷ vs) (x ∷ xs) = R v x × InOrder R vs xs

-- independent rows of n entries that lie in S and span it
pub record IsBasis (n : ℕ) (S : Row → Type 0) (xs : List Row) : Type 0 where
  pub cols : HasCols n xs
  pub inside : All S xs
  pub independent : IsIndependent xs
  pub spans : (x : Row) → length x ≡ n → S x → InSpan xs x

-- the generators and lines of a cone or polytope span a space of dimension d
abbrev pub IsConeDim : Thing → ℕ → Type 0
IsConeDim t d = IsRank (t.generators ++ t.lines) d

-- some basis of the rows of n entries in S has d rows
pub record HasDimension (n : ℕ) (S : Row → Type 0) (d : ℕ) : Type 0 where
  pub rows : List Row
  pub basis : IsBasis n S rows
  pub as_many : length rows ≡ d

-- the lineality has dimension d
abbrev pub IsLinealityDim : Thing → ℕ → Type 0
IsLinealityDim t d = HasDimension t.cols (InLines t) d

-- k is the first less the second, less 1
pub record IsCombinatorialDim (t : Thing) (k : ℤ) : Type 0 where
  pub cone : ℕ
  pub lineality : ℕ
  pub is_cone : IsConeDim t cone
  pub is_lineality : IsLinealityDim t lineality
  pub less : k ≡ pos cone -ℤ pos lineality -ℤ pos 1

-- row i holds exactly the places j with F_i.V_j = 0
abbrev pub IsIncidence : List Row → List Row → List (List ℕ) → Type 0
IsIncidence [] V [] = Unit {0}
IsIncidence [] V (r ∷ rows) = ⊥
IsIncidence (f ∷ F) V [] = ⊥
IsIncidence (f ∷ F) V (r ∷ rows) = ((j : ℕ) → Contains r j ↔ ((j < length V) × (dot f (ray V j) ≡ pos 0)))
    × IsIncidence F V rows

abbrev pub one_if_zero : ℤ → ℕ
one_if_zero (pos zero) = 1
one_if_zero k = 0

-- how many rows of F vanish on v
abbrev pub vanishing : List Row → Row → ℕ
vanishing [] v = 0
vanishing (f ∷ F) v = one_if_zero (dot f v) + vanishing F v

-- on how many rows of V the row a vanishes
abbrev pub tight : List Row → Row → ℕ
tight [] a = 0
tight (v ∷ V) a = one_if_zero (dot a v) + tight V a

-- x has a non-negative product with each row of A, and the product 0 with each row of E
pub record Solves (A E : List Row) (x : Row) : Type 0 where
  pub inequalities : CutOut A x
  pub equations : All (λ e. dot e x ≡ pos 0) E

-- the points P and lines L generate the thing
pub record Generates (t : Thing) (P L : List Row) : Type 0 where
  pub same : (x : Row) → length x ≡ t.cols → InSet t x ↔ InCone P L x

-- where some solution has a positive first entry, those with no negative first entry are the polytope's cone; else
-- that is {0}
pub data CutsOutPolytope (n : ℕ) (S : Row → Type 0) (A E : List Row) : Type 0 where
  proper : (x : Row) → length x ≡ n → Solves A E x → pos 0 <ℤ entry x 0
      → ((y : Row) → length y ≡ n → S y ↔ (Solves A E y × (pos 0 ≤ℤ entry y 0))) → CutsOutPolytope n S A E
  empty : ((x : Row) → length x ≡ n → Solves A E x → ¬ (pos 0 <ℤ entry x 0))
      → ((y : Row) → length y ≡ n → S y ↔ IsZero y) → CutsOutPolytope n S A E

abbrev pub CutsOutOf : ObjectType → ℕ → (Row → Type 0) → List Row → List Row → Type 0
CutsOutOf Polytope n S A E = CutsOutPolytope n S A E
CutsOutOf Cone n S A E = (x : Row) → length x ≡ n → S x ↔ Solves A E x
CutsOutOf Fan n S A E = ⊥

-- the inequalities A and equations E cut the thing out
abbrev pub CutsOut : Thing → List Row → List Row → Type 0
CutsOut t A E = CutsOutOf t.of t.cols (InSet t) A E

pub record RowsAre (t : Thing) (S : Row → Type 0) (rows : List (List Ratio)) : Type 0 where
  pub xs : List Row
  pub stand : StandFor rows xs
  pub cols : HasCols t.cols xs
  pub each : All S xs

pub record RowsAreInOrder (t : Thing) (R : Row → Row → Type 0) (vs : List Row) (rows : List (List Ratio))
    : Type 0 where
  pub xs : List Row
  pub stand : StandFor rows xs
  pub cols : HasCols t.cols xs
  pub order : InOrder R vs xs

pub record RowsAreBasis (t : Thing) (S : Row → Type 0) (rows : List (List Ratio)) : Type 0 where
  pub xs : List Row
  pub stand : StandFor rows xs
  pub basis : IsBasis t.cols S xs

pub record AreFarPlaces (V : List Row) (ks : List ℤ) : Type 0 where
  pub js : List ℕ
  pub places : ks ≡ map pos js
  pub ascending : AllPairs (λ i j. i < j) js
  pub far : (j : ℕ) → Contains js j ↔ ((j < length V) × (entry (ray V j) 0 ≡ pos 0))

-- (1, 0, .., 0) is in the cone, and each valid row that does not vanish is positive there
pub record IsCentered (t : Thing) : Type 0 where
  pub inside : (e : Row) → length e ≡ t.cols → entry e 0 ≡ pos 1 → ((i : ℕ) → entry e (suc i) ≡ pos 0)
      → InSet t e
  pub positive : (a : Row) → IsValid t.cols t.generators t.lines a
      → ¬ (Vanishes t.cols t.generators t.lines a) → pos 0 <ℤ entry a 0

-- each ray lies on exactly d facets, d the dimension of the polytope
pub record IsSimple (t : Thing) (p : Orders) : Type 0 where
  pub d : ℤ
  pub dim : IsCombinatorialDim t d
  pub sizes : All (λ v. pos (vanishing p.facets v) ≡ d) p.rays

-- each facet holds exactly d rays, d the dimension of the polytope
pub record IsSimplicial (t : Thing) (p : Orders) : Type 0 where
  pub d : ℤ
  pub dim : IsCombinatorialDim t d
  pub sizes : All (λ a. pos (tight p.rays a) ≡ d) p.facets

-- ---- faces and graphs (Ziegler, sections 2.2, 3.2 and 8.3)
-- the places of rays that are faces of the thing, by rank
abbrev pub AreFaces : Thing → List Row → List (List (List ℕ)) → Type 0
AreFaces t V ranks = IsHasseDiagram t.cols t.generators t.lines V ranks

-- the graph of the rays: two are joined where they make an edge
abbrev pub IsRayGraph : Thing → List Row → List (List ℕ) → Type 0
IsRayGraph t V rows = IsGraph (length V) (IsEdge t.cols t.generators t.lines V) rows

-- the graph of the facets: two are joined where they meet in a ridge
abbrev pub IsFacetGraph : Thing → List Row → List Row → List (List ℕ) → Type 0
IsFacetGraph t V F rows = IsGraph (length F) (IsRidge t.cols t.generators t.lines V F) rows

-- these are numbers of the faces, which are so many in every order of the rays
pub record IsOfFaces (t : Thing) (IsNumberOf : List (List (List ℕ)) → Type 0) : Type 0 where
  pub orders : Orders
  pub are_orders : AreOrders t orders
  pub ranks : List (List (List ℕ))
  pub faces : AreFaces t orders.rays ranks
  pub number : IsNumberOf ranks

-- the f-vector: how many faces each rank has, but the least face and the whole
abbrev pub IsFVector : Thing → List ℤ → Type 0
IsFVector t f = IsOfFaces t (λ ranks. f ≡ map pos (f_of ranks))

-- the h-vector by the f-vector f in dimension d; it is empty where d is -1, and where one of its numbers has more
-- than 64 bits
abbrev pub h_vector_of : List ℤ → ℤ → List ℤ
h_vector_of f (pos d) = if list_all has_64_bits (h_of f d) then h_of f d else []
h_vector_of f (negsuc d) = []

pub record IsHVector (t : Thing) (h : List ℤ) : Type 0 where
  pub f : List ℤ
  pub d : ℤ
  pub faces : IsFVector t f
  pub dim : IsCombinatorialDim t d
  pub numbers : h ≡ h_vector_of f d

-- this is so of the thing in some orders, and so in all
pub record InSomeOrders (t : Thing) (P : Orders → Type 0) : Type 0 where
  pub orders : Orders
  pub are_orders : AreOrders t orders
  pub holds : P orders

-- ---- fans (Ziegler, section 7.1)
-- the generators of the cone at a place; with the fan's lines they generate it
abbrev pub cone_at : Thing → ℕ → List Row
cone_at t i = slice_index_or t.cones i []

-- the dimension of the span of the cone of these generators is d, the lineality counted
abbrev pub IsDimOfCone : Thing → List Row → ℕ → Type 0
IsDimOfCone t G d = IsRank (G ++ t.lines) d

-- row i holds exactly the places j of the rays V_j that are extreme rays of the cone at the place i
abbrev pub AreConeRays : Thing → List Row → List ℕ → List (List ℕ) → Type 0
AreConeRays t V [] [] = Unit {0}
AreConeRays t V [] (r ∷ rows) = ⊥
AreConeRays t V (i ∷ places) [] = ⊥
AreConeRays t V (i ∷ places) (r ∷ rows) =
    ((j : ℕ) → Contains r j ↔ ((j < length V) × IsExtremeRay t.cols (cone_at t i) t.lines (ray V j)))
    × AreConeRays t V places rows

-- as many numbers as places, each the dimension of the cone there
abbrev pub AreConeDims : Thing → List ℕ → List ℤ → Type 0
AreConeDims t [] [] = Unit {0}
AreConeDims t [] (k ∷ ks) = ⊥
AreConeDims t (i ∷ places) [] = ⊥
AreConeDims t (i ∷ places) (k ∷ ks) = ((d : ℕ) × (k ≡ pos d) × IsDimOfCone t (cone_at t i) d)
    × AreConeDims t places ks

-- d is the greatest dimension of a cone of the fan
pub record IsGreatestDim (t : Thing) (d : ℕ) : Type 0 where
  pub attained : Any (λ G. IsDimOfCone t G d) t.cones
  pub greatest : All (λ G. (e : ℕ) → IsDimOfCone t G e → e ≤ d) t.cones

-- k is the greatest dimension of a cone, or -1 where there is no cone
abbrev pub IsFanDim : Thing → ℤ → Type 0
IsFanDim t (pos d) = IsGreatestDim t d
IsFanDim t (negsuc d) = (d ≡ 0) × (t.cones ≡ [])

-- all cones have one dimension
abbrev pub IsPure : Thing → Type 0
IsPure t = (d : ℕ) × All (λ G. IsDimOfCone t G d) t.cones

-- the cone of these generators has k extreme rays, up to positive scale and lineality
pub record HasRays (t : Thing) (G : List Row) (k : ℕ) : Type 0 where
  pub rays : List Row
  pub order : IsOrder t.cols (InCone G t.lines) rays
  pub as_many : length rays ≡ k

-- each cone has as many extreme rays as its dimension is greater than that of the lineality
pub record IsSimplicialFan (t : Thing) : Type 0 where
  pub lineality : ℕ
  pub is_lineality : IsLinealityDim t lineality
  pub each : All (λ G. (k : ℕ) × HasRays t G k × IsDimOfCone t G (k + lineality)) t.cones

-- b tells whether the fan is simplicial, or whether each facet is a simplex
abbrev pub IsSimplicialTruth : ObjectType → Thing → Bool → Type 0
IsSimplicialTruth Fan t b = IsTrue b ↔ IsSimplicialFan t
IsSimplicialTruth Polytope t b = (p : Orders) → AreOrders t p → IsTrue b ↔ IsSimplicial t p
IsSimplicialTruth Cone t b = (p : Orders) → AreOrders t p → IsTrue b ↔ IsSimplicial t p

-- ---- triangulations (De Loera, Rambau and Santos, sections 2.1 and 2.3)
-- different sets of places of the rays V, which are a triangulation of the thing, with rows that span its lineality
pub record AreSimplices (t : Thing) (V : List Row) (T : List (List ℕ)) : Type 0 where
  pub different : AllPairs (λ r s. ¬ (r ≡ s)) T
  pub lines : List Row
  pub basis : IsBasis t.cols (InLines t) lines
  pub triangulation : IsTriangulation t.cols V lines T

-- ---- duals of linear programs
-- the rows stand for facet rows of different directions, in lexicographic order of their primitive whole rows
pub record AreFacetDirections (t : Thing) (rows : List (List Ratio)) : Type 0 where
  pub xs : List Row
  pub stand : StandFor rows xs
  pub facets : All (IsFacetRow t.cols t.generators t.lines) xs
  pub primitive : All IsPrimitive xs
  pub ascending : AllPairs IsBefore xs

-- the sum of the rows
abbrev pub total : List Row → Row
total [] = []
total (x ∷ xs) = plus x (total xs)

-- c, the sum of the rows and a row that vanishes are together the constant v: so c.x <= v at each point where no row
-- is negative, and c.x = v where all are 0
pub record IsBoundBy (t : Thing) (c : List Ratio) (v : Ratio) (rows : List (List Ratio)) : Type 0 where
  pub k : ℤ
  pub objective : Row
  pub xs : List Row
  pub rest : Row
  pub constant : ℤ
  pub objective_times : IsTimes k c objective
  pub as_many : length xs ≡ length rows
  pub times : (i : ℕ) → i < length rows → IsTimes k (slice_index_or rows i []) (slice_index_or xs i [])
  pub vanishes : Vanishes t.cols t.generators t.lines rest
  pub constant_times : constant *ℤ v.den ≡ k *ℤ v.num
  pub sum : Same (plus objective (plus (total xs) rest)) (constant ∷ [])

-- for a finite value, facet rows that bound c by it; else no rows
abbrev pub AreDualRows : Thing → List Ratio → List (List Ratio) → Extended → Type 0
AreDualRows t c rows (finite v) = AreFacetDirections t rows × IsBoundBy t c v rows
AreDualRows t c rows x = rows ≡ []

-- facet rows that show the greatest value of c
abbrev pub IsGreatestDual : Thing → List Ratio → List (List Ratio) → Type 0
IsGreatestDual t c rows = OfGreatest (InSet t) c (AreDualRows t c rows)

-- what a tag shows of an order
abbrev pub order_if : {A : Type 0} → Bool → List A → List A
order_if true xs = xs
order_if false xs = []

-- the orders that the property may speak of, as its tags say; the others are empty
abbrev pub shown_to : PropId → Orders → Orders
shown_to p o = record {
  rays = order_if (rays_tag p) o.rays;
  facets = order_if (facets_tag p) o.facets;
  cones = order_if (facets_tag p) o.cones;
}

-- What the value v of the property p says of the thing, and of the orders that it is shown; a value of another form
-- says what never holds. A line that reads an order which its property's tags do not name reads the empty order.
abbrev pub Means : PropId → PropertyValue → Thing → Orders → List Ratio → Type 0
Means ConeAmbientDim (whole k) t o c = k ≡ pos t.cols
Means Points (matrix n rows) t o c = RowsAre t (InSet t) rows
Means InputLineality (matrix n rows) t o c = RowsAre t (InLines t) rows
Means Inequalities (matrix n rows) t o c = RowsAre t (IsValid t.cols t.generators t.lines) rows
Means Equations (matrix n rows) t o c = RowsAre t (Vanishes t.cols t.generators t.lines) rows
Means Vertices (matrix n rows) t o c = RowsAreInOrder t (SameRay t) o.rays rows
Means LinealitySpace (matrix n rows) t o c = RowsAreBasis t (InLines t) rows
Means Facets (matrix n rows) t o c = RowsAreInOrder t (SameFacet t) o.facets rows
Means AffineHull (matrix n rows) t o c = RowsAreBasis t (Vanishes t.cols t.generators t.lines) rows
Means VerticesInFacets (sets rows n) t o c = (n ≡ length o.rays) × IsIncidence o.facets o.rays rows
Means ConeDim (whole k) t o c = (d : ℕ) × (k ≡ pos d) × IsConeDim t d
Means LinealityDim (whole k) t o c = (d : ℕ) × (k ≡ pos d) × IsLinealityDim t d
Means CombinatorialDim (whole k) t o c = IsCombinatorialDim t k
Means NVertices (whole k) t o c = (p : Orders) → AreOrders t p → k ≡ pos (length p.rays)
Means NFacets (whole k) t o c = (p : Orders) → AreOrders t p → k ≡ pos (length p.facets)
Means Feasible (truth b) t o c = IsTrue b ↔ ((x : Row) × (length x ≡ t.cols) × InSet t x × ¬ (IsZero x))
Means Bounded (truth b) t o c = IsTrue b
    ↔ ((x : Row) → length x ≡ t.cols → InSet t x → entry x 0 ≡ pos 0 → IsZero x)
Means Pointed (truth b) t o c = IsTrue b ↔ ((x : Row) → length x ≡ t.cols → InLines t x → IsZero x)
Means FullDim (truth b) t o c = IsTrue b ↔ IsConeDim t t.cols
Means Centered (truth b) t o c = IsTrue b ↔ IsCentered t
Means Simple (truth b) t o c = (p : Orders) → AreOrders t p → IsTrue b ↔ IsSimple t p
Means Simplicial (truth b) t o c = IsSimplicialTruth t.of t b
Means VertexSizes (counts ks) t o c = (p : Orders) → AreOrders t p
    → ks ≡ map (λ v. pos (vanishing p.facets v)) o.rays
Means FacetSizes (counts ks) t o c = (p : Orders) → AreOrders t p
    → ks ≡ map (λ a. pos (tight p.rays a)) o.facets
Means FarFace (counts ks) t o c = AreFarPlaces o.rays ks
Means HasseDiagram (lattice ranks) t o c = AreFaces t o.rays ranks
Means FVector (counts ks) t o c = IsFVector t ks
Means F2Vector (matrix n rows) t o c = (n ≡ length rows)
    × IsOfFaces t (λ ranks. rows ≡ map (map (λ k. over_one (pos k))) (f2_of ranks))
Means HVector (counts ks) t o c = IsHVector t ks
Means Graph (edges rows n) t o c = (n ≡ length o.rays) × IsRayGraph t o.rays rows
Means DualGraph (edges rows n) t o c = (n ≡ length o.facets)
    × InSomeOrders t (λ p. IsFacetGraph t p.rays o.facets rows)
Means Diameter (whole k) t o c =
    InSomeOrders t (λ p. (m : ℕ) × (k ≡ pos m)
    × IsDiameter (length p.rays) (IsEdge t.cols t.generators t.lines p.rays) m)
Means DualDiameter (whole k) t o c =
    InSomeOrders t (λ p. (m : ℕ) × (k ≡ pos m)
    × IsDiameter (length p.facets) (IsRidge t.cols t.generators t.lines p.rays p.facets) m)
Means NEdges (whole k) t o c =
    InSomeOrders t (λ p. (rows : List (List ℕ)) × IsRayGraph t p.rays rows × (k ≡ pos (edge_count rows)))
Means NRidges (whole k) t o c =
    InSomeOrders t (λ p. (rows : List (List ℕ)) × IsFacetGraph t p.rays p.facets rows
    × (k ≡ pos (edge_count rows)))
Means VertexDegrees (counts ks) t o c = (rows : List (List ℕ)) × IsRayGraph t o.rays rows
    × (ks ≡ map (λ row. pos (length row)) rows)
Means MaximalCones (sets rows n) t o c = (n ≡ length o.rays) × AreConeRays t o.rays o.cones rows
Means NMaximalCones (whole k) t o c = k ≡ pos (length t.cones)
Means MaximalConesDims (counts ks) t o c = AreConeDims t o.cones ks
Means FanDim (whole k) t o c = IsFanDim t k
Means Pure (truth b) t o c = IsTrue b ↔ IsPure t
Means LinearObjective (matrix n rows) t o c = rows ≡ c ∷ []
Means MaximalValue (extended x) t o c = IsGreatest (InSet t) c x
Means MinimalValue (extended x) t o c = IsGreatest (InSet t) (opposite_objective c) (opposite_extended x)
Means MaximalFace (counts ks) t o c = IsGreatestFace (InSet t) c o.rays ks
Means MinimalFace (counts ks) t o c = IsGreatestFace (InSet t) (opposite_objective c) o.rays ks
Means MaximalDual (matrix n rows) t o c = IsGreatestDual t c rows
Means MinimalDual (matrix n rows) t o c = IsGreatestDual t (opposite_objective c) rows
Means PlacingTriangulation (sets rows n) t o c = (n ≡ length o.rays) × AreSimplices t o.rays rows
Means Sites (matrix n rows) t o c = RowsAreInOrder t SameDirection t.sites rows
Means SiteHeights (matrix n rows) t o c = rows ≡ t.heights ∷ []
Means RegularCells (sets rows n) t o c = (n ≡ length t.sites) × AreCells t.cols t.sites t.heights rows
Means DelaunayCells (sets rows n) t o c =
    (n ≡ length t.sites) × AreCells t.cols t.sites (squares t.sites) rows
Means p v t o c = ⊥

-- the value v of the property p is right: it means what is so, where it is shown the orders that it may speak of
abbrev pub Right : PropId → PropertyValue → Thing → Orders → List Ratio → Type 0
Right p v t o c = Means p v t (shown_to p o) c

abbrev pub objective_of : Thing → Option ℕ → List Ratio
objective_of t None = []
objective_of t (Some s) = t.objective s

abbrev pub RightFact : Fact → Thing → Orders → Type 0
RightFact f t o = Right f.property f.value t o (objective_of t f.place)

pub record PairGenerates (t : Thing) (points lines : List (List Ratio)) : Type 0 where
  pub xs : List Row
  pub ls : List Row
  pub points_stand : StandFor points xs
  pub lines_stand : StandFor lines ls
  pub generates : Generates t xs ls

pub record PairCutsOut (t : Thing) (inequalities equations : List (List Ratio)) : Type 0 where
  pub as' : List Row
  pub es : List Row
  pub inequalities_stand : StandFor inequalities as'
  pub equations_stand : StandFor equations es
  pub cuts_out : CutsOut t as' es

abbrev pub RightPair : PropId → PropertyValue → PropId → PropertyValue → Thing → Type 0
RightPair Points (matrix n rows) InputLineality (matrix m lines) t = PairGenerates t rows lines
RightPair Inequalities (matrix n rows) Equations (matrix m equations) t = PairCutsOut t rows equations
RightPair p v q w t = Unit {0}

-- two facts that are the halves of one pair (POINTS with INPUT_LINEALITY, INEQUALITIES with EQUATIONS) describe the
-- thing
abbrev pub RightTogether : Thing → Fact → Fact → Type 0
RightTogether t x y = RightPair x.property x.value y.property y.value t

-- t is a thing, o are orders of it, each fact is right and each two are right together
pub record RightAll (facts : List Fact) (t : Thing) (o : Orders) : Type 0 where
  pub thing : IsThing t
  pub orders : AreOrders t o
  pub each : (f : Fact) → Contains facts f → RightFact f t o
  pub together : (x y : Fact) → Contains facts x → Contains facts y → RightTogether t x y
