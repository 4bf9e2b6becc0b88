-- The table of properties (Gawrilow and Joswig, polymake: a framework for analyzing convex polytopes): one row each,
-- and what is read off it.
use Rattle.std.specs.Prelude.{ℕ, Bool, true, false, ◌&&◌, ◌||◌, Option, List, [], ◌∷◌, codes, slice_get}
use Rattle.std.specs.Option.{is_some}
use Rattle.pm_props.specs.Rows.{RowSeen}
use Rattle.pm_object_type.specs.declared.object_type.ObjectType.{ObjectType}
use Rattle.pm_object_type.specs.declared.object_type.ObjectType.TheVariants.{Polytope, Cone, Fan}
use Rattle.pm_props.specs.declared.property.Columns.{Columns}
use Rattle.pm_props.specs.declared.property.Columns.TheVariants as columns
use Rattle.pm_props.specs.declared.property.Describes.{Describes}
use Rattle.pm_props.specs.declared.property.Describes.TheVariants as describes
use Rattle.pm_props.specs.declared.property.PropId.{PropId}
use Rattle.pm_props.specs.declared.property.PropId.TheVariants.{ConeAmbientDim, Points, InputLineality, Inequalities, Equations, Vertices, LinealitySpace, Facets, AffineHull, VerticesInFacets, ConeDim, LinealityDim, CombinatorialDim, NVertices, NFacets, Feasible, Bounded, Pointed, FullDim, Centered, Simple, Simplicial, VertexSizes, FacetSizes, HasseDiagram, FVector, F2Vector, HVector, Graph, DualGraph, Diameter, DualDiameter, NEdges, NRidges, VertexDegrees, FarFace, MaximalCones, NMaximalCones, MaximalConesDims, FanDim, Pure, LinearObjective, MaximalValue, MinimalValue, MaximalFace, MinimalFace, MaximalDual, MinimalDual, PlacingTriangulation, Sites, SiteHeights, RegularCells, DelaunayCells}
use Rattle.pm_props.specs.declared.property.RowTest.TheVariants as test
use Rattle.pm_props.specs.declared.property.Tables.{Tables}
use Rattle.pm_props.specs.declared.property.Tables.TheVariants as tables
use Rattle.pm_props.specs.declared.property.ValueKind.{ValueKind}
use Rattle.pm_props.specs.declared.property.ValueKind.TheVariants as kind

-- a property of one name, which speaks of no order and describes nothing
abbrev pub plain : ℕ → List ℕ → ValueKind → Tables → RowSeen
plain number name kind tables = record {
  number = number;
  first_name = name;
  cone_name = name;
  fan_name = name;
  kind = kind;
  tables = tables;
  speaks_of_rays = false;
  speaks_of_facets = false;
  describes = describes.Nothing;
  is_half = false;
  columns = columns.Free;
  test = test.Any;
}

-- the table
abbrev pub row : PropId → RowSeen
row ConeAmbientDim =
    record (plain 0 (codes "CONE_AMBIENT_DIM") kind.Int tables.All) {
      fan_name = codes "FAN_AMBIENT_DIM";
      columns = columns.Value;
    }
row Points =
    record (plain 1 (codes "POINTS") kind.Mat tables.PolytopesAndCones) {
      cone_name = codes "INPUT_RAYS";
      describes = describes.Generators;
      is_half = true;
      columns = columns.Rows;
      test = test.Point;
    }
row InputLineality =
    record (plain 2
    (codes "INPUT_LINEALITY") kind.Mat tables.PolytopesAndCones) {
      describes = describes.Generators;
      is_half = true;
      columns = columns.Rows;
      test = test.Line;
    }
row Inequalities =
    record (plain 3
    (codes "INEQUALITIES") kind.Mat tables.PolytopesAndCones) {
      describes = describes.HalfSpaces;
      is_half = true;
      columns = columns.Rows;
    }
row Equations =
    record (plain 4
    (codes "EQUATIONS") kind.Mat tables.PolytopesAndCones) {
      describes = describes.HalfSpaces;
      is_half = true;
      columns = columns.Rows;
    }
row Vertices = record (plain 5 (codes "VERTICES") kind.Mat tables.All) {
  cone_name = codes "RAYS";
  fan_name = codes "RAYS";
  speaks_of_rays = true;
  describes = describes.Generators;
  columns = columns.Rows;
  test = test.Ray;
}
row LinealitySpace =
    record (plain 6 (codes "LINEALITY_SPACE") kind.Mat tables.All) {
      describes = describes.Generators;
      columns = columns.Rows;
      test = test.Line;
    }
row Facets = record (plain 7 (codes "FACETS") kind.Mat tables.PolytopesAndCones) {
  speaks_of_facets = true;
  describes = describes.HalfSpaces;
  columns = columns.Rows;
  test = test.NotZero;
}
row AffineHull =
    record (plain 8
    (codes "AFFINE_HULL") kind.Mat tables.PolytopesAndCones) {
      cone_name = codes "LINEAR_SPAN";
      describes = describes.HalfSpaces;
      columns = columns.Rows;
    }
row VerticesInFacets =
    record (plain 9
    (codes "VERTICES_IN_FACETS") kind.Sets tables.PolytopesAndCones) {
      cone_name = codes "RAYS_IN_FACETS";
      speaks_of_rays = true;
      speaks_of_facets = true;
    }
row ConeDim = plain 10 (codes "CONE_DIM") kind.Int tables.PolytopesAndCones
row LinealityDim = plain 11 (codes "LINEALITY_DIM") kind.Int tables.All
row CombinatorialDim = plain 12 (codes "COMBINATORIAL_DIM") kind.Int tables.PolytopesAndCones
row NVertices = record (plain 13 (codes "N_VERTICES") kind.Int tables.All) {
  cone_name = codes "N_RAYS";
  fan_name = codes "N_RAYS";
}
row NFacets = plain 14 (codes "N_FACETS") kind.Int tables.PolytopesAndCones
row Feasible = plain 15 (codes "FEASIBLE") kind.Bool tables.Polytopes
row Bounded = plain 16 (codes "BOUNDED") kind.Bool tables.Polytopes
row Pointed = plain 17 (codes "POINTED") kind.Bool tables.All
row FullDim = plain 18 (codes "FULL_DIM") kind.Bool tables.PolytopesAndCones
row Centered = plain 19 (codes "CENTERED") kind.Bool tables.Polytopes
row Simple = plain 20 (codes "SIMPLE") kind.Bool tables.PolytopesAndCones
row Simplicial = plain 21 (codes "SIMPLICIAL") kind.Bool tables.All
row VertexSizes =
    record (plain 22
    (codes "VERTEX_SIZES") kind.Counts tables.PolytopesAndCones) {
      cone_name = codes "RAY_SIZES";
      speaks_of_rays = true;
    }
row FacetSizes =
    record (plain 23 (codes "FACET_SIZES") kind.Counts tables.PolytopesAndCones) { speaks_of_facets = true }
row HasseDiagram =
    record (plain 24 (codes "HASSE_DIAGRAM") kind.Lattice tables.PolytopesAndCones) { speaks_of_rays = true }
row FVector = plain 25 (codes "F_VECTOR") kind.Counts tables.PolytopesAndCones
row F2Vector = plain 26 (codes "F2_VECTOR") kind.Mat tables.PolytopesAndCones
row HVector = plain 27 (codes "H_VECTOR") kind.Counts tables.Polytopes
row Graph = record (plain 28 (codes "GRAPH") kind.Edges tables.PolytopesAndCones) { speaks_of_rays = true }
row DualGraph =
    record (plain 29 (codes "DUAL_GRAPH") kind.Edges tables.PolytopesAndCones) { speaks_of_facets = true }
row Diameter = plain 30 (codes "DIAMETER") kind.Int tables.PolytopesAndCones
row DualDiameter = plain 31 (codes "DUAL_DIAMETER") kind.Int tables.PolytopesAndCones
row NEdges = plain 32 (codes "N_EDGES") kind.Int tables.PolytopesAndCones
row NRidges = plain 33 (codes "N_RIDGES") kind.Int tables.PolytopesAndCones
row VertexDegrees =
    record (plain 34
    (codes "VERTEX_DEGREES") kind.Counts tables.PolytopesAndCones) {
      cone_name = codes "RAY_DEGREES";
      speaks_of_rays = true;
    }
row FarFace = record (plain 35 (codes "FAR_FACE") kind.Counts tables.Polytopes) { speaks_of_rays = true }
row MaximalCones = record (plain 36 (codes "MAXIMAL_CONES") kind.Sets tables.Fans) {
  speaks_of_rays = true;
  speaks_of_facets = true;
}
row NMaximalCones = plain 37 (codes "N_MAXIMAL_CONES") kind.Int tables.Fans
row MaximalConesDims =
    record (plain 38 (codes "MAXIMAL_CONES_DIMS") kind.Counts tables.Fans) { speaks_of_facets = true }
row FanDim = plain 39 (codes "FAN_DIM") kind.Int tables.Fans
row Pure = plain 40 (codes "PURE") kind.Bool tables.Fans
row LinearObjective =
    record (plain 41 (codes "LP.LINEAR_OBJECTIVE") kind.Mat tables.Programs) { columns = columns.Rows }
row MaximalValue = plain 42 (codes "LP.MAXIMAL_VALUE") kind.Number tables.Programs
row MinimalValue = plain 43 (codes "LP.MINIMAL_VALUE") kind.Number tables.Programs
row MaximalFace =
    record (plain 44 (codes "LP.MAXIMAL_FACE") kind.Counts tables.Programs) { speaks_of_rays = true }
row MinimalFace =
    record (plain 45 (codes "LP.MINIMAL_FACE") kind.Counts tables.Programs) { speaks_of_rays = true }
row MaximalDual =
    record (plain 46 (codes "LP.MAXIMAL_DUAL") kind.Mat tables.Programs) { columns = columns.Rows }
row MinimalDual =
    record (plain 47 (codes "LP.MINIMAL_DUAL") kind.Mat tables.Programs) { columns = columns.Rows }
row PlacingTriangulation =
    record (plain 48
    (codes "PLACING_TRIANGULATION") kind.Sets tables.PolytopesAndCones) { speaks_of_rays = true }
row Sites = record (plain 49 (codes "SITES") kind.Mat tables.Polytopes) {
  columns = columns.Rows;
  test = test.Site;
}
row SiteHeights = plain 50 (codes "SITE_HEIGHTS") kind.Mat tables.Polytopes
row RegularCells = plain 51 (codes "REGULAR_CELLS") kind.Sets tables.Polytopes
row DelaunayCells = plain 52 (codes "DELAUNAY_CELLS") kind.Sets tables.Polytopes

-- every property, in the order of the numbers
abbrev pub every_property : List PropId
every_property = ConeAmbientDim ∷ Points ∷ InputLineality ∷ Inequalities ∷ Equations ∷ Vertices
    ∷ LinealitySpace ∷ Facets ∷ AffineHull ∷ VerticesInFacets ∷ ConeDim ∷ LinealityDim ∷ CombinatorialDim
    ∷ NVertices ∷ NFacets ∷ Feasible ∷ Bounded ∷ Pointed ∷ FullDim ∷ Centered ∷ Simple ∷ Simplicial
    ∷ VertexSizes ∷ FacetSizes ∷ HasseDiagram ∷ FVector ∷ F2Vector ∷ HVector ∷ Graph ∷ DualGraph ∷ Diameter
    ∷ DualDiameter ∷ NEdges ∷ NRidges ∷ VertexDegrees ∷ FarFace ∷ MaximalCones ∷ NMaximalCones
    ∷ MaximalConesDims ∷ FanDim ∷ Pure ∷ LinearObjective ∷ MaximalValue ∷ MinimalValue ∷ MaximalFace
    ∷ MinimalFace ∷ MaximalDual ∷ MinimalDual ∷ PlacingTriangulation ∷ Sites ∷ SiteHeights ∷ RegularCells
    ∷ DelaunayCells ∷ []

-- how many there are
abbrev pub count : ℕ
count = 53

abbrev pub number : PropId → ℕ
number p = (row p).number

-- the property of a number
abbrev pub property_at : ℕ → Option PropId
property_at k = slice_get every_property k

-- the form that its values have
abbrev pub value_kind : PropId → ValueKind
value_kind p = (row p).kind

-- ---- the tables that have it
abbrev pub of_polytopes : Tables → Bool
of_polytopes tables.All = true
of_polytopes tables.PolytopesAndCones = true
of_polytopes tables.Polytopes = true
of_polytopes t = false

abbrev pub of_cones : Tables → Bool
of_cones tables.All = true
of_cones tables.PolytopesAndCones = true
of_cones t = false

abbrev pub of_fans : Tables → Bool
of_fans tables.All = true
of_fans tables.Fans = true
of_fans t = false

abbrev pub of_programs : Tables → Bool
of_programs tables.Programs = true
of_programs t = false

-- whether a type of objects is among them
abbrev pub of_type : ObjectType → Tables → Bool
of_type Polytope t = of_polytopes t
of_type Cone t = of_cones t
of_type Fan t = of_fans t

-- whether the table of a type of objects has the property
abbrev pub has : ObjectType → PropId → Bool
has of p = of_type of (row p).tables

-- whether the table of linear programs has it
abbrev pub has_program : PropId → Bool
has_program p = of_programs (row p).tables

-- whether it is in use for an object of the type: its table has it, or a program is asked and the table of programs
-- has it
abbrev pub is_in_use : Option ℕ → ObjectType → PropId → Bool
is_in_use sub of p = has of p || is_some sub && has_program p

-- ---- what it speaks of
abbrev pub rays_tag : PropId → Bool
rays_tag p = (row p).speaks_of_rays

abbrev pub facets_tag : PropId → Bool
facets_tag p = (row p).speaks_of_facets

abbrev pub by_generators : Describes → Bool
by_generators describes.Generators = true
by_generators d = false

abbrev pub by_half_spaces : Describes → Bool
by_half_spaces describes.HalfSpaces = true
by_half_spaces d = false

-- its rows lie in the thing
abbrev pub is_generator : PropId → Bool
is_generator p = by_generators (row p).describes

-- its rows are valid on the thing
abbrev pub is_half_space : PropId → Bool
is_half_space p = by_half_spaces (row p).describes

-- half of the pair POINTS with INPUT_LINEALITY
abbrev pub generators_tag : PropId → Bool
generators_tag p = (row p).is_half && is_generator p

-- half of the pair INEQUALITIES with EQUATIONS
abbrev pub half_spaces_tag : PropId → Bool
half_spaces_tag p = (row p).is_half && is_half_space p

-- ---- its names
abbrev pub first_name : PropId → List ℕ
first_name p = (row p).first_name

abbrev pub cone_name : PropId → List ℕ
cone_name p = (row p).cone_name

abbrev pub fan_name : PropId → List ℕ
fan_name p = (row p).fan_name

abbrev pub name_for : ObjectType → RowSeen → List ℕ
name_for Polytope r = r.first_name
name_for Cone r = r.cone_name
name_for Fan r = r.fan_name

-- its name in the table of a type of objects
abbrev pub name_in : ObjectType → PropId → List ℕ
name_in of p = name_for of (row p)

-- ---- its values
abbrev pub are_rows_of_columns : Columns → Bool
are_rows_of_columns columns.Rows = true
are_rows_of_columns c = false

abbrev pub are_numbers_of_columns : Columns → Bool
are_numbers_of_columns columns.Value = true
are_numbers_of_columns c = false

-- its matrices have the thing's n columns
abbrev pub is_columned : PropId → Bool
is_columned p = are_rows_of_columns (row p).columns

-- its value is n
abbrev pub is_ambient : PropId → Bool
is_ambient p = are_numbers_of_columns (row p).columns

abbrev pub is_of_matrices : ValueKind → Bool
is_of_matrices kind.Mat = true
is_of_matrices k = false

abbrev pub is_of_sets : ValueKind → Bool
is_of_sets kind.Sets = true
is_of_sets k = false

abbrev pub is_of_whole_numbers : ValueKind → Bool
is_of_whole_numbers kind.Int = true
is_of_whole_numbers k = false

abbrev pub is_of_truth_values : ValueKind → Bool
is_of_truth_values kind.Bool = true
is_of_truth_values k = false

abbrev pub is_of_counts : ValueKind → Bool
is_of_counts kind.Counts = true
is_of_counts k = false

abbrev pub is_of_edges : ValueKind → Bool
is_of_edges kind.Edges = true
is_of_edges k = false

abbrev pub is_of_lattices : ValueKind → Bool
is_of_lattices kind.Lattice = true
is_of_lattices k = false
