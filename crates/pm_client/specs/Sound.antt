-- When a run of a client is sound, and which evidence holds of a view.
use Rattle.std.specs.Prelude.{ℕ, ◌≡◌, ◌++◌, ◌⊎◌, Bool, true, false, IsTrue, Option, List, [], ◌∷◌, Some, map}
use Rattle.std.specs.List.{Contains}
use Rattle.pm_vector.specs.Divisors.{IsPrimitive}
use Rattle.pm_vector.specs.Numbers.{Ratio}
use Rattle.pm_vector.specs.Rows.{Row, Stands}
use Rattle.pm_dd.specs.declared.fails.DdFail.{DdFail}
use Rattle.pm_dd.specs.declared.fails.DdFail.TheVariants as double
use Rattle.pm_incidence.specs.declared.fails.IncFail.{IncFail}
use Rattle.pm_incidence.specs.declared.fails.IncFail.TheVariants as incidence
use Rattle.pm_incidence.specs.declared.fails.ThinFail.{ThinFail}
use Rattle.pm_incidence.specs.declared.fails.ThinFail.TheVariants as thinning
use Rattle.pm_laws_placing.specs.PlacedCells.{AreCrowdedCells}
use Rattle.pm_lattice.specs.declared.lattice.LatticeFail.{LatticeFail}
use Rattle.pm_lattice.specs.declared.lattice.LatticeFail.TheVariants as closing
use Rattle.pm_incidence.specs.FromSets.{IsDetermining, IsWideSign, turned}
use Rattle.pm_incidence.specs.Thinning.{AreManyFacets, IsBasisAndRow, flat_group}
use Rattle.pm_vector.specs.EliminationSteps.{EliminationStep}
use Rattle.pm_vector.specs.Enlarging.{MarkEnlarging}
use Rattle.pm_vector.specs.Evidence.{IsEvidence, unit}
use Rattle.pm_elim.specs.declared.evidence.ElimFail.{ElimFail}
use Rattle.pm_elim.specs.declared.evidence.ElimFail.TheVariants as elimination
use Rattle.pm_geom.specs.Evidence.{IsWideProduct}
use Rattle.pm_geom.specs.Faces.{ray}
use Rattle.pm_geom.specs.Graphs.{sets_of}
use Rattle.pm_geom.specs.Meets.{AreTooManyMeets}
use Rattle.pm_geom.specs.RayEvidence.{IsCrowded, IsWidePair}
use Rattle.pm_geom.specs.StatedOrder.{rows_marked}
use Rattle.pm_dd.specs.HullRefusals.{IsDoubleList}
use Rattle.pm_object_type.specs.declared.object_type.ObjectType.{ObjectType}
use Rattle.pm_object_type.specs.declared.object_type.ObjectType.TheVariants.{Polytope}
use Rattle.pm_geom.specs.declared.evidence.Evidence.{Evidence}
use Rattle.pm_geom.specs.declared.evidence.Evidence.TheVariants.{E1, E2, E3, E4, E5Cells, E5Faces, E5Rays, E5Rows}
use Rattle.pm_lift.specs.Refusals.{IsLiftFail, IsRaiseFail}
use Rattle.pm_lift.specs.declared.fails.LiftFail.{LiftFail}
use Rattle.pm_lift.specs.declared.fails.LiftFail.TheVariants as lift
use Rattle.pm_fraction.specs.FractionRows.{ArePrimitiveRowsOf}
use Rattle.pm_object.specs.Reading.{DraftSeen, ViewSeen, answer_of, fact_of}
use Rattle.pm_types.specs.Runs.{MayAnswer}
use Rattle.pm_types.specs.Values.{Fact, IndexSets, extended, finite, matrix, sets}
use Rattle.pm_props.specs.Properties.{is_generator, is_half_space}
use Rattle.pm_simplex.specs.Generated.{IsWideThinning, no_objective}
use Rattle.pm_simplex.specs.Lineality.{MarkLines, line_group}
use Rattle.pm_simplex.specs.Lineality as lineality
use Rattle.pm_simplex.specs.Answers.{ShowsProgram}
use Rattle.pm_simplex.specs.OptimumEvidence.{ShowsDualRow, ShowsFace, ShowsValue}
use Rattle.pm_simplex.specs.Senses.{objective_in, ratio_in}
use Rattle.pm_simplex.specs.declared.sense.Sense.{Sense}
use Rattle.pm_simplex.specs.declared.sense.Sense.TheVariants.{Maximal, Minimal}
use Rattle.pm_simplex.specs.declared.fails.LpFail.{LpFail}
use Rattle.pm_simplex.specs.declared.fails.LpFail.TheVariants as linear
use Rattle.pm_props.specs.declared.kind.Kind.{Kind}
use Rattle.pm_props.specs.declared.property.PropId.{PropId}
use Rattle.pm_props.specs.declared.property.PropId.TheVariants.{Points, InputLineality, Inequalities, Equations, Vertices, LinealitySpace, Facets, AffineHull, VerticesInFacets, LinearObjective, MaximalValue, MinimalValue, MaximalCones, SiteHeights, Sites}
use Rattle.pm_standard.specs.Ways.{Optimum, greatest, least}
pub use Rattle.pm_standard.specs.Ways.{Eliminated, row_list, first_part, double_list, enlarging_rows, flat_rows, flat_basis_and_row, line_rows, line_basis_and_row, determining_rows, cone_rows, doubling, thinning_programs, feasibility, optimum_over_facets, optimum_over_rows, products, determined_rays, determined_facets, dual, at_rays, at_face, facet_count, face_count, cell_count, lifting, raising}
pub use Rattle.pm_standard.specs.Named.{eliminated_by, has_way}
use Rattle.pm_client.specs.declared.ClientFail.{ClientFail}
use Rattle.pm_client.specs.declared.ClientFail.TheVariants.{Memory, Failed}
use Rattle.pm_vector.specs.declared.evidence.ElimList.{ElimList}
use Rattle.pm_vector.specs.declared.evidence.ElimList.TheVariants as elimination_list

-- x is the primitive whole row in the direction of a row of a value of the view, of a property of that kind
pub record IsRowOf (v : ViewSeen) (of_kind : PropId → Bool) (x : Row) : Type 0 where
  pub fact : Fact
  pub read : Contains v.facts fact
  pub property : IsTrue (of_kind fact.property)
  pub n : ℕ
  pub rows : List (List Ratio)
  pub value : fact.value ≡ matrix n rows
  pub row : List Ratio
  pub listed : Contains rows row
  pub multiple : Stands row x
  pub primitive : IsPrimitive x

-- the view has the matrix of these rows, with the stated column count n, as its value of the property
abbrev pub ReadsMatrix : ViewSeen → PropId → ℕ → List (List Ratio) → Type 0
ReadsMatrix v p n rows = fact_of p v.facts ≡ Some (matrix n rows)

-- the two parts of a row list, in this order: lines and then points or rays, equations and then inequalities or facets
abbrev pub are_parts : PropId → PropId → Bool
are_parts InputLineality Points = true
are_parts LinealitySpace Vertices = true
are_parts Equations Inequalities = true
are_parts AffineHull Facets = true
are_parts p q = false

-- a polytope's INEQUALITIES have x0 >= 0 added to them
abbrev pub added_rows : ObjectType → ℕ → PropId → List Row
added_rows Polytope n Inequalities = unit n 0 ∷ []
added_rows of n q = []

-- X are the primitive whole rows of the values of both properties, one after the other, and what is added
pub record IsListOf (v : ViewSeen) (first second : PropId) (X : List Row) : Type 0 where
  pub first_cols : ℕ
  pub second_cols : ℕ
  pub first_rows : List (List Ratio)
  pub second_rows : List (List Ratio)
  pub reads_first : ReadsMatrix v first first_cols first_rows
  pub reads_second : ReadsMatrix v second second_cols second_rows
  pub xs : List Row
  pub ys : List Row
  pub first_primitive : ArePrimitiveRowsOf first_rows xs
  pub second_primitive : ArePrimitiveRowsOf second_rows ys
  pub listed : X ≡ xs ++ ys ++ added_rows v.of v.cols second

-- X is a list of two parts that the view reads
pub record IsRowList (v : ViewSeen) (X : List Row) : Type 0 where
  pub first : PropId
  pub second : PropId
  pub parts : IsTrue (are_parts first second)
  pub list : IsListOf v first second X

-- L are the primitive whole rows of the value of the first property, G those of the second, and what is added
pub record ArePartsOf (v : ViewSeen) (first second : PropId) (L G : List Row) : Type 0 where
  pub first_cols : ℕ
  pub second_cols : ℕ
  pub first_rows : List (List Ratio)
  pub second_rows : List (List Ratio)
  pub reads_first : ReadsMatrix v first first_cols first_rows
  pub reads_second : ReadsMatrix v second second_cols second_rows
  pub ys : List Row
  pub first_primitive : ArePrimitiveRowsOf first_rows L
  pub second_primitive : ArePrimitiveRowsOf second_rows ys
  pub added : G ≡ ys ++ added_rows v.of v.cols second

-- L and G are the two parts of a row list of the view
pub record AreParts (v : ViewSeen) (L G : List Row) : Type 0 where
  pub first : PropId
  pub second : PropId
  pub parts : IsTrue (are_parts first second)
  pub read : ArePartsOf v first second L G

-- L is the first of them
abbrev pub IsFirstPart : ViewSeen → List Row → Type 0
IsFirstPart v L = (G : List Row) × AreParts v L G

-- D is the double description list of the two parts: the echelon basis of the first both ways, and then the second
pub record IsDoubleListOf (v : ViewSeen) (D : List Row) : Type 0 where
  pub lines : List Row
  pub others : List Row
  pub read : AreParts v lines others
  pub list : IsDoubleList v.cols lines others D

-- X are the rows of D that are not in the span of those before them
pub record AreEnlarging (D X : List Row) : Type 0 where
  pub marks : List Bool
  pub enlarging : MarkEnlarging D marks
  pub rows : X ≡ rows_marked true marks D

-- the rows of the second property tell which rows of the first lie in the lineality of their list
abbrev pub are_told : PropId → PropId → Bool
are_told Points Facets = true
are_told Inequalities Vertices = true
are_told p q = false

-- A are the primitive whole rows of the view's value of the property
pub record AreRowsOf (v : ViewSeen) (p : PropId) (A : List Row) : Type 0 where
  pub cols : ℕ
  pub rows : List (List Ratio)
  pub reads : ReadsMatrix v p cols rows
  pub primitive : ArePrimitiveRowsOf rows A

-- L and G are the two parts of a row list of the view, and A the rows that tell which of them lie in the lineality
pub record TellLines (v : ViewSeen) (L G A : List Row) : Type 0 where
  pub first : PropId
  pub second : PropId
  pub other : PropId
  pub parts : IsTrue (are_parts first second)
  pub told : IsTrue (are_told second other)
  pub read : ArePartsOf v first second L G
  pub others : AreRowsOf v other A

-- X are the lines, and then the rows of the list on which each of the rows that tell vanishes
pub record IsFlatList (v : ViewSeen) (X : List Row) : Type 0 where
  pub lines : List Row
  pub rows : List Row
  pub others : List Row
  pub read : TellLines v lines rows others
  pub flat : X ≡ flat_group rows lines others

-- X is the echelon basis of these, and then some row of the list
pub record IsFlatBasisAndRow (v : ViewSeen) (X : List Row) : Type 0 where
  pub lines : List Row
  pub rows : List Row
  pub others : List Row
  pub read : TellLines v lines rows others
  pub flat : IsBasisAndRow v.cols rows lines others X

-- X are the lines, and then those rows of the list whose opposite is in the cone of all: they span the lineality
pub record IsLineList (v : ViewSeen) (X : List Row) : Type 0 where
  pub lines : List Row
  pub rows : List Row
  pub read : AreParts v lines rows
  pub marks : List Bool
  pub marked : MarkLines rows lines marks
  pub group : X ≡ line_group rows lines marks

-- X is the echelon basis of these, and then some row of the list
pub record IsLineBasisAndRow (v : ViewSeen) (X : List Row) : Type 0 where
  pub lines : List Row
  pub rows : List Row
  pub read : AreParts v lines rows
  pub marks : List Bool
  pub marked : MarkLines rows lines marks
  pub last : lineality.IsLinealityBasisAndRow v.cols rows lines marks X

-- the sets of those rows of the property that lie together: VERTICES_IN_FACETS has sets of VERTICES, and turned sets
-- of FACETS
abbrev pub sets_of_rows : PropId → IndexSets → List (List ℕ)
sets_of_rows Facets s = turned s
sets_of_rows Vertices s = s.rows
sets_of_rows p s = []

-- E and A are the primitive whole rows of the values of both properties, and the sets are of rows of the second
pub record AreSetsOf (v : ViewSeen) (first second : PropId) (E A : List Row) (in_sets : List (List ℕ))
    : Type 0 where
  pub parts : IsTrue (are_parts first second)
  pub equations : AreRowsOf v first E
  pub inequalities : AreRowsOf v second A
  pub index : IndexSets
  pub reads : fact_of VerticesInFacets v.facts ≡ Some (sets index.rows index.cols)
  pub turned : in_sets ≡ sets_of_rows second index

-- X determines the row of one of these sets
pub record IsDeterminingList (v : ViewSeen) (X : List Row) : Type 0 where
  pub first : PropId
  pub second : PropId
  pub equations : List Row
  pub inequalities : List Row
  pub in_sets : List (List ℕ)
  pub read : AreSetsOf v first second equations inequalities in_sets
  pub determining : IsDetermining v.cols equations inequalities in_sets X

-- X are the rows that span a maximal cone of a fan: LINEALITY_SPACE, and then the rays of a set of MAXIMAL_CONES
pub record IsConeList (v : ViewSeen) (X : List Row) : Type 0 where
  pub lines : List Row
  pub rays : List Row
  pub reads_lines : AreRowsOf v LinealitySpace lines
  pub reads_rays : AreRowsOf v Vertices rays
  pub index : IndexSets
  pub reads : fact_of MaximalCones v.facts ≡ Some (sets index.rows index.cols)
  pub set : List ℕ
  pub listed : Contains index.rows set
  pub rows : X ≡ lines ++ map (ray rays) set

-- X is this list of the view
abbrev pub IsEliminated : Eliminated → ViewSeen → List Row → Type 0
IsEliminated row_list v X = IsRowList v X
IsEliminated first_part v X = IsFirstPart v X
IsEliminated double_list v X = IsDoubleListOf v X
IsEliminated enlarging_rows v X = (D : List Row) × IsDoubleListOf v D × AreEnlarging D X
IsEliminated flat_rows v X = IsFlatList v X
IsEliminated flat_basis_and_row v X = IsFlatBasisAndRow v X
IsEliminated line_rows v X = IsLineList v X
IsEliminated line_basis_and_row v X = IsLineBasisAndRow v X
IsEliminated determining_rows v X = IsDeterminingList v X
IsEliminated cone_rows v X = IsConeList v X

-- a step in the elimination of a list of its client leaves the range
pub record IsWideElimination (v : ViewSeen) (e : EliminationStep) : Type 0 where
  pub list : Eliminated
  pub named : Contains (eliminated_by v.kind) list
  pub rows : List Row
  pub listed : IsEliminated list v rows
  pub shown : IsEvidence v.cols rows e

-- the client does double description, and with two extreme rays of a front of its list a step leaves the range
pub record IsWideDoubling (v : ViewSeen) (front : ℕ) (first second : Row) (column : Option ℕ) : Type 0 where
  pub named : IsTrue (has_way v.kind doubling)
  pub rows : List Row
  pub listed : IsDoubleListOf v rows
  pub shown : IsWidePair v.cols rows front first second column

-- the client does double description, and a front of its list has more than most_rows extreme rays
pub record IsCrowdedDoubling (v : ViewSeen) (front : ℕ) (rays : List Row) : Type 0 where
  pub named : IsTrue (has_way v.kind doubling)
  pub rows : List Row
  pub listed : IsDoubleListOf v rows
  pub shown : IsCrowded v.cols rows front rays

-- the client places the rays, and of a front of its list there are more than most_rows cells
pub record IsCrowdedPlacing (v : ViewSeen) (front : ℕ) (cells : List (List ℕ)) : Type 0 where
  pub named : IsTrue (has_way v.kind cell_count)
  pub lines : List Row
  pub rays : List Row
  pub read : AreParts v lines rays
  pub shown : AreCrowdedCells v.cols lines rays front cells

-- a row of a generator property and a row of a half-space property have a product that leaves the range
pub record AreWideRows (v : ViewSeen) (first second : Row) : Type 0 where
  pub named : IsTrue (has_way v.kind products)
  pub generator : IsRowOf v is_generator first
  pub half_space : IsRowOf v is_half_space second
  pub wide : IsWideProduct first second

-- the row x that a set of rows of the property determines and a row y of the property have such a product
pub record IsWideDetermined (v : ViewSeen) (first second : PropId) (x y : Row) : Type 0 where
  pub equations : List Row
  pub inequalities : List Row
  pub in_sets : List (List ℕ)
  pub read : AreSetsOf v first second equations inequalities in_sets
  pub wide : IsWideSign v.cols equations inequalities in_sets x y

-- the client does so; the ray comes first, be it determined or read
abbrev pub IsWideForSets : ViewSeen → Row → Row → Type 0
IsWideForSets v first second =
    (IsTrue (has_way v.kind determined_rays) × IsWideDetermined v AffineHull Facets first second)
    ⊎ (IsTrue (has_way v.kind determined_facets)
    × IsWideDetermined v LinealitySpace Vertices second first)

-- the client thins by linear programs, and in the program of a row of its list, or of its opposite, over some of the
-- rows a pivot leaves the range
pub record IsWideThinningOf (v : ViewSeen) (e : Evidence) : Type 0 where
  pub named : IsTrue (has_way v.kind thinning_programs)
  pub lines : List Row
  pub rows : List Row
  pub read : AreParts v lines rows
  pub shown : IsWideThinning v.cols rows lines e

-- the client asks whether INEQUALITIES, with what is added, and EQUATIONS have a point, and in that program, whose
-- objective is 0, a pivot leaves the range
pub record IsWideFeasibility (v : ViewSeen) (e : Evidence) : Type 0 where
  pub named : IsTrue (has_way v.kind feasibility)
  pub equations : List Row
  pub inequalities : List Row
  pub read : ArePartsOf v Equations Inequalities equations inequalities
  pub shown : ShowsProgram inequalities equations (no_objective v.cols) e

-- c is the objective of the program that is asked
abbrev pub ReadsObjective : ViewSeen → List Ratio → Type 0
ReadsObjective v c = (n : ℕ) × ReadsMatrix v LinearObjective n (c ∷ [])

-- what a sense seeks
abbrev pub sought : Sense → Optimum
sought Maximal = greatest
sought Minimal = least

-- a client of this kind finds the optimum in that sense over FACETS, with a dual, or over INEQUALITIES
abbrev pub finds_optimum : Kind → Sense → PropId → Bool
finds_optimum kind sense Facets = has_way kind (optimum_over_facets (sought sense))
finds_optimum kind sense Inequalities = has_way kind (optimum_over_rows (sought sense))
finds_optimum kind sense p = false

-- the optimum in that sense, as a property
abbrev pub optimum : Sense → PropId
optimum Maximal = MaximalValue
optimum Minimal = MinimalValue

-- the client finds an optimum over half-spaces, with what is added, and in their program, of the objective whose
-- greatest value is asked, a pivot leaves the range
pub record IsWideOptimum (v : ViewSeen) (e : Evidence) : Type 0 where
  pub sense : Sense
  pub first : PropId
  pub second : PropId
  pub named : IsTrue (finds_optimum v.kind sense second)
  pub parts : IsTrue (are_parts first second)
  pub equations : List Row
  pub inequalities : List Row
  pub read : ArePartsOf v first second equations inequalities
  pub objective : List Ratio
  pub reads_objective : ReadsObjective v objective
  pub shown : ShowsProgram inequalities equations (objective_in sense objective) e

-- the client finds an optimum over FACETS, and a row of a dual of their program leaves the range
pub record IsWideDual (v : ViewSeen) (e : Evidence) : Type 0 where
  pub sense : Sense
  pub named : IsTrue (has_way v.kind (dual (sought sense)))
  pub equations : List Row
  pub inequalities : List Row
  pub reads_equations : AreRowsOf v AffineHull equations
  pub reads_inequalities : AreRowsOf v Facets inequalities
  pub objective : List Ratio
  pub reads_objective : ReadsObjective v objective
  pub shown : ShowsDualRow inequalities equations (objective_in sense objective) e

-- the client finds an optimum at VERTICES, and the product of its objective with one of these or a line leaves the
-- range, or the optimum does
pub record IsWideAtRays (v : ViewSeen) (e : Evidence) : Type 0 where
  pub sense : Sense
  pub named : IsTrue (has_way v.kind (at_rays (sought sense)))
  pub lines : List Row
  pub rays : List Row
  pub reads_lines : AreRowsOf v LinealitySpace lines
  pub reads_rays : AreRowsOf v Vertices rays
  pub objective : List Ratio
  pub reads_objective : ReadsObjective v objective
  pub shown : ShowsValue sense objective rays lines e

-- the client finds the rays at an optimum, and the row that vanishes at the optimum leaves the range, or its product
-- with a ray does
pub record IsWideFace (v : ViewSeen) (e : Evidence) : Type 0 where
  pub sense : Sense
  pub named : IsTrue (has_way v.kind (at_face (sought sense)))
  pub rays : List Row
  pub reads_rays : AreRowsOf v Vertices rays
  pub objective : List Ratio
  pub reads_objective : ReadsObjective v objective
  pub value : Ratio
  pub reads_value : fact_of (optimum sense) v.facts ≡ Some (extended (finite value))
  pub shown : ShowsFace sense objective (ratio_in sense value) rays e

-- the evidence is of a product of a client of linear programs
abbrev pub IsWideForPrograms : ViewSeen → Evidence → Type 0
IsWideForPrograms v e = IsWideDual v e ⊎ IsWideAtRays v e ⊎ IsWideFace v e

-- the evidence is of a pivot in a program of the client
abbrev pub IsWideProgramOf : ViewSeen → Evidence → Type 0
IsWideProgramOf v e = IsWideThinningOf v e ⊎ IsWideFeasibility v e ⊎ IsWideOptimum v e

-- the client thins INEQUALITIES, and at more than most_rows places of these and of what is added stand facet rows
pub record IsCrowdedThinning (v : ViewSeen) (places : List ℕ) : Type 0 where
  pub named : IsTrue (has_way v.kind facet_count)
  pub equations : List Row
  pub inequalities : List Row
  pub reads_equations : AreRowsOf v Equations equations
  pub reads_inequalities : AreRowsOf v Inequalities inequalities
  pub shown : AreManyFacets v.of v.cols inequalities equations places

-- the client closes the sets of VERTICES_IN_FACETS, and of these there are more meets, or more places in them, than a
-- lattice may have
pub record IsCrowdedLattice (v : ViewSeen) (faces : List (List ℕ)) : Type 0 where
  pub named : IsTrue (has_way v.kind face_count)
  pub index : IndexSets
  pub reads : fact_of VerticesInFacets v.facts ≡ Some (sets index.rows index.cols)
  pub shown : AreTooManyMeets index.cols (sets_of index.rows) faces

-- W are the heights of sites that the view reads
abbrev pub ReadsHeights : ViewSeen → List Ratio → Type 0
ReadsHeights v W = (n : ℕ) × ReadsMatrix v SiteHeights n (W ∷ [])

-- the client finds the cells of the sites with their heights, and is refused for this
pub record IsLiftingFail (v : ViewSeen) (f : LiftFail) : Type 0 where
  pub named : IsTrue (has_way v.kind lifting)
  pub sites : List Row
  pub heights : List Ratio
  pub reads_sites : AreRowsOf v Sites sites
  pub reads_heights : ReadsHeights v heights
  pub shown : IsLiftFail v.cols sites heights f

-- it finds the Delaunay cells of the sites, and is refused for this
pub record IsRaisingFail (v : ViewSeen) (f : LiftFail) : Type 0 where
  pub named : IsTrue (has_way v.kind raising)
  pub sites : List Row
  pub reads_sites : AreRowsOf v Sites sites
  pub shown : IsRaiseFail v.cols sites f

-- it finds cells of sites, and is refused for this
abbrev pub FailsAtCells : ViewSeen → LiftFail → Type 0
FailsAtCells v f = IsLiftingFail v f ⊎ IsRaisingFail v f

-- the evidence holds of the view: a step of an elimination leaves the range, or one with two extreme rays, or a pivot
-- of a linear program; a front has too many of these, or of cells, or a thing too many facets or faces; or the
-- product of a generator's row with a half-space's row leaves the range, or of a row that a set determines with one
-- that was read, or of an objective with a ray, or a row of a dual does; or the cells of sites are refused for it
abbrev pub HoldsOf : Evidence → ViewSeen → Type 0
HoldsOf (E1 e) v = IsWideElimination v e ⊎ FailsAtCells v (lift.Wide (E1 e))
HoldsOf (E2 front first second column) v = IsWideDoubling v front first second column
    ⊎ FailsAtCells v (lift.Wide (E2 front first second column))
HoldsOf (E3 basis enter leave row column) v = IsWideProgramOf v (E3 basis enter leave row column)
HoldsOf (E4 first second) v = AreWideRows v first second ⊎ IsWideForSets v first second
    ⊎ IsWideForPrograms v (E4 first second) ⊎ FailsAtCells v (lift.Wide (E4 first second))
HoldsOf (E5Rays front rays) v = IsCrowdedDoubling v front rays
    ⊎ FailsAtCells v (lift.Many (E5Rays front rays))
HoldsOf (E5Rows places) v = IsCrowdedThinning v places
HoldsOf (E5Faces faces) v = IsCrowdedLattice v faces
HoldsOf (E5Cells front cells) v = IsCrowdedPlacing v front cells

-- the draft has a value for each target of the view's kind, in its form and canonical, and they are right wherever
-- what was read is
abbrev pub IsSound : ViewSeen → DraftSeen → Type 0
IsSound v draft = MayAnswer v.of v.cols v.kind v.sub v.facts (answer_of v.sub draft)

-- a client fails for want of memory, or with evidence that holds of the view
abbrev pub FailsRightly : ViewSeen → ClientFail → Type 0
FailsRightly v Memory = Unit {0}
FailsRightly v (Failed e) = HoldsOf e v

-- evidence of an elimination is of such a list: of the rows as they stand, say, or of what a null space extends them
-- to
abbrev pub EliminatesIn : (ElimList → Type 0) → ClientFail → Type 0
EliminatesIn Lists (Failed (E1 e)) = Lists e.list
EliminatesIn Lists (Failed e) = Unit {0}
EliminatesIn Lists Memory = Unit {0}

-- as a rank eliminates
abbrev pub EliminatesRows : ClientFail → Type 0
EliminatesRows f = EliminatesIn (λ l. l ≡ elimination_list.Rows) f

-- as a null space does
abbrev pub EliminatesExtended : ClientFail → Type 0
EliminatesExtended f = EliminatesIn (λ l. (l ≡ elimination_list.Rows) ⊎ (l ≡ elimination_list.Extended)) f

-- the failure of a client whose elimination was given up
abbrev pub fail_of : ElimFail → ClientFail
fail_of (elimination.Wide e) = Failed (E1 e)
fail_of elimination.Memory = Memory

-- the failure of a client whose double description was given up
abbrev pub fail_of_double : DdFail → ClientFail
fail_of_double (double.Wide e) = Failed e
fail_of_double (double.Many e) = Failed e
fail_of_double double.Memory = Memory

-- the failure of a client whose incidences were given up
abbrev pub fail_of_incidence : IncFail → ClientFail
fail_of_incidence (incidence.Wide e) = Failed e
fail_of_incidence incidence.Memory = Memory

-- the failure of a client whose thinning, or whose rows from sets, were given up
abbrev pub fail_of_thin : ThinFail → ClientFail
fail_of_thin (thinning.Wide e) = Failed e
fail_of_thin (thinning.Many e) = Failed e
fail_of_thin thinning.Memory = Memory

-- the failure of a client whose linear program was given up
abbrev pub fail_of_program : LpFail → ClientFail
fail_of_program (linear.Wide e) = Failed e
fail_of_program linear.Memory = Memory

-- the failure of a client whose closing of sets was given up
abbrev pub fail_of_lattice : LatticeFail → ClientFail
fail_of_lattice (closing.Many e) = Failed e
fail_of_lattice closing.Memory = Memory
