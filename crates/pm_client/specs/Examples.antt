-- The definitions of starts and of row lists read on small lists: what holds of them, and what does not.
use Rattle.pm_client.specs.Fails.{IfFailed, IfOutOfRange}
use Rattle.pm_client.specs.Sound.{AreEnlarging, AreParts, ArePartsOf, AreRowsOf, AreSetsOf, HoldsOf, IsCrowdedLattice, IsCrowdedPlacing, IsWideAtRays, IsWideDual, IsWideFace, IsWideForPrograms, IsWideOptimum, ReadsObjective, finds_optimum, optimum, IsCrowdedThinning, IsDeterminingList, IsDoubleListOf, IsEliminated, IsFlatBasisAndRow, IsFlatList, IsWideFeasibility, IsWideForSets, IsWideProgramOf, IsWideThinningOf, added_rows, are_parts, are_told, determining_rows, double_list, eliminated_by, enlarging_rows, fail_of, fail_of_double, fail_of_lattice, fail_of_program, fail_of_thin, first_part, flat_basis_and_row, flat_rows, line_basis_and_row, line_rows, row_list, sets_of_rows, IsConeList, cone_rows, has_way}
use Rattle.pm_standard.specs.Ways as way
use Rattle.pm_props.specs.Properties.{is_generator, is_half_space}
use Rattle.pm_client.specs.Starts.{Clients, after_start, has_client, kind_at, next_count, place_in, same_kind, started_once}
use Rattle.pm_client.specs.declared.ClientFail.TheVariants as fail
use Rattle.pm_dd.specs.declared.fails.DdFail.TheVariants as double
use Rattle.pm_elim.specs.declared.evidence.ElimFail.TheVariants as elimination
use Rattle.pm_geom.specs.Faces.{ray}
use Rattle.pm_geom.specs.Graphs.{sets_of}
use Rattle.pm_geom.specs.Meets.{AreTooManyMeets}
use Rattle.pm_geom.specs.declared.evidence.Evidence.{Evidence}
use Rattle.pm_geom.specs.declared.evidence.Evidence.TheVariants.{E3, E4, E5Cells, E5Faces, E5Rays, E5Rows}
use Rattle.pm_incidence.specs.Thinning.{AreManyFacets}
use Rattle.pm_incidence.specs.declared.fails.ThinFail.TheVariants as thinning
use Rattle.pm_laws_placing.specs.PlacedCells.{AreCrowdedCells}
use Rattle.pm_lattice.specs.declared.lattice.LatticeFail.TheVariants as closing
use Rattle.pm_object_type.specs.declared.object_type.ObjectType.TheVariants.{Cone, Fan, Polytope}
use Rattle.pm_vector.specs.Numbers.{Ratio}
use Rattle.pm_vector.specs.Rows.{Row}
use Rattle.pm_object.specs.Reading.{ViewSeen}
use Rattle.pm_simplex.specs.Generated.{IsWideThinning, no_objective}
use Rattle.pm_simplex.specs.Answers.{ShowsProgram}
use Rattle.pm_simplex.specs.OptimumEvidence.{ShowsDualRow, ShowsFace, ShowsValue}
use Rattle.pm_simplex.specs.declared.sense.Sense.TheVariants.{Maximal, Minimal}
use Rattle.pm_simplex.specs.declared.fails.LpFail.TheVariants as linear
use Rattle.pm_types.specs.Values.{IndexSets, extended, finite, matrix, sets}
use Rattle.pm_props.specs.declared.kind.Kind.{Kind}
use Rattle.pm_props.specs.declared.property.PropId.TheVariants.{AffineHull, Equations, Facets, Inequalities, InputLineality, LinealitySpace, LinearObjective, MaximalCones, MaximalValue, MinimalValue, Points, Vertices, VerticesInFacets}
use Rattle.std.specs.Prelude.{List, None, Some, [], codes, false, true, ℕ, ◌-◌, ◌^◌, ◌∷◌, ◌≡◌, ◌++◌}
use lib.IntN.{pos}

-- a kind of this name and these sets
abbrev pub named : List ℕ → ℕ → ℕ → Kind
named name targets sources = record {
  name = name;
  targets = targets;
  sources = sources;
  must = 0;
  must_not = 0;
}

-- a kind of this name, which finds and reads nothing
abbrev pub kind_named : List ℕ → Kind
kind_named name = named name 0 0

-- three kinds
abbrev pub ranks : Kind
ranks = named (codes "ranks") 1 2

abbrev pub signs : Kind
signs = named (codes "signs") 4 1

abbrev pub others : Kind
others = named (codes "ranks") 1 3

-- three clients of the first two kinds, of which the last was started as often as can be counted
abbrev pub three : Clients
three = (ranks, 0) ∷ (signs, 4) ∷ (ranks, 2 ^ 64 - 1) ∷ []

pub record StartsAreRead : Type 0 where
  -- a kind is that of the same name and sets, not one that differs in a set or in its name
  pub same : same_kind ranks ranks ≡ true
  pub other_sources : same_kind ranks others ≡ false
  pub other_name : same_kind ranks (named (codes "signs") 1 2) ≡ false
  -- the first client of a kind
  pub first : place_in ranks 0 three ≡ Some 0
  pub second : place_in signs 0 three ≡ Some 1
  pub from_five : place_in signs 5 three ≡ Some 6
  pub none : has_client others three ≡ false
  pub some : has_client signs three ≡ true
  -- kinds at places
  pub kind : kind_at 1 three ≡ Some signs
  pub beyond : kind_at 3 three ≡ None
  -- one start more, of the first client of the kind alone
  pub started : after_start ranks three ≡ (ranks, 1) ∷ (signs, 4) ∷ (ranks, 2 ^ 64 - 1) ∷ []
  pub started_second : after_start signs three ≡ (ranks, 0) ∷ (signs, 5) ∷ (ranks, 2 ^ 64 - 1) ∷ []
  pub started_none : after_start others three ≡ three
  pub once : started_once (signs, 4) ≡ (signs, 5)
  -- the greatest number stays
  pub greatest : next_count (2 ^ 64 - 1) ≡ 2 ^ 64 - 1

pub record RowListsAreRead : Type 0 where
  pub points : is_generator Points ≡ true
  pub no_generator : is_generator Facets ≡ false
  pub facets : is_half_space Facets ≡ true
  pub no_half_space : is_half_space Points ≡ false
  -- lines come first, and are no part of a list with half-spaces
  pub rays : are_parts LinealitySpace Vertices ≡ true
  pub half_spaces : are_parts Equations Inequalities ≡ true
  pub turned : are_parts Vertices LinealitySpace ≡ false
  pub mixed : are_parts InputLineality Inequalities ≡ false
  -- x0 >= 0 is added to the INEQUALITIES of a polytope alone
  pub added : added_rows Polytope 3 Inequalities ≡ (pos 1 ∷ pos 0 ∷ pos 0 ∷ []) ∷ []
  pub not_to_facets : added_rows Polytope 3 Facets ≡ []
  pub not_to_cones : added_rows Cone 3 Inequalities ≡ []
  pub memory : fail_of elimination.Memory ≡ fail.Memory
  pub memory_of_double : fail_of_double double.Memory ≡ fail.Memory
  -- what clients eliminate, by their names
  pub doubling : has_way (kind_named (codes "dd_facets_v")) way.doubling ≡ true
  pub not_doubling : has_way (kind_named (codes "hull_from_vertices")) way.doubling ≡ false
  pub placing : has_way (kind_named (codes "bb_facets")) way.cell_count ≡ true
  pub not_placing : has_way (kind_named (codes "dd_facets")) way.cell_count ≡ false
  pub placing_doubles : has_way (kind_named (codes "placing")) way.doubling ≡ true
  pub of_double : eliminated_by (kind_named (codes "dd_vertices")) ≡ first_part ∷ double_list ∷ enlarging_rows ∷ []
  pub of_ranks : eliminated_by (kind_named (codes "cone_dim_v")) ≡ row_list ∷ []

-- a row of one entry
abbrev pub single : ℕ → Row
single k = pos k ∷ []

-- a view of a polytope with one column, whose INEQUALITIES and EQUATIONS have no row
abbrev pub no_rows : ViewSeen
no_rows = record {
  of = Polytope;
  cols = 1;
  kind = named (codes "dd_vertices") 1 2;
  sub = None;
  facts = record { place = None; property = Inequalities; value = matrix 0 [] }
      ∷ record { place = None; property = Equations; value = matrix 0 [] }
      ∷ [];
}

pub record DoublesAreRead : Type 0 where
  -- the second part ends with what is added, here x0 >= 0
  pub parts : AreParts no_rows [] (single 1 ∷ [])
  pub not_added : ¬ (ArePartsOf no_rows Equations Inequalities [] [])
  pub not_read : ¬ (ArePartsOf no_rows AffineHull Facets [] [])
  -- the double description list is that of both parts
  pub list : IsDoubleListOf no_rows (single 1 ∷ [])
  pub not_list : ¬ (IsDoubleListOf no_rows [])
  -- a row that was there before enlarges no span
  pub enlarging : AreEnlarging (single 1 ∷ single 2 ∷ []) (single 1 ∷ [])
  pub not_enlarging : ¬ (AreEnlarging (single 1 ∷ single 2 ∷ []) (single 1 ∷ single 2 ∷ []))
  -- the lists of that view
  pub first : IsEliminated first_part no_rows []
  pub double : IsEliminated double_list no_rows (single 1 ∷ [])
  pub not_double : ¬ (IsEliminated double_list no_rows [])

-- a view of a cone with one column: POINTS, FACETS and their other halves have no row, and no facet has a set with
-- the one ray
abbrev pub no_points : ViewSeen
no_points = record {
  of = Cone;
  cols = 1;
  kind = named (codes "thin_points_f") 1 2;
  sub = None;
  facts = record { place = None; property = Points; value = matrix 0 [] }
      ∷ record { place = None; property = InputLineality; value = matrix 0 [] }
      ∷ record { place = None; property = Facets; value = matrix 0 [] }
      ∷ record { place = None; property = AffineHull; value = matrix 0 [] }
      ∷ record { place = None; property = VerticesInFacets; value = sets [] 1 }
      ∷ [];
}

-- a view of a polytope with one column: EQUATIONS, INEQUALITIES, VERTICES and LINEALITY_SPACE have no row, and x0 >=
-- 0 is added
abbrev pub no_vertices : ViewSeen
no_vertices = record {
  of = Polytope;
  cols = 1;
  kind = named (codes "thin_inequalities_v") 2 2;
  sub = None;
  facts = record { place = None; property = Inequalities; value = matrix 0 [] }
      ∷ record { place = None; property = Equations; value = matrix 0 [] }
      ∷ record { place = None; property = Vertices; value = matrix 0 [] }
      ∷ record { place = None; property = LinealitySpace; value = matrix 0 [] }
      ∷ [];
}

-- of two sets of three rays both have the first, the second has the last
abbrev pub two_sets : IndexSets
two_sets = record { rows = (0 ∷ []) ∷ (0 ∷ 2 ∷ []) ∷ []; cols = 3 }

pub record ThinningIsRead : Type 0 where
  -- which rows tell which lie in the lineality
  pub told : are_told Points Facets ≡ true
  pub told_by_rays : are_told Inequalities Vertices ≡ true
  pub not_told : are_told Points Vertices ≡ false
  pub rows : AreRowsOf no_points Points []
  pub not_rows : ¬ (AreRowsOf no_points Points (single 1 ∷ []))
  -- no row lies there
  pub flat : IsFlatList no_points []
  pub not_flat : ¬ (IsFlatList no_points (single 1 ∷ []))
  pub no_basis_and_row : ¬ (IsFlatBasisAndRow no_points [])
  -- where there is no vertex, x0 >= 0 vanishes on all: it lies there, is a basis, and is reduced by it
  pub added_flat : IsFlatList no_vertices (single 1 ∷ [])
  pub added_left_out : ¬ (IsFlatList no_vertices [])
  pub basis_and_row : IsFlatBasisAndRow no_vertices (single 1 ∷ single 1 ∷ [])
  -- sets of rays, and turned sets of facets
  pub of_rays : sets_of_rows Vertices two_sets ≡ (0 ∷ []) ∷ (0 ∷ 2 ∷ []) ∷ []
  pub of_facets : sets_of_rows Facets two_sets ≡ (0 ∷ 1 ∷ []) ∷ [] ∷ (1 ∷ []) ∷ []
  pub of_points : sets_of_rows Points two_sets ≡ []
  pub in_sets : AreSetsOf no_points AffineHull Facets [] [] ([] ∷ [])
  pub not_in_sets : ¬ (AreSetsOf no_points AffineHull Facets [] [] [])
  -- the ray on no facet is determined by the unit row of the pivot of its lineality
  pub determining : IsDeterminingList no_points (single 1 ∷ [])
  pub not_determining : ¬ (IsDeterminingList no_rows (single 1 ∷ []))
  -- a client of another name has no such evidence
  pub not_wide : ¬ (IsWideForSets no_points (single 1) (single 1))
  pub not_crowded : ¬ (IsCrowdedThinning no_points [])
  -- what clients eliminate, by their names
  pub thinning_client : has_way (kind_named (codes "thin_inequalities_v")) way.facet_count ≡ true
  pub not_thinning : has_way (kind_named (codes "thin_points_f")) way.facet_count ≡ false
  pub sets_client : has_way (kind_named (codes "facets_from_sets")) way.determined_facets ≡ true
  pub not_of_sets : has_way (kind_named (codes "facet_sizes")) way.determined_facets ≡ false
  pub of_thinning : eliminated_by (kind_named (codes "thin_inequalities_v")) ≡ flat_rows ∷ flat_basis_and_row ∷ []
  pub of_sets : eliminated_by (kind_named (codes "vertices_from_sets")) ≡ row_list ∷ determining_rows ∷ []
  pub memory : fail_of_thin thinning.Memory ≡ fail.Memory

-- a view of a polytope with one column for a client of this name, whose INEQUALITIES and EQUATIONS have no row
abbrev pub without_rows : List ℕ → ViewSeen
without_rows name = record no_rows { kind = named name 1 2 }

pub record ProgramsAreRead : Type 0 where
  -- what clients eliminate that thin by linear programs
  pub thinning_client : has_way (kind_named (codes "thin_points_lp")) way.thinning_programs ≡ true
  pub not_thinning : has_way (kind_named (codes "thin_points_f")) way.thinning_programs ≡ false
  pub of_thinning : eliminated_by (kind_named (codes "thin_inequalities_lp")) ≡ line_rows ∷ line_basis_and_row ∷ []
  pub thins_rows : has_way (kind_named (codes "thin_inequalities_lp")) way.facet_count ≡ true
  pub thins_points : has_way (kind_named (codes "thin_points_lp")) way.facet_count ≡ false
  -- the opposite of x0 >= 0 is not in its cone: the row spans no line, and is reduced by the empty basis
  pub lines : IsEliminated line_rows no_rows []
  pub not_lines : ¬ (IsEliminated line_rows no_rows (single 1 ∷ []))
  pub basis_and_row : IsEliminated line_basis_and_row no_rows (single 1 ∷ [])
  pub no_basis_and_row : ¬ (IsEliminated line_basis_and_row no_rows [])
  -- evidence is of a program of what was read, with what is added
  pub thinned : (e : Evidence) → IsWideThinning 1 (single 1 ∷ []) [] e
      → IsWideThinningOf (without_rows (codes "thin_inequalities_lp")) e
  pub these_rows : (e : Evidence) → IsWideThinningOf (without_rows (codes "thin_inequalities_lp")) e
      → IsWideThinning 1 (single 1 ∷ []) [] e
  pub feasible : (e : Evidence) → ShowsProgram (single 1 ∷ []) [] (no_objective 1) e
      → IsWideFeasibility (without_rows (codes "feasible_lp")) e
  pub this_program : (e : Evidence) → IsWideFeasibility (without_rows (codes "feasible_lp")) e
      → ShowsProgram (single 1 ∷ []) [] (no_objective 1) e
  -- such evidence holds of the view
  pub held : (basis : List ℕ) (enter leave row column : ℕ)
      → ShowsProgram (single 1 ∷ []) [] (no_objective 1) (E3 basis enter leave row column)
      → HoldsOf (E3 basis enter leave row column) (without_rows (codes "feasible_lp"))
  pub not_held : (basis : List ℕ) (enter leave row column : ℕ)
      → ¬ (HoldsOf (E3 basis enter leave row column) no_rows)
  -- a client of another name has no program, and of no client a product is evidence of one
  pub other_client : (e : Evidence) → ¬ (IsWideProgramOf no_rows e)
  pub product : (name : List ℕ) → ¬ (IsWideProgramOf (without_rows name) (E4 (single 1) (single 1)))
  -- too many facets are among the rows that were read, with what is added
  pub crowded : (places : List ℕ) → AreManyFacets Polytope 1 [] [] places
      → IsCrowdedThinning (without_rows (codes "thin_inequalities_lp")) places
  -- what such a failure is to a client
  pub wide : (e : Evidence) → fail_of_program (linear.Wide e) ≡ fail.Failed e
  pub memory : fail_of_program linear.Memory ≡ fail.Memory

-- the objective 0 of one column, and the value 0
abbrev pub nothing : Ratio
nothing = record { num = pos 0; den = pos 1 }

-- a view of a linear program of a polytope with one column for a client of this name: the half-spaces, rays and lines
-- have no row, the objective is 0, and so is its greatest value
abbrev pub of_program : List ℕ → ViewSeen
of_program name = record {
  of = Polytope;
  cols = 1;
  kind = named name 1 2;
  sub = Some 0;
  facts = record { place = None; property = Inequalities; value = matrix 0 [] }
      ∷ record { place = None; property = Equations; value = matrix 0 [] }
      ∷ record { place = None; property = Facets; value = matrix 0 [] }
      ∷ record { place = None; property = AffineHull; value = matrix 0 [] }
      ∷ record { place = None; property = Vertices; value = matrix 0 [] }
      ∷ record { place = None; property = LinealitySpace; value = matrix 0 [] }
      ∷ record { place = Some 0; property = LinearObjective; value = matrix 1 ((nothing ∷ []) ∷ []) }
      ∷ record { place = Some 0; property = MaximalValue; value = extended (finite nothing) }
      ∷ [];
}

pub record OptimaAreRead : Type 0 where
  -- what clients find, by their names
  pub over_rows : finds_optimum (kind_named (codes "lp_max_rows")) Maximal Inequalities ≡ true
  pub other_sense : finds_optimum (kind_named (codes "lp_max_rows")) Minimal Inequalities ≡ false
  pub over_facets : finds_optimum (kind_named (codes "lp_min")) Minimal Facets ≡ true
  pub not_over_facets : finds_optimum (kind_named (codes "lp_min_rows")) Minimal Facets ≡ false
  pub not_over_vertices : finds_optimum (kind_named (codes "lp_max_v")) Maximal Vertices ≡ false
  pub at_rays : has_way (kind_named (codes "lp_min_v")) (way.at_rays way.least) ≡ true
  pub not_at_rays : has_way (kind_named (codes "lp_min_v")) (way.at_rays way.greatest) ≡ false
  pub at_face : has_way (kind_named (codes "lp_max_face")) (way.at_face way.greatest) ≡ true
  pub not_at_face : has_way (kind_named (codes "lp_max_face")) (way.at_face way.least) ≡ false
  pub greatest : optimum Maximal ≡ MaximalValue
  pub least : optimum Minimal ≡ MinimalValue
  -- the objective is the row that was read
  pub objective : ReadsObjective (of_program (codes "lp_max")) (nothing ∷ [])
  pub other_objective : ¬ (ReadsObjective (of_program (codes "lp_max")) [])
  pub no_objective : (c : List Ratio) → ¬ (ReadsObjective no_rows c)
  -- evidence is of the program of what was read: x0 >= 0 is added to INEQUALITIES, and not to FACETS
  pub of_rows : (e : Evidence) → ShowsProgram (single 1 ∷ []) [] (nothing ∷ []) e
      → IsWideOptimum (of_program (codes "lp_max_rows")) e
  pub of_facets : (e : Evidence) → ShowsProgram [] [] (nothing ∷ []) e
      → IsWideOptimum (of_program (codes "lp_max")) e
  pub not_optimum : (e : Evidence) → ¬ (IsWideOptimum no_rows e)
  pub held : (basis : List ℕ) (enter leave row column : ℕ)
      → ShowsProgram [] [] (nothing ∷ []) (E3 basis enter leave row column)
      → HoldsOf (E3 basis enter leave row column) (of_program (codes "lp_max"))
  -- or of a dual of it, or of the rays that were read
  pub of_dual : (e : Evidence) → ShowsDualRow [] [] (nothing ∷ []) e
      → IsWideDual (of_program (codes "lp_max")) e
  pub not_dual : (e : Evidence) → ¬ (IsWideDual no_rows e)
  pub of_rays : (e : Evidence) → ShowsValue Maximal (nothing ∷ []) [] [] e
      → IsWideAtRays (of_program (codes "lp_max_v")) e
  pub not_rays : (e : Evidence) → ¬ (IsWideAtRays no_rows e)
  pub of_face : (e : Evidence) → ShowsFace Maximal (nothing ∷ []) nothing [] e
      → IsWideFace (of_program (codes "lp_max_face")) e
  -- no least value was read
  pub not_face : (e : Evidence) → ¬ (IsWideFace (of_program (codes "lp_min_face")) e)
  pub held_product : (x y : Row) → ShowsDualRow [] [] (nothing ∷ []) (E4 x y)
      → HoldsOf (E4 x y) (of_program (codes "lp_max"))
  pub not_held : (x y : Row) → ¬ (IsWideForPrograms no_rows (E4 x y))

-- a view of a cone with one column for a client of this name, which reads these sets
abbrev pub with_sets : List ℕ → IndexSets → ViewSeen
with_sets name index = record {
  of = Cone;
  cols = 1;
  kind = named name 1 1;
  sub = None;
  facts = record { place = None; property = VerticesInFacets; value = sets index.rows index.cols } ∷ [];
}

-- a view for the same client that has no sets
abbrev pub without_sets : ViewSeen
without_sets = record { of = Cone; cols = 1; kind = named (codes "faces") 1 1; sub = None; facts = [] }

pub record LatticesAreRead : Type 0 where
  -- the evidence is of the sets that the client read: more meets of these than a lattice may have
  pub crowded : (index : IndexSets) (faces : List (List ℕ))
      → AreTooManyMeets index.cols (sets_of index.rows) faces
      → IsCrowdedLattice (with_sets (codes "faces") index) faces
  pub these_sets : (index : IndexSets) (faces : List (List ℕ))
      → IsCrowdedLattice (with_sets (codes "faces") index) faces
      → AreTooManyMeets index.cols (sets_of index.rows) faces
  pub few : ¬ (IsCrowdedLattice (with_sets (codes "faces") two_sets) ([] ∷ (0 ∷ []) ∷ []))
  pub none_read : (faces : List (List ℕ)) → ¬ (IsCrowdedLattice without_sets faces)
  -- a client of another name has no such evidence
  pub other_client : (index : IndexSets) (faces : List (List ℕ))
      → ¬ (IsCrowdedLattice (with_sets (codes "f_vector") index) faces)
  -- what such a failure is to a client
  pub many : (e : Evidence) → fail_of_lattice (closing.Many e) ≡ fail.Failed e
  pub memory : fail_of_lattice closing.Memory ≡ fail.Memory

-- a view of a cone with one column, for the client of this name: VERTICES and LINEALITY_SPACE have no row
abbrev pub without_rays : List ℕ → ViewSeen
without_rays name = record {
  of = Cone;
  cols = 1;
  kind = named name 1 2;
  sub = None;
  facts = record { place = None; property = Vertices; value = matrix 0 [] }
      ∷ record { place = None; property = LinealitySpace; value = matrix 0 [] }
      ∷ [];
}

-- a view for the same client that reads nothing
abbrev pub nothing_placed : ViewSeen
nothing_placed = record { of = Cone; cols = 1; kind = named (codes "placing") 1 2; sub = None; facts = [] }

pub record CellsAreRead : Type 0 where
  -- the evidence is of the rays and lines that the client read: more cells of a front of these than most_rows
  pub crowded : (front : ℕ) (cells : List (List ℕ)) → AreCrowdedCells 1 [] [] front cells
      → IsCrowdedPlacing (without_rays (codes "placing")) front cells
  pub few : (front : ℕ) → ¬ (IsCrowdedPlacing (without_rays (codes "placing")) front ([] ∷ (0 ∷ []) ∷ []))
  pub none_read : (front : ℕ) (cells : List (List ℕ)) → ¬ (IsCrowdedPlacing nothing_placed front cells)
  -- a client of another name has no such evidence
  pub other_client : (front : ℕ) (cells : List (List ℕ))
      → ¬ (IsCrowdedPlacing (without_rays (codes "dd_facets_v")) front cells)

-- a view of a fan with one column, which reads these rays and lines, and one maximal cone, of the second ray
abbrev pub of_fan : List (List Ratio) → List (List Ratio) → ViewSeen
of_fan rays lines = record {
  of = Fan;
  cols = 1;
  kind = named (codes "fan_dims") 1 2;
  sub = None;
  facts = record { place = None; property = Vertices; value = matrix 1 rays }
      ∷ record { place = None; property = LinealitySpace; value = matrix 1 lines }
      ∷ record { place = None; property = MaximalCones; value = sets ((1 ∷ []) ∷ []) 2 }
      ∷ [];
}

-- what spans that cone
pub record SpansCone (rays lines : List (List Ratio)) (X : List Row) : Type 0 where
  pub V : List Row
  pub L : List Row
  pub reads_rays : AreRowsOf (of_fan rays lines) Vertices V
  pub reads_lines : AreRowsOf (of_fan rays lines) LinealitySpace L
  pub rows : X ≡ L ++ ray V 1 ∷ []

pub record ConesAreRead : Type 0 where
  -- the lines, and then the ray that the set names, and nothing else
  pub cone : (rays lines : List (List Ratio)) (X : List Row) → SpansCone rays lines X
      → IsEliminated cone_rows (of_fan rays lines) X
  pub only_cone : (rays lines : List (List Ratio)) (X : List Row) → IsConeList (of_fan rays lines) X
      → SpansCone rays lines X
  pub none_read : (X : List Row) → ¬ (IsConeList no_rows X)
  -- what clients eliminate, by their names
  pub of_cones : eliminated_by (kind_named (codes "fan_dims")) ≡ cone_rows ∷ []
  pub not_of_cones : eliminated_by (kind_named (codes "fan_dim")) ≡ []

-- which failures are with evidence, and which of a number out of the range
pub record FailsAreRead : Type 0 where
  pub memory : IfFailed fail.Memory ⊥
  pub evidence : (e : Evidence) → ¬ (IfFailed (fail.Failed e) ⊥)
  -- too many rays, facets, faces or cells are no number out of the range, nor is want of memory; a product is one
  pub no_memory : IfOutOfRange fail.Memory ⊥
  pub rays : IfOutOfRange (fail.Failed (E5Rays 0 [])) ⊥
  pub facets : IfOutOfRange (fail.Failed (E5Rows [])) ⊥
  pub faces : IfOutOfRange (fail.Failed (E5Faces [])) ⊥
  pub cells : IfOutOfRange (fail.Failed (E5Cells 0 [])) ⊥
  pub product : ¬ (IfOutOfRange (fail.Failed (E4 [] [])) ⊥)
