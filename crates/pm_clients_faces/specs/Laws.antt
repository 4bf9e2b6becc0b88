-- How right values of faces, and of their numbers, are found from other values that are right.
use Rattle.pm_vector.specs.Numbers.{Ratio}
use Rattle.pm_geom.specs.FaceCounts.{f2_of, f_of}
use Rattle.pm_geom.specs.Graphs.{sets_of}
use Rattle.pm_geom.specs.Meets.{AreMeetsByRank}
use Rattle.pm_geom.specs.Things.{Orders}
use Rattle.pm_graph.specs.HVectors.{AreHNumbers, HasNoHVector}
use Rattle.pm_object_type.specs.declared.object_type.ObjectType.TheVariants.{Fan}
use Rattle.pm_props.specs.declared.property.PropId.TheVariants.{CombinatorialDim, F2Vector, FVector, HVector, HasseDiagram, VerticesInFacets}
use Rattle.pm_types.specs.Right.{Right}
use Rattle.pm_types.specs.Things.{AreOrders, IsThing, Thing}
use Rattle.pm_types.specs.Values.{counts, lattice, matrix, sets, whole}
use Rattle.pm_types.specs.Views.{over_one}
use Rattle.std.specs.Prelude.{ℕ, List, [], length, map, ◌+◌, ◌≡◌, ◌≤◌}
use lib.IntN.{ℤ, pos}

-- the intersections of the sets of right VERTICES_IN_FACETS, by rank, are right for HASSE_DIAGRAM (Ziegler, section
-- 2.2)
abbrev pub HasseDiagramIsFound : Type 0
HasseDiagramIsFound = (t : Thing) (o : Orders) → IsThing t → AreOrders t o → ¬ (t.of ≡ Fan)
    → (rows : List (List ℕ)) (n : ℕ) (ranks : List (List (List ℕ))) (c d : List Ratio) →
    Right VerticesInFacets (sets rows n) t o c → AreMeetsByRank n (sets_of rows) ranks
    → Right HasseDiagram (lattice ranks) t o d

-- a right HASSE_DIAGRAM has at most one rank more than the thing has columns
abbrev pub RanksAreFew : Type 0
RanksAreFew = (t : Thing) (o : Orders) → IsThing t → AreOrders t o → ¬ (t.of ≡ Fan)
    → (ranks : List (List (List ℕ))) (c : List Ratio) → Right HasseDiagram (lattice ranks) t o c
    → length ranks ≤ t.cols + 1

-- the numbers of faces of a right HASSE_DIAGRAM are right for F_VECTOR
abbrev pub FVectorIsFound : Type 0
FVectorIsFound = (t : Thing) (o : Orders) → AreOrders t o → (ranks : List (List (List ℕ))) (c d : List Ratio)
    → Right HasseDiagram (lattice ranks) t o c → Right FVector (counts (map pos (f_of ranks))) t o d

-- the numbers of pairs of faces are right for F2_VECTOR
abbrev pub F2VectorIsFound : Type 0
F2VectorIsFound = (t : Thing) (o : Orders) → AreOrders t o → (ranks : List (List (List ℕ))) (n : ℕ)
    → n ≡ length (f2_of ranks) → (c d : List Ratio) → Right HasseDiagram (lattice ranks) t o c
    → Right F2Vector (matrix n (map (map (λ k. over_one (pos k))) (f2_of ranks))) t o d

-- the h-vector of a right F_VECTOR in the dimension COMBINATORIAL_DIM, empty where there is none, is right for
-- H_VECTOR
abbrev pub HVectorIsFound : Type 0
HVectorIsFound = (t : Thing) (o : Orders) → IsThing t → ¬ (t.of ≡ Fan)
    → (f h : List ℤ) (d : ℤ) (b c e : List Ratio) → Right FVector (counts f) t o b
    → Right CombinatorialDim (whole d) t o c →
    AreHNumbers f d h → (HasNoHVector f d → h ≡ []) → Right HVector (counts h) t o e
