-- The faces of the unit square: corners, sides, and the square.
use Rattle.pm_vector.proofs.Lists.{Among, here, there}
use Rattle.pm_vector.specs.Rows.{HasCols}
use Rattle.pm_geom.proofs.Square.{square_is_read}
use Rattle.pm_geom.specs.Examples.{edges, square}
use Rattle.pm_geom.specs.FaceCounts.{IsHasseDiagram, SamePlaces, at_rank}
use Rattle.pm_geom.specs.Faces.{HasRank}
use Rattle.pm_geom.specs.GraphExamples.{square_lattice}
use Rattle.pm_geom.specs.Graphs.{holds}
use Rattle.pm_graph.proofs.Holds.{contains_holds, holds_contains, same_bool}
use Rattle.pm_graph.proofs.RightGraphs.{set_at}
use Rattle.pm_ranks.proofs.Diagrams.{same_rank}
use Rattle.pm_ranks.proofs.Facets.{facets_are_highest}
use Rattle.pm_ranks.proofs.Square.{square_has_ranks}
use Rattle.pm_examples_values.proofs.DimensionExamples.{square_dimensions_are_read}
use Rattle.pm_examples_values.proofs.OneList.{one_diagram}
use Rattle.pm_examples_values.proofs.RankLists.{Listed, diagram_by, least, least_only, none_higher, single, single_only, whole_only}
use Rattle.pm_examples_values.proofs.Square.{square_sets_are_read}
use Rattle.pm_examples_values.specs.Examples.{square_orders, square_sets, square_thing}
use Rattle.pm_examples_values.specs.FaceExamples.{SquareFacesAreRead, with_diagonal}
use Rattle.pm_types.specs.Right.{IsFVector, IsIncidence}
use Rattle.std.proofs.Common.{arith, refl, ◌∙◌}
use Rattle.std.specs.List.{slice_index_or}
use Rattle.std.specs.Prelude.{Bool, List, [], suc, true, zero, ℕ, ◌<◌, ◌∷◌, ◌≡◌}
use lib.IntN.{pos}

pub square_cols : HasCols 3 square
square_cols = (refl, (refl, (refl, (refl, tt))))

incidence : IsIncidence edges square square_sets
incidence = square_sets_are_read.right.1

side_rank : (i : ℕ) → i < 4 → HasRank 3 square [] square (holds (slice_index_or square_sets i [])) 2
side_rank i l = (facets_are_highest 3 square [] square_cols tt square edges square_is_read.order square_is_read.facets 2 square_has_ranks.whole (holds (slice_index_or square_sets i []))).1 (
  i,
  l,
  λ j lj. (
    λ t. ((set_at edges square square_sets incidence i l j).0 (holds_contains (slice_index_or square_sets i []) j t)).1,
    λ e. contains_holds (slice_index_or square_sets i []) j ((set_at edges square square_sets incidence i l j).1 (lj, e)),
  ),
)

side_only : (f : ℕ → Bool) → HasRank 3 square [] square f 2 → (i : ℕ) × (i < 4) × SamePlaces 4 f (holds (slice_index_or square_sets i []))
side_only f r =
    let w = (facets_are_highest 3 square [] square_cols tt square edges square_is_read.order square_is_read.facets 2 square_has_ranks.whole f).0 r in (
      w.0,
      w.1,
      λ j lj. same_bool (f j) (holds (slice_index_or square_sets w.0 []) j)
          (λ t. contains_holds (slice_index_or square_sets w.0 []) j ((set_at edges square square_sets incidence w.0 w.1 j).1 (lj, (w.2 j lj).0 t)))
          (λ t. (w.2 j lj).1 (((set_at edges square square_sets incidence w.0 w.1 j).0 (holds_contains (slice_index_or square_sets w.0 []) j t)).1)),
    )

all_four : (j : ℕ) → j < 4 → true ≡ holds (0 ∷ 1 ∷ 2 ∷ 3 ∷ []) j
all_four zero l = refl
all_four (suc zero) l = refl
all_four (suc (suc zero)) l = refl
all_four (suc (suc (suc zero))) l = refl
all_four (suc (suc (suc (suc j)))) l = absurd (omega arith)

corner : (i : ℕ) → i < 4 → HasRank 3 square [] square (holds (i ∷ [])) 1
corner i l = single 3 square [] square_cols tt square square_is_read.order i l

each : (k : ℕ) (f : List ℕ) → Among f (at_rank square_lattice k) → HasRank 3 square [] square (holds f) k
each zero f here = least 3 square [] square_cols tt square square_is_read.order (omega arith)
each zero f (there i) = elim i [ ]
each (suc zero) f here = corner 0 (omega arith)
each (suc zero) f (there here) = corner 1 (omega arith)
each (suc zero) f (there (there here)) = corner 2 (omega arith)
each (suc zero) f (there (there (there here))) = corner 3 (omega arith)
each (suc zero) f (there (there (there (there i)))) = elim i [ ]
each (suc (suc zero)) f here = side_rank 0 (omega arith)
each (suc (suc zero)) f (there here) = side_rank 1 (omega arith)
each (suc (suc zero)) f (there (there here)) = side_rank 2 (omega arith)
each (suc (suc zero)) f (there (there (there here))) = side_rank 3 (omega arith)
each (suc (suc zero)) f (there (there (there (there i)))) = elim i [ ]
each (suc (suc (suc zero))) f here = same_rank 3 square [] square 3 all_four square_has_ranks.whole
each (suc (suc (suc zero))) f (there i) = elim i [ ]
each (suc (suc (suc (suc k)))) f i = elim i [ ]

corner_at : (f : ℕ → Bool) (i : ℕ) → i < 4 → SamePlaces 4 f (holds (i ∷ [])) → Listed square_lattice 4 1 f
corner_at f zero l s = (0 ∷ [], here, s)
corner_at f (suc zero) l s = (1 ∷ [], there here, s)
corner_at f (suc (suc zero)) l s = (2 ∷ [], there (there here), s)
corner_at f (suc (suc (suc zero))) l s = (3 ∷ [], there (there (there here)), s)
corner_at f (suc (suc (suc (suc i)))) l s = absurd (omega arith)

side_at : (f : ℕ → Bool) (i : ℕ) → i < 4 → SamePlaces 4 f (holds (slice_index_or square_sets i [])) → Listed square_lattice 4 2 f
side_at f zero l s = (0 ∷ 1 ∷ [], here, s)
side_at f (suc zero) l s = (0 ∷ 2 ∷ [], there here, s)
side_at f (suc (suc zero)) l s = (1 ∷ 3 ∷ [], there (there here), s)
side_at f (suc (suc (suc zero))) l s = (2 ∷ 3 ∷ [], there (there (there here)), s)
side_at f (suc (suc (suc (suc i)))) l s = absurd (omega arith)

all : (k : ℕ) (f : ℕ → Bool) → HasRank 3 square [] square f k → Listed square_lattice 4 k f
all zero f r = ([], here, least_only 3 square [] square_cols tt square square_is_read.order (omega arith) f r)
all (suc zero) f r = let w = single_only 3 square [] square_cols tt square square_is_read.order f r in corner_at f w.0 w.1 w.2
all (suc (suc zero)) f r = let w = side_only f r in side_at f w.0 w.1 w.2
all (suc (suc (suc zero))) f r = (0 ∷ 1 ∷ 2 ∷ 3 ∷ [], here, λ j l. whole_only 3 square [] square 3 square_has_ranks.whole f r j l ∙ all_four j l)
all (suc (suc (suc (suc k)))) f r = absurd (none_higher 3 square [] square 3 square_has_ranks.whole (suc (suc (suc (suc k)))) (omega arith) f r)

faces : IsHasseDiagram 3 square [] square square_lattice
faces = diagram_by 3 square [] square square_lattice (
  record { some = λ e. cc; rising = (refl, tt); ordered = (tt, tt) },
  (
    record { some = λ e. cc; rising = (refl, (refl, (refl, (refl, tt)))); ordered = ((refl, (refl, (refl, tt))), ((refl, (refl, tt)), ((refl, tt), (tt, tt)))) },
    (
      record { some = λ e. cc; rising = (refl, (refl, (refl, (refl, tt)))); ordered = ((refl, (refl, (refl, tt))), ((refl, (refl, tt)), ((refl, tt), (tt, tt)))) },
      (record { some = λ e. cc; rising = (refl, tt); ordered = (tt, tt) }, tt),
    ),
  ),
) each all

square_f : IsFVector square_thing (pos 4 ∷ pos 4 ∷ [])
square_f = record { orders = square_orders; are_orders = square_sets_are_read.orders; ranks = square_lattice; faces = faces; number = refl }

pub square_faces_are_read : SquareFacesAreRead
square_faces_are_read = record {
  faces = faces;
  diagonal = λ d. let e = one_diagram 3 square [] square square_cols tt square_is_read.order with_diagonal square_lattice d faces in cc;
  f_vector = square_f;
  f2_vector = (refl, record { orders = square_orders; are_orders = square_sets_are_read.orders; ranks = square_lattice; faces = faces; number = refl });
  h_vector = record { f = pos 4 ∷ pos 4 ∷ []; d = pos 2; faces = square_f; dim = square_dimensions_are_read.combinatorial_dim; numbers = refl };
}
