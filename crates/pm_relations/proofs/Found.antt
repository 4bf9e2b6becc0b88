-- What is found from right values: the dimension of the rows that were read, and echelon bases, as values.
use Rattle.pm_vector.specs.Numbers.{Ratio}
use Rattle.pm_vector.specs.Rows.{Row}
use Rattle.pm_vector.specs.Bases.{IsRank}
use Rattle.pm_vector.specs.NullSpaces.{IsNullBasis}
use Rattle.pm_types.specs.Things.{AreOrders, IsThing, Thing}
use Rattle.pm_geom.specs.Things.{Orders}
use Rattle.pm_object_type.specs.declared.object_type.ObjectType.TheVariants.{Fan}
use Rattle.pm_relations.proofs.Dimensions.{cone_dim_is_found}
use Rattle.pm_relations.proofs.Spans.{hull_is_found, lineality_is_found, pair_spans, vertices_span}
use Rattle.pm_relations.proofs.Standing.{stand_for_ratios}
use Rattle.pm_types.specs.Canonical.{IsCanonical, IsEchelonBasisOf, IsEchelonMatrix}
use Rattle.pm_relations.specs.Laws.{EchelonIsRight}
use Rattle.pm_types.specs.Right.{PairGenerates, Right, RowsAreBasis, StandFor}
use Rattle.pm_types.specs.Values.{matrix, whole}
use Rattle.pm_types.specs.Views.{ratios}
use Rattle.pm_props.specs.declared.kind.Kind.{Kind}
use Rattle.pm_props.specs.declared.property.PropId.TheVariants.{AffineHull, ConeDim, Facets, InputLineality, LinealitySpace, Points, Vertices}
use Rattle.std.proofs.Common.{refl}
use Rattle.std.specs.Prelude.{List, map, ℕ, ◌++◌, ◌≡◌}
use lib.IntN.{pos}

echelon_value : (t : Thing) (S : Row → Type 0) (N : List Row) (P : List ℕ) → IsEchelonBasisOf t.cols S N P → RowsAreBasis t S (map ratios N) × IsEchelonMatrix t.cols S (map ratios N)
echelon_value t S N P b = (record { xs = N; stand = stand_for_ratios N; basis = b.basis }, record { lines = N; pivots = P; echelon = b; these = refl })

pub echelon_is_right : EchelonIsRight
echelon_is_right t o kind m c N P = (λ b. echelon_value t _ N P b, λ b. echelon_value t _ N P b)

module _ (t : Thing) (o : Orders) (thing : IsThing t) where
  pub cone_dim_of_points : (n m : ℕ) (points lines : List (List Ratio)) (c d e : List Ratio) → Right Points (matrix n points) t o c → Right InputLineality (matrix m lines) t o d → PairGenerates t points lines → (xs ls : List Row) → StandFor points xs → StandFor lines ls → (k : ℕ) → IsRank (xs ++ ls) k → Right ConeDim (whole (pos k)) t o e
  cone_dim_of_points n m points lines c d e rp rl pair xs ls sx sl k r = cone_dim_is_found t o e (xs ++ ls) (pair_spans t o thing n m points lines c d rp rl pair xs ls sx sl) k r

  module _ (orders : AreOrders t o) (no_fan : ¬ (t.of ≡ Fan)) where
    pub cone_dim_of_vertices : (n m : ℕ) (rays lines : List (List Ratio)) (c d e : List Ratio) → Right Vertices (matrix n rays) t o c → Right LinealitySpace (matrix m lines) t o d → (xs ls : List Row) → StandFor rays xs → StandFor lines ls → (k : ℕ) → IsRank (xs ++ ls) k → Right ConeDim (whole (pos k)) t o e
    cone_dim_of_vertices n m rays lines c d e rv rl xs ls sx sl k r = cone_dim_is_found t o e (xs ++ ls) (vertices_span t o thing orders no_fan n m rays lines c d rv rl xs ls sx sl) k r

    pub hull_of_vertices : (kind : Kind) (n m i : ℕ) (rays lines : List (List Ratio)) (c d e : List Ratio) → Right Vertices (matrix n rays) t o c → Right LinealitySpace (matrix m lines) t o d → (xs ls N : List Row) (P : List ℕ) → StandFor rays xs → StandFor lines ls → IsNullBasis t.cols (xs ++ ls) N P → Right AffineHull (matrix i (map ratios N)) t o e × IsCanonical kind AffineHull (matrix i (map ratios N)) t
    hull_of_vertices kind n m i rays lines c d e rv rl xs ls N P sx sl null = (echelon_is_right t o kind i e N P).0 (hull_is_found t thing (xs ++ ls) N P (vertices_span t o thing orders no_fan n m rays lines c d rv rl xs ls sx sl) null)

    pub lineality_of_facets : (kind : Kind) (n m i : ℕ) (facets hull : List (List Ratio)) (c d e : List Ratio) → Right Facets (matrix n facets) t o c → Right AffineHull (matrix m hull) t o d → (xs es N : List Row) (P : List ℕ) → StandFor facets xs → StandFor hull es → IsNullBasis t.cols (xs ++ es) N P → Right LinealitySpace (matrix i (map ratios N)) t o e × IsCanonical kind LinealitySpace (matrix i (map ratios N)) t
    lineality_of_facets kind n m i facets hull c d e rf rh xs es N P sx se null = (echelon_is_right t o kind i e N P).1 (lineality_is_found t o thing orders no_fan n m facets hull c d rf rh xs es N P sx se null)
