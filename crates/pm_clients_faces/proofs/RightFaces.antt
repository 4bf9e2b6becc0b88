-- Right faces and numbers of faces, found from other values that are right.
use Rattle.pm_vector.proofs.Lists.{all_append}
use Rattle.pm_vector.specs.Cones.{InCone, InSpan}
use Rattle.pm_vector.specs.Rows.{HasCols, Row}
use Rattle.pm_vector.proofs.Rank.{rank_is_determined}
use Rattle.pm_vector.proofs.Spans.{same_span_refl}
use Rattle.pm_vector.specs.Bases.{IsRank}
use Rattle.pm_clients_faces.proofs.Columns.{rank_by_columns}
use Rattle.pm_clients_faces.proofs.HForms.{no_numbers, numbers_are}
use Rattle.pm_clients_faces.specs.Laws.{F2VectorIsFound, FVectorIsFound, HVectorIsFound, HasseDiagramIsFound, RanksAreFew}
use Rattle.pm_geom.proofs.Dimension.{rank_exists}
use Rattle.pm_geom.proofs.Reduce.{extremes_generate}
use Rattle.pm_geom.specs.Cones.{InLineality, IsOrder}
use Rattle.pm_geom.specs.FaceCounts.{IsHasseDiagram, f2_of, f_of}
use Rattle.pm_geom.specs.Faces.{HasRank}
use Rattle.pm_geom.specs.Graphs.{sets_of}
use Rattle.pm_geom.specs.Meets.{AreMeetsByRank}
use Rattle.pm_graph.specs.HVectors.{AreHNumbers, HasNoHVector}
use Rattle.pm_lattice.proofs.Hasse.{lattice_is_hasse_diagram}
use Rattle.pm_ranks.proofs.Diagrams.{diagrams_end_at_whole, f_vectors_have_dimension}
use Rattle.pm_ranks.proofs.Facets.{each_has_rank}
use Rattle.pm_ranks.proofs.Whole.{whole_has_rank, whole_is_face}
use Rattle.pm_relations.proofs.Spans.{basis_lineality, thing_cols}
use Rattle.pm_relations.proofs.Twins.{lines_of, orders_of}
use Rattle.pm_types.specs.Right.{h_vector_of}
use Rattle.pm_types.specs.Views.{over_one}
use Rattle.std.proofs.Common.{ap, arith, refl, subst, sym, ◌∙◌}
use Rattle.std.proofs.lemmas.Int.{ints}
use Rattle.std.proofs.lemmas.List.{length-map}
use Rattle.std.specs.Prelude.{List, [], length, map, suc, true, zero, ℕ, ◌++◌, ◌+◌, ◌↔◌, ◌≡◌, ◌≤◌}
use lib.IntN.{pos, ℤ, ◌-ℤ◌}
use Rattle.pm_limits.specs.Limits.{most_columns}

pub hasse_diagram_is_found : HasseDiagramIsFound
hasse_diagram_is_found t o thing orders no_fan rows n ranks c d right meets =
    let (hg, hl) = thing_cols t thing in
    let a = orders_of t.of t.cols t.generators t.lines t.cones o no_fan orders in
    lattice_is_hasse_diagram t.cols t.generators t.lines hg hl o.rays o.facets a.rays a.facets rows right.1 ranks (subst (λ m. AreMeetsByRank m (sets_of rows) ranks) right.0 meets)

-- ---- the rank of the whole
-- of the whole, and with rows that span the lineality it is the dimension of the cone
record IsWholeRank (n : ℕ) (G L V : List Row) (l k : ℕ) : Type 0 where
  rank : HasRank n G L V (λ j. true) k
  cone : IsRank (G ++ L) (k + l)
  few : k + l ≤ n

whole_rank : (n : ℕ) (G L : List Row) → HasCols n G → HasCols n L → (V K : List Row) → HasCols n K → IsOrder n (InCone G L) V → ((x : Row) → length x ≡ n → InLineality (InCone G L) x ↔ InSpan K x) → (l : ℕ) → IsRank K l → (k : ℕ) × IsWholeRank n G L V l k
whole_rank n G L hg hl V K hk o line l rl =
    let (k, r) = each_has_rank n G L hg hl V o (λ j. true) (whole_is_face n G L V) in
    let cone = (whole_has_rank n G L hg hl V K hk o line l rl k).0 r in
    (k, record { rank = r; cone = cone; few = rank_by_columns n (G ++ L) (all_append (λ (x : Row). length x ≡ n) G L hg hl) (k + l) cone })

ranks_few : (n : ℕ) (G L : List Row) → HasCols n G → HasCols n L → (V : List Row) → IsOrder n (InCone G L) V → (ranks : List (List (List ℕ))) → IsHasseDiagram n G L V ranks → length ranks ≤ n + 1
ranks_few n G L hg hl V o ranks h =
    let (W, K, hk, w, line, gen) = extremes_generate n G L hg hl in
    let (l, rl) = rank_exists n K hk in
    let (k, r) = whole_rank n G L hg hl V K hk o line l rl in
    let ends = diagrams_end_at_whole n G L V ranks h k r.rank in
    let few = r.few in
    omega arith

pub ranks_are_few : RanksAreFew
ranks_are_few t o thing orders no_fan ranks c right =
    let (hg, hl) = thing_cols t thing in
    let a = orders_of t.of t.cols t.generators t.lines t.cones o no_fan orders in
    ranks_few t.cols t.generators t.lines hg hl o.rays a.rays ranks right

-- ---- numbers
pub f_vector_is_found : FVectorIsFound
f_vector_is_found t o orders ranks c d right = record { orders = o; are_orders = orders; ranks = ranks; faces = right; number = refl }

pub f2_vector_is_found : F2VectorIsFound
f2_vector_is_found t o orders ranks n as_many c d right = (as_many ∙ sym (length-map (f2_of ranks) (map (λ k. over_one (pos k)))), record { orders = o; are_orders = orders; ranks = ranks; faces = right; number = refl })

-- the h-vector of an f-vector with as many entries as the dimension, which is 1 less than the rank of the whole
numbers_of : (f h : List ℤ) (d : ℤ) (k : ℕ) → d ≡ pos k -ℤ pos 1 → k ≤ most_columns → ((m : ℕ) → k ≡ suc m → length f ≡ m) → AreHNumbers f d h → (HasNoHVector f d → h ≡ []) → h ≡ h_vector_of f d
numbers_of f h d zero e few len numbers none = no_numbers f h d (omega (arith, ints)) none
numbers_of f h d (suc m) e few len numbers none = numbers_are f h d m (omega (arith, ints)) (omega arith) (len m refl) numbers none

dimension_is : (d : ℤ) (cone l k : ℕ) → d ≡ pos cone -ℤ pos l -ℤ pos 1 → k + l ≡ cone → d ≡ pos k -ℤ pos 1
dimension_is d cone l k e f = omega (arith, ints)

pub h_vector_is_found : HVectorIsFound
h_vector_is_found t o thing no_fan f h d b c e rf rd numbers none =
    let n = t.cols in
    let (hg, hl) = thing_cols t thing in
    let a = orders_of t.of n t.generators t.lines t.cones rf.orders no_fan rf.are_orders in
    let K = rd.is_lineality.rows in
    let basis = lines_of t.of n t.generators t.lines K no_fan rd.is_lineality.basis in
    let (k, r) = whole_rank n t.generators t.lines hg hl rf.orders.rays K basis.cols a.rays (basis_lineality n t.generators t.lines K basis) (length K) (record { basis = K; independent = basis.independent; span = same_span_refl K; as_many = refl }) in
    let same = rank_is_determined (t.generators ++ t.lines) (k + length K) rd.cone r.cone rd.is_cone in
    let count = rd.is_lineality.as_many in
    record {
      f = f;
      d = d;
      faces = rf;
      dim = rd;
      numbers = numbers_of f h d k (dimension_is d rd.cone rd.lineality k rd.less (omega arith)) (let few = r.few in let cols = thing.few_cols in omega arith)
          (λ m s. ap length rf.number ∙ length-map (f_of rf.ranks) pos ∙ f_vectors_have_dimension n t.generators t.lines rf.orders.rays rf.ranks rf.faces m (subst (λ j. HasRank n t.generators t.lines rf.orders.rays (λ x. true) j) s r.rank)) numbers none;
    }
