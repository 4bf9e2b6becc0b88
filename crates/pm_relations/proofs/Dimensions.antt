-- Dimensions are determined, and how one is found from others.
use Rattle.pm_vector.proofs.ConeLaws.{in_line, in_zero, none_to_zero}
use Rattle.pm_vector.proofs.Lists.{All_among, Among, all_append, all_at, among_All}
use Rattle.pm_vector.specs.Cones.{InCone, InSpan, IsIndependent}
use Rattle.pm_vector.specs.Numbers.{Ratio}
use Rattle.pm_vector.specs.Rows.{HasCols, IsZero, Row}
use Rattle.pm_vector.proofs.Rank.{independent_are_few, rank_is_determined}
use Rattle.pm_vector.proofs.Spans.{at_place, same_span_trans, span_from, span_to}
use Rattle.pm_vector.specs.Bases.{row_at}
use Rattle.pm_geom.proofs.Dimension.{not_zero_by_rank, rank_exists, rank_is_left, some_basis}
use Rattle.pm_geom.proofs.Reduce.{extremes_generate}
use Rattle.pm_geom.specs.Cones.{InLineality}
use Rattle.pm_geom.specs.Things.{Orders}
use Rattle.pm_types.specs.Things.{Thing}
use Rattle.pm_object_type.specs.declared.object_type.ObjectType.{ObjectType}
use Rattle.pm_object_type.specs.declared.object_type.ObjectType.TheVariants.{Polytope, Cone, Fan}
use Rattle.pm_relations.proofs.Spans.{hull_rows, thing_cols}
use Rattle.pm_relations.proofs.Standing.{stand_length}
use Rattle.pm_relations.specs.Laws.{CombinatorialDimIsFound, ConeDimIsFound, ConeDimIsLeft, DimensionsAreDetermined, DimensionsExist, FeasibleIsFound, FullDimIsFound, LinealityDimIsFound, OneValue, PointedIsFound}
use Rattle.pm_types.specs.Right.{HasDimension, InLinesOf, IsBasis, IsConeDim, IsLinealityDim, Right}
use Rattle.pm_types.specs.Values.{PropertyValue, truth, whole}
use Rattle.pm_props.specs.declared.property.PropId.TheVariants.{ConeDim, LinealityDim, CombinatorialDim, FullDim}
use Rattle.std.proofs.Common.{ap, arith, false, refl, subst, sym, true, ◌∙◌}
use Rattle.std.proofs.lemmas.Int.{ints}
use Rattle.std.specs.Prelude.{Bool, IsTrue, List, [], length, ℕ, ◌++◌, ◌+◌, ◌↔◌, ◌∷◌, ◌≡◌, ◌≤◌}
use lib.IntN.{pos, ℤ, ◌-ℤ◌}

-- ---- two bases have as many rows
basis_at_most : (n : ℕ) (S : Row → Type 0) (X Y : List Row) → IsBasis n S X → IsBasis n S Y → length X ≤ length Y
basis_at_most n S X Y b e = independent_are_few X Y b.independent (λ i l. let a = at_place X i l in e.spans (row_at X i) (all_at (λ (x : Row). length x ≡ n) a b.cols) (among_All S a b.inside))

pub dimension_one : (n : ℕ) (S : Row → Type 0) (d e : ℕ) → HasDimension n S d → HasDimension n S e → d ≡ e
dimension_one n S d e h k =
    let p = basis_at_most n S h.rows k.rows h.basis k.basis in
    let q = basis_at_most n S k.rows h.rows k.basis h.basis in
    let a = h.as_many in
    let b = k.as_many in
    omega arith

-- ---- one value
cone_value : (v : PropertyValue) (t : Thing) (o : Orders) (c : List Ratio) → Right ConeDim v t o c → (d : ℕ) × (v ≡ whole (pos d)) × IsConeDim t d
cone_value (whole k) t o c (d, e, h) = (d, ap whole e, h)
cone_value v t o c h = absurd h

lineality_value : (v : PropertyValue) (t : Thing) (o : Orders) (c : List Ratio) → Right LinealityDim v t o c → (d : ℕ) × (v ≡ whole (pos d)) × IsLinealityDim t d
lineality_value (whole k) t o c (d, e, h) = (d, ap whole e, h)
lineality_value v t o c h = absurd h

combinatorial_value : (v : PropertyValue) (t : Thing) (o : Orders) (c : List Ratio) → Right CombinatorialDim v t o c → (d : ℕ) × (e : ℕ) × (v ≡ whole (pos d -ℤ pos e -ℤ pos 1)) × IsConeDim t d × IsLinealityDim t e
combinatorial_value (whole k) t o c h = (h.cone, h.lineality, ap whole h.less, h.is_cone, h.is_lineality)
combinatorial_value v t o c h = absurd h

full_value : (v : PropertyValue) (t : Thing) (o : Orders) (c : List Ratio) → Right FullDim v t o c → (b : Bool) × (v ≡ truth b) × (IsTrue b ↔ IsConeDim t t.cols)
full_value (truth b) t o c h = (b, refl, h)
full_value v t o c h = absurd h

cone_one : (t : Thing) → OneValue ConeDim t
cone_one t v w o r c d h k =
    let (i, e, p) = cone_value v t o c h in
    let (j, f, q) = cone_value w t r d k in
    e ∙ ap (λ z. whole (pos z)) (rank_is_determined (t.generators ++ t.lines) i j p q) ∙ sym f

lineality_one : (t : Thing) → OneValue LinealityDim t
lineality_one t v w o r c d h k =
    let (i, e, p) = lineality_value v t o c h in
    let (j, f, q) = lineality_value w t r d k in
    e ∙ ap (λ z. whole (pos z)) (dimension_one t.cols _ i j p q) ∙ sym f

combinatorial_one : (t : Thing) → OneValue CombinatorialDim t
combinatorial_one t v w o r c d h k =
    let (i, i', e, p, p') = combinatorial_value v t o c h in
    let (j, j', f, q, q') = combinatorial_value w t r d k in
    e ∙ ap (λ z. whole (pos z -ℤ pos i' -ℤ pos 1)) (rank_is_determined (t.generators ++ t.lines) i j p q) ∙ ap (λ z. whole (pos j -ℤ pos z -ℤ pos 1)) (dimension_one t.cols _ i' j' p' q') ∙ sym f

same_truth : (a b : Bool) (P : Type 0) → (IsTrue a ↔ P) → (IsTrue b ↔ P) → a ≡ b
same_truth true true P h k = refl
same_truth true false P h k = sym (k.1 (h.0 refl))
same_truth false true P h k = h.1 (k.0 refl)
same_truth false false P h k = refl

full_one : (t : Thing) → OneValue FullDim t
full_one t v w o r c d h k =
    let (a, e, p) = full_value v t o c h in
    let (b, f, q) = full_value w t r d k in
    e ∙ ap truth (same_truth a b (IsConeDim t t.cols) p q) ∙ sym f

pub dimensions_are_determined : DimensionsAreDetermined
dimensions_are_determined t = (cone_one t, lineality_one t, combinatorial_one t, full_one t)

-- ---- how they are found
pub cone_dim_is_found : ConeDimIsFound
cone_dim_is_found t o c X s d k = (d, refl, record { basis = k.basis; independent = k.independent; span = same_span_trans k.span s; as_many = k.as_many })

left_over : (m r n : ℕ) → m + r ≡ n → pos n -ℤ pos m ≡ pos r
left_over m r n e = omega (arith, ints)

pub cone_dim_is_left : ConeDimIsLeft
cone_dim_is_left t o h n rows c d right =
    let (hg, hl) = thing_cols t h in
    let hull = hull_rows t.cols t.generators t.lines hg hl right.xs right.basis in
    let k = rank_exists t.cols (t.generators ++ t.lines) (all_append (λ (x : Row). length x ≡ t.cols) t.generators t.lines hg hl) in
    let count = (rank_is_left t.cols t.generators t.lines hg hl right.xs right.basis.cols right.basis.independent hull k.0).0 k.1 in
    (k.0, left_over (length rows) k.0 t.cols (let l = stand_length rows right.xs right.stand in omega arith), k.1)

pub lineality_dim_is_found : LinealityDimIsFound
lineality_dim_is_found t o n rows c d right = (length rows, refl, record { rows = right.xs; basis = right.basis; as_many = stand_length rows right.xs right.stand })

pub combinatorial_dim_is_found : CombinatorialDimIsFound
combinatorial_dim_is_found t o i j c d e (p, ep, hp) (q, eq, hq) = record { cone = p; lineality = q; is_cone = hp; is_lineality = hq; less = rw (ep, eq) refl }

zero_of_pos : (k : ℤ) (d : ℕ) → k ≡ pos d → (k ≡ pos 0) ↔ (d ≡ 0)
zero_of_pos k d e = (λ z. omega (arith, ints), λ z. omega (arith, ints))

pub feasible_is_found : FeasibleIsFound
feasible_is_found t o h k b c d (r, e, rank) says =
    let (hg, hl) = thing_cols t h in
    let found = not_zero_by_rank t.cols t.generators t.lines hg hl r rank in
    let same = zero_of_pos k r e in
    (λ y. found.1 (λ z. says.0 y (same.1 z)), λ w. says.1 (λ z. found.0 w (same.0 z)))

-- ---- the lineality is {0} where its dimension is 0
pub no_rows : (K : List Row) → length K ≡ 0 → (x : Row) → InSpan K x → IsZero x
no_rows [] e x h = none_to_zero x h
no_rows (k ∷ K) e x h = absurd (omega arith)

pub zero_rows : (K : List Row) → IsIndependent K → ((k : Row) → Among k K → IsZero k) → length K ≡ 0
zero_rows [] free f = refl
zero_rows (k ∷ K) free f =
    let few = independent_are_few (k ∷ K) [] free (λ i l. in_zero (f (row_at (k ∷ K) i) (at_place (k ∷ K) i l))) in
    omega arith

zero_by_dimension : (n : ℕ) (S : Row → Type 0) (d : ℕ) → HasDimension n S d → ((x : Row) → length x ≡ n → S x → IsZero x) ↔ (d ≡ 0)
zero_by_dimension n S d h = (
  λ f. let e = zero_rows h.rows h.basis.independent (λ k i. f k (all_at (λ (x : Row). length x ≡ n) i h.basis.cols) (among_All S i h.basis.inside)) in let a = h.as_many in omega arith,
  λ z x l s. no_rows h.rows (let a = h.as_many in omega arith) x (h.basis.spans x l s),
)

pub pointed_is_found : PointedIsFound
pointed_is_found t o k b c d (r, e, dim) says =
    let found = zero_by_dimension t.cols _ r dim in
    let same = zero_of_pos k r e in
    (λ y. found.1 (same.0 (says.0 y)), λ f. says.1 (same.1 (found.0 f)))

pos_is : (k : ℤ) (d n : ℕ) → k ≡ pos d → k ≡ pos n → d ≡ n
pos_is k d n e f = omega (arith, ints)

pub full_dim_is_found : FullDimIsFound
full_dim_is_found t o k b c d (r, e, rank) says = (
  λ y. subst (λ z. IsConeDim t z) (pos_is k r t.cols e (says.0 y)) rank,
  λ full. says.1 (e ∙ ap pos (rank_is_determined (t.generators ++ t.lines) r t.cols rank full)),
)

-- ---- there are right values
has_dimension : (n : ℕ) (S : Row → Type 0) (K : List Row) → HasCols n K → ((x : Row) → length x ≡ n → S x ↔ InSpan K x) → (d : ℕ) × HasDimension n S d
has_dimension n S K hk e =
    let b = some_basis n K hk in (
      length b.rows,
      record {
        rows = b.rows;
        basis = record {
          cols = b.cols;
          inside = All_among S b.rows (λ r i. (e r (all_at (λ (x : Row). length x ≡ n) i b.cols)).1 (span_to b.span (in_line i)));
          independent = b.independent;
          spans = λ x l s. span_from b.span ((e x l).0 s);
        };
        as_many = refl;
      },
    )

cone_lineality_dim : (n : ℕ) (G L : List Row) → HasCols n G → HasCols n L → (d : ℕ) × HasDimension n (InLineality (InCone G L)) d
cone_lineality_dim n G L hg hl = let (V, K, hk, o, line, gen) = extremes_generate n G L hg hl in has_dimension n (InLineality (InCone G L)) K hk line

lineality_dim_of : (of : ObjectType) (n : ℕ) (G L : List Row) → HasCols n G → HasCols n L → (d : ℕ) × HasDimension n (InLinesOf of G L) d
lineality_dim_of Polytope n G L hg hl = cone_lineality_dim n G L hg hl
lineality_dim_of Cone n G L hg hl = cone_lineality_dim n G L hg hl
lineality_dim_of Fan n G L hg hl = has_dimension n (InSpan L) L hl (λ x l. (λ h. h, λ h. h))

pub dimensions_exist : DimensionsExist
dimensions_exist t o c d h =
    let (hg, hl) = thing_cols t h in
    let i = rank_exists t.cols (t.generators ++ t.lines) (all_append (λ (x : Row). length x ≡ t.cols) t.generators t.lines hg hl) in
    let j = lineality_dim_of t.of t.cols t.generators t.lines hg hl in
    (i.0, j.0, (i.0, refl, i.1), (j.0, refl, j.1))
