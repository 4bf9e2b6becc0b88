-- Primitive whole rows of rows of fractions stand for them, so they have the spans and null spaces of all rows that do.
use Rattle.pm_vector.specs.Numbers.{Ratio}
use Rattle.pm_vector.specs.Rows.{Row, Stands}
use Rattle.pm_vector.proofs.Spans.{same_span, same_span_sym, same_span_trans}
use Rattle.pm_vector.specs.Bases.{SameSpan}
use Rattle.pm_vector.proofs.DotLaws.{null_of_span}
use Rattle.pm_vector.specs.NullSpaces.{IsNullBasis}
use Rattle.pm_types.specs.Things.{AreOrders, IsThing, Thing}
use Rattle.pm_geom.specs.Things.{Orders}
use Rattle.pm_object_type.specs.declared.object_type.ObjectType.TheVariants.{Fan}
use Rattle.pm_fraction.specs.FractionRows.{ArePrimitiveRowsOf}
use Rattle.pm_relations.proofs.Spans.{hull_is_found, lineality_is_found, pair_spans, vertices_span}
use Rattle.pm_relations.proofs.StandingSpans.{both_in, first_in, second_in, stand_for_same}
use Rattle.pm_types.specs.Canonical.{IsEchelonBasisOf, Vanishing}
use Rattle.pm_types.specs.Right.{InLines, PairGenerates, Right, StandFor}
use Rattle.pm_types.specs.Values.{matrix}
use Rattle.pm_props.specs.declared.property.PropId.TheVariants.{AffineHull, Facets, InputLineality, LinealitySpace, Points, Vertices}
use Rattle.std.proofs.Common.{arith, get_or, length, subst, suc, sym, ◌<◌, ◌≡◌}
use Rattle.std.proofs.lemmas.List.{append-nil}
use Rattle.std.specs.Prelude.{List, [], ℕ, ◌++◌, ◌∷◌}

-- primitive rows stand for the rows of fractions, place by place
stand_for : (rows : List (List Ratio)) (xs : List Row) → length xs ≡ length rows → ((i : ℕ) → i < length rows → Stands (get_or rows i []) (get_or xs i [])) → StandFor rows xs
stand_for [] [] e h = tt
stand_for [] (x ∷ xs) e h = absurd (omega arith)
stand_for (r ∷ rows) [] e h = absurd (omega arith)
stand_for (r ∷ rows) (x ∷ xs) e h = (h 0 (omega arith), stand_for rows xs (omega arith) (λ i below. h (suc i) (omega arith)))

pub primitive_stand : (rows : List (List Ratio)) (xs : List Row) → ArePrimitiveRowsOf rows xs → StandFor rows xs
primitive_stand rows xs h = stand_for rows xs h.count h.multiple

-- two lists one after the other have one span in either order
turned_span : (xs ls : List Row) → SameSpan (ls ++ xs) (xs ++ ls)
turned_span xs ls = same_span (ls ++ xs) (xs ++ ls)
    (both_in (xs ++ ls) ls xs (second_in xs ls) (first_in xs ls))
    (both_in (ls ++ xs) xs ls (second_in ls xs) (first_in ls xs))

-- primitive rows have the span of any rows that stand for the same rows of fractions
pub primitive_span : (rows lines : List (List Ratio)) (xs ls X xs' ls' : List Row) → ArePrimitiveRowsOf rows xs → ArePrimitiveRowsOf lines ls → X ≡ ls ++ xs ++ [] → StandFor rows xs' → StandFor lines ls' → SameSpan X (xs' ++ ls')
primitive_span rows lines xs ls X xs' ls' px pl e sx sl =
    let listed : X ≡ ls ++ xs = rw append-nil at e in
    subst (λ Z. SameSpan Z (xs' ++ ls')) (sym listed) (same_span_trans (turned_span xs ls) (stand_for_same rows lines xs xs' ls ls' (primitive_stand rows xs px) sx (primitive_stand lines ls pl) sl))

-- rows with one span have one null space
null_basis_as : (n : ℕ) (X Y N : List Row) (P : List ℕ) → SameSpan X Y → IsNullBasis n X N P → IsNullBasis n Y N P
null_basis_as n X Y N P s b = record {
  echelon = b.echelon;
  null = λ x l. (λ h. null_of_span X Y x (same_span_sym s) ((b.null x l).0 h), λ z. (b.null x l).1 (null_of_span Y X x s z));
}

-- ---- the span of a thing
module _ (t : Thing) (o : Orders) (thing : IsThing t) where
  pub pair_primitive_span : (n m : ℕ) (points lines : List (List Ratio)) (c d : List Ratio) → Right Points (matrix n points) t o c → Right InputLineality (matrix m lines) t o d → PairGenerates t points lines
      → (xs ls X : List Row) → ArePrimitiveRowsOf points xs → ArePrimitiveRowsOf lines ls → X ≡ ls ++ xs ++ [] → SameSpan X (t.generators ++ t.lines)
  pair_primitive_span n m points lines c d rp rl pair xs ls X px pl e =
      same_span_trans (primitive_span points lines xs ls X rp.xs rl.xs px pl e rp.stand rl.stand) (pair_spans t o thing n m points lines c d rp rl pair rp.xs rl.xs rp.stand rl.stand)

  module _ (orders : AreOrders t o) (no_fan : ¬ (t.of ≡ Fan)) where
    pub vertices_primitive_span : (n m : ℕ) (rays lines : List (List Ratio)) (c d : List Ratio) → Right Vertices (matrix n rays) t o c → Right LinealitySpace (matrix m lines) t o d
        → (xs ls X : List Row) → ArePrimitiveRowsOf rays xs → ArePrimitiveRowsOf lines ls → X ≡ ls ++ xs ++ [] → SameSpan X (t.generators ++ t.lines)
    vertices_primitive_span n m rays lines c d rv rl xs ls X px pl e =
        same_span_trans (primitive_span rays lines xs ls X rv.xs rl.xs px pl e rv.stand rl.stand) (vertices_span t o thing orders no_fan n m rays lines c d rv rl rv.xs rl.xs rv.stand rl.stand)

    -- ---- null spaces
    -- that of VERTICES and LINEALITY_SPACE is the rows that vanish
    pub hull_primitive : (n m : ℕ) (rays lines : List (List Ratio)) (c d : List Ratio) → Right Vertices (matrix n rays) t o c → Right LinealitySpace (matrix m lines) t o d
        → (xs ls X N : List Row) (P : List ℕ) → ArePrimitiveRowsOf rays xs → ArePrimitiveRowsOf lines ls → X ≡ ls ++ xs ++ [] → IsNullBasis t.cols X N P → IsEchelonBasisOf t.cols (Vanishing t) N P
    hull_primitive n m rays lines c d rv rl xs ls X N P px pl e null = hull_is_found t thing X N P (vertices_primitive_span n m rays lines c d rv rl xs ls X px pl e) null

    -- that of FACETS and AFFINE_HULL is the lineality
    pub lineality_primitive : (n m : ℕ) (facets hull : List (List Ratio)) (c d : List Ratio) → Right Facets (matrix n facets) t o c → Right AffineHull (matrix m hull) t o d
        → (xs es X N : List Row) (P : List ℕ) → ArePrimitiveRowsOf facets xs → ArePrimitiveRowsOf hull es → X ≡ es ++ xs ++ [] → IsNullBasis t.cols X N P → IsEchelonBasisOf t.cols (InLines t) N P
    lineality_primitive n m facets hull c d rf rh xs es X N P px pe e null =
        lineality_is_found t o thing orders no_fan n m facets hull c d rf rh rf.xs rh.xs N P rf.stand rh.stand (null_basis_as t.cols X (rf.xs ++ rh.xs) N P (primitive_span facets hull xs es X rf.xs rh.xs px pe e rf.stand rh.stand) null)
