-- The rows of right VERTICES and LINEALITY_SPACE, and of POINTS and INPUT_LINEALITY, have the span of the thing; null spaces are its affine hull and its lineality.
use Rattle.pm_vector.proofs.ConeLaws.{in_line, in_through, lines_opposite}
use Rattle.pm_vector.proofs.Lists.{All_among, Among, all_at, among_All}
use Rattle.pm_vector.proofs.RowLaws.{dot_comm}
use Rattle.pm_vector.specs.Cones.{InCone, InSpan}
use Rattle.pm_vector.specs.Numbers.{Ratio}
use Rattle.pm_vector.specs.Rows.{HasCols, Row}
use Rattle.pm_vector.proofs.Columns.{basis_is_independent}
use Rattle.pm_vector.proofs.Spans.{same_span_trans}
use Rattle.pm_vector.specs.Bases.{SameSpan}
use Rattle.pm_vector.proofs.DotLaws.{dot_span_zero}
use Rattle.pm_vector.specs.NullSpaces.{IsNull, IsNullBasis}
use Rattle.pm_geom.proofs.Facets.{vanishes_line}
use Rattle.pm_geom.proofs.Lineality.{lineality_is_null}
use Rattle.pm_geom.proofs.Spans.{generators_span, order_spans, vanishing_is_null}
use Rattle.pm_geom.specs.Cones.{InLineality, IsOrder, IsValid, SameModulo, Vanishes}
use Rattle.pm_types.specs.Things.{AreOrdersOf, IsOfType, IsThing, Thing}
use Rattle.pm_geom.specs.Things.{Orders}
use Rattle.pm_object_type.specs.declared.object_type.ObjectType.{ObjectType}
use Rattle.pm_object_type.specs.declared.object_type.ObjectType.TheVariants.{Polytope, Cone, Fan}
use Rattle.pm_relations.proofs.StandingSpans.{order_same, stand_for_same}
use Rattle.pm_types.specs.Canonical.{IsEchelonBasisOf}
use Rattle.pm_relations.specs.Laws.{HullIsFound, LinealityIsFound, PairSpans, VerticesSpan}
use Rattle.pm_types.specs.Right.{InLinesOf, InOrder, IsBasis, SameRayOf, StandFor}
use Rattle.std.proofs.Common.{refl, subst, sym, ◌∙◌}
use Rattle.std.specs.Prelude.{List, [], length, ℕ, ◌++◌, ◌↔◌, ◌∷◌, ◌≡◌}

-- ---- the rows of a thing
cols_of : (of : ObjectType) (n : ℕ) (G L : List Row) (Gs : List (List Row)) → IsOfType of n G L Gs → HasCols n G × HasCols n L
cols_of Polytope n G L Gs h = (h.0.cone.generators, h.0.cone.lines)
cols_of Cone n G L Gs h = (h.0.generators, h.0.lines)
cols_of Fan n G L Gs h = (subst (HasCols n) (sym h.1) tt, h.0.lines)

pub thing_cols : (t : Thing) → IsThing t → HasCols t.cols t.generators × HasCols t.cols t.lines
thing_cols t h = cols_of t.of t.cols t.generators t.lines t.cones h.kind

-- ---- the lineality
-- what lines span is in the lineality where the lines are
pub lineality_span : (G L K : List Row) → ((k : Row) → Among k K → InLineality (InCone G L) k) → {x : Row} → InSpan K x → InLineality (InCone G L) x
lineality_span G L K f {x} h = record {
  inside = in_through G L [] K (λ g i. elim i [ ]) (λ k i. let s = f k i in (s.inside, s.opposed)) h;
  opposed = in_through G L [] K (λ g i. elim i [ ]) (λ k i. let s = f k i in (s.inside, s.opposed)) (lines_opposite K x h);
}

pub basis_lineality : (n : ℕ) (G L K : List Row) → IsBasis n (InLineality (InCone G L)) K → (x : Row) → length x ≡ n → InLineality (InCone G L) x ↔ InSpan K x
basis_lineality n G L K b x lx = (b.spans x lx, lineality_span G L K (λ k i. among_All (λ y. InLineality (InCone G L) y) i b.inside))

-- ---- VERTICES with LINEALITY_SPACE
module _ (n : ℕ) (G L : List Row) (hg : HasCols n G) (hl : HasCols n L) (rays lines : List (List Ratio)) (V xs' ks xs ls : List Row) (o : IsOrder n (InCone G L) V) (order : InOrder (SameModulo n (InCone G L)) V xs') (basis : IsBasis n (InLineality (InCone G L)) ks) (sx' : StandFor rays xs') (sk : StandFor lines ks) (sx : StandFor rays xs) (sl : StandFor lines ls) where
  cone_vertices_span : SameSpan (xs ++ ls) (G ++ L)
  cone_vertices_span =
      same_span_trans (stand_for_same rays lines xs xs' ls ks sx sx' sl sk)
      (same_span_trans (order_same n (InCone G L) ks basis.spans V xs' order)
      (order_spans n G L hg hl V ks basis.cols o (basis_lineality n G L ks basis)))

vertices_span_of : (of : ObjectType) (n : ℕ) (G L : List Row) (Gs : List (List Row)) (o : Orders) → IsOfType of n G L Gs → AreOrdersOf of n G L Gs o → ¬ (of ≡ Fan) → (rays lines : List (List Ratio)) (xs' ks xs ls : List Row) → InOrder (SameRayOf of n G L) o.rays xs' → IsBasis n (InLinesOf of G L) ks → StandFor rays xs' → StandFor lines ks → StandFor rays xs → StandFor lines ls → SameSpan (xs ++ ls) (G ++ L)
vertices_span_of Polytope n G L Gs o h a none rays lines xs' ks xs ls order basis sx' sk sx sl = cone_vertices_span n G L h.0.cone.generators h.0.cone.lines rays lines o.rays xs' ks xs ls a.rays order basis sx' sk sx sl
vertices_span_of Cone n G L Gs o h a none rays lines xs' ks xs ls order basis sx' sk sx sl = cone_vertices_span n G L h.0.generators h.0.lines rays lines o.rays xs' ks xs ls a.rays order basis sx' sk sx sl
vertices_span_of Fan n G L Gs o h a none rays lines xs' ks xs ls order basis sx' sk sx sl = absurd (none refl)

pub vertices_span : VerticesSpan
vertices_span t o h a none n m rays lines c d rv rl xs ls sx sl =
    vertices_span_of t.of t.cols t.generators t.lines t.cones o h.kind a none rays lines rv.xs rl.xs xs ls rv.order rl.basis rv.stand rl.stand sx sl

-- ---- POINTS with INPUT_LINEALITY
-- two lists that stand for the same rows have the same columns
stand_cols : (n : ℕ) (rows : List (List Ratio)) (xs ys : List Row) → StandFor rows xs → StandFor rows ys → HasCols n xs → HasCols n ys
stand_cols n [] xs [] s t h = tt
stand_cols n [] xs (y ∷ ys) s t h = absurd t
stand_cols n (r ∷ rows) [] ys s t h = absurd s
stand_cols n (r ∷ rows) (x ∷ xs) [] s t h = absurd t
stand_cols n (r ∷ rows) (x ∷ xs) (y ∷ ys) s t h = (t.0.cols ∙ sym s.0.cols ∙ h.0, stand_cols n rows xs ys s.1 t.1 h.1)

pub pair_spans : PairSpans
pair_spans t o h n m points lines c d rp rl pair xs ls sx sl =
    let (hg, hl) = thing_cols t h in
    same_span_trans (stand_for_same points lines xs pair.xs ls pair.ls sx pair.points_stand sl pair.lines_stand)
    (generators_span t.cols t.generators t.lines hg hl pair.xs pair.ls (stand_cols t.cols points rp.xs pair.xs rp.stand pair.points_stand rp.cols) (stand_cols t.cols lines rl.xs pair.ls rl.stand pair.lines_stand rl.cols) pair.generates.same)

-- ---- null spaces
null_basis_of : (n : ℕ) (S : Row → Type 0) (X N : List Row) (P : List ℕ) → ((x : Row) → length x ≡ n → S x ↔ IsNull X x) → IsNullBasis n X N P → IsEchelonBasisOf n S N P
null_basis_of n S X N P e b = record {
  basis = record {
    cols = b.echelon.cols;
    inside = All_among S N (λ r i. let l = all_at (λ (x : Row). length x ≡ n) i b.echelon.cols in (e r l).1 ((b.null r l).0 (in_line i)));
    independent = basis_is_independent n N P b.echelon.basis;
    spans = λ x l h. (b.null x l).1 ((e x l).0 h);
  };
  echelon = b.echelon;
}

pub hull_is_found : HullIsFound
hull_is_found t h X N P s b =
    let (hg, hl) = thing_cols t h in
    null_basis_of t.cols (Vanishes t.cols t.generators t.lines) X N P (λ x l. vanishing_is_null t.cols t.generators t.lines hg hl X s x l) b

-- ---- FACETS with AFFINE_HULL
module _ (n : ℕ) (G L : List Row) (hg : HasCols n G) (hl : HasCols n L) where
  -- what a basis of the vanishing rows spans vanishes
  pub hull_rows : (E : List Row) → IsBasis n (Vanishes n G L) E → (a : Row) → length a ≡ n → Vanishes n G L a ↔ InSpan E a
  hull_rows E b a la = (b.spans a la, λ h. (vanishes_of (λ e i. among_All (λ y. Vanishes n G L y) i b.inside) h))
    where
      vanishes_of : ((e : Row) → Among e E → Vanishes n G L e) → InSpan E a → Vanishes n G L a
      vanishes_of f h = record { cols = la; holds = λ x lx k. dot_comm a x ∙ dot_span_zero x E a (λ e i. dot_comm x e ∙ (f e i).holds x lx k) h }

  module _ (facets hull : List (List Ratio)) (F xs' E xs es N : List Row) (P : List ℕ) (o : IsOrder n (IsValid n G L) F) (order : InOrder (SameModulo n (IsValid n G L)) F xs') (basis : IsBasis n (Vanishes n G L) E) (sx' : StandFor facets xs') (se' : StandFor hull E) (sx : StandFor facets xs) (se : StandFor hull es) (null : IsNullBasis n (xs ++ es) N P) where
    facets_span : SameSpan (xs ++ es) (F ++ E)
    facets_span =
        same_span_trans (stand_for_same facets hull xs xs' es E sx sx' se se')
        (order_same n (IsValid n G L) E (λ w l h. basis.spans w l ((vanishes_line n G L hg hl w l).1 h)) F xs' order)

    cone_lineality : IsEchelonBasisOf n (InLineality (InCone G L)) N P
    cone_lineality = null_basis_of n (InLineality (InCone G L)) (xs ++ es) N P (λ x l. lineality_is_null n G L hg hl F E basis.cols o (hull_rows E basis) (xs ++ es) facets_span x l) null

lineality_of : (of : ObjectType) (n : ℕ) (G L : List Row) (Gs : List (List Row)) (o : Orders) → IsOfType of n G L Gs → AreOrdersOf of n G L Gs o → ¬ (of ≡ Fan) → (facets hull : List (List Ratio)) (xs' E xs es N : List Row) (P : List ℕ) → InOrder (SameModulo n (IsValid n G L)) o.facets xs' → IsBasis n (Vanishes n G L) E → StandFor facets xs' → StandFor hull E → StandFor facets xs → StandFor hull es → IsNullBasis n (xs ++ es) N P → IsEchelonBasisOf n (InLinesOf of G L) N P
lineality_of Polytope n G L Gs o h a none facets hull xs' E xs es N P order basis sx' se' sx se null = cone_lineality n G L h.0.cone.generators h.0.cone.lines facets hull o.facets xs' E xs es N P a.facets order basis sx' se' sx se null
lineality_of Cone n G L Gs o h a none facets hull xs' E xs es N P order basis sx' se' sx se null = cone_lineality n G L h.0.generators h.0.lines facets hull o.facets xs' E xs es N P a.facets order basis sx' se' sx se null
lineality_of Fan n G L Gs o h a none facets hull xs' E xs es N P order basis sx' se' sx se null = absurd (none refl)

pub lineality_is_found : LinealityIsFound
lineality_is_found t o h a none n m facets hull c d rf rh xs es N P sx se null =
    lineality_of t.of t.cols t.generators t.lines t.cones o h.kind a none facets hull rf.xs rh.xs xs es N P rf.order rh.basis rf.stand rh.stand sx se null
