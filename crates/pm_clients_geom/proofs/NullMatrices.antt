-- The null space of a row list, as a value.
use Rattle.pm_vector.proofs.Lists.{All_among, all_at, among_All}
use Rattle.pm_vector.specs.Numbers.{InRange}
use Rattle.pm_vector.specs.Rows.{HasCols, Row, entry}
use Rattle.pm_client.proofs.Puts.{IsPut, sound_one}
use Rattle.pm_client.proofs.ReadValues.{read_right}
use Rattle.pm_client.specs.Sound.{IsListOf, IsSound, added_rows}
use Rattle.pm_clients_geom.proofs.PutMatrices.{hull_forms, lineality_forms, put_states, ratios_columned}
use Rattle.pm_clients_geom.proofs.RowLists.{IsColumned}
use Rattle.pm_clients_geom.specs.Matrices.{MayBeLines}
use Rattle.pm_types.specs.Parts.{cols_over, as_put}
use Rattle.pm_elim.proofs.PrefixLaws.{at_most_columns}
use Rattle.pm_vector.specs.NullSpaces.{IsNullBasis}
use Rattle.pm_geom.specs.Things.{Orders}
use Rattle.pm_types.specs.Things.{Thing}
use Rattle.pm_object_type.specs.declared.object_type.ObjectType.TheVariants.{Cone, Fan, Polytope}
use Rattle.pm_object_type.specs.declared.object_type.ObjectType.{ObjectType}
use Rattle.pm_fraction.specs.Matrices.{FractionMatrix}
use Rattle.pm_object.specs.Reading.{DraftSeen, IsView, ViewSeen}
use Rattle.pm_relations.proofs.Found.{echelon_is_right}
use Rattle.pm_relations.proofs.PrimitiveStanding.{hull_primitive, lineality_primitive}
use Rattle.pm_relations.proofs.FlatLineality.{polytope_lineality_first}
use Rattle.pm_types.specs.Canonical.{IsCanonical, IsEchelonBasisOf, Vanishing}
use Rattle.pm_types.specs.Right.{InLines, Right, RightAll, objective_of}
use Rattle.pm_props.specs.Places.{place_of}
use Rattle.pm_props.specs.Sets.{set_of}
use Rattle.pm_types.specs.Values.{matrix}
use Rattle.pm_types.specs.Views.{ratios}
use Rattle.pm_props.specs.declared.property.PropId.TheVariants.{AffineHull, Facets, LinealitySpace, Vertices}
use Rattle.std.proofs.Common.{arith, false, inl, inr, refl, subst, sym, true, true≢false, ◌∙◌}
use Rattle.std.proofs.lemmas.Bool.{leb-true}
use Rattle.std.proofs.lemmas.List.Elements.{All-nil}
use Rattle.std.specs.List.{All}
use Rattle.std.specs.Prelude.{Bool, List, [], length, map, nat_le, ℕ, ◌++◌, ◌<◌, ◌↔◌, ◌∷◌, ◌≡◌, ◌≤◌, ◌⊎◌}
use lib.IntN.{pos}
use Rattle.pm_limits.specs.Limits.{most_columns, most_rows}

-- ---- nothing is added to these lists
no_vertex_added : (of : ObjectType) (n : ℕ) → added_rows of n Vertices ≡ []
no_vertex_added Polytope n = refl
no_vertex_added Cone n = refl
no_vertex_added Fan n = refl

no_facet_added : (of : ObjectType) (n : ℕ) → added_rows of n Facets ≡ []
no_facet_added Polytope n = refl
no_facet_added Cone n = refl
no_facet_added Fan n = refl

-- ---- a basis, or no row in its place
few_rows : (n k : ℕ) → nat_le n most_columns ≡ true → k ≤ n → k ≤ most_rows
few_rows n k few h = let l = leb-true n most_columns few in omega arith

module _ (v : ViewSeen) (view : IsView v) where
  basis_columned : (X N : List Row) (P : List ℕ) → IsNullBasis v.cols X N P → IsColumned v.cols (cols_over v.cols (map ratios N)) (map ratios N)
  basis_columned X N P null = ratios_columned v.cols N view.some_cols view.few_cols (few_rows v.cols (length N) view.few_cols (at_most_columns v.cols N P null.echelon)) null.echelon.cols

  none_columned : IsColumned v.cols (cols_over v.cols []) []
  none_columned = (refl, refl)

-- the rows M that are put for rows N: these, or none where they cannot be lines
pub record PutLines (of : ObjectType) (N M : List Row) : Type 0 where
  pub lines : MayBeLines of M
  pub kept : MayBeLines of N → M ≡ N
  pub either : (M ≡ N) ⊎ (M ≡ [])

pub put_lines : (of : ObjectType) (N M : List Row) (b : Bool) → (b ≡ true) ↔ MayBeLines of N → ((b ≡ true) × (M ≡ N)) ⊎ ((b ≡ false) × (M ≡ [])) → PutLines of N M
put_lines of N M b test (inl (e, same)) = record { lines = subst (MayBeLines of) (sym same) (test.0 e); kept = λ h. same; either = inl same }
put_lines of N M b test (inr (e, none)) = record { lines = subst (MayBeLines of) (sym none) (λ p. All-nil (λ (x : Row). entry x 0 ≡ pos 0)); kept = λ h. absurd (true≢false (sym (test.1 h) ∙ e)); either = inr none }

-- ---- AFFINE_HULL
module _ (v : ViewSeen) (view : IsView v) (no_fan : ¬ (v.of ≡ Fan)) (X N : List Row) (P : List ℕ) (list : IsListOf v LinealitySpace Vertices X) (null : IsNullBasis v.cols X N P) where
  hull_echelon : (t : Thing) (o : Orders) → t.of ≡ v.of → t.cols ≡ v.cols → RightAll v.facts t o → IsEchelonBasisOf t.cols (Vanishing t) N P
  hull_echelon t o of cols right =
      let (s, rl) = read_right LinealitySpace v.facts (matrix list.first_cols list.first_rows) t o list.reads_first right in
      let (r, rv) = read_right Vertices v.facts (matrix list.second_cols list.second_rows) t o list.reads_second right in
      hull_primitive t o right.thing right.orders (λ e. no_fan (sym of ∙ e)) list.second_cols list.first_cols list.second_rows list.first_rows (objective_of t r) (objective_of t s) rv rl list.ys list.xs X N P
      list.second_primitive list.first_primitive (rw no_vertex_added at list.listed) (subst (λ n. IsNullBasis n X N P) (sym cols) null)

  hull_values : (t : Thing) (o : Orders) → t.of ≡ v.of → t.cols ≡ v.cols → RightAll v.facts t o → (k : ℕ) → Right AffineHull (matrix k (map ratios N)) t o (objective_of t (place_of v.sub AffineHull)) × IsCanonical v.kind AffineHull (matrix k (map ratios N)) t
  hull_values t o of cols right k = (echelon_is_right t o v.kind k (objective_of t (place_of v.sub AffineHull)) N P).0 (hull_echelon t o of cols right)

  hull_put : All (All InRange) N → (old new : DraftSeen) → IsPut v AffineHull (matrix (cols_over v.cols (map ratios N)) (map ratios N)) old new → IsSound v new
  hull_put range old new put =
      sound_one v AffineHull (matrix (cols_over v.cols (map ratios N)) (map ratios N)) old new put refl (hull_forms v.of v.cols N (basis_columned v view X N P null) range) (put_states v.cols (map ratios N))
      (λ t o of cols right. hull_values t o of cols right (cols_over v.cols (map ratios N)))

  pub hull_sound : (a : FractionMatrix) (old new : DraftSeen) → v.kind.targets ≡ set_of (AffineHull ∷ []) → All (All InRange) N → a ≡ as_put v.cols (map ratios N) → old ≡ record { kind = v.kind; values = [] }
      → new ≡ record old { values = old.values ++ record { property = AffineHull; value = matrix a.cols a.rows } ∷ [] } → IsSound v new
  hull_sound a old new targets range same empty put =
      hull_put range old new (subst (λ z. IsPut v AffineHull (matrix z.cols z.rows) old new) same (record { targets = targets; empty = empty; put = put }))

-- ---- LINEALITY_SPACE
module _ (v : ViewSeen) (view : IsView v) (no_fan : ¬ (v.of ≡ Fan)) (X N : List Row) (P : List ℕ) (list : IsListOf v AffineHull Facets X) (null : IsNullBasis v.cols X N P) where
  lineality_echelon : (t : Thing) (o : Orders) → t.of ≡ v.of → t.cols ≡ v.cols → RightAll v.facts t o → IsEchelonBasisOf t.cols (InLines t) N P
  lineality_echelon t o of cols right =
      let (s, rh) = read_right AffineHull v.facts (matrix list.first_cols list.first_rows) t o list.reads_first right in
      let (r, rf) = read_right Facets v.facts (matrix list.second_cols list.second_rows) t o list.reads_second right in
      lineality_primitive t o right.thing right.orders (λ e. no_fan (sym of ∙ e)) list.second_cols list.first_cols list.second_rows list.first_rows (objective_of t r) (objective_of t s) rf rh list.ys list.xs X N P
      list.second_primitive list.first_primitive (rw no_facet_added at list.listed) (subst (λ n. IsNullBasis n X N P) (sym cols) null)

  -- where what was read is right, the basis may be lines
  may_be : (t : Thing) (o : Orders) → t.of ≡ v.of → t.cols ≡ v.cols → RightAll v.facts t o → MayBeLines v.of N
  may_be t o of cols right e =
      let b = lineality_echelon t o of cols right in
      All_among (λ (x : Row). entry x 0 ≡ pos 0) N (λ x i. polytope_lineality_first t right.thing (of ∙ e) x (all_at (λ (y : Row). length y ≡ t.cols) i b.basis.cols) (among_All (InLines t) i b.basis.inside))

  -- the rows M that are put in its place
  module _ (M : List Row) (put : PutLines v.of N M) (range : All (All InRange) M) where
    lines_columned : IsColumned v.cols (cols_over v.cols (map ratios M)) (map ratios M)
    lines_columned = elim put.either [
      | inl e ↦ subst (λ Z. IsColumned v.cols (cols_over v.cols (map ratios Z)) (map ratios Z)) (sym e) (basis_columned v view X N P null)
      | inr e ↦ subst (λ Z. IsColumned v.cols (cols_over v.cols (map ratios Z)) (map ratios Z)) (sym e) (none_columned v view)
    ]

    lineality_values : (t : Thing) (o : Orders) → t.of ≡ v.of → t.cols ≡ v.cols → RightAll v.facts t o → (k : ℕ)
        → Right LinealitySpace (matrix k (map ratios M)) t o (objective_of t (place_of v.sub LinealitySpace)) × IsCanonical v.kind LinealitySpace (matrix k (map ratios M)) t
    lineality_values t o of cols right k =
        subst (λ Z. Right LinealitySpace (matrix k (map ratios Z)) t o (objective_of t (place_of v.sub LinealitySpace)) × IsCanonical v.kind LinealitySpace (matrix k (map ratios Z)) t) (sym (put.kept (may_be t o of cols right)))
        ((echelon_is_right t o v.kind k (objective_of t (place_of v.sub LinealitySpace)) N P).1 (lineality_echelon t o of cols right))

    lineality_put : (old new : DraftSeen) → IsPut v LinealitySpace (matrix (cols_over v.cols (map ratios M)) (map ratios M)) old new → IsSound v new
    lineality_put old new h =
        sound_one v LinealitySpace (matrix (cols_over v.cols (map ratios M)) (map ratios M)) old new h refl (lineality_forms v.of v.cols M lines_columned range put.lines) (put_states v.cols (map ratios M))
        (λ t o of cols right. lineality_values t o of cols right (cols_over v.cols (map ratios M)))

    pub lineality_sound : (a : FractionMatrix) (old new : DraftSeen) → v.kind.targets ≡ set_of (LinealitySpace ∷ []) → a ≡ as_put v.cols (map ratios M) → old ≡ record { kind = v.kind; values = [] }
        → new ≡ record old { values = old.values ++ record { property = LinealitySpace; value = matrix a.cols a.rows } ∷ [] } → IsSound v new
    lineality_sound a old new targets same empty more =
        lineality_put old new (subst (λ z. IsPut v LinealitySpace (matrix z.cols z.rows) old new) same (record { targets = targets; empty = empty; put = more }))

-- rows of some columns have a first entry
pub some_entries : (n : ℕ) (N : List Row) → nat_le 1 n ≡ true → HasCols n N → All (λ x. 0 < length x) N
some_entries n N some cols =
    All_among (λ (x : Row). 0 < length x) N (λ x i. let l = leb-true 1 n some in let e = all_at (λ (y : Row). length y ≡ n) i cols in omega arith)
