-- What the clients over half-spaces put is right.
use Rattle.pm_vector.proofs.Lists.{Among, Contains_among, all_at}
use Rattle.pm_vector.specs.Cones.{InCone}
use Rattle.pm_vector.specs.Divisors.{IsPrimitive}
use Rattle.pm_vector.specs.Numbers.{Ratio}
use Rattle.pm_vector.specs.Rows.{HasCols, IsZero, Row, dot}
use Rattle.pm_vector.proofs.RowLaws.{dot_comm, length-opposite}
use Rattle.pm_client.proofs.Puts.{IsPut}
use Rattle.pm_client.proofs.ReadValues.{found}
use Rattle.pm_client.specs.Sound.{AreRowsOf, IsSound, ReadsObjective, optimum}
use Rattle.pm_clients_lp.proofs.DualForms.{AreOfDual, dual_forms, dual_states, of_dual}
use Rattle.pm_clients_lp.proofs.DualRight.{bound, directions}
use Rattle.pm_clients_lp.proofs.FacetRows.{facet_row, facets_differ}
use Rattle.pm_clients_lp.proofs.Facts.{not_a_fan, objective_cols, objective_is, objective_of_polytope, read_at, rows_cols, some_columns}
use Rattle.pm_clients_lp.proofs.Found.{optimum_as}
use Rattle.pm_clients_lp.proofs.Told.{cut_greatest, solves_halves}
use Rattle.pm_clients_lp.proofs.Sense.{ArePutWithDual, ForEach, value_sound, with_dual_sound}
use Rattle.pm_clients_lp.specs.Programs.{IsDualMatrixOf, IsFoundWithDual}
use Rattle.pm_dd.proofs.ZeroRows.{dot_zero}
use Rattle.pm_dual.specs.Answers.{IsAnswer}
use Rattle.pm_dual.specs.declared.answer.LpAnswer.TheVariants.{Infeasible, Optimal, Unbounded}
use Rattle.pm_dual.specs.declared.answer.LpAnswer.{LpAnswer}
use Rattle.pm_geom.proofs.Facets.{opposite-dot}
use Rattle.pm_geom.specs.Cones.{IsFacetRow, Vanishes}
use Rattle.pm_geom.specs.Faces.{ray}
use Rattle.pm_geom.specs.Programs.{Solves}
use Rattle.pm_geom.specs.Things.{Orders}
use Rattle.pm_incidence.specs.Thinning.{half_spaces}
use Rattle.pm_fraction.specs.Matrices.{FractionMatrix, IsMatrix}
use Rattle.pm_object.specs.Reading.{DraftSeen, IsView, ViewSeen}
use Rattle.pm_object_type.specs.declared.object_type.ObjectType.TheVariants.{Polytope}
use Rattle.pm_props.specs.declared.property.PropId.TheVariants.{AffineHull, Equations, Facets, Inequalities}
use Rattle.pm_relations.proofs.Hulls.{facets_bound}
use Rattle.pm_relations.proofs.PrimitiveStanding.{primitive_stand}
use Rattle.pm_relations.proofs.Spans.{thing_cols}
use Rattle.pm_relations.proofs.Thinning.{rows_cut}
use Rattle.pm_relations.proofs.Twins.{orders_of}
use Rattle.pm_simplex.proofs.Senses.{objective_length}
use Rattle.pm_simplex.specs.Senses.{IsOptimum, objective_in, value_in}
use Rattle.pm_simplex.specs.declared.sense.Sense.{Sense}
use Rattle.pm_types.specs.Forms.{AreFractions}
use Rattle.pm_types.specs.Programs.{IsGreatest}
use Rattle.pm_types.specs.Right.{AreDualRows, CutsOutOf, CutsOutPolytope, InSet, IsGreatestDual, PairCutsOut, RightAll, RightPair}
use Rattle.pm_types.specs.Things.{Thing}
use Rattle.pm_types.specs.Values.{Extended, extended, matrix}
use Rattle.pm_wide_programs.proofs.Shown.{told}
use Rattle.pm_wide_programs.specs.Greatest.{greatest_in}
use Rattle.std.proofs.Common.{ap, arith, inl, inr, refl, subst, sym, ◌∙◌}
use Rattle.std.proofs.lemmas.Int.{ints}
use Rattle.std.specs.Prelude.{List, [], length, ℕ, ◌<◌, ◌↔◌, ◌≡◌, ◌≤◌}
use lib.IntN.{pos}
use Rattle.pm_limits.specs.Limits.{most_rows}

module _ (v : ViewSeen) (view : IsView v) (c : List Ratio) (reads : ReadsObjective v c) (sense : Sense) (E A : List Row) (x : Extended) where
  -- ---- INEQUALITIES and EQUATIONS
  module _ (e : AreRowsOf v Equations E) (a : AreRowsOf v Inequalities A) (optimal : IsOptimum sense (Solves (half_spaces Polytope v.cols A) E) c x) where
    -- they are right together
    rows_pair : (t : Thing) (o : Orders) → RightAll v.facts t o → PairCutsOut t a.rows e.rows
    rows_pair t o right =
        let (f, i, p, u) = found Inequalities v.facts (matrix a.cols a.rows) a.reads in
        let (g, j, q, w) = found Equations v.facts (matrix e.cols e.rows) e.reads in
        let both = right.together f g (Contains_among i) (Contains_among j) in
        subst (λ z. RightPair Inequalities (matrix a.cols a.rows) Equations z t) w
        (subst (λ z. RightPair Inequalities (matrix a.cols a.rows) z g.value t) q (subst (λ z. RightPair Inequalities z g.property g.value t) u (subst (λ z. RightPair z f.value g.property g.value t) p both)))

    rows_optimum : ForEach v (λ t o d. IsOptimum sense (InSet t) d x)
    rows_optimum t o of cols right =
        let polytope = of ∙ objective_of_polytope v view c reads in
        let (hg, hl) = thing_cols t right.thing in
        let cut = rows_cut t a.rows e.rows (rows_pair t o right) A E (primitive_stand a.rows A a.primitive) (primitive_stand e.rows E e.primitive) t.generators t.lines (λ y ly. (λ h. h, λ h. h)) in
        let cut' : CutsOutPolytope v.cols (InCone t.generators t.lines) A E = subst (λ k. CutsOutOf k v.cols (InCone t.generators t.lines) A E) polytope (subst (λ n. CutsOutOf t.of n (InCone t.generators t.lines) A E) cols cut) in
        subst (λ d. IsOptimum sense (InSet t) d x) (objective_is v view c reads t o right)
        (cut_greatest v.cols (some_columns v view c reads) t.generators t.lines (subst (λ n. HasCols n t.generators) cols hg) (subst (λ n. HasCols n t.lines) cols hl) A E (objective_in sense c) (objective_length sense c ∙ objective_cols v view c reads)
        cut' (value_in sense x) optimal)

    pub rows_sound : AreFractions (extended x) → (old new : DraftSeen) → IsPut v (optimum sense) (extended x) old new → IsSound v new
    rows_sound fractions old new put = value_sound v old new sense x fractions put rows_optimum

  -- ---- FACETS and AFFINE_HULL
  module _ (e : AreRowsOf v AffineHull E) (a : AreRowsOf v Facets A) (m : FractionMatrix) (found' : IsFoundWithDual sense A E c x m) where
    facets_same : (t : Thing) (o : Orders) → t.of ≡ v.of → t.cols ≡ v.cols → RightAll v.facts t o → (y : Row) → length y ≡ t.cols → InSet t y ↔ Solves A E y
    facets_same t o of cols right y ly =
        let same = facets_bound t o right.thing right.orders (not_a_fan (of ∙ objective_of_polytope v view c reads)) a.cols e.cols a.rows e.rows [] []
        (read_at v view Facets (matrix a.cols a.rows) a.reads t o right) (read_at v view AffineHull (matrix e.cols e.rows) e.reads t o right) A E
        (primitive_stand a.rows A a.primitive) (primitive_stand e.rows E e.primitive) y ly in
        let s = solves_halves A E y in
        (λ h. s.1 (same.0 h), λ h. same.1 (s.0 h))

    pub facets_optimum : ForEach v (λ t o d. IsOptimum sense (InSet t) d x)
    facets_optimum =
        optimum_as v view c reads sense x (Solves A E) (subst (IsGreatest (Solves A E) (objective_in sense c)) (sym found'.value) (told A E (objective_in sense c) found'.answer found'.right)) facets_same

    -- ---- their dual
    module _ (t : Thing) (o : Orders) (of : t.of ≡ v.of) (cols : t.cols ≡ v.cols) (right : RightAll v.facts t o) where
      own_cols : HasCols t.cols A
      own_cols = subst (λ n. HasCols n A) (sym cols) (rows_cols v view Facets refl A a)

      hull_cols : HasCols t.cols E
      hull_cols = subst (λ n. HasCols n E) (sym cols) (rows_cols v view AffineHull refl E e)

      vanish : (r : Row) → Among r E → Vanishes t.cols t.generators t.lines r
      vanish r i = record {
        cols = all_at (λ (y : Row). length y ≡ t.cols) i hull_cols;
        holds = λ y ly h. all_at (λ (b : Row). dot b y ≡ pos 0) i ((facets_same t o of cols right y ly).0 h).equations;
      }

      facets : (i : ℕ) → i < length A → IsFacetRow t.cols t.generators t.lines (ray A i)
      facets i l =
          let polytope = not_a_fan (of ∙ objective_of_polytope v view c reads) in
          let r = read_at v view Facets (matrix a.cols a.rows) a.reads t o right in
          facet_row t.cols t.generators t.lines o.facets r.xs A a.rows (orders_of t.of t.cols t.generators t.lines t.cones o polytope right.orders).facets r.order r.stand (primitive_stand a.rows A a.primitive) own_cols i l

      differ : (i j : ℕ) → i < j → j < length A → ¬ (ray A i ≡ ray A j)
      differ i j l m =
          let polytope = not_a_fan (of ∙ objective_of_polytope v view c reads) in
          let r = read_at v view Facets (matrix a.cols a.rows) a.reads t o right in
          facets_differ t.cols t.generators t.lines o.facets r.xs A a.rows (orders_of t.of t.cols t.generators t.lines t.cones o polytope right.orders).facets r.order r.stand (primitive_stand a.rows A a.primitive) own_cols i j l m

      not_zero : (r : Row) → IsFacetRow t.cols t.generators t.lines r → ¬ (IsZero r)
      not_zero r f z = f.not_line (record {
        cols = length-opposite r ∙ f.cols;
        holds = λ y ly h. let d = opposite-dot r y in let k = dot_comm r y ∙ dot_zero y r z in omega (arith, ints);
      })

      primitive : (i : ℕ) → i < length A → IsPrimitive (ray A i)
      primitive i l = elim (a.primitive.each i (let k = a.primitive.count in omega arith)).primitive.divided [ inl z ↦ absurd (not_zero (ray A i) (facets i l) z.1) | inr d ↦ d.3 ]

      dual_rows : (answer : LpAnswer) → IsAnswer A E (objective_in sense c) answer → (n : ℕ) → IsDualMatrixOf n A answer m → AreDualRows t (objective_in sense c) m.rows (greatest_in answer)
      dual_rows (Optimal value point dual) h n d = (
        directions t A E (objective_in sense c) value point.items dual.items h d.kept d.weighted m.rows d.multiples own_cols facets differ primitive,
        bound t A E (objective_in sense c) value point.items dual.items h d.kept d.weighted m.rows d.multiples hull_cols vanish,
      )
      dual_rows (Unbounded point direction) h n d = ap (λ z. z.rows) d
      dual_rows (Infeasible multipliers) h n d = ap (λ z. z.rows) d

    pub dual_found : ForEach v (λ t o d. IsGreatestDual t (objective_in sense d) m.rows)
    dual_found t o of cols right =
        subst (λ b. IsGreatestDual t (objective_in sense b) m.rows) (objective_is v view c reads t o right) (record {
          value = greatest_in found'.answer;
          greatest = subst (IsGreatest (InSet t) (objective_in sense c)) found'.value (subst (λ b. IsGreatest (InSet t) (objective_in sense b) (value_in sense x)) (sym (objective_is v view c reads t o right)) (facets_optimum t o of cols right));
          holds = dual_rows t o of cols right found'.answer found'.right (length c) found'.dual;
        })

    pub facets_sound : length A ≤ most_rows → IsMatrix m → AreFractions (extended x) → (old mid new : DraftSeen) → ArePutWithDual v sense x m old mid new → IsSound v new
    facets_sound few is_matrix fractions old mid new put =
        let of = subst (λ n. AreOfDual n m) (objective_cols v view c reads) (of_dual (length c) A found'.answer m few found'.dual) in
        with_dual_sound v sense x m old mid new fractions (dual_forms v.of v.cols sense m view.some_cols view.few_cols is_matrix of) (dual_states v.cols m of) put facets_optimum dual_found
