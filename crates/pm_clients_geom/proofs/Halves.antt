-- Where a view has VERTICES and LINEALITY_SPACE, or FACETS and AFFINE_HULL, their rows are the two halves of a pair.
use Rattle.pm_client.proofs.ReadValues.{read_right}
use Rattle.pm_client.proofs.Pairs.{AreRightHalves, sound_pair}
use Rattle.pm_client.proofs.Puts.{two_put}
use Rattle.pm_client.specs.Sound.{IsSound}
use Rattle.pm_clients_geom.proofs.PutMatrices.{equations_forms, inequalities_forms, lines_forms, points_forms, put_states}
use Rattle.pm_types.specs.Parts.{cols_over, as_put}
use Rattle.pm_clients_geom.specs.Pairs.{LacksPair}
use Rattle.pm_clients_geom.specs.Stays.{RepeatsRows}
use Rattle.pm_vector.specs.Numbers.{Ratio}
use Rattle.pm_fraction.specs.Matrices.{FractionMatrix}
use Rattle.pm_object.specs.Reading.{DraftSeen, Put, ViewSeen, drafted, fact_of}
use Rattle.pm_relations.proofs.Twins.{facets_cut_out, vertices_generate}
use Rattle.pm_types.specs.Forms.{FormsIn}
use Rattle.pm_standard.specs.Table.{standard_kind}
use Rattle.pm_types.specs.Right.{objective_of}
use Rattle.pm_types.specs.Values.{PropertyValue, matrix}
use Rattle.pm_props.specs.declared.property.PropId.TheVariants.{AffineHull, Equations, Facets, Inequalities, InputLineality, LinealitySpace, Points, Vertices}
use Rattle.pm_props.specs.declared.property.PropId.{PropId}
use Rattle.pm_standard.specs.declared.standard.StandardClient.TheVariants as client
use Rattle.std.proofs.Common.{ap, refl, subst, sym, ◌∙◌}
use Rattle.std.specs.Prelude.{List, Some, [], ℕ, ◌++◌, ◌∷◌, ◌≡◌}

-- the view has matrices of these rows as its values of two properties
pub record ReadsTwo (v : ViewSeen) (p q : PropId) (m k : ℕ) (first second : List (List Ratio)) : Type 0 where
  pub first_read : fact_of p v.facts ≡ Some (matrix m first)
  pub second_read : fact_of q v.facts ≡ Some (matrix k second)
  pub first_forms : FormsIn v.of v.cols p (matrix m first)
  pub second_forms : FormsIn v.of v.cols q (matrix k second)

-- what two puts leave in an empty draft
both_put : (q r : PropId) (x y : PropertyValue) (old mid new : DraftSeen) → old.values ≡ [] → mid ≡ record old { values = old.values ++ record { property = q; value = x } ∷ [] }
    → new ≡ record mid { values = mid.values ++ record { property = r; value = y } ∷ [] } → new.values ≡ record { property = q; value = x } ∷ record { property = r; value = y } ∷ []
both_put q r x y old mid new none first second =
    ap (λ (d : DraftSeen). d.values) second
    ∙ ap (λ (vs : List Put). vs ++ record { property = r; value = y } ∷ []) (ap (λ (d : DraftSeen). d.values) first ∙ ap (λ (vs : List Put). vs ++ record { property = q; value = x } ∷ []) none)

-- ---- POINTS and INPUT_LINEALITY
module _ (v : ViewSeen) (m k : ℕ) (rays lines : List (List Ratio)) (h : ReadsTwo v Vertices LinealitySpace m k rays lines) (free : LacksPair v Points InputLineality) where
  points_answer : AreRightHalves v Points InputLineality (matrix (cols_over m rays) rays) (matrix (cols_over k lines) lines)
  points_answer = record {
    halves = refl;
    no_first = free.no_first;
    no_second = free.no_second;
    first_formed = (points_forms v.of v.cols m rays h.first_forms, put_states m rays);
    second_formed = (lines_forms v.of v.cols k lines h.second_forms, put_states k lines);
    right = λ t o of cols right.
        let (s, rv) = read_right Vertices v.facts (matrix m rays) t o h.first_read right in
        let (r, rl) = read_right LinealitySpace v.facts (matrix k lines) t o h.second_read right in
        vertices_generate t o right.thing right.orders (λ e. free.no_fan (sym of ∙ e)) m k rays lines (objective_of t s) (objective_of t r) rv rl;
  }

  pub points_sound : (a b : FractionMatrix) (old mid new : DraftSeen) → v.kind ≡ standard_kind client.PointsFromVertices → a ≡ as_put m rays → b ≡ as_put k lines → old ≡ record { kind = v.kind; values = [] }
      → mid ≡ record old { values = old.values ++ record { property = Points; value = matrix a.cols a.rows } ∷ [] } → new ≡ record mid { values = mid.values ++ record { property = InputLineality; value = matrix b.cols b.rows } ∷ [] } → IsSound v new
  points_sound a b old mid new kind same_a same_b empty first second =
      sound_pair v Points InputLineality (matrix a.cols a.rows) (matrix b.cols b.rows) new (two_put v Points InputLineality (matrix a.cols a.rows) (matrix b.cols b.rows) old mid empty first new (ap (λ z. z.targets) kind) second)
      (subst (λ z. AreRightHalves v Points InputLineality (matrix z.cols z.rows) (matrix b.cols b.rows)) (sym same_a) (subst (λ z. AreRightHalves v Points InputLineality (matrix (cols_over m rays) rays) (matrix z.cols z.rows)) (sym same_b) points_answer))

  -- the rows are repeated
  pub points_repeated : (a b : FractionMatrix) (old mid new : DraftSeen) → a ≡ as_put m rays → b ≡ as_put k lines → old ≡ record { kind = v.kind; values = [] }
      → mid ≡ record old { values = old.values ++ record { property = Points; value = matrix a.cols a.rows } ∷ [] } → new ≡ record mid { values = mid.values ++ record { property = InputLineality; value = matrix b.cols b.rows } ∷ [] }
      → RepeatsRows v Vertices Points new × RepeatsRows v LinealitySpace InputLineality new
  points_repeated a b old mid new same_a same_b empty first second =
      let values = both_put Points InputLineality (matrix a.cols a.rows) (matrix b.cols b.rows) old mid new (ap (λ (d : DraftSeen). d.values) empty) first second in (
        record { cols = m; rows = rays; reads = h.first_read; put = ap (drafted Points) values ∙ ap (λ (z : FractionMatrix). Some (matrix z.cols z.rows)) same_a },
        record { cols = k; rows = lines; reads = h.second_read; put = ap (drafted InputLineality) values ∙ ap (λ (z : FractionMatrix). Some (matrix z.cols z.rows)) same_b },
      )

-- ---- INEQUALITIES and EQUATIONS
module _ (v : ViewSeen) (m k : ℕ) (facets hull : List (List Ratio)) (h : ReadsTwo v Facets AffineHull m k facets hull) (free : LacksPair v Inequalities Equations) where
  inequalities_answer : AreRightHalves v Inequalities Equations (matrix (cols_over m facets) facets) (matrix (cols_over k hull) hull)
  inequalities_answer = record {
    halves = refl;
    no_first = free.no_first;
    no_second = free.no_second;
    first_formed = (inequalities_forms v.of v.cols m facets h.first_forms, put_states m facets);
    second_formed = (equations_forms v.of v.cols k hull h.second_forms, put_states k hull);
    right = λ t o of cols right.
        let (s, rf) = read_right Facets v.facts (matrix m facets) t o h.first_read right in
        let (r, rh) = read_right AffineHull v.facts (matrix k hull) t o h.second_read right in
        facets_cut_out t o right.thing right.orders (λ e. free.no_fan (sym of ∙ e)) m k facets hull (objective_of t s) (objective_of t r) rf rh;
  }

  pub inequalities_sound : (a b : FractionMatrix) (old mid new : DraftSeen) → v.kind ≡ standard_kind client.InequalitiesFromFacets → a ≡ as_put m facets → b ≡ as_put k hull → old ≡ record { kind = v.kind; values = [] }
      → mid ≡ record old { values = old.values ++ record { property = Inequalities; value = matrix a.cols a.rows } ∷ [] } → new ≡ record mid { values = mid.values ++ record { property = Equations; value = matrix b.cols b.rows } ∷ [] } → IsSound v new
  inequalities_sound a b old mid new kind same_a same_b empty first second =
      sound_pair v Inequalities Equations (matrix a.cols a.rows) (matrix b.cols b.rows) new (two_put v Inequalities Equations (matrix a.cols a.rows) (matrix b.cols b.rows) old mid empty first new (ap (λ z. z.targets) kind) second)
      (subst (λ z. AreRightHalves v Inequalities Equations (matrix z.cols z.rows) (matrix b.cols b.rows)) (sym same_a) (subst (λ z. AreRightHalves v Inequalities Equations (matrix (cols_over m facets) facets) (matrix z.cols z.rows)) (sym same_b) inequalities_answer))

  -- the rows are repeated
  pub inequalities_repeated : (a b : FractionMatrix) (old mid new : DraftSeen) → a ≡ as_put m facets → b ≡ as_put k hull → old ≡ record { kind = v.kind; values = [] }
      → mid ≡ record old { values = old.values ++ record { property = Inequalities; value = matrix a.cols a.rows } ∷ [] } → new ≡ record mid { values = mid.values ++ record { property = Equations; value = matrix b.cols b.rows } ∷ [] }
      → RepeatsRows v Facets Inequalities new × RepeatsRows v AffineHull Equations new
  inequalities_repeated a b old mid new same_a same_b empty first second =
      let values = both_put Inequalities Equations (matrix a.cols a.rows) (matrix b.cols b.rows) old mid new (ap (λ (d : DraftSeen). d.values) empty) first second in (
        record { cols = m; rows = facets; reads = h.first_read; put = ap (drafted Inequalities) values ∙ ap (λ (z : FractionMatrix). Some (matrix z.cols z.rows)) same_a },
        record { cols = k; rows = hull; reads = h.second_read; put = ap (drafted Equations) values ∙ ap (λ (z : FractionMatrix). Some (matrix z.cols z.rows)) same_b },
      )
