-- Which thinnings of a view's rows are lost by wide numbers, and which rows from its sets; and how the wide clients fail.
use Rattle.pm_vector.proofs.Lists.{among_Contains}
use Rattle.pm_vector.specs.Rows.{Row}
use Rattle.pm_client.proofs.Lost.{one_stays, whatever_evidence}
use Rattle.pm_client.proofs.NoRows.{none_primitive}
use Rattle.pm_client.proofs.PrimitiveWholes.{by_one, one_whole, two_whole}
use Rattle.pm_client.proofs.ReadRows.{same_rows}
use Rattle.pm_client.specs.Sound.{ReadsMatrix, added_rows, are_parts, sets_of_rows}
use Rattle.pm_clients_geom.specs.LostThinnedExamples.{LostThinnedAreRead, one_facet, one_ray, with_inequalities, with_points, with_sets, with_values}
use Rattle.pm_clients_geom.specs.Thinned.{ReadsLostRows, ReadsLostSets}
use Rattle.pm_elim.proofs.LostExamples.{lost_eliminations_are_read}
use Rattle.pm_elim.specs.Lost.{IsLostOnExtended}
use Rattle.pm_elim.specs.LostExamples.{odd_next, odd_row, one_entry, two_rows}
use Rattle.pm_incidence.proofs.LostExamples.{lost_thinning_is_read}
use Rattle.pm_incidence.specs.Lost.{SetsAreLost, ThinningIsLost}
use Rattle.pm_incidence.specs.LostExamples.{first_unit}
use Rattle.pm_object.specs.Reading.{fact_of}
use Rattle.pm_object_type.specs.declared.object_type.ObjectType.TheVariants.{Cone}
use Rattle.pm_props.specs.declared.property.PropId.{PropId}
use Rattle.pm_props.specs.declared.property.PropId.TheVariants.{AffineHull, Equations, Facets, Inequalities, InputLineality, LinealitySpace, Points, Vertices, VerticesInFacets}
use Rattle.pm_types.specs.Values.{Fact, IndexSets, sets}
use Rattle.pm_types.specs.Views.{ratios}
use Rattle.std.proofs.Common.{ap, arith, inl, inr, refl, sym, ◌∙◌}
use Rattle.std.proofs.lemmas.List.{length-append}
use Rattle.std.specs.Prelude.{IsTrue, List, Some, [], length, map, ℕ, ◌+◌, ◌++◌, ◌∷◌, ◌≡◌}

-- ---- rows that are thinned
-- one line, and no row to be reduced
few_stay : (n : ℕ) (L G A : List Row) → length L ≡ 1 → length G ≡ 0 → ThinningIsLost n G L A → ⊥
few_stay n L [] A e f (inl h) = one_stays n (L ++ []) (simp length-append (omega arith)) h
few_stay n L [] A e f (inr h) = elim (among_Contains [] h.lost.listed) [ ]
few_stay n L (g ∷ G) A e f h = absurd (omega arith)

-- of a cone with three columns
module _ (facts : List Fact) (first second third : PropId) (reads_first : ReadsMatrix (with_values 3 facts) first 3 (map ratios (odd_row ∷ []))) (none : added_rows Cone 3 second ≡ []) where
  reduction_lost : ReadsMatrix (with_values 3 facts) second 3 (map ratios (odd_next ∷ [])) → ReadsMatrix (with_values 3 facts) third 3 (map ratios (first_unit ∷ [])) → ReadsLostRows (with_values 3 facts) first second third
  reduction_lost reads_second reads_third = record {
    lines = odd_row ∷ [];
    rows = odd_next ∷ [];
    others = first_unit ∷ [];
    read = record {
      first_cols = 3;
      second_cols = 3;
      first_rows = map ratios (odd_row ∷ []);
      second_rows = map ratios (odd_next ∷ []);
      reads_first = reads_first;
      reads_second = reads_second;
      ys = odd_next ∷ [];
      first_primitive = one_whole odd_row (by_one odd_row 1 refl);
      second_primitive = one_whole odd_next (by_one odd_next 0 refl);
      added = rw none refl;
    };
    reads_others = record { cols = 3; rows = map ratios (first_unit ∷ []); reads = reads_third; primitive = one_whole first_unit (by_one first_unit 0 refl) };
    lost = lost_thinning_is_read.by_reduction;
  }

  no_rows_stay : ReadsMatrix (with_values 3 facts) second 3 [] → ReadsLostRows (with_values 3 facts) first second third → ⊥
  no_rows_stay reads_second h =
      let r = h.read in
      let one : r.first_rows ≡ ratios odd_row ∷ [] = sym (same_rows 3 r.first_cols (ratios odd_row ∷ []) r.first_rows (sym reads_first ∙ r.reads_first)) in
      let no : r.second_rows ≡ [] = sym (same_rows 3 r.second_cols [] r.second_rows (sym reads_second ∙ r.reads_second)) in
      let lines : length h.lines ≡ 1 = r.first_primitive.count ∙ ap length one in
      let rows : length r.ys ≡ 0 = r.second_primitive.count ∙ ap length no in
      let added : h.rows ≡ r.ys ++ [] = rw none at r.added in
      few_stay 3 h.lines h.rows h.others lines (ap length added ∙ (simp length-append (omega arith))) h.lost

-- ---- rows from sets
module _ (first second : PropId) (s : IndexSets) (parts : IsTrue (are_parts first second)) where
  two_lost : ReadsMatrix (with_sets 2 first second two_rows s) first 2 [] → ReadsMatrix (with_sets 2 first second two_rows s) second 2 (map ratios two_rows)
      → fact_of VerticesInFacets (with_sets 2 first second two_rows s).facts ≡ Some (sets s.rows s.cols) → ReadsLostSets (with_sets 2 first second two_rows s) first second
  two_lost reads_first reads_second reads_sets = record {
    equations = [];
    inequalities = two_rows;
    in_sets = sets_of_rows second s;
    read = record {
      parts = parts;
      equations = record { cols = 2; rows = []; reads = reads_first; primitive = none_primitive };
      inequalities = record { cols = 2; rows = map ratios two_rows; reads = reads_second; primitive = two_whole _ _ (by_one _ 1 refl) (by_one _ 0 refl) };
      index = s;
      reads = reads_sets;
      turned = refl;
    };
    lost = inl lost_eliminations_are_read.extended;
  }

-- the extended list of rows of one entry has one row
extended_stays : (X : List Row) → IsLostOnExtended 1 X → ⊥
extended_stays X h = one_stays (length X + 1) h.listed h.extended.as_many h.lost

one_column : (E A : List Row) (in_sets : List (List ℕ)) → SetsAreLost 1 E A in_sets → ⊥
one_column E A in_sets (inl h) = extended_stays (E ++ A) h
one_column E A in_sets (inr h) = extended_stays h.rows h.lost

-- ---- what the views read
points_lost : ReadsLostRows (with_points odd_row (odd_next ∷ [])) InputLineality Points Facets
points_lost = reduction_lost (with_points odd_row (odd_next ∷ [])).facts InputLineality Points Facets refl refl refl refl

inequalities_lost : ReadsLostRows (with_inequalities odd_row (odd_next ∷ [])) Equations Inequalities Vertices
inequalities_lost = reduction_lost (with_inequalities odd_row (odd_next ∷ [])).facts Equations Inequalities Vertices refl refl refl refl

not_points : ReadsLostRows (with_points odd_row []) InputLineality Points Facets → ⊥
not_points h = no_rows_stay (with_points odd_row []).facts InputLineality Points Facets refl refl refl h

not_inequalities : ReadsLostRows (with_inequalities odd_row []) Equations Inequalities Vertices → ⊥
not_inequalities h = no_rows_stay (with_inequalities odd_row []).facts Equations Inequalities Vertices refl refl refl h

rays_lost : ReadsLostSets (with_sets 2 AffineHull Facets two_rows one_ray) AffineHull Facets
rays_lost = two_lost AffineHull Facets one_ray refl refl refl refl

facets_lost : ReadsLostSets (with_sets 2 LinealitySpace Vertices two_rows one_facet) LinealitySpace Vertices
facets_lost = two_lost LinealitySpace Vertices one_facet refl refl refl refl

not_rays : ReadsLostSets (with_sets 1 AffineHull Facets one_entry one_ray) AffineHull Facets → ⊥
not_rays h = one_column h.equations h.inequalities h.in_sets h.lost

not_facets : ReadsLostSets (with_sets 1 LinealitySpace Vertices one_entry one_facet) LinealitySpace Vertices → ⊥
not_facets h = one_column h.equations h.inequalities h.in_sets h.lost

pub lost_thinned_are_read : LostThinnedAreRead
lost_thinned_are_read = record {
  points = points_lost;
  inequalities = inequalities_lost;
  not_points = not_points;
  not_inequalities = not_inequalities;
  rays = rays_lost;
  not_rays = not_rays;
  facets = facets_lost;
  not_facets = not_facets;
  points_fail = λ e right. (right, points_lost);
  not_points_fail = λ e h. not_points h.1;
  inequalities_fail = λ e right. (right, whatever_evidence e (ReadsLostRows (with_inequalities odd_row (odd_next ∷ [])) Equations Inequalities Vertices) inequalities_lost);
  not_inequalities_fail = λ x y h. not_inequalities h.1;
  rays_fail = λ e right. (right, rays_lost);
  not_rays_fail = λ e h. not_rays h.1;
  facets_fail = λ e right. (right, facets_lost);
  not_facets_fail = λ e h. not_facets h.1;
  many_fail = λ places right. (right, tt);
  standard_fails = λ e right. right;
}
