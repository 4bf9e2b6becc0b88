-- The laws.
use Rattle.pm_laws_fitting.specs.Answers.{WhatFitsIsAnswered}
use Rattle.pm_laws_fitting.proofs.Views.{cones_fit, extended_fits, lifted_fit, list_fits, memory_alone, out_map, parts_fit, raised_fit, rows_fit, sets_fit}
use Rattle.pm_client.specs.Fails.{IfFailed, IfOutOfRange}
use Rattle.pm_props.specs.declared.property.PropId.TheVariants.{AffineHull, Equations, Facets, Inequalities, InputLineality, LinealitySpace, Points, Vertices}

pub what_fits_is_answered : WhatFitsIsAnswered
what_fits_is_answered = record {
  dd_vertices_wide = λ v fits f h. out_map f _ ⊥ (parts_fit v fits) h.1;
  dd_facets_wide = λ v fits f h. out_map f _ ⊥ (parts_fit v fits) h.1;
  dd_facets_v_wide = λ v fits f h. out_map f _ ⊥ (parts_fit v fits) h.1;
  dd_vertices_f_wide = λ v fits f h. out_map f _ ⊥ (parts_fit v fits) h.1;
  bb_facets_wide = λ v fits f h. out_map f _ ⊥ (parts_fit v fits) h.1;
  bb_facets_v_wide = λ v fits f h. out_map f _ ⊥ (parts_fit v fits) h.1;
  placing_wide = λ v fits f h. out_map f _ ⊥ (parts_fit v fits) h.1;
  thin_points_f_wide = λ v fits f h. memory_alone f _ (rows_fit v InputLineality Points Facets fits) h.1;
  thin_inequalities_v_wide = λ v fits f h. out_map f _ ⊥ (rows_fit v Equations Inequalities Vertices fits) h.1;
  vertices_from_sets_wide = λ v fits f h. memory_alone f _ (sets_fit v AffineHull Facets fits) h.1;
  facets_from_sets_wide = λ v fits f h. memory_alone f _ (sets_fit v LinealitySpace Vertices fits) h.1;
  lineality_from_facets_wide = λ v fits f h. memory_alone f _ (extended_fits v AffineHull Facets fits) h.2;
  hull_from_vertices_wide = λ v fits f h. memory_alone f _ (extended_fits v LinealitySpace Vertices fits) h.2;
  cone_dim_v_wide = λ v fits f h. memory_alone f _ (list_fits v LinealitySpace Vertices fits) h.1;
  cone_dim_points_wide = λ v fits f h. memory_alone f _ (list_fits v InputLineality Points fits) h.1;
  fan_dims_wide = λ v fits f h. memory_alone f _ (cones_fit v fits) h.2;
  regular_cells_wide = λ v fits f h. out_map f _ ⊥ (lifted_fit v fits) h.1;
  delaunay_wide = λ v fits f h. out_map f _ ⊥ (raised_fit v fits) h.1;
}
