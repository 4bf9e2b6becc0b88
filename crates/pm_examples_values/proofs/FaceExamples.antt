-- The faces of the empty polytope, a line and a segment, and the numbers of faces in whatever orders.
use Rattle.pm_vector.specs.Numbers.{Ratio}
use Rattle.pm_vector.specs.Rows.{Row}
use Rattle.pm_geom.proofs.SmallCounts.{diagrams_are_read}
use Rattle.pm_geom.proofs.SmallThings.{empty_is_read}
use Rattle.pm_geom.specs.Cones.{IsOrder}
use Rattle.pm_geom.specs.Examples.{triple}
use Rattle.pm_geom.specs.FaceCounts.{f_of, f2_of}
use Rattle.pm_geom.specs.GraphExamples.{empty_lattice, ray_lattice, segment_lattice}
use Rattle.pm_geom.specs.Things.{Orders}
use Rattle.pm_vector.specs.Cones.{InCone}
use Rattle.pm_relations.proofs.Dimensions.{dimensions_are_determined}
use Rattle.pm_relations.proofs.Orders.{as_many_rays}
use Rattle.pm_examples_values.proofs.DimensionExamples.{whole_is}
use Rattle.pm_examples_values.proofs.OneList.{one_diagram}
use Rattle.pm_examples_values.proofs.RankLists.{ray_diagram, segment_diagram}
use Rattle.pm_examples_values.proofs.RayExamples.{line_are_orders, line_dimensions_are_read}
use Rattle.pm_examples_values.proofs.Segment.{empty_are_orders, empty_dimension, segment_are_orders, segment_cols, segment_dimension, segment_is_thing}
use Rattle.pm_examples_values.specs.Examples.{empty_thing, no_orders}
use Rattle.pm_examples_values.specs.FaceExamples.{EmptyFacesAreRead, HVectorsAreShort, LineFacesAreRead, SegmentCountsAreRead, SegmentFacesAreRead, segment_orders, segment_thing}
use Rattle.pm_examples_values.specs.RayExamples.{from_zero, line_orders, line_thing}
use Rattle.pm_types.specs.Right.{AreFaces, IsCombinatorialDim, IsFVector, IsHVector, IsOfFaces, h_vector_of}
use Rattle.pm_types.specs.Things.{AreOrders, Thing}
use Rattle.pm_types.specs.Values.{whole}
use Rattle.pm_types.specs.Views.{over_one}
use Rattle.std.proofs.Common.{ap, arith, refl, subst, sym, ◌∙◌}
use Rattle.std.proofs.lemmas.Int.{ints}
use Rattle.std.specs.Prelude.{List, [], map, ℕ, ◌∷◌, ◌≡◌}
use lib.IntN.{negsuc, pos, ℤ}

-- ---- numbers of faces, where the faces are the same in all orders
module _ (t : Thing) (ranks : List (List (List ℕ))) (only : (p : Orders) → AreOrders t p → (r : List (List (List ℕ))) → AreFaces t p.rays r → r ≡ ranks) where
  pub number_of : (P : List (List (List ℕ)) → Type 0) → IsOfFaces t P → P ranks
  number_of P h = subst P (only h.orders h.are_orders h.ranks h.faces) h.number

  pub h_vector_is : (d : ℤ) → IsCombinatorialDim t d → (h : List ℤ) → IsHVector t h → h ≡ h_vector_of (map pos (f_of ranks)) d
  h_vector_is d dim h w =
      let e = number_of (λ r. w.f ≡ map pos (f_of r)) w.faces in
      let q : w.d ≡ d = whole_is ((dimensions_are_determined t).2 (whole w.d) (whole d) no_orders no_orders [] [] w.dim dim) in
      w.numbers ∙ ap (λ f. h_vector_of f w.d) e ∙ ap (h_vector_of (map pos (f_of ranks))) q

-- ---- the empty polytope
pub no_rays : (V : List Row) → IsOrder 2 (InCone [] []) V → V ≡ []
no_rays [] o = refl
no_rays (v ∷ V) o = absurd ((empty_is_read 2).no_ray v (o.each 0 [] (omega arith)))

empty_only : (p : Orders) → AreOrders empty_thing p → (r : List (List (List ℕ))) → AreFaces empty_thing p.rays r → r ≡ empty_lattice
empty_only p o r d =
    one_diagram 2 [] [] [] tt tt empty_are_orders.rays r empty_lattice (subst (λ V. AreFaces empty_thing V r) (no_rays p.rays o.rays) d) (diagrams_are_read.empty 2)

empty_f : IsFVector empty_thing []
empty_f = record { orders = no_orders; are_orders = empty_are_orders; ranks = empty_lattice; faces = diagrams_are_read.empty 2; number = refl }

pub empty_faces_are_read : EmptyFacesAreRead
empty_faces_are_read = record {
  faces = diagrams_are_read.empty 2;
  no_face = diagrams_are_read.not_none 2;
  f_vector = empty_f;
  whole_counted = λ h. let e : pos 1 ∷ [] ≡ [] = number_of empty_thing empty_lattice empty_only (λ r. pos 1 ∷ [] ≡ map pos (f_of r)) h in cc;
  f2_vector = (refl, record { orders = no_orders; are_orders = empty_are_orders; ranks = empty_lattice; faces = diagrams_are_read.empty 2; number = refl });
  pair_counted = λ h. let e : (over_one (pos 1) ∷ []) ∷ [] ≡ [] = number_of empty_thing empty_lattice empty_only (λ r. (over_one (pos 1) ∷ []) ∷ [] ≡ map (map (λ k. over_one (pos k))) (f2_of r)) h.1 in cc;
  h_vector = record { f = []; d = negsuc 0; faces = empty_f; dim = empty_dimension; numbers = refl };
  of_a_point = λ h. let e : pos 1 ∷ [] ≡ [] = h_vector_is empty_thing empty_lattice empty_only (negsuc 0) empty_dimension (pos 1 ∷ []) h in cc;
}

-- ---- the line
line_diagram : (p : Orders) → AreOrders line_thing p → AreFaces line_thing p.rays ray_lattice
line_diagram p o = ray_diagram 3 (triple 1 0 0 ∷ []) (triple 0 1 0 ∷ []) (refl, tt) (refl, tt) p.rays o.rays (sym (as_many_rays line_thing line_orders p line_are_orders o))

line_only : (p : Orders) → AreOrders line_thing p → (r : List (List (List ℕ))) → AreFaces line_thing p.rays r → r ≡ ray_lattice
line_only p o r d = one_diagram 3 (triple 1 0 0 ∷ []) (triple 0 1 0 ∷ []) p.rays (refl, tt) (refl, tt) o.rays r ray_lattice d (line_diagram p o)

line_faces : AreFaces line_thing line_orders.rays ray_lattice
line_faces = line_diagram line_orders line_are_orders

line_f : IsFVector line_thing []
line_f = record { orders = line_orders; are_orders = line_are_orders; ranks = ray_lattice; faces = line_faces; number = refl }

pub line_faces_are_read : LineFacesAreRead
line_faces_are_read = record {
  faces = line_faces;
  without_least = λ d. let e = line_only line_orders line_are_orders (((0 ∷ []) ∷ []) ∷ []) d in cc;
  without_whole = λ d. let e = line_only line_orders line_are_orders empty_lattice d in cc;
  turned = λ d. let e = line_only line_orders line_are_orders (((0 ∷ []) ∷ []) ∷ ([] ∷ []) ∷ []) d in cc;
  f_vector = line_f;
  whole_counted = λ h. let e : pos 1 ∷ [] ≡ [] = number_of line_thing ray_lattice line_only (λ r. pos 1 ∷ [] ≡ map pos (f_of r)) h in cc;
  f2_vector = (refl, record { orders = line_orders; are_orders = line_are_orders; ranks = ray_lattice; faces = line_faces; number = refl });
  h_vector = record { f = []; d = pos 0; faces = line_f; dim = line_dimensions_are_read.combinatorial_dim; numbers = refl };
  no_h_vector = λ h. let e : [] ≡ pos 1 ∷ [] = h_vector_is line_thing ray_lattice line_only (pos 0) line_dimensions_are_read.combinatorial_dim [] h in cc;
}

-- ---- the segment
two_ends : (p : Orders) → AreOrders segment_thing p → AreFaces segment_thing p.rays segment_lattice
two_ends p o = segment_diagram 2 from_zero [] segment_cols tt p.rays o.rays (sym (as_many_rays segment_thing segment_orders p segment_are_orders o))

ends_only : (p : Orders) → AreOrders segment_thing p → (r : List (List (List ℕ))) → AreFaces segment_thing p.rays r → r ≡ segment_lattice
ends_only p o r d = one_diagram 2 from_zero [] p.rays segment_cols tt o.rays r segment_lattice d (two_ends p o)

ends_at : (r : List (List (List ℕ))) → AreFaces segment_thing from_zero r → r ≡ segment_lattice
ends_at r d = ends_only segment_orders segment_are_orders r d

pub segment_faces_are_read : SegmentFacesAreRead
segment_faces_are_read = record {
  thing = segment_is_thing;
  orders = segment_are_orders;
  faces = two_ends segment_orders segment_are_orders;
  without_least = λ d. let e = ends_at _ d in cc;
  without_whole = λ d. let e = ends_at _ d in cc;
  one_end = λ d. let e = ends_at _ d in cc;
  ends_turned = λ d. let e = ends_at _ d in cc;
  empty_rank = λ d. let e = ends_at _ d in cc;
}

ends_f : IsFVector segment_thing (pos 2 ∷ [])
ends_f = record { orders = segment_orders; are_orders = segment_are_orders; ranks = segment_lattice; faces = two_ends segment_orders segment_are_orders; number = refl }

f_is : (f : List ℤ) → IsFVector segment_thing f → f ≡ pos 2 ∷ []
f_is f h = number_of segment_thing segment_lattice ends_only (λ r. f ≡ map pos (f_of r)) h

h_is : (h : List ℤ) → IsHVector segment_thing h → h ≡ pos 1 ∷ pos 1 ∷ []
h_is h w = h_vector_is segment_thing segment_lattice ends_only (pos 1) segment_dimension h w

abbrev first_number : List (List Ratio) → ℤ
first_number [] = pos 0
first_number ([] ∷ rows) = pos 0
first_number ((r ∷ rs) ∷ rows) = r.num

pub segment_counts_are_read : SegmentCountsAreRead
segment_counts_are_read = record {
  f_vector = ends_f;
  all_counted = λ h. let e = f_is (pos 1 ∷ pos 2 ∷ pos 1 ∷ []) h in cc;
  whole_counted = λ h. let e = f_is (pos 2 ∷ pos 1 ∷ []) h in cc;
  too_many = λ h. let e = f_is (pos 3 ∷ []) h in cc;
  none_counted = λ h. let e = f_is [] h in cc;
  f2_vector = (refl, record { orders = segment_orders; are_orders = segment_are_orders; ranks = segment_lattice; faces = two_ends segment_orders segment_are_orders; number = refl });
  pairs_counted = λ h. let e : pos 4 ≡ pos 2 = ap first_number (number_of segment_thing segment_lattice ends_only (λ r. (over_one (pos 4) ∷ []) ∷ [] ≡ map (map (λ k. over_one (pos k))) (f2_of r)) h.1) in omega (arith, ints);
  wide = λ h. let e : 2 ≡ 1 = h.0 in omega arith;
  no_row = λ h. let e : [] ≡ (over_one (pos 2) ∷ []) ∷ [] = number_of segment_thing segment_lattice ends_only (λ r. [] ≡ map (map (λ k. over_one (pos k))) (f2_of r)) h.1 in cc;
  h_vector = record { f = pos 2 ∷ []; d = pos 1; faces = ends_f; dim = segment_dimension; numbers = refl };
  dimension_less = λ h. let e = h_is (pos 1 ∷ []) h in cc;
  dimension_more = λ h. let e = h_is (pos 1 ∷ pos 0 ∷ negsuc 0 ∷ []) h in cc;
  of_three = λ h. let e = h_is (pos 1 ∷ pos 2 ∷ []) h in cc;
  none = λ h. let e = h_is [] h in cc;
}

-- ---- long numbers
pub h_vectors_are_short : HVectorsAreShort
h_vectors_are_short = record {
  short = refl;
  longest = refl;
  too_long = refl;
  not_cut = λ e. let f : [] ≡ pos 1 ∷ pos 9223372036854775808 ∷ [] = e in cc;
  no_dimension = refl;
}
