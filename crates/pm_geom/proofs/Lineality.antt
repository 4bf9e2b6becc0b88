-- Any order of the facet rows will do, with any rows that span those that vanish: they cut out the cone, and the rows with product 0 with each of them are its lineality.
use Rattle.pm_vector.proofs.ConeLaws.{dot_in, in_line}
use Rattle.pm_vector.proofs.Lists.{All_among, Among, all_at, all_from, among_All, among_append, among_append_left, among_append_right}
use Rattle.pm_vector.proofs.RowLaws.{dot_comm, length-opposite}
use Rattle.pm_vector.specs.Cones.{InCone, InSpan}
use Rattle.pm_vector.specs.Rows.{HasCols, Row, dot, opposite}
use Rattle.pm_vector.proofs.Spans.{same_span_sym}
use Rattle.pm_vector.proofs.DotLaws.{null_of_span}
use Rattle.pm_vector.specs.NullSpaces.{IsNull}
use Rattle.pm_geom.proofs.Facets.{Duals, dot-opposite, duals, order_as, order_generates, vanishes_line}
use Rattle.pm_geom.proofs.Polar.{bipolar, cols_at, cut_at, cut_from}
use Rattle.pm_geom.specs.Cones.{CutOut, InLineality, IsExtreme, IsOrder, IsValid, Vanishes}
use Rattle.pm_geom.specs.Laws.{FacetOrderCutsOut, LinealityIsNull}
use Rattle.std.proofs.Common.{arith, inl, inr, ◌∙◌}
use Rattle.std.proofs.lemmas.Int.{ints}
use Rattle.std.specs.List.{All}
use Rattle.std.specs.Prelude.{List, [], length, ℕ, ◌++◌, ◌↔◌, ◌≡◌}
use lib.IntN.{pos}

module _ (n : ℕ) (G L : List Row) (hg : HasCols n G) (hl : HasCols n L) (F E : List Row) (he : HasCols n E) (o : IsOrder n (IsValid n G L) F) (vanish : (a : Row) → length a ≡ n → Vanishes n G L a ↔ InSpan E a) where
  pub valid_generated : (a : Row) → length a ≡ n → IsValid n G L a ↔ InCone F E a
  unfolding Duals
  valid_generated a la =
      let (D, hd, eq) = duals n G L hg hl in
      let oD = order_as n (IsValid n G L) (InCone D []) (λ a la. (eq a la).1) (λ a la. (eq a la).0) o in
      let line : (a : Row) → length a ≡ n → InLineality (InCone D []) a ↔ InCone [] E a = λ a la. (
        λ s. (vanish a la).0 ((vanishes_line n G L hg hl a la).1 (record { inside = (eq a la).0 s.inside; opposed = (eq (opposite a) (length-opposite a ∙ la)).0 s.opposed })),
        λ k. let s = (vanishes_line n G L hg hl a la).0 ((vanish a la).1 k) in record { inside = (eq a la).1 s.inside; opposed = (eq (opposite a) (length-opposite a ∙ la)).1 s.opposed },
      ) in
      let gen = order_generates n D [] hd tt F E he oD line a la in
      (λ v. gen.0 ((eq a la).1 v), λ h. (eq a la).0 (gen.1 h))

  facet_valid : (b : Row) → Among b F → IsValid n G L b
  facet_valid b i = (among_All (λ a. IsExtreme n (IsValid n G L) a) i o.each).inside

  hull_vanishes : (e : Row) → Among e E → Vanishes n G L e
  hull_vanishes e i = (vanish e (cols_at i he)).1 (in_line i)

  cut_to : (x : Row) → length x ≡ n → InCone G L x → CutOut F x × All (λ e. dot e x ≡ pos 0) E
  cut_to x lx h = (cut_from F x (λ b i. (facet_valid b i).holds x lx h), All_among (λ e. dot e x ≡ pos 0) E (λ e i. (hull_vanishes e i).holds x lx h))

  cut_back : (x : Row) → length x ≡ n → CutOut F x → ((e : Row) → Among e E → dot e x ≡ pos 0) → InCone G L x
  cut_back x lx c z = bipolar n G L hg hl x lx (λ a v. rw dot_comm (dot_in x F E (λ b i. rw dot_comm (cut_at x i c)) (λ e i. dot_comm x e ∙ z e i) ((valid_generated a v.cols).0 v)))

  -- a row of the lineality has product 0 with each valid row
  line_null : (x : Row) → length x ≡ n → InLineality (InCone G L) x → (a : Row) → IsValid n G L a → dot a x ≡ pos 0
  line_null x lx s a v =
      let p = v.holds x lx s.inside in
      let q = rw dot-opposite at (v.holds (opposite x) (length-opposite x ∙ lx) s.opposed) in
      omega (arith, ints)

  null_to : (x : Row) → length x ≡ n → InLineality (InCone G L) x → IsNull (F ++ E) x
  null_to x lx s = all_from (λ (r : Row). dot r x ≡ pos 0) (F ++ E) (λ r i. elim (among_append F E i) [
    | inl j ↦ line_null x lx s r (facet_valid r j)
    | inr j ↦ (hull_vanishes r j).holds x lx s.inside
  ])

  opposite_zero : (r x : Row) → dot r x ≡ pos 0 → dot r (opposite x) ≡ pos 0
  opposite_zero r x z = dot-opposite r x ∙ omega (arith, ints)

  null_back : (x : Row) → length x ≡ n → IsNull (F ++ E) x → InLineality (InCone G L) x
  null_back x lx h = record {
    inside = cut_back x lx (cut_from F x (λ b i. let z = at_facet b i in omega (arith, ints))) at_hull;
    opposed = cut_back (opposite x) (length-opposite x ∙ lx) (cut_from F (opposite x) (λ b i. let z = opposite_zero b x (at_facet b i) in omega (arith, ints))) (λ e i. opposite_zero e x (at_hull e i));
  }
    where
      at_facet : (b : Row) → Among b F → dot b x ≡ pos 0
      at_facet b i = all_at (λ (r : Row). dot r x ≡ pos 0) (among_append_left E i) h

      at_hull : (e : Row) → Among e E → dot e x ≡ pos 0
      at_hull e i = all_at (λ (r : Row). dot r x ≡ pos 0) (among_append_right F i) h

pub facet_order_cuts_out : FacetOrderCutsOut
facet_order_cuts_out n G L hg hl F E he o vanish = (
  valid_generated n G L hg hl F E he o vanish,
  λ x lx. (
    cut_to n G L hg hl F E he o vanish x lx,
    λ c. cut_back n G L hg hl F E he o vanish x lx c.0 (λ e i. among_All (λ e. dot e x ≡ pos 0) i c.1),
  ),
)

pub lineality_is_null : LinealityIsNull
lineality_is_null n G L hg hl F E he o vanish X s x lx = (
  λ h. null_of_span (F ++ E) X x s (null_to n G L hg hl F E he o vanish x lx h),
  λ z. null_back n G L hg hl F E he o vanish x lx (null_of_span X (F ++ E) x (same_span_sym s) z),
)
