-- What the facet rows of a polytope with 0 in its interior describe, taken as points.
use Rattle.pm_vector.proofs.ConeLaws.{dot_in, in_cone_set, none_from_zero, none_to_zero}
use Rattle.pm_vector.proofs.Lists.{Among, among_All, here, there}
use Rattle.pm_vector.proofs.RowLaws.{dot_comm, entry-plus, entry-times}
use Rattle.pm_vector.proofs.Signs.{mul_pos, pos_cancel}
use Rattle.pm_vector.specs.Cones.{InCone}
use Rattle.pm_vector.specs.Numbers.{Ratio}
use Rattle.pm_vector.specs.Rows.{HasCols, IsZero, Row, dot, entry, times}
use Rattle.pm_laws_things.proofs.Assembled.{points_described, polytope_thing, settled_cols, settled_some}
use Rattle.pm_build.proofs.PaddedRows.{nothing, nothing_at, nothing_dot}
use Rattle.pm_laws_things.proofs.Points.{closing, generated_by_points}
use Rattle.pm_build.proofs.Refused.{conditions}
use Rattle.pm_laws_things.proofs.ReadRights.{RightRows, read_rows, read_value, right_facets, true_value}
use Rattle.pm_build.proofs.RowLaws.{cols_some}
use Rattle.pm_laws_things.specs.Built.{InPolar}
use Rattle.pm_build.specs.Conditions.{polar_reads}
use Rattle.pm_object.specs.Known.{cols_at, is_true, rows_at}
use Rattle.pm_types.specs.Parts.{cols_over}
use Rattle.pm_laws_things.specs.BuildingLaws.{PolarIsDescribed}
use Rattle.pm_geom.proofs.Dimension.{rank_is_left, some_basis}
use Rattle.pm_geom.proofs.Facets.{facet_rows_cut_out as some_facets, vanishes_line}
use Rattle.pm_geom.proofs.Polar.{cut_at}
use Rattle.pm_geom.specs.Cones.{IsExtreme, IsOrder, IsValid, SameModulo, Vanishes}
use Rattle.pm_geom.specs.Things.{AreConeOrders, IsPolytopeThing}
use Rattle.pm_props.specs.declared.property.PropId.TheVariants.{Bounded, Centered, Facets, FullDim, Points}
use Rattle.pm_object_type.specs.declared.object_type.ObjectType.TheVariants.{Polytope}
use Rattle.pm_object.specs.State.{read_at, value_of, is_polytope}
use Rattle.pm_types.specs.Forms.{is_row}
use Rattle.pm_types.specs.Values.{truth}
use Rattle.std.specs.List.{list_all}
use Rattle.pm_relations.proofs.Twins.{facet_rows_cut_out, in_order_to, valid_from_facets}
use Rattle.pm_types.specs.Right.{InOrder, InSet, IsBasis, IsCentered, IsConeDim, StandFor}
use Rattle.pm_types.specs.Things.{AreOrdersOf, Thing}
use Rattle.std.proofs.Common.{ap, arith, refl, subst, sym, true, ◌∙◌}
use Rattle.std.proofs.lemmas.Int.{ints}
use Rattle.std.proofs.lemmas.List.{length-replicate}
use Rattle.std.proofs.lemmas.List.Elements.{All-nil}
use Rattle.std.specs.Prelude.{List, None, [], length, zero, ◌-◌, ◌<◌, ◌≤◌, ◌↔◌, ◌∷◌, ◌≡◌}
use lib.IntN.{pos, ◌*ℤ◌, ◌+ℤ◌}
use lib.Signed.{◌<ℤ◌, ◌≤ℤ◌}

-- ---- full dimension
-- no row but 0 vanishes on a polytope of full dimension
module _ (t : Thing) (hg : HasCols t.cols t.generators) (hl : HasCols t.cols t.lines) (full : IsConeDim t t.cols) where
  no_vanishing : (a : Row) → Vanishes t.cols t.generators t.lines a → IsZero a
  no_vanishing a v =
      let w = some_facets t.cols t.generators t.lines hg hl in
      let E = w.1 in
      let he = w.2 in
      let spans = w.4 in
      let b = some_basis t.cols E he in
      let null : (x : Row) → length x ≡ t.cols → Vanishes t.cols t.generators t.lines x ↔ InCone [] b.rows x = λ x lx. (λ h. (b.span.same x).1 ((spans x lx).0 h), λ h. (spans x lx).1 ((b.span.same x).0 h)) in
      let count = (rank_is_left t.cols t.generators t.lines hg hl b.rows b.cols b.independent null t.cols).0 full in
      none_to_zero a (subst (λ (R : List Row). InCone [] R a) (no_row b.rows (omega arith)) ((null a v.cols).0 v))
    where
      no_row : (R : List Row) → length R ≡ 0 → R ≡ []
      no_row [] e = refl
      no_row (r ∷ R) e = absurd (omega arith)

  no_hull : IsBasis t.cols (Vanishes t.cols t.generators t.lines) []
  no_hull = record {
    cols = tt;
    inside = All-nil (Vanishes t.cols t.generators t.lines);
    independent = λ c z i l. absurd (omega arith);
    spans = λ x lx v. none_from_zero x (no_vanishing x v);
  }

-- ---- the facet rows
module _ (t : Thing) (polytope : IsPolytopeThing t.cols t.generators t.lines) (some : 1 ≤ t.cols) (full : IsConeDim t t.cols) (centered : IsCentered t)
    (F xs : List Row) (cols : HasCols t.cols xs) (order : IsOrder t.cols (IsValid t.cols t.generators t.lines) F) (alike : InOrder (SameModulo t.cols (IsValid t.cols t.generators t.lines)) F xs) where
  hg : HasCols t.cols t.generators
  hg = polytope.cone.generators

  hl : HasCols t.cols t.lines
  hl = polytope.cone.lines

  -- a facet row is positive at 0, and so is what is alike to it
  positive : (v x : Row) → SameModulo t.cols (IsValid t.cols t.generators t.lines) v x → IsExtreme t.cols (IsValid t.cols t.generators t.lines) v → pos 0 <ℤ entry x 0
  positive v x s e =
      let up : pos 0 <ℤ entry v 0 = centered.positive v e.inside (λ w. e.not_line ((vanishes_line t.cols t.generators t.lines hg hl v e.cols).0 w).opposed) in
      let w0 : entry s.w 0 ≡ pos 0 = no_vanishing t hg hl full s.w ((vanishes_line t.cols t.generators t.lines hg hl s.w s.cols).1 s.line) 0 in
      let q : s.p *ℤ entry x 0 ≡ s.k *ℤ entry v 0 +ℤ entry s.w 0 = sym (entry-times s.p x 0) ∙ s.same.at 0 ∙ entry-plus (times s.k v) s.w 0 ∙ ap (λ z. z +ℤ entry s.w 0) (entry-times s.k v 0) in
      let m = mul_pos s.k_positive up in
      pos_cancel s.p_positive (omega (arith, ints))

  positive_rows : (x : Row) → Among x xs → pos 0 <ℤ entry x 0
  positive_rows = in_order_to (SameModulo t.cols (IsValid t.cols t.generators t.lines)) (IsExtreme t.cols (IsValid t.cols t.generators t.lines)) (λ x. pos 0 <ℤ entry x 0) positive F xs alike (λ v i. among_All (λ u. IsExtreme t.cols (IsValid t.cols t.generators t.lines) u) i order.each)

  valid_in : (a : Row) → IsValid t.cols t.generators t.lines a → InCone xs [] a
  valid_in a v = valid_from_facets t.cols t.generators t.lines F xs cols order alike hg hl [] (no_hull t hg hl full) a v

  below : (a : Row) → InCone xs [] a → (x : Row) → length x ≡ t.cols → InSet t x → pos 0 ≤ℤ dot a x
  below a h x lx g =
      let s = (facet_rows_cut_out t.cols t.generators t.lines F xs cols order alike hg hl [] (no_hull t hg hl full) x lx).0 g in
      subst (λ z. pos 0 ≤ℤ z) (dot_comm x a) (dot_in x xs [] (λ b i. subst (λ z. pos 0 ≤ℤ z) (dot_comm b x) (cut_at x i s.inequalities)) (λ l i. elim i [ ]) h)

  -- the point 0
  abbrev origin : Row
  origin = pos 1 ∷ nothing (t.cols - 1)

  origin_cols : length origin ≡ t.cols
  origin_cols = let e = length-replicate (t.cols - 1) (pos 0) in omega arith

  origin_in : InSet t origin
  origin_in = centered.inside origin origin_cols refl (λ i. nothing_at (t.cols - 1) i)

  polar_in : (y : Row) → length y ≡ t.cols → InPolar t y → InCone xs [] y
  polar_in y ly h =
      valid_in y (record { cols = ly; holds = λ x lx g. closing t.cols (InSet t) y (in_cone_set t.generators t.lines) origin origin_cols origin_in (omega (arith, ints)) (λ z lz k up. h z lz up k) x lx g (polytope.first x lx g) })

  -- there are facet rows, since 1 >= 0 is valid
  some_rows : xs ≡ [] → ⊥
  some_rows e =
      let v : IsValid t.cols t.generators t.lines origin = record { cols = origin_cols; holds = λ x lx g. subst (λ z. pos 0 ≤ℤ z) (sym (origin_dot x)) (polytope.first x lx g) } in
      let z = none_to_zero origin (subst (λ (R : List Row). InCone R [] origin) e (valid_in origin v)) zero in
      one_not_zero z
    where
      origin_dot : (x : Row) → dot origin x ≡ entry x 0
      origin_dot [] = refl
      origin_dot (b ∷ x) = let q = nothing_dot (t.cols - 1) x in omega (arith, ints)

      one_not_zero : pos 1 ≡ pos 0 → ⊥
      one_not_zero q = omega (arith, ints)

stand_some : (rows : List (List Ratio)) (X : List Row) → StandFor rows X → ¬ (X ≡ []) → 0 < length rows
stand_some [] [] h n = absurd (n refl)
stand_some [] (x ∷ X) h n = absurd h
stand_some (r ∷ rows) X h n = omega arith

pub polar_described : PolarIsDescribed
polar_described a t o u r fits h p thing orders =
    points_described u p thing orders (cols_over (cols_at a) rows) rows xs facets.right.stand colsU
    (record { same = generated_by_points u.cols u.generators u.lines (polytope_thing u thing h.of).cone.generators (polytope_thing u thing h.of).cone.lines (polytope_thing u thing h.of) xs colsU (positive_rows t polytope some full centered o.facets xs cols order alike) points })
    (ap settled_cols (cols_some (cols_at a) rows (stand_some rows xs facets.right.stand (some_rows t polytope some full centered o.facets xs cols order alike))) ∙ settled_some (cols_at a) (let e = r.cols in let l = r.thing.some_cols in omega arith) ∙ sym r.cols ∙ sym h.cols)
  where
    rows : List (List Ratio)
    rows = rows_at Facets a

    facets : RightRows Facets a t o
    facets = read_rows polar_reads Facets a t o (there (there (there here))) r (right_facets t o)

    parts : (is_polytope a.of ≡ true) × (is_true FullDim a ≡ true) × (is_true Centered a ≡ true) × (list_all (is_row Polytope Points) (rows_at Facets a) ≡ true)
    parts = conditions (is_polytope a.of) (is_true Bounded a) (is_true FullDim a) (is_true Centered a) (list_all (is_row Polytope Points) (rows_at Facets a)) fits

    full : IsConeDim t t.cols
    full = (read_value polar_reads FullDim a t o (there here) r (truth true) (true_value (value_of FullDim (read_at None a.held)) parts.1)).0 refl

    centered : IsCentered t
    centered = (read_value polar_reads Centered a t o (there (there here)) r (truth true) (true_value (value_of Centered (read_at None a.held)) parts.2)).0 refl

    polytope : IsPolytopeThing t.cols t.generators t.lines
    polytope = polytope_thing t r.thing r.of

    some : 1 ≤ t.cols
    some = r.thing.some_cols

    xs : List Row
    xs = facets.right.xs

    cols : HasCols t.cols xs
    cols = facets.right.cols

    colsU : HasCols u.cols xs
    colsU = subst (λ n. HasCols n xs) (sym h.cols) cols

    cone_orders : AreConeOrders t.cols t.generators t.lines o
    cone_orders = subst (λ k. AreOrdersOf k t.cols t.generators t.lines t.cones o) r.of r.orders

    order : IsOrder t.cols (IsValid t.cols t.generators t.lines) o.facets
    order = cone_orders.facets

    alike : InOrder (SameModulo t.cols (IsValid t.cols t.generators t.lines)) o.facets xs
    alike = facets.right.order

    points : (y : Row) → length y ≡ u.cols → pos 0 <ℤ entry y 0 → InSet u y ↔ InCone xs [] y
    points y ly up = (
      λ g. polar_in t polytope some full centered o.facets xs cols order alike y (ly ∙ h.cols) ((h.points y (ly ∙ h.cols) up).0 g),
      λ k. (h.points y (ly ∙ h.cols) up).1 (λ x lx ux g. below t polytope some full centered o.facets xs cols order alike y k x lx g),
    )
