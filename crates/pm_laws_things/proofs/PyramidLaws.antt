-- What the vertices and the lineality of a polytope, in one column more, and the apex describe.
use Rattle.pm_vector.proofs.ConeLaws.{dot_in, in_generator, in_line, in_line_opposite, in_line_times, in_plus, in_same, in_times}
use Rattle.pm_vector.proofs.Filters.{among_map, map_among}
use Rattle.pm_vector.proofs.Lists.{Among, all_at, all_from, among_append, among_append_left, among_append_right, here, there}
use Rattle.pm_vector.proofs.Ring.{one_mul, ring}
use Rattle.pm_vector.proofs.RowLaws.{dot-times, dot_comm, length-opposite, length-times, same_sym}
use Rattle.pm_vector.specs.Cones.{InCone}
use Rattle.pm_vector.specs.Numbers.{Ratio}
use Rattle.pm_vector.specs.Rows.{HasCols, Row, Same, Stands, dot, entry, opposite, plus, times}
use Rattle.pm_laws_things.proofs.Assembled.{both_settled, generated_described}
use Rattle.pm_build.proofs.PaddedRows.{dot_padded, nothing, nothing_dot, padded_stand, padded_whole, stand_append}
use Rattle.pm_laws_things.proofs.ReadRights.{RightRows, read_rows, right_lines, right_vertices}
use Rattle.pm_relations.proofs.Standing.{stands_ratios}
use Rattle.pm_laws_things.specs.Built.{InPyramid}
use Rattle.pm_build.specs.Conditions.{pyramid_reads}
use Rattle.pm_object.specs.Known.{cols_at, rows_at}
use Rattle.pm_types.specs.Parts.{cols_over}
use Rattle.pm_laws_things.specs.BuildingLaws.{PyramidIsDescribed}
use Rattle.pm_build.specs.Objects.{padded}
use Rattle.pm_build.specs.Rows.{apex_row}
use Rattle.pm_geom.proofs.Polar.{bipolar}
use Rattle.pm_geom.specs.Cones.{InLineality, IsValid, SameModulo}
use Rattle.pm_geom.specs.Things.{AreConeOrders, IsPolytopeThing}
use Rattle.pm_laws_things.proofs.Assembled.{polytope_thing}
use Rattle.pm_props.specs.declared.property.PropId.TheVariants.{LinealitySpace, Vertices}
use Rattle.pm_relations.proofs.Twins.{rays_generate}
use Rattle.pm_types.specs.Right.{InLines, InLinesOf, InOrder, InSet, IsBasis, SameRayOf}
use Rattle.pm_types.specs.Things.{AreOrdersOf, Thing}
use Rattle.pm_types.specs.Views.{ratios}
use Rattle.std.proofs.Common.{ap, arith, inl, inr, refl, subst, sym, ◌∙◌}
use Rattle.std.proofs.lemmas.Int.{ints}
use Rattle.std.proofs.lemmas.List.{length-append, length-replicate, length-take-le}
use Rattle.std.specs.Prelude.{List, [], length, map, suc, take, zero, ℕ, ◌+◌, ◌++◌, ◌<◌, ◌≤◌, ◌↔◌, ◌∷◌, ◌≡◌}
use lib.IntN.{negsuc, neg_ℤ, pos, ℤ, ◌*ℤ◌, ◌+ℤ◌, ◌-ℤ◌}
use lib.Signed.{◌≤ℤ◌}

-- ---- one column more
both_signs : (k : ℤ) → pos 0 ≤ℤ k → pos 0 ≤ℤ (negsuc 0 *ℤ k) → k ≡ pos 0
both_signs k h g = omega (arith, ints)

padded_cols : (n : ℕ) (x : Row) → length x ≡ n → length (padded_whole 1 x) ≡ suc n
padded_cols n x e = let f = length-append x (nothing 1) in omega arith

-- (x, 0) is in the cone of the rows in one column more where x is in the cone of the rows
module _ (n : ℕ) (P K Q R : List Row) (hp : HasCols n P) (hk : HasCols n K) (hq : HasCols (suc n) Q) (hr : HasCols (suc n) R)
    (points : (g : Row) → Among g P → Among (padded_whole 1 g) Q) (lines : (l : Row) → Among l K → Among (padded_whole 1 l) R) where
  module _ (a : Row) (v : IsValid (suc n) Q R a) where
    sees : (y : Row) → length y ≡ n → dot a (padded_whole 1 y) ≡ dot (take n a) y
    sees y e = dot_comm a (padded_whole 1 y) ∙ dot_padded 1 y a ∙ ap (λ k. dot y (take k a)) e ∙ dot_comm y (take n a)

    on_points : (g : Row) → Among g P → pos 0 ≤ℤ dot (take n a) g
    on_points g i = let e = all_at (λ (y : Row). length y ≡ n) i hp in subst (λ z. pos 0 ≤ℤ z) (sees g e) (v.holds (padded_whole 1 g) (padded_cols n g e) (in_generator (points g i)))

    along : (k : ℤ) (l : Row) → Among l K → pos 0 ≤ℤ (k *ℤ dot (take n a) l)
    along k l i =
        let e = all_at (λ (y : Row). length y ≡ n) i hk in
        subst (λ z. pos 0 ≤ℤ z) (dot-times a k (padded_whole 1 l) ∙ ap (λ z. k *ℤ z) (sees l e)) (v.holds (times k (padded_whole 1 l)) (length-times k (padded_whole 1 l) ∙ padded_cols n l e) (in_line_times k (lines l i)))

    on_lines : (l : Row) → Among l K → dot (take n a) l ≡ pos 0
    on_lines l i = both_signs (dot (take n a) l) (subst (λ z. pos 0 ≤ℤ z) (one_mul (dot (take n a) l)) (along (pos 1) l i)) (along (negsuc 0) l i)

  lifted : (x : Row) → length x ≡ n → InCone P K x → InCone Q R (padded_whole 1 x)
  lifted x e h = bipolar (suc n) Q R hq hr (padded_whole 1 x) (padded_cols n x e) (λ a v. subst (λ z. pos 0 ≤ℤ z) (sym (sees a v x e)) (dot_in (take n a) P K (on_points a v) (on_lines a v) h))

-- ---- the last column
last_dot : (k m : ℤ) (a x : Row) → length a ≡ length x → dot (a ++ k ∷ []) (x ++ m ∷ []) ≡ dot a x +ℤ k *ℤ m
last_dot k m [] [] e = omega (arith, ints)
last_dot k m [] (b ∷ x) e = absurd (omega arith)
last_dot k m (c ∷ a) [] e = absurd (omega arith)
last_dot k m (c ∷ a) (b ∷ x) e = let f = last_dot k m a x (omega arith) in omega (arith, ints)

last_split : (n : ℕ) (z : Row) → length z ≡ suc n → z ≡ take n z ++ entry z n ∷ []
last_split n [] e = absurd (omega arith)
last_split zero (b ∷ []) e = refl
last_split zero (b ∷ c ∷ z) e = absurd (omega arith)
last_split (suc n) (b ∷ z) e = ap (λ w. b ∷ w) (last_split n z (omega arith))

-- the end of k times the apex, below y
tail_sum : (d : ℕ) (y : Row) (k : ℤ) → length y ≡ d → plus (y ++ pos 0 ∷ []) (times k (nothing d ++ pos 1 ∷ [])) ≡ y ++ k ∷ []
tail_sum zero [] k e = let q : pos 0 +ℤ k *ℤ pos 1 ≡ k = omega (arith, ints) in ap (λ w. w ∷ []) q
tail_sum (suc d) [] k e = absurd (omega arith)
tail_sum zero (b ∷ y) k e = absurd (omega arith)
tail_sum (suc d) (b ∷ y) k e =
    let q : b +ℤ k *ℤ pos 0 ≡ b = omega (arith, ints) in
    ap (λ w. w ∷ plus (y ++ pos 0 ∷ []) (times k (nothing d ++ pos 1 ∷ []))) q ∙ ap (λ r. b ∷ r) (tail_sum d y k (omega arith))

moved : (b c k m w : ℤ) → c ≡ m +ℤ k → pos 0 ≤ℤ ((b *ℤ c +ℤ w) +ℤ neg_ℤ b *ℤ k) → pos 0 ≤ℤ (b *ℤ m +ℤ w)
moved b c k m w e h =
    let q : b *ℤ c ≡ b *ℤ m +ℤ b *ℤ k = ap (λ z. b *ℤ z) e ∙ (simp ring refl) in
    let f : neg_ℤ b *ℤ k ≡ neg_ℤ (b *ℤ k) = simp ring refl in
    omega (arith, ints)

-- ---- the rows of a pyramid
abbrev pub points_above : ℕ → List Row → List Row
points_above n P = map (padded_whole 1) P ++ apex_row n ∷ []

abbrev pub lines_above : List Row → List Row
lines_above K = map (padded_whole 1) K

only_is : (S : Row → Type 0) (w : Row) → S w → (g : Row) → Among g (w ∷ []) → S g
only_is S w h g here = h
only_is S w h g (there i) = elim i [ ]

line_is : (S : Row → Type 0) (K : List Row) → ((l : Row) → Among l K → S (padded_whole 1 l)) → (l : Row) → Among l (lines_above K) → S l
line_is S K f l i = let (k, j, is) = map_among (padded_whole 1) K i in subst S (sym is) (f k j)

point_is : (S : Row → Type 0) (n : ℕ) (P : List Row) → ((p : Row) → Among p P → S (padded_whole 1 p)) → S (apex_row n) → (g : Row) → Among g (points_above n P) → S g
point_is S n P f h g i = elim (among_append (map (padded_whole 1) P) (apex_row n ∷ []) i) [ inl j ↦ line_is S P f g j | inr j ↦ only_is S (apex_row n) h g j ]

pub apex_among : (n : ℕ) (P : List Row) → Among (apex_row n) (points_above n P)
apex_among n P = among_append_right (map (padded_whole 1) P) here

-- a row is the sum of a row of the cone, with 0 behind it, and a multiple of the apex
pub record HasParts (n : ℕ) (G L : List Row) (z : Row) : Type 0 where
  pub x : Row
  pub k : ℤ
  pub cols : length x ≡ n
  pub inside : InCone G L x
  pub not_negative : pos 0 ≤ℤ k
  pub sum : Same z (plus (x ++ pos 0 ∷ []) (times k (apex_row n)))

module _ (d : ℕ) (G L P K : List Row) (hg : HasCols (suc d) G) (hl : HasCols (suc d) L) (hp : HasCols (suc d) P) (hk : HasCols (suc d) K) (same : (x : Row) → length x ≡ suc d → InCone G L x ↔ InCone P K x) where
  point_cols : (p : Row) → Among p P → length p ≡ suc d
  point_cols p i = all_at (λ (y : Row). length y ≡ suc d) i hp

  line_cols : (l : Row) → Among l K → length l ≡ suc d
  line_cols l i = all_at (λ (y : Row). length y ≡ suc d) i hk

  apex_cols : length (apex_row (suc d)) ≡ suc (suc d)
  apex_cols = let e = length-append (nothing d) (pos 1 ∷ []) in let f = length-replicate d (pos 0) in omega arith

  points_above_cols : HasCols (suc (suc d)) (points_above (suc d) P)
  points_above_cols = all_from (λ x. length x ≡ suc (suc d)) (points_above (suc d) P) (point_is (λ x. length x ≡ suc (suc d)) (suc d) P (λ p i. padded_cols (suc d) p (point_cols p i)) apex_cols)

  lines_above_cols : HasCols (suc (suc d)) (lines_above K)
  lines_above_cols = all_from (λ x. length x ≡ suc (suc d)) (lines_above K) (line_is (λ x. length x ≡ suc (suc d)) K (λ l i. padded_cols (suc d) l (line_cols l i)))

  -- ---- the last entry is not negative
  abbrev last : Row
  last = nothing (suc d) ++ pos 1 ∷ []

  at_last : (y : Row) (m : ℤ) → length y ≡ suc d → dot last (y ++ m ∷ []) ≡ m
  at_last y m e = last_dot (pos 1) m (nothing (suc d)) y (length-replicate (suc d) (pos 0) ∙ sym e) ∙ (let q = nothing_dot (suc d) y in omega (arith, ints))

  nought_or_more : (z : ℤ) → z ≡ pos 0 → pos 0 ≤ℤ z
  nought_or_more z e = omega (arith, ints)

  last_up : (z : Row) → InCone (points_above (suc d) P) (lines_above K) z → pos 0 ≤ℤ dot last z
  last_up z h = dot_in last (points_above (suc d) P) (lines_above K)
      (point_is (λ g. pos 0 ≤ℤ dot last g) (suc d) P (λ p i. nought_or_more (dot last (padded_whole 1 p)) (at_last p (pos 0) (point_cols p i)))
      (let e = at_last (pos 1 ∷ nothing d) (pos 1) (ap suc (length-replicate d (pos 0))) in omega (arith, ints)))
      (line_is (λ l. dot last l ≡ pos 0) K (λ l i. at_last l (pos 0) (line_cols l i))) h

  -- ---- a row that is not negative on the cone, with the opposite of its first entry behind it, is not negative on the pyramid
  module _ (b : ℤ) (a : Row) (v : IsValid (suc d) G L (b ∷ a)) where
    abbrev sunk : Row
    sunk = b ∷ a ++ neg_ℤ b ∷ []

    at_sunk : (y : Row) (m : ℤ) → length y ≡ suc d → dot sunk (y ++ m ∷ []) ≡ dot (b ∷ a) y +ℤ neg_ℤ b *ℤ m
    at_sunk y m e = last_dot (neg_ℤ b) m (b ∷ a) y (v.cols ∙ sym e)

    at_line : (l : Row) → Among l K → dot (b ∷ a) l ≡ pos 0
    at_line l i = both_signs (dot (b ∷ a) l) (subst (λ z. pos 0 ≤ℤ z) (one_mul (dot (b ∷ a) l)) (along (pos 1))) (along (negsuc 0))
      where
        along : (k : ℤ) → pos 0 ≤ℤ (k *ℤ dot (b ∷ a) l)
        along k = let e = length-times k l ∙ line_cols l i in subst (λ z. pos 0 ≤ℤ z) (dot-times (b ∷ a) k l) (v.holds (times k l) e ((same (times k l) e).1 (in_line_times k i)))

    at_apex : dot sunk (apex_row (suc d)) ≡ pos 0
    at_apex =
        let e = at_sunk (pos 1 ∷ nothing d) (pos 1) (ap suc (length-replicate d (pos 0))) in
        let f = dot_comm a (nothing d) in
        let g = nothing_dot d a in
        omega (arith, ints)

    sunk_up : (z : Row) → InCone (points_above (suc d) P) (lines_above K) z → pos 0 ≤ℤ dot sunk z
    sunk_up z h = dot_in sunk (points_above (suc d) P) (lines_above K)
        (point_is (λ g. pos 0 ≤ℤ dot sunk g) (suc d) P
        (λ p i. let e = at_sunk p (pos 0) (point_cols p i) in let f = v.holds p (point_cols p i) ((same p (point_cols p i)).1 (in_generator i)) in omega (arith, ints))
        (nought_or_more (dot sunk (apex_row (suc d))) at_apex))
        (line_is (λ l. dot sunk l ≡ pos 0) K (λ l i. let e = at_sunk l (pos 0) (line_cols l i) in let f = at_line l i in omega (arith, ints))) h

  -- ---- both ways
  from_parts : (z : Row) → HasParts (suc d) G L z → InCone (points_above (suc d) P) (lines_above K) z
  from_parts z w = in_same (same_sym w.sum)
      (in_plus
      (lifted (suc d) P K (points_above (suc d) P) (lines_above K) hp hk points_above_cols lines_above_cols (λ g i. among_append_left _ (among_map (padded_whole 1) i)) (λ l i. among_map (padded_whole 1) i) w.x w.cols ((same w.x w.cols).0 w.inside))
      (in_times w.not_negative (in_generator (apex_among (suc d) P))))

  module _ (c : ℤ) (y : Row) (k : ℤ) (e : length y ≡ d) (h : InCone (points_above (suc d) P) (lines_above K) (c ∷ y ++ k ∷ [])) where
    below : (a : Row) → IsValid (suc d) G L a → pos 0 ≤ℤ dot a ((c -ℤ k) ∷ y)
    below [] v = absurd (let f = v.cols in omega arith)
    below (b ∷ a) v = let s = sunk_up b a v (c ∷ y ++ k ∷ []) h in let f = at_sunk b a v (c ∷ y) k (ap suc e) in moved b c k (c -ℤ k) (dot a y) (omega (arith, ints)) (subst (λ z. pos 0 ≤ℤ z) f s)

    sum_at : (i : ℕ) → entry (c ∷ y ++ k ∷ []) i ≡ entry (plus ((c -ℤ k) ∷ y ++ pos 0 ∷ []) (times k (apex_row (suc d)))) i
    sum_at zero = omega (arith, ints)
    sum_at (suc i) = ap (λ (r : Row). entry r i) (sym (tail_sum d y k e))

    parts_of : HasParts (suc d) G L (c ∷ y ++ k ∷ [])
    parts_of = record {
      x = (c -ℤ k) ∷ y;
      k = k;
      cols = ap suc e;
      inside = bipolar (suc d) G L hg hl ((c -ℤ k) ∷ y) (ap suc e) below;
      not_negative = subst (λ z. pos 0 ≤ℤ z) (at_last (c ∷ y) k (ap suc e)) (last_up (c ∷ y ++ k ∷ []) h);
      sum = record { at = sum_at };
    }

  to_parts : (z : Row) → length z ≡ suc (suc d) → InCone (points_above (suc d) P) (lines_above K) z → HasParts (suc d) G L z
  to_parts [] e h = absurd (omega arith)
  to_parts (c ∷ z) e h =
      let is = last_split d z (omega arith) in
      subst (λ w. HasParts (suc d) G L (c ∷ w)) (sym is) (parts_of c (take d z) (entry z d) (length-take-le d z (omega arith)) (subst (λ w. InCone (points_above (suc d) P) (lines_above K) (c ∷ w)) is h))

-- the rows of a pyramid generate the sums
pub record IsAbove (n : ℕ) (G L P K : List Row) : Type 0 where
  pub points_cols : HasCols (suc n) (points_above n P)
  pub lines_cols : HasCols (suc n) (lines_above K)
  pub generated : (z : Row) → HasParts n G L z → InCone (points_above n P) (lines_above K) z
  pub generating : (z : Row) → length z ≡ suc n → InCone (points_above n P) (lines_above K) z → HasParts n G L z

pub above : (n : ℕ) (G L P K : List Row) → 1 ≤ n → HasCols n G → HasCols n L → HasCols n P → HasCols n K → ((x : Row) → length x ≡ n → InCone G L x ↔ InCone P K x) → IsAbove n G L P K
above zero G L P K some hg hl hp hk same = absurd (omega arith)
above (suc d) G L P K some hg hl hp hk same = record {
  points_cols = points_above_cols d G L P K hg hl hp hk same;
  lines_cols = lines_above_cols d G L P K hg hl hp hk same;
  generated = from_parts d G L P K hg hl hp hk same;
  generating = to_parts d G L P K hg hl hp hk same;
}

-- the pyramid over the cone of a thing, by the thing's own rows
pub pyramid_above : (t : Thing) → 1 ≤ t.cols → HasCols t.cols t.generators → HasCols t.cols t.lines → (z : Row) → length z ≡ suc t.cols → InPyramid t z ↔ InCone (points_above t.cols t.generators) (lines_above t.lines) z
pyramid_above t some hg hl z e =
    let a = above t.cols t.generators t.lines t.generators t.lines some hg hl hg hl (λ x lx. (λ h. h, λ h. h)) in (
      λ w. a.generated z (record { x = w.x; k = w.k; cols = w.cols; inside = w.inside; not_negative = w.not_negative; sum = w.sum }),
      λ h. let w = a.generating z e h in record { x = w.x; k = w.k; cols = w.cols; inside = w.inside; not_negative = w.not_negative; sum = w.sum },
    )

pub pyramid_described : PyramidIsDescribed
pyramid_described a t o u r h v thing orders =
    generated_described u v thing orders (cols_over (suc (cols_at a)) points) points (cols_over (suc (cols_at a)) lines) lines (points_above t.cols xs) (lines_above K)
    (stand_append (map (padded 1) (rows_at Vertices a)) (ratios (apex_row (cols_at a)) ∷ []) (map (padded_whole 1) xs) (apex_row t.cols ∷ []) (padded_stand 1 (rows_at Vertices a) xs vertices.right.stand)
    (subst (λ k. Stands (ratios (apex_row k)) (apex_row t.cols)) r.cols (stands_ratios (apex_row t.cols)), tt))
    (padded_stand 1 (rows_at LinealitySpace a) K lineality.right.stand)
    (subst (λ n. HasCols n (points_above t.cols xs)) (sym h.cols) rows.points_cols) kcols inside (record { same = cone })
    (both_settled (suc (cols_at a)) points lines (omega arith) some ∙ ap suc (sym r.cols) ∙ sym h.cols)
  where
    points : List (List Ratio)
    points = map (padded 1) (rows_at Vertices a) ++ ratios (apex_row (cols_at a)) ∷ []

    lines : List (List Ratio)
    lines = map (padded 1) (rows_at LinealitySpace a)

    vertices : RightRows Vertices a t o
    vertices = read_rows pyramid_reads Vertices a t o here r (right_vertices t o)

    lineality : RightRows LinealitySpace a t o
    lineality = read_rows pyramid_reads LinealitySpace a t o (there here) r (right_lines t o)

    xs : List Row
    xs = vertices.right.xs

    K : List Row
    K = lineality.right.xs

    polytope : IsPolytopeThing t.cols t.generators t.lines
    polytope = polytope_thing t r.thing r.of

    cone_orders : AreConeOrders t.cols t.generators t.lines o
    cone_orders = subst (λ k. AreOrdersOf k t.cols t.generators t.lines t.cones o) r.of r.orders

    order : InOrder (SameModulo t.cols (InSet t)) o.rays xs
    order = subst (λ k. InOrder (SameRayOf k t.cols t.generators t.lines) o.rays xs) r.of vertices.right.order

    basis : IsBasis t.cols (InLineality (InSet t)) K
    basis = subst (λ k. IsBasis t.cols (InLinesOf k t.generators t.lines) K) r.of lineality.right.basis

    rows : IsAbove t.cols t.generators t.lines xs K
    rows = above t.cols t.generators t.lines xs K r.thing.some_cols polytope.cone.generators polytope.cone.lines vertices.right.cols lineality.right.basis.cols
        (rays_generate t.cols t.generators t.lines o.rays xs cone_orders.rays order polytope.cone.generators polytope.cone.lines K basis)

    kcols : HasCols u.cols (lines_above K)
    kcols = subst (λ n. HasCols n (lines_above K)) (sym h.cols) rows.lines_cols

    cone : (z : Row) → length z ≡ u.cols → InSet u z ↔ InCone (points_above t.cols xs) (lines_above K) z
    cone z e = (
      λ g. let w = (h.cone z (e ∙ h.cols)).0 g in rows.generated z (record { x = w.x; k = w.k; cols = w.cols; inside = w.inside; not_negative = w.not_negative; sum = w.sum }),
      λ g. let w = rows.generating z (e ∙ h.cols) g in (h.cone z (e ∙ h.cols)).1 (record { x = w.x; k = w.k; cols = w.cols; inside = w.inside; not_negative = w.not_negative; sum = w.sum }),
    )

    inside : (l : Row) → Among l (lines_above K) → InLines u l
    inside l i =
        let e = all_at (λ (y : Row). length y ≡ u.cols) i kcols in
        subst (λ k. InLinesOf k u.generators u.lines l) (sym h.of) (record { inside = (cone l e).1 (in_line i); opposed = (cone (opposite l) (length-opposite l ∙ e)).1 (in_line_opposite i) })

    some : 0 < length points + length lines
    some = let e = length-append (map (padded 1) (rows_at Vertices a)) (ratios (apex_row (cols_at a)) ∷ []) in omega arith
