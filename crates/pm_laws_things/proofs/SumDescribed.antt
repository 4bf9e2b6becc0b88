-- The rows of a Minkowski sum describe the sum.
use Rattle.pm_vector.proofs.ConeLaws.{in_cone_set, in_line, in_line_opposite, none_to_zero}
use Rattle.pm_vector.proofs.Filters.{filter_among}
use Rattle.pm_vector.proofs.Lists.{Among, all_at, here, there}
use Rattle.pm_vector.proofs.Ring.{ring}
use Rattle.pm_vector.proofs.RowLaws.{entry-times, length-opposite, length-times}
use Rattle.pm_vector.proofs.Signs.{mul_pos, nonneg_cancel, weaken}
use Rattle.pm_vector.specs.Cones.{InCone}
use Rattle.pm_vector.specs.Rows.{HasCols, IsZero, Row, entry, opposite, times}
use Rattle.pm_build.proofs.PaddedRows.{stand_append, stand_length}
use Rattle.pm_build.proofs.Refused.{refused}
use Rattle.pm_build.specs.Conditions.{sum_reads}
use Rattle.pm_build.specs.Points.{far as far_rows, points as point_rows}
use Rattle.pm_build.specs.Sums.{IsSumFile, sum_lines}
use Rattle.pm_files.specs.Files.{SavedFile}
use Rattle.pm_geom.proofs.Polar.{bipolar}
use Rattle.pm_geom.specs.Cones.{InLineality, SameModulo}
use Rattle.pm_geom.specs.Things.{AreConeOrders, IsPolytopeThing, Orders}
use Rattle.pm_laws_things.proofs.Assembled.{both_settled, generated_described, polytope_thing}
use Rattle.pm_laws_things.proofs.Points.{closing}
use Rattle.pm_laws_things.proofs.ReadRights.{RightRows, read_rows, read_value, right_lines, right_vertices, true_value}
use Rattle.pm_laws_things.proofs.SumRows.{all_along, far_stand, points_stand, sum_at, sum_length, sums_stand}
use Rattle.pm_laws_things.specs.Built.{IsSum}
use Rattle.pm_laws_things.specs.BuildingLaws.{ReadRight, SumIsDescribed, settled_facts}
use Rattle.pm_laws_normal_fans.proofs.SumRows.{sum_rows_generate}
use Rattle.pm_laws_normal_fans.specs.Sums.{AreRowsOf, Cone, IsInhabited, In, InMinkowskiSum, IsSumOf, far, is_positive, point_sum, point_sums, points, sum_rows}
use Rattle.pm_object.specs.Known.{cols_at, is_true, rows_at}
use Rattle.pm_types.specs.Parts.{cols_over}
use Rattle.pm_object.specs.State.{State, read_at, value_of}
use Rattle.pm_object.specs.declared.held.Condition.TheVariants as condition
use Rattle.pm_props.specs.declared.property.PropId.TheVariants.{Feasible, LinealitySpace, Vertices}
use Rattle.pm_relations.proofs.PrimitiveStanding.{primitive_stand}
use Rattle.pm_relations.proofs.Twins.{rays_generate}
use Rattle.pm_types.specs.Right.{Generates, InLines, InLinesOf, InOrder, InSet, IsBasis, RightAll, SameRayOf, StandFor}
use Rattle.pm_types.specs.Things.{AreOrders, AreOrdersOf, IsThing, Thing}
use Rattle.pm_types.specs.Values.{truth}
use Rattle.std.proofs.Common.{Bool, ap, arith, false, inl, inr, refl, subst, sym, true, ◌∙◌}
use Rattle.std.proofs.lemmas.Bool.{and_parts, eqb-true}
use Rattle.std.proofs.lemmas.Int.{ints}
use Rattle.std.specs.Prelude.{List, None, Some, [], if◌then◌else◌, length, not, suc, ℕ, ◌+◌, ◌++◌, ◌<◌, ◌↔◌, ◌∷◌, ◌≡◌, ◌≤◌}
use lib.IntN.{pos, *ℤ_comm, ℤ, ◌*ℤ◌, ◌+ℤ◌}
use lib.Signed.{lt_z_yes, ◌<ℤ◌, ◌≤ℤ◌}

-- ---- two polytopes of the same points are the same
module _ (n : ℕ) (G L X K : List Row) (hg : HasCols n G) (hl : HasCols n L) (hx : HasCols n X) (hk : HasCols n K) (thing : IsPolytopeThing n G L)
    (first : (x : Row) → length x ≡ n → InCone X K x → pos 0 ≤ℤ entry x 0) (p : Row) (lp : length p ≡ n) (ip : InCone X K p) (up : pos 0 <ℤ entry p 0)
    (points : (x : Row) → length x ≡ n → pos 0 <ℤ entry x 0 → InCone G L x ↔ InCone X K x) where
  same_from_points : (x : Row) → length x ≡ n → InCone G L x ↔ InCone X K x
  same_from_points x lx = (to, from)
    where
      to : InCone G L x → InCone X K x
      to h = bipolar n X K hx hk x lx (λ a v. closing n (InCone G L) a (in_cone_set G L) p lp ((points p lp up).1 ip) up (λ y ly g u. v.holds y ly ((points y ly u).0 g)) x lx h (thing.first x lx h))

      from : InCone X K x → InCone G L x
      from h = bipolar n G L hg hl x lx (λ a v. closing n (InCone X K) a (in_cone_set X K) p lp ip up (λ y ly g u. v.holds y ly ((points y ly u).1 g)) x lx h (first x lx h))

-- ---- the sum of two polytopes with points
module _ (n : ℕ) (P Q R : Cone) (some : 0 < n) (tp : IsPolytopeThing n P.generators P.lines) (tq : IsPolytopeThing n Q.generators Q.lines) (sum : IsSumOf n P Q R) where
  pub sum_first : (x : Row) → length x ≡ n → In R x → pos 0 ≤ℤ entry x 0
  sum_first x lx h =
      let w = (sum.sum x lx).0 h in
      let e : entry w.first 0 ≡ w.factor *ℤ entry x 0 = w.sum.first ∙ entry-times w.factor x 0 in
      nonneg_cancel w.positive (subst (λ z. pos 0 ≤ℤ z) e (tp.first w.first w.first_cols w.of_first))

  pub sum_in : (x y : Row) → length x ≡ n → length y ≡ n → In P x → In Q y → pos 0 <ℤ entry x 0 → pos 0 <ℤ entry y 0 → InMinkowskiSum n (In P) (In Q) (point_sum x y)
  sum_in x y lx ly ix iy ux uy = record {
    factor = pos 1;
    first = times (entry y 0) x;
    second = times (entry x 0) y;
    positive = lt_z_yes tt;
    first_cols = length-times (entry y 0) x ∙ lx;
    second_cols = length-times (entry x 0) y ∙ ly;
    of_first = (in_cone_set P.generators P.lines).multiple (weaken uy) ix;
    of_second = (in_cone_set Q.generators Q.lines).multiple (weaken ux) iy;
    sum = record {
      first = entry-times (entry y 0) x 0 ∙ *ℤ_comm (entry y 0) (entry x 0) ∙ sym (entry-times (pos 1) (point_sum x y) 0 ∙ one (entry x 0 *ℤ entry y 0));
      second = entry-times (entry x 0) y 0 ∙ sym (entry-times (pos 1) (point_sum x y) 0 ∙ one (entry x 0 *ℤ entry y 0));
      others = λ i. entry-times (pos 1) (point_sum x y) (suc i) ∙ one (entry (point_sum x y) (suc i)) ∙ sum_at x y i ∙ sym (ap (λ z. z +ℤ entry (times (entry x 0) y) (suc i)) (entry-times (entry y 0) x (suc i)) ∙ ap (λ z. entry y 0 *ℤ entry x (suc i) +ℤ z) (entry-times (entry x 0) y (suc i)));
    };
  }
    where
      one : (z : ℤ) → pos 1 *ℤ z ≡ z
      one z = simp ring

-- ---- conditions
sum_conditions : (p f c r : Bool) → (if not p then Some condition.OfType else if not f then Some condition.Feasible else if not c then Some condition.Columns else if not r then Some condition.Rows else None) ≡ None → (p ≡ true) × (f ≡ true) × (c ≡ true)
sum_conditions false f c r h = absurd (refused h)
sum_conditions true false c r h = absurd (refused h)
sum_conditions true true false r h = absurd (refused h)
sum_conditions true true true false h = absurd (refused h)
sum_conditions true true true true h = (refl, refl, refl)

-- ---- what is read of a polytope that is not empty
abbrev pub cone_of : Thing → Cone
cone_of t = record { generators = t.generators; lines = t.lines }

record IsReadPolytope (a : State) (t : Thing) : Type 0 where
  xs : List Row
  K : List Row
  xs_stand : StandFor (rows_at Vertices a) xs
  lines_stand : StandFor (rows_at LinealitySpace a) K
  thing : IsPolytopeThing t.cols t.generators t.lines
  rows : AreRowsOf t.cols (record { generators = t.generators; lines = t.lines }) xs K
  some : IsInhabited t.cols (record { generators = t.generators; lines = t.lines })

read_polytope : (a : State) (t : Thing) (o : Orders) → ReadRight sum_reads a t o → is_true Feasible a ≡ true → IsReadPolytope a t
read_polytope a t o r holds = record {
  xs = vertices.right.xs;
  K = lineality.right.xs;
  xs_stand = vertices.right.stand;
  lines_stand = lineality.right.stand;
  thing = polytope;
  rows = record { rows = vertices.right.cols; lines = lineality.right.basis.cols; same = rays_generate t.cols t.generators t.lines o.rays vertices.right.xs cone_orders.rays order polytope.cone.generators polytope.cone.lines lineality.right.xs basis };
  some = elim polytope.proper [
    | inl z ↦ absurd (feasible.3 (z feasible.0 feasible.1 feasible.2))
    | inr p ↦ p
  ];
}
  where
    vertices : RightRows Vertices a t o
    vertices = read_rows sum_reads Vertices a t o (there here) r (right_vertices t o)

    lineality : RightRows LinealitySpace a t o
    lineality = read_rows sum_reads LinealitySpace a t o (there (there here)) r (right_lines t o)

    polytope : IsPolytopeThing t.cols t.generators t.lines
    polytope = polytope_thing t r.thing r.of

    cone_orders : AreConeOrders t.cols t.generators t.lines o
    cone_orders = subst (λ k. AreOrdersOf k t.cols t.generators t.lines t.cones o) r.of r.orders

    order : InOrder (SameModulo t.cols (InSet t)) o.rays vertices.right.xs
    order = subst (λ k. InOrder (SameRayOf k t.cols t.generators t.lines) o.rays vertices.right.xs) r.of vertices.right.order

    basis : IsBasis t.cols (InLineality (InSet t)) lineality.right.xs
    basis = subst (λ k. IsBasis t.cols (InLinesOf k t.generators t.lines) lineality.right.xs) r.of lineality.right.basis

    feasible : (x : Row) × (length x ≡ t.cols) × InCone t.generators t.lines x × ¬ (IsZero x)
    feasible = (read_value sum_reads Feasible a t o here r (truth true) (true_value (value_of Feasible (read_at None a.held)) holds)).0 refl

-- ---- the sum of two read polytopes of n columns
module _ (a b : State) (t s u : Thing) (o : Orders) (f : SavedFile) (n : ℕ) (x : IsReadPolytope a t) (y : IsReadPolytope b s) (tn : t.cols ≡ n) (sn : s.cols ≡ n) (an : cols_at a ≡ n) (some : 1 ≤ n)
    (file : IsSumFile a b f) (is_sum : IsSum t s u) (thing : IsThing u) (orders : AreOrders u o) where
  abbrev P : Cone
  P = record { generators = t.generators; lines = t.lines }

  abbrev Q : Cone
  Q = record { generators = s.generators; lines = s.lines }

  abbrev X : List Row
  X = sum_rows x.xs y.xs

  abbrev M : List Row
  M = x.K ++ y.K

  tp : IsPolytopeThing n P.generators P.lines
  tp = subst (λ k. IsPolytopeThing k P.generators P.lines) tn x.thing

  tq : IsPolytopeThing n Q.generators Q.lines
  tq = subst (λ k. IsPolytopeThing k Q.generators Q.lines) sn y.thing

  rows_p : AreRowsOf n P x.xs x.K
  rows_p = subst (λ k. AreRowsOf k P x.xs x.K) tn x.rows

  rows_q : AreRowsOf n Q y.xs y.K
  rows_q = subst (λ k. AreRowsOf k Q y.xs y.K) sn y.rows

  point_p : IsInhabited n P
  point_p = subst (λ k. IsInhabited k P) tn x.some

  point_q : IsInhabited n Q
  point_q = subst (λ k. IsInhabited k Q) sn y.some

  sum : IsSumOf n P Q (record { generators = X; lines = M })
  sum = sum_rows_generate n P Q x.xs x.K y.xs y.K tp tq point_p point_q rows_p rows_q

  un : u.cols ≡ n
  un = is_sum.cols ∙ tn

  tu : IsPolytopeThing n u.generators u.lines
  tu = subst (λ k. IsPolytopeThing k u.generators u.lines) un (polytope_thing u thing is_sum.of)

  abbrev both : Row
  both = point_sum point_p.0 point_q.0

  both_cols : length both ≡ n
  both_cols = sum_length n point_p.0 point_q.0 some point_p.1 point_q.1

  both_in : InCone X M both
  both_in = (sum.sum both both_cols).1 (sum_in n P Q (record { generators = X; lines = M }) some tp tq sum point_p.0 point_q.0 point_p.1 point_q.1 point_p.2 point_q.2 point_p.3 point_q.3)

  both_up : pos 0 <ℤ entry both 0
  both_up = mul_pos point_p.3 point_q.3

  points_same : (z : Row) → length z ≡ n → pos 0 <ℤ entry z 0 → InCone u.generators u.lines z ↔ InCone X M z
  points_same z lz up =
      let h = is_sum.points z (lz ∙ sym tn) up in
      let w = sum.sum z lz in (
        λ i. w.1 (subst (λ k. InMinkowskiSum k (In P) (In Q) z) tn (h.0 i)),
        λ i. h.1 (subst (λ k. InMinkowskiSum k (In P) (In Q) z) (sym tn) (w.0 i)),
      )

  same : (z : Row) → length z ≡ n → InCone u.generators u.lines z ↔ InCone X M z
  same = same_from_points n u.generators u.lines X M tu.cone.generators tu.cone.lines sum.generators sum.lines tu (sum_first n P Q (record { generators = X; lines = M }) some tp tq sum) both both_cols both_in both_up points_same

  generates : Generates u X M
  generates = record { same = λ z lz. same z (lz ∙ un) }

  inside : (l : Row) → Among l M → InLines u l
  inside l i =
      let e = all_at (λ (y : Row). length y ≡ n) i sum.lines in
      subst (λ k. InLinesOf k u.generators u.lines l) (sym is_sum.of) (record { inside = (same l e).1 (in_line i); opposed = (same (opposite l) (length-opposite l ∙ e)).1 (in_line_opposite i) })

  -- ---- the rows stand
  point_cols : (V : List Row) → HasCols n V → (v : Row) → Among v (points V) → (is_positive (entry v 0) ≡ true) × (length v ≡ n)
  point_cols V h v i = let w = filter_among (λ z. is_positive (entry z 0)) V i in (w.1, all_at (λ (z : Row). length z ≡ n) w.0 h)

  stand : StandFor file.rows X
  stand = subst (λ z. StandFor z X) (sym file.points.all)
      (stand_append file.points.sums (far_rows (rows_at Vertices a) ++ far_rows (rows_at Vertices b)) (point_sums (points x.xs) (points y.xs)) (far x.xs ++ far y.xs)
      (sums_stand n file.points.first (points x.xs) file.points.second (points y.xs) file.points.sums
      (all_along n (point_rows (rows_at Vertices a)) (points x.xs) file.points.first some (points_stand (rows_at Vertices a) x.xs x.xs_stand) (primitive_stand (point_rows (rows_at Vertices a)) file.points.first file.points.points.first) (point_cols x.xs rows_p.rows))
      (all_along n (point_rows (rows_at Vertices b)) (points y.xs) file.points.second some (points_stand (rows_at Vertices b) y.xs y.xs_stand) (primitive_stand (point_rows (rows_at Vertices b)) file.points.second file.points.points.second) (point_cols y.xs rows_q.rows))
      file.points.are_sums)
      (stand_append (far_rows (rows_at Vertices a)) (far_rows (rows_at Vertices b)) (far x.xs) (far y.xs) (far_stand (rows_at Vertices a) x.xs x.xs_stand) (far_stand (rows_at Vertices b) y.xs y.xs_stand)))

  lines_stand : StandFor (sum_lines a b) M
  lines_stand = stand_append (rows_at LinealitySpace a) (rows_at LinealitySpace b) x.K y.K x.lines_stand y.lines_stand

  -- some row is among them, since there is a point
  some_row : 0 < length file.rows + length (sum_lines a b)
  some_row =
      let e = stand_length file.rows X stand in
      let g = stand_length (sum_lines a b) M lines_stand in
      let h : 0 < length X + length M = by X M both_in in
      omega arith
    where
      by : (V L : List Row) → InCone V L both → 0 < length V + length L
      by [] [] h = absurd (let z = none_to_zero both h 0 in let up = both_up in omega (arith, ints))
      by (v ∷ V) L h = omega arith
      by [] (l ∷ L) h = omega arith

  sum_is_right : RightAll (settled_facts f) u o
  sum_is_right = subst (λ z. RightAll (settled_facts z) u o) (sym file.file)
      (generated_described u o thing orders (cols_over (cols_at a) file.rows) file.rows (cols_over (cols_at a) (sum_lines a b)) (sum_lines a b) X M stand lines_stand
      (subst (λ k. HasCols k X) (sym un) sum.generators) (subst (λ k. HasCols k M) (sym un) sum.lines) inside generates
      (both_settled (cols_at a) file.rows (sum_lines a b) (omega arith) some_row ∙ an ∙ sym un))

pub sum_described : SumIsDescribed
sum_described a b t o s p u f r q fits file is_sum orders thing are =
    let c = sum_conditions _ _ _ _ fits in
    let both = and_parts (is_true Feasible a) (is_true Feasible b) c.1 in
    let same : cols_at a ≡ cols_at b = eqb-true (cols_at a) (cols_at b) c.2 in
    let k = r.thing.some_cols in
    sum_is_right a b t s u orders f (cols_at a) (read_polytope a t o r both.0) (read_polytope b s p q both.1) r.cols (q.cols ∙ sym same) refl (let e = r.cols in omega arith) file is_sum thing are

-- ---- by its own generators
-- a polytope whose points are the sums of two is the sum
pub sum_by_points : (t s u : Thing) (n : ℕ) → t.cols ≡ n → 0 < n → IsPolytopeThing n t.generators t.lines → IsPolytopeThing n s.generators s.lines → IsInhabited n (cone_of t) → IsInhabited n (cone_of s) → IsPolytopeThing n u.generators u.lines → IsSum t s u
    → IsSumOf n (cone_of t) (cone_of s) (cone_of u)
sum_by_points t s u n tn some tp tq p q tu is_sum = record {
  generators = tu.cone.generators;
  lines = tu.cone.lines;
  sum = λ x lx. let a = same x lx in let b = sum.sum x lx in (λ h. b.0 (a.0 h), λ h. a.1 (b.1 h));
}
  where
    rows : (P : Cone) → IsPolytopeThing n P.generators P.lines → AreRowsOf n P P.generators P.lines
    rows P h = record { rows = h.cone.generators; lines = h.cone.lines; same = λ x lx. (λ h. h, λ h. h) }

    sum : IsSumOf n (cone_of t) (cone_of s) (record { generators = sum_rows t.generators s.generators; lines = t.lines ++ s.lines })
    sum = sum_rows_generate n (cone_of t) (cone_of s) t.generators t.lines s.generators s.lines tp tq p q (rows (cone_of t) tp) (rows (cone_of s) tq)

    both_cols : length (point_sum p.0 q.0) ≡ n
    both_cols = sum_length n p.0 q.0 some p.1 q.1

    both_in : InCone (sum_rows t.generators s.generators) (t.lines ++ s.lines) (point_sum p.0 q.0)
    both_in = (sum.sum (point_sum p.0 q.0) both_cols).1 (sum_in n (cone_of t) (cone_of s) (record { generators = sum_rows t.generators s.generators; lines = t.lines ++ s.lines }) some tp tq sum p.0 q.0 p.1 q.1 p.2 q.2 p.3 q.3)

    points_same : (z : Row) → length z ≡ n → pos 0 <ℤ entry z 0 → InCone u.generators u.lines z ↔ InCone (sum_rows t.generators s.generators) (t.lines ++ s.lines) z
    points_same z lz up =
        let h = is_sum.points z (lz ∙ sym tn) up in
        let w = sum.sum z lz in (
          λ i. w.1 (subst (λ k. InMinkowskiSum k (In (cone_of t)) (In (cone_of s)) z) tn (h.0 i)),
          λ i. h.1 (subst (λ k. InMinkowskiSum k (In (cone_of t)) (In (cone_of s)) z) (sym tn) (w.0 i)),
        )

    same : (z : Row) → length z ≡ n → InCone u.generators u.lines z ↔ InCone (sum_rows t.generators s.generators) (t.lines ++ s.lines) z
    same = same_from_points n u.generators u.lines (sum_rows t.generators s.generators) (t.lines ++ s.lines) tu.cone.generators tu.cone.lines sum.generators sum.lines tu
        (sum_first n (cone_of t) (cone_of s) (record { generators = sum_rows t.generators s.generators; lines = t.lines ++ s.lines }) some tp tq sum) (point_sum p.0 q.0) both_cols both_in (mul_pos p.3 q.3) points_same
