-- The rows of a sum: sums of vertices, and the far rows.
use Rattle.pm_vector.proofs.ConeLaws.{in_cone_set, in_generator, in_zero}
use Rattle.pm_vector.proofs.Filters.{among_filter, among_map, filter_among, map_among}
use Rattle.pm_vector.proofs.Lists.{All_among, Among, Any_among, Contains_among, all_from, among_Contains, among_append, among_append_left, among_append_right, here, there}
use Rattle.pm_vector.proofs.Ring.{ring}
use Rattle.pm_vector.proofs.RowLaws.{entry-plus, entry-times, length-plus, length-times, length-zeros, zeros}
use Rattle.pm_vector.proofs.Signs.{weaken}
use Rattle.pm_vector.specs.Cones.{InCone}
use Rattle.pm_vector.specs.Rows.{Row, entry, plus, times}
use Rattle.pm_geom.proofs.Polar.{cols_at}
use Rattle.pm_geom.specs.Things.{IsPolytopeThing}
use Rattle.pm_laws_normal_fans.proofs.Generate.{sum_is_generated}
use Rattle.pm_laws_normal_fans.proofs.Lifts.{entry-rest, length-rest}
use Rattle.pm_laws_normal_fans.proofs.SumLaws.{entry-zeros}
use Rattle.pm_laws_normal_fans.specs.Laws.{SumRowsGenerate}
use Rattle.pm_laws_normal_fans.specs.Shadows.{rest}
use Rattle.pm_laws_normal_fans.specs.Sums.{AreRowsOf, AreSumRows, Cone, InMinkowskiSum, IsPointSum, far, is_positive, point_sum, point_sums, points, sum_rows}
use Rattle.std.proofs.Common.{ap, arith, inl, inr, refl, subst, sym, true, true≢false, ◌∙◌}
use Rattle.std.proofs.lemmas.Int.{ints}
use Rattle.std.specs.Prelude.{List, [], length, map, not, suc, zero, ℕ, ◌++◌, ◌∷◌, ◌≡◌, ◌⊎◌}
use lib.IntN.{*ℤ_comm, negsuc, pos, ℤ, ◌*ℤ◌, ◌+ℤ◌}
use lib.Signed.{lt_z_yes, ◌<ℤ◌, ◌≤ℤ◌}

positive_yes : (z : ℤ) → is_positive z ≡ true → pos 0 <ℤ z
positive_yes (pos zero) e = absurd (true≢false (sym e))
positive_yes (pos (suc k)) e = omega (arith, ints)
positive_yes (negsuc k) e = absurd (true≢false (sym e))

positive_no : (z : ℤ) → pos 0 <ℤ z → is_positive z ≡ true
positive_no (pos zero) h = absurd (omega (arith, ints))
positive_no (pos (suc k)) h = refl
positive_no (negsuc k) h = absurd (omega (arith, ints))

far_yes : (z : ℤ) → not (is_positive z) ≡ true → z ≤ℤ pos 0
far_yes (pos zero) e = omega (arith, ints)
far_yes (pos (suc k)) e = absurd (true≢false (sym e))
far_yes (negsuc k) e = omega (arith, ints)

far_no : (z : ℤ) → z ≡ pos 0 → not (is_positive z) ≡ true
far_no (pos zero) h = refl
far_no (pos (suc k)) h = absurd (let f : pos (suc k) ≡ pos 0 = h in omega (arith, ints))
far_no (negsuc k) h = refl

record IsSum (V W : List Row) (x : Row) : Type 0 where
  v : Row
  w : Row
  first : Among v V
  second : Among w W
  is : x ≡ point_sum v w

sums_among : (V W : List Row) {v w : Row} → Among v V → Among w W → Among (point_sum v w) (point_sums V W)
sums_among [] W i j = elim i [ ]
sums_among (v ∷ V) W here j = among_append_left (point_sums V W) (among_map (point_sum v) j)
sums_among (y ∷ V) W (there i) j = among_append_right (map (point_sum y) W) (sums_among V W i j)

among_sums : (V W : List Row) {x : Row} → Among x (point_sums V W) → IsSum V W x
among_sums [] W i = elim i [ ]
among_sums (v ∷ V) W i = elim (among_append (map (point_sum v) W) (point_sums V W) i) [
  | inl j ↦ let (w, iw, e) = map_among (point_sum v) W j in record { v = v; w = w; first = here; second = iw; is = e }
  | inr j ↦ let r = among_sums V W j in record { v = r.v; w = r.w; first = there r.first; second = r.second; is = r.is }
]

is_point_sum : (v w : Row) → IsPointSum (times (entry w 0) v) (times (entry v 0) w) (times (pos 1) (point_sum v w))
is_point_sum v w = record {
  first = entry-times (entry w 0) v 0 ∙ *ℤ_comm (entry w 0) (entry v 0) ∙ sym (entry-times (pos 1) (point_sum v w) 0 ∙ (omega (arith, ints)));
  second = entry-times (entry v 0) w 0 ∙ sym (entry-times (pos 1) (point_sum v w) 0 ∙ (omega (arith, ints)));
  others = λ i. entry-times (pos 1) (point_sum v w) (suc i) ∙ (let a = entry-plus (times (entry w 0) (rest v)) (times (entry v 0) (rest w)) i in let b = entry-times (entry w 0) (rest v) i in let c = entry-times (entry v 0) (rest w) i in let d = entry-rest v i in let e = entry-rest w i in let f = entry-times (entry w 0) v (suc i) in let g = entry-times (entry v 0) w (suc i) in others_sum (entry (plus (times (entry w 0) (rest v)) (times (entry v 0) (rest w))) i) (entry (times (entry w 0) (rest v)) i) (entry (times (entry v 0) (rest w)) i) (entry (times (entry w 0) v) (suc i)) (entry (times (entry v 0) w) (suc i)) a (b ∙ ap (λ z. entry w 0 *ℤ z) d ∙ sym f) (c ∙ ap (λ z. entry v 0 *ℤ z) e ∙ sym g));
}
  where
    others_sum : (s a b c d : ℤ) → s ≡ a +ℤ b → a ≡ c → b ≡ d → pos 1 *ℤ s ≡ c +ℤ d
    others_sum s a b c d e f g = omega (arith, ints)

module _ (n : ℕ) (V K W M : List Row) (tv : IsPolytopeThing n V K) (tw : IsPolytopeThing n W M) where
  point_in : (v w : Row) → Among v V → Among w W → pos 0 <ℤ entry v 0 → pos 0 <ℤ entry w 0 → InMinkowskiSum n (InCone V K) (InCone W M) (point_sum v w)
  point_in v w iv iw uv uw = record {
    factor = pos 1;
    first = times (entry w 0) v;
    second = times (entry v 0) w;
    positive = lt_z_yes tt;
    first_cols = length-times (entry w 0) v ∙ cols_at iv tv.cone.generators;
    second_cols = length-times (entry v 0) w ∙ cols_at iw tw.cone.generators;
    of_first = (in_cone_set V K).multiple (weaken uw) (in_generator iv);
    of_second = (in_cone_set W M).multiple (weaken uv) (in_generator iw);
    sum = is_point_sum v w;
  }

  first_in : (v : Row) → Among v V → entry v 0 ≡ pos 0 → InMinkowskiSum n (InCone V K) (InCone W M) v
  first_in v i o = record {
    factor = pos 1;
    first = v;
    second = zeros n;
    positive = lt_z_yes tt;
    first_cols = cols_at i tv.cone.generators;
    second_cols = length-zeros n;
    of_first = in_generator i;
    of_second = in_zero (λ i. entry-zeros n i);
    sum = record { first = simp (entry-times, ring); second = let z = entry-zeros n 0 in simp (entry-times, z, o, ring); others = λ i. let z = entry-zeros n (suc i) in simp (entry-times, z, ring) (omega (arith, ints)) };
  }

  second_in : (w : Row) → Among w W → entry w 0 ≡ pos 0 → InMinkowskiSum n (InCone V K) (InCone W M) w
  second_in w i o = record {
    factor = pos 1;
    first = zeros n;
    second = w;
    positive = lt_z_yes tt;
    first_cols = length-zeros n;
    second_cols = cols_at i tw.cone.generators;
    of_first = in_zero (λ i. entry-zeros n i);
    of_second = in_generator i;
    sum = record { first = let z = entry-zeros n 0 in simp (entry-times, z, o, ring); second = simp (entry-times, ring); others = λ i. let z = entry-zeros n (suc i) in simp (entry-times, z, ring) (omega (arith, ints)) };
  }

  -- a row of the sum is one of three sorts
  data IsRow (x : Row) : Type 0 where
    of_points : (v w : Row) → Among v V → Among w W → pos 0 <ℤ entry v 0 → pos 0 <ℤ entry w 0 → x ≡ point_sum v w → IsRow x
    of_first : Among x V → entry x 0 ≡ pos 0 → IsRow x
    of_second : Among x W → entry x 0 ≡ pos 0 → IsRow x

  sort_of : (x : Row) → Among x (sum_rows V W) → IsRow x
  sort_of x i = elim (among_append (point_sums (points V) (points W)) (far V ++ far W) i) [
    | inl j ↦ (let s = among_sums (points V) (points W) j in
        let a = filter_among (λ x. is_positive (entry x 0)) V s.first in
        let b = filter_among (λ x. is_positive (entry x 0)) W s.second in
        of_points s.v s.w a.0 b.0 (positive_yes (entry s.v 0) a.1) (positive_yes (entry s.w 0) b.1) s.is)
    | inr j ↦ far_sort (among_append (far V) (far W) j)
  ]
    where
      far_sort : Among x (far V) ⊎ Among x (far W) → IsRow x
      far_sort (inl k) =
          let a = filter_among (λ x. not (is_positive (entry x 0))) V k in
          let l = far_yes (entry x 0) a.1 in
          let g = tv.first x (cols_at a.0 tv.cone.generators) (in_generator a.0) in
          of_first a.0 (omega (arith, ints))
      far_sort (inr k) =
          let a = filter_among (λ x. not (is_positive (entry x 0))) W k in
          let l = far_yes (entry x 0) a.1 in
          let g = tw.first x (cols_at a.0 tw.cone.generators) (in_generator a.0) in
          of_second a.0 (omega (arith, ints))

  row_cols : (x : Row) → IsRow x → length x ≡ n
  row_cols x (of_points v w iv iw uv uw e) = ap length e ∙ sum_cols v w (cols_at iv tv.cone.generators) (cols_at iw tw.cone.generators) uv
    where
      sum_cols : (v w : Row) → length v ≡ n → length w ≡ n → pos 0 <ℤ entry v 0 → length (point_sum v w) ≡ n
      sum_cols [] w lv lw up = absurd (omega (arith, ints))
      sum_cols (a ∷ v) w lv lw up = ap suc (length-plus (length v) (times (entry w 0) v) (times a (rest w)) (length-times (entry w 0) v) (length-times a (rest w) ∙ length-rest (length v) w (lw ∙ sym lv))) ∙ lv
  row_cols x (of_first i o) = cols_at i tv.cone.generators
  row_cols x (of_second i o) = cols_at i tw.cone.generators

  row_in : (x : Row) → IsRow x → InMinkowskiSum n (InCone V K) (InCone W M) x
  row_in x (of_points v w iv iw uv uw e) = subst (InMinkowskiSum n (InCone V K) (InCone W M)) (sym e) (point_in v w iv iw uv uw)
  row_in x (of_first i o) = first_in x i o
  row_in x (of_second i o) = second_in x i o

  are_sum_rows : AreSumRows n (record { generators = V; lines = K }) (record { generators = W; lines = M }) (sum_rows V W)
  are_sum_rows = record {
    cols = all_from (λ x. length x ≡ n) (sum_rows V W) (λ x i. row_cols x (sort_of x i));
    each = All_among (InMinkowskiSum n (InCone V K) (InCone W M)) (sum_rows V W) (λ x i. row_in x (sort_of x i));
    pairs = λ v w cv cw uv uw. Any_among (λ x. (p : ℤ) × (pos 0 <ℤ p) × IsPointSum (times (entry w 0) v) (times (entry v 0) w) (times p x))
        (among_append_left (far V ++ far W) (sums_among (points V) (points W) (among_filter (λ x. is_positive (entry x 0)) (among_Contains V cv) (positive_no (entry v 0) uv)) (among_filter (λ x. is_positive (entry x 0)) (among_Contains W cw) (positive_no (entry w 0) uw))))
        (pos 1, lt_z_yes tt, is_point_sum v w);
    first_far = λ v cv o. Contains_among (among_append_right (point_sums (points V) (points W)) (among_append_left (far W) (among_filter (λ x. not (is_positive (entry x 0))) (among_Contains V cv) (far_no (entry v 0) o))));
    second_far = λ w cw o. Contains_among (among_append_right (point_sums (points V) (points W)) (among_append_right (far V) (among_filter (λ x. not (is_positive (entry x 0))) (among_Contains W cw) (far_no (entry w 0) o))));
  }

-- a polytope is one by other rows too
as_thing : (n : ℕ) (P : Cone) (V K : List Row) → IsPolytopeThing n P.generators P.lines → AreRowsOf n P V K → IsPolytopeThing n V K
as_thing n P V K t r = record {
  cone = record { generators = r.rows; lines = r.lines };
  first = λ x lx h. t.first x lx ((r.same x lx).1 h);
  proper = elim t.proper [
    | inl z ↦ inl (λ x lx h. z x lx ((r.same x lx).1 h))
    | inr (x, lx, i, up) ↦ inr (x, lx, (r.same x lx).0 i, up)
  ];
}

pub sum_rows_generate : SumRowsGenerate
sum_rows_generate n P Q V K W M tp tq a b rp rq =
    let tv = as_thing n P V K tp rp in
    let tw = as_thing n Q W M tq rq in
    let s = sum_is_generated n (record { generators = V; lines = K }) (record { generators = W; lines = M }) (sum_rows V W) tv tw (a.0, a.1, (rp.same a.0 a.1).0 a.2, a.3) (b.0, b.1, (rq.same b.0 b.1).0 b.2, b.3) (are_sum_rows n V K W M tv tw) in
    record {
      generators = s.generators;
      lines = s.lines;
      sum = λ x lx. (
        λ h. let q = (s.sum x lx).0 h in record { factor = q.factor; first = q.first; second = q.second; positive = q.positive; first_cols = q.first_cols; second_cols = q.second_cols; of_first = (rp.same q.first q.first_cols).1 q.of_first; of_second = (rq.same q.second q.second_cols).1 q.of_second; sum = q.sum },
        λ q. (s.sum x lx).1 (record { factor = q.factor; first = q.first; second = q.second; positive = q.positive; first_cols = q.first_cols; second_cols = q.second_cols; of_first = (rp.same q.first q.first_cols).0 q.of_first; of_second = (rq.same q.second q.second_cols).0 q.of_second; sum = q.sum }),
      );
    }
