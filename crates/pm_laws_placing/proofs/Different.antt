-- New cells differ: two with the same wall come from one facet and from one cell.
use Rattle.pm_vector.proofs.ConeLaws.{combination_none, dot_combination_lines, in_combination_lines, in_generator, in_line, in_line_opposite, in_plus, in_same, in_times, in_zero}
use Rattle.pm_vector.proofs.Lists.{Among, Contains_among, among_Contains, among_append, among_append_left, among_append_right, here, there}
use Rattle.pm_vector.proofs.Ring.{ring}
use Rattle.pm_vector.proofs.RowLaws.{dot-difference, dot-nil, dot-plus, dot-same, dot-times, dot_comm, entry-difference, entry-plus, entry-times, length-difference, length-opposite}
use Rattle.pm_vector.proofs.Signs.{mul_pos, weaken}
use Rattle.pm_vector.specs.Cones.{InCone, InSpan, combination}
use Rattle.pm_vector.specs.Rows.{HasCols, Row, difference, dot, entry, opposite, plus, times}
use Rattle.pm_vector.proofs.Spans.{span_of}
use Rattle.pm_laws_placing.proofs.CellMasks.{Without, among_rows_at, rows_at_among, shared_to, without}
use Rattle.pm_laws_placing.proofs.CellSteps.{Carried}
use Rattle.pm_laws_placing.proofs.FacetSpans.{on_lines}
use Rattle.pm_laws_placing.specs.Placing.{IsOnlyOff}
use Rattle.pm_geom.specs.Triangulations.{rows_at, shared}
use Rattle.pm_geom.proofs.Facets.{opposite-dot, valid_by_products}
use Rattle.pm_geom.proofs.Independent.{combination_append}
use Rattle.pm_geom.proofs.Polar.{cols_at}
use Rattle.pm_geom.proofs.ValidRows.{null_in}
use Rattle.pm_geom.specs.Cones.{IsFacetRow, IsValid, SameModulo}
use Rattle.pm_geom.specs.Faces.{ray}
use Rattle.std.specs.Prelude.{ℕ, ◌≡◌, List, [], ◌∷◌, ◌++◌, drop, length, take}
use Rattle.std.proofs.Common.{arith, ap, refl, sym, subst, ◌∙◌, inl, inr}
use Rattle.std.proofs.lemmas.Int.{ints, by_lt_z}
use native.Mathlib.Decide.{ℕ_discrete}
use lib.IntN.{ℤ, pos, neg_ℤ, ◌+ℤ◌, ◌-ℤ◌, ◌*ℤ◌}
use lib.Signed.{◌<ℤ◌, ◌≤ℤ◌, lt_z_yes}

module _ (n : ℕ) (G L : List Row) (P : List ℕ) (T : List (List ℕ)) (hW : HasCols n (rows_at G P)) (hL : HasCols n L) (carried : Carried G L P T) (a a' : Row) (fa : IsFacetRow n (rows_at G P) L a) (fa' : IsFacetRow n (rows_at G P) L a') (s : List ℕ) (is : Among s T) (i : ℕ) (off : IsOnlyOff G a s i)
    (wall : (k : ℕ) → Among k s → ¬ (k ≡ i) → dot a' (ray G k) ≡ pos 0) where
  i_in : Among i P
  i_in = carried.inside s is i (among_Contains s off.member)

  i_row : Among (ray G i) (rows_at G P)
  i_row = among_rows_at G P i i_in

  -- a row that is 0 on the ray that is off, the others and the lines is 0 on all rows
  null_all : (b : Row) → dot b (ray G i) ≡ pos 0 → ((k : ℕ) → Among k s → ¬ (k ≡ i) → dot b (ray G k) ≡ pos 0) → ((l : Row) → Among l L → dot b l ≡ pos 0) → (w : Row) → Among w (rows_at G P) → dot b w ≡ pos 0
  null_all b zi zo zl w iw =
      let r = rows_at_among G P w iw in
      subst (λ (x : Row). dot b x ≡ pos 0) r.2 (null_in b [] (rows_at G s ++ L) (λ g k. elim k [ ]) each (carried.spans s is r.0 r.1))
    where
      each : (l : Row) → Among l (rows_at G s ++ L) → dot b l ≡ pos 0
      each l k = elim (among_append (rows_at G s) L k) [
        | inr m ↦ zl l m
        | inl m ↦ let v = rows_at_among G s l m in subst (λ (x : Row). dot b x ≡ pos 0) v.2 (elim (ℕ_discrete v.0 i) [ yes e ↦ subst (λ (p : ℕ). dot b (ray G p) ≡ pos 0) (sym e) zi | no ne ↦ zo v.0 v.1 ne ])
      ]

  up : pos 0 <ℤ dot a (ray G i)
  up = let p = fa.inside.holds (ray G i) (cols_at i_row hW) (in_generator i_row) in by_lt_z (pos 0) (dot a (ray G i)) (λ h. h) (λ h. absurd (off.off (omega (arith, ints))))

  -- the other facet row is positive on the ray that is off, too
  up' : pos 0 <ℤ dot a' (ray G i)
  up' =
      let p = fa'.inside.holds (ray G i) (cols_at i_row hW) (in_generator i_row) in
      by_lt_z (pos 0) (dot a' (ray G i)) (λ h. h)
      (λ h. absurd (fa'.not_line (valid_by_products n (rows_at G P) L hW hL (opposite a') (length-opposite a' ∙ fa'.cols)
      (λ g ig. let z = null_all a' (omega (arith, ints)) wall (λ l il. on_lines n (rows_at G P) L hL a' fa'.inside l il) g ig in rw opposite-dot (omega (arith, ints)))
      (λ l il. let z = on_lines n (rows_at G P) L hL a' fa'.inside l il in rw opposite-dot (omega (arith, ints))))))

  rest : Row
  rest = difference (dot a (ray G i)) a' (dot a' (ray G i)) a

  difference-dot : (p : ℤ) (x : Row) (q : ℤ) (y b : Row) → dot (difference p x q y) b ≡ p *ℤ dot x b -ℤ q *ℤ dot y b
  difference-dot p x q y b = dot_comm (difference p x q y) b ∙ dot-difference b p x q y ∙ (let e = dot_comm b x in let f = dot_comm b y in simp (e, f))

  zero_of : (p q x y : ℤ) → x ≡ pos 0 → y ≡ pos 0 → p *ℤ x -ℤ q *ℤ y ≡ pos 0
  zero_of p q x y e f = simp (e, f, ring)

  rest_lines : (l : Row) → Among l L → dot rest l ≡ pos 0
  unfolding rest
  rest_lines l il = difference-dot (dot a (ray G i)) a' (dot a' (ray G i)) a l ∙ zero_of (dot a (ray G i)) (dot a' (ray G i)) (dot a' l) (dot a l) (on_lines n (rows_at G P) L hL a' fa'.inside l il) (on_lines n (rows_at G P) L hL a fa.inside l il)

  rest_null : (w : Row) → Among w (rows_at G P) → dot rest w ≡ pos 0
  unfolding rest
  rest_null w iw = null_all rest
      (difference-dot (dot a (ray G i)) a' (dot a' (ray G i)) a (ray G i) ∙ simp ring (omega (arith, ints)))
      (λ k ks ne. difference-dot (dot a (ray G i)) a' (dot a' (ray G i)) a (ray G k) ∙ zero_of (dot a (ray G i)) (dot a' (ray G i)) (dot a' (ray G k)) (dot a (ray G k)) (wall k ks ne) (off.others k (Contains_among ks) ne))
      rest_lines w iw

  length-rest : length rest ≡ n
  unfolding rest
  length-rest = length-difference n (dot a (ray G i)) a' (dot a' (ray G i)) a fa'.cols fa.cols

  -- two facet rows with a wall in common are one facet
  pub same_facet : SameModulo n (IsValid n (rows_at G P) L) a a'
  unfolding rest
  same_facet = record {
    p = dot a (ray G i);
    k = dot a' (ray G i);
    w = rest;
    cols = length-rest;
    p_positive = up;
    k_positive = up';
    line = record {
      inside = valid_by_products n (rows_at G P) L hW hL rest length-rest (λ g ig. let z = rest_null g ig in omega (arith, ints)) rest_lines;
      opposed = valid_by_products n (rows_at G P) L hW hL (opposite rest) (length-opposite rest ∙ length-rest) (λ g ig. let z = rest_null g ig in rw opposite-dot (omega (arith, ints))) (λ l il. let z = rest_lines l il in rw opposite-dot (omega (arith, ints)));
    };
    same = record { at = λ e. simp (entry-times, entry-plus, entry-difference) (omega (arith, ints)) };
  }

-- ---- a sum raised by all rows
total : List Row → Row
total [] = []
total (y ∷ Y) = plus y (total Y)

record Raised (X K : List Row) (d : List ℤ) (Y : List Row) : Type 0 where
  n : ℤ
  positive : pos 0 <ℤ n
  above : InCone X K (plus (combination d Y) (times n (total Y)))

in_total : (X K Y : List Row) → ((y : Row) → Among y Y → InCone X K y) → InCone X K (total Y)
unfolding total
in_total X K [] f = in_zero (λ i. refl)
in_total X K (y ∷ Y) f = in_plus (f y here) (in_total X K Y (λ z i. f z (there i)))

raised_sum : (X K : List Row) (d : List ℤ) (Y : List Row) → ((y : Row) → Among y Y → InCone X K y) → Raised X K d Y
unfolding total
raised_sum X K [] Y f = record { n = pos 1; positive = lt_z_yes tt; above = in_same (record { at = λ i. simp (entry-times, ring) }) (in_total X K Y f) }
raised_sum X K (k ∷ d) [] f = record { n = pos 1; positive = lt_z_yes tt; above = in_zero (λ i. refl) }
raised_sum X K (k ∷ d) (y ∷ Y) f =
    let r = raised_sum X K d Y (λ z i. f z (there i)) in
    let t = in_total X K Y (λ z i. f z (there i)) in
    let n0 = r.positive in
    by_lt_z k (pos 0)
    (λ neg. record {
      n = r.n -ℤ k;
      positive = omega (arith, ints);
      above = in_same (record { at = λ i. simp (entry-plus, entry-times, ring) (omega (arith, ints)) }) (in_plus (in_times (weaken r.positive) (f y here)) (in_plus r.above (in_times {k = neg_ℤ k} (omega (arith, ints)) t)));
    })
    (λ ok. record {
      n = r.n;
      positive = r.positive;
      above = in_same (record { at = λ i. simp (entry-plus, entry-times, ring) (omega (arith, ints)) }) (in_plus (in_times {k = r.n +ℤ k} (omega (arith, ints)) (f y here)) r.above);
    })

dot_total : (a : Row) (Y : List Row) → ((y : Row) → Among y Y → dot a y ≡ pos 0) → dot a (total Y) ≡ pos 0
unfolding total
dot_total a [] f = dot-nil a
dot_total a (y ∷ Y) f = let p = f y here in let q = dot_total a Y (λ z i. f z (there i)) in simp dot-plus (omega (arith, ints))

sign_of : (m k x y : ℤ) → pos 0 <ℤ m → pos 0 <ℤ x → pos 0 <ℤ y → m *ℤ x ≡ k *ℤ y → pos 0 ≤ℤ k
sign_of m k x y hm hx hy e =
    by_lt_z k (pos 0)
    (λ neg. let p = mul_pos hm hx in let n : pos 0 <ℤ neg_ℤ k = omega (arith, ints) in let q = simp ring at (mul_pos n hy) in absurd (omega (arith, ints)))
    (λ ok. ok)

-- ---- two cells with one wall on one facet row are one cell
module _ (n : ℕ) (G L : List Row) (P : List ℕ) (T : List (List ℕ)) (hW : HasCols n (rows_at G P)) (hL : HasCols n L) (carried : Carried G L P T) (a : Row) (fa : IsFacetRow n (rows_at G P) L a) (s s' : List ℕ) (is : Among s T) (is' : Among s' T) (i i' : ℕ) (off : IsOnlyOff G a s i) (off' : IsOnlyOff G a s' i')
    (to : (k : ℕ) → Among k s → ¬ (k ≡ i) → Among k s') (from : (k : ℕ) → Among k s' → ¬ (k ≡ i') → ¬ (k ≡ i))
    (meets : (x : Row) → InCone (rows_at G s) L x → InCone (rows_at G s') L x → InCone (rows_at G (shared s s')) L x) (differ : ¬ (i ≡ i')) where
  other : Without i s
  other = without i s

  Yw : List Row
  Yw = rows_at G other.rest

  off_sign : (t : List ℕ) → Among t T → (k : ℕ) → IsOnlyOff G a t k → pos 0 <ℤ dot a (ray G k)
  off_sign t it k o =
      let r = among_rows_at G P k (carried.inside t it k (among_Contains t o.member)) in
      let p = fa.inside.holds (ray G k) (cols_at r hW) (in_generator r) in
      by_lt_z (pos 0) (dot a (ray G k)) (λ h. h) (λ h. absurd (o.off (omega (arith, ints))))

  null_Yw : (y : Row) → Among y Yw → dot a y ≡ pos 0
  unfolding Yw
  null_Yw y iy = let w = rows_at_among G other.rest y iy in let q = other.to w.0 w.1 in subst (λ (x : Row). dot a x ≡ pos 0) w.2 (off.others w.0 (Contains_among q.0) q.1)

  null_rest : (y : Row) → Among y (Yw ++ L) → dot a y ≡ pos 0
  null_rest y iy = elim (among_append Yw L iy) [ inl m ↦ null_Yw y m | inr m ↦ on_lines n (rows_at G P) L hL a fa.inside y m ]

  in_first : (y : Row) → Among y Yw → InCone (rows_at G s) L y
  unfolding Yw
  in_first y iy = let w = rows_at_among G other.rest y iy in subst (λ (x : Row). InCone (rows_at G s) L x) w.2 (in_generator (among_rows_at G s w.0 (other.to w.0 w.1).0))

  in_second : (y : Row) → Among y Yw → InCone (rows_at G s') L y
  unfolding Yw
  in_second y iy = let w = rows_at_among G other.rest y iy in let q = other.to w.0 w.1 in subst (λ (x : Row). InCone (rows_at G s') L x) w.2 (in_generator (among_rows_at G s' w.0 (to w.0 q.0 q.1)))

  spanned : InSpan (ray G i ∷ (Yw ++ L)) (ray G i')
  unfolding Yw
  spanned = span_of (ray G i ∷ (Yw ++ L)) (rows_at G s ++ L) each (carried.spans s is i' (carried.inside s' is' i' (among_Contains s' off'.member)))
    where
      each : (r : Row) → Among r (rows_at G s ++ L) → InSpan (ray G i ∷ (rows_at G other.rest ++ L)) r
      each r k = elim (among_append (rows_at G s) L k) [
        | inr m ↦ in_line (there (among_append_right (rows_at G other.rest) m))
        | inl m ↦ let w = rows_at_among G s r m in subst (λ (x : Row). InSpan (ray G i ∷ (rows_at G other.rest ++ L)) x) w.2 (elim (ℕ_discrete w.0 i) [
          | yes e ↦ subst (λ (p : ℕ). InSpan (ray G i ∷ (rows_at G other.rest ++ L)) (ray G p)) (sym e) (in_line here)
          | no ne ↦ in_line (there (among_append_left L (among_rows_at G other.rest w.0 (other.from w.0 w.1 ne))))
        ])
      ]

  -- a row that is shared lies on the facet
  null_shared : (y : Row) → Among y (rows_at G (shared s s')) → dot a y ≡ pos 0
  null_shared y iy =
      let w = rows_at_among G (shared s s') y iy in
      let q = shared_to s s' w.0 w.1 in
      subst (λ (x : Row). dot a x ≡ pos 0) w.2 (elim (ℕ_discrete w.0 i') [
        | yes e ↦ off.others w.0 (Contains_among q.0) (λ f. differ (sym f ∙ e))
        | no ne ↦ off.others w.0 (Contains_among q.0) (from w.0 q.1 ne)
      ])

  module _ (m k : ℤ) (d : List ℤ) (hm : pos 0 <ℤ m) (same : (e : ℕ) → m *ℤ entry (ray G i') e ≡ k *ℤ entry (ray G i) e +ℤ entry (combination d (Yw ++ L)) e) where
    first_part : List ℤ
    first_part = take (length Yw) d

    last_part : List ℤ
    last_part = drop (length Yw) d

    products : m *ℤ dot a (ray G i') ≡ k *ℤ dot a (ray G i)
    products =
        let z = dot_combination_lines a d (Yw ++ L) null_rest in
        let e = dot-same a (times m (ray G i')) (plus (times k (ray G i)) (combination d (Yw ++ L))) (λ e. entry-times m (ray G i') e ∙ same e ∙ sym (entry-plus (times k (ray G i)) (combination d (Yw ++ L)) e ∙ ap (λ t. t +ℤ entry (combination d (Yw ++ L)) e) (entry-times k (ray G i) e))) in
        let f = simp (dot-times, dot-plus) at e in
        omega (arith, ints)

    k_sign : pos 0 ≤ℤ k
    k_sign = sign_of m k (dot a (ray G i')) (dot a (ray G i)) hm (off_sign s' is' i' off') (off_sign s is i off) products

    high : Raised (rows_at G s) L first_part Yw
    high = raised_sum (rows_at G s) L first_part Yw in_first

    point : Row
    point = plus (times m (ray G i')) (times high.n (total Yw))

    point_first : InCone (rows_at G s) L point
    unfolding point first_part last_part
    point_first = in_same (record { at = λ e. let p = same e in let q = combination_append Yw L d e in simp (entry-plus, entry-times) (omega (arith, ints)) })
        (in_plus (in_times k_sign (in_generator (among_rows_at G s i (among_Contains s off.member)))) (in_plus high.above (in_combination_lines (rows_at G s) L (drop (length Yw) d) L (λ l il. (in_line il, in_line_opposite il)))))

    point_second : InCone (rows_at G s') L point
    unfolding point
    point_second = in_plus (in_times (weaken hm) (in_generator (among_rows_at G s' i' (among_Contains s' off'.member)))) (in_times (weaken high.positive) (in_total (rows_at G s') L Yw in_second))

    not_both : ⊥
    unfolding point
    not_both =
        let z = null_in a (rows_at G (shared s s')) L null_shared (λ l il. on_lines n (rows_at G P) L hL a fa.inside l il) (meets point point_first point_second) in
        let y = simp (dot-plus, dot-times) at z in
        let t = dot_total a Yw null_Yw in
        let u = mul_pos hm (off_sign s' is' i' off') in
        let w = high_zero high.n (dot a (total Yw)) t in
        omega (arith, ints)
      where
        high_zero : (p t : ℤ) → t ≡ pos 0 → p *ℤ t ≡ pos 0
        high_zero p t e = simp (e, ring)

  pub same_cell : ⊥
  same_cell = go spanned.d spanned.same.at
    where
      go : (d : List ℤ) → ((e : ℕ) → entry (times spanned.m (ray G i')) e ≡ entry (plus (combination spanned.c []) (combination d (ray G i ∷ (Yw ++ L)))) e) → ⊥
      go [] f = not_both spanned.m (pos 0) [] spanned.positive (λ e. let p = f e in let c = combination_none spanned.c e in let q = entry-plus (combination spanned.c []) [] e in let r = entry-times spanned.m (ray G i') e in simp ring (omega (arith, ints)))
      go (k ∷ d) f = not_both spanned.m k d spanned.positive (λ e. let p = f e in let c = combination_none spanned.c e in let r = entry-times spanned.m (ray G i') e in let q = entry-plus (combination spanned.c []) (plus (times k (ray G i)) (combination d (Yw ++ L))) e ∙ ap (λ t. entry (combination spanned.c []) e +ℤ t) (entry-plus (times k (ray G i)) (combination d (Yw ++ L)) e ∙ ap (λ t. t +ℤ entry (combination d (Yw ++ L)) e) (entry-times k (ray G i) e)) in omega (arith, ints))
