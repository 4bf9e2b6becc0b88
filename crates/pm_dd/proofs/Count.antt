-- Two extreme rays whose common zero rows have a rank below that of all rows less 2: some third one vanishes on all of these rows.
-- What the common zero rows send to 0 is, but for multiples of the sum of the two rays, in the cone; so where no third ray vanishes there, the two rays and the lineality span it.
use Rattle.std.specs.Prelude.{ℕ, zero, suc, ◌+◌, ◌≡◌, ◌<◌, ◌≤◌, ◌⊎◌, ◌↔◌, List, [], ◌∷◌, length}
use Rattle.std.specs.List.{Contains}
use Rattle.std.proofs.Common.{arith, sym, subst, ap, ◌∙◌, inl, inr}
use Rattle.std.proofs.lemmas.Int.{ints, by_lt_z}
use Rattle.pm_vector.specs.Rows.{Row, dot, plus, times, HasCols}
use Rattle.pm_vector.specs.Cones.{InCone, InSpan, IsIndependent}
use Rattle.pm_vector.proofs.Ring.{ring}
use Rattle.pm_vector.proofs.Signs.{mul_nonneg, weaken}
use Rattle.pm_vector.proofs.Lists.{Among, here, there, all_at, all_from, among_All, among_Contains, Contains_among}
use Rattle.pm_vector.proofs.RowLaws.{dot-plus, dot-times, dot_comm, entry-plus, entry-times, length-plus, length-times}
use Rattle.pm_vector.proofs.ConeLaws.{in_generator, in_line, in_line_opposite, in_plus, in_same, in_through}
use Rattle.pm_vector.specs.Bases.{IsRank, row_at}
use Rattle.pm_vector.proofs.Rank.{independent_are_few}
use Rattle.pm_vector.proofs.Spans.{same_span_refl, span_at, span_from, span_of, span_to, span_times}
use Rattle.pm_vector.proofs.DotLaws.{dot_span_zero}
use Rattle.pm_geom.specs.Cones.{CutOut, IsExtreme, IsOrder, Vanishes}
use Rattle.pm_geom.specs.Faces.{ray}
use Rattle.pm_geom.proofs.Polar.{cols_at, cut_at, cut_from}
use Rattle.pm_geom.proofs.Facets.{facet_rows_cut_out}
use Rattle.pm_geom.proofs.Spans.{cone_in_span, vanishing_is_null}
use Rattle.pm_geom.proofs.Independent.{decide_zero}
use Rattle.pm_geom.proofs.Dimension.{rank_exists, rank_is_left, some_basis}
use Rattle.pm_dd.specs.Description.{Adjacent}
use Rattle.pm_dd.specs.Filters.{ThirdRay, AdjacentNeedRank, FewHaveThird}
use Rattle.pm_dd.proofs.Description.{Over, used}
use Rattle.pm_dd.proofs.StepLaws.{Made, made_by, flat_on, place_of, at_place}
use native.Mathlib.Decide.{ℕ_discrete}
use lib.IntN.{ℤ, pos, neg_ℤ, ◌+ℤ◌, ◌-ℤ◌, ◌*ℤ◌}
use lib.Signed.{◌<ℤ◌, ◌≤ℤ◌, lt_z_yes}

-- ---- the rows that have product 0 with each row of a list, and how many of them are independent
pub record NullRows (n : ℕ) (X : List Row) : Type 0 where
  pub rows : List Row
  pub cols : HasCols n rows
  pub independent : IsIndependent rows
  pub null : (w : Row) → length w ≡ n → ((b : Row) → Among b X → dot b w ≡ pos 0) ↔ InSpan rows w
  pub count : (d : ℕ) → IsRank X d → length rows + d ≡ n

pub null_rows : (n : ℕ) (X : List Row) → HasCols n X → NullRows n X
null_rows n X hX =
    let (F, E, he, o, vanish, gen, cuts) = facet_rows_cut_out n [] X tt hX in
    let b = some_basis n E he in
    let vanish' : (a : Row) → length a ≡ n → Vanishes n [] X a ↔ InSpan b.rows a = λ a la. (λ v. span_from b.span ((vanish a la).0 v), λ s. (vanish a la).1 (span_to b.span s)) in
    record {
      rows = b.rows;
      cols = b.cols;
      independent = b.independent;
      null = λ w lw.
          let v = vanishing_is_null n [] X tt hX X (same_span_refl X) w lw in (
            λ z. (vanish' w lw).0 (v.1 (all_from (λ (r : Row). dot r w ≡ pos 0) X z)),
            λ s b i. all_at (λ (r : Row). dot r w ≡ pos 0) i (v.0 ((vanish' w lw).1 s)),
          );
      count = λ d k. (rank_is_left n [] X tt hX b.rows b.cols b.independent vanish' d).0 k;
    }

-- ---- a row that vanishes wherever x does, and enough of x, are in the cone
first_step : (m bx bw : ℤ) → pos 0 <ℤ m → pos 0 ≤ℤ bx → bw <ℤ pos 0 → (bx ≡ pos 0 → bw ≡ pos 0) → pos 0 ≤ℤ ((m +ℤ neg_ℤ bw) *ℤ bx +ℤ bw)
first_step m bx bw hm hx hw f =
    by_lt_z (pos 0) bx
    (λ up. let d : pos 0 ≤ℤ (bx -ℤ pos 1) = omega (arith, ints) in
    let e : pos 0 ≤ℤ neg_ℤ bw = omega (arith, ints) in
    let p = simp ring at (mul_nonneg e d) in
    let q = mul_nonneg (weaken hm) hx in
    simp ring (omega (arith, ints)))
    (λ none. absurd (let w = f (omega (arith, ints)) in omega (arith, ints)))

more_of : (m k cx cw : ℤ) → pos 0 ≤ℤ k → pos 0 ≤ℤ cx → pos 0 ≤ℤ (m *ℤ cx +ℤ cw) → pos 0 ≤ℤ ((m +ℤ k) *ℤ cx +ℤ cw)
more_of m k cx cw hk hx h = let p = mul_nonneg hk hx in simp ring (omega (arith, ints))

pub record Pushed (A : List Row) (x w : Row) : Type 0 where
  pub m : ℤ
  pub positive : pos 0 <ℤ m
  pub inside : CutOut A (plus (times m x) w)

pushed_at : {A : List Row} {x w : Row} (r : Pushed A x w) {c : Row} → Among c A → pos 0 ≤ℤ (r.m *ℤ dot c x +ℤ dot c w)
pushed_at r i = let q = simp (dot-plus, dot-times) at (cut_at _ i r.inside) in q

pub pushed : (A : List Row) (x w : Row) → CutOut A x → Over A x w → Pushed A x w
pushed [] x w hx o = record { m = pos 1; positive = lt_z_yes tt; inside = tt }
pushed (b ∷ A) x w hx o = from (pushed A x w hx.1 (λ c i. o c (there i)))
  where
    from : Pushed A x w → Pushed (b ∷ A) x w
    from r =
        by_lt_z (dot b w) (pos 0)
        (λ low. let k : pos 0 ≤ℤ neg_ℤ (dot b w) = omega (arith, ints) in
        let hm = r.positive in
        record {
          m = r.m +ℤ neg_ℤ (dot b w);
          positive = omega (arith, ints);
          inside = (
            simp (dot-plus, dot-times) (first_step r.m (dot b x) (dot b w) r.positive hx.0 low (o b here)),
            cut_from A _ (λ c i. simp (dot-plus, dot-times) (more_of r.m (neg_ℤ (dot b w)) (dot c x) (dot c w) k (cut_at x i hx.1) (pushed_at r i))),
          );
        })
        (λ ok. let p = mul_nonneg (weaken r.positive) hx.0 in record { m = r.m; positive = r.positive; inside = (simp (dot-plus, dot-times) (omega (arith, ints)), r.inside) })

module _ (n : ℕ) (A : List Row) (hA : HasCols n A) (V : List Row) (oV : IsOrder n (CutOut A) V) where
  ray_in : {v : Row} → Among v V → IsExtreme n (CutOut A) v
  ray_in i = among_All (λ v. IsExtreme n (CutOut A) v) i oV.each

  sum_zero : (b r s : Row) → pos 0 ≤ℤ dot b r → pos 0 ≤ℤ dot b s → dot b (plus r s) ≡ pos 0 → (dot b r ≡ pos 0) × (dot b s ≡ pos 0)
  sum_zero b r s hr hs e = let q = simp dot-plus at e in (omega (arith, ints), omega (arith, ints))

  -- what vanishes wherever the two rays of an adjacent pair do is spanned by them and the lineality
  module _ {r s : Row} (i : Among r V) (j : Among s V) (near : (t : Row) → Among t V → ((b : Row) → Among b A → dot b r ≡ pos 0 → dot b s ≡ pos 0 → dot b t ≡ pos 0) → (t ≡ r) ⊎ (t ≡ s)) (d : Made n A V) where
    sum_in : CutOut A (plus r s)
    sum_in = cut_from A (plus r s) (λ b l. let p = cut_at r l (ray_in i).inside in let q = cut_at s l (ray_in j).inside in simp dot-plus (omega (arith, ints)))

    both_zero : (b : Row) → Among b A → dot b (plus r s) ≡ pos 0 → (dot b r ≡ pos 0) × (dot b s ≡ pos 0)
    both_zero b l e = sum_zero b r s (cut_at r l (ray_in i).inside) (cut_at s l (ray_in j).inside) e

    pub spanned : (w : Row) → length w ≡ n → ((b : Row) → Among b A → dot b r ≡ pos 0 → dot b s ≡ pos 0 → dot b w ≡ pos 0) → InSpan (r ∷ s ∷ d.lines) w
    spanned w lw o =
        let q = pushed A (plus r s) w sum_in (λ b l e. o b l (both_zero b l e).0 (both_zero b l e).1) in
        let y = plus (times q.m (plus r s)) w in
        let ly : length (plus (times q.m (plus r s)) w) ≡ n = length-plus n (times q.m (plus r s)) w (length-times q.m (plus r s) ∙ length-plus n r s (ray_in i).cols (ray_in j).cols) lw in
        let u = used A d.lines (λ k l b m. flat_on A k (d.flat k l).1 b m) V (λ g l. (ray_in l).inside) (plus (times q.m (plus r s)) w) (d.made (plus (times q.m (plus r s)) w) ly q.inside) in
        let both : (g : Row) → Among g u.rows → InCone (r ∷ s ∷ []) d.lines g = λ g k.
        elim (near g (u.some g k).0 (λ b l zr zs. (u.some g k).1 b l (let z = o b l zr zs in simp (dot-plus, dot-times, zr, zs, z, ring)))) [
          | inl e ↦ rw e (in_generator here)
          | inr e ↦ rw e (in_generator (there here))
        ] in
        let member : InCone (r ∷ s ∷ []) d.lines (plus (times q.m (plus r s)) w) = in_through (r ∷ s ∷ []) d.lines u.rows d.lines both (λ l k. (in_line k, in_line_opposite k)) u.made in
        let inside : InSpan (r ∷ s ∷ d.lines) (plus (times q.m (plus r s)) w) = cone_in_span (r ∷ s ∷ []) d.lines member in
        in_same (record { at = λ c. simp (entry-plus, entry-times, ring) (omega (arith, ints)) }) (in_plus inside (span_times (neg_ℤ q.m) (in_plus (in_line here) (in_line (there here)))))

    -- so the null space of the rows on which they vanish has at most two dimensions more than the lineality
    pub need_rank : (e : ℕ) → IsRank A e → (X : List Row) → HasCols n X → ((b : Row) → Among b A → dot b r ≡ pos 0 → dot b s ≡ pos 0 → InSpan X b) → (k : ℕ) → IsRank X k → e ≤ k + 2
    need_rank e re X hX common k rk =
        let NX = null_rows n X hX in
        let NA = null_rows n A hA in
        let few = independent_are_few NX.rows (r ∷ s ∷ NA.rows) NX.independent (λ p lp. each NX NA (row_at NX.rows p) (at_place NX.rows p lp)) in
        let a = NX.count k rk in
        let b = NA.count e re in
        omega arith
      where
        line_in : (NA : NullRows n A) (g : Row) → Among g (r ∷ s ∷ d.lines) → InSpan (r ∷ s ∷ NA.rows) g
        line_in NA g here = in_line here
        line_in NA g (there here) = in_line (there here)
        line_in NA g (there (there l)) = span_of (r ∷ s ∷ NA.rows) NA.rows (λ h m. in_line (there (there m))) ((NA.null g (d.flat g l).0).0 (λ b m. flat_on A g (d.flat g l).1 b m))

        each : (NX : NullRows n X) (NA : NullRows n A) (w : Row) → Among w NX.rows → InSpan (r ∷ s ∷ NA.rows) w
        each NX NA w l =
            let lw = cols_at l NX.cols in
            let z = (NX.null w lw).1 (in_line l) in
            span_of (r ∷ s ∷ NA.rows) (r ∷ s ∷ d.lines) (λ g m. line_in NA g m) (spanned w lw (λ b m zr zs. dot_comm b w ∙ dot_span_zero w X b (λ x p. dot_comm w x ∙ z x p) (common b m zr zs)))

pub adjacent_need_rank : AdjacentNeedRank
adjacent_need_rank n A hA V oV d rd i j li lj adj X hX c k rk =
    need_rank n A hA V oV (at_place V i li) (at_place V j lj) near (made_by n A hA V oV) d rd X hX (λ b l. c.common b (Contains_among l)) k rk
  where
    near : (t : Row) → Among t V → ((b : Row) → Among b A → dot b (ray V i) ≡ pos 0 → dot b (ray V j) ≡ pos 0 → dot b t ≡ pos 0) → (t ≡ ray V i) ⊎ (t ≡ ray V j)
    near t m f =
        let w = place_of m in
        elim (adj.third w.0 w.1 (λ b q zi zj. rw w.2 (f b (among_Contains A q) zi zj))) [ inl e ↦ inl (sym w.2 ∙ ap (ray V) e) | inr e ↦ inr (sym w.2 ∙ ap (ray V) e) ]

-- ---- a third ray is found, or there is none
decide_over : (A : List Row) (r s t : Row) → ((b : Row) → Among b A → dot b r ≡ pos 0 → dot b s ≡ pos 0 → dot b t ≡ pos 0) ⊎ ¬ ((b : Row) → Among b A → dot b r ≡ pos 0 → dot b s ≡ pos 0 → dot b t ≡ pos 0)
decide_over [] r s t = inl (λ b i. elim i [ ])
decide_over (c ∷ A) r s t = elim (decide_over A r s t) [
  | inr out ↦ inr (λ f. out (λ b i. f b (there i)))
  | inl yes' ↦ elim (decide_zero (dot c t)) [
    | inl z ↦ inl (both yes' (λ p q. z))
    | inr nz ↦ elim (decide_zero (dot c r)) [
      | inr nr ↦ inl (both yes' (λ p q. absurd (nr p)))
      | inl zr ↦ elim (decide_zero (dot c s)) [
        | inr ns ↦ inl (both yes' (λ p q. absurd (ns q)))
        | inl zs ↦ inr (λ f. nz (f c here zr zs))
      ]
    ]
  ]
]
  where
    both : ((b : Row) → Among b A → dot b r ≡ pos 0 → dot b s ≡ pos 0 → dot b t ≡ pos 0) → (dot c r ≡ pos 0 → dot c s ≡ pos 0 → dot c t ≡ pos 0) → (b : Row) → Among b (c ∷ A) → dot b r ≡ pos 0 → dot b s ≡ pos 0 → dot b t ≡ pos 0
    both f g b here = g
    both f g b (there i) = f b i

module _ (A V : List Row) (i j : ℕ) where
  pub NoneBelow : ℕ → Type 0
  NoneBelow m = (k : ℕ) → k < m → ((b : Row) → Contains A b → dot b (ray V i) ≡ pos 0 → dot b (ray V j) ≡ pos 0 → dot b (ray V k) ≡ pos 0) → (k ≡ i) ⊎ (k ≡ j)

  one_more : (m : ℕ) → NoneBelow m → (((b : Row) → Contains A b → dot b (ray V i) ≡ pos 0 → dot b (ray V j) ≡ pos 0 → dot b (ray V m) ≡ pos 0) → (m ≡ i) ⊎ (m ≡ j)) → NoneBelow (suc m)
  unfolding NoneBelow
  one_more m f g k l = elim (ℕ_discrete k m) [ yes e ↦ subst (λ (q : ℕ). ((b : Row) → Contains A b → dot b (ray V i) ≡ pos 0 → dot b (ray V j) ≡ pos 0 → dot b (ray V q) ≡ pos 0) → (q ≡ i) ⊎ (q ≡ j)) (sym e) g | no ne ↦ f k (omega arith) ]

  pub find_third : (m : ℕ) → m ≤ length V → ((k : ℕ) × ThirdRay A V i j k) ⊎ NoneBelow m
  unfolding NoneBelow
  find_third zero l = inr (λ k q. absurd (omega arith))
  find_third (suc m) l = elim (find_third m (omega arith)) [
    | inl w ↦ inl w
    | inr f ↦ elim (ℕ_discrete m i) [
      | yes e ↦ inr (one_more m f (λ g. inl e))
      | no ne ↦ elim (ℕ_discrete m j) [
        | yes e' ↦ inr (one_more m f (λ g. inr e'))
        | no ne' ↦ elim (decide_over A (ray V i) (ray V j) (ray V m)) [
          | inl o ↦ inl (m, record { within = omega arith; not_first = ne; not_second = ne'; over = λ b c. o b (among_Contains A c) })
          | inr no' ↦ inr (one_more m f (λ g. absurd (no' (λ b k. g b (Contains_among k)))))
        ]
      ]
    ]
  ]

  pub adjacent_or_third : ((k : ℕ) × ThirdRay A V i j k) ⊎ Adjacent A V i j
  unfolding NoneBelow
  adjacent_or_third = elim (find_third (length V) (omega arith)) [ inl w ↦ inl w | inr f ↦ inr (record { third = f }) ]

-- the rank is at most the number of rows
pub rank_few : (X : List Row) (k : ℕ) → IsRank X k → k ≤ length X
rank_few X k r = let few = independent_are_few r.basis X r.independent (λ i l. span_to r.span (span_at i l)) in let e = r.as_many in omega arith

pub few_have_third : FewHaveThird
few_have_third n A hA V oV d rd i j li lj X hX c few = elim (adjacent_or_third A V i j) [
  | inl w ↦ w
  | inr adj ↦ absurd (let (k, rk) = rank_exists n X hX in
      let p = adjacent_need_rank n A hA V oV d rd i j li lj adj X hX c k rk in
      let q = rank_few X k rk in
      omega arith)
]
