-- Walks to a place s along edges on which b / c falls, where b is 0 on the ray at s and positive on the others, and c is positive on all rays.
use Rattle.pm_vector.proofs.ConeLaws.{dot_in, in_generator}
use Rattle.pm_vector.proofs.Lists.{Among, here, there}
use Rattle.pm_vector.proofs.Ring.{ring}
use Rattle.pm_vector.proofs.RowLaws.{dot-difference, dot_comm}
use Rattle.pm_vector.proofs.Signs.{mul_pos, pos_cancel}
use Rattle.pm_vector.specs.Cones.{InCone, InSpan}
use Rattle.pm_vector.specs.Rows.{HasCols, Row, difference, dot}
use Rattle.pm_vector.proofs.Spans.{at_place, place_of}
use Rattle.pm_geom.proofs.Apart.{without, without_to}
use Rattle.pm_geom.proofs.Faces.{difference-dot}
use Rattle.pm_geom.proofs.Facets.{order_as, order_generates}
use Rattle.pm_geom.proofs.Polar.{cols_at, cut_at, cut_or_below}
use Rattle.pm_geom.proofs.Reduce.{extremes_generate}
use Rattle.pm_geom.proofs.Spans.{order_cols}
use Rattle.pm_geom.specs.Cones.{IsExtreme, CutOut, InLineality, IsOrder, IsValid}
use Rattle.pm_geom.specs.Faces.{ray}
use Rattle.pm_geom.specs.Graphs.{IsEdge, IsWalk}
use Rattle.pm_ranks.proofs.Edges.{EdgeRow, Near, edge_row, near}
use Rattle.pm_ranks.proofs.Rays.{Alone, alone, distinct, edge, extreme_in}
use Rattle.pm_ranks.proofs.Sharp.{above_all, valid_line}
use Rattle.pm_ranks.specs.Laws.{GraphIsConnected}
use Rattle.std.proofs.Common.{arith, inl, inr, refl, subst, sym, ◌∙◌}
use Rattle.std.proofs.lemmas.Int.{by_lt_z, ints}
use Rattle.std.specs.Prelude.{List, [], length, suc, zero, ℕ, ◌-◌, ◌<◌, ◌↔◌, ◌∷◌, ◌≡◌, ◌≤◌, ◌⊎◌}
use lib.IntN.{*ℤ_comm, pos, ℤ, ◌*ℤ◌, ◌-ℤ◌}
use lib.Signed.{◌<ℤ◌}

-- ---- one element less
without_length : {t : Row} {U : List Row} (i : Among t U) → suc (length (without i)) ≡ length U
unfolding without
without_length here = refl
without_length (there i) = let h = without_length i in omega arith

without_at : {t v : Row} {U : List Row} (i : Among t U) → Among v U → (v ≡ t) ⊎ Among v (without i)
without_at i j = first (without_to i j)
  where
    first : {t v : Row} {W : List Row} → Among v (t ∷ W) → (v ≡ t) ⊎ Among v W
    first here = inl refl
    first (there k) = inr k

-- ---- quotients
falls : (cr br ct bt cu bu : ℤ) → pos 0 <ℤ cr → pos 0 <ℤ ct → pos 0 <ℤ cu → (cr *ℤ bt) <ℤ (br *ℤ ct) → (ct *ℤ bu) <ℤ (bt *ℤ cu) → (cr *ℤ bu) <ℤ (br *ℤ cu)
falls cr br ct bt cu bu hr ht hu e f =
    let d : pos 0 <ℤ (br *ℤ ct -ℤ cr *ℤ bt) = omega (arith, ints) in
    let g : pos 0 <ℤ (bt *ℤ cu -ℤ ct *ℤ bu) = omega (arith, ints) in
    let p = simp ring at (mul_pos hu d) in
    let q = simp ring at (mul_pos hr g) in
    let w : pos 0 <ℤ (br *ℤ cu -ℤ cr *ℤ bu) = pos_cancel ht (simp ring (omega (arith, ints))) in
    omega (arith, ints)

module _ (n : ℕ) (V K : List Row) (hv : HasCols n V) (hk : HasCols n K) (o : IsOrder n (InCone V K) V) where
  abbrev ex : (v : Row) → Among v V → IsExtreme n (InCone V K) v
  ex = extreme_in n V K hv hk o

  module _ (s : ℕ) (ls : s < length V) (b : Alone n V K hv hk o s) (c : Row) (vc : IsValid n V K c) (up : (v : Row) → Among v V → pos 0 <ℤ dot c v) where
    -- b / c is less at v than at r
    unfoldable Lower : Row → Row → Type 0
    Lower r v = (dot c r *ℤ dot b.a v) <ℤ (dot b.a r *ℤ dot c v)

    lower_trans : (r t u : Row) → Among r V → Among t V → Among u V → Lower r t → Lower t u → Lower r u
    unfolding Lower
    lower_trans r t u ir it iu e f = falls (dot c r) (dot b.a r) (dot c t) (dot b.a t) (dot c u) (dot b.a u) (up r ir) (up t it) (up u iu) e f

    lower_apart : (r : Row) → ¬ (Lower r r)
    unfolding Lower
    lower_apart r e = omega (arith, ints, *ℤ_comm (dot c r) (dot b.a r))

    record Found (r : Row) (ir : Among r V) : Type 0 where
      t : Row
      place : Among t V
      lower : Lower r t
      row : EdgeRow n V K hv hk ex r ir t

    -- some neighbour is lower, since the ray at s is
    find : (r : Row) (ir : Among r V) → pos 0 <ℤ dot b.a r → Found r ir
    unfolding Lower
    find r ir br = elim (cut_or_below m.rows phi) [ inl h ↦ absurd (none h) | inr w ↦ found w.0 w.1 w.2 ]
      where
        m : Near n V K hv hk ex r ir
        m = near n V K hv hk ex r ir

        phi : Row
        phi = difference (dot c r) b.a (dot b.a r) c

        found : (t : Row) → Among t m.rows → dot t phi <ℤ pos 0 → Found r ir
        found t i h = record {
          t = t;
          place = m.some t i;
          lower = let q = dot-difference t (dot c r) b.a (dot b.a r) c in let x = dot_comm t b.a in let y = dot_comm t c in let z = simp (q, x, y) at h in omega (arith, ints);
          row = edge_row n V K hv hk ex r ir t (m.some t i) (m.each t i);
        }

        line : (w : Row) → length w ≡ n → InLineality (InCone V K) w → dot phi w ≡ pos 0
        line w lw k = let x = valid_line n V K b.a b.valid w lw k in let y = valid_line n V K c vc w lw k in difference-dot (dot c r) b.a (dot b.a r) c w ∙ simp (x, y, ring)

        here_null : dot phi r ≡ pos 0
        here_null = difference-dot (dot c r) b.a (dot b.a r) c r ∙ omega (arith, ints, *ℤ_comm (dot c r) (dot b.a r))

        none : CutOut m.rows phi → ⊥
        none h =
            let is = at_place V s ls in
            let p = dot_in phi m.rows m.lines (λ t i. rw dot_comm (cut_at phi i h)) (λ l i. m.null phi here_null line l i) (m.enough (ray V s) (in_generator is)) in
            let z = b.zero_at in
            let e = difference-dot (dot c r) b.a (dot b.a r) c (ray V s) in
            let q = mul_pos br (up (ray V s) is) in
            let y = simp (z, ring) at e in
            omega (arith, ints)

    record Step (i : ℕ) : Type 0 where
      j : ℕ
      below : j < length V
      lower : Lower (ray V i) (ray V j)
      edge_to : IsEdge n V K V i j

    to_step : (i : ℕ) (li : i < length V) (f : Found (ray V i) (at_place V i li)) (j : ℕ) → j < length V → ray V j ≡ f.t → Step i
    to_step i li f j lj e = record { j = j; below = lj; lower = low; edge_to = edge n V K hv hk o i j li lj apart (subst (λ t. EdgeRow n V K hv hk ex (ray V i) (at_place V i li) t) (sym e) f.row) }
      where
        low : Lower (ray V i) (ray V j)
        low = subst (λ t. Lower (ray V i) t) (sym e) f.lower

        apart : ¬ (i ≡ j)
        apart q = lower_apart (ray V i) (subst (λ x. Lower (ray V i) (ray V x)) (sym q) low)

    step : (i : ℕ) → i < length V → pos 0 <ℤ dot b.a (ray V i) → Step i
    step i li br = let f = find (ray V i) (at_place V i li) br in let w = place_of f.place in to_step i li f w.0 w.1 w.2

    stop : (i : ℕ) → i < length V → ¬ (pos 0 <ℤ dot b.a (ray V i)) → i ≡ s
    stop i li h = elim (b.others (ray V i) (at_place V i li)) [ inl t ↦ sym (distinct n V K hv hk o s i ls li t) | inr g ↦ absurd (h g) ]

    -- the lower rows are in the list without the one that was found
    fewer : (U : List Row) (i : ℕ) (li : i < length V) → ((v : Row) → Among v V → Lower (ray V i) v → Among v U) → (t : Step i) → (it : Among (ray V t.j) U) → (v : Row) → Among v V → Lower (ray V t.j) v → Among v (without it)
    fewer U i li inv t it v iv low = elim (without_at it (inv v iv (lower_trans (ray V i) (ray V t.j) v (at_place V i li) (at_place V t.j t.below) iv t.lower low))) [
      | inl e ↦ absurd (lower_apart (ray V t.j) (subst (λ x. Lower (ray V t.j) x) e low))
      | inr k ↦ k
    ]

    none_left : {t : Row} (U : List Row) → length U ≤ 0 → Among t U → ⊥
    none_left [] l i = elim i [ ]
    none_left (u ∷ U) l i = omega arith

    walk : (k : ℕ) (U : List Row) → length U ≤ k → (i : ℕ) → i < length V → ((v : Row) → Among v V → Lower (ray V i) v → Among v U) → (h : ℕ) × (h ≤ k) × IsWalk (IsEdge n V K V) i s h
    walk zero U l i li inv = by_lt_z (pos 0) (dot b.a (ray V i))
        (λ br. let t = step i li br in absurd (none_left U l (inv (ray V t.j) (at_place V t.j t.below) t.lower)))
        (λ low. (0, omega arith, stop i li (λ h. omega (arith, ints))))
    walk (suc k) U l i li inv = by_lt_z (pos 0) (dot b.a (ray V i))
        (λ br. let t = step i li br in
        let it = inv (ray V t.j) (at_place V t.j t.below) t.lower in
        let w = walk k (without it) (let e = without_length it in omega arith) t.j t.below (fewer U i li inv t it) in
        (suc w.0, (let l = w.1 in omega arith), (t.j, t.edge_to, w.2)))
        (λ low. (0, omega arith, stop i li (λ h. omega (arith, ints))))

    -- from i, the lower rows are among those but the one at i
    walk_from : (i : ℕ) → i < length V → (h : ℕ) × (h < length V) × IsWalk (IsEdge n V K V) i s h
    walk_from i li =
        let ii = at_place V i li in
        let e = without_length ii in
        let w = walk (length V - 1) (without ii) (omega arith) i li (λ v iv low. elim (without_at ii iv) [ inl q ↦ absurd (lower_apart (ray V i) (subst (λ x. Lower (ray V i) x) q low)) | inr k ↦ k ]) in
        (w.0, (let l = w.1 in omega arith), w.2)

  pub connected : (i s : ℕ) → i < length V → s < length V → (h : ℕ) × (h < length V) × IsWalk (IsEdge n V K V) i s h
  connected i s li ls =
      let c = above_all n V K hv hk V (λ y i. (cols_at i hv, in_generator i)) in
      walk_from s ls (alone n V K hv hk o s ls) c.a c.valid (λ v i. elim (c.above v i) [ inl h ↦ absurd ((ex v i).not_line h) | inr h ↦ h ]) i li

-- ---- any generators
module _ (n : ℕ) (G L : List Row) (hg : HasCols n G) (hl : HasCols n L) (V K : List Row) (hk : HasCols n K) (o : IsOrder n (InCone G L) V) (line : (x : Row) → length x ≡ n → InLineality (InCone G L) x ↔ InSpan K x) where
  to : (x : Row) → length x ≡ n → InCone G L x → InCone V K x
  to x lx = (order_generates n G L hg hl V K hk o line x lx).0

  from : (x : Row) → length x ≡ n → InCone V K x → InCone G L x
  from x lx = (order_generates n G L hg hl V K hk o line x lx).1

  edge_as : (i j : ℕ) → IsEdge n V K V i j → IsEdge n G L V i j
  edge_as i j e = record {
    first = e.first;
    second = e.second;
    apart = e.apart;
    face = record { a = e.face.a; valid = record { cols = e.face.valid.cols; holds = λ x lx h. e.face.valid.holds x lx (to x lx h) }; places = e.face.places };
  }

  walk_as : (h i j : ℕ) → IsWalk (IsEdge n V K V) i j h → IsWalk (IsEdge n G L V) i j h
  walk_as zero i j w = w
  walk_as (suc h) i j w = (w.0, edge_as i w.0 w.1, walk_as h w.0 j w.2)

  joined : (i j : ℕ) → i < length V → j < length V → (h : ℕ) × (h < length V) × IsWalk (IsEdge n G L V) i j h
  joined i j li lj =
      let w = connected n V K (order_cols n (InCone G L) V o) hk (order_as n (InCone G L) (InCone V K) to from o) i j li lj in
      (w.0, w.1, walk_as w.0 i j w.2)

pub graph_is_connected : GraphIsConnected
graph_is_connected n G L hg hl V o i j li lj =
    let (V0, K, hk, o0, line, gen) = extremes_generate n G L hg hl in
    joined n G L hg hl V K hk o line i j li lj
