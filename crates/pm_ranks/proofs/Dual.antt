-- The graph of the facets is that of the extreme rays of the cone of the valid rows.
use Rattle.pm_vector.proofs.ConeLaws.{dot_in, in_line}
use Rattle.pm_vector.proofs.Lists.{Among, among_All}
use Rattle.pm_vector.proofs.Ring.{ring}
use Rattle.pm_vector.proofs.RowLaws.{dot_comm, length-plus, plus-dot}
use Rattle.pm_vector.specs.Cones.{InCone, InSpan}
use Rattle.pm_vector.specs.Rows.{HasCols, Row, difference, dot, plus}
use Rattle.pm_vector.proofs.Spans.{at_place, place_of}
use Rattle.pm_geom.proofs.Faces.{difference-dot}
use Rattle.pm_geom.proofs.Facets.{Duals, duals, order_as, order_generates}
use Rattle.pm_geom.proofs.Polar.{bipolar, cols_at}
use Rattle.pm_geom.proofs.Reduce.{extremes_generate}
use Rattle.pm_geom.specs.Cones.{InLineality, IsExtreme, IsOrder, IsValid}
use Rattle.pm_geom.specs.Faces.{ray}
use Rattle.pm_geom.specs.Graphs.{IsEdge, IsRidge, IsWalk}
use Rattle.pm_ranks.proofs.Chosen.{large_on}
use Rattle.pm_ranks.proofs.Facets.{ridges_by_facets}
use Rattle.pm_ranks.proofs.Sharp.{valid_line}
use Rattle.pm_ranks.proofs.Tests.{at_pair, pair_at}
use Rattle.pm_ranks.proofs.Walks.{graph_is_connected}
use Rattle.pm_ranks.specs.Laws.{DualGraphIsConnected}
use Rattle.pm_ranks.specs.Thirds.{NoThirdFacet}
use Rattle.std.proofs.Common.{arith, inl, inr, refl, subst, sym, ◌∙◌}
use Rattle.std.proofs.lemmas.Int.{ints}
use Rattle.std.specs.Prelude.{List, [], length, suc, zero, ℕ, ◌<◌, ◌↔◌, ◌≡◌}
use lib.IntN.{pos, ℤ, ◌*ℤ◌, ◌-ℤ◌}
use lib.Signed.{◌≤ℤ◌}

-- two places of F, of whose facets no third one holds all rays that they share
pub record IsDualEdge (V F : List Row) (i k : ℕ) : Type 0 where
  pub first : i < length F
  pub second : k < length F
  pub apart : ¬ (i ≡ k)
  pub no_other : NoThirdFacet V F i k

module _ (n : ℕ) (G L : List Row) (hg : HasCols n G) (hl : HasCols n L) (V K : List Row) (hk : HasCols n K) (oV : IsOrder n (InCone G L) V) (line : (x : Row) → length x ≡ n → InLineality (InCone G L) x ↔ InSpan K x) where
  -- where a is 0 at a row of the cone, so is each valid b that is 0 on the rays on which a is
  zero_through : (a b x : Row) → IsValid n G L a → IsValid n G L b → ((v : Row) → Among v V → dot a v ≡ pos 0 → dot b v ≡ pos 0) → length x ≡ n → InCone G L x → dot a x ≡ pos 0 → dot b x ≡ pos 0
  zero_through a b x va vb f lx hx z =
      let N = large_on V a b (λ v i. va.holds v (cols v i) (inside v i)) (λ v i e. let q = f v i e in omega (arith, ints)) in
      let p = dot_in (difference N.N a (pos 1) b) V K
      (λ v i. let q = N.at v i in dot_comm_not_negative N.N (dot a v) (dot b v) (difference-dot N.N a (pos 1) b v) q)
      (λ k i. let s = (line k (cols_at i hk)).1 (in_line i) in let y = valid_line n G L a va k (cols_at i hk) s in let w = valid_line n G L b vb k (cols_at i hk) s in difference-dot N.N a (pos 1) b k ∙ simp (y, w, ring))
      ((order_generates n G L hg hl V K hk oV line x lx).0 hx) in
      let e = simp (z, ring) at (difference-dot N.N a (pos 1) b x) in
      let q = vb.holds x lx hx in
      omega (arith, ints)
    where
      cols : (v : Row) → Among v V → length v ≡ n
      cols v i = (among_All (λ v. IsExtreme n (InCone G L) v) i oV.each).cols

      inside : (v : Row) → Among v V → InCone G L v
      inside v i = (among_All (λ v. IsExtreme n (InCone G L) v) i oV.each).inside

      dot_comm_not_negative : (N a b : ℤ) {d : ℤ} → d ≡ N *ℤ a -ℤ pos 1 *ℤ b → b ≤ℤ (N *ℤ a) → pos 0 ≤ℤ d
      dot_comm_not_negative N a b {d} e h = let q = simp ring at e in omega (arith, ints)

  module _ (F : List Row) (oF : IsOrder n (IsValid n G L) F) (D : List Row) (hd : HasCols n D) (eq : (a : Row) → length a ≡ n → InCone D [] a ↔ IsValid n G L a) where
    facet : (i : ℕ) → i < length F → IsValid n G L (ray F i)
    facet i li = (among_All (λ a. IsExtreme n (IsValid n G L) a) (at_place F i li) oF.each).inside

    no_other : (i k : ℕ) → i < length F → k < length F → IsEdge n D [] F i k → (l : ℕ) → l < length F → ¬ (l ≡ i) → ¬ (l ≡ k) → ((j : ℕ) → j < length V → dot (ray F i) (ray V j) ≡ pos 0 → dot (ray F k) (ray V j) ≡ pos 0 → dot (ray F l) (ray V j) ≡ pos 0) → ⊥
    no_other i k li lk e l ll ni nk f =
        elim (at_pair i k l ((e.face.places l ll).1 (dot_comm x (ray F l) ∙ null))) [ inl q ↦ ni q | inr q ↦ nk q ]
      where
        x : Row
        x = e.face.a

        x_in : InCone G L x
        x_in = bipolar n G L hg hl x e.face.valid.cols (λ a v. rw dot_comm (e.face.valid.holds a v.cols ((eq a v.cols).1 v)))

        sum : Row
        sum = plus (ray F i) (ray F k)

        sum_valid : IsValid n G L sum
        sum_valid = record { cols = length-plus n (ray F i) (ray F k) (facet i li).cols (facet k lk).cols; holds = λ y ly h. let p = (facet i li).holds y ly h in let q = (facet k lk).holds y ly h in simp plus-dot (omega (arith, ints)) }

        sum_null : dot sum x ≡ pos 0
        sum_null =
            let p = (e.face.places i li).0 (pair_at i k i (inl refl)) in
            let q = (e.face.places k lk).0 (pair_at i k k (inr refl)) in
            let p' = dot_comm (ray F i) x ∙ p in
            let q' = dot_comm (ray F k) x ∙ q in
            simp (plus-dot, p', q')

        shared : (j : ℕ) → j < length V → dot sum (ray V j) ≡ pos 0 → dot (ray F l) (ray V j) ≡ pos 0
        shared j lj z =
            let ex = among_All (λ v. IsExtreme n (InCone G L) v) (at_place V j lj) oV.each in
            let p = (facet i li).holds (ray V j) ex.cols ex.inside in
            let q = (facet k lk).holds (ray V j) ex.cols ex.inside in
            let s = simp plus-dot at z in
            f j lj (omega (arith, ints)) (omega (arith, ints))

        null : dot (ray F l) x ≡ pos 0
        null = zero_through sum (ray F l) x sum_valid (facet l ll) (λ v i z. let w = place_of i in subst (λ u. dot (ray F l) u ≡ pos 0) w.2 (shared w.0 w.1 (subst (λ u. dot sum u ≡ pos 0) (sym w.2) z))) e.face.valid.cols x_in sum_null

    dual_edge : (i k : ℕ) → IsEdge n D [] F i k → IsDualEdge V F i k
    dual_edge i k e = record { first = e.first; second = e.second; apart = e.apart; no_other = no_other i k e.first e.second e }

    dual_walk : (h i k : ℕ) → IsWalk (IsEdge n D [] F) i k h → IsWalk (IsDualEdge V F) i k h
    dual_walk zero i k w = w
    dual_walk (suc h) i k w = (w.0, dual_edge i w.0 w.1, dual_walk h w.0 k w.2)

ridge_walk : (n : ℕ) (G L : List Row) → HasCols n G → HasCols n L → (V F : List Row) → IsOrder n (InCone G L) V → IsOrder n (IsValid n G L) F → (h i k : ℕ) → IsWalk (IsDualEdge V F) i k h → IsWalk (IsRidge n G L V F) i k h
ridge_walk n G L hg hl V F oV oF zero i k w = w
ridge_walk n G L hg hl V F oV oF (suc h) i k w = let e = w.1 in (w.0, (ridges_by_facets n G L hg hl V F oV oF i w.0).1 (e.first, e.second, e.apart, e.no_other), ridge_walk n G L hg hl V F oV oF h w.0 k w.2)

pub dual_graph_is_connected : DualGraphIsConnected
unfolding Duals
dual_graph_is_connected n G L hg hl V F oV oF i j li lj =
    let (V0, K, hk, o0, line, gen) = extremes_generate n G L hg hl in
    let (D, hd, eq) = duals n G L hg hl in
    let w = graph_is_connected n D [] hd tt F (order_as n (IsValid n G L) (InCone D []) (λ a la. (eq a la).1) (λ a la. (eq a la).0) oF) i j li lj in
    (w.0, w.1, ridge_walk n G L hg hl V F oV oF w.0 i j (dual_walk n G L hg hl V K hk oV line F oF D hd eq w.0 i j w.2))
