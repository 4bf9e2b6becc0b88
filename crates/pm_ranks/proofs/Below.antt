-- A face with some ray has a face in it that spans one dimension less: it is cut by a facet row of the cone that the rays of the face generate.
use Rattle.pm_vector.proofs.ConeLaws.{in_generator, in_line, in_line_opposite, in_through}
use Rattle.pm_vector.proofs.Lists.{All_among, Among, all_append, all_from, among_All, here, there}
use Rattle.pm_vector.proofs.Ring.{ring}
use Rattle.pm_vector.proofs.RowLaws.{length-opposite, length-plus, length-times, plus-dot, times-dot}
use Rattle.pm_vector.specs.Cones.{InCone}
use Rattle.pm_vector.specs.Rows.{HasCols, Row, dot, opposite, plus, times}
use Rattle.pm_vector.proofs.Spans.{at_place, place_of}
use Rattle.pm_vector.specs.Bases.{IsRank}
use Rattle.pm_geom.proofs.Dimension.{rank_exists}
use Rattle.pm_geom.proofs.Facets.{dot-opposite, facet_rows_cut_out, opposite-dot, valid_by_products}
use Rattle.pm_geom.proofs.Independent.{decide_zero}
use Rattle.pm_geom.proofs.Polar.{cols_at}
use Rattle.pm_geom.specs.Cones.{CutOut, IsExtreme, IsOrder, IsValid}
use Rattle.pm_geom.specs.Faces.{IsFace, IsStrictlyIn, ray}
use Rattle.pm_ranks.proofs.Chosen.{Large, chosen_from, chosen_some, chosen_to, large_on}
use Rattle.pm_ranks.proofs.Sharp.{valid_line}
use Rattle.pm_ranks.proofs.Tests.{and_both, and_first, and_second, is_zero, is_zero_from, is_zero_to}
use Rattle.pm_ranks.proofs.Walls.{wall_null, wall_rank}
use Rattle.pm_ranks.specs.Chosen.{chosen}
use Rattle.std.proofs.Common.{arith, inl, inr, subst, sym, ◌∙◌}
use Rattle.std.proofs.lemmas.Int.{ints}
use Rattle.std.specs.List.{All}
use Rattle.std.specs.Prelude.{Bool, IsTrue, List, [], length, suc, ℕ, ◌&&◌, ◌++◌, ◌<◌, ◌↔◌, ◌∷◌, ◌≡◌, ◌⊎◌}
use lib.IntN.{neg_ℤ, pos, ℤ, ◌*ℤ◌, ◌+ℤ◌}
use lib.Signed.{◌≤ℤ◌}

all_null_or_some : (a : Row) (X : List Row) → ((x : Row) → Among x X → dot a x ≡ pos 0) ⊎ ((x : Row) × Among x X × ¬ (dot a x ≡ pos 0))
all_null_or_some a [] = inl (λ r i. elim i [ ])
all_null_or_some a (x ∷ X) = elim (decide_zero (dot a x)) [
  | inr ne ↦ inr (x, here, ne)
  | inl z ↦ elim (all_null_or_some a X) [ inr w ↦ inr (w.0, there w.1, w.2) | inl f ↦ inl (both z f) ]
]
  where
    both : dot a x ≡ pos 0 → ((r : Row) → Among r X → dot a r ≡ pos 0) → (r : Row) → Among r (x ∷ X) → dot a r ≡ pos 0
    both z f r here = z
    both z f r (there i) = f r i

above_zero : (N b a : ℤ) → pos 0 ≤ℤ N → pos 0 ≤ℤ b → neg_ℤ a ≤ℤ (N *ℤ b) → b ≤ℤ (a +ℤ (N +ℤ pos 1) *ℤ b)
above_zero N b a hn hb h = simp ring (omega (arith, ints))

module _ (n : ℕ) (V K : List Row) (hv : HasCols n V) (hk : HasCols n K) (ex : (v : Row) → Among v V → IsExtreme n (InCone V K) v) (f : ℕ → Bool) (face : IsFace n V K V f) where
  pub record Below (e : ℕ) : Type 0 where
    pub g : ℕ → Bool
    pub lower : IsFace n V K V g
    pub strict : IsStrictlyIn (length V) g f
    pub rank : ℕ
    pub less : suc rank ≡ e
    pub spans : IsRank (chosen g V ++ K) rank

  hw : HasCols n (chosen f V)
  hw = all_from (λ (x : Row). length x ≡ n) (chosen f V) (λ v i. cols_at (chosen_some f V i) hv)

  part : (x : Row) → InCone (chosen f V) K x → InCone V K x
  part x h = in_through V K (chosen f V) K (λ g i. in_generator (chosen_some f V i)) (λ l i. (in_line i, in_line_opposite i)) h

  -- a row of the list on which the row of the face is 0 is one of the face
  on_face : (v : Row) → Among v V → dot face.a v ≡ pos 0 → Among v (chosen f V)
  on_face v i z = let w = place_of i in subst (λ u. Among u (chosen f V)) w.2 (chosen_from f V w.0 w.1 ((face.places w.0 w.1).1 (subst (λ u. dot face.a u ≡ pos 0) (sym w.2) z)))

  face_not_below : (v : Row) → Among v V → pos 0 ≤ℤ dot face.a v
  face_not_below v i = face.valid.holds v (cols_at i hv) (in_generator i)

  module _ (a : Row) (ea : IsExtreme n (IsValid n (chosen f V) K) a) (e : ℕ) (r : IsRank (chosen f V ++ K) e) where
    unfoldable pub g : ℕ → Bool
    g x = f x && is_zero (dot a (ray V x))

    g_to : (j : ℕ) → IsTrue (g j) → IsTrue (f j) × (dot a (ray V j) ≡ pos 0)
    unfolding g
    g_to j t = (and_first (f j) (is_zero (dot a (ray V j))) t, is_zero_to (dot a (ray V j)) (and_second (f j) (is_zero (dot a (ray V j))) t))

    g_from : (j : ℕ) → IsTrue (f j) → dot a (ray V j) ≡ pos 0 → IsTrue (g j)
    unfolding g
    g_from j t z = and_both (f j) (is_zero (dot a (ray V j))) t (is_zero_from (dot a (ray V j)) z)

    wall_holds : (v : Row) → Among v (chosen f V) → pos 0 ≤ℤ dot a v
    wall_holds v i = ea.inside.holds v (cols_at i hw) (in_generator i)

    N : Large V face.a (opposite a)
    N = large_on V face.a (opposite a) face_not_below (λ v i z. let p = wall_holds v (on_face v i z) in rw opposite-dot (omega (arith, ints)))

    sum : Row
    sum = plus a (times (N.N +ℤ pos 1) face.a)

    sum_dot : (v : Row) → dot sum v ≡ dot a v +ℤ (N.N +ℤ pos 1) *ℤ dot face.a v
    unfolding sum
    sum_dot v = simp (plus-dot, times-dot)

    sum_above : (v : Row) → Among v V → dot face.a v ≤ℤ dot sum v
    sum_above v i = rw sum_dot (above_zero N.N (dot face.a v) (dot a v) N.not_negative (face_not_below v i) (rw opposite-dot at (N.at v i)))

    sum_same : (v : Row) → dot face.a v ≡ pos 0 → dot sum v ≡ dot a v
    sum_same v z = sum_dot v ∙ simp (z, ring) (omega (arith, ints))

    sum_cols : length sum ≡ n
    unfolding sum
    sum_cols = length-plus n a (times (N.N +ℤ pos 1) face.a) ea.cols (length-times (N.N +ℤ pos 1) face.a ∙ face.valid.cols)

    sum_line : (k : Row) → Among k K → dot sum k ≡ pos 0
    sum_line k i =
        let p = wall_null n (chosen f V) K hw hk a ea k i a ea.inside in
        let q = valid_line n V K face.a face.valid k (cols_at i hk) (record { inside = in_line i; opposed = in_line_opposite i }) in
        sum_same k q ∙ p

    lower_face : IsFace n V K V g
    lower_face = record { a = sum; valid = valid_by_products n V K hv hk sum sum_cols (λ v i. let p = sum_above v i in let q = face_not_below v i in omega (arith, ints)) sum_line; places = λ j l. (to j l, from j l) }
      where
        to : (j : ℕ) → j < length V → IsTrue (g j) → dot sum (ray V j) ≡ pos 0
        to j l t = let w = g_to j t in sum_same (ray V j) ((face.places j l).0 w.0) ∙ w.1

        from : (j : ℕ) → j < length V → dot sum (ray V j) ≡ pos 0 → IsTrue (g j)
        from j l z =
            let p = sum_above (ray V j) (at_place V j l) in
            let q = face_not_below (ray V j) (at_place V j l) in
            let y : dot face.a (ray V j) ≡ pos 0 = omega (arith, ints) in
            g_from j ((face.places j l).1 y) (sym (sum_same (ray V j) y) ∙ z)

    not_all : ¬ ((x : Row) → Among x (chosen f V) → dot a x ≡ pos 0)
    not_all h = ea.not_line (valid_by_products n (chosen f V) K hw hk (opposite a) (length-opposite a ∙ ea.cols)
        (λ v i. let p = h v i in rw opposite-dot (omega (arith, ints)))
        (λ k i. let p = wall_null n (chosen f V) K hw hk a ea k i a ea.inside in opposite-dot a k ∙ omega (arith, ints)))

    strictly : IsStrictlyIn (length V) g f
    strictly = elim (all_null_or_some a (chosen f V)) [ inl h ↦ absurd (not_all h) | inr w ↦ found w.0 w.1 w.2 ]
      where
        found : (x : Row) → Among x (chosen f V) → ¬ (dot a x ≡ pos 0) → IsStrictlyIn (length V) g f
        found x i ne = let w = chosen_to f V i in record { included = λ j l t. (g_to j t).0; j = w.0; below = w.1; has = w.2; lacks = λ t. ne (subst (λ u. dot a u ≡ pos 0) w.3 (g_to w.0 t).1) }

    g_some : (v : Row) → Among v (chosen g V) → Among v (chosen f V) × (dot a v ≡ pos 0)
    g_some v i = let w = chosen_to g V i in let t = g_to w.0 w.2 in (subst (λ u. Among u (chosen f V)) w.3 (chosen_from f V w.0 w.1 t.0), subst (λ u. dot a u ≡ pos 0) w.3 t.1)

    g_all : (v : Row) → Among v (chosen f V) → dot a v ≡ pos 0 → Among v (chosen g V)
    g_all v i z = let w = chosen_to f V i in subst (λ u. Among u (chosen g V)) w.3 (chosen_from g V w.0 w.1 (g_from w.0 w.2 (subst (λ u. dot a u ≡ pos 0) (sym w.3) z)))

    by_wall : Below e
    by_wall =
        let s = rank_exists n (chosen g V ++ K) (all_append (λ (x : Row). length x ≡ n) (chosen g V) K (all_from (λ (x : Row). length x ≡ n) (chosen g V) (λ v i. cols_at (chosen_some g V i) hv)) hk) in
        record { g = g; lower = lower_face; strict = strictly; rank = s.0; less = wall_rank n (chosen f V) K hw hk a ea (chosen g V) g_some g_all e s.0 r s.1; spans = s.1 }

  pub down : (v : Row) → Among v (chosen f V) → (e : ℕ) → IsRank (chosen f V ++ K) e → Below e
  down v i e r =
      let (F, E, he, oF, vanish, valid, cut) = facet_rows_cut_out n (chosen f V) K hw hk in
      by_facets F E oF cut
    where
      by_facets : (F E : List Row) → IsOrder n (IsValid n (chosen f V) K) F → ((x : Row) → length x ≡ n → InCone (chosen f V) K x ↔ (CutOut F x × All (λ e. dot e x ≡ pos 0) E)) → Below e
      by_facets [] E oF cut =
          let lv = cols_at i hw in
          let z = ((cut v lv).0 (in_generator i)).1 in
          absurd ((ex v (chosen_some f V i)).not_line (part (opposite v) ((cut (opposite v) (length-opposite v ∙ lv)).1 (tt, All_among (λ e. dot e (opposite v) ≡ pos 0) E (λ d j. let q = among_All (λ e. dot e v ≡ pos 0) j z in dot-opposite d v ∙ omega (arith, ints))))))
      by_facets (a ∷ F) E oF cut = by_wall a (among_All (λ b. IsExtreme n (IsValid n (chosen f V) K) b) here oF.each) e r
