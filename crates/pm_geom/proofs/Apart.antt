-- Orders by separation: where each row of V is apart from the cone of the other rows and the lines K, and one row is positive on all of V, V is an order of cone(V) + span(K).
use Rattle.pm_vector.proofs.ConeLaws.{dot_in, in_cone_set, in_divide, in_generator, in_of, in_plus, in_same, in_times}
use Rattle.pm_vector.proofs.Lists.{AllPairs_cons, All_among, Among, Any_among, here, there}
use Rattle.pm_vector.proofs.RowLaws.{same_sym}
use Rattle.pm_vector.proofs.Signs.{weaken}
use Rattle.pm_vector.specs.Cones.{InCone}
use Rattle.pm_vector.specs.Rows.{HasCols, Row, dot, opposite}
use Rattle.pm_geom.proofs.Extreme.{extreme, in_lines, like_generator}
use Rattle.pm_geom.proofs.Facets.{dot-opposite}
use Rattle.pm_geom.proofs.Polar.{cols_at}
use Rattle.pm_geom.proofs.Reduce.{alike_in, extreme_as}
use Rattle.pm_geom.specs.Cones.{InLineality, IsExtreme, IsOrder, MultipleModulo, SameModulo}
use Rattle.std.proofs.Common.{Bool, T, arith, cond, false, true}
use Rattle.std.proofs.lemmas.Int.{ints}
use Rattle.std.specs.List.{AllPairs}
use Rattle.std.specs.Prelude.{List, [], length, ℕ, ◌∷◌, ◌≡◌}
use lib.IntN.{pos, ℤ}
use lib.Signed.{le_z, le_z_yes, lt_z, lt_z_yes, ◌<ℤ◌, ◌≤ℤ◌}

-- ---- products with literal rows, which are computed
abbrev pub products : (ℤ → Bool) → Row → List Row → Bool
products test a [] = true
products test a (v ∷ V) = cond (test (dot a v)) (products test a V) false

abbrev pub not_below : ℤ → Bool
not_below z = le_z (pos 0) z

abbrev pub above : ℤ → Bool
above z = lt_z (pos 0) z

abbrev pub null : ℤ → Bool
null z = cond (le_z (pos 0) z) (le_z z (pos 0)) false

pub cond_first : (a b : Bool) → T (cond a b false) → T a
cond_first true b t = tt
cond_first false b t = t

pub cond_second : (a b : Bool) → T (cond a b false) → T b
cond_second true b t = t
cond_second false b t = absurd t

product_at : (test : ℤ → Bool) (a : Row) {v : Row} {V : List Row} → Among v V → T (products test a V) → T (test (dot a v))
product_at test a {v} (here {xs = V}) t = cond_first (test (dot a v)) (products test a V) t
product_at test a (there {y = y} {xs = V} i) t = product_at test a i (cond_second (test (dot a y)) (products test a V) t)

pub not_below_at : (a : Row) {v : Row} {V : List Row} → Among v V → T (products not_below a V) → pos 0 ≤ℤ dot a v
not_below_at a i t = le_z_yes (product_at not_below a i t)

above_at : (a : Row) {v : Row} {V : List Row} → Among v V → T (products above a V) → pos 0 <ℤ dot a v
above_at a i t = lt_z_yes (product_at above a i t)

pub null_at : (a : Row) {v : Row} {V : List Row} → Among v V → T (products null a V) → dot a v ≡ pos 0
null_at a {v} i t =
    let both = product_at null a i t in
    let low : pos 0 ≤ℤ dot a v = le_z_yes (cond_first (le_z (pos 0) (dot a v)) (le_z (dot a v) (pos 0)) both) in
    let high : dot a v ≤ℤ pos 0 = le_z_yes (cond_second (le_z (pos 0) (dot a v)) (le_z (dot a v) (pos 0)) both) in
    omega (arith, ints)

-- a separates x from cone(V) + span(K)
pub apart : (V K : List Row) (a x : Row) → T (products not_below a V) → T (products null a K) → T (lt_z (dot a x) (pos 0)) → ¬ (InCone V K x)
apart V K a x rows lines below h =
    let up = dot_in a V K (λ v i. not_below_at a i rows) (λ l i. null_at a i lines) h in
    let down : dot a x <ℤ pos 0 = lt_z_yes below in
    omega (arith, ints)

-- ---- the other rows of a list
unfoldable pub without : {v : Row} {V : List Row} → Among v V → List Row
without (here {xs = V}) = V
without (there {y = y} i) = y ∷ without i

pub without_back : {v y : Row} {V : List Row} (i : Among v V) → Among y (v ∷ without i) → Among y V
unfolding without
without_back here j = j
without_back (there i) here = there (without_back i here)
without_back (there i) (there here) = here
without_back (there i) (there (there j)) = there (without_back i (there j))

past : {v : Row} (z : Row) {y : Row} {W : List Row} → Among y (v ∷ W) → Among y (v ∷ (z ∷ W))
past z here = here
past z (there i) = there (there i)

pub without_to : {v y : Row} {V : List Row} (i : Among v V) → Among y V → Among y (v ∷ without i)
unfolding without
without_to here j = j
without_to (there i) here = there here
without_to (there {y = z} i) (there j) = past z (without_to i j)

pairs : (R : Row → Row → Type 0) (V : List Row) → ((v w : Row) (i : Among v V) → Among w (without i) → R v w) → AllPairs R V
unfolding without
pairs R [] f = λ i j d l m. absurd (omega arith)
pairs R (v ∷ V) f = AllPairs_cons R v V (λ w j. f v w here j) (pairs R V (λ u w i j. f u w (there i) (there j)))

-- ---- the order
module _ (n : ℕ) (V K : List Row) (hv : HasCols n V) (hk : HasCols n K) (tip : Row) (tip_above : T (products above tip V)) (tip_lines : T (products null tip K)) where
  not_line : (v : Row) → Among v V → ¬ (InCone V K (opposite v))
  not_line v i h =
      let up = rw dot-opposite at (dot_in tip V K (λ u j. weaken (above_at tip j tip_above)) (λ l j. null_at tip j tip_lines) h) in
      let down = above_at tip i tip_above in
      omega (arith, ints)

  pub lineality_spanned : (x : Row) → length x ≡ n → InLineality (InCone V K) x → InCone [] K x
  lineality_spanned x l h = in_lines n (InCone V K) (in_cone_set V K) K V not_line (λ y k. k) x h.inside h.opposed

  -- a row that is a multiple of r modulo the lineality lies on r and the lines
  pub on_row : (r u : Row) → MultipleModulo n (InCone V K) r u → InCone (r ∷ []) K u
  on_row r u t =
      in_divide t.positive (in_same (same_sym t.same) (in_plus (in_times t.not_negative (in_generator here)) (in_of (r ∷ []) [] K (λ g j. elim j [ ]) (lineality_spanned t.w t.cols t.line))))

  module _ (needed : (v : Row) (i : Among v V) → ¬ (InCone (without i) K v)) where
    pub extreme_at : (v : Row) → Among v V → IsExtreme n (InCone V K) v
    extreme_at v i =
        extreme_as n (InCone (v ∷ without i) K) (InCone V K)
        (λ x l h. in_of V (v ∷ without i) K (λ g j. without_back i j) h)
        (λ x l h. in_of (v ∷ without i) V K (λ g j. without_to i j) h)
        (extreme n (without i) K v (cols_at i hv) (needed v i) (λ h. not_line v i (in_of V (v ∷ without i) K (λ g j. without_back i j) h)))

    pub order_of_apart : IsOrder n (InCone V K) V
    order_of_apart = record {
      each = All_among (λ v. IsExtreme n (InCone V K) v) V extreme_at;
      all = λ r e.
          let w = like_generator n (InCone V K) (in_cone_set V K) K V (λ v i. (cols_at i hv, in_generator i, not_line v i)) (λ x h. h) r e e.inside in
          Any_among (λ v. SameModulo n (InCone V K) r v) w.1 w.2;
      once = pairs (λ v w. ¬ (SameModulo n (InCone V K) v w)) V (λ v w i j t. needed v i (alike_in n (InCone V K) (in_cone_set V K) K hk lineality_spanned (without i) v w j t));
    }
