-- The polars of the cube are the cross-polytopes (Ziegler, Lectures on Polytopes, example 0.4 and section 2.3).
use Rattle.pm_build.proofs.Vectors.{opposite_cols}
use Rattle.pm_build.specs.Rows.{headed, opposite_units}
use Rattle.pm_geom.proofs.Polar.{bipolar}
use Rattle.pm_geom.specs.Cones.{IsValid}
use Rattle.pm_laws_things.proofs.ShapeLaws.{cube_from, cube_to, headed_cols}
use Rattle.pm_laws_things.specs.Built.{InCube, InHull, InPolar, IsCube}
use Rattle.pm_types.specs.Right.{InSet}
use Rattle.pm_types.specs.Things.{Thing}
use Rattle.pm_vector.proofs.ConeLaws.{dot_in, in_cone_set, in_generator, none_from_zero}
use Rattle.pm_vector.proofs.Lists.{all_at}
use Rattle.pm_vector.proofs.RowLaws.{dot_comm, entry-plus, length-plus}
use Rattle.pm_vector.specs.Rows.{HasCols, IsZero, Row, dot, entry, plus}
use Rattle.std.proofs.Common.{ap, arith, inl, inr, refl, subst, sym, ◌∙◌}
use Rattle.std.proofs.lemmas.Int.{by_lt_z, ints}
use Rattle.std.proofs.lemmas.Bool.{cases_lt}
use Rattle.std.proofs.lemmas.List.{length-replicate}
use Rattle.std.specs.Prelude.{List, [], length, map, replicate, suc, zero, ℕ, ◌≤◌, ◌↔◌, ◌∷◌, ◌≡◌}
use lib.IntN.{neg_ℤ, pos, ℤ, ◌+ℤ◌}
use lib.Signed.{◌<ℤ◌, ◌≤ℤ◌}

entry_past : (x : Row) (i : ℕ) → length x ≤ i → entry x i ≡ pos 0
entry_past [] i h = refl
entry_past (a ∷ x) zero h = absurd (omega arith)
entry_past (a ∷ x) (suc i) h = entry_past x i (omega arith)

-- in a dimension or more, no first entry is negative
first_entry : (d : ℕ) (x : Row) → 1 ≤ d → InCube d x → pos 0 ≤ℤ entry x 0
first_entry d x h c = let (a, b) = c.within 0 h in by (entry x 0) (entry x 1) a b
  where
    by : (a b : ℤ) → neg_ℤ a ≤ℤ b → b ≤ℤ a → pos 0 ≤ℤ a
    by a b h k = omega (arith, ints)

-- with 0 as first entry it is 0
zero_there : (d : ℕ) (x : Row) → length x ≡ suc d → InCube d x → entry x 0 ≡ pos 0 → IsZero x
zero_there d x l c e = at
  where
    by : (a b : ℤ) → neg_ℤ a ≤ℤ b → b ≤ℤ a → a ≡ pos 0 → b ≡ pos 0
    by a b h k e = omega (arith, ints)

    at : (i : ℕ) → entry x i ≡ pos 0
    at zero = e
    at (suc i) = elim (cases_lt i d) [
      | inl h ↦ let (a, b) = c.within i h in by (entry x 0) (entry x (suc i)) a b e
      | inr h ↦ entry_past x (suc i) (omega arith)
    ]

module _ (d : ℕ) (some : 1 ≤ d) (t : Thing) (cube : IsCube d t) where
  A : List Row
  A = map headed (opposite_units d d)

  cols : HasCols (suc d) (map headed (opposite_units d d))
  cols = headed_cols (suc d) d (opposite_units d d) refl (opposite_cols d)

  pub polar_points : (y : Row) → length y ≡ suc d → InPolar t y ↔ InHull (opposite_units d d) y
  polar_points y ly = (to, from)
    where
      to : InPolar t y → InHull (opposite_units d d) y
      to h = bipolar (suc d) (map headed (opposite_units d d)) [] cols tt y ly valid
        where
          in_cube : (a : Row) → IsValid (suc d) (map headed (opposite_units d d)) [] a → InCube d a
          in_cube a v = cube_from d a v.cols (λ b i. subst (λ z. pos 0 ≤ℤ z) (dot_comm a b) (v.holds b (all_at (λ (y : Row). length y ≡ suc d) i cols) (in_generator i)))

          valid : (a : Row) → IsValid (suc d) (map headed (opposite_units d d)) [] a → pos 0 ≤ℤ dot a y
          valid a v = subst (λ z. pos 0 ≤ℤ z) (dot_comm y a) (by_lt_z (pos 0) (entry a 0) (λ up. h a (v.cols ∙ sym cube.cols) up ((cube.points a v.cols up).1 (in_cube a v))) (λ low. flat low))
            where
              flat : entry a 0 ≤ℤ pos 0 → pos 0 ≤ℤ dot y a
              flat low =
                  let first = first_entry d a some (in_cube a v) in
                  dot_in y [] [] (λ g i. elim i [ ]) (λ l i. elim i [ ]) (none_from_zero a (zero_there d a v.cols (in_cube a v) (same (entry a 0) first low)))
                where
                  same : (z : ℤ) → pos 0 ≤ℤ z → z ≤ℤ pos 0 → z ≡ pos 0
                  same z h k = omega (arith, ints)

      from : InHull (opposite_units d d) y → InPolar t y
      from h x lx up inside =
          let lx' = lx ∙ cube.cols in
          subst (λ z. pos 0 ≤ℤ z) (dot_comm x y)
          (dot_in x (map headed (opposite_units d d)) [] (λ b i. subst (λ z. pos 0 ≤ℤ z) (dot_comm b x) (cube_to d x lx' ((cube.points x lx' up).0 inside) b i)) (λ l i. elim i [ ]) h)

-- ---- the cube is bounded
nothing_entry : (n i : ℕ) → entry (replicate n (pos 0)) i ≡ pos 0
nothing_entry zero i = refl
nothing_entry (suc n) zero = refl
nothing_entry (suc n) (suc i) = nothing_entry n i

pub cube_is_bounded : (d : ℕ) (t : Thing) → 1 ≤ d → IsCube d t → (x : Row) → length x ≡ t.cols → InSet t x → entry x 0 ≡ pos 0 → IsZero x
cube_is_bounded d t some cube x lx inside flat = at
  where
    o : Row
    o = pos 1 ∷ replicate d (pos 0)

    o_cols : length o ≡ suc d
    o_cols = ap suc (length-replicate d (pos 0))

    o_inside : InSet t o
    o_inside = (cube.points o o_cols (omega (arith, ints))).1 (record { within = λ i h. subst (λ z. (neg_ℤ (pos 1) ≤ℤ z) × (z ≤ℤ pos 1)) (sym (nothing_entry d i)) (omega (arith, ints), omega (arith, ints)) })

    y : Row
    y = plus o (plus x x)

    x_cols : length x ≡ suc d
    x_cols = lx ∙ cube.cols

    y_cols : length y ≡ suc d
    y_cols = length-plus (suc d) o (plus x x) o_cols (length-plus (suc d) x x x_cols x_cols)

    y_entry : (i : ℕ) → entry y i ≡ entry o i +ℤ (entry x i +ℤ entry x i)
    y_entry i = entry-plus o (plus x x) i ∙ ap (λ z. entry o i +ℤ z) (entry-plus x x i)

    y_first : entry y 0 ≡ pos 1
    y_first = y_entry 0 ∙ ap (λ z. pos 1 +ℤ (z +ℤ z)) flat

    y_inside : InSet t y
    y_inside = let closed = in_cone_set t.generators t.lines in closed.sum o_inside (closed.sum inside inside)

    in_cube : InCube d y
    in_cube = (cube.points y y_cols (subst (λ z. pos 0 <ℤ z) (sym y_first) (omega (arith, ints)))).0 y_inside

    small : (a b c : ℤ) → neg_ℤ a ≤ℤ b → b ≤ℤ a → a ≡ pos 1 → b ≡ pos 0 +ℤ (c +ℤ c) → c ≡ pos 0
    small a b c h k e f = omega (arith, ints)

    at : (i : ℕ) → entry x i ≡ pos 0
    at zero = flat
    at (suc i) = elim (cases_lt i d) [
      | inl h ↦ let (a, b) = in_cube.within i h in small (entry y 0) (entry y (suc i)) (entry x (suc i)) a b y_first (y_entry (suc i) ∙ ap (λ z. z +ℤ (entry x (suc i) +ℤ entry x (suc i))) (nothing_entry d i))
      | inr h ↦ entry_past x (suc i) (omega arith)
    ]
