-- What the rows of the cube, the simplex, the cross-polytope and the cyclic polytope describe.
use Rattle.pm_vector.proofs.Filters.{among_map, map_among}
use Rattle.pm_vector.proofs.Lists.{Among, all_at, all_from, among_append_left, among_append_right, here, there}
use Rattle.pm_vector.proofs.Ring.{ring}
use Rattle.pm_vector.specs.Rows.{HasCols, Row, dot, entry}
use Rattle.pm_laws_things.proofs.Assembled.{cols_settled, inequalities_described, points_described, polytope_cuts, polytope_thing}
use Rattle.pm_laws_things.proofs.Points.{cut_out_by_points, generated_by_points, solution, solved_by_cut}
use Rattle.pm_build.proofs.RowLaws.{length_headed_rows}
use Rattle.pm_build.proofs.Vectors.{corners_cols, curve_cols, is_unit, opposite_cols}
use Rattle.pm_relations.proofs.Standing.{stands_ratios}
use Rattle.pm_laws_things.specs.Built.{InCube, IsHull}
use Rattle.pm_laws_things.specs.BuildingLaws.{CrossIsDescribed, CubeIsDescribed, CyclicIsDescribed, Describes, SimplexIsDescribed}
use Rattle.pm_build.specs.Objects.{polytope_with}
use Rattle.pm_types.specs.Parts.{cols_over, value_over}
use Rattle.pm_build.specs.Rows.{curve, curve_points, headed, headed_rows, opposite_units, simplex_corners, unit}
use Rattle.pm_geom.proofs.Polar.{cut_at}
use Rattle.pm_props.specs.declared.property.PropId.TheVariants.{Points}
use Rattle.pm_types.specs.Right.{InSet, Solves, StandFor}
use Rattle.pm_types.specs.Things.{Thing}
use Rattle.std.proofs.Common.{ap, arith, inl, inr, refl, subst, sym, ◌∙◌}
use Rattle.std.proofs.lemmas.Bool.{cases_lt}
use Rattle.std.proofs.lemmas.Int.{ints}
use Rattle.std.proofs.lemmas.List.{length-append}
use Rattle.std.specs.Prelude.{List, [], length, map, replicate, suc, zero, ℕ, ◌<◌, ◌↔◌, ◌∷◌, ◌≡◌, ◌⊎◌}
use lib.IntN.{negsuc, pos, ℤ, ◌*ℤ◌, ◌+ℤ◌}
use lib.Signed.{◌<ℤ◌, ◌≤ℤ◌}

-- ---- rows (1, v)
pub headed_stand : (V : List Row) → StandFor (headed_rows V) (map headed V)
headed_stand [] = tt
headed_stand (v ∷ V) = (stands_ratios (headed v), headed_stand V)

headed_among : (V : List Row) (P : Row → Type 0) → ((v : Row) → Among v V → P (headed v)) → (x : Row) → Among x (map headed V) → P x
headed_among V P f x i = let (v, j, is) = map_among headed V i in subst P (sym is) (f v j)

pub headed_cols : (n d : ℕ) (V : List Row) → n ≡ suc d → ((v : Row) → Among v V → length v ≡ d) → HasCols n (map headed V)
headed_cols n d V e f = all_from (λ x. length x ≡ n) (map headed V) (headed_among V (λ x. length x ≡ n) (λ v i. ap suc (f v i) ∙ sym e))

pub headed_first : (V : List Row) (x : Row) → Among x (map headed V) → pos 0 <ℤ entry x 0
headed_first V = headed_among V (λ x. pos 0 <ℤ entry x 0) (λ v i. omega (arith, ints))

no_rows : (V : List Row) → headed_rows V ≡ [] → length V ≡ 0
no_rows V e = sym (length_headed_rows V) ∙ ap length e

-- ---- convex hulls
hull_described : (d : ℕ) (V : List Row) (u : Thing) → ((v : Row) → Among v V → length v ≡ d) → (length V ≡ 0 → d ≡ 0) → IsHull d V u → Describes (polytope_with ((Points, value_over (suc d) (headed_rows V)) ∷ [])) u
hull_described d V u lengths some h o thing orders =
    let hg = (polytope_thing u thing h.of).cone.generators in
    let hl = (polytope_thing u thing h.of).cone.lines in
    let cols = headed_cols u.cols d V h.cols lengths in
    points_described u o thing orders (cols_over (suc d) (headed_rows V)) (headed_rows V) (map headed V) (headed_stand V) cols
    (record { same = generated_by_points u.cols u.generators u.lines hg hl (polytope_thing u thing h.of) (map headed V) cols (headed_first V) (λ x lx up. h.points x (lx ∙ h.cols) up) })
    (cols_settled d (headed_rows V) (λ e. some (no_rows V e)) ∙ sym h.cols)

-- ---- the vectors
among_units : (d k i : ℕ) → i < k → Among (unit (pos 1) i d) (opposite_units d k) × Among (unit (negsuc 0) i d) (opposite_units d k)
among_units d zero i h = absurd (omega arith)
among_units d (suc k) i h = elim (cases_lt i k) [
  | inl l ↦ let (a, b) = among_units d k i l in (among_append_left _ a, among_append_left _ b)
  | inr l ↦ let e : k ≡ i = omega arith in
      subst (λ j. Among (unit (pos 1) j d) (opposite_units d (suc k)) × Among (unit (negsuc 0) j d) (opposite_units d (suc k))) e (among_append_right (opposite_units d k) here, among_append_right (opposite_units d k) (there here))
]

some_opposite : (d : ℕ) → length (opposite_units d d) ≡ 0 → d ≡ 0
some_opposite zero e = refl
some_opposite (suc d) e = absurd (let f = length-append (opposite_units (suc d) d) (unit (pos 1) d (suc d) ∷ unit (negsuc 0) d (suc d) ∷ []) in omega arith)

some_curve : (d n : ℕ) → 0 < n → length (curve_points d n) ≡ 0 → d ≡ 0
some_curve d zero h e = absurd (omega arith)
some_curve d (suc n) h e = absurd (let f = length-append (curve_points d n) (curve (suc n) d ∷ []) in omega arith)

pub simplex_described : SimplexIsDescribed
simplex_described d u h = hull_described d (simplex_corners d) u (corners_cols d) (λ e. absurd (omega arith)) h

pub cross_described : CrossIsDescribed
cross_described d u h = hull_described d (opposite_units d d) u (opposite_cols d) (some_opposite d) h

pub cyclic_described : CyclicIsDescribed
cyclic_described d n u some h = hull_described d (curve_points d n) u (curve_cols d n) (some_curve d n some) h

-- ---- the cube
dot_nothing : (d : ℕ) (y : Row) → dot (replicate d (pos 0)) y ≡ pos 0
dot_nothing zero y = refl
dot_nothing (suc d) [] = refl
dot_nothing (suc d) (b ∷ y) = let e = dot_nothing d y in simp ring (omega (arith, ints))

dot_unit : (s : ℤ) (i d : ℕ) (y : Row) → i < d → dot (unit s i d) y ≡ s *ℤ entry y i
dot_unit s i zero y h = absurd (omega arith)
dot_unit s zero (suc d) [] h = simp ring refl
dot_unit s zero (suc d) (b ∷ y) h = let e = dot_nothing d y in omega (arith, ints)
dot_unit s (suc i) (suc d) [] h = simp ring refl
dot_unit s (suc i) (suc d) (b ∷ y) h = let e = dot_unit s i d y (omega arith) in simp ring (omega (arith, ints))

dot_headed : (s : ℤ) (i d : ℕ) (x : Row) → i < d → length x ≡ suc d → dot (headed (unit s i d)) x ≡ entry x 0 +ℤ s *ℤ entry x (suc i)
dot_headed s i d [] h l = absurd (omega arith)
dot_headed s i d (a ∷ y) h l = let e = dot_unit s i d y h in simp ring (omega (arith, ints))

pub cube_to : (d : ℕ) (x : Row) → length x ≡ suc d → InCube d x → (a : Row) → Among a (map headed (opposite_units d d)) → pos 0 ≤ℤ dot a x
cube_to d x lx c = headed_among (opposite_units d d) (λ a. pos 0 ≤ℤ dot a x) each
  where
    value : (s : ℤ) (i : ℕ) → i < d → (s ≡ pos 1) ⊎ (s ≡ negsuc 0) → pos 0 ≤ℤ dot (headed (unit s i d)) x
    value s i l (inl e) = let w = c.within i l in let q = dot_headed s i d x l lx in let f = ap (λ z. z *ℤ entry x (suc i)) e in omega (arith, ints)
    value s i l (inr e) = let w = c.within i l in let q = dot_headed s i d x l lx in let f = ap (λ z. z *ℤ entry x (suc i)) e in omega (arith, ints)

    each : (v : Row) → Among v (opposite_units d d) → pos 0 ≤ℤ dot (headed v) x
    each v j = let w = is_unit d d v j in subst (λ z. pos 0 ≤ℤ dot (headed z) x) (sym w.is) (value w.s w.i w.within w.sign)

pub cube_from : (d : ℕ) (x : Row) → length x ≡ suc d → ((a : Row) → Among a (map headed (opposite_units d d)) → pos 0 ≤ℤ dot a x) → InCube d x
cube_from d x lx f = record {
  within = λ i l.
      let (a, b) = among_units d d i l in
      let p = f (headed (unit (pos 1) i d)) (among_map headed a) in
      let q = f (headed (unit (negsuc 0) i d)) (among_map headed b) in
      let ep = dot_headed (pos 1) i d x l lx in
      let eq = dot_headed (negsuc 0) i d x l lx in (omega (arith, ints), omega (arith, ints));
}

pub cube_described : CubeIsDescribed
cube_described d u h o thing orders =
    let hg = (polytope_thing u thing h.of).cone.generators in
    let hl = (polytope_thing u thing h.of).cone.lines in
    let V = opposite_units d d in
    let cols = headed_cols u.cols d V h.cols (opposite_cols d) in
    let cuts = cut_out_by_points (map headed V) [] u.cols u.generators u.lines hg hl (polytope_thing u thing h.of) points in
    inequalities_described u o thing orders (cols_over (suc d) (headed_rows V)) (headed_rows V) (map headed V) (headed_stand V) cols
    (λ a i. record { cols = all_at (λ (y : Row). length y ≡ u.cols) i cols; holds = λ x lx g. cut_at x i (solved_by_cut (map headed V) [] u.cols (InSet u) cuts x lx g).inequalities })
    (polytope_cuts u h.of (map headed V) [] cuts)
    (cols_settled d (headed_rows V) (λ e. some_opposite d (no_rows V e)) ∙ sym h.cols)
  where
    points : (x : Row) → length x ≡ u.cols → pos 0 <ℤ entry x 0 → InSet u x ↔ Solves (map headed (opposite_units d d)) [] x
    points x lx up = (
      λ g. solution (map headed (opposite_units d d)) [] x (cube_to d x (lx ∙ h.cols) ((h.points x (lx ∙ h.cols) up).0 g)) (λ e i. elim i [ ]),
      λ s. (h.points x (lx ∙ h.cols) up).1 (cube_from d x (lx ∙ h.cols) (λ a i. cut_at x i s.inequalities)),
    )
