-- Common refinements of fans of the line.
use Rattle.pm_vector.proofs.ConeLaws.{in_generator, in_line, in_zero, none_to_zero}
use Rattle.pm_vector.proofs.Lists.{here}
use Rattle.pm_vector.proofs.Ring.{ring}
use Rattle.pm_vector.specs.Cones.{InCone, InSpan}
use Rattle.pm_vector.specs.Rows.{Row, entry, plus, times}
use Rattle.pm_geom.proofs.Apart.{apart}
use Rattle.pm_geom.proofs.ShortRows.{first_entry}
use Rattle.pm_geom.specs.ThingExamples.{left, right}
use Rattle.pm_laws_normal_fans.specs.Examples.{RefinementsAreRead, fan, minus, rays_of_line, whole_line}
use Rattle.pm_laws_normal_fans.specs.Fans.{Fan, InIntersection, InPlace, IsCommonRefinement, IsConeAt, IsMaximalIntersection, IsSameFan}
use Rattle.std.proofs.Common.{arith, refl}
use Rattle.std.proofs.lemmas.Int.{ints}
use Rattle.std.specs.Prelude.{[], length, suc, zero, ℕ, ◌<◌, ◌∷◌, ◌≡◌}
use lib.IntN.{pos}
use lib.Signed.{le_z_yes, lt_z_yes, ◌<ℤ◌, ◌≤ℤ◌}

pub not_in_left : ¬ (InCone (left ∷ []) [] right)
not_in_left = apart (left ∷ []) [] left right tt tt tt

pub not_in_right : ¬ (InCone (right ∷ []) [] left)
not_in_right = apart (right ∷ []) [] right left tt tt tt

-- ---- the cones
pub half : IsConeAt 1 rays_of_line 0 (λ x. pos 0 ≤ℤ entry x 0)
half [] l = absurd (omega arith)
half (a ∷ b ∷ x) l = absurd (omega arith)
half (a ∷ []) l = (λ h. first_entry (right ∷ []) [] tt tt (a ∷ []) h, λ h. record { m = pos 1; c = a ∷ []; d = []; positive = lt_z_yes tt; not_negative = (h, tt); same = record { at = at } })
  where
    at : (i : ℕ) → entry (times (pos 1) (a ∷ [])) i ≡ entry (plus (plus (times a right) []) []) i
    at zero = simp ring
    at (suc i) = refl

-- each row of one entry is on the line
pub on_line : (x : Row) → length x ≡ 1 → InPlace whole_line 0 x
on_line [] l = absurd (omega arith)
on_line (a ∷ b ∷ x) l = absurd (omega arith)
on_line (a ∷ []) l = record { m = pos 1; c = []; d = a ∷ []; positive = lt_z_yes tt; not_negative = tt; same = record { at = at } }
  where
    at : (i : ℕ) → entry (times (pos 1) (a ∷ [])) i ≡ entry (plus [] (plus (times a right) [])) i
    at zero = simp ring
    at (suc i) = refl

open_half : ¬ (IsConeAt 1 rays_of_line 0 (λ x. pos 0 <ℤ entry x 0))
open_half c = let p : pos 0 <ℤ pos 0 = (c (pos 0 ∷ []) refl).0 (in_zero at) in omega (arith, ints)
  where
    at : (i : ℕ) → entry (pos 0 ∷ []) i ≡ pos 0
    at zero = refl
    at (suc i) = refl

-- ---- fans with the same cones
abbrev turned_rays : Fan
turned_rays = fan ((left ∷ []) ∷ (right ∷ []) ∷ [])

turned : IsSameFan 1 rays_of_line turned_rays
turned = record { lines = λ x l. (λ h. h, λ h. h); each = each; all = all }
  where
    each : (i : ℕ) → i < 2 → (j : ℕ) × (j < 2) × IsConeAt 1 rays_of_line i (InPlace turned_rays j)
    each zero l = (1, omega arith, λ x lx. (λ h. h, λ h. h))
    each (suc zero) l = (0, omega arith, λ x lx. (λ h. h, λ h. h))
    each (suc (suc i)) l = absurd (omega arith)

    all : (j : ℕ) → j < 2 → (i : ℕ) × (i < 2) × IsConeAt 1 rays_of_line i (InPlace turned_rays j)
    all zero l = (1, omega arith, λ x lx. (λ h. h, λ h. h))
    all (suc zero) l = (0, omega arith, λ x lx. (λ h. h, λ h. h))
    all (suc (suc i)) l = absurd (omega arith)

abbrev one_ray : Fan
one_ray = fan ((right ∷ []) ∷ [])

fewer : ¬ (IsSameFan 1 rays_of_line one_ray)
fewer s = let w = s.each 1 (omega arith) in go w.0 w.1 w.2
  where
    go : (j : ℕ) → j < 1 → ¬ (IsConeAt 1 rays_of_line 1 (InPlace one_ray j))
    go zero l c = not_in_right ((c left refl).0 (in_generator here))
    go (suc j) l c = absurd (omega arith)

more : ¬ (IsSameFan 1 one_ray rays_of_line)
more s = let w = s.all 1 (omega arith) in go w.0 w.1 w.2
  where
    go : (i : ℕ) → i < 1 → ¬ (IsConeAt 1 one_ray i (InPlace rays_of_line 1))
    go zero l c = not_in_right ((c left refl).1 (in_generator here))
    go (suc i) l c = absurd (omega arith)

no_span : ¬ (InSpan [] right)
no_span h = let e : pos 1 ≡ pos 0 = none_to_zero right h 0 in omega (arith, ints)

other_lines : ¬ (IsSameFan 1 (fan []) (record { cones = []; lines = right ∷ [] }))
other_lines s = no_span ((s.lines right refl).1 (in_line here))

-- ---- maximal intersections of the rays
pub first_maximal : IsMaximalIntersection 1 rays_of_line rays_of_line 0 0
first_maximal = record { first = omega arith; second = omega arith; maximal = go }
  where
    go : (k l : ℕ) → k < 2 → l < 2 → ((x : Row) → length x ≡ 1 → InIntersection rays_of_line rays_of_line 0 0 x → InIntersection rays_of_line rays_of_line k l x) → (x : Row) → length x ≡ 1 → InIntersection rays_of_line rays_of_line k l x → InIntersection rays_of_line rays_of_line 0 0 x
    go zero zero lk ll w x lx h = h
    go (suc zero) l lk ll w x lx h = absurd (not_in_left (w right refl (in_generator here, in_generator here)).0)
    go zero (suc zero) lk ll w x lx h = absurd (not_in_left (w right refl (in_generator here, in_generator here)).1)
    go (suc (suc k)) l lk ll w x lx h = absurd (omega arith)
    go zero (suc (suc l)) lk ll w x lx h = absurd (omega arith)

pub second_maximal : IsMaximalIntersection 1 rays_of_line rays_of_line 1 1
second_maximal = record { first = omega arith; second = omega arith; maximal = go }
  where
    go : (k l : ℕ) → k < 2 → l < 2 → ((x : Row) → length x ≡ 1 → InIntersection rays_of_line rays_of_line 1 1 x → InIntersection rays_of_line rays_of_line k l x) → (x : Row) → length x ≡ 1 → InIntersection rays_of_line rays_of_line k l x → InIntersection rays_of_line rays_of_line 1 1 x
    go (suc zero) (suc zero) lk ll w x lx h = h
    go zero l lk ll w x lx h = absurd (not_in_right (w left refl (in_generator here, in_generator here)).0)
    go (suc zero) zero lk ll w x lx h = absurd (not_in_right (w left refl (in_generator here, in_generator here)).1)
    go (suc (suc k)) l lk ll w x lx h = absurd (omega arith)
    go (suc zero) (suc (suc l)) lk ll w x lx h = absurd (omega arith)

pub not_maximal : ¬ (IsMaximalIntersection 1 rays_of_line rays_of_line 0 1)
not_maximal m = not_in_left (m.maximal 0 0 (omega arith) (omega arith) (λ x l h. (h.0, h.0)) right refl (in_generator here, in_generator here)).1

pub not_maximal_back : ¬ (IsMaximalIntersection 1 rays_of_line rays_of_line 1 0)
not_maximal_back m = not_in_left (m.maximal 0 0 (omega arith) (omega arith) (λ x l h. (h.1, h.1)) right refl (in_generator here, in_generator here)).0

no_place : ¬ (IsMaximalIntersection 1 rays_of_line rays_of_line 0 2)
no_place m = let l : 2 < 2 = m.second in omega arith

-- ---- the refinement of the rays with themselves
of_itself : IsCommonRefinement 1 rays_of_line rays_of_line rays_of_line
of_itself = record { each = each; all = all; bare = λ e x l h. none_to_zero x h }
  where
    each : (k : ℕ) → k < 2 → (i : ℕ) × (j : ℕ) × IsMaximalIntersection 1 rays_of_line rays_of_line i j × IsConeAt 1 rays_of_line k (InIntersection rays_of_line rays_of_line i j)
    each zero l = (0, 0, first_maximal, λ x lx. (λ h. (h, h), λ h. h.0))
    each (suc zero) l = (1, 1, second_maximal, λ x lx. (λ h. (h, h), λ h. h.0))
    each (suc (suc k)) l = absurd (omega arith)

    all : (i j : ℕ) → IsMaximalIntersection 1 rays_of_line rays_of_line i j → (k : ℕ) × (k < 2) × IsConeAt 1 rays_of_line k (InIntersection rays_of_line rays_of_line i j)
    all zero zero m = (0, omega arith, λ x lx. (λ h. (h, h), λ h. h.0))
    all (suc zero) (suc zero) m = (1, omega arith, λ x lx. (λ h. (h, h), λ h. h.0))
    all zero (suc zero) m = absurd (not_maximal m)
    all (suc zero) zero m = absurd (not_maximal_back m)
    all (suc (suc i)) j m = let l = m.first in absurd (omega arith)
    all zero (suc (suc j)) m = let l = m.second in absurd (omega arith)
    all (suc zero) (suc (suc j)) m = let l = m.second in absurd (omega arith)

left_out : ¬ (IsCommonRefinement 1 rays_of_line rays_of_line one_ray)
left_out r = let w = r.all 1 1 second_maximal in go w.0 w.1 w.2
  where
    go : (k : ℕ) → k < 1 → ¬ (IsConeAt 1 one_ray k (InIntersection rays_of_line rays_of_line 1 1))
    go zero l c = not_in_right ((c left refl).1 (in_generator here, in_generator here))
    go (suc k) l c = absurd (omega arith)

abbrev with_apex : Fan
with_apex = fan ((right ∷ []) ∷ (left ∷ []) ∷ [] ∷ [])

no_left_span : ¬ (InSpan [] left)
no_left_span h = let e : minus ≡ pos 0 = none_to_zero left h 0 in omega (arith, ints)

included : ¬ (IsCommonRefinement 1 rays_of_line rays_of_line with_apex)
included r = let w = r.each 2 (omega arith) in go w.0 w.1 w.2 w.3
  where
    go : (i j : ℕ) → IsMaximalIntersection 1 rays_of_line rays_of_line i j → ¬ (IsConeAt 1 with_apex 2 (InIntersection rays_of_line rays_of_line i j))
    go zero zero m c = no_span ((c right refl).1 (in_generator here, in_generator here))
    go (suc zero) (suc zero) m c = no_left_span ((c left refl).1 (in_generator here, in_generator here))
    go zero (suc zero) m c = not_maximal m
    go (suc zero) zero m c = not_maximal_back m
    go (suc (suc i)) j m c = let l = m.first in absurd (omega arith)
    go zero (suc (suc j)) m c = let l = m.second in absurd (omega arith)
    go (suc zero) (suc (suc j)) m c = let l = m.second in absurd (omega arith)

-- ---- the refinement of the rays with the line
first_on_line : IsMaximalIntersection 1 rays_of_line whole_line 0 0
first_on_line = record { first = omega arith; second = omega arith; maximal = go }
  where
    go : (k l : ℕ) → k < 2 → l < 1 → ((x : Row) → length x ≡ 1 → InIntersection rays_of_line whole_line 0 0 x → InIntersection rays_of_line whole_line k l x) → (x : Row) → length x ≡ 1 → InIntersection rays_of_line whole_line k l x → InIntersection rays_of_line whole_line 0 0 x
    go zero zero lk ll w x lx h = h
    go zero (suc l) lk ll w x lx h = absurd (omega arith)
    go (suc zero) l lk ll w x lx h = absurd (not_in_left (w right refl (in_generator here, on_line right refl)).0)
    go (suc (suc k)) l lk ll w x lx h = absurd (omega arith)

second_on_line : IsMaximalIntersection 1 rays_of_line whole_line 1 0
second_on_line = record { first = omega arith; second = omega arith; maximal = go }
  where
    go : (k l : ℕ) → k < 2 → l < 1 → ((x : Row) → length x ≡ 1 → InIntersection rays_of_line whole_line 1 0 x → InIntersection rays_of_line whole_line k l x) → (x : Row) → length x ≡ 1 → InIntersection rays_of_line whole_line k l x → InIntersection rays_of_line whole_line 1 0 x
    go (suc zero) zero lk ll w x lx h = h
    go (suc zero) (suc l) lk ll w x lx h = absurd (omega arith)
    go zero l lk ll w x lx h = absurd (not_in_right (w left refl (in_generator here, on_line left refl)).0)
    go (suc (suc k)) l lk ll w x lx h = absurd (omega arith)

of_line : IsCommonRefinement 1 rays_of_line whole_line turned_rays
of_line = record { each = each; all = all; bare = λ e x l h. none_to_zero x h }
  where
    each : (k : ℕ) → k < 2 → (i : ℕ) × (j : ℕ) × IsMaximalIntersection 1 rays_of_line whole_line i j × IsConeAt 1 turned_rays k (InIntersection rays_of_line whole_line i j)
    each zero l = (1, 0, second_on_line, λ x lx. (λ h. (h, on_line x lx), λ h. h.0))
    each (suc zero) l = (0, 0, first_on_line, λ x lx. (λ h. (h, on_line x lx), λ h. h.0))
    each (suc (suc k)) l = absurd (omega arith)

    all : (i j : ℕ) → IsMaximalIntersection 1 rays_of_line whole_line i j → (k : ℕ) × (k < 2) × IsConeAt 1 turned_rays k (InIntersection rays_of_line whole_line i j)
    all zero zero m = (1, omega arith, λ x lx. (λ h. (h, on_line x lx), λ h. h.0))
    all (suc zero) zero m = (0, omega arith, λ x lx. (λ h. (h, on_line x lx), λ h. h.0))
    all (suc (suc i)) j m = let l = m.first in absurd (omega arith)
    all zero (suc j) m = let l = m.second in absurd (omega arith)
    all (suc zero) (suc j) m = let l = m.second in absurd (omega arith)

coarser : ¬ (IsCommonRefinement 1 rays_of_line whole_line whole_line)
coarser r = let w = r.each 0 (omega arith) in go w.0 w.1 w.2 w.3
  where
    go : (i j : ℕ) → IsMaximalIntersection 1 rays_of_line whole_line i j → ¬ (IsConeAt 1 whole_line 0 (InIntersection rays_of_line whole_line i j))
    go zero j m c = not_in_right ((c left refl).0 (on_line left refl)).0
    go (suc zero) j m c = not_in_left ((c right refl).0 (on_line right refl)).0
    go (suc (suc i)) j m c = let l = m.first in absurd (omega arith)

-- ---- without a cone
without : IsCommonRefinement 1 rays_of_line (fan []) (fan [])
without = record {
  each = λ k l. absurd (omega arith);
  all = λ i j m. let l : j < 0 = m.second in absurd (omega arith);
  bare = λ e x l h. none_to_zero x h;
}

bare : ¬ (IsCommonRefinement 1 rays_of_line (fan []) (record { cones = []; lines = right ∷ [] }))
bare r = let e : pos 1 ≡ pos 0 = r.bare refl right refl (in_line here) 0 in omega (arith, ints)

in_other_ray : ¬ (InPlace rays_of_line 1 (pos 2 ∷ []))
in_other_ray = apart (left ∷ []) [] left (pos 2 ∷ []) tt tt tt

pub refinements_are_read : RefinementsAreRead
refinements_are_read = record {
  place = refl;
  in_ray = (half (pos 2 ∷ []) refl).1 (le_z_yes tt);
  in_other_ray = in_other_ray;
  on_line = on_line left refl;
  half = half;
  open_half = open_half;
  turned = turned;
  fewer = fewer;
  more = more;
  other_lines = other_lines;
  maximal = first_maximal;
  not_maximal = not_maximal;
  no_place = no_place;
  of_itself = of_itself;
  of_line = of_line;
  left_out = left_out;
  included = included;
  coarser = coarser;
  without = without;
  bare = bare;
}
