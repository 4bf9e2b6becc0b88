-- The cones, rays and lines of a fan of shadows, and of each fan with the same cones, as rows and sets.
use Rattle.pm_vector.proofs.Lists.{Among, here, there}
use Rattle.pm_vector.proofs.Ring.{ring}
use Rattle.pm_vector.proofs.RowLaws.{dot-nil, dot-plus, dot-same, dot-times, dot_comm, entry-plus, entry-times}
use Rattle.pm_vector.proofs.Signs.{mul_cancel}
use Rattle.pm_vector.specs.Cones.{InCone, IsIndependent, combination}
use Rattle.pm_vector.specs.Rows.{Row, dot, entry, times}
use Rattle.pm_geom.proofs.Reduce.{extreme_as}
use Rattle.pm_geom.specs.Cones.{IsExtremeRay}
use Rattle.pm_geom.specs.Faces.{ray}
use Rattle.pm_laws_normal_fans.proofs.Places.{map_length, range_at, range_length}
use Rattle.pm_laws_normal_fans.proofs.SameFans.{HasOrders}
use Rattle.pm_laws_normal_fans.specs.Fans.{Fan, InPlace, IsConeAt}
use Rattle.pm_laws_normal_fans.specs.Shadows.{IsShadowFan, rest, rests, shadow_fan}
use Rattle.pm_types.specs.Right.{AreConeRays}
use Rattle.pm_types.specs.Things.{Thing}
use Rattle.std.proofs.Common.{arith, refl, subst, sym, ◌∙◌}
use Rattle.std.proofs.lemmas.Int.{ints}
use Rattle.std.specs.List.{Contains, range_with_len, slice_index_or}
use Rattle.std.specs.Prelude.{List, [], length, suc, zero, ℕ, ◌<◌, ◌↔◌, ◌∷◌, ◌≡◌}
use lib.IntN.{*ℤ_comm, pos, ℤ, ◌*ℤ◌}
use lib.Signed.{◌<ℤ◌}

-- ---- by places
pub cone_rays_by : (u : Thing) (V : List Row) (places : List ℕ) (rows : List (List ℕ)) → length rows ≡ length places
    → ((k : ℕ) → k < length places → (j : ℕ) → Contains (slice_index_or rows k []) j ↔ ((j < length V) × IsExtremeRay u.cols (slice_index_or u.cones (slice_index_or places k 0) []) u.lines (ray V j))) → AreConeRays u V places rows
cone_rays_by u V [] [] e f = tt
cone_rays_by u V [] (r ∷ rows) e f = absurd (omega arith)
cone_rays_by u V (i ∷ places) [] e f = absurd (omega arith)
cone_rays_by u V (i ∷ places) (r ∷ rows) e f = (f 0 (omega arith), cone_rays_by u V places rows (omega arith) (λ k l. f (suc k) (omega arith)))

-- the sets of places of a fan of shadows are right for a fan with the same cones
module _ (m : ℕ) (F E A U : List Row) (sf : IsShadowFan m F E A U) (u : Thing) (cols : u.cols ≡ m)
    (hs : HasOrders m (shadow_fan F E A) (record { cones = u.cones; lines = u.lines }) (record { rays = rests U; facets = []; cones = range_with_len 0 (length A) })) where
  fan_u : Fan
  fan_u = record { cones = u.cones; lines = u.lines }

  at_k : (k : ℕ) → k < length A → IsConeAt m (shadow_fan F E A) k (λ x. InCone (slice_index_or u.cones (slice_index_or hs.orders.cones k 0) []) u.lines x)
  at_k k l = let e = range_length 0 (length A) in let q : slice_index_or (range_with_len 0 (length A)) k 0 ≡ k = range_at 0 (length A) k l ∙ (omega arith) in
      subst (λ z. IsConeAt m (shadow_fan F E A) z (λ x. InCone (slice_index_or u.cones (slice_index_or hs.orders.cones k 0) []) u.lines x)) q (hs.cones k (omega arith)).1

  -- the ray at j is one of the cone at k exactly where the two rows have product 0
  pub ray_at : (k j : ℕ) → k < length A → j < length U → IsExtremeRay m (slice_index_or u.cones (slice_index_or hs.orders.cones k 0) []) u.lines (ray (rests U) j) ↔ (dot (ray U j) (ray A k) ≡ pos 0)
  ray_at k j lk lj =
      let c = at_k k lk in
      let s = sf.rays k j lk lj in
      let n = slice_index_or hs.orders.cones k 0 in (
        λ e. s.0 (extreme_as m (InCone (slice_index_or u.cones n []) u.lines) (InPlace (shadow_fan F E A) k) (λ x lx h. (c x lx).1 h) (λ x lx h. (c x lx).0 h) e),
        λ z. extreme_as m (InPlace (shadow_fan F E A) k) (InCone (slice_index_or u.cones n []) u.lines) (λ x lx h. (c x lx).0 h) (λ x lx h. (c x lx).1 h) (s.1 z),
      )

  pub sets_right : (rows : List (List ℕ)) → length rows ≡ length A → ((k : ℕ) → k < length A → (j : ℕ) → Contains (slice_index_or rows k []) j ↔ ((j < length U) × (dot (ray U j) (ray A k) ≡ pos 0))) → AreConeRays u hs.orders.rays hs.orders.cones rows
  sets_right rows e f =
      let am = hs.as_many in
      let q = range_length 0 (length A) in
      let lu = map_length rest U in
      subst (λ R. AreConeRays u R hs.orders.cones rows) (sym hs.rays) (cone_rays_by u (rests U) hs.orders.cones rows (omega arith) (λ k l j.
      let lk : k < length A = omega arith in
      subst (λ n. Contains (slice_index_or rows k []) j ↔ ((j < length (rests U)) × IsExtremeRay n (slice_index_or u.cones (slice_index_or hs.orders.cones k 0) []) u.lines (ray (rests U) j))) (sym cols) (
        λ c. let p = (f k lk j).0 c in ((let b = p.0 in omega arith), (ray_at k j lk p.0).1 p.1),
        λ p. let lj : j < length U = (let b = p.0 in omega arith) in (f k lk j).1 (lj, (ray_at k j lk lj).0 p.1),
      )))

-- ---- lines
combination-rests : (c : List ℤ) (X : List Row) (i : ℕ) → entry (combination c (rests X)) i ≡ entry (combination c X) (suc i)
combination-rests [] X i = refl
combination-rests (k ∷ c) [] i = refl
combination-rests (k ∷ c) (x ∷ X) i = let h = combination-rests c X i in let e = rest-entry x i in simp (entry-plus, entry-times, h, e)
  where
    rest-entry : (x : Row) (i : ℕ) → entry (rest x) i ≡ entry x (suc i)
    rest-entry [] i = refl
    rest-entry (a ∷ x) i = refl

dot_first : (y v : Row) → ((i : ℕ) → entry y (suc i) ≡ pos 0) → dot y v ≡ entry y 0 *ℤ entry v 0
dot_first y v z = dot_comm y v ∙ dot-same v y (entry y 0 ∷ []) same ∙ by v (entry y 0)
  where
    same : (i : ℕ) → entry y i ≡ entry (entry y 0 ∷ []) i
    same zero = refl
    same (suc i) = z i

    by : (v : Row) (a : ℤ) → dot v (a ∷ []) ≡ a *ℤ entry v 0
    by [] a = simp ring
    by (b ∷ v) a = let h = dot-nil v in simp h (omega (arith, ints))

null_combination : (v : Row) (c : List ℤ) (X : List Row) → ((x : Row) → Among x X → dot v x ≡ pos 0) → dot v (combination c X) ≡ pos 0
null_combination v [] X f = dot-nil v
null_combination v (k ∷ c) [] f = dot-nil v
null_combination v (k ∷ c) (x ∷ X) f = let a = dot-plus v (times k x) (combination c X) in let b = dot-times v k x in let d = f x here in let e = null_combination v c X (λ y i. f y (there i)) in let g = simp (d, ring) at b in omega (arith, ints)

-- rows that all vanish at a row with a positive first entry are independent without their first entries, if they are
pub rests_independent : (v : Row) (X : List Row) → pos 0 <ℤ entry v 0 → ((x : Row) → Among x X → dot x v ≡ pos 0) → IsIndependent X → IsIndependent (rests X)
rests_independent v X up null ind c z i l = ind c zero_all i (let e = map_length rest X in omega arith)
  where
    others : (i : ℕ) → entry (combination c X) (suc i) ≡ pos 0
    others i = sym (combination-rests c X i) ∙ z i

    first : entry (combination c X) 0 ≡ pos 0
    first =
        let a = null_combination v c X (λ x i. dot_comm v x ∙ null x i) in
        let b = dot_first (combination c X) v others in
        let d = dot_comm v (combination c X) in
        let e : entry v 0 *ℤ entry (combination c X) 0 ≡ entry v 0 *ℤ pos 0 = *ℤ_comm (entry v 0) (entry (combination c X) 0) ∙ sym b ∙ sym d ∙ a ∙ (simp ring) in
        mul_cancel up e

    zero_all : (i : ℕ) → entry (combination c X) i ≡ pos 0
    zero_all zero = first
    zero_all (suc i) = others i
