-- Faces are exactly the intersections of facets.
use Rattle.pm_vector.proofs.ConeLaws.{After, dot_in, in_line, in_to_after, lines_opposite}
use Rattle.pm_vector.proofs.Lists.{All_among, Among, Contains_among, among_All, among_Contains, here, there}
use Rattle.pm_vector.proofs.Ring.{ring}
use Rattle.pm_vector.proofs.RowLaws.{dot-difference, dot-zeros, dot_comm, length-opposite, length-plus, length-zeros, plus-dot, zeros}
use Rattle.pm_vector.proofs.Signs.{mul_cancel, mul_nonneg, weaken}
use Rattle.pm_vector.specs.Cones.{InCone}
use Rattle.pm_vector.specs.Rows.{Row, difference, dot, opposite, plus}
use Rattle.pm_geom.proofs.Facets.{Duals, duals, facet_rows_cut_out, opposite-dot, order_as, order_generates, vanishes_line}
use Rattle.pm_geom.proofs.Polar.{cols_at}
use Rattle.pm_geom.specs.Cones.{InLineality, IsExtreme, IsValid, Vanishes}
use Rattle.pm_geom.specs.Faces.{IsFace}
use Rattle.pm_geom.specs.Laws.{FaceOfFacets}
use Rattle.std.proofs.Common.{ap, arith, sym, ◌∙◌}
use Rattle.std.proofs.lemmas.Int.{by_lt_z, ints}
use Rattle.std.specs.List.{All, Contains, slice_index_or}
use Rattle.std.specs.Prelude.{IsTrue, List, [], length, suc, zero, ℕ, ◌<◌, ◌↔◌, ◌∷◌, ◌≡◌}
use lib.IntN.{pos, ℤ, ◌*ℤ◌, ◌-ℤ◌}
use lib.Signed.{◌<ℤ◌, ◌≤ℤ◌}

-- two products that are not negative, with positive multiples, are 0 where their sum is
zero_parts : (p q x y z : ℤ) → pos 0 <ℤ p → pos 0 <ℤ q → pos 0 ≤ℤ y → pos 0 ≤ℤ z → z ≡ p *ℤ x -ℤ q *ℤ y → x ≡ pos 0 → (y ≡ pos 0) × (z ≡ pos 0)
zero_parts p q x y z hp hq hy hz e ex =
    let a = simp (ex, ring) at e in
    let b = mul_nonneg (weaken hq) hy in
    (mul_cancel hq (simp ring (omega (arith, ints))), omega (arith, ints))

pub difference-dot : (p : ℤ) (a : Row) (q : ℤ) (g x : Row) → dot (difference p a q g) x ≡ p *ℤ dot a x -ℤ q *ℤ dot g x
difference-dot p a q g x = dot_comm (difference p a q g) x ∙ dot-difference x p a q g ∙ ap (λ z. p *ℤ z -ℤ q *ℤ dot x g) (dot_comm x a) ∙ ap (λ z. p *ℤ dot a x -ℤ q *ℤ z) (dot_comm x g)

zero_whole : (p q x y z : ℤ) → pos 0 <ℤ p → z ≡ p *ℤ x -ℤ q *ℤ y → y ≡ pos 0 → z ≡ pos 0 → x ≡ pos 0
zero_whole p q x y z hp e ey ez = let a = simp (ey, ez, ring) at e in mul_cancel hp (simp ring (omega (arith, ints)))

module _ (n : ℕ) (G L : List Row) where
  -- the rows of a list at which a combination of them is 0, on the cone
  record Tight (W : List Row) (a : Row) : Type 0 where
    rows : List Row
    some : (b : Row) → Among b rows → Among b W
    down : (x : Row) → length x ≡ n → InCone G L x → dot a x ≡ pos 0 → (b : Row) → Among b rows → dot b x ≡ pos 0
    back : (x : Row) → length x ≡ n → InCone G L x → ((b : Row) → Among b rows → dot b x ≡ pos 0) → dot a x ≡ pos 0

  module _ (E : List Row) (v : (e : Row) → Among e E → Vanishes n G L e) where
    not_below : (W : List Row) → ((b : Row) → Among b W → IsValid n G L b) → (a : Row) → InCone W E a → (x : Row) → length x ≡ n → InCone G L x → pos 0 ≤ℤ dot a x
    not_below W f a h x lx hx = rw dot_comm (dot_in x W E (λ b i. rw dot_comm ((f b i).holds x lx hx)) (λ e i. dot_comm x e ∙ (v e i).holds x lx hx) h)

    on_lines : (a : Row) → InCone [] E a → (x : Row) → length x ≡ n → InCone G L x → dot a x ≡ pos 0
    on_lines a h x lx hx =
        let p = not_below [] (λ b i. elim i [ ]) a h x lx hx in
        let q = rw opposite-dot at (not_below [] (λ b i. elim i [ ]) (opposite a) (lines_opposite E a h) x lx hx) in
        omega (arith, ints)

    tight_more : (W : List Row) (g a : Row) → IsValid n G L g → ((b : Row) → Among b W → IsValid n G L b) → (t : After (InCone W E) g a) → pos 0 <ℤ t.q → Tight W (difference t.p a t.q g) → Tight (g ∷ W) a
    tight_more W g a vg f t up r = record { rows = g ∷ r.rows; some = some_more; down = down_more; back = back_more }
      where
        some_more : (b : Row) → Among b (g ∷ r.rows) → Among b (g ∷ W)
        some_more b here = here
        some_more b (there i) = there (r.some b i)

        down_more : (x : Row) → length x ≡ n → InCone G L x → dot a x ≡ pos 0 → (b : Row) → Among b (g ∷ r.rows) → dot b x ≡ pos 0
        down_more x lx hx e b i =
            let z = zero_parts t.p t.q (dot a x) (dot g x) (dot (difference t.p a t.q g) x) t.positive up (vg.holds x lx hx) (not_below W f (difference t.p a t.q g) t.rest x lx hx) (difference-dot t.p a t.q g x) e in
            at_each z b i
          where
            at_each : (dot g x ≡ pos 0) × (dot (difference t.p a t.q g) x ≡ pos 0) → (b : Row) → Among b (g ∷ r.rows) → dot b x ≡ pos 0
            at_each z b here = z.0
            at_each z b (there i) = r.down x lx hx z.1 b i

        back_more : (x : Row) → length x ≡ n → InCone G L x → ((b : Row) → Among b (g ∷ r.rows) → dot b x ≡ pos 0) → dot a x ≡ pos 0
        back_more x lx hx k = zero_whole t.p t.q (dot a x) (dot g x) (dot (difference t.p a t.q g) x) t.positive (difference-dot t.p a t.q g x) (k g here) (r.back x lx hx (λ b i. k b (there i)))

    tight_same : (W : List Row) (g a : Row) → (t : After (InCone W E) g a) → t.q ≤ℤ pos 0 → Tight W (difference t.p a t.q g) → Tight (g ∷ W) a
    tight_same W g a t none r =
        let q0 = t.not_negative in
        let z : t.q ≡ pos 0 = omega (arith, ints) in
        record {
          rows = r.rows;
          some = λ b i. there (r.some b i);
          down = λ x lx hx e. r.down x lx hx (difference-dot t.p a t.q g x ∙ simp (e, z, ring));
          back = λ x lx hx k. let e = sym (difference-dot t.p a t.q g x) ∙ r.back x lx hx k in mul_cancel t.positive (let y = simp (z, ring) at e in simp ring (omega (arith, ints)));
        }

    tight : (W : List Row) → ((b : Row) → Among b W → IsValid n G L b) → (a : Row) → InCone W E a → Tight W a
    tight [] f a h = record { rows = []; some = λ b i. i; down = λ x lx hx e b i. elim i [ ]; back = λ x lx hx k. on_lines a h x lx hx }
    tight (g ∷ W) f a h =
        let t = in_to_after W E g a h in
        let r = tight W (λ b i. f b (there i)) (difference t.p a t.q g) t.rest in
        by_lt_z (pos 0) t.q (λ up. tight_more W g a (f g here) (λ b i. f b (there i)) t up r) (λ none. tight_same W g a t none r)

  -- the sum of rows
  pub total : List Row → Row
  total [] = zeros n
  total (b ∷ J) = plus b (total J)

  pub total_cols : (J : List Row) → ((b : Row) → Among b J → IsValid n G L b) → length (total J) ≡ n
  unfolding total
  total_cols [] f = length-zeros n
  total_cols (b ∷ J) f = length-plus n b (total J) (f b here).cols (total_cols J (λ y i. f y (there i)))

  pub total_not_below : (J : List Row) → ((b : Row) → Among b J → IsValid n G L b) → (x : Row) → length x ≡ n → InCone G L x → pos 0 ≤ℤ dot (total J) x
  unfolding total
  total_not_below [] f x lx hx = simp dot-zeros (omega (arith, ints))
  total_not_below (b ∷ J) f x lx hx =
      let p = (f b here).holds x lx hx in
      let q = total_not_below J (λ y i. f y (there i)) x lx hx in
      simp plus-dot (omega (arith, ints))

  pub total_down : (J : List Row) → ((b : Row) → Among b J → IsValid n G L b) → (x : Row) → length x ≡ n → InCone G L x → dot (total J) x ≡ pos 0 → (b : Row) → Among b J → dot b x ≡ pos 0
  unfolding total
  total_down [] f x lx hx e b i = elim i [ ]
  total_down (c ∷ J) f x lx hx e b here =
      let p = (f c here).holds x lx hx in
      let q = total_not_below J (λ y i. f y (there i)) x lx hx in
      let s = simp plus-dot at e in
      omega (arith, ints)
  total_down (c ∷ J) f x lx hx e b (there i) =
      let p = (f c here).holds x lx hx in
      let q = total_not_below J (λ y i. f y (there i)) x lx hx in
      let s = simp plus-dot at e in
      let w : dot (total J) x ≡ pos 0 = omega (arith, ints) in
      total_down J (λ y i. f y (there i)) x lx hx w b i

  pub total_back : (J : List Row) → (x : Row) → ((b : Row) → Among b J → dot b x ≡ pos 0) → dot (total J) x ≡ pos 0
  unfolding total
  total_back [] x f = dot-zeros n x
  total_back (b ∷ J) x f =
      let p = f b here in
      let q = total_back J x (λ y i. f y (there i)) in
      simp (plus-dot, p, q)

  pub total_valid : (J : List Row) → ((b : Row) → Among b J → IsValid n G L b) → IsValid n G L (total J)
  total_valid J f = record { cols = total_cols J f; holds = total_not_below J f }

-- ---- the theorem
-- the element at a place, and the places of an element
among_place : (V : List Row) (j : ℕ) (d : Row) → j < length V → Among (slice_index_or V j d) V
among_place [] j d l = absurd (omega arith)
among_place (v ∷ V) zero d l = here
among_place (v ∷ V) (suc j) d l = there (among_place V j d (omega arith))

pub face_of_facets : FaceOfFacets
unfolding Duals
face_of_facets n G L hg hl V F oV oF f = (to, from)
  where
    Meets : Type 0
    Meets = (J : List Row) × ((b : Row) → Contains J b → Contains F b) × ((j : ℕ) → j < length V → IsTrue (f j) ↔ All (λ b. dot b (slice_index_or V j []) ≡ pos 0) J)

    facet : (b : Row) → Among b F → IsValid n G L b
    facet b i = (among_All (λ a. IsExtreme n (IsValid n G L) a) i oF.each).inside

    ray_cols : (j : ℕ) → j < length V → length (slice_index_or V j []) ≡ n
    ray_cols j l = (oV.each j [] l).cols

    ray_in : (j : ℕ) → j < length V → InCone G L (slice_index_or V j [])
    ray_in j l = (oV.each j [] l).inside

    to : IsFace n G L V f → Meets
    to h =
        let (F0, E, he, o0, vanish, valid, cut) = facet_rows_cut_out n G L hg hl in
        let (D, hd, eq) = duals n G L hg hl in
        let oD = order_as n (IsValid n G L) (InCone D []) (λ a la. (eq a la).1) (λ a la. (eq a la).0) oF in
        let line : (a : Row) → length a ≡ n → InLineality (InCone D []) a ↔ InCone [] E a = λ a la. (
          λ s. (vanish a la).0 ((vanishes_line n G L hg hl a la).1 (record { inside = (eq a la).0 s.inside; opposed = (eq (opposite a) (length-opposite a ∙ la)).0 s.opposed })),
          λ k. let s = (vanishes_line n G L hg hl a la).0 ((vanish a la).1 k) in record { inside = (eq a la).1 s.inside; opposed = (eq (opposite a) (length-opposite a ∙ la)).1 s.opposed },
        ) in
        let member = (order_generates n D [] hd tt F E he oD line h.a h.valid.cols).0 ((eq h.a h.valid.cols).1 h.valid) in
        let t = tight n G L E (λ e i. (vanish e (cols_at i he)).1 (in_line i)) F facet h.a member in (
          t.rows,
          λ b c. Contains_among (t.some b (among_Contains t.rows c)),
          λ j l. (
            λ s. All_among (λ b. dot b (slice_index_or V j []) ≡ pos 0) t.rows (t.down (slice_index_or V j []) (ray_cols j l) (ray_in j l) ((h.places j l).0 s)),
            λ k. (h.places j l).1 (t.back (slice_index_or V j []) (ray_cols j l) (ray_in j l) (λ b i. among_All (λ b. dot b (slice_index_or V j []) ≡ pos 0) i k)),
          ),
        )

    from : Meets → IsFace n G L V f
    from (J, some, places) =
        let ok : (b : Row) → Among b J → IsValid n G L b = λ b i. facet b (among_Contains F (some b (Contains_among i))) in
        record {
          a = total n G L J;
          valid = total_valid n G L J ok;
          places = λ j l. (
            λ s. total_back n G L J (slice_index_or V j []) (λ b i. among_All (λ b. dot b (slice_index_or V j []) ≡ pos 0) i ((places j l).0 s)),
            λ e. (places j l).1 (All_among (λ b. dot b (slice_index_or V j []) ≡ pos 0) J (total_down n G L J ok (slice_index_or V j []) (ray_cols j l) (ray_in j l) e)),
          );
        }
