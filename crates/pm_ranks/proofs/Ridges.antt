-- Two facets meet in a ridge exactly where no third facet holds all rays that they share.
use Rattle.pm_vector.proofs.Lists.{Among}
use Rattle.pm_vector.proofs.RowLaws.{length-plus, plus-dot}
use Rattle.pm_vector.specs.Cones.{InCone, InSpan}
use Rattle.pm_vector.specs.Rows.{HasCols, Row, dot, plus}
use Rattle.pm_vector.proofs.Spans.{at_place}
use Rattle.pm_vector.specs.Bases.{IsRank}
use Rattle.pm_geom.specs.Cones.{IsExtreme, IsOrder, IsValid, Vanishes}
use Rattle.pm_geom.specs.Faces.{HasRank, IsFace, ray}
use Rattle.pm_ranks.proofs.Chosen.{chosen_from}
use Rattle.pm_ranks.proofs.Highest.{chosen_at, face_rank, facet_at, rank_of, star_sum, whole_sum}
use Rattle.pm_ranks.proofs.PolarFaces.{facet_cols, own_facets, polar, polar_face, polar_from, polar_sum, polar_to}
use Rattle.pm_ranks.proofs.Ranks.{at_least_lines, dimension, rank_from}
use Rattle.pm_ranks.proofs.Rays.{alone, extreme_in}
use Rattle.pm_ranks.proofs.Small.{second_from, second_to}
use Rattle.pm_ranks.specs.Chosen.{chosen}
use Rattle.pm_ranks.specs.Thirds.{NoThirdFacet}
use Rattle.std.proofs.Common.{arith, inl, inr, subst, sym, ◌∙◌}
use Rattle.std.proofs.lemmas.Bool.{cases_eq}
use Rattle.std.proofs.lemmas.Int.{ints}
use Rattle.std.specs.Prelude.{Bool, IsTrue, List, length, ℕ, ◌++◌, ◌+◌, ◌<◌, ◌↔◌, ◌≡◌, ◌⊎◌}
use lib.IntN.{pos}

-- three different numbers are not two
two_values : (a b x y z : ℕ) → ¬ (x ≡ y) → ¬ (z ≡ x) → ¬ (z ≡ y) → (x ≡ a) ⊎ (x ≡ b) → (y ≡ a) ⊎ (y ≡ b) → (z ≡ a) ⊎ (z ≡ b) → ⊥
two_values a b x y z n1 n2 n3 (inl p) (inl q) r = n1 (p ∙ sym q)
two_values a b x y z n1 n2 n3 (inr p) (inr q) r = n1 (p ∙ sym q)
two_values a b x y z n1 n2 n3 (inl p) (inr q) (inl r) = n2 (r ∙ sym p)
two_values a b x y z n1 n2 n3 (inl p) (inr q) (inr r) = n3 (r ∙ sym q)
two_values a b x y z n1 n2 n3 (inr p) (inl q) (inl r) = n3 (r ∙ sym q)
two_values a b x y z n1 n2 n3 (inr p) (inl q) (inr r) = n2 (r ∙ sym p)

module _ (n : ℕ) (V K : List Row) (hv : HasCols n V) (hk : HasCols n K) (o : IsOrder n (InCone V K) V) (l : ℕ) (rl : IsRank K l) where
  module _ (F E : List Row) (he : HasCols n E) (oF : IsOrder n (IsValid n V K) F) (vanish : (a : Row) → length a ≡ n → Vanishes n V K a ↔ InSpan E a) (m : ℕ) (rm : IsRank E m) (w : ℕ → Bool) (all : (j : ℕ) → j < length V → IsTrue (w j)) (t : ℕ) (rw' : HasRank n V K V w t) where
    ex : (v : Row) → Among v V → IsExtreme n (InCone V K) v
    ex = extreme_in n V K hv hk o

    hF : HasCols n F
    hF = facet_cols n V K hv hk o F E he oF vanish

    own : IsOrder n (InCone F E) F
    own = own_facets n V K hv hk o F E he oF vanish

    exF : (g : Row) → Among g F → IsExtreme n (InCone F E) g
    exF = extreme_in n F E hF he own

    abbrev star : (f : ℕ → Bool) → IsFace n V K V f → ℕ → Bool
    star f face = polar n V K hv hk o F E he oF vanish f face

    facet : (i : ℕ) → i < length F → IsValid n V K (ray F i)
    facet = facet_at n V K hv hk o l rl F E he oF vanish m rm w all t rw'

    chosen_zero : (f : ℕ → Bool) (g : Row) → ((j : ℕ) → j < length V → IsTrue (f j) → dot g (ray V j) ≡ pos 0) → (v : Row) → Among v (chosen f V) → dot g v ≡ pos 0
    chosen_zero = chosen_at V

    module _ (i k : ℕ) (li : i < length F) (lk : k < length F) (ne : ¬ (i ≡ k)) (f : ℕ → Bool) (e : (j : ℕ) → j < length V → IsTrue (f j) ↔ ((dot (ray F i) (ray V j) ≡ pos 0) × (dot (ray F k) (ray V j) ≡ pos 0))) where
      meet_face : IsFace n V K V f
      meet_face = record {
        a = plus (ray F i) (ray F k);
        valid = record { cols = length-plus n (ray F i) (ray F k) (facet i li).cols (facet k lk).cols; holds = λ y ly h. let p = (facet i li).holds y ly h in let q = (facet k lk).holds y ly h in simp plus-dot (omega (arith, ints)) };
        places = λ j lj. (
          λ h. let z = (e j lj).0 h in let x = z.0 in let y = z.1 in simp (plus-dot, x, y),
          λ z. let c = ex (ray V j) (at_place V j lj) in let p = (facet i li).holds (ray V j) c.cols c.inside in let q = (facet k lk).holds (ray V j) c.cols c.inside in let s = simp plus-dot at z in (e j lj).1 (omega (arith, ints), omega (arith, ints)),
        );
      }

      star_holds : (face : IsFace n V K V f) (x : ℕ) → ((j : ℕ) → j < length V → dot (ray F i) (ray V j) ≡ pos 0 → dot (ray F k) (ray V j) ≡ pos 0 → dot (ray F x) (ray V j) ≡ pos 0) → IsTrue (star f face x)
      star_holds face x h = polar_from n V K hv hk o F E he oF vanish f face x (chosen_zero f (ray F x) (λ j lj q. let z = (e j lj).0 q in h j lj z.0 z.1))

      pub ridge_no_other : (d : ℕ) → d + 2 ≡ t → HasRank n V K V f d → NoThirdFacet V F i k
      ridge_no_other d ed r l' ll ni nk h =
          let c = second_to n F E hF he own m rm (star f r.face) star_two in
          two_values c.0 c.1 i k l' ne ni nk
          ((c.5 i li).0 (star_holds r.face i (λ j lj x y. x)))
          ((c.5 k lk).0 (star_holds r.face k (λ j lj x y. y)))
          ((c.5 l' ll).0 (star_holds r.face l' h))
        where
          star_two : HasRank n F E F (star f r.face) 2
          star_two =
              let s = dimension n F E hF he exF m rm (star f r.face) in
              let low = at_least_lines n F E hF he exF m rm (star f r.face) s.0 s.1 in
              let p = polar_sum n V K hv hk o F E he oF vanish f r.face (d + l) s.0 (rank_of n V K hv hk o l rl f d r) s.1 in
              let q = whole_sum n V K hv hk o l rl F E he oF vanish m rm w all t rw' in
              let two : s.0 ≡ 2 + m = omega arith in
              rank_from n F E hF he exF m rm (star f r.face) 2 (polar_face n V K hv hk o F E he oF vanish f r.face) (subst (λ z. IsRank (chosen (star f r.face) F ++ E) z) two s.1)

      pub no_other_ridge : NoThirdFacet V F i k → (d : ℕ) × (d + 2 ≡ t) × HasRank n V K V f d
      no_other_ridge alone =
          let r = face_rank n V K hv hk o l rl f meet_face in
          (r.0, star_sum n V K hv hk o l rl F E he oF vanish m rm w all t rw' f r.0 2 r.1 (second_from n F E hF he own m rm (star f r.1.face) (polar_face n V K hv hk o F E he oF vanish f r.1.face) i k li lk ne (λ x lx. (to r.1.face x lx, from r.1.face x))), r.1)
        where
          to : (face : IsFace n V K V f) (x : ℕ) → x < length F → IsTrue (star f face x) → (x ≡ i) ⊎ (x ≡ k)
          to face x lx h = elim (cases_eq x i) [
            | inl q ↦ inl q
            | inr ni ↦ elim (cases_eq x k) [
              | inl q ↦ inr q
              | inr nk ↦ absurd (alone x lx ni nk (λ j lj y z. polar_to n V K hv hk o F E he oF vanish f face x h (ray V j) (chosen_from f V j lj ((e j lj).1 (y, z)))))
            ]
          ]

          from : (face : IsFace n V K V f) (x : ℕ) → (x ≡ i) ⊎ (x ≡ k) → IsTrue (star f face x)
          from face x (inl q) = subst (λ y. IsTrue (star f face y)) (sym q) (star_holds face i (λ j lj x y. x))
          from face x (inr q) = subst (λ y. IsTrue (star f face y)) (sym q) (star_holds face k (λ j lj x y. y))
