-- The faces of rank 1 less than the whole are the facets.
use Rattle.pm_vector.proofs.ConeLaws.{in_generator, in_line, in_line_opposite}
use Rattle.pm_vector.proofs.Lists.{Among, among_All, among_append, among_append_left, among_append_right, here, there}
use Rattle.pm_vector.proofs.RowLaws.{dot_comm}
use Rattle.pm_vector.specs.Cones.{InCone, InSpan}
use Rattle.pm_vector.specs.Rows.{HasCols, Row, dot}
use Rattle.pm_vector.proofs.Rank.{rank_is_determined}
use Rattle.pm_vector.proofs.Spans.{at_place, place_of, same_span}
use Rattle.pm_vector.specs.Bases.{IsRank}
use Rattle.pm_vector.proofs.DotLaws.{dot_span_zero}
use Rattle.pm_geom.proofs.Polar.{cols_at}
use Rattle.pm_geom.proofs.ValidRows.{null_in}
use Rattle.pm_geom.specs.Cones.{IsExtreme, IsOrder, IsValid, Vanishes}
use Rattle.pm_geom.specs.Faces.{HasRank, IsFace, ray}
use Rattle.pm_ranks.proofs.Chosen.{chosen_from, chosen_some, chosen_to}
use Rattle.pm_ranks.proofs.PolarFaces.{facet_cols, facet_valid, own_facets, polar, polar_face, polar_from, polar_sum, polar_to, spanned, valid_is}
use Rattle.pm_ranks.proofs.Ranks.{at_least_lines, dimension, rank_from, rank_to}
use Rattle.pm_ranks.proofs.Rays.{extreme_in}
use Rattle.pm_ranks.proofs.Sharp.{valid_line}
use Rattle.pm_ranks.proofs.Small.{first_to, rank_same}
use Rattle.pm_ranks.proofs.Walls.{wall_rank}
use Rattle.pm_ranks.specs.Chosen.{chosen}
use Rattle.std.proofs.Common.{arith, inl, inr, refl, subst, sym, ◌∙◌}
use Rattle.std.specs.Prelude.{Bool, IsTrue, List, length, suc, ℕ, ◌++◌, ◌+◌, ◌-◌, ◌<◌, ◌↔◌, ◌∷◌, ◌≡◌}
use lib.IntN.{pos}

-- a row that is 0 at the places of a set is 0 on the chosen rows
pub chosen_at : (V : List Row) (f : ℕ → Bool) (g : Row) → ((j : ℕ) → j < length V → IsTrue (f j) → dot g (ray V j) ≡ pos 0) → (v : Row) → Among v (chosen f V) → dot g v ≡ pos 0
chosen_at V f g h v i = let u = chosen_to f V i in subst (λ y. dot g y ≡ pos 0) u.3 (h u.0 u.1 u.2)

module _ (n : ℕ) (V K : List Row) (hv : HasCols n V) (hk : HasCols n K) (o : IsOrder n (InCone V K) V) (l : ℕ) (rl : IsRank K l) where
  ex : (v : Row) → Among v V → IsExtreme n (InCone V K) v
  ex = extreme_in n V K hv hk o

  pub face_rank : (f : ℕ → Bool) → IsFace n V K V f → (k : ℕ) × HasRank n V K V f k
  face_rank f face =
      let d = dimension n V K hv hk ex l rl f in
      let low = at_least_lines n V K hv hk ex l rl f d.0 d.1 in
      let e : d.0 ≡ (d.0 - l) + l = omega arith in
      (d.0 - l, rank_from n V K hv hk ex l rl f (d.0 - l) face (subst (λ z. IsRank (chosen f V ++ K) z) e d.1))

  pub rank_of : (f : ℕ → Bool) (k : ℕ) → HasRank n V K V f k → IsRank (chosen f V ++ K) (k + l)
  rank_of f k r = rank_to n V K hv hk ex l rl f k r

  one_rank_of : (f : ℕ → Bool) (k k' : ℕ) → HasRank n V K V f k → HasRank n V K V f k' → k ≡ k'
  one_rank_of f k k' r r' = let e = rank_is_determined (chosen f V ++ K) (k + l) (k' + l) (rank_of f k r) (rank_of f k' r') in omega arith

  module _ (F E : List Row) (he : HasCols n E) (oF : IsOrder n (IsValid n V K) F) (vanish : (a : Row) → length a ≡ n → Vanishes n V K a ↔ InSpan E a) (m : ℕ) (rm : IsRank E m) (w : ℕ → Bool) (all : (j : ℕ) → j < length V → IsTrue (w j)) (t : ℕ) (rw' : HasRank n V K V w t) where
    hF : HasCols n F
    hF = facet_cols n V K hv hk o F E he oF vanish

    exF : (g : Row) → Among g F → IsExtreme n (InCone F E) g
    exF = extreme_in n F E hF he (own_facets n V K hv hk o F E he oF vanish)

    abbrev star : (f : ℕ → Bool) → IsFace n V K V f → ℕ → Bool
    star f face = polar n V K hv hk o F E he oF vanish f face

    -- the polar of the whole has rank 0
    pub whole_sum : t + l + m ≡ n
    whole_sum =
        let p = polar_sum n V K hv hk o F E he oF vanish w rw'.face (t + l) in
        let d = dimension n F E hF he exF m rm (star w rw'.face) in
        let e = p d.0 (rank_of w t rw') d.1 in
        let same = rank_is_determined E m d.0 rm (lines_only d.0 d.1) in
        omega arith
      where
        lines_only : (e : ℕ) → IsRank (chosen (star w rw'.face) F ++ E) e → IsRank E e
        lines_only e r = rank_same (chosen (star w rw'.face) F ++ E) E e (same_span (chosen (star w rw'.face) F ++ E) E to (λ x i. in_line (among_append_right (chosen (star w rw'.face) F) i))) r
          where
            everywhere : (g : Row) → IsValid n V K g → ((v : Row) → Among v (chosen w V) → dot g v ≡ pos 0) → Vanishes n V K g
            everywhere g vg z = record {
              cols = vg.cols;
              holds = λ x lx h. null_in g V K
                  (λ v i. let u = place_of i in subst (λ y. dot g y ≡ pos 0) u.2 (z (ray V u.0) (chosen_from w V u.0 u.1 (all u.0 u.1))))
                  (λ k i. valid_line n V K g vg k (cols_at i hk) (record { inside = in_line i; opposed = in_line_opposite i }))
                  h;
            }

            to : (x : Row) → Among x (chosen (star w rw'.face) F ++ E) → InSpan E x
            to x i = elim (among_append (chosen (star w rw'.face) F) E i) [
              | inr j ↦ in_line j
              | inl j ↦
                  let u = chosen_to (star w rw'.face) F j in
                  let vx = facet_valid n V K hv hk o F E he oF vanish x (chosen_some (star w rw'.face) F j) in
                  (vanish x vx.cols).0 (everywhere x vx (λ v q. subst (λ y. dot y v ≡ pos 0) u.3 (polar_to n V K hv hk o F E he oF vanish w rw'.face u.0 u.2 v q)))
            ]

    pub star_sum : (f : ℕ → Bool) (k k' : ℕ) (r : HasRank n V K V f k) → HasRank n F E F (star f r.face) k' → k + k' ≡ t
    star_sum f k k' r r' =
        let p = polar_sum n V K hv hk o F E he oF vanish f r.face (k + l) (k' + m) (rank_of f k r) (rank_to n F E hF he exF m rm (star f r.face) k' r') in
        let q = whole_sum in
        omega arith

    -- ---- facets
    pub facet_at : (i : ℕ) → i < length F → IsValid n V K (ray F i)
    facet_at i li = facet_valid n V K hv hk o F E he oF vanish (ray F i) (at_place F i li)

    pub facet_is_highest : (f : ℕ → Bool) (k : ℕ) → t ≡ suc k → (i : ℕ) → i < length F → ((j : ℕ) → j < length V → IsTrue (f j) ↔ (dot (ray F i) (ray V j) ≡ pos 0)) → HasRank n V K V f k
    facet_is_highest f k et i li e =
        let d = dimension n V K hv hk ex l rl f in
        let q = wall_rank n V K hv hk (ray F i) (among_All (λ a. IsExtreme n (IsValid n V K) a) (at_place F i li) oF.each) (chosen f V) some every (t + l) d.0 whole_rank d.1 in
        let same : d.0 ≡ k + l = omega arith in
        rank_from n V K hv hk ex l rl f k (record { a = ray F i; valid = facet_at i li; places = e }) (subst (λ z. IsRank (chosen f V ++ K) z) same d.1)
      where
        some : (v : Row) → Among v (chosen f V) → Among v V × (dot (ray F i) v ≡ pos 0)
        some v q = (chosen_some f V q, chosen_at V f (ray F i) (λ j lj h. (e j lj).0 h) v q)

        every : (v : Row) → Among v V → dot (ray F i) v ≡ pos 0 → Among v (chosen f V)
        every v q z = let u = place_of q in subst (λ y. Among y (chosen f V)) u.2 (chosen_from f V u.0 u.1 ((e u.0 u.1).1 (subst (λ y. dot (ray F i) y ≡ pos 0) (sym u.2) z)))

        all_to : (x : Row) → Among x (chosen w V ++ K) → InSpan (V ++ K) x
        all_to x q = elim (among_append (chosen w V) K q) [ inl j ↦ in_line (among_append_left K (chosen_some w V j)) | inr j ↦ in_line (among_append_right V j) ]

        all_from' : (x : Row) → Among x (V ++ K) → InSpan (chosen w V ++ K) x
        all_from' x q = elim (among_append V K q) [
          | inl j ↦ let u = place_of j in subst (λ y. InSpan (chosen w V ++ K) y) u.2 (in_line (among_append_left K (chosen_from w V u.0 u.1 (all u.0 u.1))))
          | inr j ↦ in_line (among_append_right (chosen w V) j)
        ]

        whole_rank : IsRank (V ++ K) (t + l)
        whole_rank = rank_same (chosen w V ++ K) (V ++ K) (t + l) (same_span (chosen w V ++ K) (V ++ K) all_to all_from') (rank_of w t rw')

    pub highest_is_facet : (f : ℕ → Bool) (k : ℕ) → t ≡ suc k → HasRank n V K V f k → (i : ℕ) × (i < length F) × ((j : ℕ) → j < length V → IsTrue (f j) ↔ (dot (ray F i) (ray V j) ≡ pos 0))
    highest_is_facet f k et r = facet_of (first_to n F E hF he own m rm (star f r.face) star_one)
      where
        own : IsOrder n (InCone F E) F
        own = own_facets n V K hv hk o F E he oF vanish

        star_one : HasRank n F E F (star f r.face) 1
        star_one =
            let d = dimension n F E hF he exF m rm (star f r.face) in
            let low = at_least_lines n F E hF he exF m rm (star f r.face) d.0 d.1 in
            let p = polar_sum n V K hv hk o F E he oF vanish f r.face (k + l) d.0 (rank_of f k r) d.1 in
            let q = whole_sum in
            let one : d.0 ≡ 1 + m = omega arith in
            rank_from n F E hF he exF m rm (star f r.face) 1 (polar_face n V K hv hk o F E he oF vanish f r.face) (subst (λ z. IsRank (chosen (star f r.face) F ++ E) z) one d.1)

        facet_of : (i : ℕ) × (i < length F) × ((x : ℕ) → x < length F → IsTrue (star f r.face x) ↔ (x ≡ i)) → (i : ℕ) × (i < length F) × ((j : ℕ) → j < length V → IsTrue (f j) ↔ (dot (ray F i) (ray V j) ≡ pos 0))
        facet_of (i, li, e) = (i, li, λ j lj. (to j lj, from j lj))
          where
            null : (v : Row) → Among v (chosen f V) → dot (ray F i) v ≡ pos 0
            null = polar_to n V K hv hk o F E he oF vanish f r.face i ((e i li).1 refl)

            to : (j : ℕ) → j < length V → IsTrue (f j) → dot (ray F i) (ray V j) ≡ pos 0
            to j lj h = null (ray V j) (chosen_from f V j lj h)

            only : (g : Row) → Among g F → IsValid n V K g × (((v : Row) → Among v (chosen f V) → dot g v ≡ pos 0) → InSpan (ray F i ∷ E) g)
            only g q = (
              facet_valid n V K hv hk o F E he oF vanish g q,
              λ h.
                  let u = place_of q in
                  let at_i = (e u.0 u.1).0 (polar_from n V K hv hk o F E he oF vanish f r.face u.0 (λ v s. subst (λ y. dot y v ≡ pos 0) (sym u.2) (h v s))) in
                  subst (λ y. InSpan (ray F i ∷ E) y) (subst (λ z. ray F z ≡ g) at_i u.2) (in_line here),
            )

            face_spanned : InSpan (ray F i ∷ E) r.face.a
            face_spanned = spanned n V K hv hk o F E he oF vanish f r.face (ray F i ∷ E) (λ c q. in_line (there q)) F only r.face.a ((valid_is n V K hv hk o F E he oF vanish r.face.a r.face.valid.cols).0 r.face.valid)
                (chosen_at V f r.face.a (λ j lj h. (r.face.places j lj).0 h))

            from : (j : ℕ) → j < length V → dot (ray F i) (ray V j) ≡ pos 0 → IsTrue (f j)
            from j lj z = (r.face.places j lj).1 (dot_comm r.face.a (ray V j) ∙ dot_span_zero (ray V j) (ray F i ∷ E) r.face.a each face_spanned)
              where
                each : (g : Row) → Among g (ray F i ∷ E) → dot (ray V j) g ≡ pos 0
                each g here = dot_comm (ray V j) (ray F i) ∙ z
                each g (there q) = dot_comm (ray V j) g ∙ ((vanish g (cols_at q he)).1 (in_line q)).holds (ray V j) (ex (ray V j) (at_place V j lj)).cols (in_generator (at_place V j lj))
