-- Two rays are an edge exactly where no third ray lies in each facet in which both lie.
use Rattle.pm_vector.proofs.Lists.{All_among, Among, Contains_among, among_All, among_Contains}
use Rattle.pm_vector.specs.Rows.{Row, dot}
use Rattle.pm_vector.proofs.Spans.{place_of}
use Rattle.pm_geom.proofs.Faces.{face_of_facets}
use Rattle.pm_geom.specs.Faces.{IsFace, ray}
use Rattle.pm_geom.specs.Graphs.{pair_of}
use Rattle.pm_ranks.proofs.Chosen.{chosen_from, chosen_some, chosen_to}
use Rattle.pm_ranks.proofs.Tests.{and_both, and_first, and_second, at_pair, is_zero, is_zero_from, is_zero_to, pair_at}
use Rattle.pm_ranks.specs.Chosen.{chosen}
use Rattle.pm_ranks.specs.Laws.{EdgesByFacets}
use Rattle.pm_ranks.specs.Thirds.{NoThirdRay}
use Rattle.std.proofs.Common.{inl, inr, refl, subst, sym}
use Rattle.std.proofs.lemmas.Bool.{cases_eq}
use Rattle.std.specs.List.{All}
use Rattle.std.specs.Prelude.{Bool, IsTrue, List, length, ℕ, ◌&&◌, ◌<◌, ◌↔◌, ◌≡◌, ◌⊎◌}
use lib.IntN.{pos}

module _ (V F : List Row) (i j : ℕ) where
  -- the facets in which both rays lie
  both : ℕ → Bool
  both k = is_zero (dot (ray F k) (ray V i)) && is_zero (dot (ray F k) (ray V j))

  common : List Row
  common = chosen both F

  common_to : (b : Row) → Among b common → (dot b (ray V i) ≡ pos 0) × (dot b (ray V j) ≡ pos 0)
  unfolding both common
  common_to b q =
      let w = chosen_to both F q in
      let p = is_zero_to (dot (ray F w.0) (ray V i)) (and_first (is_zero (dot (ray F w.0) (ray V i))) (is_zero (dot (ray F w.0) (ray V j))) w.2) in
      let r = is_zero_to (dot (ray F w.0) (ray V j)) (and_second (is_zero (dot (ray F w.0) (ray V i))) (is_zero (dot (ray F w.0) (ray V j))) w.2) in
      (subst (λ y. dot y (ray V i) ≡ pos 0) w.3 p, subst (λ y. dot y (ray V j) ≡ pos 0) w.3 r)

  common_from : (k : ℕ) → k < length F → dot (ray F k) (ray V i) ≡ pos 0 → dot (ray F k) (ray V j) ≡ pos 0 → Among (ray F k) common
  unfolding both common
  common_from k l p q = chosen_from both F k l (and_both (is_zero (dot (ray F k) (ray V i))) (is_zero (dot (ray F k) (ray V j))) (is_zero_from (dot (ray F k) (ray V i)) p) (is_zero_from (dot (ray F k) (ray V j)) q))

  common_some : (b : Row) → Among b common → Among b F
  unfolding common
  common_some b q = chosen_some both F q

  -- at the places of the two rays all these facets are 0; and at no other place, where no third ray lies in each of them
  at_both : (x : ℕ) → x < length V → (x ≡ i) ⊎ (x ≡ j) → All (λ b. dot b (ray V x) ≡ pos 0) common
  at_both x l (inl e) = All_among (λ b. dot b (ray V x) ≡ pos 0) common (λ b q. subst (λ z. dot b (ray V z) ≡ pos 0) (sym e) (common_to b q).0)
  at_both x l (inr e) = All_among (λ b. dot b (ray V x) ≡ pos 0) common (λ b q. subst (λ z. dot b (ray V z) ≡ pos 0) (sym e) (common_to b q).1)

  only_both : NoThirdRay V F i j → (x : ℕ) → x < length V → All (λ b. dot b (ray V x) ≡ pos 0) common → (x ≡ i) ⊎ (x ≡ j)
  only_both none x l all = elim (cases_eq x i) [
    | inl e ↦ inl e
    | inr ni ↦ elim (cases_eq x j) [
      | inl e ↦ inr e
      | inr nj ↦ absurd (none x l ni nj (λ k lk p q. among_All (λ b. dot b (ray V x) ≡ pos 0) (common_from k lk p q) all))
    ]
  ]

-- a face that is an intersection of facets has each ray that lies in all facets in which both its rays lie
third_in : (n : ℕ) (G L V F : List Row) (i j : ℕ) → i < length V → j < length V → IsFace n G L V (pair_of i j) →
    ((J : List Row) × ((b : Row) → Among b J → Among b F) × ((x : ℕ) → x < length V → IsTrue (pair_of i j x) ↔ All (λ b. dot b (ray V x) ≡ pos 0) J)) → NoThirdRay V F i j
third_in n G L V F i j li lj face (J, some, places) l ll ni nj h = elim (at_pair i j l ((places l ll).1 (All_among (λ b. dot b (ray V l) ≡ pos 0) J at))) [ inl e ↦ ni e | inr e ↦ nj e ]
  where
    at : (b : Row) → Among b J → dot b (ray V l) ≡ pos 0
    at b q =
        let w = place_of (some b q) in
        let p = among_All (λ b. dot b (ray V i) ≡ pos 0) q ((places i li).0 (pair_at i j i (inl refl))) in
        let r = among_All (λ b. dot b (ray V j) ≡ pos 0) q ((places j lj).0 (pair_at i j j (inr refl))) in
        subst (λ y. dot y (ray V l) ≡ pos 0) w.2 (h w.0 w.1 (subst (λ y. dot y (ray V i) ≡ pos 0) (sym w.2) p) (subst (λ y. dot y (ray V j) ≡ pos 0) (sym w.2) r))

pub edges_by_facets : EdgesByFacets
unfolding common
edges_by_facets n G L hg hl V F oV oF i j = (
  λ e.
      let w = (face_of_facets n G L hg hl V F oV oF (pair_of i j)).0 e.face in
      (e.first, e.second, e.apart, third_in n G L V F i j e.first e.second e.face (w.0, λ b q. among_Contains F (w.1 b (Contains_among q)), w.2)),
  λ h. record {
    first = h.0;
    second = h.1;
    apart = h.2;
    face = (face_of_facets n G L hg hl V F oV oF (pair_of i j)).1 (
      common V F i j,
      λ b q. Contains_among (common_some V F i j b (among_Contains (common V F i j) q)),
      λ x lx. (λ t. at_both V F i j x lx (at_pair i j x t), λ a. pair_at i j x (only_both V F i j h.3 x lx a)),
    );
  },
)
