-- The faces of all ranks are as many as the faces, and have as many place_count.
use Rattle.pm_bits.specs.Sets.{member_count, members}
use Rattle.pm_geom.specs.Meets.{IsSmallLattice}
use Rattle.pm_lattice.specs.Closures.{AreFew, place_count}
use Rattle.pm_lattice.specs.Ranks.{level_of, rank_at}
use Rattle.pm_lattice.proofs.Levels.{level_no, level_yes}
use Rattle.pm_lattice.proofs.MemberLists.{length-members}
use Rattle.std.proofs.Common.{ap, arith, inl, inr, refl, subst, sym, ◌∙◌}
use Rattle.std.proofs.lemmas.Bool.{cases_eq}
use Rattle.std.proofs.lemmas.List.FromFn.{map-range_with_len_more}
use Rattle.std.proofs.lemmas.List.Sums.{sum_by-cons, sum_by_push}
use Rattle.std.specs.List.{range_with_len, sum_by}
use Rattle.std.specs.Prelude.{Bool, List, [], length, map, suc, zero, ℕ, ◌+◌, ◌<◌, ◌≤◌, ◌∷◌, ◌≡◌}

module _ (w : List ℕ → ℕ) where
  total : ℕ → List (List Bool) → List ℕ → ℕ
  total zero faces ranks = 0
  total (suc n) faces ranks = total n faces ranks + sum_by w (level_of n faces ranks)

  level_sum : (n : ℕ) (f : List Bool) (faces : List (List Bool)) (r : ℕ) (ranks : List ℕ) → r ≡ n → sum_by w (level_of n (f ∷ faces) (r ∷ ranks)) ≡ w (members f) + sum_by w (level_of n faces ranks)
  level_sum n f faces r ranks e = ap (sum_by w) (level_yes n f faces r ranks e) ∙ sum_by-cons w (members f) (level_of n faces ranks)

  level_same : (n : ℕ) (f : List Bool) (faces : List (List Bool)) (r : ℕ) (ranks : List ℕ) → (r ≡ n → ⊥) → sum_by w (level_of n (f ∷ faces) (r ∷ ranks)) ≡ sum_by w (level_of n faces ranks)
  level_same n f faces r ranks d = ap (sum_by w) (level_no n f faces r ranks d)

  total_before : (n : ℕ) (f : List Bool) (faces : List (List Bool)) (r : ℕ) (ranks : List ℕ) → n ≤ r → total n (f ∷ faces) (r ∷ ranks) ≡ total n faces ranks
  unfolding total
  total_before zero f faces r ranks l = refl
  total_before (suc n) f faces r ranks l =
      let a = total_before n f faces r ranks (omega arith) in
      let b = level_same n f faces r ranks (λ e. let s = e in omega arith) in
      omega arith

  total_after : (n : ℕ) (f : List Bool) (faces : List (List Bool)) (r : ℕ) (ranks : List ℕ) → r < n → total n (f ∷ faces) (r ∷ ranks) ≡ total n faces ranks + w (members f)
  unfolding total
  total_after zero f faces r ranks l = absurd (omega arith)
  total_after (suc n) f faces r ranks l = elim (cases_eq r n) [
    | inl e ↦ (
        let a = total_before n f faces r ranks (let s = e in omega arith) in
        let b = level_sum n f faces r ranks e in
        omega arith)
    | inr d ↦ (
        let a = total_after n f faces r ranks (let s = d in omega arith) in
        let b = level_same n f faces r ranks d in
        omega arith)
  ]

  total_none : (n : ℕ) (ranks : List ℕ) → total n [] ranks ≡ 0
  unfolding total
  total_none zero ranks = refl
  total_none (suc n) ranks = let a = total_none n ranks in omega arith

  total_all : (n : ℕ) (faces : List (List Bool)) (ranks : List ℕ) → length ranks ≡ length faces → ((i : ℕ) → i < length faces → rank_at ranks i < n) → total n faces ranks ≡ sum_by (λ f. w (members f)) faces
  total_all n [] ranks e h = total_none n ranks
  total_all n (f ∷ faces) [] e h = absurd (omega arith)
  total_all n (f ∷ faces) (r ∷ ranks) e h =
      let a = total_after n f faces r ranks (h 0 (omega arith)) in
      let b = total_all n faces ranks (omega arith) (λ i l. h (suc i) (omega arith)) in
      let c = sum_by-cons (λ f. w (members f)) f faces in
      omega arith

  total_is : (n : ℕ) (faces : List (List Bool)) (ranks : List ℕ) → sum_by (sum_by w) (map (λ k. level_of k faces ranks) (range_with_len 0 n)) ≡ total n faces ranks
  unfolding total
  total_is zero faces ranks = refl
  total_is (suc n) faces ranks =
      let e : n + 1 ≡ suc n = omega arith in
      let step = ap (sum_by (sum_by w)) (map-range_with_len_more (λ k. level_of k faces ranks) 0 n n (omega arith)) ∙ sum_by_push (sum_by w) (map (λ k. level_of k faces ranks) (range_with_len 0 n)) (level_of n faces ranks) in
      let rest = total_is n faces ranks in
      subst (λ k. sum_by (sum_by w) (map (λ j. level_of j faces ranks) (range_with_len 0 k)) ≡ total (suc n) faces ranks) e (omega arith)

ones : {X : Type 0} (xs : List X) → sum_by (λ x. 1) xs ≡ length xs
ones [] = refl
ones {X = X} (x ∷ xs) = let a = sum_by-cons {X = X} (λ x. 1) x xs in let b = ones xs in omega arith

ones_each : (levels : List (List (List ℕ))) → sum_by (sum_by (λ x. 1)) levels ≡ sum_by length levels
ones_each [] = refl
ones_each (l ∷ levels) =
    let a = sum_by-cons (sum_by {X = List ℕ} (λ x. 1)) l levels in
    let b = sum_by-cons (length {A = List ℕ}) l levels in
    let c = ones l in
    let d = ones_each levels in
    omega arith

members_sum : (faces : List (List Bool)) → sum_by (λ f. length (members f)) faces ≡ place_count faces
members_sum [] = refl
members_sum (f ∷ faces) =
    let a = sum_by-cons (λ f. length (members f)) f faces in
    let b = sum_by-cons member_count f faces in
    let c = length-members f in
    let d = members_sum faces in
    omega arith

pub few_levels : (n : ℕ) (faces : List (List Bool)) (ranks : List ℕ) (levels : List (List (List ℕ))) → levels ≡ map (λ k. level_of k faces ranks) (range_with_len 0 n) → length ranks ≡ length faces → ((i : ℕ) → i < length faces → rank_at ranks i < n) → AreFew faces → IsSmallLattice levels
few_levels n faces ranks levels e as_many h few = subst IsSmallLattice (sym e) (
  (let a = ones_each (map (λ k. level_of k faces ranks) (range_with_len 0 n)) in
      let b = total_is (λ x. 1) n faces ranks in
      let c = total_all (λ x. 1) n faces ranks as_many h in
      let d = ones faces in
      let f = few.0 in
      omega arith),
  (let b = total_is length n faces ranks in
      let c = total_all length n faces ranks as_many h in
      let d = members_sum faces in
      let f = few.1 in
      omega arith),
)
