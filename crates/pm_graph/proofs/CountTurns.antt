-- The turns of the loops that count.
use Rattle.pm_geom.specs.FaceCounts.{f_of, inner}
use Rattle.std.proofs.Common.{ap, arith, sym, ◌∙◌}
use Rattle.std.proofs.lemmas.List.{drop-map, length-map, take-map, take_all}
use Rattle.std.proofs.lemmas.Simd.{map-map}
use Rattle.std.specs.Prelude.{List, drop, length, map, take, ℕ, ◌-◌, ◌≡◌, ◌≤◌}
use lib.IntN.{pos, ℤ}

pub inner_of : {X : Type 0} (L : X → List (List ℕ)) (xs : List X) → map L (take (length xs - 1 - 1) (drop 1 xs)) ≡ inner (map L xs)
inner_of L xs =
    let e : length xs - 1 - 1 ≡ length (map L xs) - 2 = (let n = length-map xs L in omega arith) in
    sym (take-map L (length xs - 1 - 1) (drop 1 xs)) ∙ ap (take (length xs - 1 - 1)) (sym (drop-map L 1 xs)) ∙ ap (λ n. take n (drop 1 (map L xs))) e

pub f_vector_is : {X : Type 0} (L : X → List (List ℕ)) (xs : List X) (counts : List ℤ) (k : ℕ) (ranks : List (List (List ℕ))) → length xs ≤ k → counts ≡ map (λ x. pos (length (L x))) (take k xs) → map L xs ≡ inner ranks → counts ≡ map pos (f_of ranks)
f_vector_is L xs counts k ranks l e i =
    e ∙ ap (map (λ x. pos (length (L x)))) (take_all k xs l) ∙ sym (map-map (λ faces. pos (length faces)) L xs) ∙ ap (map (λ faces. pos (length faces))) i ∙ sym (map-map pos length (inner ranks))
