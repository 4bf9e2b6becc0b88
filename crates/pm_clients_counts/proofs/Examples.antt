-- The example of places holds.
use Rattle.pm_clients_counts.proofs.ZeroPlaces.{no_places, place_left, place_more}
use Rattle.pm_clients_counts.specs.Examples.{PlacesAreRead, far_second}
use Rattle.pm_clients_counts.specs.Places.{AreZeroPlaces}
use Rattle.std.proofs.Common.{ap, arith, refl}
use Rattle.std.proofs.lemmas.Int.{ints}
use Rattle.std.proofs.lemmas.List.{length-map}
use Rattle.std.specs.List.{Contains}
use Rattle.std.specs.Prelude.{List, [], length, map, ℕ, ◌∷◌, ◌≡◌}
use lib.IntN.{pos}

not_one : pos 1 ≡ pos 0 → ⊥
not_one h = omega (arith, ints)

far : AreZeroPlaces far_second 2 (pos 1 ∷ [])
far = place_more far_second 1 [] (place_left far_second 0 [] (no_places far_second) not_one) (pos 1 ∷ []) refl (omega arith) refl

not_none : ¬ (AreZeroPlaces far_second 2 [])
not_none a =
    let held = (a.zero 1).1 (omega arith, refl) in
    let l = held.1 in
    let e : 0 ≡ length (map pos a.js) = ap length a.places in
    let m = length-map a.js pos in
    absurd (omega arith)

first_held : (js : List ℕ) → pos 0 ∷ pos 1 ∷ [] ≡ map pos js → Contains js 0
first_held [] e = absurd (let l : 2 ≡ 0 = ap length e in omega arith)
first_held (j ∷ js) e = (0, omega arith, cc)

pub places_are_read : PlacesAreRead
places_are_read = record {
  far = far;
  not_none = not_none;
  not_the_first = λ a. not_one ((a.zero 0).0 (first_held a.js a.places)).1;
}
