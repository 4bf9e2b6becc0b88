-- What stands in lists put one behind another.
use Rattle.std.proofs.Common.{inl, inr, ◌∷◌, List, []}
use Rattle.std.specs.Prelude.{flat_map}
use Rattle.pm_vector.proofs.Lists.{Among, among_append, among_append_left, among_append_right, here, there}

pub flat_among : {X Y : Type 0} (f : X → List Y) (xs : List X) {y : Y} → Among y (flat_map f xs) → (x : X) × Among x xs × Among y (f x)
flat_among f [] i = elim i [ ]
flat_among {X} {Y} f (x ∷ xs) {y} i = elim (among_append (f x) (flat_map f xs) i) [ inl j ↦ (x, here, j) | inr j ↦ later (flat_among f xs j) ]
  where
    later : (z : X) × Among z xs × Among y (f z) → (z : X) × Among z (x ∷ xs) × Among y (f z)
    later (z, k, l) = (z, there k, l)

pub among_flat : {X Y : Type 0} (f : X → List Y) {x : X} {y : Y} {xs : List X} → Among x xs → Among y (f x) → Among y (flat_map f xs)
among_flat f (here {xs = xs}) j = among_append_left (flat_map f xs) j
among_flat f (there {y = z} i) j = among_append_right (f z) (among_flat f i j)
