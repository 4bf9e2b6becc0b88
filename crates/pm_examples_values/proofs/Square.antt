-- The sets of the unit square.
use Rattle.pm_relations.proofs.Sites.{no_sites}
use Rattle.pm_relations.proofs.Standing.{whole_denominators}
use Rattle.pm_vector.proofs.Lists.{Among, here, there, among_Contains, Contains_among}
use Rattle.pm_vector.specs.Rows.{Row, dot}
use Rattle.pm_geom.proofs.Square.{square_is_read}
use Rattle.pm_geom.specs.Examples.{square}
use Rattle.pm_geom.specs.Faces.{ray}
use Rattle.pm_examples_values.specs.Examples.{SquareSetsAreRead}
use Rattle.std.proofs.Common.{arith, refl}
use Rattle.std.proofs.lemmas.Int.{ints}
use Rattle.std.specs.List.{Contains}
use Rattle.std.specs.Prelude.{[], length, suc, zero, ℕ, ◌↔◌, ◌∷◌, ◌≡◌, ◌<◌}
use lib.IntN.{negsuc, pos}

-- a set of two places, by a test on each of the four places
Holds : Row → ℕ → Type 0
Holds f j = (j < 4) × (dot f (ray square j) ≡ pos 0)

among_two : (f : Row) (a b : ℕ) → Holds f a → Holds f b → {k : ℕ} → Among k (a ∷ b ∷ []) → Holds f k
among_two f a b h k here = h
among_two f a b h k (there here) = k
among_two f a b h k (there (there i)) = elim i [ ]

two_from : (f : Row) (a b j : ℕ) → Holds f a → Holds f b → Contains (a ∷ b ∷ []) j → Holds f j
two_from f a b j h k c = among_two f a b h k (among_Contains (a ∷ b ∷ []) c)

first : (a b : ℕ) → Contains (a ∷ b ∷ []) a
first a b = Contains_among (here {xs = b ∷ []})

second : (a b : ℕ) → Contains (a ∷ b ∷ []) b
second a b = Contains_among (there {y = a} (here {xs = []}))

left : (j : ℕ) → Contains (0 ∷ 1 ∷ []) j ↔ ((j < length square) × (dot (pos 0 ∷ pos 1 ∷ pos 0 ∷ []) (ray square j) ≡ pos 0))
unfolding Holds
left j = (two_from (pos 0 ∷ pos 1 ∷ pos 0 ∷ []) 0 1 j (omega arith, refl) (omega arith, refl), back j)
  where
    back : (j : ℕ) → (j < length square) × (dot (pos 0 ∷ pos 1 ∷ pos 0 ∷ []) (ray square j) ≡ pos 0) → Contains (0 ∷ 1 ∷ []) j
    back zero h = first 0 1
    back (suc zero) h = second 0 1
    back (suc (suc zero)) h = absurd (let e = h.1 in omega (arith, ints))
    back (suc (suc (suc zero))) h = absurd (let e = h.1 in omega (arith, ints))
    back (suc (suc (suc (suc j)))) h = absurd (let l = h.0 in omega arith)

below : (j : ℕ) → Contains (0 ∷ 2 ∷ []) j ↔ ((j < length square) × (dot (pos 0 ∷ pos 0 ∷ pos 1 ∷ []) (ray square j) ≡ pos 0))
unfolding Holds
below j = (two_from (pos 0 ∷ pos 0 ∷ pos 1 ∷ []) 0 2 j (omega arith, refl) (omega arith, refl), back j)
  where
    back : (j : ℕ) → (j < length square) × (dot (pos 0 ∷ pos 0 ∷ pos 1 ∷ []) (ray square j) ≡ pos 0) → Contains (0 ∷ 2 ∷ []) j
    back zero h = first 0 2
    back (suc zero) h = absurd (let e = h.1 in omega (arith, ints))
    back (suc (suc zero)) h = second 0 2
    back (suc (suc (suc zero))) h = absurd (let e = h.1 in omega (arith, ints))
    back (suc (suc (suc (suc j)))) h = absurd (let l = h.0 in omega arith)

above : (j : ℕ) → Contains (1 ∷ 3 ∷ []) j ↔ ((j < length square) × (dot (pos 1 ∷ pos 0 ∷ negsuc 0 ∷ []) (ray square j) ≡ pos 0))
unfolding Holds
above j = (two_from (pos 1 ∷ pos 0 ∷ negsuc 0 ∷ []) 1 3 j (omega arith, refl) (omega arith, refl), back j)
  where
    back : (j : ℕ) → (j < length square) × (dot (pos 1 ∷ pos 0 ∷ negsuc 0 ∷ []) (ray square j) ≡ pos 0) → Contains (1 ∷ 3 ∷ []) j
    back zero h = absurd (let e = h.1 in omega (arith, ints))
    back (suc zero) h = first 1 3
    back (suc (suc zero)) h = absurd (let e = h.1 in omega (arith, ints))
    back (suc (suc (suc zero))) h = second 1 3
    back (suc (suc (suc (suc j)))) h = absurd (let l = h.0 in omega arith)

right : (j : ℕ) → Contains (2 ∷ 3 ∷ []) j ↔ ((j < length square) × (dot (pos 1 ∷ negsuc 0 ∷ pos 0 ∷ []) (ray square j) ≡ pos 0))
unfolding Holds
right j = (two_from (pos 1 ∷ negsuc 0 ∷ pos 0 ∷ []) 2 3 j (omega arith, refl) (omega arith, refl), back j)
  where
    back : (j : ℕ) → (j < length square) × (dot (pos 1 ∷ negsuc 0 ∷ pos 0 ∷ []) (ray square j) ≡ pos 0) → Contains (2 ∷ 3 ∷ []) j
    back zero h = absurd (let e = h.1 in omega (arith, ints))
    back (suc zero) h = absurd (let e = h.1 in omega (arith, ints))
    back (suc (suc zero)) h = first 2 3
    back (suc (suc (suc zero))) h = second 2 3
    back (suc (suc (suc (suc j)))) h = absurd (let l = h.0 in omega arith)

pub square_sets_are_read : SquareSetsAreRead
square_sets_are_read = record {
  thing = record {
    some_cols = omega arith;
    few_cols = omega arith;
    kind = (square_is_read.polytope, refl);
    programs = record { cols = λ s. refl; denominators = λ s i h. whole_denominators (pos 0 ∷ pos 0 ∷ pos 0 ∷ []) i };
    sites = no_sites _;
  };
  orders = record { rays = square_is_read.order; facets = square_is_read.facets; cones = refl };
  right = (refl, (left, (below, (above, (right, tt)))));
  changed = λ h. let e = ((h.1.1.0 3).0 (second 0 3)).1 in omega (arith, ints);
  more_columns = λ h. let e = h.0 in omega arith;
}
