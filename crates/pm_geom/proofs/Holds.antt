-- What a list of places holds.
use Rattle.pm_vector.proofs.Lists.{Among, here, there}
use Rattle.pm_geom.specs.Graphs.{holds}
use Rattle.std.proofs.Common.{inl, inr, refl, subst}
use Rattle.std.proofs.lemmas.Bool.{eq-eqb, eqb-true}
use Rattle.std.specs.Prelude.{Bool, IsTrue, List, [], false, true, ℕ, ◌==◌, ◌∷◌, ◌≡◌, ◌⊎◌, ◌||◌}

pub or_right : (a b : Bool) → IsTrue b → IsTrue (a || b)
or_right true b h = refl
or_right false b h = h

pub or_left : (a b : Bool) → IsTrue a → IsTrue (a || b)
or_left true b h = refl
or_left false b h = absurd cc

pub or_cases : (a b : Bool) → IsTrue (a || b) → IsTrue a ⊎ IsTrue b
or_cases true b h = inl refl
or_cases false b h = inr h

pub among_holds : (xs : List ℕ) (j : ℕ) → Among j xs → IsTrue (holds xs j)
among_holds [] j i = elim i [ ]
among_holds (x ∷ xs) j here = or_left (x == x) (holds xs x) (eq-eqb x x refl)
among_holds (x ∷ xs) j (there i) = or_right (x == j) (holds xs j) (among_holds xs j i)

pub holds_among : (xs : List ℕ) (j : ℕ) → IsTrue (holds xs j) → Among j xs
holds_among [] j h = absurd cc
holds_among (x ∷ xs) j h = elim (or_cases (x == j) (holds xs j) h) [
  | inl e ↦ (let s : x ≡ j = eqb-true x j e in subst (λ k. Among k (x ∷ xs)) s here)
  | inr k ↦ there (holds_among xs j k)
]
