-- How many places a set has, and that a strict part has fewer.
use Rattle.pm_geom.specs.Faces.{IsStrictlyIn}
use Rattle.pm_lattice.specs.Parts.{IsIn}
use Rattle.std.proofs.Common.{arith, inl, inr, refl, subst}
use Rattle.std.specs.Prelude.{Bool, IsTrue, false, suc, true, zero, ℕ, ◌+◌, ◌<◌, ◌≤◌, ◌≡◌, ◌⊎◌}

abbrev pub one_if : Bool → ℕ
one_if true = 1
one_if false = 0

abbrev pub size : ℕ → (ℕ → Bool) → ℕ
size zero f = 0
size (suc m) f = one_if (f m) + size m f

one_if_in : (a b : Bool) → (IsTrue a → IsTrue b) → one_if a ≤ one_if b
one_if_in true true h = omega arith
one_if_in true false h = absurd (let e = h refl in cc)
one_if_in false b h = omega arith

one_if_less : (a b : Bool) → ¬ (IsTrue a) → IsTrue b → one_if a < one_if b
one_if_less true b h t = absurd (h refl)
one_if_less false true h t = omega arith
one_if_less false false h t = absurd (cc)

pub size_in : (m : ℕ) (f g : ℕ → Bool) → IsIn m f g → size m f ≤ size m g
size_in zero f g h = omega arith
size_in (suc m) f g h =
    let rest = size_in m f g (λ j l t. h j (omega arith) t) in
    let last = one_if_in (f m) (g m) (h m (omega arith)) in
    omega arith

less_at : (m : ℕ) (f g : ℕ → Bool) → IsIn m f g → (j : ℕ) → j < m → IsTrue (g j) → ¬ (IsTrue (f j)) → size m f < size m g
less_at zero f g h j l a b = absurd (omega arith)
less_at (suc m) f g h j l a b = elim (cases m j l) [
  | inl e ↦ (
      let rest = size_in m f g (λ j l t. h j (omega arith) t) in
      let last = one_if_less (f m) (g m) (subst (λ i. ¬ (IsTrue (f i))) e b) (subst (λ i. IsTrue (g i)) e a) in
      omega arith)
  | inr s ↦ (
      let rest = less_at m f g (λ j l t. h j (omega arith) t) j s a b in
      let last = one_if_in (f m) (g m) (h m (omega arith)) in
      omega arith)
]
  where
    cases : (m j : ℕ) → j < suc m → (j ≡ m) ⊎ (j < m)
    cases m j l = grind arith

pub size_less : (m : ℕ) (f g : ℕ → Bool) → IsStrictlyIn m f g → size m f < size m g
size_less m f g s = less_at m f g s.included s.j s.below s.has s.lacks

one_if_le : (b : Bool) → one_if b ≤ 1
one_if_le true = omega arith
one_if_le false = omega arith

pub size_le : (m : ℕ) (f : ℕ → Bool) → size m f ≤ m
size_le zero f = omega arith
size_le (suc m) f = let a = one_if_le (f m) in let b = size_le m f in omega arith
