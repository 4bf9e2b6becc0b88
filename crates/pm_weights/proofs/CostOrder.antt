-- The order of costs.
use Rattle.std.proofs.Common.{◌≤◌, ◌⊎◌, inl, inr, refl, arith}
use Rattle.std.proofs.lemmas.Bool.{cases_order}
use Rattle.pm_weights.specs.declared.Weight.{Weight}
use Rattle.pm_weights.specs.declared.Cost.{Cost}
use Rattle.pm_weights.specs.Weights.{no_cost, plus, IsBelow, IsAtMost}

pub at_most_itself : (a : Cost) → IsAtMost a a
at_most_itself a = inr (refl, omega arith)

pub no_cost_at_most : (a : Cost) → IsAtMost no_cost a
no_cost_at_most a = elim (cases_order 0 a.class) [
  | inl e ↦ inr (e, omega arith)
  | inr h ↦ inl (elim h [ inl k ↦ k | inr k ↦ absurd (omega arith) ])
]

pub at_most_from_parts : (a b : Cost) → a.class ≤ b.class → a.minor ≤ b.minor → IsAtMost a b
at_most_from_parts a b h k = elim (cases_order a.class b.class) [
  | inl e ↦ inr (e, k)
  | inr c ↦ inl (elim c [ inl l ↦ l | inr l ↦ absurd (omega arith) ])
]

pub at_most_trans : (a b c : Cost) → IsAtMost a b → IsAtMost b c → IsAtMost a c
at_most_trans a b c (inl h) (inl k) = inl (omega arith)
at_most_trans a b c (inl h) (inr k) = inl (omega arith)
at_most_trans a b c (inr h) (inl k) = inl (omega arith)
at_most_trans a b c (inr h) (inr k) = inr (omega arith, omega arith)

pub below_from_at_most : (a b c : Cost) → IsAtMost a b → IsBelow b c → IsBelow a c
below_from_at_most a b c (inl h) (inl k) = inl (omega arith)
below_from_at_most a b c (inl h) (inr k) = inl (omega arith)
below_from_at_most a b c (inr h) (inl k) = inl (omega arith)
below_from_at_most a b c (inr h) (inr k) = inr (omega arith, omega arith)

pub at_most_from_below : (a b : Cost) → IsBelow a b → IsAtMost a b
at_most_from_below a b (inl h) = inl h
at_most_from_below a b (inr h) = inr (h.0, omega arith)

pub not_below_and_at_most : (a b : Cost) → IsBelow a b → IsAtMost b a → ⊥
not_below_and_at_most a b (inl h) (inl k) = absurd (omega arith)
not_below_and_at_most a b (inl h) (inr k) = absurd (omega arith)
not_below_and_at_most a b (inr h) (inl k) = absurd (omega arith)
not_below_and_at_most a b (inr h) (inr k) = absurd (omega arith)

-- of two costs one is at most_weight the other, or above it
pub at_most_or_below : (a b : Cost) → IsAtMost a b ⊎ IsBelow b a
at_most_or_below a b = elim (cases_order a.class b.class) [
  | inl e ↦ elim (cases_order a.minor b.minor) [
    | inl f ↦ inl (inr (e, omega arith))
    | inr c ↦ elim c [ inl l ↦ inl (inr (e, omega arith)) | inr l ↦ inr (inr (omega arith, l)) ]
  ]
  | inr c ↦ elim c [ inl l ↦ inl (inl l) | inr l ↦ inr (inl l) ]
]

pub plus-at_most : (a b : Cost) (w : Weight) → IsAtMost a b → IsAtMost (plus a w) (plus b w)
plus-at_most a b w (inl h) = inl (omega arith)
plus-at_most a b w (inr h) = inr (omega arith, omega arith)
