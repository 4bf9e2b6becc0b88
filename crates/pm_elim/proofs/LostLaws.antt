-- Steps of an elimination by wide numbers that are lost.
use Rattle.pm_vector.specs.Rows.{Row, difference, entry}
use Rattle.pm_vector.specs.Bases.{column, row_at}
use Rattle.pm_elim.proofs.StepLaws.{factors_unique}
use Rattle.pm_vector.specs.Evidence.{IsBasisOf, IsExtended}
use Rattle.pm_elim.specs.Lost.{IfLost, IsLost, IsLostOnExtended, IsLostOnNext, IsLostOnSome, IsLostRound, IsLostWithoutOne, PrimitiveIsLost, StepIsLost}
use Rattle.pm_vector.specs.Steps.{IsFactors, IsPivotRow, ReducedBy}
use Rattle.pm_elim.specs.declared.wide_rounds.WideFail.{WideFail}
use Rattle.pm_elim.specs.declared.wide_rounds.WideFail.TheVariants.{Lost, Memory}
use Rattle.std.proofs.Common.{inl, inr}
use Rattle.std.specs.Prelude.{Err, IfErr, List, Ok, Result, length, remove, take, ℕ, ◌+◌, ◌<◌, ◌≡◌}
use lib.IntN.{pos, ℤ}

-- the step is lost where no row in the range is primitive in the direction of the difference of the multiples
pub step_lost : {r b : Row} {c : ℕ} {p q : ℤ} → IsFactors (entry r c) (entry b c) p q → ¬ (entry r c ≡ pos 0)
    → PrimitiveIsLost (difference p r q b) → StepIsLost r b c
step_lost f some none m (inl z) range = some z.0
step_lost f some none m (inr s) range = let (e, g) = factors_unique s.factors f in none m (rw (e, g) at s.result) range

-- the step of the next row, and that of a basis row
module _ (B : List Row) (P : List ℕ) (next : Row) where
  pub next_lost : (by : ℕ) (part : Row) → by < length B → ReducedBy (take by B) (take by P) next part
      → StepIsLost part (row_at B by) (column P by) → IsLostOnNext B P next
  next_lost by part within h lost = record { by = by; part = part; within = within; reduced = h; lost = lost }

  pub older_lost : (rest : Row) (c : ℕ) (x : Row) → ReducedBy B P next rest → IsPivotRow rest c x
      → IsLostOnSome B x c → IsLostRound B P next
  older_lost rest c x h p lost =
      inr (record { rest = rest; new_column = c; new = x; reduced = h; pivot = p; lost = lost })

pub some_lost : (B : List Row) (x : Row) (c place : ℕ) → place < length B → StepIsLost (row_at B place) x c
    → IsLostOnSome B x c
some_lost B x c place within lost = record { place = place; within = within; lost = lost }

-- ---- results
pub lost_weaker : (f : WideFail) (Q R : Type 0) → (Q → R) → IfLost f Q → IfLost f R
lost_weaker Lost Q R g h = g h
lost_weaker Memory Q R g h = tt

pub err_lost : {T : Type 0} (r : Result T WideFail) (Q R : Type 0) → (Q → R) → IfErr r (λ f. IfLost f Q)
    → IfErr r (λ f. IfLost f R)
err_lost (Ok x) Q R g h = tt
err_lost (Err f) Q R g h = lost_weaker f Q R g h

-- ---- the round of the row at i
pub lost_at : (n : ℕ) (X : List Row) (i : ℕ) (B : List Row) (P : List ℕ) → i < length X → IsBasisOf n (take i X) B P
    → IsLostRound B P (row_at X i) → IsLost n X
lost_at n X i B P within b s =
    record { front = i; basis = B; pivots = P; within = within; is_basis = b; step = s }

-- ---- the extended list
pub extended_lost : (n : ℕ) (X L : List Row) → IsExtended n X L → IsLost (length X + n) L → IsLostOnExtended n X
extended_lost n X L x lost = record { listed = L; extended = x; lost = lost }

pub without_lost : (n : ℕ) (X : List Row) (j : ℕ) → j < length X → IsLostOnExtended n (remove X j) → IsLostWithoutOne n X
without_lost n X j within lost = record { place = j; within = within; lost = lost }
