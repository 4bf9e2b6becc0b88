-- Fronts of a list of rows, and equations that lead.
use Rattle.std.specs.Prelude.{ℕ, suc, ◌≡◌, ◌<◌, ◌≤◌, ◌↔◌, List, [], ◌∷◌, ◌++◌, length, take, drop}
use Rattle.pm_vector.specs.Rows.{Row, opposite, HasCols}
use Rattle.pm_vector.specs.Cones.{InSpan, IsIndependent}
use Rattle.pm_vector.specs.Bases.{IsRank, SameSpan, row_at}
use Rattle.pm_vector.specs.NullSpaces.{IsNull}
use Rattle.pm_geom.specs.Cones.{CutOut, IsOrder}
use Rattle.pm_dd.specs.Description.{IsRayStep, IsNext, AreDualRays, Source}

-- l1, -l1, l2, -l2, ..
abbrev pub both_signs : List Row → List Row
both_signs [] = []
both_signs (l ∷ E) = l ∷ opposite l ∷ both_signs E

-- x has product 0 with each row of E, and a non-negative product with each row of J
abbrev pub HalfSpaces : List Row → List Row → Row → Type 0
HalfSpaces E J x = IsNull E x × CutOut J x

-- the first f rows of X have the span of all of X
abbrev pub IsFront : List Row → ℕ → Type 0
IsFront X f = SameSpan (take f X) X

-- for a list that begins with as many independent rows as its rank says, and a front at least that long
abbrev pub DdStep : Type 0
DdStep = (n : ℕ) (X : List Row) → HasCols n X → (d : ℕ) → IsRank X d → IsIndependent (take d X) → (f : ℕ)
    → d ≤ f → f < length X → (V : List Row) → IsOrder n (CutOut (take f X)) V
    → IsRayStep n (CutOut (take (suc f) X)) (take f X) (row_at X f) V

-- equations and inequalities are cut out by the equations with both signs, and the inequalities
abbrev pub SignsCutOut : Type 0
SignsCutOut = (E J : List Row) (x : Row) → CutOut (both_signs E ++ J) x ↔ HalfSpaces E J x

-- where equations lead, they need no place in a zero set
abbrev pub StepWithEquations : Type 0
StepWithEquations = (n : ℕ) (E J : List Row) (a : Row) → HasCols n E → HasCols n J → length a ≡ n
    → InSpan (E ++ J) a → (V : List Row) → IsOrder n (HalfSpaces E J) V
    → IsRayStep n (HalfSpaces E (a ∷ J)) J a V

abbrev pub NextWithEquations : Type 0
NextWithEquations = (n : ℕ) (E J : List Row) (a : Row) → HasCols n E → HasCols n J → length a ≡ n
    → InSpan (E ++ J) a → (V : List Row) → IsOrder n (HalfSpaces E J) V →
    (W : List Row) (sources : List Source) → IsNext n (HalfSpaces E (a ∷ J)) J a V W sources
    → IsOrder n (HalfSpaces E (a ∷ J)) W

-- the dual rows of equations and inequalities: those of the inequalities are an order of the cone
abbrev pub DualWithEquations : Type 0
DualWithEquations = (n : ℕ) (E J D : List Row) → AreDualRays n (E ++ J) D
    → IsOrder n (HalfSpaces E J) (drop (length E) D)
