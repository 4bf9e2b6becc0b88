-- What the refusal of a pivot tells.
use Rattle.pm_simplex.specs.declared.pivot.RowFail.{RowFail}
use Rattle.pm_simplex.specs.declared.pivot.RowFail.TheVariants.{Memory, Wide}
use Rattle.pm_simplex.specs.declared.pivot.PlaceFail.{PlaceFail}
use Rattle.pm_simplex.specs.declared.pivot.PlaceFail.TheVariants.{Memory as PlaceMemory, Wide as PlaceWide}
use Rattle.pm_geom.specs.declared.evidence.Evidence.{Evidence}
use Rattle.pm_simplex.specs.declared.fails.LpFail.{LpFail}
use Rattle.pm_simplex.specs.declared.fails.LpFail.TheVariants.{Memory as LpMemory, Wide as LpWide}
use Rattle.std.specs.Prelude.{ℕ}

-- Q of the place at which a row leaves the range
abbrev pub IfWideAt : RowFail → (ℕ → Type 0) → Type 0
IfWideAt (Wide k) Q = Q k
IfWideAt Memory Q = Unit {0}

-- Q of the row and the place at which a dictionary leaves the range
abbrev pub IfWidePlace : PlaceFail → (ℕ → ℕ → Type 0) → Type 0
IfWidePlace (PlaceWide i k) Q = Q i k
IfWidePlace PlaceMemory Q = Unit {0}

-- Q of the evidence of the failure
abbrev pub IfWide : LpFail → (Evidence → Type 0) → Type 0
IfWide (LpWide e) Q = Q e
IfWide LpMemory Q = Unit {0}
