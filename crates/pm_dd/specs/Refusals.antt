-- What the refusals of double description show of the rows X, with n entries each, that were handed in.
use Rattle.std.specs.Prelude.{ℕ, List}
use Rattle.pm_vector.specs.Rows.{HasCols, Row}
use Rattle.pm_vector.specs.Evidence.{IsEvidence}
use Rattle.pm_elim.specs.declared.evidence.ElimFail.{ElimFail}
use Rattle.pm_elim.specs.declared.evidence.ElimFail.TheVariants.{Memory as ElimMemory, Wide as ElimWide}
use Rattle.pm_geom.specs.RayEvidence.{IsCrowded, IsEliminationEvidence, IsWidePair}
use Rattle.pm_geom.specs.declared.evidence.Evidence.{Evidence}
use Rattle.pm_geom.specs.declared.evidence.Evidence.TheVariants.{E1, E2, E5Rays}
use Rattle.pm_dd.specs.Arrangement.{IsArrangement}
use Rattle.pm_dd.specs.declared.fails.DdFail.{DdFail}
use Rattle.pm_dd.specs.declared.fails.DdFail.TheVariants.{Many, Memory, Wide}

-- a number leaves the range: in a step of an elimination (E1), or of double description (E2)
abbrev pub ShowsWide : ℕ → List Row → Evidence → Type 0
ShowsWide n X (E1 step) = IsEliminationEvidence n X step
ShowsWide n X (E2 front first second column) = IsWidePair n X front first second column
ShowsWide n X e = ⊥

-- some cone on the way has too many extreme rays (E5)
abbrev pub ShowsMany : ℕ → List Row → Evidence → Type 0
ShowsMany n X (E5Rays front rays) = IsCrowded n X front rays
ShowsMany n X e = ⊥

-- the refusal is want of memory, or has evidence that holds
abbrev pub IsShown : ℕ → List Row → DdFail → Type 0
IsShown n X (Wide e) = ShowsWide n X e
IsShown n X (Many e) = ShowsMany n X e
IsShown n X Memory = Unit {0}

-- the refusal is want of memory
abbrev pub IsMemory : DdFail → Type 0
IsMemory (Wide e) = ⊥
IsMemory (Many e) = ⊥
IsMemory Memory = Unit {0}

-- so it is on each list whose rows are taken in this order
abbrev pub IsShownOnRows : ℕ → List Row → List Row → ℕ → DdFail → Type 0
IsShownOnRows n E J start f = (X : List Row) → HasCols n X → IsArrangement X E J start → IsShown n X f

-- the refusal is want of memory, or has evidence on the elimination of the rows A
abbrev pub IsEliminationFail : ℕ → List Row → DdFail → Type 0
IsEliminationFail n A (Wide (E1 step)) = IsEvidence n A step
IsEliminationFail n A (Wide e) = ⊥
IsEliminationFail n A (Many e) = ⊥
IsEliminationFail n A Memory = Unit {0}

-- the refusal of an elimination, as one of double description
abbrev pub fail_of_elimination : ElimFail → DdFail
fail_of_elimination (ElimWide e) = Wide (E1 e)
fail_of_elimination ElimMemory = Memory
