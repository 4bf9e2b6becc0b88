-- What the refusal of a call tells of the round that was refused.
use Rattle.pm_vector.specs.Rows.{Row}
use Rattle.pm_vector.specs.EliminationSteps.{EliminationStep}
use Rattle.pm_elim.specs.declared.evidence.ElimFail.{ElimFail}
use Rattle.pm_elim.specs.declared.evidence.ElimFail.TheVariants.{Memory, Wide}
use Rattle.pm_vector.specs.declared.evidence.ElimList.{ElimList}
use Rattle.pm_vector.specs.declared.evidence.ElimList.TheVariants.{Rows}
use Rattle.pm_elim.specs.declared.refusal.Refusal.{Refusal}
use Rattle.pm_elim.specs.declared.refusal.Refusal.TheVariants.{Memory as StepMemory, Wide as StepWide}
use Rattle.pm_elim.specs.declared.refusal.WideStep.{WideStep}
use Rattle.std.specs.Prelude.{List, length, ℕ, ◌≡◌}

-- Q holds of the evidence of a refusal, where it has some
abbrev pub IfWide : ElimFail → (EliminationStep → Type 0) → Type 0
IfWide (Wide e) Q = Q e
IfWide Memory Q = Unit {0}

-- Q holds of the step of the refusal of a round, where it has one
abbrev pub IfWideStep : Refusal → (WideStep → Type 0) → Type 0
IfWideStep (StepWide s) Q = Q s
IfWideStep StepMemory Q = Unit {0}

-- e names the list, its front and its basis B, and otherwise shows the step s
pub record TellsOf (s : WideStep) (list : ElimList) (front : ℕ) (B : List Row) (e : EliminationStep)
    : Type 0 where
  pub list_is : e.list ≡ list
  pub front_is : e.front ≡ front
  pub basis : e.basis ≡ B
  pub part : e.part ≡ s.part
  pub by_is : e.by ≡ s.by
  pub column_is : e.column ≡ s.column

-- f is the refusal of an elimination of that list whose round was refused by r
abbrev pub IsFailOf : Refusal → ElimList → ℕ → List Row → ElimFail → Type 0
IsFailOf (StepWide s) list front B (Wide e) = TellsOf s list front B e
IsFailOf (StepWide s) list front B Memory = ⊥
IsFailOf StepMemory list front B (Wide e) = ⊥
IsFailOf StepMemory list front B Memory = Unit {0}

-- f is the refusal of a reduction by the rows of B that was refused by r, or want of memory
abbrev pub IsReductionFail : Refusal → List Row → ElimFail → Type 0
IsReductionFail (StepWide s) B (Wide e) = TellsOf s Rows (length B) B e
IsReductionFail StepMemory B (Wide e) = ⊥
IsReductionFail r B Memory = Unit {0}
