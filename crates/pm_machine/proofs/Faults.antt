-- A fault that has a reason is no want of memory.
use Rattle.pm_filing.specs.FileParts.{FileFault, out_of_memory}
use Rattle.pm_machine.specs.Steps.{IsFault}
use Rattle.pm_script.specs.declared.refusal.FileWhy.{FileWhy}
use Rattle.pm_script.specs.declared.refusal.FileWhy.TheVariants as file_why
use Rattle.std.proofs.Common.{ap, false, refl, sym, true, true≢false, ◌∙◌, ◌≢◌}
use Rattle.std.specs.Prelude.{Bool, ◌≡◌}

abbrev is_memory : FileFault → Bool
is_memory out_of_memory = true
is_memory e = false

other : (e f : FileFault) → e ≡ f → is_memory f ≡ false → e ≢ out_of_memory
other e f is none memory = true≢false (sym (ap is_memory (sym is ∙ memory)) ∙ none)

pub fault_is_known : (why : FileWhy) (e : FileFault) → IsFault why e → e ≢ out_of_memory
fault_is_known file_why.Limit e is = other e _ is refl
fault_is_known file_why.NotJson e is = other e _ is refl
fault_is_known file_why.NoType e is = other e _ is refl
fault_is_known file_why.UnknownType e is = other e _ is refl
fault_is_known (file_why.BadProperty name why) e (f, known, is) = other e _ is refl
fault_is_known (file_why.BadRow name) e is = other e _ is refl
fault_is_known (file_why.BadProfile key) e is = other e _ is refl
