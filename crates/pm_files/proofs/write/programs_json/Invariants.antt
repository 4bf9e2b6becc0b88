-- As many programs as were read stand in the list.
use Rattle.std.proofs.Common.{◌≡◌, map, take}
use Rattle.serde_json.specs.View.{view}
use Rattle.pm_files.specs.Files.{program_json}
use Rattle.pm_files.specs.Views.{program_of}
use Rattle.pm_files.proofs.write.programs_json.Given as goal

abbrev pub invariant-loop-program : goal.invariant-loop-program
invariant-loop-program l = map view l.items.items ≡ take l.program-index (map (λ p. program_json (program_of p)) l.programs)
