use Rattle.std.proofs.Common.{◌≡◌, ◌++◌, drop}
use Rattle.std.specs.Prelude.{map}
use Rattle.pm_files.specs.Views.{program_of}
use Rattle.pm_filing.specs.Filing.{saved_programs}
use Rattle.pm_saving.proofs.save.file_programs.Given as goal

-- what is left is put behind what was put
abbrev pub invariant-loop-sub : goal.invariant-loop-sub
invariant-loop-sub l = map program_of l.programs.items ++ saved_programs l.book l.object.state l.sub (drop l.sub l.object.state.programs) ≡ saved_programs l.book l.object.state 0 l.object.state.programs
