use Rattle.std.proofs.Common.{◌≡◌, true}
use Rattle.std.specs.List.{list_all}
use Rattle.std.specs.Prelude.{map}
use Rattle.pm_files.specs.Views.{program_of}
use Rattle.pm_filing.proofs.ProgramsFit.{ProgramsFit}
use Rattle.pm_filing.specs.Filing.{with_programs}
use Rattle.pm_filing.specs.ReadingViews.{has_formed_objective}
use Rattle.pm_filing.specs.Whole.{is_mark}
use Rattle.pm_filing.proofs.load.add_programs.Given as goal

-- with the programs that are left the object is what it is to be; they fit, and are such as all are
abbrev pub invariant-loop-program : goal.invariant-loop-program
invariant-loop-program l =
    (with_programs l.book l.object.state (map program_of l.program-iterator.rest.items) ≡ with_programs l.book l.fn.object.state (map program_of l.fn.programs.items))
    × ProgramsFit l.object.state (map program_of l.program-iterator.rest.items)
    × (list_all has_formed_objective l.program-iterator.rest.items ≡ true)
    × (list_all (λ p. list_all is_mark p.failed) (map program_of l.program-iterator.rest.items) ≡ true)
