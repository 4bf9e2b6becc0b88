-- A program more stands behind the others.
use Rattle.std.proofs.Common.{◌∷◌, []}
use Rattle.std.specs.Prelude.{map}
use Rattle.pm_files.specs.Views.{program_of}
use Rattle.pm_filing.proofs.Fitting.{map_append}
use Rattle.pm_filing.proofs.SavedPrograms.{next_program}
use Rattle.pm_filing.specs.Filing.{saved_programs}
use Rattle.pm_saving.proofs.save.file_programs.Goals as goal

pub loop-sub-preserved : goal.loop-sub-preserved
loop-sub-preserved c =
    let o = c.args.object.now.state in
    let p = c.in_ok-file_program.field-0 in
    rw (c.in_ok-push.ensures.items, map_append program_of c.loop-sub.programs.items (p ∷ []))
    (next_program c.args.book.now o (map program_of c.loop-sub.programs.items) (saved_programs c.args.book.now o 0 o.programs) o.programs c.loop-sub.sub (program_of p) (rw c.programs-sub-end.ensures.value at c.loop-sub-test.true) c.in_ok-file_program.ensures c.loop-sub.invariant)
