-- A program more is told behind the others.
use Rattle.std.proofs.Common.{arith}
use Rattle.pm_script.specs.declared.shown.ProgramHeld.{ProgramHeld}
use Rattle.pm_telling.proofs.Programs.{all_told, one_more, told_so}
use Rattle.pm_telling.proofs.held.programs_held.Goals as goal

pub loop-place-preserved : goal.loop-place-preserved
loop-place-preserved c =
    let o = c.args.object.now.state in
    let p : ProgramHeld = record { name = c.in_ok-from_str.field-0; held = c.in_ok-held_among.field-0 } in
    let name = c.program_name.result.now in
    one_more o c.loop-place.programs.items c.push.new.self.items c.loop-place.place p name c.loop-place.invariant c.in_ok-push.ensures.items c.program_name.ensures
    (told_so o c.loop-place.place p name c.every.result c.in_ok-from_str.ensures.ok c.in_ok-held_among.ensures c.every.ensures)

pub returns : goal.returns
returns c = all_told c.args.object.now.state c.loop-place.programs.items c.loop-place.place c.loop-place.invariant (omega arith)
