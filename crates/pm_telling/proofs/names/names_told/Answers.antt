use Rattle.std.specs.Prelude.{string_bytes}
use Rattle.pm_telling.proofs.Told.{told_more}
use Rattle.pm_telling.proofs.names.names_told.Goals as goal

pub loop-place-preserved : goal.loop-place-preserved
loop-place-preserved c =
    told_more string_bytes c.loop-place.names.subs.items c.push.new.self.items _ _ c.args.object.now.state.programs c.loop-place.place c.in_ok-from_str.field-0 c.program_name-name.result.now
    c.loop-place.invariant c.in_ok-push.ensures.items c.in_ok-from_str.ensures.ok c.program_name-name.ensures
