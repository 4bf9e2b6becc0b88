use Rattle.std.proofs.Common.{refl}
use Rattle.pm_command.proofs.lines.begins_comment.Goals as goal

pub returns : goal.returns
returns c = refl
