use Rattle.std.proofs.Common.{refl}
use Rattle.pm_command.proofs.lines.Line.text.Goals as goal

pub returns-else-self : goal.returns-else-self
returns-else-self c = rw (← c.self.view_is, c.if-self.false) refl
