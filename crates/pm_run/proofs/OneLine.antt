-- The command at a line.
use Rattle.std.proofs.Common.{refl, ◌≡◌, false, true, Option, None}
use Rattle.pm_command.specs.Commands.{Spoken, command_of}
use Rattle.pm_command.specs.Lines.{Line, is_too_long, text_of}
use Rattle.pm_machine.specs.Run.{command_at}

pub command_at-short : (line : Line) (command : Option Spoken) → is_too_long line ≡ false → command_of (text_of line) ≡ command → command_at line ≡ command
command_at-short line command short is = rw short is

pub command_at-long : (line : Line) → is_too_long line ≡ true → command_at line ≡ None
command_at-long line long = rw long refl
