-- What is left is written after what was written.
use Rattle.std.proofs.Common.{map, string_bytes, ◌++◌, ◌≡◌, drop}
use Rattle.std.specs.Prelude.{flat_map}
use Rattle.pm_script.specs.Replies.{program_lines, program_seen}
use Rattle.pm_script.proofs.shown.push_programs.Given as goal

abbrev pub invariant-loop-program : goal.invariant-loop-program
invariant-loop-program l = string_bytes l.fn.text ++ flat_map (program_lines l.of) (map program_seen l.programs) ≡ string_bytes l.text ++ flat_map (program_lines l.of) (map program_seen (drop l.program-index l.programs))
