-- What is left is written after what was written.
use Rattle.std.proofs.Common.{string_bytes, ◌++◌, ◌≡◌, drop}
use Rattle.std.specs.Prelude.{flat_map}
use Rattle.pm_script.specs.Replies.{held_line}
use Rattle.pm_script.proofs.shown.push_each_held.Given as goal

abbrev pub invariant-loop-one : goal.invariant-loop-one
invariant-loop-one l = string_bytes l.fn.text ++ flat_map (held_line l.of) l.held ≡ string_bytes l.text ++ flat_map (held_line l.of) (drop l.one-index l.held)
