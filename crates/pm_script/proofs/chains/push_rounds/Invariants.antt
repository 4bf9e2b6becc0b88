-- What is left is written after what was written.
use Rattle.std.proofs.Common.{map, string_bytes, ◌++◌, ◌≡◌, drop}
use Rattle.std.specs.Prelude.{flat_map}
use Rattle.pm_script.specs.Replies.{names_seen, round_text}
use Rattle.pm_object.specs.Views.{round_seen}
use Rattle.pm_script.proofs.chains.push_rounds.Given as goal

abbrev pub invariant-loop-round : goal.invariant-loop-round
invariant-loop-round l = string_bytes l.fn.text ++ flat_map (round_text (names_seen l.names)) (map round_seen l.rounds) ≡ string_bytes l.text ++ flat_map (round_text (names_seen l.names)) (map round_seen (drop l.round-index l.rounds))
