use Rattle.std.proofs.Common.{◌≡◌, ◌≢◌, ◌+◌, ◌-◌, ◌≤◌, IfSome, [], false, length}
use Rattle.pm_lines.proofs.SoFar.{ReadsOn}
use Rattle.pm_lines.specs.Whole.{HasNoBreak, whole_lines}
use Rattle.pm_lines.proofs.reader.LineReader.advance.Given as goal
use Rattle.pm_limits.specs.Limits.{most_script_bytes}

abbrev pub invariant-loop-there : goal.invariant-loop-there
invariant-loop-there g l = record {
  told : IfSome (g.S.Source.left l.fn.source) (λ all. ReadsOn all (g.S.Source.left l.source) l.fn.self l.self);
  clear : HasNoBreak l.self.line.bytes;
  unended : l.self.line.ended ≡ false;
  goes_on : l.self.at_end ≡ false;
  began : l.fn.self.at_end ≡ false;
  quiet : whole_lines l.fn.self.given ≢ [] → (l.source ≡ l.fn.source) × (l.self.given ≡ l.fn.self.given);
  bound : l.self.read ≤ most_script_bytes;
  grows : l.fn.self.read ≤ l.self.read;
  counted : length l.self.given + l.fn.self.read ≤ length l.fn.self.given + l.self.read;
  rises : g.S.Source.faults l.fn.source ≤ g.S.Source.faults l.source;
}

abbrev pub decreases-loop-there : goal.decreases-loop-there
decreases-loop-there g l = most_script_bytes - l.self.read
