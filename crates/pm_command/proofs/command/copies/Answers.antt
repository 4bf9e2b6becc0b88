-- Each turn adds one more.
use Rattle.std.proofs.Common.{arith}
use Rattle.std.specs.Prelude.{string_bytes}
use Rattle.pm_command.proofs.Asked.{one_copied}
use Rattle.pm_command.proofs.command.copies.Goals as goal

pub loop-word-preserved : goal.loop-word-preserved
loop-word-preserved c =
    rw c.in_ok-push.ensures.items (one_copied string_bytes (λ w. w.now) c.args.words.now c.loop-word.copies.items c.in_ok-from_str.field-0 c.loop-word.word-index _ c.loop-word.invariant (omega arith) c.in_ok-from_str.ensures.ok)
