-- First lines were read and answered, and each reply is told.
use Rattle.std.proofs.Common.{length, if◌then◌else◌, ◌+◌, ◌-◌, ◌≡◌, ◌≤◌}
use Rattle.std.specs.Prelude.{map}
use Rattle.pm_client.specs.Meanings.{Narrows, meanings}
use Rattle.pm_machine.specs.Sessions.{book_of, machine_at}
use Rattle.pm_run.proofs.Came.{Going}
use Rattle.pm_run.proofs.lines.answer_lines.Given as goal
use Rattle.pm_lines.specs.Coming.{most_ahead}
use Rattle.pm_limits.specs.Limits.{most_script_bytes}

abbrev pub invariant-loop-reader : goal.invariant-loop-reader
invariant-loop-reader g l = record {
  book : book_of l.session ≡ book_of l.fn.session;
  narrows : Narrows (meanings (λ b. (goal.Client-dyn g (b.vtable, b.value)).tally b.value) (λ b. (goal.Client-dyn g (b.vtable, b.value)).MayPut b.value) (λ b. (goal.Client-dyn g (b.vtable, b.value)).MayFail b.value) l.fn.clients.items)
      (meanings (λ b. (goal.Client-dyn g (b.vtable, b.value)).tally b.value) (λ b. (goal.Client-dyn g (b.vtable, b.value)).MayPut b.value) (λ b. (goal.Client-dyn g (b.vtable, b.value)).MayFail b.value) l.clients.items);
  going : Going (meanings (λ b. (goal.Client-dyn g (b.vtable, b.value)).tally b.value) (λ b. (goal.Client-dyn g (b.vtable, b.value)).MayPut b.value) (λ b. (goal.Client-dyn g (b.vtable, b.value)).MayFail b.value) l.fn.clients.items) (book_of l.fn.session) l.fn.trace (g.S.Source.left l.fn.source) (g.S.Source.left l.source) (g.K.Sink.taken l.fn.sink) (g.K.Sink.taken l.sink)
      (machine_at l.fn.session (map (λ b. (goal.Client-dyn g (b.vtable, b.value)).tally b.value) l.fn.clients.items) (g.F.Store.files l.fn.store) (g.F.Store.faults l.fn.store))
      l.reader l.some_refused
      (machine_at l.session (map (λ b. (goal.Client-dyn g (b.vtable, b.value)).tally b.value) l.clients.items) (g.F.Store.files l.store) (g.F.Store.faults l.store));
  few : length l.reader.given ≤ most_ahead;
  bound : l.reader.read ≤ most_script_bytes;
  source_rises : g.S.Source.faults l.fn.source ≤ g.S.Source.faults l.source;
  store_rises : g.F.Store.faults l.fn.store ≤ g.F.Store.faults l.store;
  sink_rises : g.K.Sink.faults l.fn.sink ≤ g.K.Sink.faults l.sink;
}

-- each line but one that the end of the script ended takes bytes of what was given
abbrev pub decreases-loop-reader : goal.decreases-loop-reader
decreases-loop-reader g l = if l.reader.at_end then 0 else 1 + (length l.reader.given + (most_script_bytes - l.reader.read))
